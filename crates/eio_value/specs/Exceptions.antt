-- The text of an exception, and of what is raised.
use Rattle.std.specs.Prelude.{⊤, ℕ, if◌then◌else◌, List, ◌∷◌, ◌++◌, All, codes}
use Rattle.std.specs.List.{join_by}
use Rattle.eio_value.specs.declared.plain.Misuse.{Misuse}
use Rattle.eio_value.specs.declared.plain.Misuse.TheVariants.{SwitchFinished, Overflow, NotNumber, NotText, Resolved, NotLocked, Closed, ContextFinished}
use Rattle.eio_value.specs.declared.plain.PathFault.{PathFault}
use Rattle.eio_value.specs.declared.plain.PathFault.TheVariants.{PermissionDenied, NotFound, AlreadyExists, NotDirectory, IsDirectory, NotEmpty, TooManyLinks}
use Rattle.eio_value.specs.declared.plain.Plain.{Plain}
use Rattle.eio_value.specs.declared.plain.Plain.TheVariants.{Failure, Invalid, EndOfFile, BufferLimit, Poisoned, Exit, NotFirst, Path}
use Rattle.eio_value.specs.declared.plain.Member.{Member}
use Rattle.eio_value.specs.declared.raised.Raised.{Raised}
use Rattle.eio_value.specs.declared.raised.Raised.TheVariants.{One, Cancelled, Many}
use Rattle.eio_value.specs.Escapes.{quoted}
use Rattle.eio_value.specs.Table.{HasText, text_at}
use Rattle.eio_value.specs.Several.{first_what}

-- what a misuse is called
abbrev pub misuse_text : Misuse → List ℕ
misuse_text SwitchFinished = codes "Switch finished!"
misuse_text Overflow = codes "Overflow"
misuse_text NotNumber = codes "Not a number"
misuse_text NotText = codes "Not a text"
misuse_text Resolved = codes "Promise already resolved"
misuse_text NotLocked = codes "Mutex not locked"
misuse_text Closed = codes "Closed"
misuse_text ContextFinished = codes "Cancellation context finished!"

-- what a fault of a path is called
abbrev pub fault_text : PathFault → List ℕ
fault_text PermissionDenied = codes "Permission_denied"
fault_text NotFound = codes "Not_found"
fault_text AlreadyExists = codes "Already_exists"
fault_text NotDirectory = codes "Not_directory"
fault_text IsDirectory = codes "Is_directory"
fault_text NotEmpty = codes "Not_empty"
fault_text TooManyLinks = codes "Too_many_links"

-- the text of a single exception: its name, and behind it, in quotes, the text that it holds
abbrev pub plain_text : List (List ℕ) → Plain → List ℕ
plain_text texts (Failure id) = codes "Failure " ++ quoted (text_at texts id)
plain_text texts (Invalid why) = codes "Invalid_argument " ++ quoted (misuse_text why)
plain_text texts EndOfFile = codes "End_of_file"
plain_text texts BufferLimit = codes "Buffer_limit_exceeded"
plain_text texts Poisoned = codes "Poisoned"
plain_text texts Exit = codes "Exit"
plain_text texts NotFirst = codes "Not_first"
plain_text texts (Path fault id) = fault_text fault ++ 32 ∷ quoted (text_at texts id)

-- the texts of members, with `; ` between
abbrev pub members_text : List (List ℕ) → List Member → List ℕ
members_text texts members = join_by (λ member. plain_text texts member.what) (codes "; ") members

-- the text of what is raised: a single exception's own; `Cancelled: ` before that of the reason;
-- of several all in brackets, with `; ...` before the last bracket where others were left out
abbrev pub raised_text : List (List ℕ) → Raised → List ℕ
raised_text texts (One member) = plain_text texts member.what
raised_text texts (Cancelled member) = codes "Cancelled: " ++ plain_text texts member.what
raised_text texts (Many several) = codes "Multiple [" ++ (members_text texts several.members ++ (if several.cut then codes "; ...]" else codes "]"))

-- the single exception, the reason of a cancellation, or the first of several
abbrev pub reason : Raised → Plain
reason (One member) = member.what
reason (Cancelled member) = member.what
reason (Many several) = first_what several

-- the text that `try` binds: as above, but of several only the first is named
abbrev pub bound_text : List (List ℕ) → Raised → List ℕ
bound_text texts (Many several) = codes "Multiple [" ++ (plain_text texts (first_what several) ++ codes "; ...]")
bound_text texts raised = raised_text texts raised

-- the table has the text that this exception holds, where it holds one
abbrev pub HasTextsOfPlain : List (List ℕ) → Plain → Type 0
HasTextsOfPlain texts (Failure id) = HasText texts id
HasTextsOfPlain texts (Path fault id) = HasText texts id
HasTextsOfPlain texts what = ⊤

-- the table has the texts of all exceptions that are raised
abbrev pub HasTextsOfRaised : List (List ℕ) → Raised → Type 0
HasTextsOfRaised texts (One member) = HasTextsOfPlain texts member.what
HasTextsOfRaised texts (Cancelled member) = HasTextsOfPlain texts member.what
HasTextsOfRaised texts (Many several) = All (λ member. HasTextsOfPlain texts member.what) several.members
