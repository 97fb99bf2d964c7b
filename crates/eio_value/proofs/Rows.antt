-- Worked texts, joins and tables, computed by the prover.
use Rattle.std.proofs.Common.{◌≡◌, ℕ, List, [], ◌∷◌, true, false, refl}
use Rattle.std.specs.Prelude.{◌+◌, Bool, codes, fold, map, pos, negsuc}
use Rattle.std.specs.Fmt.{digits}
use Rattle.eio_value.specs.declared.plain.Misuse.TheVariants as misuse
use Rattle.eio_value.specs.declared.plain.PathFault.TheVariants as fault
use Rattle.eio_value.specs.declared.plain.Plain.{Plain}
use Rattle.eio_value.specs.declared.plain.Plain.TheVariants as plain
use Rattle.eio_value.specs.declared.plain.Member.{Member}
use Rattle.eio_value.specs.declared.raised.Raised.{Raised}
use Rattle.eio_value.specs.declared.raised.Raised.TheVariants.{One, Cancelled, Many}
use Rattle.eio_value.specs.declared.value.Value.TheVariants as value
use Rattle.eio_value.specs.Exceptions.{misuse_text, fault_text, plain_text, raised_text, bound_text, reason}
use Rattle.eio_value.specs.Joining.{combine}
use Rattle.eio_value.specs.Table.{intern, text_id}
use Rattle.eio_value.specs.Values.{show, quote}

texts : List (List ℕ)
texts = codes "one" ∷ codes "two" ∷ codes "a\r\n\t\"\\" ∷ codes "l/x" ∷ codes "bad" ∷ codes "stop" ∷ codes "1" ∷ codes "2" ∷ codes "3" ∷ codes "4" ∷ codes "5" ∷ codes "6" ∷ codes "7" ∷ codes "8" ∷ codes "9" ∷ []

failure : ℕ → Plain
failure n = plain.Failure (text_id n)

member : ℕ → Plain → Member
member serial what = record { serial = serial; what = what }

one : ℕ → Plain → Raised
one serial what = One (member serial what)

cancelled : ℕ → Plain → Raised
cancelled serial what = Cancelled (member serial what)

many : List Member → Bool → Raised
many members cut = Many (record { members = members; cut = cut })

-- the failures "1" to "9", with the serials 1 to 9
numbered : ℕ → Member
unfolding failure member
numbered n = member n (failure (n + 5))

-- Values

show-negative : show texts (value.Int (negsuc 4)) ≡ codes "-5"
unfolding digits
show-negative = refl

show-greatest : show texts (value.Int (pos 9223372036854775807)) ≡ codes "9223372036854775807"
unfolding digits
show-greatest = refl

show-least : show texts (value.Int (negsuc 9223372036854775807)) ≡ codes "-9223372036854775808"
unfolding digits
show-least = refl

show-unit : show texts value.Unit ≡ codes "()"
show-unit = refl

show-text : show texts (value.Text (text_id 2)) ≡ codes "a\\r\\n\\t\"\\"
unfolding texts
show-text = refl

show-no_text : show texts (value.Text (text_id 15)) ≡ []
unfolding texts
show-no_text = refl

show-context : show texts (value.Ctx 12) ≡ codes "#12"
unfolding digits
show-context = refl

show-switch : show texts (value.Switch 0) ≡ codes "%0"
unfolding digits
show-switch = refl

quote-text : quote texts (value.Text (text_id 2)) ≡ codes "\"a\\r\\n\\t\\\"\\\\\""
unfolding texts
quote-text = refl

quote-number : quote texts (value.Int (pos 7)) ≡ codes "7"
unfolding digits
quote-number = refl

-- Single exceptions

end_of_file : raised_text texts (one 0 plain.EndOfFile) ≡ codes "End_of_file"
unfolding one member
end_of_file = refl

buffer_limit : raised_text texts (one 0 plain.BufferLimit) ≡ codes "Buffer_limit_exceeded"
unfolding one member
buffer_limit = refl

path_fault : raised_text texts (one 0 (plain.Path fault.PermissionDenied (text_id 3))) ≡ codes "Permission_denied \"l/x\""
unfolding one member texts
path_fault = refl

bound_failure : bound_text texts (one 0 (failure 4)) ≡ codes "Failure \"bad\""
unfolding one member texts failure
bound_failure = refl

bound_poisoned : bound_text texts (one 1 plain.Poisoned) ≡ codes "Poisoned"
unfolding one member
bound_poisoned = refl

not_locked : raised_text texts (one 0 (plain.Invalid misuse.NotLocked)) ≡ codes "Invalid_argument \"Mutex not locked\""
unfolding one member
not_locked = refl

switch_finished : raised_text texts (one 0 (plain.Invalid misuse.SwitchFinished)) ≡ codes "Invalid_argument \"Switch finished!\""
unfolding one member
switch_finished = refl

stopped : raised_text texts (cancelled 0 (failure 5)) ≡ codes "Cancelled: Failure \"stop\""
unfolding cancelled member texts failure
stopped = refl

not_first : raised_text texts (cancelled 0 plain.NotFirst) ≡ codes "Cancelled: Not_first"
unfolding cancelled member
not_first = refl

misuses : map misuse_text (misuse.SwitchFinished ∷ misuse.Overflow ∷ misuse.NotNumber ∷ misuse.NotText ∷ misuse.Resolved ∷ misuse.NotLocked ∷ misuse.Closed ∷ misuse.ContextFinished ∷ []) ≡ codes "Switch finished!" ∷ codes "Overflow" ∷ codes "Not a number" ∷ codes "Not a text" ∷ codes "Promise already resolved" ∷ codes "Mutex not locked" ∷ codes "Closed" ∷ codes "Cancellation context finished!" ∷ []
misuses = refl

faults : map fault_text (fault.PermissionDenied ∷ fault.NotFound ∷ fault.AlreadyExists ∷ fault.NotDirectory ∷ fault.IsDirectory ∷ fault.NotEmpty ∷ fault.TooManyLinks ∷ []) ≡ codes "Permission_denied" ∷ codes "Not_found" ∷ codes "Already_exists" ∷ codes "Not_directory" ∷ codes "Is_directory" ∷ codes "Not_empty" ∷ codes "Too_many_links" ∷ []
faults = refl

others : map (plain_text texts) (plain.EndOfFile ∷ plain.BufferLimit ∷ plain.Poisoned ∷ plain.Exit ∷ plain.NotFirst ∷ []) ≡ codes "End_of_file" ∷ codes "Buffer_limit_exceeded" ∷ codes "Poisoned" ∷ codes "Exit" ∷ codes "Not_first" ∷ []
others = refl

-- Several

two_failures : raised_text texts (combine (one 0 (failure 0)) (one 1 (failure 1))) ≡ codes "Multiple [Failure \"one\"; Failure \"two\"]"
unfolding one member texts failure
two_failures = refl

bound_two_failures : bound_text texts (combine (one 0 (failure 0)) (one 1 (failure 1))) ≡ codes "Multiple [Failure \"one\"; ...]"
unfolding one member texts failure
bound_two_failures = refl

reason_of_two_failures : reason (combine (one 0 (failure 0)) (one 1 (failure 1))) ≡ failure 0
unfolding one member texts
reason_of_two_failures = refl

nine_failures : raised_text texts (fold (λ raised n. combine raised (One (numbered n))) (One (numbered 1)) (2 ∷ 3 ∷ 4 ∷ 5 ∷ 6 ∷ 7 ∷ 8 ∷ 9 ∷ [])) ≡ codes "Multiple [Failure \"1\"; Failure \"2\"; Failure \"3\"; Failure \"4\"; Failure \"5\"; Failure \"6\"; Failure \"7\"; Failure \"8\"; ...]"
unfolding texts numbered failure member
nine_failures = refl

-- Joining

same_raise : combine (one 3 (failure 0)) (cancelled 3 (failure 0)) ≡ one 3 (failure 0)
unfolding one cancelled member
same_raise = refl

same_cancelled : combine (cancelled 3 (failure 0)) (one 3 (failure 0)) ≡ cancelled 3 (failure 0)
unfolding one cancelled member
same_cancelled = refl

first_cancelled : combine (cancelled 3 (failure 0)) (cancelled 4 (failure 1)) ≡ cancelled 3 (failure 0)
unfolding cancelled member
first_cancelled = refl

cancelled_gives_way : combine (cancelled 3 (failure 0)) (one 4 (failure 1)) ≡ one 4 (failure 1)
unfolding one cancelled member
cancelled_gives_way = refl

cancelled_gives_way_behind : combine (many (numbered 1 ∷ numbered 2 ∷ []) true) (cancelled 3 (failure 0)) ≡ many (numbered 1 ∷ numbered 2 ∷ []) true
unfolding cancelled member many
cancelled_gives_way_behind = refl

one_of_several : combine (one 2 (failure 7)) (many (numbered 1 ∷ numbered 2 ∷ numbered 3 ∷ []) true) ≡ many (numbered 2 ∷ numbered 1 ∷ numbered 3 ∷ []) true
unfolding one many numbered failure member
one_of_several = refl

several_once : combine (many (numbered 1 ∷ numbered 2 ∷ []) false) (many (numbered 2 ∷ numbered 3 ∷ []) false) ≡ many (numbered 1 ∷ numbered 2 ∷ numbered 3 ∷ []) false
unfolding many numbered failure member
several_once = refl

eight_stay_whole : combine (many (map numbered (1 ∷ 2 ∷ 3 ∷ 4 ∷ 5 ∷ 6 ∷ 7 ∷ [])) false) (One (numbered 8)) ≡ many (map numbered (1 ∷ 2 ∷ 3 ∷ 4 ∷ 5 ∷ 6 ∷ 7 ∷ 8 ∷ [])) false
unfolding many numbered failure member
eight_stay_whole = refl

ninth_left_out : combine (many (map numbered (1 ∷ 2 ∷ 3 ∷ 4 ∷ 5 ∷ 6 ∷ 7 ∷ [])) false) (many (map numbered (8 ∷ 9 ∷ [])) false) ≡ many (map numbered (1 ∷ 2 ∷ 3 ∷ 4 ∷ 5 ∷ 6 ∷ 7 ∷ 8 ∷ [])) true
unfolding many numbered failure member
ninth_left_out = refl

-- a cancellation before its own reason: the two groupings differ, and neither keeps all
one_raise_grouped_left : combine (combine (cancelled 1 (failure 6)) (one 1 (failure 6))) (one 2 (failure 7)) ≡ one 2 (failure 7)
unfolding one cancelled member
one_raise_grouped_left = refl

one_raise_grouped_right : combine (cancelled 1 (failure 6)) (combine (one 1 (failure 6)) (one 2 (failure 7))) ≡ many (numbered 1 ∷ numbered 2 ∷ []) false
unfolding one cancelled many numbered failure member
one_raise_grouped_right = refl

one_raise_behind_grouped_left : combine (combine (one 2 (failure 7)) (cancelled 1 (failure 6))) (one 1 (failure 6)) ≡ many (numbered 2 ∷ numbered 1 ∷ []) false
unfolding one cancelled many numbered failure member
one_raise_behind_grouped_left = refl

one_raise_behind_grouped_right : combine (one 2 (failure 7)) (combine (cancelled 1 (failure 6)) (one 1 (failure 6))) ≡ one 2 (failure 7)
unfolding one cancelled member
one_raise_behind_grouped_right = refl

-- The table

intern-old : intern texts (codes "two") ≡ record { id = text_id 1; texts = texts }
unfolding texts
intern-old = refl

intern-new : intern (codes "a" ∷ codes "b" ∷ []) (codes "c") ≡ record { id = text_id 2; texts = codes "a" ∷ codes "b" ∷ codes "c" ∷ [] }
intern-new = refl

intern-first : intern [] [] ≡ record { id = text_id 0; texts = [] ∷ [] }
intern-first = refl
