-- Whether a written history is a legal one: its lines are played on the machine, one after the other, up to the first that isn't good.
-- A line tells its stamp, its domain and its fiber; what else is free in a move, the message that it takes, is found from the line's text. Then the machine's own line has to
-- have this very text.
use Rattle.std.specs.Prelude.{ℕ, ◌+◌, Bool, true, false, ◌&&◌, ◌||◌, ◌==◌, nat_eq, nat_lt, nat_le, not, List, [], ◌∷◌, ◌++◌, length, drop, take_while, map, codes, slice_get, slice_set, bytes_eq, Option, Some, None, option_map}
use Rattle.std.specs.Option.{unwrap_or}
use Rattle.std.specs.List.{starts_with, flat_map, find, list_all, slice_split}
use Rattle.std.specs.Fmt.{decimal}
use Rattle.std.specs.Str.Parse.{digits_value}
use Rattle.eio_value.specs.declared.message.Message.{Message}
use Rattle.eio_value.specs.declared.message.Message.TheVariants as message
use Rattle.spec_script.specs.Bytes.{is_digit}
use Rattle.spec_script.specs.Opening.{opening_texts}
use Rattle.spec_script.specs.Scripts.{Script}
use Rattle.trace_lines.specs.HistoryTexts.{line_text}
use Rattle.trace_lines.specs.Names.{name_at}
use Rattle.spec_machine.specs.Domain.{DomainState, nothing_made}
use Rattle.spec_machine.specs.Histories.{Domains, domains_of, is_empty, shared_at_first, domain_with, can_move, end_text}
use Rattle.spec_machine.specs.Labels.{Asks, Calls, Took}
use Rattle.spec_machine.specs.Mock.{Came, comes}
use Rattle.spec_machine.specs.Moves.{stepped_by, counted_as, line_by}
use Rattle.spec_machine.specs.Preparing.{Prepared, prepared}
use Rattle.spec_machine.specs.Asking.{asks_by}
use Rattle.spec_machine.specs.Runs.{message_stamp, stamps_below}
use Rattle.spec_machine.specs.Shared.{SharedState, stamp_at, after_take}
use Rattle.spec_machine.specs.Steps.{Step}

-- ## What a line tells

-- the number of these digits, up to this byte, and what is behind it
pub record Counted : Type 0 where
  pub number : ℕ
  pub behind : List ℕ

abbrev pub counted_by : (stop : ℕ) → (digits rest : List ℕ) → Option Counted
counted_by stop [] rest = None
counted_by stop (digit ∷ digits) [] = None
counted_by stop (digit ∷ digits) (b ∷ rest) = elim (b == stop) [ true ↦ Some (record { number = digits_value 10 (digit ∷ digits); behind = rest }) | false ↦ None ]

abbrev pub number_before : (stop : ℕ) → List ℕ → Option Counted
number_before stop bytes = (let digits = take_while is_digit bytes in counted_by stop digits (drop (length digits) bytes))

-- stamp, domain and fiber, and the rest: the call, and with a space before and behind `=` the reply
pub record Head : Type 0 where
  pub stamp : ℕ
  pub domain : ℕ
  pub fiber : ℕ
  pub rest : List ℕ

abbrev pub head_of : List ℕ → Option Head
head_of line = elim (number_before 32 line) [
  | None ↦ None
  | Some stamp ↦ elim (number_before 46 stamp.behind) [
    | None ↦ None
    | Some domain ↦ option_map (λ fiber. record { stamp = stamp.number; domain = domain.number; fiber = fiber.number; rest = fiber.behind }) (number_before 32 domain.behind)
  ]
]

-- ## Which message a line takes

-- a message in a post, with its sender and its place among those of that sender
pub record Posted : Type 0 where
  pub sender : ℕ
  pub place : ℕ
  pub message : Message

abbrev pub posted_from : (sender place : ℕ) → List Message → List Posted
posted_from sender place [] = []
posted_from sender place (it ∷ others) = record { sender = sender; place = place; message = it } ∷ posted_from sender (place + 1) others

abbrev pub post_of : Script → SharedState → (domain : ℕ) → List Posted
post_of script s d = flat_map (λ sender. posted_from sender 0 (s.posts d sender)) (domains_of script)

abbrev pub resumes : (fiber : ℕ) → Message → Bool
resumes g (message.Resume who result stamp) = who.fiber == g
resumes g (message.Start job number stamp) = false

-- the text of the line by which a job is received, behind its fiber
abbrev pub job_rest : Script → (texts : List (List ℕ)) → (executor number : ℕ) → List ℕ
job_rest script texts executor number = codes "got " ++ name_at texts script.names executor ++ codes " " ++ decimal number ++ codes " = ()\n"

abbrev pub starts_as : Script → (texts : List (List ℕ)) → (rest : List ℕ) → Message → Bool
starts_as script texts rest (message.Resume who result stamp) = false
starts_as script texts rest (message.Start job number stamp) = bytes_eq rest (job_rest script texts job.executor number)

abbrev pub is_start : Message → Bool
is_start (message.Resume who result stamp) = false
is_start (message.Start job number stamp) = true

-- of two messages that with the smaller stamp, the first where they are the same
abbrev pub earlier : Posted → Option Posted → Posted
earlier one None = one
earlier one (Some other) = elim (nat_lt (message_stamp other.message) (message_stamp one.message)) [ true ↦ other | false ↦ one ]

-- the job's message with the least stamp
abbrev pub first_start : List Posted → Option Posted
first_start [] = None
first_start (one ∷ others) = elim (is_start one.message) [ true ↦ Some (earlier one (first_start others)) | false ↦ first_start others ]

-- a line takes no message, or this one
pub data Choice : Type 0 where
  AsItIs : Choice
  Takes : Posted → Choice

abbrev pub taken_if : Option Posted → Option Choice
taken_if None = None
taken_if (Some it) = Some (Takes it)

-- the line of a limit that names a fiber which isn't made yet stands in the place of a job's message
abbrev pub is_limit_of_job : DomainState → Head → Bool
is_limit_of_job l head = bytes_eq head.rest (codes "limit = ()\n") && head.fiber == length l.fibers

abbrev pub choice_of : Script → List Posted → DomainState → Head → Option Choice
choice_of script post l head = elim (starts_with nat_eq head.rest (codes "got = ")) [
  | true ↦ taken_if (find (λ it. resumes head.fiber it.message) post)
  | false ↦ elim (starts_with nat_eq head.rest (codes "got ")) [
    | true ↦ taken_if (find (λ it. starts_as script l.texts head.rest it.message) post)
    | false ↦ elim (is_limit_of_job l head) [ true ↦ taken_if (first_start post) | false ↦ Some AsItIs ]
  ]
]

-- a domain that owes something takes no message
abbrev pub choice_for : Script → SharedState → DomainState → Head → Option Choice
choice_for script s l head = elim l.duties [ [] ↦ choice_of script (post_of script s l.number) l head | duty ∷ duties ↦ Some AsItIs ]

-- ## One line

-- the domains, what they share, and the stamp and domain of the last line
pub record Played : Type 0 where
  pub domains : Domains
  pub last : ℕ × ℕ

abbrev pub local_at : List DomainState → (domain : ℕ) → DomainState
local_at locals d = unwrap_or (slice_get locals d) (nothing_made d [])

-- the stamp is above that of the object that is called
abbrev pub is_above : SharedState → (stamp : ℕ) → Asks → Bool
is_above s stamp (Calls asked) = nat_lt (stamp_at s.stamps asked.object) stamp
is_above s stamp other = true

-- what comes to a domain with this line, if the line may be made at all
abbrev pub comes_with : Head → SharedState → DomainState → Asks → Choice → Option Came
comes_with head s l asked AsItIs = elim (is_above s head.stamp asked) [
  | true ↦ comes (record { local = l; shared = s; world = [] }) head.stamp asked
  | false ↦ None
]
comes_with head s l asked (Takes it) = elim (nat_lt (message_stamp it.message) head.stamp) [
  | true ↦ Some (record { label = Took it.message; shared = after_take s l.number it.sender it.place; world = [] })
  | false ↦ None
]

-- the machine's line has to have this text; a domain's table of texts is that of the script
abbrev pub agreed : Script → (line : List ℕ) → Head → Played → Step → SharedState → Option Played
agreed script line head it step s = elim (bytes_eq (line_text step.state.texts script.names (line_by head.domain head.stamp step)) line) [
  | true ↦ Some (record {
    domains = record { locals = slice_set it.domains.locals head.domain (counted_as head.stamp step); shared = s };
    last = (head.stamp, head.domain);
  })
  | false ↦ None
]

abbrev pub played_by : Script → (line : List ℕ) → Head → Played → DomainState → Prepared → Choice → Option Played
played_by script line head it l ready choice = elim (comes_with head it.domains.shared l (asks_by ready) choice) [
  | None ↦ None
  | Some came ↦ agreed script line head it (stepped_by script ready came.label l) came.shared
]

abbrev pub is_behind : (last : ℕ × ℕ) → Head → Bool
is_behind last head = nat_lt last.0 head.stamp || (last.0 == head.stamp && nat_lt last.1 head.domain)

-- the domain exists, isn't halted, has made fewer than n lines, and the stamp rises
abbrev pub may_move : (n : ℕ) → Played → Head → DomainState → Bool
may_move n it head l =
    nat_lt head.domain (length it.domains.locals) && not l.halted && nat_lt l.lines n && nat_lt l.stamp head.stamp && nat_lt head.stamp stamps_below && is_behind it.last head

abbrev pub played_if : Script → (n : ℕ) → (line : List ℕ) → Played → Head → DomainState → Option Played
played_if script n line it head l = elim (may_move n it head l) [
  | false ↦ None
  | true ↦ elim (choice_for script it.domains.shared l head) [ None ↦ None | Some choice ↦ played_by script line head it l (prepared l) choice ]
]

-- what is there after this line, if it is good
unfoldable pub played : Script → (n : ℕ) → (line : List ℕ) → Played → Option Played
played script n line it = elim (head_of line) [ None ↦ None | Some head ↦ played_if script n line it head (local_at it.domains.locals head.domain) ]

-- ## The history

pub data Verdict : Type 0 where
  Legal : Verdict
  NotGoodAt : (line : ℕ) → Verdict

-- no domain has made more than n lines, and each that can move has made n
abbrev pub is_over : Script → (n : ℕ) → Domains → Bool
is_over script n it = list_all (λ l. nat_le l.lines n && (not (can_move script l it.shared l.number) || l.lines == n)) it.locals

-- the last line is that of the run's end, and nothing stands behind it
abbrev pub judged_end : Script → (n number : ℕ) → (line : List ℕ) → (behind : List (List ℕ)) → Domains → Verdict
judged_end script n number line behind it = elim (is_over script n it && bytes_eq line (end_text script it) && is_empty behind) [ true ↦ Legal | false ↦ NotGoodAt number ]

-- lines are numbered from 1
unfoldable pub judged : Script → (n number : ℕ) → Played → List (List ℕ) → Verdict
judged script n number it [] = NotGoodAt number
judged script n number it (line ∷ lines) = elim (starts_with nat_eq line (codes "end")) [
  | true ↦ judged_end script n number line lines it.domains
  | false ↦ elim (played script n line it) [ None ↦ NotGoodAt number | Some next ↦ judged script n (number + 1) next lines ]
]

-- the lines of a text, each with its LF; what is behind the last LF is a line too, where it is anything
abbrev pub with_ends : List (List ℕ) → List (List ℕ)
with_ends [] = []
with_ends ([] ∷ []) = []
with_ends ((b ∷ rest) ∷ []) = (b ∷ rest) ∷ []
with_ends (line ∷ next ∷ lines) = (line ++ 10 ∷ []) ∷ with_ends (next ∷ lines)

abbrev pub lines_in : List ℕ → List (List ℕ)
lines_in text = with_ends (slice_split (λ b. b == 10) text)

abbrev pub played_at_first : Script → Played
played_at_first script = (let texts = opening_texts script in record {
  domains = record { locals = map (domain_with texts script) (domains_of script); shared = shared_at_first script };
  last = (0, 0);
})

-- whether a text is a legal history of a script, of at most n lines a domain, with its end; else its first line that isn't good
unfoldable pub verdict : Script → (n : ℕ) → (text : List ℕ) → Verdict
verdict script n text = judged script n 1 (played_at_first script) (lines_in text)
