-- A script's bodies on domains of their own: where they open, when a run is over, how it ended, and the text of its history.
use Rattle.std.specs.Prelude.{◌≡◌, ℕ, ◌≤◌, Bool, true, false, ◌&&◌, ◌||◌, not, List, [], ◌∷◌, ◌++◌, length, map, codes, slice_get, is_none, Option, Some, None}
use Rattle.std.specs.List.{flat_map, list_any}
use Rattle.eio_value.specs.declared.raised.Outcome.{Outcome}
use Rattle.eio_value.specs.declared.raised.Outcome.TheVariants as outcome
use Rattle.eio_value.specs.Exceptions.{raised_text}
use Rattle.spec_script.specs.Opening.{opening_texts}
use Rattle.spec_script.specs.Scripts.{Script}
use Rattle.trace_lines.specs.HistoryTexts.{line_text}
use Rattle.spec_machine.specs.declared.Ending.{Ending}
use Rattle.spec_machine.specs.declared.Ending.TheVariants as ending
use Rattle.spec_machine.specs.Domain.{DomainState, nothing_made}
use Rattle.spec_machine.specs.GroupMoves.{numbers_from}
use Rattle.spec_machine.specs.Mock.{opening_domain, most_jobs}
use Rattle.spec_machine.specs.Runs.{Noted, DomainMoves, State, Legal}
use Rattle.spec_machine.specs.Shared.{SharedState, opening_shared}
use Rattle.spec_machine.specs.Trace.{body_end, ending_by}

-- ## The opening

-- a number that no body has is a domain of which nothing is made
abbrev pub domain_with : (texts : List (List ℕ)) → Script → (domain : ℕ) → DomainState
domain_with texts script d = elim (slice_get script.bodies d) [ Some body ↦ opening_domain d texts body | None ↦ nothing_made d texts ]

abbrev pub domain_at_first : Script → (domain : ℕ) → DomainState
domain_at_first script d = domain_with (opening_texts script) script d

abbrev pub shared_at_first : Script → SharedState
shared_at_first script = opening_shared (most_jobs script) script.declarations

abbrev pub state_at_first : (script : Script) → State (DomainMoves script)
state_at_first script = record { locals = domain_at_first script; shared = shared_at_first script }

-- the lines are a legal history, which leads here
abbrev pub IsLegalHistory : (script : Script) → List Noted → State (DomainMoves script) → Type 0
IsLegalHistory script lines s = Legal (DomainMoves script) (0, 0) (state_at_first script) lines s

-- ## The end

-- the numbers of a script's domains
abbrev pub domains_of : Script → List ℕ
domains_of script = numbers_from 0 (length script.bodies)

abbrev pub is_empty : {A : Type 0} → List A → Bool
is_empty [] = true
is_empty (x ∷ xs) = false

-- whether a message of one of these senders is in the post of a domain
abbrev pub has_post : SharedState → (domain : ℕ) → (senders : List ℕ) → Bool
has_post s d senders = list_any (λ sender. not (is_empty (s.posts d sender))) senders

-- a domain can move where it isn't halted and has an obligation, a ready fiber or a message in its post
abbrev pub can_move : Script → DomainState → SharedState → (domain : ℕ) → Bool
can_move script l s d = not l.halted && (not (is_empty l.duties) || not (is_empty l.ready) || has_post s d (domains_of script))

-- a run is over, by at most n lines a domain: each domain that can move has made n
abbrev pub IsFinal : (script : Script) → (n : ℕ) → State (DomainMoves script) → Type 0
IsFinal script n s = (d : ℕ) → ((s.locals d).lines ≤ n) × (can_move script (s.locals d) s.shared d ≡ true → (s.locals d).lines ≡ n)

-- the domains of a run and what they share, as plain data
pub record Domains : Type 0 where
  pub locals : List DomainState
  pub shared : SharedState

abbrev pub has_unended : List DomainState → Bool
has_unended locals = list_any (λ l. is_none (body_end l)) locals

abbrev pub one_can_move : Script → SharedState → List DomainState → Bool
one_can_move script s locals = list_any (λ l. can_move script l s l.number) locals

abbrev pub main_end : List DomainState → Option Outcome
main_end [] = None
main_end (main ∷ others) = body_end main

-- the first of these that fits: a domain is halted; one can move; a body hasn't ended; main has ended with an exception
abbrev pub ending_of : Script → Domains → Ending
ending_of script it = elim (list_any (λ l. l.halted) it.locals) [
  | true ↦ ending.Limit
  | false ↦ elim (one_can_move script it.shared it.locals) [
    | true ↦ ending.OutOfSteps
    | false ↦ elim (has_unended it.locals) [ true ↦ ending.Deadlock | false ↦ ending_by (main_end it.locals) ]
  ]
]

-- ## The text

abbrev pub raised_end : (texts : List (List ℕ)) → Option Outcome → List ℕ
raised_end texts (Some (outcome.Err raised)) = codes "end raised " ++ raised_text texts raised ++ codes "\n"
raised_end texts other = []

-- the last line. An input that is refused has no history, and no run is NotLegal
abbrev pub end_line : (texts : List (List ℕ)) → Ending → Option Outcome → List ℕ
end_line texts ending.Ok main = codes "end ok\n"
end_line texts ending.Raised main = raised_end texts main
end_line texts ending.Refused main = []
end_line texts ending.Deadlock main = codes "end deadlock\n"
end_line texts ending.OutOfSteps main = codes "end out-of-steps\n"
end_line texts ending.Limit main = codes "end limit\n"
end_line texts ending.NotLegal main = []

abbrev pub end_text : Script → Domains → List ℕ
end_text script it = end_line (opening_texts script) (ending_of script it) (main_end it.locals)

-- the text of one line; a script without forms for the mocked domain alone makes no text while it runs
abbrev pub noted_text : Script → Noted → List ℕ
noted_text script x = line_text (opening_texts script) script.names x.line

abbrev pub domains_in : (script : Script) → State (DomainMoves script) → Domains
domains_in script s = record { locals = map s.locals (domains_of script); shared = s.shared }

-- the text of a history that leads here
abbrev pub history_text : (script : Script) → List Noted → State (DomainMoves script) → List ℕ
history_text script lines s = flat_map (noted_text script) lines ++ end_text script (domains_in script s)
