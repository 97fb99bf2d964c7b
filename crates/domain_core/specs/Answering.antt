-- What the methods of a domain do, whatever domain of the definitions is stood for.
use Rattle.std.specs.Prelude.{◌≡◌, ℕ, ◌+◌, Bool, true, false, List, [], ◌∷◌, ◌++◌, length, map, None}
use Rattle.eio_value.specs.declared.plain.Member.{Member}
use Rattle.eio_value.specs.declared.plain.Plain.{Plain}
use Rattle.eio_value.specs.declared.raised.Outcome.TheVariants as outcome
use Rattle.eio_value.specs.declared.value.Value.{Value}
use Rattle.eio_value.specs.declared.value.Value.TheVariants as value
use Rattle.fiber_step.specs.declared.ask.Ask.{Ask}
use Rattle.fiber_step.specs.Standing.{ask_of}
use Rattle.spec_machine.specs.ContextMoves.{before_block}
use Rattle.spec_machine.specs.Domain.{OfSwitch, DomainState, GoesOn, fiber_at, made, moved_to, placed, to_head}
use Rattle.spec_machine.specs.GroupMoves.{branched, numbers_from}
use Rattle.spec_machine.specs.Moves.{own_call}
use Rattle.spec_machine.specs.Steps.{Step, counted, member}
use Rattle.spec_machine.specs.SwitchMoves.{closed_by, with_switch_at}
use Rattle.spec_parts.specs.Groups.{GroupKind, gathered}
use Rattle.spec_parts.specs.Switches.{Switch, Closed, attach, close_step, switch_at}
use Rattle.script_forms.specs.Flat.{nodes_of}
use Rattle.script_code.specs.Standing.{block_at}
use Rattle.script_forms.specs.declared.node.Forking.{Forking}
use Rattle.script_forms.specs.declared.node.Forking.TheVariants as forking
use Rattle.script_forms.specs.declared.node.Node.{Node}
use Rattle.spec_script.specs.Scripts.{Script}
use Rattle.spec_fiber.specs.Asks as asks
use Rattle.spec_fiber.specs.Asks.{Ask as Called}
use Rattle.spec_fiber.specs.Replies.{begun}
use Rattle.domain_core.specs.declared.told.Told.{Told}
use Rattle.domain_core.specs.Keeping.{KeptDomain}
use Rattle.domain_core.specs.Mirrors.{Mirrors}

-- ## Parts of a move

-- whatever is stood for becomes this, under these nodes
abbrev pub BecomesUnder : List Node → (DomainState → DomainState) → (old new : KeptDomain) → Type 0
BecomesUnder nodes change old new = (texts : List (List ℕ)) (l : DomainState) → Mirrors nodes texts old l → Mirrors nodes texts new (change l)

-- and under any
abbrev pub Becomes : (DomainState → DomainState) → (old new : KeptDomain) → Type 0
Becomes change old new = (nodes : List Node) → BecomesUnder nodes change old new

-- this is so of whatever is stood for
abbrev pub HoldsOf : KeptDomain → (DomainState → Type 0) → Type 0
HoldsOf kept Fact = (nodes : List Node) (texts : List (List ℕ)) (l : DomainState) → Mirrors nodes texts kept l → Fact l

-- the domain is of the same number, and has made as many lines of as many as it may, the last one with the same stamp
pub record SameCounts (old new : KeptDomain) : Type 0 where
  pub number : new.number ≡ old.number
  pub stamp : new.stamp ≡ old.stamp
  pub lines : new.lines ≡ old.lines
  pub budget : new.budget ≡ old.budget
  pub mocked : new.mocked ≡ old.mocked

-- no fiber stands otherwise, and none has come to the ready list or left it
pub record SameFibers (old new : KeptDomain) : Type 0 where
  pub fibers : new.fibers ≡ old.fibers
  pub ready : new.ready ≡ old.ready

-- the fiber goes into the block of its call, which was answered with this number, in this context
abbrev pub enters_block : Called → (number context fiber : ℕ) → DomainState → DomainState
enters_block call number context g l = to_head (GoesOn (outcome.Ok value.Unit)) g (placed (before_block call number g l) g (moved_to context g l))

-- ## Moves

-- a move of the definitions tells this
pub record Tells (step : Step) (told : Told) : Type 0 where
  pub fiber : step.fiber ≡ told.fiber
  pub did : step.did ≡ told.did
  pub reply : step.reply ≡ told.reply

-- whatever is stood for makes this step, under these nodes
pub record MakesUnder (nodes : List Node) (step : DomainState → Step) (old : KeptDomain) (told : Told) (new : KeptDomain) : Type 0 where
  pub tells : (texts : List (List ℕ)) (l : DomainState) → Mirrors nodes texts old l → Tells (step l) told
  pub becomes : BecomesUnder nodes (λ l. (step l).state) old new

-- and under any
abbrev pub Makes : (DomainState → Step) → (old : KeptDomain) → Told → (new : KeptDomain) → Type 0
Makes step old told new = (nodes : List Node) → MakesUnder nodes step old told new

-- this call of a fiber was answered so
abbrev pub Answers : Script → (call : Ask) → (fiber : ℕ) → (old : KeptDomain) → Told → (new : KeptDomain) → Type 0
Answers script call g old told new = MakesUnder (nodes_of script) (own_call script (ask_of (nodes_of script) call) g) old told new

-- a new raise of this exception was counted
pub record Raises (what : Plain) (made : Member) (old new : KeptDomain) : Type 0 where
  pub is : HoldsOf old (λ l. made ≡ member what l)
  pub becomes : Becomes counted old new

-- ## Parts that are defined nowhere else by themselves

-- how a fiber is forked that may be a daemon
abbrev pub forking_by : (daemon : Bool) → Forking
forking_by true = forking.Daemon
forking_by false = forking.Plain

-- a new fiber of a switch, with the caller's variables
abbrev pub forks : (maker switch : ℕ) → (daemon : Bool) → (body : ℕ) → List Node → DomainState → DomainState
forks g n daemon body nodes l =
    let new = length l.fibers in
    let s : Switch = switch_at l.switches n in
    let t : DomainState = made s.context (OfSwitch n daemon) (begun (block_at nodes body) (fiber_at l.fibers g).variables) l in
    with_switch_at n (attach new daemon s).switch t

-- a handler is the last of the fresh batch, with the caller's variables
abbrev pub registers : (fiber switch handler : ℕ) → DomainState → DomainState
registers g n handler l =
    let s : Switch = switch_at l.switches n in
    with_switch_at n (record s { fresh = s.fresh ++ record { block = handler; values = (fiber_at l.fibers g).variables } ∷ [] }) l

-- `close` once the switch has what came
abbrev pub closes_on : Script → (switch : ℕ) → (kept : Value) → (fiber : ℕ) → DomainState → Step
closes_on script n kept g l =
    let closed : Closed = close_step g (switch_at l.switches n) in
    closed_by script (asks.Close n None kept) n closed.switch.context kept closed.step g (with_switch_at n closed.switch l)

-- a new group over this context, with a fiber for each of these blocks, with the caller's variables, and the caller's own branch beside them
abbrev pub gathers : (maker : ℕ) → GroupKind → (context : ℕ) → (bodies : List ℕ) → List Node → DomainState → DomainState
gathers g kind c bodies nodes l =
    branched c (length l.groups) (fiber_at l.fibers g).variables (map (block_at nodes) bodies) (record l { groups = l.groups ++ gathered kind c (length bodies + 1) ∷ [] })

-- so many fibers from this number on stand before all others
abbrev pub heads_with : (first count : ℕ) → DomainState → DomainState
heads_with first count l = record l { ready = numbers_from first count ++ l.ready }
