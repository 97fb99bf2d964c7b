-- Calls on groups: branches that run side by side in one context, of which the caller runs the last.
-- `join` is called at the end of the caller's own branch, and again once the last branch has ended.
use Rattle.std.specs.Prelude.{ℕ, ◌+◌, ◌-◌, zero, suc, true, false, List, [], ◌∷◌, ◌++◌, length, Option, Some, None}
use Rattle.eio_value.specs.declared.plain.Plain.{Plain}
use Rattle.eio_value.specs.declared.raised.Outcome.{Outcome}
use Rattle.eio_value.specs.declared.raised.Outcome.TheVariants as outcome
use Rattle.eio_value.specs.declared.value.Value.{Value}
use Rattle.spec_parts.specs.Groups as groups
use Rattle.spec_parts.specs.Groups.{GroupKind, Group, gathered, group_at, with_group, BranchEnded, branch_ends, JoinStep, Joined, join}
use Rattle.spec_script.specs.Syntax as syntax
use Rattle.spec_script.specs.Syntax.{Block}
use Rattle.spec_fiber.specs.Asks.{Ask, again}
use Rattle.spec_fiber.specs.Replies.{begun, other_branches}
use Rattle.trace_lines.specs.declared.line.Did.{Did}
use Rattle.trace_lines.specs.declared.line.Did.TheVariants as did
use Rattle.trace_lines.specs.declared.line.Said2.{Said2}
use Rattle.trace_lines.specs.declared.line.Said2.TheVariants as said
use Rattle.spec_machine.specs.Domain.{ForOthers, OfGroup, DomainState, fiber_at, made, off_for, is_full_by}
use Rattle.spec_machine.specs.Steps.{Step, answers, raises_cancelled, waits, halts, in_new, cancels}
use Rattle.spec_machine.specs.ContextMoves.{context_of, sub_of, before_block, enters_context, leaves}
use Rattle.spec_machine.specs.SwitchMoves.{woken_if}

-- ## Making branches

abbrev pub did_branch : syntax.Group → (context : ℕ) → Did
did_branch syntax.Both c = did.Both c
did_branch syntax.All c = did.All c
did_branch syntax.First c = did.First c
did_branch syntax.Any c = did.Any c

abbrev pub kind_of : syntax.Group → GroupKind
kind_of syntax.Both = groups.Both
kind_of syntax.All = groups.All
kind_of syntax.First = groups.First
kind_of syntax.Any = groups.Any

-- a new fiber for each of these blocks, with these variables
unfoldable pub branched : (context group : ℕ) → (variables : List Value) → List Block → DomainState → DomainState
branched c n variables [] l = l
branched c n variables (block ∷ blocks) l = branched c n variables blocks (made c (OfGroup n) (begun block variables) l)

-- so many numbers from this one on
abbrev pub numbers_from : (first count : ℕ) → List ℕ
numbers_from first zero = []
numbers_from first (suc count) = first ∷ numbers_from (first + 1) count

-- the reply tells the first of the new fibers, if there is one
abbrev pub first_of : (domain first count : ℕ) → Said2
first_of domain first zero = said.Nothing
first_of domain first (suc count) = said.Fiber domain first

-- the new fibers stand in order before all others, the caller behind them with its own branch
abbrev pub branches_in : Ask → syntax.Group → List Block → (context fiber : ℕ) → DomainState → Step
branches_in call kind blocks c g l =
    let n = length l.groups in
    let first = length l.fibers in
    let others = other_branches blocks in
    let t : DomainState = branched c n (fiber_at l.fibers g).variables others (record l { groups = l.groups ++ gathered (kind_of kind) c (length blocks) ∷ [] }) in
    let step : Step = enters_context (did_branch kind c) (first_of l.number first (length others)) c (before_block call n g t) g t in
    record step { state = record (step.state) { ready = numbers_from first (length others) ++ step.state.ready } }

-- all branches are counted before any is made
abbrev pub makes : Ask → syntax.Group → List Block → (fiber : ℕ) → DomainState → Step
makes call kind blocks g l = elim (is_full_by (length blocks - 1) l.fibers) [
  | true ↦ halts g l
  | false ↦ in_new (sub_of l g) g l (λ c m. branches_in call kind blocks c g m)
]

-- in a context that is off nothing is made, and the line tells the caller's context
abbrev pub branches : Ask → syntax.Group → List Block → (fiber : ℕ) → DomainState → Step
branches call kind blocks g l = elim (off_for l g) [
  | Some why ↦ raises_cancelled (did_branch kind (context_of l g)) why g l
  | None ↦ makes call kind blocks g l
]

-- ## The end of a branch

abbrev pub cancels_if : (maker context : ℕ) → Option Plain → DomainState → DomainState
cancels_if maker c None l = l
cancels_if maker c (Some why) l = cancels maker c why l

-- a branch of this fiber has ended: that may cancel the others, and the last wakes who waits in `join`
abbrev pub branch_ended : (group : ℕ) → Outcome → (fiber : ℕ) → DomainState → DomainState
branch_ended n result g l =
    let it : BranchEnded = branch_ends result (group_at l.groups n) in
    woken_if it.woken (cancels_if g it.group.context it.cancels (record l { groups = with_group n it.group l.groups }))

-- ## Joining

abbrev pub own_ended : (group : ℕ) → Option Outcome → (fiber : ℕ) → DomainState → DomainState
own_ended n None g l = l
own_ended n (Some result) g l = branch_ended n result g l

abbrev pub joined_by : Ask → (context : ℕ) → JoinStep → (fiber : ℕ) → DomainState → Step
joined_by call c groups.Wait g l = waits (did.Join c) (ForOthers (again call)) g l
joined_by call c (groups.Give it) g l = answers (did.Join c) (outcome.Ok it) g (leaves c g l)
joined_by call c (groups.Raise raised) g l = answers (did.Join c) (outcome.Err raised) g (leaves c g l)

abbrev pub joins : Ask → (group : ℕ) → Option Outcome → (fiber : ℕ) → DomainState → Step
joins call n own g l =
    let t : DomainState = own_ended n own g l in
    let joined : Joined = join g (group_at t.groups n) in
    joined_by call joined.group.context joined.step g (record t { groups = with_group n joined.group t.groups })
