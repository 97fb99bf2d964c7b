-- Calls on groups, and the ends of fibers.
use Rattle.std.proofs.Common.{ℕ, zero, suc, ◌-◌, Bool, true, false, List, [], ◌∷◌, ◌++◌, length, Option, Some, None, IfSome}
use Rattle.std.specs.List.{AllByRecursion as Each}
use Rattle.eio_value.specs.declared.plain.Plain.{Plain}
use Rattle.eio_value.specs.declared.raised.Outcome.{Outcome}
use Rattle.eio_value.specs.declared.raised.Outcome.TheVariants as outcome
use Rattle.eio_value.specs.declared.value.Value.{Value}
use Rattle.spec_parts.specs.Groups as groups
use Rattle.spec_parts.specs.Groups.{gathered, group_at, branch_ends, JoinStep, join}
use Rattle.spec_script.specs.Scripts.{Script}
use Rattle.spec_script.specs.Syntax as syntax
use Rattle.spec_script.specs.Syntax.{Block}
use Rattle.spec_fiber.specs.Asks as ask
use Rattle.spec_fiber.specs.Asks.{Ask, again}
use Rattle.spec_fiber.specs.Replies.{begun, other_branches}
use Rattle.trace_lines.specs.declared.line.Did.TheVariants as did
use Rattle.spec_machine.specs.Domain.{Role, OfBody, OfJob, OfSwitch, OfGroup, OfWriter, ForOthers, DomainState, fiber_at, made, ended, off_for, is_full_by}
use Rattle.spec_machine.specs.Steps.{raises_cancelled, halts, in_new}
use Rattle.spec_machine.specs.ContextMoves.{context_of, sub_of, before_block, leaves}
use Rattle.spec_machine.specs.GroupMoves.{did_branch, kind_of, branched, first_of, branches_in, makes, branches, cancels_if, branch_ended, own_ended, joined_by, joins}
use Rattle.spec_machine.specs.EndMoves.{after_end, end_told}
use Rattle.law_fiber.specs.Texts.Texts.{IsWrittenBlock, AreHeldValues, IsHeldOutcome, written_in, known_in}
use Rattle.law_domain.specs.Texts.Domains.{IsKnownReason, IsTexted, IsTextedDid, IsTextedReply}
use Rattle.law_domain.proofs.Texts.Parts.{with_group_texted, and_group_texted, ended_texted}
use Rattle.law_domain.proofs.Texts.Positions.{begun_texted, others_written}
use Rattle.law_domain.proofs.Texts.SwitchRows.{branch_texted, IsTextedJoin, join_texted}
use Rattle.law_domain.proofs.Texts.Steps.{IsTextedStep, reply_texted, made_texted, end_texted, leaves_texted, answers_texted, cancelled_texted, waits_texted, halts_texted, off_texted, cancels_texted, in_new_texted, enters_context_texted}
use Rattle.law_domain.proofs.Texts.ContextCalls.{before_texted}
use Rattle.law_domain.proofs.Texts.SwitchCalls.{woken_if_texted}
use Rattle.law_domain.proofs.Texts.SwitchCalls as switch_calls

module _ (script : Script) where
  -- ## Making branches

  did_branch_texted : (kind : syntax.Group) (c : ℕ) → IsTextedDid script (did_branch kind c)
  did_branch_texted syntax.Both c = tt
  did_branch_texted syntax.All c = tt
  did_branch_texted syntax.First c = tt
  did_branch_texted syntax.Any c = tt

  first_texted : (domain first count : ℕ) → IsTextedReply script (first_of domain first count)
  first_texted domain first zero = tt
  first_texted domain first (suc count) = tt

  branched_texted : (c n : ℕ) (variables : List Value) (blocks : List Block) (l : DomainState) → AreHeldValues (known_in script) variables
      → Each (IsWrittenBlock (written_in script)) blocks → IsTexted script l → IsTexted script (branched c n variables blocks l)
  unfolding branched
  branched_texted c n variables [] l are written is = is
  branched_texted c n variables (block ∷ blocks) l are written is =
      branched_texted c n variables blocks (made c (OfGroup n) (begun block variables) l) are written.1
      (made_texted script l is c (OfGroup n) (begun block variables) (begun_texted script block variables written.0 are))

  branches_in_texted : (kind : syntax.Group) (blocks : List Block) (c g : ℕ) (l : DomainState) → IsTexted script l
      → Each (IsWrittenBlock (written_in script)) blocks → IsTextedStep script (branches_in (ask.Branches kind blocks) kind blocks c g l)
  branches_in_texted kind blocks c g l is written =
      let n = length l.groups in
      let first = length l.fibers in
      let others = other_branches blocks in
      let variables = (fiber_at l.fibers g).variables in
      let s : DomainState = record l { groups = l.groups ++ gathered (kind_of kind) c (length blocks) ∷ [] } in
      let s_is : IsTexted script s = and_group_texted script is (gathered (kind_of kind) c (length blocks)) (tt, tt) in
      let t : DomainState = branched c n variables others s in
      let t_is : IsTexted script t = branched_texted c n variables others s (is.each_fiber g).place.values (others_written script blocks written) s_is in
      let step =
      enters_context_texted script (did_branch kind c) (first_of l.number first (length others)) c (before_block (ask.Branches kind blocks) n g t) g t t_is
      (did_branch_texted kind c) (first_texted l.number first (length others)) (before_texted script (ask.Branches kind blocks) n g t t_is written) in
      record { state = step.state; call = step.call; answer = step.answer }

  makes_texted : (kind : syntax.Group) (blocks : List Block) (g : ℕ) (l : DomainState) → IsTexted script l
      → Each (IsWrittenBlock (written_in script)) blocks → IsTextedStep script (makes (ask.Branches kind blocks) kind blocks g l)
  makes_texted kind blocks g l is written = by (is_full_by (length blocks - 1) l.fibers)
    where
      by : (full : Bool) → IsTextedStep script (elim full [
        | true ↦ halts g l
        | false ↦ in_new (sub_of l g) g l (λ c m. branches_in (ask.Branches kind blocks) kind blocks c g m)
      ])
      by true = halts_texted script l is g
      by false =
          in_new_texted script l is (Some (context_of l g)) false g (λ c m. branches_in (ask.Branches kind blocks) kind blocks c g m)
          (λ c m m_is. branches_in_texted kind blocks c g m m_is written)

  pub branches_texted : (kind : syntax.Group) (blocks : List Block) (g : ℕ) (l : DomainState) → IsTexted script l
      → Each (IsWrittenBlock (written_in script)) blocks → IsTextedStep script (branches (ask.Branches kind blocks) kind blocks g l)
  branches_texted kind blocks g l is written = by (off_for l g) (off_texted script l is g)
    where
      by : (found : Option Plain) → IsKnownReason script found → IsTextedStep script (elim found [
        | Some why ↦ raises_cancelled (did_branch kind (context_of l g)) why g l
        | None ↦ makes (ask.Branches kind blocks) kind blocks g l
      ])
      by (Some why) known = cancelled_texted script l is (did_branch kind (context_of l g)) why g (did_branch_texted kind (context_of l g)) known
      by None known = makes_texted kind blocks g l is written

  -- ## The end of a branch

  cancels_if_texted : (maker c : ℕ) (found : Option Plain) (l : DomainState) → IsTexted script l → IsKnownReason script found
      → IsTexted script (cancels_if maker c found l)
  cancels_if_texted maker c None l is known = is
  cancels_if_texted maker c (Some why) l is known = cancels_texted script l is maker c why known

  branch_ended_texted : (n : ℕ) (result : Outcome) (g : ℕ) (l : DomainState) → IsTexted script l → IsHeldOutcome (known_in script) result
      → IsTexted script (branch_ended n result g l)
  branch_ended_texted n result g l is held =
      let it = branch_ends result (group_at l.groups n) in
      let so = branch_texted script result (group_at l.groups n) held (is.each_group n) in
      let t : DomainState = record l { groups = groups.with_group n it.group l.groups } in
      let t_is : IsTexted script t = with_group_texted script is n it.group so.left in
      woken_if_texted script (cancels_if g it.group.context it.cancels t) (cancels_if_texted g it.group.context it.cancels t t_is so.why) it.woken

  -- ## Joining

  own_ended_texted : (n : ℕ) (own : Option Outcome) (g : ℕ) (l : DomainState) → IsTexted script l → IfSome own (IsHeldOutcome (known_in script))
      → IsTexted script (own_ended n own g l)
  own_ended_texted n None g l is held = is
  own_ended_texted n (Some result) g l is held = branch_ended_texted n result g l is held

  joined_texted : (n : ℕ) (own : Option Outcome) (c : ℕ) (step : JoinStep) (g : ℕ) (l : DomainState) → IsTexted script l → IsTextedJoin script step
      → IsTextedStep script (joined_by (ask.Join n own) c step g l)
  joined_texted n own c groups.Wait g l is found = waits_texted script l is (did.Join c) (ForOthers (ask.Join n None)) g tt tt
  joined_texted n own c (groups.Give it) g l is found =
      answers_texted script (leaves c g l) (leaves_texted script l is c g) (did.Join c) (outcome.Ok it) g tt found
  joined_texted n own c (groups.Raise raised) g l is found =
      answers_texted script (leaves c g l) (leaves_texted script l is c g) (did.Join c) (outcome.Err raised) g tt found

  pub joins_texted : (n : ℕ) (own : Option Outcome) (g : ℕ) (l : DomainState) → IsTexted script l → IfSome own (IsHeldOutcome (known_in script))
      → IsTextedStep script (joins (ask.Join n own) n own g l)
  joins_texted n own g l is held =
      let t : DomainState = own_ended n own g l in
      let t_is : IsTexted script t = own_ended_texted n own g l is held in
      let joined = join g (group_at t.groups n) in
      let so = join_texted script g (group_at t.groups n) (t_is.each_group n) in
      joined_texted n own joined.group.context joined.step g (record t { groups = groups.with_group n joined.group t.groups })
      (with_group_texted script t_is n joined.group so.left) so.found

  -- ## The ends of fibers

  after_end_texted : (role : Role) (result : Outcome) (g : ℕ) (l : DomainState) → IsTexted script l → IsHeldOutcome (known_in script) result
      → IsTexted script (after_end role result g l)
  after_end_texted OfBody result g l is held = ended_texted script is (context_of l g)
  after_end_texted (OfJob executor number) result g l is held = ended_texted script is (context_of l g)
  after_end_texted (OfSwitch n daemon) result g l is held = switch_calls.ended_texted script l is n daemon result g held
  after_end_texted (OfGroup n) result g l is held = branch_ended_texted n result g l is held
  after_end_texted (OfWriter writer) result g l is held = ended_texted script is (context_of l g)

  pub end_call_texted : (result : Outcome) (g : ℕ) (l : DomainState) → IsTexted script l → IsHeldOutcome (known_in script) result
      → IsTextedStep script (end_told result g l)
  end_call_texted result g l is held = record {
    state = after_end_texted (fiber_at l.fibers g).role result g (ended result g l) (end_texted script l is result g held) held;
    call = tt;
    answer = reply_texted script result held;
  }
