-- What has kinds has them again between two calls.
use Rattle.std.proofs.Common.{ℕ, ◌-◌, ◌≤◌, false, true, IsTrue, All, List, [], ◌∷◌, ◌++◌, length, take, Option, Some, pos, sym, subst, arith}
use Rattle.std.specs.List.{flat_map, last_or}
use Rattle.std.specs.Option.{unwrap_or}
use Rattle.std.proofs.lemmas.List.Elements.{All-nil, All-cons, All-head, All-tail, All-take, All-weaker}
use Rattle.eio_value.specs.declared.raised.Raised.{Raised}
use Rattle.eio_value.specs.declared.value.Value.{Value}
use Rattle.eio_value.specs.declared.value.Value.TheVariants as value
use Rattle.spec_script.specs.Kinds.{Kind, PromiseKind, ContextKind, SwitchKind, ReaderKind, WriterKind, CapabilityKind}
use Rattle.spec_script.specs.Scripts.{Script}
use Rattle.spec_script.specs.Syntax.{Block, Begins, Done}
use Rattle.law_script.specs.Scripts.Soundness.{Has, in_body, IsSoundBlock}
use Rattle.spec_fiber.specs.Asks as ask
use Rattle.spec_fiber.specs.Asks.{Ask}
use Rattle.spec_fiber.specs.Numbered.{blocks_from, blocks_of_statements}
use Rattle.spec_fiber.specs.Replies.{begun, begun_promising, own_branch, other_branches, into, entered, handled}
use Rattle.spec_fiber.specs.Work as work
use Rattle.spec_fiber.specs.Work.{Work}
use Rattle.law_fiber.specs.Kinded.Kinds.{Facts, IsOfScript, facts_of, knows, HasKind, HasKinds, StartsWith, with_kind, FitsBlock, HasKindsOfCall, HasKindOfNumber, Behind, AtBoth, asked_by, HasKindsOfWork, HasKindsAt}
use Rattle.law_fiber.specs.Kinded.Laws.{FitsByNumber, BodiesFit, PositionsGrow, CallsGrow, VariablesGrow, BeginsWithKinds, ForksBeginWithKinds, PromisingForksBeginWithKinds, BranchesBeginWithKinds, JobsBeginWithKinds, EntersWithKinds, HandlesWithKinds, KindsStayBetween}
use Rattle.law_fiber.proofs.Kinded.Variables.{starts_self, starts_with_one, starts_then, as_many, kinds_with}
use Rattle.law_fiber.proofs.Kinded.Statements.{both_parts, items_fit}
use Rattle.law_fiber.proofs.Kinded.Settling.{both_back}
use Rattle.law_fiber.proofs.Kinded.Growing.{kinds_grow, call_grows, position_grows}

-- ## Blocks

pub is_of_script : (script : Script) (block : Block) → All (IsOfScript script) (blocks_from block) → IsOfScript script block
unfolding blocks_from
is_of_script script (Begins number items) all = All-head (IsOfScript script) (Begins number items) (blocks_of_statements items) all

fits_by_number : FitsByNumber
fits_by_number script names slots block fits =
    let is = is_of_script script block fits.1 in
    (is.found, subst (λ it. FitsBlock (facts_of script names) slots it) (sym is.found) fits)

all_fit : (facts : Facts) (bodies : List Block) → All (IsSoundBlock (in_body facts.declared)) bodies → All facts.blocks (flat_map blocks_from bodies)
    → All (FitsBlock facts []) bodies
all_fit facts [] sound all = All-nil (FitsBlock facts [])
all_fit facts (body ∷ bodies) sound all =
    let parts = both_parts facts.blocks (blocks_from body) (flat_map blocks_from bodies) all in
    let rest = All-tail (IsSoundBlock (in_body facts.declared)) body bodies sound in
    All-cons (FitsBlock facts []) body bodies (All-head (IsSoundBlock (in_body facts.declared)) body bodies sound, parts.0)
    (all_fit facts bodies rest parts.1)

bodies_fit : BodiesFit
bodies_fit script names sound all = all_fit (facts_of script names) script.bodies sound.bodies all

module _ (facts : Facts) where
  -- ## New fibers

  pub begun_kinds : (slots : List Kind) (block : Block) (variables : List Value) → FitsBlock facts slots block → HasKinds facts slots variables
      → HasKindsAt facts (begun block variables)
  unfolding asked_by
  begun_kinds slots block variables fits has = record {
    slots = slots;
    variables = has;
    work = ((items_fit facts slots block fits, λ longer starts. tt, λ longer starts. tt), λ longer starts. tt);
  }

  pub promising_kinds : (slots : List Kind) (promise : ℕ) (block : Block) (variables : List Value) → Has (knows facts []) PromiseKind promise
      → FitsBlock facts slots block → HasKinds facts slots variables → HasKindsAt facts (begun_promising promise block variables)
  unfolding asked_by
  promising_kinds slots promise block variables is fits has = record {
    slots = slots;
    variables = has;
    work = (
      (items_fit facts slots block fits, λ longer starts. (is, (tt, λ end more. tt)), λ longer starts. (is, (tt, λ end more. tt))),
      λ longer starts. (is, (tt, λ end more. tt)),
    );
  }

  -- ## Branches

  last_fits : (slots : List Kind) (default : Option Block) (blocks : List Block) → FitsBlock facts slots (unwrap_or default (Begins 0 Done))
      → All (FitsBlock facts slots) blocks → FitsBlock facts slots (unwrap_or (last_or default blocks) (Begins 0 Done))
  last_fits slots default [] fits all = fits
  last_fits slots default (block ∷ blocks) fits all =
      last_fits slots (Some block) blocks (All-head (FitsBlock facts slots) block blocks all) (All-tail (FitsBlock facts slots) block blocks all)

  own_fits : (slots : List Kind) (blocks : List Block) → 1 ≤ length blocks → All (FitsBlock facts slots) blocks
      → FitsBlock facts slots (own_branch blocks)
  own_fits slots [] some all = absurd (omega (arith, some))
  own_fits slots (block ∷ blocks) some all =
      last_fits slots (Some block) blocks (All-head (FitsBlock facts slots) block blocks all) (All-tail (FitsBlock facts slots) block blocks all)

  pub branches_kinds : (slots : List Kind) (blocks : List Block) (variables : List Value) → All (FitsBlock facts slots) blocks
      → HasKinds facts slots variables → All (λ block. HasKindsAt facts (begun block variables)) (other_branches blocks)
  branches_kinds slots blocks variables all has =
      All-weaker (FitsBlock facts slots) (λ block. HasKindsAt facts (begun block variables)) (λ block fits. begun_kinds slots block variables fits has)
      (other_branches blocks) (All-take (FitsBlock facts slots) (length blocks - 1) blocks all)

  -- ## Blocks of calls

  -- before a block, with work behind it that has kinds whatever names the block brings
  into_kinds : (inner : List Kind) (block : Block) (mark : Work) (rest : List Work) (variables : List Value) → FitsBlock facts inner block
      → HasKinds facts inner variables → Behind inner (asked_by facts (mark ∷ rest)).at_value → Behind inner (asked_by facts (mark ∷ rest)).at_exception
      → HasKindsAt facts (into block mark rest variables)
  unfolding asked_by
  into_kinds inner block mark rest variables fits has goes drops =
      record { slots = inner; variables = has; work = ((items_fit facts inner block fits, goes, drops), drops) }

  module _ (rest : List Work) (slots : List Kind) (own : List Value) (has : HasKinds facts slots own) (both : HasKindsOfWork facts slots rest) where
    -- an end that is a call keeps the slots that were there before the block
    ends_kinds : (inner : List Kind) → StartsWith slots inner → Behind inner (λ longer. AtBoth (asked_by facts rest) (take (length own) longer))
    ends_kinds inner first longer more =
        both_back facts (length own) slots longer rest (as_many facts slots own has) (starts_then slots inner longer first more) both

    -- the same block with a name in the next slot
    named_kinds : (kind : Kind) (it : Value) → HasKind facts kind it → HasKinds facts (with_kind kind slots) (own ++ it ∷ [])
    named_kinds kind it is = kinds_with facts kind it slots own has is

    cut_goes : (inner : List Kind) → StartsWith slots inner → Behind inner (asked_by facts (work.Cut (length own) ∷ rest)).at_value
    unfolding asked_by
    cut_goes inner first longer more = (ends_kinds inner first longer more).0

    cut_drops : (inner : List Kind) → StartsWith slots inner → Behind inner (asked_by facts (work.Cut (length own) ∷ rest)).at_exception
    unfolding asked_by
    cut_drops inner first longer more = both.1 longer (starts_then slots inner longer first more)

    pub entered_kinds : (call : Ask) (number : ℕ) → HasKindsOfCall facts slots call → HasKindOfNumber facts call number
        → HasKindsAt facts (entered call number rest own)
    unfolding asked_by
    entered_kinds (ask.Sub body) number fits is =
        let inner = with_kind ContextKind slots in
        let first = starts_with_one ContextKind slots in
        into_kinds inner body (work.Leave number false (length own)) rest (own ++ value.Ctx number ∷ []) fits
        (named_kinds ContextKind (value.Ctx number) is) (ends_kinds inner first) (ends_kinds inner first)
    entered_kinds (ask.Protect body) number fits is =
        let first = starts_self slots in
        into_kinds slots body (work.Leave number false (length own)) rest own fits has
        (ends_kinds slots first) (ends_kinds slots first)
    entered_kinds (ask.Switch body) number fits is =
        let inner = with_kind SwitchKind slots in
        let first = starts_with_one SwitchKind slots in
        into_kinds inner body (work.Close number (length own)) rest (own ++ value.Switch number ∷ []) fits
        (named_kinds SwitchKind (value.Switch number) is) (ends_kinds inner first) (ends_kinds inner first)
    entered_kinds (ask.OnRelease switch body) number fits is =
        let first = starts_self slots in
        into_kinds slots body (work.Leave number true (length own)) rest own fits.1 has
        (ends_kinds slots first) (ends_kinds slots first)
    entered_kinds (ask.Branches group blocks) number fits is =
        let first = starts_self slots in
        into_kinds slots (own_branch blocks) (work.Join number (length own)) rest own (own_fits slots blocks fits.0 fits.2) has
        (ends_kinds slots first) (ends_kinds slots first)
    entered_kinds (ask.OpenReader flow limit body) number fits is =
        let inner = with_kind ReaderKind slots in
        let first = starts_with_one ReaderKind slots in
        into_kinds inner body (work.ShutReader number (length own)) rest (own ++ value.Int (pos number) ∷ []) fits.2
        (named_kinds ReaderKind (value.Int (pos number)) is) (ends_kinds inner first) (ends_kinds inner first)
    entered_kinds (ask.OpenWriter flow body) number fits is =
        let inner = with_kind WriterKind slots in
        let first = starts_with_one WriterKind slots in
        into_kinds inner body (work.ShutWriter number (length own)) rest (own ++ value.Int (pos number) ∷ []) fits.1
        (named_kinds WriterKind (value.Int (pos number)) is) (ends_kinds inner first) (ends_kinds inner first)
    entered_kinds (ask.OpenDirectory place path body) number fits is =
        let inner = with_kind CapabilityKind slots in
        let first = starts_with_one CapabilityKind slots in
        into_kinds inner body (work.Cut (length own)) rest (own ++ value.Int (pos number) ∷ []) fits.1
        (named_kinds CapabilityKind (value.Int (pos number)) is) (cut_goes inner first) (cut_drops inner first)
    entered_kinds call number fits is = record { slots = slots; variables = has; work = both }

    -- ## Handlers

    -- before a handler, behind which the fiber's own variables are back
    pub handled_kinds : (kinds : List Kind) (switch : ℕ) (failed : Option Raised) (kept : Value) (context : ℕ) (handler : Block) (registered : List Value)
        → FitsBlock facts kinds handler → HasKinds facts kinds registered
        → HasKindsAt facts (handled (ask.Close switch failed kept) context handler registered rest own)
    unfolding asked_by
    handled_kinds kinds switch failed kept context handler registered fits was =
        into_kinds kinds handler (work.Leave context false (length registered)) (work.Restore own ∷ work.Closing switch kept ∷ rest) registered fits was
        (λ longer more. ((slots, has, both), λ end behind. (slots, has, both))) (λ longer more. ((slots, has, both), λ end behind. (slots, has, both)))

-- ## The laws

positions_grow : PositionsGrow
positions_grow script names more position weaker has =
    position_grows (facts_of script names) (λ kind number. IsTrue (more kind number)) weaker position has

calls_grow : CallsGrow
calls_grow script names more slots call weaker has =
    call_grows (facts_of script names) (λ kind number. IsTrue (more kind number)) weaker slots call has

variables_grow : VariablesGrow
variables_grow script names more slots variables weaker has =
    kinds_grow (facts_of script names) (λ kind number. IsTrue (more kind number)) weaker slots variables has

begins_with_kinds : BeginsWithKinds
begins_with_kinds script names slots block variables fits has = begun_kinds (facts_of script names) slots block variables fits has

forks_begin : ForksBeginWithKinds
forks_begin script names slots forking switch body variables fits has = begun_kinds (facts_of script names) slots body variables fits.2 has

promising_forks_begin : PromisingForksBeginWithKinds
promising_forks_begin script names slots promise switch body variables fits has =
    promising_kinds (facts_of script names) slots promise body variables fits.0 fits.2 has

branches_begin : BranchesBeginWithKinds
branches_begin script names slots group blocks variables fits has = branches_kinds (facts_of script names) slots blocks variables fits.2 has

jobs_begin : JobsBeginWithKinds
jobs_begin script names slots executor weight given job fits = begun_kinds (facts_of script names) fits.2 job given fits.4 fits.3

enters_with_kinds : EntersWithKinds
enters_with_kinds script names slots call number rest variables fits is has both =
    entered_kinds (facts_of script names) rest slots variables has both call number fits is

handles_with_kinds : HandlesWithKinds
handles_with_kinds script names slots own switch failed kept context handler registered rest variables fits was has both =
    handled_kinds (facts_of script names) rest slots variables has both own switch failed kept context handler registered fits was

pub kinds_stay_between : KindsStayBetween
kinds_stay_between = record {
  numbers = fits_by_number;
  bodies = bodies_fit;
  positions = positions_grow;
  calls = calls_grow;
  variables = variables_grow;
  begins = begins_with_kinds;
  forks = forks_begin;
  promising = promising_forks_begin;
  branches = branches_begin;
  jobs = jobs_begin;
  enters = enters_with_kinds;
  handles = handles_with_kinds;
}
