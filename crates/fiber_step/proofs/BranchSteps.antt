-- The steps of forms with branches.
use Rattle.std.proofs.Common.{◌≡◌, ℕ, suc, List, [], ◌∷◌, ◌++◌, length, Some, refl, sym, ap, ◌∙◌, subst, arith}
use Rattle.std.specs.List.{AllByRecursion as Each}
use Rattle.eio_value.specs.declared.value.Value.{Value}
use Rattle.eio_value.specs.declared.value.Value.TheVariants as value
use Rattle.spec_script.specs.Syntax as syntax
use Rattle.spec_script.specs.Syntax.{NoBlocks}
use Rattle.law_script.specs.Scripts.Soundness.{HasItsBranches}
use Rattle.script_forms.specs.Calls.{group_of}
use Rattle.script_code.specs.Standing.{blocks_at, States}
use Rattle.script_forms.specs.declared.node.Group.{Group}
use Rattle.script_forms.specs.declared.node.Group.TheVariants as group
use Rattle.script_forms.specs.declared.node.Node.{Node}
use Rattle.script_forms.specs.declared.node.Node.TheVariants as node
use Rattle.spec_fiber.specs.Asks as model
use Rattle.spec_fiber.specs.Silent.{Past, asks, blocks_of, branched, statement}
use Rattle.spec_fiber.specs.Work.{Carry}
use Rattle.fiber_step.specs.Having.{HasStatements}
use Rattle.fiber_step.specs.Standing.{ask_of, branches_in, branches_at}
use Rattle.fiber_step.specs.Stepping.{unbranched}
use Rattle.fiber_step.specs.declared.ask.Ask.TheVariants as ask
use Rattle.fiber_step.specs.declared.step.Step.{Step}
use Rattle.fiber_step.specs.declared.step.Step.TheVariants as step
use Rattle.fiber_step.proofs.Places.{IsAt}
use Rattle.fiber_step.proofs.SilentSteps.{IsStepAt, moved_step}
use Rattle.fiber_step.proofs.Steps.{Knows, known_at, goes_by, follows}

-- ## No branches

none_two : ◌≡◌ {A = ℕ} 0 2 → ⊥
none_two e = omega (arith, e)

unbranched_by : (nodes : List Node) (texts at : ℕ) (variables : List Value) (kind : Group) (after : ℕ) → States nodes at (syntax.Branches (group_of kind) NoBlocks) after → HasStatements nodes after
    → HasItsBranches (group_of kind) 0 → IsStepAt nodes texts at variables (unbranched kind) after
unfolding statement
unbranched_by nodes texts at variables group.All after says left some = record {
  is = goes_by nodes at variables (syntax.Branches syntax.All NoBlocks) after (λ c. Past value.Unit c) says (λ c same. refl);
  after = (follows nodes at _ after says, left);
  bodies = tt;
  text = tt;
  light = tt;
}
unbranched_by nodes texts at variables group.Any after says left some = record {
  is = goes_by nodes at variables (syntax.Branches syntax.Any NoBlocks) after (λ c. asks model.AwaitCancel c) says (λ c same. refl);
  after = (follows nodes at _ after says, left);
  bodies = tt;
  text = tt;
  light = tt;
}
unbranched_by nodes texts at variables group.Both after says left some = absurd (none_two some)
unbranched_by nodes texts at variables group.First after says left some = absurd (none_two some)

no_more : (k : ℕ) → suc k ≡ 0 → ⊥
no_more k e = omega (arith, e)

none_there : (numbers : List ℕ) → length numbers ≡ 0 → numbers ≡ []
none_there [] e = refl
none_there (n ∷ numbers) e = absurd (no_more (length numbers) e)

pub unbranched_step : (nodes : List Node) (texts at : ℕ) (n_at : Node) (variables : List Value) (it : Step) (after : ℕ) (kind : Group) (numbers : List ℕ) (from_here : ℕ) → Knows nodes texts at n_at
    → n_at ≡ node.Branches kind numbers from_here → length numbers ≡ 0 → it ≡ unbranched kind → after ≡ from_here → IsStepAt nodes texts at variables it after
unbranched_step nodes texts at n_at variables it after kind numbers from_here knows e none it_is after_is =
    let here = known_at nodes texts at n_at (node.Branches kind [] from_here) knows (e ∙ ap (λ these. node.Branches kind these from_here) (none_there numbers none)) in
    moved_step nodes texts at variables it (unbranched kind) after from_here it_is after_is (unbranched_by nodes texts at variables kind from_here here.stands here.parts.2 here.parts.1)

-- ## Branches

branched_goes : (nodes : List Node) (kind : Group) (n : ℕ) (numbers : List ℕ) (c : Carry)
    → branched (group_of kind) (blocks_at nodes (n ∷ numbers)) c ≡ asks (model.Branches (group_of kind) (blocks_of (blocks_at nodes (n ∷ numbers)))) c
branched_goes nodes group.Both n numbers c = refl
branched_goes nodes group.All n numbers c = refl
branched_goes nodes group.First n numbers c = refl
branched_goes nodes group.Any n numbers c = refl

-- the last of some numbers, which the caller runs
record HasLast (numbers : List ℕ) : Type 0 where
  pub others : List ℕ
  pub own : ℕ
  pub is : numbers ≡ others ++ own ∷ []

last_of : (n : ℕ) (numbers : List ℕ) → HasLast (n ∷ numbers)
last_of n [] = record { others = []; own = n; is = refl }
last_of n (m ∷ numbers) = let last = last_of m numbers in record { others = n ∷ last.others; own = last.own; is = ap (λ these. n ∷ these) last.is }

branches_by : (nodes : List Node) (texts at : ℕ) (variables : List Value) (kind : Group) (n : ℕ) (numbers : List ℕ) (after : ℕ) → IsAt nodes at (node.Branches kind (n ∷ numbers) after)
    → States nodes at (syntax.Branches (group_of kind) (blocks_at nodes (n ∷ numbers))) after → HasStatements nodes after → Each (HasStatements nodes) (n ∷ numbers)
    → IsStepAt nodes texts at variables (step.Calls (ask.Branches kind at)) after
unfolding statement
branches_by nodes texts at variables kind n numbers after is says left begin =
    let last = last_of n numbers in
    let there : branches_at nodes at ≡ blocks_at nodes (n ∷ numbers) = ap (branches_in nodes) is in
    record {
      is = goes_by nodes at variables (syntax.Branches (group_of kind) (blocks_at nodes (n ∷ numbers))) after (λ c. asks (ask_of nodes (ask.Branches kind at)) c) says
          (λ c same. branched_goes nodes kind n numbers c ∙ ap (λ these. asks (model.Branches (group_of kind) (blocks_of these)) c) (sym there));
      after = (follows nodes at _ after says, left);
      bodies = (
        record { group = kind; others = last.others; own = last.own; after = after; is = is ∙ ap (λ these. Some (node.Branches kind these after)) last.is },
        record { group = kind; numbers = n ∷ numbers; after = after; is = is; begin = begin },
      );
      text = tt;
      light = tt;
    }

pub branches_step : (nodes : List Node) (texts at : ℕ) (n_at : Node) (variables : List Value) (it : Step) (after : ℕ) (kind : Group) (numbers : List ℕ) (from_here : ℕ) → Knows nodes texts at n_at
    → IsAt nodes at n_at → n_at ≡ node.Branches kind numbers from_here → (length numbers ≡ 0 → ⊥) → it ≡ step.Calls (ask.Branches kind at) → after ≡ from_here → IsStepAt nodes texts at variables it after
branches_step nodes texts at n_at variables it after kind numbers from_here knows is e some it_is after_is = by numbers e some
  where
    by : (these : List ℕ) → n_at ≡ node.Branches kind these from_here → (length these ≡ 0 → ⊥) → IsStepAt nodes texts at variables it after
    by [] e some = absurd (some refl)
    by (n ∷ others) e some =
        let here = known_at nodes texts at n_at (node.Branches kind (n ∷ others) from_here) knows e in
        moved_step nodes texts at variables it (step.Calls (ask.Branches kind at)) after from_here it_is after_is
        (branches_by nodes texts at variables kind n others from_here (subst (λ it. IsAt nodes at it) e is) here.stands here.parts.2 here.parts.0)
