-- What the forms are that are built today, and that what is said of trees holds of the inputs that `mock` runs.
use Rattle.std.proofs.Common.{◌≡◌, ℕ, true, false, List, [], ◌∷◌, Option, Some, None, Ok, refl, subst}
use Rattle.std.specs.Prelude.{All}
use Rattle.std.proofs.lemmas.Bool.{false≢true}
use Rattle.std.proofs.lemmas.List.Elements.{All-head, All-weaker}
use Rattle.spec_script.specs.Declarations.{Declaration, Stream, Promise, Semaphore, Mutex, Pool, Executor, Flow, Dir}
use Rattle.spec_script.specs.Features.{Built, is_built}
use Rattle.spec_script.specs.Inputs.{input_script, unless_at, mocked_script}
use Rattle.spec_script.specs.RefusedForms.{domain_only, unbuilt}
use Rattle.spec_script.specs.Refusals.{Refusal, DomainOnly, Unbuilt}
use Rattle.spec_script.specs.Results.{◌>>=◌}
use Rattle.spec_script.specs.Scripts.{Script, script_of}
use Rattle.spec_script.specs.Syntax.{ObjectCall, Take, TakeNonblocking, Length, Await, Acquire, Release, Lock, TryLock, Unlock, Statement, Let, LetForm, If, Give, Raise, Try, Repeat, Loop, Trace, Yield, Check, AwaitCancel, Sub, Protect, Cancel, Switch, Fork, Plain, Daemon, Fail, OnRelease, Branches, OnObject, Block, Begins, Statements, Done, Then, Blocks, NoBlocks, AndBlock}
use Rattle.law_domain.specs.Sound.BuiltForms.{IsBuilt, IsBuiltBlock, AreBuiltBranches, AreBuilt}
use Rattle.law_script.proofs.Scripts.Scripts.{script_is_read}
use Rattle.law_script.proofs.Trees.Steps.{same_Ok, err-ok, both_gave}
use Rattle.law_domain.specs.Forms.FeatureForms.{called_by, declared_by, Alone, IsOf, IsBlockOf, AreBranchesOf, AreOf, HasFormsOf}
use Rattle.law_domain.specs.Forms.Laws.{WhereBuilt, WhereMocked, MockedFeaturesAlone, with_groups, HasBuiltFormsAlone, GroupFormsAlone, MockedGroupFormsAlone}
use Rattle.law_domain.proofs.Forms.FeatureScripts.{IsDeclaredOf, built_features}

-- ## What `mock` runs

-- an input that `mock` runs is a tree that stands for a script in which nothing is unbuilt
where_mocked : (built : Built) (Holds : Script → Type 0) → WhereBuilt built Holds → WhereMocked built Holds
unfolding mocked_script
where_mocked built Holds so bytes script e =
    let read = both_gave (input_script bytes) (λ script. unless_at DomainOnly (domain_only script) script >>= λ one. unless_at Unbuilt (unbuilt built one) one) script e in
    let rest = both_gave (unless_at DomainOnly (domain_only read.0) read.0) (λ one. unless_at Unbuilt (unbuilt built one) one) script read.2 in
    let whole = unless_is DomainOnly (domain_only read.0) read.0 rest.0 rest.1 in
    let plain = unless_is Unbuilt (unbuilt built rest.0) rest.0 script rest.2 in
    let own = script_is_read bytes read.0 read.1 in
    let tree_of : script_of own.0 ≡ Ok script = subst (λ s. script_of own.0 ≡ Ok s) plain.1 (subst (λ s. script_of own.0 ≡ Ok s) whole.1 own.2) in
    so own.0 script tree_of (subst (λ s. unbuilt built s ≡ None) plain.1 plain.0)
  where
    unless_is : (refusal : ℕ → Refusal) (at : Option ℕ) (script found : Script) → unless_at refusal at script ≡ Ok found → (at ≡ None) × (script ≡ found)
    unless_is refusal None script found e = (refl, same_Ok script found e)
    unless_is refusal (Some at) script found e = absurd (err-ok _ _ e)

pub mocked_features : MockedFeaturesAlone
mocked_features built = where_mocked built (HasFormsOf built) (built_features built)

-- ## Nothing is declared

undeclared : (it : Declaration) → is_built with_groups (declared_by it) ≡ true → ⊥
undeclared (Stream capacity) is = false≢true is
undeclared Promise is = false≢true is
undeclared (Semaphore count) is = false≢true is
undeclared Mutex is = false≢true is
undeclared (Pool size) is = false≢true is
undeclared (Executor workers) is = false≢true is
undeclared (Flow steps) is = false≢true is
undeclared (Dir directory) is = false≢true is

nothing_declared : (these : List Declaration) → All (IsDeclaredOf with_groups) these → these ≡ []
nothing_declared [] are = refl
nothing_declared (it ∷ rest) are = absurd (undeclared it (All-head (IsDeclaredOf with_groups) it rest are))

uncalled : (call : ObjectCall) → Alone (is_built with_groups (called_by call)) → ⊥
uncalled Take is = is
uncalled TakeNonblocking is = is
uncalled Length is = is
uncalled Await is = is
uncalled Acquire is = is
uncalled Release is = is
uncalled Lock is = is
uncalled TryLock is = is
uncalled Unlock is = is

-- ## Today's forms

mutual
  unfolding IsOf IsBlockOf AreBranchesOf AreOf IsBuilt IsBuiltBlock AreBuiltBranches AreBuilt

  is_built_form : (it : Statement) → IsOf with_groups it → IsBuilt it
  is_built_form (Let e) is = tt
  is_built_form (LetForm form) is = is_built_form form is
  is_built_form (If test first second) is = (is_built_block first is.0, is_built_block second is.1)
  is_built_form (Give e) is = tt
  is_built_form (Raise text) is = tt
  is_built_form (Try tried handler) is = (is_built_block tried is.0, is_built_block handler is.1)
  is_built_form (Repeat times body) is = is_built_block body is
  is_built_form (Loop body) is = is_built_block body is
  is_built_form (Trace operands) is = tt
  is_built_form Yield is = tt
  is_built_form Check is = tt
  is_built_form AwaitCancel is = tt
  is_built_form (Sub body) is = is_built_block body is
  is_built_form (Protect body) is = is_built_block body is
  is_built_form (Cancel context text) is = tt
  is_built_form (Switch body) is = is_built_block body is
  is_built_form (Fork Plain switch body) is = is_built_block body is
  is_built_form (Fork Daemon switch body) is = is_built_block body is
  is_built_form (Fail switch text) is = tt
  is_built_form (OnRelease switch handler) is = is_built_block handler is
  is_built_form (Branches group branches) is = (is.0, are_built_branches branches is.1)
  is_built_form (OnObject call object) is = uncalled call is
  is_built_form other is = is

  is_built_block : (block : Block) → IsBlockOf with_groups block → IsBuiltBlock block
  is_built_block (Begins number items) is = are_all_built items is

  are_built_branches : (branches : Blocks) → AreBranchesOf with_groups branches → AreBuiltBranches branches
  are_built_branches NoBlocks is = tt
  are_built_branches (AndBlock block rest) is = (is_built_block block is.0, are_built_branches rest is.1)

  are_all_built : (items : Statements) → AreOf with_groups items → AreBuilt items
  are_all_built Done is = tt
  are_all_built (Then it rest) is = (is_built_form it is.0, are_all_built rest is.1)

pub group_forms : GroupFormsAlone
group_forms tree script e nothing =
    let has = built_features with_groups tree script e nothing in
    (All-weaker (IsBlockOf with_groups) IsBuiltBlock is_built_block script.bodies has.bodies, nothing_declared script.declarations has.declarations)

pub mocked_group_forms : MockedGroupFormsAlone
mocked_group_forms = where_mocked with_groups HasBuiltFormsAlone group_forms
