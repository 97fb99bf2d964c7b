-- What it says that a step of the reading of scripts gives values of some kind where, in the end, each form that is listed is a good one.
-- A step adds forms and takes none away. So where all are good behind it, all were before it.
use Rattle.std.proofs.Common.{◌≡◌, ℕ, ◌+◌, Bool, true, false, List, [], ◌∷◌, ◌++◌, Ok, subst}
use Rattle.std.specs.List.{AllByRecursion as Each}
use Rattle.spec_script.specs.declared.Feature.{Feature}
use Rattle.spec_script.specs.Faults.{ScriptFault}
use Rattle.spec_script.specs.Reads.{Formed, Made, Reads, ◌>>>◌, gives, refuses, requires_that, next_node, one_node, one_form}
use Rattle.law_script.proofs.Trees.Steps.{same_Ok, err-ok, both_gave}

-- where the step gives a value and each form is a good one then, each was so before, and that is such a value
pub record Brings (Good : Formed → Type 0) {A : Type 0} (P : A → Type 0) (read : Reads A) : Type 0 where
  pub holds : (made : Made) (x : A × Made) → read made ≡ Ok x → Each Good x.1.formed → Each Good made.formed × P x.0

abbrev pub Anything : {A : Type 0} → A → Type 0
Anything a = Unit {0}

-- a step of which nothing else is said
abbrev pub Keeps : (Formed → Type 0) → {A : Type 0} → Reads A → Type 0
Keeps Good {A} read = Brings Good {A = A} Anything read

-- ## Steps

pub told : {Good : Formed → Type 0} {A : Type 0} {P : A → Type 0} (value : Made → A) (change : Made → Made)
    → ((made : Made) → Each Good (change made).formed → Each Good made.formed × P (value made)) → Brings Good P (λ made. Ok (value made, change made))
told {Good} {A} {P} value change so = record {
  holds = λ made x e.
      subst (λ (found : A × Made). Each Good found.1.formed → Each Good made.formed × P found.0) (same_Ok (value made, change made) x e) (so made);
}

pub given : {Good : Formed → Type 0} {A : Type 0} {P : A → Type 0} (a : A) → P a → Brings Good P (gives a)
given a holds = told (λ made. a) (λ made. made) (λ made good. (good, holds))

pub refused : {Good : Formed → Type 0} {A : Type 0} {P : A → Type 0} (fault : ScriptFault) → Brings Good P (refuses fault)
refused fault = record { holds = λ made x e. absurd (err-ok _ _ e) }

-- what is known of the first value is a premise behind the next step
pub going_on : {Good : Formed → Type 0} {A B : Type 0} {P : A → Type 0} {Q : B → Type 0} {read : Reads A} {next : A → Reads B}
    → Brings Good P read → ((a : A) → Brings Good (λ b. P a → Q b) (next a)) → Brings Good Q (read >>> next)
going_on {Good} {A} {B} {P} {Q} {read} {next} first others = record {
  holds = λ made y e good.
      let both = both_gave (read made) (λ found. next found.0 found.1) y e in
      let behind = (others both.0.0).holds both.0.1 y both.2 good in
      let before = first.holds made both.0 both.1 behind.0 in
      (before.0, behind.1 before.1);
}

pub past : {Good : Formed → Type 0} {A B : Type 0} {Q : B → Type 0} {read : Reads A} {next : A → Reads B} → Keeps Good read → ((a : A) → Brings Good Q (next a)) → Brings Good Q (read >>> next)
past {Good} {A} {B} {Q} {read} {next} first others = record {
  holds = λ made y e good.
      let both = both_gave (read made) (λ found. next found.0 found.1) y e in
      let behind = (others both.0.0).holds both.0.1 y both.2 good in
      ((first.holds made both.0 both.1 behind.0).0, behind.1);
}

pub met : {Good : Formed → Type 0} {B : Type 0} {Q : B → Type 0} (test : Bool) (fault : ScriptFault) {next : Reads B} → Brings Good Q next → Brings Good Q (requires_that test fault >>> λ _. next)
met true fault others = record { holds = λ made y e. others.holds made y e }
met false fault others = record { holds = λ made y e. absurd (err-ok _ _ e) }

-- ## What steps make

pub one_node_keeps : {Good : Formed → Type 0} → Keeps Good one_node
one_node_keeps = told (λ made. tt) (λ made. record made { nodes = made.nodes + 1 }) (λ made good. (good, tt))

pub next_node_keeps : {Good : Formed → Type 0} → Keeps Good next_node
next_node_keeps = told (λ made. made.nodes) (λ made. made) (λ made good. (good, tt))

parts_good : (Good : Formed → Type 0) (forms more : List Formed) → Each Good (forms ++ more) → Each Good forms × Each Good more
parts_good Good [] more good = (tt, good)
parts_good Good (it ∷ forms) more good = let rest = parts_good Good forms more good.1 in ((good.0, rest.0), rest.1)

pub one_form_brings : {Good : Formed → Type 0} (at : ℕ) (feature : Feature) (mocked : Bool)
    → Brings Good (λ _. Good (record { at = at; feature = feature; mocked = mocked })) (one_form at feature mocked)
one_form_brings {Good} at feature mocked =
    let it : Formed = record { at = at; feature = feature; mocked = mocked } in
    told (λ made. tt) (λ made. record made { formed = made.formed ++ it ∷ [] })
    (λ made good. let both = parts_good Good made.formed (it ∷ []) good in (both.0, both.1.0))

pub weaker : {Good : Formed → Type 0} {A : Type 0} {P Q : A → Type 0} {read : Reads A} → ((a : A) → P a → Q a) → Brings Good P read → Brings Good Q read
weaker so brings = record { holds = λ made x e good. let found = brings.holds made x e good in (found.0, so x.0 found.1) }

pub keeping : {Good : Formed → Type 0} {A : Type 0} {P : A → Type 0} {read : Reads A} → Brings Good P read → Keeps Good read
keeping brings = weaker (λ a is. tt) brings

pub form_keeps : {Good : Formed → Type 0} (at : ℕ) (feature : Feature) (mocked : Bool) → Keeps Good (one_form at feature mocked)
form_keeps at feature mocked = keeping (one_form_brings at feature mocked)
