-- What it says that a step of the reading of scripts gives values of some kind, and how that goes from step to step.
use Rattle.std.proofs.Common.{◌≡◌, ℕ, Bool, true, false, Ok, refl, subst}
use Rattle.spec_script.specs.Faults.{ScriptFault}
use Rattle.spec_script.specs.Reads.{Made, Reads, ◌>>>◌, gives, refuses, requires_that}
use Rattle.spec_script.specs.Expressions.{has_room}
use Rattle.law_script.proofs.Trees.Steps.{same_Ok, err-ok, both_gave}

-- where the step gives a value, that is such a value
pub record Gives {A : Type 0} (P : A → Type 0) (read : Reads A) : Type 0 where
  pub holds : (made : Made) (x : A × Made) → read made ≡ Ok x → P x.0

pub given : {A : Type 0} {P : A → Type 0} (a : A) → P a → Gives P (gives a)
given {A} {P} a holds = record { holds = λ made x e. subst (λ (found : A × Made). P found.0) (same_Ok (a, made) x e) holds }

pub refused : {A : Type 0} {P : A → Type 0} (fault : ScriptFault) → Gives P (refuses fault)
refused fault = record { holds = λ made x e. absurd (err-ok _ _ e) }

pub weaker : {A : Type 0} {P Q : A → Type 0} {read : Reads A} → ((a : A) → P a → Q a) → Gives P read → Gives Q read
weaker so gives_it = record { holds = λ made x e. so x.0 (gives_it.holds made x e) }

-- the next step knows what the value of this one is
pub going_on : {A B : Type 0} {P : A → Type 0} {Q : B → Type 0} {read : Reads A} {next : A → Reads B}
    → Gives P read → ((a : A) → P a → Gives Q (next a)) → Gives Q (read >>> next)
going_on {A} {B} {P} {Q} {read} {next} first others = record {
  holds = λ made y e.
      let both = both_gave (read made) (λ found. next found.0 found.1) y e in
      (others both.0.0 (first.holds made both.0 both.1)).holds both.0.1 y both.2;
}

-- behind a step of which nothing is said
pub past : {A B : Type 0} {Q : B → Type 0} (read : Reads A) {next : A → Reads B} → ((a : A) → Gives Q (next a)) → Gives Q (read >>> next)
past {A} {B} {Q} read {next} others = record {
  holds = λ made y e.
      let both = both_gave (read made) (λ found. next found.0 found.1) y e in
      (others both.0.0).holds both.0.1 y both.2;
}

-- where a test is met
pub met : {B : Type 0} {Q : B → Type 0} (test : Bool) (fault : ScriptFault) {next : Reads B}
    → (test ≡ true → Gives Q next) → Gives Q (requires_that test fault >>> λ _. next)
met true fault others = record { holds = λ made y e. (others refl).holds made y e }
met false fault others = record { holds = λ made y e. absurd (err-ok _ _ e) }

-- where there is room for one more item
pub with_room : {B : Type 0} {Q : B → Type 0} (full : Bool) (at : ℕ) {next : Reads B}
    → (full ≡ false → Gives Q next) → Gives Q (has_room full at >>> λ _. next)
with_room true at others = record { holds = λ made y e. absurd (err-ok _ _ e) }
with_room false at others = record { holds = λ made y e. (others refl).holds made y e }
