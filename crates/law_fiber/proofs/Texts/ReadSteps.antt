-- What it says that a step of the reading of scripts gives values of some kind, by what holds in the end: no more than so many texts are made, and each text
-- with which a fiber may fail is a good one.
-- A step adds texts and takes none away. So what holds behind it held before it.
use Rattle.std.proofs.Common.{◌≡◌, ℕ, ◌+◌, ◌<◌, ◌≤◌, Bool, true, false, List, [], ◌∷◌, ◌++◌, Result, Ok, Err, length, refl, subst, arith}
use Rattle.std.specs.List.{AllByRecursion as Each}
use Rattle.eio_value.specs.Table.{intern}
use Rattle.eio_value.specs.declared.value.TextId.{TextId}
use Rattle.spec_script.specs.declared.Feature.{Feature}
use Rattle.spec_script.specs.Faults.{ScriptFault, Shape}
use Rattle.spec_script.specs.Forms.{Form, feature_of}
use Rattle.spec_script.specs.Reads.{Made, Reads, ◌>>>◌, gives, refuses, requires_that, next_node, one_node, one_form, interned, text_of, failure_of}
use Rattle.spec_script.specs.Results.{◌>>=◌}
use Rattle.spec_script.specs.Statements.{form_node}
use Rattle.spec_script.specs.Trees.{Tree, Text, Trees, place_of}
use Rattle.law_fiber.specs.Texts.Texts.{Written}
use Rattle.law_fiber.proofs.Texts.Tables.{begins_longer}
use Rattle.law_fiber.proofs.Texts.Tables as tables

-- ## Results

pub same_Ok : {A E : Type 0} (x y : A) → ◌≡◌ {A = Result A E} (Ok x) (Ok y) → x ≡ y
same_Ok x y e = cc

pub err-ok : {A E : Type 0} (x : E) (y : A) → Err x ≡ Ok y → ⊥
err-ok x y e = cc

-- both steps gave one
pub both_gave : {A B E : Type 0} (r : Result A E) (f : A → Result B E) (y : B) → (r >>= f) ≡ Ok y → (x : A) × (r ≡ Ok x) × (f x ≡ Ok y)
both_gave (Ok x) f y e = (x, refl, e)
both_gave (Err x) f y e = absurd (err-ok _ _ e)

-- ## What holds in the end

-- how many texts are made at most, and which are good to fail with
pub record End : Type 1 where
  pub most : ℕ
  pub good : TextId → Type 0

abbrev pub IsBelow : End → TextId → Type 0
IsBelow end id = id.0 < end.most

-- what is known of the texts that are read
abbrev pub written_by : End → Written
written_by end = record { text = IsBelow end; failure = end.good }

abbrev pub IsWithin : End → Made → Type 0
IsWithin end made = (length made.texts ≤ end.most) × Each end.good made.failures

-- the texts with which a fiber may fail are made
abbrev pub AreBelow : End → Made → Type 0
AreBelow end made = Each (IsBelow end) made.failures

-- where the step gives a value and it holds then, it held before, and that is such a value; and the texts to fail with stay made
pub record Brings (end : End) {A : Type 0} (P : A → Type 0) (read : Reads A) : Type 0 where
  pub holds : (made : Made) (x : A × Made) → read made ≡ Ok x → IsWithin end x.1 → IsWithin end made × P x.0 × (AreBelow end made → AreBelow end x.1)

abbrev pub Anything : {A : Type 0} → A → Type 0
Anything a = Unit {0}

-- a step of which nothing else is said
abbrev pub Keeps : End → {A : Type 0} → Reads A → Type 0
Keeps end {A} read = Brings end {A = A} Anything read

-- ## Steps

pub told : {end : End} {A : Type 0} {P : A → Type 0} (value : Made → A) (change : Made → Made)
    → ((made : Made) → IsWithin end (change made) → IsWithin end made × P (value made) × (AreBelow end made → AreBelow end (change made)))
    → Brings end P (λ made. Ok (value made, change made))
told {end} {A} {P} value change so = record {
  holds = λ made x e.
      subst (λ (found : A × Made). IsWithin end found.1 → IsWithin end made × P found.0 × (AreBelow end made → AreBelow end found.1))
      (same_Ok (value made, change made) x e) (so made);
}

pub given : {end : End} {A : Type 0} {P : A → Type 0} (a : A) → P a → Brings end P (gives a)
given a holds = told (λ made. a) (λ made. made) (λ made within. (within, holds, λ below. below))

pub refused : {end : End} {A : Type 0} {P : A → Type 0} (fault : ScriptFault) → Brings end P (refuses fault)
refused fault = record { holds = λ made x e. absurd (err-ok _ _ e) }

-- what is known of the first value is a premise behind the next step
pub going_on : {end : End} {A B : Type 0} {P : A → Type 0} {Q : B → Type 0} {read : Reads A} {next : A → Reads B}
    → Brings end P read → ((a : A) → Brings end (λ b. P a → Q b) (next a)) → Brings end Q (read >>> next)
going_on {end} {A} {B} {P} {Q} {read} {next} first others = record {
  holds = λ made y e within.
      let both = both_gave (read made) (λ found. next found.0 found.1) y e in
      let behind = (others both.0.0).holds both.0.1 y both.2 within in
      let before = first.holds made both.0 both.1 behind.0 in
      (before.0, behind.1 before.1, λ below. behind.2 (before.2 below));
}

pub past : {end : End} {A B : Type 0} {Q : B → Type 0} {read : Reads A} {next : A → Reads B} → Keeps end read → ((a : A) → Brings end Q (next a))
    → Brings end Q (read >>> next)
past {end} {A} {B} {Q} {read} {next} first others = record {
  holds = λ made y e within.
      let both = both_gave (read made) (λ found. next found.0 found.1) y e in
      let behind = (others both.0.0).holds both.0.1 y both.2 within in
      let before = first.holds made both.0 both.1 behind.0 in
      (before.0, behind.1, λ below. behind.2 (before.2 below));
}

pub met : {end : End} {B : Type 0} {Q : B → Type 0} (test : Bool) (fault : ScriptFault) {next : Reads B} → Brings end Q next
    → Brings end Q (requires_that test fault >>> λ _. next)
met true fault others = record { holds = λ made y e. others.holds made y e }
met false fault others = record { holds = λ made y e. absurd (err-ok _ _ e) }

pub test_keeps : {end : End} (test : Bool) (fault : ScriptFault) → Keeps end (requires_that test fault)
test_keeps true fault = given tt tt
test_keeps false fault = refused fault

pub weaker : {end : End} {A : Type 0} {P Q : A → Type 0} {read : Reads A} → ((a : A) → P a → Q a) → Brings end P read → Brings end Q read
weaker so brings = record { holds = λ made x e within. let found = brings.holds made x e within in (found.0, so x.0 found.1, found.2) }

-- ## What steps make

pub one_node_keeps : {end : End} → Keeps end one_node
one_node_keeps = told (λ made. tt) (λ made. record made { nodes = made.nodes + 1 }) (λ made within. (within, tt, λ below. below))

pub next_node_keeps : {end : End} → Keeps end next_node
next_node_keeps = told (λ made. made.nodes) (λ made. made) (λ made within. (within, tt, λ below. below))

pub form_keeps : {end : End} (at : ℕ) (feature : Feature) (mocked : Bool) → Keeps end (one_form at feature mocked)
form_keeps at feature mocked =
    told (λ made. tt) (λ made. record made { formed = made.formed ++ record { at = at; feature = feature; mocked = mocked } ∷ [] })
    (λ made within. (within, tt, λ below. below))

pub form_node_keeps : {end : End} (at : ℕ) (it : Form) (items : Trees) → Keeps end (form_node at it items)
form_node_keeps at it items = past (form_keeps at (feature_of it items) it.mocked) λ _. one_node_keeps

-- ## Texts

fewer : (texts : List (List ℕ)) (text : List ℕ) (n : ℕ) → length (intern texts text).texts ≤ n → length texts ≤ n
fewer texts text n most = let longer = begins_longer texts (intern texts text).texts (tables.interned texts text).begins in omega (arith, longer, most)

among : (texts : List (List ℕ)) (text : List ℕ) (n : ℕ) → length (intern texts text).texts ≤ n → (intern texts text).id.0 < n
among texts text n most = let has = (tables.interned texts text).has in omega (arith, has, most)

pub interned_is : {end : End} (text : List ℕ) → Brings end (IsBelow end) (interned text)
interned_is {end} text =
    told (λ made. (intern made.texts text).id) (λ made. record made { texts = (intern made.texts text).texts })
    (λ made within. ((fewer made.texts text end.most within.0, within.1), among made.texts text end.most within.0, λ below. below))

pub interned_keeps : {end : End} (text : List ℕ) → Keeps end (interned text)
interned_keeps text = weaker (λ a is. tt) (interned_is text)

pub text_keeps : {end : End} (tree : Tree) → Keeps end (text_of tree)
text_keeps (Text at text) = interned_keeps text
text_keeps tree = refused (Shape (place_of tree))

parts_good : {X : Type 0} (P : X → Type 0) (xs more : List X) → Each P (xs ++ more) → Each P xs × Each P more
parts_good P [] more good = (tt, good)
parts_good P (x ∷ xs) more good = let rest = parts_good P xs more good.1 in ((good.0, rest.0), rest.1)

push_below : {X : Type 0} (P : X → Type 0) (xs : List X) (x : X) → P x → Each P xs → Each P (xs ++ x ∷ [])
push_below P [] x last below = (last, tt)
push_below P (y ∷ ys) x last below = (below.0, push_below P ys x last below.1)

-- a text to fail with is a good one in the end
pub failure_is : {end : End} (tree : Tree) → Brings end end.good (failure_of tree)
failure_is {end} (Text at text) =
    told (λ made. (intern made.texts text).id)
    (λ made. record made { texts = (intern made.texts text).texts; failures = made.failures ++ (intern made.texts text).id ∷ [] })
    (λ made within.
    let parts = parts_good end.good made.failures ((intern made.texts text).id ∷ []) within.1 in (
      (fewer made.texts text end.most within.0, parts.0),
      parts.1.0,
      push_below (IsBelow end) made.failures (intern made.texts text).id (among made.texts text end.most within.0),
    ))
failure_is tree = refused (Shape (place_of tree))
