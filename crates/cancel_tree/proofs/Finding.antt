-- Numbers that rise: where one stands among them, and what one more or one fewer changes.
use Rattle.std.proofs.Common.{◌≡◌, ℕ, zero, suc, ◌+◌, ◌<◌, ◌≤◌, ◌≢◌, inl, inr, true, false, ◌==◌, nat_lt, List, [], ◌∷◌, ◌++◌, length, get_or, take, drop, Option, Some, None, arith, refl, ap, ◌∙◌, sym, subst, true≢false}
use Rattle.std.specs.Prelude.{slice_get}
use Rattle.std.specs.List.{AllWithin}
use Rattle.std.specs.List.Sorted.{IsPartitionedBy}
use Rattle.std.proofs.lemmas.Bool.Decides.{eqb_tells}
use Rattle.std.proofs.lemmas.Grind.{common_steps}
use Rattle.cancel_tree.specs.declared.kept.ContextKey.{ContextKey}
use Rattle.cancel_tree.specs.Places.{place_at, AreAbove, AreBelow, Rise}

pub lower : (a b : ℕ) → nat_lt a b ≡ true → a < b
lower a b h = grind (arith, common_steps)

pub not_lower : (a b : ℕ) → nat_lt a b ≡ false → b ≤ a
not_lower a b h = grind (arith, common_steps)

pub tests_lower : (a b : ℕ) → a < b → nat_lt a b ≡ true
tests_lower a b h = grind (arith, common_steps)

pub tests_not_lower : (a b : ℕ) → b ≤ a → nat_lt a b ≡ false
tests_not_lower a b h = grind (arith, common_steps)

pub tells_other : (a b : ℕ) → a ≢ b → (a == b) ≡ false
tells_other a b h = elim (eqb_tells a b) [ inl same ↦ absurd (h same.1) | inr other ↦ other.0 ]

pub tells_same : (a b : ℕ) → a ≡ b → (a == b) ≡ true
tells_same a b h = elim (eqb_tells a b) [ inl same ↦ same.0 | inr other ↦ absurd (other.1 h) ]

pub same_number : (a b : ℕ) → (a == b) ≡ true → a ≡ b
same_number a b h = elim (eqb_tells a b) [ inl same ↦ same.1 | inr other ↦ absurd (true≢false (sym h ∙ other.0)) ]

-- the place of a number, where the first one has it or not
pub place_at-here : (place : ContextKey) (places : List ContextKey) (c : ℕ) → place.number ≡ c → place_at (place ∷ places) c ≡ Some place
place_at-here place places c h = rw (tells_same place.number c h, place_at) refl

pub place_at-past : (place : ContextKey) (places : List ContextKey) (c : ℕ) → place.number ≢ c → place_at (place ∷ places) c ≡ place_at places c
place_at-past place places c h = rw (tells_other place.number c h, place_at) refl

-- Order

AreAbove-lower : (a b : ℕ) (places : List ContextKey) → a < b → AreAbove b places → AreAbove a places
AreAbove-lower a b [] h all = tt
AreAbove-lower a b (place ∷ places) h all = ((let k : b < place.number = all.0 in omega arith), AreAbove-lower a b places h all.1)

pub absent_above : (c : ℕ) (places : List ContextKey) → AreAbove c places → place_at places c ≡ None
absent_above c [] all = refl
absent_above c (place ∷ places) all =
    let k : c < place.number = all.0 in
    place_at-past place places c (λ e. absurd (omega arith)) ∙ absent_above c places all.1

pub absent_below : (c : ℕ) (places : List ContextKey) → AreBelow c places → place_at places c ≡ None
absent_below c [] all = refl
absent_below c (place ∷ places) all =
    let k : place.number < c = all.0 in
    place_at-past place places c (λ e. absurd (omega arith)) ∙ absent_below c places all.1

AreAbove-at : (c : ℕ) (places : List ContextKey) (j : ℕ) (d : ContextKey) → AreAbove c places → j < length places → c < (get_or places j d).number
AreAbove-at c [] j d all h = absurd (omega arith)
AreAbove-at c (place ∷ places) zero d all h = all.0
AreAbove-at c (place ∷ places) (suc j) d all h = AreAbove-at c places j d all.1 (omega arith)

-- no number below c stands behind one that isn't
pub first_are_lower : (c : ℕ) (places : List ContextKey) → Rise places → IsPartitionedBy (λ place. nat_lt place.number c) places
first_are_lower c [] rise i j d le h t = absurd (omega arith)
first_are_lower c (place ∷ places) rise zero zero d le h t = t
first_are_lower c (place ∷ places) rise zero (suc j) d le h t =
    let k : place.number < (get_or places j d).number = AreAbove-at place.number places j d rise.0 (omega arith) in
    let l : (get_or places j d).number < c = lower _ _ t in
    tests_lower place.number c (omega arith)
first_are_lower c (place ∷ places) rise (suc i) zero d le h t = absurd (omega arith)
first_are_lower c (place ∷ places) rise (suc i) (suc j) d le h t = first_are_lower c places rise.1 i j d (omega arith) (omega arith) t

-- the numbers below c stand before this index, the others from it on
pub record Parts (c : ℕ) (places : List ContextKey) (i : ℕ) : Type 0 where
  pub within : i ≤ length places
  pub before : AllWithin (λ place. nat_lt place.number c ≡ true) places 0 i
  pub behind : AllWithin (λ place. nat_lt place.number c ≡ false) places i (length places)

Parts-rest : (c : ℕ) (place : ContextKey) (places : List ContextKey) (i : ℕ) → Parts c (place ∷ places) (suc i) → Parts c places i
Parts-rest c place places i parts = record {
  within = (let h : suc i ≤ suc (length places) = parts.within in omega arith);
  before = λ k d low high. parts.before (suc k) d (omega arith) (omega arith);
  behind = λ k d low high. parts.behind (suc k) d (omega arith) (let h : suc k < suc (length places) = omega arith in h);
}

-- what stands there, if it has the number
abbrev pub if_number : ℕ → Option ContextKey → Option ContextKey
if_number c None = None
if_number c (Some place) = elim (place.number == c) [ true ↦ Some place | false ↦ None ]

pub place_found : (c : ℕ) (places : List ContextKey) (i : ℕ) → Rise places → Parts c places i → if_number c (slice_get places i) ≡ place_at places c
place_found c [] i rise parts = refl
place_found c (place ∷ places) zero rise parts =
    let h : c ≤ place.number = not_lower place.number c (parts.behind 0 place (omega arith) (omega arith)) in
    elim (eqb_tells place.number c) [
      | inl same ↦ rw (same.0, if_number) (sym (place_at-here place places c same.1))
      | inr other ↦
          let k : place.number ≢ c = other.1 in
          let above : c < place.number = omega arith in
          rw (other.0, if_number) (sym (place_at-past place places c other.1 ∙ absent_above c places (AreAbove-lower c place.number places above rise.0)))
    ]
place_found c (place ∷ places) (suc i) rise parts =
    let h : place.number < c = lower place.number c (parts.before 0 place (omega arith) (omega arith)) in
    place_found c places i rise.1 (Parts-rest c place places i parts) ∙ sym (place_at-past place places c (λ e. absurd (omega arith)))

pub slice_get-at : (places : List ContextKey) (i : ℕ) (place : ContextKey) → i < length places → place ≡ get_or places i place → slice_get places i ≡ Some place
slice_get-at [] i place h e = absurd (omega arith)
slice_get-at (first ∷ places) zero place h e = ap Some (sym e)
slice_get-at (first ∷ places) (suc i) place h e = slice_get-at places i place (omega arith) e

pub slice_get-past : (places : List ContextKey) (i : ℕ) → length places ≤ i → slice_get places i ≡ None
slice_get-past [] i h = refl
slice_get-past (first ∷ places) zero h = absurd (omega arith)
slice_get-past (first ∷ places) (suc i) h = slice_get-past places i (omega arith)

pub if_number-is : (c : ℕ) (place : ContextKey) → place.number ≡ c → if_number c (Some place) ≡ Some place
if_number-is c place h = rw (tells_same place.number c h, if_number) refl

pub if_number-other : (c : ℕ) (place : ContextKey) → place.number ≢ c → if_number c (Some place) ≡ None
if_number-other c place h = rw (tells_other place.number c h, if_number) refl

-- what is found has the number
pub place_at-number : (places : List ContextKey) (c : ℕ) (place : ContextKey) → place_at places c ≡ Some place → place.number ≡ c
place_at-number [] c place e = cc
place_at-number (first ∷ places) c place e = elim (eqb_tells first.number c) [
  | inl same ↦ let k : Some first ≡ Some place = sym (place_at-here first places c same.1) ∙ e in let h : first ≡ place = cc in ap (λ place. place.number) (sym h) ∙ same.1
  | inr other ↦ place_at-number places c place (sym (place_at-past first places c other.1) ∙ e)
]

AreBelow-higher : (a b : ℕ) (places : List ContextKey) → a ≤ b → AreBelow a places → AreBelow b places
AreBelow-higher a b [] h all = tt
AreBelow-higher a b (place ∷ places) h all = ((let k : place.number < a = all.0 in omega arith), AreBelow-higher a b places h all.1)

pub absent_past : (made c : ℕ) (places : List ContextKey) → made ≤ c → AreBelow made places → place_at places c ≡ None
absent_past made c places h all = absent_below c places (AreBelow-higher made c places h all)

pub below_found : (made : ℕ) (places : List ContextKey) (c : ℕ) (place : ContextKey) → AreBelow made places → place_at places c ≡ Some place → c < made
below_found made [] c place all e = cc
below_found made (first ∷ places) c place all e = elim (eqb_tells first.number c) [
  | inl same ↦ let k : first.number < made = all.0 in let h : first.number ≡ c = same.1 in omega arith
  | inr other ↦ below_found made places c place all.1 (sym (place_at-past first places c other.1) ∙ e)
]

-- One more, behind the others

AreAbove-append : (a : ℕ) (places : List ContextKey) (new : ContextKey) → AreAbove a places → a < new.number → AreAbove a (places ++ new ∷ [])
AreAbove-append a [] new all h = (h, tt)
AreAbove-append a (place ∷ places) new all h = (all.0, AreAbove-append a places new all.1 h)

pub AreBelow-append : (n : ℕ) (places : List ContextKey) (new : ContextKey) → AreBelow n places → new.number < n → AreBelow n (places ++ new ∷ [])
AreBelow-append n [] new all h = (h, tt)
AreBelow-append n (place ∷ places) new all h = (all.0, AreBelow-append n places new all.1 h)

pub AreBelow-next : (n : ℕ) (places : List ContextKey) (new : ContextKey) → AreBelow n places → new.number ≡ n → AreBelow (n + 1) (places ++ new ∷ [])
AreBelow-next n places new all e = AreBelow-append (n + 1) places new (AreBelow-higher n (n + 1) places (omega arith) all) (omega arith)

pub Rise-append : (places : List ContextKey) (new : ContextKey) → Rise places → AreBelow new.number places → Rise (places ++ new ∷ [])
Rise-append [] new rise below = (tt, tt)
Rise-append (place ∷ places) new rise below = (AreAbove-append place.number places new rise.0 below.0, Rise-append places new rise.1 below.1)

pub place_at-append_other : (places : List ContextKey) (new : ContextKey) (x : ℕ) → new.number ≢ x → place_at (places ++ new ∷ []) x ≡ place_at places x
place_at-append_other [] new x other = place_at-past new [] x other
place_at-append_other (place ∷ places) new x other = elim (eqb_tells place.number x) [
  | inl same ↦ place_at-here place (places ++ new ∷ []) x same.1 ∙ sym (place_at-here place places x same.1)
  | inr apart ↦ place_at-past place (places ++ new ∷ []) x apart.1 ∙ place_at-append_other places new x other ∙ sym (place_at-past place places x apart.1)
]

pub place_at-append_itself : (places : List ContextKey) (new : ContextKey) (x : ℕ) → new.number ≡ x → place_at places x ≡ None → place_at (places ++ new ∷ []) x ≡ Some new
place_at-append_itself [] new x same none = place_at-here new [] x same
place_at-append_itself (place ∷ places) new x same none = elim (eqb_tells place.number x) [
  | inl here ↦ let e : Some place ≡ None = sym (place_at-here place places x here.1) ∙ none in cc
  | inr apart ↦ place_at-past place (places ++ new ∷ []) x apart.1 ∙ place_at-append_itself places new x same (sym (place_at-past place places x apart.1) ∙ none)
]

-- One fewer

abbrev pub rest_of : List ContextKey → ℕ → List ContextKey
rest_of places i = take i places ++ drop (suc i) places

AreAbove-rest : (a : ℕ) (places : List ContextKey) (i : ℕ) → AreAbove a places → AreAbove a (rest_of places i)
AreAbove-rest a [] zero all = tt
AreAbove-rest a [] (suc i) all = tt
AreAbove-rest a (place ∷ places) zero all = all.1
AreAbove-rest a (place ∷ places) (suc i) all = (all.0, AreAbove-rest a places i all.1)

pub AreBelow-rest : (n : ℕ) (places : List ContextKey) (i : ℕ) → AreBelow n places → AreBelow n (rest_of places i)
AreBelow-rest n [] zero all = tt
AreBelow-rest n [] (suc i) all = tt
AreBelow-rest n (place ∷ places) zero all = all.1
AreBelow-rest n (place ∷ places) (suc i) all = (all.0, AreBelow-rest n places i all.1)

pub Rise-rest : (places : List ContextKey) (i : ℕ) → Rise places → Rise (rest_of places i)
Rise-rest [] zero rise = tt
Rise-rest [] (suc i) rise = tt
Rise-rest (place ∷ places) zero rise = rise.1
Rise-rest (place ∷ places) (suc i) rise = (AreAbove-rest place.number places i rise.0, Rise-rest places i rise.1)

pub place_at-rest_other : (places : List ContextKey) (i : ℕ) (gone : ContextKey) (x : ℕ) → slice_get places i ≡ Some gone → gone.number ≢ x → place_at (rest_of places i) x ≡ place_at places x
place_at-rest_other [] i gone x e other = cc
place_at-rest_other (place ∷ places) zero gone x e other =
    let same : place ≡ gone = cc in
    sym (place_at-past place places x (λ k. other (ap (λ (place : ContextKey). place.number) (sym same) ∙ k)))
place_at-rest_other (place ∷ places) (suc i) gone x e other = elim (eqb_tells place.number x) [
  | inl here ↦ place_at-here place (rest_of places i) x here.1 ∙ sym (place_at-here place places x here.1)
  | inr apart ↦ place_at-past place (rest_of places i) x apart.1 ∙ place_at-rest_other places i gone x e other ∙ sym (place_at-past place places x apart.1)
]

number_above : (a : ℕ) (places : List ContextKey) (i : ℕ) (gone : ContextKey) → AreAbove a places → slice_get places i ≡ Some gone → a < gone.number
number_above a [] i gone all e = cc
number_above a (place ∷ places) zero gone all e =
    let same : place ≡ gone = cc in
    let k : a < place.number = all.0 in
    let n : place.number ≡ gone.number = ap (λ (place : ContextKey). place.number) same in
    omega arith
number_above a (place ∷ places) (suc i) gone all e = number_above a places i gone all.1 e

pub place_at-rest_itself : (places : List ContextKey) (i : ℕ) (gone : ContextKey) (x : ℕ) → Rise places → slice_get places i ≡ Some gone → gone.number ≡ x → place_at (rest_of places i) x ≡ None
place_at-rest_itself [] i gone x rise e same = cc
place_at-rest_itself (place ∷ places) zero gone x rise e same =
    let h : place ≡ gone = cc in
    let n : place.number ≡ x = ap (λ (place : ContextKey). place.number) h ∙ same in
    absent_above x places (subst (λ n. AreAbove n places) n rise.0)
place_at-rest_itself (place ∷ places) (suc i) gone x rise e same =
    let k : place.number < gone.number = number_above place.number places i gone rise.0 e in
    place_at-past place (rest_of places i) x (λ e. absurd (omega arith)) ∙ place_at-rest_itself places i gone x rise.1 e same

pub slice_get-within : (places : List ContextKey) (i : ℕ) (place : ContextKey) → slice_get places i ≡ Some place → i < length places
slice_get-within [] i place e = cc
slice_get-within (first ∷ places) zero place e = omega arith
slice_get-within (first ∷ places) (suc i) place e = let h : i < length places = slice_get-within places i place e in omega arith

-- what is found for a number stands at the index that parts the numbers there
pub at_index : (c : ℕ) (found : Option ContextKey) (place : ContextKey) → if_number c found ≡ Some place → found ≡ Some place
at_index c None place e = cc
at_index c (Some first) place e = elim (eqb_tells first.number c) [
  | inl same ↦ sym (if_number-is c first same.1) ∙ e
  | inr other ↦ let k : None ≡ Some place = sym (if_number-other c first other.1) ∙ e in cc
]

-- the place of a number, and that it stands at an index
pub record FoundAt (places : List ContextKey) (c i : ℕ) : Type 0 where
  pub place : ContextKey
  pub at : place_at places c ≡ Some place
  pub there : slice_get places i ≡ Some place
