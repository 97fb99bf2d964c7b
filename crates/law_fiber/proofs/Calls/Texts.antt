-- The texts in sight, and the texts that are put into tables.
use Rattle.std.proofs.Common.{◌≡◌, ◌<◌, ◌≤◌, ℕ, ◌==◌, Bool, true, false, List, [], ◌∷◌, ◌++◌, ◌≢◌, length, take, get_or, Option, Some, None, position, bytes_eq, codes, refl, sym, ap, ◌∙◌, arith}
use Rattle.std.specs.Cmp.Lexicographic.{bytes_decides}
use Rattle.std.specs.List.{position_or_len}
use Rattle.std.proofs.lemmas.Bool.{both_ways}
use Rattle.std.proofs.lemmas.Bool.Decides.{Decides-eqb}
use Rattle.std.proofs.lemmas.Grind.{common_steps}
use Rattle.std.proofs.lemmas.List.{get_or-take, get_or_append_left, take-append-le, length-append}
use Rattle.std.proofs.lemmas.List.Quantifiers.{all_pairs_push, position-Some}
use Rattle.std.proofs.lemmas.List.Sums.{fails_before_first}
use Rattle.std.proofs.lemmas.Option.{unwrap_or-slice_get}
use Rattle.std.proofs.Math.Seq.{get_or-append_seam}
use Rattle.eio_value.specs.Escapes.{quoted}
use Rattle.eio_value.specs.Exceptions.{bound_text, plain_text, fault_text}
use Rattle.eio_value.specs.Several.{Several, first_what}
use Rattle.eio_value.specs.Table.{AreDifferent, HasText, text_at, text_id, Interned, intern}
use Rattle.eio_value.specs.declared.plain.Member.{Member}
use Rattle.eio_value.specs.declared.plain.Plain.{Plain}
use Rattle.eio_value.specs.declared.raised.Raised.{Raised}
use Rattle.eio_value.specs.declared.value.TextId.{TextId}
use Rattle.law_fiber.specs.Calls.Sights.{Sight, IsInSight}
use Rattle.law_fiber.specs.Calls.Alike.{Tables, Keeps, AlikeLists, Ends, Goes, IsSameText, AlikePlain, Failures, Invalids, EndsOfFile, BufferLimits, Poisonings, Exits, NotFirsts, Paths, AlikeMember, AlikeRaised, Ones, Cancellations, Multiples, AlikeTables}

-- ## Texts by their numbers

text_is : (texts : List (List ℕ)) (id : TextId) → text_at texts id ≡ get_or texts id.0 []
text_is texts id = unwrap_or-slice_get texts id.0 []

text_in_front : (n : ℕ) (texts : List (List ℕ)) (id : TextId) → id.0 < n → text_at (take n texts) id ≡ text_at texts id
text_in_front n texts id less = text_is (take n texts) id ∙ (get_or-take n texts id.0 [] less ∙ sym (text_is texts id))

-- a text in sight is the same in both tables
pub in_sight : {sight : Sight} {t : Tables} → AlikeTables sight t → (id : TextId) → IsInSight sight id → IsSameText t id id
in_sight {sight} {t} alike id less = (
  let has = alike.one_has in omega (arith, has, less),
  let has = alike.other_has in omega (arith, has, less),
  sym (text_in_front sight.texts t.one id less) ∙ (ap (λ texts. text_at texts id) alike.same ∙ text_in_front sight.texts t.other id less),
)

-- ## Numbers of texts

-- in a table no two numbers stand for one text
one_number : (texts : List (List ℕ)) (a b : TextId) → AreDifferent texts → HasText texts a → HasText texts b → text_at texts a ≡ text_at texts b
    → a.0 ≡ b.0
one_number texts a b differ has_a has_b same =
    let e : get_or texts a.0 [] ≡ get_or texts b.0 [] = sym (text_is texts a) ∙ (same ∙ text_is texts b) in
    let below : a.0 < b.0 → ⊥ = λ less. differ a.0 b.0 [] less has_b e in
    let above : b.0 < a.0 → ⊥ = λ less. differ b.0 a.0 [] less has_a (sym e) in
    omega arith

same_test : (x y : Bool) → (x ≡ true → y ≡ true) → (y ≡ true → x ≡ true) → x ≡ y
same_test true y there back = sym (there refl)
same_test false true there back = back refl
same_test false false there back = refl

number_of_same : (t : Tables) (a b p q : TextId) → AreDifferent t.other → IsSameText t a p → IsSameText t b q → a.0 ≡ b.0 → p.0 ≡ q.0
number_of_same t a b p q differ one two e = one_number t.other p q differ one.1 two.1 (sym one.2 ∙ (ap (λ n. text_at t.one (text_id n)) e ∙ two.2))

-- so whether two texts have one number is the same in both tables
pub same_numbers : {sight : Sight} {t : Tables} → AlikeTables sight t → (a b p q : TextId) → IsSameText t a p → IsSameText t b q
    → (a.0 == b.0) ≡ (p.0 == q.0)
same_numbers {sight} {t} alike a b p q one two = same_test (a.0 == b.0) (p.0 == q.0)
    (λ is. (Decides-eqb p.0 q.0).1 (number_of_same t a b p q alike.other_differs one two ((Decides-eqb a.0 b.0).0 is)))
    (λ is. (Decides-eqb a.0 b.0).1 (one_number t.one a b alike.one_differs one.0 two.0
    (one.2 ∙ (ap (λ n. text_at t.other (text_id n)) ((Decides-eqb p.0 q.0).0 is) ∙ sym two.2))))

-- ## Texts that are put into a table

pub record IsInterned (texts : List (List ℕ)) (text : List ℕ) (new : Interned) : Type 0 where
  pub has : HasText new.texts new.id
  pub is : text_at new.texts new.id ≡ text
  pub keeps : Keeps texts new.texts
  pub front : (n : ℕ) → n ≤ length texts → take n new.texts ≡ take n texts
  pub longer : length texts ≤ length new.texts
  pub differ : AreDifferent new.texts

none_passes : {X : Type 0} (p : X → Bool) (xs : List X) (d : X) → position p xs ≡ None → (k : ℕ) → k < length xs → p (get_or xs k d) ≡ false
none_passes p xs d e k less =
    let past : length xs ≤ position_or_len p xs = grind (arith, common_steps) in
    fails_before_first p xs k d (omega (arith, past, less))

keeps_more : (texts : List (List ℕ)) (text : List ℕ) → Keeps texts (texts ++ text ∷ [])
keeps_more texts text = record {
  has = λ id has. let long = length-append texts (text ∷ []) in omega (arith, has, long);
  same = λ id has. text_is (texts ++ text ∷ []) id ∙ (get_or_append_left texts (text ∷ []) [] id.0 has ∙ sym (text_is texts id));
}

abbrev put_by : List (List ℕ) → List ℕ → Option ℕ → Interned
put_by texts text found = elim found [
  | Some at ↦ record { id = text_id at; texts = texts }
  | None ↦ record { id = text_id (length texts); texts = texts ++ text ∷ [] }
]

interned_by : (texts : List (List ℕ)) (text : List ℕ) → AreDifferent texts → (found : Option ℕ) → position (bytes_eq text) texts ≡ found
    → IsInterned texts text (put_by texts text found)
interned_by texts text differ (Some at) e =
    let there = position-Some (bytes_eq text) texts at [] e in
    record {
      has = there.0;
      is = text_is texts (text_id at) ∙ sym ((bytes_decides text (get_or texts at [])).0 there.1);
      keeps = record { has = λ id has. has; same = λ id has. refl };
      front = λ n less. refl;
      longer = omega arith;
      differ = differ;
    }
interned_by texts text differ None e =
    let long = length-append texts (text ∷ []) in
    record {
      has = omega (arith, long);
      is = text_is (texts ++ text ∷ []) (text_id (length texts)) ∙ get_or-append_seam texts text [] [];
      keeps = keeps_more texts text;
      front = λ n less. take-append-le n texts (text ∷ []) less;
      longer = omega (arith, long);
      differ = all_pairs_push (λ s t. s ≢ t) texts text differ (λ k d less same.
          both_ways _ (none_passes (bytes_eq text) texts d e k less) ((bytes_decides text (get_or texts k d)).1 (sym same)));
    }

pub interned : (texts : List (List ℕ)) (text : List ℕ) → AreDifferent texts → IsInterned texts text (intern texts text)
interned texts text differ = interned_by texts text differ (position (bytes_eq text) texts) refl

-- ## Texts of exceptions

same_plain : {t : Tables} {a b : Plain} → AlikePlain t a b → plain_text t.one a ≡ plain_text t.other b
same_plain (Failures same) = ap (λ text. codes "Failure " ++ quoted text) same.2
same_plain (Invalids why) = refl
same_plain EndsOfFile = refl
same_plain BufferLimits = refl
same_plain Poisonings = refl
same_plain Exits = refl
same_plain NotFirsts = refl
same_plain (Paths fault same) = ap (λ text. fault_text fault ++ 32 ∷ quoted text) same.2

abbrev first_of : List Member → Plain
first_of members = let all : Several = record { members = members; cut = false } in first_what all

same_first : {t : Tables} {these those : List Member} → AlikeLists (AlikeMember t) these those
    → plain_text t.one (first_of these) ≡ plain_text t.other (first_of those)
same_first Ends = refl
same_first (Goes first others) = same_plain first

-- exceptions that are alike have the same bound text
pub same_bound : {t : Tables} {a b : Raised} → AlikeRaised t a b → bound_text t.one a ≡ bound_text t.other b
same_bound (Ones alike) = same_plain alike
same_bound (Cancellations alike) = ap (λ text. codes "Cancelled: " ++ text) (same_plain alike)
same_bound (Multiples members cut) = ap (λ text. codes "Multiple [" ++ (text ++ codes "; ...]")) (same_first members)
