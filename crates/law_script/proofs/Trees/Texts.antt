-- A text is read as it is spelled, item by item (`text_sound`, `text_back`).
use Rattle.std.proofs.Common.{◌≡◌, ◌≤◌, ◌<◌, ℕ, ◌+◌, ◌⊎◌, inl, inr, Bool, true, false, cond, ◌||◌, ◌==◌, nat_lt, List, [], ◌∷◌, ◌++◌, length, Option, Some, None, Result, Ok, refl, sym, ap, ◌∙◌, subst, append_assoc, length-append, arith}
use Rattle.std.specs.List.{list_all, flat_map}
use Rattle.std.proofs.lemmas.Bool.{and_parts, and_from, eqb-true, ltb-true, lt-ltb, or_cases}
use Rattle.std.proofs.lemmas.Bool.Decides.{nat_tests}
use Rattle.std.proofs.lemmas.Option.{same_Some}
use Rattle.spec_script.specs.declared.TextByte.{TextByte}
use Rattle.spec_script.specs.declared.TextByte.TheVariants.{Item, Backslash, Quote, Unsound}
use Rattle.spec_script.specs.Results.{◌>>=◌}
use Rattle.spec_script.specs.Bytes.{tab, line_feed, carriage_return, quote, backslash, letter_n, letter_r, letter_t, is_plain, has_escape}
use Rattle.spec_script.specs.Spelling.{item_spelling}
use Rattle.spec_script.specs.Faults.{TreeFault}
use Rattle.spec_script.specs.Reading.{here, Items, with_item, escape_of, text_step, text_items}
use Rattle.law_script.proofs.Trees.Steps.{same_Ok, err-ok, both_gave, passed, in_either}

-- a byte that a text may hold
abbrev pub may_stand : ℕ → Bool
may_stand b = is_plain b || has_escape b

-- what is read before the bytes
abbrev behind : Bool → List ℕ → List ℕ
behind true bytes = backslash ∷ bytes
behind false bytes = bytes

-- the items read are spelled by the bytes, up to the quote
pub record IsTextRead (escaped : Bool) (n at : ℕ) (bytes : List ℕ) (it : Items) : Type 0 where
  pub spelling : behind escaped bytes ≡ flat_map item_spelling it.items ++ quote ∷ it.next.bytes
  pub place : it.next.at + length it.next.bytes ≡ at + length bytes
  pub stand : list_all may_stand it.items ≡ true
  pub few : n + length it.items ≤ 1024

-- an item's spelling
record IsItem (escaped : Bool) (b item : ℕ) : Type 0 where
  spelling : behind escaped (b ∷ []) ≡ item_spelling item
  stands : may_stand item ≡ true

plain_spelling : (b : ℕ) → is_plain b ≡ true → item_spelling b ≡ b ∷ []
plain_spelling b e = grind (arith, nat_tests)

escape_at : (b item mark stands_for : ℕ) → b ≡ mark → stands_for ≡ item → IsItem true mark stands_for → IsItem true b item
escape_at b item mark stands_for e h it = rw (e, ← h) it

itself : (b item : ℕ) → ((b == quote) ≡ true) ⊎ ((b == backslash) ≡ true) → b ≡ item → IsItem true b item
itself b item (inl e) h = escape_at b item quote quote (eqb-true b quote e) (sym (eqb-true b quote e) ∙ h) (record { spelling = refl; stands = refl })
itself b item (inr e) h = escape_at b item backslash backslash (eqb-true b backslash e) (sym (eqb-true b backslash e) ∙ h) (record { spelling = refl; stands = refl })

escape_is : (b item : ℕ) (n r t q : Bool) → (b == letter_n) ≡ n → (b == letter_r) ≡ r → (b == letter_t) ≡ t → (b == quote || b == backslash) ≡ q →
    cond n (Some line_feed) (cond r (Some carriage_return) (cond t (Some tab) (cond q (Some b) None))) ≡ Some item → IsItem true b item
escape_is b item true r t q n-is r-is t-is q-is e = escape_at b item letter_n line_feed (eqb-true b letter_n n-is) (same_Some _ _ e) (record { spelling = refl; stands = refl })
escape_is b item false true t q n-is r-is t-is q-is e = escape_at b item letter_r carriage_return (eqb-true b letter_r r-is) (same_Some _ _ e) (record { spelling = refl; stands = refl })
escape_is b item false false true q n-is r-is t-is q-is e = escape_at b item letter_t tab (eqb-true b letter_t t-is) (same_Some _ _ e) (record { spelling = refl; stands = refl })
escape_is b item false false false true n-is r-is t-is q-is e = itself b item (or_cases _ _ q-is) (same_Some _ _ e)
escape_is b item false false false false n-is r-is t-is q-is e = cc

plain_is : (b item : ℕ) (q k p : Bool) → (b == quote) ≡ q → (b == backslash) ≡ k → is_plain b ≡ p → cond q Quote (cond k Backslash (cond p (Item b) Unsound)) ≡ Item item → IsItem false b item
plain_is b item true k p q-is k-is p-is e = cc
plain_is b item false true p q-is k-is p-is e = cc
plain_is b item false false true q-is k-is p-is e = let same : b ≡ item = cc in subst (λ (i : ℕ). IsItem false b i) same (record { spelling = sym (plain_spelling b p-is); stands = rw p-is refl })
plain_is b item false false false q-is k-is p-is e = cc

escaped_item : (b item : ℕ) (it : Option ℕ) → escape_of b ≡ it → ◌≡◌ {A = TextByte} (elim it [ Some item ↦ Item item | None ↦ Unsound ]) (Item item) → IsItem true b item
escaped_item b item None it-is e = cc
escaped_item b item (Some other) it-is e = escape_is b item _ _ _ _ refl refl refl refl (it-is ∙ ap (λ (i : ℕ). Some i) (let same : other ≡ item = cc in same))

item_is : (escaped : Bool) (b item : ℕ) → text_step escaped b ≡ Item item → IsItem escaped b item
item_is true b item e = escaped_item b item _ refl e
item_is false b item e = plain_is b item _ _ _ refl refl refl e

-- a step that is no item
record IsMark (escaped : Bool) (b mark : ℕ) : Type 0 where
  plainly : escaped ≡ false
  same : b ≡ mark

no_mark : (b : ℕ) (it : Option ℕ) (mark : TextByte) → (mark ≡ Backslash) ⊎ (mark ≡ Quote) → ◌≡◌ {A = TextByte} (elim it [ Some item ↦ Item item | None ↦ Unsound ]) mark → ⊥
no_mark b None mark (inl m) e = cc
no_mark b None mark (inr m) e = cc
no_mark b (Some item) mark (inl m) e = cc
no_mark b (Some item) mark (inr m) e = cc

backslash_by : (b : ℕ) (q k p : Bool) → (b == backslash) ≡ k → cond q Quote (cond k Backslash (cond p (Item b) Unsound)) ≡ Backslash → b ≡ backslash
backslash_by b true k p k-is e = cc
backslash_by b false true p k-is e = eqb-true b backslash k-is
backslash_by b false false true k-is e = cc
backslash_by b false false false k-is e = cc

quote_by : (b : ℕ) (q k p : Bool) → (b == quote) ≡ q → cond q Quote (cond k Backslash (cond p (Item b) Unsound)) ≡ Quote → b ≡ quote
quote_by b true k p q-is e = eqb-true b quote q-is
quote_by b false true p q-is e = cc
quote_by b false false true q-is e = cc
quote_by b false false false q-is e = cc

backslash_is : (escaped : Bool) (b : ℕ) → text_step escaped b ≡ Backslash → IsMark escaped b backslash
backslash_is true b e = absurd (no_mark b _ Backslash (inl refl) e)
backslash_is false b e = record { plainly = refl; same = backslash_by b _ _ _ refl e }

quote_is : (escaped : Bool) (b : ℕ) → text_step escaped b ≡ Quote → IsMark escaped b quote
quote_is true b e = absurd (no_mark b _ Quote (inr refl) e)
quote_is false b e = record { plainly = refl; same = quote_by b _ _ _ refl e }

-- one item before a text
behind_more : (escaped : Bool) (b : ℕ) (bytes : List ℕ) → behind escaped (b ∷ bytes) ≡ behind escaped (b ∷ []) ++ bytes
behind_more true b bytes = refl
behind_more false b bytes = refl

item_more : (escaped : Bool) (n at b item : ℕ) (bytes : List ℕ) (others : Items) → IsItem escaped b item → IsTextRead false (n + 1) (at + 1) bytes others →
    IsTextRead escaped n at (b ∷ bytes) (with_item item others)
item_more escaped n at b item bytes others it rest = record {
  spelling = behind_more escaped b bytes ∙ (ap (λ (bs : List ℕ). bs ++ bytes) it.spelling ∙ (ap (λ (bs : List ℕ). item_spelling item ++ bs) rest.spelling ∙ sym (append_assoc (item_spelling item) (flat_map item_spelling others.items) _)));
  place = let p = rest.place in omega arith;
  stand = and_from _ _ it.stands rest.stand;
  few = let f = rest.few in omega arith;
}

backslash_more : (escaped : Bool) (n at b : ℕ) (bytes : List ℕ) (it : Items) → IsMark escaped b backslash → IsTextRead true n (at + 1) bytes it → IsTextRead escaped n at (b ∷ bytes) it
backslash_more true n at b bytes it mark rest = absurd (let no = mark.plainly in cc)
backslash_more false n at b bytes it mark rest = record {
  spelling = ap (λ (c : ℕ). c ∷ bytes) mark.same ∙ rest.spelling;
  place = let p = rest.place in omega arith;
  stand = rest.stand;
  few = rest.few;
}

quote_ends : (escaped : Bool) (n at b : ℕ) (bytes : List ℕ) → IsMark escaped b quote → n ≤ 1024 → IsTextRead escaped n at (b ∷ bytes) (record { items = []; next = here (at + 1) bytes })
quote_ends true n at b bytes mark few = absurd (let no = mark.plainly in cc)
quote_ends false n at b bytes mark few = record { spelling = ap (λ (c : ℕ). c ∷ bytes) mark.same; place = omega arith; stand = refl; few = omega arith }

-- what is known of the bytes behind
abbrev Sound : (start at : ℕ) → List ℕ → Type 0
Sound start at bytes = (escaped : Bool) (n : ℕ) (it : Items) → n ≤ 1024 → text_items start escaped n at bytes ≡ Ok it → IsTextRead escaped n at bytes it

item_sound : (start : ℕ) (escaped : Bool) (n at b item : ℕ) (bytes : List ℕ) (it : Items) → text_step escaped b ≡ Item item → Sound start (at + 1) bytes →
    (nat_lt n 1024 ≡ true) × ((text_items start false (n + 1) (at + 1) bytes >>= λ others. Ok (with_item item others)) ≡ Ok it) → IsTextRead escaped n at (b ∷ bytes) it
item_sound start escaped n at b item bytes it e rest both =
    let below : n < 1024 = ltb-true n 1024 both.0 in
    let tail = both_gave (text_items start false (n + 1) (at + 1) bytes) (λ others. Ok (with_item item others)) it both.1 in
    subst (λ (i : Items). IsTextRead escaped n at (b ∷ bytes) i) (same_Ok _ _ tail.2)
    (item_more escaped n at b item bytes tail.0 (item_is escaped b item e) (rest false (n + 1) tail.0 (omega arith) tail.1))

step_sound : (start : ℕ) (escaped : Bool) (n at b : ℕ) (bytes : List ℕ) (it : Items) (step : TextByte) → n ≤ 1024 → text_step escaped b ≡ step → Sound start (at + 1) bytes →
    text_items start escaped n at (b ∷ bytes) ≡ Ok it → IsTextRead escaped n at (b ∷ bytes) it
unfolding text_items
step_sound start escaped n at b bytes it (Item item) few e rest h =
    item_sound start escaped n at b item bytes it e rest (passed (nat_lt n 1024) _ _ _ (rw (text_items, e) at h))
step_sound start escaped n at b bytes it Backslash few e rest h = backslash_more escaped n at b bytes it (backslash_is escaped b e) (rest true n it few (rw (text_items, e) at h))
step_sound start escaped n at b bytes it Quote few e rest h =
    subst (λ (i : Items). IsTextRead escaped n at (b ∷ bytes) i) (same_Ok _ _ (rw (text_items, e) at h)) (quote_ends escaped n at b bytes (quote_is escaped b e) few)
step_sound start escaped n at b bytes it Unsound few e rest h = absurd (err-ok _ _ (rw (text_items, e) at h))

pub text_sound : (start at : ℕ) (bytes : List ℕ) → Sound start at bytes
unfolding text_items
text_sound start at [] escaped n it few e = absurd (err-ok _ _ e)
text_sound start at (b ∷ bytes) escaped n it few e = step_sound start escaped n at b bytes it _ few refl (text_sound start (at + 1) bytes) e

-- ## Back

-- what comes of an item that is read before others
abbrev item_then : (start n at item : ℕ) → List ℕ → Result Items TreeFault
item_then start n at item rest = text_items start false (n + 1) at rest >>= λ others. Ok (with_item item others)

one_read : (start n at b : ℕ) (rest : List ℕ) → nat_lt n 1024 ≡ true → text_step false b ≡ Item b → text_items start false n at (b ∷ rest) ≡ item_then start n (at + 1) b rest
unfolding text_items
one_read start n at b rest below e = rw (text_items, e, below) refl

two_read : (start n at b item : ℕ) (rest : List ℕ) → nat_lt n 1024 ≡ true → text_step true b ≡ Item item → text_items start false n at (backslash ∷ b ∷ rest) ≡ item_then start n (at + 2) item rest
unfolding text_items
two_read start n at b item rest below e = rw (text_items, e, below) (ap (λ (p : ℕ). item_then start n p item rest) (omega arith))

plain_step : (b : ℕ) → is_plain b ≡ true → text_step false b ≡ Item b
plain_step b e = grind (arith, nat_tests)

-- an item's spelling is read as that item
abbrev IsReadBack : (start n at : ℕ) (rest : List ℕ) → ℕ → Type 0
IsReadBack start n at rest b = text_items start false n at (item_spelling b ++ rest) ≡ item_then start n (at + length (item_spelling b)) b rest

plain_back : (start n at b : ℕ) (rest : List ℕ) → nat_lt n 1024 ≡ true → is_plain b ≡ true → IsReadBack start n at rest b
plain_back start n at b rest below e = rw (plain_spelling b e) (one_read start n at b rest below (plain_step b e))

escape_back : (start n at b : ℕ) (rest : List ℕ) → nat_lt n 1024 ≡ true → has_escape b ≡ true → IsReadBack start n at rest b
escape_back start n at b rest below e =
    let at_mark = λ (mark : ℕ) (same : b ≡ mark) (h : IsReadBack start n at rest mark). subst (λ (c : ℕ). IsReadBack start n at rest c) (sym same) h in
    in_either _ _ e
    (λ e. in_either _ _ e
    (λ e. in_either _ _ e
    (λ e. in_either _ _ e
    (λ l. at_mark 10 (eqb-true b 10 l) (two_read start n at 110 10 rest below refl))
    (λ r. at_mark 13 (eqb-true b 13 r) (two_read start n at 114 13 rest below refl)))
    (λ t. at_mark 9 (eqb-true b 9 t) (two_read start n at 116 9 rest below refl)))
    (λ q. at_mark 34 (eqb-true b 34 q) (two_read start n at 34 34 rest below refl)))
    (λ k. at_mark 92 (eqb-true b 92 k) (two_read start n at 92 92 rest below refl))

item_back : (start n at b : ℕ) (rest : List ℕ) → nat_lt n 1024 ≡ true → may_stand b ≡ true → IsReadBack start n at rest b
item_back start n at b rest below e = in_either (is_plain b) (has_escape b) e (plain_back start n at b rest below) (escape_back start n at b rest below)

text_end : (start n at next : ℕ) (rest : List ℕ) → next ≡ at + 1 → text_items start false n at (quote ∷ rest) ≡ Ok (record { items = []; next = here next rest })
unfolding text_items
text_end start n at next rest e = rw e refl

pub text_back : (start n at next : ℕ) (text rest : List ℕ) → list_all may_stand text ≡ true → n + length text ≤ 1024 →
    next ≡ at + length (flat_map item_spelling text) + 1 →
    text_items start false n at (flat_map item_spelling text ++ quote ∷ rest) ≡ Ok (record { items = text; next = here next rest })
text_back start n at next [] rest stand few e = text_end start n at next rest (omega arith)
text_back start n at next (b ∷ text) rest stand few e =
    let both = and_parts (may_stand b) (list_all may_stand text) stand in
    let tail = flat_map item_spelling text ++ quote ∷ rest in
    let below : nat_lt n 1024 ≡ true = lt-ltb n 1024 (omega arith) in
    let sizes = length-append (item_spelling b) (flat_map item_spelling text) in
    let behind_it : text_items start false (n + 1) (at + length (item_spelling b)) tail ≡ Ok (record { items = text; next = here next rest }) =
    text_back start (n + 1) (at + length (item_spelling b)) next text rest both.1 (omega arith) (omega arith) in
    ap (λ (bs : List ℕ). text_items start false n at bs) (append_assoc (item_spelling b) (flat_map item_spelling text) (quote ∷ rest))
    ∙ (item_back start n at b tail below both.0 ∙ ap (λ (r : Result Items TreeFault). r >>= λ others. Ok (with_item b others)) behind_it)
