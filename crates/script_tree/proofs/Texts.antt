-- One step over a text: what is read already stands in front of the rest.
use Rattle.std.proofs.Common.{◌≡◌, ℕ, ◌+◌, ◌<◌, ◌≤◌, List, [], ◌∷◌, ◌++◌, length, get_or, drop, Bool, true, false, Result, Ok, Err, refl, arith, ap, sym, ◌∙◌, append-nil, append_assoc}
use Rattle.std.proofs.lemmas.Grind.{common_steps}
use Rattle.std.specs.Prelude.{nat_lt}
use Rattle.spec_script.specs.Faults as fault
use Rattle.spec_script.specs.Faults.{TreeFault}
use Rattle.spec_script.specs.declared.TextByte.{TextByte}
use Rattle.spec_script.specs.declared.TextByte.TheVariants.{Item, Backslash, Quote, Unsound}
use Rattle.spec_script.specs.Limits.{most_text_items}
use Rattle.spec_script.specs.Results.{◌>>=◌}
use Rattle.spec_script.specs.Reading.{Here, here, Items, with_item, text_step, text_items}
use Rattle.script_tree.specs.Views.{from}
use Rattle.script_tree.proofs.Gaps.{split_at}

abbrev Read : Type 0
Read = Result Items TreeFault

abbrev items : List ℕ → Here → Read
items xs next = Ok (record { items = xs; next = next })

-- a read whose items stand behind these
abbrev pub with_front : List ℕ → Result Items TreeFault → Result Items TreeFault
with_front front (Ok x) = Ok (record { items = front ++ x.items; next = x.next })
with_front front (Err e) = Err e

-- one more item in front, where there is room
abbrev with_room : ℕ → ℕ → Read → Bool → Read
with_room quote item others room = elim room [ true ↦ (others >>= λ found. Ok (with_item item found)) | false ↦ Err (fault.LongText quote) ]

-- what a step leads to
by_step : (quote n at : ℕ) → List ℕ → TextByte → Read
by_step quote n at bytes s =
    elim s [
      | Item item ↦ with_room quote item (text_items quote false (n + 1) (at + 1) bytes) (nat_lt n most_text_items)
      | Backslash ↦ text_items quote true n (at + 1) bytes
      | Quote ↦ items [] (here (at + 1) bytes)
      | Unsound ↦ Err (fault.Byte at)
    ]

at_front : (quote : ℕ) (escaped : Bool) (n at b : ℕ) (bytes : List ℕ) → text_items quote escaped n at (b ∷ bytes) ≡ by_step quote n at bytes (text_step escaped b)
unfolding text_items by_step
at_front quote escaped n at b bytes = refl

goes : (quote : ℕ) (escaped : Bool) (n at : ℕ) (bytes : List ℕ) (s : TextByte) → at < length bytes → text_step escaped (get_or bytes at 0) ≡ s → text_items quote escaped n at (drop at bytes) ≡ by_step quote n at (drop (at + 1) bytes) s
goes quote escaped n at bytes s less step = ap (text_items quote escaped n at) (split_at bytes at less) ∙ (at_front quote escaped n at _ _ ∙ ap (by_step quote n at (drop (at + 1) bytes)) step)

pub text_closes : (front : List ℕ) (quote : ℕ) (escaped : Bool) (n at : ℕ) (bytes : List ℕ) → at < length bytes → text_step escaped (get_or bytes at 0) ≡ Quote → with_front front (text_items quote escaped n at (drop at bytes)) ≡ Ok (record { items = front; next = from bytes (at + 1) })
unfolding by_step
text_closes front quote escaped n at bytes less step = ap (with_front front) (goes quote escaped n at bytes Quote less step) ∙ ap (λ (xs : List ℕ). items xs (from bytes (at + 1))) (append-nil front)

pub text_unsound : (front : List ℕ) (quote : ℕ) (escaped : Bool) (n at : ℕ) (bytes : List ℕ) → at < length bytes → text_step escaped (get_or bytes at 0) ≡ Unsound → with_front front (text_items quote escaped n at (drop at bytes)) ≡ Err (fault.Byte at)
unfolding by_step
text_unsound front quote escaped n at bytes less step = ap (with_front front) (goes quote escaped n at bytes Unsound less step)

pub text_escapes : (front : List ℕ) (quote : ℕ) (escaped : Bool) (n at : ℕ) (bytes : List ℕ) → at < length bytes → text_step escaped (get_or bytes at 0) ≡ Backslash → with_front front (text_items quote escaped n at (drop at bytes)) ≡ with_front front (text_items quote true n (at + 1) (drop (at + 1) bytes))
unfolding by_step
text_escapes front quote escaped n at bytes less step = ap (with_front front) (goes quote escaped n at bytes Backslash less step)

pub text_full : (front : List ℕ) (quote : ℕ) (escaped : Bool) (n at item : ℕ) (bytes : List ℕ) → at < length bytes → text_step escaped (get_or bytes at 0) ≡ Item item → 1024 ≤ n → with_front front (text_items quote escaped n at (drop at bytes)) ≡ Err (fault.LongText quote)
unfolding by_step
text_full front quote escaped n at item bytes less step full =
    let test : nat_lt n 1024 ≡ false = grind (arith, common_steps) in
    ap (with_front front) (goes quote escaped n at bytes (Item item) less step) ∙ ap (λ b. with_front front (with_room quote item (text_items quote false (n + 1) (at + 1) (drop (at + 1) bytes)) b)) test

-- one more item in front of what was read
front_more : (front : List ℕ) (item : ℕ) (r : Read) → with_front front (r >>= λ found. Ok (with_item item found)) ≡ with_front (front ++ item ∷ []) r
front_more front item (Ok x) = ap (λ (xs : List ℕ). items xs x.next) (sym (append_assoc front (item ∷ []) x.items))
front_more front item (Err e) = refl

pub text_item : (front : List ℕ) (quote : ℕ) (escaped : Bool) (at item : ℕ) (bytes : List ℕ) → at < length bytes → text_step escaped (get_or bytes at 0) ≡ Item item → length front < 1024
    → with_front front (text_items quote escaped (length front) at (drop at bytes)) ≡ with_front (front ++ item ∷ []) (text_items quote false (length (front ++ item ∷ [])) (at + 1) (drop (at + 1) bytes))
unfolding by_step
text_item front quote escaped at item bytes less step room =
    let test : nat_lt (length front) 1024 ≡ true = grind (arith, common_steps) in
    let count : length front + 1 ≡ length (front ++ item ∷ []) = grind (arith, common_steps) in
    let next : Read = text_items quote false (length front + 1) (at + 1) (drop (at + 1) bytes) in
    ap (with_front front) (goes quote escaped (length front) at bytes (Item item) less step) ∙ (ap (λ b. with_front front (with_room quote item next b)) test ∙ front_more front item next ∙ ap (λ k. with_front (front ++ item ∷ []) (text_items quote false k (at + 1) (drop (at + 1) bytes))) count)

pub text_begins : (r : Result Items TreeFault) → with_front [] r ≡ r
text_begins (Ok x) = refl
text_begins (Err e) = refl

pub text_ends : (front : List ℕ) (quote : ℕ) (escaped : Bool) (n at : ℕ) (bytes : List ℕ) → length bytes ≤ at → with_front front (text_items quote escaped n at (drop at bytes)) ≡ Err (fault.Unclosed quote)
unfolding text_items
text_ends front quote escaped n at bytes least =
    let none : drop at bytes ≡ [] = grind (arith, common_steps) in
    ap (λ bs. with_front front (text_items quote escaped n at bs)) none
