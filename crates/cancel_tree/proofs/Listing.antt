-- Contexts listed by number: what stands under a number, and what a change or one more makes of the list.
use Rattle.std.proofs.Common.{◌≡◌, ℕ, zero, suc, ◌+◌, ◌<◌, ◌≤◌, ◌≢◌, ◌⊎◌, inl, inr, Bool, true, false, not, List, [], ◌∷◌, ◌++◌, length, slice_set, arith, refl, ap, ap₂, ◌∙◌, sym, length-append, true≢false, cond, zero-add, add_assoc, add_comm}
use Rattle.std.proofs.lemmas.List.Sums.{sum_by-cons, sum_by_push}
use Rattle.spec_parts.specs.Contexts.{Context, never_made, context_at, live_count}
use Rattle.law_parts.proofs.Places.{older_unchanged, made_last, past_all}
use Rattle.cancel_tree.specs.KeptContext.{listed}

pub length-listed : (n : ℕ) (at : ℕ → Context) → length (listed n at) ≡ n
unfolding listed
length-listed zero at = refl
length-listed (suc n) at = omega (arith, length-append (listed n at) (at n ∷ []), length-listed n at)

-- below, at or past a number
pub compared : (c n : ℕ) → (c < n) ⊎ ((c ≡ n) ⊎ (n < c))
compared zero zero = inr (inl refl)
compared zero (suc n) = inl (omega arith)
compared (suc c) zero = inr (inr (omega arith))
compared (suc c) (suc n) = elim (compared c n) [ inl h ↦ inl (omega arith) | inr k ↦ elim k [ inl e ↦ inr (inl (ap suc e)) | inr h ↦ inr (inr (omega arith)) ] ]

pub listed_below : (n : ℕ) (at : ℕ → Context) (c : ℕ) → c < n → context_at (listed n at) c ≡ at c
unfolding listed
listed_below zero at c h = absurd (omega arith)
listed_below (suc n) at c h = elim (compared c n) [
  | inl below ↦ older_unchanged (listed n at) c (at n) (omega (arith, length-listed n at)) ∙ listed_below n at c below
  | inr rest ↦ elim rest [
    | inl same ↦ made_last (listed n at) c (at n) (same ∙ sym (length-listed n at)) ∙ ap at (sym same)
    | inr past ↦ absurd (omega arith)
  ]
]

pub listed_past : (n : ℕ) (at : ℕ → Context) (c : ℕ) → n ≤ c → context_at (listed n at) c ≡ never_made
listed_past n at c h = past_all (listed n at) c (omega (arith, length-listed n at))

-- two lists alike by number are the same
pub listed_same : (n : ℕ) (f g : ℕ → Context) → ((c : ℕ) → c < n → f c ≡ g c) → listed n f ≡ listed n g
unfolding listed
listed_same zero f g h = refl
listed_same (suc n) f g h = ap₂ (λ contexts context. contexts ++ context ∷ []) (listed_same n f g (λ c k. h c (omega arith))) (h n (omega arith))

set_before : (contexts : List Context) (c : ℕ) (x y : Context) → c < length contexts → slice_set (contexts ++ y ∷ []) c x ≡ slice_set contexts c x ++ y ∷ []
set_before [] c x y h = absurd (omega arith)
set_before (context ∷ contexts) zero x y h = refl
set_before (context ∷ contexts) (suc c) x y h = ap (λ rest. context ∷ rest) (set_before contexts c x y (omega arith))

set_last : (contexts : List Context) (c : ℕ) (x y : Context) → c ≡ length contexts → slice_set (contexts ++ y ∷ []) c x ≡ contexts ++ x ∷ []
set_last [] zero x y h = refl
set_last [] (suc c) x y h = absurd (omega arith)
set_last (context ∷ contexts) zero x y h = absurd (omega arith)
set_last (context ∷ contexts) (suc c) x y h = ap (λ rest. context ∷ rest) (set_last contexts c x y (omega arith))

-- one changes
pub listed_set : (n : ℕ) (f g : ℕ → Context) (c : ℕ) → c < n → ((x : ℕ) → x < n → x ≢ c → f x ≡ g x) → listed n g ≡ slice_set (listed n f) c (g c)
unfolding listed
listed_set zero f g c h same = absurd (omega arith)
listed_set (suc n) f g c h same = elim (compared c n) [
  | inl below ↦
      ap₂ (λ contexts context. contexts ++ context ∷ []) (listed_set n f g c below (λ x k other. same x (omega arith) other)) (sym (same n (omega arith) (λ e. absurd (omega arith))))
      ∙ sym (set_before (listed n f) c (g c) (f n) (omega (arith, length-listed n f)))
  | inr rest ↦ elim rest [
    | inl e ↦
        ap₂ (λ contexts context. contexts ++ context ∷ []) (listed_same n g f (λ x k. sym (same x (omega arith) (λ d. absurd (omega arith))))) (ap g (sym e))
        ∙ sym (set_last (listed n f) c (g c) (f n) (e ∙ sym (length-listed n f)))
    | inr past ↦ absurd (omega arith)
  ]
]

-- How many live

abbrev lives_as : Bool → ℕ
lives_as ended = cond (not ended) 1 0

live_count-cons : (x : Context) (xs : List Context) → live_count (x ∷ xs) ≡ lives_as x.ended + live_count xs
live_count-cons x xs = sum_by-cons (λ (context : Context). lives_as context.ended) x xs

pub live_count-append : (contexts : List Context) (x : Context) → x.ended ≡ false → live_count (contexts ++ x ∷ []) ≡ live_count contexts + 1
live_count-append contexts x lives = sum_by_push (λ (context : Context). lives_as context.ended) contexts x ∙ ap (λ b. live_count contexts + lives_as b) lives

-- a live one ends
pub live_count-end : (contexts : List Context) (c : ℕ) (x : Context) → (context_at contexts c).ended ≡ false → x.ended ≡ true → live_count (slice_set contexts c x) + 1 ≡ live_count contexts
live_count-end [] c x lives ends = absurd (true≢false lives)
live_count-end (context ∷ contexts) zero x lives ends =
    let new : live_count (x ∷ contexts) ≡ live_count contexts = live_count-cons x contexts ∙ ap (λ b. lives_as b + live_count contexts) ends ∙ zero-add (live_count contexts) in
    let old : live_count (context ∷ contexts) ≡ 1 + live_count contexts = live_count-cons context contexts ∙ ap (λ b. lives_as b + live_count contexts) lives in
    ap (λ n. n + 1) new ∙ sym (old ∙ add_comm 1 (live_count contexts))
live_count-end (context ∷ contexts) (suc c) x lives ends =
    let rest : live_count (slice_set contexts c x) + 1 ≡ live_count contexts = live_count-end contexts c x lives ends in
    ap (λ n. n + 1) (live_count-cons context (slice_set contexts c x)) ∙ add_assoc (lives_as context.ended) (live_count (slice_set contexts c x)) 1 ∙ ap (λ n. lives_as context.ended + n) rest ∙ sym (live_count-cons context contexts)

-- one changes, and neither ends nor begins to live
pub live_count-set : (contexts : List Context) (c : ℕ) (x : Context) → x.ended ≡ (context_at contexts c).ended → live_count (slice_set contexts c x) ≡ live_count contexts
live_count-set [] c x same = refl
live_count-set (context ∷ contexts) zero x same = live_count-cons x contexts ∙ ap (λ b. lives_as b + live_count contexts) same ∙ sym (live_count-cons context contexts)
live_count-set (context ∷ contexts) (suc c) x same =
    live_count-cons context (slice_set contexts c x) ∙ ap (λ n. lives_as context.ended + n) (live_count-set contexts c x same) ∙ sym (live_count-cons context contexts)
