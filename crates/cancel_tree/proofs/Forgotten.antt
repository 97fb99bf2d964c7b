-- The contexts as the definitions keep them, and as they are where ended ones are forgotten, call by call.
-- A live context stands the same in both, and so does its parent, which is live; so each walk up from a live one is the same.
use Rattle.std.proofs.Common.{◌≡◌, ℕ, zero, suc, ◌+◌, ◌<◌, ◌≤◌, ◌≢◌, inl, inr, Bool, true, false, not, ◌==◌, ◌||◌, nat_lt, List, [], ◌∷◌, ◌++◌, length, map, filter, cond, slice_set, Option, Some, None, arith, refl, ap, ap₂, ◌∙◌, sym, subst, true≢false, length-append}
use Rattle.std.specs.Prelude.{is_none, nat_le, ◌&&◌}
use Rattle.std.specs.List.{list_any}
use Rattle.std.proofs.lemmas.Bool.Decides.{eqb_tells}
use Rattle.std.proofs.lemmas.Option.{none-some}
use Rattle.std.proofs.lemmas.List.Sums.{sum_by-cons}
use Rattle.eio_value.specs.declared.plain.Plain.{Plain}
use Rattle.spec_parts.specs.Contexts.{Context, Waiting, never_made, context_at, is_live, live_count, is_full, new_context, make, above, way_within, off, first_reason, goes_up_to, takes_effect, cancel, reached}
use Rattle.spec_parts.specs.ContextCalls.{Contexts, no_contexts, ContextCall, Root, Sub, Protect, Cancel, Wait, Unwait, End, called, after, put_in, taken_out, members}
use Rattle.law_parts.proofs.Places.{others_unchanged, changed_itself, older_unchanged, made_last, past_all, left_by_change}
use Rattle.cancel_tree.specs.Endings.{HasNoLiveChild}
use Rattle.cancel_tree.specs.Waits.{waits_in}
use Rattle.cancel_tree.specs.Forgetting.{left, left_after, MayCall, MayCallAll, AnswersAlike, ForgetsNothingLive}
use Rattle.cancel_tree.proofs.Changes.{cancel_none, cancel_some, make_full, make_contexts}
use Rattle.cancel_tree.proofs.Finding.{tells_same}
use Rattle.cancel_tree.proofs.Listing.{compared}
use Rattle.cancel_tree.proofs.Waiting.{reached-cons}

-- each waiting fiber's context is live
abbrev WaitLive : List Context → List Waiting → Type 0
WaitLive contexts [] = Unit {0}
WaitLive contexts (w ∷ ws) = (is_live contexts w.context ≡ true) × WaitLive contexts ws

-- which have ended, by number
abbrev ends : List Context → List Bool
ends contexts = map (λ context. context.ended) contexts

-- s as the definitions keep it, and t where ended contexts are forgotten
record Alike (s t : List Context) : Type 0 where
  pub ends : ends t ≡ ends s
  pub stand : (c : ℕ) → is_live s c ≡ true → context_at t c ≡ context_at s c
  pub parents : (c p : ℕ) → is_live s c ≡ true → (context_at s c).parent ≡ Some p → is_live s p ≡ true

-- By what has ended

ended_at : (s t : List Context) (c : ℕ) → ends t ≡ ends s → (context_at t c).ended ≡ (context_at s c).ended
ended_at [] [] c e = refl
ended_at [] (y ∷ t) c e = cc
ended_at (x ∷ s) [] c e = cc
ended_at (x ∷ s) (y ∷ t) zero e = cc
ended_at (x ∷ s) (y ∷ t) (suc c) e = ended_at s t c (let h : y.ended ∷ ends t ≡ x.ended ∷ ends s = e in cc)

live_at : (s t : List Context) (c : ℕ) → ends t ≡ ends s → is_live t c ≡ is_live s c
live_at s t c e = ap not (ended_at s t c e)

count_at : (s t : List Context) → ends t ≡ ends s → length t ≡ length s
count_at [] [] e = refl
count_at [] (y ∷ t) e = cc
count_at (x ∷ s) [] e = cc
count_at (x ∷ s) (y ∷ t) e = ap suc (count_at s t (let h : y.ended ∷ ends t ≡ x.ended ∷ ends s = e in cc))

lives_as : Bool → ℕ
lives_as ended = cond (not ended) 1 0

live_count-cons : (x : Context) (xs : List Context) → live_count (x ∷ xs) ≡ lives_as x.ended + live_count xs
unfolding lives_as
live_count-cons x xs = sum_by-cons (λ (context : Context). cond (not context.ended) 1 0) x xs

live_count_at : (s t : List Context) → ends t ≡ ends s → live_count t ≡ live_count s
live_count_at [] [] e = refl
live_count_at [] (y ∷ t) e = cc
live_count_at (x ∷ s) [] e = cc
live_count_at (x ∷ s) (y ∷ t) e =
    let h : y.ended ∷ ends t ≡ x.ended ∷ ends s = e in
    let first : y.ended ≡ x.ended = cc in
    let rest : ends t ≡ ends s = cc in
    live_count-cons y t ∙ ap₂ (λ b n. lives_as b + n) first (live_count_at s t rest) ∙ sym (live_count-cons x s)

full_at : (s t : List Context) → ends t ≡ ends s → is_full t ≡ is_full s
full_at s t e = ap (nat_le 4096) (live_count_at s t e)

-- The walks

module _ (s t : List Context) (alike : Alike s t) where
  step_alike : (c : ℕ) → is_live s c ≡ true → above t c ≡ above s c
  step_alike c lives = ap (λ (context : Context). elim context.protected as (λ _. Option ℕ) [ true ↦ None | false ↦ context.parent ]) (alike.stand c lives)

  above_lives : (c p : ℕ) → is_live s c ≡ true → above s c ≡ Some p → is_live s p ≡ true
  above_lives c p lives e = alike.parents c p lives (unprotected (context_at s c).protected (context_at s c).parent e)
    where
      unprotected : (protected : Bool) (parent : Option ℕ) → elim protected [ true ↦ None | false ↦ parent ] ≡ Some p → parent ≡ Some p
      unprotected true parent e = absurd (none-some p e)
      unprotected false parent e = e

  way_alike : (n c : ℕ) → is_live s c ≡ true → way_within n t c ≡ way_within n s c
  unfolding way_within
  way_alike zero c lives = refl
  way_alike (suc n) c lives =
      ap (λ way. c ∷ way) (ap (λ from. elim from as (λ _. List ℕ) [ None ↦ [] | Some p ↦ way_within n t p ]) (step_alike c lives) ∙ onward (above s c) (λ p e. way_alike n p (above_lives c p lives e)))
    where
      onward : (from : Option ℕ) → ((p : ℕ) → from ≡ Some p → way_within n t p ≡ way_within n s p) → ◌≡◌ {A = List ℕ} (elim from [ None ↦ [] | Some p ↦ way_within n t p ]) (elim from [ None ↦ [] | Some p ↦ way_within n s p ])
      onward None same = refl
      onward (Some p) same = same p refl

  -- the first reason on a way of live contexts
  reason_alike : (n c : ℕ) → is_live s c ≡ true → first_reason t (way_within n s c) ≡ first_reason s (way_within n s c)
  unfolding way_within
  reason_alike zero c lives = refl
  reason_alike (suc n) c lives =
      ap₂ (λ own rest. elim own as (λ _. Option Plain) [ Some why ↦ Some why | None ↦ rest ]) (ap (λ (context : Context). context.reason) (alike.stand c lives)) (onward (above s c) (λ p e. reason_alike n p (above_lives c p lives e)))
    where
      onward : (from : Option ℕ) → ((p : ℕ) → from ≡ Some p → first_reason t (way_within n s p) ≡ first_reason s (way_within n s p))
          → first_reason t (elim from [ None ↦ [] | Some p ↦ way_within n s p ]) ≡ first_reason s (elim from [ None ↦ [] | Some p ↦ way_within n s p ])
      onward None same = refl
      onward (Some p) same = same p refl

  off_alike : (c : ℕ) → is_live s c ≡ true → off t c ≡ off s c
  off_alike c lives = ap (first_reason t) (way_alike (c + 1) c lives) ∙ reason_alike (c + 1) c lives

  up_alike : (x c : ℕ) → is_live s x ≡ true → goes_up_to t x c ≡ goes_up_to s x c
  up_alike x c lives = ap (list_any (λ y. y == c)) (way_alike (x + 1) x lives)

  takes_alike : (c : ℕ) → takes_effect t c ≡ takes_effect s c
  takes_alike c = by (is_live s c) refl
    where
      by : (lives : Bool) → is_live s c ≡ lives → takes_effect t c ≡ takes_effect s c
      by true e = ap₂ (λ a b. a && is_none b) (live_at s t c alike.ends) (off_alike c e)
      by false e = ap (λ a. a && is_none (off t c)) (live_at s t c alike.ends ∙ e) ∙ sym (ap (λ a. a && is_none (off s c)) e)

  reached_alike : (ws : List Waiting) (c : ℕ) → WaitLive s ws → reached t ws c ≡ reached s ws c
  reached_alike [] c live = refl
  reached_alike (w ∷ ws) c live = reached-cons s t w ws c (up_alike w.context c live.0) (reached_alike ws c live.1)

members_alike : (s t : Contexts) → Alike s.made t.made → t.waiting ≡ s.waiting → WaitLive s.made s.waiting → (c : ℕ) → members t c ≡ members s c
members_alike s t alike same live c = ap (λ ws. reached t.made ws c) same ∙ reached_alike s.made t.made alike s.waiting c live

answers_alike : (s t : Contexts) → Alike s.made t.made → t.waiting ≡ s.waiting → WaitLive s.made s.waiting → AnswersAlike s t
answers_alike s t alike same live = record {
  count = count_at s.made t.made alike.ends;
  full = full_at s.made t.made alike.ends;
  waiting = same;
  live = λ c. live_at s.made t.made c alike.ends;
  stand = alike.stand;
  off = off_alike s.made t.made alike;
  reached = up_alike s.made t.made alike;
  members = members_alike s t alike same live;
  takes = takes_alike s.made t.made alike;
  struck = λ c.
      ap₂ (λ b ids. elim b as (λ _. List ℕ) [ true ↦ ids | false ↦ [] ]) (takes_alike s.made t.made alike c) (members_alike s t alike same live c);
}

-- Each call keeps them alike

ends-append : (xs : List Context) (x : Context) → ends (xs ++ x ∷ []) ≡ ends xs ++ x.ended ∷ []
ends-append [] x = refl
ends-append (y ∷ xs) x = ap (λ bs. y.ended ∷ bs) (ends-append xs x)

ends-set : (xs : List Context) (c : ℕ) (x : Context) → ends (slice_set xs c x) ≡ slice_set (ends xs) c x.ended
ends-set [] c x = refl
ends-set (y ∷ xs) zero x = refl
ends-set (y ∷ xs) (suc c) x = ap (λ bs. y.ended ∷ bs) (ends-set xs c x)

pub live_below : (s : List Context) (c : ℕ) → is_live s c ≡ true → c < length s
live_below s c lives = elim (compared c (length s)) [
  | inl below ↦ below
  | inr rest ↦
      let past : length s ≤ c = elim rest [ inl same ↦ omega arith | inr beyond ↦ omega arith ] in
      absurd (true≢false (sym lives ∙ ap (λ (context : Context). not context.ended) (past_all s c past)))
]

ended_there : (s : List Context) (c : ℕ) (x : Context) → x.ended ≡ true → is_live (slice_set s c x) c ≡ false
ended_there [] c x e = refl
ended_there (y ∷ s) zero x e = ap not e
ended_there (y ∷ s) (suc c) x e = ended_there s c x e

-- one more, alike

live_stays : (s : List Context) (x : Context) (p : ℕ) → is_live s p ≡ true → is_live (s ++ x ∷ []) p ≡ true
live_stays s x p lives = ap (λ (context : Context). not context.ended) (older_unchanged s p x (live_below s p lives)) ∙ lives

module _ (s t : List Context) (alike : Alike s t) (x : Context) (parent : (p : ℕ) → x.parent ≡ Some p → is_live s p ≡ true) where
  same_length : length t ≡ length s
  same_length = count_at s t alike.ends

  more_stand : (c : ℕ) → is_live (s ++ x ∷ []) c ≡ true → (context_at (t ++ x ∷ []) c ≡ context_at (s ++ x ∷ []) c) × ((p : ℕ) → (context_at (s ++ x ∷ []) c).parent ≡ Some p → is_live (s ++ x ∷ []) p ≡ true)
  more_stand c lives = elim (compared c (length s)) [
    | inl below ↦
        let same : context_at (s ++ x ∷ []) c ≡ context_at s c = older_unchanged s c x below in
        let lived : is_live s c ≡ true = sym (ap (λ (context : Context). not context.ended) same) ∙ lives in (
          older_unchanged t c x (subst (λ n. c < n) (sym same_length) below) ∙ alike.stand c lived ∙ sym same,
          λ p e. live_stays s x p (alike.parents c p lived (sym (ap (λ (context : Context). context.parent) same) ∙ e)),
        )
    | inr rest ↦ elim rest [
      | inl at ↦ (
        made_last t c x (at ∙ sym same_length) ∙ sym (made_last s c x at),
        λ p e. live_stays s x p (parent p (sym (ap (λ (context : Context). context.parent) (made_last s c x at)) ∙ e)),
      )
      | inr past ↦
          let beyond : length (s ++ x ∷ []) ≤ c = omega (arith, length-append s (x ∷ [])) in
          absurd (true≢false (sym lives ∙ ap (λ (context : Context). not context.ended) (past_all (s ++ x ∷ []) c beyond)))
    ]
  ]

  more_alike : Alike (s ++ x ∷ []) (t ++ x ∷ [])
  more_alike = record {
    ends = ends-append t x ∙ ap (λ bs. bs ++ x.ended ∷ []) alike.ends ∙ sym (ends-append s x);
    stand = λ c lives. (more_stand c lives).0;
    parents = λ c p lives e. (more_stand c lives).1 p e;
  }

  made_alike : Alike (make x s).contexts (make x t).contexts
  made_alike = by (is_full s) refl
    where
      by : (full : Bool) → is_full s ≡ full → Alike (make x s).contexts (make x t).contexts
      by true e = subst (λ contexts. Alike (make x s).contexts contexts) (sym (make_full x t (full_at s t alike.ends ∙ e))) (subst (λ contexts. Alike contexts t) (sym (make_full x s e)) alike)
      by false e = subst (λ contexts. Alike (make x s).contexts contexts) (sym (make_contexts x t (full_at s t alike.ends ∙ e))) (subst (λ contexts. Alike contexts (t ++ x ∷ [])) (sym (make_contexts x s e)) more_alike)

  made_live : (p : ℕ) → is_live s p ≡ true → is_live (make x s).contexts p ≡ true
  made_live p lives = by (is_full s) refl
    where
      by : (full : Bool) → is_full s ≡ full → is_live (make x s).contexts p ≡ true
      by true e = ap (λ contexts. is_live contexts p) (make_full x s e) ∙ lives
      by false e = ap (λ contexts. is_live contexts p) (make_contexts x s e) ∙ live_stays s x p lives

-- one changes, alike

module _ (s t : List Context) (alike : Alike s t) (c : ℕ) (x y : Context) (same : y.ended ≡ x.ended) where
  set_ends : ends (slice_set t c y) ≡ ends (slice_set s c x)
  set_ends = ends-set t c y ∙ ap₂ (λ bs b. slice_set bs c b) alike.ends same ∙ sym (ends-set s c x)

  others_live : (q : ℕ) → q ≢ c → is_live (slice_set s c x) q ≡ is_live s q
  others_live q apart = ap (λ (context : Context). not context.ended) (others_unchanged s c q x apart)

  others_stand : (q : ℕ) → q ≢ c → is_live s q ≡ true → context_at (slice_set t c y) q ≡ context_at (slice_set s c x) q
  others_stand q apart lives = others_unchanged t c q y apart ∙ alike.stand q lives ∙ sym (others_unchanged s c q x apart)

-- a reason, alike

module _ (s t : List Context) (alike : Alike s t) (c : ℕ) (why : Plain) (lives : is_live s c ≡ true) where
  abbrev with_why : Context → Context
  with_why context = record context { reason = Some why }

  new_alike : with_why (context_at t c) ≡ with_why (context_at s c)
  new_alike = ap with_why (alike.stand c lives)

  still_live : (q : ℕ) → is_live s q ≡ true → is_live (slice_set s c (with_why (context_at s c))) q ≡ true
  still_live q lived = elim (eqb_tells q c) [
    | inl same ↦
        subst (λ q. is_live (slice_set s c (with_why (context_at s c))) q ≡ true) (sym same.1)
        (ap (λ (context : Context). not context.ended) (changed_itself s c (with_why (context_at s c)) (live_below s c lives)) ∙ lives)
    | inr apart ↦ others_live s t alike c (with_why (context_at s c)) (with_why (context_at t c)) (ap (λ (context : Context). context.ended) new_alike) q apart.1 ∙ lived
  ]

  was_live : (q : ℕ) → is_live (slice_set s c (with_why (context_at s c))) q ≡ true → is_live s q ≡ true
  was_live q lived = elim (eqb_tells q c) [
    | inl same ↦ subst (λ q. is_live s q ≡ true) (sym same.1) lives
    | inr apart ↦ sym (others_live s t alike c (with_why (context_at s c)) (with_why (context_at t c)) (ap (λ (context : Context). context.ended) new_alike) q apart.1) ∙ lived
  ]

  parent_is : (q : ℕ) → (context_at (slice_set s c (with_why (context_at s c))) q).parent ≡ (context_at s q).parent
  parent_is q = left_by_change (λ (context : Context). context.parent) s c q (with_why (context_at s c)) refl

  reasoned_alike : Alike (slice_set s c (with_why (context_at s c))) (slice_set t c (with_why (context_at t c)))
  reasoned_alike = record {
    ends = set_ends s t alike c (with_why (context_at s c)) (with_why (context_at t c)) (ap (λ (context : Context). context.ended) new_alike);
    stand = λ q lived. elim (eqb_tells q c) [
      | inl same ↦
          subst (λ q. context_at (slice_set t c (with_why (context_at t c))) q ≡ context_at (slice_set s c (with_why (context_at s c))) q) (sym same.1)
          (changed_itself t c (with_why (context_at t c)) (subst (λ n. c < n) (sym (count_at s t alike.ends)) (live_below s c lives)) ∙ new_alike ∙ sym (changed_itself s c (with_why (context_at s c)) (live_below s c lives)))
      | inr apart ↦ others_stand s t alike c (with_why (context_at s c)) (with_why (context_at t c)) (ap (λ (context : Context). context.ended) new_alike) q apart.1 (was_live q lived)
    ];
    parents = λ q p lived e. still_live p (alike.parents q p (was_live q lived) (sym (parent_is q) ∙ e));
  }

pub effect_lives : (s : List Context) (c : ℕ) → takes_effect s c ≡ true → is_live s c ≡ true
effect_lives s c e = first (is_live s c) (is_none (off s c)) e
  where
    first : (a b : Bool) → (a && b) ≡ true → a ≡ true
    first true b e = refl
    first false b e = absurd (true≢false (sym e))

cancelled_alike : (s t : List Context) (c : ℕ) (why : Plain) → Alike s t → Alike (cancel c why s) (cancel c why t)
cancelled_alike s t c why alike = by (takes_effect s c) refl
  where
    by : (takes : Bool) → takes_effect s c ≡ takes → Alike (cancel c why s) (cancel c why t)
    by true e = subst (λ contexts. Alike (cancel c why s) contexts) (sym (cancel_some t c why (takes_alike s t alike c ∙ e))) (subst (λ contexts. Alike contexts (slice_set t c (record (context_at t c) { reason = Some why }))) (sym (cancel_some s c why e)) (reasoned_alike s t alike c why (effect_lives s c e)))
    by false e = subst (λ contexts. Alike (cancel c why s) contexts) (sym (cancel_none t c why (takes_alike s t alike c ∙ e))) (subst (λ contexts. Alike contexts t) (sym (cancel_none s c why e)) alike)

cancelled_live : (s t : List Context) (c : ℕ) (why : Plain) → Alike s t → (q : ℕ) → is_live s q ≡ true → is_live (cancel c why s) q ≡ true
cancelled_live s t c why alike q lives = by (takes_effect s c) refl
  where
    by : (takes : Bool) → takes_effect s c ≡ takes → is_live (cancel c why s) q ≡ true
    by true e = ap (λ contexts. is_live contexts q) (cancel_some s c why e) ∙ still_live s t alike c why (effect_lives s c e) q lives
    by false e = ap (λ contexts. is_live contexts q) (cancel_none s c why e) ∙ lives

-- an end

module _ (s t : List Context) (alike : Alike s t) (c : ℕ) (childless : HasNoLiveChild s c) where
  abbrev ended : Context
  ended = record (context_at s c) { ended = true }

  apart_of : (q : ℕ) → is_live (slice_set s c ended) q ≡ true → q ≢ c
  apart_of q lived same = true≢false (sym lived ∙ subst (λ q. is_live (slice_set s c ended) q ≡ false) (sym same) (ended_there s c ended refl))

  lived_before : (q : ℕ) → is_live (slice_set s c ended) q ≡ true → is_live s q ≡ true
  lived_before q lived = sym (others_live s t alike c ended never_made refl q (apart_of q lived)) ∙ lived

  ended_alike : Alike (slice_set s c ended) (slice_set t c never_made)
  ended_alike = record {
    ends = set_ends s t alike c ended never_made refl;
    stand = λ q lived. others_stand s t alike c ended never_made refl q (apart_of q lived) (lived_before q lived);
    parents = λ q p lived e.
        let parent : (context_at s q).parent ≡ Some p = sym (ap (λ (context : Context). context.parent) (others_unchanged s c q ended (apart_of q lived))) ∙ e in
        let lives : is_live s p ≡ true = alike.parents q p (lived_before q lived) parent in
        others_live s t alike c ended never_made refl p (λ same. childless q (lived_before q lived) (parent ∙ ap Some same)) ∙ lives;
  }

  left_waiting : (ws : List Waiting) → waits_in c ws ≡ false → WaitLive s ws → WaitLive (slice_set s c ended) ws
  left_waiting [] idle live = tt
  left_waiting (w ∷ ws) idle live =
      let parts = neither (w.context == c) (waits_in c ws) idle in
      (others_live s t alike c ended never_made refl w.context (λ same. true≢false (sym (tells_same w.context c same) ∙ parts.0)) ∙ live.0, left_waiting ws parts.1 live.1)
    where
      neither : (a b : Bool) → (a || b) ≡ false → (a ≡ false) × (b ≡ false)
      neither true b e = absurd (true≢false e)
      neither false b e = (refl, e)

-- The waiting fibers

WaitLive-still : (s s' : List Context) (ws : List Waiting) → ((q : ℕ) → is_live s q ≡ true → is_live s' q ≡ true) → WaitLive s ws → WaitLive s' ws
WaitLive-still s s' [] still live = tt
WaitLive-still s s' (w ∷ ws) still live = (still w.context live.0, WaitLive-still s s' ws still live.1)

WaitLive-put : (s : List Context) (w : Waiting) (ws : List Waiting) → is_live s w.context ≡ true → WaitLive s ws → WaitLive s (put_in w ws)
WaitLive-put s w [] lives live = (lives, tt)
WaitLive-put s w (v ∷ ws) lives live =
    elim (nat_lt w.fiber v.fiber) as (λ b. WaitLive s (elim b [ true ↦ w ∷ v ∷ ws | false ↦ v ∷ put_in w ws ])) [
      | true ↦ (lives, live)
      | false ↦ (live.0, WaitLive-put s w ws lives live.1)
    ]

WaitLive-filter : (s : List Context) (p : Waiting → Bool) (ws : List Waiting) → WaitLive s ws → WaitLive s (filter p ws)
WaitLive-filter s p [] live = tt
WaitLive-filter s p (w ∷ ws) live =
    elim (p w) as (λ b. WaitLive s (cond b (w ∷ filter p ws) (filter p ws))) [
      | true ↦ (live.0, WaitLive-filter s p ws live.1)
      | false ↦ WaitLive-filter s p ws live.1
    ]

-- All calls

record BothStand (s t : Contexts) : Type 0 where
  pub alike : Alike s.made t.made
  pub waiting : t.waiting ≡ s.waiting
  pub live : WaitLive s.made s.waiting

no_parent : (protected : Bool) (p : ℕ) (s : List Context) → (new_context None protected).parent ≡ Some p → is_live s p ≡ true
no_parent protected p s e = absurd (none-some p e)

that_parent : (parent p : ℕ) (s : List Context) → Some parent ≡ Some p → is_live s parent ≡ true → is_live s p ≡ true
that_parent parent p s e lives = let same : parent ≡ p = cc in subst (λ q. is_live s q ≡ true) same lives

made_both : (s t : Contexts) (x : Context) → BothStand s t → ((p : ℕ) → x.parent ≡ Some p → is_live s.made p ≡ true) → BothStand (record s { made = (make x s.made).contexts }) (record t { made = (make x t.made).contexts })
made_both s t x both parent = record {
  alike = made_alike s.made t.made both.alike x parent;
  waiting = both.waiting;
  live = WaitLive-still s.made (make x s.made).contexts s.waiting (made_live s.made t.made both.alike x parent) both.live;
}

call_both : (call : ContextCall) (s t : Contexts) → BothStand s t → MayCall call s → BothStand (called call s) (left call t)
call_both Root s t both may = made_both s t (new_context None false) both (λ p e. no_parent false p s.made e)
call_both (Sub parent) s t both may = made_both s t (new_context (Some parent) false) both (λ p e. that_parent parent p s.made e may)
call_both (Protect parent) s t both may = made_both s t (new_context (Some parent) true) both (λ p e. that_parent parent p s.made e may)
call_both (Cancel c why) s t both may = record {
  alike = cancelled_alike s.made t.made c why both.alike;
  waiting = both.waiting;
  live = WaitLive-still s.made (cancel c why s.made) s.waiting (cancelled_live s.made t.made c why both.alike) both.live;
}
call_both (Wait c fiber) s t both may = record {
  alike = both.alike;
  waiting = ap (put_in (record { fiber = fiber; context = c })) both.waiting;
  live = WaitLive-put s.made (record { fiber = fiber; context = c }) s.waiting may both.live;
}
call_both (Unwait fiber) s t both may = record {
  alike = both.alike;
  waiting = ap (taken_out fiber) both.waiting;
  live = WaitLive-filter s.made (λ w. not (w.fiber == fiber)) s.waiting both.live;
}
call_both (End c) s t both may = record {
  alike = ended_alike s.made t.made both.alike c may.childless;
  waiting = both.waiting;
  live = left_waiting s.made t.made both.alike c may.childless s.waiting may.idle both.live;
}

calls_both : (calls : List ContextCall) (s t : Contexts) → BothStand s t → MayCallAll calls s → BothStand (after calls s) (left_after calls t)
unfolding after left_after MayCallAll
calls_both [] s t both may = both
calls_both (call ∷ calls) s t both may = calls_both calls (called call s) (left call t) (call_both call s t both may.0) may.1

pub forgets_nothing_live : ForgetsNothingLive
forgets_nothing_live calls may =
    let none : BothStand no_contexts no_contexts = record { alike = record { ends = refl; stand = λ c lives. refl; parents = λ c p lives e. absurd (none-some p e) }; waiting = refl; live = tt } in
    let both : BothStand (after calls no_contexts) (left_after calls no_contexts) = calls_both calls no_contexts no_contexts none may in
    answers_alike (after calls no_contexts) (left_after calls no_contexts) both.alike both.waiting both.live
