-- What calls leave: parents stay older than their children, and who is off stays off.
-- A step keeps where each cancellation comes down from, and gives a reason only to a context that isn't off; so each walk that met a reason still meets it.
use Rattle.std.proofs.Common.{◌≡◌, ℕ, zero, suc, ◌+◌, ◌<◌, ◌≤◌, ◌⊎◌, inl, inr, Bool, true, false, ◌&&◌, List, [], ◌∷◌, ◌++◌, length, slice_set, Option, Some, None, refl, ap, ap₂, sym, subst, ◌∙◌, arith, true≢false, length-append}
use Rattle.std.specs.Prelude.{is_none}
use Rattle.std.proofs.lemmas.Option.{none-some}
use Rattle.eio_value.specs.declared.plain.Plain.{Plain}
use Rattle.spec_parts.specs.Contexts.{Context, context_at, new_context, is_full, is_live, above, off, takes_effect, cancel, Made, make, end}
use Rattle.spec_parts.specs.ContextCalls.{Contexts, no_contexts, ContextCall, Root, Sub, Protect, Cancel, Wait, Unwait, End, called, after, IsCallable, AreCallable}
use Rattle.law_parts.specs.Contexts.{or_else, off_above}
use Rattle.law_parts.proofs.Places.{left_by_change, others_unchanged, older_unchanged, made_last, past_all}
use Rattle.law_parts.proofs.Walks.{ParentsAreOlder, above_is_parent, off_walks}

-- from one list of contexts to the next
pub record Continues (contexts next : List Context) : Type 0 where
  pub older : ParentsAreOlder next
  pub above : (c p : ℕ) → above contexts c ≡ Some p → above next c ≡ Some p
  pub reason : (c : ℕ) (why : Plain) → off contexts c ≡ Some why → (context_at next c).reason ≡ (context_at contexts c).reason

-- Who is off stays off

-- where the own reason is unchanged, the reason stays if that from above does
own_stays : (own : Option Plain) (rest later : Option Plain) (why : Plain) → or_else own rest ≡ Some why → (rest ≡ Some why → later ≡ Some why) → or_else own later ≡ Some why
own_stays (Some own) rest later why e f = e
own_stays None rest later why e f = f e

-- the reason from above stays, if it stays there
above_stays : (contexts next : List Context) → Continues contexts next → (c : ℕ) (why : Plain) → ((p : ℕ) → p < c → off contexts p ≡ Some why → off next p ≡ Some why) → ParentsAreOlder contexts → off_above contexts c ≡ Some why → off_above next c ≡ Some why
above_stays contexts next step c why stays older e = by (above contexts c) refl e
  where
    by : (from : Option ℕ) → above contexts c ≡ from → elim from [ None ↦ None | Some p ↦ off contexts p ] ≡ Some why → off_above next c ≡ Some why
    by None from e = absurd (none-some why e)
    by (Some p) from e =
        ap (λ from. elim from [ None ↦ None | Some p ↦ off next p ]) (step.above c p from) ∙ stays p (older c p (above_is_parent contexts c p from)) e

stays_below : (contexts next : List Context) → ParentsAreOlder contexts → Continues contexts next → (n c : ℕ) (why : Plain) → c < n → off contexts c ≡ Some why → off next c ≡ Some why
stays_below contexts next older step zero c why below e = absurd (omega arith)
stays_below contexts next older step (suc n) c why below e =
    let walked : or_else (context_at contexts c).reason (off_above contexts c) ≡ Some why = sym (off_walks contexts older c) ∙ e in
    off_walks next step.older c
    ∙ ap (λ own. or_else own (off_above next c)) (step.reason c why e)
    ∙ own_stays (context_at contexts c).reason (off_above contexts c) (off_above next c) why walked
    (above_stays contexts next step c why (λ p lower. stays_below contexts next older step n p why (omega arith)) older)

pub off_stays_in : (contexts next : List Context) → ParentsAreOlder contexts → Continues contexts next → (c : ℕ) (why : Plain) → off contexts c ≡ Some why → off next c ≡ Some why
off_stays_in contexts next older step c why e = stays_below contexts next older step (c + 1) c why (omega arith) e

-- Each call is such a step

pub no_step : (contexts : List Context) → ParentsAreOlder contexts → Continues contexts contexts
no_step contexts older = record { older = older; above = (λ c p e. e); reason = (λ c why e. refl) }

pub same_above : (contexts : List Context) (c x : ℕ) (changed : Context) → changed.parent ≡ (context_at contexts c).parent → changed.protected ≡ (context_at contexts c).protected → above (slice_set contexts c changed) x ≡ above contexts x
same_above contexts c x changed parent protected =
    ap₂ from (left_by_change (λ context. context.protected) contexts c x changed protected) (left_by_change (λ context. context.parent) contexts c x changed parent)
  where
    from : Bool → Option ℕ → Option ℕ
    from protected parent = elim protected [ true ↦ None | false ↦ parent ]

-- a context changes, but neither in its parent nor in whether it is protected
pub change : (contexts : List Context) (c : ℕ) (changed : Context) → ParentsAreOlder contexts → changed.parent ≡ (context_at contexts c).parent → changed.protected ≡ (context_at contexts c).protected
    → ((x : ℕ) (why : Plain) → off contexts x ≡ Some why → (context_at (slice_set contexts c changed) x).reason ≡ (context_at contexts x).reason) → Continues contexts (slice_set contexts c changed)
change contexts c changed older parent protected reason =
    record {
      older = (λ x p e. older x p (sym (left_by_change (λ context. context.parent) contexts c x changed parent) ∙ e));
      above = (λ x p e. same_above contexts c x changed parent protected ∙ e);
      reason = reason;
    }

pub end_step : (contexts : List Context) (c : ℕ) → ParentsAreOlder contexts → Continues contexts (end c contexts)
end_step contexts c older =
    let changed : Context = record (context_at contexts c) { ended = true } in
    change contexts c changed older refl refl (λ x why e. left_by_change (λ context. context.reason) contexts c x changed refl)

both_true : (a b : Bool) → (a && b) ≡ true → b ≡ true
both_true true b e = e
both_true false b e = absurd (true≢false (sym e))

none_of : (reason : Option Plain) → is_none reason ≡ true → reason ≡ None
none_of None e = refl
none_of (Some why) e = absurd (true≢false (sym e))

-- whose cancellation takes effect isn't off
pub not_off : (contexts : List Context) (c : ℕ) → takes_effect contexts c ≡ true → off contexts c ≡ None
not_off contexts c effect = none_of (off contexts c) (both_true (is_live contexts c) (is_none (off contexts c)) effect)

pub cancel_step : (contexts : List Context) (c : ℕ) (why : Plain) → ParentsAreOlder contexts → Continues contexts (cancel c why contexts)
cancel_step contexts c why older = by (takes_effect contexts c) refl
  where
    by : (effect : Bool) → takes_effect contexts c ≡ effect → Continues contexts (elim effect [ true ↦ slice_set contexts c (record (context_at contexts c) { reason = Some why }) | false ↦ contexts ])
    by false effect = no_step contexts older
    by true effect = change contexts c (record (context_at contexts c) { reason = Some why }) older refl refl
        (λ x why' e. ap (λ context. context.reason) (others_unchanged contexts c x (record (context_at contexts c) { reason = Some why })
        (λ same. none-some why' (sym (not_off contexts c effect) ∙ subst (λ x. off contexts x ≡ Some why') same e))))

-- a number is that of a context, or stands for none
pub below_or_past : (contexts : List Context) (x : ℕ) → (x < length contexts) ⊎ (length contexts ≤ x)
below_or_past [] x = inr (omega arith)
below_or_past (context ∷ contexts) zero = inl (omega arith)
below_or_past (context ∷ contexts) (suc x) = elim (below_or_past contexts x) [ inl below ↦ inl (omega arith) | inr past ↦ inr (omega arith) ]

-- the context that is made has a parent below its own number
parents_with : (contexts : List Context) (made : Context) → ParentsAreOlder contexts → ((p : ℕ) → made.parent ≡ Some p → p < length contexts) → ParentsAreOlder (contexts ++ made ∷ [])
parents_with contexts made older parent x p e = by (below_or_past contexts x)
  where
    by : (x < length contexts) ⊎ (length contexts ≤ x) → p < x
    by (inl below) = older x p (sym (ap (λ context. context.parent) (older_unchanged contexts x made below)) ∙ e)
    by (inr past) = by_last (below_or_past (contexts ++ made ∷ []) x)
      where
        by_last : (x < length (contexts ++ made ∷ [])) ⊎ (length (contexts ++ made ∷ []) ≤ x) → p < x
        by_last (inl below) =
            let total : length (contexts ++ made ∷ []) ≡ length contexts + 1 = length-append contexts (made ∷ []) in
            let at : x ≡ length contexts = omega arith in
            let lower : p < length contexts = parent p (sym (ap (λ context. context.parent) (made_last contexts x made at)) ∙ e) in omega arith
        by_last (inr beyond) = absurd (none-some p (sym (ap (λ context. context.parent) (past_all (contexts ++ made ∷ []) x beyond)) ∙ e))

made_above : (contexts : List Context) (made : Context) (x p : ℕ) → above contexts x ≡ Some p → above (contexts ++ made ∷ []) x ≡ Some p
made_above contexts made x p e = by (below_or_past contexts x)
  where
    by : (x < length contexts) ⊎ (length contexts ≤ x) → above (contexts ++ made ∷ []) x ≡ Some p
    by (inl below) = ap (λ context. elim context.protected [ true ↦ None | false ↦ context.parent ]) (older_unchanged contexts x made below) ∙ e
    by (inr past) = absurd (none-some p (sym (ap (λ context. elim context.protected [ true ↦ None | false ↦ context.parent ]) (past_all contexts x past)) ∙ e))

-- who stands under no number isn't off
nobody_off : (contexts : List Context) → ParentsAreOlder contexts → (x : ℕ) → length contexts ≤ x → off contexts x ≡ None
nobody_off contexts older x past =
    off_walks contexts older x
    ∙ ap₂ (λ own from. or_else own (elim from [ None ↦ None | Some p ↦ off contexts p ]))
    (ap (λ context. context.reason) (past_all contexts x past))
    (ap (λ context. elim context.protected [ true ↦ None | false ↦ context.parent ]) (past_all contexts x past))

made_reason : (contexts : List Context) (made : Context) → ParentsAreOlder contexts → (x : ℕ) (why : Plain) → off contexts x ≡ Some why → (context_at (contexts ++ made ∷ []) x).reason ≡ (context_at contexts x).reason
made_reason contexts made older x why e = by (below_or_past contexts x)
  where
    by : (x < length contexts) ⊎ (length contexts ≤ x) → (context_at (contexts ++ made ∷ []) x).reason ≡ (context_at contexts x).reason
    by (inl below) = ap (λ context. context.reason) (older_unchanged contexts x made below)
    by (inr past) = absurd (none-some why (sym (nobody_off contexts older x past) ∙ e))

abbrev made_or : (full : Bool) → List Context → Context → Made
made_or full contexts made = elim full [ true ↦ record { number = None; contexts = contexts } | false ↦ record { number = Some (length contexts); contexts = contexts ++ made ∷ [] } ]

make_step : (contexts : List Context) (made : Context) → ParentsAreOlder contexts → ((p : ℕ) → made.parent ≡ Some p → p < length contexts) → Continues contexts (make made contexts).contexts
make_step contexts made older parent = by (is_full contexts)
  where
    by : (full : Bool) → Continues contexts (made_or full contexts made).contexts
    by true = no_step contexts older
    by false = record { older = parents_with contexts made older parent; above = made_above contexts made; reason = made_reason contexts made older }

under : (parent length : ℕ) → parent < length → (p : ℕ) → Some parent ≡ Some p → p < length
under parent length below p e = subst (λ q. q < length) (some_same parent p e) below
  where
    some_same : (a b : ℕ) → Some a ≡ Some b → a ≡ b
    some_same a b e = ap (λ o. elim o [ None ↦ a | Some x ↦ x ]) e

pub call_step : (call : ContextCall) (s : Contexts) → ParentsAreOlder s.made → IsCallable call s → Continues s.made (called call s).made
call_step Root s older may = make_step s.made (new_context None false) older (λ p e. absurd (none-some p e))
call_step (Sub parent) s older may = make_step s.made (new_context (Some parent) false) older (under parent (length s.made) may)
call_step (Protect parent) s older may = make_step s.made (new_context (Some parent) true) older (under parent (length s.made) may)
call_step (Cancel c why) s older may = cancel_step s.made c why older
call_step (Wait c fiber) s older may = no_step s.made older
call_step (Unwait fiber) s older may = no_step s.made older
call_step (End c) s older may = end_step s.made c older

pub parents_stay_older : (calls : List ContextCall) (s : Contexts) → ParentsAreOlder s.made → AreCallable calls s → ParentsAreOlder (after calls s).made
unfolding after AreCallable
parents_stay_older [] s older may = older
parents_stay_older (call ∷ calls) s older may = parents_stay_older calls (called call s) (call_step call s older may.0).older may.1

pub no_parents : ParentsAreOlder no_contexts.made
no_parents c p e = absurd (none-some p e)

pub off_stays_after : (calls : List ContextCall) (s : Contexts) → ParentsAreOlder s.made → AreCallable calls s → (c : ℕ) (why : Plain) → off s.made c ≡ Some why → off (after calls s).made c ≡ Some why
unfolding after AreCallable
off_stays_after [] s older may c why e = e
off_stays_after (call ∷ calls) s older may c why e =
    let step : Continues s.made (called call s).made = call_step call s older may.0 in
    off_stays_after calls (called call s) step.older may.1 c why (off_stays_in s.made (called call s).made older step c why e)
