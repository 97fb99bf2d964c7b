-- What stands under a number after a context was changed, or one more was made.
use Rattle.std.proofs.Common.{◌≡◌, ℕ, zero, suc, ◌<◌, ◌≤◌, List, [], ◌∷◌, ◌++◌, length, slice_set, refl, ap, arith}
use Rattle.spec_parts.specs.Contexts.{Context, context_at, never_made}

-- what a change leaves of the changed context, it leaves of all
pub left_by_change : {X : Type 0} (part : Context → X) (contexts : List Context) (c x : ℕ) (changed : Context) → part changed ≡ part (context_at contexts c) → part (context_at (slice_set contexts c changed) x) ≡ part (context_at contexts x)
left_by_change part [] c x changed e = refl
left_by_change part (context ∷ contexts) zero zero changed e = e
left_by_change part (context ∷ contexts) zero (suc x) changed e = refl
left_by_change part (context ∷ contexts) (suc c) zero changed e = refl
left_by_change part (context ∷ contexts) (suc c) (suc x) changed e = left_by_change part contexts c x changed e

-- the others stay as they were
pub others_unchanged : (contexts : List Context) (c x : ℕ) (changed : Context) → (x ≡ c → ⊥) → context_at (slice_set contexts c changed) x ≡ context_at contexts x
others_unchanged [] c x changed other = refl
others_unchanged (context ∷ contexts) zero zero changed other = absurd (other refl)
others_unchanged (context ∷ contexts) zero (suc x) changed other = refl
others_unchanged (context ∷ contexts) (suc c) zero changed other = refl
others_unchanged (context ∷ contexts) (suc c) (suc x) changed other = others_unchanged contexts c x changed (λ e. other (ap suc e))

-- the changed context itself, where it was made
pub changed_itself : (contexts : List Context) (c : ℕ) (changed : Context) → c < length contexts → context_at (slice_set contexts c changed) c ≡ changed
changed_itself [] c changed below = absurd (omega arith)
changed_itself (context ∷ contexts) zero changed below = refl
changed_itself (context ∷ contexts) (suc c) changed below = changed_itself contexts c changed (omega arith)

-- once one more was made, the older ones stand where they stood, it stands last, and past it stands none
pub older_unchanged : (contexts : List Context) (x : ℕ) (made : Context) → x < length contexts → context_at (contexts ++ made ∷ []) x ≡ context_at contexts x
older_unchanged [] x made below = absurd (omega arith)
older_unchanged (context ∷ contexts) zero made below = refl
older_unchanged (context ∷ contexts) (suc x) made below = older_unchanged contexts x made (omega arith)

pub made_last : (contexts : List Context) (x : ℕ) (made : Context) → x ≡ length contexts → context_at (contexts ++ made ∷ []) x ≡ made
made_last [] zero made e = refl
made_last [] (suc x) made e = absurd (omega arith)
made_last (context ∷ contexts) zero made e = absurd (omega arith)
made_last (context ∷ contexts) (suc x) made e = made_last contexts x made (omega arith)

pub past_all : (contexts : List Context) (x : ℕ) → length contexts ≤ x → context_at contexts x ≡ never_made
past_all [] x past = refl
past_all (context ∷ contexts) zero past = absurd (omega arith)
past_all (context ∷ contexts) (suc x) past = past_all contexts x (omega arith)
