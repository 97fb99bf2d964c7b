-- From the marks of cells to fates. Stamps rise in a cell, so a wait has one decision there, and its stamp is above the arm's.
use Rattle.std.proofs.Common.{◌≡◌, ℕ, ◌<◌, ◌≤◌, ◌⊎◌, inl, inr, ⊎_elim, Bool, true, false, ◌==◌, List, [], ◌∷◌, Option, Some, None, refl, sym, ap, ◌∙◌, true≢false, arith, eqb-true, eq-eqb}
use Rattle.spec_parts.specs.ResumeWords.{Decision, Mark, Arms, Decides, Continues}
use Rattle.spec_machine.specs.PartsOfRuns.{IsIn, decision_in}
use Rattle.law_history.proofs.Legal.Coming.{same_fate}
use Rattle.law_history.proofs.Legal.Fates.{Fate, Fates, decision_by}

-- the fate of a wait, by the marks of its cell
abbrev pub fate_in : List Mark → (armed : ℕ) → Option Fate
fate_in [] armed = None
fate_in (Arms other maker ∷ marks) armed = fate_in marks armed
fate_in (Decides decision other stamp maker ∷ marks) armed = elim (other == armed) [ true ↦ Some (record { decision = decision; stamp = stamp; maker = maker }) | false ↦ fate_in marks armed ]

abbrev pub fates_of : (cells : (cell : ℕ) → List Mark) → Fates
fates_of cells cell armed = fate_in (cells cell) armed

decided_go : (b : Bool) (fate : Fate) (found : Option Decision) (other : Option Fate) → found ≡ decision_by other → elim b [ true ↦ Some fate.decision | false ↦ found ] ≡ decision_by (elim b [ true ↦ Some fate | false ↦ other ])
decided_go true fate found other e = refl
decided_go false fate found other e = e

pub decision_of_fate : (marks : List Mark) (armed : ℕ) → decision_in marks armed ≡ decision_by (fate_in marks armed)
decision_of_fate [] armed = refl
decision_of_fate (Arms other maker ∷ marks) armed = decision_of_fate marks armed
decision_of_fate (Decides decision other stamp maker ∷ marks) armed =
    decided_go (other == armed) (record { decision = decision; stamp = stamp; maker = maker }) (decision_in marks armed) (fate_in marks armed) (decision_of_fate marks armed)

abbrev armed_of : ℕ → Mark → ℕ
armed_of n (Arms armed maker) = n
armed_of n (Decides decision armed stamp maker) = armed

abbrev fate_of : Fate → Mark → Fate
fate_of f (Arms armed maker) = f
fate_of f (Decides decision armed stamp maker) = record { decision = decision; stamp = stamp; maker = maker }

same_armed : (n m : ℕ) → Some n ≡ Some m → n ≡ m
same_armed n m e = ap (λ (o : Option ℕ). elim o [ None ↦ n | Some k ↦ k ]) e

-- the decisions to come are of the wait that stands open, or of later ones
of_later_waits : (standing : Option ℕ) (last : ℕ) (marks : List Mark) (k : Decision) (a s b : ℕ) → Continues standing last marks → IsIn (Decides k a s b) marks → (standing ≡ Some a) ⊎ (last < a)
of_later_waits standing last [] k a s b c i = absurd i
of_later_waits standing last (Arms n maker ∷ marks) k a s b c i = ⊎_elim
    (λ (e : Arms n maker ≡ Decides k a s b). absurd (cc))
    (λ (i : IsIn (Decides k a s b) marks). let l : last < n = c.0 in ⊎_elim
    (λ (e : Some n ≡ Some a). let q : n ≡ a = same_armed n a e in inr (omega arith))
    (λ (h : n < a). inr (omega arith))
    (of_later_waits (Some n) n marks k a s b c.1 i))
    i
of_later_waits None last (Decides k' a' s' b' ∷ marks) k a s b c i = absurd c
of_later_waits (Some n) last (Decides k' a' s' b' ∷ marks) k a s b c i = ⊎_elim
    (λ (e : Decides k' a' s' b' ≡ Decides k a s b). let q : a' ≡ a = ap (armed_of a') e in inl (ap Some (sym c.0 ∙ q)))
    (λ (i : IsIn (Decides k a s b) marks). let l : last < s' = c.1 in ⊎_elim (λ (e : None ≡ Some a). absurd (cc)) (λ (h : s' < a). inr (omega arith)) (of_later_waits None s' marks k a s b c.2 i))
    i

-- a decision has a stamp above that of its arm
pub decided_above_arm : (standing : Option ℕ) (last : ℕ) (marks : List Mark) (k : Decision) (a s b : ℕ) → ((n : ℕ) → standing ≡ Some n → n ≤ last) → Continues standing last marks → IsIn (Decides k a s b) marks → a < s
decided_above_arm standing last [] k a s b h c i = absurd i
decided_above_arm standing last (Arms n maker ∷ marks) k a s b h c i = ⊎_elim
    (λ (e : Arms n maker ≡ Decides k a s b). absurd (cc))
    (λ (i : IsIn (Decides k a s b) marks). decided_above_arm (Some n) n marks k a s b (λ m e. let q : n ≡ m = same_armed n m e in omega arith) c.1 i)
    i
decided_above_arm None last (Decides k' a' s' b' ∷ marks) k a s b h c i = absurd c
decided_above_arm (Some n) last (Decides k' a' s' b' ∷ marks) k a s b h c i = ⊎_elim
    (λ (e : Decides k' a' s' b' ≡ Decides k a s b).
    let q : a' ≡ a = ap (armed_of a') e in
    let f : Fate = record { decision = k'; stamp = s'; maker = b' } in
    let r : s' ≡ s = ap (λ (m : Mark). (fate_of f m).stamp) e in
    let l : last < s' = c.1 in
    let g : n ≤ last = h n refl in
    let d : a' ≡ n = c.0 in
    omega arith)
    (λ (i : IsIn (Decides k a s b) marks). decided_above_arm None s' marks k a s b (λ m e. absurd (cc)) c.2 i)
    i

abbrev this_or : Bool → Fate → Option Fate → Option Fate
this_or c fate other = elim c [ true ↦ Some fate | false ↦ other ]

found_go : (n last : ℕ) (marks : List Mark) (k' : Decision) (a' s' b' : ℕ) (k : Decision) (a s b : ℕ) → n ≤ last → (a' ≡ n) × (last < s') × Continues None s' marks
    → (Decides k' a' s' b' ≡ Decides k a s b) ⊎ IsIn (Decides k a s b) marks
    → (IsIn (Decides k a s b) marks → fate_in marks a ≡ Some (record { decision = k; stamp = s; maker = b })) → (c : Bool) → (a' == a) ≡ c
    → this_or c (record { decision = k'; stamp = s'; maker = b' }) (fate_in marks a) ≡ Some (record { decision = k; stamp = s; maker = b })
found_go n last marks k' a' s' b' k a s b le c i ih true e = ⊎_elim
    (λ (q : Decides k' a' s' b' ≡ Decides k a s b). let f : Fate = record { decision = k'; stamp = s'; maker = b' } in ap (λ (m : Mark). Some (fate_of f m)) q)
    (λ (i : IsIn (Decides k a s b) marks).
    let q : a' ≡ a = eqb-true a' a e in
    ⊎_elim (λ (z : None ≡ Some a). absurd (cc)) (λ (h : s' < a). let g : a' ≡ n = c.0 in let l : last < s' = c.1 in absurd (omega arith)) (of_later_waits None s' marks k a s b c.2 i))
    i
found_go n last marks k' a' s' b' k a s b le c i ih false e = ⊎_elim
    (λ (q : Decides k' a' s' b' ≡ Decides k a s b). let r : a' ≡ a = ap (armed_of a') q in absurd (true≢false (sym (eq-eqb a' a r) ∙ e)))
    (λ (i : IsIn (Decides k a s b) marks). ih i)
    i

-- each decision among the marks is the fate of its wait
pub decision_is_fate : (standing : Option ℕ) (last : ℕ) (marks : List Mark) (k : Decision) (a s b : ℕ) → ((n : ℕ) → standing ≡ Some n → n ≤ last) → Continues standing last marks → IsIn (Decides k a s b) marks
    → fate_in marks a ≡ Some (record { decision = k; stamp = s; maker = b })
decision_is_fate standing last [] k a s b h c i = absurd i
decision_is_fate standing last (Arms n maker ∷ marks) k a s b h c i = ⊎_elim
    (λ (e : Arms n maker ≡ Decides k a s b). absurd (cc))
    (λ (i : IsIn (Decides k a s b) marks). decision_is_fate (Some n) n marks k a s b (λ m e. let q : n ≡ m = same_armed n m e in omega arith) c.1 i)
    i
decision_is_fate None last (Decides k' a' s' b' ∷ marks) k a s b h c i = absurd c
decision_is_fate (Some n) last (Decides k' a' s' b' ∷ marks) k a s b h c i =
    found_go n last marks k' a' s' b' k a s b (h n refl) c i (λ i. decision_is_fate None s' marks k a s b (λ m e. absurd (cc)) c.2 i) (a' == a) refl

fate_go : (marks : List Mark) (k' : Decision) (a' s' b' a : ℕ) (f : Fate) (c : Bool) → (a' == a) ≡ c → this_or c (record { decision = k'; stamp = s'; maker = b' }) (fate_in marks a) ≡ Some f
    → (fate_in marks a ≡ Some f → IsIn (Decides f.decision a f.stamp f.maker) marks) → (Decides k' a' s' b' ≡ Decides f.decision a f.stamp f.maker) ⊎ IsIn (Decides f.decision a f.stamp f.maker) marks
fate_go marks k' a' s' b' a f true e q ih =
    let g : Fate = record { decision = k'; stamp = s'; maker = b' } in
    let r : g ≡ f = same_fate g f q in
    let t : a' ≡ a = eqb-true a' a e in
    inl (λ i. Decides (r i).decision (t i) (r i).stamp (r i).maker)
fate_go marks k' a' s' b' a f false e q ih = inr (ih q)

-- and each fate is a decision among the marks
pub fate_is_decision : (marks : List Mark) (a : ℕ) (f : Fate) → fate_in marks a ≡ Some f → IsIn (Decides f.decision a f.stamp f.maker) marks
fate_is_decision [] a f e = absurd (cc)
fate_is_decision (Arms n maker ∷ marks) a f e = inr (fate_is_decision marks a f e)
fate_is_decision (Decides k' a' s' b' ∷ marks) a f e = fate_go marks k' a' s' b' a f (a' == a) refl e (λ q. fate_is_decision marks a f q)
