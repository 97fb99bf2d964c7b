-- The rule holds of new cells; and seats are dealt, and taken in again.
use Rattle.std.proofs.Common.{◌≡◌, ◌≢◌, ℕ, zero, suc, ◌+◌, ◌<◌, ◌≤◌, ◌⊎◌, true, false, List, [], ◌∷◌, ◌++◌, ◌==◌, length, set, refl, sym, ap, ◌∙◌, subst, inl, inr, ⊎_elim, arith, eq-eqb, ne_eqb, length-set, length-append}
use Rattle.std.specs.Prelude.{slice_index, if◌then◌else◌, replicate}
use mathlib.Core.Option.{some, some-injective, some-ne-none}
use mathlib.Core.Logic.{dite}
use native.Mathlib.Decide.{dec_le}
use lib.ListN.{get_elem?}
use Rattle.atomic_table.proofs.Lists.{at_set}
use Rattle.atomic_table.specs.Table.{opening, Splits, Joins}
use Rattle.resume_cells.specs.declared.view.SeatLog.{SeatLog}
use Rattle.resume_cells.specs.declared.view.View.{View}
use Rattle.resume_cells.specs.declared.rule.Plan.{Plan}
use Rattle.resume_cells.specs.Marks.{marks_by, word_bound, AllWere}
use Rattle.resume_cells.specs.Rule.{IsFree, Fits, Leads, Keeps}
use Rattle.resume_cells.specs.Views.{first_view, dealing, dealt_to, taking_in, spent}
use Rattle.resume_cells.proofs.Cases.{at_below}

pub at_end : {A : Type 0} (l : List A) (a b : A) (j : ℕ) → get_elem? (l ++ a ∷ []) j ≡ some b → (get_elem? l j ≡ some b) ⊎ ((j ≡ length l) × (a ≡ b))
at_end [] a b zero e = inr (refl, some-injective a b e)
at_end [] a b (suc j) e = absurd (some-ne-none b (sym e))
at_end (x ∷ xs) a b zero e = inl e
at_end (x ∷ xs) a b (suc j) e = ⊎_elim inl (λ t. inr (ap suc t.0, t.1)) (at_end xs a b j e)

at_one : {A : Type 0} (a b : A) (j : ℕ) → get_elem? (a ∷ []) j ≡ some b → (j ≡ 0) × (a ≡ b)
at_one a b zero e = (refl, some-injective a b e)
at_one a b (suc j) e = absurd (some-ne-none b (sym e))

zeros : (n cell : ℕ) → slice_index (replicate n 0) cell ≡ 0
zeros zero cell = refl
zeros (suc n) zero = refl
zeros (suc n) (suc cell) = zeros n cell

length_zeros : (n : ℕ) → length {A = ℕ} (replicate n 0) ≡ n
length_zeros zero = refl
length_zeros (suc n) = let h = length_zeros n in omega arith

pub opens : (plan : Plan) → 0 < plan.seats → Keeps plan (opening (replicate plan.cells 0) [] (first_view plan.each))
opens plan some_seat = (
  length_zeros plan.cells,
  record {
    log = [];
    who = λ _. 0;
    legal = λ _. tt;
    shows = λ cell _. zeros plan.cells cell;
    bounded = λ cell _. subst (λ (n : ℕ). n < word_bound) (sym (zeros plan.cells cell)) (omega arith);
    owned = tt;
    fits = λ by w at _. let t = at_one (first_view plan.each) w by at in
        subst (λ (z : ℕ × View). Fits plan.each [] (λ _. 0) z.0 z.1) (λ i. (sym t.0 i, t.1 i)) (record { is = refl; owns = refl; made = refl; stood = tt });
    leads = λ by w at _ _. let t = at_one (first_view plan.each) w by at in
        subst (Leads plan.seats [] (first_view plan.each ∷ [])) t.1 (record {
          most = let s : 0 < plan.seats = some_seat in omega arith;
          few = omega arith;
          later = λ n le. (
            refl,
            λ j u at' _ e. let s = at_one (first_view plan.each) u j at' in
                let z : 0 ≡ n = ap (λ (y : View). y.number) s.1 ∙ e in absurd (omega arith),
          );
          ended = λ k told e. absurd (some-ne-none told (sym e));
        });
  },
)

-- the first seat deals the next number
pub deals : (plan : Plan) (id : ℕ) (v : View) → v.live ≡ true → v.number ≡ 0 → v.dealt < plan.seats → Splits (Keeps plan) id v (dealing v) (dealt_to v)
deals plan id v live first more s kept at =
    let d = kept.1 in
    let views = s.views in
    let r = d.leads id v at live first in
    let mine = d.fits id v at live in
    let fresh = r.later v.dealt (omega arith) in
    let same = length-set views id (dealing v) in
    let who' : ℕ → ℕ = λ n. if n == v.dealt then length views else d.who n in (
      kept.0,
      record {
        log = d.log;
        who = who';
        legal = d.legal;
        shows = d.shows;
        bounded = d.bounded;
        owned = d.owned;
        fits = λ by u at' alive. ⊎_elim
            (λ old. let o = back views at by u old in let f = d.fits by o.0 o.1 (o.2 ∙ alive) in
            let ne : u.number ≢ v.dealt = λ e. fresh.1 by o.0 o.1 (o.2 ∙ alive) (o.3 ∙ e) in
            record { is = rw (ne_eqb u.number v.dealt ne) (ap d.who (sym o.3) ∙ f.is); owns = sym o.4 ∙ f.owns; made = ap (λ (n : ℕ). marks_by n d.log) (sym o.3) ∙ f.made ∙ ap (λ (t : SeatLog). t.marks) o.5; stood = subst (λ (t : SeatLog). AllWere d.log t.finds) o.5 f.stood })
            (λ (t : (by ≡ length (set views id (dealing v))) × (dealt_to v ≡ u)). subst (Fits plan.each d.log who' by) t.1
            (record { is = rw (eq-eqb v.dealt v.dealt refl) (sym (t.0 ∙ same)); owns = mine.owns; made = fresh.0; stood = tt }))
            (at_end (set views id (dealing v)) (dealt_to v) u by at');
        leads = λ by u at' alive is. ⊎_elim
            (λ old. ⊎_elim
            (λ (t : (by ≡ id) × (dealing v ≡ u)). subst (Leads plan.seats d.log (set views id (dealing v) ++ dealt_to v ∷ [])) t.1 (record {
              most = omega arith;
              few = let f = r.few in omega arith;
              later = λ n le. let a = r.later n (omega arith) in (a.0, still views at n a.1 (λ (e : v.dealt ≡ n). let e' : v.dealt + 1 ≤ n = le in omega arith));
              ended = λ k t' e. let a = r.ended k t' e in let f = r.few in let g = at_below v.known k t' e in
                  (a.0, a.1, still views at (k + 1) a.2 (λ (w : v.dealt ≡ k + 1). omega arith));
            }))
            (λ (t : (by ≢ id) × (get_elem? views by ≡ some u)). absurd (t.0 (sym (d.fits by u t.1 alive).is ∙ ap d.who (is ∙ sym first) ∙ mine.is)))
            (at_set views id by (dealing v) u old))
            (λ (t : (by ≡ length (set views id (dealing v))) × (dealt_to v ≡ u)).
            let z : v.dealt ≡ 0 = ap (λ (y : View). y.number) t.1 ∙ is in let f = r.few in absurd (omega arith))
            (at_end (set views id (dealing v)) (dealt_to v) u by at');
      },
    )
  where
    back : (views : List View) → get_elem? views id ≡ some v → (by : ℕ) (u : View) → get_elem? (set views id (dealing v)) by ≡ some u
        → (o : View) × (get_elem? views by ≡ some o) × (o.live ≡ u.live) × (o.number ≡ u.number) × (o.each ≡ u.each) × (o.own ≡ u.own)
    back views at by u at' = ⊎_elim
        (λ (t : (by ≡ id) × (dealing v ≡ u)). (v, subst (λ (i : ℕ). get_elem? views i ≡ some v) (sym t.0) at, ap (λ (y : View). y.live) t.1, ap (λ (y : View). y.number) t.1, ap (λ (y : View). y.each) t.1, ap (λ (y : View). y.own) t.1))
        (λ (t : (by ≢ id) × (get_elem? views by ≡ some u)). (u, t.1, refl, refl, refl, refl))
        (at_set views id by (dealing v) u at')

    still : (views : List View) → get_elem? views id ≡ some v → (n : ℕ) → IsFree n views → (v.dealt ≡ n → ⊥) → IsFree n (set views id (dealing v) ++ dealt_to v ∷ [])
    still views at n free ne by u at' alive = ⊎_elim (λ old. let o = back views at by u old in λ e. free by o.0 o.1 (o.2 ∙ alive) (o.3 ∙ e))
        (λ (t : (by ≡ length (set views id (dealing v))) × (dealt_to v ≡ u)). λ e. ne (ap (λ (y : View). y.number) t.1 ∙ e))
        (at_end (set views id (dealing v)) (dealt_to v) u by at')

-- the first seat takes in the next one
pub takes_in : (plan : Plan) (id : ℕ) (v : View) (other : ℕ) (w : View) → v.live ≡ true → v.number ≡ 0 → w.live ≡ true → w.number ≡ length v.known + 1
    → Joins (Keeps plan) id v other w (taking_in v w) spent
takes_in plan id v other w live first w_live number s kept at ne at_w =
    let d = kept.1 in
    let views = s.views in
    let r = d.leads id v at live first in
    let mine = d.fits id v at live in
    let w_at = was views other w at_w ne in
    let its = d.fits other w w_at w_live in (
      kept.0,
      record {
        log = d.log;
        who = d.who;
        legal = d.legal;
        shows = d.shows;
        bounded = d.bounded;
        owned = d.owned;
        fits = λ by u at' alive. let o = back views at by u at' alive in let f = d.fits by o.0 o.1 (o.2 ∙ alive) in
            record { is = ap d.who (sym o.3) ∙ f.is; owns = sym o.4 ∙ f.owns; made = ap (λ (n : ℕ). marks_by n d.log) (sym o.3) ∙ f.made ∙ ap (λ (t : SeatLog). t.marks) o.5; stood = subst (λ (t : SeatLog). AllWere d.log t.finds) o.5 f.stood };
        leads = λ by u at' alive is. two views by u at' alive
            (λ (t : (by ≡ id) × (taking_in v w ≡ u)). subst (Leads plan.seats d.log (set (set views id (taking_in v w)) other spent)) t.1 (record {
              most = r.most;
              few = dite (dec_le v.dealt w.number) (λ le. absurd ((r.later w.number le).1 other w w_at w_live refl)) (λ lt. omega (arith, length-append v.known (w.own ∷ [])));
              later = λ n le. let a = r.later n le in (a.0, less views at n a.1);
              ended = λ k told e. ⊎_elim (λ old. let a = r.ended k told old in (a.0, a.1, less views at (k + 1) a.2))
                  (λ (x : (k ≡ length v.known) × (w.own ≡ told)). let n : k + 1 ≡ w.number = ap (λ (m : ℕ). m + 1) x.0 ∙ sym number in (
                    ap (λ (m : ℕ). marks_by m d.log) n ∙ its.made ∙ ap (λ (t : SeatLog). t.marks) x.1,
                    subst (λ (t : SeatLog). AllWere d.log t.finds) x.1 its.stood,
                    λ j z at'' living. λ e. let o = back views at j z at'' living in let f = d.fits j o.0 o.1 (o.2 ∙ living) in
                        let here : j ≡ other = sym f.is ∙ ap d.who (o.3 ∙ e ∙ n) ∙ its.is in
                        ⊎_elim (λ (y : (j ≡ other) × (spent ≡ z)). let q : false ≡ true = ap (λ (x' : View). x'.live) y.1 ∙ living in cc)
                        (λ (y : (j ≢ other) × (get_elem? (set views id (taking_in v w)) j ≡ some z)). y.0 here)
                        (at_set (set views id (taking_in v w)) other j spent z at''),
                  ))
                  (at_end v.known w.own told k e);
            }))
            (λ (old : get_elem? views by ≡ some u) (away : by ≢ id). absurd (away (sym (d.fits by u old alive).is ∙ ap d.who (is ∙ sym first) ∙ mine.is)));
      },
    )
  where
    was : (views : List View) (j : ℕ) (u : View) → get_elem? (set views id (taking_in v w)) j ≡ some u → ¬ (j ≡ id) → get_elem? views j ≡ some u
    was views j u e n = ⊎_elim (λ (t : (j ≡ id) × (taking_in v w ≡ u)). absurd (n t.0)) (λ (t : (j ≢ id) × (get_elem? views j ≡ some u)). t.1) (at_set views id j (taking_in v w) u e)

    two : {P : Type 0} (views : List View) (by : ℕ) (u : View) → get_elem? (set (set views id (taking_in v w)) other spent) by ≡ some u → u.live ≡ true
        → ((by ≡ id) × (taking_in v w ≡ u) → P) → (get_elem? views by ≡ some u → by ≢ id → P) → P
    two views by u at' alive here there = ⊎_elim
        (λ (t : (by ≡ other) × (spent ≡ u)). absurd (let x : false ≡ true = ap (λ (y : View). y.live) t.1 ∙ alive in cc))
        (λ (t : (by ≢ other) × (get_elem? (set views id (taking_in v w)) by ≡ some u)). ⊎_elim here (λ (s : (by ≢ id) × (get_elem? views by ≡ some u)). there s.1 s.0) (at_set views id by (taking_in v w) u t.1))
        (at_set (set views id (taking_in v w)) other by spent u at')

    back : (views : List View) → get_elem? views id ≡ some v → (by : ℕ) (u : View) → get_elem? (set (set views id (taking_in v w)) other spent) by ≡ some u → u.live ≡ true
        → (o : View) × (get_elem? views by ≡ some o) × (o.live ≡ u.live) × (o.number ≡ u.number) × (o.each ≡ u.each) × (o.own ≡ u.own)
    back views at by u at' alive = two views by u at' alive
        (λ (t : (by ≡ id) × (taking_in v w ≡ u)). (v, subst (λ (i : ℕ). get_elem? views i ≡ some v) (sym t.0) at, ap (λ (y : View). y.live) t.1, ap (λ (y : View). y.number) t.1, ap (λ (y : View). y.each) t.1, ap (λ (y : View). y.own) t.1))
        (λ old _. (u, old, refl, refl, refl, refl))

    less : (views : List View) → get_elem? views id ≡ some v → (n : ℕ) → IsFree n views → IsFree n (set (set views id (taking_in v w)) other spent)
    less views at n free by u at' alive = let o = back views at by u at' alive in λ e. free by o.0 o.1 (o.2 ∙ alive) (o.3 ∙ e)
