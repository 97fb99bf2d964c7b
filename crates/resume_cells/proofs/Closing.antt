-- Once the first seat has taken in all others, the rule says what was.
use Rattle.std.proofs.Common.{◌≡◌, ℕ, zero, suc, ◌+◌, ◌<◌, ◌≤◌, true, List, [], ◌∷◌, length, refl, sym, ap, ◌∙◌, subst, arith}
use Rattle.std.specs.Prelude.{slice_index, slice_index_or}
use mathlib.Core.Option.{some}
use mathlib.Core.Logic.{dite}
use native.Mathlib.Decide.{dec_le}
use lib.ListN.{get_elem?}
use Rattle.atomic_table.specs.Table.{Final, Seen}
use Rattle.resume_cells.specs.declared.view.SeatLog.{SeatLog}
use Rattle.resume_cells.specs.declared.view.View.{View}
use Rattle.resume_cells.specs.declared.rule.Plan.{Plan}
use Rattle.resume_cells.specs.Marks.{Entry, marks_by, AllWere}
use Rattle.resume_cells.specs.Rule.{Fits, Leads, Keeps}
use Rattle.resume_cells.specs.Views.{nothing_told}
use Rattle.resume_cells.specs.Histories.{Histories, told_by}
use Rattle.resume_cells.proofs.Agreeing.{to_history, words_alike, all_stood}

-- an item of a list, or none
at_or : {A : Type 0} (l : List A) (n : ℕ) (d : A) → n < length l → get_elem? l n ≡ some (slice_index_or l n d)
at_or [] n d lt = absurd (omega arith)
at_or (x ∷ xs) zero d lt = refl
at_or (x ∷ xs) (suc n) d lt = at_or xs n d (omega arith)

past : {A : Type 0} (l : List A) (n : ℕ) (d : A) → length l ≤ n → slice_index_or l n d ≡ d
past [] n d le = refl
past (x ∷ xs) zero d le = absurd (omega arith)
past (x ∷ xs) (suc n) d le = past xs n d (omega arith)

-- what a seat made and found fits the log
abbrev Told_fits : List Entry → ℕ → SeatLog → Type 0
Told_fits log n t = (marks_by n log ≡ t.marks) × AllWere log t.finds

others_fit : (seats : ℕ) (log : List Entry) (views : List View) (v : View) → Leads seats log views v → length v.known + 1 ≡ seats → (m : ℕ) → Told_fits log (m + 1) (slice_index_or v.known m nothing_told)
others_fit seats log views v l all m = dite (dec_le (length v.known) m)
    (λ le. let few = l.few in let most = l.most in
    subst (Told_fits log (m + 1)) (sym (past v.known m nothing_told le)) ((l.later (m + 1) (omega arith)).0, tt))
    (λ gt. let a = l.ended m (slice_index_or v.known m nothing_told) (at_or v.known m nothing_told (omega arith)) in (a.0, a.1))

each_fits : (each seats : ℕ) (log : List Entry) (who : ℕ → ℕ) (views : List View) (id : ℕ) (v : View) → Fits each log who id v → v.number ≡ 0 → Leads seats log views v → length v.known + 1 ≡ seats
    → (n : ℕ) → Told_fits log n (told_by n (v.own ∷ v.known))
each_fits each seats log who views id v f first l all zero = (ap (λ (n : ℕ). marks_by n log) (sym first) ∙ f.made, f.stood)
each_fits each seats log who views id v f first l all (suc m) = subst (λ (n : ℕ). Told_fits log n (slice_index_or v.known m nothing_told)) (let e : m + 1 ≡ suc m = omega arith in e) (others_fit seats log views v l all m)

pub closes : (plan : Plan) (id : ℕ) (v : View) (shown : List ℕ) (homes : List (Unit {0})) → Final (Seen (Keeps plan) id v) shown homes → v.live ≡ true → v.number ≡ 0 → length v.known + 1 ≡ plan.seats
    → Histories plan.each shown (v.own ∷ v.known)
closes plan id v shown homes last live first all =
    let s = last.0 in let k = last.1.0.1 in let at = last.1.1 in
    let fit = each_fits plan.each plan.seats k.log k.who s.views id v (k.fits id v at live) first (k.leads id v at live first) all in record {
      log = k.log;
      legal = λ cell. to_history cell k.log (k.legal cell);
      shows = λ cell lt. ap (λ (ws : List ℕ). slice_index ws cell) (sym last.2) ∙ k.shows cell (subst (λ (ws : List ℕ). cell < length ws) (sym last.2) lt) ∙ sym (words_alike cell k.log);
      owned = k.owned;
      made = λ n. (fit n).0;
      stood = λ n. all_stood k.log (told_by n (v.own ∷ v.known)).finds (fit n).1;
    }
