-- A new mark, and a word that was found, keep the rule.
use Rattle.std.proofs.Common.{◌≡◌, ◌≢◌, ℕ, ◌+◌, ◌/◌, ◌<◌, true, List, ◌∷◌, length, set, refl, sym, ap, ◌∙◌, subst, ⊎_elim, length-set, get_or-set_same, get_or-set_other}
use Rattle.std.specs.Prelude.{slice_index}
use mathlib.Core.Option.{some}
use mathlib.Core.Logic.{dite}
use native.Mathlib.Decide.{ℕ_discrete}
use lib.ListN.{get_elem?}
use Rattle.atomic_table.proofs.Lists.{at_set}
use Rattle.resume_cells.specs.declared.view.Deed.TheVariants.{Wake}
use Rattle.resume_cells.specs.declared.view.Mark.{Mark}
use Rattle.resume_cells.specs.declared.view.SeatLog.{SeatLog}
use Rattle.resume_cells.specs.declared.view.View.{View}
use Rattle.resume_cells.specs.Marks.{word, word_bound, word_of, WasWord, Follows, of_cell}
use Rattle.resume_cells.specs.Rule.{IsFree, Fits, Leads, KeptWords}
use Rattle.resume_cells.specs.Views.{marked, found}
use Rattle.resume_cells.proofs.Marks.{here, away, mine, not_mine, all_longer, history_longer, is_word}

-- a seat whose number and standing stay leaves the free numbers free
pub free_set : (n id : ℕ) (views : List View) (v w : View) → get_elem? views id ≡ some v → w.live ≡ v.live → w.number ≡ v.number → IsFree n views → IsFree n (set views id w)
free_set n id views v w at live number free by u at' is = ⊎_elim
    (λ (t : (by ≡ id) × (w ≡ u)). λ e. free id v at (sym live ∙ ap (λ (y : View). y.live) t.1 ∙ is) (sym number ∙ ap (λ (y : View). y.number) t.1 ∙ e))
    (λ (t : (by ≢ id) × (get_elem? views by ≡ some u)). free by u t.1 is)
    (at_set views id by w u at')

-- a new entry of the seat, whose word the cell then shows
pub adds : (each seats : ℕ) (words : List ℕ) (views : List View) (id cell : ℕ) (v : View) (m : Mark) → (k : KeptWords each seats words views) → get_elem? views id ≡ some v → v.live ≡ true
    → cell < length words → m.cell ≡ cell → Follows m (of_cell cell k.log) → word m < word_bound → (m.deed ≢ Wake → cell / v.each ≡ v.number)
    → KeptWords each seats (set words cell (word m)) (set views id (marked v m))
adds each seats words views id cell v m k at live lt is f small own = record {
  log = (v.number, m) ∷ k.log;
  who = k.who;
  legal = history_longer (v.number, m) k.log k.legal (subst (λ (c : ℕ). Follows m (of_cell c k.log)) (sym is) f);
  shows = λ c lt'. dite (ℕ_discrete c cell)
      (λ (same : c ≡ cell). subst (λ (d : ℕ). slice_index (set words cell (word m)) d ≡ word_of (of_cell d ((v.number, m) ∷ k.log))) (sym same)
      (get_or-set_same words cell (word m) 0 lt ∙ sym (ap word_of (here (v.number, m) k.log cell is))))
      (λ (other : c ≢ cell). get_or-set_other words cell c (word m) 0 other ∙ k.shows c (subst (λ (n : ℕ). c < n) (length-set words cell (word m)) lt')
      ∙ sym (ap word_of (away (v.number, m) k.log c (λ e. other (sym e ∙ is)))));
  bounded = λ c lt'. dite (ℕ_discrete c cell)
      (λ (same : c ≡ cell). subst (λ (n : ℕ). n < word_bound) (sym (ap (λ (d : ℕ). slice_index (set words cell (word m)) d) same ∙ get_or-set_same words cell (word m) 0 lt)) small)
      (λ (other : c ≢ cell). subst (λ (n : ℕ). n < word_bound) (sym (get_or-set_other words cell c (word m) 0 other)) (k.bounded c (subst (λ (n : ℕ). c < n) (length-set words cell (word m)) lt')));
  owned = ((λ ne. ap (λ (c : ℕ). c / each) is ∙ subst (λ (n : ℕ). cell / n ≡ v.number) its.owns (own ne)), k.owned);
  fits = λ by w at' alive. ⊎_elim
      (λ (t : (by ≡ id) × (marked v m ≡ w)). subst (λ (z : ℕ × View). Fits each ((v.number, m) ∷ k.log) k.who z.0 z.1) (λ i. (sym t.0 i, t.1 i))
      (record { is = its.is; owns = its.owns; made = mine (v.number, m) k.log v.number refl ∙ ap (λ (ms : List Mark). m ∷ ms) its.made; stood = all_longer (v.number, m) k.log v.own.finds its.stood }))
      (λ (t : (by ≢ id) × (get_elem? views by ≡ some w)). let was = k.fits by w t.1 alive in
      record { is = was.is; owns = was.owns; made = not_mine (v.number, m) k.log w.number (λ e. t.0 (sym was.is ∙ ap k.who (sym e) ∙ its.is)) ∙ was.made; stood = all_longer (v.number, m) k.log w.own.finds was.stood })
      (at_set views id by (marked v m) w at');
  leads = λ by w at' alive first. ⊎_elim
      (λ (t : (by ≡ id) × (marked v m ≡ w)). subst (Leads seats ((v.number, m) ∷ k.log) (set views id (marked v m))) t.1
      (leads_on v (marked v m).own (k.leads id v at live (ap (λ (y : View). y.number) t.1 ∙ first))))
      (λ (t : (by ≢ id) × (get_elem? views by ≡ some w)). leads_on w w.own (k.leads by w t.1 alive first))
      (at_set views id by (marked v m) w at');
}
  where
    its : Fits each k.log k.who id v
    its = k.fits id v at live

    -- a free number isn't this seat's
    other : (n : ℕ) → IsFree n views → v.number ≢ n
    other n free = free id v at live

    leads_on : (u : View) (own : SeatLog) → Leads seats k.log views u → Leads seats ((v.number, m) ∷ k.log) (set views id (marked v m)) (record u { own = own })
    leads_on u own l = record {
      most = l.most;
      few = l.few;
      later = λ n le. let a = l.later n le in (not_mine (v.number, m) k.log n (other n a.1) ∙ a.0, free_set n id views v (marked v m) at refl refl a.1);
      ended = λ n t e. let a = l.ended n t e in
          (not_mine (v.number, m) k.log (n + 1) (other (n + 1) a.2) ∙ a.0, all_longer (v.number, m) k.log t.finds a.1, free_set (n + 1) id views v (marked v m) at refl refl a.2);
    }

-- a word was found, and nothing changed
pub finds : (each seats : ℕ) (words : List ℕ) (views : List View) (id cell : ℕ) (v : View) → KeptWords each seats words views → get_elem? views id ≡ some v → v.live ≡ true → cell < length words
    → KeptWords each seats words (set views id (found v cell (slice_index words cell)))
finds each seats words views id cell v k at live lt = record {
  log = k.log;
  who = k.who;
  legal = k.legal;
  shows = k.shows;
  bounded = k.bounded;
  owned = k.owned;
  fits = λ by w at' alive. ⊎_elim
      (λ (t : (by ≡ id) × (found v cell (slice_index words cell) ≡ w)). subst (λ (z : ℕ × View). Fits each k.log k.who z.0 z.1) (λ i. (sym t.0 i, t.1 i))
      (record { is = its.is; owns = its.owns; made = its.made; stood = (subst (λ (n : ℕ). WasWord n (of_cell cell k.log)) (sym (k.shows cell lt)) (is_word (of_cell cell k.log)), its.stood) }))
      (λ (t : (by ≢ id) × (get_elem? views by ≡ some w)). k.fits by w t.1 alive)
      (at_set views id by (found v cell (slice_index words cell)) w at');
  leads = λ by w at' alive first. ⊎_elim
      (λ (t : (by ≡ id) × (found v cell (slice_index words cell) ≡ w)). subst (Leads seats k.log (set views id (found v cell (slice_index words cell)))) t.1
      (leads_on v (found v cell (slice_index words cell)).own (k.leads id v at live (ap (λ (y : View). y.number) t.1 ∙ first))))
      (λ (t : (by ≢ id) × (get_elem? views by ≡ some w)). leads_on w w.own (k.leads by w t.1 alive first))
      (at_set views id by (found v cell (slice_index words cell)) w at');
}
  where
    its : Fits each k.log k.who id v
    its = k.fits id v at live

    leads_on : (u : View) (own : SeatLog) → Leads seats k.log views u → Leads seats k.log (set views id (found v cell (slice_index words cell))) (record u { own = own })
    leads_on u own l = record {
      most = l.most;
      few = l.few;
      later = λ n le. let a = l.later n le in (a.0, free_set n id views v (found v cell (slice_index words cell)) at refl refl a.1);
      ended = λ n t e. let a = l.ended n t e in (a.0, a.1, free_set (n + 1) id views v (found v cell (slice_index words cell)) at refl refl a.2);
    }
