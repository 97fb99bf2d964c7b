-- The steps on a resume word keep the rule: a compare-and-exchange that decides a wait, and a swap that begins one.
use Rattle.std.proofs.Common.{◌≡◌, ◌≢◌, ℕ, ◌+◌, ◌*◌, ◌/◌, ◌^◌, ◌<◌, ◌⊎◌, true, false, eqb, List, ◌==◌, length, set, refl, sym, ◌∙◌, subst, arith, eq-eqb, ne_eqb, length-set}
use Rattle.std.specs.Prelude.{slice_index, if◌then◌else◌}
use mathlib.Core.Option.{none}
use mathlib.Core.Logic.{dite}
use native.Mathlib.Decide.{ℕ_discrete}
use prog.Atomic.{either}
use Rattle.atomic_table.specs.Table.{Me, step, keeps, stepped, Allows}
use Rattle.resume_cells.specs.declared.view.Deed.{Deed}
use Rattle.resume_cells.specs.declared.view.Deed.TheVariants.{Wake, Cancel}
use Rattle.resume_cells.specs.declared.view.View.{View}
use Rattle.resume_cells.specs.declared.rule.Plan.{Plan}
use Rattle.resume_cells.specs.Marks.{code_of, IsHistory, of_cell}
use Rattle.resume_cells.specs.Known.{knows, waiting, SaysWoken, CanArm}
use Rattle.resume_cells.specs.Rule.{KeptWords, Keeps}
use Rattle.resume_cells.specs.Views.{marked, found, arm_of, decision_of}
use Rattle.resume_cells.specs.Plays.{Decides, Arms}
use Rattle.resume_cells.proofs.Cases.{set_same}
use Rattle.resume_cells.proofs.Marks.{head_is, decision_follows, word_is_bounded}
use Rattle.resume_cells.proofs.Fresh.{fresh}
use Rattle.resume_cells.proofs.Lasts.{woken}
use Rattle.resume_cells.proofs.Arming.{arm_follows}
use Rattle.resume_cells.proofs.Keeping.{adds, finds}

-- a compare-and-exchange from waiting to decided, by a wake or, on the seat's own cell, a cancellation
pub decides : (plan : Plan) (slots id cell : ℕ) (deed : Deed) (armed stamp : ℕ) (me : Me (Unit {0}) View) → me.0.live ≡ true → cell < plan.cells → (deed ≡ Wake) ⊎ (deed ≡ Cancel)
    → (deed ≢ Wake → cell / me.0.each ≡ me.0.number) → armed < stamp → stamp < 2 ^ 60
    → Allows (Keeps plan) slots id me cell (λ x. either (eqb x (waiting armed)) (4 * stamp + code_of deed) x) (Decides deed (step slots cell (waiting armed) (4 * stamp + code_of deed) none) me)
decides plan slots id cell deed armed stamp me live lt deeds own rises early s kept _ at _ =
    let k = kept.1 in
    let x : ℕ = slice_index s.words cell in
    let lt' : cell < length s.words = subst (λ (m : ℕ). cell < m) (sym kept.0) lt in
    let its = k.fits id me.0 at live in
    dite (ℕ_discrete x (waiting armed))
    (λ hit. let m = decision_of deed cell armed stamp in (
      marked me.0 m,
      keeps,
      tt,
      subst (λ b. Keeps plan (stepped s cell (either b (4 * stamp + code_of deed) x) id me.1 (marked me.0 m) keeps)) (sym (eq-eqb x (waiting armed) hit)) (
        length-set s.words cell (4 * stamp + code_of deed) ∙ kept.0,
        adds plan.each plan.seats s.words s.views id cell me.0 m k at live lt' refl (decision_follows deed cell armed stamp deeds rises (of_cell cell k.log) (sym (k.shows cell lt') ∙ hit)) (word_is_bounded m early) own,
      ),
      record {
        tells = told x hit;
        fresh = λ _ armed' e. let a : armed ≡ armed' = omega arith in let t = head_is (of_cell cell k.log) armed (sym (k.shows cell lt') ∙ hit) in
            subst (λ (y : ℕ). knows me.0.own cell y ≡ false) a (fresh k.log me.0.number me.0.own cell armed t.0 t.1 its.made its.stood t.2 (subst IsHistory t.2 (k.legal cell)) t.3 t.4);
        woken = λ miss. absurd (miss hit);
        bounded = k.bounded cell lt';
        slots = refl;
      },
    ))
    (λ miss. (
      found me.0 cell x,
      keeps,
      tt,
      subst (λ b. Keeps plan (stepped s cell (either b (4 * stamp + code_of deed) x) id me.1 (found me.0 cell x) keeps)) (sym (ne_eqb x (waiting armed) miss))
          (length-set s.words cell x ∙ kept.0, subst (λ (ws : List ℕ). KeptWords plan.each plan.seats ws (set s.views id (found me.0 cell x))) (sym (set_same s.words cell)) (finds plan.each plan.seats s.words s.views id cell me.0 k at live lt')),
      record {
        tells = untold x miss;
        fresh = λ hit. absurd (miss hit);
        woken = λ _ armed' e mine last. let a : armed ≡ armed' = omega arith in let shows = k.shows cell lt' in
            subst (SaysWoken armed') (sym shows) (woken plan.each me.0.number cell armed' k.log me.0.own k.owned (subst (λ (n : ℕ). cell / n ≡ me.0.number) its.owns mine) its.made (k.legal cell) last
            (λ same. miss (shows ∙ same ∙ sym e)));
        bounded = k.bounded cell lt';
        slots = refl;
      },
    ))
  where
    told : (x : ℕ) → x ≡ waiting armed → (armed' stamp' : ℕ) → waiting armed ≡ waiting armed' → 4 * stamp + code_of deed ≡ 4 * stamp' + code_of deed
        → marked me.0 (decision_of deed cell armed stamp) ≡ (if x == waiting armed then marked me.0 (decision_of deed cell armed' stamp') else found me.0 cell x)
    told x hit armed' stamp' e f = let a : armed ≡ armed' = omega arith in let b : stamp ≡ stamp' = omega arith in
        rw (eq-eqb x (waiting armed) hit) (λ i. marked me.0 (decision_of deed cell (a i) (b i)))

    untold : (x : ℕ) → x ≢ waiting armed → (armed' stamp' : ℕ) → waiting armed ≡ waiting armed' → 4 * stamp + code_of deed ≡ 4 * stamp' + code_of deed
        → found me.0 cell x ≡ (if x == waiting armed then marked me.0 (decision_of deed cell armed' stamp') else found me.0 cell x)
    untold x miss armed' stamp' e f = rw (ne_eqb x (waiting armed) miss) refl

-- a swap to waiting, on a cell of the seat's own
pub arms : (plan : Plan) (slots id cell stamp : ℕ) (me : Me (Unit {0}) View) → me.0.live ≡ true → cell < plan.cells → cell / me.0.each ≡ me.0.number → CanArm me.0.own cell stamp → stamp < 2 ^ 60
    → Allows (Keeps plan) slots id me cell (λ _. waiting stamp) (Arms (step slots cell (waiting stamp) 0 none) me)
arms plan slots id cell stamp me live lt own can early s kept _ at _ =
    let k = kept.1 in
    let m = arm_of cell stamp in
    let lt' : cell < length s.words = subst (λ (n : ℕ). cell < n) (sym kept.0) lt in
    let its = k.fits id me.0 at live in (
      marked me.0 m,
      keeps,
      tt,
      (
        length-set s.words cell (waiting stamp) ∙ kept.0,
        adds plan.each plan.seats s.words s.views id cell me.0 m k at live lt' refl
            (arm_follows plan.each me.0.number cell stamp k.log me.0.own k.owned (subst (λ (n : ℕ). cell / n ≡ me.0.number) its.owns own) its.made its.stood (k.legal cell) can)
            (word_is_bounded m early) (λ _. own),
      ),
      record {
        tells = λ stamp' e. let a : stamp ≡ stamp' = omega arith in λ i. marked me.0 (arm_of cell (a i));
        slots = refl;
      },
    )
