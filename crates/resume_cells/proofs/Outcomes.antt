-- What a caller knows after a compare-and-exchange that decides a wait.
use Rattle.std.proofs.Common.{◌≡◌, ◌≢◌, ℕ, ◌+◌, ◌*◌, Bool, true, [], refl, sym, ap, ◌∙◌, subst, eq-eqb, ne_eqb}
use Rattle.std.specs.Prelude.{if◌then◌else◌}
use mathlib.Core.Option.{none}
use mathlib.Core.Logic.{dite}
use native.Mathlib.Decide.{ℕ_discrete}
use Rattle.atomic_table.specs.Table.{Me, step}
use Rattle.atomic_table.specs.Seated.{TableId}
use Rattle.resume_cells.specs.declared.view.Deed.{Deed}
use Rattle.resume_cells.specs.declared.view.Mark.{Mark}
use Rattle.resume_cells.specs.declared.view.View.{View}
use Rattle.resume_cells.specs.declared.cells.Decided.{Decided}
use Rattle.resume_cells.specs.declared.cells.Decided.TheVariants.{Won, Lost}
use Rattle.resume_cells.specs.Marks.{code_of}
use Rattle.resume_cells.specs.Known.{waiting}
use Rattle.resume_cells.specs.Outcomes.{IfWon, IfLost, outcome_of}
use Rattle.resume_cells.specs.Plays.{Decides}
use Rattle.resume_cells.specs.Seats.{Seated, seated, with_mark, with_found}
use Rattle.resume_cells.specs.Views.{marked, found, decision_of}
use Rattle.resume_cells.proofs.Cases.{eqb_cases}

pub if_won : (P : Type 0) (n wanted : ℕ) (d : Decided) → d ≡ outcome_of n wanted → (n ≡ wanted → P) → IfWon d P
if_won P n wanted d is p = subst (λ o. IfWon o P) (sym is)
    (eqb_cases (λ b. IfWon (if b then Won else Lost n) P) n wanted (λ hit. p hit) (λ _. tt))

pub if_lost : (P : ℕ → Type 0) (n wanted : ℕ) (d : Decided) → d ≡ outcome_of n wanted → (n ≢ wanted → P n) → IfLost d P
if_lost P n wanted d is p = subst (λ o. IfLost o P) (sym is)
    (eqb_cases (λ b. IfLost (if b then Won else Lost n) P) n wanted (λ _. tt) (λ miss. p miss))

pub seated_marked : (table table' : TableId) (v w : View) (m : Mark) (s : Seated) → seated table v ≡ s → table' ≡ table → w ≡ marked v m → seated table' w ≡ with_mark s m
seated_marked table table' v w m s is same e = (λ i. seated (same i) (e i)) ∙ ap (λ (x : Seated). with_mark x m) is

pub seated_found : (table table' : TableId) (v w : View) (cell n : ℕ) (s : Seated) → seated table v ≡ s → table' ≡ table → w ≡ found v cell n → seated table' w ≡ with_found s cell n
seated_found table table' v w cell n s is same e = (λ i. seated (same i) (e i)) ∙ ap (λ (x : Seated). with_found x cell n) is

-- what a step told, with the numbers of the call
module _ (deed : Deed) (slots cell armed stamp : ℕ) (me : Me (Unit {0}) View) (n : ℕ) (after : Me (Unit {0}) View)
    (d : Decides deed (step slots cell (waiting armed) (4 * stamp + code_of deed) none) me n after) where
  pub after_won : n ≡ waiting armed → after.0 ≡ marked me.0 (decision_of deed cell armed stamp)
  after_won hit = d.tells armed stamp refl refl ∙ ap (λ (b : Bool). if b then marked me.0 (decision_of deed cell armed stamp) else found me.0 cell n) (eq-eqb n (waiting armed) hit)

  pub after_lost : n ≢ waiting armed → after.0 ≡ found me.0 cell n
  after_lost miss = d.tells armed stamp refl refl ∙ ap (λ (b : Bool). if b then marked me.0 (decision_of deed cell armed stamp) else found me.0 cell n) (ne_eqb n (waiting armed) miss)

  -- it is still a seat that took in no other and holds nothing
  pub after_stands : (me.0.live ≡ true) × (me.0.known ≡ []) × (me.1 ≡ []) → (after.0.live ≡ true) × (after.0.known ≡ []) × (after.1 ≡ [])
  after_stands h = dite (ℕ_discrete n (waiting armed))
      (λ hit. (ap (λ (v : View). v.live) (after_won hit) ∙ h.0, ap (λ (v : View). v.known) (after_won hit) ∙ h.1, d.slots ∙ h.2))
      (λ miss. (ap (λ (v : View). v.live) (after_lost miss) ∙ h.0, ap (λ (v : View). v.known) (after_lost miss) ∙ h.1, d.slots ∙ h.2))
