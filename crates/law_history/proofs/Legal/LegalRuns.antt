-- Parts that fit together, with the decisions of their cells as fates; and so the law.
use Rattle.std.proofs.Common.{◌≡◌, ℕ, inl, inr, ⊎_elim, Bool, true, false, ◌||◌, List, [], ◌∷◌, Option, Some, None, refl, sym, ap, ◌∙◌}
use Rattle.eio_value.specs.declared.call.Answer.{Answer}
use Rattle.eio_value.specs.declared.message.Message.{Message}
use Rattle.eio_value.specs.declared.message.Waiter.{Waiter}
use Rattle.spec_parts.specs.ResumeWords.{Decision, Woken, Cancelled, Decides}
use Rattle.spec_machine.specs.Labels.{Label, Inner, Called, Struck, Mocked, Took}
use Rattle.spec_machine.specs.ObjectHistories.{Entry, skipped_waits}
use Rattle.spec_machine.specs.PartsOfRuns.{IsLog, DecidedWait, decided_by, IsIn, IsMarked, IsMarkedBelow, IsFair, AllFair, AllCancelled, SkipsCancelled, IsDecidedBy, Parts, Fit, IsDeclared, IsMerged, Reaches}
use Rattle.spec_machine.specs.Runs.{Letter, Noted, domain_of, stamp_of, DomainMoves, LocalRun}
use Rattle.spec_machine.specs.Shared.{Asked}
use Rattle.law_history.specs.Legal.LegalRuns.{PartsMakeALegalRun}
use Rattle.law_history.proofs.Legal.Coming.{is_itself}
use Rattle.law_history.proofs.Legal.Entering.{decided_after_entering}
use Rattle.law_history.proofs.Legal.Fates.{is_that, comes, IsFate, IsFatedBelow, EntersBefore, IsSound, AllSound, AllCancelledBelow, SkipsDead, AreFated}
use Rattle.law_history.proofs.Legal.Induction.{Leads}
use Rattle.law_history.proofs.Legal.LinesOfCalls.{IsLine}
use Rattle.law_history.proofs.Legal.Marks.{fates_of, decision_of_fate, decision_is_fate, fate_is_decision}
use Rattle.law_history.proofs.Legal.Merging.{merged_lead}

or_true : (a b : Bool) → b ≡ true → (a || b) ≡ true
or_true true b e = refl
or_true false b e = e

-- the line that decides a wait is one that comes
comes_by : (xs : List Noted) (decision : Decision) (cell armed stamp : ℕ) → IsDecidedBy xs decision cell armed stamp → comes xs cell armed ≡ true
comes_by [] decision cell armed stamp h = absurd h
comes_by (x ∷ xs) decision cell armed stamp h = ⊎_elim
    (λ (t : (stamp_of x ≡ stamp) × ((who : Waiter) × (decided_by x.label x.away ≡ Some (record { who = who; decision = decision })) × (who.cell ≡ cell) × (who.armed ≡ armed))).
    let e : is_that cell armed (decided_by x.label x.away) ≡ true = rw (t.1.1, t.1.2, t.1.3) (is_itself cell armed) in
    rw e refl)
    (λ (j : IsDecidedBy xs decision cell armed stamp). or_true (is_that cell armed (decided_by x.label x.away)) (comes xs cell armed) (comes_by xs decision cell armed stamp j))
    h

module _ (p : Parts) (declared : IsDeclared p.declared) (fit : Fit p) where
  marked : (cell : ℕ) (decision : Decision) (armed stamp maker : ℕ) → IsIn (Decides decision armed stamp maker) (p.cells cell) → fates_of p.cells cell armed ≡ Some (record { decision = decision; stamp = stamp; maker = maker })
  marked cell decision armed stamp maker i = decision_is_fate None 0 (p.cells cell) decision armed stamp maker (λ n e. absurd (cc)) (fit.cells cell) i

  fated_below : (decision : Decision) (stamp : ℕ) (who : Waiter) → IsMarkedBelow p.cells decision stamp who → IsFatedBelow (fates_of p.cells) decision stamp who
  fated_below decision stamp who m = record { fate = record { decision = decision; stamp = m.0; maker = m.1 }; is = marked who.cell decision who.armed m.0 m.1 m.3; so = refl; below = m.2 }

  all_cancelled_below : (stamp : ℕ) (waits : List Waiter) → AllCancelled p.cells stamp waits → AllCancelledBelow (fates_of p.cells) stamp waits
  all_cancelled_below stamp [] h = tt
  all_cancelled_below stamp (who ∷ others) h = (fated_below Cancelled stamp who h.0, all_cancelled_below stamp others h.1)

  skips_dead : (es : List Entry) → SkipsCancelled p.cells es → SkipsDead (fates_of p.cells) es
  skips_dead [] h = tt
  skips_dead (e ∷ es) h = (all_cancelled_below e.made.stamp (skipped_waits e) h.0, skips_dead es h.1)

  fated : (stamp d : ℕ) (it : Option DecidedWait) → IsMarked p.cells stamp d it → IsFate (fates_of p.cells) stamp d it
  fated stamp d None m = tt
  fated stamp d (Some it) m = marked it.who.cell it.decision it.who.armed stamp d m

  sound : (stamp : ℕ) (label : Label) (away : Option Letter) → IsFair p.cells stamp label away
      → ((asked : Asked) (it : Answer) (mine : Option Message) → label ≡ Called asked it mine → EntersBefore (fates_of p.cells) stamp asked.who it) → IsSound (fates_of p.cells) stamp label away
  sound stamp Inner away f h = f
  sound stamp (Called asked it mine) away f h = h asked it mine refl
  sound stamp (Struck who true) away f h = f
  sound stamp (Struck who false) away f h = (f.0, fated_below Woken stamp who f.1)
  sound stamp (Mocked asked it texts) away f h = f
  sound stamp (Took m) away f h = f

  all_sound : (d last : ℕ) (xs : List Noted) → ((x : Noted) → IsLine x xs → IsLine x (p.logs d)) → IsLog d last xs → AllFair p.cells xs → AllSound (fates_of p.cells) xs
  all_sound d last [] i l f = tt
  all_sound d last (x ∷ xs) i l f = (
    record {
      fated = fated (stamp_of x) (domain_of x) (decided_by x.label x.away) f.0.marked;
      sound = sound (stamp_of x) x.label x.away f.0.fair
          (λ asked it mine e waits fate q. decided_after_entering p declared fit d x asked mine (i x (inl refl)) (e ∙ ap (λ (u : Answer). Called asked u mine) waits) fate q);
      stamp = f.0.stamp;
      below = l.2;
    },
    all_sound d (stamp_of x) xs (λ y j. i y (inr j)) l.3 f.1,
  )

  pub are_fated : AreFated p (fates_of p.cells)
  are_fated = record {
    calls = fit.calls;
    histories = fit.histories;
    skips = λ object. skips_dead (p.entries object) (fit.skips object);
    sound = λ d. all_sound d 0 (p.logs d) (λ x i. i) (fit.logs d) (fit.fair d);
    decided = λ cell armed f e. comes_by (p.logs f.maker) f.decision cell armed f.stamp (fit.decisions cell f.decision armed f.stamp f.maker (fate_is_decision (p.cells cell) armed f e));
    none = fit.none;
    posts = fit.posts;
  }

  -- over any machine of one domain
  pub merged_reach : {L : Type 0} (Steps : L → Noted → L → Type 0) (first ends : ℕ → L) (lines : List Noted) → IsMerged p.logs lines → ((d : ℕ) → LocalRun Steps (first d) (p.logs d) (ends d)) → Reaches Steps p first ends lines
  merged_reach Steps first ends lines m l =
      let r : Leads Steps (0, 0) _ lines ends _ (fates_of p.cells) p.left = merged_lead p (fates_of p.cells) lines are_fated m Steps first ends l in
      record {
        final = r.final;
        legal = r.legal;
        locals = r.locals;
        rows = r.rows;
        waits = λ cell armed. r.waits cell armed ∙ sym (decision_of_fate (p.cells cell) armed);
        posts = r.posts;
      }

pub parts_make_a_legal_run : PartsMakeALegalRun
parts_make_a_legal_run script p first ends lines declared fit m l = merged_reach p declared fit (DomainMoves script) first ends lines m l
