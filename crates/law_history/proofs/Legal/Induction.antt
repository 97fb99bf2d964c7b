-- The lines that are left lead to the end, one by one.
use Rattle.std.proofs.Common.{◌≡◌, ℕ, ◌==◌, Bool, true, false, List, [], ◌∷◌, refl, sym, ap, ◌∙◌, subst, eqb-true, eq-eqb, append-nil}
use Rattle.eio_value.specs.declared.message.Message.{Message}
use Rattle.spec_parts.specs.Row.{Row, only_row}
use Rattle.spec_machine.specs.ObjectHistories.{Entry, calls_in, row_after}
use Rattle.spec_machine.specs.PartsOfRuns.{lines_of, is_alive}
use Rattle.spec_machine.specs.Runs.{Noted, domain_of, key_of, put, LocalRun, State, Legal}
use Rattle.spec_machine.specs.Shared.{decision_of, row_at}
use Rattle.law_history.proofs.Legal.Fates.{Fates, decision_by, PartsLeft}
use Rattle.law_history.proofs.Legal.Rows.{by_test}
use Rattle.law_history.proofs.Legal.Steps.{GoesOn, goes_on}

-- from this state the lines are a legal run, which ends so
pub record Leads {L : Type 0} (Steps : L → Noted → L → Type 0) (last : ℕ × ℕ) (start : State Steps) (lines : List Noted) (ends : ℕ → L) (whole : ℕ → Row) (fates : Fates) (left : (receiver sender : ℕ) → List Message) : Type 0 where
  pub final : State Steps
  pub legal : Legal Steps last start lines final
  pub locals : (d : ℕ) → final.locals d ≡ ends d
  pub rows : (object : ℕ) → row_at final.shared.rows object ≡ only_row (is_alive final.shared.decided) (whole object)
  pub waits : (cell armed : ℕ) → decision_of final.shared.decided cell armed ≡ decision_by (fates cell armed)
  pub posts : (receiver sender : ℕ) → final.shared.posts receiver sender ≡ left receiver sender

none_made : (es : List Entry) → calls_in es ≡ [] → es ≡ []
none_made [] e = refl
none_made (k ∷ ks) e = absurd (cc)

-- the first line of a domain, and the first line of another
pub its_line : (x : Noted) (xs : List Noted) (d : ℕ) → (domain_of x == d) ≡ true → lines_of d (x ∷ xs) ≡ x ∷ lines_of d xs
its_line x xs d e = ap (λ (b : Bool). elim b [ true ↦ x ∷ lines_of d xs | false ↦ lines_of d xs ]) e

pub others_line : (x : Noted) (xs : List Noted) (d : ℕ) → (domain_of x == d) ≡ false → lines_of d (x ∷ xs) ≡ lines_of d xs
others_line x xs d e = ap (λ (b : Bool). elim b [ true ↦ x ∷ lines_of d xs | false ↦ lines_of d xs ]) e

module _ {L : Type 0} (Steps : L → Noted → L → Type 0) (fates : Fates) (left : (receiver sender : ℕ) → List Message) (ends : ℕ → L) where
  pub leads : (lines : List Noted) (last : ℕ × ℕ) (s : State Steps) (whole : ℕ → Row) (entries : ℕ → List Entry) → PartsLeft last s.shared whole lines entries fates left
      → ((d : ℕ) → LocalRun Steps (s.locals d) (lines_of d lines) (ends d)) → Leads Steps last s lines ends (λ object. row_after (whole object) (entries object)) fates left
  leads [] last s whole entries p l = record {
    final = s;
    legal = refl;
    locals = l;
    rows = λ object. p.rows object ∙ ap (λ (es : List Entry). only_row (is_alive s.shared.decided) (row_after (whole object) es)) (sym (none_made (entries object) (p.calls object)));
    waits = p.stands;
    posts = λ receiver sender. sym (append-nil (s.shared.posts receiver sender)) ∙ p.posts receiver sender;
  }
  leads (x ∷ xs) last s whole entries p l =
      let g : GoesOn fates left s.shared whole x xs entries = goes_on fates left last s.shared whole x xs entries p in
      let own : LocalRun Steps (s.locals (domain_of x)) (x ∷ lines_of (domain_of x) xs) (ends (domain_of x)) =
      subst (λ (ys : List Noted). LocalRun Steps (s.locals (domain_of x)) ys (ends (domain_of x))) (its_line x xs (domain_of x) (eq-eqb (domain_of x) (domain_of x) refl)) (l (domain_of x))
      in
      let t : State Steps = record { locals = put (domain_of x) own.0 s.locals; shared = g.next } in
      let r : Leads Steps (key_of x) t xs ends (λ object. row_after (g.whole_then object) (g.entries_then object)) fates left =
      leads xs (key_of x) t g.whole_then g.entries_then g.parts
      (λ d. by_test (λ b. LocalRun Steps (elim b [ true ↦ own.0 | false ↦ s.locals d ]) (lines_of d xs) (ends d)) (domain_of x == d)
      (λ e. subst (λ (k : ℕ). LocalRun Steps own.0 (lines_of k xs) (ends k)) (eqb-true (domain_of x) d e) own.2)
      (λ e. subst (λ (ys : List Noted). LocalRun Steps (s.locals d) ys (ends d)) (others_line x xs d e) (l d)))
      in
      record {
        final = r.final;
        legal = (t, p.rises.0, p.sound.0.below, record { next = own.0; steps = own.1; locals = refl; shared = g.moves }, r.legal);
        locals = r.locals;
        rows = λ object. r.rows object ∙ ap (only_row (is_alive r.final.shared.decided)) (g.ends object);
        waits = r.waits;
        posts = r.posts;
      }
