-- Each line changes an object as its moves on that object do; so a run changes it as all its moves there do.
use Rattle.std.proofs.Common.{◌≡◌, ℕ, true, false, ◌==◌, List, [], ◌∷◌, ◌++◌, slice_get, Option, Some, sym, ap, ◌∙◌, subst, eqb-true}
use Rattle.std.specs.Option.{unwrap_or, option_map}
use Rattle.std.proofs.lemmas.Option.{slice_get-map}
use Rattle.spec_parts.specs.Objects.{called}
use Rattle.spec_parts.specs.Row.{Row, Stepped}
use Rattle.spec_parts.specs.Streams.{stream}
use Rattle.spec_script.specs.Declarations as declared
use Rattle.spec_script.specs.Declarations.{Declaration}
use Rattle.spec_script.specs.Scripts.{Script}
use Rattle.law_parts.specs.Items.{Move, Calls, items, Gone, gone}
use Rattle.law_parts.proofs.Items as one_row
use Rattle.spec_machine.specs.Labels.{Label, Inner, Called, Struck, Mocked, Took}
use Rattle.spec_machine.specs.Mock.{most_jobs}
use Rattle.spec_machine.specs.ObjectHistories.{Made, call_on, calls_on}
use Rattle.spec_machine.specs.Runs.{Noted, domain_of, stamp_of, SharedMoves, Legal, State}
use Rattle.spec_machine.specs.Shared.{SharedState, row_at, no_object, stepped, declared_row}
use Rattle.law_history.proofs.Legal.Rows.{by_test, under_set}
use Rattle.law_history.specs.Waits.Items.{moves_by, moves_on, row_at_first, steps_of, HasCome, AllCome, ObjectsArePlayed, CallsArePlayed, ItemsInOrderInRuns}
use Rattle.law_history.proofs.Waits.Strikes.{struck_at}

module _ (object : ℕ) (last : Row) where
  -- from this row these moves lead to the last one, and these calls came of them
  abbrev Leads : Row → List Move → List Made → Type 0
  Leads row moves calls = (last ≡ (gone row moves).row) × AllCome calls (steps_of row moves)

  line_leads : (x : Noted) (label : Label) (xs : List Noted) (s t : SharedState) → SharedMoves s (domain_of x) (stamp_of x) label x.away x.from t
      → Leads (row_at t.rows object) (moves_on object xs) (calls_on object xs)
      → Leads (row_at s.rows object) (moves_by object label ++ moves_on object xs) (call_on object x label (calls_on object xs))
  line_leads x Inner xs s t moves rest = subst (λ (u : SharedState). Leads (row_at u.rows object) (moves_on object xs) (calls_on object xs)) moves.1 rest
  line_leads x (Called asked given mine) xs s t moves rest =
      by_test
      (λ b. row_at t.rows object ≡ elim b [ true ↦ step.row | false ↦ row_at s.rows object ]
      → Leads (row_at s.rows object) (elim b [ true ↦ Calls asked.who asked.off asked.serial asked.call ∷ [] | false ↦ [] ] ++ moves_on object xs)
      (elim b [
        | true ↦ record { domain = domain_of x; stamp = stamp_of x; asked = asked; answer = given; mine = mine; away = x.away } ∷ calls_on object xs
        | false ↦ calls_on object xs
      ]))
      (asked.object == object)
      (λ e row. subst
      (λ (n : ℕ). (let then : Stepped = called (row_at s.rows n) asked.who asked.off asked.serial asked.call in
      (last ≡ (gone then.row (moves_on object xs)).row)
      × (HasCome (record { domain = domain_of x; stamp = stamp_of x; asked = asked; answer = given; mine = mine; away = x.away }) then
      × AllCome (calls_on object xs) (steps_of then.row (moves_on object xs)))))
      (eqb-true asked.object object e)
      (let after : Leads step.row (moves_on object xs) (calls_on object xs) = subst (λ (r : Row). Leads r (moves_on object xs) (calls_on object xs)) row rest in
      (after.0, (record { answer = moves.0; mine = moves.1; away = moves.2 }, after.1))))
      (λ e row. subst (λ (r : Row). Leads r (moves_on object xs) (calls_on object xs)) row rest)
      (ap (λ (u : SharedState). row_at u.rows object) moves.5 ∙ under_set no_object s.rows asked.object object step.row moves.4)
    where
      step : Stepped
      step = stepped s asked
  line_leads x (Struck who true) xs s t moves rest =
      subst (λ (r : Row). Leads r (moves_on object xs) (calls_on object xs)) (ap (λ (u : SharedState). row_at u.rows object) moves.2 ∙ struck_at who s.rows object) rest
  line_leads x (Struck who false) xs s t moves rest = subst (λ (u : SharedState). Leads (row_at u.rows object) (moves_on object xs) (calls_on object xs)) moves.2 rest
  line_leads x (Mocked asked given texts) xs s t moves rest = absurd moves
  line_leads x (Took it) xs s t moves rest = subst (λ (u : SharedState). Leads (row_at u.rows object) (moves_on object xs) (calls_on object xs)) moves.4 rest

pub runs_lead : {L : Type 0} (Steps : L → Noted → L → Type 0) (object : ℕ) (last : ℕ × ℕ) (s : State Steps) (xs : List Noted) (t : State Steps) → Legal Steps last s xs t
    → Leads object (row_at t.shared.rows object) (row_at s.shared.rows object) (moves_on object xs) (calls_on object xs)
runs_lead Steps object last s [] t legal = (ap (λ (u : State Steps). row_at u.shared.rows object) (sym legal), tt)
runs_lead Steps object last s (x ∷ xs) t legal =
    line_leads object (row_at t.shared.rows object) x x.label xs s.shared legal.0.shared legal.3.shared (runs_lead Steps object (stamp_of x, domain_of x) legal.0 xs t legal.4)

pub objects_are_played : ObjectsArePlayed
objects_are_played script lines final legal object = (runs_lead _ object (0, 0) _ lines final legal).0

pub calls_are_played : CallsArePlayed
calls_are_played script lines final legal object = (runs_lead _ object (0, 0) _ lines final legal).1

-- ## Items

declared_stream : (script : Script) (object capacity : ℕ) → slice_get script.declarations object ≡ Some (declared.Stream capacity) → row_at_first script object ≡ stream capacity
declared_stream script object capacity is =
    ap (λ (found : Option Row). unwrap_or found no_object)
    (slice_get-map (declared_row (most_jobs script)) script.declarations object ∙ ap (λ (found : Option Declaration). option_map (declared_row (most_jobs script)) found) is)

pub items_in_order_in_runs : ItemsInOrderInRuns
items_in_order_in_runs script lines final legal object capacity is =
    let played : Gone = gone (row_at_first script object) (moves_on object lines) in
    subst (λ (first : Row). (gone first (moves_on object lines)).accepted ≡ (gone first (moves_on object lines)).taken ++ items (gone first (moves_on object lines)).row.values)
    (sym (declared_stream script object capacity is)) (one_row.items_in_order capacity (moves_on object lines))
    ∙ ap (λ (row : Row). played.taken ++ items row.values) (sym (objects_are_played script lines final legal object))
