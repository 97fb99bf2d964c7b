-- What has kinds keeps them while more becomes known of the numbers that slots name.
use Rattle.std.proofs.Common.{ℕ, List, [], ◌∷◌, take, pos}
use Rattle.eio_value.specs.declared.value.Value.{Value}
use Rattle.eio_value.specs.declared.value.Value.TheVariants as value
use Rattle.spec_script.specs.Kinds.{Kind, VariableKind, ContextKind, SwitchKind, ReaderKind, WriterKind, CapabilityKind}
use Rattle.spec_fiber.specs.Asks as ask
use Rattle.spec_fiber.specs.Asks.{Ask, DirectoryRef}
use Rattle.spec_fiber.specs.Replies.{Position}
use Rattle.spec_fiber.specs.Work as work
use Rattle.spec_fiber.specs.Work.{Work}
use Rattle.law_fiber.specs.Kinded.Kinds.{Facts, HasKind, HasKinds, with_kind, HasKindOfPlace, HasKindsOfCall, Asked, AtBoth, AtRestored, asked_by, HasKindsOfWork, HasKindsAt}

-- what is asked there is asked here too
pub record IsLess (asked wanted : Asked) : Type 0 where
  pub at_value : (slots : List Kind) → asked.at_value slots → wanted.at_value slots
  pub at_exception : (slots : List Kind) → asked.at_exception slots → wanted.at_exception slots

both_less : {asked wanted : Asked} → IsLess asked wanted → (slots : List Kind) → AtBoth asked slots → AtBoth wanted slots
both_less less slots both = (less.at_value slots both.0, λ longer starts. less.at_exception longer (both.1 longer starts))

module _ (facts : Facts) (More : Kind → ℕ → Type 0) (grows : (kind : Kind) (number : ℕ) → facts.names kind number → More kind number) where
  abbrev pub grown : Facts
  grown = record facts { names = More }

  kind_grows : (kind : Kind) (it : Value) → HasKind facts kind it → HasKind grown kind it
  kind_grows VariableKind it has = tt
  kind_grows ContextKind (value.Ctx number) has = grows ContextKind number has
  kind_grows SwitchKind (value.Switch number) has = grows SwitchKind number has
  kind_grows ReaderKind (value.Int (pos number)) has = grows ReaderKind number has
  kind_grows WriterKind (value.Int (pos number)) has = grows WriterKind number has
  kind_grows CapabilityKind (value.Int (pos number)) has = grows CapabilityKind number has
  kind_grows kind it has = absurd has

  pub kinds_grow : (slots : List Kind) (variables : List Value) → HasKinds facts slots variables → HasKinds grown slots variables
  kinds_grow [] [] has = tt
  kinds_grow [] (it ∷ variables) has = absurd has
  kinds_grow (kind ∷ slots) [] has = absurd has
  kinds_grow (kind ∷ slots) (it ∷ variables) has = (kind_grows kind it has.0, kinds_grow slots variables has.1)

  place_grows : (place : DirectoryRef) → HasKindOfPlace facts place → HasKindOfPlace grown place
  place_grows (ask.Declared number) has = has
  place_grows (ask.Opened number) has = grows CapabilityKind number has

  pub call_grows : (slots : List Kind) (call : Ask) → HasKindsOfCall facts slots call → HasKindsOfCall grown slots call
  call_grows slots (ask.Cancel context text) has = grows ContextKind context has
  call_grows slots (ask.Fork forking switch body) has = (has.0, grows SwitchKind switch has.1, has.2)
  call_grows slots (ask.Fail switch text) has = grows SwitchKind switch has
  call_grows slots (ask.OnRelease switch handler) has = (grows SwitchKind switch has.0, has.1)
  call_grows slots (ask.Submit executor weight given job) has = (has.0, has.1, has.2, kinds_grow has.2 given has.3, has.4)
  call_grows slots (ask.OnReader call reader) has = grows ReaderKind reader has
  call_grows slots (ask.TakeBytes reader count) has = grows ReaderKind reader has
  call_grows slots (ask.PutText writer text) has = grows WriterKind writer has
  call_grows slots (ask.OpenDirectory place path body) has = (place_grows place has.0, has.1)
  call_grows slots (ask.OnPath call place path) has = place_grows place has
  call_grows slots (ask.Save only_new place path content) has = place_grows place has
  call_grows slots call has = has

  -- ## Work

  restored_less : (variables : List Value) {asked wanted : Asked} → IsLess asked wanted → AtRestored facts variables asked.at_value
      → AtRestored grown variables wanted.at_value
  restored_less variables less has = (has.0, kinds_grow has.0 variables has.1, less.at_value has.0 has.2)

  restored_drops : (variables : List Value) {asked wanted : Asked} → IsLess asked wanted → AtRestored facts variables asked.at_exception
      → AtRestored grown variables wanted.at_exception
  restored_drops variables less has = (has.0, kinds_grow has.0 variables has.1, less.at_exception has.0 has.2)

  module _ (rest : List Work) (less : IsLess (asked_by facts rest) (asked_by grown rest)) where
    item_at_value : (item : Work) (slots : List Kind) → (asked_by facts (item ∷ rest)).at_value slots → (asked_by grown (item ∷ rest)).at_value slots
    unfolding asked_by
    item_at_value (work.Run items) slots has =
        (has.0, λ longer starts. less.at_value longer (has.1 longer starts), λ longer starts. less.at_exception longer (has.2 longer starts))
    item_at_value (work.Cut keep) slots has = less.at_value (take keep slots) has
    item_at_value (work.Restore variables) slots has = restored_less variables less has
    item_at_value (work.Try handler keep) slots has = less.at_value (take keep slots) has
    item_at_value (work.Bind slot) slots has = less.at_value (with_kind VariableKind (take slot slots)) has
    item_at_value (work.Loop body keep) slots has = (has.0, has.1, λ longer starts. less.at_exception longer (has.2 longer starts))
    item_at_value (work.Repeat turn left body keep) slots has =
        (has.0, has.1, less.at_value (take keep slots) has.2, λ longer starts. less.at_exception longer (has.3 longer starts))
    item_at_value (work.Leave context late keep) slots has = both_less less (take keep slots) has
    item_at_value (work.Close switch keep) slots has = both_less less (take keep slots) has
    item_at_value (work.Closing switch kept) slots has = both_less less slots has
    item_at_value (work.Join group keep) slots has = both_less less (take keep slots) has
    item_at_value (work.ShutReader reader keep) slots has = both_less less (take keep slots) has
    item_at_value (work.ShutWriter writer keep) slots has = both_less less (take keep slots) has
    item_at_value (work.Locking mutex body) slots has = (has.0, has.1, both_less less slots has.2)
    item_at_value (work.Unlock mutex keep) slots has = (has.0, both_less less (take keep slots) has.1)
    item_at_value (work.Using pool body) slots has = (has.0, has.1, both_less less slots has.2)
    item_at_value (work.Put pool resource keep) slots has = (has.0, both_less less (take keep slots) has.1)
    item_at_value (work.Resolve promise) slots has = (has.0, both_less less slots has.1)

    item_at_exception : (item : Work) (slots : List Kind) → (asked_by facts (item ∷ rest)).at_exception slots
        → (asked_by grown (item ∷ rest)).at_exception slots
    unfolding asked_by
    item_at_exception (work.Run items) slots has = less.at_exception slots has
    item_at_exception (work.Cut keep) slots has = less.at_exception slots has
    item_at_exception (work.Restore variables) slots has = restored_drops variables less has
    item_at_exception (work.Try handler keep) slots has =
        (has.0, λ longer starts. less.at_value (take keep longer) (has.1 longer starts), λ longer starts. less.at_exception longer (has.2 longer starts))
    item_at_exception (work.Bind slot) slots has = less.at_exception slots has
    item_at_exception (work.Loop body keep) slots has = less.at_exception slots has
    item_at_exception (work.Repeat turn left body keep) slots has = less.at_exception slots has
    item_at_exception (work.Leave context late keep) slots has = both_less less (take keep slots) has
    item_at_exception (work.Close switch keep) slots has = both_less less (take keep slots) has
    item_at_exception (work.Closing switch kept) slots has = both_less less slots has
    item_at_exception (work.Join group keep) slots has = both_less less (take keep slots) has
    item_at_exception (work.ShutReader reader keep) slots has = both_less less (take keep slots) has
    item_at_exception (work.ShutWriter writer keep) slots has = both_less less (take keep slots) has
    item_at_exception (work.Locking mutex body) slots has = less.at_exception slots has
    item_at_exception (work.Unlock mutex keep) slots has = (has.0, both_less less (take keep slots) has.1)
    item_at_exception (work.Using pool body) slots has = less.at_exception slots has
    item_at_exception (work.Put pool resource keep) slots has = (has.0, both_less less (take keep slots) has.1)
    item_at_exception (work.Resolve promise) slots has = (has.0, both_less less slots has.1)

  asked_less : (rest : List Work) → IsLess (asked_by facts rest) (asked_by grown rest)
  unfolding asked_by
  asked_less [] = record { at_value = λ slots has. tt; at_exception = λ slots has. tt }
  asked_less (item ∷ rest) =
      let less = asked_less rest in
      record { at_value = item_at_value rest less item; at_exception = item_at_exception rest less item }

  pub position_grows : (position : Position) → HasKindsAt facts position → HasKindsAt grown position
  position_grows position has = record {
    slots = has.slots;
    variables = kinds_grow has.slots position.variables has.variables;
    work = both_less (asked_less position.work) has.slots has.work;
  }

  pub work_grows : (rest : List Work) (slots : List Kind) → HasKindsOfWork facts slots rest → HasKindsOfWork grown slots rest
  work_grows rest slots has = both_less (asked_less rest) slots has
