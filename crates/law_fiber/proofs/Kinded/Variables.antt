-- Variables keep their kinds where they are cut, and where names are bound behind them.
use Rattle.std.proofs.Common.{◌≡◌, ℕ, zero, suc, ◌+◌, ◌≤◌, List, [], ◌∷◌, ◌++◌, length, take, map, Some, pos, refl, sym, ap, subst, ◌∙◌, arith}
use Rattle.std.specs.Prelude.{slice_get}
use Rattle.std.proofs.lemmas.List.{append-nil, append_assoc, length-append, length-take-le, take_at}
use Rattle.std.proofs.lemmas.Option.{none-some, same_Some}
use Rattle.eio_value.specs.declared.value.Value.{Value}
use Rattle.eio_value.specs.declared.value.Value.TheVariants as value
use Rattle.spec_script.specs.Kinds.{Kind, VariableKind, ContextKind, SwitchKind, ReaderKind, WriterKind, CapabilityKind}
use Rattle.spec_fiber.specs.Evaluation.{value_at, context_in, switch_in, number_in, held_context, held_switch, held_number}
use Rattle.law_fiber.specs.Kinded.Kinds.{Facts, HasKind, HasKinds, StartsWith, with_kind}

-- ## Slots with more behind them

pub starts_self : (slots : List Kind) → StartsWith slots slots
starts_self slots = ([], sym (append-nil slots))

pub starts_with_one : (kind : Kind) (slots : List Kind) → StartsWith slots (with_kind kind slots)
starts_with_one kind slots = (kind ∷ [], refl)

pub starts_then : (a b c : List Kind) → StartsWith a b → StartsWith b c → StartsWith a c
starts_then a b c first second =
    (first.0 ++ second.0, second.1 ∙ (ap (λ slots. slots ++ second.0) first.1 ∙ append_assoc a first.0 second.0))

pub starts_longer : (slots longer : List Kind) → StartsWith slots longer → length slots ≤ length longer
starts_longer slots longer starts =
    let long : length longer ≡ length slots + length starts.0 = ap (λ s. length s) starts.1 ∙ length-append slots starts.0 in
    omega (arith, long)

-- a cut to the slots that were there first
pub cut_back : (keep : ℕ) (slots longer : List Kind) → keep ≡ length slots → StartsWith slots longer → take keep longer ≡ slots
cut_back keep slots longer same starts = ap (λ s. take keep s) starts.1 ∙ take_at slots starts.0 keep (sym same)

pub length_kept : (keep : ℕ) (slots : List Kind) → keep ≤ length slots → keep ≡ length (take keep slots)
length_kept keep slots within = sym (length-take-le keep slots within)

-- ## Variables

module _ (facts : Facts) where
  pub kinds_cut : (keep : ℕ) (slots : List Kind) (variables : List Value) → HasKinds facts slots variables
      → HasKinds facts (take keep slots) (take keep variables)
  kinds_cut zero slots variables has = tt
  kinds_cut (suc keep) [] [] has = tt
  kinds_cut (suc keep) [] (it ∷ variables) has = absurd has
  kinds_cut (suc keep) (kind ∷ slots) [] has = absurd has
  kinds_cut (suc keep) (kind ∷ slots) (it ∷ variables) has = (has.0, kinds_cut keep slots variables has.1)

  pub kinds_with : (kind : Kind) (it : Value) (slots : List Kind) (variables : List Value) → HasKinds facts slots variables → HasKind facts kind it
      → HasKinds facts (with_kind kind slots) (variables ++ it ∷ [])
  kinds_with kind it [] [] has last = (last, tt)
  kinds_with kind it [] (first ∷ variables) has last = absurd has
  kinds_with kind it (first ∷ slots) [] has last = absurd has
  kinds_with kind it (other ∷ slots) (first ∷ variables) has last = (has.0, kinds_with kind it slots variables has.1 last)

  pub as_many : (slots : List Kind) (variables : List Value) → HasKinds facts slots variables → length variables ≡ length slots
  as_many [] [] has = refl
  as_many [] (it ∷ variables) has = absurd has
  as_many (kind ∷ slots) [] has = absurd has
  as_many (kind ∷ slots) (it ∷ variables) has = ap suc (as_many slots variables has.1)

  -- cut to the slots that were there first
  pub kinds_back : (keep : ℕ) (slots longer : List Kind) (variables : List Value) → keep ≡ length slots → StartsWith slots longer
      → HasKinds facts longer variables → HasKinds facts slots (take keep variables)
  kinds_back keep slots longer variables same starts has =
      subst (λ s. HasKinds facts s (take keep variables)) (cut_back keep slots longer same starts) (kinds_cut keep longer variables has)

  -- and with a name in the next slot
  pub kinds_bound : (keep : ℕ) (slots longer : List Kind) (variables : List Value) (kind : Kind) (it : Value) → keep ≡ length slots
      → StartsWith slots longer → HasKinds facts longer variables → HasKind facts kind it
      → HasKinds facts (with_kind kind slots) (take keep variables ++ it ∷ [])
  kinds_bound keep slots longer variables kind it same starts has last =
      kinds_with kind it slots (take keep variables) (kinds_back keep slots longer variables same starts has) last

  -- ## What slots name

  pub kind_at : (slots : List Kind) (variables : List Value) (slot : ℕ) (kind : Kind) → HasKinds facts slots variables
      → slice_get slots slot ≡ Some kind → HasKind facts kind (value_at variables slot)
  kind_at [] variables slot kind has is = absurd (none-some kind is)
  kind_at (first ∷ slots) [] slot kind has is = absurd has
  kind_at (first ∷ slots) (it ∷ variables) zero kind has is = subst (λ k. HasKind facts k it) (same_Some first kind is) has.0
  kind_at (first ∷ slots) (it ∷ variables) (suc slot) kind has is = kind_at slots variables slot kind has.1 is

  context_is_named : (it : Value) → HasKind facts ContextKind it → facts.names ContextKind (context_in it)
  context_is_named (value.Ctx number) has = has
  context_is_named other has = absurd has

  switch_is_named : (it : Value) → HasKind facts SwitchKind it → facts.names SwitchKind (switch_in it)
  switch_is_named (value.Switch number) has = has
  switch_is_named other has = absurd has

  reader_is_named : (it : Value) → HasKind facts ReaderKind it → facts.names ReaderKind (number_in it)
  reader_is_named (value.Int (pos number)) has = has
  reader_is_named other has = absurd has

  writer_is_named : (it : Value) → HasKind facts WriterKind it → facts.names WriterKind (number_in it)
  writer_is_named (value.Int (pos number)) has = has
  writer_is_named other has = absurd has

  capability_is_named : (it : Value) → HasKind facts CapabilityKind it → facts.names CapabilityKind (number_in it)
  capability_is_named (value.Int (pos number)) has = has
  capability_is_named other has = absurd has

  module _ (slots : List Kind) (variables : List Value) (slot : ℕ) (has : HasKinds facts slots variables) where
    pub context_named : slice_get slots slot ≡ Some ContextKind → facts.names ContextKind (held_context variables slot)
    context_named is = context_is_named (value_at variables slot) (kind_at slots variables slot ContextKind has is)

    pub switch_named : slice_get slots slot ≡ Some SwitchKind → facts.names SwitchKind (held_switch variables slot)
    switch_named is = switch_is_named (value_at variables slot) (kind_at slots variables slot SwitchKind has is)

    pub reader_named : slice_get slots slot ≡ Some ReaderKind → facts.names ReaderKind (held_number variables slot)
    reader_named is = reader_is_named (value_at variables slot) (kind_at slots variables slot ReaderKind has is)

    pub writer_named : slice_get slots slot ≡ Some WriterKind → facts.names WriterKind (held_number variables slot)
    writer_named is = writer_is_named (value_at variables slot) (kind_at slots variables slot WriterKind has is)

    pub capability_named : slice_get slots slot ≡ Some CapabilityKind → facts.names CapabilityKind (held_number variables slot)
    capability_named is = capability_is_named (value_at variables slot) (kind_at slots variables slot CapabilityKind has is)

  -- values that are given to a job may be any
  pub any_kinds : (variables : List Value) (captured : List ℕ)
      → HasKinds facts (map (λ slot. VariableKind) captured) (map (value_at variables) captured)
  any_kinds variables [] = tt
  any_kinds variables (slot ∷ captured) = (tt, any_kinds variables captured)
