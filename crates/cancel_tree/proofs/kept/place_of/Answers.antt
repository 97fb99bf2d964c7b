use Rattle.std.proofs.Common.{rules, ◌≡◌, ◌<◌, Some, length, arith, refl, sym, ap, ◌∙◌, nat_lt, true≢false}
use Rattle.std.specs.Prelude.{slice_get}
use Rattle.std.proofs.lemmas.List.Sorted.{IsPartitionPoint-from_clause}
use Rattle.cancel_tree.specs.declared.kept.ContextKey.{ContextKey}
use Rattle.cancel_tree.specs.Places.{place_at}
use Rattle.cancel_tree.proofs.Finding.{Parts, first_are_lower, place_found, if_number, if_number-is, if_number-other, slice_get-at, slice_get-past}
use Rattle.cancel_tree.proofs.kept.place_of.Goals as goal
use Rattle.cancel_tree.proofs.kept.place_of.Goals.{After-partition_point-index, In-Some}

parts : (c : After-partition_point-index) → Parts c.args.c c.args.places.now.items c.partition_point-index.result
parts c =
    let found = IsPartitionPoint-from_clause (λ (place : ContextKey). nat_lt place.number c.args.c) c.args.places.now.items c.partition_point-index.result
    c.partition_point-index.ensures.partitioned (first_are_lower c.args.c _ c.requires) (λ a r f' k. search rules) in
    record { within = rw (← c.args.places.now.ok.0) c.partition_point-index.ensures.bound; before = found.0; behind = found.1 }

-- what stands there is what is looked for, if it has the number
found : (c : After-partition_point-index) → if_number c.args.c (slice_get c.args.places.now.items c.partition_point-index.result) ≡ place_at c.args.places.now.items c.args.c
found c = place_found c.args.c c.args.places.now.items c.partition_point-index.result c.requires (parts c)

at_there : (c : In-Some) → slice_get c.args.places.now.items c.partition_point-index.result ≡ Some c.in-Some.place.now
at_there c =
    let within : c.partition_point-index.result < length c.args.places.now.items = rw (← c.args.places.now.ok.0) (c.in-Some.ensures.variant.0 refl) in
    slice_get-at c.args.places.now.items c.partition_point-index.result c.in-Some.place.now within c.in-Some.ensures.lookup

pub returns-in-Some : goal.returns-in-Some
returns-in-Some c =
    sym (if_number-is c.args.c c.in-Some.place.now c.if-place-c.true)
    ∙ ap (if_number c.args.c) (sym (at_there (goal.at.returns-in-Some c).In-Some))
    ∙ found (goal.at.returns-in-Some c).After-partition_point-index

pub returns-in_default : goal.returns-in_default
returns-in_default c =
    sym (if_number-other c.args.c c.in-Some.place.now c.if-place-c.false)
    ∙ ap (if_number c.args.c) (sym (at_there (goal.at.returns-in_default c).In-Some))
    ∙ found (goal.at.returns-in_default c).After-partition_point-index

pub returns-in_default-2 : goal.returns-in_default-2
returns-in_default-2 c =
    let len : c.args.places.now.len ≡ length c.args.places.now.items = c.args.places.now.ok.0 in
    let absent = rw c.in_default.is at c.get.ensures.variant in
    let past : c.partition_point-index.result < c.args.places.now.len → ⊥ = λ h. true≢false (sym (absent.1 h)) in
    ap (if_number c.args.c) (sym (slice_get-past c.args.places.now.items c.partition_point-index.result (omega arith)))
    ∙ found (goal.at.returns-in_default-2 c).After-partition_point-index
