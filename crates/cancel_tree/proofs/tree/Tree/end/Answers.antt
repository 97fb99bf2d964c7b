use Rattle.std.proofs.Common.{rules, ◌≡◌, ◌<◌, ◌+◌, Some, true, ◌∙◌, sym, ap, subst, length, arith, nat_lt}
use Rattle.std.specs.Prelude.{slice_get}
use mir.Val.{bool_byte as from_bool}
use Rattle.std.proofs.lemmas.List.Sorted.{IsPartitionPoint-from_clause}
use Rattle.slab.specs.Slab.{get}
use Rattle.spec_parts.specs.Contexts.{is_live}
use Rattle.cancel_tree.specs.declared.kept.ContextKey.{ContextKey}
use Rattle.cancel_tree.specs.KeptContext.{contexts_in, reason_count}
use Rattle.cancel_tree.specs.Places.{place_at}
use Rattle.cancel_tree.specs.Endings.{HasNoLiveChild, without}
use Rattle.cancel_tree.proofs.Finding.{Parts, first_are_lower, place_found, at_index, slice_get-at, slice_get-within, rest_of, FoundAt}
use Rattle.cancel_tree.proofs.Jumping.{jumps_left}
use Rattle.cancel_tree.proofs.Changes.{ended_tree, ended_list, ended_count, found_if}
use Rattle.cancel_tree.proofs.Reasons.{counted_as}
use Rattle.cancel_tree.proofs.Trees.{live_is_placed, is_there, has_value, at_own}
use Rattle.cancel_tree.proofs.tree.Tree.end.Goals as goal
use Rattle.cancel_tree.proofs.tree.Tree.end.Goals.{After-partition_point-index, After-unwrap-place, After-from}

-- the index parts the numbers at c
parts : (c : After-partition_point-index) → Parts c.args.c c.self.inside.places.items c.partition_point-index.result
parts c =
    let found = IsPartitionPoint-from_clause (λ (place : ContextKey). nat_lt place.number c.args.c) c.self.inside.places.items c.partition_point-index.result
    c.partition_point-index.ensures.partitioned (first_are_lower c.args.c _ c.self.invariant.tree.rise) (λ a r f' k. search rules) in
    record { within = rw (← c.self.inside.places.ok.0) c.partition_point-index.ensures.bound; before = found.0; behind = found.1 }

-- the place of c, which stands at the index
placed : (c : After-partition_point-index) → FoundAt c.self.inside.places.items c.args.c c.partition_point-index.result
placed c =
    let lives : is_live (contexts_in c.self.inside.made c.self.inside.kept c.self.inside.places.items) c.args.c ≡ true = ap (λ contexts. is_live contexts c.args.c) c.self.view_is ∙ c.requires.live in
    let found = found_if (place_at c.self.inside.places.items c.args.c) (sym (live_is_placed c.self.inside.made c.self.inside.kept c.self.inside.places.items c.self.invariant.tree c.args.c) ∙ lives) in
    record { place = found.0; at = found.1; there = at_index c.args.c _ found.0 (place_found c.args.c c.self.inside.places.items c.partition_point-index.result c.self.invariant.tree.rise (parts c) ∙ found.1) }

pub unwrap-place-requires : goal.unwrap-place-requires
unwrap-place-requires c =
    let found = placed (goal.at.unwrap-place-requires c).After-partition_point-index in
    let within : c.partition_point-index.result < c.self.inside.places.len = rw c.self.inside.places.ok.0 (slice_get-within _ _ found.place found.there) in
    c.remove.ensures.variant.1 within

-- that place is the one that is removed
removed : (c : After-unwrap-place) → (found : FoundAt c.self.inside.places.items c.args.c c.partition_point-index.result) → found.place ≡ c.unwrap-place.result
removed c found =
    let within : c.partition_point-index.result < length c.self.inside.places.items = slice_get-within _ _ found.place found.there in
    let value = rw c.unwrap-place.ensures at c.remove.ensures.value in
    let there : slice_get c.self.inside.places.items c.partition_point-index.result ≡ Some c.unwrap-place.result = slice_get-at _ _ c.unwrap-place.result within value in
    let here : slice_get c.self.inside.places.items c.partition_point-index.result ≡ Some found.place = found.there in
    cc

pub remove-gone-requires : goal.remove-gone-requires
remove-gone-requires c =
    let found = placed (goal.at.remove-gone-requires c).After-partition_point-index in
    let there = is_there c.self.inside.made c.self.inside.kept c.self.inside.places.items c.self.invariant.tree found.place (at_own c.self.inside.places.items c.args.c found.place found.at) in
    has_value _ there.0 (ap (λ (place : ContextKey). get c.self.inside.kept place.key) (sym (removed (goal.at.remove-gone-requires c).After-unwrap-place found)) ∙ there.1)

-- where the removed place stood
at_removed : (c : After-unwrap-place) → (found : FoundAt c.self.inside.places.items c.args.c c.partition_point-index.result)
    → (place_at c.self.inside.places.items c.args.c ≡ Some c.unwrap-place.result) × (slice_get c.self.inside.places.items c.partition_point-index.result ≡ Some c.unwrap-place.result)
at_removed c found = (found.at ∙ ap Some (removed c found), found.there ∙ ap Some (removed c found))

-- with the context that ends goes its reason, if it has one
counts : (c : After-from) → (place_at c.self.inside.places.items c.args.c ≡ Some c.unwrap-place.result) × (slice_get c.self.inside.places.items c.partition_point-index.result ≡ Some c.unwrap-place.result)
    → reason_count (contexts_in c.self.inside.made c.remove-gone.new.self (rest_of c.self.inside.places.items c.partition_point-index.result)) + c.from.result ≡ c.self.inside.reasons
counts c at =
    ap (λ n. reason_count (contexts_in c.self.inside.made c.remove-gone.new.self (rest_of c.self.inside.places.items c.partition_point-index.result)) + n) (c.from.ensures ∙ ap from_bool c.is_some.ensures ∙ counted_as c.remove-gone.result.reason)
    ∙ ended_count c.self.inside.made c.self.inside.kept c.self.inside.places.items c.self.invariant.tree c.args.c c.partition_point-index.result c.unwrap-place.result c.remove-gone.new.self at.0 at.1
    c.remove-gone.ensures.updates (subst (λ contexts. HasNoLiveChild contexts c.args.c) (sym c.self.view_is) c.requires.childless) c.remove-gone.result c.remove-gone.ensures.value
    ∙ c.self.invariant.counted

pub overflow_sub-self : goal.overflow_sub-self
overflow_sub-self c =
    let it = goal.at.overflow_sub-self c in
    let counts = counts it.After-from (at_removed it.After-unwrap-place (placed it.After-partition_point-index)) in omega (arith, counts)

pub invariant_of-self : goal.invariant_of-self
invariant_of-self c =
    let at = at_removed (goal.at.invariant_of-self c).After-unwrap-place (placed (goal.at.invariant_of-self c).After-partition_point-index) in
    let items = rw c.unwrap-place.ensures at c.remove.ensures.items in
    let count : length (rest_of c.self.inside.places.items c.partition_point-index.result) + 1 ≡ length c.self.inside.places.items =
    (let a : c.remove.new.self.len + 1 ≡ c.self.inside.places.len = rw c.unwrap-place.ensures at c.remove.ensures.len in
    let b : c.remove.new.self.len ≡ length c.remove.new.self.items = c.remove.new.self.ok.0 in
    let d : c.self.inside.places.len ≡ length c.self.inside.places.items = c.self.inside.places.ok.0 in
    let e : length c.remove.new.self.items ≡ length (rest_of c.self.inside.places.items c.partition_point-index.result) = ap length items in
    omega arith) in
    let childless : HasNoLiveChild (contexts_in c.self.inside.made c.self.inside.kept c.self.inside.places.items) c.args.c = subst (λ contexts. HasNoLiveChild contexts c.args.c) (sym c.self.view_is) c.requires.childless in
    record {
      tree =
          rw items
          (ended_tree c.self.inside.made c.self.inside.kept c.self.inside.places.items c.self.invariant.tree c.args.c c.partition_point-index.result c.unwrap-place.result c.remove-gone.new.self at.0 at.1
          c.remove-gone.ensures.updates childless count c.remove-gone.ensures.len c.remove-gone.ensures.capacity);
      jumps =
          rw items
          (jumps_left c.self.inside.made c.self.inside.kept c.self.inside.places.items c.self.invariant.tree c.self.invariant.jumps c.args.c c.partition_point-index.result c.unwrap-place.result c.remove-gone.new.self at.0 at.1
          c.remove-gone.ensures.updates childless);
      counted = rw items (let counts = counts (goal.at.invariant_of-self c).After-from at in omega (arith, counts));
      room = rw c.remove.ensures.capacity c.self.invariant.room;
    }

pub returns : goal.returns
returns c =
    let at = at_removed (goal.at.returns c).After-unwrap-place (placed (goal.at.returns c).After-partition_point-index) in
    let items = rw c.unwrap-place.ensures at c.remove.ensures.items in
    ap (contexts_in c.self.inside.made c.remove-gone.new.self) items
    ∙ ended_list c.self.inside.made c.self.inside.kept c.self.inside.places.items c.self.invariant.tree c.args.c c.partition_point-index.result c.unwrap-place.result c.remove-gone.new.self at.0 at.1
    c.remove-gone.ensures.updates (subst (λ contexts. HasNoLiveChild contexts c.args.c) (sym c.self.view_is) c.requires.childless)
    ∙ ap (without c.args.c) c.self.view_is
