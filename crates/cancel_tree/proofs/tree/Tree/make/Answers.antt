use Rattle.std.proofs.Common.{◌≡◌, ◌<◌, ◌+◌, ◌++◌, ◌∷◌, [], Some, None, true, false, ◌∙◌, sym, ap, length, arith}
use Rattle.std.specs.Option.{option_map}
use Rattle.spec_parts.specs.Contexts.{is_full, is_live, live_count, new_context}
use Rattle.cancel_tree.specs.declared.kept.ContextKey.{ContextKey}
use Rattle.cancel_tree.specs.KeptContext.{contexts_in}
use Rattle.cancel_tree.specs.Places.{place_at}
use Rattle.cancel_tree.specs.Jumps.{JumpsUnder}
use Rattle.cancel_tree.proofs.Jumping.{jumps_made, if_some}
use Rattle.cancel_tree.proofs.Changes.{made_tree, made_list, made_count, not_full, make_number, make_contexts, length-contexts_in, parent_is_placed}
use Rattle.cancel_tree.proofs.tree.Tree.make.Goals as goal
use Rattle.cancel_tree.proofs.tree.Tree.make.Goals.{in-Some, in-None, Joined-parent, Else-len-ge-MOST_CONTEXTS}

pub overflow_add-self : goal.overflow_add-self
overflow_add-self c =
    let made : length c.args.self.now ≡ c.self.inside.made = ap length (sym c.self.view_is) ∙ length-contexts_in c.self.inside.made c.self.inside.kept c.self.inside.places.items in
    let few = c.requires.countable in
    omega (arith, few)

-- the parent's place is found
parent_found : (c : Joined-parent) → (option_map (λ (place : ContextKey). place.number) c.match-parent.above ≡ c.args.parent) × ((p : ContextKey) → c.match-parent.above ≡ Some p → place_at c.self.inside.places.items p.number ≡ Some p)
parent_found c = elim c.match-parent.branch [
  | in-Some w ↦
      let lives : is_live (contexts_in c.self.inside.made c.self.inside.kept c.self.inside.places.items) w.in-Some.number ≡ true = ap (λ contexts. is_live contexts w.in-Some.number) c.self.view_is ∙ c.requires.live w.in-Some.number w.in-Some.is in
      let at : c.match-parent.above ≡ place_at c.self.inside.places.items w.in-Some.number = w.above-is ∙ w.place_of-above.ensures in
      let found = parent_is_placed c.self.inside.made c.self.inside.kept c.self.inside.places.items c.self.invariant.tree w.in-Some.number c.match-parent.above lives at in
      (found.0 ∙ sym w.in-Some.is, found.1)
  | in-None w ↦ (ap (option_map (λ (place : ContextKey). place.number)) w.above-is ∙ sym w.in-None.is, λ p e. let none : c.match-parent.above ≡ None = w.above-is in cc)
]

pub invariant_of-self : goal.invariant_of-self
invariant_of-self c =
    let placed = (parent_found (goal.at.invariant_of-self c).Joined-parent).1 in
    record {
      tree =
          rw c.push_back_reserved.ensures.items
          (made_tree c.self.inside.made c.self.inside.kept c.self.inside.places.items c.self.invariant.tree c.insert_reserved-key.result c.match-parent.above c.args.protected c.jump_of-jump.result c.insert_reserved-key.new.self
          c.insert_reserved-key.ensures.was_vacant c.insert_reserved-key.ensures.updates placed c.insert_reserved-key.ensures.len c.insert_reserved-key.ensures.capacity);
      jumps =
          rw c.push_back_reserved.ensures.items
          (jumps_made c.self.inside.made c.self.inside.kept c.self.inside.places.items c.self.invariant.tree c.self.invariant.jumps c.insert_reserved-key.result c.match-parent.above c.args.protected c.jump_of-jump.result c.insert_reserved-key.new.self
          c.insert_reserved-key.ensures.was_vacant c.insert_reserved-key.ensures.updates placed c.insert_reserved-key.ensures.len c.insert_reserved-key.ensures.capacity
          (if_some (JumpsUnder c.self.inside.kept c.match-parent.above c.args.protected) c.jump_of-jump.result c.jump_of-jump.ensures));
      counted =
          rw c.push_back_reserved.ensures.items
          (made_count c.self.inside.made c.self.inside.kept c.self.inside.places.items c.self.invariant.tree c.insert_reserved-key.result c.match-parent.above c.args.protected c.jump_of-jump.result c.insert_reserved-key.new.self
          c.insert_reserved-key.ensures.was_vacant c.insert_reserved-key.ensures.updates placed
          ∙ c.self.invariant.counted);
      room = rw c.push_back_reserved.ensures.capacity c.self.invariant.room;
    }

has_room : (c : Else-len-ge-MOST_CONTEXTS) → is_full c.args.self.now ≡ false
has_room c =
    let few : c.len.result < 4096 = c.if-len-ge-MOST_CONTEXTS.false in
    let many : live_count c.args.self.now ≡ length c.self.inside.places.items = ap live_count (sym c.self.view_is) ∙ c.self.invariant.tree.live in
    not_full c.args.self.now c.len.result (many ∙ sym c.self.inside.places.ok.0 ∙ sym c.len.ensures) few

pub returns-clause-number : goal.returns-clause-number
returns-clause-number c =
    ap Some (sym (ap length (sym c.self.view_is) ∙ length-contexts_in c.self.inside.made c.self.inside.kept c.self.inside.places.items))
    ∙ sym (make_number (new_context c.args.parent c.args.protected) c.args.self.now (has_room (goal.at.returns-clause-number c).Else-len-ge-MOST_CONTEXTS))

pub returns-clause-after : goal.returns-clause-after
returns-clause-after c =
    ap (contexts_in (c.self.inside.made + 1) c.insert_reserved-key.new.self) c.push_back_reserved.ensures.items
    ∙ made_list c.self.inside.made c.self.inside.kept c.self.inside.places.items c.self.invariant.tree c.insert_reserved-key.result c.match-parent.above c.args.protected c.jump_of-jump.result c.insert_reserved-key.new.self
    c.insert_reserved-key.ensures.was_vacant c.insert_reserved-key.ensures.updates (parent_found (goal.at.returns-clause-after c).Joined-parent).1
    ∙ ap (λ parent. contexts_in c.self.inside.made c.self.inside.kept c.self.inside.places.items ++ new_context parent c.args.protected ∷ []) (parent_found (goal.at.returns-clause-after c).Joined-parent).0
    ∙ ap (λ contexts. contexts ++ new_context c.args.parent c.args.protected ∷ []) c.self.view_is
    ∙ sym (make_contexts (new_context c.args.parent c.args.protected) c.args.self.now (has_room (goal.at.returns-clause-after c).Else-len-ge-MOST_CONTEXTS))
