use Rattle.std.proofs.Common.{◌≡◌, ◌∙◌, ap, ap₂, sym, subst, refl, [], ◌∷◌, ◌++◌, length, ◌≤◌, ◌<◌, Some, arith}
use Rattle.std.specs.Prelude.{count_by, is_some}
use Rattle.slab.specs.Slab.{slab_len}
use Rattle.eio_value.specs.declared.value.Value.TheVariants.{Unit}
use Rattle.domain_core.specs.declared.fiber.Fiber.{Fiber}
use Rattle.domain_core.specs.declared.standing.Next.TheVariants as next
use Rattle.domain_core.specs.declared.standing.Standing.TheVariants as standing
use Rattle.domain_core.specs.Keeping.{new_fiber}
use Rattle.domain_core.specs.Keyed.{role_of, kept_in, fibers_in, AreKeyed, AreThrown}
use Rattle.domain_core.proofs.KeyLemmas.{added_keyed}
use Rattle.domain_core.proofs.Seen.{live_seen, made_seen, added_thrown, added_seen}
use Rattle.domain_core.proofs.fibers.Fibers.add.Goals as goal
use Rattle.domain_core.proofs.fibers.Fibers.add.Goals.{After-push_reserved}

pub insert_reserved-key-requires : goal.insert_reserved-key-requires
insert_reserved-key-requires c =
    let live : slab_len c.self.inside.kept ≡ count_by is_some c.args.self.now = live_seen c.self.inside.keys.items c.self.inside.kept c.self.inside.thrown c.self.invariant.0 ∙ ap (count_by is_some) c.self.view_is in
    let few : count_by is_some c.args.self.now < 1024 = c.requires.room in
    let room : 1024 ≤ c.self.inside.kept.capacity = c.self.invariant.0.room in
    omega (arith, live, few, room)

counted : (c : After-push_reserved) → c.len-number.result ≡ length c.self.inside.keys.items
counted c = c.len-number.ensures ∙ c.self.inside.keys.ok.0

pub invariant_of-self-2 : goal.invariant_of-self-2
invariant_of-self-2 c = (
    let after = (goal.at.invariant_of-self-2 c).After-push_reserved in
    let fiber : Fiber = (record { number = c.len-number.result; context = c.args.context; role = c.args.role; standing = standing.Ready (next.GoesOn Unit); frames = c.args.frames }) in
    let items : c.push_reserved.new.self.items ≡ c.self.inside.keys.items ++ Some c.insert_reserved-key.result ∷ [] = c.push_reserved.ensures.items ∙ ap (λ keys. keys ++ Some c.insert_reserved-key.result ∷ []) c.in_ok-reserve.ensures.items in
    subst (λ keys. AreKeyed keys c.insert_reserved-key.new.self × AreThrown (kept_in keys c.insert_reserved-key.new.self) c.self.inside.thrown) (sym items) (
      added_keyed c.self.inside.keys.items c.self.inside.kept c.self.invariant.0 c.insert_reserved-key.result fiber c.insert_reserved-key.new.self
          c.insert_reserved-key.ensures.was_vacant c.insert_reserved-key.ensures.updates (counted after) c.insert_reserved-key.ensures.len c.insert_reserved-key.ensures.capacity,
      added_thrown c.self.inside.keys.items c.self.inside.kept c.self.inside.thrown c.self.invariant.0 c.self.invariant.1 c.insert_reserved-key.result fiber c.insert_reserved-key.new.self
          c.insert_reserved-key.ensures.was_vacant c.insert_reserved-key.ensures.updates refl,
    ))

pub returns-clause-ok : goal.returns-clause-ok
returns-clause-ok c = (
    let after = (goal.at.returns-clause-ok c).After-push_reserved in
    let fiber : Fiber = (record { number = c.len-number.result; context = c.args.context; role = c.args.role; standing = standing.Ready (next.GoesOn Unit); frames = c.args.frames }) in
    let items : c.push_reserved.new.self.items ≡ c.self.inside.keys.items ++ Some c.insert_reserved-key.result ∷ [] = c.push_reserved.ensures.items ∙ ap (λ keys. keys ++ Some c.insert_reserved-key.result ∷ []) c.in_ok-reserve.ensures.items in
    let number : c.len-number.result ≡ length c.args.self.now = counted after ∙ (sym (made_seen c.self.inside.keys.items c.self.inside.kept c.self.inside.thrown) ∙ ap length c.self.view_is) in
    ap (λ keys. fibers_in keys c.insert_reserved-key.new.self c.self.inside.thrown) items
    ∙ (added_seen c.self.inside.keys.items c.self.inside.kept c.self.inside.thrown c.self.invariant.0 c.self.invariant.1 c.insert_reserved-key.result fiber c.insert_reserved-key.new.self
    c.insert_reserved-key.ensures.was_vacant c.insert_reserved-key.ensures.updates refl
    ∙ ap₂ (λ front n. front ++ Some (new_fiber n c.args.context (role_of c.args.role) c.args.frames) ∷ []) c.self.view_is number))
