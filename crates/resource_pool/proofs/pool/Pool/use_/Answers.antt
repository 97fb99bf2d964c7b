use Rattle.std.proofs.Common.{rules, ◌≡◌, ℕ, List, None, refl, subst, FitsSigned, w64, ◌∙◌, to_z, of_z, pos}
use Rattle.std.proofs.lemmas.Int.{to_z-of_z}
use Rattle.resource_pool.specs.Using.{AreIdle}
use Rattle.resource_pool.proofs.Using.{idle-front, last_or-push, all_but_last}
use Rattle.resource_pool.proofs.pool.Pool.use_.Goals as goal

pub invariant_of-self : goal.invariant_of-self
invariant_of-self c =
    let front : List ℕ = c.pop.new.self.items in
    let rest = idle-front c.self.inside.made front c.in-Some.resource (subst (AreIdle c.self.inside.made) c.in-Some.ensures.items c.self.invariant.0) in
    (rest.0, c.self.invariant.1, rw c.pop.ensures.capacity c.self.invariant.2)

pub returns-in-Some-clause-uses : goal.returns-in-Some-clause-uses
returns-in-Some-clause-uses c = λ object serial.
    let front : List ℕ = c.pop.new.self.items in
    let fits : FitsSigned w64 c.from.result = search rules in
    let value : to_z w64 (of_z w64 c.from.result) ≡ pos c.in-Some.resource = to_z-of_z w64 c.from.result fits ∙ c.from.ensures in
    rw (← c.self.view_is) (rw (c.in-Some.ensures.items) (rw (last_or-push None front c.in-Some.resource, all_but_last front c.in-Some.resource) (rw value refl)))
