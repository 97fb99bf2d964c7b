use Rattle.std.proofs.Common.{◌∙◌, ap, sym, subst}
use Rattle.std.specs.Prelude.{slice_get, IsSome}
use Rattle.std.specs.Option.{option_map}
use Rattle.domain_core.specs.Keeping.{kept_at}
use Rattle.domain_core.specs.Keyed.{HasKey, fiber_of, raised_in}
use Rattle.domain_core.proofs.Seen.{kept_has_key, seen_by_key}
use Rattle.domain_core.proofs.fibers.Fibers.at.Goals as goal

pub key_of-requires : goal.key_of-requires
key_of-requires c =
    subst (λ keys. HasKey keys c.args.number) (sym c.deref.ensures.value)
    (kept_has_key c.self.inside.keys.items c.self.inside.kept c.self.inside.thrown c.args.number (subst (λ fibers. IsSome (kept_at fibers c.args.number)) (sym c.self.view_is) c.requires))

pub returns : goal.returns
returns c = (
  raised_in c.self.inside.thrown,
  ap (λ fibers. kept_at fibers c.args.number) (sym c.self.view_is)
      ∙ (seen_by_key c.self.inside.keys.items c.self.inside.kept c.self.inside.thrown c.args.number c.key_of.result (ap (λ keys. slice_get keys c.args.number) (sym c.deref.ensures.value) ∙ c.key_of.ensures)
      ∙ ap (option_map (fiber_of (raised_in c.self.inside.thrown))) c.index.ensures),
)
