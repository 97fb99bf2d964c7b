use Rattle.std.proofs.Common.{◌∙◌, ap, sym, Some, None}
use Rattle.std.specs.Option.{option_map}
use Rattle.domain_core.specs.declared.fiber.Fiber.{Fiber}
use Rattle.domain_core.specs.Keeping.{KeptFiber, kept_at}
use Rattle.domain_core.specs.Keyed.{raised_in, standing_of}
use Rattle.domain_core.proofs.Seen.{standing_seen, there_under}
use Rattle.domain_core.proofs.fibers.Fibers.standing.Goals as goal

pub index-requires : goal.index-requires
index-requires c =
    there_under c.self.inside.keys.items c.self.inside.kept c.self.inside.thrown c.self.invariant.0 c.args.number c.in-Some.key (sym c.in-Some.is ∙ (c.found.ensures ∙ ap (λ keys. kept_at keys c.args.number) c.deref.ensures.value))

pub returns-in-Some : goal.returns-in-Some
returns-in-Some c = (
  raised_in c.self.inside.thrown,
  ap (option_map (λ (f : Fiber). standing_of (raised_in c.self.inside.thrown) f.standing)) (sym c.index.ensures)
      ∙ (standing_seen c.self.inside.keys.items c.self.inside.kept c.self.inside.thrown c.args.number (Some c.in-Some.key) (sym c.in-Some.is ∙ (c.found.ensures ∙ ap (λ keys. kept_at keys c.args.number) c.deref.ensures.value))
      ∙ ap (λ fibers. option_map (λ (f : KeptFiber). f.standing) (kept_at fibers c.args.number)) c.self.view_is),
)

pub returns-in-None : goal.returns-in-None
returns-in-None c = (
  raised_in c.self.inside.thrown,
  standing_seen c.self.inside.keys.items c.self.inside.kept c.self.inside.thrown c.args.number None (sym c.in-None.is ∙ (c.found.ensures ∙ ap (λ keys. kept_at keys c.args.number) c.deref.ensures.value))
      ∙ ap (λ fibers. option_map (λ (f : KeptFiber). f.standing) (kept_at fibers c.args.number)) c.self.view_is,
)
