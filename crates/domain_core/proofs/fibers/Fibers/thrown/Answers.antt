use Rattle.std.proofs.Common.{◌∙◌, ap, sym, subst}
use Rattle.std.specs.Prelude.{slice_get, IsSome}
use Rattle.std.specs.Option.{option_and_then}
use Rattle.domain_core.specs.Keeping.{KeptFiber, kept_at}
use Rattle.domain_core.specs.Keyed.{HasKey, raised_of}
use Rattle.domain_core.proofs.Seen.{kept_has_key, none_under, none_thrown, some_thrown}
use Rattle.domain_core.proofs.fibers.Fibers.thrown.Goals as goal

pub key_of-requires : goal.key_of-requires
key_of-requires c =
    subst (λ keys. HasKey keys c.args.number) (sym c.deref.ensures.value)
    (kept_has_key c.self.inside.keys.items c.self.inside.kept c.self.inside.thrown c.args.number (subst (λ fibers. IsSome (kept_at fibers c.args.number)) (sym c.self.view_is) c.requires))

pub returns-in-Throws : goal.returns-in-Throws
returns-in-Throws c =
    c.get.ensures
    ∙ (sym (some_thrown c.self.inside.keys.items c.self.inside.kept c.self.inside.thrown c.self.invariant.0 c.self.invariant.1 c.args.number c.key_of.result (ap (λ keys. slice_get keys c.args.number) (sym c.deref.ensures.value) ∙ c.key_of.ensures) c.index.result.now c.index.ensures c.in-Throws.key c.in-Throws.is)
    ∙ ap (λ fibers. option_and_then (λ (f : KeptFiber). raised_of f.standing) (kept_at fibers c.args.number)) c.self.view_is)

pub returns-in_default : goal.returns-in_default
returns-in_default c =
    sym (none_thrown c.self.inside.keys.items c.self.inside.kept c.self.inside.thrown c.self.invariant.0 c.self.invariant.1 c.args.number c.key_of.result (ap (λ keys. slice_get keys c.args.number) (sym c.deref.ensures.value) ∙ c.key_of.ensures) c.index.result.now c.index.ensures (none_under c.index.result.now.standing c.in_default.not-Throws))
    ∙ ap (λ fibers. option_and_then (λ (f : KeptFiber). raised_of f.standing) (kept_at fibers c.args.number)) c.self.view_is
