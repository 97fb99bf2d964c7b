-- As many fibers are kept as live in a domain that is stood for.
use Rattle.std.proofs.Common.{◌≡◌, ℕ, suc, ◌+◌, Bool, not, cond, List, [], ◌∷◌, length, Option, Some, None, refl, ap, ap₂, ◌∙◌, sym, arith}
use Rattle.std.specs.Prelude.{count_by, is_some}
use Rattle.std.proofs.lemmas.List.Sums.{sum_by-cons}
use Rattle.script_forms.specs.declared.node.Node.{Node}
use Rattle.spec_machine.specs.Domain as model
use Rattle.spec_machine.specs.Domain.{DomainState, fiber_at, has_ended, live_fibers}
use Rattle.domain_core.specs.Keeping.{KeptFiber, KeptDomain, kept_at}
use Rattle.domain_core.specs.Mirrors.{IsKept, Mirrors}

lives_by : (nodes : List Node) (g : ℕ) (found : Option KeptFiber) (fiber : model.Fiber) → IsKept nodes g found fiber → not (has_ended fiber) ≡ is_some found
lives_by nodes g None fiber it = ap not it
lives_by nodes g (Some f) fiber it = ap not it.lives

abbrev one_if : Bool → ℕ
one_if b = cond b 1 0

one_more_live : (fiber : model.Fiber) (fibers : List model.Fiber) → live_fibers (fiber ∷ fibers) ≡ one_if (not (has_ended fiber)) + live_fibers fibers
one_more_live fiber fibers = sum_by-cons (λ (x : model.Fiber). one_if (not (has_ended x))) fiber fibers

one_more_kept : (found : Option KeptFiber) (kept : List (Option KeptFiber)) → count_by is_some (found ∷ kept) ≡ one_if (is_some found) + count_by is_some kept
one_more_kept found kept = sum_by-cons (λ (x : Option KeptFiber). one_if (is_some x)) found kept

as_many : (kept : List (Option KeptFiber)) (fibers : List model.Fiber) → length fibers ≡ length kept
    → ((g : ℕ) → not (has_ended (fiber_at fibers g)) ≡ is_some (kept_at kept g)) → live_fibers fibers ≡ count_by is_some kept
as_many [] [] many each = refl
as_many [] (fiber ∷ fibers) many each = absurd (omega (arith, many))
as_many (found ∷ kept) [] many each = absurd (omega (arith, many))
as_many (found ∷ kept) (fiber ∷ fibers) many each =
    one_more_live fiber fibers ∙ (ap₂ (λ b n. one_if b + n) (each 0) (as_many kept fibers (omega (arith, many)) (λ g. each (suc g))) ∙ sym (one_more_kept found kept))

pub same_live : (nodes : List Node) (texts : List (List ℕ)) (kept : KeptDomain) (l : DomainState) → Mirrors nodes texts kept l → live_fibers l.fibers ≡ count_by is_some kept.fibers
same_live nodes texts kept l mirrors = as_many kept.fibers l.fibers mirrors.count (λ g. lives_by nodes g (kept_at kept.fibers g) (fiber_at l.fibers g) (mirrors.fibers g))
