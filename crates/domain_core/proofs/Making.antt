-- One fiber more on both sides.
use Rattle.std.proofs.Common.{◌≡◌, ◌⊎◌, inl, inr, ℕ, zero, suc, ◌+◌, ◌<◌, Bool, List, [], ◌∷◌, ◌++◌, length, Option, Some, None, refl, ap, ◌∙◌, sym, subst, arith}
use Rattle.script_forms.specs.declared.node.Node.{Node}
use Rattle.spec_machine.specs.Domain as model
use Rattle.spec_machine.specs.Domain.{DomainState, never_made, fiber_at, made}
use Rattle.eio_value.specs.declared.raised.Outcome.TheVariants as outcome
use Rattle.eio_value.specs.declared.value.Value.TheVariants as value
use Rattle.spec_parts.specs.Switches.{Switch, switch_at, with_switch, attach}
use Rattle.script_code.specs.Standing.{block_at}
use Rattle.spec_fiber.specs.Replies.{Position, begun}
use Rattle.fiber_step.specs.Framing.{KeptFrames, position_of}
use Rattle.fiber_step.specs.Placing.{ArePlaced}
use Rattle.domain_strikes.proofs.Waiting.Alike.{domains_in_step}
use Rattle.domain_core.specs.Answering.{forks}
use Rattle.domain_core.specs.Conditions.{IsAwake}
use Rattle.domain_core.specs.Keeping.{KeptFiber, KeptDomain, kept_at, new_fiber}
use Rattle.domain_core.specs.Mirrors.{IsFiber, IsKept, Mirrors}
use Rattle.domain_core.proofs.ByNumber as numbers
use Rattle.domain_core.proofs.Mirroring.{below_made, came_of, is_fiber, switches_mirrors}

-- where a number stands
below_or_past : (n m : ℕ) → (n < m) ⊎ ((n ≡ m) ⊎ (m < n))
below_or_past zero zero = inr (inl refl)
below_or_past zero (suc m) = inl (omega arith)
below_or_past (suc n) zero = inr (inr (omega arith))
below_or_past (suc n) (suc m) = elim (below_or_past n m) as (λ _. (suc n < suc m) ⊎ ((suc n ≡ suc m) ⊎ (suc m < suc n))) [
  | inl below ↦ inl (omega (arith, below))
  | inr rest ↦ elim rest as (λ _. (suc n < suc m) ⊎ ((suc n ≡ suc m) ⊎ (suc m < suc n))) [ inl e ↦ inr (inl (ap suc e)) | inr past ↦ inr (inr (omega (arith, past))) ]
]

pub more_length : {X : Type 0} (xs : List X) (x : X) → length (xs ++ x ∷ []) ≡ length xs + 1
more_length [] x = refl
more_length (y ∷ xs) x = let h : length (xs ++ x ∷ []) ≡ length xs + 1 = more_length xs x in omega (arith, h)

-- ## Who is awake

-- who was awake is so still
pub older_awake : (old new : KeptDomain) (f : KeptFiber) (g : ℕ) → new.fibers ≡ old.fibers ++ Some f ∷ [] → IsAwake old g → IsAwake new g
older_awake old new f g is awake = record {
  fiber = awake.fiber;
  there = ap (λ (xs : List (Option KeptFiber)). kept_at xs g) is
      ∙ (numbers.older_unchanged None old.fibers g (Some f) (below_made old.fibers g awake.fiber awake.there) ∙ awake.there);
  awake = awake.awake;
}

-- and so is the new one
pub new_awake : (older : List (Option KeptFiber)) (new : KeptDomain) (n g context : ℕ) (role : model.Role) (frames : KeptFrames)
    → new.fibers ≡ older ++ Some (new_fiber n context role frames) ∷ [] → g ≡ length older → IsAwake new g
new_awake older new n g context role frames is number = record {
  fiber = new_fiber n context role frames;
  there = ap (λ (xs : List (Option KeptFiber)). kept_at xs g) is
      ∙ (ap (kept_at (older ++ Some (new_fiber n context role frames) ∷ [])) number
      ∙ numbers.made_last None older (Some (new_fiber n context role frames)));
  awake = refl;
}

-- ## The domain

-- the fiber that is made so
abbrev made_fiber : (context : ℕ) → model.Role → Position → DomainState → model.Fiber
made_fiber context role position l = record {
  context = context;
  role = role;
  cell = model.next_cell l.cells;
  work = position.work;
  variables = position.variables;
  standing = model.Ready (model.GoesOn (outcome.Ok value.Unit));
}

module _ (nodes : List Node) (texts : List (List ℕ)) (kept : KeptDomain) (l : DomainState) (mirrors : Mirrors nodes texts kept l) where
  module _ (some : 0 < length kept.fibers) (context : ℕ) (role : model.Role) (position : Position) (f : KeptFiber)
      (is : IsFiber nodes (length kept.fibers) f (made_fiber context role position l)) where
    abbrev fiber : model.Fiber
    fiber = made_fiber context role position l

    both : (h : ℕ) (k j : Option KeptFiber) (x y : model.Fiber) → k ≡ j → x ≡ y → IsKept nodes h j y → IsKept nodes h k x
    both h k j x y e e2 it = subst (λ (o : Option KeptFiber). IsKept nodes h o x) (sym e) (subst (λ (z : model.Fiber). IsKept nodes h j z) (sym e2) it)

    each : (h : ℕ) → IsKept nodes h (kept_at (kept.fibers ++ Some f ∷ []) h) (fiber_at (l.fibers ++ fiber ∷ []) h)
    each h = elim (below_or_past h (length kept.fibers)) as (λ _. IsKept nodes h (kept_at (kept.fibers ++ Some f ∷ []) h) (fiber_at (l.fibers ++ fiber ∷ []) h)) [
      | inl below ↦ both h _ _ _ _ (numbers.older_unchanged None kept.fibers h (Some f) below) (numbers.older_unchanged never_made l.fibers h fiber (omega (arith, below, mirrors.count))) (mirrors.fibers h)
      | inr rest ↦ elim rest as (λ _. IsKept nodes h (kept_at (kept.fibers ++ Some f ∷ []) h) (fiber_at (l.fibers ++ fiber ∷ []) h)) [
        | inl e ↦ both h _ (Some f) _ fiber (ap (kept_at (kept.fibers ++ Some f ∷ [])) e ∙ numbers.made_last None kept.fibers (Some f))
            (ap (fiber_at (l.fibers ++ fiber ∷ [])) (e ∙ sym mirrors.count) ∙ numbers.made_last never_made l.fibers fiber)
            (subst (λ (m : ℕ). IsFiber nodes m f fiber) (sym e) is)
        | inr past ↦ both h _ None _ never_made
            (numbers.past_all None (kept.fibers ++ Some f ∷ []) h (let many : length (kept.fibers ++ Some f ∷ []) ≡ length kept.fibers + 1 = more_length kept.fibers (Some f) in omega (arith, past, many)))
            (numbers.past_all never_made (l.fibers ++ fiber ∷ []) h (let many : length (l.fibers ++ fiber ∷ []) ≡ length l.fibers + 1 = more_length l.fibers fiber in omega (arith, past, many, mirrors.count)))
            refl
      ]
    ]

    pub one_more_mirrors : Mirrors nodes texts (record kept { fibers = kept.fibers ++ Some f ∷ [] }) (made context role position l)
    one_more_mirrors = record {
      number = mirrors.number;
      count = more_length l.fibers fiber ∙ (ap (λ n. n + 1) mirrors.count ∙ sym (more_length kept.fibers (Some f)));
      fibers = each;
      came = ap (λ (x : model.Fiber). came_of x.standing) (numbers.older_unchanged never_made l.fibers 0 fiber (omega (arith, some, mirrors.count))) ∙ mirrors.came;
      ready = mirrors.ready;
      duties = mirrors.duties;
      contexts = domains_in_step.made_one kept.contexts l context role position mirrors.contexts;
      switches = mirrors.switches;
      groups = mirrors.groups;
      texts = mirrors.texts;
      serial = mirrors.serial;
      stamp = mirrors.stamp;
      lines = mirrors.lines;
      halted = mirrors.halted;
    }

  -- with these frames before a block, with the variables of a fiber that is kept
  module _ (maker : ℕ) (by : KeptFiber) (there : kept_at kept.fibers maker ≡ Some by) (body : ℕ) (frames : KeptFrames)
      (position : position_of nodes frames ≡ begun (block_at nodes body) by.frames.variables) (are_placed : ArePlaced nodes frames.items)
      (role : model.Role) (context its_context : ℕ) (is_context : its_context ≡ context) where
    abbrev its_position : Position
    its_position = begun (block_at nodes body) (fiber_at l.fibers maker).variables

    same_position : its_position ≡ position_of nodes frames
    same_position = ap (begun (block_at nodes body)) (is_fiber nodes texts kept l maker by there mirrors).variables ∙ sym position

    stands_for : IsFiber nodes (length kept.fibers) (new_fiber (length kept.fibers) context role frames) (made_fiber its_context role its_position l)
    stands_for = record {
      number = refl;
      context = is_context;
      role = refl;
      standing = refl;
      lives = refl;
      work = ap (λ (p : Position). p.work) same_position;
      variables = ap (λ (p : Position). p.variables) same_position;
      placed = are_placed;
    }

    some : 0 < length kept.fibers
    some = let below : maker < length kept.fibers = below_made kept.fibers maker by there in omega (arith, below)

    pub made_mirrors : (fibers : List (Option KeptFiber)) → fibers ≡ kept.fibers ++ Some (new_fiber (length kept.fibers) context role frames) ∷ []
        → Mirrors nodes texts (record kept { fibers = fibers }) (made its_context role (begun (block_at nodes body) (fiber_at l.fibers maker).variables) l)
    made_mirrors fibers is =
        subst (λ (xs : List (Option KeptFiber)). Mirrors nodes texts (record kept { fibers = xs }) (made its_context role its_position l)) (sym is)
        (one_more_mirrors some its_context role its_position (new_fiber (length kept.fibers) context role frames) stands_for)

-- a new fiber of a switch
module _ (nodes : List Node) (texts : List (List ℕ)) (kept : KeptDomain) (l : DomainState) (mirrors : Mirrors nodes texts kept l)
    (maker n body new context : ℕ) (daemon : Bool) (by : KeptFiber) (there : kept_at kept.fibers maker ≡ Some by) (frames : KeptFrames)
    (number : new ≡ length kept.fibers)
    (is_context : context ≡ (switch_at kept.switches n).context)
    (position : position_of nodes frames ≡ begun (block_at nodes body) by.frames.variables)
    (are_placed : ArePlaced nodes frames.items) where
  its_context : (switch_at l.switches n).context ≡ context
  its_context = ap (λ (xs : List Switch). (switch_at xs n).context) mirrors.switches ∙ sym is_context

  abbrev attached_in : (fiber : ℕ) → List Switch → List Switch
  attached_in fiber switches = with_switch n (attach fiber daemon (switch_at switches n)).switch switches

  pub forks_mirrors : (fibers : List (Option KeptFiber)) (switches : List Switch)
      → fibers ≡ kept.fibers ++ Some (new_fiber (length kept.fibers) context (model.OfSwitch n daemon) frames) ∷ []
      → switches ≡ with_switch n (attach new daemon (switch_at kept.switches n)).switch kept.switches
      → Mirrors nodes texts (record kept { fibers = fibers; switches = switches }) (forks maker n daemon body nodes l)
  forks_mirrors fibers switches are_fibers are_switches = (
      let same : attached_in (length l.fibers) l.switches ≡ switches =
      ap (λ (xs : List Switch). attached_in (length l.fibers) xs) mirrors.switches
      ∙ (ap (λ (m : ℕ). attached_in m kept.switches) (mirrors.count ∙ sym number) ∙ sym are_switches) in
      let more = made_mirrors nodes texts kept l mirrors maker by there body frames position are_placed
      (model.OfSwitch n daemon) context (switch_at l.switches n).context its_context fibers are_fibers in
      subst (λ (xs : List Switch). Mirrors nodes texts (record kept { fibers = fibers; switches = xs }) (forks maker n daemon body nodes l)) same
      (switches_mirrors nodes texts _ _ more (attached_in (length l.fibers) l.switches)))
