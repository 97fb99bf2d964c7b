-- Changes of the parts of a domain in which texts stand.
use Rattle.std.proofs.Common.{◌≡◌, ℕ, Bool, true, false, List, [], ◌∷◌, ◌++◌, length, slice_set, Option, Some, None}
use Rattle.eio_value.specs.declared.plain.Plain.{Plain}
use Rattle.spec_parts.specs.Contexts as contexts
use Rattle.spec_parts.specs.Contexts.{Context, Made, context_at, takes_effect, cancel, make, is_full, first_reason, way_up, off}
use Rattle.spec_parts.specs.Groups.{Group, never_gathered, with_group}
use Rattle.spec_parts.specs.Switches.{Switch, never_opened, with_switch}
use Rattle.spec_script.specs.Opening.{opening_texts}
use Rattle.spec_script.specs.Scripts.{Script}
use Rattle.spec_machine.specs.Domain.{Fiber, never_made}
use Rattle.law_fiber.specs.Texts.Texts.{known_in}
use Rattle.law_domain.specs.Texts.Domains.{IsTextedFiber, IsTextedSwitch, IsTextedGroup, IsKnownReason, AreTexted}
use Rattle.law_fiber.proofs.Texts.Lists.{at_set, at_push}

-- a new context, by whether as many live as may
abbrev made_by : Context → List Context → (full : Bool) → Made
made_by context contexts full = elim full [
  | true ↦ record { number = None; contexts = contexts }
  | false ↦ record { number = Some (length contexts); contexts = contexts ++ context ∷ [] }
]

-- what stands under a number that nothing has
pub never_texted : (script : Script) → IsTextedFiber script never_made
never_texted script = record { place = record { behind = tt; values = tt }; stands = tt }

module _ (script : Script) {texts : List (List ℕ)} {fibers : List Fiber} {switches : List Switch} {groups : List Group} {made : List Context} where
  module _ (are : AreTexted script texts fibers switches groups made) where
    pub with_fiber_texted : (g : ℕ) (fiber : Fiber) → IsTextedFiber script fiber → AreTexted script texts (slice_set fibers g fiber) switches groups made
    with_fiber_texted g fiber is = record {
      table = are.table;
      each_fiber = at_set (IsTextedFiber script) fibers g fiber never_made are.each_fiber is;
      each_switch = are.each_switch;
      each_group = are.each_group;
      each_context = are.each_context;
    }

    pub and_fiber_texted : (fiber : Fiber) → IsTextedFiber script fiber → AreTexted script texts (fibers ++ fiber ∷ []) switches groups made
    and_fiber_texted fiber is = record {
      table = are.table;
      each_fiber = at_push (IsTextedFiber script) fibers fiber never_made (never_texted script) are.each_fiber is;
      each_switch = are.each_switch;
      each_group = are.each_group;
      each_context = are.each_context;
    }

    pub with_switch_texted : (n : ℕ) (switch : Switch) → IsTextedSwitch script switch
        → AreTexted script texts fibers (with_switch n switch switches) groups made
    with_switch_texted n switch is = record {
      table = are.table;
      each_fiber = are.each_fiber;
      each_switch = at_set (IsTextedSwitch script) switches n switch never_opened are.each_switch is;
      each_group = are.each_group;
      each_context = are.each_context;
    }

    pub and_switch_texted : (switch : Switch) → IsTextedSwitch script switch → AreTexted script texts fibers (switches ++ switch ∷ []) groups made
    and_switch_texted switch is = record {
      table = are.table;
      each_fiber = are.each_fiber;
      each_switch = at_push (IsTextedSwitch script) switches switch never_opened (tt, tt, tt) are.each_switch is;
      each_group = are.each_group;
      each_context = are.each_context;
    }

    pub with_group_texted : (n : ℕ) (group : Group) → IsTextedGroup script group → AreTexted script texts fibers switches (with_group n group groups) made
    with_group_texted n group is = record {
      table = are.table;
      each_fiber = are.each_fiber;
      each_switch = are.each_switch;
      each_group = at_set (IsTextedGroup script) groups n group never_gathered are.each_group is;
      each_context = are.each_context;
    }

    pub and_group_texted : (group : Group) → IsTextedGroup script group → AreTexted script texts fibers switches (groups ++ group ∷ []) made
    and_group_texted group is = record {
      table = are.table;
      each_fiber = are.each_fiber;
      each_switch = are.each_switch;
      each_group = at_push (IsTextedGroup script) groups group never_gathered (tt, tt) are.each_group is;
      each_context = are.each_context;
    }

    pub with_texts : (others : List (List ℕ)) → others ≡ opening_texts script → AreTexted script others fibers switches groups made
    with_texts others table = record {
      table = table;
      each_fiber = are.each_fiber;
      each_switch = are.each_switch;
      each_group = are.each_group;
      each_context = are.each_context;
    }

    with_contexts : (others : List Context) → ((c : ℕ) → IsKnownReason script (context_at others c).reason)
        → AreTexted script texts fibers switches groups others
    with_contexts others known = record {
      table = are.table;
      each_fiber = are.each_fiber;
      each_switch = are.each_switch;
      each_group = are.each_group;
      each_context = known;
    }

    with_context : (c : ℕ) (context : Context) → IsKnownReason script context.reason → AreTexted script texts fibers switches groups (slice_set made c context)
    with_context c context is =
        with_contexts (slice_set made c context)
        (at_set (λ (it : Context). IsKnownReason script it.reason) made c context contexts.never_made are.each_context is)

    pub ended_texted : (c : ℕ) → AreTexted script texts fibers switches groups (contexts.end c made)
    ended_texted c = with_context c (record (context_at made c) { ended = true }) (are.each_context c)

    pub cancel_texted : (c : ℕ) (why : Plain) → (known_in script).exception why → AreTexted script texts fibers switches groups (cancel c why made)
    cancel_texted c why is = by (takes_effect made c)
      where
        by : (takes : Bool) → AreTexted script texts fibers switches groups (elim takes [
          | true ↦ slice_set made c (record (context_at made c) { reason = Some why })
          | false ↦ made
        ])
        by true = with_context c (record (context_at made c) { reason = Some why }) is
        by false = are

    -- a new context has no reason yet
    pub make_texted : (context : Context) → IsKnownReason script context.reason → AreTexted script texts fibers switches groups (make context made).contexts
    make_texted context is = by (is_full made)
      where
        by : (full : Bool) → AreTexted script texts fibers switches groups (made_by context made full).contexts
        by true = are
        by false =
            with_contexts (made ++ context ∷ [])
            (at_push (λ (it : Context). IsKnownReason script it.reason) made context contexts.never_made tt are.each_context is)

    -- the reason by which a context is off
    reason_known : (way : List ℕ) → IsKnownReason script (first_reason made way)
    reason_known [] = tt
    reason_known (c ∷ way) = by (context_at made c).reason (are.each_context c) (reason_known way)
      where
        by : (found : Option Plain) → IsKnownReason script found → IsKnownReason script (first_reason made way)
            → IsKnownReason script (elim found [ Some why ↦ Some why | None ↦ first_reason made way ])
        by (Some why) is rest = is
        by None is rest = rest

    pub off_known : (c : ℕ) → IsKnownReason script (off made c)
    off_known c = reason_known (way_up made c)
