-- What comes to a fiber that is about to move, and doesn't make its call again.
use Rattle.std.proofs.Common.{◌≡◌, ℕ, ◌+◌, true, List, [], ◌∷◌, ◌++◌, Some, None, ap, ap₂, ◌∙◌, sym, subst, append-nil}
use Rattle.std.specs.Option.{unwrap_or}
use Rattle.eio_value.specs.declared.plain.Member.{Member}
use Rattle.eio_value.specs.declared.plain.Plain.{Plain}
use Rattle.eio_value.specs.declared.plain.Plain.TheVariants.{Exit}
use Rattle.eio_value.specs.declared.raised.Outcome.{Outcome}
use Rattle.eio_value.specs.declared.raised.Outcome.TheVariants as outcome
use Rattle.eio_value.specs.declared.raised.Raised.TheVariants.{Cancelled}
use Rattle.eio_value.specs.declared.value.Value.TheVariants as value
use Rattle.spec_parts.specs.Contexts.{is_live, off}
use Rattle.script_forms.specs.declared.node.Node.{Node}
use Rattle.spec_script.specs.Scripts.{Script}
use Rattle.spec_fiber.specs.Replies.{passed}
use Rattle.spec_fiber.specs.Settling.{thrown}
use Rattle.spec_fiber.specs.Work.{Carry}
use Rattle.law_domain.specs.Texts.Domains.{IsTextedStanding, IsKnownReason}
use Rattle.law_fiber.specs.Texts.Texts.{known_in}
use Rattle.law_fiber.proofs.Texts.Lists.{or_default}
use Rattle.law_fiber.proofs.Texts.Passing.{exit_known}
use Rattle.law_domain.proofs.Texts.Steps.{off_texted}
use Rattle.domain_strikes.specs.Waiting.WhoWaits.{contexts_of}
use Rattle.domain_strikes.proofs.Waiting.Alike.{contexts_in_step}
use Rattle.spec_machine.specs.Domain.{Next, GoesOn, LooksUp, FindsOff, Ready, Fiber, DomainState, fiber_at, off_for}
use Rattle.spec_machine.specs.Preparing.{found_off, next_call, next_of}
use Rattle.domain_core.specs.Answering.{Raises}
use Rattle.domain_core.specs.Keeping.{KeptFiber, KeptDomain, kept_at}
use Rattle.domain_core.specs.Mirrors.{Mirrors}
use Rattle.domain_core.specs.Moving.{GoesOnWith}
use Rattle.domain_core.proofs.Mirroring.{is_fiber}

-- where nothing is raised
carry_same : (c : Carry) (serial : ℕ) → c.serial ≡ serial → c ≡ record c { serial = serial; raises = c.raises ++ [] }
carry_same c serial e = ap₂ (λ n rs. record c { serial = n; raises = rs }) e (sym (append-nil c.raises))

module _ (kept : KeptDomain) (g : ℕ) (f : KeptFiber) (there : kept_at kept.fibers g ≡ Some f) where
  next_is : (nodes : List Node) (texts : List (List ℕ)) (l : DomainState) → Mirrors nodes texts kept l → (next : Next) → f.standing ≡ Ready next
      → next_of (fiber_at l.fibers g).standing ≡ next
  next_is nodes texts l mirrors next is = ap next_of ((is_fiber nodes texts kept l g f there mirrors).standing ∙ is)

  -- its context is off as the kept one is
  pub off_is : (nodes : List Node) (texts : List (List ℕ)) (l : DomainState) → Mirrors nodes texts kept l → is_live kept.contexts.made f.context ≡ true
      → off_for l g ≡ off kept.contexts.made f.context
  off_is nodes texts l mirrors live = (
      let alike = contexts_in_step.alike kept.contexts (contexts_of l) mirrors.contexts in
      ap (off l.contexts) (is_fiber nodes texts kept l g f there mirrors).context ∙ sym (alike.off f.context (sym (alike.live f.context) ∙ live)))

  -- it goes on with this
  pub goes_on : (came : Outcome) → f.standing ≡ Ready (GoesOn came) → GoesOnWith g came kept kept
  goes_on came is = record {
    made = [];
    settles = λ nodes texts l mirrors fiber c same.
        ap (λ n. next_call n (off_for l g) fiber c) (next_is nodes texts l mirrors (GoesOn came) is)
        ∙ ap (λ d. passed came fiber.work d) (carry_same c kept.serial (same ∙ mirrors.serial));
    known = λ nodes texts l mirrors script texted.
        subst (IsTextedStanding script) ((is_fiber nodes texts kept l g f there mirrors).standing ∙ is) (texted.each_fiber g).stands;
  }

  module _ (live : is_live kept.contexts.made f.context ≡ true) where
    -- it looked up, and its context isn't off
    pub goes_past : f.standing ≡ Ready LooksUp → off kept.contexts.made f.context ≡ None → GoesOnWith g (outcome.Ok value.Unit) kept kept
    goes_past is none = record {
      made = [];
      settles = λ nodes texts l mirrors fiber c same.
          ap₂ (λ n o. next_call n o fiber c) (next_is nodes texts l mirrors LooksUp is) (off_is nodes texts l mirrors live ∙ none)
          ∙ ap (λ d. passed (outcome.Ok value.Unit) fiber.work d) (carry_same c kept.serial (same ∙ mirrors.serial));
      known = λ nodes texts l mirrors script texted. tt;
    }

    -- it finds its context off for this reason
    module _ (next : Next) (why : Plain) (is : f.standing ≡ Ready next)
        (finds : (fiber : Fiber) (c : Carry) → next_call next (off kept.contexts.made f.context) fiber c ≡ found_off why fiber c)
        (reason : (script : Script) → IsKnownReason script (off kept.contexts.made f.context) → (known_in script).exception why)
        (made : Member) (new : KeptDomain) (raises : Raises why made kept new) (more : new.serial ≡ kept.serial + 1) where
      found : GoesOnWith g (outcome.Err (Cancelled made)) kept new
      found = record {
        made = made ∷ [];
        settles = λ nodes texts l mirrors fiber c same. (
            let made_is : record { serial = c.serial; what = why } ≡ made = ap (λ n. record { serial = n; what = why }) same ∙ sym (raises.is nodes texts l mirrors) in
            let serial_is : c.serial + 1 ≡ new.serial = ap (λ n. n + 1) (same ∙ mirrors.serial) ∙ sym more in
            ap₂ (λ n o. next_call n o fiber c) (next_is nodes texts l mirrors next is) (off_is nodes texts l mirrors live)
            ∙ (finds fiber c
            ∙ ap₂ (λ (m : Member) (n : ℕ). thrown fiber.work (Cancelled m) (record c { serial = n; raises = c.raises ++ m ∷ [] })) made_is serial_is));
        known = λ nodes texts l mirrors script texted.
            subst (λ (m : Member). (known_in script).exception m.what) (sym (raises.is nodes texts l mirrors))
            (reason script (subst (IsKnownReason script) (off_is nodes texts l mirrors live) (off_texted script l texted g)));
      }

    pub looks_off : (why : Plain) → f.standing ≡ Ready LooksUp → off kept.contexts.made f.context ≡ Some why
        → (made : Member) (new : KeptDomain) → Raises why made kept new → new.serial ≡ kept.serial + 1 → GoesOnWith g (outcome.Err (Cancelled made)) kept new
    looks_off why is some =
        found LooksUp why is (λ fiber c. ap (λ o. next_call LooksUp o fiber c) some) (λ script known. subst (IsKnownReason script) some known)

    pub finds_off : (why : Plain) → f.standing ≡ Ready FindsOff → why ≡ unwrap_or (off kept.contexts.made f.context) Exit
        → (made : Member) (new : KeptDomain) → Raises why made kept new → new.serial ≡ kept.serial + 1 → GoesOnWith g (outcome.Err (Cancelled made)) kept new
    finds_off why is some =
        found FindsOff why is (λ fiber c. ap (λ (it : Plain). found_off it fiber c) (sym some))
        (λ script known. subst (known_in script).exception (sym some)
        (or_default (known_in script).exception (off kept.contexts.made f.context) Exit known (exit_known script)))
