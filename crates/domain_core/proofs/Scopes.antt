-- The calls on contexts and switches, by what they find: the definitions look at the same things as what is kept, and go on by them.
use Rattle.std.proofs.Common.{◌≡◌, ℕ, Bool, true, false, List, [], ◌∷◌, ◌++◌, Option, Some, None, refl, ap, ◌∙◌, sym, subst}
use Rattle.eio_value.specs.declared.plain.Misuse.TheVariants.{ContextFinished, SwitchFinished}
use Rattle.eio_value.specs.declared.plain.Plain.TheVariants.{Failure, Invalid}
use Rattle.eio_value.specs.declared.raised.Outcome.{Outcome}
use Rattle.eio_value.specs.declared.raised.Outcome.TheVariants as outcome
use Rattle.eio_value.specs.declared.raised.Raised.{Raised}
use Rattle.eio_value.specs.declared.raised.Raised.TheVariants as raised
use Rattle.eio_value.specs.declared.value.TextId.{TextId}
use Rattle.eio_value.specs.declared.value.Value.{Value}
use Rattle.eio_value.specs.declared.value.Value.TheVariants as value
use Rattle.spec_parts.specs.Contexts.{is_live}
use Rattle.spec_parts.specs.Switches.{Switch, opened, switch_at}
use Rattle.script_code.specs.Standing.{block_at}
use Rattle.script_forms.specs.declared.node.Node.{Node}
use Rattle.spec_fiber.specs.Asks.{Ask}
use Rattle.trace_lines.specs.declared.line.Did.TheVariants as did
use Rattle.trace_lines.specs.declared.line.Said2.TheVariants as said
use Rattle.domain_strikes.proofs.Waiting.Alike.{contexts_in_step}
use Rattle.domain_strikes.specs.Waiting.WhoWaits.{contexts_of}
use Rattle.spec_machine.specs.ContextMoves.{before_block, cancel, enters_context, left_with, protected_of}
use Rattle.spec_machine.specs.Domain.{DomainState, GoesOn, fiber_at, to_head}
use Rattle.spec_machine.specs.Steps.{Step, cancels, does, in_new, new_raise, raises, raises_again, told}
use Rattle.spec_machine.specs.SwitchMoves.{fail, fails, opens, release, with_switch_at}
use Rattle.domain_core.specs.Answering.{BecomesUnder, registers}
use Rattle.domain_core.specs.Keeping.{KeptDomain}
use Rattle.domain_core.specs.Mirrors.{Mirrors}
use Rattle.domain_core.proofs.Mirroring.{switches_mirrors}

-- ## What is found

module _ (nodes : List Node) (texts : List (List ℕ)) (kept : KeptDomain) (l : DomainState) (mirrors : Mirrors nodes texts kept l) where
  pub live_alike : (c : ℕ) → is_live l.contexts c ≡ is_live kept.contexts.made c
  live_alike c = sym ((contexts_in_step.alike kept.contexts (contexts_of l) mirrors.contexts).live c)

  pub finished_there : (n : ℕ) → (switch_at l.switches n).finished ≡ (switch_at kept.switches n).finished
  finished_there n = ap (λ (xs : List Switch). (switch_at xs n).finished) mirrors.switches

-- one switch more on both sides
pub opens_there : (nodes : List Node) (kept old : KeptDomain) (context : ℕ) (switches : List Switch) → kept ≡ old → switches ≡ kept.switches ++ opened context ∷ []
    → BecomesUnder nodes (opens context) old (record kept { switches = switches })
opens_there nodes kept old context switches same are texts l mirrors = (
    let mirrored : Mirrors nodes texts kept l = subst (λ (k : KeptDomain). Mirrors nodes texts k l) (sym same) mirrors in
    subst (λ (xs : List Switch). Mirrors nodes texts (record kept { switches = xs }) (opens context l))
    (ap (λ (xs : List Switch). xs ++ opened context ∷ []) mirrored.switches ∙ sym are)
    (switches_mirrors nodes texts kept l mirrored (l.switches ++ opened context ∷ [])))

-- ## How a block of a context ends

err_passes : (c : ℕ) (late : Bool) (what : Raised) (g : ℕ) (l : DomainState) → left_with c late (outcome.Err what) g l ≡ raises_again (did.Leave c) what g l
err_passes c true what g l = refl
err_passes c false what g l = refl

pub leaves_with_err : (c : ℕ) (late : Bool) (it : Outcome) (what : Raised) (g : ℕ) (l : DomainState) → it ≡ outcome.Err what
    → left_with c late it g l ≡ raises_again (did.Leave c) what g l
leaves_with_err c late it what g l is = ap (λ (x : Outcome). left_with c late x g l) is ∙ err_passes c late what g l

pub leaves_late : (c : ℕ) (late : Bool) (it : Outcome) (given : Value) (g : ℕ) (l : DomainState) → it ≡ outcome.Ok given → late ≡ true
    → left_with c late it g l ≡ raises (did.Leave c) (Invalid SwitchFinished) g l
leaves_late c late it given g l is so = ap (λ (x : Outcome). left_with c late x g l) is ∙ ap (λ (b : Bool). left_with c b (outcome.Ok given) g l) so

pub leaves_with_ok : (c : ℕ) (late : Bool) (it : Outcome) (given : Value) (g : ℕ) (l : DomainState) → it ≡ outcome.Ok given → late ≡ false
    → left_with c late it g l ≡ told g (did.Leave c) (said.Done value.Unit) (to_head (GoesOn (outcome.Ok given)) g l)
leaves_with_ok c late it given g l is so = ap (λ (x : Outcome). left_with c late x g l) is ∙ ap (λ (b : Bool). left_with c b (outcome.Ok given) g l) so

-- ## Cancelling a context

pub cancels_live : (c : ℕ) (text : TextId) (g : ℕ) (l : DomainState) → is_live l.contexts c ≡ true → cancel c text g l ≡ does (did.Cancel c text) g (cancels g c (Failure text) l)
cancels_live c text g l is = ap (λ (live : Bool). elim live as (λ _. Step) [
  | true ↦ does (did.Cancel c text) g (cancels g c (Failure text) l)
  | false ↦ raises (did.Cancel c text) (Invalid ContextFinished) g l
]) is

pub cancels_late : (c : ℕ) (text : TextId) (g : ℕ) (l : DomainState) → is_live l.contexts c ≡ false → cancel c text g l ≡ raises (did.Cancel c text) (Invalid ContextFinished) g l
cancels_late c text g l is = ap (λ (live : Bool). elim live as (λ _. Step) [
  | true ↦ does (did.Cancel c text) g (cancels g c (Failure text) l)
  | false ↦ raises (did.Cancel c text) (Invalid ContextFinished) g l
]) is

-- ## A failure of a switch

pub fails_late : (n : ℕ) (text : TextId) (g : ℕ) (l : DomainState) → (switch_at l.switches n).finished ≡ true → fail n text g l ≡ raises (did.Fail n text) (Invalid SwitchFinished) g l
fails_late n text g l is = ap (λ (finished : Bool). elim finished as (λ _. Step) [
  | true ↦ raises (did.Fail n text) (Invalid SwitchFinished) g l
  | false ↦ new_raise (Failure text) l (λ x m. does (did.Fail n text) g (fails g n (raised.One x) m))
]) is

pub fails_now : (n : ℕ) (text : TextId) (g : ℕ) (l : DomainState) → (switch_at l.switches n).finished ≡ false
    → fail n text g l ≡ new_raise (Failure text) l (λ x m. does (did.Fail n text) g (fails g n (raised.One x) m))
fails_now n text g l is = ap (λ (finished : Bool). elim finished as (λ _. Step) [
  | true ↦ raises (did.Fail n text) (Invalid SwitchFinished) g l
  | false ↦ new_raise (Failure text) l (λ x m. does (did.Fail n text) g (fails g n (raised.One x) m))
]) is

-- ## A handler

-- it runs at once
abbrev pub runs_late : Ask → (switch : ℕ) → (fiber : ℕ) → (context : ℕ) → DomainState → Step
runs_late call n g c m = enters_context (did.OnRelease n) said.Handler c (before_block call c g m) g m

module _ (nodes : List Node) (call : Ask) (n handler g : ℕ) (l : DomainState) where
  abbrev released_by : Bool → Step
  released_by finished = (
      let s : Switch = switch_at l.switches n in
      let found : Option Switch = elim finished [
        | true ↦ None
        | false ↦ Some (record s { fresh = s.fresh ++ record { block = handler; values = (fiber_at l.fibers g).variables } ∷ [] })
      ] in
      elim found [
        | Some switch ↦ does (did.OnRelease n) g (with_switch_at n switch l)
        | None ↦ in_new (protected_of l g) g l (runs_late call n g)
      ])

  pub releases_late : (switch_at l.switches n).finished ≡ true → release call n (block_at nodes handler) g l ≡ in_new (protected_of l g) g l (runs_late call n g)
  releases_late is = ap released_by is

  pub releases : (switch_at l.switches n).finished ≡ false → release call n (block_at nodes handler) g l ≡ does (did.OnRelease n) g (registers g n handler l)
  releases is = ap released_by is
