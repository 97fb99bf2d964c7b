-- `close`: what it finds to do, and what that is once the switch has what came.
use Rattle.std.proofs.Common.{◌≡◌, ◌⊎◌, inl, inr, ℕ, ◌-◌, ◌<◌, Bool, true, false, ◌&&◌, List, [], ◌∷◌, ◌++◌, length, Option, Some, None, refl, ap, ◌∙◌, sym, subst}
use Rattle.std.specs.Prelude.{Contains, slice_get}
use Rattle.std.proofs.lemmas.List.Elements.{Contains-append_left}
use Rattle.std.proofs.lemmas.Option.{slice_get_within, get_or_from_slice_get}
use Rattle.eio_value.specs.declared.raised.Raised.{Raised}
use Rattle.eio_value.specs.declared.value.Value.{Value}
use Rattle.script_forms.specs.Flat.{nodes_of}
use Rattle.script_forms.specs.declared.node.Node.{Node}
use Rattle.spec_script.specs.Scripts.{Script}
use Rattle.spec_fiber.specs.Asks as ask
use Rattle.spec_parts.specs.Contexts.{is_full}
use Rattle.spec_parts.specs.Switches as model
use Rattle.spec_parts.specs.Switches.{Switch, Handler, CloseStep, Closed, switch_at, with_switch, due_batch, runs_handler, close_step, release, last_handler}
use Rattle.domain_strikes.specs.Owing.{StrikesAtOnce}
use Rattle.law_domain.specs.Kinded.KindedStates.{handlers_of}
use Rattle.law_domain.specs.Sound.SoundStates.{attached_to}
use Rattle.domain_strikes.specs.Waiting.WhoWaits.{contexts_of}
use Rattle.domain_strikes.proofs.Waiting.Alike.{contexts_in_step}
use Rattle.spec_machine.specs.Domain.{DomainState}
use Rattle.spec_machine.specs.Moves.{own_call}
use Rattle.spec_machine.specs.Steps.{Step, halts}
use Rattle.spec_machine.specs.SwitchMoves.{closed_by, closes, fails_with, with_switch_at}
use Rattle.domain_core.specs.declared.told.Told.{Told}
use Rattle.domain_core.specs.Answering.{MakesUnder, closes_on}
use Rattle.domain_core.specs.Conditions.{HandlersBegin, LeavesScopes, KeptMayClose, MayEndContext}
use Rattle.domain_core.specs.Keeping.{KeptDomain}
use Rattle.domain_core.specs.Mirrors.{Mirrors}
use Rattle.domain_core.proofs.Composing.{makes_as, makes_after}
use Rattle.domain_core.proofs.Ends.{switch_mirrors}

-- ## What it finds

release_context : (next : Option Handler) (s : Switch) → (release next s).switch.context ≡ s.context
release_context None s = refl
release_context (Some handler) s = refl

abbrev stepped : List ℕ → List ℕ → ℕ → Switch → Closed
stepped fibers daemons g s = elim fibers [
  | f ∷ fs ↦ record { step = model.Wait; switch = record s { closer = model.ForFibers g } }
  | [] ↦ elim daemons [
    | d ∷ ds ↦ record { step = model.CancelDaemons; switch = record s { closer = model.ForDaemons g } }
    | [] ↦ release (last_handler (due_batch s)) s
  ]
]

context_of_step : (fibers daemons : List ℕ) (g : ℕ) (s : Switch) → (stepped fibers daemons g s).switch.context ≡ s.context
context_of_step [] [] g s = release_context (last_handler (due_batch s)) s
context_of_step [] (d ∷ ds) g s = refl
context_of_step (f ∷ fs) daemons g s = refl

-- the switch keeps its context
pub same_context : (g : ℕ) (s : Switch) → (close_step g s).switch.context ≡ s.context
same_context g s = context_of_step s.fibers s.daemons g s

-- ## What comes of it

-- the call is made again without what came, so that this is the same
pub closed_again : (script : Script) (n c : ℕ) (came : Option Raised) (kept : Value) (step : CloseStep) (g : ℕ) (l : DomainState)
    → closed_by script (ask.Close n came kept) n c kept step g l ≡ closed_by script (ask.Close n None kept) n c kept step g l
closed_again script n c came kept model.Wait g l = refl
closed_again script n c came kept model.CancelDaemons g l = refl
closed_again script n c came kept (model.RunHandler handler) g l = refl
closed_again script n c came kept model.Return g l = refl
closed_again script n c came kept (model.Raise errors) g l = refl

module _ (script : Script) (n : ℕ) (kept : Value) (g : ℕ) where
  abbrev closing : Step → Bool → ℕ → DomainState → Step
  closing then full m l = elim full [ true ↦ halts m l | false ↦ then ]

  -- there is no room for the context of the handler that is next
  pub closes_full : (came : Option Raised) (l : DomainState) → true ≡ runs_handler (switch_at l.switches n) → true ≡ is_full l.contexts
      → own_call script (ask.Close n came kept) g l ≡ halts g l
  unfolding own_call
  closes_full came l runs full =
      ap (λ (both : Bool). closing (closes script (ask.Close n came kept) n came kept g l) both g l)
      (ap (λ (r : Bool). r && is_full l.contexts) (sym runs) ∙ ap (λ (f : Bool). true && f) (sym full))

  pub closes_with_room : (came : Option Raised) (l : DomainState) → runs_handler (switch_at l.switches n) && is_full l.contexts ≡ false
      → own_call script (ask.Close n came kept) g l ≡ closes_on script n kept g (fails_with g n came l)
  unfolding own_call
  closes_with_room came l none = (
      let t : DomainState = fails_with g n came l in
      let closed : Closed = close_step g (switch_at t.switches n) in
      ap (λ (both : Bool). closing (closes script (ask.Close n came kept) n came kept g l) both g l) none
      ∙ closed_again script n closed.switch.context came kept closed.step g (with_switch_at n closed.switch t))

  -- by what it finds
  pub closes_by : (step : CloseStep) (context : ℕ) (switches : List Switch) (old : KeptDomain) (it : Told) (new : KeptDomain)
      → step ≡ (close_step g (switch_at old.switches n)).step → switches ≡ with_switch n (close_step g (switch_at old.switches n)).switch old.switches
      → context ≡ (switch_at old.switches n).context
      → MakesUnder (nodes_of script) (closed_by script (ask.Close n None kept) n context kept step g) (record old { switches = switches }) it new
      → MakesUnder (nodes_of script) (closes_on script n kept g) old it new
  closes_by step context switches old it new is are context_is makes =
      makes_as (nodes_of script) (closes_on script n kept g) (λ l. closed_by script (ask.Close n None kept) n context kept step g (with_switch_at n (close_step g (switch_at l.switches n)).switch l)) old it new
      (λ texts l mirrors. (
      let then : DomainState = with_switch_at n (close_step g (switch_at l.switches n)).switch l in
      let same : (close_step g (switch_at l.switches n)).step ≡ step = ap (λ (xs : List Switch). (close_step g (switch_at xs n)).step) mirrors.switches ∙ sym is in
      let there : (close_step g (switch_at l.switches n)).switch.context ≡ context
      = same_context g (switch_at l.switches n) ∙ (ap (λ (xs : List Switch). (switch_at xs n).context) mirrors.switches ∙ sym context_is) in
      ap (λ (c : ℕ). closed_by script (ask.Close n None kept) n c kept (close_step g (switch_at l.switches n)).step g then) there
      ∙ ap (λ (s : CloseStep). closed_by script (ask.Close n None kept) n context kept s g then) same))
      (makes_after (nodes_of script) (λ l. with_switch_at n (close_step g (switch_at l.switches n)).switch l) (closed_by script (ask.Close n None kept) n context kept step g)
      old (record old { switches = switches }) it new
      (λ texts l mirrors. switch_mirrors (nodes_of script) texts old l mirrors n (λ (s : Switch). (close_step g s).switch) switches are) makes)

-- ## The switch once it has what came

no_and : (b f : Bool) → f ≡ false → b && f ≡ false
no_and true f is = is
no_and false f is = refl

-- by what is kept
module _ (nodes : List Node) (texts : List (List ℕ)) (old : KeptDomain) (l : DomainState) (mirrors : Mirrors nodes texts old l) where
  pub runs_alike : (n : ℕ) → runs_handler (switch_at old.switches n) ≡ runs_handler (switch_at l.switches n)
  runs_alike n = ap (λ (xs : List Switch). runs_handler (switch_at xs n)) (sym mirrors.switches)

  pub full_alike : is_full old.contexts.made ≡ is_full l.contexts
  full_alike = (contexts_in_step.alike old.contexts (contexts_of l) mirrors.contexts).full

  pub has_room : (n : ℕ) → (false ≡ runs_handler (switch_at old.switches n)) ⊎ (false ≡ is_full old.contexts.made) → runs_handler (switch_at l.switches n) && is_full l.contexts ≡ false
  has_room n by = elim by as (λ _. runs_handler (switch_at l.switches n) && is_full l.contexts ≡ false) [
    | inl none ↦ ap (λ (b : Bool). b && is_full l.contexts) (sym (none ∙ runs_alike n))
    | inr room ↦ no_and (runs_handler (switch_at l.switches n)) (is_full l.contexts) (sym (room ∙ full_alike))
  ]

same_attached : (daemon : Bool) (s : Switch) (errors : Option Raised) → attached_to daemon (record s { errors = errors }) ≡ attached_to daemon s
same_attached true s errors = refl
same_attached false s errors = refl

module _ (old new : KeptDomain) (leaves : LeavesScopes old new) (n : ℕ) where
  abbrev before : Switch
  before = switch_at old.switches n

  pub context_still : (switch_at new.switches n).context ≡ (switch_at old.switches n).context
  context_still = ap (λ (s : Switch). s.context) (leaves.switches n).1

  pub strikes_still : StrikesAtOnce new.owed new.contexts (switch_at old.switches n).context → StrikesAtOnce new.owed new.contexts (switch_at new.switches n).context
  strikes_still once = subst (λ (c : ℕ). StrikesAtOnce new.owed new.contexts c) (sym context_still) once

  pub handlers_still : (script : Script) → HandlersBegin script old n → HandlersBegin script new n
  handlers_still script begin = λ handler its. begin handler (subst (λ (s : Switch). Contains (handlers_of s) handler) (leaves.switches n).1 its)

  pub closes_still : KeptMayClose old n → KeptMayClose new n
  closes_still may = record {
    opened = subst (λ (m : ℕ). n < m) (sym leaves.opened) may.opened;
    unfinished = ap (λ (s : Switch). s.finished) (leaves.switches n).1 ∙ may.unfinished;
    ends = λ none. subst (λ (c : ℕ). MayEndContext new c) (sym context_still) (leaves.ends before.context (may.ends (λ daemon.
        sym (ap (λ (s : Switch). attached_to daemon s) (leaves.switches n).1 ∙ same_attached daemon before (leaves.switches n).0) ∙ none daemon)));
  }

-- ## The handler that it runs is one of those that are still to run

its_at : (xs : List Handler) (i : ℕ) (x : Handler) → slice_get xs i ≡ Some x → Contains xs x
its_at xs i x is = (i, slice_get_within xs i x is, get_or_from_slice_get xs i x x is)

abbrev due_of : List Handler → List Handler → List Handler
due_of batch fresh = elim batch [ [] ↦ fresh | handler ∷ handlers ↦ handler ∷ handlers ]

due_its : (batch fresh : List Handler) (x : Handler) → Contains (due_of batch fresh) x → Contains (batch ++ fresh) x
due_its [] fresh x its = its
due_its (h ∷ hs) fresh x its = Contains-append_left (h ∷ hs) fresh x its

abbrev finishing : Option Raised → CloseStep
finishing errors = elim errors [ Some raised ↦ model.Raise raised | None ↦ model.Return ]

none_finishing : (handler : Handler) (errors : Option Raised) → model.RunHandler handler ≡ finishing errors → ⊥
none_finishing handler None is = cc
none_finishing handler (Some raised) is = cc

next_is : (handler : Handler) (next : Option Handler) (s : Switch) → model.RunHandler handler ≡ (release next s).step → next ≡ Some handler
next_is handler None s is = absurd (none_finishing handler s.errors is)
next_is handler (Some h) s is = cc

due_is : (fibers daemons : List ℕ) (handler : Handler) (g : ℕ) (s : Switch) → model.RunHandler handler ≡ (stepped fibers daemons g s).step → last_handler (due_batch s) ≡ Some handler
due_is [] [] handler g s is = next_is handler (last_handler (due_batch s)) s is
due_is [] (d ∷ ds) handler g s is = cc
due_is (f ∷ fs) daemons handler g s is = cc

pub runs_its : (handler : Handler) (g : ℕ) (s : Switch) → model.RunHandler handler ≡ (close_step g s).step → Contains (handlers_of s) handler
runs_its handler g s is = due_its s.batch s.fresh handler (its_at (due_batch s) (length (due_batch s) - 1) handler (due_is s.fibers s.daemons handler g s is))
