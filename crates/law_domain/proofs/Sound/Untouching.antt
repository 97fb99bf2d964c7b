-- What changes nothing that scopes are seen by: a raise that takes a number, a cancellation, errors of a switch, and its handlers.
use Rattle.std.proofs.Common.{◌≡◌, ℕ, Bool, true, false, not, List, [], ◌∷◌, length, map, slice_set, Option, Some, None, refl}
use Rattle.std.specs.Prelude.{All}
use Rattle.std.proofs.lemmas.List.Elements.{All-append}
use Rattle.eio_value.specs.declared.plain.Plain.{Plain}
use Rattle.eio_value.specs.declared.raised.Raised.{Raised}
use Rattle.eio_value.specs.declared.raised.Raised.TheVariants as raised
use Rattle.eio_value.specs.declared.raised.Outcome.{Outcome}
use Rattle.eio_value.specs.declared.raised.Outcome.TheVariants as outcome
use Rattle.eio_value.specs.Exceptions.{reason}
use Rattle.spec_parts.specs.Contexts as contexts
use Rattle.spec_parts.specs.Contexts.{Context, context_at, is_live, cancel, takes_effect, to_be_struck}
use Rattle.spec_parts.specs.Errors.{joined}
use Rattle.spec_parts.specs.Switches.{Switch, switch_at, never_opened}
use Rattle.spec_machine.specs.Domain.{DomainState}
use Rattle.spec_machine.specs.Steps.{counted, cancels, strike_by, waiting_from}
use Rattle.spec_machine.specs.SwitchMoves.{with_switch_at, fails, fails_with, given_up}
use Rattle.law_domain.specs.Sound.SoundStates.{IsStrike, attached_to}
use Rattle.law_domain.proofs.Sound.ByNumber as numbers
use Rattle.law_domain.proofs.Sound.Lists.{all_front, all_none}
use Rattle.law_domain.proofs.Sound.Midst.{Untouched, untouched_after, untouched_itself}

-- ## A raise

pub untouched_counted : (l : DomainState) → Untouched l (counted l)
untouched_counted l = record {
  fibers = refl;
  ready = refl;
  owes = λ owes. owes;
  sleeps = refl;
  contexts_made = refl;
  parents = λ c. refl;
  live = λ c. refl;
  switches_made = refl;
  contexts = λ n. refl;
  finished = λ n. refl;
  lists = λ n daemon. refl;
  groups = refl;
  lines = refl;
}

-- ## A switch

-- one that runs in the same context, is finished as it was, and has the same fibers
pub record SameSwitch (old changed : Switch) : Type 0 where
  pub context : changed.context ≡ old.context
  pub finished : changed.finished ≡ old.finished
  pub lists : (daemon : Bool) → attached_to daemon changed ≡ attached_to daemon old

pub untouched_switch : (n : ℕ) (changed : Switch) (l : DomainState) → SameSwitch (switch_at l.switches n) changed → Untouched l (with_switch_at n changed l)
untouched_switch n changed l same = record {
  fibers = refl;
  ready = refl;
  owes = λ owes. owes;
  sleeps = refl;
  contexts_made = refl;
  parents = λ c. refl;
  live = λ c. refl;
  switches_made = numbers.set_keeps_length never_opened l.switches n changed;
  contexts = numbers.set_same never_opened (λ (s : Switch). s.context) l.switches n changed same.context;
  finished = numbers.set_same never_opened (λ (s : Switch). s.finished) l.switches n changed same.finished;
  lists = λ m daemon. numbers.set_same never_opened (attached_to daemon) l.switches n changed (same.lists daemon) m;
  groups = refl;
  lines = refl;
}

-- ## A cancellation

-- each context keeps all but its reason
module _ {Y : Type 0} (f : Context → Y) (kept : (x : Context) (why : Option Plain) → f (record x { reason = why }) ≡ f x) (c : ℕ) (why : Plain) (made : List Context) where
  cancelled_same : (m : ℕ) → f (context_at (cancel c why made) m) ≡ f (context_at made m)
  cancelled_same m = by_effect (takes_effect made c) where
    by_effect : (takes : Bool) → f (context_at (elim takes as (λ _. List Context) [
      | true ↦ slice_set made c (record (context_at made c) { reason = Some why })
      | false ↦ made
    ]) m) ≡ f (context_at made m)
    by_effect true = numbers.set_same contexts.never_made f made c _ (kept (context_at made c) (Some why)) m
    by_effect false = refl

pub cancelled_count : (c : ℕ) (why : Plain) (made : List Context) → length (cancel c why made) ≡ length made
cancelled_count c why made = by_effect (takes_effect made c) where
  by_effect : (takes : Bool) → length (elim takes as (λ _. List Context) [
    | true ↦ slice_set made c (record (context_at made c) { reason = Some why })
    | false ↦ made
  ]) ≡ length made
  by_effect true = numbers.set_keeps_length contexts.never_made made c _
  by_effect false = refl

all_strikes : (maker : ℕ) (fibers : List ℕ) → All IsStrike (map (strike_by maker) fibers)
all_strikes maker [] = all_none IsStrike
all_strikes maker (g ∷ fibers) = all_front IsStrike (strike_by maker g) (map (strike_by maker) fibers) (g, refl) (all_strikes maker fibers)

pub untouched_cancels : (maker c : ℕ) (why : Plain) (l : DomainState) → Untouched l (cancels maker c why l)
untouched_cancels maker c why l = record {
  fibers = refl;
  ready = refl;
  owes = λ owes. All-append IsStrike l.duties _ owes (all_strikes maker (to_be_struck l.contexts (waiting_from 0 l.fibers) c));
  sleeps = refl;
  contexts_made = cancelled_count c why l.contexts;
  parents = cancelled_same (λ (x : Context). x.parent) (λ x because. refl) c why l.contexts;
  live = cancelled_same (λ (x : Context). not x.ended) (λ x because. refl) c why l.contexts;
  switches_made = refl;
  contexts = λ n. refl;
  finished = λ n. refl;
  lists = λ n daemon. refl;
  groups = refl;
  lines = refl;
}

-- ## Errors of a switch

same_but_errors : (s : Switch) (errors : Option Raised) → SameSwitch s (record s { errors = errors })
same_but_errors s errors = record { context = refl; finished = refl; lists = lists } where
  lists : (daemon : Bool) → attached_to daemon (record s { errors = errors }) ≡ attached_to daemon s
  lists true = refl
  lists false = refl

abbrev failing : Raised → Switch → Switch
failing what s = record s { errors = Some (joined s.errors what) }

pub untouched_fails : (maker n : ℕ) (what : Raised) (l : DomainState) → Untouched l (fails maker n what l)
untouched_fails maker n what l = by_finished (switch_at l.switches n).finished where
  by_finished : (finished : Bool) → Untouched l (elim (elim finished as (λ _. Option Switch) [ true ↦ None | false ↦ Some (failing what (switch_at l.switches n)) ]) as (λ _. DomainState) [
    | None ↦ l
    | Some switch ↦ cancels maker switch.context (reason what) (with_switch_at n switch l)
  ])
  by_finished true = untouched_itself l
  by_finished false =
      (let changed : Switch = failing what (switch_at l.switches n) in
      untouched_after l (with_switch_at n changed l) (cancels maker changed.context (reason what) (with_switch_at n changed l))
      (untouched_switch n changed l (same_but_errors (switch_at l.switches n) (Some (joined (switch_at l.switches n).errors what))))
      (untouched_cancels maker changed.context (reason what) (with_switch_at n changed l)))

pub untouched_fails_with : (maker n : ℕ) (came : Option Raised) (l : DomainState) → Untouched l (fails_with maker n came l)
untouched_fails_with maker n None l = untouched_itself l
untouched_fails_with maker n (Some what) l = untouched_fails maker n what l

pub untouched_given_up : (maker n : ℕ) (daemon : Bool) (result : Outcome) (l : DomainState) → Untouched l (given_up maker n daemon result l)
untouched_given_up maker n daemon (outcome.Ok it) l = untouched_itself l
untouched_given_up maker n true (outcome.Err (raised.Cancelled why)) l = untouched_itself l
untouched_given_up maker n true (outcome.Err (raised.One why)) l = untouched_fails maker n (raised.One why) l
untouched_given_up maker n true (outcome.Err (raised.Many why)) l = untouched_fails maker n (raised.Many why) l
untouched_given_up maker n false (outcome.Err what) l = untouched_fails maker n what l
