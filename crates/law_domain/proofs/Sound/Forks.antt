-- Calls on switches that don't close them: `fork`, `fork-daemon`, `fail`, `on-release`.
use Rattle.std.proofs.Common.{◌≡◌, ◌≢◌, inl, inr, ℕ, ◌+◌, ◌<◌, ◌≤◌, Bool, true, false, ◌||◌, List, [], ◌∷◌, ◌++◌, length, Option, Some, None, refl, ap, ◌∙◌, sym, subst, true≢false, ltb-false, arith}
use Rattle.std.specs.List.{Contains}
use Rattle.eio_value.specs.declared.plain.Plain.TheVariants.{Failure, Invalid}
use Rattle.eio_value.specs.declared.plain.Misuse.TheVariants.{SwitchFinished}
use Rattle.eio_value.specs.declared.raised.Outcome.TheVariants as outcome
use Rattle.eio_value.specs.declared.raised.Raised.TheVariants.{One}
use Rattle.eio_value.specs.declared.value.TextId.{TextId}
use Rattle.eio_value.specs.declared.value.Value.{Value}
use Rattle.eio_value.specs.declared.value.Value.TheVariants as value
use Rattle.spec_parts.specs.Contexts.{is_full}
use Rattle.spec_parts.specs.Switches as switches
use Rattle.spec_parts.specs.Switches.{Switch, Handler, Attached, switch_at, with_switch, refuses_forks, refuses_fibers, attach}
use Rattle.spec_script.specs.Syntax as syntax
use Rattle.spec_script.specs.Syntax.{Block, Forking}
use Rattle.spec_fiber.specs.Asks as ask
use Rattle.spec_fiber.specs.Numbered.{number_of}
use Rattle.spec_fiber.specs.Replies.{Position, begun}
use Rattle.trace_lines.specs.declared.line.Did.TheVariants as did
use Rattle.trace_lines.specs.declared.line.Said2.TheVariants as said
use Rattle.spec_machine.specs.Domain.{Next, GoesOn, Ready, OfSwitch, Fiber, DomainState, never_made, fiber_at, has_ended, live_fibers, most_fibers, made, next_cell, is_full_by, to_head}
use Rattle.spec_machine.specs.ContextMoves.{before_block, enters_context}
use Rattle.spec_machine.specs.Moves.{own_call}
use Rattle.spec_machine.specs.Steps.{Step, counted, member, does, raises, new_raise, halts, in_new}
use Rattle.spec_machine.specs.SwitchMoves.{did_fork, is_daemon, forked, makes, fails, with_switch_at}
use Rattle.law_domain.specs.Sound.BuiltForms.{IsBuiltBlock}
use Rattle.law_domain.specs.Sound.Scopes.{Entered, InContext, scopes, scopes_in, scopes_of}
use Rattle.law_domain.specs.Sound.SoundStates.{IsSoundPosition, IsSoundWith, attached_to}
use Rattle.law_domain.proofs.Sound.BuiltSettle.{items_built}
use Rattle.law_domain.proofs.Sound.ByNumber as numbers
use Rattle.law_domain.proofs.Sound.Calling.{CallKept, IsSoundUnless, by_room, goes_on, goes_on_after, goes_raising, halting, into_context, made_by}
use Rattle.law_domain.proofs.Sound.Changes.{OnlyAt, of_only}
use Rattle.law_domain.proofs.Sound.Counting.{lives_below}
use Rattle.law_domain.proofs.Sound.Lists.{AreDistinct, contains_cases, front_apart}
use Rattle.law_domain.proofs.Sound.Making.{MakesOne, mid_makes}
use Rattle.law_domain.proofs.Sound.Midst.{IsMid, untouched_after, is_ready_lives, lined, mid_lives, one_more_line, reheld, seen_ahead, stands_only, stood_sound}
use Rattle.law_domain.proofs.Sound.Untouching.{SameSwitch, untouched_counted, untouched_fails, untouched_switch}

-- ## Forking

first_false : (one other : Bool) → (one || other) ≡ false → one ≡ false
first_false true other is = is
first_false false other is = refl

second_false : (one other : Bool) → (one || other) ≡ false → other ≡ false
second_false true other is = absurd (true≢false is)
second_false false other is = is

abbrev attached_by : (refused : Bool) → (new : ℕ) → (daemon : Bool) → Switch → Attached
attached_by refused new daemon s = elim refused [
  | true ↦ record { taken = false; switch = s }
  | false ↦ record { taken = true; switch = switches.with_fiber new daemon s }
]

module _ (g : ℕ) (held : ℕ → List Entered) (l : DomainState) (mid : IsMid g held l.lines l) (sees : held g ≡ scopes_in (fiber_at l.fibers g).work) (stamp : ℕ)
    (n : ℕ) (block : Block) (built : IsBuiltBlock block) (forking : Forking) (begins : (variables : List Value) → forked forking block variables ≡ begun block variables) where
  abbrev variables : List Value
  variables = (fiber_at l.fibers g).variables

  abbrev newest : Fiber
  newest = record {
    context = (switch_at l.switches n).context;
    role = OfSwitch n (is_daemon forking);
    cell = next_cell l.cells;
    work = (forked forking block variables).work;
    variables = (forked forking block variables).variables;
    standing = Ready (GoesOn (outcome.Ok value.Unit));
  }

  abbrev made_there : DomainState
  made_there = (
      let t : DomainState = made (switch_at l.switches n).context (OfSwitch n (is_daemon forking)) (forked forking block variables) l in
      with_switch_at n (attach (length l.fibers) (is_daemon forking) (switch_at l.switches n)).switch t)

  module _ (takes : refuses_forks l.contexts (switch_at l.switches n) ≡ false) (room : is_full_by 1 l.fibers ≡ false) where
    not_refused : refuses_fibers (switch_at l.switches n) ≡ false
    not_refused = second_false _ _ takes

    attached_is : (attach (length l.fibers) (is_daemon forking) (switch_at l.switches n)).switch ≡ switches.with_fiber (length l.fibers) (is_daemon forking) (switch_at l.switches n)
    attached_is = ap (λ (refused : Bool). (attached_by refused (length l.fibers) (is_daemon forking) (switch_at l.switches n)).switch) not_refused

    makes_it : MakesOne n (is_daemon forking) newest l made_there
    makes_it = record {
      fibers = refl;
      role = refl;
      context = refl;
      standing = refl;
      outside = ap (λ (p : Position). scopes_in p.work) (begins variables);
      position = subst (λ (p : Position). IsSoundPosition (length made_there.switches) (length made_there.contexts) p.work p.variables) (sym (begins variables)) (items_built block built, tt);
      unfinished = first_false _ _ not_refused;
      switches = ap (λ (s : Switch). with_switch n s l.switches) attached_is;
      contexts = refl;
      groups = refl;
      ready = refl;
      duties = refl;
      timers = refl;
      room = (let most : live_fibers l.fibers + 1 ≤ most_fibers = ltb-false most_fibers (live_fibers l.fibers + 1) room in omega (arith, most));
    }

    mid_made : IsMid g held l.lines made_there
    mid_made = mid_makes g held l.lines l made_there n (is_daemon forking) newest mid makes_it

    caller_below : g < length l.fibers
    caller_below = lives_below l.fibers g (mid_lives g held l.lines l mid)

    caller_same : fiber_at made_there.fibers g ≡ fiber_at l.fibers g
    caller_same = numbers.older_unchanged never_made l.fibers g newest caller_below

    abbrev goes : Next
    goes = GoesOn (outcome.Ok value.Unit)

    abbrev before : DomainState
    before = to_head goes g made_there

    before_sound : IsSoundWith (scopes_of before) l.lines before
    before_sound = seen_ahead g held l.lines made_there mid_made stamp (omega arith) goes tt (sees ∙ ap (λ (f : Fiber). scopes_in f.work) (sym caller_same))

    newest_there : fiber_at before.fibers (length l.fibers) ≡ newest
    newest_there = numbers.others_unchanged never_made made_there.fibers g (length l.fibers) _ (λ e. omega (arith, e, caller_below)) ∙ numbers.made_last never_made l.fibers newest

    not_ready : Contains before.ready (length l.fibers) → ⊥
    not_ready there = elim (contains_cases g (length l.fibers) l.ready there) as (λ _. ⊥) [
      | inl e ↦ omega (arith, e, caller_below)
      | inr it ↦ (
          let was = mid.sound.ready (length l.fibers) it in
          let below : length l.fibers < length l.fibers = lives_below l.fibers (length l.fibers) (is_ready_lives (fiber_at l.fibers (length l.fibers)) was.0 was.1) in
          omega (arith, below))
    ]

    newest_lives : has_ended (fiber_at before.fibers (length l.fibers)) ≡ false
    newest_lives = ap has_ended newest_there

    distinct_then : AreDistinct (length l.fibers ∷ before.ready)
    distinct_then = front_apart (length l.fibers) before.ready before_sound.distinct not_ready

    rest_then : (h : ℕ) → h ≢ length l.fibers → Contains (length l.fibers ∷ before.ready) h → Contains before.ready h
    rest_then h other there = elim (contains_cases (length l.fibers) h before.ready there) as (λ _. Contains before.ready h) [ inl e ↦ absurd (other (sym e)) | inr it ↦ it ]

    abbrev after : DomainState
    after = to_head goes (length l.fibers) before

    only_newest : OnlyAt (length l.fibers) before.fibers after.fibers (record (fiber_at before.fibers (length l.fibers)) { standing = Ready goes })
    only_newest = stands_only (scopes_of before) l.lines before before_sound (length l.fibers) (Ready goes) (length l.fibers ∷ before.ready) newest_lives refl tt distinct_then rest_then (λ there. (goes, refl))

    seen_then : (h : ℕ) → scopes_of after h ≡ scopes_of before h
    seen_then = of_only (length l.fibers) before.fibers after.fibers _ only_newest (λ h f. scopes f ≡ scopes_of before h)
        (ap (λ (f : Fiber). scopes (record f { standing = Ready goes })) newest_there ∙ ap scopes (sym newest_there)) (λ h other. refl)

    after_sound : IsSoundWith (scopes_of after) l.lines after
    after_sound = reheld (scopes_of before) (scopes_of after) l.lines l.lines after (omega arith) (λ h lives. seen_then h)
        (stood_sound (scopes_of before) l.lines before before_sound (length l.fibers) (Ready goes) (length l.fibers ∷ before.ready) newest_lives refl tt distinct_then rest_then (λ there. (goes, refl)))

    makes_sound : IsSoundUnless (one_more_line (makes forking n block g l).state stamp)
    makes_sound runs = lined l.lines after stamp (omega arith) after_sound

  by_full : refuses_forks l.contexts (switch_at l.switches n) ≡ false → (full : Bool) → is_full_by 1 l.fibers ≡ full
      → IsSoundUnless (one_more_line (elim full as (λ _. Step) [ true ↦ halts g l | false ↦ makes forking n block g l ]).state stamp)
  by_full takes true is = halting g l stamp
  by_full takes false is = makes_sound takes is

  by_refusal : (refused : Bool) → refuses_forks l.contexts (switch_at l.switches n) ≡ refused
      → IsSoundUnless (one_more_line (elim refused as (λ _. Step) [
        | true ↦ record (does (did_fork forking n) g l) { reply = said.Nothing }
        | false ↦ elim (is_full_by 1 l.fibers) as (λ _. Step) [ true ↦ halts g l | false ↦ makes forking n block g l ]
      ]).state stamp)
  by_refusal true is = goes_on g held l mid sees stamp (outcome.Ok value.Unit)
  by_refusal false is = by_full is (is_full_by 1 l.fibers) refl

pub fork_kept : (n : ℕ) (block : Block) → CallKept (ask.Fork syntax.Plain n block)
unfolding own_call
fork_kept n block script forms g held l mid sees built stamp =
    by_refusal g held l mid sees stamp n block built syntax.Plain (λ variables. refl) (refuses_forks l.contexts (switch_at l.switches n)) refl

pub fork_daemon_kept : (n : ℕ) (block : Block) → CallKept (ask.Fork syntax.Daemon n block)
unfolding own_call
fork_daemon_kept n block script forms g held l mid sees built stamp =
    by_refusal g held l mid sees stamp n block built syntax.Daemon (λ variables. refl) (refuses_forks l.contexts (switch_at l.switches n)) refl

-- ## Failing

pub fail_kept : (n : ℕ) (text : TextId) → CallKept (ask.Fail n text)
unfolding own_call
fail_kept n text script forms g held l mid sees built stamp = by_finished (switch_at l.switches n).finished where
  by_finished : (finished : Bool) → IsSoundUnless (one_more_line (elim finished as (λ _. Step) [
    | true ↦ raises (did.Fail n text) (Invalid SwitchFinished) g l
    | false ↦ new_raise (Failure text) l (λ x m. does (did.Fail n text) g (fails g n (One x) m))
  ]).state stamp)
  by_finished true = goes_raising g held l mid sees stamp (did.Fail n text) (Invalid SwitchFinished)
  by_finished false =
      goes_on_after g held l mid sees stamp (fails g n (One (member (Failure text) l)) (counted l))
      (untouched_after l (counted l) _ (untouched_counted l) (untouched_fails g n (One (member (Failure text) l)) (counted l))) (outcome.Ok value.Unit)

-- ## Registering a handler

abbrev registering : Handler → Switch → Switch
registering handler s = record s { fresh = s.fresh ++ handler ∷ [] }

same_registering : (handler : Handler) (s : Switch) → SameSwitch s (registering handler s)
same_registering handler s = record { context = refl; finished = refl; lists = lists } where
  lists : (daemon : Bool) → attached_to daemon (registering handler s) ≡ attached_to daemon s
  lists true = refl
  lists false = refl

pub on_release_kept : (n : ℕ) (block : Block) → CallKept (ask.OnRelease n block)
unfolding own_call
on_release_kept n block script forms g held l mid sees built stamp =
    by_finished (record { block = number_of block; values = (fiber_at l.fibers g).variables }) (switch_at l.switches n).finished where
      by_finished : (handler : Handler) (finished : Bool)
          → IsSoundUnless (one_more_line (elim (elim finished as (λ _. Option Switch) [ true ↦ None | false ↦ Some (registering handler (switch_at l.switches n)) ]) as (λ _. Step) [
            | Some switch ↦ does (did.OnRelease n) g (with_switch_at n switch l)
            | None ↦ in_new (made_by g held l mid stamp true (is_full l.contexts)) g l
                (λ c m. enters_context (did.OnRelease n) said.Handler c (before_block (ask.OnRelease n block) c g m) g m)
          ]).state stamp)
      by_finished handler true =
          by_room g held l mid stamp true (λ c m. enters_context (did.OnRelease n) said.Handler c (before_block (ask.OnRelease n block) c g m) g m)
          (into_context g held l mid stamp true _ (items_built block built, (tt, (mid.sound.fibers g).position (mid_lives g held l.lines l mid)))
          (ap (λ xs. InContext (length l.contexts) ∷ xs) (sym sees))) (is_full l.contexts)
      by_finished handler false =
          goes_on_after g held l mid sees stamp (with_switch_at n (registering handler (switch_at l.switches n)) l)
          (untouched_switch n _ l (same_registering handler (switch_at l.switches n))) (outcome.Ok value.Unit)
