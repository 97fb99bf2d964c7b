-- `fork`: refused on both sides, or the limit of fibers is met on both, or a fiber is made.
use Rattle.std.proofs.Common.{◌≡◌, ℕ, zero, suc, ◌+◌, ◌<◌, ◌≤◌, Bool, true, false, ◌||◌, List, [], ◌∷◌, length, refl, ap, ◌∙◌, sym, subst, true≢false, arith}
use Rattle.std.specs.Prelude.{count_by, is_some}
use Rattle.std.proofs.lemmas.Bool.{lt-ltb, le-ltb}
use Rattle.eio_value.specs.declared.raised.Outcome.TheVariants as outcome
use Rattle.eio_value.specs.declared.value.Value.TheVariants as value
use Rattle.spec_parts.specs.Contexts.{is_live, off}
use Rattle.spec_parts.specs.Switches.{Switch, switch_at, refuses_fibers, refuses_forks}
use Rattle.script_forms.specs.Calls.{forking_of}
use Rattle.script_code.specs.Standing.{block_at}
use Rattle.script_forms.specs.declared.node.Node.{Node}
use Rattle.spec_script.specs.Scripts.{Script}
use Rattle.spec_script.specs.Syntax as syntax
use Rattle.spec_fiber.specs.Asks as ask
use Rattle.trace_lines.specs.declared.line.Said2.TheVariants as said
use Rattle.spec_machine.specs.Domain.{DomainState, GoesOn, is_full_by, live_fibers, to_head}
use Rattle.spec_machine.specs.Moves.{own_call}
use Rattle.spec_machine.specs.Steps.{Step, does, halts, told}
use Rattle.spec_machine.specs.SwitchMoves.{did_fork, makes}
use Rattle.domain_core.specs.declared.told.Told.{Told}
use Rattle.domain_core.specs.Answering.{BecomesUnder, MakesUnder, Tells, forking_by, forks}
use Rattle.domain_core.specs.Conditions.{HasLiveContexts}
use Rattle.domain_core.specs.Keeping.{KeptDomain}
use Rattle.domain_core.specs.Mirrors.{Mirrors}
use Rattle.domain_core.proofs.Composing.{makes_as}
use Rattle.domain_core.proofs.Counting.{same_live}
use Rattle.domain_core.proofs.Scoping.{answers_alike, lives_in_definition}

-- ## What is refused

or_with : (a b refuses : Bool) → (refuses ≡ false → a ≡ b) → (a || refuses) ≡ (b || refuses)
or_with a b false same = ap (λ x. x || false) (same refl)
or_with true true true same = refl
or_with true false true same = refl
or_with false true true same = refl
or_with false false true same = refl

unfinished_by : (finished running : Bool) → (finished || running) ≡ false → finished ≡ false
unfinished_by true running none = absurd (true≢false none)
unfinished_by false running none = refl

opened_below : (switches : List Switch) (n : ℕ) → (switch_at switches n).finished ≡ false → n < length switches
opened_below [] n unfinished = absurd (true≢false unfinished)
opened_below (s ∷ switches) zero unfinished = omega arith
opened_below (s ∷ switches) (suc n) unfinished = let below : n < length switches = opened_below switches n unfinished in omega arith

module _ (nodes : List Node) (texts : List (List ℕ)) (kept : KeptDomain) (l : DomainState) (mirrors : Mirrors nodes texts kept l)
    (live : HasLiveContexts kept) (n : ℕ) where
  same_off : refuses_fibers (switch_at kept.switches n) ≡ false
      → off l.contexts (switch_at kept.switches n).context ≡ off kept.contexts.made (switch_at kept.switches n).context
  same_off takes = (
      let s : Switch = switch_at kept.switches n in
      let unfinished : s.finished ≡ false = unfinished_by s.finished s.running takes in
      let lives : is_live kept.contexts.made s.context ≡ true = live n (opened_below kept.switches n unfinished) unfinished in
      sym ((answers_alike nodes texts kept l mirrors).off s.context (lives_in_definition nodes texts kept l mirrors s.context lives)))

  -- what is kept refuses forks where the domain does
  pub refuses_alike : refuses_forks l.contexts (switch_at l.switches n) ≡ refuses_forks kept.contexts.made (switch_at kept.switches n)
  refuses_alike = (
      let s : Switch = switch_at kept.switches n in
      ap (λ (xs : List Switch). refuses_forks l.contexts (switch_at xs n)) mirrors.switches
      ∙ or_with (is_some (off l.contexts s.context)) (is_some (off kept.contexts.made s.context)) (refuses_fibers s)
      (λ takes. ap is_some (same_off takes)))

-- ## What the call comes to

module _ (script : Script) (daemon : Bool) (n g : ℕ) where
  abbrev how : syntax.Forking
  how = forking_of (forking_by daemon)

  -- it is refused
  abbrev refuses : DomainState → Step
  refuses l = record (does (did_fork how n) g l) { reply = said.Nothing }

  abbrev limited_by : syntax.Block → DomainState → (full : Bool) → Step
  limited_by block l full = elim full [ true ↦ halts g l | false ↦ makes how n block g l ]

  abbrev refused_by : syntax.Block → DomainState → (refused : Bool) → Step
  refused_by block l refused = elim refused [ true ↦ refuses l | false ↦ limited_by block l (is_full_by 1 l.fibers) ]

  -- the new fiber stands first in the ready list, its maker second
  abbrev forks_at_head : (new body : ℕ) → List Node → DomainState → DomainState
  forks_at_head new body nodes l = to_head (GoesOn (outcome.Ok value.Unit)) new (to_head (GoesOn (outcome.Ok value.Unit)) g (forks g n daemon body nodes l))

  module _ (nodes : List Node) (kept : KeptDomain) (live : HasLiveContexts kept) (it : Told) (new : KeptDomain) where
    calls_fork : (block : syntax.Block) (texts : List (List ℕ)) (l : DomainState) → Mirrors nodes texts kept l
        → own_call script (ask.Fork how n block) g l ≡ refused_by block l (refuses_forks kept.contexts.made (switch_at kept.switches n))
    unfolding own_call
    calls_fork block texts l mirrors = ap (refused_by block l) (refuses_alike nodes texts kept l mirrors live n)

    pub makes_refused : (block : syntax.Block) → refuses_forks kept.contexts.made (switch_at kept.switches n) ≡ true
        → MakesUnder nodes refuses kept it new → MakesUnder nodes (own_call script (ask.Fork how n block) g) kept it new
    makes_refused block is made = makes_as nodes _ refuses kept it new (λ texts l mirrors. calls_fork block texts l mirrors ∙ ap (refused_by block l) is) made

    module _ (takes : refuses_forks kept.contexts.made (switch_at kept.switches n) ≡ false) where
      pub makes_full : (block : syntax.Block) → 1024 ≤ count_by is_some kept.fibers
          → MakesUnder nodes (halts g) kept it new → MakesUnder nodes (own_call script (ask.Fork how n block) g) kept it new
      makes_full block full made = makes_as nodes _ (halts g) kept it new (λ texts l mirrors. (
          let same : live_fibers l.fibers ≡ count_by is_some kept.fibers = same_live nodes texts kept l mirrors in
          calls_fork block texts l mirrors ∙ (ap (refused_by block l) takes
          ∙ ap (limited_by block l) (lt-ltb 1024 (live_fibers l.fibers + 1) (omega (arith, full, same)))))) made

      makes_there : (block : syntax.Block) → count_by is_some kept.fibers < 1024 → (texts : List (List ℕ)) (l : DomainState) → Mirrors nodes texts kept l
          → own_call script (ask.Fork how n block) g l ≡ makes how n block g l
      makes_there block room texts l mirrors = (
          let same : live_fibers l.fibers ≡ count_by is_some kept.fibers = same_live nodes texts kept l mirrors in
          calls_fork block texts l mirrors ∙ (ap (refused_by block l) takes
          ∙ ap (limited_by block l) (le-ltb 1024 (live_fibers l.fibers + 1) (omega (arith, room, same)))))

      -- whether it is a daemon or not
      makes_so : (is_daemon : Bool) (body : ℕ) (l : DomainState)
          → makes (forking_of (forking_by is_daemon)) n (block_at nodes body) g l
          ≡ told g (did_fork (forking_of (forking_by is_daemon)) n) (said.Fiber l.number (length l.fibers))
          (to_head (GoesOn (outcome.Ok value.Unit)) (length l.fibers) (to_head (GoesOn (outcome.Ok value.Unit)) g (forks g n is_daemon body nodes l)))
      makes_so true body l = refl
      makes_so false body l = refl

      pub makes_forked : (body number : ℕ) → number ≡ length kept.fibers → count_by is_some kept.fibers < 1024
          → it ≡ record { fiber = g; did = did_fork how n; reply = said.Fiber kept.number number }
          → BecomesUnder nodes (forks_at_head number body nodes) kept new
          → MakesUnder nodes (own_call script (ask.Fork how n (block_at nodes body)) g) kept it new
      makes_forked body number is_number room is_told becomes =
          makes_as nodes _ (λ l. told g (did_fork how n) (said.Fiber l.number number) (forks_at_head number body nodes l)) kept it new
          (λ texts l mirrors.
          makes_there (block_at nodes body) room texts l mirrors ∙ (makes_so daemon body l
          ∙ ap (λ (m : ℕ). told g (did_fork how n) (said.Fiber l.number m) (forks_at_head m body nodes l)) (mirrors.count ∙ sym is_number)))
          (record {
            tells = λ texts l mirrors. subst (λ (x : Told). Tells (told g (did_fork how n) (said.Fiber l.number number) (forks_at_head number body nodes l)) x) (sym is_told)
                (record { fiber = refl; did = refl; reply = ap (λ (m : ℕ). said.Fiber m number) mirrors.number });
            becomes = becomes;
          })
