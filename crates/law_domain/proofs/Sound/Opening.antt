-- The opening domain of a script of the built forms is sound.
use Rattle.std.proofs.Common.{◌≡◌, ◌⊎◌, inl, ℕ, zero, suc, ◌<◌, Bool, true, false, List, [], ◌∷◌, refl, ap, sym, subst, true≢false, arith}
use Rattle.std.specs.Prelude.{slice_get, slice_index_or}
use Rattle.std.specs.List.{Contains}
use Rattle.std.specs.Option.{unwrap_or}
use Rattle.std.proofs.lemmas.Option.{none-some}
use Rattle.eio_value.specs.declared.raised.Outcome.TheVariants as outcome
use Rattle.eio_value.specs.declared.value.Value.TheVariants as value
use Rattle.spec_parts.specs.Contexts.{is_live}
use Rattle.spec_parts.specs.Switches.{never_opened}
use Rattle.spec_script.specs.Opening.{opening_texts}
use Rattle.spec_script.specs.Syntax.{Block}
use Rattle.spec_machine.specs.Domain.{Role, OfBody, OfJob, OfSwitch, OfGroup, OfWriter, Ready, Next, GoesOn, DomainState, fiber_at, has_ended}
use Rattle.spec_machine.specs.Mock.{opening_domain}
use Rattle.law_domain.specs.Sound.BuiltForms.{IsBuiltBlock}
use Rattle.law_domain.specs.Sound.Laws.{OpensSound, body_of}
use Rattle.law_domain.specs.Sound.Scopes.{Entered, Nests, ScopeAt, base_of, context_in, scopes_of}
use Rattle.law_domain.specs.Sound.SoundStates.{IsSoundFiber, IsSoundState, attached_to}
use Rattle.law_domain.proofs.Sound.BuiltSettle.{items_built}
use Rattle.law_domain.proofs.Sound.Lists.{all_none}

index_or : {X : Type 0} (xs : List X) (n : ℕ) (otherwise : X) → slice_index_or xs n otherwise ≡ unwrap_or (slice_get xs n) otherwise
index_or [] n otherwise = refl
index_or (x ∷ xs) zero otherwise = refl
index_or (x ∷ xs) (suc n) otherwise = index_or xs n otherwise

-- only this number stands alone in a list
alone : (g k : ℕ) → k < 1 → slice_index_or (0 ∷ []) k g ≡ g → g ≡ 0
alone g zero below there = sym there
alone g (suc k) below there = absurd (omega (arith, below))

abbrev is_of_switch : Role → Bool
is_of_switch role = elim role [ OfBody ↦ false | OfJob executor number ↦ false | OfSwitch switch daemon ↦ true | OfGroup group ↦ false | OfWriter writer ↦ false ]

abbrev is_of_some_group : Role → Bool
is_of_some_group role = elim role [ OfBody ↦ false | OfJob executor number ↦ false | OfSwitch switch daemon ↦ false | OfGroup group ↦ true | OfWriter writer ↦ false ]

nobody : (daemon : Bool) → attached_to daemon never_opened ≡ []
nobody true = refl
nobody false = refl

none_attached : (daemon : Bool) (g : ℕ) → Contains (attached_to daemon never_opened) g → ⊥
none_attached true g there = omega (arith, there.1)
none_attached false g there = omega (arith, there.1)

module _ (number : ℕ) (texts : List (List ℕ)) (block : Block) (built : IsBuiltBlock block) where
  abbrev opening : DomainState
  opening = opening_domain number texts block

  each_sound : (g : ℕ) → IsSoundFiber opening g (fiber_at opening.fibers g)
  each_sound zero = record { stand = tt; role = λ lives. refl; position = λ lives. (items_built block built, tt) }
  each_sound (suc g) = record { stand = tt; role = λ lives. absurd (true≢false lives); position = λ lives. absurd (true≢false lives) }

  none_attaches : (n : ℕ) (daemon : Bool) (g : ℕ) → (fiber_at opening.fibers g).role ≡ OfSwitch n daemon → has_ended (fiber_at opening.fibers g) ≡ false → ⊥
  none_attaches n daemon zero role lives = true≢false (sym (ap is_of_switch role))
  none_attaches n daemon (suc g) role lives = true≢false lives

  none_gathers : (n g : ℕ) → (fiber_at opening.fibers g).role ≡ OfGroup n → has_ended (fiber_at opening.fibers g) ≡ false → ⊥
  none_gathers n zero role lives = true≢false (sym (ap is_of_some_group role))
  none_gathers n (suc g) role lives = true≢false lives

  none_in : (scope : Entered) (g i : ℕ) → ScopeAt (scopes_of opening) opening scope g i → ⊥
  none_in scope zero i it = none-some _ it.there
  none_in scope (suc g) i it = true≢false it.lives

  nests_all : (g : ℕ) → has_ended (fiber_at opening.fibers g) ≡ false
      → Nests opening (base_of opening (fiber_at opening.fibers g).role) (scopes_of opening g) (fiber_at opening.fibers g).context
  nests_all zero lives = refl
  nests_all (suc g) lives = absurd (true≢false lives)

  owned_all : (c : ℕ) → is_live opening.contexts c ≡ true
      → (c ≡ 0) ⊎ ((scope : Entered) × (g : ℕ) × (i : ℕ) × ScopeAt (scopes_of opening) opening scope g i × (context_in opening scope ≡ c))
  owned_all zero live = inl refl
  owned_all (suc c) live = absurd (true≢false (sym live))

  pub opening_sound : IsSoundState opening
  opening_sound = record {
    owes = all_none _;
    sleeps = refl;
    fibers = each_sound;
    distinct = λ i j d less below. absurd (omega (arith, less, below));
    ready = λ g it. subst (λ (h : ℕ). (next : Next) × ((fiber_at opening.fibers h).standing ≡ Ready next)) (sym (alone g it.0 it.1 it.2)) (GoesOn (outcome.Ok value.Unit), refl);
    attaching = record {
      attached = λ n daemon g it. absurd (none_attached daemon g it);
      attaches = λ n daemon g role lives. absurd (none_attaches n daemon g role lives);
      emptied = λ n daemon done. nobody daemon;
    };
    scoped = record {
      nests = nests_all;
      entered = λ scope g i it. absurd (none_in scope g i it);
      once = λ one other g h i j it that same. absurd (none_in one g i it);
      opened = λ n still. absurd (true≢false still);
      gathered = λ n g role lives. absurd (none_gathers n g role lives);
      left = λ n own g i it. absurd (none_in _ g i it);
      owned = owned_all;
      root = refl;
      body = λ live. refl;
      rooted = λ lives. refl;
    };
    counted = record {
      live = omega arith;
      fibers_made = omega arith;
      some_context = omega arith;
      contexts_made = omega arith;
      switches_made = omega arith;
      groups_made = omega arith;
    };
  }

pub opens_sound : OpensSound
opens_sound script body forms below = opening_sound body (opening_texts script) (body_of script body)
    (subst IsBuiltBlock (index_or script.bodies body _) (forms body _ below))
