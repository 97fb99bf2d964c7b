-- Which scopes each fiber has, once one of them has others.
use Rattle.std.proofs.Common.{◌≡◌, ◌≢◌, ℕ, zero, suc, ◌<◌, Bool, true, false, ◌==◌, List, [], ◌∷◌, length, cond, refl, ap, sym, true≢false, eq-eqb, ne_eqb, arith}
use Rattle.spec_parts.specs.Contexts.{Context, is_live}
use Rattle.spec_parts.specs.Groups.{Group, group_at}
use Rattle.spec_parts.specs.Switches.{Switch, switch_at}
use Rattle.law_domain.specs.Sound.Scopes.{Entered, InContext, InSwitch, InGroup}

abbrev pub with_held : (g : ℕ) → List Entered → (ℕ → List Entered) → ℕ → List Entered
with_held g these held h = cond (h == g) these (held h)

pub held_here : (g : ℕ) (these : List Entered) (held : ℕ → List Entered) → with_held g these held g ≡ these
held_here g these held = ap (λ b. cond b these (held g)) (eq-eqb g g refl)

pub held_elsewhere : (g : ℕ) (these : List Entered) (held : ℕ → List Entered) (h : ℕ) → h ≢ g → with_held g these held h ≡ held h
held_elsewhere g these held h other = ap (λ b. cond b these (held h)) (ne_eqb h g other)

-- ## Scopes of one kind are none of another

abbrev is_switch : Entered → Bool
is_switch scope = elim scope [ InContext c ↦ false | InSwitch n ↦ true | InGroup n own ↦ false ]

abbrev is_group : Entered → Bool
is_group scope = elim scope [ InContext c ↦ false | InSwitch n ↦ false | InGroup n own ↦ true ]

abbrev pub group_in : Entered → ℕ
group_in scope = elim scope [ InContext c ↦ 0 | InSwitch n ↦ 0 | InGroup n own ↦ n ]

abbrev pub own_in : Entered → Bool
own_in scope = elim scope [ InContext c ↦ false | InSwitch n ↦ false | InGroup n own ↦ own ]

abbrev switch_in : Entered → ℕ
switch_in scope = elim scope [ InContext c ↦ 0 | InSwitch n ↦ n | InGroup n own ↦ 0 ]

pub context_no_switch : (c n : ℕ) → InContext c ≡ InSwitch n → ⊥
context_no_switch c n e = true≢false (sym (ap is_switch e))

pub context_no_group : (c n : ℕ) (own : Bool) → InContext c ≡ InGroup n own → ⊥
context_no_group c n own e = true≢false (sym (ap is_group e))

pub switch_no_group : (m n : ℕ) (own : Bool) → InSwitch m ≡ InGroup n own → ⊥
switch_no_group m n own e = true≢false (sym (ap is_group e))

pub same_switch : (m n : ℕ) → InSwitch m ≡ InSwitch n → m ≡ n
same_switch m n e = ap switch_in e

-- ## What is there was made

pub live_below : (made : List Context) (c : ℕ) → is_live made c ≡ true → c < length made
live_below [] c live = absurd (true≢false (sym live))
live_below (x ∷ made) zero live = omega arith
live_below (x ∷ made) (suc c) live = (let below : c < length made = live_below made c live in omega (arith, below))

pub unfinished_below : (switches : List Switch) (n : ℕ) → (switch_at switches n).finished ≡ false → n < length switches
unfinished_below [] n still = absurd (true≢false still)
unfinished_below (x ∷ switches) zero still = omega arith
unfinished_below (x ∷ switches) (suc n) still = (let below : n < length switches = unfinished_below switches n still in omega (arith, below))

pub groups_below : (made : List Group) (n : ℕ) → 0 < (group_at made n).context → n < length made
groups_below [] n low = absurd (omega (arith, low))
groups_below (x ∷ made) zero low = omega arith
groups_below (x ∷ made) (suc n) low = (let below : n < length made = groups_below made n low in omega (arith, below))
