-- Among blocks whose numbers rise, a look-up by the number of one finds that one.
use Rattle.std.proofs.Common.{◌≡◌, ℕ, zero, suc, ◌+◌, ◌<◌, ◌≤◌, ◌==◌, Bool, true, false, cond, List, [], ◌∷◌, length, get_or, Option, Some, refl, ap, ◌∙◌, subst, arith}
use Rattle.std.specs.Prelude.{find, All, AllPairs}
use Rattle.std.specs.Option.{unwrap_or}
use Rattle.std.proofs.lemmas.Bool.{eq-eqb, ne_eqb, eqb-true}
use Rattle.std.proofs.lemmas.List.Elements.{All-nil, All-cons, All-weaker, Contains-get_or}
use Rattle.std.proofs.lemmas.List.Kept.{AllPairs-cons}
use Rattle.spec_script.specs.Scripts.{Script}
use Rattle.spec_script.specs.Syntax.{Block, Begins, Done}
use Rattle.script_code.specs.Numbered.{HasNumbers}
use Rattle.spec_fiber.specs.Numbered.{number_of, block_numbered}
use Rattle.fiber_step.specs.Numbering.Beginnings.{blocks_in}
use Rattle.fiber_step.specs.Numbering.Laws.{FoundByNumber, AllFoundByNumber, FoundHasNumber, BlocksByNumber, NumbersRise}
use Rattle.fiber_step.proofs.Numbering.Rising.{Rise, bodies_rise}

-- the look-up of a number
abbrev look_up : (number : ℕ) → List Block → Option Block
look_up number blocks = find (λ b. number_of b == number) blocks

past_other : (number : ℕ) (other : Block) (blocks : List Block) → number_of other + 1 ≤ number → look_up number (other ∷ blocks) ≡ look_up number blocks
past_other number other blocks less =
    ap (λ (t : Bool). cond t (Some other) (look_up number blocks)) (ne_eqb (number_of other) number (λ e. omega (arith, less, e)))

at_itself : (b : Block) (blocks : List Block) → look_up (number_of b) (b ∷ blocks) ≡ Some b
at_itself b blocks = ap (λ (t : Bool). cond t (Some b) (look_up (number_of b) blocks)) (eq-eqb (number_of b) (number_of b) refl)

-- the block at a place is found, and its number is no less than the first
found_at : (from to : ℕ) (blocks : List Block) → Rise from to blocks → (k : ℕ) → k < length blocks → (b : Block) → get_or blocks k b ≡ b
    → (from ≤ number_of b) × (look_up (number_of b) blocks ≡ Some b)
found_at from to [] rise k less b is = absurd (omega (arith, less))
found_at from to (x ∷ blocks) rise zero less b is =
    subst (λ (y : Block). (from ≤ number_of y) × (look_up (number_of y) (x ∷ blocks) ≡ Some y)) is (rise.0, at_itself x blocks)
found_at from to (x ∷ blocks) rise (suc k) less b is =
    let rest = found_at (number_of x + 1) to blocks rise.1 k (omega (arith, less)) b is in
    let first = rise.0 in
    let next = rest.0 in
    (omega (arith, first, next), past_other (number_of b) x blocks rest.0 ∙ rest.1)

-- ## Scripts

script_rises : (script : Script) → HasNumbers script → (to : ℕ) × Rise 0 to (blocks_in script)
script_rises script has = (_, bodies_rise 0 script.bodies has.numbered)

pub found_by_number : FoundByNumber
unfolding block_numbered
found_by_number script has block at =
    let rise = script_rises script has in
    ap (λ found. unwrap_or found (Begins (number_of block) Done)) (found_at 0 rise.0 (blocks_in script) rise.1 at.0 at.1 block at.2).1

all_found : AllFoundByNumber
all_found script has = λ k d less. found_by_number script has (get_or (blocks_in script) k d) (Contains-get_or (blocks_in script) k d less)

-- whatever is looked up
number_found : (number : ℕ) (blocks : List Block) → number_of (unwrap_or (look_up number blocks) (Begins number Done)) ≡ number
number_found number [] = refl
number_found number (b ∷ blocks) = by (number_of b == number) refl (number_found number blocks)
  where
    by : (t : Bool) → (number_of b == number) ≡ t → number_of (unwrap_or (look_up number blocks) (Begins number Done)) ≡ number
        → number_of (unwrap_or (cond t (Some b) (look_up number blocks)) (Begins number Done)) ≡ number
    by true e others = eqb-true (number_of b) number e
    by false e others = others

found_has_number : FoundHasNumber
unfolding block_numbered
found_has_number script number = number_found number (blocks_in script)

pub blocks_by_number : BlocksByNumber
blocks_by_number = record { block = found_by_number; all = all_found; number = found_has_number }

-- ## Order

-- b has no lesser number
abbrev NoLess : (from : ℕ) → Block → Type 0
NoLess from b = from ≤ number_of b

-- b begins first
abbrev Before : Block → Block → Type 0
Before b c = number_of b < number_of c

none_less : (from to : ℕ) (blocks : List Block) → Rise from to blocks → All (NoLess from) blocks
none_less from to [] rise = All-nil (NoLess from)
none_less from to (b ∷ blocks) rise =
    let first = rise.0 in
    All-cons (NoLess from) b blocks rise.0
    (All-weaker (NoLess (number_of b + 1)) (NoLess from) (λ c less. omega (arith, first, less)) blocks (none_less (number_of b + 1) to blocks rise.1))

pairs_rise : (from to : ℕ) (blocks : List Block) → Rise from to blocks → AllPairs Before blocks
pairs_rise from to [] rise = λ i j d less within. absurd (omega (arith, within))
pairs_rise from to (b ∷ blocks) rise =
    AllPairs-cons Before b blocks
    (All-weaker (NoLess (number_of b + 1)) (Before b) (λ c less. omega (arith, less)) blocks (none_less (number_of b + 1) to blocks rise.1))
    (pairs_rise (number_of b + 1) to blocks rise.1)

pub numbers_rise : NumbersRise
numbers_rise script has = let rise = script_rises script has in pairs_rise 0 rise.0 (blocks_in script) rise.1
