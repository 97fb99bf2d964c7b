-- Nobody waits on one of the two sides, and so no cell stands twice; it stays so when a list was asked.
use Rattle.std.proofs.Common.{◌≡◌, ℕ, ◌+◌, ◌≤◌, Bool, List, [], ◌∷◌, ◌++◌, length, Option, refl, sym, ◌∙◌, arith}
use Rattle.eio_value.specs.declared.raised.Outcome.{Outcome}
use Rattle.eio_value.specs.declared.value.Value.{Value}
use Rattle.eio_value.specs.Sending.{Sent}
use Rattle.eio_value.specs.Waking.{Test}
use Rattle.spec_parts.specs.Row.{Queued}
use Rattle.wait_list.specs.Finding.{Finds, WakesFirst}
use Rattle.wait_list.specs.Lists.{WaitingList}
use Rattle.wait_list.specs.Waits.{count, EachCellOnce}
use Rattle.stream_core.specs.Whole.{HasOneSide, IsWhole}

left_of : (outcome : Outcome) (found : Option Queued) (left : List Queued) (sent : Option Sent) (dead rest : List Queued) → [] ≡ dead ++ rest → WakesFirst outcome found left sent rest → left ≡ []
left_of outcome found left sent [] [] all wakes = wakes.1
left_of outcome found left sent [] (x ∷ xs) all wakes = absurd (cc)
left_of outcome found left sent (x ∷ xs) rest all wakes = absurd (cc)

-- a list that was empty is empty when it was asked
stays_empty : (knew knows : Test) (tells : Bool) (list : List Queued) (outcome : Outcome) (found : Option Queued) (left : List Queued) (sent : Option Sent) → Finds knew knows tells list (WakesFirst outcome found left sent) → list ≡ [] → left ≡ []
stays_empty knew knows tells list outcome found left sent finds none = left_of outcome found left sent finds.dead finds.rest (sym none ∙ finds.are_all) finds.gives

takers_left : (takers left adders : List Queued) → (takers ≡ [] → left ≡ []) → HasOneSide takers adders → HasOneSide left adders
takers_left takers [] adders empties one = tt
takers_left takers (x ∷ xs) [] empties one = tt
takers_left [] (x ∷ xs) (y ∷ ys) empties one = absurd (let e : x ∷ xs ≡ [] = empties refl in cc)
takers_left (t ∷ ts) (x ∷ xs) (y ∷ ys) empties one = one

adders_left : (takers adders left : List Queued) → (adders ≡ [] → left ≡ []) → HasOneSide takers adders → HasOneSide takers left
adders_left [] adders left empties one = tt
adders_left (t ∷ ts) adders [] empties one = tt
adders_left (t ∷ ts) [] (x ∷ xs) empties one = absurd (let e : x ∷ xs ≡ [] = empties refl in cc)
adders_left (t ∷ ts) (a ∷ as') (x ∷ xs) empties one = one

pub no_adders : (takers : List Queued) → HasOneSide takers []
no_adders [] = tt
no_adders (x ∷ xs) = tt

-- the takers were asked
pub takers_asked : (knew knows : Test) (tells : Bool) (items : List Value) (capacity : ℕ) (takers now adders : WaitingList) (outcome : Outcome) (found : Option Queued) (sent : Option Sent)
    → IsWhole items capacity takers adders → now.cells ≡ takers.cells → Finds knew knows tells takers.waiting (WakesFirst outcome found now.waiting sent) → IsWhole items capacity now adders
takers_asked knew knows tells items capacity takers now adders outcome found sent whole cells finds = record {
  fits = whole.fits;
  small = whole.small;
  alike = whole.alike ∙ sym cells;
  one_side = takers_left takers.waiting now.waiting adders.waiting (stays_empty knew knows tells takers.waiting outcome found now.waiting sent finds) whole.one_side;
}

-- the adders were asked, and the items have changed
pub adders_asked : (knew knows : Test) (tells : Bool) (items kept : List Value) (capacity room : ℕ) (takers adders now : WaitingList) (outcome : Outcome) (found : Option Queued) (sent : Option Sent)
    → IsWhole items capacity takers adders → now.cells ≡ adders.cells → Finds knew knows tells adders.waiting (WakesFirst outcome found now.waiting sent) → room ≡ capacity → length kept ≤ room → IsWhole kept room takers now
adders_asked knew knows tells items kept capacity room takers adders now outcome found sent whole cells finds same fits = record {
  fits = fits;
  small = rw same whole.small;
  alike = cells ∙ whole.alike;
  one_side = adders_left takers.waiting adders.waiting now.waiting (stays_empty knew knows tells adders.waiting outcome found now.waiting sent finds) whole.one_side;
}

pub once_in_both : (takers adders : List Queued) → HasOneSide takers adders → EachCellOnce takers → EachCellOnce adders → (cell : ℕ) → count cell takers + count cell adders ≤ 1
once_in_both [] adders one first second cell = omega (arith, second cell)
once_in_both (x ∷ xs) [] one first second cell = omega (arith, first cell)
once_in_both (x ∷ xs) (y ∷ ys) one first second cell = absurd one
