-- A call that waits in a list, on the one side of a row where fibers wait.
use Rattle.std.proofs.Common.{◌≡◌, Bool, true, false, ◌++◌, ◌∷◌, [], refl, None}
use Rattle.eio_value.specs.declared.call.Answer.{Answer}
use Rattle.eio_value.specs.declared.call.Answer.TheVariants as answer
use Rattle.spec_parts.specs.Data.{Data}
use Rattle.spec_parts.specs.Row.{Queued, Side, Takers, Adders, Waits, otherwise}
use Rattle.wait_list.specs.Lists.{WaitingList, only_side}
use Rattle.wait_list.specs.Waits.{others}

-- what `wait` says is what the call gives alone
pub waited : (values : Data) (side : Side) (queued : Queued) (off : Bool) (before after : WaitingList) (given : Answer)
    → (off ≡ true → (given ≡ answer.Off) × (after ≡ before))
    → (off ≡ false → (given ≡ answer.Waits) × (after ≡ record before { waiting = others queued.who.cell before.waiting ++ queued ∷ [] }))
    → otherwise (only_side side before.waiting values) queued.who off (Waits values side queued.item queued.number) ≡ record { row = only_side side after.waiting values; answer = given; sent = None }
waited values Takers queued true before after given is_off is_on = rw ((is_off refl).0, (is_off refl).1) refl
waited values Adders queued true before after given is_off is_on = rw ((is_off refl).0, (is_off refl).1) refl
waited values Takers queued false before after given is_off is_on = rw ((is_on refl).0, (is_on refl).1) refl
waited values Adders queued false before after given is_off is_on = rw ((is_on refl).0, (is_on refl).1) refl
