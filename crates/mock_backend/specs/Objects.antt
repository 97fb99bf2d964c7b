-- The objects of a mocked domain. No kind of object is built, so that nothing is declared, nobody waits on anything, and no call can be made.
use Rattle.std.proofs.Common.{ap}
use Rattle.std.specs.Prelude.{◌≡◌, ℕ, Bool, true, false, refl, ◌||◌, List, [], ◌∷◌, length, map, slice_get, Option, Some, None}
use Rattle.eio_value.specs.declared.call.Answered.{Answered}
use Rattle.eio_value.specs.declared.call.Call.{Call}
use Rattle.eio_value.specs.declared.call.Struck.{Struck}
use Rattle.eio_value.specs.declared.message.Message.{Message}
use Rattle.eio_value.specs.declared.message.Waiter.{Waiter}
use Rattle.eio_value.specs.declared.mock_call.Extra.{Extra}
use Rattle.eio_value.specs.declared.mock_call.MockCall.{MockCall}
use Rattle.eio_value.specs.Things.{ThingKind, LeavesOutside}
use Rattle.eio_value.specs.Waits.{ObjectKind, Terms}
use Rattle.domain_core.specs.Keeping.{KeptDomain}
use Rattle.domain_core.specs.Objects.{AreFor}
use Rattle.mock_backend.specs.declared.local.Declared.{Declared}
use Rattle.mock_backend.specs.declared.local.Local.{Local}

-- ## What is declared

abbrev pub kind_of : Declared → ObjectKind
kind_of it = elim it [ ]

abbrev pub thing_of : Declared → ThingKind
thing_of it = elim it [ ]

-- whether this fiber waits on it
abbrev pub has_waiter : Declared → Waiter → Bool
has_waiter it who = elim it [ ]

abbrev pub one_has_waiter : List Declared → Waiter → Bool
one_has_waiter [] who = false
one_has_waiter (it ∷ others) who = has_waiter it who || one_has_waiter others who

abbrev pub thing_if : Option Declared → Option ThingKind
thing_if None = None
thing_if (Some it) = Some (thing_of it)

-- ## What is said of them all

abbrev pub terms_of : Local → Terms
terms_of l = record { domain = 0; cells = 1024; kinds = map kind_of l.declared.items; submits = []; failures = None }

-- how many texts they know of
abbrev pub texts_in : Local → ℕ
texts_in l = l.texts

abbrev pub is_open_in : Local → Waiter → Bool
is_open_in l who = one_has_waiter l.declared.items who

abbrev pub thing_in : Local → (number : ℕ) → Option ThingKind
thing_in l number = thing_if (slice_get l.declared.items number)

-- they are what a turn of the mocked domain 0 is given, whatever moves it has made
abbrev pub AreForMocked : Local → Type 0
AreForMocked l = (kept : KeptDomain) → kept.number ≡ 0 → kept.mocked ≡ true → AreFor kept true (terms_of l) 0 (is_open_in l)

-- ## What calls do

-- no call is ever made
abbrev pub Calls : Local → Waiter → Bool → (stamp serial : ℕ) → Call → Answered → Local → Type 0
Calls before who off stamp serial call answered after = ⊥

abbrev pub Strikes : Local → Waiter → (stamp : ℕ) → Struck → Local → Type 0
Strikes before who stamp struck after = ⊥

abbrev pub Asks : Local → (texts : List (List ℕ)) → MockCall → (serial : ℕ) → Extra → (behind : List (List ℕ)) → Local → Type 0
Asks before texts call serial answer behind after = ⊥

-- no message ever comes
abbrev pub Receives : Local → Option Message → Local → Type 0
Receives before message after = (message ≡ None) × (after ≡ before)

abbrev pub Learns : Local → (texts : List (List ℕ)) → Local → Type 0
Learns before texts after = after ≡ record before { texts = length texts }

-- what is as it was leaves the outside as it was
pub outside_stays : (before after : Local) → after ≡ before → LeavesOutside true 0 (thing_in before) true 0 (thing_in after)
outside_stays before after same = record { same = refl; asks_nothing = refl; stand = λ number. ap (λ (l : Local). thing_in l number) same }
