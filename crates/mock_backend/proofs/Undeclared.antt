-- Nothing is declared, so that nothing is called and nobody waits on an object.
use Rattle.std.proofs.Common.{◌≡◌, ℕ, Bool, true, false, List, [], ◌∷◌, None, Some, refl, ap, sym, ◌∙◌, arith}
use Rattle.std.specs.Prelude.{All, map, slice_get}
use Rattle.std.proofs.lemmas.Bool.{false≢true}
use Rattle.eio_value.specs.declared.call.Call.{Call}
use Rattle.eio_value.specs.declared.message.Waiter.{Waiter}
use Rattle.eio_value.specs.declared.mock_call.MockCall.{MockCall}
use Rattle.eio_value.specs.declared.mock_call.MockCall.TheVariants as mock
use Rattle.eio_value.specs.Fitting.{Bounds}
use Rattle.eio_value.specs.Things.{ThingKind, Flows, Directories, Readers, Writers, Capabilities, Wanted, wanted_by, serves, Serves, is_shut, FitsMock}
use Rattle.eio_value.specs.Waits.{HasObject, ObjectKind}
use Rattle.mock_backend.specs.declared.local.Declared.{Declared}
use Rattle.mock_backend.specs.declared.local.Local.{Local}
use Rattle.mock_backend.specs.Objects.{kind_of, one_has_waiter, thing_if, thing_in, terms_of, is_open_in}

none_some : {A : Type 0} (x : A) → None ≡ Some x → ⊥
none_some x e = cc

no_kind : (declared : List Declared) (number : ℕ) (kind : ObjectKind) → slice_get (map kind_of declared) number ≡ Some kind → ⊥
no_kind [] number kind e = none_some kind e
no_kind (it ∷ others) number kind e = elim it [ ]

-- no call is on an object
pub no_object : (l : Local) (call : Call) → HasObject (terms_of l) call → ⊥
no_object l call has = no_kind l.declared.items _ has.0 has.1

no_waiter : (declared : List Declared) (who : Waiter) → one_has_waiter declared who ≡ true → ⊥
no_waiter [] who e = false≢true e
no_waiter (it ∷ others) who e = elim it [ ]

-- no wait is open
pub none_open : (l : Local) (who : Waiter) → is_open_in l who ≡ true → ⊥
none_open l who e = no_waiter l.declared.items who e

no_thing : (declared : List Declared) (number : ℕ) → thing_if (slice_get declared number) ≡ None
no_thing [] number = refl
no_thing (it ∷ others) number = elim it [ ]

nothing_serves : (kind : ThingKind) → serves None kind ≡ false
nothing_serves Flows = refl
nothing_serves Directories = refl
nothing_serves Readers = refl
nothing_serves Writers = refl
nothing_serves Capabilities = refl

abbrev has_one : List Wanted → Bool
has_one [] = false
has_one (wanted ∷ others) = true

none_served : (l : Local) (all : List Wanted) → has_one all ≡ true → All (Serves (thing_in l)) all → ⊥
none_served l [] one all = false≢true one
none_served l (wanted ∷ others) one all =
    false≢true (sym (nothing_serves wanted.kind) ∙ (ap (λ found. serves found wanted.kind) (sym (no_thing l.declared.items wanted.number)) ∙ all 0 wanted (omega arith)))

-- no call is on what lies outside
pub no_mock : (l : Local) (bounds : Bounds) (call : MockCall) → FitsMock bounds (thing_in l) call → ⊥
no_mock l bounds (mock.Shut number raised) fits = false≢true (ap is_shut (sym (no_thing l.declared.items number)) ∙ fits.shut)
no_mock l bounds call fits = none_served l (wanted_by call) refl fits.wanted
