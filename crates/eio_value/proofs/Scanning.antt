-- A call that asks waiters in order, over any `Wake`: how it begins, goes on behind one that was dead, and ends with one that is alive.
use Rattle.std.proofs.Common.{◌≡◌, Bool, true, false, List, [], ◌∷◌, ◌++◌, refl}
use Rattle.std.specs.Prelude.{All}
use Rattle.std.proofs.lemmas.List.Elements.{All-nil, All-push, All-weaker}
use Rattle.eio_value.specs.declared.message.Waiter.{Waiter}
use Rattle.eio_value.specs.Waking.{Test, IsKnown, IsUnknown, Keeps, Skips, Scans}

all_stay_known : (knew knows : Test) → Keeps knew knows → (waiters : List Waiter) → All (IsKnown knew) waiters → All (IsKnown knows) waiters
all_stay_known knew knows keeps waiters all = All-weaker (IsKnown knew) (IsKnown knows) (λ who known. keeps who.cell who.armed known) waiters all

pub keeps_on : (first second third : Test) → Keeps first second → Keeps second third → Keeps first third
keeps_on first second third before behind cell armed known = behind cell armed (before cell armed known)

pub scan_starts : (knew : Test) (tells : Bool) → Scans knew knew tells []
scan_starts knew tells = record {
  skips = record { known = All-nil (IsKnown knew); told = λ _. All-nil (IsKnown knew) };
  keeps = λ cell armed known. known;
  exact = λ _ cell armed known. known;
}

-- one more was dead
pub scan_lost : (knew mid knows : Test) (tells : Bool) (dead : List Waiter) (who : Waiter) → Scans knew mid tells dead
    → Keeps mid knows → (tells ≡ true → Keeps knows mid) → IsKnown knows who → Scans knew knows tells (dead ++ who ∷ [])
scan_lost knew mid knows tells dead who scans keeps back known = record {
  skips = record {
    known = All-push (IsKnown knows) dead who (all_stay_known mid knows keeps dead scans.skips.known) known;
    told = λ told. All-push (IsKnown knew) dead who (scans.skips.told told) (scans.exact told who.cell who.armed (back told who.cell who.armed known));
  };
  keeps = keeps_on knew mid knows scans.keeps keeps;
  exact = λ told. keeps_on knows mid knew (back told) (scans.exact told);
}

pub unknown_before : (knew mid : Test) → Keeps knew mid → (who : Waiter) → IsUnknown mid who → IsUnknown knew who
unknown_before knew mid keeps who unknown = go (knew who.cell who.armed) refl
  where
    go : (b : Bool) → knew who.cell who.armed ≡ b → knew who.cell who.armed ≡ false
    go true e = let known : mid who.cell who.armed ≡ true = keeps who.cell who.armed e in cc
    go false e = e

-- one that was alive ends it
pub scan_won : (knew mid knows : Test) (tells : Bool) (dead : List Waiter) (who : Waiter) → Scans knew mid tells dead
    → Keeps mid knows → IsUnknown mid who → Skips knew knows tells dead × Keeps knew knows × IsUnknown knew who
scan_won knew mid knows tells dead who scans keeps unknown = (
  record { known = all_stay_known mid knows keeps dead scans.skips.known; told = scans.skips.told },
  keeps_on knew mid knows scans.keeps keeps,
  unknown_before knew mid scans.keeps who unknown,
)
