-- A call that asks the fibers of a list in order, over any `Wake`.
use Rattle.std.proofs.Common.{◌≡◌, Bool, true, List, ◌∷◌, [], ◌++◌, drop, slice_get, Option, Some, None, refl, sym, ap, ◌∙◌, append_assoc}
use Rattle.std.proofs.lemmas.List.{map-append}
use Rattle.eio_value.specs.Sending.{Sent}
use Rattle.eio_value.specs.Waking.{Test, Keeps, IsKnown}
use Rattle.eio_value.proofs.Scanning.{scan_lost}
use Rattle.spec_parts.specs.Row.{Row, Queued, Side, queue, with_queue}
use Rattle.spec_parts.specs.Skipping.{Skipping, waiters}
use Rattle.wait_list.specs.Finding.{Finds, Seeks}

-- what a call gives on what is left behind the dead of a list, it gives on the row
pub skipping : (knew knows : Test) (tells : Bool) (row : Row) (side : Side) (P : List Queued → Type 0) (Gives : Row → Type 0)
    → Finds knew knows tells (queue side row) P
    → ((rest : List Queued) → P rest → Gives (with_queue side rest row.values row))
    → Skipping knew knows tells row side Gives
skipping knew knows tells row side P Gives finds gives = record {
  dead = finds.dead;
  rest = finds.rest;
  are_all = finds.are_all;
  skips = finds.skips;
  alive = finds.alive;
  keeps = finds.keeps;
  gives = gives finds.rest finds.gives;
}

-- a list that has a first has it in front
pub first_in_front : (x : Queued) (xs : List Queued) → Some x ≡ slice_get xs 0 → xs ≡ x ∷ drop 1 xs
first_in_front x [] first = absurd (cc)
first_in_front x (y ∷ ys) first = let same : x ≡ y = cc in rw same refl

-- a call that asks and finds one more dead
pub seek_lost : (knew mid knows : Test) (told before tells : Bool) (all left : List Queued) (found : Queued) (rest : List Queued) (kept sent : Option Sent)
    → Seeks knew mid told before all left kept → left ≡ found ∷ rest → Keeps mid knows → (before ≡ true → Keeps knows mid) → IsKnown knows found.who → tells ≡ before → sent ≡ None
    → Seeks knew knows told tells all rest sent
seek_lost knew mid knows told before tells all left found rest kept sent seeks first keeps back known same quiet = record {
  dead = seeks.dead ++ found ∷ [];
  are_all = seeks.are_all ∙ ap (λ (l : List Queued). seeks.dead ++ l) first ∙ sym (append_assoc seeks.dead (found ∷ []) rest);
  scans = rw (map-append (λ (q : Queued). q.who) seeks.dead (found ∷ [])) (scan_lost knew mid knows told (waiters seeks.dead) found.who seeks.scans keeps (λ t. back (seeks.same ∙ t)) known);
  same = same ∙ seeks.same;
  quiet = quiet;
}
