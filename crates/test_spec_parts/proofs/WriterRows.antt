-- A writer's calls and its copier's moves: "a" and "b" are written at once, and "c" at the end of the block.
use Rattle.std.proofs.Common.{◌≡◌, ℕ, List, [], true, false, Option, Some, None, refl}
use Rattle.std.specs.Prelude.{Bool, codes}
use Rattle.spec_parts.specs.Writers.{Copier, Moves, Rests, Ended, Writer, new_writer, Pushed, put_bytes, Carried, carry, shut_writer, shut_waits}

abbrev writer : List ℕ → Bool → Copier → Writer
writer pending closed copier = record { pending = pending; closed = closed; copier = copier }

abbrev pushed : Writer → Bool → Pushed
pushed left wakes = record { writer = left; wakes = wakes }

abbrev carried : Option (List ℕ) → Writer → Carried
carried wrote left = record { wrote = wrote; writer = left }

-- the copier moves first, finds nothing, and rests
copier_rests : carry new_writer ≡ carried None (writer [] false Rests)
copier_rests = refl

put_a : put_bytes (codes "a") (writer [] false Rests) ≡ Some (pushed (writer (codes "a") false Moves) true)
put_a = refl

put_b : put_bytes (codes "b") (writer (codes "a") false Moves) ≡ Some (pushed (writer (codes "ab") false Moves) false)
put_b = refl

wrote_ab : carry (writer (codes "ab") false Moves) ≡ carried (Some (codes "ab")) (writer [] false Moves)
wrote_ab = refl

put_c : put_bytes (codes "c") (writer [] false Rests) ≡ Some (pushed (writer (codes "c") false Moves) true)
put_c = refl

shut : shut_writer false (writer (codes "c") false Moves) ≡ pushed (writer (codes "c") true Moves) false
shut = refl

shut_waits_for_the_copier : shut_waits (writer (codes "c") true Moves) ≡ true
shut_waits_for_the_copier = refl

wrote_c : carry (writer (codes "c") true Moves) ≡ carried (Some (codes "c")) (writer [] true Moves)
wrote_c = refl

copier_ends : carry (writer [] true Moves) ≡ carried None (writer [] true Ended)
copier_ends = refl

shut_returns : shut_waits (writer [] true Ended) ≡ false
shut_returns = refl

-- the end of the block wakes a copier that rests
shut_wakes : shut_writer false (writer [] false Rests) ≡ pushed (writer [] true Moves) true
shut_wakes = refl

-- after an exception what is pending is dropped
shut_drops : shut_writer true (writer (codes "c") false Moves) ≡ pushed (writer [] true Moves) false
shut_drops = refl

-- no byte adds nothing and wakes nobody
put_nothing : put_bytes [] (writer [] false Rests) ≡ Some (pushed (writer [] false Rests) false)
put_nothing = refl

-- behind the end of the block nothing is put, not even no byte
put_closed : put_bytes [] (writer [] true Ended) ≡ None
put_closed = refl
