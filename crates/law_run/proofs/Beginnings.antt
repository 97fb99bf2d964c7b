-- A run of n + k moves is one of n, and one of k behind it. What is a list of what moves are, or write, begins as they do.
use Rattle.std.proofs.Common.{◌≡◌, ℕ, zero, suc, ◌+◌, List, [], ◌∷◌, ◌++◌, Option, Some, None, refl, sym, ap, ◌∙◌, arith}
use Rattle.std.specs.Prelude.{map}
use Rattle.std.proofs.lemmas.List.{map-append}
use Rattle.std.proofs.lemmas.Grind.{flat_map-append}
use Rattle.spec_script.specs.Scripts.{Script}
use Rattle.spec_machine.specs.Mock.{Mock, Moved, opening, move, moves, mock}
use Rattle.spec_machine.specs.Trace.{last_after, run, trace, written_by}
use Rattle.law_run.specs.Beginnings.{MovesBeginAlike, StatesBeginAlike, TracesBeginAlike}

-- at most n moves, of which the first is this one, if there is one
abbrev pub from : Script → (n : ℕ) → Option Moved → List Moved
from script n first = elim first [ None ↦ [] | Some moved ↦ moved ∷ moves script n moved.next ]

pub moves-suc : (script : Script) (n : ℕ) (m : Mock) → moves script (suc n) m ≡ from script n (move script m)
unfolding moves
moves-suc script n m = refl

-- where no move exists, none is made
pub stays : (script : Script) (n : ℕ) (m : Mock) → move script m ≡ None → moves script n m ≡ []
unfolding moves
stays script zero m none = refl
stays script (suc n) m none = ap (from script n) none

pub moves_on : (script : Script) (n k : ℕ) (m : Mock) → moves script (n + k) m ≡ moves script n m ++ moves script k (last_after m (moves script n m))
unfolding moves
moves_on script zero k m = ap (λ n. moves script n m) (let e : 0 + k ≡ k = omega arith in e)
moves_on script (suc n) k m =
    ap (λ n. moves script n m) (let e : suc n + k ≡ suc (n + k) = omega arith in e) ∙ by (move script m) refl (moves_on script n k)
  where
    by : (first : Option Moved) → move script m ≡ first
        → ((next : Mock) → moves script (n + k) next ≡ moves script n next ++ moves script k (last_after next (moves script n next)))
        → from script (n + k) first ≡ from script n first ++ moves script k (last_after m (from script n first))
    by None none rest = sym (stays script k m none)
    by (Some moved) is rest = ap (λ (l : List Moved). moved ∷ l) (rest moved.next)

-- the moves behind the first n
abbrev behind : Script → (n k : ℕ) → List Moved
behind script n k = moves script k (last_after (opening script) (moves script n (opening script)))

pub moves_begin_alike : MovesBeginAlike
unfolding run
moves_begin_alike script n k = record { more = behind script n k; same = moves_on script n k (opening script) }

pub states_begin_alike : StatesBeginAlike
unfolding mock
states_begin_alike script n k =
    let next : Moved → Mock = λ moved. moved.next in
    record {
      more = map next (behind script n k);
      same = ap (λ (l : List Moved). opening script ∷ map next l) (moves_on script n k (opening script))
          ∙ ap (λ (l : List Mock). opening script ∷ l) (map-append next (moves script n (opening script)) (behind script n k));
    }

pub traces_begin_alike : TracesBeginAlike
unfolding run
traces_begin_alike script n k =
    record {
      more = trace script (behind script n k);
      same = ap (trace script) (moves_on script n k (opening script)) ∙ flat_map-append (written_by script) (moves script n (opening script)) (behind script n k);
    }
