-- The bodies of a script begin at their first nodes.
use Rattle.std.proofs.Common.{◌≡◌, ℕ, zero, suc, ◌+◌, List, [], ◌∷◌, ◌++◌, length, drop, Option, Some, None, refl, sym, ◌∙◌, subst, append-nil}
use Rattle.std.specs.Prelude.{All, slice_get}
use Rattle.std.proofs.lemmas.List.Elements.{All-get_or}
use Rattle.std.proofs.lemmas.Option.{slice_get_within, get_or_from_slice_get}
use Rattle.spec_script.specs.Scripts.{Script}
use Rattle.spec_script.specs.Syntax.{Block, Begins, Statements}
use Rattle.law_script.specs.Scripts.Soundness.{Known, IsSound, IsSoundBlock, in_body, kinds_of}
use Rattle.script_forms.specs.Flat.{flat_statements, flat_bodies, nodes_of}
use Rattle.script_code.specs.Numbered.{AreNumbered, IsNumberedBlock, AreNumberedBodies, HasNumbers}
use Rattle.script_code.specs.Standing.{statements_at, block_at}
use Rattle.script_forms.specs.declared.node.Node.{Node}
use Rattle.fiber_step.specs.Having.{HasStatements}
use Rattle.fiber_step.proofs.Places.{Here, behind_these, in_turn}

-- these statements stand from this number on, and their blocks are numbered where they begin
record BodyStands (nodes : List Node) (at : ℕ) (items : Statements) : Type 0 where
  pub behind : List Node
  pub is : Here nodes at (flat_statements at items ++ behind)
  pub numbered : AreNumbered at items

none_some : (b : Block) → ◌≡◌ {A = Option Block} None (Some b) → ⊥
none_some b e = cc

begins_same : (n m : ℕ) (these those : Statements) → ◌≡◌ {A = Option Block} (Some (Begins n these)) (Some (Begins m those)) → (n ≡ m) × (these ≡ those)
begins_same n m these those e = (cc, cc)

place_of : (nodes : List Node) (at : ℕ) (bodies : List Block) (behind : List Node) → Here nodes at (flat_bodies at bodies ++ behind) → AreNumberedBodies at bodies
    → (k n : ℕ) (items : Statements) → slice_get bodies k ≡ Some (Begins n items) → BodyStands nodes n items
unfolding flat_bodies AreNumberedBodies IsNumberedBlock
place_of nodes at [] behind here numbered zero n items is = absurd (none_some (Begins n items) is)
place_of nodes at [] behind here numbered (suc k) n items is = absurd (none_some (Begins n items) is)
place_of nodes at (Begins m those ∷ rest) behind here numbered zero n items is =
    let same = begins_same m n those items is in
    let first = flat_statements at those in
    let stands : BodyStands nodes at those = record {
      behind = flat_bodies (at + length first) rest ++ behind;
      is = in_turn nodes at first (flat_bodies (at + length first) rest) behind here;
      numbered = numbered.0.1;
    } in
    subst (λ these. BodyStands nodes n these) same.1 (subst (λ j. BodyStands nodes j those) (sym numbered.0.0 ∙ same.0) stands)
place_of nodes at (Begins m those ∷ rest) behind here numbered (suc k) n items is =
    let first = flat_statements at those in
    let others = flat_bodies (at + length first) rest ++ behind in
    place_of nodes (at + length first) rest behind
    (behind_these nodes at first others (in_turn nodes at first (flat_bodies (at + length first) rest) behind here)) numbered.1 k n items is

all_at : {X : Type 0} (P : X → Type 0) (xs : List X) (k : ℕ) (x : X) → All P xs → slice_get xs k ≡ Some x → P x
all_at P xs k x all is = subst P (get_or_from_slice_get xs k x x is) (All-get_or P xs k x (slice_get_within xs k x is) all)

from_first : (nodes : List Node) → drop 0 nodes ≡ nodes
from_first [] = refl
from_first (n ∷ nodes) = refl

begins_by : (nodes : List Node) (known : Known) (n : ℕ) (items : Statements) → BodyStands nodes n items → IsSoundBlock known (Begins n items) → HasStatements nodes n
unfolding IsSoundBlock
begins_by nodes known n items stands good = record { known = known; statements = items; behind = stands.behind; is = stands.is; numbered = stands.numbered; sound = good }

pub body_begins : (script : Script) → IsSound script → HasNumbers script → (k node : ℕ) → slice_get script.bodies k ≡ Some (block_at (nodes_of script) node) → HasStatements (nodes_of script) node
body_begins script good has k node is =
    let nodes = nodes_of script in
    let items = statements_at nodes node in
    begins_by nodes (in_body (kinds_of script.declarations)) node items
    (place_of nodes 0 script.bodies [] (from_first nodes ∙ sym (append-nil nodes)) has.numbered k node items is)
    (all_at (IsSoundBlock (in_body (kinds_of script.declarations))) script.bodies k (Begins node items) good.bodies is)
