-- Groups: the ends of branches, and the result of `join`. The caller is fiber 0, the group's context 1.
use Rattle.std.proofs.Common.{◌≡◌, ℕ, List, [], ◌∷◌, true, false, refl}
use Rattle.std.specs.Prelude.{Option, Some, None, map, pos, ◌++◌}
use Rattle.eio_value.specs.declared.plain.Plain.{Plain}
use Rattle.eio_value.specs.declared.plain.Plain.TheVariants.{NotFirst}
use Rattle.eio_value.specs.declared.raised.Outcome.{Outcome}
use Rattle.eio_value.specs.declared.raised.Outcome.TheVariants as outcome
use Rattle.eio_value.specs.declared.raised.Raised.{Raised}
use Rattle.eio_value.specs.declared.value.Value.TheVariants.{Unit, Int}
use Rattle.spec_parts.specs.Groups.{Group, Both, All, First, Any, gathered, BranchEnded, branch_ends, Joined, Wait, Give, Raise, join, JoinStep}
use Rattle.test_spec_parts.proofs.Exceptions.{failure, member, one, cancelled, many}

-- a branch ends, or the caller joins
data GroupCall : Type 0 where
  Ends : Outcome → GroupCall
  Joins : GroupCall

-- what is said to it: what cancels the context and who is woken, or what `join` finds
data Said : Type 0 where
  Ended : (cancels : Option Plain) → (woken : Option ℕ) → Said
  Found : JoinStep → Said

unfoldable said_to : List GroupCall → Group → List Said
said_to [] group = []
said_to (Ends result ∷ calls) group =
    let ended : BranchEnded = branch_ends result group in Ended ended.cancels ended.woken ∷ said_to calls ended.group
said_to (Joins ∷ calls) group =
    let joined : Joined = join 0 group in Found joined.step ∷ said_to calls joined.group

value : ℕ → GroupCall
value n = Ends (outcome.Ok (Int (pos n)))

unit : GroupCall
unit = Ends (outcome.Ok Unit)

raises : Raised → GroupCall
raises raised = Ends (outcome.Err raised)

-- `both`: the caller's branch ends first; `join` waits, and gives unit once the other has ended
both_end : said_to (unit ∷ Joins ∷ unit ∷ Joins ∷ []) (gathered Both 1 2) ≡ Ended None None ∷ Found Wait ∷ Ended None (Some 0) ∷ Found (Give Unit) ∷ []
unfolding said_to unit
both_end = refl

-- `both`: the other branch ends first; nobody waits yet, and `join` gives unit at once
other_ends_first : said_to (value 7 ∷ unit ∷ Joins ∷ []) (gathered Both 1 2) ≡ Ended None None ∷ Ended None None ∷ Found (Give Unit) ∷ []
unfolding said_to value unit
other_ends_first = refl

-- `both`: one raises, which cancels the other; the cancelled one's exception gives way
one_raises : said_to (raises (one 0 (failure 0)) ∷ Joins ∷ raises (cancelled 1 (failure 0)) ∷ Joins ∷ []) (gathered Both 1 2) ≡ Ended (Some (failure 0)) None ∷ Found Wait ∷ Ended (Some (failure 0)) (Some 0) ∷ Found (Raise (one 0 (failure 0))) ∷ []
unfolding said_to raises
one_raises = refl

-- `both` that is cancelled from outside raises the first of the two
both_cancelled : said_to (raises (cancelled 0 (failure 0)) ∷ raises (cancelled 1 (failure 0)) ∷ Joins ∷ []) (gathered Both 1 2) ≡ Ended (Some (failure 0)) None ∷ Ended (Some (failure 0)) None ∷ Found (Raise (cancelled 0 (failure 0))) ∷ []
unfolding said_to raises
both_cancelled = refl

-- `all` of one block has no other branch
all_of_one : said_to (value 1 ∷ Joins ∷ []) (gathered All 1 1) ≡ Ended None None ∷ Found (Give Unit) ∷ []
unfolding said_to value
all_of_one = refl

-- `all`: nine branches raise, each of which cancels by its own reason; the first eight are raised, and more were
nine_raise : said_to (map (λ n. raises (one n (failure n))) (1 ∷ 2 ∷ 3 ∷ 4 ∷ 5 ∷ 6 ∷ 7 ∷ 8 ∷ 9 ∷ []) ++ (Joins ∷ [])) (gathered All 1 9)
    ≡ map (λ n. Ended (Some (failure n)) None) (1 ∷ 2 ∷ 3 ∷ 4 ∷ 5 ∷ 6 ∷ 7 ∷ 8 ∷ 9 ∷ []) ++ (Found (Raise (many (map (λ n. member n (failure n)) (1 ∷ 2 ∷ 3 ∷ 4 ∷ 5 ∷ 6 ∷ 7 ∷ 8 ∷ [])) true)) ∷ [])
unfolding said_to raises
nine_raise = refl

-- `first`: both branches end with a value; the first is given, though it isn't the caller's
first_value : said_to (value 1 ∷ value 2 ∷ Joins ∷ []) (gathered First 1 2) ≡ Ended (Some NotFirst) None ∷ Ended None None ∷ Found (Give (Int (pos 1))) ∷ []
unfolding said_to value
first_value = refl

-- `first`: the caller finishes while the other branch is in a protected block, and goes on to its end
protected_branch_ends : said_to (unit ∷ Joins ∷ unit ∷ Joins ∷ []) (gathered First 1 2) ≡ Ended (Some NotFirst) None ∷ Found Wait ∷ Ended None (Some 0) ∷ Found (Give Unit) ∷ []
unfolding said_to unit
protected_branch_ends = refl

-- `first`: the branch that is cancelled by the other's value doesn't count
loser_is_cancelled : said_to (value 5 ∷ Joins ∷ raises (cancelled 0 NotFirst) ∷ Joins ∷ []) (gathered First 1 2) ≡ Ended (Some NotFirst) None ∷ Found Wait ∷ Ended (Some NotFirst) (Some 0) ∷ Found (Give (Int (pos 5))) ∷ []
unfolding said_to value raises
loser_is_cancelled = refl

-- `first`: an exception that isn't a mere cancellation goes before the value, whichever came first
exception_after_value : said_to (value 5 ∷ raises (one 0 (failure 0)) ∷ Joins ∷ []) (gathered First 1 2) ≡ Ended (Some NotFirst) None ∷ Ended (Some (failure 0)) None ∷ Found (Raise (one 0 (failure 0))) ∷ []
unfolding said_to value raises
exception_after_value = refl

value_after_exception : said_to (raises (one 0 (failure 0)) ∷ value 5 ∷ Joins ∷ []) (gathered First 1 2) ≡ Ended (Some (failure 0)) None ∷ Ended (Some NotFirst) None ∷ Found (Raise (one 0 (failure 0))) ∷ []
unfolding said_to value raises
value_after_exception = refl

-- `any`: where all branches were cancelled, the cancellation is raised
any_cancelled : said_to (raises (cancelled 0 (failure 0)) ∷ raises (cancelled 1 (failure 0)) ∷ raises (cancelled 2 (failure 0)) ∷ Joins ∷ []) (gathered Any 1 3) ≡ Ended (Some (failure 0)) None ∷ Ended (Some (failure 0)) None ∷ Ended (Some (failure 0)) None ∷ Found (Raise (cancelled 0 (failure 0))) ∷ []
unfolding said_to raises
any_cancelled = refl

-- `any`: the last branch has the only value
any_last_value : said_to (raises (cancelled 0 (failure 0)) ∷ raises (cancelled 1 (failure 0)) ∷ value 3 ∷ Joins ∷ []) (gathered Any 1 3) ≡ Ended (Some (failure 0)) None ∷ Ended (Some (failure 0)) None ∷ Ended (Some NotFirst) None ∷ Found (Give (Int (pos 3))) ∷ []
unfolding said_to raises value
any_last_value = refl

-- several exceptions cancel by the reason of their first
several_in_one_branch : said_to (raises (many (member 4 (failure 1) ∷ member 5 (failure 2) ∷ []) false) ∷ unit ∷ Joins ∷ []) (gathered Both 1 2) ≡ Ended (Some (failure 1)) None ∷ Ended None None ∷ Found (Raise (many (member 4 (failure 1) ∷ member 5 (failure 2) ∷ []) false)) ∷ []
unfolding said_to raises unit
several_in_one_branch = refl
