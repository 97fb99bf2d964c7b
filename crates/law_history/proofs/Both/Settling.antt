-- What a fiber has still to do stays plain: its silent statements come to a plain call, and leave plain work behind it.
use Rattle.std.proofs.Common.{ℕ, zero, suc, ◌-◌, ◌<◌, Bool, true, false, List, [], ◌∷◌, ◌++◌, length, Option, Some, None}
use Rattle.std.specs.Prelude.{ℤ, pos, negsuc, take, unwrap_or}
use Rattle.std.specs.List.{last_or}
use Rattle.eio_value.specs.declared.raised.Outcome.{Outcome}
use Rattle.eio_value.specs.declared.raised.Outcome.TheVariants as outcome
use Rattle.eio_value.specs.declared.raised.Raised.{Raised}
use Rattle.eio_value.specs.declared.value.Value.{Value}
use Rattle.spec_script.specs.Syntax.{Statement, Let, LetForm, If, Give, Raise, Try, Repeat, Loop, Trace, Yield, Check, AwaitCancel, Sub, Protect, Cancel, Switch, Fork, Fail, OnRelease, Branches, OnObject, OnObjectWith, UseRw, UsePool, Submit, Sleep, Now, BufRead, OnReader, TakeBytes, Copy, BufWrite, Put, OpenDir, OnPath, Save, Group, All, Any, Block, Begins, Statements, Done, Then, Blocks, NoBlocks}
use Rattle.spec_fiber.specs.Asks as ask
use Rattle.spec_fiber.specs.Asks.{Ask, again}
use Rattle.spec_fiber.specs.Evaluation.{Evaluated, Is, Raises, value_of, values_of, number_of}
use Rattle.spec_fiber.specs.Replies.{passed, own_branch, other_branches, entered, handled}
use Rattle.spec_fiber.specs.Settling.{Settled, answered, thrown, settle, resource_of}
use Rattle.spec_fiber.specs.Silent.{Went, Past, Called, Threw, and_then, within, with_value, is_zero, gives, items_of, repeated, branched, statement, block, statements, repeats}
use Rattle.spec_fiber.specs.Work as work
use Rattle.spec_fiber.specs.Work.{Work, Carry, cut, restored, bound, caught}
use Rattle.law_history.proofs.Both.Plain.{IsPlainForking, IsPlainStatement, IsPlainBlock, ArePlainStatements, ArePlainBlocks, ArePlain, plain_listed}

-- of so many objects
module _ (objects : ℕ) where
  -- ## Plain work, and plain calls

  abbrev pub ItemIs : Work → Type 0
  ItemIs (work.Run items) = ArePlainStatements objects items
  ItemIs (work.Try handler keep) = IsPlainBlock objects handler
  ItemIs (work.Loop body keep) = IsPlainBlock objects body
  ItemIs (work.Repeat turn left body keep) = IsPlainBlock objects body
  ItemIs (work.ShutReader reader keep) = ⊥
  ItemIs (work.ShutWriter writer keep) = ⊥
  ItemIs (work.Locking mutex body) = (mutex < objects) × IsPlainBlock objects body
  ItemIs (work.Unlock mutex keep) = mutex < objects
  ItemIs (work.Using pool body) = (pool < objects) × IsPlainBlock objects body
  ItemIs (work.Put pool resource keep) = pool < objects
  ItemIs (work.Resolve promise) = promise < objects
  ItemIs other = Unit {0}

  abbrev pub IsWork : List Work → Type 0
  IsWork [] = Unit {0}
  IsWork (it ∷ more) = ItemIs it × IsWork more

  abbrev pub CallIs : Ask → Type 0
  CallIs (ask.Sub body) = IsPlainBlock objects body
  CallIs (ask.Protect body) = IsPlainBlock objects body
  CallIs (ask.Switch body) = IsPlainBlock objects body
  CallIs (ask.Fork forking switch body) = IsPlainForking objects forking × IsPlainBlock objects body
  CallIs (ask.OnRelease switch handler) = IsPlainBlock objects handler
  CallIs (ask.Branches group blocks) = ArePlain objects blocks
  CallIs (ask.OnObject call object) = object < objects
  CallIs (ask.OnObjectWith call object operand) = object < objects
  CallIs (ask.Use pool) = pool < objects
  CallIs (ask.Submit executor weight given job) = executor < objects
  CallIs (ask.Sleep time) = ⊥
  CallIs ask.Now = ⊥
  CallIs (ask.OpenReader flow limit body) = ⊥
  CallIs (ask.OnReader call reader) = ⊥
  CallIs (ask.TakeBytes reader count) = ⊥
  CallIs (ask.Copy from to) = ⊥
  CallIs (ask.OpenWriter flow body) = ⊥
  CallIs (ask.PutText writer text) = ⊥
  CallIs (ask.OpenDirectory place path body) = ⊥
  CallIs (ask.OnPath call place path) = ⊥
  CallIs (ask.Save only_new place path content) = ⊥
  CallIs (ask.ShutReader reader it) = ⊥
  CallIs (ask.ShutWriter writer it) = ⊥
  CallIs (ask.UnlockEnd mutex it) = mutex < objects
  CallIs (ask.PoisonEnd mutex raised) = mutex < objects
  CallIs (ask.PutEnd pool resource it) = pool < objects
  CallIs (ask.ResolveEnd promise it) = promise < objects
  CallIs other = Unit {0}

  work_append : (a b : List Work) → IsWork a → IsWork b → IsWork (a ++ b)
  work_append [] b h k = k
  work_append (it ∷ a) b h k = (h.0, work_append a b h.1 k)

  pub items_are : (it : Block) → IsPlainBlock objects it → ArePlainStatements objects (items_of it)
  unfolding IsPlainBlock
  items_are (Begins number items) plain = plain

  -- ## Statements

  abbrev GoesIs : Went → Type 0
  GoesIs (Past it c) = Unit {0}
  GoesIs (Called call behind c) = CallIs call × IsWork behind
  GoesIs (Threw raised c) = Unit {0}

  with_value_goes : {A : Type 0} (e : Evaluated A) (c : Carry) (next : A → Went) → ((a : A) → GoesIs (next a)) → GoesIs (with_value e c next)
  with_value_goes (Is it) c next goes = goes it
  with_value_goes (Raises what) c next goes = tt

  and_then_goes : (went : Went) (next : Value → Carry → Went) (catch : Raised → Carry → Went) (more : List Work) → GoesIs went → ((it : Value) (c : Carry) → GoesIs (next it c))
      → ((raised : Raised) (c : Carry) → GoesIs (catch raised c)) → IsWork more → GoesIs (and_then went next catch more)
  and_then_goes (Past it c) next catch more h goes catches behind = goes it c
  and_then_goes (Called call before c) next catch more h goes catches behind = (h.0, work_append before more h.1 behind)
  and_then_goes (Threw raised c) next catch more h goes catches behind = catches raised c

  within_goes : (keep : ℕ) (went : Went) → GoesIs went → GoesIs (within keep went)
  within_goes keep went h = and_then_goes went _ _ (work.Cut keep ∷ []) h (λ it c. tt) (λ raised c. tt) (tt, tt)

  repeats_goes : (turn left : ℕ) (body : Block) (keep : ℕ) (c : Carry) → IsPlainBlock objects body → GoesIs (repeats turn left body keep c)
  repeats_goes turn left body keep c plain = (tt, (items_are body plain, (plain, tt)))

  repeated_goes : (z : ℤ) (body : Block) (c : Carry) → IsPlainBlock objects body → GoesIs (repeated z body c)
  repeated_goes (pos zero) body c plain = tt
  repeated_goes (pos (suc left)) body c plain = repeats_goes 0 left body (length c.variables) c plain
  repeated_goes (negsuc n) body c plain = tt

  branched_goes : (group : Group) (branches : Blocks) (c : Carry) → ArePlainBlocks objects branches → GoesIs (branched group branches c)
  branched_goes All NoBlocks c plain = tt
  branched_goes Any NoBlocks c plain = (tt, tt)
  branched_goes group branches c plain = (plain_listed objects branches plain, tt)

  if_goes : (b : Bool) (one other : Went) → GoesIs one → GoesIs other → GoesIs (elim b [ true ↦ one | false ↦ other ])
  if_goes true one other h k = h
  if_goes false one other h k = k

  mutual
    unfolding statement block statements IsPlainStatement IsPlainBlock ArePlainStatements

    statement_goes : (it : Statement) (c : Carry) → IsPlainStatement objects it → GoesIs (statement it c)
    statement_goes (Let e) c plain = with_value_goes (value_of c.variables e) c _ (λ value. tt)
    statement_goes (LetForm form) c plain = and_then_goes (statement form c) _ _ (work.Bind (length c.variables) ∷ []) (statement_goes form c plain) (λ it d. tt) (λ raised d. tt) (tt, tt)
    statement_goes (If test first second) c plain =
        with_value_goes (number_of c.variables test) c _ (λ z. within_goes (length c.variables) _ (if_goes (is_zero z) (block second c) (block first c) (block_goes second c plain.1) (block_goes first c plain.0)))
    statement_goes (Give e) c plain = with_value_goes (value_of c.variables e) c _ (λ value. tt)
    statement_goes (Raise text) c plain = tt
    statement_goes (Try tried handler) c plain =
        and_then_goes (block tried c) _ _ (work.Try handler (length c.variables) ∷ []) (block_goes tried c plain.0) (λ it d. tt)
        (λ raised d. within_goes (length c.variables) _ (block_goes handler (caught (length c.variables) raised d) plain.1)) (plain.1, tt)
    statement_goes (Repeat times body) c plain = with_value_goes (number_of c.variables times) c _ (λ z. repeated_goes z body c plain)
    statement_goes (Loop body) c plain = (tt, (items_are body plain, (plain, tt)))
    statement_goes (Trace operands) c plain = with_value_goes (values_of c.variables operands) c _ (λ values. (tt, tt))
    statement_goes Yield c plain = (tt, tt)
    statement_goes Check c plain = (tt, tt)
    statement_goes AwaitCancel c plain = (tt, tt)
    statement_goes (Sub body) c plain = (plain, tt)
    statement_goes (Protect body) c plain = (plain, tt)
    statement_goes (Cancel context text) c plain = (tt, tt)
    statement_goes (Switch body) c plain = (plain, tt)
    statement_goes (Fork forking switch body) c plain = (plain, tt)
    statement_goes (Fail switch text) c plain = (tt, tt)
    statement_goes (OnRelease switch handler) c plain = (plain, tt)
    statement_goes (Branches group branches) c plain = branched_goes group branches c plain
    statement_goes (OnObject call object) c plain = (plain, tt)
    statement_goes (OnObjectWith call object operand) c plain = with_value_goes (value_of c.variables operand) c _ (λ value. (plain, tt))
    statement_goes (UseRw mutex body) c plain = (plain.0, (plain, tt))
    statement_goes (UsePool pool body) c plain = (plain.0, (plain, tt))
    statement_goes (Submit executor weight captured job) c plain = (plain.0, tt)
    statement_goes (Sleep time) c plain = absurd plain
    statement_goes Now c plain = absurd plain
    statement_goes (BufRead flow limit body) c plain = absurd plain
    statement_goes (OnReader call reader) c plain = absurd plain
    statement_goes (TakeBytes reader count) c plain = absurd plain
    statement_goes (Copy from to) c plain = absurd plain
    statement_goes (BufWrite flow body) c plain = absurd plain
    statement_goes (Put writer operand) c plain = absurd plain
    statement_goes (OpenDir directory path body) c plain = absurd plain
    statement_goes (OnPath call directory path) c plain = absurd plain
    statement_goes (Save only_new directory path content) c plain = absurd plain

    block_goes : (it : Block) (c : Carry) → IsPlainBlock objects it → GoesIs (block it c)
    block_goes (Begins number items) c plain = statements_goes items c plain

    statements_goes : (items : Statements) (c : Carry) → ArePlainStatements objects items → GoesIs (statements items c)
    statements_goes Done c plain = tt
    statements_goes (Then it rest) c plain =
        if_goes (gives it) (statement it c) _ (statement_goes it c plain.0)
        (and_then_goes (statement it c) _ _ (work.Run rest ∷ []) (statement_goes it c plain.0) (λ value d. statements_goes rest d plain.1) (λ raised d. tt) (plain.1, tt))

  -- ## Work

  abbrev pub SettledIs : Settled → Type 0
  SettledIs it = CallIs it.call × IsWork it.behind

  settle_is : (went : Went) (next : Value → Carry → Settled) (catch : Raised → Carry → Settled) (more : List Work) → GoesIs went → ((it : Value) (c : Carry) → SettledIs (next it c))
      → ((raised : Raised) (c : Carry) → SettledIs (catch raised c)) → IsWork more → SettledIs (settle went next catch more)
  settle_is (Past it c) next catch more h goes catches behind = goes it c
  settle_is (Called call before c) next catch more h goes catches behind = (h.0, work_append before more h.1 behind)
  settle_is (Threw raised c) next catch more h goes catches behind = catches raised c

  mutual
    unfolding answered thrown

    pub answered_is : (more : List Work) (it : Value) (c : Carry) → IsWork more → SettledIs (answered more it c)
    answered_is [] it c h = (tt, tt)
    answered_is (work.Run items ∷ more) it c h =
        settle_is (statements items c) _ _ more (statements_goes items c h.0) (λ u d. answered_is more u d h.1) (λ r d. thrown_is more r d h.1) h.1
    answered_is (work.Cut keep ∷ more) it c h = answered_is more it (cut keep c) h.1
    answered_is (work.Restore variables ∷ more) it c h = answered_is more it (restored variables c) h.1
    answered_is (work.Try handler keep ∷ more) it c h = answered_is more it (cut keep c) h.1
    answered_is (work.Bind slot ∷ more) it c h = answered_is more _ (bound slot it c) h.1
    answered_is (work.Loop body keep ∷ more) it c h = (tt, (items_are body h.0, (h.0, h.1)))
    answered_is (work.Repeat turn zero body keep ∷ more) it c h = answered_is more _ (cut keep c) h.1
    answered_is (work.Repeat turn (suc left) body keep ∷ more) it c h = (tt, (items_are body h.0, (h.0, h.1)))
    answered_is (work.Leave context late keep ∷ more) it c h = (tt, h.1)
    answered_is (work.Close switch keep ∷ more) it c h = (tt, h.1)
    answered_is (work.Closing switch kept ∷ more) it c h = (tt, h.1)
    answered_is (work.Join group keep ∷ more) it c h = (tt, h.1)
    answered_is (work.ShutReader reader keep ∷ more) it c h = absurd h.0
    answered_is (work.ShutWriter writer keep ∷ more) it c h = absurd h.0
    answered_is (work.Locking mutex body ∷ more) it c h =
        settle_is (block body c) _ _ (work.Unlock mutex (length c.variables) ∷ more) (block_goes body c h.0.1) (λ u d. (h.0.0, h.1)) (λ r d. (h.0.0, h.1)) (h.0.0, h.1)
    answered_is (work.Unlock mutex keep ∷ more) it c h = h
    answered_is (work.Using pool body ∷ more) it c h =
        settle_is (block body (bound (length c.variables) it c)) _ _ (work.Put pool (resource_of it) (length c.variables) ∷ more) (block_goes body (bound (length c.variables) it c) h.0.1)
        (λ u d. (h.0.0, h.1)) (λ r d. (h.0.0, h.1)) (h.0.0, h.1)
    answered_is (work.Put pool resource keep ∷ more) it c h = h
    answered_is (work.Resolve promise ∷ more) it c h = h

    pub thrown_is : (more : List Work) (r : Raised) (c : Carry) → IsWork more → SettledIs (thrown more r c)
    thrown_is [] r c h = (tt, tt)
    thrown_is (work.Run items ∷ more) r c h = thrown_is more r c h.1
    thrown_is (work.Cut keep ∷ more) r c h = thrown_is more r c h.1
    thrown_is (work.Restore variables ∷ more) r c h = thrown_is more r (restored variables c) h.1
    thrown_is (work.Try handler keep ∷ more) r c h =
        settle_is (block handler (caught keep r c)) _ _ (work.Cut keep ∷ more) (block_goes handler (caught keep r c) h.0) (λ u d. answered_is more u (cut keep d) h.1) (λ q d. thrown_is more q d h.1) (tt, h.1)
    thrown_is (work.Bind slot ∷ more) r c h = thrown_is more r c h.1
    thrown_is (work.Loop body keep ∷ more) r c h = thrown_is more r c h.1
    thrown_is (work.Repeat turn left body keep ∷ more) r c h = thrown_is more r c h.1
    thrown_is (work.Leave context late keep ∷ more) r c h = (tt, h.1)
    thrown_is (work.Close switch keep ∷ more) r c h = (tt, h.1)
    thrown_is (work.Closing switch kept ∷ more) r c h = (tt, h.1)
    thrown_is (work.Join group keep ∷ more) r c h = (tt, h.1)
    thrown_is (work.ShutReader reader keep ∷ more) r c h = absurd h.0
    thrown_is (work.ShutWriter writer keep ∷ more) r c h = absurd h.0
    thrown_is (work.Locking mutex body ∷ more) r c h = thrown_is more r c h.1
    thrown_is (work.Unlock mutex keep ∷ more) r c h = h
    thrown_is (work.Using pool body ∷ more) r c h = thrown_is more r c h.1
    thrown_is (work.Put pool resource keep ∷ more) r c h = h
    thrown_is (work.Resolve promise ∷ more) r c h = h

  pub passed_is : (it : Outcome) (more : List Work) (c : Carry) → IsWork more → SettledIs (passed it more c)
  passed_is (outcome.Ok it) more c h = answered_is more it c h
  passed_is (outcome.Err raised) more c h = thrown_is more raised c h

  -- ## Calls that go into a block

  taken_plain : (n : ℕ) (blocks : List Block) → ArePlain objects blocks → ArePlain objects (take n blocks)
  taken_plain zero blocks h = tt
  taken_plain (suc n) [] h = tt
  taken_plain (suc n) (block ∷ blocks) h = (h.0, taken_plain n blocks h.1)

  pub others_plain : (blocks : List Block) → ArePlain objects blocks → ArePlain objects (other_branches blocks)
  others_plain blocks h = taken_plain (length blocks - 1) blocks h

  last_plain : (before : Option Block) (blocks : List Block) → IsPlainBlock objects (unwrap_or before (Begins 0 Done)) → ArePlain objects blocks
      → IsPlainBlock objects (unwrap_or (last_or before blocks) (Begins 0 Done))
  last_plain before [] it h = it
  last_plain before (block ∷ blocks) it h = last_plain (Some block) blocks h.0 h.1

  own_plain : (blocks : List Block) → ArePlain objects blocks → IsPlainBlock objects (own_branch blocks)
  unfolding IsPlainBlock ArePlainStatements
  own_plain blocks h = last_plain None blocks tt h

  pub entered_is : (call : Ask) (number : ℕ) (more : List Work) (variables : List Value) → CallIs call → IsWork more → IsWork (entered call number more variables).work
  entered_is (ask.Sub body) number more variables plain h = (items_are body plain, (tt, h))
  entered_is (ask.Protect body) number more variables plain h = (items_are body plain, (tt, h))
  entered_is (ask.Switch body) number more variables plain h = (items_are body plain, (tt, h))
  entered_is (ask.OnRelease switch body) number more variables plain h = (items_are body plain, (tt, h))
  entered_is (ask.Branches group blocks) number more variables plain h = (items_are (own_branch blocks) (own_plain blocks plain), (tt, h))
  entered_is (ask.OpenReader flow limit body) number more variables plain h = absurd plain
  entered_is (ask.OpenWriter flow body) number more variables plain h = absurd plain
  entered_is (ask.OpenDirectory place path body) number more variables plain h = absurd plain
  entered_is call number more variables plain h = h

  pub handled_is : (call : Ask) (context : ℕ) (handler : Block) (registered : List Value) (more : List Work) (variables : List Value) → IsPlainBlock objects handler → IsWork more
      → IsWork (handled call context handler registered more variables).work
  handled_is (ask.Close switch failed kept) context handler registered more variables plain h = (items_are handler plain, (tt, (tt, (tt, h))))
  handled_is call context handler registered more variables plain h = h

  pub again_is : (call : Ask) → CallIs call → CallIs (again call)
  again_is (ask.Close switch failed kept) h = tt
  again_is (ask.Join group own) h = tt
  again_is call h = h
