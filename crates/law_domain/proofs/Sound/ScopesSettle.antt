-- The scopes of a fiber are those at whose ends its work goes on: silent statements go into none and out of none, and an exception stops at each end.
use Rattle.std.proofs.Common.{◌≡◌, ℕ, zero, suc, true, false, List, [], ◌∷◌, ◌++◌, ℤ, pos, negsuc, length, refl, ap, ◌∙◌, sym, true≢false}
use Rattle.eio_value.specs.declared.raised.Outcome.TheVariants as outcome
use Rattle.eio_value.specs.declared.raised.Raised.{Raised}
use Rattle.eio_value.specs.declared.value.Value.{Value}
use Rattle.eio_value.specs.declared.value.Value.TheVariants as value
use Rattle.spec_script.specs.Syntax as syntax
use Rattle.spec_script.specs.Syntax.{Statement, Let, LetForm, If, Give, Raise, Try, Repeat, Loop, Trace, Yield, Check, AwaitCancel, Sub, Protect, Cancel, Switch, Fork, Fail, OnRelease, Branches, OnObject, OnObjectWith, UseRw, UsePool, Submit, Sleep, Now, BufRead, OnReader, TakeBytes, Copy, BufWrite, Put, OpenDir, OnPath, Save, Group, Any, Both, First, Block, Begins, Statements, Done, Then, Blocks, NoBlocks, AndBlock}
use Rattle.spec_fiber.specs.Asks as ask
use Rattle.spec_fiber.specs.Asks.{Ask}
use Rattle.spec_fiber.specs.Evaluation.{value_of, values_of, number_of, text_of, held_number}
use Rattle.spec_fiber.specs.Settling.{Settled, answered, thrown, at_end, resource_of}
use Rattle.spec_fiber.specs.Silent.{Past, Threw, and_then, within, asks, place_in, is_zero, gives, repeated, branched, statement, block, statements}
use Rattle.spec_fiber.specs.Work as work
use Rattle.spec_fiber.specs.Work.{Work, Run, Cut, Restore, Bind, Leave, Close, Closing, Join, ShutReader, ShutWriter, Locking, Unlock, Using, Resolve, Carry, cut, restored, bound, caught}
use Rattle.law_domain.specs.Sound.Scopes.{InContext, InSwitch, InGroup, called_scope, is_end, scopes_in}
use Rattle.law_domain.specs.Sound.Laws.{ScopesSettle}
use Rattle.law_domain.proofs.Sound.Going.{EachCall, each_then, each_within, each_value, each_either, each_settles}

scopes_append : (behind more : List Work) → scopes_in (behind ++ more) ≡ scopes_in behind ++ scopes_in more
scopes_append [] more = refl
scopes_append (Leave context late keep ∷ behind) more = ap (λ xs. InContext context ∷ xs) (scopes_append behind more)
scopes_append (Close switch keep ∷ behind) more = ap (λ xs. InSwitch switch ∷ xs) (scopes_append behind more)
scopes_append (Closing switch kept ∷ behind) more = ap (λ xs. InSwitch switch ∷ xs) (scopes_append behind more)
scopes_append (Join group keep ∷ behind) more = ap (λ xs. InGroup group true ∷ xs) (scopes_append behind more)
scopes_append (item ∷ behind) more = scopes_append behind more

-- ## Statements

-- a call is at the end of no scope and of no fiber, and no scope is behind it
abbrev IsInside : Ask → List Work → Type 0
IsInside call behind = (called_scope call ≡ []) × (scopes_in behind ≡ []) × (is_end call ≡ false)

inside_more : (more : List Work) → scopes_in more ≡ [] → (call : Ask) (behind : List Work) → IsInside call behind → IsInside call (behind ++ more)
inside_more more none call behind is = (is.0, scopes_append behind more ∙ (ap (λ xs. xs ++ scopes_in more) is.1 ∙ none), is.2)

cut_inside : (keep : ℕ) (call : Ask) (behind : List Work) → IsInside call behind → IsInside call (behind ++ work.Cut keep ∷ [])
cut_inside keep = inside_more (work.Cut keep ∷ []) refl

repeated_inside : (z : ℤ) (body : Block) (c : Carry) → EachCall IsInside (repeated z body c)
repeated_inside (pos zero) body c = tt
repeated_inside (pos (suc left)) body c = (refl, refl, refl)
repeated_inside (negsuc n) body c = tt

branched_inside : (group : Group) (these : Blocks) (c : Carry) → EachCall IsInside (branched group these c)
branched_inside syntax.All NoBlocks c = tt
branched_inside syntax.All (AndBlock first rest) c = (refl, refl, refl)
branched_inside Any NoBlocks c = (refl, refl, refl)
branched_inside Any (AndBlock first rest) c = (refl, refl, refl)
branched_inside Both these c = (refl, refl, refl)
branched_inside First these c = (refl, refl, refl)

mutual
  unfolding statement block statements

  statement_inside : (it : Statement) (c : Carry) → EachCall IsInside (statement it c)
  statement_inside (Let e) c = each_value IsInside (value_of c.variables e) c (λ it. Past value.Unit (bound (length c.variables) it c)) (λ it. tt)
  statement_inside (LetForm form) c =
      each_then IsInside (statement form c) (λ it d. Past value.Unit (bound (length c.variables) it d)) Threw (work.Bind (length c.variables) ∷ [])
      (inside_more (work.Bind (length c.variables) ∷ []) refl) (statement_inside form c) (λ it d. tt) (λ r d. tt)
  statement_inside (If test first second) c =
      each_value IsInside (number_of c.variables test) c (λ z. within (length c.variables) (elim (is_zero z) [ true ↦ block second c | false ↦ block first c ]))
      (λ z. each_within IsInside (length c.variables) (elim (is_zero z) [ true ↦ block second c | false ↦ block first c ]) (cut_inside (length c.variables))
      (each_either IsInside (is_zero z) (block second c) (block first c) (block_inside second c) (block_inside first c)))
  statement_inside (Give e) c = each_value IsInside (value_of c.variables e) c (λ it. Past it c) (λ it. tt)
  statement_inside (Raise text) c = tt
  statement_inside (Try tried handler) c =
      each_then IsInside (block tried c) (λ it d. Past it (cut (length c.variables) d))
      (λ r d. within (length c.variables) (block handler (caught (length c.variables) r d))) (work.Try handler (length c.variables) ∷ [])
      (inside_more (work.Try handler (length c.variables) ∷ []) refl) (block_inside tried c) (λ it d. tt)
      (λ r d. each_within IsInside (length c.variables) (block handler (caught (length c.variables) r d)) (cut_inside (length c.variables))
      (block_inside handler (caught (length c.variables) r d)))
  statement_inside (Repeat times body) c = each_value IsInside (number_of c.variables times) c (λ z. repeated z body c) (λ z. repeated_inside z body c)
  statement_inside (Loop body) c = (refl, refl, refl)
  statement_inside (Trace operands) c = each_value IsInside (values_of c.variables operands) c (λ values. asks (ask.Trace values) c) (λ values. (refl, refl, refl))
  statement_inside Yield c = (refl, refl, refl)
  statement_inside Check c = (refl, refl, refl)
  statement_inside AwaitCancel c = (refl, refl, refl)
  statement_inside (Sub body) c = (refl, refl, refl)
  statement_inside (Protect body) c = (refl, refl, refl)
  statement_inside (Cancel context text) c = (refl, refl, refl)
  statement_inside (Switch body) c = (refl, refl, refl)
  statement_inside (Fork forking switch body) c = (refl, refl, refl)
  statement_inside (Fail switch text) c = (refl, refl, refl)
  statement_inside (OnRelease switch handler) c = (refl, refl, refl)
  statement_inside (Branches group branches) c = branched_inside group branches c
  statement_inside (OnObject call object) c = (refl, refl, refl)
  statement_inside (OnObjectWith call object operand) c =
      each_value IsInside (value_of c.variables operand) c (λ it. asks (ask.OnObjectWith call object it) c) (λ it. (refl, refl, refl))
  statement_inside (UseRw mutex body) c = (refl, refl, refl)
  statement_inside (UsePool pool body) c = (refl, refl, refl)
  statement_inside (Submit executor weight captured job) c = (refl, refl, refl)
  statement_inside (Sleep time) c = each_value IsInside (number_of c.variables time) c (λ z. asks (ask.Sleep z) c) (λ z. (refl, refl, refl))
  statement_inside Now c = (refl, refl, refl)
  statement_inside (BufRead flow limit body) c = (refl, refl, refl)
  statement_inside (OnReader call reader) c = (refl, refl, refl)
  statement_inside (TakeBytes reader count) c =
      each_value IsInside (number_of c.variables count) c (λ z. asks (ask.TakeBytes (held_number c.variables reader) z) c) (λ z. (refl, refl, refl))
  statement_inside (Copy from to) c = (refl, refl, refl)
  statement_inside (BufWrite flow body) c = (refl, refl, refl)
  statement_inside (Put writer operand) c =
      each_value IsInside (text_of c.variables operand) c (λ text. asks (ask.PutText (held_number c.variables writer) text) c) (λ text. (refl, refl, refl))
  statement_inside (OpenDir directory path body) c =
      each_value IsInside (text_of c.variables path) c (λ text. asks (ask.OpenDirectory (place_in c.variables directory) text body) c) (λ text. (refl, refl, refl))
  statement_inside (OnPath call directory path) c =
      each_value IsInside (text_of c.variables path) c (λ text. asks (ask.OnPath call (place_in c.variables directory) text) c) (λ text. (refl, refl, refl))
  statement_inside (Save only_new directory path content) c =
      each_value IsInside (text_of c.variables path) c _
      (λ name. each_value IsInside (text_of c.variables content) c (λ text. asks (ask.Save only_new (place_in c.variables directory) name text) c) (λ text. (refl, refl, refl)))

  block_inside : (it : Block) (c : Carry) → EachCall IsInside (block it c)
  block_inside (Begins number items) c = statements_inside items c

  statements_inside : (items : Statements) (c : Carry) → EachCall IsInside (statements items c)
  statements_inside Done c = tt
  statements_inside (Then it rest) c =
      each_either IsInside (gives it) (statement it c) (and_then (statement it c) (λ v d. statements rest d) Threw (work.Run rest ∷ []))
      (statement_inside it c)
      (each_then IsInside (statement it c) (λ v d. statements rest d) Threw (work.Run rest ∷ []) (inside_more (work.Run rest ∷ []) refl)
      (statement_inside it c) (λ v d. statements_inside rest d) (λ r d. tt))

-- ## Work

abbrev Settles : List Work → Settled → Type 0
Settles items settled = (scopes_in items ≡ called_scope settled.call ++ scopes_in settled.behind) × (is_end settled.call ≡ true → settled.behind ≡ [])

no_end : {X : Type 0} → false ≡ true → X
no_end e = absurd (true≢false (sym e))

inside_settles : (more : List Work) (call : Ask) (behind : List Work) (c : Carry) → IsInside call behind → Settles more (record { call = call; behind = behind ++ more; carry = c })
inside_settles more call behind c is = (
  sym (ap (λ xs. xs ++ scopes_in (behind ++ more)) is.0 ∙ (scopes_append behind more ∙ ap (λ xs. xs ++ scopes_in more) is.1)),
  λ e. absurd (true≢false (sym e ∙ is.2)),
)

mutual
  unfolding answered thrown

  answered_settles : (items : List Work) (it : Value) (c : Carry) → Settles items (answered items it c)
  answered_settles [] it c = (refl, λ e. refl)
  answered_settles (Run these ∷ items) it c =
      each_settles IsInside (Settles items) (statements these c) (λ u d. answered items u d) (λ r d. thrown items r d) items (statements_inside these c)
      (inside_settles items) (λ u d. answered_settles items u d) (λ r d. thrown_settles items r d)
  answered_settles (Cut keep ∷ items) it c = answered_settles items it (cut keep c)
  answered_settles (Restore variables ∷ items) it c = answered_settles items it (restored variables c)
  answered_settles (work.Try handler keep ∷ items) it c = answered_settles items it (cut keep c)
  answered_settles (Bind slot ∷ items) it c = answered_settles items value.Unit (bound slot it c)
  answered_settles (work.Loop body keep ∷ items) it c = (refl, no_end)
  answered_settles (work.Repeat turn zero body keep ∷ items) it c = answered_settles items value.Unit (cut keep c)
  answered_settles (work.Repeat turn (suc left) body keep ∷ items) it c = (refl, no_end)
  answered_settles (Leave context late keep ∷ items) it c = (refl, no_end)
  answered_settles (Close switch keep ∷ items) it c = (refl, no_end)
  answered_settles (Closing switch kept ∷ items) it c = (refl, no_end)
  answered_settles (Join group keep ∷ items) it c = (refl, no_end)
  answered_settles (ShutReader reader keep ∷ items) it c = (refl, no_end)
  answered_settles (ShutWriter writer keep ∷ items) it c = (refl, no_end)
  answered_settles (Locking mutex body ∷ items) it c =
      each_settles IsInside (Settles (Unlock mutex (length c.variables) ∷ items)) (block body c) (λ u d. at_end (ask.UnlockEnd mutex u) items (length c.variables) d)
      (λ r d. at_end (ask.PoisonEnd mutex r) items (length c.variables) d) (Unlock mutex (length c.variables) ∷ items) (block_inside body c)
      (inside_settles (Unlock mutex (length c.variables) ∷ items)) (λ u d. (refl, no_end)) (λ r d. (refl, no_end))
  answered_settles (Unlock mutex keep ∷ items) it c = (refl, no_end)
  answered_settles (Using pool body ∷ items) it c =
      each_settles IsInside (Settles (work.Put pool (resource_of it) (length c.variables) ∷ items)) (block body (bound (length c.variables) it c))
      (λ u d. at_end (ask.PutEnd pool (resource_of it) (outcome.Ok u)) items (length c.variables) d)
      (λ r d. at_end (ask.PutEnd pool (resource_of it) (outcome.Err r)) items (length c.variables) d) (work.Put pool (resource_of it) (length c.variables) ∷ items)
      (block_inside body (bound (length c.variables) it c)) (inside_settles (work.Put pool (resource_of it) (length c.variables) ∷ items)) (λ u d. (refl, no_end)) (λ r d. (refl, no_end))
  answered_settles (work.Put pool resource keep ∷ items) it c = (refl, no_end)
  answered_settles (Resolve promise ∷ items) it c = (refl, no_end)

  thrown_settles : (items : List Work) (r : Raised) (c : Carry) → Settles items (thrown items r c)
  thrown_settles [] r c = (refl, λ e. refl)
  thrown_settles (Run these ∷ items) r c = thrown_settles items r c
  thrown_settles (Cut keep ∷ items) r c = thrown_settles items r c
  thrown_settles (Restore variables ∷ items) r c = thrown_settles items r (restored variables c)
  thrown_settles (work.Try handler keep ∷ items) r c =
      each_settles IsInside (Settles (Cut keep ∷ items)) (block handler (caught keep r c)) (λ u d. answered items u (cut keep d)) (λ q d. thrown items q d) (Cut keep ∷ items)
      (block_inside handler (caught keep r c)) (inside_settles (Cut keep ∷ items)) (λ u d. answered_settles items u (cut keep d)) (λ q d. thrown_settles items q d)
  thrown_settles (Bind slot ∷ items) r c = thrown_settles items r c
  thrown_settles (work.Loop body keep ∷ items) r c = thrown_settles items r c
  thrown_settles (work.Repeat turn left body keep ∷ items) r c = thrown_settles items r c
  thrown_settles (Leave context late keep ∷ items) r c = (refl, no_end)
  thrown_settles (Close switch keep ∷ items) r c = (refl, no_end)
  thrown_settles (Closing switch kept ∷ items) r c = (refl, no_end)
  thrown_settles (Join group keep ∷ items) r c = (refl, no_end)
  thrown_settles (ShutReader reader keep ∷ items) r c = (refl, no_end)
  thrown_settles (ShutWriter writer keep ∷ items) r c = (refl, no_end)
  thrown_settles (Locking mutex body ∷ items) r c = thrown_settles items r c
  thrown_settles (Unlock mutex keep ∷ items) r c = (refl, no_end)
  thrown_settles (Using pool body ∷ items) r c = thrown_settles items r c
  thrown_settles (work.Put pool resource keep ∷ items) r c = (refl, no_end)
  thrown_settles (Resolve promise ∷ items) r c = (refl, no_end)

pub scopes_settle : ScopesSettle
scopes_settle (outcome.Ok it) items c = answered_settles items it c
scopes_settle (outcome.Err raised) items c = thrown_settles items raised c
