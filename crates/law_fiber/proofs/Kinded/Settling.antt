-- Work that has kinds goes on to calls that have them.
use Rattle.std.proofs.Common.{◌≡◌, ℕ, zero, suc, ◌+◌, List, [], ◌∷◌, length, take, pos, sym, subst}
use Rattle.eio_value.specs.Exceptions.{bound_text}
use Rattle.eio_value.specs.Table.{intern}
use Rattle.eio_value.specs.declared.raised.Outcome.{Outcome}
use Rattle.eio_value.specs.declared.raised.Outcome.TheVariants as outcome
use Rattle.eio_value.specs.declared.raised.Raised.{Raised}
use Rattle.eio_value.specs.declared.value.Value.{Value}
use Rattle.eio_value.specs.declared.value.Value.TheVariants as value
use Rattle.spec_script.specs.Kinds.{Kind, VariableKind}
use Rattle.spec_script.specs.Syntax.{Block}
use Rattle.spec_fiber.specs.Asks.{Ask}
use Rattle.spec_fiber.specs.Asks as ask
use Rattle.spec_fiber.specs.Replies.{passed}
use Rattle.spec_fiber.specs.Settling.{Settled, settle, answered, thrown, at_end, resource_of}
use Rattle.spec_fiber.specs.Silent.{Went, block}
use Rattle.spec_fiber.specs.Work as work
use Rattle.spec_fiber.specs.Work.{Work, Carry, cut, bound, restored, caught}
use Rattle.law_fiber.specs.Kinded.Kinds.{Facts, facts_of, HasKinds, StartsWith, with_kind, HasKindsOfCall, AtBoth, asked_by, HasKindsOfWork, HasKindsOfSettled}
use Rattle.law_fiber.specs.Kinded.Laws.{KindsStay}
use Rattle.law_fiber.proofs.Kinded.Variables.{starts_self, starts_with_one, starts_then, cut_back, length_kept, as_many, kinds_cut, kinds_with, kinds_bound}
use Rattle.law_fiber.proofs.Kinded.Going.{MayStand, KindsOfWent, Pasts, Calls, Throws}
use Rattle.law_fiber.proofs.Kinded.Statements.{loop_works, repeat_works, block_kinds, statements_kinds}

-- work that goes on to a call that has kinds
pub record Goes (facts : Facts) (rest : List Work) : Type 0 where
  pub answers : (slots : List Kind) (it : Value) (c : Carry) → HasKinds facts slots c.variables → (asked_by facts rest).at_value slots
      → HasKindsOfSettled facts (answered rest it c)
  pub throws : (slots : List Kind) (r : Raised) (c : Carry) → HasKinds facts slots c.variables → (asked_by facts rest).at_exception slots
      → HasKindsOfSettled facts (thrown rest r c)

module _ (facts : Facts) where
  -- ## Calls

  end_kinds : {call : Ask} {rest : List Work} (keep : ℕ) (slots : List Kind) (c : Carry) → HasKinds facts slots c.variables
      → AtBoth (asked_by facts rest) (take keep slots) → HasKindsOfCall facts (take keep slots) call → HasKindsOfSettled facts (at_end call rest keep c)
  end_kinds keep slots c has both call = record { slots = take keep slots; variables = kinds_cut facts keep slots c.variables has; work = both; call = call }

  call_kinds : {call : Ask} {rest : List Work} (slots : List Kind) (c : Carry) → HasKinds facts slots c.variables
      → AtBoth (asked_by facts rest) slots → HasKindsOfCall facts slots call
      → HasKindsOfSettled facts (record { call = call; behind = rest; carry = c })
  call_kinds slots c has both call = record { slots = slots; variables = has; work = both; call = call }

  settle_kinds : {slots : List Kind} {Left : List Kind → Type 0} {went : Went} {next : Value → Carry → Settled} {catch : Raised → Carry → Settled}
      (rest : List Work) → KindsOfWent facts slots Left went
      → ((left : List Kind) (it : Value) (c : Carry) → Left left → HasKinds facts left c.variables → HasKindsOfSettled facts (next it c))
      → ((longer : List Kind) (r : Raised) (c : Carry) → StartsWith slots longer → HasKinds facts longer c.variables
      → HasKindsOfSettled facts (catch r c))
      → MayStand facts slots Left rest → HasKindsOfSettled facts (settle went next catch rest)
  settle_kinds rest (Pasts left {it = it} {c = c} is has) nexts catches stands = nexts left it c is has
  settle_kinds rest (Calls now {c = c} has call leaves) nexts catches stands = record { slots = now; variables = has; work = leaves rest stands; call = call }
  settle_kinds rest (Throws longer {r = r} {c = c} starts has) nexts catches stands = catches longer r c starts has

  -- an end that keeps the slots which were there first, whatever was brought
  pub both_back : (keep : ℕ) (slots longer : List Kind) (rest : List Work) → keep ≡ length slots → StartsWith slots longer
      → AtBoth (asked_by facts rest) slots → AtBoth (asked_by facts rest) (take keep longer)
  both_back keep slots longer rest same starts both = subst (λ s. AtBoth (asked_by facts rest) s) (sym (cut_back keep slots longer same starts)) both

  -- ## Blocks that begin once something is had

  -- a block that has the mutex, and one that has a resource; behind it so many variables are kept
  locked_kinds : (mutex keep : ℕ) (body : Block) (rest : List Work) (slots : List Kind) (c : Carry) → keep ≡ length slots
      → HasKinds facts slots c.variables → (asked_by facts (work.Locking mutex body ∷ rest)).at_value slots
      → HasKindsOfSettled facts (settle (block body c) (λ u d. at_end (ask.UnlockEnd mutex u) rest keep d)
      (λ r d. at_end (ask.PoisonEnd mutex r) rest keep d) (work.Unlock mutex keep ∷ rest))
  unfolding asked_by
  locked_kinds mutex keep body rest slots c same has asked =
      settle_kinds (work.Unlock mutex keep ∷ rest) (block_kinds facts body slots c asked.1 has)
      (λ left u d starts so. end_kinds keep left d so (both_back keep slots left rest same starts asked.2) asked.0)
      (λ longer r d starts so. end_kinds keep longer d so (both_back keep slots longer rest same starts asked.2) asked.0) (
        λ left starts. (asked.0, both_back keep slots left rest same starts asked.2),
        λ longer starts. (asked.0, both_back keep slots longer rest same starts asked.2),
      )

  used_kinds : (pool resource keep : ℕ) (body : Block) (rest : List Work) (slots : List Kind) (it : Value) (c : Carry) → keep ≡ length slots
      → HasKinds facts slots c.variables → (asked_by facts (work.Using pool body ∷ rest)).at_value slots
      → HasKindsOfSettled facts (settle (block body (bound keep it c)) (λ u d. at_end (ask.PutEnd pool resource (outcome.Ok u)) rest keep d)
      (λ r d. at_end (ask.PutEnd pool resource (outcome.Err r)) rest keep d) (work.Put pool resource keep ∷ rest))
  unfolding asked_by
  used_kinds pool resource keep body rest slots it c same has asked =
      let first = starts_with_one VariableKind slots in
      let inner = with_kind VariableKind slots in
      settle_kinds (work.Put pool resource keep ∷ rest)
      (block_kinds facts body inner (bound keep it c) asked.1
      (kinds_bound facts keep slots slots c.variables VariableKind it same (starts_self slots) has tt))
      (λ left u d more so. end_kinds keep left d so (both_back keep slots left rest same (starts_then slots inner left first more) asked.2) asked.0)
      (λ longer r d more so. end_kinds keep longer d so (both_back keep slots longer rest same (starts_then slots inner longer first more) asked.2) asked.0) (
        λ left more. (asked.0, both_back keep slots left rest same (starts_then slots inner left first more) asked.2),
        λ longer more. (asked.0, both_back keep slots longer rest same (starts_then slots inner longer first more) asked.2),
      )

  -- a handler, and behind it the work that its `try` stands before
  tried_kinds : (handler : Block) (keep : ℕ) (rest : List Work) → Goes facts rest → (slots : List Kind) (r : Raised) (c : Carry)
      → HasKinds facts slots c.variables → (asked_by facts (work.Try handler keep ∷ rest)).at_exception slots
      → HasKindsOfSettled facts (settle (block handler (caught keep r c)) (λ u d. answered rest u (cut keep d)) (λ q d. thrown rest q d) (work.Cut keep ∷ rest))
  unfolding asked_by
  tried_kinds handler keep rest goes slots r c has asked =
      let caught_has : HasKinds facts (with_kind VariableKind (take keep slots)) (caught keep r c).variables =
      kinds_with facts VariableKind (value.Text (intern c.texts (bound_text c.texts r)).id) (take keep slots) (take keep c.variables)
      (kinds_cut facts keep slots c.variables has) tt in
      settle_kinds (work.Cut keep ∷ rest) (block_kinds facts handler (with_kind VariableKind (take keep slots)) (caught keep r c) asked.0 caught_has)
      (λ left u d starts so. goes.answers (take keep left) u (cut keep d) (kinds_cut facts keep left d.variables so) (asked.1 left starts))
      (λ longer q d starts so. goes.throws longer q d so (asked.2 longer starts))
      (asked.1, asked.2)

  -- ## One item

  module _ (rest : List Work) (goes : Goes facts rest) where
    answers_item : (item : Work) (slots : List Kind) (it : Value) (c : Carry) → HasKinds facts slots c.variables
        → (asked_by facts (item ∷ rest)).at_value slots → HasKindsOfSettled facts (answered (item ∷ rest) it c)
    unfolding answered thrown asked_by
    answers_item (work.Run items) slots it c has asked =
        settle_kinds rest (statements_kinds facts items slots c asked.0 has)
        (λ left u d starts so. goes.answers left u d so (asked.1 left starts))
        (λ longer r d starts so. goes.throws longer r d so (asked.2 longer starts))
        (asked.1, asked.2)
    answers_item (work.Cut keep) slots it c has asked =
        goes.answers (take keep slots) it (cut keep c) (kinds_cut facts keep slots c.variables has) asked
    answers_item (work.Restore variables) slots it c has asked = goes.answers asked.0 it (restored variables c) asked.1 asked.2
    answers_item (work.Try handler keep) slots it c has asked =
        goes.answers (take keep slots) it (cut keep c) (kinds_cut facts keep slots c.variables has) asked
    answers_item (work.Bind slot) slots it c has asked =
        goes.answers (with_kind VariableKind (take slot slots)) value.Unit (bound slot it c)
        (kinds_with facts VariableKind it (take slot slots) (take slot c.variables) (kinds_cut facts slot slots c.variables has) tt) asked
    answers_item (work.Loop body keep) slots it c has asked =
        end_kinds keep slots c has (loop_works facts keep (take keep slots) body rest (length_kept keep slots asked.0) asked.1 asked.2) tt
    answers_item (work.Repeat turn zero body keep) slots it c has asked =
        goes.answers (take keep slots) value.Unit (cut keep c) (kinds_cut facts keep slots c.variables has) asked.2
    answers_item (work.Repeat turn (suc left) body keep) slots it c has asked =
        call_kinds (with_kind VariableKind (take keep slots)) (bound keep (value.Int (pos turn)) c)
        (kinds_with facts VariableKind (value.Int (pos turn)) (take keep slots) (take keep c.variables) (kinds_cut facts keep slots c.variables has) tt)
        (repeat_works facts (turn + 1) left keep (take keep slots) body rest (length_kept keep slots asked.0) asked.1 asked.2 asked.3) tt
    answers_item (work.Leave context late keep) slots it c has asked = end_kinds keep slots c has asked tt
    answers_item (work.Close switch keep) slots it c has asked = end_kinds keep slots c has asked tt
    answers_item (work.Closing switch kept) slots it c has asked = call_kinds slots c has asked tt
    answers_item (work.Join group keep) slots it c has asked = end_kinds keep slots c has asked tt
    answers_item (work.ShutReader reader keep) slots it c has asked = end_kinds keep slots c has asked tt
    answers_item (work.ShutWriter writer keep) slots it c has asked = end_kinds keep slots c has asked tt
    answers_item (work.Locking mutex body) slots it c has asked =
        locked_kinds mutex (length c.variables) body rest slots c (as_many facts slots c.variables has) has asked
    answers_item (work.Unlock mutex keep) slots it c has asked = end_kinds keep slots c has asked.1 asked.0
    answers_item (work.Using pool body) slots it c has asked =
        used_kinds pool (resource_of it) (length c.variables) body rest slots it c (as_many facts slots c.variables has) has asked
    answers_item (work.Put pool resource keep) slots it c has asked = end_kinds keep slots c has asked.1 asked.0
    answers_item (work.Resolve promise) slots it c has asked = call_kinds slots c has asked.1 asked.0

    throws_item : (item : Work) (slots : List Kind) (r : Raised) (c : Carry) → HasKinds facts slots c.variables
        → (asked_by facts (item ∷ rest)).at_exception slots → HasKindsOfSettled facts (thrown (item ∷ rest) r c)
    unfolding answered thrown asked_by
    throws_item (work.Run items) slots r c has asked = goes.throws slots r c has asked
    throws_item (work.Cut keep) slots r c has asked = goes.throws slots r c has asked
    throws_item (work.Restore variables) slots r c has asked = goes.throws asked.0 r (restored variables c) asked.1 asked.2
    throws_item (work.Try handler keep) slots r c has asked = tried_kinds handler keep rest goes slots r c has asked
    throws_item (work.Bind slot) slots r c has asked = goes.throws slots r c has asked
    throws_item (work.Loop body keep) slots r c has asked = goes.throws slots r c has asked
    throws_item (work.Repeat turn left body keep) slots r c has asked = goes.throws slots r c has asked
    throws_item (work.Leave context late keep) slots r c has asked = end_kinds keep slots c has asked tt
    throws_item (work.Close switch keep) slots r c has asked = end_kinds keep slots c has asked tt
    throws_item (work.Closing switch kept) slots r c has asked = call_kinds slots c has asked tt
    throws_item (work.Join group keep) slots r c has asked = end_kinds keep slots c has asked tt
    throws_item (work.ShutReader reader keep) slots r c has asked = end_kinds keep slots c has asked tt
    throws_item (work.ShutWriter writer keep) slots r c has asked = end_kinds keep slots c has asked tt
    throws_item (work.Locking mutex body) slots r c has asked = goes.throws slots r c has asked
    throws_item (work.Unlock mutex keep) slots r c has asked = end_kinds keep slots c has asked.1 asked.0
    throws_item (work.Using pool body) slots r c has asked = goes.throws slots r c has asked
    throws_item (work.Put pool resource keep) slots r c has asked = end_kinds keep slots c has asked.1 asked.0
    throws_item (work.Resolve promise) slots r c has asked = call_kinds slots c has asked.1 asked.0

  -- ## All work

  nothing_left : Goes facts []
  unfolding answered thrown asked_by
  nothing_left = record {
    answers = λ slots it c has asked. call_kinds slots c has (tt, λ longer starts. tt) tt;
    throws = λ slots r c has asked. call_kinds slots c has (tt, λ longer starts. tt) tt;
  }

  goes_on : (rest : List Work) → Goes facts rest
  goes_on [] = nothing_left
  goes_on (item ∷ rest) =
      let goes = goes_on rest in
      record { answers = answers_item rest goes item; throws = throws_item rest goes item }

  -- whatever is known of numbers and blocks
  pub passes_with_kinds : (came : Outcome) (rest : List Work) (c : Carry) (slots : List Kind) → HasKinds facts slots c.variables
      → HasKindsOfWork facts slots rest → HasKindsOfSettled facts (passed came rest c)
  passes_with_kinds (outcome.Ok it) rest c slots has both = (goes_on rest).answers slots it c has both.0
  passes_with_kinds (outcome.Err r) rest c slots has both = (goes_on rest).throws slots r c has (both.1 slots (starts_self slots))

pub kinds_stay : KindsStay
kinds_stay script names came rest c slots has both = passes_with_kinds (facts_of script names) came rest c slots has both
