-- Work whose texts stand goes on to calls whose texts stand.
use Rattle.std.proofs.Common.{ℕ, zero, suc, List, [], ◌∷◌, length}
use Rattle.eio_value.specs.declared.raised.Outcome.{Outcome}
use Rattle.eio_value.specs.declared.raised.Outcome.TheVariants as outcome
use Rattle.eio_value.specs.declared.raised.Raised.{Raised}
use Rattle.eio_value.specs.declared.value.Value.{Value}
use Rattle.eio_value.specs.declared.value.Value.TheVariants as value
use Rattle.spec_fiber.specs.Asks.{Ask}
use Rattle.spec_fiber.specs.Replies.{passed}
use Rattle.spec_fiber.specs.Settling.{Settled, settle, answered, thrown, at_end, resource_of}
use Rattle.spec_fiber.specs.Silent.{Went}
use Rattle.spec_fiber.specs.Work as work
use Rattle.spec_fiber.specs.Work.{Work, Carry, cut, bound, restored, caught}
use Rattle.law_fiber.specs.Texts.Texts.{IsHeldValue, IsHeldRaised, IsHeldOutcome, IsTextedItem, IsTextedWork, IsTextedCall}
use Rattle.law_fiber.proofs.Texts.Lists.{each_append}
use Rattle.law_fiber.proofs.Texts.Going.{Tables, IsTextedCarry, TextedWent, Pasts, Calls, Throws, carry_cut, carry_bound, carry_restored, carry_caught, carry_from, carry_self, work_later}
use Rattle.law_fiber.proofs.Texts.Statements.{items_written, repeats_texts, block_texts, statements_texts}

-- the call, what it leaves and what the fiber carries, by a table that has grown from an older one
pub record SettlesTexted (tables : Tables) (old : List (List ℕ)) (s : Settled) : Type 0 where
  pub carry : IsTextedCarry tables old s.carry
  pub call : IsTextedCall tables.written (tables.held s.carry.texts) s.call
  pub behind : IsTextedWork tables.written (tables.held s.carry.texts) s.behind

-- work that goes on to a call whose texts stand
pub record Goes (tables : Tables) (rest : List Work) : Type 0 where
  pub answers : {old : List (List ℕ)} (it : Value) (c : Carry) → IsTextedCarry tables old c → IsHeldValue (tables.held c.texts) it
      → IsTextedWork tables.written (tables.held c.texts) rest → SettlesTexted tables old (answered rest it c)
  pub throws : {old : List (List ℕ)} (r : Raised) (c : Carry) → IsTextedCarry tables old c → IsHeldRaised (tables.held c.texts) r
      → IsTextedWork tables.written (tables.held c.texts) rest → SettlesTexted tables old (thrown rest r c)

module _ (tables : Tables) where
  end_texts : {old : List (List ℕ)} {call : Ask} {rest : List Work} {c : Carry} (keep : ℕ) → IsTextedCarry tables old c
      → IsTextedCall tables.written (tables.held c.texts) call → IsTextedWork tables.written (tables.held c.texts) rest
      → SettlesTexted tables old (at_end call rest keep c)
  end_texts keep carry call rest = record { carry = carry_cut tables carry keep; call = call; behind = rest }

  settle_texts : {old : List (List ℕ)} {c : Carry} {went : Went} {next : Value → Carry → Settled} {catch : Raised → Carry → Settled}
      (rest : List Work) → IsTextedCarry tables old c → TextedWent tables c.texts went → IsTextedWork tables.written (tables.held c.texts) rest
      → ((it : Value) (d : Carry) → IsTextedCarry tables c.texts d → IsHeldValue (tables.held d.texts) it → SettlesTexted tables old (next it d))
      → ((r : Raised) (d : Carry) → IsTextedCarry tables c.texts d → IsHeldRaised (tables.held d.texts) r → SettlesTexted tables old (catch r d))
      → SettlesTexted tables old (settle went next catch rest)
  settle_texts rest carry (Pasts {it = it} {c = d} so is) are nexts catches = nexts it d so is
  settle_texts rest carry (Calls {behind = behind} {c = d} so call work) are nexts catches = record {
    carry = carry_from tables carry so;
    call = call;
    behind = each_append (IsTextedItem tables.written (tables.held d.texts)) behind rest work (work_later tables carry rest so are);
  }
  settle_texts rest carry (Throws {r = r} {c = d} so is) are nexts catches = catches r d so is

  -- ## One item

  module _ (rest : List Work) (goes : Goes tables rest) where
    -- whatever statements come to, the work behind them goes on
    goes_on_behind : {old : List (List ℕ)} {c : Carry} {went : Went} → IsTextedCarry tables old c → TextedWent tables c.texts went
        → IsTextedWork tables.written (tables.held c.texts) rest
        → SettlesTexted tables old (settle went (λ u d. answered rest u d) (λ r d. thrown rest r d) rest)
    goes_on_behind carry went are =
        settle_texts rest carry went are
        (λ u d so is. goes.answers u d (carry_from tables carry so) is (work_later tables carry rest so are))
        (λ r d so is. goes.throws r d (carry_from tables carry so) is (work_later tables carry rest so are))

    answers_item : (item : Work) {old : List (List ℕ)} (it : Value) (c : Carry) → IsTextedCarry tables old c → IsHeldValue (tables.held c.texts) it
        → IsTextedWork tables.written (tables.held c.texts) (item ∷ rest) → SettlesTexted tables old (answered (item ∷ rest) it c)
    unfolding answered thrown
    answers_item (work.Run items) it c carry is are = goes_on_behind carry (statements_texts tables items c are.0 (carry_self tables carry)) are.1
    answers_item (work.Cut keep) it c carry is are = goes.answers it (cut keep c) (carry_cut tables carry keep) is are.1
    answers_item (work.Restore variables) it c carry is are = goes.answers it (restored variables c) (carry_restored tables carry variables are.0) is are.1
    answers_item (work.Try handler keep) it c carry is are = goes.answers it (cut keep c) (carry_cut tables carry keep) is are.1
    answers_item (work.Bind slot) it c carry is are = goes.answers value.Unit (bound slot it c) (carry_bound tables carry slot it is) tt are.1
    answers_item (work.Loop body keep) it c carry is are = end_texts keep carry tt (items_written tables body are.0, (are.0, are.1))
    answers_item (work.Repeat turn zero body keep) it c carry is are = goes.answers value.Unit (cut keep c) (carry_cut tables carry keep) tt are.1
    answers_item (work.Repeat turn (suc left) body keep) it c carry is are =
        goes_on_behind carry (repeats_texts tables (carry_self tables carry) turn left body keep are.0) are.1
    answers_item (work.Leave context late keep) it c carry is are = end_texts keep carry is are.1
    answers_item (work.Close switch keep) it c carry is are = end_texts keep carry (tt, is) are.1
    answers_item (work.Closing switch kept) it c carry is are = record { carry = carry; call = (tt, are.0); behind = are.1 }
    answers_item (work.Join group keep) it c carry is are = end_texts keep carry is are.1
    answers_item (work.ShutReader reader keep) it c carry is are = end_texts keep carry is are.1
    answers_item (work.ShutWriter writer keep) it c carry is are = end_texts keep carry is are.1
    answers_item (work.Locking mutex body) it c carry is are =
        settle_texts (work.Unlock mutex (length c.variables) ∷ rest) carry (block_texts tables body c are.0 (carry_self tables carry)) (tt, are.1)
        (λ u d so one. end_texts (length c.variables) (carry_from tables carry so) one (work_later tables carry rest so are.1))
        (λ r d so one. end_texts (length c.variables) (carry_from tables carry so) one (work_later tables carry rest so are.1))
    answers_item (work.Unlock mutex keep) it c carry is are = end_texts keep carry is are.1
    answers_item (work.Using pool body) it c carry is are =
        let self = carry_self tables carry in
        settle_texts (work.Put pool (resource_of it) (length c.variables) ∷ rest) carry
        (block_texts tables body (bound (length c.variables) it c) are.0 (carry_bound tables self (length c.variables) it is)) (tt, are.1)
        (λ u d so one. end_texts (length c.variables) (carry_from tables carry so) one (work_later tables carry rest so are.1))
        (λ r d so one. end_texts (length c.variables) (carry_from tables carry so) one (work_later tables carry rest so are.1))
    answers_item (work.Put pool resource keep) it c carry is are = end_texts keep carry is are.1
    answers_item (work.Resolve promise) it c carry is are = record { carry = carry; call = is; behind = are.1 }

    throws_item : (item : Work) {old : List (List ℕ)} (r : Raised) (c : Carry) → IsTextedCarry tables old c → IsHeldRaised (tables.held c.texts) r
        → IsTextedWork tables.written (tables.held c.texts) (item ∷ rest) → SettlesTexted tables old (thrown (item ∷ rest) r c)
    unfolding answered thrown
    throws_item (work.Run items) r c carry is are = goes.throws r c carry is are.1
    throws_item (work.Cut keep) r c carry is are = goes.throws r c carry is are.1
    throws_item (work.Restore variables) r c carry is are = goes.throws r (restored variables c) (carry_restored tables carry variables are.0) is are.1
    throws_item (work.Try handler keep) r c carry is are =
        let self = carry_self tables carry in
        settle_texts (work.Cut keep ∷ rest) carry
        (block_texts tables handler (caught keep r c) are.0 (carry_caught tables self keep r is)) (tt, are.1)
        (λ u d so one. goes.answers u (cut keep d) (carry_cut tables (carry_from tables carry so) keep) one (work_later tables carry rest so are.1))
        (λ q d so one. goes.throws q d (carry_from tables carry so) one (work_later tables carry rest so are.1))
    throws_item (work.Bind slot) r c carry is are = goes.throws r c carry is are.1
    throws_item (work.Loop body keep) r c carry is are = goes.throws r c carry is are.1
    throws_item (work.Repeat turn left body keep) r c carry is are = goes.throws r c carry is are.1
    throws_item (work.Leave context late keep) r c carry is are = end_texts keep carry is are.1
    throws_item (work.Close switch keep) r c carry is are = end_texts keep carry (is, tt) are.1
    throws_item (work.Closing switch kept) r c carry is are = record { carry = carry; call = (is, are.0); behind = are.1 }
    throws_item (work.Join group keep) r c carry is are = end_texts keep carry is are.1
    throws_item (work.ShutReader reader keep) r c carry is are = end_texts keep carry is are.1
    throws_item (work.ShutWriter writer keep) r c carry is are = end_texts keep carry is are.1
    throws_item (work.Locking mutex body) r c carry is are = goes.throws r c carry is are.1
    throws_item (work.Unlock mutex keep) r c carry is are = end_texts keep carry is are.1
    throws_item (work.Using pool body) r c carry is are = goes.throws r c carry is are.1
    throws_item (work.Put pool resource keep) r c carry is are = end_texts keep carry is are.1
    throws_item (work.Resolve promise) r c carry is are = record { carry = carry; call = is; behind = are.1 }

  -- ## All work

  nothing_left : Goes tables []
  unfolding answered thrown
  nothing_left = record {
    answers = λ it c carry is are. record { carry = carry; call = is; behind = tt };
    throws = λ r c carry is are. record { carry = carry; call = is; behind = tt };
  }

  goes_on : (rest : List Work) → Goes tables rest
  goes_on [] = nothing_left
  goes_on (item ∷ rest) =
      let goes = goes_on rest in
      record { answers = answers_item rest goes item; throws = throws_item rest goes item }

  pub passes_texted : {old : List (List ℕ)} (came : Outcome) (rest : List Work) (c : Carry) → IsTextedCarry tables old c
      → IsHeldOutcome (tables.held c.texts) came → IsTextedWork tables.written (tables.held c.texts) rest → SettlesTexted tables old (passed came rest c)
  passes_texted (outcome.Ok it) rest c carry is are = (goes_on rest).answers it c carry is are
  passes_texted (outcome.Err r) rest c carry is are = (goes_on rest).throws r c carry is are

  pub throws_texted : {old : List (List ℕ)} (rest : List Work) (r : Raised) (c : Carry) → IsTextedCarry tables old c
      → IsHeldRaised (tables.held c.texts) r → IsTextedWork tables.written (tables.held c.texts) rest → SettlesTexted tables old (thrown rest r c)
  throws_texted rest r c carry is are = (goes_on rest).throws r c carry is are
