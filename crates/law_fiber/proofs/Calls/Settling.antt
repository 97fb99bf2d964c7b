-- Work that is alike goes on to calls that are alike.
use Rattle.std.proofs.Common.{◌≡◌, ℕ, zero, suc, List, [], ◌∷◌, length, refl, subst}
use Rattle.eio_value.specs.declared.raised.Outcome.{Outcome}
use Rattle.eio_value.specs.declared.raised.Outcome.TheVariants as outcome
use Rattle.eio_value.specs.declared.raised.Raised.{Raised}
use Rattle.eio_value.specs.declared.value.Value.{Value}
use Rattle.eio_value.specs.declared.value.Value.TheVariants as value
use Rattle.spec_script.specs.Syntax.{Block}
use Rattle.spec_fiber.specs.Asks.{Ask}
use Rattle.spec_fiber.specs.Asks as ask
use Rattle.spec_fiber.specs.Replies.{passed}
use Rattle.spec_fiber.specs.Settling.{Settled, settle, answered, thrown, at_end, resource_of}
use Rattle.spec_fiber.specs.Silent.{Went, block}
use Rattle.spec_fiber.specs.Work as work
use Rattle.spec_fiber.specs.Work.{Work, Carry, cut, bound, restored, caught}
use Rattle.law_fiber.specs.Calls.Sights.{Sight, SeesBlock}
use Rattle.law_fiber.specs.Calls.Alike.{Tables, IsLater, Ends, Goes, Nothing, Something, AlikeValue, Units, Texts, AlikeRaised, AlikeOutcome, Oks, Errs}
use Rattle.law_fiber.specs.Calls.AlikeCalls.{AlikeAsk}
use Rattle.law_fiber.specs.Calls.AlikeCalls as calls
use Rattle.law_fiber.specs.Calls.AlikeWork as works
use Rattle.law_fiber.specs.Calls.AlikeWork.{AlikeItem, AlikeWork, tables_of, AlikeCarry, AlikeSettled}
use Rattle.law_fiber.specs.Calls.Laws.{NextCallSeesScope}
use Rattle.law_fiber.proofs.Calls.Later.{at_once, and_later, value_later, variables_later, work_later, work_behind}
use Rattle.law_fiber.proofs.Calls.Going.{AlikeWent, Pasts, Calls, Throws, carry_cut, carry_bound, carry_restored, carry_caught}
use Rattle.law_fiber.proofs.Calls.Statements.{items_see, repeats_alike, block_alike, statements_alike}

-- ## Calls

call_alike : {sight : Sight} {c d : Carry} {call asked : Ask} {these those : List Work} → AlikeAsk sight (tables_of c d) call asked
    → AlikeWork sight (tables_of c d) these those → AlikeCarry sight c d
    → AlikeSettled sight (record { call = call; behind = these; carry = c }) (record { call = asked; behind = those; carry = d })
call_alike call behind carry = record { call = call; behind = behind; carry = carry }

end_alike : {sight : Sight} {c d : Carry} {call asked : Ask} {these those : List Work} (keep : ℕ) → AlikeAsk sight (tables_of c d) call asked
    → AlikeWork sight (tables_of c d) these those → AlikeCarry sight c d
    → AlikeSettled sight (at_end call these keep c) (at_end asked those keep d)
end_alike keep call behind carry = record { call = call; behind = behind; carry = carry_cut keep carry }

-- what follows is alike, from whatever tables come later
abbrev SettlesAlike : {X : Type 0} → Sight → Tables → (Tables → X → X → Type 0) → (next follow : X → Carry → Settled) → Type 0
SettlesAlike {X} sight t Alike next follow = (a b : X) (c d : Carry) → IsLater t (tables_of c d) → Alike (tables_of c d) a b → AlikeCarry sight c d
    → AlikeSettled sight (next a c) (follow b d)

settle_alike : {sight : Sight} {t : Tables} {went reached : Went} {next follow : Value → Carry → Settled} {catch rescue : Raised → Carry → Settled}
    {these those : List Work} → AlikeWent sight t went reached → SettlesAlike sight t AlikeValue next follow
    → SettlesAlike sight t AlikeRaised catch rescue → AlikeWork sight t these those → AlikeSettled sight (settle went next catch these) (settle reached follow rescue those)
settle_alike (Pasts {a = a} {b = b} {c = c} {d = d} later alike carry) nexts catches behind = nexts a b c d later alike carry
settle_alike (Calls later call own carry) nexts catches behind =
    record { call = call; behind = work_behind own (work_later later behind); carry = carry }
settle_alike (Throws {r = r} {s = s} {c = c} {d = d} later alike carry) nexts catches behind = catches r s c d later alike carry

-- work that is alike, and goes on alike
pub record GoesAlike (sight : Sight) (from : Tables) (these those : List Work) : Type 0 where
  pub work : AlikeWork sight from these those
  pub answers : SettlesAlike sight from AlikeValue (answered these) (answered those)
  pub throws : SettlesAlike sight from AlikeRaised (thrown these) (thrown those)

-- the same with this number, which is the same, in place of that
settled_at : {sight : Sight} {s : Settled} (t : ℕ → Settled) (m n : ℕ) → m ≡ n → AlikeSettled sight s (t m) → AlikeSettled sight s (t n)
settled_at {sight} {s} t m n same alike = subst (λ k. AlikeSettled sight s (t k)) same alike

resource_alike : {t : Tables} {a b : Value} → AlikeValue t a b → resource_of a ≡ resource_of b
resource_alike (Texts same) = refl
resource_alike other = refl

-- ## Blocks that begin once something is had

-- a block that has the mutex, and one that has a resource; behind it so many variables are kept
abbrev locked : (mutex keep : ℕ) → Block → List Work → Carry → Settled
locked mutex keep body these c =
    settle (block body c) (λ u d. at_end (ask.UnlockEnd mutex u) these keep d) (λ r d. at_end (ask.PoisonEnd mutex r) these keep d)
    (work.Unlock mutex keep ∷ these)

abbrev used : (pool resource keep : ℕ) → Block → List Work → Value → Carry → Settled
used pool resource keep body these it c =
    settle (block body (bound keep it c)) (λ u d. at_end (ask.PutEnd pool resource (outcome.Ok u)) these keep d)
    (λ r d. at_end (ask.PutEnd pool resource (outcome.Err r)) these keep d) (work.Put pool resource keep ∷ these)

locked_alike : {sight : Sight} {c d : Carry} {these those : List Work} (mutex keep : ℕ) (body : Block) → SeesBlock sight body
    → AlikeWork sight (tables_of c d) these those → AlikeCarry sight c d
    → AlikeSettled sight (locked mutex keep body these c) (locked mutex keep body those d)
locked_alike {c = c} {d = d} mutex keep body sees behind carry =
    settle_alike (block_alike body c d sees carry)
    (λ a b e f later alike so. end_alike keep (calls.UnlockEnds mutex alike) (work_later later behind) so)
    (λ r s e f later alike so. end_alike keep (calls.PoisonEnds mutex alike) (work_later later behind) so)
    (Goes (works.Unlocks mutex keep) behind)

used_alike : {sight : Sight} {c d : Carry} {a b : Value} {these those : List Work} (pool resource keep : ℕ) (body : Block) → SeesBlock sight body
    → AlikeValue (tables_of c d) a b → AlikeWork sight (tables_of c d) these those → AlikeCarry sight c d
    → AlikeSettled sight (used pool resource keep body these a c) (used pool resource keep body those b d)
used_alike {c = c} {d = d} {a = a} {b = b} pool resource keep body sees value behind carry =
    settle_alike (block_alike body (bound keep a c) (bound keep b d) sees (carry_bound keep value carry))
    (λ u v e f later alike so. end_alike keep (calls.PutEnds pool resource (Oks alike)) (work_later later behind) so)
    (λ r s e f later alike so. end_alike keep (calls.PutEnds pool resource (Errs alike)) (work_later later behind) so)
    (Goes (works.Puts pool resource keep) behind)

-- ## One item

module _ {sight : Sight} {from : Tables} {these those : List Work} (rest : GoesAlike sight from these those) where
  answers_item : {x y : Work} → AlikeItem sight from x y → SettlesAlike sight from AlikeValue (answered (x ∷ these)) (answered (y ∷ those))
  unfolding answered thrown
  answers_item (works.Runs items sees) a b c d later alike carry =
      settle_alike (statements_alike items c d sees carry)
      (λ u v e f more same so. rest.answers u v e f (and_later later more) same so)
      (λ r s e f more same so. rest.throws r s e f (and_later later more) same so) (work_later later rest.work)
  answers_item (works.Cuts keep) a b c d later alike carry = rest.answers a b (cut keep c) (cut keep d) later alike (carry_cut keep carry)
  answers_item (works.Restores {these = own} {those = others} variables) a b c d later alike carry =
      rest.answers a b (restored own c) (restored others d) later alike (carry_restored (variables_later later variables) carry)
  answers_item (works.Tries handler keep sees) a b c d later alike carry = rest.answers a b (cut keep c) (cut keep d) later alike (carry_cut keep carry)
  answers_item (works.Binds slot) a b c d later alike carry =
      rest.answers value.Unit value.Unit (bound slot a c) (bound slot b d) later Units (carry_bound slot alike carry)
  answers_item (works.Loops body keep sees) a b c d later alike carry =
      end_alike keep calls.Turns
      (Goes (works.Runs _ (items_see sight body sees)) (Goes (works.Loops body keep sees) (work_later later rest.work))) carry
  answers_item (works.Repeats turn zero body keep sees) a b c d later alike carry =
      rest.answers value.Unit value.Unit (cut keep c) (cut keep d) later Units (carry_cut keep carry)
  answers_item (works.Repeats turn (suc left) body keep sees) a b c d later alike carry =
      settle_alike (repeats_alike turn left body keep sees carry)
      (λ u v e f more same so. rest.answers u v e f (and_later later more) same so)
      (λ r s e f more same so. rest.throws r s e f (and_later later more) same so) (work_later later rest.work)
  answers_item (works.Leaves context late keep) a b c d later alike carry =
      end_alike keep (calls.Leaves context late (Oks alike)) (work_later later rest.work) carry
  answers_item (works.Closes switch keep) a b c d later alike carry =
      end_alike keep (calls.Closes switch Nothing alike) (work_later later rest.work) carry
  answers_item (works.Closings switch kept) a b c d later alike carry =
      call_alike (calls.Closes switch Nothing (value_later later kept)) (work_later later rest.work) carry
  answers_item (works.Joins group keep) a b c d later alike carry =
      end_alike keep (calls.Joins group (Something (Oks alike))) (work_later later rest.work) carry
  answers_item (works.ShutReaders reader keep) a b c d later alike carry =
      end_alike keep (calls.ShutReaders reader (Oks alike)) (work_later later rest.work) carry
  answers_item (works.ShutWriters writer keep) a b c d later alike carry =
      end_alike keep (calls.ShutWriters writer (Oks alike)) (work_later later rest.work) carry
  answers_item (works.Lockings mutex body sees) a b c d later alike carry =
      settled_at (λ n. locked mutex n body those d) (length c.variables) (length d.variables) carry.variables.as_many
      (locked_alike mutex (length c.variables) body sees (work_later later rest.work) carry)
  answers_item (works.Unlocks mutex keep) a b c d later alike carry =
      end_alike keep (calls.UnlockEnds mutex alike) (work_later later rest.work) carry
  answers_item (works.Usings pool body sees) a b c d later alike carry =
      settled_at (λ resource. used pool resource (length d.variables) body those b d) (resource_of a) (resource_of b) (resource_alike alike)
      (settled_at (λ n. used pool (resource_of a) n body those b d) (length c.variables) (length d.variables) carry.variables.as_many
      (used_alike pool (resource_of a) (length c.variables) body sees alike (work_later later rest.work) carry))
  answers_item (works.Puts pool resource keep) a b c d later alike carry =
      end_alike keep (calls.PutEnds pool resource (Oks alike)) (work_later later rest.work) carry
  answers_item (works.Resolves promise) a b c d later alike carry =
      call_alike (calls.ResolveEnds promise (Oks alike)) (work_later later rest.work) carry

  throws_item : {x y : Work} → AlikeItem sight from x y → SettlesAlike sight from AlikeRaised (thrown (x ∷ these)) (thrown (y ∷ those))
  unfolding answered thrown
  throws_item (works.Runs items sees) r s c d later alike carry = rest.throws r s c d later alike carry
  throws_item (works.Cuts keep) r s c d later alike carry = rest.throws r s c d later alike carry
  throws_item (works.Restores {these = own} {those = others} variables) r s c d later alike carry =
      rest.throws r s (restored own c) (restored others d) later alike (carry_restored (variables_later later variables) carry)
  throws_item (works.Tries handler keep sees) r s c d later alike carry =
      let found = carry_caught keep alike carry in
      let then = and_later later found.later in
      settle_alike (block_alike handler (caught keep r c) (caught keep s d) sees found.carry)
      (λ u v e f more same so. rest.answers u v (cut keep e) (cut keep f) (and_later then more) same (carry_cut keep so))
      (λ p q e f more same so. rest.throws p q e f (and_later then more) same so) (Goes (works.Cuts keep) (work_later then rest.work))
  throws_item (works.Binds slot) r s c d later alike carry = rest.throws r s c d later alike carry
  throws_item (works.Loops body keep sees) r s c d later alike carry = rest.throws r s c d later alike carry
  throws_item (works.Repeats turn left body keep sees) r s c d later alike carry = rest.throws r s c d later alike carry
  throws_item (works.Leaves context late keep) r s c d later alike carry =
      end_alike keep (calls.Leaves context late (Errs alike)) (work_later later rest.work) carry
  throws_item (works.Closes switch keep) r s c d later alike carry =
      end_alike keep (calls.Closes switch (Something alike) Units) (work_later later rest.work) carry
  throws_item (works.Closings switch kept) r s c d later alike carry =
      call_alike (calls.Closes switch (Something alike) (value_later later kept)) (work_later later rest.work) carry
  throws_item (works.Joins group keep) r s c d later alike carry =
      end_alike keep (calls.Joins group (Something (Errs alike))) (work_later later rest.work) carry
  throws_item (works.ShutReaders reader keep) r s c d later alike carry =
      end_alike keep (calls.ShutReaders reader (Errs alike)) (work_later later rest.work) carry
  throws_item (works.ShutWriters writer keep) r s c d later alike carry =
      end_alike keep (calls.ShutWriters writer (Errs alike)) (work_later later rest.work) carry
  throws_item (works.Lockings mutex body sees) r s c d later alike carry = rest.throws r s c d later alike carry
  throws_item (works.Unlocks mutex keep) r s c d later alike carry =
      end_alike keep (calls.PoisonEnds mutex alike) (work_later later rest.work) carry
  throws_item (works.Usings pool body sees) r s c d later alike carry = rest.throws r s c d later alike carry
  throws_item (works.Puts pool resource keep) r s c d later alike carry =
      end_alike keep (calls.PutEnds pool resource (Errs alike)) (work_later later rest.work) carry
  throws_item (works.Resolves promise) r s c d later alike carry =
      call_alike (calls.ResolveEnds promise (Errs alike)) (work_later later rest.work) carry

-- ## All work

nothing_left : (sight : Sight) (from : Tables) → GoesAlike sight from [] []
unfolding answered thrown
nothing_left sight from = record {
  work = Ends;
  answers = λ a b c d later alike carry. call_alike (calls.Ends (Oks alike)) Ends carry;
  throws = λ r s c d later alike carry. call_alike (calls.Ends (Errs alike)) Ends carry;
}

goes_alike : {sight : Sight} {from : Tables} {these those : List Work} → AlikeWork sight from these those → GoesAlike sight from these those
goes_alike {sight} {from} Ends = nothing_left sight from
goes_alike {sight} {from} (Goes first others) =
    let rest = goes_alike others in
    record { work = Goes first others; answers = answers_item rest first; throws = throws_item rest first }

pub next_call_sees_scope : NextCallSeesScope
next_call_sees_scope sight came met these those c d alike work carry = by_outcome alike
  where
    by_outcome : {p q : Outcome} → AlikeOutcome (tables_of c d) p q → AlikeSettled sight (passed p these c) (passed q those d)
    by_outcome (Oks {a = a} {b = b} value) = (goes_alike work).answers a b c d (at_once (tables_of c d)) value carry
    by_outcome (Errs {a = r} {b = s} raised) = (goes_alike work).throws r s c d (at_once (tables_of c d)) raised carry
