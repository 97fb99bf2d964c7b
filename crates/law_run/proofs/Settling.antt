-- What silent statements raise: each time the next number, which is listed, and one exception at a time is under way.
-- So the call that they come to holds what came to them, or one of the listed exceptions, whose numbers go from the counter before up to the counter after.
use Rattle.std.proofs.Common.{◌≡◌, ℕ, zero, suc, ◌+◌, ◌≤◌, ◌<◌, ◌⊎◌, inr, Bool, true, false, List, [], ◌∷◌, ◌++◌, length, Option, Some, None, refl, sym, ap, subst, arith}
use Rattle.std.specs.Prelude.{ℤ, pos, negsuc}
use Rattle.std.specs.List.{Contains}
use Rattle.std.proofs.lemmas.List.Elements.{Contains-push}
use Rattle.eio_value.specs.declared.plain.Member.{Member}
use Rattle.eio_value.specs.declared.plain.Plain.{Plain as PlainException}
use Rattle.eio_value.specs.declared.raised.Outcome.{Outcome}
use Rattle.eio_value.specs.declared.raised.Outcome.TheVariants as outcome
use Rattle.eio_value.specs.declared.raised.Raised.{Raised}
use Rattle.eio_value.specs.declared.raised.Raised.TheVariants.{One}
use Rattle.eio_value.specs.declared.value.Value.{Value}
use Rattle.spec_script.specs.Syntax.{Statement, Let, LetForm, If, Give, Raise, Try, Repeat, Trace, Branches, OnObjectWith, Sleep, TakeBytes, Put, OpenDir, OnPath, Save, Group, All, Any, Block, Begins, Statements, Done, Then, Blocks, NoBlocks}
use Rattle.spec_fiber.specs.Evaluation.{Evaluated, Is, Raises, value_of, values_of, number_of, text_of}
use Rattle.spec_fiber.specs.Replies.{passed}
use Rattle.spec_fiber.specs.Settling.{Settled, answered, thrown, settle}
use Rattle.spec_fiber.specs.Silent.{Went, Past, Called, Threw, and_then, within, with_value, is_zero, gives, repeated, branched, statement, block, statements, repeats}
use Rattle.spec_fiber.specs.Work as work
use Rattle.spec_fiber.specs.Work.{Work, Carry, cut, restored, bound, caught, member, counted}
use Rattle.law_run.specs.Serials.{AreNumbered}
use Rattle.law_run.proofs.Places.{AllRaised, AllOutcome, AllCall, all_one}

abbrev pub IsListed : List Member → Option Member → Type 0
IsListed raises None = Unit {0}
IsListed raises (Some x) = Contains raises x

-- an exception with a number from one on and below another; or none, where the one is at most the other
abbrev pub Born : (from to : ℕ) → Option Member → Type 0
Born from to None = from ≤ to
Born from to (Some x) = (from ≤ x.serial) × (x.serial < to)

-- one of the raises that have the numbers from one up to another; or none of them
abbrev pub BornIn : (from : ℕ) → List Member → (to : ℕ) → Option Member → Type 0
BornIn from raises to born = AreNumbered from raises to × IsListed raises born

-- those of which P holds, and the new one
abbrev pub With : (Member → Type 0) → Option Member → Member → Type 0
With P None x = P x
With P (Some new) x = P x ⊎ (x ≡ new)

-- ## Numbers

pub numbered_rises : (from : ℕ) (raises : List Member) (to : ℕ) → AreNumbered from raises to → from ≤ to
numbered_rises from [] to same = omega (arith, same)
numbered_rises from (x ∷ raises) to it = omega (arith, numbered_rises (from + 1) raises to it.1)

pub numbered_append : (from : ℕ) (raises : List Member) (middle : ℕ) (others : List Member) (to : ℕ) → AreNumbered from raises middle → AreNumbered middle others to → AreNumbered from (raises ++ others) to
numbered_append from [] middle others to same it = subst (λ n. AreNumbered n others to) (sym same) it
numbered_append from (x ∷ raises) middle others to first it = (first.0, numbered_append (from + 1) raises middle others to first.1 it)

pub numbered_contains : (from : ℕ) (raises : List Member) (to : ℕ) (x : Member) → AreNumbered from raises to → Contains raises x → (from ≤ x.serial) × (x.serial < to)
numbered_contains from [] to x it (k, below, is) = absurd (omega (arith, below))
numbered_contains from (y ∷ raises) to x it (zero, below, is) =
    let e : y.serial ≡ x.serial = ap (λ (z : Member). z.serial) is in
    let rises : from + 1 ≤ to = numbered_rises (from + 1) raises to it.1 in
    (omega (arith, e, it.0), omega (arith, e, it.0, rises))
numbered_contains from (y ∷ raises) to x it (suc k, below, is) =
    let later : (from + 1 ≤ x.serial) × (x.serial < to) = numbered_contains (from + 1) raises to x it.1 (k, omega (arith, below), is) in
    (omega (arith, later.0), later.1)

pub numbered_count : (from : ℕ) (raises : List Member) (to : ℕ) → AreNumbered from raises to → to ≡ from + length raises
numbered_count from [] to same = omega (arith, same)
numbered_count from (x ∷ raises) to it = let rest : to ≡ from + 1 + length raises = numbered_count (from + 1) raises to it.1 in omega (arith, rest)

pub born_of : (from : ℕ) (raises : List Member) (to : ℕ) (born : Option Member) → BornIn from raises to born → Born from to born
born_of from raises to None it = numbered_rises from raises to it.0
born_of from raises to (Some x) it = numbered_contains from raises to x it.0 it.1

-- ## Statements

-- the raises so far are counted from this number
abbrev pub Since : (from : ℕ) → Carry → Type 0
Since from c = AreNumbered from c.raises c.serial

pub counted_since : (from : ℕ) (what : PlainException) (c : Carry) → Since from c → Since from (counted what c)
counted_since from what c h = numbered_append from c.raises c.serial (member what c ∷ []) (c.serial + 1) h (refl, refl)

-- a new exception that stands alone
pub record IsNew (from : ℕ) (c : Carry) (raised : Raised) : Type 0 where
  pub what : Member
  pub alone : raised ≡ One what
  pub born : BornIn from c.raises c.serial (Some what)

-- what statements come to, begun at this number
abbrev Goes : (from : ℕ) → Went → Type 0
Goes from (Past it c) = Since from c
Goes from (Called call behind c) = Since from c × AllCall (λ _. ⊥) call
Goes from (Threw raised c) = IsNew from c raised

raises_goes : (from : ℕ) (what : PlainException) (c : Carry) → Since from c → IsNew from (counted what c) (One (member what c))
raises_goes from what c h = record { what = member what c; alone = refl; born = (counted_since from what c h, Contains-push c.raises (member what c)) }

with_value_goes : {A : Type 0} (from : ℕ) (e : Evaluated A) (c : Carry) (next : A → Went) → Since from c → ((a : A) → Goes from (next a)) → Goes from (with_value e c next)
with_value_goes from (Is it) c next h goes = goes it
with_value_goes from (Raises what) c next h goes = raises_goes from what c h

and_then_goes : (from : ℕ) (went : Went) (next : Value → Carry → Went) (catch : Raised → Carry → Went) (more : List Work) → Goes from went
    → ((it : Value) (c : Carry) → Since from c → Goes from (next it c)) → ((raised : Raised) (c : Carry) → IsNew from c raised → Goes from (catch raised c))
    → Goes from (and_then went next catch more)
and_then_goes from (Past it c) next catch more h goes catches = goes it c h
and_then_goes from (Called call behind c) next catch more h goes catches = h
and_then_goes from (Threw raised c) next catch more h goes catches = catches raised c h

within_goes : (from keep : ℕ) (went : Went) → Goes from went → Goes from (within keep went)
within_goes from keep went h = and_then_goes from went _ _ _ h (λ it c k. k) (λ raised c new. new)

repeated_goes : (from : ℕ) (z : ℤ) (body : Block) (c : Carry) → Since from c → Goes from (repeated z body c)
repeated_goes from (pos zero) body c h = h
repeated_goes from (pos (suc left)) body c h = (h, λ x i. i)
repeated_goes from (negsuc n) body c h = h

branched_goes : (from : ℕ) (group : Group) (branches : Blocks) (c : Carry) → Since from c → Goes from (branched group branches c)
branched_goes from All NoBlocks c h = h
branched_goes from Any NoBlocks c h = (h, λ x i. i)
branched_goes from group branches c h = (h, λ x i. i)

if_goes : (from : ℕ) (b : Bool) (first second : Went) → Goes from first → Goes from second → Goes from (elim b [ true ↦ second | false ↦ first ])
if_goes from true first second hf hs = hs
if_goes from false first second hf hs = hf

if_gives : (from : ℕ) (b : Bool) (last on : Went) → Goes from last → Goes from on → Goes from (elim b [ true ↦ last | false ↦ on ])
if_gives from true last on hl ho = hl
if_gives from false last on hl ho = ho

mutual
  unfolding statement block statements

  statement_goes : (it : Statement) (c : Carry) (from : ℕ) → Since from c → Goes from (statement it c)
  statement_goes (Let e) c from h = with_value_goes from (value_of c.variables e) c _ h (λ value. h)
  statement_goes (LetForm form) c from h = and_then_goes from (statement form c) _ _ _ (statement_goes form c from h) (λ it d k. k) (λ raised d new. new)
  statement_goes (If test first second) c from h =
      with_value_goes from (number_of c.variables test) c _ h (λ z. within_goes from (length c.variables) _ (if_goes from (is_zero z) (block first c) (block second c) (block_goes first c from h) (block_goes second c from h)))
  statement_goes (Give e) c from h = with_value_goes from (value_of c.variables e) c _ h (λ value. h)
  statement_goes (Raise text) c from h = raises_goes from _ c h
  statement_goes (Try tried handler) c from h =
      and_then_goes from (block tried c) _ _ _ (block_goes tried c from h) (λ it d k. k)
      (λ raised d new. within_goes from (length c.variables) _ (block_goes handler (caught (length c.variables) raised d) from new.born.0))
  statement_goes (Repeat times body) c from h = with_value_goes from (number_of c.variables times) c _ h (λ z. repeated_goes from z body c h)
  statement_goes (Trace operands) c from h = with_value_goes from (values_of c.variables operands) c _ h (λ values. (h, λ x i. i))
  statement_goes (Branches group branches) c from h = branched_goes from group branches c h
  statement_goes (OnObjectWith call object operand) c from h = with_value_goes from (value_of c.variables operand) c _ h (λ value. (h, λ x i. i))
  statement_goes (Sleep time) c from h = with_value_goes from (number_of c.variables time) c _ h (λ z. (h, λ x i. i))
  statement_goes (TakeBytes reader count) c from h = with_value_goes from (number_of c.variables count) c _ h (λ z. (h, λ x i. i))
  statement_goes (Put writer operand) c from h = with_value_goes from (text_of c.variables operand) c _ h (λ text. (h, λ x i. i))
  statement_goes (OpenDir directory path body) c from h = with_value_goes from (text_of c.variables path) c _ h (λ text. (h, λ x i. i))
  statement_goes (OnPath call directory path) c from h = with_value_goes from (text_of c.variables path) c _ h (λ text. (h, λ x i. i))
  statement_goes (Save only_new directory path content) c from h =
      with_value_goes from (text_of c.variables path) c _ h (λ name. with_value_goes from (text_of c.variables content) c _ h (λ text. (h, λ x i. i)))
  statement_goes other c from h = (h, λ x i. i)

  block_goes : (it : Block) (c : Carry) (from : ℕ) → Since from c → Goes from (block it c)
  block_goes (Begins number items) c from h = statements_goes items c from h

  statements_goes : (items : Statements) (c : Carry) (from : ℕ) → Since from c → Goes from (statements items c)
  statements_goes Done c from h = h
  statements_goes (Then it rest) c from h =
      if_gives from (gives it) (statement it c) _ (statement_goes it c from h)
      (and_then_goes from (statement it c) _ _ _ (statement_goes it c from h) (λ value d k. statements_goes rest d from k) (λ raised d new. new))

-- ## Work

module _ (P : Member → Type 0) where
  -- the next call, begun at this number: it holds those of which P holds, or one new one
  pub record Settles (from : ℕ) (it : Settled) : Type 0 where
    pub born : Option Member
    pub range : BornIn from it.carry.raises it.carry.serial born
    pub call : AllCall (With P born) it.call

  -- a call that holds no exception
  settles_quietly : (from : ℕ) (it : Settled) → Since from it.carry → AllCall (λ _. ⊥) it.call → Settles from it
  settles_quietly from it h holds_none = record { born = None; range = (h, tt); call = λ x i. absurd (holds_none x i) }

  settle_goes : (from : ℕ) (went : Went) (next : Value → Carry → Settled) (catch : Raised → Carry → Settled) (work : List Work) → Goes from went
      → ((it : Value) (c : Carry) → Since from c → Settles from (next it c)) → ((raised : Raised) (c : Carry) → IsNew from c raised → Settles from (catch raised c))
      → Settles from (settle went next catch work)
  settle_goes from (Past it c) next catch work h goes catches = goes it c h
  settle_goes from (Called call behind c) next catch work h goes catches = settles_quietly from _ h.0 h.1
  settle_goes from (Threw raised c) next catch work h goes catches = catches raised c h

  new_holds : (from : ℕ) (c : Carry) (raised : Raised) (new : IsNew from c raised) → AllRaised (With P (Some new.what)) raised
  new_holds from c raised new = subst (AllRaised (With P (Some new.what))) (sym new.alone) (all_one (With P (Some new.what)) new.what (inr refl))

  mutual
    unfolding answered thrown

    pub answered_settles : (work : List Work) (it : Value) (c : Carry) (from : ℕ) → Since from c → Settles from (answered work it c)
    answered_settles [] it c from h = settles_quietly from _ h (λ x i. i)
    answered_settles (work.Run items ∷ work) it c from h =
        settle_goes from (statements items c) _ _ _ (statements_goes items c from h) (λ u d k. answered_settles work u d from k)
        (λ q d new. thrown_settles work q d from (Some new.what) new.born (new_holds from d q new))
    answered_settles (work.Cut keep ∷ work) it c from h = answered_settles work it (cut keep c) from h
    answered_settles (work.Restore variables ∷ work) it c from h = answered_settles work it (restored variables c) from h
    answered_settles (work.Try handler keep ∷ work) it c from h = answered_settles work it (cut keep c) from h
    answered_settles (work.Bind slot ∷ work) it c from h = answered_settles work _ (bound slot it c) from h
    answered_settles (work.Repeat turn zero body keep ∷ work) it c from h = answered_settles work _ (cut keep c) from h
    answered_settles (work.Repeat turn (suc left) body keep ∷ work) it c from h =
        settle_goes from (repeats turn left body keep c) _ _ _ (h, λ x i. i) (λ u d k. answered_settles work u d from k)
        (λ q d new. thrown_settles work q d from (Some new.what) new.born (new_holds from d q new))
    answered_settles (work.Locking mutex body ∷ work) it c from h =
        settle_goes from (block body c) _ _ _ (block_goes body c from h) (λ u d k. settles_quietly from _ k (λ x i. i))
        (λ q d new. record { born = Some new.what; range = new.born; call = new_holds from d q new })
    answered_settles (work.Using pool body ∷ work) it c from h =
        settle_goes from (block body (bound (length c.variables) it c)) _ _ _ (block_goes body (bound (length c.variables) it c) from h) (λ u d k. settles_quietly from _ k (λ x i. i))
        (λ q d new. record { born = Some new.what; range = new.born; call = new_holds from d q new })
    answered_settles (mark ∷ work) it c from h = settles_quietly from _ h (λ x i. i)

    pub thrown_settles : (work : List Work) (r : Raised) (c : Carry) (from : ℕ) (born : Option Member) → BornIn from c.raises c.serial born → AllRaised (With P born) r → Settles from (thrown work r c)
    thrown_settles [] r c from born range all = record { born = born; range = range; call = all }
    thrown_settles (work.Run items ∷ work) r c from born range all = thrown_settles work r c from born range all
    thrown_settles (work.Cut keep ∷ work) r c from born range all = thrown_settles work r c from born range all
    thrown_settles (work.Restore variables ∷ work) r c from born range all = thrown_settles work r (restored variables c) from born range all
    thrown_settles (work.Try handler keep ∷ work) r c from born range all =
        let d : Carry = caught keep r c in
        settle_goes from (block handler d) _ _ _ (block_goes handler d from range.0) (λ u e k. answered_settles work u (cut keep e) from k)
        (λ q e new. thrown_settles work q e from (Some new.what) new.born (new_holds from e q new))
    thrown_settles (work.Bind slot ∷ work) r c from born range all = thrown_settles work r c from born range all
    thrown_settles (work.Loop body keep ∷ work) r c from born range all = thrown_settles work r c from born range all
    thrown_settles (work.Repeat turn left body keep ∷ work) r c from born range all = thrown_settles work r c from born range all
    thrown_settles (work.Locking mutex body ∷ work) r c from born range all = thrown_settles work r c from born range all
    thrown_settles (work.Using pool body ∷ work) r c from born range all = thrown_settles work r c from born range all
    thrown_settles (mark ∷ work) r c from born range all = record { born = born; range = range; call = all }

  -- work that goes on with something
  pub passed_settles : (from : ℕ) (it : Outcome) (work : List Work) (c : Carry) → Since from c → AllOutcome P it → Settles from (passed it work c)
  passed_settles from (outcome.Ok it) work c since all = answered_settles work it c from since
  passed_settles from (outcome.Err raised) work c since all = thrown_settles work raised c from None (since, tt) all
