-- Statements of a fiber whose texts stand come to calls whose texts stand.
use Rattle.std.proofs.Common.{ℕ, zero, suc, List, [], ◌∷◌, map, length, ℤ, pos, negsuc}
use Rattle.std.specs.List.{AllByRecursion as Each}
use Rattle.eio_value.specs.declared.plain.Plain.TheVariants.{Failure}
use Rattle.eio_value.specs.declared.value.Value.TheVariants as value
use Rattle.spec_script.specs.Syntax as syntax
use Rattle.spec_script.specs.Syntax.{Expression, Expressions, Statement, Let, LetForm, If, Give, Raise, Try, Repeat, Loop, Trace, Yield, Check, AwaitCancel, Sub, Protect, Cancel, Switch, Fork, Fail, OnRelease, Branches, OnObject, OnObjectWith, UseRw, UsePool, Submit, Sleep, Now, BufRead, OnReader, TakeBytes, Copy, BufWrite, Put, OpenDir, OnPath, Save, Group, Any, Both, First, Block, Begins, Statements, Done, Then, Blocks, NoBlocks, AndBlock}
use Rattle.spec_fiber.specs.Asks as ask
use Rattle.spec_fiber.specs.Evaluation.{value_at, value_of, values_of, held_number, number_of, text_of}
use Rattle.spec_fiber.specs.Silent.{Past, with_value, asks, blocks_of, place_in, is_zero, gives, items_of, repeats, repeated, branched, statement, block, statements}
use Rattle.spec_fiber.specs.Work as work
use Rattle.spec_fiber.specs.Work.{Work, Carry, bound, caught}
use Rattle.law_fiber.specs.Texts.Texts.{Held, IsWrittenExpression, AreWrittenExpressions, IsWrittenStatement, IsWrittenBlock, AreWritten, AreWrittenBlocks, IsHeldValue, AreHeldValues}
use Rattle.law_fiber.proofs.Texts.Evaluating.{IsHeldEvaluated, Anything, value_held, values_held, number_held, text_held, given_held}
use Rattle.law_fiber.proofs.Texts.Going.{Tables, IsTextedCarry, TextedWent, Pasts, Calls, Throws, carry_cut, carry_bound, carry_caught, followed, within_texts, asks_texts, raises_texts, with_value_texts, either}

module _ (tables : Tables) where
  pub items_written : (body : Block) → IsWrittenBlock tables.written body → AreWritten tables.written (items_of body)
  unfolding IsWrittenBlock
  items_written (Begins number items) are = are

  pub blocks_written : (branches : Blocks) → AreWrittenBlocks tables.written branches → Each (IsWrittenBlock tables.written) (blocks_of branches)
  unfolding AreWrittenBlocks
  blocks_written NoBlocks are = tt
  blocks_written (AndBlock first rest) are = (are.0, blocks_written rest are.1)

  module _ {old : List (List ℕ)} {c : Carry} (carry : IsTextedCarry tables old c) where
    abbrev held : Held
    held = tables.held c.texts

    evaluated : (e : Expression) → IsWrittenExpression tables.written e → IsHeldEvaluated held (IsHeldValue held) (value_of c.variables e)
    evaluated e is =
        value_held held (tables.refuses c.texts carry.stands) tables.written (tables.writes c.texts carry.stands) c.variables carry.variables e is

    all_evaluated : (es : Expressions) → AreWrittenExpressions tables.written es → IsHeldEvaluated held (AreHeldValues held) (values_of c.variables es)
    all_evaluated es is =
        values_held held (tables.refuses c.texts carry.stands) tables.written (tables.writes c.texts carry.stands) c.variables carry.variables es is

    number_evaluated : (e : Expression) → IsWrittenExpression tables.written e → IsHeldEvaluated held Anything (number_of c.variables e)
    number_evaluated e is =
        number_held held (tables.refuses c.texts carry.stands) tables.written (tables.writes c.texts carry.stands) c.variables carry.variables e is

    text_evaluated : (e : Expression) → IsWrittenExpression tables.written e → IsHeldEvaluated held held.text (text_of c.variables e)
    text_evaluated e is =
        text_held held (tables.refuses c.texts carry.stands) tables.written (tables.writes c.texts carry.stands) c.variables carry.variables e is

    captured_held : (captured : List ℕ) → AreHeldValues held (map (value_at c.variables) captured)
    captured_held captured =
        given_held held (tables.refuses c.texts carry.stands) tables.written (tables.writes c.texts carry.stands) c.variables carry.variables captured

    -- ## Forms

    pub repeats_texts : (turn left : ℕ) (body : Block) (keep : ℕ) → IsWrittenBlock tables.written body → TextedWent tables old (repeats turn left body keep c)
    repeats_texts turn left body keep is =
        Calls (carry_bound tables carry keep (value.Int (pos turn)) tt) tt (items_written body is, (is, tt))

    repeated_texts : (z : ℤ) (body : Block) → IsWrittenBlock tables.written body → TextedWent tables old (repeated z body c)
    repeated_texts (pos zero) body is = Pasts carry tt
    repeated_texts (pos (suc left)) body is = repeats_texts 0 left body (length c.variables) is
    repeated_texts (negsuc n) body is = Pasts carry tt

    group_texts : (group : Group) (branches : Blocks) → AreWrittenBlocks tables.written branches
        → TextedWent tables old (asks (ask.Branches group (blocks_of branches)) c)
    group_texts group branches are = asks_texts tables carry (blocks_written branches are)

    branched_texts : (group : Group) (branches : Blocks) → AreWrittenBlocks tables.written branches → TextedWent tables old (branched group branches c)
    branched_texts syntax.All NoBlocks are = Pasts carry tt
    branched_texts syntax.All (AndBlock first rest) are = group_texts syntax.All (AndBlock first rest) are
    branched_texts Any NoBlocks are = asks_texts tables carry tt
    branched_texts Any (AndBlock first rest) are = group_texts Any (AndBlock first rest) are
    branched_texts Both branches are = group_texts Both branches are
    branched_texts First branches are = group_texts First branches are

  -- ## Statements

  mutual
    unfolding statement block statements IsWrittenStatement IsWrittenBlock AreWritten

    pub statement_texts : {old : List (List ℕ)} (it : Statement) (c : Carry) → IsWrittenStatement tables.written it → IsTextedCarry tables old c
        → TextedWent tables old (statement it c)
    statement_texts (Let e) c is carry =
        with_value_texts tables (IsHeldValue (tables.held c.texts)) (value_of c.variables e) (λ it. Past value.Unit (bound (length c.variables) it c)) carry
        (evaluated carry e is) (λ it one. Pasts (carry_bound tables carry (length c.variables) it one) tt)
    statement_texts (LetForm form) c is carry =
        followed tables (work.Bind (length c.variables) ∷ []) (λ held. (tt, tt)) (statement_texts form c is carry)
        (λ it d so one. Pasts (carry_bound tables so (length c.variables) it one) tt) (λ r d so one. Throws so one)
    statement_texts (If test first second) c is carry =
        with_value_texts tables Anything (number_of c.variables test) _ carry (number_evaluated carry test is.0) (λ z one.
        within_texts tables (length c.variables) (either tables (is_zero z) (block_texts first c is.1 carry) (block_texts second c is.2 carry)))
    statement_texts (Give e) c is carry =
        with_value_texts tables (IsHeldValue (tables.held c.texts)) (value_of c.variables e) (λ it. Past it c) carry (evaluated carry e is)
        (λ it one. Pasts carry one)
    statement_texts (Raise text) c is carry = raises_texts tables (Failure text) carry (tables.fails c.texts carry.stands text is)
    statement_texts (Try tried handler) c is carry =
        followed tables (work.Try handler (length c.variables) ∷ []) (λ held. (is.1, tt)) (block_texts tried c is.0 carry)
        (λ it d so one. Pasts (carry_cut tables so (length c.variables)) one)
        (λ r d so one.
        within_texts tables (length c.variables)
        (block_texts handler (caught (length c.variables) r d) is.1 (carry_caught tables so (length c.variables) r one)))
    statement_texts (Repeat times body) c is carry =
        with_value_texts tables Anything (number_of c.variables times) (λ z. repeated z body c) carry (number_evaluated carry times is.0)
        (λ z one. repeated_texts carry z body is.1)
    statement_texts (Loop body) c is carry = Calls carry tt (items_written body is, (is, tt))
    statement_texts (Trace operands) c is carry =
        with_value_texts tables (AreHeldValues (tables.held c.texts)) (values_of c.variables operands) (λ values. asks (ask.Trace values) c) carry
        (all_evaluated carry operands is) (λ values are. asks_texts tables carry are)
    statement_texts Yield c is carry = asks_texts tables carry tt
    statement_texts Check c is carry = asks_texts tables carry tt
    statement_texts AwaitCancel c is carry = asks_texts tables carry tt
    statement_texts (Sub body) c is carry = asks_texts tables carry is
    statement_texts (Protect body) c is carry = asks_texts tables carry is
    statement_texts (Cancel context text) c is carry = asks_texts tables carry is
    statement_texts (Switch body) c is carry = asks_texts tables carry is
    statement_texts (Fork forking switch body) c is carry = asks_texts tables carry is
    statement_texts (Fail switch text) c is carry = asks_texts tables carry is
    statement_texts (OnRelease switch handler) c is carry = asks_texts tables carry is
    statement_texts (Branches group branches) c is carry = branched_texts carry group branches is
    statement_texts (OnObject call object) c is carry = asks_texts tables carry tt
    statement_texts (OnObjectWith call object operand) c is carry =
        with_value_texts tables (IsHeldValue (tables.held c.texts)) (value_of c.variables operand) (λ it. asks (ask.OnObjectWith call object it) c) carry
        (evaluated carry operand is) (λ it one. asks_texts tables carry one)
    statement_texts (UseRw mutex body) c is carry = Calls carry tt (is, tt)
    statement_texts (UsePool pool body) c is carry = Calls carry tt (is, tt)
    statement_texts (Submit executor weight captured job) c is carry = asks_texts tables carry (captured_held carry captured, is)
    statement_texts (Sleep time) c is carry =
        with_value_texts tables Anything (number_of c.variables time) (λ z. asks (ask.Sleep z) c) carry (number_evaluated carry time is)
        (λ z one. asks_texts tables carry tt)
    statement_texts Now c is carry = asks_texts tables carry tt
    statement_texts (BufRead flow limit body) c is carry = asks_texts tables carry is
    statement_texts (OnReader call reader) c is carry = asks_texts tables carry tt
    statement_texts (TakeBytes reader count) c is carry =
        with_value_texts tables Anything (number_of c.variables count) (λ z. asks (ask.TakeBytes (held_number c.variables reader) z) c) carry
        (number_evaluated carry count is) (λ z one. asks_texts tables carry tt)
    statement_texts (Copy from to) c is carry = asks_texts tables carry tt
    statement_texts (BufWrite flow body) c is carry = asks_texts tables carry is
    statement_texts (Put writer operand) c is carry =
        with_value_texts tables (tables.held c.texts).text (text_of c.variables operand)
        (λ text. asks (ask.PutText (held_number c.variables writer) text) c) carry
        (text_evaluated carry operand is) (λ text one. asks_texts tables carry one)
    statement_texts (OpenDir directory path body) c is carry =
        with_value_texts tables (tables.held c.texts).text (text_of c.variables path)
        (λ text. asks (ask.OpenDirectory (place_in c.variables directory) text body) c) carry
        (text_evaluated carry path is.0) (λ text one. asks_texts tables carry (one, is.1))
    statement_texts (OnPath call directory path) c is carry =
        with_value_texts tables (tables.held c.texts).text (text_of c.variables path)
        (λ text. asks (ask.OnPath call (place_in c.variables directory) text) c) carry
        (text_evaluated carry path is) (λ text one. asks_texts tables carry one)
    statement_texts (Save only_new directory path content) c is carry =
        with_value_texts tables (tables.held c.texts).text (text_of c.variables path)
        (λ name. with_value (text_of c.variables content) c (λ text. asks (ask.Save only_new (place_in c.variables directory) name text) c)) carry
        (text_evaluated carry path is.0) (λ name one.
        with_value_texts tables (tables.held c.texts).text (text_of c.variables content)
        (λ text. asks (ask.Save only_new (place_in c.variables directory) name text) c) carry
        (text_evaluated carry content is.1) (λ text two. asks_texts tables carry (one, two)))

    pub block_texts : {old : List (List ℕ)} (it : Block) (c : Carry) → IsWrittenBlock tables.written it → IsTextedCarry tables old c
        → TextedWent tables old (block it c)
    block_texts (Begins number items) c is carry = statements_texts items c is carry

    pub statements_texts : {old : List (List ℕ)} (items : Statements) (c : Carry) → AreWritten tables.written items → IsTextedCarry tables old c
        → TextedWent tables old (statements items c)
    statements_texts Done c is carry = Pasts carry tt
    statements_texts (Then it rest) c is carry =
        let first = statement_texts it c is.0 carry in
        either tables (gives it)
        (followed tables (work.Run rest ∷ []) (λ held. (is.1, tt)) first
        (λ u d so one. statements_texts rest d is.1 so) (λ r d so one. Throws so one))
        first
