-- Sound statements of a fiber whose slots have kinds come to calls that have them.
use Rattle.std.proofs.Common.{◌≡◌, ◌≤◌, ℕ, zero, suc, true, false, All, List, [], ◌∷◌, ◌++◌, map, take, ℤ, pos, negsuc, length, refl, sym, ap, subst, ◌∙◌, arith}
use Rattle.std.proofs.lemmas.List.Elements.{All-nil, All-cons, All-head, All-tail}
use Rattle.eio_value.specs.Exceptions.{bound_text}
use Rattle.eio_value.specs.Table.{intern}
use Rattle.eio_value.specs.declared.raised.Raised.{Raised}
use Rattle.eio_value.specs.declared.value.Value.{Value}
use Rattle.eio_value.specs.declared.value.Value.TheVariants as value
use Rattle.spec_script.specs.Kinds.{Kind, VariableKind}
use Rattle.spec_script.specs.Syntax as syntax
use Rattle.spec_script.specs.Syntax.{Statement, Let, LetForm, If, Give, Raise, Try, Repeat, Loop, Trace, Yield, Check, AwaitCancel, Sub, Protect, Cancel, Switch, Fork, Fail, OnRelease, Branches, OnObject, OnObjectWith, UseRw, UsePool, Submit, Sleep, Now, BufRead, OnReader, TakeBytes, Copy, BufWrite, Put, OpenDir, OnPath, Save, Group, Any, Both, First, Directory, Declared, Opened, Block, Begins, Statements, Done, Then, Blocks, NoBlocks, AndBlock}
use Rattle.law_script.specs.Scripts.Soundness.{IsSoundDirectory, HasItsBranches, block_count, behind, IsSoundStatement, IsSoundBlock, AreSoundStatements, AreSoundBlocks}
use Rattle.spec_fiber.specs.Asks as ask
use Rattle.spec_fiber.specs.Evaluation.{value_of, values_of, held_number, number_of, text_of}
use Rattle.spec_fiber.specs.Numbered.{blocks_of_statement, blocks_of_branches, blocks_from, blocks_of_statements}
use Rattle.spec_fiber.specs.Silent.{Past, within, with_value, asks, blocks_of, place_in, is_zero, gives, items_of, repeated, branched, statement, block, statements}
use Rattle.spec_fiber.specs.Work as work
use Rattle.spec_fiber.specs.Work.{Work, Carry, bound, caught}
use Rattle.law_fiber.specs.Kinded.Kinds.{Facts, knows, HasKinds, StartsWith, with_kind, FitStatements, FitsBlock, HasKindOfPlace, AtBoth, Behind, asked_by, HasKindsOfWork}
use Rattle.law_fiber.proofs.Kinded.Variables.{starts_self, starts_with_one, starts_then, starts_longer, cut_back, as_many, kinds_bound, kinds_back, context_named, switch_named, reader_named, writer_named, capability_named, any_kinds}
use Rattle.law_fiber.proofs.Kinded.Going.{KindsOfWent, Pasts, Calls, Throws, Exactly, went_within, followed, within_kinds, asks_kinds, with_value_kinds, either}

-- ## Lists of blocks

-- what all of two lists have
pub both_parts : {X : Type 0} (P : X → Type 0) (xs ys : List X) → All P (xs ++ ys) → All P xs × All P ys
both_parts P [] ys all = (All-nil P, all)
both_parts P (x ∷ xs) ys all =
    let parts = both_parts P xs ys (All-tail P x (xs ++ ys) all) in
    (All-cons P x xs (All-head P x (xs ++ ys) all) parts.0, parts.1)

module _ (facts : Facts) where
  -- a statement that is sound where the slots have these kinds
  abbrev FitsStatement : (slots : List Kind) → Statement → Type 0
  FitsStatement slots it = IsSoundStatement (knows facts slots) it × All facts.blocks (blocks_of_statement it)

  abbrev FitBranches : (slots : List Kind) → Blocks → Type 0
  FitBranches slots branches = AreSoundBlocks (knows facts slots) branches × All facts.blocks (blocks_of_branches branches)

  pub items_fit : (slots : List Kind) (body : Block) → FitsBlock facts slots body → FitStatements facts slots (items_of body)
  unfolding IsSoundBlock blocks_from
  items_fit slots (Begins number items) fits = (fits.0, All-tail facts.blocks (Begins number items) (blocks_of_statements items) fits.1)

  branches_fit : (slots : List Kind) (branches : Blocks) → FitBranches slots branches → All (FitsBlock facts slots) (blocks_of branches)
  unfolding AreSoundBlocks blocks_of_branches
  branches_fit slots NoBlocks fits = All-nil (FitsBlock facts slots)
  branches_fit slots (AndBlock first rest) fits =
      let parts = both_parts facts.blocks (blocks_from first) (blocks_of_branches rest) fits.1 in
      All-cons (FitsBlock facts slots) first (blocks_of rest) (fits.0.0, parts.0) (branches_fit slots rest (fits.0.1, parts.1))

  -- ## Slots behind statements

  abbrev after : Statement → List Kind → List Kind
  after it slots = (behind it (knows facts slots)).slots

  behind_knows : (it : Statement) (slots : List Kind) → behind it (knows facts slots) ≡ knows facts (after it slots)
  behind_knows (Let e) slots = refl
  behind_knows (LetForm form) slots = refl
  behind_knows other slots = refl

  starts_after : (it : Statement) (slots : List Kind) → StartsWith slots (after it slots)
  starts_after (Let e) slots = starts_with_one VariableKind slots
  starts_after (LetForm form) slots = starts_with_one VariableKind slots
  starts_after other slots = starts_self slots

  left_after : (it : Statement) (slots left : List Kind) → left ≡ after it slots → StartsWith slots left
  left_after it slots left same = subst (λ s. StartsWith slots s) (sym same) (starts_after it slots)

  -- ## Turns

  -- the end of a loop's turn, whatever slots the turn brought
  loop_ends : (keep : ℕ) (slots longer : List Kind) (body : Block) (rest : List Work) → keep ≡ length slots → FitsBlock facts slots body
      → Behind slots (asked_by facts rest).at_exception → StartsWith slots longer → (asked_by facts (work.Loop body keep ∷ rest)).at_value longer
  unfolding asked_by
  loop_ends keep slots longer body rest same fits drops starts = (
    let long = starts_longer slots longer starts in omega (arith, long, same),
    subst (λ s. FitsBlock facts s body) (sym (cut_back keep slots longer same starts)) fits,
    subst (λ s. Behind s (asked_by facts rest).at_exception) (sym (cut_back keep slots longer same starts)) drops,
  )

  -- before a turn of a loop, with its end behind it
  pub loop_works : (keep : ℕ) (slots : List Kind) (body : Block) (rest : List Work) → keep ≡ length slots → FitsBlock facts slots body
      → Behind slots (asked_by facts rest).at_exception → HasKindsOfWork facts slots (work.Run (items_of body) ∷ work.Loop body keep ∷ rest)
  unfolding asked_by
  loop_works keep slots body rest same fits drops =
      ((items_fit slots body fits, λ longer starts. loop_ends keep slots longer body rest same fits drops starts, drops), drops)

  repeat_ends : (turn left keep : ℕ) (slots longer : List Kind) (body : Block) (rest : List Work) → keep ≡ length slots
      → FitsBlock facts (with_kind VariableKind slots) body → (asked_by facts rest).at_value slots → Behind slots (asked_by facts rest).at_exception
      → StartsWith slots longer → (asked_by facts (work.Repeat turn left body keep ∷ rest)).at_value longer
  unfolding asked_by
  repeat_ends turn left keep slots longer body rest same fits goes drops starts = (
    let long = starts_longer slots longer starts in omega (arith, long, same),
    subst (λ s. FitsBlock facts (with_kind VariableKind s) body) (sym (cut_back keep slots longer same starts)) fits,
    subst (asked_by facts rest).at_value (sym (cut_back keep slots longer same starts)) goes,
    subst (λ s. Behind s (asked_by facts rest).at_exception) (sym (cut_back keep slots longer same starts)) drops,
  )

  -- before a turn of a `repeat`, with its number in a slot behind those that are kept
  pub repeat_works : (turn left keep : ℕ) (slots : List Kind) (body : Block) (rest : List Work) → keep ≡ length slots
      → FitsBlock facts (with_kind VariableKind slots) body → (asked_by facts rest).at_value slots → Behind slots (asked_by facts rest).at_exception
      → HasKindsOfWork facts (with_kind VariableKind slots) (work.Run (items_of body) ∷ work.Repeat turn left body keep ∷ rest)
  unfolding asked_by
  repeat_works turn left keep slots body rest same fits goes drops =
      let first = starts_with_one VariableKind slots in
      let inner = with_kind VariableKind slots in
      let behind_all : Behind inner (asked_by facts rest).at_exception = λ longer more. drops longer (starts_then slots inner longer first more) in (
        (
          items_fit inner body fits,
          λ longer more. repeat_ends turn left keep slots longer body rest same fits goes drops (starts_then slots inner longer first more),
          behind_all,
        ),
        behind_all,
      )

  repeated_kinds : (z : ℤ) (body : Block) (slots : List Kind) (c : Carry) → FitsBlock facts (with_kind VariableKind slots) body
      → HasKinds facts slots c.variables → KindsOfWent facts slots (Exactly slots) (repeated z body c)
  repeated_kinds (pos zero) body slots c fits has = Pasts slots refl has
  repeated_kinds (pos (suc left)) body slots c fits has =
      let same = as_many facts slots c.variables has in
      Calls (with_kind VariableKind slots)
      (kinds_bound facts (length c.variables) slots slots c.variables VariableKind (value.Int (pos 0)) same (starts_self slots) has tt) tt
      (λ rest stands. repeat_works 1 left (length c.variables) slots body rest same fits (stands.0 slots refl) stands.1)
  repeated_kinds (negsuc n) body slots c fits has = Pasts slots refl has

  -- ## Branches and places

  abbrev FitGroup : (slots : List Kind) → Group → Blocks → Type 0
  FitGroup slots group branches = FitBranches slots branches × HasItsBranches group (block_count branches)

  counted : (branches : Blocks) → length (blocks_of branches) ≡ block_count branches
  unfolding block_count
  counted NoBlocks = refl
  counted (AndBlock first rest) = ap suc (counted rest) ∙ omega arith

  some_blocks : (first : Block) (rest : Blocks) → 1 ≤ length (blocks_of (AndBlock first rest))
  some_blocks first rest = omega arith

  group_kinds : (group : Group) (branches : Blocks) (slots : List Kind) (c : Carry) → FitGroup slots group branches → 1 ≤ length (blocks_of branches)
      → HasKinds facts slots c.variables → KindsOfWent facts slots (Exactly slots) (asks (ask.Branches group (blocks_of branches)) c)
  group_kinds group branches slots c fits some has =
      asks_kinds facts c refl has (some, subst (λ n. HasItsBranches group n) (sym (counted branches)) fits.1, branches_fit slots branches fits.0)

  two_blocks : (branches : Blocks) → block_count branches ≡ 2 → 1 ≤ length (blocks_of branches)
  two_blocks branches two = let many = counted branches in omega (arith, many, two)

  branched_kinds : (group : Group) (branches : Blocks) (slots : List Kind) (c : Carry) → FitGroup slots group branches
      → HasKinds facts slots c.variables → KindsOfWent facts slots (Exactly slots) (branched group branches c)
  branched_kinds syntax.All NoBlocks slots c fits has = Pasts slots refl has
  branched_kinds syntax.All (AndBlock first rest) slots c fits has = group_kinds syntax.All (AndBlock first rest) slots c fits (some_blocks first rest) has
  branched_kinds Any NoBlocks slots c fits has = asks_kinds facts c refl has tt
  branched_kinds Any (AndBlock first rest) slots c fits has = group_kinds Any (AndBlock first rest) slots c fits (some_blocks first rest) has
  branched_kinds Both branches slots c fits has = group_kinds Both branches slots c fits (two_blocks branches fits.1) has
  branched_kinds First branches slots c fits has = group_kinds First branches slots c fits (two_blocks branches fits.1) has

  place_kinds : (directory : Directory) (slots : List Kind) (variables : List Value) → HasKinds facts slots variables
      → IsSoundDirectory (knows facts slots) directory → HasKindOfPlace facts (place_in variables directory)
  place_kinds (Declared number) slots variables has sound = sound
  place_kinds (Opened slot) slots variables has sound = capability_named facts slots variables slot has sound

  -- ## What may stand behind

  -- a handler, where an exception came to its `try`
  handler_stands : (keep : ℕ) (handler : Block) (slots longer : List Kind) (rest : List Work) → keep ≡ length slots → StartsWith slots longer
      → FitsBlock facts (with_kind VariableKind slots) handler → (asked_by facts rest).at_value slots → Behind slots (asked_by facts rest).at_exception
      → (asked_by facts (work.Try handler keep ∷ rest)).at_exception longer
  unfolding asked_by
  handler_stands keep handler slots longer rest same starts fits goes drops =
      let first = starts_with_one VariableKind slots in
      let inner = with_kind VariableKind slots in
      subst (λ s.
      FitsBlock facts (with_kind VariableKind s) handler
      × Behind (with_kind VariableKind s) (λ end. (asked_by facts rest).at_value (take keep end))
      × Behind (with_kind VariableKind s) (asked_by facts rest).at_exception)
      (sym (cut_back keep slots longer same starts)) (
        fits,
        λ end more. subst (asked_by facts rest).at_value (sym (cut_back keep slots end same (starts_then slots inner end first more))) goes,
        λ end more. drops end (starts_then slots inner end first more),
      )

  pub caught_kinds : (keep : ℕ) (slots longer : List Kind) (r : Raised) (c : Carry) → keep ≡ length slots → StartsWith slots longer
      → HasKinds facts longer c.variables → HasKinds facts (with_kind VariableKind slots) (caught keep r c).variables
  caught_kinds keep slots longer r c same starts has =
      kinds_bound facts keep slots longer c.variables VariableKind (value.Text (intern c.texts (bound_text c.texts r)).id) same starts has tt

  -- the statements behind one that left these slots
  rest_stands : (it : Statement) (items : Statements) (slots left : List Kind) (rest : List Work) → left ≡ after it slots
      → FitStatements facts (after it slots) items → Behind slots (asked_by facts rest).at_value → Behind slots (asked_by facts rest).at_exception
      → (asked_by facts (work.Run items ∷ rest)).at_value left
  unfolding asked_by
  rest_stands it items slots left rest is fits goes drops =
      let first = left_after it slots left is in (
        subst (λ s. FitStatements facts s items) (sym is) fits,
        λ longer more. goes longer (starts_then slots left longer first more),
        λ longer more. drops longer (starts_then slots left longer first more),
      )

  -- ## Statements

  mutual
    unfolding statement block statements IsSoundStatement IsSoundBlock AreSoundStatements blocks_of_statement blocks_from blocks_of_statements asked_by

    pub statement_kinds : (it : Statement) (slots : List Kind) (c : Carry) → FitsStatement slots it → HasKinds facts slots c.variables
        → KindsOfWent facts slots (Exactly (after it slots)) (statement it c)
    statement_kinds (Let e) slots c fits has =
        with_value_kinds facts (value_of c.variables e) c (λ it. Past value.Unit (bound (length c.variables) it c)) has (λ it.
        Pasts (with_kind VariableKind slots) refl
        (kinds_bound facts (length c.variables) slots slots c.variables VariableKind it (as_many facts slots c.variables has) (starts_self slots) has tt))
    statement_kinds (LetForm form) slots c fits has =
        let same = as_many facts slots c.variables has in
        followed facts (work.Bind (length c.variables) ∷ []) (statement_kinds form slots c fits has)
        (λ left it d is so. Pasts (with_kind VariableKind slots) refl
        (kinds_bound facts (length c.variables) slots left d.variables VariableKind it same (left_after form slots left is) so tt))
        (λ longer r d starts so. Throws longer starts so)
        (λ rest stands. (
          λ left is. subst (λ s. (asked_by facts rest).at_value (with_kind VariableKind s))
              (sym (cut_back (length c.variables) slots left same (left_after form slots left is))) (stands.0 (with_kind VariableKind slots) refl),
          stands.1,
        ))
    statement_kinds (If test first second) slots c fits has =
        let parts = both_parts facts.blocks (blocks_from first) (blocks_from second) fits.1 in
        with_value_kinds facts (number_of c.variables test) c
        (λ z. within (length c.variables) (elim (is_zero z) [ true ↦ block second c | false ↦ block first c ])) has (λ z.
        within_kinds facts (length c.variables) (as_many facts slots c.variables has) (starts_self slots)
        (either facts (is_zero z) (block_kinds first slots c (fits.0.1, parts.0) has) (block_kinds second slots c (fits.0.2, parts.1) has)))
    statement_kinds (Give e) slots c fits has =
        with_value_kinds facts (value_of c.variables e) c (λ it. Past it c) has (λ it. Pasts slots refl has)
    statement_kinds (Raise text) slots c fits has = Throws slots (starts_self slots) has
    statement_kinds (Try tried handler) slots c fits has =
        let same = as_many facts slots c.variables has in
        let parts = both_parts facts.blocks (blocks_from tried) (blocks_from handler) fits.1 in
        let handles : FitsBlock facts (with_kind VariableKind slots) handler = (fits.0.1, parts.1) in
        followed facts (work.Try handler (length c.variables) ∷ []) (block_kinds tried slots c (fits.0.0, parts.0) has)
        (λ left it d starts so. Pasts slots refl (kinds_back facts (length c.variables) slots left d.variables same starts so))
        (λ longer r d starts so.
        within_kinds facts (length c.variables) same (starts_with_one VariableKind slots)
        (block_kinds handler (with_kind VariableKind slots) (caught (length c.variables) r d) handles
        (caught_kinds (length c.variables) slots longer r d same starts so)))
        (λ rest stands. (
          λ left starts. subst (asked_by facts rest).at_value (sym (cut_back (length c.variables) slots left same starts)) (stands.0 slots refl),
          λ longer starts. handler_stands (length c.variables) handler slots longer rest same starts handles (stands.0 slots refl) stands.1,
        ))
    statement_kinds (Repeat times body) slots c fits has =
        with_value_kinds facts (number_of c.variables times) c (λ z. repeated z body c) has (λ z. repeated_kinds z body slots c (fits.0.1, fits.1) has)
    statement_kinds (Loop body) slots c fits has =
        Calls slots has tt (λ rest stands. loop_works (length c.variables) slots body rest (as_many facts slots c.variables has) fits stands.1)
    statement_kinds (Trace operands) slots c fits has =
        with_value_kinds facts (values_of c.variables operands) c (λ values. asks (ask.Trace values) c) has (λ values. asks_kinds facts c refl has tt)
    statement_kinds Yield slots c fits has = asks_kinds facts c refl has tt
    statement_kinds Check slots c fits has = asks_kinds facts c refl has tt
    statement_kinds AwaitCancel slots c fits has = asks_kinds facts c refl has tt
    statement_kinds (Sub body) slots c fits has = asks_kinds facts c refl has fits
    statement_kinds (Protect body) slots c fits has = asks_kinds facts c refl has fits
    statement_kinds (Cancel context text) slots c fits has = asks_kinds facts c refl has (context_named facts slots c.variables context has fits.0)
    statement_kinds (Switch body) slots c fits has = asks_kinds facts c refl has fits
    statement_kinds (Fork forking switch body) slots c fits has =
        asks_kinds facts c refl has (fits.0.0, switch_named facts slots c.variables switch has fits.0.1, (fits.0.2, fits.1))
    statement_kinds (Fail switch text) slots c fits has = asks_kinds facts c refl has (switch_named facts slots c.variables switch has fits.0)
    statement_kinds (OnRelease switch handler) slots c fits has =
        asks_kinds facts c refl has (switch_named facts slots c.variables switch has fits.0.0, (fits.0.1, fits.1))
    statement_kinds (Branches group branches) slots c fits has = branched_kinds group branches slots c ((fits.0.0, fits.1), fits.0.1) has
    statement_kinds (OnObject call object) slots c fits has = asks_kinds facts c refl has fits.0
    statement_kinds (OnObjectWith call object operand) slots c fits has =
        with_value_kinds facts (value_of c.variables operand) c (λ it. asks (ask.OnObjectWith call object it) c) has (λ it.
        asks_kinds facts c refl has fits.0.0)
    statement_kinds (UseRw mutex body) slots c fits has =
        Calls slots has fits.0.0 (λ rest stands.
        let both : AtBoth (asked_by facts rest) slots = (stands.0 slots refl, stands.1) in
        ((fits.0.0, (fits.0.1, fits.1), both), stands.1))
    statement_kinds (UsePool pool body) slots c fits has =
        Calls slots has fits.0.0 (λ rest stands.
        let both : AtBoth (asked_by facts rest) slots = (stands.0 slots refl, stands.1) in
        ((fits.0.0, (fits.0.1, fits.1), both), stands.1))
    statement_kinds (Submit executor weight captured job) slots c fits has =
        asks_kinds facts c refl has
        (fits.0.0, fits.0.1, map (λ slot. VariableKind) captured, any_kinds facts c.variables captured, (fits.0.4, fits.1))
    statement_kinds (Sleep time) slots c fits has =
        with_value_kinds facts (number_of c.variables time) c (λ z. asks (ask.Sleep z) c) has (λ z. asks_kinds facts c refl has tt)
    statement_kinds Now slots c fits has = asks_kinds facts c refl has tt
    statement_kinds (BufRead flow limit body) slots c fits has = asks_kinds facts c refl has (fits.0.0, fits.0.1, (fits.0.2, fits.1))
    statement_kinds (OnReader call reader) slots c fits has = asks_kinds facts c refl has (reader_named facts slots c.variables reader has fits.0)
    statement_kinds (TakeBytes reader count) slots c fits has =
        with_value_kinds facts (number_of c.variables count) c (λ z. asks (ask.TakeBytes (held_number c.variables reader) z) c) has (λ z.
        asks_kinds facts c refl has (reader_named facts slots c.variables reader has fits.0.0))
    statement_kinds (Copy from to) slots c fits has = asks_kinds facts c refl has fits.0
    statement_kinds (BufWrite flow body) slots c fits has = asks_kinds facts c refl has (fits.0.0, (fits.0.1, fits.1))
    statement_kinds (Put writer operand) slots c fits has =
        with_value_kinds facts (text_of c.variables operand) c (λ text. asks (ask.PutText (held_number c.variables writer) text) c) has (λ text.
        asks_kinds facts c refl has (writer_named facts slots c.variables writer has fits.0.0))
    statement_kinds (OpenDir directory path body) slots c fits has =
        with_value_kinds facts (text_of c.variables path) c (λ text. asks (ask.OpenDirectory (place_in c.variables directory) text body) c) has (λ text.
        asks_kinds facts c refl has (place_kinds directory slots c.variables has fits.0.0, (fits.0.2, fits.1)))
    statement_kinds (OnPath call directory path) slots c fits has =
        with_value_kinds facts (text_of c.variables path) c (λ text. asks (ask.OnPath call (place_in c.variables directory) text) c) has (λ text.
        asks_kinds facts c refl has (place_kinds directory slots c.variables has fits.0.0))
    statement_kinds (Save only_new directory path content) slots c fits has =
        with_value_kinds facts (text_of c.variables path) c
        (λ name. with_value (text_of c.variables content) c (λ text. asks (ask.Save only_new (place_in c.variables directory) name text) c)) has (λ name.
        with_value_kinds facts (text_of c.variables content) c (λ text. asks (ask.Save only_new (place_in c.variables directory) name text) c) has (λ text.
        asks_kinds facts c refl has (place_kinds directory slots c.variables has fits.0.0)))

    pub block_kinds : (it : Block) (slots : List Kind) (c : Carry) → FitsBlock facts slots it → HasKinds facts slots c.variables
        → KindsOfWent facts slots (StartsWith slots) (block it c)
    block_kinds (Begins number items) slots c fits has =
        statements_kinds items slots c (fits.0, All-tail facts.blocks (Begins number items) (blocks_of_statements items) fits.1) has

    pub statements_kinds : (items : Statements) (slots : List Kind) (c : Carry) → FitStatements facts slots items → HasKinds facts slots c.variables
        → KindsOfWent facts slots (StartsWith slots) (statements items c)
    statements_kinds Done slots c fits has = Pasts slots (starts_self slots) has
    statements_kinds (Then it rest) slots c fits has =
        let parts = both_parts facts.blocks (blocks_of_statement it) (blocks_of_statements rest) fits.1 in
        let first = statement_kinds it slots c (fits.0.0, parts.0) has in
        let others : FitStatements facts (after it slots) rest =
        (subst (λ known. AreSoundStatements known rest) (behind_knows it slots) fits.0.1, parts.1) in
        either facts (gives it)
        (followed facts (work.Run rest ∷ []) first
        (λ left u d is so.
        went_within facts (starts_after it slots) (λ end more. starts_then slots (after it slots) end (starts_after it slots) more)
        (statements_kinds rest (after it slots) d others (subst (λ s. HasKinds facts s d.variables) is so)))
        (λ longer r d starts so. Throws longer starts so)
        (λ more stands.
        (λ left is. rest_stands it rest slots left more is others stands.0 stands.1, λ longer starts. stands.1 longer starts)))
        (went_within facts (starts_self slots) (λ left is. left_after it slots left is) first)
