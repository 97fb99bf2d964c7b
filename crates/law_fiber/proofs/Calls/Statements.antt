-- Statements of two fibers, which see no more than is in sight, come to what is alike.
use Rattle.std.proofs.Common.{◌≡◌, ◌<◌, ℕ, zero, suc, ◌+◌, true, false, All, List, [], ◌∷◌, map, ℤ, pos, negsuc, length, get_or, refl, ap, subst, arith}
use Rattle.eio_value.specs.declared.value.Value.{Value}
use Rattle.eio_value.specs.declared.value.Value.TheVariants as value
use Rattle.spec_script.specs.Syntax as syntax
use Rattle.spec_script.specs.Syntax.{Statement, Let, LetForm, If, Give, Raise, Try, Repeat, Loop, Trace, Yield, Check, AwaitCancel, Sub, Protect, Cancel, Switch, Fork, Fail, OnRelease, Branches, OnObject, OnObjectWith, UseRw, UsePool, Submit, Sleep, Now, BufRead, OnReader, TakeBytes, Copy, BufWrite, Put, OpenDir, OnPath, Save, Group, Any, Both, First, Directory, Declared, Opened, Block, Begins, Statements, Done, Then, Blocks, NoBlocks, AndBlock}
use Rattle.spec_fiber.specs.Asks as ask
use Rattle.spec_fiber.specs.Evaluation.{value_at, context_in, switch_in, number_in}
use Rattle.spec_fiber.specs.Silent.{Past, Called, Threw, and_then, within, asks, blocks_of, place_in, is_zero, gives, items_of, repeats, repeated, branched, statement, block, statements}
use Rattle.spec_fiber.specs.Work as work
use Rattle.spec_fiber.specs.Work.{Work, Carry, cut, bound, caught}
use Rattle.law_fiber.specs.Calls.Sights.{Sight, SeesDirectory, SeesStatement, SeesBlock, SeesStatements, SeesBlocks}
use Rattle.law_fiber.specs.Calls.Alike.{Tables, AlikeLists, Ends, Goes, AlikeValue, Units, Numbers, AlikeVariables, Failures}
use Rattle.law_fiber.specs.Calls.AlikeCalls as calls
use Rattle.law_fiber.specs.Calls.AlikeWork as works
use Rattle.law_fiber.specs.Calls.AlikeWork.{AlikeWork, tables_of, AlikeCarry}
use Rattle.law_fiber.proofs.Calls.Later.{at_once}
use Rattle.law_fiber.proofs.Calls.Texts.{in_sight}
use Rattle.law_fiber.proofs.Calls.Evaluating.{value_alike, values_alike, number_alike, text_alike, context_in_alike, switch_in_alike, number_in_alike}
use Rattle.law_fiber.proofs.Calls.Going.{AlikeWent, Calls, Throws, went_from, carry_cut, carry_bound, carry_caught, followed, within_alike, past_alike, raises_alike, called_alike, asks_alike, with_value_alike, with_number_alike, at_place, by_length, either}

-- ## Parts

-- the values of these slots
pub given_alike : {t : Tables} (these those : List Value) (captured : List ℕ)
    → All (λ slot. AlikeValue t (value_at these slot) (value_at those slot)) captured
    → AlikeLists (AlikeValue t) (map (value_at these) captured) (map (value_at those) captured)
given_alike these those [] all = Ends
given_alike these those (slot ∷ captured) all =
    Goes (all 0 slot (omega arith)) (given_alike these those captured (λ k d less. all (suc k) d (omega (arith, less))))

all_with : {X : Type 0} (P : X → Type 0) (x : X) (xs : List X) → P x → All P xs → (k : ℕ) (d : X) → k < length (x ∷ xs) → P (get_or (x ∷ xs) k d)
all_with P x xs first others zero d less = first
all_with P x xs first others (suc k) d less = others k d (omega (arith, less))

all_see : (sight : Sight) (branches : Blocks) → SeesBlocks sight branches → All (SeesBlock sight) (blocks_of branches)
unfolding SeesBlocks
all_see sight NoBlocks sees = λ k d less. absurd (omega (arith, less))
all_see sight (AndBlock first rest) sees = λ k d less. all_with (SeesBlock sight) first (blocks_of rest) sees.0 (all_see sight rest sees.1) k d less

place_alike : {sight : Sight} {t : Tables} {these those : List Value} → AlikeVariables sight t these those → (directory : Directory)
    → SeesDirectory sight directory → place_in these directory ≡ place_in those directory
place_alike variables (Declared number) sees = refl
place_alike variables (Opened slot) sees = ap (λ n. ask.Opened n) (number_in_alike (variables.in_scope slot sees))

pub items_see : (sight : Sight) (body : Block) → SeesBlock sight body → SeesStatements sight (items_of body)
unfolding SeesBlock
items_see sight (Begins number items) sees = sees

pub repeats_alike : {sight : Sight} {c d : Carry} (turn left : ℕ) (body : Block) (keep : ℕ) → SeesBlock sight body → AlikeCarry sight c d
    → AlikeWent sight (tables_of c d) (repeats turn left body keep c) (repeats turn left body keep d)
repeats_alike {sight} {c} {d} turn left body keep sees carry = Calls (at_once (tables_of c d)) calls.Turns
    (Goes (works.Runs (items_of body) (items_see sight body sees)) (Goes (works.Repeats (turn + 1) left body keep sees) Ends))
    (carry_bound keep (Numbers (pos turn)) carry)

repeated_alike : {sight : Sight} {c d : Carry} (z : ℤ) (body : Block) → SeesBlock sight body → AlikeCarry sight c d
    → AlikeWent sight (tables_of c d) (repeated z body c) (repeated z body d)
repeated_alike (pos zero) body sees carry = past_alike Units carry
repeated_alike {c = c} {d = d} (pos (suc left)) body sees carry =
    by_length carry (λ n. repeats 0 left body n d)
    (repeats_alike 0 left body (length c.variables) sees carry)
repeated_alike (negsuc n) body sees carry = past_alike Units carry

branched_alike : {sight : Sight} {c d : Carry} (group : Group) (blocks : Blocks) → SeesBlocks sight blocks → AlikeCarry sight c d
    → AlikeWent sight (tables_of c d) (branched group blocks c) (branched group blocks d)
branched_alike syntax.All NoBlocks sees carry = past_alike Units carry
branched_alike {sight} syntax.All (AndBlock first rest) sees carry =
    asks_alike (calls.Branchings syntax.All _ (all_see sight (AndBlock first rest) sees)) carry
branched_alike Any NoBlocks sees carry = asks_alike calls.Awaits carry
branched_alike {sight} Any (AndBlock first rest) sees carry = asks_alike (calls.Branchings Any _ (all_see sight (AndBlock first rest) sees)) carry
branched_alike {sight} Both these sees carry = asks_alike (calls.Branchings Both _ (all_see sight these sees)) carry
branched_alike {sight} First these sees carry = asks_alike (calls.Branchings First _ (all_see sight these sees)) carry

-- a call on what a slot names, where that is the same for both
on_slot : {sight : Sight} {c d : Carry} (held : Value → ℕ) (call asked : ℕ → ask.Ask) (slot : ℕ)
    → held (value_at c.variables slot) ≡ held (value_at d.variables slot)
    → ((n : ℕ) → calls.AlikeAsk sight (tables_of c d) (call n) (asked n)) → AlikeCarry sight c d
    → AlikeWent sight (tables_of c d) (asks (call (held (value_at c.variables slot))) c) (asks (asked (held (value_at d.variables slot))) d)
on_slot {c = c} {d = d} held call asked slot same alike carry =
    at_place (λ n. asks (asked n) d) (held (value_at c.variables slot)) (held (value_at d.variables slot)) same
    (asks_alike (alike (held (value_at c.variables slot))) carry)

-- a call on a directory
on_directory : {sight : Sight} {c d : Carry} (call asked : ask.DirectoryRef → ask.Ask) (directory : Directory) → SeesDirectory sight directory
    → ((place : ask.DirectoryRef) → calls.AlikeAsk sight (tables_of c d) (call place) (asked place)) → AlikeCarry sight c d
    → AlikeWent sight (tables_of c d) (asks (call (place_in c.variables directory)) c) (asks (asked (place_in d.variables directory)) d)
on_directory {sight} {c} {d} call asked directory sees alike carry =
    subst (λ place. AlikeWent sight (tables_of c d) (asks (call (place_in c.variables directory)) c) (asks (asked place) d))
    (place_alike carry.variables directory sees) (asks_alike (alike (place_in c.variables directory)) carry)

-- ## Statements

module _ {sight : Sight} where
  mutual
    unfolding statement block statements SeesStatement SeesBlock SeesStatements

    pub statement_alike : (it : Statement) (c d : Carry) → SeesStatement sight it → AlikeCarry sight c d
        → AlikeWent sight (tables_of c d) (statement it c) (statement it d)
    statement_alike (Let e) c d sees carry =
        with_value_alike (value_alike carry.tables carry.variables e sees) carry (λ a b alike.
        by_length carry (λ n. Past value.Unit (bound n b d)) (past_alike Units (carry_bound (length c.variables) alike carry)))
    statement_alike (LetForm form) c d sees carry =
        by_length carry (λ n. and_then (statement form d) (λ it e. Past value.Unit (bound n it e)) Threw (work.Bind n ∷ []))
        (followed (statement_alike form c d sees carry)
        (λ a b e f later alike so. past_alike Units (carry_bound (length c.variables) alike so))
        (λ r s e f later alike so. Throws (at_once (tables_of e f)) alike so)
        (Goes (works.Binds (length c.variables)) Ends))
    statement_alike (If test first second) c d sees carry =
        with_number_alike (number_alike carry.tables carry.variables test sees.0) carry (λ z.
        by_length carry (λ n. within n (elim (is_zero z) [ true ↦ block second d | false ↦ block first d ]))
        (within_alike (length c.variables) (either (is_zero z) (block_alike first c d sees.1 carry) (block_alike second c d sees.2 carry))))
    statement_alike (Give e) c d sees carry =
        with_value_alike (value_alike carry.tables carry.variables e sees) carry (λ a b alike. past_alike alike carry)
    statement_alike (Raise text) c d sees carry = raises_alike (Failures (in_sight carry.tables text sees)) carry
    statement_alike (Try tried handler) c d sees carry =
        by_length carry (λ n.
        and_then (block tried d) (λ it e. Past it (cut n e)) (λ r e. within n (block handler (caught n r e))) (work.Try handler n ∷ []))
        (followed (block_alike tried c d sees.0 carry)
        (λ a b e f later alike so. past_alike alike (carry_cut (length c.variables) so))
        (λ r s e f later alike so.
        let found = carry_caught (length c.variables) alike so in
        let handles = block_alike handler (caught (length c.variables) r e) (caught (length c.variables) s f) sees.1 found.carry in
        within_alike (length c.variables) (went_from found.later handles))
        (Goes (works.Tries handler (length c.variables) sees.1) Ends))
    statement_alike (Repeat times body) c d sees carry =
        with_number_alike (number_alike carry.tables carry.variables times sees.0) carry (λ z. repeated_alike z body sees.1 carry)
    statement_alike (Loop body) c d sees carry =
        by_length carry (λ n. Called ask.Turn (work.Run (items_of body) ∷ work.Loop body n ∷ []) d)
        (called_alike calls.Turns
        (Goes (works.Runs (items_of body) (items_see sight body sees)) (Goes (works.Loops body (length c.variables) sees) Ends)) carry)
    statement_alike (Trace operands) c d sees carry =
        with_value_alike (values_alike carry.tables carry.variables operands sees) carry (λ these those alike. asks_alike (calls.Traces alike) carry)
    statement_alike Yield c d sees carry = asks_alike calls.Yields carry
    statement_alike Check c d sees carry = asks_alike calls.Checks carry
    statement_alike AwaitCancel c d sees carry = asks_alike calls.Awaits carry
    statement_alike (Sub body) c d sees carry = asks_alike (calls.Subs body sees) carry
    statement_alike (Protect body) c d sees carry = asks_alike (calls.Protects body sees) carry
    statement_alike (Cancel context text) c d sees carry =
        on_slot context_in (λ n. ask.Cancel n text) (λ n. ask.Cancel n text) context (context_in_alike (carry.variables.in_scope context sees.0))
        (λ n. calls.Cancels n (in_sight carry.tables text sees.1)) carry
    statement_alike (Switch body) c d sees carry = asks_alike (calls.Switches body sees) carry
    statement_alike (Fork forking switch body) c d sees carry =
        on_slot switch_in (λ n. ask.Fork forking n body) (λ n. ask.Fork forking n body) switch (switch_in_alike (carry.variables.in_scope switch sees.0))
        (λ n. calls.Forks forking n body sees.1) carry
    statement_alike (Fail switch text) c d sees carry =
        on_slot switch_in (λ n. ask.Fail n text) (λ n. ask.Fail n text) switch (switch_in_alike (carry.variables.in_scope switch sees.0))
        (λ n. calls.Fails n (in_sight carry.tables text sees.1)) carry
    statement_alike (OnRelease switch handler) c d sees carry =
        on_slot switch_in (λ n. ask.OnRelease n handler) (λ n. ask.OnRelease n handler) switch (switch_in_alike (carry.variables.in_scope switch sees.0))
        (λ n. calls.OnReleases n handler sees.1) carry
    statement_alike (Branches group branches) c d sees carry = branched_alike group branches sees carry
    statement_alike (OnObject call object) c d sees carry = asks_alike (calls.OnObjects call object) carry
    statement_alike (OnObjectWith call object operand) c d sees carry =
        with_value_alike (value_alike carry.tables carry.variables operand sees) carry (λ a b alike.
        asks_alike (calls.OnObjectsWith call object alike) carry)
    statement_alike (UseRw mutex body) c d sees carry =
        called_alike (calls.OnObjects syntax.Lock mutex) (Goes (works.Lockings mutex body sees) Ends) carry
    statement_alike (UsePool pool body) c d sees carry =
        called_alike (calls.Uses pool) (Goes (works.Usings pool body sees) Ends) carry
    statement_alike (Submit executor weight captured job) c d sees carry =
        asks_alike
        (calls.Submits executor weight job
        (given_alike c.variables d.variables captured (λ k i less. carry.variables.in_scope _ (sees k i less)))) carry
    statement_alike (Sleep time) c d sees carry =
        with_number_alike (number_alike carry.tables carry.variables time sees) carry (λ z. asks_alike (calls.Sleeps z) carry)
    statement_alike Now c d sees carry = asks_alike calls.Nows carry
    statement_alike (BufRead flow limit body) c d sees carry = asks_alike (calls.OpenReaders flow limit body sees) carry
    statement_alike (OnReader call reader) c d sees carry =
        on_slot number_in (λ n. ask.OnReader call n) (λ n. ask.OnReader call n) reader (number_in_alike (carry.variables.in_scope reader sees))
        (λ n. calls.OnReaders call n) carry
    statement_alike (TakeBytes reader count) c d sees carry =
        with_number_alike (number_alike carry.tables carry.variables count sees.1) carry (λ z.
        on_slot number_in (λ n. ask.TakeBytes n z) (λ n. ask.TakeBytes n z) reader (number_in_alike (carry.variables.in_scope reader sees.0))
        (λ n. calls.Takes n z) carry)
    statement_alike (Copy from to) c d sees carry = asks_alike (calls.Copies from to) carry
    statement_alike (BufWrite flow body) c d sees carry = asks_alike (calls.OpenWriters flow body sees) carry
    statement_alike (Put writer operand) c d sees carry =
        with_value_alike (text_alike carry.tables carry.variables operand sees.1) carry (λ a b alike.
        on_slot number_in (λ n. ask.PutText n a) (λ n. ask.PutText n b) writer (number_in_alike (carry.variables.in_scope writer sees.0))
        (λ n. calls.Puts n alike) carry)
    statement_alike (OpenDir directory path body) c d sees carry =
        with_value_alike (text_alike carry.tables carry.variables path sees.1) carry (λ a b alike.
        on_directory (λ place. ask.OpenDirectory place a body) (λ place. ask.OpenDirectory place b body) directory sees.0
        (λ place. calls.Openings place body alike sees.2) carry)
    statement_alike (OnPath call directory path) c d sees carry =
        with_value_alike (text_alike carry.tables carry.variables path sees.1) carry (λ a b alike.
        on_directory (λ place. ask.OnPath call place a) (λ place. ask.OnPath call place b) directory sees.0
        (λ place. calls.OnPaths call place alike) carry)
    statement_alike (Save only_new directory path content) c d sees carry =
        with_value_alike (text_alike carry.tables carry.variables path sees.1) carry (λ a b alike.
        with_value_alike (text_alike carry.tables carry.variables content sees.2) carry (λ p q same.
        on_directory (λ place. ask.Save only_new place a p) (λ place. ask.Save only_new place b q) directory sees.0
        (λ place. calls.Saves only_new place alike same) carry))

    pub block_alike : (it : Block) (c d : Carry) → SeesBlock sight it → AlikeCarry sight c d
        → AlikeWent sight (tables_of c d) (block it c) (block it d)
    block_alike (Begins number items) c d sees carry = statements_alike items c d sees carry

    pub statements_alike : (items : Statements) (c d : Carry) → SeesStatements sight items → AlikeCarry sight c d
        → AlikeWent sight (tables_of c d) (statements items c) (statements items d)
    statements_alike Done c d sees carry = past_alike Units carry
    statements_alike (Then it rest) c d sees carry =
        either (gives it)
        (followed (statement_alike it c d sees.0 carry) (λ a b e f later alike so. statements_alike rest e f sees.1 so)
        (λ r s e f later alike so. Throws (at_once (tables_of e f)) alike so) (Goes (works.Runs rest sees.1) Ends))
        (statement_alike it c d sees.0 carry)
