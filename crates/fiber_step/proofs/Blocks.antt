-- Behind a block the variables are those before it.
use Rattle.std.proofs.Common.{◌≡◌, ◌≤◌, ℕ, zero, suc, List, [], ◌∷◌, ◌++◌, length, take, Bool, true, false, refl, sym, ap, ◌∙◌, arith, ℤ, pos, negsuc}
use Rattle.std.proofs.Math.Seq.{take-length, take-append_seam}
use Rattle.std.proofs.lemmas.List.{length-take}
use Rattle.eio_value.specs.declared.raised.Raised.{Raised}
use Rattle.eio_value.specs.declared.value.Value.{Value}
use Rattle.spec_script.specs.Syntax.{Statement, Let, LetForm, If, Give, Try, Repeat, Trace, Branches, OnObjectWith, Sleep, TakeBytes, Put, OpenDir, OnPath, Save, Block, Begins, Statements, Done, Then, Group, All, Any, Both, First, Blocks, NoBlocks, AndBlock}
use Rattle.spec_fiber.specs.Evaluation.{Evaluated, Is, Raises, value_of, values_of, number_of, text_of}
use Rattle.spec_fiber.specs.Silent.{Went, Past, Called, Threw, and_then, within, with_value, is_zero, gives, repeated, branched, statement, block, statements}
use Rattle.spec_fiber.specs.Work.{Work, Carry, caught}
use Rattle.fiber_step.specs.Scoping.{BlocksKeepVariables}

-- ## Variables over others

-- these begin with those
abbrev IsOver : List Value → List Value → Type 0
IsOver these those = take (length these) those ≡ these

over_self : (these : List Value) → IsOver these these
over_self these = take-length these

over_more : (these : List Value) (it : Value) → IsOver these (these ++ it ∷ [])
over_more these it = take-append_seam these (it ∷ [])

take_less : (n m : ℕ) (those : List Value) → n ≤ m → take n (take m those) ≡ take n those
take_less zero m those less = refl
take_less (suc n) zero those less = absurd (omega (arith, less))
take_less (suc n) (suc m) [] less = refl
take_less (suc n) (suc m) (it ∷ those) less = ap (λ rest. it ∷ rest) (take_less n m those (omega (arith, less)))

shorter : (these those : List Value) → IsOver these those → length these ≤ length those
shorter these those over = let size = length-take (length these) those in let same = ap length over in omega (arith, size, same)

over_then : (these those others : List Value) → IsOver these those → IsOver those others → IsOver these others
over_then these those others first second =
    sym (take_less (length these) (length those) others (shorter these those first)) ∙ (ap (take (length these)) second ∙ first)

-- what silent statements came to leaves these variables below
abbrev Over : List Value → Went → Type 0
Over these (Past it c) = IsOver these c.variables
Over these (Called call behind c) = IsOver these c.variables
Over these (Threw raised c) = IsOver these c.variables

over_followed : (these : List Value) (went : Went) (next : Value → Carry → Went) (catch : Raised → Carry → Went) (more : List Work) → Over these went
    → ((it : Value) (c : Carry) → IsOver these c.variables → Over these (next it c)) → ((raised : Raised) (c : Carry) → IsOver these c.variables → Over these (catch raised c))
    → Over these (and_then went next catch more)
over_followed these (Past it c) next catch more over nexts catches = nexts it c over
over_followed these (Called call behind c) next catch more over nexts catches = over
over_followed these (Threw raised c) next catch more over nexts catches = catches raised c over

over_below : (these those : List Value) (went : Went) → IsOver these those → Over those went → Over these went
over_below these those (Past it c) first over = over_then these those c.variables first over
over_below these those (Called call behind c) first over = over_then these those c.variables first over
over_below these those (Threw raised c) first over = over_then these those c.variables first over

-- with a name in the slot behind them
over_bound : (these those : List Value) (it : Value) → IsOver these those → IsOver these (take (length these) those ++ it ∷ [])
over_bound these those it over = ap (λ first. take (length these) (first ++ it ∷ [])) over ∙ over_more these it

over_cut : (these those : List Value) → IsOver these those → IsOver these (take (length these) those)
over_cut these those over = ap (take (length these)) over ∙ over_self these

over_within : (these : List Value) (went : Went) → Over these went → Over these (within (length these) went)
over_within these went over =
    over_followed these went _ _ _ over (λ it c first. over_cut these c.variables first) (λ raised c first. first)

over_value : {A : Type 0} (e : Evaluated A) (c : Carry) (next : A → Went) → ((it : A) → Over c.variables (next it)) → Over c.variables (with_value e c next)
over_value (Is it) c next nexts = nexts it
over_value (Raises what) c next nexts = over_self c.variables

over_repeated : (z : ℤ) (body : Block) (c : Carry) → Over c.variables (repeated z body c)
over_repeated (pos zero) body c = over_self c.variables
over_repeated (pos (suc left)) body c = over_bound c.variables c.variables _ (over_self c.variables)
over_repeated (negsuc n) body c = over_self c.variables

over_branched : (group : Group) (blocks : Blocks) (c : Carry) → Over c.variables (branched group blocks c)
over_branched All NoBlocks c = over_self c.variables
over_branched All (AndBlock first rest) c = over_self c.variables
over_branched Any NoBlocks c = over_self c.variables
over_branched Any (AndBlock first rest) c = over_self c.variables
over_branched Both these c = over_self c.variables
over_branched First these c = over_self c.variables

over_chosen : (these : List Value) (b : Bool) (first second : Went) → Over these first → Over these second → Over these (elim b [ true ↦ second | false ↦ first ])
over_chosen these true first second one two = two
over_chosen these false first second one two = one

-- ## Statements

mutual
  unfolding statement block statements

  over_statement : (it : Statement) (c : Carry) → Over c.variables (statement it c)
  over_statement (Let e) c = over_value (value_of c.variables e) c _ (λ it. over_bound c.variables c.variables it (over_self c.variables))
  over_statement (LetForm form) c =
      over_followed c.variables (statement form c) _ _ _ (over_statement form c) (λ it d over. over_bound c.variables d.variables it over) (λ raised d over. over)
  over_statement (If test first second) c =
      over_value (number_of c.variables test) c _ (λ z. over_within c.variables _ (over_chosen c.variables (is_zero z) (block first c) (block second c) (over_block first c) (over_block second c)))
  over_statement (Give e) c = over_value (value_of c.variables e) c _ (λ it. over_self c.variables)
  over_statement (Try tried handler) c =
      over_followed c.variables (block tried c) _ _ _ (over_block tried c) (λ it d over. over_cut c.variables d.variables over)
      (λ raised d over. over_within c.variables _ (over_below c.variables (caught (length c.variables) raised d).variables (block handler (caught (length c.variables) raised d))
      (over_bound c.variables d.variables _ over) (over_block handler (caught (length c.variables) raised d))))
  over_statement (Repeat times body) c = over_value (number_of c.variables times) c _ (λ z. over_repeated z body c)
  over_statement (Trace operands) c = over_value (values_of c.variables operands) c _ (λ it. over_self c.variables)
  over_statement (Branches group branches) c = over_branched group branches c
  over_statement (OnObjectWith call object operand) c = over_value (value_of c.variables operand) c _ (λ it. over_self c.variables)
  over_statement (Sleep time) c = over_value (number_of c.variables time) c _ (λ it. over_self c.variables)
  over_statement (TakeBytes reader count) c = over_value (number_of c.variables count) c _ (λ it. over_self c.variables)
  over_statement (Put writer operand) c = over_value (text_of c.variables operand) c _ (λ it. over_self c.variables)
  over_statement (OpenDir directory path body) c = over_value (text_of c.variables path) c _ (λ it. over_self c.variables)
  over_statement (OnPath call directory path) c = over_value (text_of c.variables path) c _ (λ it. over_self c.variables)
  over_statement (Save only_new directory path content) c =
      over_value (text_of c.variables path) c _ (λ it. over_value (text_of c.variables content) c _ (λ text. over_self c.variables))
  over_statement other c = over_self c.variables

  over_block : (it : Block) (c : Carry) → Over c.variables (block it c)
  over_block (Begins number items) c = over_statements items c

  over_statements : (items : Statements) (c : Carry) → Over c.variables (statements items c)
  over_statements Done c = over_self c.variables
  over_statements (Then it rest) c = over_chosen c.variables (gives it) _ (statement it c)
      (over_followed c.variables (statement it c) _ _ _ (over_statement it c) (λ v d over. over_below c.variables d.variables (statements rest d) over (over_statements rest d)) (λ raised d over. over))
      (over_statement it c)

-- ## Blocks

past_variables : (went : Went) (these : List Value) → Over these went → ((it : Value) (d : Carry) → within (length these) went ≡ Past it d → d.variables ≡ these)
past_variables (Past v c) these over it d e = let same = ap (λ w. elim w [ Past u k ↦ k.variables | Called call behind k ↦ k.variables | Threw raised k ↦ k.variables ]) e in sym same ∙ over
past_variables (Called call behind c) these over it d e = absurd (cc)
past_variables (Threw raised c) these over it d e = absurd (cc)

pub blocks_keep_variables : BlocksKeepVariables
blocks_keep_variables inner c d it e = past_variables (block inner c) c.variables (over_block inner c) it d e
