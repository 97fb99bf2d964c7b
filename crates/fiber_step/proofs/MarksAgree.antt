-- A statement and the marks behind it say the same.
use Rattle.std.proofs.Common.{◌≡◌, ℕ, List, [], ◌∷◌, ◌++◌, length, Bool, true, false, refl, ap, ◌∙◌, append_assoc}
use Rattle.eio_value.specs.declared.value.Value.{Value}
use Rattle.eio_value.specs.declared.value.Value.TheVariants as value
use Rattle.eio_value.specs.declared.raised.Raised.{Raised}
use Rattle.spec_script.specs.Syntax.{Statement, Block, Begins, Statements, Then}
use Rattle.spec_fiber.specs.Settling.{Settled, settle, answered, thrown}
use Rattle.spec_fiber.specs.Silent.{Went, Past, Called, Threw, and_then, within, gives, statement, statements, block}
use Rattle.spec_fiber.specs.Work as work
use Rattle.spec_fiber.specs.Work.{Work, Carry, cut, bound, caught}
use Rattle.fiber_step.specs.Going.{goes, RestFollows, GivenEnds, EndGivesUnit, BlockLeavesCut, LetLeavesBinding, TryLeavesHandler, MarksAgree}

-- what follows silent statements, with this work behind all
settle_after : (went : Went) (next : Value → Carry → Went) (catch : Raised → Carry → Went) (more : List Work) (value_next : Value → Carry → Settled)
    (raised_next : Raised → Carry → Settled) (behind : List Work)
    → settle (and_then went next catch more) value_next raised_next behind
    ≡ settle went (λ v d. settle (next v d) value_next raised_next behind) (λ r d. settle (catch r d) value_next raised_next behind) (more ++ behind)
settle_after (Past v c) next catch more value_next raised_next behind = refl
settle_after (Called call own c) next catch more value_next raised_next behind =
    ap (λ these. let it : Settled = record { call = call; behind = these; carry = c } in it) (append_assoc own more behind)
settle_after (Threw r c) next catch more value_next raised_next behind = refl

abbrev chosen : Bool → Went → Went → Went
chosen b first second = elim b [ true ↦ first | false ↦ second ]

-- the statements of a block by whether the first gives its value
stated : (it : Statement) (rest : Statements) (c : Carry) (b : Bool) → gives it ≡ b
    → statements (Then it rest) c ≡ chosen b (statement it c) (and_then (statement it c) (λ v d. statements rest d) Threw (work.Run rest ∷ []))
unfolding statements
stated it rest c b e = ap (λ which. chosen which (statement it c) (and_then (statement it c) (λ v d. statements rest d) Threw (work.Run rest ∷ []))) e

rest_follows : RestFollows
unfolding answered thrown
rest_follows it rest behind before c e =
    ap (λ went. settle went (λ v d. answered behind v d) (λ r d. thrown behind r d) behind) (stated it rest c false e)
    ∙ settle_after (statement it c) (λ v d. statements rest d) Threw (work.Run rest ∷ []) (λ v d. answered behind v d) (λ r d. thrown behind r d) behind

given_ends : GivenEnds
unfolding answered
given_ends it rest behind before c e = ap (λ went. settle went (λ v d. answered behind v d) (λ r d. thrown behind r d) behind) (stated it rest c true e)

end_gives_unit : EndGivesUnit
unfolding answered statements
end_gives_unit behind before c = refl

block_leaves_cut : BlockLeavesCut
unfolding answered thrown block
block_leaves_cut (Begins number items) keep behind before c =
    settle_after (statements items c) (λ v d. Past v (cut keep d)) Threw (work.Cut keep ∷ []) (λ v d. answered behind v d) (λ r d. thrown behind r d) behind

let_leaves_binding : LetLeavesBinding
unfolding answered thrown statement
let_leaves_binding form behind c =
    settle_after (statement form c) (λ v d. Past value.Unit (bound (length c.variables) v d)) Threw (work.Bind (length c.variables) ∷ []) (λ v d. answered behind v d) (λ r d. thrown behind r d) behind

-- the first block of a `try` by what it came to
tried_goes : (went : Went) (handler : Block) (keep : ℕ) (behind : List Work)
    → goes (and_then went (λ v d. Past v (cut keep d)) (λ r d. within keep (block handler (caught keep r d))) (work.Try handler keep ∷ [])) behind ≡ goes went (work.Try handler keep ∷ behind)
unfolding answered thrown
tried_goes (Past v c) handler keep behind = refl
tried_goes (Called call own c) handler keep behind =
    ap (λ these. let it : Settled = record { call = call; behind = these; carry = c } in it) (append_assoc own (work.Try handler keep ∷ []) behind)
tried_goes (Threw r c) handler keep behind =
    settle_after (block handler (caught keep r c)) (λ v d. Past v (cut keep d)) Threw (work.Cut keep ∷ []) (λ v d. answered behind v d) (λ q d. thrown behind q d) behind

try_leaves_handler : TryLeavesHandler
unfolding answered statement block
try_leaves_handler (Begins number items) handler behind before c = tried_goes (statements items c) handler (length c.variables) behind

pub marks_agree : MarksAgree
marks_agree = record {
  rest = rest_follows;
  given = given_ends;
  unit = end_gives_unit;
  cut = block_leaves_cut;
  binding = let_leaves_binding;
  handler = try_leaves_handler;
}
