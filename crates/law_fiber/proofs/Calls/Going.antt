-- Silent statements that come to what is alike, and what follows them.
use Rattle.std.proofs.Common.{◌≡◌, ℕ, Bool, true, false, List, ℤ, length, sym, ◌∙◌, subst, arith}
use Rattle.eio_value.specs.Exceptions.{bound_text}
use Rattle.eio_value.specs.Table.{intern}
use Rattle.eio_value.specs.declared.plain.Plain.{Plain}
use Rattle.eio_value.specs.declared.raised.Raised.{Raised}
use Rattle.eio_value.specs.declared.value.Value.{Value}
use Rattle.spec_fiber.specs.Asks.{Ask}
use Rattle.spec_fiber.specs.Evaluation.{Evaluated}
use Rattle.spec_fiber.specs.Silent.{Went, Past, Called, Threw, and_then, within, raises, with_value, asks}
use Rattle.spec_fiber.specs.Work.{Work, Carry, cut, bound, restored, caught}
use Rattle.law_fiber.specs.Calls.Sights.{Sight}
use Rattle.law_fiber.specs.Calls.Alike.{Tables, IsLater, Ends, Goes, AlikeValue, Texts, AlikePlain, AlikeRaised, Ones, AlikeVariables}
use Rattle.law_fiber.specs.Calls.AlikeCalls.{AlikeAsk}
use Rattle.law_fiber.specs.Calls.AlikeWork.{Cuts, AlikeWork, tables_of, AlikeCarry}
use Rattle.law_fiber.proofs.Calls.Later.{at_once, and_later, variables_later, work_later, work_behind}
use Rattle.law_fiber.proofs.Calls.Texts.{interned, same_bound}
use Rattle.law_fiber.proofs.Calls.Variables.{variables_cut, variables_with}
use Rattle.law_fiber.proofs.Calls.Evaluating.{AlikeEvaluated, Both, Neither}

-- silent statements of two fibers whose tables were these
pub data AlikeWent (sight : Sight) (from : Tables) : Went → Went → Type 0 where
  Pasts : {a b : Value} {c d : Carry} → IsLater from (tables_of c d) → AlikeValue (tables_of c d) a b → AlikeCarry sight c d
      → AlikeWent sight from (Past a c) (Past b d)
  Calls : {call asked : Ask} {behind left : List Work} {c d : Carry} → IsLater from (tables_of c d) → AlikeAsk sight (tables_of c d) call asked
      → AlikeWork sight (tables_of c d) behind left → AlikeCarry sight c d → AlikeWent sight from (Called call behind c) (Called asked left d)
  Throws : {r s : Raised} {c d : Carry} → IsLater from (tables_of c d) → AlikeRaised (tables_of c d) r s → AlikeCarry sight c d
      → AlikeWent sight from (Threw r c) (Threw s d)

pub went_from : {sight : Sight} {t u : Tables} → IsLater t u → {went reached : Went} → AlikeWent sight u went reached → AlikeWent sight t went reached
went_from before (Pasts later value carry) = Pasts (and_later before later) value carry
went_from before (Calls later call behind carry) = Calls (and_later before later) call behind carry
went_from before (Throws later raised carry) = Throws (and_later before later) raised carry

-- ## What is carried

pub carry_cut : {sight : Sight} {c d : Carry} (keep : ℕ) → AlikeCarry sight c d → AlikeCarry sight (cut keep c) (cut keep d)
carry_cut keep carry = record { tables = carry.tables; variables = variables_cut keep carry.variables }

pub carry_bound : {sight : Sight} {c d : Carry} {a b : Value} (slot : ℕ) → AlikeValue (tables_of c d) a b → AlikeCarry sight c d
    → AlikeCarry sight (bound slot a c) (bound slot b d)
carry_bound slot value carry = record { tables = carry.tables; variables = variables_with (variables_cut slot carry.variables) value }

pub carry_restored : {sight : Sight} {c d : Carry} {these those : List Value} → AlikeVariables sight (tables_of c d) these those
    → AlikeCarry sight c d → AlikeCarry sight (restored these c) (restored those d)
carry_restored variables carry = record { tables = carry.tables; variables = variables }

-- both texts stand in the tables from then on
pub record IsCaught (sight : Sight) (c d e f : Carry) : Type 0 where
  pub later : IsLater (tables_of c d) (tables_of e f)
  pub carry : AlikeCarry sight e f

pub carry_caught : {sight : Sight} {c d : Carry} {r s : Raised} (keep : ℕ) → AlikeRaised (tables_of c d) r s → AlikeCarry sight c d
    → IsCaught sight c d (caught keep r c) (caught keep s d)
carry_caught {sight} {c} {d} {r} {s} keep alike carry =
    let one = interned c.texts (bound_text c.texts r) carry.tables.one_differs in
    let two = interned d.texts (bound_text d.texts s) carry.tables.other_differs in
    let new : Tables = record { one = (intern c.texts (bound_text c.texts r)).texts; other = (intern d.texts (bound_text d.texts s)).texts } in
    let later : IsLater (tables_of c d) new = record { one = one.keeps; other = two.keeps } in
    record {
      later = later;
      carry = record {
        tables = record {
          one_has = let has = carry.tables.one_has in let longer = one.longer in omega (arith, has, longer);
          other_has = let has = carry.tables.other_has in let longer = two.longer in omega (arith, has, longer);
          same = one.front sight.texts carry.tables.one_has ∙ (carry.tables.same ∙ sym (two.front sight.texts carry.tables.other_has));
          one_differs = one.differ;
          other_differs = two.differ;
        };
        variables = variables_with (variables_cut keep (variables_later later carry.variables))
            (Texts (one.has, two.has, one.is ∙ (same_bound alike ∙ sym two.is)));
      };
    }

-- ## What follows

-- what follows is alike, from whatever tables come later
abbrev pub NextsAlike : {X : Type 0} → Sight → Tables → (Tables → X → X → Type 0) → (next follow : X → Carry → Went) → Type 0
NextsAlike {X} sight t Alike next follow = (a b : X) (c d : Carry) → IsLater t (tables_of c d) → Alike (tables_of c d) a b → AlikeCarry sight c d
    → AlikeWent sight (tables_of c d) (next a c) (follow b d)

pub followed : {sight : Sight} {t : Tables} {went reached : Went} {next follow : Value → Carry → Went} {catch rescue : Raised → Carry → Went}
    {more further : List Work} → AlikeWent sight t went reached → NextsAlike sight t AlikeValue next follow
    → NextsAlike sight t AlikeRaised catch rescue → AlikeWork sight t more further → AlikeWent sight t (and_then went next catch more) (and_then reached follow rescue further)
followed (Pasts {a = a} {b = b} {c = c} {d = d} later value carry) nexts catches behind = went_from later (nexts a b c d later value carry)
followed (Calls later call own carry) nexts catches behind = Calls later call (work_behind own (work_later later behind)) carry
followed (Throws {r = r} {s = s} {c = c} {d = d} later raised carry) nexts catches behind = went_from later (catches r s c d later raised carry)

pub within_alike : {sight : Sight} {t : Tables} {went reached : Went} (keep : ℕ) → AlikeWent sight t went reached
    → AlikeWent sight t (within keep went) (within keep reached)
within_alike keep alike = followed alike
    (λ a b c d later value carry. Pasts (at_once (tables_of c d)) value (carry_cut keep carry))
    (λ r s c d later raised carry. Throws (at_once (tables_of c d)) raised carry)
    (Goes (Cuts keep) Ends)

pub past_alike : {sight : Sight} {c d : Carry} {a b : Value} → AlikeValue (tables_of c d) a b → AlikeCarry sight c d
    → AlikeWent sight (tables_of c d) (Past a c) (Past b d)
past_alike {c = c} {d = d} value carry = Pasts (at_once (tables_of c d)) value carry

pub raises_alike : {sight : Sight} {c d : Carry} {p q : Plain} → AlikePlain (tables_of c d) p q → AlikeCarry sight c d
    → AlikeWent sight (tables_of c d) (raises p c) (raises q d)
raises_alike {c = c} {d = d} what carry = Throws (at_once (tables_of c d)) (Ones what) (record { tables = carry.tables; variables = carry.variables })

pub called_alike : {sight : Sight} {c d : Carry} {call asked : Ask} {behind left : List Work} → AlikeAsk sight (tables_of c d) call asked
    → AlikeWork sight (tables_of c d) behind left → AlikeCarry sight c d
    → AlikeWent sight (tables_of c d) (Called call behind c) (Called asked left d)
called_alike {c = c} {d = d} call behind carry = Calls (at_once (tables_of c d)) call behind carry

pub asks_alike : {sight : Sight} {c d : Carry} {call asked : Ask} → AlikeAsk sight (tables_of c d) call asked → AlikeCarry sight c d
    → AlikeWent sight (tables_of c d) (asks call c) (asks asked d)
asks_alike call carry = called_alike call Ends carry

pub with_value_alike : {sight : Sight} {c d : Carry} {A : Type 0} {R : A → A → Type 0} {e f : Evaluated A} {next follow : A → Went}
    → AlikeEvaluated (tables_of c d) R e f → AlikeCarry sight c d → ((a b : A) → R a b → AlikeWent sight (tables_of c d) (next a) (follow b))
    → AlikeWent sight (tables_of c d) (with_value e c next) (with_value f d follow)
with_value_alike (Both {a = a} {b = b} alike) carry nexts = nexts a b alike
with_value_alike (Neither what) carry nexts = raises_alike what carry

pub with_number_alike : {sight : Sight} {c d : Carry} {e f : Evaluated ℤ} {next follow : ℤ → Went}
    → AlikeEvaluated (tables_of c d) (λ y z. y ≡ z) e f → AlikeCarry sight c d → ((z : ℤ) → AlikeWent sight (tables_of c d) (next z) (follow z))
    → AlikeWent sight (tables_of c d) (with_value e c next) (with_value f d follow)
with_number_alike {sight} {c} {d} {next = next} {follow = follow} alike carry nexts =
    with_value_alike alike carry (λ y z same. subst (λ n. AlikeWent sight (tables_of c d) (next y) (follow n)) same (nexts y))

-- the same with this number, which is the same, in place of that
pub at_place : {sight : Sight} {t : Tables} {went : Went} (reached : ℕ → Went) (m n : ℕ) → m ≡ n → AlikeWent sight t went (reached m)
    → AlikeWent sight t went (reached n)
at_place {sight} {t} {went} reached m n same alike = subst (λ k. AlikeWent sight t went (reached k)) same alike

-- the same with how many variables the other fiber has
pub by_length : {sight : Sight} {c d : Carry} {t : Tables} {went : Went} → AlikeCarry sight c d → (reached : ℕ → Went)
    → AlikeWent sight t went (reached (length c.variables)) → AlikeWent sight t went (reached (length d.variables))
by_length {c = c} {d = d} carry reached alike = at_place reached (length c.variables) (length d.variables) carry.variables.as_many alike

pub either : {sight : Sight} {t : Tables} {went reached others further : Went} (b : Bool) → AlikeWent sight t went reached
    → AlikeWent sight t others further
    → AlikeWent sight t (elim b [ true ↦ others | false ↦ went ]) (elim b [ true ↦ further | false ↦ reached ])
either true first second = second
either false first second = first
