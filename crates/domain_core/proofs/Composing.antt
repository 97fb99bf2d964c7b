-- Moves that are put together from parts: what each part does, whatever domain is stood for, says what the whole does.
use Rattle.std.proofs.Common.{◌≡◌, ℕ, List, Option, Some, None, refl, ap, sym, subst}
use Rattle.eio_value.specs.declared.plain.Member.{Member}
use Rattle.eio_value.specs.declared.plain.Plain.{Plain}
use Rattle.eio_value.specs.declared.value.Value.{Value}
use Rattle.eio_value.specs.declared.value.Value.TheVariants as value
use Rattle.spec_parts.specs.Contexts.{Made}
use Rattle.script_forms.specs.declared.node.Node.{Node}
use Rattle.spec_fiber.specs.Asks.{Ask}
use Rattle.trace_lines.specs.declared.line.Did.{Did}
use Rattle.trace_lines.specs.declared.line.Said2.{Said2}
use Rattle.spec_machine.specs.ContextMoves.{before_block, enters_context}
use Rattle.spec_machine.specs.Domain.{DomainState, off_for}
use Rattle.spec_machine.specs.Steps.{Step, halts, in_new, new_raise, raises_cancelled, told, unless_off}
use Rattle.domain_core.specs.declared.told.Told.{Told}
use Rattle.domain_core.specs.Answering.{BecomesUnder, HoldsOf, MakesUnder, Raises, Tells, enters_block}
use Rattle.domain_core.specs.Keeping.{KeptDomain}
use Rattle.domain_core.specs.Mirrors.{Mirrors}

-- ## Steps of the definitions

-- a call that is refused in a context that is off, by whether it is
pub off_raises : (it : Did) (g : ℕ) (l : DomainState) (then : Value → Step) (why : Plain) → off_for l g ≡ Some why → unless_off it g l then ≡ raises_cancelled it why g l
off_raises it g l then why is = ap (λ (found : Option Plain). elim found as (λ _. Step) [ Some reason ↦ raises_cancelled it reason g l | None ↦ then value.Unit ]) is

pub on_goes : (it : Did) (g : ℕ) (l : DomainState) (then : Value → Step) → off_for l g ≡ None → unless_off it g l then ≡ then value.Unit
on_goes it g l then is = ap (λ (found : Option Plain). elim found as (λ _. Step) [ Some reason ↦ raises_cancelled it reason g l | None ↦ then value.Unit ]) is

-- a new context, by whether there is room for it
pub full_halts : (made : Made) (g : ℕ) (l : DomainState) (then : ℕ → DomainState → Step) → made.number ≡ None → in_new made g l then ≡ halts g l
full_halts made g l then is = ap (λ (number : Option ℕ). elim number as (λ _. Step) [ None ↦ halts g l | Some context ↦ then context (record l { contexts = made.contexts }) ]) is

pub room_goes : (made : Made) (g : ℕ) (l : DomainState) (then : ℕ → DomainState → Step) (context : ℕ) → made.number ≡ Some context
    → in_new made g l then ≡ then context (record l { contexts = made.contexts })
room_goes made g l then context is = ap (λ (number : Option ℕ). elim number as (λ _. Step) [ None ↦ halts g l | Some c ↦ then c (record l { contexts = made.contexts }) ]) is

-- ## What is made

module _ (nodes : List Node) where
  -- a step that equals another one, whatever is stood for
  pub makes_as : (step other : DomainState → Step) (old : KeptDomain) (it : Told) (new : KeptDomain)
      → ((texts : List (List ℕ)) (l : DomainState) → Mirrors nodes texts old l → step l ≡ other l)
      → MakesUnder nodes other old it new → MakesUnder nodes step old it new
  makes_as step other old it new same makes = record {
    tells = λ texts l mirrors. subst (λ (s : Step). Tells s it) (sym (same texts l mirrors)) (makes.tells texts l mirrors);
    becomes = λ texts l mirrors. subst (λ (s : Step). Mirrors nodes texts new s.state) (sym (same texts l mirrors)) (makes.becomes texts l mirrors);
  }

  -- a change that equals another one
  pub becomes_as : (change other : DomainState → DomainState) (old new : KeptDomain)
      → ((texts : List (List ℕ)) (l : DomainState) → Mirrors nodes texts old l → change l ≡ other l)
      → BecomesUnder nodes other old new → BecomesUnder nodes change old new
  becomes_as change other old new same becomes = λ texts l mirrors. subst (λ (m : DomainState). Mirrors nodes texts new m) (sym (same texts l mirrors)) (becomes texts l mirrors)

  -- the domain changes twice
  pub becomes_then : (change then : DomainState → DomainState) (old between new : KeptDomain)
      → BecomesUnder nodes change old between → BecomesUnder nodes then between new → BecomesUnder nodes (λ l. then (change l)) old new
  becomes_then change then old between new first second = λ texts l mirrors. second texts (change l) (first texts l mirrors)

  -- it changes, and makes a step from there
  pub makes_after : (change : DomainState → DomainState) (step : DomainState → Step) (old between : KeptDomain) (it : Told) (new : KeptDomain)
      → BecomesUnder nodes change old between → MakesUnder nodes step between it new → MakesUnder nodes (λ l. step (change l)) old it new
  makes_after change step old between it new first makes = record {
    tells = λ texts l mirrors. makes.tells texts (change l) (first texts l mirrors);
    becomes = λ texts l mirrors. makes.becomes texts (change l) (first texts l mirrors);
  }

  -- it changes, and the line tells this
  pub makes_told : (change : DomainState → DomainState) (g : ℕ) (does : Did) (said : Said2) (old new : KeptDomain)
      → BecomesUnder nodes change old new → MakesUnder nodes (λ l. told g does said (change l)) old (record { fiber = g; did = does; reply = said }) new
  makes_told change g does said old new becomes = record {
    tells = λ texts l mirrors. record { fiber = refl; did = refl; reply = refl };
    becomes = becomes;
  }

  -- the fiber goes into the block of its call
  pub makes_entering : (does : Did) (said : Said2) (call : Ask) (number context g : ℕ) (old new : KeptDomain)
      → BecomesUnder nodes (enters_block call number context g) old new
      → MakesUnder nodes (λ l. enters_context does said context (before_block call number g l) g l) old (record { fiber = g; did = does; reply = said }) new
  makes_entering does said call number context g old new becomes = makes_told (enters_block call number context g) g does said old new becomes

  -- it makes a new raise, and a step from there
  pub makes_after_raise : (what : Plain) (made : Member) (then : Member → DomainState → Step) (old between : KeptDomain) (it : Told) (new : KeptDomain)
      → Raises what made old between → MakesUnder nodes (then made) between it new → MakesUnder nodes (λ l. new_raise what l then) old it new
  makes_after_raise what made then old between it new raises makes =
      makes_as (λ l. new_raise what l then) (λ l. new_raise what l (λ ignored m. then made m)) old it new
      (λ texts l mirrors. ap (λ (x : Member). new_raise what l (λ ignored m. then x m)) (sym (raises.is nodes texts l mirrors)))
      (record {
        tells = λ texts l mirrors. (let told_so = makes.tells texts _ (raises.becomes nodes texts l mirrors) in record { fiber = told_so.fiber; did = told_so.did; reply = told_so.reply });
        becomes = λ texts l mirrors. makes.becomes texts _ (raises.becomes nodes texts l mirrors);
      })

  -- a call in a context that is off
  pub makes_off : (does : Did) (g : ℕ) (then : DomainState → Value → Step) (why : Plain) (old : KeptDomain) (it : Told) (new : KeptDomain)
      → HoldsOf old (λ l. Some why ≡ off_for l g) → MakesUnder nodes (raises_cancelled does why g) old it new → MakesUnder nodes (λ l. unless_off does g l (then l)) old it new
  makes_off does g then why old it new is makes =
      makes_as _ (raises_cancelled does why g) old it new (λ texts l mirrors. off_raises does g l (then l) why (sym (is nodes texts l mirrors))) makes

  -- and in one that isn't
  pub makes_on : (does : Did) (g : ℕ) (then : DomainState → Value → Step) (old : KeptDomain) (it : Told) (new : KeptDomain)
      → HoldsOf old (λ l. None ≡ off_for l g) → MakesUnder nodes (λ l. then l value.Unit) old it new → MakesUnder nodes (λ l. unless_off does g l (then l)) old it new
  makes_on does g then old it new is makes =
      makes_as _ (λ l. then l value.Unit) old it new (λ texts l mirrors. on_goes does g l (then l) (sym (is nodes texts l mirrors))) makes

  -- a new context for which there is no room
  pub makes_full : (made : DomainState → Made) (g : ℕ) (then : DomainState → ℕ → DomainState → Step) (old : KeptDomain) (it : Told) (new : KeptDomain)
      → HoldsOf old (λ l. None ≡ (made l).number) → MakesUnder nodes (halts g) old it new → MakesUnder nodes (λ l. in_new (made l) g l (then l)) old it new
  makes_full made g then old it new is makes =
      makes_as _ (halts g) old it new (λ texts l mirrors. full_halts (made l) g l (then l) (sym (is nodes texts l mirrors))) makes

  -- and one that is made
  pub makes_in_new : (made : DomainState → Made) (g : ℕ) (then : DomainState → ℕ → DomainState → Step) (context : ℕ) (old : KeptDomain) (it : Told) (new : KeptDomain)
      → HoldsOf old (λ l. Some context ≡ (made l).number) → MakesUnder nodes (λ l. then l context (record l { contexts = (made l).contexts })) old it new
      → MakesUnder nodes (λ l. in_new (made l) g l (then l)) old it new
  makes_in_new made g then context old it new is makes =
      makes_as _ (λ l. then l context (record l { contexts = (made l).contexts })) old it new
      (λ texts l mirrors. room_goes (made l) g l (then l) context (sym (is nodes texts l mirrors))) makes
