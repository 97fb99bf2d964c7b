-- Silent statements of a fiber whose texts stand in a table, and what follows them.
use Rattle.std.proofs.Common.{ℕ, Bool, true, false, List, [], ◌∷◌, take}
use Rattle.eio_value.specs.Exceptions.{bound_text}
use Rattle.eio_value.specs.Table.{intern}
use Rattle.eio_value.specs.declared.plain.Misuse.{Misuse}
use Rattle.eio_value.specs.declared.plain.Plain.{Plain}
use Rattle.eio_value.specs.declared.plain.Plain.TheVariants.{Failure, Invalid}
use Rattle.eio_value.specs.declared.plain.Member.{Member}
use Rattle.eio_value.specs.declared.raised.Raised.{Raised}
use Rattle.eio_value.specs.declared.raised.Raised.TheVariants as raised
use Rattle.eio_value.specs.declared.value.TextId.{TextId}
use Rattle.eio_value.specs.declared.value.Value.{Value}
use Rattle.eio_value.specs.declared.value.Value.TheVariants as value
use Rattle.spec_fiber.specs.Asks.{Ask}
use Rattle.spec_fiber.specs.Evaluation.{Evaluated, Is, Raises}
use Rattle.spec_fiber.specs.Silent.{Went, Past, Called, Threw, and_then, within, raises, with_value, asks}
use Rattle.spec_fiber.specs.Work as work
use Rattle.spec_fiber.specs.Work.{Work, Carry, cut, bound, restored, counted, caught}
use Rattle.law_fiber.specs.Texts.Texts.{Written, Held, IsHeldValue, AreHeldValues, IsHeldRaised, IsTextedItem, IsTextedWork, IsTextedCall}
use Rattle.law_fiber.proofs.Texts.Lists.{each_append, each_push, each_take, each_weaker}
use Rattle.law_fiber.proofs.Texts.Evaluating.{IsHeldEvaluated}

-- what is held is so too by the other
pub record IsWeaker (one other : Held) : Type 0 where
  pub text : (id : TextId) → one.text id → other.text id
  pub exception : (what : Plain) → one.exception what → other.exception what

-- what is known of texts and exceptions where the table may grow from one to another, and what follows there
pub record Tables : Type 1 where
  pub written : Written
  pub held : List (List ℕ) → Held
  pub stands : List (List ℕ) → Type 0
  pub grows : List (List ℕ) → List (List ℕ) → Type 0
  pub stays : (t : List (List ℕ)) → grows t t
  pub further : (t u v : List (List ℕ)) → grows t u → grows u v → grows t v
  pub weaker : (t u : List (List ℕ)) → grows t u → IsWeaker (held t) (held u)
  pub writes : (t : List (List ℕ)) → stands t → (id : TextId) → written.text id → (held t).text id
  pub fails : (t : List (List ℕ)) → stands t → (id : TextId) → written.failure id → (held t).exception (Failure id)
  pub refuses : (t : List (List ℕ)) → stands t → (why : Misuse) → (held t).exception (Invalid why)
  -- the text that a `try` binds
  pub binds : (t : List (List ℕ)) (r : Raised) → stands t → IsHeldRaised (held t) r
      → (held (intern t (bound_text t r)).texts).text (intern t (bound_text t r)).id
  pub grown : (t : List (List ℕ)) (r : Raised) → stands t → IsHeldRaised (held t) r → grows t (intern t (bound_text t r)).texts
  pub standing : (t : List (List ℕ)) (r : Raised) → stands t → IsHeldRaised (held t) r → stands (intern t (bound_text t r)).texts

-- ## By what holds more

module _ (written : Written) (one other : Held) (weaker : IsWeaker one other) where
  pub value_weaker : (it : Value) → IsHeldValue one it → IsHeldValue other it
  value_weaker (value.Text text) is = weaker.text text is
  value_weaker rest is = tt

  pub values_weaker : (variables : List Value) → AreHeldValues one variables → AreHeldValues other variables
  values_weaker = each_weaker (IsHeldValue one) (IsHeldValue other) value_weaker

  pub raised_weaker : (r : Raised) → IsHeldRaised one r → IsHeldRaised other r
  raised_weaker (raised.One member) is = weaker.exception member.what is
  raised_weaker (raised.Cancelled member) is = weaker.exception member.what is
  raised_weaker (raised.Many several) is =
      each_weaker (λ member. one.exception member.what) (λ member. other.exception member.what) (λ (member : Member). weaker.exception member.what)
      several.members is

  item_weaker : (item : Work) → IsTextedItem written one item → IsTextedItem written other item
  item_weaker (work.Run items) is = is
  item_weaker (work.Restore variables) is = values_weaker variables is
  item_weaker (work.Try handler keep) is = is
  item_weaker (work.Loop body keep) is = is
  item_weaker (work.Repeat turn left body keep) is = is
  item_weaker (work.Closing switch kept) is = value_weaker kept is
  item_weaker (work.Locking mutex body) is = is
  item_weaker (work.Using pool body) is = is
  item_weaker rest is = tt

  pub work_weaker : (rest : List Work) → IsTextedWork written one rest → IsTextedWork written other rest
  work_weaker = each_weaker (IsTextedItem written one) (IsTextedItem written other) item_weaker

-- ## What a fiber carries

-- a table that has grown from an older one, and the variables
pub record IsTextedCarry (tables : Tables) (old : List (List ℕ)) (c : Carry) : Type 0 where
  pub grows : tables.grows old c.texts
  pub stands : tables.stands c.texts
  pub variables : AreHeldValues (tables.held c.texts) c.variables

-- statements that began with an older table come to a value, a call or an exception
pub data TextedWent (tables : Tables) (old : List (List ℕ)) : Went → Type 0 where
  Pasts : {it : Value} {c : Carry} → IsTextedCarry tables old c → IsHeldValue (tables.held c.texts) it → TextedWent tables old (Past it c)
  Calls : {call : Ask} {behind : List Work} {c : Carry} → IsTextedCarry tables old c → IsTextedCall tables.written (tables.held c.texts) call
      → IsTextedWork tables.written (tables.held c.texts) behind → TextedWent tables old (Called call behind c)
  Throws : {r : Raised} {c : Carry} → IsTextedCarry tables old c → IsHeldRaised (tables.held c.texts) r → TextedWent tables old (Threw r c)

module _ (tables : Tables) where
  module _ {old : List (List ℕ)} {c : Carry} (carry : IsTextedCarry tables old c) where
    pub carry_cut : (keep : ℕ) → IsTextedCarry tables old (cut keep c)
    carry_cut keep = record {
      grows = carry.grows;
      stands = carry.stands;
      variables = each_take (IsHeldValue (tables.held c.texts)) keep c.variables carry.variables;
    }

    pub carry_bound : (slot : ℕ) (it : Value) → IsHeldValue (tables.held c.texts) it → IsTextedCarry tables old (bound slot it c)
    carry_bound slot it is = record {
      grows = carry.grows;
      stands = carry.stands;
      variables =
          each_push (IsHeldValue (tables.held c.texts)) (take slot c.variables) it
          (each_take (IsHeldValue (tables.held c.texts)) slot c.variables carry.variables) is;
    }

    pub carry_restored : (variables : List Value) → AreHeldValues (tables.held c.texts) variables → IsTextedCarry tables old (restored variables c)
    carry_restored variables are = record { grows = carry.grows; stands = carry.stands; variables = are }

    pub carry_counted : (what : Plain) → IsTextedCarry tables old (counted what c)
    carry_counted what = record { grows = carry.grows; stands = carry.stands; variables = carry.variables }

    pub carry_caught : (slot : ℕ) (r : Raised) → IsHeldRaised (tables.held c.texts) r → IsTextedCarry tables old (caught slot r c)
    carry_caught slot r is =
        let new : List (List ℕ) = (intern c.texts (bound_text c.texts r)).texts in
        let grown : tables.grows c.texts new = tables.grown c.texts r carry.stands is in
        record {
          grows = tables.further old c.texts new carry.grows grown;
          stands = tables.standing c.texts r carry.stands is;
          variables =
              each_push (IsHeldValue (tables.held new)) (take slot c.variables) (value.Text (intern c.texts (bound_text c.texts r)).id)
              (each_take (IsHeldValue (tables.held new)) slot c.variables
              (values_weaker tables.written (tables.held c.texts) (tables.held new) (tables.weaker c.texts new grown) c.variables carry.variables))
              (tables.binds c.texts r carry.stands is);
        }

    -- what began with this table began with the older one
    pub carry_from : {d : Carry} → IsTextedCarry tables c.texts d → IsTextedCarry tables old d
    carry_from {d} later = record { grows = tables.further old c.texts d.texts carry.grows later.grows; stands = later.stands; variables = later.variables }

    -- a fiber that begins here
    pub carry_self : IsTextedCarry tables c.texts c
    carry_self = record { grows = tables.stays c.texts; stands = carry.stands; variables = carry.variables }

    -- work that stood by this table stands by a later one
    pub work_later : {d : Carry} (rest : List Work) → IsTextedCarry tables c.texts d → IsTextedWork tables.written (tables.held c.texts) rest
        → IsTextedWork tables.written (tables.held d.texts) rest
    work_later {d} rest later are = work_weaker tables.written (tables.held c.texts) (tables.held d.texts) (tables.weaker c.texts d.texts later.grows) rest are

  -- ## What follows

  module _ {old : List (List ℕ)} where
    pub followed : {went : Went} {next : Value → Carry → Went} {catch : Raised → Carry → Went} (more : List Work)
        → ((held : Held) → IsTextedWork tables.written held more) → TextedWent tables old went
        → ((it : Value) (d : Carry) → IsTextedCarry tables old d → IsHeldValue (tables.held d.texts) it → TextedWent tables old (next it d))
        → ((r : Raised) (d : Carry) → IsTextedCarry tables old d → IsHeldRaised (tables.held d.texts) r → TextedWent tables old (catch r d))
        → TextedWent tables old (and_then went next catch more)
    followed more are (Pasts {it = it} {c = d} carry is) nexts catches = nexts it d carry is
    followed more are (Calls {behind = behind} {c = d} carry call work) nexts catches =
        Calls carry call (each_append (IsTextedItem tables.written (tables.held d.texts)) behind more work (are (tables.held d.texts)))
    followed more are (Throws {r = r} {c = d} carry is) nexts catches = catches r d carry is

    -- a block whose end cuts the variables
    pub within_texts : {went : Went} (keep : ℕ) → TextedWent tables old went → TextedWent tables old (within keep went)
    within_texts keep went =
        followed (work.Cut keep ∷ []) (λ held. (tt, tt)) went (λ it d carry is. Pasts (carry_cut carry keep) is) (λ r d carry is. Throws carry is)

    -- ## Ways to go

    pub asks_texts : {call : Ask} {c : Carry} → IsTextedCarry tables old c → IsTextedCall tables.written (tables.held c.texts) call
        → TextedWent tables old (asks call c)
    asks_texts carry call = Calls carry call tt

    pub raises_texts : {c : Carry} (what : Plain) → IsTextedCarry tables old c → (tables.held c.texts).exception what → TextedWent tables old (raises what c)
    raises_texts what carry is = Throws (carry_counted carry what) is

    pub with_value_texts : {A : Type 0} {c : Carry} (P : A → Type 0) (e : Evaluated A) (next : A → Went) → IsTextedCarry tables old c
        → IsHeldEvaluated (tables.held c.texts) P e → ((it : A) → P it → TextedWent tables old (next it)) → TextedWent tables old (with_value e c next)
    with_value_texts P (Is it) next carry is nexts = nexts it is
    with_value_texts P (Raises what) next carry is nexts = raises_texts what carry is

    pub either : {went other : Went} (b : Bool) → TextedWent tables old went → TextedWent tables old other
        → TextedWent tables old (elim b [ true ↦ other | false ↦ went ])
    either true first second = second
    either false first second = first
