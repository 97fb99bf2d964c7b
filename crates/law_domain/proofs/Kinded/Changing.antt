-- Changes of fibers, switches and contexts after which all variables hold what they are to hold.
use Rattle.std.proofs.Common.{◌≡◌, ℕ, zero, suc, ◌+◌, ◌<◌, ◌≤◌, List, [], ◌∷◌, ◌++◌, IsTrue, length, slice_set, nat_lt, refl, sym, subst, ltb-true, lt-ltb, arith}
use Rattle.std.specs.Prelude.{All}
use Rattle.std.proofs.lemmas.List.{length_push}
use Rattle.spec_parts.specs.Switches.{Switch, Handler, switch_at, never_opened, opened}
use Rattle.spec_script.specs.Kinds.{Kind, ContextKind, SwitchKind}
use Rattle.spec_script.specs.Scripts.{Script}
use Rattle.spec_fiber.specs.Asks.{Ask}
use Rattle.spec_fiber.specs.Replies.{Position}
use Rattle.spec_machine.specs.Domain.{Fiber, Standing, never_made, fiber_at}
use Rattle.law_fiber.specs.Kinded.Kinds.{Facts, HasKindsAt, asked_by}
use Rattle.law_fiber.specs.Kinded.Laws.{IsWeaker}
use Rattle.law_fiber.proofs.Kinded.Growing.{call_grows, kinds_grow, position_grows, work_grows}
use Rattle.law_domain.proofs.Sound.ByNumber as numbers
use Rattle.law_domain.specs.Kinded.KindedStates.{AreKinded, CallsWithKinds, IsKindedHandler, handlers_of, made_facts, names_made, position_of}

-- ## More are known

less_then : (number few many : ℕ) → few ≤ many → IsTrue (nat_lt number few) → IsTrue (nat_lt number many)
less_then number few many more is = (let below : number < few = ltb-true number few is in lt-ltb number many (omega (arith, below, more)))

pub made_weaker : (switches contexts more others : ℕ) → switches ≤ more → contexts ≤ others → IsWeaker (names_made switches contexts) (names_made more others)
made_weaker switches contexts more others a b SwitchKind number is = less_then number switches more a is
made_weaker switches contexts more others a b ContextKind number is = less_then number contexts others b is
made_weaker switches contexts more others a b kind number is = refl

all_map : {X : Type 0} (P Q : X → Type 0) → ((x : X) → P x → Q x) → (xs : List X) → All P xs → All Q xs
all_map P Q goes xs all k d below = goes _ (all k d below)

module _ (script : Script) (switches contexts more others : ℕ) (a : switches ≤ more) (b : contexts ≤ others) where
  abbrev facts : Facts
  facts = made_facts script switches contexts

  abbrev grown : Facts
  grown = made_facts script more others

  abbrev Named : Kind → ℕ → Type 0
  Named kind number = IsTrue (names_made more others kind number)

  abbrev weaker : IsWeaker (names_made switches contexts) (names_made more others)
  weaker = made_weaker switches contexts more others a b

  pub position_more : (position : Position) → HasKindsAt (made_facts script switches contexts) position → HasKindsAt (made_facts script more others) position
  position_more position has = position_grows facts Named weaker position has

  pub handler_more : (handler : Handler) → IsKindedHandler script (made_facts script switches contexts) handler → IsKindedHandler script (made_facts script more others) handler
  handler_more handler has = record { slots = has.slots; variables = kinds_grow facts Named weaker has.slots handler.values has.variables; fits = has.fits }

  pub calls_more : (call : Ask) (position : Position) → CallsWithKinds (made_facts script switches contexts) call position → CallsWithKinds (made_facts script more others) call position
  calls_more call position has = record {
    slots = has.slots;
    variables = kinds_grow facts Named weaker has.slots position.variables has.variables;
    work = work_grows facts Named weaker position.work has.slots has.work;
    names = call_grows facts Named weaker has.slots call has.names;
  }

-- ## Fibers

pub set_each : {X : Type 0} (otherwise : X) (P : X → Type 0) (xs : List X) (n : ℕ) (changed : X) → P changed → ((m : ℕ) → P (numbers.at otherwise xs m))
    → (m : ℕ) → P (numbers.at otherwise (slice_set xs n changed) m)
set_each otherwise P [] n changed is all m = all m
set_each otherwise P (x ∷ xs) zero changed is all zero = is
set_each otherwise P (x ∷ xs) zero changed is all (suc m) = all (suc m)
set_each otherwise P (x ∷ xs) (suc n) changed is all zero = all 0
set_each otherwise P (x ∷ xs) (suc n) changed is all (suc m) = set_each otherwise P xs n changed is (λ k. all (suc k)) m

pushed_each : (P : Fiber → Type 0) (fibers : List Fiber) (made : Fiber) → P made → ((h : ℕ) → P (fiber_at fibers h)) → (h : ℕ) → P (fiber_at (fibers ++ made ∷ []) h)
pushed_each P [] made is all zero = is
pushed_each P [] made is all (suc h) = all (suc h)
pushed_each P (x ∷ fibers) made is all zero = all 0
pushed_each P (x ∷ fibers) made is all (suc h) = pushed_each P fibers made is (λ m. all (suc m)) h

module _ (script : Script) (fibers : List Fiber) (switches : List Switch) (contexts : ℕ) (kinded : AreKinded script fibers switches contexts) where
  abbrev known : Facts
  known = made_facts script (length switches) contexts

  -- one is changed
  pub kinded_set : (g : ℕ) (changed : Fiber) → HasKindsAt (made_facts script (length switches) contexts) (position_of changed) → AreKinded script (slice_set fibers g changed) switches contexts
  kinded_set g changed has = record {
    position = set_each never_made (λ f. HasKindsAt known (position_of f)) fibers g changed has kinded.position;
    handlers = kinded.handlers;
  }

  -- one stands otherwise
  pub kinded_still : (g : ℕ) (standing : Standing) → AreKinded script (slice_set fibers g (record (fiber_at fibers g) { standing = standing })) switches contexts
  kinded_still g standing = kinded_set g (record (fiber_at fibers g) { standing = standing }) (kinded.position g)

  -- it runs elsewhere
  pub kinded_moved : (g context : ℕ) → AreKinded script (slice_set fibers g (record (fiber_at fibers g) { context = context })) switches contexts
  kinded_moved g context = kinded_set g (record (fiber_at fibers g) { context = context }) (kinded.position g)

  -- one is made
  pub kinded_pushed : (made : Fiber) → HasKindsAt (made_facts script (length switches) contexts) (position_of made) → AreKinded script (fibers ++ made ∷ []) switches contexts
  kinded_pushed made has = record {
    position = pushed_each (λ f. HasKindsAt known (position_of f)) fibers made has kinded.position;
    handlers = kinded.handlers;
  }

  -- ## Switches and contexts

  -- as many, with no handlers but such
  pub kinded_switches : (changed : List Switch) → length changed ≡ length switches
      → ((n : ℕ) → All (IsKindedHandler script (made_facts script (length switches) contexts)) (handlers_of (switch_at changed n))) → AreKinded script fibers changed contexts
  kinded_switches changed count all = record {
    position = λ g. subst (λ (many : ℕ). HasKindsAt (made_facts script many contexts) (position_of (fiber_at fibers g))) (sym count) (kinded.position g);
    handlers = λ n. subst (λ (many : ℕ). All (IsKindedHandler script (made_facts script many contexts)) (handlers_of (switch_at changed n))) (sym count) (all n);
  }

  -- more contexts
  pub kinded_contexts : (others : ℕ) → contexts ≤ others → AreKinded script fibers switches others
  kinded_contexts others later = record {
    position = λ g. position_more script (length switches) contexts (length switches) others (omega arith) later (position_of (fiber_at fibers g)) (kinded.position g);
    handlers = λ n. all_map _ _ (λ h. handler_more script (length switches) contexts (length switches) others (omega arith) later h) (handlers_of (switch_at switches n)) (kinded.handlers n);
  }

  -- one switch more, which has no handlers
  pub kinded_opened : (context : ℕ) → AreKinded script fibers (switches ++ opened context ∷ []) contexts
  kinded_opened context = (
      let count : length (switches ++ opened context ∷ []) ≡ length switches + 1 = length_push switches (opened context) in
      let later : length switches ≤ length (switches ++ opened context ∷ []) = omega (arith, count) in
      record {
        position = λ g. position_more script (length switches) contexts (length (switches ++ opened context ∷ [])) contexts later (omega arith) (position_of (fiber_at fibers g)) (kinded.position g);
        handlers = λ n.
            all_map _ _ (λ h. handler_more script (length switches) contexts (length (switches ++ opened context ∷ [])) contexts later (omega arith) h)
            (handlers_of (switch_at (switches ++ opened context ∷ []) n))
            (subst (λ hs. All (IsKindedHandler script known) hs) (sym (numbers.pushed_same never_opened handlers_of switches (opened context) refl n)) (kinded.handlers n));
      })

-- one runs elsewhere, stands in another place of its work, and goes on
pub kinded_placed : (script : Script) (fibers : List Fiber) (switches : List Switch) (contexts : ℕ) → AreKinded script fibers switches contexts
    → (g context : ℕ) (position : Position) (standing : Standing) → HasKindsAt (made_facts script (length switches) contexts) position
    → (let one = slice_set fibers g (record (fiber_at fibers g) { context = context }) in
    let two = slice_set one g (record (fiber_at one g) { work = position.work; variables = position.variables }) in
    AreKinded script (slice_set two g (record (fiber_at two g) { standing = standing })) switches contexts)
kinded_placed script fibers switches contexts kinded g context position standing has = (
    let one : List Fiber = slice_set fibers g (record (fiber_at fibers g) { context = context }) in
    let first = kinded_moved script fibers switches contexts kinded g context in
    let placed : Fiber = record (fiber_at one g) { work = position.work; variables = position.variables } in
    let second = kinded_set script one switches contexts first g placed has in
    kinded_still script (slice_set one g placed) switches contexts second g standing)

-- a fiber that has nothing to do
pub nothing_kinded : (these : Facts) → HasKindsAt these (record { work = []; variables = [] })
unfolding asked_by
nothing_kinded these = record { slots = []; variables = tt; work = (tt, λ longer starts. tt) }

-- as many contexts, though others
pub kinded_same : (script : Script) (fibers : List Fiber) (switches : List Switch) (contexts others : ℕ) → others ≡ contexts
    → AreKinded script fibers switches contexts → AreKinded script fibers switches others
kinded_same script fibers switches contexts others same kinded = subst (λ (many : ℕ). AreKinded script fibers switches many) (sym same) kinded
