-- Each call grants a resource that nobody has and takes back one that somebody has, and who has it then is what the pool's data say.
use Rattle.std.proofs.Common.{◌≡◌, ℕ, suc, ◌+◌, ◌-◌, ◌<◌, ◌≤◌, ◌==◌, ◌||◌, nat_lt, length, nat_eq, Bool, true, false, List, [], ◌∷◌, ◌++◌, take, Option, Some, None, arith, refl, sym, ap, ◌∙◌, subst, eqb-true}
use Rattle.std.specs.List.{list_any, last_or, AllByRecursion, IsDistinct}
use Rattle.std.proofs.lemmas.Grind.{common_steps}
use Rattle.std.proofs.lemmas.List.Folds.{list_any-append}
use Rattle.std.proofs.lemmas.Map.Steps.{length-le_from_distinct_below}
use Rattle.eio_value.specs.declared.call.Answer.TheVariants as answer
use Rattle.eio_value.specs.declared.call.Call.{Call}
use Rattle.eio_value.specs.declared.call.Call.TheVariants as call
use Rattle.eio_value.specs.declared.message.Waiter.{Waiter}
use Rattle.eio_value.specs.declared.raised.Outcome.TheVariants as outcome
use Rattle.eio_value.specs.declared.value.Value.TheVariants as value
use Rattle.law_parts.specs.Items.{Move, Calls, Strikes}
use Rattle.law_parts.proofs.Choices.{either_way}
use Rattle.spec_parts.specs.Data.{Data, Pool}
use Rattle.spec_parts.specs.Objects.{called}
use Rattle.spec_parts.specs.Pools.{pool, is_out, use_last}
use Rattle.spec_parts.specs.Row.{Row, Queued, Stepped, Takers, Waits, Ignores, Looks, anybody, quiet, done, int, stepped, otherwise}
use Rattle.spec_parts.specs.Strikes.{struck}
use Rattle.resource_pool.specs.Using.{PoolChange, Grants, Puts, turns_of, used, AreInTurn, AreIdle, HasIdle, UsedInTurn, IdleStandOnce}

-- Turns

-- whether somebody has the resource after these turns
abbrev led : ℕ → Bool → List PoolChange → Bool
led resource out [] = out
led resource out (Grants other ∷ turns) = elim (other == resource) [ true ↦ led resource true turns | false ↦ led resource out turns ]
led resource out (Puts other ∷ turns) = elim (other == resource) [ true ↦ led resource false turns | false ↦ led resource out turns ]

module _ (q : ℕ) where
  append_go : (b out before after : Bool) (first others : List PoolChange)
      → (AreInTurn q after first → AreInTurn q (led q after first) others → AreInTurn q after (first ++ others))
      → (AreInTurn q out first → AreInTurn q (led q out first) others → AreInTurn q out (first ++ others))
      → (elim b as (λ _. Type 0) [ true ↦ (out ≡ before) × AreInTurn q after first | false ↦ AreInTurn q out first ])
      → AreInTurn q (elim b [ true ↦ led q after first | false ↦ led q out first ]) others
      → (elim b as (λ _. Type 0) [ true ↦ (out ≡ before) × AreInTurn q after (first ++ others) | false ↦ AreInTurn q out (first ++ others) ])
  append_go true out before after first others hit miss are more = (are.0, hit are.1 more)
  append_go false out before after first others hit miss are more = miss are more

  -- turns one after the other
  in_turn-append : (out : Bool) (first others : List PoolChange) → AreInTurn q out first → AreInTurn q (led q out first) others → AreInTurn q out (first ++ others)
  in_turn-append out [] others are more = more
  in_turn-append out (Grants r ∷ first) others are more = append_go (r == q) out false true first others (in_turn-append true first others) (in_turn-append out first others) are more
  in_turn-append out (Puts r ∷ first) others are more = append_go (r == q) out true false first others (in_turn-append false first others) (in_turn-append out first others) are more

-- Lists of idle resources

-- the list ends with this one
pub record Ends (xs : List ℕ) : Type 0 where
  pub front : List ℕ
  pub last : ℕ
  pub are : xs ≡ front ++ last ∷ []

ends : (x : ℕ) (xs : List ℕ) → Ends (x ∷ xs)
ends x [] = record { front = []; last = x; are = refl }
ends x (y ∷ ys) = let e : Ends (y ∷ ys) = ends y ys in record { front = x ∷ e.front; last = e.last; are = ap (λ (l : List ℕ). x ∷ l) e.are }

pub last_or-push : (o : Option ℕ) (xs : List ℕ) (r : ℕ) → last_or o (xs ++ r ∷ []) ≡ Some r
last_or-push o [] r = refl
last_or-push o (x ∷ xs) r = last_or-push (Some x) xs r

length-push : (xs : List ℕ) (r : ℕ) → length (xs ++ r ∷ []) ≡ suc (length xs)
length-push [] r = refl
length-push (x ∷ xs) r = ap suc (length-push xs r)

take_front : (xs : List ℕ) (r : ℕ) → take (length xs) (xs ++ r ∷ []) ≡ xs
take_front [] r = refl
take_front (x ∷ xs) r = ap (λ (l : List ℕ). x ∷ l) (take_front xs r)

pub all_but_last : (xs : List ℕ) (r : ℕ) → take (length (xs ++ r ∷ []) - 1) (xs ++ r ∷ []) ≡ xs
all_but_last xs r =
    let e : length (xs ++ r ∷ []) - 1 ≡ length xs = omega (arith, length-push xs r) in
    ap (λ n. take n (xs ++ r ∷ [])) e ∙ take_front xs r

abbrev stands : ℕ → List ℕ → Bool
stands q xs = list_any (λ other. other == q) xs

same_number : (a b : ℕ) → (a == b) ≡ (b == a)
same_number a b = grind (arith, common_steps)

stands-push : (q r : ℕ) (xs : List ℕ) → stands q (xs ++ r ∷ []) ≡ (stands q xs || (r == q))
stands-push q r xs = list_any-append (λ other. other == q) xs (r ∷ []) ∙ grind (arith, common_steps)

or_left : (a b : Bool) → (a || b) ≡ false → a ≡ false
or_left a b e = grind (arith, common_steps)

or_right : (a b : Bool) → (a || b) ≡ false → b ≡ false
or_right a b e = grind (arith, common_steps)

or_both : (a b : Bool) → a ≡ false → b ≡ false → (a || b) ≡ false
or_both a b e f = grind (arith, common_steps)

-- without the last
pub idle-front : (made : ℕ) (xs : List ℕ) (r : ℕ) → AreIdle made (xs ++ r ∷ []) → AreIdle made xs × (r < made) × (stands r xs ≡ false)
idle-front made [] r idle = (tt, idle.0, refl)
idle-front made (x ∷ xs) r idle =
    let rest : AreIdle made xs × (r < made) × (stands r xs ≡ false) = idle-front made xs r idle.2 in
    let apart : (stands x xs || (r == x)) ≡ false = sym (stands-push x r xs) ∙ idle.1 in
    ((idle.0, or_left _ _ apart, rest.0), rest.1, or_both (x == r) (stands r xs) (same_number x r ∙ or_right _ _ apart) rest.2)

-- with one more behind them
pub idle-push : (made : ℕ) (xs : List ℕ) (r : ℕ) → AreIdle made xs → r < made → stands r xs ≡ false → AreIdle made (xs ++ r ∷ [])
idle-push made [] r idle below none = (below, refl, tt)
idle-push made (x ∷ xs) r idle below none =
    (idle.0, stands-push x r xs ∙ or_both (stands x xs) (r == x) idle.1 (same_number r x ∙ or_left _ _ none), idle-push made xs r idle.2 below (or_right _ _ none))

idle-more : (made : ℕ) (xs : List ℕ) → AreIdle made xs → AreIdle (made + 1) xs
idle-more made [] idle = tt
idle-more made (x ∷ xs) idle = (omega (arith, idle.0), idle.1, idle-more made xs idle.2)

below_is : (a b : ℕ) → a < b → nat_lt a b ≡ true
below_is a b h = grind (arith, common_steps)

is_below : (a b : ℕ) → nat_lt a b ≡ true → a < b
is_below a b h = grind (arith, common_steps)

not_below : (a : ℕ) → nat_lt a a ≡ false
not_below a = grind (arith, common_steps)

below_other : (a b : ℕ) → (b == a) ≡ false → nat_lt a (b + 1) ≡ nat_lt a b
below_other a b h = grind (arith, common_steps)

out_is_made : (made : ℕ) (idle : List ℕ) (r : ℕ) → is_out made idle r ≡ true → (r < made) × (stands r idle ≡ false)
out_is_made made idle r out = (is_below r made (grind (arith, common_steps)), grind (arith, common_steps))

idle_distinct : (made : ℕ) (xs : List ℕ) → AreIdle made xs → IsDistinct nat_eq xs
unfolding IsDistinct
idle_distinct made [] idle = tt
idle_distinct made (x ∷ xs) idle = (apart x xs idle.1, idle_distinct made xs idle.2)
  where
    apart : (x : ℕ) (xs : List ℕ) → stands x xs ≡ false → AllByRecursion (λ y. nat_eq x y ≡ false) xs
    apart x [] none = tt
    apart x (y ∷ ys) none = (same_number x y ∙ or_left _ _ none, apart x ys (or_right _ _ none))

stands_below : (made : ℕ) (xs : List ℕ) → AreIdle made xs → (q : ℕ) → list_any (nat_eq q) xs ≡ true → q < made
stands_below made [] idle q has = let e : false ≡ true = has in cc
stands_below made (x ∷ xs) idle q has = go (nat_eq q x) refl (stands_below made xs idle.2 q)
  where
    go : (b : Bool) → nat_eq q x ≡ b → (list_any (nat_eq q) xs ≡ true → q < made) → q < made
    go true e rest = let same : q ≡ x = eqb-true q x e in omega (arith, idle.0, same)
    go false e rest = rest (rw e at has)

-- no more are idle than were made
idle_few : (made : ℕ) (xs : List ℕ) → AreIdle made xs → length xs ≤ made
idle_few made xs idle = length-le_from_distinct_below xs made (idle_distinct made xs idle) (stands_below made xs idle)

-- one that is out fits behind them
pub out_fits : (made : ℕ) (idle : List ℕ) (r : ℕ) → AreIdle made idle → is_out made idle r ≡ true → AreIdle made (idle ++ r ∷ []) × (length idle < made)
out_fits made idle r are out =
    let facts = out_is_made made idle r out in
    let now : AreIdle made (idle ++ r ∷ []) = idle-push made idle r are facts.0 facts.1 in
    (now, omega (arith, idle_few made (idle ++ r ∷ []) now, length-push idle r))

-- Calls

pub record Leads (q made : ℕ) (idle : List ℕ) (values : Data) (turns : List PoolChange) : Type 0 where
  pub in_turn : AreInTurn q (is_out made idle q) turns
  pub size : ℕ
  pub now_made : ℕ
  pub now_idle : List ℕ
  pub becomes : values ≡ Pool size now_made now_idle
  pub are_idle : AreIdle now_made now_idle
  pub out : led q (is_out made idle q) turns ≡ is_out now_made now_idle q

module _ (q size made : ℕ) where
  stays : (idle : List ℕ) → AreIdle made idle → Leads q made idle (Pool size made idle) []
  stays idle are = record { in_turn = tt; size = size; now_made = made; now_idle = idle; becomes = refl; are_idle = are; out = refl }

  -- a new resource
  new_in_turn : (b : Bool) → (made == q) ≡ b → elim b as (λ _. Type 0) [ true ↦ (is_out made [] q ≡ false) × Unit {0} | false ↦ Unit {0} ]
  new_in_turn true e = let same : made ≡ q = eqb-true made q e in (rw same (rw (not_below q) refl), tt)
  new_in_turn false e = tt

  new_out : (b : Bool) → (made == q) ≡ b → (elim b [ true ↦ true | false ↦ is_out made [] q ]) ≡ is_out (made + 1) [] q
  new_out true e = let same : made ≡ q = eqb-true made q e in rw same (rw (below_is q (q + 1) (omega arith)) refl)
  new_out false e = rw (below_other q made e) refl

  makes : Leads q made [] (Pool size (made + 1) []) (Grants made ∷ [])
  makes = record { in_turn = new_in_turn (made == q) refl; size = size; now_made = made + 1; now_idle = []; becomes = refl; are_idle = tt; out = new_out (made == q) refl }

  -- the last of the idle
  last_in_turn : (front : List ℕ) (r : ℕ) (b : Bool) → (r == q) ≡ b → elim b as (λ _. Type 0) [ true ↦ (is_out made (front ++ r ∷ []) q ≡ false) × Unit {0} | false ↦ Unit {0} ]
  last_in_turn front r true e = (rw (stands-push q r front) (rw e (grind (arith, common_steps))), tt)
  last_in_turn front r false e = tt

  last_out : (front : List ℕ) (r : ℕ) (b : Bool) → (r == q) ≡ b → r < made → stands r front ≡ false
      → (elim b [ true ↦ true | false ↦ is_out made (front ++ r ∷ []) q ]) ≡ is_out made front q
  last_out front r true e below none = let same : r ≡ q = eqb-true r q e in rw (← same) (rw (below_is r made below, none) refl)
  last_out front r false e below none = rw (stands-push q r front) (rw e (grind (arith, common_steps)))

  takes : (front : List ℕ) (r : ℕ) → AreIdle made (front ++ r ∷ []) → Leads q made (front ++ r ∷ []) (Pool size made front) (Grants r ∷ [])
  takes front r are =
      let rest = idle-front made front r are in
      record { in_turn = last_in_turn front r (r == q) refl; size = size; now_made = made; now_idle = front; becomes = refl; are_idle = rest.0; out = last_out front r (r == q) refl rest.1 rest.2 }

  -- a resource that is put back, and nobody waits
  put_in_turn : (idle : List ℕ) (r : ℕ) → is_out made idle r ≡ true → (b : Bool) → (r == q) ≡ b → elim b as (λ _. Type 0) [ true ↦ (is_out made idle q ≡ true) × Unit {0} | false ↦ Unit {0} ]
  put_in_turn idle r out true e = let same : r ≡ q = eqb-true r q e in (rw (← same) out, tt)
  put_in_turn idle r out false e = tt

  put_out : (idle : List ℕ) (r : ℕ) (b : Bool) → (r == q) ≡ b → (elim b [ true ↦ false | false ↦ is_out made idle q ]) ≡ is_out made (idle ++ r ∷ []) q
  put_out idle r true e = rw (stands-push q r idle) (rw e (grind (arith, common_steps)))
  put_out idle r false e = rw (stands-push q r idle) (rw e (grind (arith, common_steps)))

  puts : (idle : List ℕ) (r : ℕ) → AreIdle made idle → is_out made idle r ≡ true → Leads q made idle (Pool size made (idle ++ r ∷ [])) (Puts r ∷ [])
  puts idle r are out =
      record { in_turn = put_in_turn idle r out (r == q) refl; size = size; now_made = made; now_idle = idle ++ r ∷ []; becomes = refl; are_idle = (out_fits made idle r are out).0; out = put_out idle r (r == q) refl }

  -- a resource that is put back and handed on
  handed_in_turn : (idle : List ℕ) (r : ℕ) → is_out made idle r ≡ true → (b : Bool) → (r == q) ≡ b
      → elim b as (λ _. Type 0) [ true ↦ (is_out made idle q ≡ true) × (elim b as (λ _. Type 0) [ true ↦ (false ≡ false) × Unit {0} | false ↦ Unit {0} ]) | false ↦ elim b as (λ _. Type 0) [ true ↦ (is_out made idle q ≡ false) × Unit {0} | false ↦ Unit {0} ] ]
  handed_in_turn idle r out true e = let same : r ≡ q = eqb-true r q e in (rw (← same) out, (refl, tt))
  handed_in_turn idle r out false e = tt

  handed_out : (idle : List ℕ) (r : ℕ) → is_out made idle r ≡ true → (b : Bool) → (r == q) ≡ b
      → (elim b as (λ _. Bool) [ true ↦ elim b as (λ _. Bool) [ true ↦ true | false ↦ false ] | false ↦ elim b as (λ _. Bool) [ true ↦ true | false ↦ is_out made idle q ] ]) ≡ is_out made idle q
  handed_out idle r out true e = let same : r ≡ q = eqb-true r q e in rw (← same) (sym out)
  handed_out idle r out false e = refl

  hands_on : (idle : List ℕ) (r : ℕ) → AreIdle made idle → is_out made idle r ≡ true → Leads q made idle (Pool size made idle) (Puts r ∷ Grants r ∷ [])
  hands_on idle r are out =
      record { in_turn = handed_in_turn idle r out (r == q) refl; size = size; now_made = made; now_idle = idle; becomes = refl; are_idle = are; out = handed_out idle r out (r == q) refl }

abbrev row_of : ℕ → ℕ → List ℕ → List Queued → List Queued → Row
row_of size made idle takers adders = record { values = Pool size made idle; takers = takers; adders = adders }

module _ (who : Waiter) (serial q size made : ℕ) where
  abbrev StepLeads : Call → List ℕ → Stepped → Type 0
  StepLeads call idle step = Leads q made idle step.row.values (turns_of call step)

  abbrev CallLeads : Bool → Call → List ℕ → List Queued → List Queued → Type 0
  CallLeads off call idle takers adders = StepLeads call idle (called (row_of size made idle takers adders) who off serial call)

  waits_leads : (off : Bool) (object : ℕ) (idle : List ℕ) (takers adders : List Queued) → AreIdle made idle
      → StepLeads (call.Use object) idle (otherwise (row_of size made idle takers adders) who off (Waits (Pool size made idle) Takers value.Unit 0))
  waits_leads true object idle takers adders are = stays q size made idle are
  waits_leads false object idle takers adders are = stays q size made idle are

  use_leads : (off : Bool) (object : ℕ) (idle : List ℕ) (takers adders : List Queued) → AreIdle made idle → CallLeads off (call.Use object) idle takers adders
  use_leads off object [] takers adders are =
      either_way
      (λ b. StepLeads (call.Use object) [] (otherwise (row_of size made [] takers adders) who off
      (elim b [ true ↦ quiet (Pool size (made + 1) []) (answer.Done (int made)) | false ↦ Waits (Pool size made []) Takers value.Unit 0 ])))
      (nat_lt made size)
      (makes q size made)
      (waits_leads off object [] takers adders tt)
  use_leads off object (x ∷ xs) takers adders are =
      let e : Ends (x ∷ xs) = ends x xs in
      subst
      (λ (l : List ℕ). AreIdle made l → StepLeads (call.Use object) l (otherwise (row_of size made l takers adders) who off (use_last size made l (last_or None l))))
      (sym e.are)
      (λ idle. rw (last_or-push None e.front e.last, all_but_last e.front e.last) (takes q size made e.front e.last idle))
      are

  given_leads : (off : Bool) (object resource : ℕ) (idle : List ℕ) (takers adders : List Queued) → AreIdle made idle → is_out made idle resource ≡ true
      → StepLeads (call.Put object resource) idle (stepped (row_of size made idle takers adders) who off
      (Looks Takers anybody (λ waiter. record { values = Pool size made idle; answer = done; outcome = outcome.Ok (int resource) }) (quiet (Pool size made (idle ++ resource ∷ [])) done)))
  given_leads off object resource idle [] adders are out = puts q size made idle resource are out
  given_leads off object resource idle (taker ∷ takers) adders are out = hands_on q size made idle resource are out

  put_go : (off : Bool) (object resource : ℕ) (idle : List ℕ) (takers adders : List Queued) → AreIdle made idle → (b : Bool) → is_out made idle resource ≡ b
      → StepLeads (call.Put object resource) idle (stepped (row_of size made idle takers adders) who off (elim b [
        | true ↦ Looks Takers anybody (λ waiter. record { values = Pool size made idle; answer = done; outcome = outcome.Ok (int resource) }) (quiet (Pool size made (idle ++ resource ∷ [])) done)
        | false ↦ Ignores (quiet (Pool size made idle) answer.Nothing)
      ]))
  put_go off object resource idle takers adders are true out = given_leads off object resource idle takers adders are out
  put_go off object resource idle takers adders are false out = stays q size made idle are

  call_leads : (off : Bool) (call : Call) (idle : List ℕ) (takers adders : List Queued) → AreIdle made idle → CallLeads off call idle takers adders
  call_leads off (call.Use object) idle takers adders are = use_leads off object idle takers adders are
  call_leads off (call.Put object resource) idle takers adders are = put_go off object resource idle takers adders are (is_out made idle resource) refl
  call_leads off other idle takers adders are = stays q size made idle are

row_leads : (row : Row) (who : Waiter) (off : Bool) (serial : ℕ) (call : Call) (q size made : ℕ) (idle : List ℕ) → row.values ≡ Pool size made idle → AreIdle made idle
    → Leads q made idle (called row who off serial call).row.values (turns_of call (called row who off serial call))
row_leads row who off serial call q size made idle is are =
    let seen : row_of size made idle row.takers row.adders ≡ row = λ i. record { values = sym is i; takers = row.takers; adders = row.adders } in
    subst (λ (r : Row). Leads q made idle (called r who off serial call).row.values (turns_of call (called r who off serial call))) seen (call_leads who serial q size made off call idle row.takers row.adders are)

moves_lead : (row : Row) (moves : List Move) (q size made : ℕ) (idle : List ℕ) → row.values ≡ Pool size made idle → AreIdle made idle
    → AreInTurn q (is_out made idle q) (used row moves).turns × HasIdle (used row moves).row.values
moves_lead row [] q size made idle is are = (tt, subst HasIdle (sym is) are)
moves_lead row (Strikes who ∷ moves) q size made idle is are = moves_lead (struck row who) moves q size made idle is are
moves_lead row (Calls who off serial call ∷ moves) q size made idle is are =
    let step : Stepped = called row who off serial call in
    let leads : Leads q made idle step.row.values (turns_of call step) = row_leads row who off serial call q size made idle is are in
    let rest = moves_lead step.row moves q leads.size leads.now_made leads.now_idle leads.becomes leads.are_idle in
    (in_turn-append q (is_out made idle q) (turns_of call step) (used step.row moves).turns leads.in_turn (subst (λ (b : Bool). AreInTurn q b (used step.row moves).turns) (sym leads.out) rest.0), rest.1)

pub used_in_turn : UsedInTurn
used_in_turn size moves resource =
    let none : is_out 0 [] resource ≡ false = grind (arith, common_steps) in
    subst (λ (b : Bool). AreInTurn resource b (used (pool size) moves).turns) none (moves_lead (pool size) moves resource size 0 [] refl tt).0

pub idle_stand_once : IdleStandOnce
idle_stand_once size moves = (moves_lead (pool size) moves 0 size 0 [] refl tt).1
