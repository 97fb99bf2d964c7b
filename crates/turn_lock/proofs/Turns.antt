-- Each step of a pass that enters or leaves keeps the rule.
use Rattle.std.proofs.Common.{◌≡◌, ◌≢◌, ℕ, ◌+◌, ◌%◌, ◌^◌, ◌<◌, ◌≤◌, ◌⊎◌, Bool, true, false, zero, suc, List, [], ◌∷◌, ◌++◌, length, set, get_or, refl, sym, ap, ◌∙◌, subst, inl, inr, ⊎_elim, arith, length-set, length-append, get_or-set_same, get_or-set_other, Some, None}
use Rattle.std.proofs.lemmas.List.{append-nil}
use Rattle.std.proofs.Math.Nat.{mod-eq_of_lt}
use Rattle.std.specs.Prelude.{slice_index}
use Rattle.std.specs.Prelude.{Option as Maybe}
use mathlib.Core.Option.{Option, none, some, some-injective}
use mathlib.Core.Logic.{dite}
use native.Mathlib.Decide.{ℕ_discrete, dec_le}
use lib.ListN.{get_elem?}
use Rattle.atomic_table.specs.Table.{State, Me, step, gives, keeps, takes, stepped, Allows}
use Rattle.atomic_table.proofs.Lists.{set_else, set_here, set_again}
use Rattle.turn_lock.specs.declared.view.View.{View}
use Rattle.turn_lock.specs.Numbers.{total, weight}
use Rattle.turn_lock.specs.Rule.{waiting, Fits, IsPlaced, KeptTurns}
use Rattle.turn_lock.specs.Steps.{Draws, Looks, Leaves, given_on}
use Rattle.turn_lock.specs.Passes.{Adds}
use Rattle.turn_lock.proofs.Views.{at_below, not_both, is_false, each_set, total_set, total_less, waits_one, waits_none, longer}
use Rattle.turn_lock.proofs.Numbering.{keeps_numbers, adds_numbers}

-- one of the two words changes
word_set : (words : List ℕ) (i n : ℕ) → i < length words → slice_index (set words i n) i ≡ n
word_set words i n lt = get_or-set_same words i n 0 lt

word_other : (words : List ℕ) (i j n : ℕ) → j ≢ i → slice_index (set words i n) j ≡ slice_index words j
word_other words i j n ne = get_or-set_other words i j n 0 ne

set_same : (l : List ℕ) (i : ℕ) → set l i (get_or l i 0) ≡ l
set_same [] i = refl
set_same (x ∷ xs) zero = refl
set_same (x ∷ xs) (suc i) = ap (λ (ys : List ℕ). x ∷ ys) (set_same xs i)

module _ {E S : Type 0} (stands : S → List (ℕ × E) → Type 0) where
  -- who waits is at work, so no more tickets are out than there are passes
  tickets_few : (passes : ℕ) (s : State (Maybe S) (View E)) → KeptTurns stands passes s → total waiting s.views ≤ passes
  tickets_few passes s k = let all = k.numbered.all in
      let less = total_less waiting weight s.views (λ by v at. one v v.waits refl (λ w. ((k.fits by v at).ticket w).0)) in omega arith
    where
      one : (v : View E) (b : Bool) → v.waits ≡ b → (v.waits ≡ true → v.live ≡ true) → waiting v ≤ weight v
      one v true e live = let l = live e in rw (e, l) (omega arith)
      one v false e live = rw e (omega arith)

  -- who holds the slot is the pass id, where that pass holds the turn
  holder_is : (homes : List (Option (Maybe S))) (views : List (View E)) (log : List (ℕ × E)) (id : ℕ) (v : View E) → IsPlaced stands log homes views → get_elem? views id ≡ some v → v.holds ≡ true
      → (homes ≡ none ∷ []) × ((by : ℕ) (w : View E) → get_elem? views by ≡ some w → w.holds ≡ true → by ≡ id)
  holder_is homes views log id v p at h = ⊎_elim
      (λ home. not_both v.holds h (home.3 id v at))
      (λ out. (out.2, λ by w at' h'. out.5 by w at' h' ∙ sym (out.5 id v at h)))
      p

  leaves : (passes slots id : ℕ) (v : View E) (x : S) (e : E) → v.holds ≡ true → stands x (v.seen ++ (v.number, e) ∷ [])
      → Allows (KeptTurns stands passes) slots id (v, (0, Some x) ∷ []) 16 (λ n. (n + 1) % 2 ^ 64) (Leaves (Some e) (step slots 16 1 0 none) (v, (0, Some x) ∷ []))
  leaves passes slots id v x e h ok s k _ at _ =
      let was = k.fits id v at in
      let mine = was.holds h in
      let live = (was.ticket mine.0).0 in
      let n : ℕ = slice_index s.words 16 in
      let w : View E = given_on v (Some e) in
      let log' : List (ℕ × E) = k.log ++ (v.number, e) ∷ [] in
      let who = holder_is s.homes s.views k.log id v k.placed at h in
      let served = k.served in
      let small : n < 2 ^ 62 = let a = mine.3 in omega arith in
      let next : (n + 1) % 2 ^ 64 ≡ n + 1 = mod-eq_of_lt (omega arith) in
      let long : length log' ≡ length k.log + 1 = length-append k.log ((v.number, e) ∷ []) in
      let words = k.words in
      let word0 : slice_index (set s.words 16 ((n + 1) % 2 ^ 64)) 0 ≡ slice_index s.words 0 = word_other s.words 16 0 ((n + 1) % 2 ^ 64) (λ z. absurd (omega arith)) in
      let word1 : slice_index (set s.words 16 ((n + 1) % 2 ^ 64)) 16 ≡ length log' = word_set s.words 16 ((n + 1) % 2 ^ 64) (omega arith) ∙ next ∙ omega arith in (
        w,
        gives,
        tt,
        record {
          log = log';
          words = length-set s.words 16 ((n + 1) % 2 ^ 64) ∙ k.words;
          served = word1;
          few = omega arith;
          room = k.room;
          next = word0 ∙ (let q = k.next in let t = total_set waiting s.views id v w at in let a = waits_one v mine.0 in let b = waits_none w refl in omega arith);
          placed = inl (
            x,
            ap (λ (hs : List (Option (Maybe S))). set hs 0 (some (Some x))) who.0,
            subst (stands x) (ap (λ (l : List (ℕ × E)). l ++ (v.number, e) ∷ []) mine.2) ok,
            each_set (λ by u. u.holds ≡ false) s.views id w refl (λ by u ne at'. is_false u.holds (λ held. ne (who.1 by u at' held))),
          );
          fits = each_set (λ by u. Fits log' (slice_index (set s.words 16 ((n + 1) % 2 ^ 64)) 0) u) s.views id w
              (record {
                seen = ([], ap (λ (l : List (ℕ × E)). l ++ (v.number, e) ∷ []) (sym mine.2) ∙ sym (append-nil (v.seen ++ (v.number, e) ∷ [])));
                ticket = λ bad. not_both false bad refl;
                holds = λ bad. not_both false bad refl;
              })
              (λ by u ne at'. let its = k.fits by u at' in record {
                seen = longer k.log u.seen v.number e its.seen;
                ticket = λ waits. let r = its.ticket waits in (
                  r.0,
                  dite (ℕ_discrete u.ticket (length k.log)) (λ z. absurd (ne (k.apart by id u v at' at waits mine.0 (z ∙ sym mine.1)))) (λ z. let r1 = r.1 in omega arith),
                  subst (λ (m : ℕ). u.ticket < m) (sym word0) r.2,
                );
                holds = λ held. absurd (ne (who.1 by u at' held));
              });
          apart = λ i j a b at_i at_j wa wb eq. let P : ℕ → View E → Type 0 = λ by u. (u.waits ≡ true → (by ≢ id) × (get_elem? s.views by ≡ some u)) in
              let split = each_set P s.views id w (λ bad. not_both false bad refl) (λ by u ne at' _. (ne, at')) in
              k.apart i j a b (split i a at_i wa).1 (split j b at_j wb).1 wa wb eq;
          numbered = adds_numbers s.views id v w at refl k.log passes e live refl k.numbered;
        },
        (refl, refl),
      )

  -- the turn is given on with the entry that is named
  pub leaves_named : (passes slots id : ℕ) (me : Me (Maybe S) (View E)) (v : View E) (x : S) (n : Maybe E) → me ≡ (v, (0, Some x) ∷ []) → v.holds ≡ true → Adds stands v.number v.seen x n
      → Allows (KeptTurns stands passes) slots id me 16 (λ k. (k + 1) % 2 ^ 64) (Leaves n (step slots 16 1 0 none) me)
  leaves_named passes slots id me v x None is h ok = absurd ok
  leaves_named passes slots id me v x (Some e) is h ok = subst (λ (m : Me (Maybe S) (View E)). Allows (KeptTurns stands passes) slots id m 16 (λ k. (k + 1) % 2 ^ 64) (Leaves (Some e) (step slots 16 1 0 none) m)) (sym is)
      (leaves passes slots id v x e h ok)

  -- a ticket is drawn
  pub draws : (passes slots id : ℕ) (me : Me (Maybe S) (View E)) → me.0.live ≡ true → me.0.waits ≡ false → me.0.holds ≡ false
      → Allows (KeptTurns stands passes) slots id me 0 (λ k. (k + 1) % 2 ^ 64) (Draws (step slots 0 1 0 none) me)
  draws passes slots id me live free none_held s k _ at _ =
      let v : View E = me.0 in
      let was = k.fits id v at in
      let n : ℕ = slice_index s.words 0 in
      let w : View E = record v { waits = true; ticket = n } in
      let few = k.few in let many = tickets_few passes s k in let room = k.room in let is = k.next in
      let next : (n + 1) % 2 ^ 64 ≡ n + 1 = mod-eq_of_lt (omega arith) in
      let words = k.words in
      let word0 : slice_index (set s.words 0 ((n + 1) % 2 ^ 64)) 0 ≡ n + 1 = word_set s.words 0 ((n + 1) % 2 ^ 64) (omega arith) ∙ next in
      let word1 : slice_index (set s.words 0 ((n + 1) % 2 ^ 64)) 16 ≡ slice_index s.words 16 = word_other s.words 0 16 ((n + 1) % 2 ^ 64) (λ z. absurd (omega arith)) in (
        w,
        keeps,
        tt,
        record {
          log = k.log;
          words = length-set s.words 0 ((n + 1) % 2 ^ 64) ∙ k.words;
          served = word1 ∙ k.served;
          few = k.few;
          room = k.room;
          next = word0 ∙ (let t = total_set waiting s.views id v w at in let a = waits_none v free in let b = waits_one w refl in omega arith);
          placed = ⊎_elim
              (λ home. inl (home.0, home.1, home.2, each_set (λ by u. u.holds ≡ false) s.views id w none_held (λ by u ne at'. home.3 by u at')))
              (λ out. inr (
                out.0,
                out.1,
                out.2,
                set_else s.views id out.0 w (λ (e : out.0 ≡ id). not_both v.holds (subst (λ (u : View E). u.holds ≡ true) (some-injective out.1 v (sym out.3 ∙ ap (λ (i : ℕ). get_elem? s.views i) e ∙ at)) out.4) none_held) ∙ out.3,
                out.4,
                each_set (λ by u. u.holds ≡ true → by ≡ out.0) s.views id w (λ bad. not_both v.holds bad none_held) (λ by u ne at'. out.5 by u at'),
              ))
              k.placed;
          fits = each_set (λ by u. Fits k.log (slice_index (set s.words 0 ((n + 1) % 2 ^ 64)) 0) u) s.views id w
              (record {
                seen = was.seen;
                ticket = λ _. (live, omega arith, omega arith);
                holds = λ bad. not_both me.0.holds bad none_held;
              })
              (λ by u ne at'. let its = k.fits by u at' in record {
                seen = its.seen;
                ticket = λ waits. let r = its.ticket waits in (r.0, r.1, let r2 = r.2 in omega arith);
                holds = its.holds;
              });
          -- another's ticket is below the one that is drawn
          apart = λ i j a b at_i at_j wa wb eq. let P : ℕ → View E → Type 0 = λ by u. ((by ≡ id) × (u.ticket ≡ n)) ⊎ ((by ≢ id) × (get_elem? s.views by ≡ some u)) in
              let split = each_set P s.views id w (inl (refl, refl)) (λ by u ne at'. inr (ne, at')) in
              ⊎_elim
              (λ (p : (i ≡ id) × (a.ticket ≡ n)). ⊎_elim
              (λ (q : (j ≡ id) × (b.ticket ≡ n)). p.0 ∙ sym q.0)
              (λ (q : (j ≢ id) × (get_elem? s.views j ≡ some b)). let r = ((k.fits j b q.1).ticket wb).2 in let c = p.1 in absurd (omega arith))
              (split j b at_j))
              (λ (p : (i ≢ id) × (get_elem? s.views i ≡ some a)). ⊎_elim
              (λ (q : (j ≡ id) × (b.ticket ≡ n)). let r = ((k.fits i a p.1).ticket wa).2 in let c = q.1 in absurd (omega arith))
              (λ (q : (j ≢ id) × (get_elem? s.views j ≡ some b)). k.apart i j a b p.1 q.1 wa wb eq)
              (split j b at_j))
              (split i a at_i);
          numbered = keeps_numbers s.views id v w at refl k.log passes refl k.numbered;
        },
        (refl, refl),
      )

  -- a look that changes nothing
  unchanged : (passes id i : ℕ) (me : Me (Maybe S) (View E)) (s : State (Maybe S) (View E)) → KeptTurns stands passes s → get_elem? s.views id ≡ some me.0
      → KeptTurns stands passes (stepped s i (slice_index s.words i) id me.1 me.0 keeps)
  unchanged passes id i me s k at = subst (λ (z : List ℕ × List (View E)). KeptTurns stands passes (record { words = z.0; homes = s.homes; views = z.1 }))
      (λ j. (sym (set_same s.words i) j, sym (set_again s.views id me.0 at) j)) k

  -- the pass is served, and takes the slot
  takes_slot : (passes id : ℕ) (me : Me (Maybe S) (View E)) (s : State (Maybe S) (View E)) (k : KeptTurns stands passes s) → get_elem? s.views id ≡ some me.0
      → me.0.waits ≡ true → slice_index s.words 16 ≡ me.0.ticket → slice_index s.words 16 < 2 ^ 62
      → (x : S) → s.homes ≡ some (Some x) ∷ [] → ((by : ℕ) (v : View E) → get_elem? s.views by ≡ some v → v.holds ≡ false)
      → KeptTurns stands passes (stepped s 16 (slice_index s.words 16) id me.1 (record me.0 { holds = true; seen = k.log }) (takes 0 (Some x)))
  takes_slot passes id me s k at waits is small x home none_holds =
      let v : View E = me.0 in
      let was = k.fits id v at in
      let w : View E = record v { holds = true; seen = k.log } in
      let n : ℕ = slice_index s.words 16 in
      let words' = set_same s.words 16 in
      let word0 : slice_index (set s.words 16 n) 0 ≡ slice_index s.words 0 = ap (λ (ws : List ℕ). slice_index ws 0) words' in
      let served = k.served in
      let short = at_below s.views id v at in record {
        log = k.log;
        words = ap length words' ∙ k.words;
        served = ap (λ (ws : List ℕ). slice_index ws 16) words' ∙ k.served;
        few = k.few;
        room = k.room;
        next = word0 ∙ (let q = k.next in let t = total_set waiting s.views id v w at in let a = waits_one v waits in let b = waits_one w waits in omega arith);
        placed = inr (
          id,
          w,
          ap (λ (hs : List (Option (Maybe S))). set hs 0 none) home,
          set_here s.views id w short,
          refl,
          each_set (λ by u. u.holds ≡ true → by ≡ id) s.views id w (λ _. refl) (λ by u ne at' held. not_both u.holds held (none_holds by u at')),
        );
        fits = each_set (λ by u. Fits k.log (slice_index (set s.words 16 n) 0) u) s.views id w
            (record {
              seen = ([], sym (append-nil k.log));
              ticket = λ _. let r = was.ticket waits in (r.0, r.1, subst (λ (m : ℕ). v.ticket < m) (sym word0) r.2);
              holds = λ _. (waits, sym is ∙ k.served, refl, omega arith);
            })
            (λ by u ne at'. let its = k.fits by u at' in record {
              seen = its.seen;
              ticket = λ ws. let r = its.ticket ws in (r.0, r.1, subst (λ (m : ℕ). u.ticket < m) (sym word0) r.2);
              holds = its.holds;
            });
        apart = λ i j a b at_i at_j wa wb eq. let P : ℕ → View E → Type 0 = λ by u. (o : View E) × (get_elem? s.views by ≡ some o) × (o.waits ≡ u.waits) × (o.ticket ≡ u.ticket) in
            let old = each_set P s.views id w (v, at, refl, refl) (λ by u ne at'. (u, at', refl, refl)) in
            let p = old i a at_i in let q = old j b at_j in
            k.apart i j p.0 q.0 p.1 q.1 (p.2 ∙ wa) (q.2 ∙ wb) (p.3 ∙ eq ∙ sym q.3);
        numbered = keeps_numbers s.views id v w at refl k.log passes refl k.numbered;
      }

  -- a pass that waits looks whether it is served
  pub looks : (passes slots id : ℕ) (me : Me (Maybe S) (View E)) → me.0.waits ≡ true → me.0.holds ≡ false
      → Allows (KeptTurns stands passes) slots id me 16 (λ n. n) (Looks stands (step slots 16 0 0 none) me)
  looks passes slots id me waits free s k _ at _ =
      let n : ℕ = slice_index s.words 16 in
      dite (ℕ_discrete n me.0.ticket)
      (λ is. dite (dec_le (suc n) (2 ^ 62))
      (λ small. ⊎_elim
      (λ home. (
        record me.0 { holds = true; seen = k.log },
        takes 0 (Some home.0),
        ap (λ (hs : List (Option (Maybe S))). get_elem? hs 0) home.1,
        takes_slot passes id me s k at waits is small home.0 home.1 home.3,
        (λ _. (home.0, k.log, refl, refl, home.2, (k.fits id me.0 at).seen, subst (λ (m : ℕ). m < 2 ^ 62) k.served small, (k.numbered.counts id me.0 at ((k.fits id me.0 at).ticket waits).0).mine), λ no. absurd (no (is, small))),
      ))
      (λ out. let h = (k.fits out.0 out.1 out.3).holds out.4 in
      let one : out.0 ≡ id = k.apart out.0 id out.1 me.0 out.3 at h.0 waits (h.1 ∙ sym k.served ∙ is) in
      let same : out.1 ≡ me.0 = some-injective out.1 me.0 (sym out.3 ∙ ap (λ (i : ℕ). get_elem? s.views i) one ∙ at) in
      not_both out.1.holds out.4 (ap (λ (y : View E). y.holds) same ∙ free))
      k.placed)
      (λ large. (me.0, keeps, tt, unchanged passes id 16 me s k at, (λ yes. absurd (large yes.1), λ _. refl))))
      (λ other. (me.0, keeps, tt, unchanged passes id 16 me s k at, (λ yes. absurd (other yes.0), λ _. refl)))
