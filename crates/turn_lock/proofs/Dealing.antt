-- A turn opens, passes are dealt, and one takes others in.
use Rattle.std.proofs.Common.{◌≡◌, ◌≢◌, ℕ, ◌+◌, ◌^◌, ◌<◌, ◌≤◌, ◌⊎◌, true, false, zero, suc, List, [], ◌∷◌, ◌++◌, length, set, refl, sym, ap, ◌∙◌, subst, inl, inr, ⊎_elim, arith, length-append, Some}
use Rattle.std.specs.Prelude.{slice_index}
use mathlib.Core.Option.{some, some-injective, some-ne-none}
use mathlib.Core.Logic.{dite}
use native.Mathlib.Decide.{ℕ_discrete, dec_le}
use lib.ListN.{get_elem?}
use Rattle.atomic_table.specs.Table.{opening, Splits, Joins}
use Rattle.atomic_table.proofs.Lists.{set_here, set_else, at_longer, at_last}
use Rattle.turn_lock.specs.declared.view.View.{View}
use Rattle.turn_lock.specs.declared.view.Ended.{Ended}
use Rattle.turn_lock.specs.History.{StartsWith}
use Rattle.turn_lock.specs.Numbers.{weight, Owns, Has, IsEnded, Counts, Numbered}
use Rattle.turn_lock.specs.Rule.{waiting, first_view, Fits, KeptTurns}
use Rattle.turn_lock.specs.Steps.{dealer, dealt, taking_in, spent}
use Rattle.turn_lock.proofs.Views.{at_below, at_end, not_both, each_set, each_end, total_set, total_end, weighs, waits_none}

module _ {E : Type 0} where
  only_one : (P : ℕ → View E → Type 0) (v : View E) → P 0 v → (by : ℕ) (u : View E) → get_elem? (v ∷ []) by ≡ some u → P by u
  only_one P v p zero u at = subst (P 0) (some-injective v u at) p
  only_one P v p (suc by) u at = absurd (some-ne-none u (sym at))

  -- the next pass is dealt: its number was one of the dealer's
  module _ (log : List (ℕ × E)) (views : List (View E)) (id : ℕ) (v : View E) (at : get_elem? views id ≡ some v) (live : v.live ≡ true) (some_left : 0 < v.ahead) where
    abbrev pub after_deal : List (View E)
    after_deal = set views id (dealer v) ++ dealt v ∷ []

    pub each_dealt : (P : ℕ → View E → Type 0) → P id (dealer v) → P (length (set views id (dealer v))) (dealt v) → ((by : ℕ) (u : View E) → by ≢ id → get_elem? views by ≡ some u → P by u)
        → (by : ℕ) (u : View E) → get_elem? after_deal by ≡ some u → P by u
    each_dealt P left right others = each_end P (set views id (dealer v)) (dealt v) (each_set P views id (dealer v) left others) right

    -- who owned a number before, and which of the two new ones owns it where that was the dealer
    abbrev pub Owned : ℕ → View E → Type 0
    Owned by u =
        (n : ℕ) → Owns u n → (old : ℕ) × (o : View E) × (get_elem? views old ≡ some o) × Owns o n
        × (((by ≡ old) × (old ≡ id → n ≤ v.number)) ⊎ ((by ≡ length (set views id (dealer v))) × (old ≡ id) × (v.number < n)))

    owned : (by : ℕ) (u : View E) → get_elem? after_deal by ≡ some u → Owned by u
    owned = each_dealt Owned
        (λ n o. let a = o.1 in let b = o.2 in (id, v, at, (live, o.1, omega arith), inl (refl, λ _. omega arith)))
        (λ n o. let a = o.1 in let b = o.2 in (id, v, at, (live, omega arith, omega arith), inr (refl, refl, omega arith)))
        (λ by u ne at' n o. (by, u, at', o, inl (refl, λ e. absurd (ne e))))

    gone_dealt : (x : Ended E) → IsEnded log views x → IsEnded log after_deal x
    gone_dealt x d = record { mine = d.mine; seen = d.seen; gone = λ by u at' o. let w = owned by u at' x.number o in d.gone w.0 w.1 w.2 w.3 }

    apart_dealt : ((i j n : ℕ) (a b : View E) → get_elem? views i ≡ some a → get_elem? views j ≡ some b → Owns a n → Owns b n → i ≡ j)
        → (i j n : ℕ) (a b : View E) → get_elem? after_deal i ≡ some a → get_elem? after_deal j ≡ some b → Owns a n → Owns b n → i ≡ j
    apart_dealt apart i j n a b at_i at_j oa ob =
        let p = owned i a at_i n oa in let q = owned j b at_j n ob in
        let one : p.0 ≡ q.0 = apart p.0 q.0 n p.1 q.1 p.2 q.2 p.3 q.3 in
        ⊎_elim
        (λ (s : (i ≡ p.0) × (p.0 ≡ id → n ≤ v.number)). ⊎_elim
        (λ (t : (j ≡ q.0) × (q.0 ≡ id → n ≤ v.number)). s.0 ∙ one ∙ sym t.0)
        (λ (t : (j ≡ length (set views id (dealer v))) × (q.0 ≡ id) × (v.number < n)). let le = s.1 (one ∙ t.1) in let lt = t.2 in absurd (omega arith))
        q.4)
        (λ (s : (i ≡ length (set views id (dealer v))) × (p.0 ≡ id) × (v.number < n)). ⊎_elim
        (λ (t : (j ≡ q.0) × (q.0 ≡ id → n ≤ v.number)). let le = t.1 (sym one ∙ s.1) in let lt = s.2 in absurd (omega arith))
        (λ (t : (j ≡ length (set views id (dealer v))) × (q.0 ≡ id) × (v.number < n)). s.0 ∙ sym t.0)
        q.4)
        p.4

    at_left : get_elem? after_deal id ≡ some (dealer v)
    at_left = at_longer (set views id (dealer v)) (dealt v ∷ []) id (dealer v) (set_here views id (dealer v) (at_below views id v at))

    at_right : get_elem? after_deal (length (set views id (dealer v))) ≡ some (dealt v)
    at_right = at_last (set views id (dealer v)) (dealt v) (length (set views id (dealer v))) refl

    at_others : (by : ℕ) (u : View E) → by ≢ id → get_elem? views by ≡ some u → get_elem? after_deal by ≡ some u
    at_others by u ne at' = at_longer (set views id (dealer v)) (dealt v ∷ []) by u (set_else views id by (dealer v) ne ∙ at')

    -- a number that nobody has afterwards nobody had before
    nobody_dealt : (n : ℕ) → ((by : ℕ) (u : View E) → get_elem? after_deal by ≡ some u → Has u n → ⊥) → (by : ℕ) (u : View E) → get_elem? views by ≡ some u → Has u n → ⊥
    nobody_dealt n unheld by u at' h = dite (ℕ_discrete by id)
        (λ e. let is : u ≡ v = some-injective u v (sym at' ∙ ap (λ (i : ℕ). get_elem? views i) e ∙ at) in ⊎_elim
        (λ o. let a = o.1 in let b = o.2 in dite (dec_le n v.number)
        (λ le. unheld id (dealer v) at_left (inl (live, a, omega arith)))
        (λ more. unheld (length (set views id (dealer v))) (dealt v) at_right (inl (refl, omega arith, omega arith))))
        (λ x. unheld id (dealer v) at_left (inr x))
        (subst (λ (z : View E). Has z n) is h))
        (λ ne. unheld by u (at_others by u ne at') h)

    pub deals_numbers : (passes : ℕ) → Numbered log views passes → Numbered log after_deal passes
    deals_numbers passes k = let c = k.counts id v at live in record {
      all = (let t = total_set weight views id v (dealer v) at in let e = total_end weight (set views id (dealer v)) (dealt v) in
          let a = weighs v live in let b = weighs (dealer v) live in let d = weighs (dealt v) refl in let all = k.all in omega arith);
      apart = apart_dealt k.apart;
      counts = each_dealt (λ by u. u.live ≡ true → Counts log after_deal u)
          (λ _. record { mine = c.mine; later = λ n lt le. absurd (omega arith); ended = λ i x e. gone_dealt x (c.ended i x e) })
          (λ _. record {
            mine = c.later (v.number + 1) (omega arith) (omega arith);
            later = λ n lt le. c.later n (omega arith) (omega arith);
            ended = λ i x e. absurd (some-ne-none x (sym e));
          })
          (λ by u ne at' its. let d = k.counts by u at' its in record { mine = d.mine; later = d.later; ended = λ i x e. gone_dealt x (d.ended i x e) });
      nobody = λ n unheld. k.nobody n (nobody_dealt n unheld);
    }

  -- a pass takes in another that has ended: the number is nobody's any more
  module _ (log : List (ℕ × E)) (views : List (View E)) (id other : ℕ) (v w : View E) (at : get_elem? views id ≡ some v) (at_other : get_elem? views other ≡ some w) (ne : other ≢ id)
      (live : v.live ≡ true) (other_live : w.live ≡ true) (no_more : w.ahead ≡ 0) (took_none : w.ended ≡ []) where
    abbrev pub after_join : List (View E)
    after_join = set (set views id (taking_in v w)) other spent

    abbrev pub new_one : Ended E
    new_one = record { number = w.number; seen = w.seen; mine = w.mine }

    pub each_joined : (P : ℕ → View E → Type 0) → P id (taking_in v w) → P other spent → ((by : ℕ) (u : View E) → by ≢ id → by ≢ other → get_elem? views by ≡ some u → P by u)
        → (by : ℕ) (u : View E) → get_elem? after_join by ≡ some u → P by u
    each_joined P both gone others = each_set P (set views id (taking_in v w)) other spent gone
        (λ by u away at'. each_set (λ by u. by ≢ other → P by u) views id (taking_in v w) (λ _. both) (λ by u ne' old away'. others by u ne' away' old) by u at' away)

    back : (by : ℕ) (u : View E) → get_elem? after_join by ≡ some u → (n : ℕ) → Owns u n → (by ≢ other) × ((o : View E) × (get_elem? views by ≡ some o) × Owns o n)
    back = each_joined (λ by u. (n : ℕ) → Owns u n → (by ≢ other) × ((o : View E) × (get_elem? views by ≡ some o) × Owns o n))
        (λ n o. ((λ e. ne (sym e)), (v, at, o)))
        (λ n o. not_both false o.0 refl)
        (λ by u ne' away at' n o. (away, (u, at', o)))

    gone_joined : (x : Ended E) → IsEnded log views x → IsEnded log after_join x
    gone_joined x d = record { mine = d.mine; seen = d.seen; gone = λ by u at' o. let b = (back by u at' x.number o).1 in d.gone by b.0 b.1 b.2 }

    at_both : get_elem? after_join id ≡ some (taking_in v w)
    at_both = set_else (set views id (taking_in v w)) other id spent (λ e. ne (sym e)) ∙ set_here views id (taking_in v w) (at_below views id v at)

    at_others_joined : (by : ℕ) (u : View E) → by ≢ id → by ≢ other → get_elem? views by ≡ some u → get_elem? after_join by ≡ some u
    at_others_joined by u ne' away at' = set_else (set views id (taking_in v w)) other by spent away ∙ set_else views id by (taking_in v w) ne' ∙ at'

    nobody_joined : (n : ℕ) → ((by : ℕ) (u : View E) → get_elem? after_join by ≡ some u → Has u n → ⊥) → (by : ℕ) (u : View E) → get_elem? views by ≡ some u → Has u n → ⊥
    nobody_joined n unheld by u at' h = dite (ℕ_discrete by id)
        (λ e. let is : u ≡ v = some-injective u v (sym at' ∙ ap (λ (i : ℕ). get_elem? views i) e ∙ at) in ⊎_elim
        (λ o. unheld id (taking_in v w) at_both (inl o))
        (λ x. unheld id (taking_in v w) at_both (inr (x.0, (x.1.0, x.1.1, at_longer v.ended (new_one ∷ []) x.1.0 x.1.1 x.1.2, x.1.3))))
        (subst (λ (z : View E). Has z n) is h))
        (λ ne'. dite (ℕ_discrete by other)
        (λ e. let is : u ≡ w = some-injective u w (sym at' ∙ ap (λ (i : ℕ). get_elem? views i) e ∙ at_other) in ⊎_elim
        (λ o. let a = o.1 in let b = o.2 in let same : w.number ≡ n = omega arith in
        unheld id (taking_in v w) at_both (inr (live, (length v.ended, new_one, at_last v.ended new_one (length v.ended) refl, same))))
        (λ x. absurd (some-ne-none x.1.1 (sym x.1.2 ∙ ap (λ (l : List (Ended E)). get_elem? l x.1.0) took_none)))
        (subst (λ (z : View E). Has z n) is h))
        (λ away. unheld by u (at_others_joined by u ne' away at') h))

    pub joins_numbers : (passes : ℕ) → StartsWith log w.seen → Numbered log views passes → Numbered log after_join passes
    joins_numbers passes seen k = let c = k.counts id v at live in let own = k.counts other w at_other other_live in
        let own_number : Owns w w.number = (other_live, omega arith, omega arith) in record {
          all = (let t = total_set weight views id v (taking_in v w) at in
              let e = total_set weight (set views id (taking_in v w)) other w spent (set_else views id other (taking_in v w) ne ∙ at_other) in
              let a = weighs v live in let b = weighs (taking_in v w) live in let d = weighs w other_live in
              let l = length-append v.ended (new_one ∷ []) in let none_in = ap (λ (l : List (Ended E)). length l) took_none in let all = k.all in omega arith);
          apart = λ i j n a b at_i at_j oa ob. let p = (back i a at_i n oa).1 in let q = (back j b at_j n ob).1 in k.apart i j n p.0 q.0 p.1 q.1 p.2 q.2;
          counts = each_joined (λ by u. u.live ≡ true → Counts log after_join u)
              (λ _. record {
                mine = c.mine;
                later = c.later;
                ended = λ i x e. ⊎_elim (λ old. gone_joined x (c.ended i x old))
                    (λ (t : (i ≡ length v.ended) × (new_one ≡ x)). subst (IsEnded log after_join) t.1 (record {
                      mine = own.mine;
                      seen = seen;
                      gone = λ by u at' o. let b = back by u at' w.number o in b.0 (k.apart by other w.number b.1.0 w b.1.1 at_other b.1.2 own_number);
                    }))
                    (at_end v.ended new_one x i e);
              })
              (λ bad. not_both false bad refl)
              (λ by u ne' away at' its. let d = k.counts by u at' its in record { mine = d.mine; later = d.later; ended = λ i x e. gone_joined x (d.ended i x e) });
          nobody = λ n unheld. k.nobody n (nobody_joined n unheld);
        }

  module _ {S : Type 0} (stands : S → List (ℕ × E) → Type 0) where
    pub opens : (passes : ℕ) (words : List ℕ) (x : S) → 0 < passes → passes ≤ 2 ^ 61 → length words ≡ 17 → slice_index words 0 ≡ 0 → slice_index words 16 ≡ 0 → stands x []
        → KeptTurns stands passes (opening words (Some x ∷ []) (first_view passes))
    opens passes words x some_pass room long drawn served ok = let v : View E = first_view passes in record {
      log = [];
      words = long;
      served = served;
      few = omega arith;
      room = room;
      next = drawn;
      placed = inl (x, refl, ok, only_one (λ by u. u.holds ≡ false) v refl);
      fits = only_one (λ by u. Fits [] (slice_index words 0) u) v (record { seen = ([], refl); ticket = λ bad. not_both false bad refl; holds = λ bad. not_both false bad refl });
      apart = λ i j a b at_i at_j wa wb eq. only_one (λ by u. u.waits ≡ true → i ≡ j) v (λ bad. not_both false bad refl) i a at_i wa;
      numbered = record {
        all = omega arith;
        apart = λ i j n a b at_i at_j oa ob. only_one (λ by u. by ≡ 0) v refl i a at_i ∙ sym (only_one (λ by u. by ≡ 0) v refl j b at_j);
        counts = only_one (λ by u. u.live ≡ true → Counts [] (v ∷ []) u) v (λ _. record { mine = refl; later = λ n lt le. refl; ended = λ k x e. absurd (some-ne-none x (sym e)) });
        nobody = λ n unheld. refl;
      };
    }

    pub deals : (passes id : ℕ) (v : View E) → v.live ≡ true → 0 < v.ahead → v.holds ≡ false → Splits (KeptTurns stands passes) id v (dealer v) (dealt v)
    deals passes id v live left free s k at =
        let each = each_dealt k.log s.views id v at live left in record {
          log = k.log;
          words = k.words;
          served = k.served;
          few = k.few;
          room = k.room;
          next = (let t = total_set waiting s.views id v (dealer v) at in let e = total_end waiting (set s.views id (dealer v)) (dealt v) in
              let a : waiting (dealer v) ≡ waiting v = refl in let b : waiting (dealt v) ≡ 0 = refl in let is = k.next in omega arith);
          placed = ⊎_elim
              (λ home. inl (home.0, home.1, home.2, each (λ by u. u.holds ≡ false) free refl (λ by u ne at'. home.3 by u at')))
              (λ out. let away : out.0 ≢ id = (λ e. not_both v.holds (subst (λ (u : View E). u.holds ≡ true) (some-injective out.1 v (sym out.3 ∙ ap (λ (i : ℕ). get_elem? s.views i) e ∙ at)) out.4) free) in inr (
                out.0,
                out.1,
                out.2,
                at_longer (set s.views id (dealer v)) (dealt v ∷ []) out.0 out.1 (set_else s.views id out.0 (dealer v) away ∙ out.3),
                out.4,
                each (λ by u. u.holds ≡ true → by ≡ out.0) (λ bad. not_both v.holds bad free) (λ bad. not_both false bad refl) (λ by u ne at'. out.5 by u at'),
              ))
              k.placed;
          fits = each (λ by u. Fits k.log (slice_index s.words 0) u)
              (let was = k.fits id v at in record { seen = was.seen; ticket = was.ticket; holds = was.holds })
              (record { seen = (k.log, refl); ticket = λ bad. not_both false bad refl; holds = λ bad. not_both false bad refl })
              (λ by u ne at'. k.fits by u at');
          apart = λ i j a b at_i at_j wa wb eq. let P : ℕ → View E → Type 0 = λ by u. u.waits ≡ true → (o : View E) × (get_elem? s.views by ≡ some o) × (o.waits ≡ true) × (o.ticket ≡ u.ticket) in
              let old = each P (λ its. (v, at, its, refl)) (λ bad. not_both false bad refl) (λ by u ne at' its. (u, at', its, refl)) in
              let p = old i a at_i wa in let q = old j b at_j wb in
              k.apart i j p.0 q.0 p.1 q.1 p.2 q.2 (p.3 ∙ eq ∙ sym q.3);
          numbered = deals_numbers k.log s.views id v at live left passes k.numbered;
        }

    pub takes_in : (passes id : ℕ) (v : View E) (other : ℕ) (w : View E) → v.live ≡ true → v.holds ≡ false
        → w.live ≡ true → w.holds ≡ false → w.waits ≡ false → w.ahead ≡ 0 → w.ended ≡ [] → Joins (KeptTurns stands passes) id v other w (taking_in v w) spent
    takes_in passes id v other w live free other_live other_free quiet no_more took_none s k at ne at_w =
        let at_other : get_elem? s.views other ≡ some w = sym (set_else s.views id other (taking_in v w) ne) ∙ at_w in
        let each = each_joined k.log s.views id other v w at at_other ne live other_live no_more took_none in record {
          log = k.log;
          words = k.words;
          served = k.served;
          few = k.few;
          room = k.room;
          next = (let t = total_set waiting s.views id v (taking_in v w) at in let e = total_set waiting (set s.views id (taking_in v w)) other w spent at_w in
              let a : waiting (taking_in v w) ≡ waiting v = refl in let b : waiting (spent {E = E}) ≡ 0 = refl in let c = waits_none w quiet in let is = k.next in omega arith);
          placed = ⊎_elim
              (λ home. inl (home.0, home.1, home.2, each (λ by u. u.holds ≡ false) free refl (λ by u ne' away at'. home.3 by u at')))
              (λ out. let is_not : (a : View E) (i : ℕ) → get_elem? s.views i ≡ some a → a.holds ≡ false → out.0 ≢ i =
              (λ a i at_i f e. not_both a.holds (subst (λ (u : View E). u.holds ≡ true) (some-injective out.1 a (sym out.3 ∙ ap (λ (i : ℕ). get_elem? s.views i) e ∙ at_i)) out.4) f) in inr (
                out.0,
                out.1,
                out.2,
                set_else (set s.views id (taking_in v w)) other out.0 spent (is_not w other at_other other_free) ∙ set_else s.views id out.0 (taking_in v w) (is_not v id at free) ∙ out.3,
                out.4,
                each (λ by u. u.holds ≡ true → by ≡ out.0) (λ bad. not_both v.holds bad free) (λ bad. not_both false bad refl) (λ by u ne' away at'. out.5 by u at'),
              ))
              k.placed;
          fits = each (λ by u. Fits k.log (slice_index s.words 0) u)
              (let was = k.fits id v at in record { seen = was.seen; ticket = was.ticket; holds = was.holds })
              (record { seen = (k.log, refl); ticket = λ bad. not_both false bad refl; holds = λ bad. not_both false bad refl })
              (λ by u ne' away at'. k.fits by u at');
          apart = λ i j a b at_i at_j wa wb eq. let P : ℕ → View E → Type 0 = λ by u. u.waits ≡ true → (o : View E) × (get_elem? s.views by ≡ some o) × (o.waits ≡ true) × (o.ticket ≡ u.ticket) in
              let old = each P (λ its. (v, at, its, refl)) (λ bad. not_both false bad refl) (λ by u ne' away at' its. (u, at', its, refl)) in
              let p = old i a at_i wa in let q = old j b at_j wb in
              k.apart i j p.0 q.0 p.1 q.1 p.2 q.2 (p.3 ∙ eq ∙ sym q.3);
          numbered = joins_numbers k.log s.views id other v w at at_other ne live other_live no_more took_none passes (k.fits other w at_other).seen k.numbered;
        }
