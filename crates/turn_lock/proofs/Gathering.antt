-- Where one pass has taken in all others, nobody else is at work, and what it knows is what all passes knew.
use Rattle.std.proofs.Common.{◌≡◌, ◌≢◌, ℕ, true, false, zero, suc, List, [], ◌∷◌, ◌++◌, length, refl, sym, ap, ◌∙◌, subst, ⊎_elim, arith, length-append, Some}
use Rattle.std.specs.Prelude.{All}
use Rattle.std.specs.Prelude.{Option as Maybe}
use Rattle.std.proofs.lemmas.List.Elements.{All-nil, All-cons, All-head, All-tail}
use mathlib.Core.Option.{Option, some, some-injective, some-ne-none}
use mathlib.Core.Logic.{dite}
use native.Mathlib.Decide.{ℕ_discrete}
use lib.ListN.{get_elem?}
use Rattle.atomic_table.specs.Table.{State, Final, Seen}
use Rattle.atomic_table.proofs.Lists.{at_longer, at_last, at_snoc}
use Rattle.turn_lock.specs.declared.view.View.{View}
use Rattle.turn_lock.specs.declared.view.Ended.{Ended}
use Rattle.turn_lock.specs.History.{entries_by, StartsWith}
use Rattle.turn_lock.specs.Numbers.{total, weight, Owns, Has, Numbered}
use Rattle.turn_lock.specs.Rule.{KeptTurns}
use Rattle.turn_lock.specs.Passes.{PassView}
use Rattle.turn_lock.specs.Gathering.{ended_of, known_to, backwards, Gathers}
use Rattle.turn_lock.specs.Closing.{Closes}
use Rattle.turn_lock.proofs.Views.{not_both, total_two, weighs}

module _ {E : Type 0} where
  pub backwards-push : (ps : List (PassView E)) (p : PassView E) → backwards (ps ++ p ∷ []) ≡ ended_of p ∷ backwards ps
  backwards-push [] p = refl
  backwards-push (q ∷ ps) p = ap (λ (l : List (Ended E)). l ++ ended_of q ∷ []) (backwards-push ps p)

  backwards_length : (ps : List (PassView E)) → length (backwards ps) ≡ length ps
  backwards_length [] = refl
  backwards_length (p ∷ ps) = let h = backwards_length ps in let l = length-append (backwards ps) (ended_of p ∷ []) in omega arith

  -- what holds of each that is known holds of each pass
  of_all : (Q : Ended E → Type 0) (ps : List (PassView E)) → ((k : ℕ) (x : Ended E) → get_elem? (backwards ps) k ≡ some x → Q x) → All (λ p. Q (ended_of p)) ps
  of_all Q [] h = All-nil (λ p. Q (ended_of p))
  of_all Q (p ∷ ps) h = All-cons (λ p. Q (ended_of p)) p ps (h (length (backwards ps)) (ended_of p) (at_last (backwards ps) (ended_of p) (length (backwards ps)) refl))
      (of_all Q ps (λ k x at. h k x (at_longer (backwards ps) (ended_of p ∷ []) k x at)))

  -- and the other way round
  to_all : (Q : Ended E → Type 0) (ps : List (PassView E)) → All (λ p. Q (ended_of p)) ps → (k : ℕ) (x : Ended E) → get_elem? (backwards ps) k ≡ some x → Q x
  to_all Q [] h k x at = absurd (some-ne-none x (sym at))
  to_all Q (p ∷ ps) h k x at = ⊎_elim
      (λ old. to_all Q ps (All-tail (λ p. Q (ended_of p)) p ps h) k x old)
      (λ (e : ended_of p ≡ x). subst Q e (All-head (λ p. Q (ended_of p)) p ps h))
      (at_snoc (backwards ps) (ended_of p) x k at)

  module _ {S : Type 0} (stands : S → List (ℕ × E) → Type 0) where
    -- the value is at home, and what closing says holds of it
    pub closes : (passes id : ℕ) (v : View E) (ps : List (PassView E)) (s : State (Maybe S) (View E)) → KeptTurns stands passes s → get_elem? s.views id ≡ some v
        → v.live ≡ true → v.ahead ≡ 0 → v.holds ≡ false → known_to v ≡ backwards ps → length ps ≡ passes
        → (x : S) × (s.homes ≡ some (Some x) ∷ []) × Closes stands ps x
    closes passes id v ps s k at live no_more free knows many = ⊎_elim
        (λ home. (
          home.0,
          home.1,
          record {
            log = k.log;
            value = home.2;
            mine = of_all (λ x. entries_by x.number k.log ≡ x.mine) ps (λ i x at'. (each i x (subst (λ (l : List (Ended E)). get_elem? l i ≡ some x) (sym knows) at')).0);
            seen = of_all (λ x. StartsWith k.log x.seen) ps (λ i x at'. (each i x (subst (λ (l : List (Ended E)). get_elem? l i ≡ some x) (sym knows) at')).1);
            others = λ n apart. k.numbered.nobody n (nobody n (to_all (λ x. x.number ≢ n) ps apart));
          },
        ))
        (λ out. absurd (out_at_nobody out.0 out.1 out.3 out.4))
        k.placed
      where
        -- the views stand for no more passes than this one does
        alone : (by : ℕ) (u : View E) → get_elem? s.views by ≡ some u → u.live ≡ true → by ≡ id
        alone by u at' its = dite (ℕ_discrete by id) (λ e. e)
            (λ ne. let two = total_two weight s.views by id u v at' at ne in let a = weighs u its in let b = weighs v live in
            let l = backwards_length ps in let m : suc (length v.ended) ≡ length (backwards ps) = ap length knows in let all = k.numbered.all in absurd (omega arith))

        same : (by : ℕ) (u : View E) → get_elem? s.views by ≡ some u → u.live ≡ true → u ≡ v
        same by u at' its = some-injective u v (sym at' ∙ ap (λ (i : ℕ). get_elem? s.views i) (alone by u at' its) ∙ at)

        out_at_nobody : (by : ℕ) (u : View E) → get_elem? s.views by ≡ some u → u.holds ≡ true → ⊥
        out_at_nobody by u at' held = let fits = k.fits by u at' in let its = (fits.ticket (fits.holds held).0).0 in
            not_both v.holds (subst (λ (z : View E). z.holds ≡ true) (same by u at' its) held) free

        counts : Rattle.turn_lock.specs.Numbers.Counts k.log s.views v
        counts = k.numbered.counts id v at live

        each : (i : ℕ) (x : Ended E) → get_elem? (known_to v) i ≡ some x → (entries_by x.number k.log ≡ x.mine) × StartsWith k.log x.seen
        each zero x at' = subst (λ (x : Ended E). (entries_by x.number k.log ≡ x.mine) × StartsWith k.log x.seen) (some-injective _ x at') (counts.mine, (k.fits id v at).seen)
        each (suc i) x at' = let d = counts.ended i x at' in (d.mine, d.seen)

        nobody : (n : ℕ) → ((i : ℕ) (x : Ended E) → get_elem? (backwards ps) i ≡ some x → x.number ≢ n) → (by : ℕ) (u : View E) → get_elem? s.views by ≡ some u → Has u n → ⊥
        nobody n apart by u at' has = ⊎_elim
            (λ o. let is = same by u at' o.0 in let o' = subst (λ (z : View E). Owns z n) is o in let a = o'.1 in let b = o'.2 in
            apart 0 (record { number = v.number; seen = v.seen; mine = v.mine }) (subst (λ (l : List (Ended E)). get_elem? l 0 ≡ some (record { number = v.number; seen = v.seen; mine = v.mine })) knows refl) (omega arith))
            (λ x. let is = same by u at' x.0 in
            apart (suc x.1.0) x.1.1 (subst (λ (l : List (Ended E)). get_elem? l (suc x.1.0) ≡ some x.1.1) knows (subst (λ (z : View E). get_elem? z.ended x.1.0 ≡ some x.1.1) is x.1.2)) x.1.3)
            has

    -- the slot of a turn that is closed has that value
    pub closes_with : (passes id : ℕ) (v : View E) (ps : List (PassView E)) (words : List ℕ) (slots : List (Maybe S)) (found : Maybe S) → Final (Seen (KeptTurns stands passes) id v) words slots → Gathers ps v → length ps ≡ passes
        → get_elem? slots 0 ≡ some found → (x : S) × (found ≡ Some x) × Closes stands ps x
    closes_with passes id v ps words slots found end all many at =
        let s = end.0 in let c = closes passes id v ps s end.1.0 end.1.1 all.live all.ahead all.holds all.knows many in
        (c.0, some-injective found (Some c.0) (sym at ∙ end.4 0 (Some c.0) (ap (λ (l : List (Option (Maybe S))). get_elem? l 0) c.1)), c.2)
