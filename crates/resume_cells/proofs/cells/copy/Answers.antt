use Rattle.std.proofs.Common.{◌≡◌, ℕ, zero, suc, ◌+◌, ◌<◌, List, [], ◌∷◌, ◌++◌, length, take, set, get_or, sym, ap, ◌∙◌, subst, arith, length-set}
use Rattle.std.proofs.Math.Seq.{take-suc, take-suc-set}
use mathlib.Core.Option.{some, some-injective, some-ne-none}
use lib.ListN.{get_elem?}
use Rattle.std.specs.Mem.Slots.{slots_items}
use Rattle.resume_cells.proofs.cells.copy.Goals as goal

found_at : (l : List ℕ) (i a : ℕ) → get_elem? l i ≡ some a → (i < length l) × (get_or l i 0 ≡ a)
found_at [] i a e = absurd (some-ne-none a (sym e))
found_at (x ∷ xs) zero a e = (omega arith, some-injective x a e)
found_at (x ∷ xs) (suc i) a e = let t = found_at xs i a e in let lt = t.0 in (omega arith, t.1)

one_more : (words from : List ℕ) (i a : ℕ) → i < length words → take i words ≡ take i from → get_elem? from i ≡ some a → take (suc i) (set words i a) ≡ take (suc i) from
one_more words from i a lt same e = let t = found_at from i a e in
    take-suc-set words i a lt ∙ ap (λ (l : List ℕ). l ++ a ∷ []) same ∙ ap (λ (x : ℕ). take i from ++ x ∷ []) (sym t.1) ∙ sym (take-suc from i 0 t.0)

pub loop-i-preserved : goal.loop-i-preserved
loop-i-preserved c =
    let h = c.loop-i.invariant in let i = c.loop-i.i in let next : suc i ≡ i + 1 = omega arith in (
      length-set c.loop-i.words i c.word.result ∙ h.0,
      subst (λ (n : ℕ). take n (set c.loop-i.words i c.word.result) ≡ take n (slots_items c.args.closed.now.words)) next
          (one_more c.loop-i.words (slots_items c.args.closed.now.words) i c.word.result (let lt : i < length c.args.words.now = c.loop-i-test.true in subst (λ (n : ℕ). i < n) (sym h.0) lt) h.1 c.word.ensures),
    )
