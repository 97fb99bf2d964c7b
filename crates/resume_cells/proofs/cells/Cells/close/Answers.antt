use Rattle.std.proofs.Common.{◌≡◌, ℕ, zero, suc, ◌+◌, List, [], ◌∷◌, ◌++◌, length, take, refl, sym, ap, ◌∙◌, subst, arith}
use Rattle.std.specs.Mem.Slots.{slots_items, slots_counts}
use Rattle.resume_cells.specs.Histories.{Histories}
use Rattle.resume_cells.specs.Seats.{Seated, AreNumbered, told_all}
use Rattle.resume_cells.proofs.Closing.{closes}
use Rattle.resume_cells.proofs.cells.Cells.close.Goals as goal

take_front : (xs ys : List ℕ) (n : ℕ) → n ≡ length xs → take n (xs ++ ys) ≡ xs
take_front [] ys n e = ap (λ (m : ℕ). take m ys) e
take_front (x ∷ xs) ys zero e = absurd (omega arith)
take_front (x ∷ xs) ys (suc n) e = ap (λ (l : List ℕ). x ∷ l) (take_front xs ys n (omega arith))

length_told : (ss : List Seated) → length (told_all ss) ≡ length ss
length_told [] = refl
length_told (s ∷ ss) = let h = length_told ss in omega arith

pub returns-clause-histories : goal.returns-clause-histories
returns-clause-histories c =
    let inside = c.self.inside in let k = c.self.invariant in
    let was = c.first.inside.seat.me.0 in
    let first = c.take_in.new.first in let others = c.pop_front.new.self.items in
    let e = c.take_in.ensures.known in
    let all : c.args.seats.items ≡ c.in-Some.first ∷ others = sym c.from-others.ensures.0 ∙ c.in-Some.ensures.items in
    let numbered = subst (AreNumbered c.args.self.table 0) all c.requires.all.1 in
    let plan = inside.table.shared.key in
    let counts = c.close_with-closed.ensures.counts.0 in
    let shown = slots_items c.close_with-closed.result.words in
    let many = (slots_counts c.close_with-closed.result.words).0 in
    let copied : c.copy.new.words ≡ shown = c.copy.ensures in
    let len : inside.words.len ≡ length c.copy.new.words = k.2 ∙ sym (counts ∙ k.0) ∙ many ∙ ap length (sym copied) in
    let told = (λ i. (e i).own ∷ (e i).known) ∙ ap (λ (s : Seated). s.told ∷ told_all others) c.first.view_is ∙ sym (ap told_all all) in
    let seats : length first.me.0.known + 1 ≡ plan.seats =
    ap (λ v. length v.known + 1) e ∙ ap (λ (n : ℕ). n + 1) (length_told others) ∙ (let n = ap length all in omega arith) ∙ c.requires.all.0 ∙ sym (ap (λ s. s.seats) c.self.view_is) in
    subst (λ ws. Histories c.args.self.each ws (told_all c.args.seats.items)) (sym (take_front c.copy.new.words _ inside.words.len len ∙ copied))
    (subst (λ ts. Histories c.args.self.each shown ts) told
    (subst (λ (n : ℕ). Histories n shown (first.me.0.own ∷ first.me.0.known)) (ap (λ s. s.each) c.self.view_is)
    (closes plan first.id first.me.0 shown (slots_items c.close_with-closed.result.slots) c.close_with-closed.ensures.values.2
    (ap (λ v. v.live) e ∙ c.first.invariant.0) (ap (λ v. v.number) e ∙ ap (λ (s : Seated). s.number) c.first.view_is ∙ numbered.1) seats)))
