use Rattle.std.proofs.Common.{◌≡◌, ℕ, zero, suc, ◌+◌, ◌-◌, ◌<◌, ◌≤◌, List, [], ◌∷◌, ◌++◌, sym, ap, ◌∙◌, subst, arith}
use Rattle.atomic_table.specs.Seated.{TableId}
use Rattle.resume_cells.specs.Seats.{Seated, seated, new_seats}
use Rattle.resume_cells.specs.Views.{dealing, dealt_to, nothing_told}
use Rattle.resume_cells.proofs.Dealing.{deals}
use Rattle.resume_cells.proofs.seat.deal.Goals as goal

-- one more seat, behind the others
new_seats_push : (table : TableId) (each n count : ℕ) → new_seats table each n count ++ record { table = table; number = n + count; each = each; told = nothing_told } ∷ [] ≡ new_seats table each n (suc count)
new_seats_push table each n zero = λ i. record { table = table; number = (let e : n + 0 ≡ n = omega arith in e) i; each = each; told = nothing_told } ∷ []
new_seats_push table each n (suc count) = (λ i. record { table = table; number = n; each = each; told = nothing_told } ∷ (new_seats table each (n + 1) count ++ record { table = table; number = (let e : n + suc count ≡ n + 1 + count = omega arith in e) i; each = each; told = nothing_told } ∷ []))
    ∙ ap (λ (l : List Seated). record { table = table; number = n; each = each; told = nothing_told } ∷ l) (new_seats_push table each (n + 1) count)

pub split_seat-requires : goal.split_seat-requires
split_seat-requires c =
    let h = c.loop-number.invariant in
    let v = c.loop-number.first.me.0 in (
      h.0,
      c.requires.fits.1,
      deals c.args.shared.now.key c.loop-number.first.id v (ap (λ m. m.0.live) h.1) (ap (λ m. m.0.number) h.1)
          (let n : v.dealt ≡ c.loop-number._number = ap (λ m. m.0.dealt) h.1 in let lt = c.loop-number-test.true in let s = c.requires.fits.2 in subst (λ (m : ℕ). v.dealt < m) s (subst (λ (m : ℕ). m < c.args.seats) (sym n) lt)),
    )

pub loop-number-preserved : goal.loop-number-preserved
loop-number-preserved c =
    let h = c.loop-number.invariant in let s = c.split_seat.ensures in let n : 1 ≤ c.loop-number._number = h.3 in
    let table = c.args.shared.now.table_id in let each = c.args.shared.now.key.each in let at : ℕ = c.loop-number._number in (
      s.0 ∙ h.0,
      s.2 ∙ ap (λ m. (dealing m.0, m.1)) h.1,
      c.in_ok-push.ensures.items
          ∙ (λ i. h.2 i ++ seated ((s.3 ∙ h.0) i) ((s.4 ∙ ap (λ m. (dealt_to m.0, [])) h.1) i).0 ∷ [])
          ∙ (λ i. new_seats table each 1 (at - 1) ++ record { table = table; number = (let e : at ≡ 1 + (at - 1) = omega arith in e) i; each = each; told = nothing_told } ∷ [])
          ∙ new_seats_push table each 1 (at - 1)
          ∙ ap (new_seats table each 1) (let e : suc (at - 1) ≡ at + 1 - 1 = omega arith in e),
      omega arith,
    )
