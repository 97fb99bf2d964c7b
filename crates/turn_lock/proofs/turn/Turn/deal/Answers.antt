use Rattle.std.proofs.Common.{All, false, ◌≡◌, ℕ, ◌+◌, ◌-◌, List, [], ◌∷◌, ◌++◌, length, sym, ap, ◌∙◌, subst, arith}
use Rattle.std.specs.Prelude.{Option as Maybe}
use Rattle.std.proofs.lemmas.List.Elements.{All-nil, All-cons}
use Rattle.atomic_table.specs.Seated.{TableId}
use Rattle.atomic_table.specs.Table.{Me}
use Rattle.turn_lock.specs.declared.view.View.{View}
use Rattle.turn_lock.specs.Steps.{dealer, dealt}
use Rattle.turn_lock.specs.Passes.{TurnView, PassView, AreFresh, fresh_pass}
use Rattle.turn_lock.specs.Rule.{new_view}
use Rattle.turn_lock.proofs.Dealing.{deals}
use Rattle.turn_lock.proofs.turn.Turn.deal.Goals as goal

fresh-push : {E : Type 0} (t : TableId) (n : ℕ) (ps : List (PassView E)) (p : PassView E) → AreFresh t n ps → p ≡ fresh_pass t (n + length ps) → AreFresh t n (ps ++ p ∷ [])
fresh-push t n [] p h e = (e ∙ ap (fresh_pass t) (omega arith), tt)
fresh-push t n (x ∷ xs) p h e = (h.0, fresh-push t (n + 1) xs p h.1 (e ∙ ap (fresh_pass t) (omega arith)))

pub split_seat-next-requires : goal.split_seat-next-requires
split_seat-next-requires g c =
    let h = c.loop-made.invariant in
    let words = c.self.invariant.0 in
    let below = c.loop-made-test.true in (
      h.0 ∙ sym (ap (λ (t : TurnView). t.id) c.self.view_is),
      omega arith,
      deals (λ x. g.V.Kept.stands x 0) _ _ c.loop-made.seat.me.0 (ap (λ m. m.0.live) h.1) (let a : c.loop-made.seat.me.0.ahead ≡ c.args.passes - 1 - c.loop-made._made = ap (λ m. m.0.ahead) h.1 in omega arith) (ap (λ m. m.0.holds) h.1),
    )

view_fresh : {E S : Type 0} (me : Me (Maybe S) (View E)) (turn to : TableId) (n ahead : ℕ) → turn ≡ to → me ≡ (new_view n ahead, []) → record { turn = turn; number = me.0.number; seen = me.0.seen; mine = me.0.mine; holds = me.0.holds } ≡ fresh_pass to n
view_fresh me turn to n ahead e m i = record { turn = e i; number = (m i).0.number; seen = (m i).0.seen; mine = (m i).0.mine; holds = (m i).0.holds }

pub loop-made-preserved : goal.loop-made-preserved
loop-made-preserved g c =
    let h = c.loop-made.invariant in
    let x = c.split_seat-next.ensures in
    let room = c.push_reserved.ensures.capacity in
    let more = c.push_reserved.ensures.len in
    let many = h.2 in
    let ok = c.loop-made.dealt.ok in
    let at : length c.loop-made.dealt.items ≡ c.loop-made._made = omega arith in
    let left : c.args.passes - 1 - c.loop-made._made - 1 ≡ c.args.passes - 1 - (c.loop-made._made + 1) = omega arith in (
      x.3 ∙ h.0,
      x.4 ∙ ap (λ m. (dealt m.0, [])) h.1 ∙ ap (λ (n : ℕ). (new_view (c.loop-made._made + 1) n, [])) left,
      omega arith,
      (let r = h.3 in omega arith),
      subst (AreFresh c.args.self.now.id 0) (sym c.push_reserved.ensures.items)
          (fresh-push c.args.self.now.id 0 c.loop-made.dealt.items _ h.4
          (view_fresh c.split_seat-next.new.seat.me c.split_seat-next.new.seat.table_id c.args.self.now.id c.loop-made._made 0 (x.0 ∙ h.0) (x.2 ∙ ap (λ m. (dealer m.0, m.1)) h.1) ∙ ap (fresh_pass c.args.self.now.id) (omega arith))),
    )

fresh_at : {E : Type 0} (t : TableId) (n : ℕ) (ps : List (PassView E)) → AreFresh t n ps → All (λ p. (p.turn ≡ t) × (p.holds ≡ false)) ps
fresh_at t n [] h = All-nil (λ p. (p.turn ≡ t) × (p.holds ≡ false))
fresh_at t n (p ∷ ps) h = All-cons (λ p. (p.turn ≡ t) × (p.holds ≡ false)) p ps (ap (λ p. p.turn) h.0, ap (λ p. p.holds) h.0) (fresh_at t (n + 1) ps h.1)

pub returns-clause-passes : goal.returns-clause-passes
returns-clause-passes g c =
    let h = c.loop-made.invariant in
    let many = h.2 in
    let more = c.push_reserved-2.ensures.len in
    let end = c.loop-made.auto._made-end in
    let test = c.loop-made-test.false in
    let some = c.requires.some in
    let ok = c.loop-made.dealt.ok in
    let at : length c.loop-made.dealt.items ≡ c.loop-made._made = omega arith in (
      omega arith,
      subst (AreFresh c.args.self.now.id 0) (sym c.push_reserved-2.ensures.items)
          (fresh-push c.args.self.now.id 0 c.loop-made.dealt.items _ h.4
          (view_fresh c.loop-made.seat.me c.loop-made.seat.table_id c.args.self.now.id c.loop-made._made _ h.0 h.1 ∙ ap (fresh_pass c.args.self.now.id) (omega arith))),
    )

pub returns-clause-theirs : goal.returns-clause-theirs
returns-clause-theirs g c = λ k d lt. (fresh_at c.args.self.now.id 0 c.push_reserved-2.new.self.items (returns-clause-passes g c).1 k d lt).0

pub returns-clause-free : goal.returns-clause-free
returns-clause-free g c = λ k d lt. (fresh_at c.args.self.now.id 0 c.push_reserved-2.new.self.items (returns-clause-passes g c).1 k d lt).1
