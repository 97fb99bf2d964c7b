use Rattle.std.proofs.Common.{◌≡◌, List, [], ◌∷◌, ◌++◌, Some, false, length, refl, sym, ap, ◌∙◌, arith, append_assoc}
use Rattle.std.proofs.lemmas.List.{append-nil}
use Rattle.std.proofs.lemmas.List.Elements.{All-pop}
use Rattle.turn_lock.specs.declared.view.View.{View}
use Rattle.turn_lock.specs.Passes.{TurnView, PassView}
use Rattle.turn_lock.specs.Steps.{taking_in}
use Rattle.turn_lock.specs.Gathering.{own_of, ended_of, known_to, backwards}
use Rattle.turn_lock.proofs.Dealing.{takes_in}
use Rattle.turn_lock.proofs.Gathering.{backwards-push}
use Rattle.turn_lock.proofs.turn.Turn.gather.Goals as goal

empty : {A : Type 0} (l : List A) → length l ≡ 0 → l ≡ []
empty [] e = refl
empty (x ∷ xs) e = absurd (omega arith)

-- a pass that is taken in leaves the passes that are left
moved : {E : Type 0} (v w : View E) (p : PassView E) (left all : List (PassView E)) → own_of w ≡ ended_of p → all ≡ left ++ p ∷ [] → known_to (taking_in v w) ++ backwards left ≡ known_to v ++ backwards all
moved v w p left all e is =
    ap (λ l. own_of v ∷ l) (append_assoc v.ended (own_of w ∷ []) (backwards left) ∙ ap (λ x. v.ended ++ x ∷ backwards left) e ∙ ap (λ l. v.ended ++ l) (sym (backwards-push left p) ∙ ap backwards (sym is)))

pub join_seat-requires : goal.join_seat-requires
join_seat-requires g c =
    let h = c.loop-pass.invariant in let x = c.into_seat.ensures in let words = c.self.invariant.0 in
    let id = ap (λ (t : TurnView). t.id) c.self.view_is in
    let pass = (All-pop (λ (p : PassView g.row.V-Entry.Denot). p.turn ≡ c.args.self.now.id) c.loop-pass.passes.items c.pop-in-loop-pass.new.self.items (Some c.in-Some-pop.pass) c.in-Some-pop.ensures.items h.5).1 in (
      h.0 ∙ sym id,
      x.turn ∙ pass ∙ sym id,
      x.idle.slots,
      omega arith,
      takes_in (λ v. g.V.Kept.stands v 0) _ _ c.loop-pass.seat.me.0 _ c.into_seat.result.me.0 h.1 h.3 x.idle.live x.idle.holds x.idle.waits x.idle.ahead x.idle.ended,
    )

pub loop-pass-preserved : goal.loop-pass-preserved
loop-pass-preserved g c =
    let h = c.loop-pass.invariant in let x = c.into_seat.ensures in let y = c.join_seat.ensures in (
      y.0 ∙ h.0,
      ap (λ m. m.0.live) y.2 ∙ h.1,
      ap (λ m. m.0.ahead) y.2 ∙ h.2,
      ap (λ m. m.0.holds) y.2 ∙ h.3,
      ap (λ m. known_to m.0 ++ backwards c.pop-in-loop-pass.new.self.items) y.2
          ∙ moved c.loop-pass.seat.me.0 c.into_seat.result.me.0 c.in-Some-pop.pass c.pop-in-loop-pass.new.self.items c.loop-pass.passes.items x.knows c.in-Some-pop.ensures.items ∙ h.4,
      (All-pop (λ (p : PassView g.row.V-Entry.Denot). p.turn ≡ c.args.self.now.id) c.loop-pass.passes.items c.pop-in-loop-pass.new.self.items (Some c.in-Some-pop.pass) c.in-Some-pop.ensures.items h.5).0,
      (All-pop (λ (p : PassView g.row.V-Entry.Denot). p.holds ≡ false) c.loop-pass.passes.items c.pop-in-loop-pass.new.self.items (Some c.in-Some-pop.pass) c.in-Some-pop.ensures.items h.6).0,
    )

pub returns-clause-gathers : goal.returns-clause-gathers
returns-clause-gathers g c =
    let h = c.loop-pass.invariant in let x = c.into_seat-seat.ensures in
    let ok = c.loop-pass.passes.ok in let none_left = c.in_default-pop.ensures.cases.0 in
    let over : c.loop-pass.passes.items ≡ [] = empty c.loop-pass.passes.items (omega arith) in record {
      live = h.1;
      ahead = h.2;
      holds = h.3;
      knows = sym (append-nil (known_to c.loop-pass.seat.me.0)) ∙ ap (λ l. known_to c.loop-pass.seat.me.0 ++ backwards l) (sym over) ∙ h.4
          ∙ ap (λ l. own_of c.into_seat-seat.result.me.0 ∷ (l ++ backwards c.pop.new.self.items)) x.idle.ended ∙ ap (λ e. e ∷ backwards c.pop.new.self.items) x.knows
          ∙ sym (backwards-push c.pop.new.self.items c.in-Some.last) ∙ ap backwards (sym c.in-Some.ensures.items);
    }
