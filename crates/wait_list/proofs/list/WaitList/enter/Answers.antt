use Rattle.std.proofs.Common.{◌≡◌, ◌<◌, ◌≤◌, ◌∷◌, ◌++◌, [], List, Bool, true, false, length, map, arith, sym, ap, ◌∙◌, deque_capacity, length-append, length-set, slice_set, ◌+◌, ℕ}
use Rattle.std.proofs.lemmas.List.{map-append, length-map}
use Rattle.spec_parts.specs.Row.{Queued}
use Rattle.wait_list.specs.declared.queued.Queued.{Queued as Kept}
use Rattle.wait_list.specs.declared.list.WaitList.TheInside.{Inside}
use Rattle.wait_list.specs.Standing.{queued_of, Holds}
use Rattle.wait_list.specs.Waits.{others, stands}
use Rattle.wait_list.proofs.Cells.{all_are_others}
use Rattle.wait_list.proofs.Marks.{holds_as, holds_entered, no_more_than_marks}
use Rattle.wait_list.proofs.list.WaitList.enter.Goals as goal
use Rattle.wait_list.proofs.list.WaitList.enter.Goals.{After-index_mut, After-push_back_reserved, then-index, else-index}

-- what is left once the older entry has gone
record Left (before now : Inside) (cell : ℕ) : Type 0 where
  queue : map queued_of now.queue.items ≡ others cell (map queued_of before.queue.items)
  room : deque_capacity now.queue ≡ deque_capacity before.queue
  marks : now.marks.items ≡ before.marks.items

left : (c : After-index_mut) → Left c.self.inside c.if-index.self-inside c.args.queued.who.cell
left c = elim c.if-index.branch [
  | then-index w ↦ record {
    queue = rw w.self-inside-is w.drop_cell.ensures.items;
    room = rw w.self-inside-is w.drop_cell.ensures.room;
    marks = ap (λ (inside : Inside). inside.marks.items) w.self-inside-is;
  }
  | else-index w ↦
      let within : c.args.queued.who.cell < length c.self.inside.marks.items = rw (← c.self.view_is) at c.requires.cell in
      let none : stands c.args.queued.who.cell (map queued_of c.self.inside.queue.items) ≡ false =
      sym (c.self.invariant.marked c.args.queued.who.cell c.index.result.now within) ∙ sym c.index.ensures ∙ w.if-index.false
      in
      record {
        queue = rw w.self-inside-is (sym (all_are_others c.args.queued.who.cell (map queued_of c.self.inside.queue.items) none));
        room = ap (λ (inside : Inside). deque_capacity inside.queue) w.self-inside-is;
        marks = ap (λ (inside : Inside). inside.marks.items) w.self-inside-is;
      }
]

-- the list as it is then
entered : (c : After-index_mut) → Holds (others c.args.queued.who.cell (map queued_of c.self.inside.queue.items) ++ queued_of c.args.queued ∷ []) (slice_set c.self.inside.marks.items c.args.queued.who.cell true) (deque_capacity c.self.inside.queue)
entered c = holds_entered (queued_of c.args.queued) (map queued_of c.self.inside.queue.items) c.self.inside.marks.items (deque_capacity c.self.inside.queue) (rw (← c.self.view_is) at c.requires.cell) c.self.invariant

pub push_back_reserved-requires : goal.push_back_reserved-requires
push_back_reserved-requires c =
    let after = (goal.at.push_back_reserved-requires c).After-index_mut in
    let l = left after in
    let e = entered after in
    let cell = c.args.queued.who.cell in
    let before = map queued_of c.self.inside.queue.items in
    let most : length (others cell before ++ queued_of c.args.queued ∷ []) ≤ length (slice_set c.self.inside.marks.items cell true) = no_more_than_marks _ _ _ e in
    let fits : length (slice_set c.self.inside.marks.items cell true) ≤ deque_capacity c.self.inside.queue = e.fits in
    let long : length (map queued_of c.if-index.self-inside.queue.items) ≡ length (others cell before) = ap length l.queue in
    let one : length (others cell before ++ queued_of c.args.queued ∷ []) ≡ length (others cell before) + 1 = length-append (others cell before) (queued_of c.args.queued ∷ []) in
    omega (arith, l.room, length-map c.if-index.self-inside.queue.items queued_of, c.if-index.self-inside.queue.ok.0)

-- the queue with the fiber behind it
queue : (c : After-push_back_reserved) → Left c.self.inside c.if-index.self-inside c.args.queued.who.cell → map queued_of c.push_back_reserved.new.self.items ≡ others c.args.queued.who.cell (map queued_of c.self.inside.queue.items) ++ queued_of c.args.queued ∷ []
queue c l =
    ap (λ (l : List Kept). map queued_of l) c.push_back_reserved.ensures.items
    ∙ map-append queued_of c.if-index.self-inside.queue.items (c.args.queued ∷ [])
    ∙ ap (λ (l : List Queued). l ++ queued_of c.args.queued ∷ []) l.queue

pub invariant_of-self : goal.invariant_of-self
invariant_of-self c =
    let after = (goal.at.invariant_of-self c).After-push_back_reserved in
    let middle = (goal.at.invariant_of-self c).After-index_mut in
    let l = left middle in
    holds_as _ _ _ _ _ _ (sym (queue after l)) (sym (ap (λ (marks : List Bool). slice_set marks c.args.queued.who.cell true) l.marks)) (sym (c.push_back_reserved.ensures.capacity ∙ l.room)) (entered middle)

pub returns : goal.returns
returns c =
    let after = (goal.at.returns c).After-push_back_reserved in
    let l = left (goal.at.returns c).After-index_mut in
    let cells : length (slice_set c.if-index.self-inside.marks.items c.args.queued.who.cell true) ≡ length c.self.inside.marks.items =
    length-set c.if-index.self-inside.marks.items c.args.queued.who.cell true ∙ ap length l.marks
    in
    rw (← c.self.view_is) (λ i. record { waiting = queue after l i; cells = cells i })
