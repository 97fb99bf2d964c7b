use Rattle.std.proofs.Common.{◌≡◌, ◌+◌, List, [], ◌∷◌, ◌++◌, length, map, arith, refl, sym, ap, ◌∙◌, length-append}
use Rattle.std.proofs.lemmas.List.{map-append, length-map}
use Rattle.spec_parts.specs.Data.{Submitted}
use Rattle.wait_list.specs.Lists.{WaitingList}
use Rattle.executor_pool.specs.declared.exec.Submitted.{Submitted as Kept}
use Rattle.executor_pool.specs.Kept.{submitted_of}
use Rattle.executor_pool.proofs.Submitting.{heavy-push, entered}
use Rattle.executor_pool.proofs.exec.Exec.submit.Goals as goal

pub invariant_of-self : goal.invariant_of-self
invariant_of-self c =
    let job : Submitted = record { job = c.args.job; number = c.self.inside.submitted } in
    let queued : map submitted_of c.push_back_reserved.new.self.items ≡ map submitted_of c.self.inside.queued.items ++ job ∷ [] =
    ap (λ (k : List Kept). map submitted_of k) c.push_back_reserved.ensures.items ∙ map-append submitted_of c.self.inside.queued.items _
    in
    let long : length (map submitted_of c.self.inside.queued.items ++ job ∷ []) ≡ length (map submitted_of c.self.inside.queued.items) + 1 = length-append (map submitted_of c.self.inside.queued.items) (job ∷ []) in
    record {
      cells = c.self.invariant.cells ∙ ap (λ (l : WaitingList). l.cells) (sym c.enter.ensures);
      few = rw queued (omega (arith, long, length-map c.self.inside.queued.items submitted_of, c.self.inside.queued.ok.0));
      room = rw c.push_back_reserved.ensures.capacity c.self.invariant.room;
      heavy = rw queued (heavy-push (map submitted_of c.self.inside.queued.items) job c.self.invariant.heavy c.requires.weighty);
      numbered = rw c.enter.ensures (entered c.self.inside.submitted c.args.who.cell c.self.inside.submitters.waiting _ refl c.self.invariant.numbered);
    }
