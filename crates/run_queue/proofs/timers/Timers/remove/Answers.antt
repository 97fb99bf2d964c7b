use Rattle.std.proofs.Common.{rules, refl, length, ◌≡◌, ◌==◌, ◌≤◌, not, ap, ◌∙◌}
use Rattle.std.proofs.lemmas.Fn.{filter_same}
use Rattle.run_queue.specs.declared.timers.Timer.{Timer}
use Rattle.run_queue.proofs.Standing.{others, filter-map, fewer, IsInOrder-filter}
use Rattle.run_queue.proofs.timers.Timers.remove.Goals as goal
use Rattle.run_queue.proofs.timers.Timers.remove.Goals.{After-retain}

-- what `retain` keeps
kept : (c : After-retain) → c.retain.new.self.items ≡ others c.args.fiber c.self.inside.standing.items
kept c = filter_same _ (λ (timer : Timer). not (timer.fiber == c.args.fiber)) _ (λ x b f' k. search rules) _ _ c.retain.ensures.filtered

pub invariant_of-self : goal.invariant_of-self
invariant_of-self c =
    let room : c.self.inside.most ≤ _ = c.self.invariant.0 in
    (rw c.retain.ensures.capacity room, rw (kept (goal.at.invariant_of-self c).After-retain) (IsInOrder-filter _ _ c.self.invariant.1))

pub returns-clause-slept : goal.returns-clause-slept
returns-clause-slept c =
    let before : c.len-before.result ≡ length c.self.inside.standing.items = c.len-before.ensures ∙ c.self.inside.standing.ok.0 in
    let after : c.len.result ≡ length (others c.args.fiber c.self.inside.standing.items) = c.len.ensures ∙ (c.retain.new.self.ok.0 ∙ ap length (kept (goal.at.returns-clause-slept c).After-retain)) in
    rw (← c.self.view_is) (rw (before, after) (fewer c.args.fiber c.self.inside.standing.items))

pub returns-clause-others : goal.returns-clause-others
returns-clause-others c = rw (← c.self.view_is) (rw (kept (goal.at.returns-clause-others c).After-retain) (rw (filter-map c.args.fiber c.self.inside.standing.items) refl))
