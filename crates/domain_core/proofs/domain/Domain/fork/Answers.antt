use Rattle.std.proofs.Common.{◌<◌, ◌≤◌, ◌∙◌, ℕ, List, ap, ap₂, sym, subst, refl}
use Rattle.std.specs.Prelude.{count_by, is_some}
use Rattle.script_forms.specs.Flat.{nodes_of}
use Rattle.script_code.specs.Standing.{block_at}
use Rattle.script_forms.specs.declared.node.Node.{Node}
use Rattle.trace_lines.specs.declared.line.Did.{Did}
use Rattle.trace_lines.specs.declared.line.Said2.TheVariants as said
use Rattle.domain_core.specs.declared.told.Told.{Told}
use Rattle.domain_core.specs.Keeping.{KeptDomain}
use Rattle.domain_core.proofs.Forking.{makes_refused, makes_full, makes_forked}
use Rattle.domain_core.proofs.domain.Domain.fork.Goals as goal

pub returns-then-refuses_forks-clause-answers : goal.returns-then-refuses_forks-clause-answers
returns-then-refuses_forks-clause-answers c script has = (
    let nodes : List Node = nodes_of script in
    makes_refused script c.args.daemon c.args.switch c.args.fiber nodes c.args.self.now c.requires.can.contexts _ c.to_head.new.self
    (block_at nodes c.args.body) (sym c.refuses_forks.ensures ∙ c.if-refuses_forks.true)
    (record {
      tells = λ texts l mirrors. record { fiber = refl; did = sym c.did_fork-did.ensures; reply = refl };
      becomes = c.to_head.ensures.becomes nodes;
    }))

pub returns-then-live-ge-MOST_FIBERS-clause-answers : goal.returns-then-live-ge-MOST_FIBERS-clause-answers
returns-then-live-ge-MOST_FIBERS-clause-answers c script has = (
    let nodes : List Node = nodes_of script in
    let full : 1024 ≤ count_by is_some c.args.self.now.fibers =
    subst (λ (kept : KeptDomain). 1024 ≤ count_by is_some kept.fibers) c.self.view_is
    (subst (λ (n : ℕ). 1024 ≤ n) c.live.ensures c.if-live-ge-MOST_FIBERS.true) in
    makes_full script c.args.daemon c.args.switch c.args.fiber nodes c.args.self.now c.requires.can.contexts _ c.halt.new.self
    (sym c.refuses_forks.ensures ∙ c.if-refuses_forks.false) (block_at nodes c.args.body) full (c.halt.ensures.makes nodes))

pub returns-clause-answers : goal.returns-clause-answers
returns-clause-answers c script has = (
    let nodes : List Node = nodes_of script in
    let room : count_by is_some c.args.self.now.fibers < 1024 =
    subst (λ (kept : KeptDomain). count_by is_some kept.fibers < 1024) c.self.view_is
    (subst (λ (n : ℕ). n < 1024) c.live.ensures c.if-live-ge-MOST_FIBERS.false) in
    let number = ap (λ (kept : KeptDomain). kept.number) c.self-2.view_is
    ∙ (c.to_head-3.ensures.same.number ∙ (c.to_head-2.ensures.same.number ∙ c.in_ok-new.ensures.same.number)) in
    let answered : Did → ℕ → Told = λ it n. record { fiber = c.args.fiber; did = it; reply = said.Fiber n c.in_ok-new.new } in
    makes_forked script c.args.daemon c.args.switch c.args.fiber nodes c.args.self.now c.requires.can.contexts _ c.to_head-3.new.self
    (sym c.refuses_forks.ensures ∙ c.if-refuses_forks.false) c.args.body c.in_ok-new.new c.in_ok-new.ensures.number room
    (ap₂ answered c.did_fork-did.ensures number)
    (λ texts l mirrors. c.to_head-3.ensures.becomes nodes texts _ (c.to_head-2.ensures.becomes nodes texts _ (c.in_ok-new.ensures.made nodes has texts l mirrors))))
