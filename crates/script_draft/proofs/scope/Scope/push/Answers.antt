use Rattle.std.proofs.Common.{rules, tests}
use Rattle.std.specs.Prelude.{not}
use Rattle.std.specs.Str.{bytes_eq}
use Rattle.std.proofs.lemmas.Fn.{filter_same}
use Rattle.script_draft.specs.declared.scope.Named.{Named}
use Rattle.script_draft.proofs.ScopesSeen.{pushed_seen}
use Rattle.script_draft.proofs.scope.Scope.push.Goals as goal

pub returns : goal.returns
returns c =
    let kept = filter_same _ (λ (n : Named). not (bytes_eq n.name.now c.args.name.now)) _ (λ x b q k. search (rules, tests)) _ _ c.retain.ensures.filtered in
    let put = c.in_ok-insert.ensures.items in
    rw (put, kept, ← c.self.view_is) (pushed_seen c.args.kind c.args.name c.self.inside.next c.self.inside.names.items c.self.inside.declared.now)
