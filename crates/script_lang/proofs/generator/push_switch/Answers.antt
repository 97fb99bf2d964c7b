use Rattle.script_lang.proofs.Building.{switch_made}
use Rattle.script_lang.proofs.generator.push_switch.Goals as goal

pub returns : goal.returns
returns c =
    switch_made _ _ _ _ _ _ _ _ c.in_ok-form.ensures c.in_ok-word.ensures c.in_ok-push_forks.ensures c.in_ok-push_taker.ensures c.in_ok-push_done.ensures
    c.in_ok-close.ensures
