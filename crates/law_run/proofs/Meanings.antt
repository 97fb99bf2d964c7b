-- A run looks at a script's names, declarations, bodies, texts and failures alone. So it is, by computing, that of the script without places; and without
-- places two scripts that mean the same are one.
use Rattle.std.proofs.Common.{◌≡◌, ℕ, [], None, refl, sym, ap, ◌∙◌}
use Rattle.spec_script.specs.Opening.{opening_texts}
use Rattle.spec_script.specs.Scripts.{Script}
use Rattle.spec_fiber.specs.Numbered.{block_numbered}
use Rattle.spec_machine.specs.Answers.{ran}
use Rattle.spec_machine.specs.Mock.{move, moves, mock}
use Rattle.spec_machine.specs.Moves.{own_call}
use Rattle.spec_machine.specs.Trace.{run, trace}
use Rattle.law_script.specs.Scripts.Meanings.{MeanTheSame}
use Rattle.law_run.specs.Meanings.{RunAlike, RunsGoByMeaning}

abbrev placeless : Script → Script
placeless script = record script { formed = []; first_domain = None }

one_meaning : (a b : Script) → MeanTheSame a b → placeless a ≡ placeless b
one_meaning a b same = λ i. record {
  version = same.version i;
  names = same.names i;
  declarations = same.declarations i;
  bodies = same.bodies i;
  texts = same.texts i;
  failures = same.failures i;
  formed = [];
  first_domain = None;
}

runs_alike_placeless : (script : Script) (n : ℕ) → RunAlike script (placeless script) n
unfolding ran mock run moves move own_call block_numbered opening_texts
runs_alike_placeless script n = record { moves = refl; states = refl; trace = refl; answer = refl }

-- what is the same for each script without its places is the same for two that mean the same
by_meaning : {X : Type 0} (f : Script → X) → ((script : Script) → f script ≡ f (placeless script)) → (a b : Script) → MeanTheSame a b → f a ≡ f b
by_meaning f is a b same = is a ∙ ap f (one_meaning a b same) ∙ sym (is b)

pub runs_go_by_meaning : RunsGoByMeaning
runs_go_by_meaning a b same n = record {
  moves = by_meaning (λ script. (run script n).moves) (λ script. (runs_alike_placeless script n).moves) a b same;
  states = by_meaning (λ script. mock script n) (λ script. (runs_alike_placeless script n).states) a b same;
  trace = by_meaning (λ script. trace script (run script n).moves) (λ script. (runs_alike_placeless script n).trace) a b same;
  answer = by_meaning (λ script. ran script n) (λ script. (runs_alike_placeless script n).answer) a b same;
}
