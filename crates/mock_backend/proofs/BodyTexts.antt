-- The texts of what a body has come to stand in the table.
use Rattle.std.proofs.Common.{◌≡◌, ℕ, List, Option, Some, None, IfSome, ap, sym, ◌∙◌, subst}
use Rattle.eio_value.specs.declared.raised.Outcome.{Outcome}
use Rattle.eio_value.specs.declared.raised.Outcome.TheVariants as outcome
use Rattle.fiber_step.specs.Settling.{HasTextsOfOutcome}
use Rattle.spec_machine.specs.declared.Ending.{Ending}
use Rattle.spec_machine.specs.declared.Ending.TheVariants as ending
use Rattle.spec_machine.specs.Domain.{Standing, Ready, Parked, Ended, DomainState, fiber_at}
use Rattle.spec_machine.specs.Mock.{Mock, opening}
use Rattle.spec_machine.specs.Trace.{body_end, ending_in, last_line}
use Rattle.spec_script.specs.Opening.{opening_texts}
use Rattle.spec_script.specs.Scripts.{Script}
use Rattle.law_domain.specs.Texts.Domains.{IsTextedStanding}
use Rattle.law_domain.proofs.Texts.Moving.{known_have_texts}
use Rattle.law_domain.specs.Well.WellStates.{IsRunnable, StandsWell}
use Rattle.domain_core.specs.Keeping.{KeptDomain}
use Rattle.domain_core.specs.Mirrors.{Mirrors}
use Rattle.domain_core.specs.Turns.{StandsFor}
use Rattle.script_forms.specs.Flat.{nodes_of}
use Rattle.script_forms.specs.declared.node.Node.{Node}
use Rattle.mock_backend.specs.Causes.{EndsRaised}
use Rattle.mock_backend.specs.Scripts.{IsOfRun}
use Rattle.mock_backend.proofs.EndCauses.{ends_raised}

standing_has : (script : Script) → IsRunnable script → (standing : Standing) → IsTextedStanding script standing
    → IfSome (elim standing as (λ _. Option Outcome) [ Ended it ↦ Some it | Ready next ↦ None | Parked wait ↦ None ]) (HasTextsOfOutcome (opening_texts script))
standing_has script runnable (Ready next) has = tt
standing_has script runnable (Parked wait) has = tt
standing_has script runnable (Ended (outcome.Ok it)) has = tt
standing_has script runnable (Ended (outcome.Err raised)) has = known_have_texts.raises script raised runnable.texts.failures has

module _ (texts : List (List ℕ)) (kept : KeptDomain) (come : IsOfRun texts kept) where
  -- the state that is stood for, beside any objects
  abbrev state : Mock
  state = record (opening come.script) { local = come.stands.0 }

  pub raised_has : (e : Ending) (came : Option Outcome) → ((script : Script) (table : List (List ℕ)) (m : Mock) → StandsFor script table kept m.local → e ≡ ending_in script m)
      → ((nodes : List Node) (table : List (List ℕ)) (l : DomainState) → Mirrors nodes table kept l → came ≡ body_end l) → e ≡ ending.Raised → IfSome came (HasTextsOfOutcome texts)
  raised_has e came is body same =
      let l : DomainState = come.stands.0 in
      let stands : StandsFor come.script texts kept l = come.stands.1 in
      let ended : EndsRaised l = ends_raised come.script state (sym (is come.script texts state stands) ∙ same) in
      let well : StandsWell come.script l = stands.well ended.rests.unhalted in
      let table : opening_texts come.script ≡ texts = sym well.texted.table ∙ stands.mirrors.texts in
      let has : IfSome (body_end l) (HasTextsOfOutcome (opening_texts come.script)) = standing_has come.script come.runnable (fiber_at l.fibers 0).standing (well.texted.each_fiber 0).stands in
      subst (λ (it : Option Outcome). IfSome it (HasTextsOfOutcome texts)) (sym (body (nodes_of come.script) texts l stands.mirrors))
      (subst (λ (t : List (List ℕ)). IfSome (body_end l) (HasTextsOfOutcome t)) table has)

  -- the line that was made for this ending is the one behind the trace
  pub line_is : (e : Ending) (came : Option Outcome) (line : List ℕ) → ((script : Script) (table : List (List ℕ)) (m : Mock) → StandsFor script table kept m.local → e ≡ ending_in script m)
      → ((nodes : List Node) (table : List (List ℕ)) (l : DomainState) → Mirrors nodes table kept l → came ≡ body_end l)
      → ((m : Mock) → m.local.texts ≡ texts → body_end m.local ≡ came → line ≡ last_line e m)
      → (script : Script) (m : Mock) → StandsFor script texts kept m.local → line ≡ last_line (ending_in script m) m
  line_is e came line is body made script m stands =
      made m stands.mirrors.texts (sym (body (nodes_of script) texts m.local stands.mirrors)) ∙ ap (λ (end : Ending). last_line end m) (is script texts m stands)
