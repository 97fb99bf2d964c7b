-- What is made of a script while it is read: the definitions' `Made`, with the nodes themselves.
use Rattle.std.specs.Prelude.{ℕ, List, [], length}
use Rattle.eio_value.specs.declared.value.TextId.{TextId}
use Rattle.spec_script.specs.Reads.{Formed, Made}
use Rattle.script_forms.specs.declared.node.Node.{Node}

pub record Drafted : Type 0 where
  pub nodes : List Node
  pub texts : List (List ℕ)
  pub failures : List TextId
  pub formed : List Formed
  pub steps : ℕ
  pub entries : ℕ

abbrev pub made_of : Drafted → Made
made_of draft = record {
  nodes = length draft.nodes;
  texts = draft.texts;
  failures = draft.failures;
  formed = draft.formed;
  steps = draft.steps;
  entries = draft.entries;
}

abbrev pub nothing_drafted : Drafted
nothing_drafted = record { nodes = []; texts = []; failures = []; formed = []; steps = 0; entries = 0 }
