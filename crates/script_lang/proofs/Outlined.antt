-- What was read beside a draft, and the draft, are the parts of a script.
use Rattle.std.proofs.Common.{◌≡◌, ◌<◌, ◌^◌, length, ◌∙◌}
use Rattle.spec_script.specs.Scripts.{Script}
use Rattle.script_forms.specs.Failures.{HasFailures}
use Rattle.script_draft.specs.Drafts.{Drafted}
use Rattle.script_draft.specs.declared.draft.Finished.{Finished}
use Rattle.script_code.specs.ScriptInside.{IsScriptOf, IsRead}
use Rattle.script_code.specs.declared.script.Parts.{Parts}
use Rattle.script_lang.specs.Outlines.{IsOutlineOf, IsOutlined}
use Rattle.script_lang.specs.declared.reader.Outline.{Outline}

-- the draft as it was finished
pub record IsFinished (made : Finished) (draft : Drafted) : Type 0 where
  pub nodes : made.nodes.items ≡ draft.nodes
  pub few : length draft.nodes < 2 ^ 32
  pub texts : made.texts ≡ draft.texts
  pub failures : made.failures.items ≡ draft.failures
  pub listed : HasFailures draft.texts draft.failures
  pub formed : made.formed.items ≡ draft.formed

abbrev pub parted : Outline → Finished → Parts
parted outline made = record {
  tree = outline.tree;
  version = outline.version;
  names = outline.names;
  declarations = outline.declarations;
  nodes = made.nodes;
  bodies = outline.bodies;
  texts = made.texts;
  failures = made.failures;
  formed = made.formed;
  first_domain = outline.first_domain;
}

-- these are the parts of the same script
pub is_script_of : (script : Script) (outline : Outline) (made : Finished) (draft : Drafted) (parts : Parts) → IsOutlineOf script outline draft → IsFinished made draft → parts ≡ parted outline made → IsScriptOf script parts
is_script_of script outline made draft parts is finished e =
    rw e (record {
      read = is.read;
      version = is.version;
      names = is.names;
      declarations = is.declarations;
      nodes = finished.nodes ∙ is.nodes;
      bodies = is.bodies;
      texts = finished.texts ∙ is.texts;
      failures = finished.failures ∙ is.failures;
      formed = finished.formed ∙ is.formed;
      first_domain = is.first_domain;
    })

pub is_read : (outline : Outline) (made : Finished) (draft : Drafted) (parts : Parts) → IsOutlined outline draft → IsFinished made draft → parts ≡ parted outline made → IsRead parts
is_read outline made draft parts read finished e = record {
  script = read.script;
  is = is_script_of read.script outline made draft parts read.is finished e;
  few = rw (e, finished.nodes) finished.few;
  failures = rw (e, finished.texts, finished.failures) finished.listed;
}
