-- What was read of a script, beside its draft, is a script.
use Rattle.std.specs.Prelude.{◌≡◌, map, Ok}
use Rattle.spec_script.specs.Scripts.{Script, script_of}
use Rattle.script_forms.specs.Declaring.{declaration_of}
use Rattle.script_forms.specs.Flat.{number_of, flat_bodies}
use Rattle.script_draft.specs.Drafts.{Drafted}
use Rattle.script_lang.specs.declared.reader.Outline.{Outline}

-- it is this script
pub record IsOutlineOf (script : Script) (outline : Outline) (draft : Drafted) : Type 0 where
  pub read : script_of outline.tree ≡ Ok script
  pub version : outline.version ≡ script.version
  pub names : outline.names.items ≡ script.names
  pub declarations : map declaration_of outline.declarations.items ≡ script.declarations
  pub bodies : outline.bodies.items ≡ map number_of script.bodies
  pub nodes : draft.nodes ≡ flat_bodies 0 script.bodies
  pub texts : draft.texts ≡ script.texts
  pub failures : draft.failures ≡ script.failures
  pub formed : draft.formed ≡ script.formed
  pub first_domain : outline.first_domain ≡ script.first_domain

pub record IsOutlined (outline : Outline) (draft : Drafted) : Type 0 where
  pub script : Script
  pub is : IsOutlineOf script outline draft
