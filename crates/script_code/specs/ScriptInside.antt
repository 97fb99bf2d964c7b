-- A script as it is kept: its nodes are those of its bodies, and the tree that it was read from says what it is.
use Rattle.std.specs.Prelude.{◌≡◌, ◌<◌, ◌^◌, length, map, take, Ok}
use Rattle.spec_script.specs.Scripts.{Script, script_of}
use Rattle.spec_script.specs.Opening.{opening_texts}
use Rattle.script_forms.specs.Declaring.{declaration_of}
use Rattle.script_forms.specs.Failures.{HasFailures}
use Rattle.script_forms.specs.Flat.{number_of, flat_bodies}
use Rattle.script_code.specs.Unflat.{bodies_of}
use Rattle.script_code.specs.declared.script.Parts.{Parts}
use Rattle.script_code.specs.declared.script.Script.TheInside.{Inside}

abbrev pub view_of : Inside → Script
view_of it = record {
  version = it.version;
  names = it.names.items;
  declarations = map declaration_of it.declarations.items;
  bodies = bodies_of it.bodies.items it.nodes.items;
  texts = take it.own_texts it.table;
  failures = it.failures.items;
  formed = it.formed.items;
  first_domain = it.first_domain;
}

pub record IsWhole (it : Inside) : Type 0 where
  pub read : script_of it.tree ≡ Ok (view_of it)
  pub nodes : it.nodes.items ≡ flat_bodies 0 (view_of it).bodies
  pub bodies : it.bodies.items ≡ map number_of (view_of it).bodies
  pub few : length it.nodes.items < 2 ^ 32
  pub table : it.table ≡ opening_texts (view_of it)

-- what was read is this script
pub record IsScriptOf (script : Script) (parts : Parts) : Type 0 where
  pub read : script_of parts.tree ≡ Ok script
  pub version : parts.version ≡ script.version
  pub names : parts.names.items ≡ script.names
  pub declarations : map declaration_of parts.declarations.items ≡ script.declarations
  pub nodes : parts.nodes.items ≡ flat_bodies 0 script.bodies
  pub bodies : parts.bodies.items ≡ map number_of script.bodies
  pub texts : parts.texts ≡ script.texts
  pub failures : parts.failures.items ≡ script.failures
  pub formed : parts.formed.items ≡ script.formed
  pub first_domain : parts.first_domain ≡ script.first_domain

-- what was read is a script: 32 bits number its nodes, and the texts with which a fiber may fail stand in its table
pub record IsRead (parts : Parts) : Type 0 where
  pub script : Script
  pub is : IsScriptOf script parts
  pub few : length parts.nodes.items < 2 ^ 32
  pub failures : HasFailures parts.texts parts.failures.items
