-- A script that was read is made of its parts.
use Rattle.std.proofs.Common.{◌≡◌, ℕ, ◌<◌, ◌^◌, List, ◌++◌, length, map, take, Ok, ap, sym, ◌∙◌}
use Rattle.std.specs.Prelude.{fold}
use Rattle.eio_value.specs.declared.value.TextId.{TextId}
use Rattle.eio_value.specs.declared.plain.Plain.TheVariants.{Failure}
use Rattle.spec_script.specs.Opening.{with_bound, textless, opening_texts}
use Rattle.spec_script.specs.Scripts.{Script}
use Rattle.script_forms.specs.Flat.{number_of, flat_bodies}
use Rattle.script_code.specs.Unflat.{bodies_of}
use Rattle.script_code.specs.ScriptCode.{bodies_of-flat}
use Rattle.script_code.specs.ScriptInside.{view_of, IsWhole, IsScriptOf}
use Rattle.script_code.specs.declared.script.Parts.{Parts}
use Rattle.script_code.specs.declared.script.Script.TheInside.{Inside}
use Rattle.script_code.proofs.OwnTexts.{own_texts}

abbrev pub inside_of : Parts → (table : List (List ℕ)) → (own : ℕ) → Inside
inside_of parts table own = record {
  tree = parts.tree;
  version = parts.version;
  names = parts.names;
  declarations = parts.declarations;
  nodes = parts.nodes;
  bodies = parts.bodies;
  table = table;
  own_texts = own;
  failures = parts.failures;
  formed = parts.formed;
  first_domain = parts.first_domain;
}

same_script : (a b : Script) → a.version ≡ b.version → a.names ≡ b.names → a.declarations ≡ b.declarations → a.bodies ≡ b.bodies → a.texts ≡ b.texts → a.failures ≡ b.failures → a.formed ≡ b.formed → a.first_domain ≡ b.first_domain → a ≡ b
same_script a b version names declarations bodies texts failures formed first_domain = λ i. record {
  version = version i;
  names = names i;
  declarations = declarations i;
  bodies = bodies i;
  texts = texts i;
  failures = failures i;
  formed = formed i;
  first_domain = first_domain i;
}

-- what is kept is seen as the script
pub view_is : (script : Script) (parts : Parts) (table : List (List ℕ)) (own : ℕ) → IsScriptOf script parts → own ≡ length parts.texts → table ≡ fold with_bound parts.texts (map Failure parts.failures.items ++ textless)
    → view_of (inside_of parts table own) ≡ script
view_is script parts table own is count opened =
    same_script (view_of (inside_of parts table own)) script
    is.version
    is.names
    is.declarations
    (ap (bodies_of parts.bodies.items) is.nodes ∙ (ap (λ numbers. bodies_of numbers (flat_bodies 0 script.bodies)) is.bodies ∙ bodies_of-flat script.bodies))
    (ap (λ n. take n table) count ∙ (ap (take (length parts.texts)) opened ∙ (own_texts parts.texts (map Failure parts.failures.items ++ textless) ∙ is.texts)))
    is.failures
    is.formed
    is.first_domain

opened_is : (script : Script) (texts : List (List ℕ)) (failures : List TextId) → texts ≡ script.texts → failures ≡ script.failures → fold with_bound texts (map Failure failures ++ textless) ≡ opening_texts script
unfolding opening_texts
opened_is script texts failures same_texts same_failures =
    ap (λ these. fold with_bound these (map Failure failures ++ textless)) same_texts ∙ ap (λ these. fold with_bound script.texts (map Failure these ++ textless)) same_failures

-- and is whole
pub made_whole : (script : Script) (parts : Parts) (table : List (List ℕ)) (own : ℕ) → IsScriptOf script parts → own ≡ length parts.texts → table ≡ fold with_bound parts.texts (map Failure parts.failures.items ++ textless)
    → length parts.nodes.items < 2 ^ 32 → IsWhole (inside_of parts table own)
made_whole script parts table own is count opened few =
    let view = view_is script parts table own is count opened in
    record {
      read = is.read ∙ ap Ok (sym view);
      nodes = is.nodes ∙ ap (λ (s : Script). flat_bodies 0 s.bodies) (sym view);
      bodies = is.bodies ∙ ap (λ (s : Script). map number_of s.bodies) (sym view);
      few = few;
      table = opened ∙ (opened_is script parts.texts parts.failures.items is.texts is.failures ∙ ap opening_texts (sym view));
    }
