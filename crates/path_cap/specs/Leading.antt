-- Where a path leads in code, as the definitions see it.
use Rattle.std.specs.Prelude.{ℕ, zero, suc, Bool, List, [], Option, Some}
use Rattle.eio_value.specs.declared.plain.PathFault.TheVariants.{TooManyLinks}
use Rattle.spec_parts.specs.Directories.{Tree, Held, File, Link, directory_at, held_by}
use Rattle.spec_parts.specs.Walk as model
use Rattle.path_cap.specs.declared.walk.Leads.{Leads}
use Rattle.path_cap.specs.declared.walk.Leads.TheVariants as leads

-- the content of a file, and the target of a link; of anything else none
abbrev pub content_in : Option Held → List ℕ
content_in (Some (File content)) = content
content_in _ = []

abbrev pub target_in : Option Held → List ℕ
target_in (Some (Link target)) = target
target_in _ = []

-- to the file, to the link that stands under a name
abbrev pub to_file : (above : ℕ) → (name : List ℕ) → Option Held → model.Leads
to_file above name held = model.ToFile above name (content_in held)

abbrev pub to_link : (above : ℕ) → (name : List ℕ) → Option Held → model.Leads
to_link above name held = model.ToLink above name (target_in held)

-- in code a way to a file or a link leaves out what that holds; the tree has it
abbrev pub leads_of : Tree → Leads → model.Leads
leads_of tree (leads.ToDirectory place) = model.ToDirectory place
leads_of tree (leads.ToFile above name) = to_file above name (held_by (directory_at tree above).entries name)
leads_of tree (leads.ToLink above name) = to_link above name (held_by (directory_at tree above).entries name)
leads_of tree (leads.ToNothing above name) = model.ToNothing above name
leads_of tree (leads.Refused fault) = model.Refused fault

-- how a walk that follows no more than so many links goes on at a link
abbrev pub by_link : (links : ℕ) → Tree → (follow : Bool) → model.Place → (target : List ℕ) → (rest : List (List ℕ)) → model.Leads
by_link zero tree follow place target rest = model.Refused TooManyLinks
by_link (suc links) tree follow place target rest = model.onto target rest (model.walk links tree follow place)
