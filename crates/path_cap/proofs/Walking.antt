-- The walk, one component at a time.
use Rattle.std.proofs.Common.{◌≡◌, ℕ, zero, suc, Bool, true, false, List, [], ◌∷◌, Option, Some, None, refl, ap, sym, ◌∙◌, ◌||◌, not, ◌↔◌, true≢false}
use Rattle.spec_parts.specs.Directories.{Tree, Held, File, Link, Inner, directory_at, held_by}
use Rattle.spec_parts.specs.Walk.{Step, Place, Leads, ToDirectory, ToNothing, Refused, is_up, goes_up, goes_down, meets_nothing, meets_file, meets_link, along, walk}
use Rattle.std.specs.Prelude.{IsTrue}
use Rattle.eio_value.specs.declared.plain.PathFault.TheVariants.{NotFound, NotDirectory}
use Rattle.path_cap.specs.Nodes.{held_of}
use Rattle.path_cap.specs.Leading.{to_file, to_link, by_link}
use Rattle.path_cap.specs.declared.item.HeldNode.{HeldNode}

-- the walk along components that goes on at a link as one does that follows so many
walk_is : (links : ℕ) (tree : Tree) (follow : Bool) (place : Place) (names : List (List ℕ)) → walk links tree follow place names ≡ along tree follow (by_link links tree follow) place names
unfolding walk
walk_is zero tree follow place names = refl
walk_is (suc links) tree follow place names = refl

pub walk_ends : (links : ℕ) (tree : Tree) (follow : Bool) (place : Place) → walk links tree follow place [] ≡ ToDirectory place
unfolding along
walk_ends links tree follow place = walk_is links tree follow place []

goes_up_alike : (f g : Place → Leads) → ((place : Place) → f place ≡ g place) → (steps : List Step) → goes_up f steps ≡ goes_up g steps
goes_up_alike f g alike [] = refl
goes_up_alike f g alike (step ∷ steps) = alike (record { here = step.above; steps = steps })

-- what a walk does at a component, by whether that goes up and what stands under it
abbrev turn : Tree → (follow : Bool) → (Place → List ℕ → List (List ℕ) → Leads) → Place → (name : List ℕ) → (rest : List (List ℕ)) → Bool → Option Held → Leads
turn tree follow on place name rest up held = elim up [
  | true ↦ goes_up (λ up. along tree follow on up rest) place.steps
  | false ↦ elim held [
    | None ↦ meets_nothing place.here name rest
    | Some (File content) ↦ meets_file place.here name content rest
    | Some (Link target) ↦ meets_link follow place.here name target rest (λ others. on place target others)
    | Some (Inner directory) ↦ along tree follow on (goes_down place name directory) rest
  ]
]

along_turns : (tree : Tree) (follow : Bool) (on : Place → List ℕ → List (List ℕ) → Leads) (place : Place) (name : List ℕ) (rest : List (List ℕ)) → along tree follow on place (name ∷ rest) ≡ turn tree follow on place name rest (is_up name) (held_by (directory_at tree place.here).entries name)
unfolding along
along_turns tree follow on place name rest = refl

along_up : (tree : Tree) (follow : Bool) (on : Place → List ℕ → List (List ℕ) → Leads) (place : Place) (name : List ℕ) (rest : List (List ℕ)) → is_up name ≡ true → along tree follow on place (name ∷ rest) ≡ goes_up (λ up. along tree follow on up rest) place.steps
along_up tree follow on place name rest up =
    along_turns tree follow on place name rest ∙ ap (λ (b : Bool). turn tree follow on place name rest b (held_by (directory_at tree place.here).entries name)) up

along_met : (tree : Tree) (follow : Bool) (on : Place → List ℕ → List (List ℕ) → Leads) (place : Place) (name : List ℕ) (rest : List (List ℕ)) (held : Option Held) → is_up name ≡ false → held_by (directory_at tree place.here).entries name ≡ held → along tree follow on place (name ∷ rest) ≡ turn tree follow on place name rest false held
along_met tree follow on place name rest held no_up is =
    along_turns tree follow on place name rest
    ∙ (ap (λ (b : Bool). turn tree follow on place name rest b (held_by (directory_at tree place.here).entries name)) no_up ∙ ap (λ (h : Option Held). turn tree follow on place name rest false h) is)

pub walk_up : (links : ℕ) (tree : Tree) (follow : Bool) (place : Place) (name : List ℕ) (rest : List (List ℕ)) → is_up name ≡ true → walk links tree follow place (name ∷ rest) ≡ goes_up (λ up. walk links tree follow up rest) place.steps
walk_up links tree follow place name rest up =
    walk_is links tree follow place (name ∷ rest)
    ∙ (along_up tree follow (by_link links tree follow) place name rest up
    ∙ goes_up_alike (λ up. along tree follow (by_link links tree follow) up rest) (λ up. walk links tree follow up rest) (λ up. sym (walk_is links tree follow up rest)) place.steps)

pub walk_nothing : (links : ℕ) (tree : Tree) (follow : Bool) (place : Place) (name : List ℕ) (rest : List (List ℕ)) → is_up name ≡ false → held_by (directory_at tree place.here).entries name ≡ None → walk links tree follow place (name ∷ rest) ≡ meets_nothing place.here name rest
walk_nothing links tree follow place name rest no_up held = walk_is links tree follow place (name ∷ rest) ∙ along_met tree follow (by_link links tree follow) place name rest None no_up held

pub walk_file : (links : ℕ) (tree : Tree) (follow : Bool) (place : Place) (name content : List ℕ) (rest : List (List ℕ)) → is_up name ≡ false → held_by (directory_at tree place.here).entries name ≡ Some (File content) → walk links tree follow place (name ∷ rest) ≡ meets_file place.here name content rest
walk_file links tree follow place name content rest no_up held = walk_is links tree follow place (name ∷ rest) ∙ along_met tree follow (by_link links tree follow) place name rest (Some (File content)) no_up held

pub walk_link : (links : ℕ) (tree : Tree) (follow : Bool) (place : Place) (name target : List ℕ) (rest : List (List ℕ)) → is_up name ≡ false → held_by (directory_at tree place.here).entries name ≡ Some (Link target) → walk links tree follow place (name ∷ rest) ≡ meets_link follow place.here name target rest (by_link links tree follow place target)
walk_link links tree follow place name target rest no_up held = walk_is links tree follow place (name ∷ rest) ∙ along_met tree follow (by_link links tree follow) place name rest (Some (Link target)) no_up held

pub walk_inner : (links : ℕ) (tree : Tree) (follow : Bool) (place : Place) (name : List ℕ) (directory : ℕ) (rest : List (List ℕ)) → is_up name ≡ false → held_by (directory_at tree place.here).entries name ≡ Some (Inner directory) → walk links tree follow place (name ∷ rest) ≡ walk links tree follow (goes_down place name directory) rest
walk_inner links tree follow place name directory rest no_up held =
    walk_is links tree follow place (name ∷ rest)
    ∙ (along_met tree follow (by_link links tree follow) place name rest (Some (Inner directory)) no_up held ∙ sym (walk_is links tree follow (goes_down place name directory) rest))

-- a walk that has come to a place goes on as the whole walk does
pub onward : (links : ℕ) (tree : Tree) (follow : Bool) (place : Place) (left names : List (List ℕ)) (there whole : Leads) → walk links tree follow place left ≡ whole → left ≡ names → walk links tree follow place names ≡ there → there ≡ whole
onward links tree follow place left names there whole so_far same goes = sym goes ∙ (ap (λ (ns : List (List ℕ)). walk links tree follow place ns) (sym same) ∙ so_far)

-- what a look for a name found stands under it
pub holds : (tree : Tree) (here at : ℕ) (name slice : List ℕ) (node known : HeldNode) → Some (held_of node) ≡ held_by (directory_at tree at).entries slice → at ≡ here → slice ≡ name → node ≡ known → held_by (directory_at tree here).entries name ≡ Some (held_of known)
holds tree here at name slice node known found same_at same_name same_node = cc

pub holds_nothing : (tree : Tree) (here at : ℕ) (name slice : List ℕ) → None ≡ held_by (directory_at tree at).entries slice → at ≡ here → slice ≡ name → held_by (directory_at tree here).entries name ≡ None
holds_nothing tree here at name slice found same_at same_name = cc

-- what isn't there ends the walk, as the last name or not
pub nothing_last : (above : ℕ) (name : List ℕ) (rest : List (List ℕ)) → rest ≡ [] → ToNothing above name ≡ meets_nothing above name rest
nothing_last above name rest none = sym (ap (meets_nothing above name) none)

pub nothing_before : (above : ℕ) (name : List ℕ) (rest : List (List ℕ)) (is_last : Bool) → (IsTrue is_last ↔ (rest ≡ [])) → is_last ≡ false → Refused NotFound ≡ meets_nothing above name rest
nothing_before above name [] is_last last before = absurd (true≢false (sym (last.1 refl) ∙ before))
nothing_before above name (next ∷ rest) is_last last before = refl

-- and so does a file
pub file_last : (tree : Tree) (above : ℕ) (name content : List ℕ) (rest : List (List ℕ)) → rest ≡ [] → held_by (directory_at tree above).entries name ≡ Some (File content) → to_file above name (held_by (directory_at tree above).entries name) ≡ meets_file above name content rest
file_last tree above name content rest none held = ap (to_file above name) held ∙ sym (ap (meets_file above name content) none)

pub file_before : (above : ℕ) (name content : List ℕ) (rest : List (List ℕ)) (is_last : Bool) → (IsTrue is_last ↔ (rest ≡ [])) → is_last ≡ false → Refused NotDirectory ≡ meets_file above name content rest
file_before above name content [] is_last last before = absurd (true≢false (sym (last.1 refl) ∙ before))
file_before above name content (next ∷ rest) is_last last before = refl

-- a link that isn't the last name, or in a call that follows, is followed
pub link_goes : (follow : Bool) (above : ℕ) (name target : List ℕ) (rest : List (List ℕ)) (on : List (List ℕ) → Leads) (is_last : Bool) → (IsTrue is_last ↔ (rest ≡ [])) → (follow || not is_last) ≡ true → meets_link follow above name target rest on ≡ on rest
link_goes true above name target rest on is_last last goes = refl
link_goes false above name target (next ∷ rest) on is_last last goes = refl
link_goes false above name target [] on true last goes = absurd (true≢false (sym goes))
link_goes false above name target [] on false last goes = absurd (true≢false (sym (last.1 refl)))

pub link_ends : (tree : Tree) (follow : Bool) (above : ℕ) (name target : List ℕ) (rest : List (List ℕ)) (on : List (List ℕ) → Leads) (is_last : Bool) → (IsTrue is_last ↔ (rest ≡ [])) → (follow || not is_last) ≡ false → held_by (directory_at tree above).entries name ≡ Some (Link target) → to_link above name (held_by (directory_at tree above).entries name) ≡ meets_link follow above name target rest on
link_ends tree true above name target rest on is_last last ends held = absurd (true≢false ends)
link_ends tree false above name target rest on false last ends held = absurd (true≢false ends)
link_ends tree false above name target [] on true last ends held = ap (to_link above name) held
link_ends tree false above name target (next ∷ rest) on true last ends held = let none : next ∷ rest ≡ [] = last.0 refl in cc
