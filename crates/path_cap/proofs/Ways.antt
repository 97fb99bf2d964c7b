-- The walk keeps the way down: each directory on it is an inner entry of the one before, from the capability down.
use Rattle.std.proofs.Common.{◌≡◌, ℕ, zero, suc, Bool, true, false, List, [], ◌∷◌, ◌++◌, Some, None, Ok, refl, sym, subst}
use Rattle.eio_value.specs.declared.plain.PathFault.TheVariants.{PermissionDenied, NotFound, TooManyLinks}
use Rattle.spec_parts.specs.Directories.{Tree, File, Link, Inner, directory_at, held_by}
use Rattle.spec_parts.specs.Walk.{Step, Place, Leads, ToDirectory, ToFile, ToLink, ToNothing, Refused, goes_up, goes_down, meets_nothing, meets_file, meets_link, is_up, is_absolute, components, along, onto, walk, resolve}
use Rattle.spec_parts.specs.PathCalls.{opened}
use Rattle.path_cap.specs.Below.{IsBelow, Itself, Under, IsWay}
use Rattle.path_cap.specs.Laws.{LeadsBelow}

pub way_is_below : (tree : Tree) (top here : ℕ) (steps : List Step) → IsWay tree top here steps → IsBelow tree top here
way_is_below tree top here [] way = subst (λ d. IsBelow tree top d) (sym way) Itself
way_is_below tree top here (step ∷ steps) way = Under step.above step.name here (way_is_below tree top step.above steps way.1) way.0

-- what goes on from any place on a way leads below
abbrev GoesOnBelow : Tree → (top : ℕ) → (Place → Leads) → Type 0
GoesOnBelow tree top on = (place : Place) → IsWay tree top place.here place.steps → LeadsBelow tree top (on place)

up_below : (tree : Tree) (top : ℕ) (on : Place → Leads) (here : ℕ) (steps : List Step) → GoesOnBelow tree top on → IsWay tree top here steps → LeadsBelow tree top (goes_up on steps)
up_below tree top on here [] below way = tt
up_below tree top on here (step ∷ steps) below way = below (record { here = step.above; steps = steps }) way.1

nothing_below : (tree : Tree) (top above : ℕ) (name : List ℕ) (rest : List (List ℕ)) → IsBelow tree top above → held_by (directory_at tree above).entries name ≡ None → LeadsBelow tree top (meets_nothing above name rest)
nothing_below tree top above name [] below is = (below, is)
nothing_below tree top above name (next ∷ rest) below is = tt

file_below : (tree : Tree) (top above : ℕ) (name content : List ℕ) (rest : List (List ℕ)) → IsBelow tree top above → held_by (directory_at tree above).entries name ≡ Some (File content) → LeadsBelow tree top (meets_file above name content rest)
file_below tree top above name content [] below is = (below, is)
file_below tree top above name content (next ∷ rest) below is = tt

link_below : (tree : Tree) (top : ℕ) (follow : Bool) (above : ℕ) (name target : List ℕ) (rest : List (List ℕ)) (on : List (List ℕ) → Leads) → IsBelow tree top above → held_by (directory_at tree above).entries name ≡ Some (Link target) → LeadsBelow tree top (on rest) → LeadsBelow tree top (meets_link follow above name target rest on)
link_below tree top false above name target [] on below is goes = (below, is)
link_below tree top false above name target (next ∷ rest) on below is goes = goes
link_below tree top true above name target rest on below is goes = goes

-- where a link leads below from any place on a way, the walk along components does
abbrev LinksLeadBelow : Tree → (top : ℕ) → (Place → List ℕ → List (List ℕ) → Leads) → Type 0
LinksLeadBelow tree top by_link = (place : Place) (target : List ℕ) (rest : List (List ℕ)) → IsWay tree top place.here place.steps → LeadsBelow tree top (by_link place target rest)

along_below : (tree : Tree) (top : ℕ) (follow : Bool) (by_link : Place → List ℕ → List (List ℕ) → Leads) → LinksLeadBelow tree top by_link → (place : Place) (names : List (List ℕ)) → IsWay tree top place.here place.steps → LeadsBelow tree top (along tree follow by_link place names)
unfolding along
along_below tree top follow by_link links place [] way = (way_is_below tree top place.here place.steps way, way)
along_below tree top follow by_link links place (name ∷ rest) way =
    let here = way_is_below tree top place.here place.steps way in
    elim (is_up name) as (λ up. LeadsBelow tree top (elim up [
      | true ↦ goes_up (λ up. along tree follow by_link up rest) place.steps
      | false ↦ elim (held_by (directory_at tree place.here).entries name) [
        | None ↦ meets_nothing place.here name rest
        | Some (File content) ↦ meets_file place.here name content rest
        | Some (Link target) ↦ meets_link follow place.here name target rest (λ others. by_link place target others)
        | Some (Inner directory) ↦ along tree follow by_link (goes_down place name directory) rest
      ]
    ])) [
      | true ↦ up_below tree top (λ up. along tree follow by_link up rest) place.here place.steps (λ up upward. along_below tree top follow by_link links up rest upward) way
      | false ↦ (elim (held_by (directory_at tree place.here).entries name) as (λ held. held_by (directory_at tree place.here).entries name ≡ held → LeadsBelow tree top (elim held [
        | None ↦ meets_nothing place.here name rest
        | Some (File content) ↦ meets_file place.here name content rest
        | Some (Link target) ↦ meets_link follow place.here name target rest (λ others. by_link place target others)
        | Some (Inner directory) ↦ along tree follow by_link (goes_down place name directory) rest
      ])) [
        | None ↦ λ is. nothing_below tree top place.here name rest here is
        | Some (File content) ↦ λ is. file_below tree top place.here name content rest here is
        | Some (Link target) ↦ λ is. link_below tree top follow place.here name target rest (λ others. by_link place target others) here is (links place target rest way)
        | Some (Inner directory) ↦ λ is. along_below tree top follow by_link links (goes_down place name directory) rest (is, way)
      ]) refl
    ]

onto_below : (tree : Tree) (top : ℕ) (path : List ℕ) (rest : List (List ℕ)) (on : List (List ℕ) → Leads) → ((names : List (List ℕ)) → LeadsBelow tree top (on names)) → LeadsBelow tree top (onto path rest on)
onto_below tree top path rest on below = elim (is_absolute path) as (λ absolute. LeadsBelow tree top (elim absolute [ true ↦ Refused PermissionDenied | false ↦ on (components path ++ rest) ])) [ true ↦ tt | false ↦ below (components path ++ rest) ]

walk_below : (tree : Tree) (top : ℕ) (follow : Bool) (links : ℕ) (place : Place) (names : List (List ℕ)) → IsWay tree top place.here place.steps → LeadsBelow tree top (walk links tree follow place names)
unfolding walk
walk_below tree top follow zero place names way = along_below tree top follow (λ place target rest. Refused TooManyLinks) (λ place target rest way. tt) place names way
walk_below tree top follow (suc links) place names way =
    along_below tree top follow (λ place target rest. onto target rest (walk links tree follow place))
    (λ place target rest on_way. onto_below tree top target rest (walk links tree follow place) (λ names. walk_below tree top follow links place names on_way)) place names way

pub resolve_below : (tree : Tree) (capability : ℕ) (path : List ℕ) (follow : Bool) → LeadsBelow tree capability (resolve tree capability path follow)
resolve_below tree capability path follow =
    elim (directory_at tree capability).removed as (λ removed. LeadsBelow tree capability (elim removed [
      | true ↦ Refused NotFound
      | false ↦ onto path [] (walk 40 tree follow (record { here = capability; steps = [] }))
    ])) [
      | true ↦ tt
      | false ↦ onto_below tree capability path [] (walk 40 tree follow (record { here = capability; steps = [] })) (λ names. walk_below tree capability follow 40 (record { here = capability; steps = [] }) names refl)
    ]

pub opened_below : (tree : Tree) (top : ℕ) (leads : Leads) (directory : ℕ) → LeadsBelow tree top leads → opened leads ≡ Ok directory → IsBelow tree top directory
opened_below tree top (ToDirectory place) directory below e = let same : place.here ≡ directory = cc in subst (λ d. IsBelow tree top d) same below.0
opened_below tree top (ToFile above name content) directory below e = cc
opened_below tree top (ToLink above name target) directory below e = cc
opened_below tree top (ToNothing above name) directory below e = cc
opened_below tree top (Refused fault) directory below e = cc

pub opened_here : (tree : Tree) (top : ℕ) (path : List ℕ) (follow : Bool) (place : Place) (here : ℕ) → ToDirectory place ≡ resolve tree top path follow → here ≡ place.here → IsBelow tree top here
opened_here tree top path follow place here is same =
    let below = subst (λ leads. LeadsBelow tree top leads) (sym is) (resolve_below tree top path follow) in
    subst (λ d. IsBelow tree top d) (sym same) below.0
