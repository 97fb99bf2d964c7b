-- Where a path leads below a capability.
-- A path is cut at `/`; empty components and `.` ask for nothing. The walk goes by components and keeps the way down from the
-- capability, so `..` goes back up that way and never above the capability. The components of a link's target take the link's
-- place. The first component that fails decides, and no more than 40 links are followed.
use Rattle.std.specs.Prelude.{ℕ, zero, suc, Bool, true, false, ◌||◌, ◌==◌, not, List, [], ◌∷◌, ◌++◌, filter, bytes_eq, Some, None}
use Rattle.std.specs.List.{slice_split}
use Rattle.eio_value.specs.declared.plain.PathFault.{PathFault}
use Rattle.eio_value.specs.declared.plain.PathFault.TheVariants.{PermissionDenied, NotFound, NotDirectory, TooManyLinks}
use Rattle.spec_parts.specs.Directories.{Tree, File, Link, Inner, directory_at, held_by}

-- a component that asks for nothing: an empty one, or `.`
abbrev pub asks_nothing : List ℕ → Bool
asks_nothing component = bytes_eq component [] || bytes_eq component (46 ∷ [])

abbrev pub is_up : List ℕ → Bool
is_up component = bytes_eq component (46 ∷ 46 ∷ [])

-- the components of a path
abbrev pub components : List ℕ → List (List ℕ)
components path = filter (λ component. not (asks_nothing component)) (slice_split (λ b. b == 47) path)

-- whether a path begins with `/`
abbrev pub is_absolute : List ℕ → Bool
is_absolute [] = false
is_absolute (b ∷ path) = b == 47

-- a step down: the directory that it was made in, and the name
pub record Step : Type 0 where
  pub above : ℕ
  pub name : List ℕ

-- a place on the way: a directory, and the steps that lead to it from the capability, the last one first
pub record Place : Type 0 where
  pub here : ℕ
  pub steps : List Step

-- where a path leads
pub data Leads : Type 0 where
  -- to a directory
  ToDirectory : Place → Leads
  -- to a file of this name in a directory
  ToFile : (above : ℕ) → (name content : List ℕ) → Leads
  -- to a link, which isn't followed
  ToLink : (above : ℕ) → (name target : List ℕ) → Leads
  -- to nothing: its last component isn't there, but might be made
  ToNothing : (above : ℕ) → (name : List ℕ) → Leads
  Refused : PathFault → Leads

-- `..` goes back up, and not above the capability
abbrev pub goes_up : (Place → Leads) → List Step → Leads
goes_up on [] = Refused PermissionDenied
goes_up on (step ∷ steps) = on (record { here = step.above; steps = steps })

-- a component that isn't there
abbrev pub meets_nothing : (above : ℕ) → (name : List ℕ) → (rest : List (List ℕ)) → Leads
meets_nothing above name [] = ToNothing above name
meets_nothing above name (_ ∷ _) = Refused NotFound

-- a component that is a file
abbrev pub meets_file : (above : ℕ) → (name content : List ℕ) → (rest : List (List ℕ)) → Leads
meets_file above name content [] = ToFile above name content
meets_file above name content (_ ∷ _) = Refused NotDirectory

-- a component that is a link, where `on` follows it: only a last one may be left as it is
abbrev pub meets_link : (follow : Bool) → (above : ℕ) → (name target : List ℕ) → (rest : List (List ℕ)) → (List (List ℕ) → Leads) → Leads
meets_link false above name target [] on = ToLink above name target
meets_link _ above name target rest on = on rest

-- a component that is a directory
abbrev pub goes_down : Place → (name : List ℕ) → (directory : ℕ) → Place
goes_down place name directory = record { here = directory; steps = record { above = place.here; name = name } ∷ place.steps }

-- the walk along components, where `by_link place target rest` goes on at a link
unfoldable pub along : Tree → (follow : Bool) → (by_link : Place → List ℕ → List (List ℕ) → Leads) → Place → List (List ℕ) → Leads
along tree follow by_link place [] = ToDirectory place
along tree follow by_link place (name ∷ rest) = elim (is_up name) [
  | true ↦ goes_up (λ up. along tree follow by_link up rest) place.steps
  | false ↦ elim (held_by (directory_at tree place.here).entries name) [
    | None ↦ meets_nothing place.here name rest
    | Some (File content) ↦ meets_file place.here name content rest
    | Some (Link target) ↦ meets_link follow place.here name target rest (λ others. by_link place target others)
    | Some (Inner directory) ↦ along tree follow by_link (goes_down place name directory) rest
  ]
]

-- the components of a path go before those that are left; a path that begins with `/` is refused
abbrev pub onto : (path : List ℕ) → (rest : List (List ℕ)) → (List (List ℕ) → Leads) → Leads
onto path rest on = elim (is_absolute path) [ true ↦ Refused PermissionDenied | false ↦ on (components path ++ rest) ]

-- the walk that follows no more than so many links: one more is refused, whatever its target
unfoldable pub walk : (links : ℕ) → Tree → (follow : Bool) → Place → List (List ℕ) → Leads
walk zero tree follow = along tree follow (λ place target rest. Refused TooManyLinks)
walk (suc links) tree follow = along tree follow (λ place target rest. onto target rest (walk links tree follow place))

abbrev pub most_links : ℕ
most_links = 40

-- where a path leads below a capability, following a last link or not; through a capability whose directory was removed
-- nothing is found
abbrev pub resolve : Tree → (capability : ℕ) → (path : List ℕ) → (follow : Bool) → Leads
resolve tree capability path follow = elim (directory_at tree capability).removed [
  | true ↦ Refused NotFound
  | false ↦ onto path [] (walk most_links tree follow (record { here = capability; steps = [] }))
]
