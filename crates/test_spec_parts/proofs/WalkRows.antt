-- Where paths lead: up and down, past gaps, and against files.
-- The directory has a (with b, which has a file f of content "deep") and a file g of content "G".
use Rattle.std.proofs.Common.{◌≡◌, [], ◌∷◌, refl}
use Rattle.std.specs.Prelude.{Ok, Err, codes}
use Rattle.eio_value.specs.Directory as scripted
use Rattle.eio_value.specs.declared.plain.PathFault.TheVariants.{PermissionDenied, NotFound, AlreadyExists, NotDirectory, IsDirectory, NotEmpty}
use Rattle.spec_parts.specs.declared.path_kind.PathKind.TheVariants as kinds
use Rattle.spec_parts.specs.Directories.{Tree, File, Inner, entry, Directory, directory, declared_tree, placed, placed_item}
use Rattle.spec_parts.specs.Walk.{along, walk, components}
use Rattle.spec_parts.specs.PathCalls.{open_dir, read_dir, load, save, save_new, mkdir, unlink, rmdir, kind}

abbrev b : Directory
b = directory (entry (codes "f") (File (codes "deep")) ∷ [])

abbrev a : Directory
a = directory (entry (codes "b") (Inner 2) ∷ [])

abbrev top : Tree
top = directory (entry (codes "a") (Inner 1) ∷ entry (codes "g") (File (codes "G")) ∷ []) ∷ a ∷ b ∷ []

-- a directory within comes before what stands behind it: its number is the next
declared_top : declared_tree (scripted.And (scripted.File (codes "g") (codes "G")) (scripted.And (scripted.Sub (codes "a") (scripted.And (scripted.Sub (codes "b") (scripted.And (scripted.File (codes "f") (codes "deep")) scripted.Empty)) scripted.Empty)) scripted.Empty)) ≡ top
unfolding placed placed_item
declared_top = refl

numbers_in_order : declared_tree (scripted.And (scripted.Sub (codes "y") (scripted.And (scripted.Sub (codes "z") scripted.Empty) scripted.Empty)) (scripted.And (scripted.Sub (codes "x") scripted.Empty) scripted.Empty)) ≡ directory (entry (codes "x") (Inner 3) ∷ entry (codes "y") (Inner 1) ∷ []) ∷ directory (entry (codes "z") (Inner 2) ∷ []) ∷ directory [] ∷ directory [] ∷ []
unfolding placed placed_item
numbers_in_order = refl

-- names stand in the order of their bytes: capitals first, and a name before those that it begins
names_in_order : read_dir (directory (entry (codes "B") (File []) ∷ entry (codes "a") (File []) ∷ entry (codes "ab") (File []) ∷ []) ∷ []) 0 [] ≡ Ok (codes "B" ∷ codes "a" ∷ codes "ab" ∷ [])
unfolding along walk
names_in_order = refl

placed_in_order : declared_tree (scripted.And (scripted.File (codes "ab") []) (scripted.And (scripted.File (codes "a") []) (scripted.And (scripted.File (codes "B") []) scripted.Empty))) ≡ directory (entry (codes "B") (File []) ∷ entry (codes "a") (File []) ∷ entry (codes "ab") (File []) ∷ []) ∷ []
unfolding placed placed_item
placed_in_order = refl

-- empty components and `.` ask for nothing

parts : components (codes "a//./b/.x/") ≡ codes "a" ∷ codes "b" ∷ codes ".x" ∷ []
parts = refl

gaps : load top 0 (codes "a//./b/f") ≡ Ok (codes "deep")
unfolding along walk
gaps = refl

behind_a_file : load top 0 (codes "g/./") ≡ Ok (codes "G")
unfolding along walk
behind_a_file = refl

below_a_file : load top 0 (codes "g/..") ≡ Err NotDirectory
unfolding along walk
below_a_file = refl

-- a path that begins with `/` is refused, also where it leads nowhere else
absolute : kind top 0 (codes "/") ≡ Err PermissionDenied
unfolding along walk
absolute = refl

absolute_file : load top 0 (codes "//g") ≡ Err PermissionDenied
unfolding along walk
absolute_file = refl

-- the first component that fails decides

up_before_nothing : load top 0 (codes "../q/r") ≡ Err PermissionDenied
unfolding along walk
up_before_nothing = refl

nothing_before_up : load top 0 (codes "q/../../g") ≡ Err NotFound
unfolding along walk
nothing_before_up = refl

up_at_a_depth : load top 0 (codes "a/b/../../g") ≡ Ok (codes "G")
unfolding along walk
up_at_a_depth = refl

up_once_too_often : load top 0 (codes "a/../../g") ≡ Err PermissionDenied
unfolding along walk
up_once_too_often = refl

-- an empty path names the directory itself, and so does one that ends in `..`

empty_path : kind top 0 [] ≡ Ok kinds.Dir
unfolding along walk
empty_path = refl

load_empty : load top 0 [] ≡ Err IsDirectory
unfolding along walk
load_empty = refl

unlink_empty : unlink top 0 (codes ".") ≡ Err IsDirectory
unfolding along walk
unlink_empty = refl

open_up : open_dir top 0 (codes "a/b/..") ≡ Ok 1
unfolding along walk
open_up = refl

make_up : mkdir top 0 (codes "a/b/..") ≡ Err AlreadyExists
unfolding along walk
make_up = refl

save_empty : save top 0 [] (codes "x") ≡ Err IsDirectory
unfolding along walk
save_empty = refl

-- the last component alone may be made

make_last : mkdir top 0 (codes "a/q/") ≡ Ok (directory (entry (codes "a") (Inner 1) ∷ entry (codes "g") (File (codes "G")) ∷ []) ∷ directory (entry (codes "b") (Inner 2) ∷ entry (codes "q") (Inner 3) ∷ []) ∷ b ∷ directory [] ∷ [])
unfolding along walk
make_last = refl

make_two : mkdir top 0 (codes "q/r") ≡ Err NotFound
unfolding along walk
make_two = refl

make_below_a_file : save_new top 0 (codes "g/q") [] ≡ Err NotDirectory
unfolding along walk
make_below_a_file = refl

-- the capability's own directory isn't removed, by any path; one that is gone up to has an entry

remove_empty : rmdir top 0 [] ≡ Err PermissionDenied
unfolding along walk
remove_empty = refl

remove_own : rmdir top 0 (codes "a/..") ≡ Err PermissionDenied
unfolding along walk
remove_own = refl

remove_own_of_a : rmdir top 1 (codes "b/..") ≡ Err PermissionDenied
unfolding along walk
remove_own_of_a = refl

remove_up : rmdir top 0 (codes "a/b/..") ≡ Err NotEmpty
unfolding along walk
remove_up = refl

-- a capability below: its directory is the highest

from_a : load top 1 (codes "b/../b/f") ≡ Ok (codes "deep")
unfolding along walk
from_a = refl

out_of_a : load top 1 (codes "b/../../g") ≡ Err PermissionDenied
unfolding along walk
out_of_a = refl
