-- Calls on paths, one after the other, in a directory with an empty directory d, a file f of content F, and a link l to `..`.
use Rattle.std.proofs.Common.{◌≡◌, [], ◌∷◌, Some, None, refl}
use Rattle.std.specs.Prelude.{Ok, Err, codes}
use Rattle.eio_value.specs.Directory as scripted
use Rattle.eio_value.specs.declared.plain.PathFault.TheVariants.{PermissionDenied, NotFound, AlreadyExists, NotDirectory, IsDirectory, NotEmpty, TooManyLinks}
use Rattle.spec_parts.specs.declared.path_kind.PathKind.TheVariants as kinds
use Rattle.spec_parts.specs.Directories.{Tree, File, Link, Inner, Entry, entry, directory, declared_tree, placed, placed_item, joined_names, gone}
use Rattle.spec_parts.specs.Walk.{along, walk}
use Rattle.spec_parts.specs.PathCalls.{open_dir, read_dir, load, save, save_new, mkdir, unlink, rmdir, kind, link_target, tree_after}

abbrev declared : scripted.Directory
declared = scripted.And (scripted.File (codes "f") (codes "F")) (scripted.And (scripted.Sub (codes "d") scripted.Empty) (scripted.And (scripted.Link (codes "l") (codes "..")) scripted.Empty))

abbrev d : Entry
d = entry (codes "d") (Inner 1)

abbrev f : Entry
f = entry (codes "f") (File (codes "F"))

abbrev l : Entry
l = entry (codes "l") (Link (codes ".."))

abbrev first : Tree
first = directory (d ∷ f ∷ l ∷ []) ∷ directory [] ∷ []

declared_one : declared_tree declared ≡ first
unfolding placed placed_item
declared_one = refl

-- what leaves the directory is refused, also through a link; what comes back isn't

through_the_link : load first 0 (codes "l/x") ≡ Err PermissionDenied
unfolding along walk
through_the_link = refl

above_the_top : load first 0 (codes "../x") ≡ Err PermissionDenied
unfolding along walk
above_the_top = refl

down_and_up : load first 0 (codes "d/../f") ≡ Ok (codes "F")
unfolding along walk
down_and_up = refl

top_names : read_dir first 0 [] ≡ Ok (codes "d" ∷ codes "f" ∷ codes "l" ∷ [])
unfolding along walk
top_names = refl

top_names_joined : joined_names (codes "d" ∷ codes "f" ∷ codes "l" ∷ []) ≡ codes "d f l"
top_names_joined = refl

no_names_joined : joined_names [] ≡ []
no_names_joined = refl

-- a directory e is made, once

abbrev e : Entry
e = entry (codes "e") (Inner 2)

abbrev second : Tree
second = directory (d ∷ e ∷ f ∷ l ∷ []) ∷ directory [] ∷ directory [] ∷ []

make_e : mkdir first 0 (codes "e") ≡ Ok second
unfolding along walk
make_e = refl

make_e_again : mkdir second 0 (codes "e") ≡ Err AlreadyExists
unfolding along walk
make_e_again = refl

save_over_e : save second 0 (codes "e") (codes "x") ≡ Err IsDirectory
unfolding along walk
save_over_e = refl

-- a refused call leaves the tree
refused_stays : tree_after second (save second 0 (codes "e") (codes "x")) ≡ second
unfolding along walk
refused_stays = refl

-- a file n is saved, and no new one can be

abbrev third : Tree
third = directory (d ∷ e ∷ f ∷ l ∷ entry (codes "n") (File (codes "x")) ∷ []) ∷ directory [] ∷ directory [] ∷ []

save_n : save second 0 (codes "n") (codes "x") ≡ Ok third
unfolding along walk
save_n = refl

save_new_n : save_new third 0 (codes "n") (codes "y") ≡ Err AlreadyExists
unfolding along walk
save_new_n = refl

save_n_again : save third 0 (codes "n") (codes "y") ≡ Ok (directory (d ∷ e ∷ f ∷ l ∷ entry (codes "n") (File (codes "y")) ∷ []) ∷ directory [] ∷ directory [] ∷ [])
unfolding along walk
save_n_again = refl

load_n : load third 0 (codes "n") ≡ Ok (codes "x")
unfolding along walk
load_n = refl

unlink_n : unlink third 0 (codes "n") ≡ Ok second
unfolding along walk
unlink_n = refl

load_n_unlinked : load second 0 (codes "n") ≡ Err NotFound
unfolding along walk
load_n_unlinked = refl

-- a file in e, so e can't be removed

abbrev fourth : Tree
fourth = directory (d ∷ e ∷ f ∷ l ∷ []) ∷ directory [] ∷ directory (entry (codes "f") (File (codes "y")) ∷ []) ∷ []

save_e_f : save second 0 (codes "e/f") (codes "y") ≡ Ok fourth
unfolding along walk
save_e_f = refl

remove_e_with_f : rmdir fourth 0 (codes "e") ≡ Err NotEmpty
unfolding along walk
remove_e_with_f = refl

below_a_file : load fourth 0 (codes "e/f/g") ≡ Err NotDirectory
unfolding along walk
below_a_file = refl

remove_e : rmdir second 0 (codes "e") ≡ Ok (directory (d ∷ f ∷ l ∷ []) ∷ directory [] ∷ gone ∷ [])
unfolding along walk
remove_e = refl

-- kinds, and targets of links

kind_of_l : kind first 0 (codes "l") ≡ Ok kinds.Link
unfolding along walk
kind_of_l = refl

kind_of_f : kind first 0 (codes "f") ≡ Ok kinds.File
unfolding along walk
kind_of_f = refl

kind_of_d : kind first 0 (codes "d") ≡ Ok kinds.Dir
unfolding along walk
kind_of_d = refl

target_of_l : link_target third 0 (codes "l") ≡ Some (codes "..")
target_of_l = refl

target_of_n : link_target third 0 (codes "n") ≡ None
target_of_n = refl

target_of_nothing : link_target third 0 (codes "q") ≡ None
target_of_nothing = refl

-- a path through the capability of e can't leave e

open_e : open_dir third 0 (codes "e") ≡ Ok 2
unfolding along walk
open_e = refl

n_from_e : load third 2 (codes "../n") ≡ Err PermissionDenied
unfolding along walk
n_from_e = refl

-- what isn't a file, or isn't a directory

load_d : load first 0 (codes "d") ≡ Err IsDirectory
unfolding along walk
load_d = refl

open_f : open_dir first 0 (codes "f") ≡ Err NotDirectory
unfolding along walk
open_f = refl

read_f : read_dir first 0 (codes "f") ≡ Err NotDirectory
unfolding along walk
read_f = refl

unlink_d : unlink first 0 (codes "d") ≡ Err IsDirectory
unfolding along walk
unlink_d = refl

remove_f : rmdir first 0 (codes "f") ≡ Err NotDirectory
unfolding along walk
remove_f = refl

-- a link that leads to itself
link_to_itself : load (directory (entry (codes "a") (Link (codes "a")) ∷ []) ∷ []) 0 (codes "a") ≡ Err TooManyLinks
unfolding along walk
link_to_itself = refl
