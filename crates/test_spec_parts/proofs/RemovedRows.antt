-- Capabilities whose directory was removed.
-- The directory has a directory x, of number 1, and beside it a file g.
use Rattle.std.proofs.Common.{◌≡◌, [], ◌∷◌, None, refl}
use Rattle.std.specs.Prelude.{Ok, Err, codes}
use Rattle.eio_value.specs.declared.plain.PathFault.TheVariants.{NotFound}
use Rattle.spec_parts.specs.Directories.{Tree, File, Inner, Entry, entry, directory, gone}
use Rattle.spec_parts.specs.Walk.{along, walk}
use Rattle.spec_parts.specs.PathCalls.{open_dir, read_dir, load, save, save_new, mkdir, unlink, rmdir, kind, link_target}

abbrev g : Entry
g = entry (codes "g") (File (codes "G"))

abbrev before : Tree
before = directory (g ∷ entry (codes "x") (Inner 1) ∷ []) ∷ directory [] ∷ []

abbrev after : Tree
after = directory (g ∷ []) ∷ gone ∷ []

open_x : open_dir before 0 (codes "x") ≡ Ok 1
unfolding along walk
open_x = refl

-- another capability stands in x, and x can be removed all the same
remove_x : rmdir before 0 (codes "x") ≡ Ok after
unfolding along walk
remove_x = refl

-- then that capability answers the same to all, whatever the path

names_of_x : read_dir after 1 [] ≡ Err NotFound
unfolding along walk
names_of_x = refl

open_from_x : open_dir after 1 (codes ".") ≡ Err NotFound
unfolding along walk
open_from_x = refl

absolute_from_x : load after 1 (codes "/g") ≡ Err NotFound
unfolding along walk
absolute_from_x = refl

up_from_x : load after 1 (codes "../g") ≡ Err NotFound
unfolding along walk
up_from_x = refl

make_in_x : mkdir after 1 (codes "q") ≡ Err NotFound
unfolding along walk
make_in_x = refl

save_in_x : save after 1 (codes "q") (codes "Q") ≡ Err NotFound
unfolding along walk
save_in_x = refl

save_new_in_x : save_new after 1 (codes "q") (codes "Q") ≡ Err NotFound
unfolding along walk
save_new_in_x = refl

unlink_in_x : unlink after 1 [] ≡ Err NotFound
unfolding along walk
unlink_in_x = refl

remove_own_x : rmdir after 1 [] ≡ Err NotFound
unfolding along walk
remove_own_x = refl

kind_of_own_x : kind after 1 [] ≡ Err NotFound
unfolding along walk
kind_of_own_x = refl

target_in_x : link_target after 1 (codes "q") ≡ None
target_in_x = refl

-- a new directory of that name is another one

make_x_again : mkdir after 0 (codes "x") ≡ Ok (directory (g ∷ entry (codes "x") (Inner 2) ∷ []) ∷ gone ∷ directory [] ∷ [])
unfolding along walk
make_x_again = refl

still_gone : kind (directory (g ∷ entry (codes "x") (Inner 2) ∷ []) ∷ gone ∷ directory [] ∷ []) 1 [] ≡ Err NotFound
unfolding along walk
still_gone = refl
