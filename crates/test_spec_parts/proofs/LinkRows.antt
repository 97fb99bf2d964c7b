-- Links: within links, behind links, one too many, to nothing, and out of the capability.
-- The directory has a (with b, which has a file f of content "deep" and a link up to `..`, and with a link self of no target), a file
-- g of content "G", and links: ab to a/b, abs to /a, dangle to a/new, two to ab/up.
use Rattle.std.proofs.Common.{◌≡◌, ℕ, List, [], ◌∷◌, ◌++◌, Some, refl}
use Rattle.std.specs.Prelude.{Ok, Err, codes}
use Rattle.std.specs.List.{repeat}
use Rattle.eio_value.specs.declared.plain.PathFault.TheVariants.{PermissionDenied, NotFound, AlreadyExists, NotDirectory, TooManyLinks}
use Rattle.spec_parts.specs.declared.path_kind.PathKind.TheVariants as kinds
use Rattle.spec_parts.specs.Directories.{Tree, File, Link, Inner, Entry, entry, Directory, directory}
use Rattle.spec_parts.specs.Walk.{along, walk}
use Rattle.spec_parts.specs.PathCalls.{open_dir, read_dir, load, save, save_new, mkdir, unlink, rmdir, kind, link_target}

abbrev a_inner : Entry
a_inner = entry (codes "a") (Inner 1)

abbrev ab : Entry
ab = entry (codes "ab") (Link (codes "a/b"))

abbrev others : List Entry
others = entry (codes "abs") (Link (codes "/a")) ∷ entry (codes "dangle") (Link (codes "a/new")) ∷ entry (codes "g") (File (codes "G")) ∷ entry (codes "two") (Link (codes "ab/up")) ∷ []

abbrev b_inner : Entry
b_inner = entry (codes "b") (Inner 2)

abbrev itself : Entry
itself = entry (codes "self") (Link [])

abbrev b : Directory
b = directory (entry (codes "f") (File (codes "deep")) ∷ entry (codes "up") (Link (codes "..")) ∷ [])

abbrev top : Tree
top = directory (a_inner ∷ ab ∷ others) ∷ directory (b_inner ∷ itself ∷ []) ∷ b ∷ []

-- a link on the way is followed by every call

in_the_middle : kind top 0 (codes "ab/f") ≡ Ok kinds.File
unfolding along walk
in_the_middle = refl

-- two is ab/up, which is a/b/up, which is a/b/.., which is a
link_in_links : load top 0 (codes "two/b/f") ≡ Ok (codes "deep")
unfolding along walk
link_in_links = refl

open_by_links : open_dir top 0 (codes "two") ≡ Ok 1
unfolding along walk
open_by_links = refl

-- `..` behind a link goes up from where the link leads, not from where it stands

up_behind_a_link : load top 0 (codes "ab/../g") ≡ Err NotFound
unfolding along walk
up_behind_a_link = refl

twice_up_behind_a_link : load top 0 (codes "ab/../../g") ≡ Ok (codes "G")
unfolding along walk
twice_up_behind_a_link = refl

-- a last link, with gaps behind it or not, is left as it is by the calls that don't follow

last_link : kind top 0 (codes "ab/up/.") ≡ Ok kinds.Link
unfolding along walk
last_link = refl

remove_link : rmdir top 0 (codes "ab") ≡ Err NotDirectory
unfolding along walk
remove_link = refl

make_over_link : mkdir top 0 (codes "ab") ≡ Err AlreadyExists
unfolding along walk
make_over_link = refl

unlink_link : unlink top 0 (codes "ab") ≡ Ok (directory (a_inner ∷ others) ∷ directory (b_inner ∷ itself ∷ []) ∷ b ∷ [])
unfolding along walk
unlink_link = refl

-- a link with no target names the directory that it stands in

empty_target : read_dir top 0 (codes "a/self") ≡ Ok (codes "b" ∷ codes "self" ∷ [])
unfolding along walk
empty_target = refl

behind_an_empty_target : load top 0 (codes "a/self/self/b/f") ≡ Ok (codes "deep")
unfolding along walk
behind_an_empty_target = refl

up_behind_an_empty_target : load top 0 (codes "a/self/../g") ≡ Ok (codes "G")
unfolding along walk
up_behind_an_empty_target = refl

-- a target that begins with `/` is refused where the link is followed, and only there

absolute_target : load top 0 (codes "abs/b/f") ≡ Err PermissionDenied
unfolding along walk
absolute_target = refl

absolute_target_unfollowed : kind top 0 (codes "abs") ≡ Ok kinds.Link
unfolding along walk
absolute_target_unfollowed = refl

-- through the capability of b its link leads out
out_by_a_link : load top 2 (codes "up/b/f") ≡ Err PermissionDenied
unfolding along walk
out_by_a_link = refl

up_from_above : load top 1 (codes "b/up/b/f") ≡ Ok (codes "deep")
unfolding along walk
up_from_above = refl

-- a link to nothing: what it leads to isn't there, and `save` makes it

load_dangling : load top 0 (codes "dangle") ≡ Err NotFound
unfolding along walk
load_dangling = refl

save_new_dangling : save_new top 0 (codes "dangle") (codes "N") ≡ Err AlreadyExists
unfolding along walk
save_new_dangling = refl

save_dangling : save top 0 (codes "dangle") (codes "N") ≡ Ok (directory (a_inner ∷ ab ∷ others) ∷ directory (b_inner ∷ entry (codes "new") (File (codes "N")) ∷ itself ∷ []) ∷ b ∷ [])
unfolding along walk
save_dangling = refl

save_below_dangling : save top 0 (codes "dangle/q") (codes "N") ≡ Err NotFound
unfolding along walk
save_below_dangling = refl

-- save through a link to a file writes that file
save_by_link : save (directory (entry (codes "f") (File (codes "old")) ∷ entry (codes "l") (Link (codes "f")) ∷ []) ∷ []) 0 (codes "l") (codes "new") ≡ Ok (directory (entry (codes "f") (File (codes "new")) ∷ entry (codes "l") (Link (codes "f")) ∷ []) ∷ [])
unfolding along walk
save_by_link = refl

-- forty links are followed, and not one more, whatever its target

abbrev down : List ℕ → List ℕ
down rest = codes "a/" ++ (repeat 40 (codes "self/") ++ rest)

forty : load top 0 (down (codes "b/f")) ≡ Ok (codes "deep")
unfolding along walk
forty = refl

one_more : load top 0 (down (codes "self/b/f")) ≡ Err TooManyLinks
unfolding along walk
one_more = refl

one_more_last : read_dir top 0 (down (codes "self")) ≡ Err TooManyLinks
unfolding along walk
one_more_last = refl

one_more_unfollowed : kind top 0 (down (codes "self")) ≡ Ok kinds.Link
unfolding along walk
one_more_unfollowed = refl

one_more_absolute : load top 0 (down (codes "../abs/b/f")) ≡ Err TooManyLinks
unfolding along walk
one_more_absolute = refl

-- a link that leads to itself, and two that lead to one another

ring : Tree
ring = directory (entry (codes "x") (Link (codes "y")) ∷ entry (codes "y") (Link (codes "./x")) ∷ []) ∷ []

in_a_ring : save ring 0 (codes "x") [] ≡ Err TooManyLinks
unfolding ring along walk
in_a_ring = refl

ring_unfollowed : link_target ring 0 (codes "y") ≡ Some (codes "./x")
unfolding ring
ring_unfollowed = refl
