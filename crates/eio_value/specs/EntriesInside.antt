-- The entries of the code as the directory that they make.
use Rattle.std.specs.Prelude.{List, [], ◌∷◌}
use Rattle.eio_value.specs.Directory as directory
use Rattle.eio_value.specs.Directory.{Item, Directory, Empty, And}
use Rattle.eio_value.specs.declared.entry.Entry.{Entry}
use Rattle.eio_value.specs.declared.entry.Entry.TheVariants as entry

abbrev pub item_of : Entry → Item
item_of (entry.File name content) = directory.File name content
item_of (entry.Link name target) = directory.Link name target
item_of (entry.Sub name entries) = directory.Sub name entries

abbrev pub directory_of : List Entry → Directory
directory_of [] = Empty
directory_of (entry ∷ rest) = And (item_of entry) (directory_of rest)
