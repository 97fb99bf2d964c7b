-- Steps of flows, entries of directories and workers take no text away.
use Rattle.std.proofs.Common.{ℕ, ◌+◌, ◌&&◌, List, [], ◌∷◌, Option, Some}
use Rattle.std.specs.Prelude.{nat_lt, pos, negsuc, not}
use Rattle.std.specs.List.{list_any}
use Rattle.std.specs.Str.{bytes_eq}
use Rattle.eio_value.specs.declared.flow_step.FlowStep.TheVariants.{Data, Fault, Pause}
use Rattle.eio_value.specs.Directory as directory
use Rattle.eio_value.specs.Directory.{File, Link, Sub, Empty}
use Rattle.spec_script.specs.Declarations.{workers}
use Rattle.spec_script.specs.Entries.{name_of, EntryHead, FileHead, LinkHead, SubHead, entry_head, is_entry_name, entry_name, content_of, entries, entry, entry_by}
use Rattle.spec_script.specs.Faults.{Shape, Size, Twice}
use Rattle.spec_script.specs.FlowSteps.{StepHead, DataHead, FaultHead, PauseHead, step_head, data_of, step_by, step, steps}
use Rattle.spec_script.specs.Limits.{most_workers, most_flow_steps, most_entries}
use Rattle.spec_script.specs.Reads.{one_step, one_entry}
use Rattle.spec_script.specs.Trees.{Tree, Word, Number, Text, Branch, Trees, Nil, And, place_of}
use Rattle.law_fiber.proofs.Texts.ReadSteps.{End, Keeps, told, given, refused, past, met, interned_keeps, text_keeps}

one_step_keeps : {end : End} (at : ℕ) → Keeps end (one_step at)
one_step_keeps at =
    past (told (λ made. made) (λ made. made) (λ made within. (within, tt, λ below. below))) λ before.
    met (nat_lt before.steps most_flow_steps) (Size at) (told (λ made. tt) (λ made. record made {
      steps =
          made.steps + 1;
    }) (λ made within. (within, tt, λ below. below)))

one_entry_keeps : {end : End} (at : ℕ) → Keeps end (one_entry at)
one_entry_keeps at =
    past (told (λ made. made) (λ made. made) (λ made within. (within, tt, λ below. below))) λ before.
    met (nat_lt before.entries most_entries) (Size at) (told (λ made. tt) (λ made. record made {
      entries =
          made.entries + 1;
    }) (λ made within. (within, tt, λ below. below)))

data_keeps : {end : End} (tree : Tree) → Keeps end (data_of tree)
data_keeps (Text at (b ∷ bytes)) = past (interned_keeps (b ∷ bytes)) λ _. given (b ∷ bytes) tt
data_keeps tree = refused (Shape (place_of tree))

step_by_keeps : {end : End} (at : ℕ) (head : Option StepHead) (items : Trees) → Keeps end (step_by at head items)
step_by_keeps at (Some DataHead) (And text Nil) = past (one_step_keeps at) λ _. past (data_keeps text) λ bytes. given (Data bytes) tt
step_by_keeps at (Some FaultHead) (And text Nil) = past (one_step_keeps at) λ _. past (text_keeps text) λ id. given (Fault id) tt
step_by_keeps at (Some PauseHead) Nil = past (one_step_keeps at) λ _. given Pause tt
step_by_keeps at head items = refused (Shape at)

step_keeps : {end : End} (tree : Tree) → Keeps end (step tree)
step_keeps (Branch at (And (Word place word) items)) = step_by_keeps at (step_head word) items
step_keeps tree = refused (Shape (place_of tree))

pub steps_keep : {end : End} (row : Trees) → Keeps end (steps row)
unfolding steps
steps_keep Nil = given [] tt
steps_keep (And tree row) = past (step_keeps tree) λ first. past (steps_keep row) λ others. given (first ∷ others) tt

entry_name_keeps : {end : End} (before : List (List ℕ)) (tree : Tree) → Keeps end (entry_name before tree)
entry_name_keeps before (Text at name) =
    met (is_entry_name name) (Shape at) (met (not (list_any (bytes_eq name) before)) (Twice at) (past (interned_keeps name) λ _. given name tt))
entry_name_keeps before tree = refused (Shape (place_of tree))

content_keeps : {end : End} (tree : Tree) → Keeps end (content_of tree)
content_keeps (Text at text) = past (interned_keeps text) λ _. given text tt
content_keeps tree = refused (Shape (place_of tree))

mutual
  unfolding entries entry entry_by

  pub entries_keep : {end : End} (before : List (List ℕ)) (row : Trees) → Keeps end (entries before row)
  entries_keep before Nil = given Empty tt
  entries_keep before (And tree row) =
      past (entry_keeps before tree) λ first. past (entries_keep (name_of first ∷ before) row) λ others. given (directory.And first others) tt

  entry_keeps : {end : End} (before : List (List ℕ)) (tree : Tree) → Keeps end (entry before tree)
  entry_keeps before (Branch at (And (Word place word) items)) = entry_by_keeps before at (entry_head word) items
  entry_keeps before tree = refused (Shape (place_of tree))

  entry_by_keeps : {end : End} (before : List (List ℕ)) (at : ℕ) (head : Option EntryHead) (items : Trees) → Keeps end (entry_by before at head items)
  entry_by_keeps before at (Some FileHead) (And name (And content Nil)) =
      past (one_entry_keeps at) λ _. past (entry_name_keeps before name) λ own. past (content_keeps content) λ bytes. given (File own bytes) tt
  entry_by_keeps before at (Some LinkHead) (And name (And target Nil)) =
      past (one_entry_keeps at) λ _. past (entry_name_keeps before name) λ own. past (content_keeps target) λ bytes. given (Link own bytes) tt
  entry_by_keeps before at (Some SubHead) (And name items) =
      past (one_entry_keeps at) λ _. past (entry_name_keeps before name) λ own. past (entries_keep [] items) λ inner. given (Sub own inner) tt
  entry_by_keeps before at head items = refused (Shape at)

pub workers_keep : {end : End} (bodies n : ℕ) (row : Trees) → Keeps end (workers bodies n row)
unfolding workers
workers_keep bodies n Nil = given [] tt
workers_keep bodies n (And (Number at (pos body)) row) =
    met (nat_lt n most_workers && nat_lt body bodies) (Size at) (past (workers_keep bodies (n + 1) row) λ others. given (body ∷ others) tt)
workers_keep bodies n (And (Number at (negsuc z)) row) = refused (Size at)
workers_keep bodies n (And tree row) = refused (Shape (place_of tree))
