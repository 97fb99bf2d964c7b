-- Declarations make no node.
use Rattle.std.proofs.Common.{ℕ, ◌+◌, List, [], ◌∷◌, ◌++◌, length, Option, Some, None, refl}
use Rattle.std.specs.Prelude.{nat_lt, is_none, not, pos, negsuc, ◌&&◌, IfSome}
use Rattle.std.specs.List.{list_any}
use Rattle.std.specs.Str.{bytes_eq}
use Rattle.eio_value.specs.Directory as directory
use Rattle.eio_value.specs.Directory.{Item}
use Rattle.eio_value.specs.declared.flow_step.FlowStep.TheVariants as flow
use Rattle.spec_script.specs.Declarations.{Declaration, Stream, Promise, Semaphore, Mutex, Pool, Executor, Flow, Dir, DeclarationForm, declaration_form_of, workers, items_of, Declared, with_declaration, declare, declaration_by, declaration, declarations_behind}
use Rattle.spec_script.specs.Entries.{EntryHead, FileHead, LinkHead, SubHead, entry_head, is_entry_name, entry_name, content_of, name_of, entries, entry, entry_by}
use Rattle.spec_script.specs.Faults.{Shape, Size, Twice}
use Rattle.spec_script.specs.FlowSteps.{StepHead, DataHead, FaultHead, PauseHead, step_head, data_of, step_by, step, steps}
use Rattle.spec_script.specs.Kinds.{Kind, StreamKind, PromiseKind, SemaphoreKind, MutexKind, PoolKind, ExecutorKind, FlowKind, DirectoryKind}
use Rattle.spec_script.specs.declared.Limits.{Limits}
use Rattle.spec_script.specs.Limits.{most_workers, most_flow_steps, most_entries, capacities, counts, sizes}
use Rattle.spec_script.specs.Reads.{Made, Reads, ◌>>>◌, changes, refuses, requires_that, one_step, one_entry, text_of}
use Rattle.spec_script.specs.Scopes.{named_in}
use Rattle.spec_script.specs.Trees.{Tree, Word, Number, Text, Branch, Trees, Nil, And, place_of}
use Rattle.script_code.proofs.NodeCounts.{Keeps, changed, kept, none_kept, keeps_on, test_keeps, interned_keeps, number_keeps}

-- a step by what was made before
by_made : {A : Type 0} (step : Made → Reads A) → ((made : Made) → Keeps (step made)) → Keeps (λ made. step made made)
by_made step keeps = record { holds = λ made x e. (keeps made).holds made x e; longer = λ made x e. (keeps made).longer made x e }

pub step_keeps : (at : ℕ) → Keeps (one_step at)
step_keeps at = by_made (λ made. requires_that (nat_lt made.steps most_flow_steps) (Size at) >>> λ _. changes (λ before. record before { steps = before.steps + 1 }))
    λ made. keeps_on (test_keeps (nat_lt made.steps most_flow_steps) (Size at)) λ _. changed (λ before. record before { steps = before.steps + 1 }) (λ before. refl) (λ before. refl)

entry_keeps : (at : ℕ) → Keeps (one_entry at)
entry_keeps at = by_made (λ made. requires_that (nat_lt made.entries most_entries) (Size at) >>> λ _. changes (λ before. record before { entries = before.entries + 1 }))
    λ made. keeps_on (test_keeps (nat_lt made.entries most_entries) (Size at)) λ _. changed (λ before. record before { entries = before.entries + 1 }) (λ before. refl) (λ before. refl)

-- ## Flows

pub data_keeps : (tree : Tree) → Keeps (data_of tree)
data_keeps (Text at (b ∷ bytes)) = keeps_on (interned_keeps (b ∷ bytes)) λ _. kept (b ∷ bytes)
data_keeps (Text at []) = none_kept (Shape at)
data_keeps (Word at word) = none_kept (Shape at)
data_keeps (Number at z) = none_kept (Shape at)
data_keeps (Branch at row) = none_kept (Shape at)

text_keeps : (tree : Tree) → Keeps (text_of tree)
text_keeps (Text at text) = interned_keeps text
text_keeps tree = none_kept (Shape (place_of tree))

flow_step_keeps : (at : ℕ) (head : Option StepHead) (items : Trees) → Keeps (step_by at head items)
flow_step_keeps at (Some DataHead) (And text Nil) = keeps_on (step_keeps at) λ _. keeps_on (data_keeps text) λ bytes. kept (flow.Data bytes)
flow_step_keeps at (Some FaultHead) (And text Nil) = keeps_on (step_keeps at) λ _. keeps_on (text_keeps text) λ id. kept (flow.Fault id)
flow_step_keeps at (Some PauseHead) Nil = keeps_on (step_keeps at) λ _. kept flow.Pause
flow_step_keeps at head items = none_kept (Shape at)

one_step_keeps : (tree : Tree) → Keeps (step tree)
one_step_keeps (Branch at (And (Word place word) items)) = flow_step_keeps at (step_head word) items
one_step_keeps tree = none_kept (Shape (place_of tree))

steps_keep : (row : Trees) → Keeps (steps row)
unfolding steps
steps_keep Nil = kept []
steps_keep (And tree row) = keeps_on (one_step_keeps tree) λ first. keeps_on (steps_keep row) λ others. kept (first ∷ others)

-- ## Directories

name_keeps : (before : List (List ℕ)) (tree : Tree) → Keeps (entry_name before tree)
name_keeps before (Text at name) =
    keeps_on (test_keeps (is_entry_name name) (Shape at)) λ _.
    keeps_on (test_keeps (not (list_any (bytes_eq name) before)) (Twice at)) λ _. keeps_on (interned_keeps name) λ _. kept name
name_keeps before tree = none_kept (Shape (place_of tree))

content_keeps : (tree : Tree) → Keeps (content_of tree)
content_keeps (Text at text) = keeps_on (interned_keeps text) λ _. kept text
content_keeps tree = none_kept (Shape (place_of tree))

mutual
  unfolding entries entry entry_by

  pub entries_keep : (before : List (List ℕ)) (row : Trees) → Keeps (entries before row)
  entries_keep before Nil = kept directory.Empty
  entries_keep before (And tree row) = keeps_on (an_entry_keeps before tree) λ first. keeps_on (entries_keep (name_of first ∷ before) row) λ others. kept (directory.And first others)

  an_entry_keeps : (before : List (List ℕ)) (tree : Tree) → Keeps (entry before tree)
  an_entry_keeps before (Branch at (And (Word place word) items)) = entry_by_keeps before at (entry_head word) items
  an_entry_keeps before tree = none_kept (Shape (place_of tree))

  entry_by_keeps : (before : List (List ℕ)) (at : ℕ) (head : Option EntryHead) (items : Trees) → Keeps (entry_by before at head items)
  entry_by_keeps before at (Some FileHead) (And name (And content Nil)) =
      keeps_on (entry_keeps at) λ _. keeps_on (name_keeps before name) λ own. keeps_on (content_keeps content) λ bytes. kept (directory.File own bytes)
  entry_by_keeps before at (Some LinkHead) (And name (And target Nil)) =
      keeps_on (entry_keeps at) λ _. keeps_on (name_keeps before name) λ own. keeps_on (content_keeps target) λ bytes. kept (directory.Link own bytes)
  entry_by_keeps before at (Some SubHead) (And name items) =
      keeps_on (entry_keeps at) λ _. keeps_on (name_keeps before name) λ own. keeps_on (entries_keep [] items) λ inner. kept (directory.Sub own inner)
  entry_by_keeps before at head items = none_kept (Shape at)

-- ## Declarations

pub workers_keep : (bodies n : ℕ) (row : Trees) → Keeps (workers bodies n row)
unfolding workers
workers_keep bodies n Nil = kept []
workers_keep bodies n (And (Number at (pos body)) row) =
    keeps_on (test_keeps (nat_lt n most_workers && nat_lt body bodies) (Size at)) λ _. keeps_on (workers_keep bodies (n + 1) row) λ others. kept (body ∷ others)
workers_keep bodies n (And (Number at (negsuc z)) row) = none_kept (Size at)
workers_keep bodies n (And tree row) = none_kept (Shape (place_of tree))

items_keep : (kind : Kind) (bodies : ℕ) (row : Trees) → IfSome (items_of kind bodies row) Keeps
items_keep StreamKind bodies (And capacity Nil) = keeps_on (number_keeps capacities capacity) λ n. kept (Stream n)
items_keep PromiseKind bodies Nil = kept Promise
items_keep SemaphoreKind bodies (And count Nil) = keeps_on (number_keeps counts count) λ n. kept (Semaphore n)
items_keep MutexKind bodies Nil = kept Mutex
items_keep PoolKind bodies (And size Nil) = keeps_on (number_keeps sizes size) λ n. kept (Pool n)
items_keep ExecutorKind bodies (And first row) = keeps_on (workers_keep bodies 0 (And first row)) λ these. kept (Executor these)
items_keep FlowKind bodies row = keeps_on (steps_keep row) λ these. kept (Flow these)
items_keep DirectoryKind bodies row = keeps_on (entries_keep [] row) λ these. kept (Dir these)
items_keep kind bodies row = tt

declare_keeps : (before : Declared) (kind : Kind) (name : Tree) (items : Reads Declaration) → Keeps items → Keeps (declare before kind name items)
declare_keeps before kind (Word at name) items own =
    keeps_on (test_keeps (is_none (named_in before.scope name)) (Twice at)) λ _. keeps_on (interned_keeps name) λ id. keeps_on own λ it. kept (with_declaration before kind name id it)
declare_keeps before kind tree items own = none_kept (Shape (place_of tree))

declaration_by_keeps : (limits : Limits) (before : Declared) (at : ℕ) (form : DeclarationForm) (name : Tree) (items : Option (Reads Declaration)) → IfSome items Keeps → Keeps (declaration_by limits before at form name items)
declaration_by_keeps limits before at form name None own = none_kept (Shape at)
declaration_by_keeps limits before at form name (Some items) own =
    keeps_on (test_keeps (nat_lt (length before.declarations) limits.declarations) (Size at)) λ _.
    keeps_on (changed (λ made. record made { formed = made.formed ++ record { at = at; feature = form.feature; mocked = form.mocked } ∷ [] }) (λ made. refl) (λ made. refl)) λ _.
    declare_keeps before form.kind name items own

declaration_keeps : (limits : Limits) (bodies : ℕ) (before : Declared) (tree : Tree) → Keeps (declaration limits bodies before tree)
unfolding declaration
declaration_keeps limits bodies before (Branch at (And (Word place word) (And name items))) = by (declaration_form_of word)
  where
    by : (found : Option DeclarationForm) → Keeps {A = Declared} (elim found [
      | None ↦ refuses (Shape at)
      | Some form ↦ declaration_by limits before at form name (items_of form.kind bodies items)
    ])
    by None = none_kept (Shape at)
    by (Some form) = declaration_by_keeps limits before at form name (items_of form.kind bodies items) (items_keep form.kind bodies items)
declaration_keeps limits bodies before tree = none_kept (Shape (place_of tree))

pub declarations_keep : (limits : Limits) (bodies : ℕ) (before : Declared) (row : Trees) → Keeps (declarations_behind limits bodies before row)
unfolding declarations_behind
declarations_keep limits bodies before Nil = kept before
declarations_keep limits bodies before (And tree row) = keeps_on (declaration_keeps limits bodies before tree) λ more. declarations_keep limits bodies more row
