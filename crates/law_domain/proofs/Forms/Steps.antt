-- Steps of the reading of scripts where, in the end, each form that is listed is of a feature that is built; and the feature of each form.
use Rattle.std.proofs.Common.{◌≡◌, ℕ, ◌==◌, Bool, true, false, ◌&&◌, List, Some, refl, subst}
use Rattle.std.specs.List.{list_any}
use Rattle.std.specs.Str.{bytes_eq}
use Rattle.std.proofs.lemmas.Bool.{eqb-true, and_parts}
use Rattle.spec_script.specs.Declarations.{DeclarationForm, declaration_forms, declaration_form_of}
use Rattle.spec_script.specs.declared.Feature.{Feature}
use Rattle.spec_script.specs.declared.Feature.TheVariants.{FirstForms, Exceptions, Switches, Groups, StreamsAndPromises, Resources, Flows, Paths, Executors}
use Rattle.spec_script.specs.Features.{Built, feature_number, is_built}
use Rattle.spec_script.specs.Forms.{trace_feature, Head, TraceHead, YieldHead, SwitchHead, ForkHead, ForkDaemonHead, ForkPromiseHead, FailHead, OnReleaseHead, PairHead, RowHead, ObjectHead, ObjectHeadWith, UseRwHead, UsePoolHead, SubmitHead, SleepHead, NowHead, BufReadHead, ReaderHead, TakeBytesHead, CopyHead, BufWriteHead, PutHead, OpenDirHead, PathHead, SaveHead, Form, forms, form_of, feature_of}
use Rattle.spec_script.specs.Kinds.{Kind, StreamKind, PromiseKind, SemaphoreKind, MutexKind, PoolKind, ExecutorKind, FlowKind, DirectoryKind}
use Rattle.spec_script.specs.Reads.{Formed, Reads}
use Rattle.spec_script.specs.Statements.{form_node}
use Rattle.spec_script.specs.Syntax.{Both, First}
use Rattle.spec_script.specs.Trees.{Trees}
use Rattle.law_script.proofs.Scripts.FormedSteps.{Brings, going_on, weaker, one_node_keeps, one_form_brings}
use Rattle.law_script.proofs.Scripts.Lists.{found_passes}
use Rattle.law_domain.specs.Forms.FeatureForms.{called_by}

-- a form of a feature that is built
abbrev pub IsAmong : Built → Formed → Type 0
IsAmong built it = is_built built it.feature ≡ true

-- where the step gives a value and each form is such a one then, each was so before, and that is such a value
abbrev pub Finds : Built → {A : Type 0} → (A → Type 0) → Reads A → Type 0
Finds built {A} P read = Brings (IsAmong built) {A = A} P read

-- ## Features by their numbers

same_feature : (built : Built) (one other : Feature) → (feature_number one == feature_number other) ≡ true → is_built built one ≡ true → is_built built other ≡ true
same_feature built one other same is =
    subst (λ (n : ℕ). list_any (λ it. feature_number it == n) built ≡ true) (eqb-true (feature_number one) (feature_number other) same) is

-- ## Statements

-- the feature that brings a head; of `trace` its operands say it
abbrev pub head_feature : Head → Feature
head_feature TraceHead = FirstForms
head_feature YieldHead = FirstForms
head_feature SwitchHead = FirstForms
head_feature ForkHead = FirstForms
head_feature ForkDaemonHead = Switches
head_feature FailHead = Switches
head_feature OnReleaseHead = Switches
head_feature (PairHead group) = Groups
head_feature (RowHead group) = Groups
head_feature ForkPromiseHead = StreamsAndPromises
head_feature (ObjectHead call) = called_by call
head_feature (ObjectHeadWith call) = StreamsAndPromises
head_feature UseRwHead = Resources
head_feature UsePoolHead = Resources
head_feature SubmitHead = Executors
head_feature SleepHead = Resources
head_feature NowHead = Resources
head_feature BufReadHead = Flows
head_feature (ReaderHead call) = Flows
head_feature TakeBytesHead = Flows
head_feature CopyHead = Flows
head_feature BufWriteHead = Flows
head_feature PutHead = Flows
head_feature OpenDirHead = Paths
head_feature (PathHead call) = Paths
head_feature (SaveHead only_new) = Paths
head_feature head = Exceptions

abbrev pub brought : Head → Trees → Feature
brought TraceHead items = trace_feature items
brought head items = head_feature head

-- `both` and `first` aren't written with any number of branches
abbrev pub is_written : Head → Bool
is_written (RowHead Both) = false
is_written (RowHead First) = false
is_written head = true

-- what is known of the head of a form that was read
pub record HasHead (built : Built) (head : Head) (items : Trees) : Type 0 where
  pub among : is_built built (brought head items) ≡ true
  pub written : is_written head ≡ true

among_by : (built : Built) (head : Head) (feature : Feature) (items : Trees) → (feature_number feature == feature_number (head_feature head)) ≡ true
    → is_built built (elim head [ TraceHead ↦ trace_feature items | _ ↦ feature ]) ≡ true → is_built built (brought head items) ≡ true
among_by built TraceHead feature items same is = is
among_by built head feature items same is = same_feature built feature (head_feature head) same is

pub found_head : (built : Built) (word : List ℕ) (it : Form) (items : Trees) → form_of word ≡ Some it → is_built built (feature_of it items) ≡ true → HasHead built it.head items
unfolding form_of
found_head built word it items e is =
    let parts =
    and_parts (feature_number it.feature == feature_number (head_feature it.head)) (is_written it.head)
    (found_passes (λ form. (feature_number form.feature == feature_number (head_feature form.head)) && is_written form.head) (λ form. bytes_eq form.word word) forms it refl e)
    in
    record { among = among_by built it.head it.feature items parts.0 is; written = parts.1 }

pub node_is_among : (built : Built) (at : ℕ) (it : Form) (items : Trees) → Finds built (λ _. is_built built (feature_of it items) ≡ true) (form_node at it items)
node_is_among built at it items = going_on (one_form_brings at (feature_of it items) it.mocked) λ _. weaker (λ a u is. is) one_node_keeps

-- ## Declarations

abbrev pub kind_feature : Kind → Feature
kind_feature StreamKind = StreamsAndPromises
kind_feature PromiseKind = StreamsAndPromises
kind_feature SemaphoreKind = Resources
kind_feature MutexKind = Resources
kind_feature PoolKind = Resources
kind_feature ExecutorKind = Executors
kind_feature FlowKind = Flows
kind_feature DirectoryKind = Paths
kind_feature kind = FirstForms

pub found_kind : (built : Built) (word : List ℕ) (form : DeclarationForm) → declaration_form_of word ≡ Some form → is_built built form.feature ≡ true
    → is_built built (kind_feature form.kind) ≡ true
found_kind built word form e is =
    same_feature built form.feature (kind_feature form.kind)
    (found_passes (λ form. feature_number form.feature == feature_number (kind_feature form.kind)) (λ form. bytes_eq form.word word) declaration_forms form refl e) is
