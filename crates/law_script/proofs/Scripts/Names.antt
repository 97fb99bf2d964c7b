-- What is in scope where a script is read, and what is known there: each name has its kind.
use Rattle.std.proofs.Common.{◌≡◌, ℕ, ◌+◌, Bool, true, false, List, [], ◌∷◌, ◌++◌, length, Option, Some, None, refl, sym, ap, ◌∙◌, subst, length-append}
use Rattle.std.specs.Prelude.{slice_get, not, is_none, nat_lt}
use Rattle.std.specs.List.{AllByRecursion as Each}
use Rattle.std.specs.Option.{unwrap_or, option_or}
use Rattle.std.specs.Str.{bytes_eq}
use Rattle.std.proofs.lemmas.Bool.{eqb-true}
use Rattle.spec_script.specs.Faults.{Shape, Size, Twice, Name}
use Rattle.spec_script.specs.Kinds.{Kind, VariableKind, ContextKind, SwitchKind, ReaderKind, WriterKind, CapabilityKind, StreamKind, PromiseKind, SemaphoreKind, MutexKind, PoolKind, ExecutorKind, FlowKind, DirectoryKind, kind_number, is_same_kind}
use Rattle.spec_script.specs.Limits.{most_names}
use Rattle.spec_script.specs.Reads.{◌>>>◌, gives, refuses, requires_that}
use Rattle.spec_script.specs.Scopes.{Named, Scope, named_in, named, with_name, is_variable, bring, used_by, used, directory_by, directory_of}
use Rattle.spec_script.specs.Trees.{Tree, Word, place_of}
use Rattle.spec_script.specs.Syntax.{Declared, Opened}
use Rattle.law_script.specs.Scripts.Soundness.{Known, is_of_block, Has, with_slot, IsSoundDirectory}
use Rattle.law_script.proofs.Scripts.Lists.{each_found, each_kept, each_so, stays_at, stands_last}
use Rattle.law_script.proofs.Scripts.Steps.{Gives, given, refused, met}

-- ## Kinds

abbrev kinds : List Kind
kinds =
    VariableKind ∷ ContextKind ∷ SwitchKind ∷ ReaderKind ∷ WriterKind ∷ CapabilityKind ∷ StreamKind ∷ PromiseKind ∷ SemaphoreKind ∷ MutexKind
    ∷ PoolKind ∷ ExecutorKind ∷ FlowKind ∷ DirectoryKind ∷ []

abbrev kind_at : ℕ → Kind
kind_at n = unwrap_or (slice_get kinds n) VariableKind

kind_back : (kind : Kind) → kind_at (kind_number kind) ≡ kind
kind_back VariableKind = refl
kind_back ContextKind = refl
kind_back SwitchKind = refl
kind_back ReaderKind = refl
kind_back WriterKind = refl
kind_back CapabilityKind = refl
kind_back StreamKind = refl
kind_back PromiseKind = refl
kind_back SemaphoreKind = refl
kind_back MutexKind = refl
kind_back PoolKind = refl
kind_back ExecutorKind = refl
kind_back FlowKind = refl
kind_back DirectoryKind = refl

pub same_kind : (a b : Kind) → is_same_kind a b ≡ true → a ≡ b
same_kind a b same = sym (kind_back a) ∙ (ap kind_at (eqb-true (kind_number a) (kind_number b) same) ∙ kind_back b)

-- ## What is in scope

-- a name of a block, and one of a declaration
abbrev pub Stands : Known → Named → Type 0
Stands known it = Has known it.kind it.number

abbrev pub IsDeclared : (declared : List Kind) → Named → Type 0
IsDeclared declared it = (is_of_block it.kind ≡ false) × (slice_get declared it.number ≡ Some it.kind)

-- the names in scope stand for what is known, and the next slot is free
pub record Fits (known : Known) (scope : Scope) : Type 0 where
  pub names : Each (Stands known) scope.names
  pub declared : Each (IsDeclared known.declared) scope.declared
  pub next : length known.slots ≡ scope.next

stands_declared : (known : Known) (it : Named) → IsDeclared known.declared it → Stands known it
stands_declared known it is =
    subst (λ (b : Bool). slice_get (elim b [ true ↦ known.slots | false ↦ known.declared ]) it.number ≡ Some it.kind) (sym is.0) is.1

pub named_stands : (known : Known) (scope : Scope) → Fits known scope → (name : List ℕ) (it : Named) → named scope name ≡ Some it → Stands known it
named_stands known scope fits name it e = by (named_in scope.names name) refl e
  where
    by : (found : Option Named) → named_in scope.names name ≡ found → option_or found (named_in scope.declared name) ≡ Some it → Stands known it
    by (Some x) is e = each_found (Stands known) (λ it. bytes_eq it.name name) scope.names it fits.names (is ∙ e)
    by None is e = stands_declared known it (each_found (IsDeclared known.declared) (λ it. bytes_eq it.name name) scope.declared it fits.declared e)

-- ## New names

stays : (kind : Kind) (known : Known) (it : Named) → Stands known it → Stands (with_slot kind known) it
stays kind known it stands = by (is_of_block it.kind) stands
  where
    by : (b : Bool) → slice_get (elim b [ true ↦ known.slots | false ↦ known.declared ]) it.number ≡ Some it.kind
        → slice_get (elim b [ true ↦ known.slots ++ kind ∷ [] | false ↦ known.declared ]) it.number ≡ Some it.kind
    by true e = stays_at known.slots (kind ∷ []) it.number it.kind e
    by false e = e

new_stands : (kind : Kind) (known : Known) (next : ℕ) → is_of_block kind ≡ true → length known.slots ≡ next → Has (with_slot kind known) kind next
new_stands kind known next of_block is =
    subst (λ (b : Bool). slice_get (elim b [ true ↦ known.slots ++ kind ∷ [] | false ↦ known.declared ]) next ≡ Some kind) (sym of_block)
    (subst (λ (n : ℕ). slice_get (known.slots ++ kind ∷ []) n ≡ Some kind) is (stands_last known.slots kind))

pub with_name_fits : (kind : Kind) (name : List ℕ) (known : Known) (scope : Scope) → is_of_block kind ≡ true → Fits known scope → Fits (with_slot kind known) (with_name kind name scope)
with_name_fits kind name known scope of_block fits = record {
  names = (
    new_stands kind known scope.next of_block fits.next,
    each_kept (Stands (with_slot kind known)) (λ it. not (bytes_eq it.name name)) scope.names
        (each_so (Stands known) (Stands (with_slot kind known)) scope.names (stays kind known) fits.names),
  );
  declared = fits.declared;
  next = length-append known.slots (kind ∷ []) ∙ ap (λ (n : ℕ). n + 1) fits.next;
}

pub bring_fits : (kind : Kind) (known : Known) (scope : Scope) → is_of_block kind ≡ true → Fits known scope → (tree : Tree) → Gives (Fits (with_slot kind known)) (bring kind scope tree)
unfolding bring
bring_fits kind known scope of_block fits (Word at name) = by (is_variable (named scope name))
  where
    fits_more : Gives (Fits (with_slot kind known)) (gives (with_name kind name scope))
    fits_more = given (with_name kind name scope) (with_name_fits kind name known scope of_block fits)

    by : (b : Bool) → Gives (Fits (with_slot kind known)) (elim b [
      | true ↦ gives (with_name kind name scope)
      | false ↦
          (requires_that (nat_lt (length scope.names) most_names) (Size at) >>> λ _.
          requires_that (is_none (named scope name)) (Twice at) >>> λ _.
          gives (with_name kind name scope))
    ])
    by true = fits_more
    by false = met (nat_lt (length scope.names) most_names) (Size at) λ _. met (is_none (named scope name)) (Twice at) λ _. fits_more
bring_fits kind known scope of_block fits tree = refused (Shape (place_of tree))

-- ## Used names

pub used_has : (kind : Kind) (known : Known) (scope : Scope) → Fits known scope → (tree : Tree) → Gives (Has known kind) (used kind scope tree)
unfolding used
used_has kind known scope fits (Word at name) = by (named scope name) (named_stands known scope fits name)
  where
    by : (found : Option Named) → ((it : Named) → found ≡ Some it → Stands known it) → Gives (Has known kind) (used_by kind at found)
    by None stands = refused (Name at)
    by (Some it) stands =
        met (is_same_kind it.kind kind) (Name at) λ same.
        given it.number (subst (λ (k : Kind). Has known k it.number) (same_kind it.kind kind same) (stands it refl))
used_has kind known scope fits tree = refused (Shape (place_of tree))

pub directory_is_sound : (known : Known) (scope : Scope) → Fits known scope → (tree : Tree) → Gives (IsSoundDirectory known) (directory_of scope tree)
unfolding directory_of
directory_is_sound known scope fits (Word at name) = by (named scope name) (named_stands known scope fits name)
  where
    of_kind : (kind : Kind) (number : ℕ) → Has known kind number → Gives (IsSoundDirectory known) (elim kind [
      | CapabilityKind ↦ gives (Opened number)
      | DirectoryKind ↦ gives (Declared number)
      | _ ↦ refuses (Name at)
    ])
    of_kind CapabilityKind number has = given (Opened number) has
    of_kind DirectoryKind number has = given (Declared number) has
    of_kind kind number has = refused (Name at)

    by : (found : Option Named) → ((it : Named) → found ≡ Some it → Stands known it) → Gives (IsSoundDirectory known) (directory_by at found)
    by None stands = refused (Name at)
    by (Some it) stands = of_kind it.kind it.number (stands it refl)
directory_is_sound known scope fits tree = refused (Shape (place_of tree))
