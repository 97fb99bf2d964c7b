-- Names in scope, as the code looks for them and brings them.
use Rattle.std.proofs.Common.{◌≡◌, ℕ, ◌+◌, ◌<◌, ◌≤◌, List, [], ◌∷◌, length, map, drop, get_or, Bool, true, false, Option, Some, None, refl, arith, ap, sym, ◌∙◌}
use Rattle.std.specs.Prelude.{option_map}
use Rattle.std.specs.Str.{bytes_eq}
use Rattle.std.proofs.lemmas.Grind.{common_steps}
use Rattle.spec_script.specs.Scopes as scopes
use Rattle.spec_script.specs.Scopes.{named_in}
use Rattle.script_draft.specs.Names.{named_of}
use Rattle.script_draft.specs.declared.scope.Named.{Named}
use Rattle.script_draft.specs.declared.kind.Kind.{Kind}
use Rattle.script_draft.specs.declared.kind.Kind.TheVariants as kind
use Rattle.script_forms.specs.declared.fault.ScriptFault.{ScriptFault}
use Rattle.script_forms.specs.declared.fault.ScriptFault.TheVariants as fault
use Rattle.std.specs.List.{filter}
use Rattle.std.specs.Borrow.{Bor}
use Rattle.std.specs.Prelude.{not, nat_lt, is_none, is_some, Result, Ok, Err}
use Rattle.spec_script.specs.Faults as model
use Rattle.spec_script.specs.Kinds as kinds
use Rattle.spec_script.specs.Limits.{most_names}
use Rattle.spec_script.specs.Reads.{Made}
use Rattle.spec_script.specs.Scopes.{Scope, named, bring, bring_by, used, used_by, directory_by, is_variable, with_name}
use Rattle.spec_script.specs.Syntax.{Declared, Opened}
use Rattle.spec_script.specs.Trees.{Tree, Word, Number, Text, Branch, place_of}
use Rattle.script_draft.specs.Ahead.{word_at}
use Rattle.script_draft.specs.Names.{kind_of}
use Rattle.script_forms.specs.Faults.{Fails}

at_front : (names : List Named) (i : ℕ) (it d : Named) → i < length names → it ≡ get_or names i d → drop i names ≡ it ∷ drop (i + 1) names
at_front names i it d less e =
    let split : drop i names ≡ get_or names i d ∷ drop (i + 1) names = grind (arith, common_steps) in
    rw e split

pub named_goes : (names : List Named) (name : List ℕ) (i : ℕ) (it d : Named) (found : Option scopes.Named) → i < length names → it ≡ get_or names i d → bytes_eq it.name.now name ≡ false → named_in (map named_of (drop i names)) name ≡ found → named_in (map named_of (drop (i + 1) names)) name ≡ found
named_goes names name i it d found less e other before =
    let here = ap (λ (ns : List Named). named_in (map named_of ns) name) (at_front names i it d less e) in
    let next : named_in (map named_of (it ∷ drop (i + 1) names)) name ≡ named_in (map named_of (drop (i + 1) names)) name = rw other refl in
    sym next ∙ (sym here ∙ before)

pub named_stops : (names : List Named) (name : List ℕ) (i : ℕ) (it d : Named) (found : Option scopes.Named) → i < length names → it ≡ get_or names i d → bytes_eq it.name.now name ≡ true → named_in (map named_of (drop i names)) name ≡ found → Some (named_of it) ≡ found
named_stops names name i it d found less e same before =
    let here = ap (λ (ns : List Named). named_in (map named_of ns) name) (at_front names i it d less e) in
    let next : named_in (map named_of (it ∷ drop (i + 1) names)) name ≡ Some (named_of it) = rw same refl in
    sym next ∙ (sym here ∙ before)

pub named_nowhere : (names : List Named) (name : List ℕ) (i : ℕ) (found : Option scopes.Named) → length names ≤ i → named_in (map named_of (drop i names)) name ≡ found → None ≡ found
named_nowhere names name i found most before =
    let none : drop i names ≡ [] = grind (arith, common_steps) in
    sym (ap (λ (ns : List Named). named_in (map named_of ns) name) none) ∙ before

-- ## Trees that are no words

pub fails_shape : {A : Type 0} (f : ScriptFault) (at : ℕ) (read : Result A model.ScriptFault) → f ≡ fault.Shape at → read ≡ Err (model.Shape at) → Fails f read
fails_shape f at read e h = rw e h

bring_no_word : (k : kinds.Kind) (scope : Scope) (tree : Tree) (made : Made) → word_at tree ≡ None → bring k scope tree made ≡ Err (model.Shape (place_of tree))
unfolding bring
bring_no_word k scope (Word at name) made e = cc
bring_no_word k scope (Number at z) made e = refl
bring_no_word k scope (Text at text) made e = refl
bring_no_word k scope (Branch at row) made e = refl

used_no_word : (k : kinds.Kind) (scope : Scope) (tree : Tree) (made : Made) → word_at tree ≡ None → used k scope tree made ≡ Err (model.Shape (place_of tree))
unfolding used
used_no_word k scope (Word at name) made e = cc
used_no_word k scope (Number at z) made e = refl
used_no_word k scope (Text at text) made e = refl
used_no_word k scope (Branch at row) made e = refl

directory_no_word : (scope : Scope) (tree : Tree) (made : Made) → word_at tree ≡ None → scopes.directory_of scope tree made ≡ Err (model.Shape (place_of tree))
unfolding scopes.directory_of
directory_no_word scope (Word at name) made e = cc
directory_no_word scope (Number at z) made e = refl
directory_no_word scope (Text at text) made e = refl
directory_no_word scope (Branch at row) made e = refl

pub bring_refused : (k : kinds.Kind) (scope : Scope) (tree : Tree) (f : ScriptFault) → (word_at tree ≡ None) × (f ≡ fault.Shape (place_of tree)) → (made : Made) → Fails f (bring k scope tree made)
bring_refused k scope tree f e made = fails_shape f (place_of tree) _ e.1 (bring_no_word k scope tree made e.0)

pub used_refused : (k : kinds.Kind) (scope : Scope) (tree : Tree) (f : ScriptFault) → (word_at tree ≡ None) × (f ≡ fault.Shape (place_of tree)) → (made : Made) → Fails f (used k scope tree made)
used_refused k scope tree f e made = fails_shape f (place_of tree) _ e.1 (used_no_word k scope tree made e.0)

pub directory_refused : (scope : Scope) (tree : Tree) (f : ScriptFault) → (word_at tree ≡ None) × (f ≡ fault.Shape (place_of tree)) → (made : Made) → Fails f (scopes.directory_of scope tree made)
directory_refused scope tree f e made = fails_shape f (place_of tree) _ e.1 (directory_no_word scope tree made e.0)

-- ## Words

pub bring_word : (k : kinds.Kind) (scope : Scope) (tree : Tree) (at : ℕ) (name : List ℕ) (found : Option scopes.Named) (made : Made) → tree ≡ Word at name → found ≡ named scope name → bring k scope tree made ≡ bring_by k scope at name found made
unfolding bring
bring_word k scope tree at name found made e f = rw (e, f) refl

pub used_word : (k : kinds.Kind) (scope : Scope) (tree : Tree) (at : ℕ) (name : List ℕ) (found : Option scopes.Named) (made : Made) → tree ≡ Word at name → found ≡ named scope name → used k scope tree made ≡ used_by k at found made
unfolding used
used_word k scope tree at name found made e f = rw (e, f) refl

pub directory_word : (scope : Scope) (tree : Tree) (at : ℕ) (name : List ℕ) (found : Option scopes.Named) (made : Made) → tree ≡ Word at name → found ≡ named scope name → scopes.directory_of scope tree made ≡ directory_by at found made
unfolding scopes.directory_of
directory_word scope tree at name found made e f = rw (e, f) refl

pub used_other : (it : scopes.Named) (k : kinds.Kind) (at : ℕ) (made : Made) → kinds.is_same_kind it.kind k ≡ false → used_by k at (Some it) made ≡ Err (model.Name at)
used_other it k at made e = rw e refl

pub used_same : (it : scopes.Named) (k : kinds.Kind) (at : ℕ) (made : Made) → kinds.is_same_kind it.kind k ≡ true → used_by k at (Some it) made ≡ Ok (it.number, made)
used_same it k at made e = rw e refl

pub directory_opened : (it : Named) (at : ℕ) (made : Made) → it.kind ≡ kind.Capability → directory_by at (Some (named_of it)) made ≡ Ok (Opened it.number, made)
directory_opened it at made e = rw e refl

pub directory_declared : (it : Named) (at : ℕ) (made : Made) → it.kind ≡ kind.Directory → directory_by at (Some (named_of it)) made ≡ Ok (Declared it.number, made)
directory_declared it at made e = rw e refl

directory_other_by : (k : Kind) (name : List ℕ) (number at : ℕ) (made : Made) → (k ≡ kind.Capability → ⊥) → (k ≡ kind.Directory → ⊥) → directory_by at (Some (record { name = name; kind = kind_of k; number = number })) made ≡ Err (model.Name at)
directory_other_by kind.Variable name number at made a b = refl
directory_other_by kind.Context name number at made a b = refl
directory_other_by kind.Switch name number at made a b = refl
directory_other_by kind.Reader name number at made a b = refl
directory_other_by kind.Writer name number at made a b = refl
directory_other_by kind.Capability name number at made a b = absurd (a refl)
directory_other_by kind.Stream name number at made a b = refl
directory_other_by kind.Promise name number at made a b = refl
directory_other_by kind.Semaphore name number at made a b = refl
directory_other_by kind.Mutex name number at made a b = refl
directory_other_by kind.Pool name number at made a b = refl
directory_other_by kind.Executor name number at made a b = refl
directory_other_by kind.Flow name number at made a b = refl
directory_other_by kind.Directory name number at made a b = absurd (b refl)

pub directory_other : (it : Named) (at : ℕ) (made : Made) → (it.kind ≡ kind.Capability → ⊥) → (it.kind ≡ kind.Directory → ⊥) → directory_by at (Some (named_of it)) made ≡ Err (model.Name at)
directory_other it at made a b = directory_other_by it.kind it.name.now it.number at made a b

-- ## New names

not_not : (b : Bool) → not (not b) ≡ b
not_not true = refl
not_not false = refl

pub brings_hiding : (k : kinds.Kind) (scope : Scope) (at : ℕ) (name : List ℕ) (before : Option scopes.Named) (made : Made) → is_variable before ≡ true → bring_by k scope at name before made ≡ Ok (with_name k name scope, made)
brings_hiding k scope at name before made e = rw (bring_by, e) refl

pub brings_too_many : (k : kinds.Kind) (scope : Scope) (at : ℕ) (name : List ℕ) (before : Option scopes.Named) (made : Made) → is_variable before ≡ false → not (nat_lt (length scope.names) most_names) ≡ true → bring_by k scope at name before made ≡ Err (model.Size at)
brings_too_many k scope at name before made e many = let m : nat_lt (length scope.names) most_names ≡ false = sym (not_not _) ∙ ap not many in rw (bring_by, e, m) refl

pub brings_twice : (k : kinds.Kind) (scope : Scope) (at : ℕ) (name : List ℕ) (before : Option scopes.Named) (made : Made) → is_variable before ≡ false → not (nat_lt (length scope.names) most_names) ≡ false → is_none before ≡ false → bring_by k scope at name before made ≡ Err (model.Twice at)
brings_twice k scope at name before made e few some = let m : nat_lt (length scope.names) most_names ≡ true = sym (not_not _) ∙ ap not few in rw (bring_by, e, m, some) refl

pub brings_new : (k : kinds.Kind) (scope : Scope) (at : ℕ) (name : List ℕ) (before : Option scopes.Named) (made : Made) → is_variable before ≡ false → not (nat_lt (length scope.names) most_names) ≡ false → is_none before ≡ true → bring_by k scope at name before made ≡ Ok (with_name k name scope, made)
brings_new k scope at name before made e few none = let m : nat_lt (length scope.names) most_names ≡ true = sym (not_not _) ∙ ap not few in rw (bring_by, e, m, none) refl

filter_seen_by : (name : List ℕ) (it : Named) (rest : List Named) (b : Bool) → not (bytes_eq it.name.now name) ≡ b → map named_of (filter (λ (n : Named). not (bytes_eq n.name.now name)) rest) ≡ filter (λ (n : scopes.Named). not (bytes_eq n.name name)) (map named_of rest) → map named_of (filter (λ (n : Named). not (bytes_eq n.name.now name)) (it ∷ rest)) ≡ filter (λ (n : scopes.Named). not (bytes_eq n.name name)) (map named_of (it ∷ rest))
filter_seen_by name it rest true e h = rw e (ap (λ ns. named_of it ∷ ns) h)
filter_seen_by name it rest false e h = rw e h

-- what is left where a name is taken out, seen as in the definitions
pub filter_seen : (name : List ℕ) (names : List Named) → map named_of (filter (λ (n : Named). not (bytes_eq n.name.now name)) names) ≡ filter (λ (n : scopes.Named). not (bytes_eq n.name name)) (map named_of names)
filter_seen name [] = refl
filter_seen name (it ∷ rest) = filter_seen_by name it rest _ refl (filter_seen name rest)

pub is_some_none : (o : Option Named) (b : Bool) → is_some o ≡ b → is_none (option_map named_of o) ≡ not b
is_some_none (Some it) b e = ap not e
is_some_none None b e = ap not e

pub pushed_seen : (k : Kind) (name : Bor (List ℕ)) (next : ℕ) (names : List Named) (declared : List Named) →
    (let it : Named = record { name = name; kind = k; number = next } in
    let seen : Scope = record { names = map named_of (it ∷ filter (λ (n : Named). not (bytes_eq n.name.now name.now)) names); next = next + 1; declared = map named_of declared } in
    seen ≡ with_name (kind_of k) name.now (record { names = map named_of names; next = next; declared = map named_of declared }))
pushed_seen k name next names declared =
    let scope : List scopes.Named → Scope = λ ns. record { names = record { name = name.now; kind = kind_of k; number = next } ∷ ns; next = next + 1; declared = map named_of declared } in
    ap scope (filter_seen name.now names)
