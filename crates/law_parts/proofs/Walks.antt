-- The way up, one step at a time, where each parent is older than its child.
use Rattle.std.proofs.Common.{◌≡◌, ℕ, zero, suc, ◌+◌, ◌<◌, Bool, true, false, ◌||◌, ◌==◌, List, [], ◌∷◌, Option, Some, None, refl, ap, sym, ◌∙◌, arith, true≢false}
use Rattle.std.specs.List.{list_any}
use Rattle.std.proofs.lemmas.Option.{none-some}
use Rattle.eio_value.specs.declared.plain.Plain.{Plain}
use Rattle.spec_parts.specs.Contexts.{Context, context_at, above, way_within, way_up, first_reason, off, goes_up_to}
use Rattle.law_parts.specs.Contexts.{or_else, off_above, IsShut}

-- each parent is older than its child
abbrev pub ParentsAreOlder : List Context → Type 0
ParentsAreOlder contexts = (c parent : ℕ) → (context_at contexts c).parent ≡ Some parent → parent < c

unprotected : (protected : Bool) (parent : Option ℕ) (p : ℕ) → elim protected [ true ↦ None | false ↦ parent ] ≡ Some p → parent ≡ Some p
unprotected true parent p e = absurd (none-some p e)
unprotected false parent p e = e

pub above_is_parent : (contexts : List Context) (c p : ℕ) → above contexts c ≡ Some p → (context_at contexts c).parent ≡ Some p
above_is_parent contexts c p e = unprotected (context_at contexts c).protected (context_at contexts c).parent p e

-- what two functions make of where a cancellation comes from, where they agree there
onward : {X : Type 0} (none : X) (f g : ℕ → X) (from : Option ℕ) → ((p : ℕ) → from ≡ Some p → f p ≡ g p) → ◌≡◌ {A = X} (elim from [ None ↦ none | Some p ↦ f p ]) (elim from [ None ↦ none | Some p ↦ g p ])
onward none f g None agree = refl
onward none f g (Some p) agree = agree p refl

-- any number of steps above a context's own number is enough
enough_steps : (contexts : List Context) → ParentsAreOlder contexts → (n m c : ℕ) → c < n → c < m → way_within n contexts c ≡ way_within m contexts c
unfolding way_within
enough_steps contexts older zero m c h k = absurd (omega arith)
enough_steps contexts older (suc n) zero c h k = absurd (omega arith)
enough_steps contexts older (suc n) (suc m) c h k =
    ap (λ way. c ∷ way) (onward [] (λ p. way_within n contexts p) (λ p. way_within m contexts p) (above contexts c)
    (λ p e. let lower : p < c = older c p (above_is_parent contexts c p e) in enough_steps contexts older n m p (omega arith) (omega arith)))

first_step : (contexts : List Context) → ParentsAreOlder contexts → (n c : ℕ) → n ≡ suc c → way_within n contexts c ≡ c ∷ elim (above contexts c) [ None ↦ [] | Some p ↦ way_up contexts p ]
unfolding way_within
first_step contexts older zero c e = absurd (omega arith)
first_step contexts older (suc n) c e =
    ap (λ way. c ∷ way) (onward [] (λ p. way_within n contexts p) (λ p. way_up contexts p) (above contexts c)
    (λ p from. let lower : p < c = older c p (above_is_parent contexts c p from) in enough_steps contexts older n (p + 1) p (omega arith) (omega arith)))

pub way_walks : (contexts : List Context) → ParentsAreOlder contexts → (c : ℕ) → way_up contexts c ≡ c ∷ elim (above contexts c) [ None ↦ [] | Some p ↦ way_up contexts p ]
way_walks contexts older c = first_step contexts older (c + 1) c (omega arith)

reason_past : (contexts : List Context) (from : Option ℕ) → first_reason contexts (elim from [ None ↦ [] | Some p ↦ way_up contexts p ]) ≡ elim from [ None ↦ None | Some p ↦ off contexts p ]
reason_past contexts None = refl
reason_past contexts (Some p) = refl

own_first : (own : Option Plain) (rest other : Option Plain) → rest ≡ other → elim own [ Some why ↦ Some why | None ↦ rest ] ≡ or_else own other
own_first (Some why) rest other e = refl
own_first None rest other e = e

pub off_walks : (contexts : List Context) → ParentsAreOlder contexts → (c : ℕ) → off contexts c ≡ or_else (context_at contexts c).reason (off_above contexts c)
off_walks contexts older c =
    ap (first_reason contexts) (way_walks contexts older c)
    ∙ own_first (context_at contexts c).reason _ (off_above contexts c) (reason_past contexts (above contexts c))

met_past : (contexts : List Context) (c : ℕ) (from : Option ℕ) → list_any (λ y. y == c) (elim from [ None ↦ [] | Some p ↦ way_up contexts p ]) ≡ elim from [ None ↦ false | Some p ↦ goes_up_to contexts p c ]
met_past contexts c None = refl
met_past contexts c (Some p) = refl

pub goes_up_walks : (contexts : List Context) → ParentsAreOlder contexts → (x c : ℕ) → goes_up_to contexts x c ≡ ((x == c) || elim (above contexts x) [ None ↦ false | Some p ↦ goes_up_to contexts p c ])
goes_up_walks contexts older x c =
    ap (list_any (λ y. y == c)) (way_walks contexts older x) ∙ ap (λ rest. (x == c) || rest) (met_past contexts c (above contexts x))

-- Protected contexts

shut_from : (protected : Bool) (parent : Option ℕ) → protected ≡ true → ◌≡◌ {A = Option ℕ} (elim protected [ true ↦ None | false ↦ parent ]) None
shut_from true parent shut = refl
shut_from false parent shut = absurd (true≢false (sym shut))

nothing_past : (contexts : List Context) (n : ℕ) (from : Option ℕ) → from ≡ None → ◌≡◌ {A = List ℕ} (elim from [ None ↦ [] | Some p ↦ way_within n contexts p ]) []
nothing_past contexts n None e = refl
nothing_past contexts n (Some p) e = absurd (none-some p (sym e))

shut_way : (contexts : List Context) (n x : ℕ) → n ≡ suc x → (context_at contexts x).protected ≡ true → way_within n contexts x ≡ x ∷ []
unfolding way_within
shut_way contexts zero x e shut = absurd (omega arith)
shut_way contexts (suc n) x e shut = ap (λ way. x ∷ way) (nothing_past contexts n (above contexts x) (shut_from (context_at contexts x).protected (context_at contexts x).parent shut))

own_alone : (own : Option Plain) → elim own [ Some why ↦ Some why | None ↦ None ] ≡ own
own_alone (Some why) = refl
own_alone None = refl

or_false : (b : Bool) → (b || false) ≡ b
or_false true = refl
or_false false = refl

pub protected_is_shut : (contexts : List Context) (x : ℕ) → (context_at contexts x).protected ≡ true → IsShut contexts x
protected_is_shut contexts x shut =
    let way : way_up contexts x ≡ x ∷ [] = shut_way contexts (x + 1) x (omega arith) shut in
    record {
      own = ap (first_reason contexts) way ∙ own_alone (context_at contexts x).reason;
      reached = (λ c. ap (list_any (λ y. y == c)) way ∙ or_false (x == c));
    }
