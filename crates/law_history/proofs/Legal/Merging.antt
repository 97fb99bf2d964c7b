-- From one log a domain to all lines in order.
-- Both the calls of an object's history and the calls on it among all lines are sorted by stamp and domain, and have the same of each domain: so they are one list.
use Rattle.std.proofs.Common.{◌≡◌, ℕ, ◌<◌, ◌⊎◌, inl, inr, ⊎_elim, Bool, true, false, ◌&&◌, ◌||◌, ◌==◌, List, [], ◌∷◌, ◌++◌, Option, Some, None, refl, sym, ap, ◌∙◌, subst, true≢false, arith, eqb-true, eq-eqb}
use Rattle.eio_value.specs.declared.message.Message.{Message}
use Rattle.spec_parts.specs.Row.{Row}
use Rattle.spec_machine.specs.Labels.{Label, Inner, Called, Struck, Mocked, Took}
use Rattle.spec_machine.specs.ObjectHistories.{Made, Entry, calls_in, call_on, calls_on, calls_of, entry_step, row_after, IsObjectHistory}
use Rattle.spec_machine.specs.PartsOfRuns.{Parts, IsMerged, decided_by, sent_to, sends, taken, takes, lines_of, Rises, is_alive, shared_at_first}
use Rattle.spec_machine.specs.Runs.{Noted, domain_of, stamp_of, key_of, LocalRun}
use Rattle.spec_machine.specs.Shared.{row_at}
use Rattle.law_history.proofs.Legal.Coming.{same_both}
use Rattle.law_history.proofs.Legal.Fates.{Fate, Fates, decision_by, is_that, comes, AllSound, PartsLeft, AreFated}
use Rattle.law_history.proofs.Legal.Induction.{its_line, others_line, Leads, leads}
use Rattle.law_history.proofs.Legal.Rows.{by_test, under_same, length_mapped, row_all}

-- ## Calls of a domain

call_of : (object d : ℕ) (x : Noted) (label : Label) (rest : List Made) → calls_of d (call_on object x label rest) ≡ elim (domain_of x == d) [ true ↦ call_on object x label (calls_of d rest) | false ↦ calls_of d rest ]
call_of object d x Inner rest = sym (same_both (calls_of d rest) (domain_of x == d))
call_of object d x (Struck who won) rest = sym (same_both (calls_of d rest) (domain_of x == d))
call_of object d x (Mocked asked it texts) rest = sym (same_both (calls_of d rest) (domain_of x == d))
call_of object d x (Took m) rest = sym (same_both (calls_of d rest) (domain_of x == d))
call_of object d x (Called asked it mine) rest =
    let m : Made = record { domain = domain_of x; stamp = stamp_of x; asked = asked; answer = it; mine = mine; away = x.away } in
    by_test
    (λ b. calls_of d (elim b [ true ↦ m ∷ rest | false ↦ rest ]) ≡ elim (domain_of x == d) [ true ↦ elim b [ true ↦ m ∷ calls_of d rest | false ↦ calls_of d rest ] | false ↦ calls_of d rest ])
    (asked.object == object) (λ e. refl) (λ e. sym (same_both (calls_of d rest) (domain_of x == d)))

-- the domain's calls among all lines are those among the domain's lines
calls_of_lines : (object d : ℕ) (xs : List Noted) → calls_of d (calls_on object xs) ≡ calls_on object (lines_of d xs)
calls_of_lines object d [] = refl
calls_of_lines object d (x ∷ xs) = call_of object d x x.label (calls_on object xs) ∙ go (domain_of x == d) (calls_of_lines object d xs)
  where
    go : (b : Bool) → calls_of d (calls_on object xs) ≡ calls_on object (lines_of d xs)
        → elim b [ true ↦ call_on object x x.label (calls_of d (calls_on object xs)) | false ↦ calls_of d (calls_on object xs) ] ≡ calls_on object (elim b [ true ↦ x ∷ lines_of d xs | false ↦ lines_of d xs ])
    go true ih = ap (call_on object x x.label) ih
    go false ih = ih

-- ## Sorted calls

abbrev IsKeyBelow : ℕ × ℕ → ℕ × ℕ → Type 0
IsKeyBelow a b = (a.0 < b.0) ⊎ ((a.0 ≡ b.0) × (a.1 < b.1))

key_below_trans : (a b c : ℕ × ℕ) → IsKeyBelow a b → IsKeyBelow b c → IsKeyBelow a c
key_below_trans a b c p q = ⊎_elim
    (λ (h : a.0 < b.0). ⊎_elim (λ (k : b.0 < c.0). inl (omega arith)) (λ (k : (b.0 ≡ c.0) × (b.1 < c.1)). let e : b.0 ≡ c.0 = k.0 in inl (omega arith)) q)
    (λ (h : (a.0 ≡ b.0) × (a.1 < b.1)).
    let e : a.0 ≡ b.0 = h.0 in
    let l : a.1 < b.1 = h.1 in
    ⊎_elim (λ (k : b.0 < c.0). inl (omega arith)) (λ (k : (b.0 ≡ c.0) × (b.1 < c.1)). let m : b.1 < c.1 = k.1 in inr (e ∙ k.0, omega arith)) q)
    p

not_key_below_itself : (a : ℕ × ℕ) → IsKeyBelow a a → ⊥
not_key_below_itself a p = ⊎_elim (λ (h : a.0 < a.0). omega arith) (λ (h : (a.0 ≡ a.0) × (a.1 < a.1)). let l : a.1 < a.1 = h.1 in omega arith) p

abbrev made_key : Made → ℕ × ℕ
made_key m = (m.stamp, m.domain)

abbrev AreSorted : ℕ × ℕ → List Made → Type 0
AreSorted last [] = Unit {0}
AreSorted last (m ∷ ms) = IsKeyBelow last (made_key m) × AreSorted (made_key m) ms

sorted_sooner : (a b : ℕ × ℕ) (ms : List Made) → IsKeyBelow a b → AreSorted b ms → AreSorted a ms
sorted_sooner a b [] l s = tt
sorted_sooner a b (m ∷ ms) l s = (key_below_trans a b (made_key m) l s.0, s.1)

call_sorted : (object : ℕ) (last : ℕ × ℕ) (x : Noted) (label : Label) (rest : List Made) → IsKeyBelow last (key_of x) → AreSorted (key_of x) rest → AreSorted last (call_on object x label rest)
call_sorted object last x Inner rest l s = sorted_sooner last (key_of x) rest l s
call_sorted object last x (Struck who won) rest l s = sorted_sooner last (key_of x) rest l s
call_sorted object last x (Mocked asked it texts) rest l s = sorted_sooner last (key_of x) rest l s
call_sorted object last x (Took m) rest l s = sorted_sooner last (key_of x) rest l s
call_sorted object last x (Called asked it mine) rest l s =
    let m : Made = record { domain = domain_of x; stamp = stamp_of x; asked = asked; answer = it; mine = mine; away = x.away } in
    by_test (λ b. AreSorted last (elim b [ true ↦ m ∷ rest | false ↦ rest ])) (asked.object == object) (λ e. (l, s)) (λ e. sorted_sooner last (key_of x) rest l s)

calls_sorted : (object : ℕ) (last : ℕ × ℕ) (xs : List Noted) → Rises last xs → AreSorted last (calls_on object xs)
calls_sorted object last [] rises = tt
calls_sorted object last (x ∷ xs) rises = call_sorted object last x x.label (calls_on object xs) rises.0 (calls_sorted object (key_of x) xs rises.1)

history_sorted : (row : Row) (last : ℕ × ℕ) (es : List Entry) → IsObjectHistory row last.0 es → AreSorted last (calls_in es)
history_sorted row last [] h = tt
history_sorted row last (e ∷ es) h = (inl h.0.later, history_sorted (entry_step row e).row (made_key e.made) es h.1)

-- ## Sorted lists that have the same of each domain

its_call : (d : ℕ) (m : Made) (ms : List Made) → (m.domain == d) ≡ true → calls_of d (m ∷ ms) ≡ m ∷ calls_of d ms
its_call d m ms e = ap (λ (b : Bool). elim b [ true ↦ m ∷ calls_of d ms | false ↦ calls_of d ms ]) e

pub others_call : (d : ℕ) (m : Made) (ms : List Made) → (m.domain == d) ≡ false → calls_of d (m ∷ ms) ≡ calls_of d ms
others_call d m ms e = ap (λ (b : Bool). elim b [ true ↦ m ∷ calls_of d ms | false ↦ calls_of d ms ]) e

own_call : (m : Made) (ms : List Made) → calls_of m.domain (m ∷ ms) ≡ m ∷ calls_of m.domain ms
own_call m ms = its_call m.domain m ms (eq-eqb m.domain m.domain refl)

abbrev head_of : Made → List Made → Made
head_of otherwise [] = otherwise
head_of otherwise (m ∷ ms) = m

abbrev tail_of : List Made → List Made
tail_of [] = []
tail_of (m ∷ ms) = ms

first_is_after : (last : ℕ × ℕ) (d : ℕ) (bs : List Made) (m : Made) (ms : List Made) → AreSorted last bs → calls_of d bs ≡ m ∷ ms → IsKeyBelow last (made_key m)
first_is_after last d [] m ms s e = absurd (cc)
first_is_after last d (b ∷ bs) m ms s e = go (b.domain == d) e (λ q. first_is_after (made_key b) d bs m ms s.1 q)
  where
    go : (c : Bool) → elim c [ true ↦ b ∷ calls_of d bs | false ↦ calls_of d bs ] ≡ m ∷ ms → (calls_of d bs ≡ m ∷ ms → IsKeyBelow (made_key b) (made_key m)) → IsKeyBelow last (made_key m)
    go true q ih = subst (λ (k : Made). IsKeyBelow last (made_key k)) (ap (head_of b) q) s.0
    go false q ih = key_below_trans last (made_key b) (made_key m) s.0 (ih q)

same_heads : (a b : Made) (cs bs : List Made) → AreSorted (made_key a) cs → AreSorted (made_key b) bs → ((d : ℕ) → calls_of d (a ∷ cs) ≡ calls_of d (b ∷ bs)) → a ≡ b
same_heads a b cs bs s t same = by_test (λ c. (b.domain == a.domain) ≡ c → a ≡ b) (b.domain == a.domain)
    (λ e f. ap (head_of a) (sym (own_call a cs) ∙ same a.domain ∙ its_call a.domain b bs f))
    (λ e f.
    let q : a ∷ calls_of a.domain cs ≡ calls_of a.domain bs = sym (own_call a cs) ∙ same a.domain ∙ others_call a.domain b bs f in
    let g : (a.domain == b.domain) ≡ false =
    by_test (λ c. c ≡ false) (a.domain == b.domain) (λ k. absurd (true≢false (sym (eq-eqb b.domain a.domain (sym (eqb-true a.domain b.domain k))) ∙ f))) (λ k. refl) in
    let r : calls_of b.domain cs ≡ b ∷ calls_of b.domain bs = sym (others_call b.domain a cs g) ∙ same b.domain ∙ own_call b bs in
    absurd (not_key_below_itself (made_key a)
    (key_below_trans (made_key a) (made_key b) (made_key a) (first_is_after (made_key a) b.domain cs b (calls_of b.domain bs) s r) (first_is_after (made_key b) a.domain bs a (calls_of a.domain cs) t (sym q)))))
    refl

same_tails : (a b : Made) (cs bs : List Made) → a ≡ b → ((d : ℕ) → calls_of d (a ∷ cs) ≡ calls_of d (b ∷ bs)) → (d : ℕ) → calls_of d cs ≡ calls_of d bs
same_tails a b cs bs e same d = go (a.domain == d) (same d ∙ ap (λ (k : Made). calls_of d (k ∷ bs)) (sym e))
  where
    with_head : Bool → List Made → List Made
    with_head c ms = elim c [ true ↦ a ∷ ms | false ↦ ms ]

    go : (c : Bool) → with_head c (calls_of d cs) ≡ with_head c (calls_of d bs) → calls_of d cs ≡ calls_of d bs
    go true q = ap tail_of q
    go false q = q

same_lists : (last last' : ℕ × ℕ) (cs bs : List Made) → AreSorted last cs → AreSorted last' bs → ((d : ℕ) → calls_of d cs ≡ calls_of d bs) → cs ≡ bs
same_lists last last' [] [] s t same = refl
same_lists last last' [] (b ∷ bs) s t same = let q : [] ≡ b ∷ calls_of b.domain bs = same b.domain ∙ own_call b bs in absurd (cc)
same_lists last last' (a ∷ cs) [] s t same = let q : a ∷ calls_of a.domain cs ≡ [] = sym (own_call a cs) ∙ same a.domain in absurd (cc)
same_lists last last' (a ∷ cs) (b ∷ bs) s t same =
    let e : a ≡ b = same_heads a b cs bs s.1 t.1 same in
    ap (λ (k : Made). k ∷ cs) e ∙ ap (λ (l : List Made). b ∷ l) (same_lists (made_key a) (made_key b) cs bs s.1 t.1 (same_tails a b cs bs e same))

-- ## Facts of each log are facts of all lines

all_sound : (fates : Fates) (xs : List Noted) → ((d : ℕ) → AllSound fates (lines_of d xs)) → AllSound fates xs
all_sound fates [] h = tt
all_sound fates (x ∷ xs) h =
    let own : AllSound fates (x ∷ lines_of (domain_of x) xs) = subst (AllSound fates) (its_line x xs (domain_of x) (eq-eqb (domain_of x) (domain_of x) refl)) (h (domain_of x)) in
    (own.0, all_sound fates xs (λ d. go d (domain_of x == d) (h d)))
  where
    go : (d : ℕ) (c : Bool) → AllSound fates (elim c [ true ↦ x ∷ lines_of d xs | false ↦ lines_of d xs ]) → AllSound fates (lines_of d xs)
    go d true k = k.1
    go d false k = k

comes_go : (d cell armed : ℕ) (x : Noted) (xs : List Noted) (c : Bool) → comes (elim c [ true ↦ x ∷ lines_of d xs | false ↦ lines_of d xs ]) cell armed ≡ true
    → (comes (lines_of d xs) cell armed ≡ true → comes xs cell armed ≡ true) → (b : Bool) → is_that cell armed (decided_by x.label x.away) ≡ b → (b || comes xs cell armed) ≡ true
comes_go d cell armed x xs c k ih true h = refl
comes_go d cell armed x xs true k ih false h = ih (rw h at k)
comes_go d cell armed x xs false k ih false h = ih k

comes_among_all : (d cell armed : ℕ) (xs : List Noted) → comes (lines_of d xs) cell armed ≡ true → comes xs cell armed ≡ true
comes_among_all d cell armed [] e = e
comes_among_all d cell armed (x ∷ xs) e = comes_go d cell armed x xs (domain_of x == d) e (comes_among_all d cell armed xs) (is_that cell armed (decided_by x.label x.away)) refl

sends_of_lines : (sender receiver : ℕ) (xs : List Noted) → sends sender receiver xs ≡ sends sender receiver (lines_of sender xs)
sends_of_lines sender receiver [] = refl
sends_of_lines sender receiver (x ∷ xs) = go (sends_of_lines sender receiver xs)
  where
    its : (b : Bool) → List Message → List Message
    its b rest = elim b [ true ↦ sent_to receiver x.away rest | false ↦ rest ]

    go : sends sender receiver xs ≡ sends sender receiver (lines_of sender xs) → sends sender receiver (x ∷ xs) ≡ sends sender receiver (lines_of sender (x ∷ xs))
    go ih = by_test (λ c. (domain_of x == sender) ≡ c → sends sender receiver (x ∷ xs) ≡ sends sender receiver (lines_of sender (x ∷ xs))) (domain_of x == sender)
        (λ e f. ap (its (domain_of x == sender)) ih ∙ ap (sends sender receiver) (sym (its_line x xs sender f)))
        (λ e f. ap (λ (b : Bool). its b (sends sender receiver xs)) f ∙ ih ∙ ap (sends sender receiver) (sym (others_line x xs sender f)))
        refl

takes_of_lines : (receiver sender : ℕ) (xs : List Noted) → takes receiver sender xs ≡ takes receiver sender (lines_of receiver xs)
takes_of_lines receiver sender [] = refl
takes_of_lines receiver sender (x ∷ xs) = go (takes_of_lines receiver sender xs)
  where
    its : (a b : Bool) → List Message → List Message
    its a b rest = elim (a && b) [ true ↦ taken x.label rest | false ↦ rest ]

    go : takes receiver sender xs ≡ takes receiver sender (lines_of receiver xs) → takes receiver sender (x ∷ xs) ≡ takes receiver sender (lines_of receiver (x ∷ xs))
    go ih = by_test (λ c. (domain_of x == receiver) ≡ c → takes receiver sender (x ∷ xs) ≡ takes receiver sender (lines_of receiver (x ∷ xs))) (domain_of x == receiver)
        (λ e f. ap (its (domain_of x == receiver) (x.from == sender)) ih ∙ ap (takes receiver sender) (sym (its_line x xs receiver f)))
        (λ e f. ap (λ (a : Bool). its a (x.from == sender) (takes receiver sender xs)) f ∙ ih ∙ ap (takes receiver sender) (sym (others_line x xs receiver f)))
        refl

-- ## The whole run

none_by : (o : Option Fate) → ((fate : Fate) → o ≡ Some fate → ⊥) → None ≡ decision_by o
none_by None never = refl
none_by (Some fate) never = absurd (never fate refl)

module _ (p : Parts) (fates : Fates) (lines : List Noted) (f : AreFated p fates) (m : IsMerged p.logs lines) where
  decided : (cell armed : ℕ) (fate : Fate) → fates cell armed ≡ Some fate → comes lines cell armed ≡ true
  decided cell armed fate e = comes_among_all fate.maker cell armed lines (subst (λ (xs : List Noted). comes xs cell armed ≡ true) (sym (m.are fate.maker)) (f.decided cell armed fate e))

  -- at the opening all parts are left
  pub left_at_first : PartsLeft (0, 0) (shared_at_first p.declared) (row_at p.declared) lines p.entries fates p.left
  left_at_first = record {
    rises = m.rises;
    calls = λ object. same_lists (0, 0) (0, 0) (calls_in (p.entries object)) (calls_on object lines) (history_sorted (row_at p.declared object) (0, 0) (p.entries object) (f.histories object)) (calls_sorted object (0, 0) lines m.rises)
        (λ d. f.calls object d ∙ ap (calls_on object) (sym (m.are d)) ∙ sym (calls_of_lines object d lines));
    histories = λ object. subst (λ (n : ℕ). IsObjectHistory (row_at p.declared object) n (p.entries object)) (sym (under_same 0 p.declared object)) (f.histories object);
    skips = f.skips;
    sound = all_sound fates lines (λ d. subst (AllSound fates) (sym (m.are d)) (f.sound d));
    posts = λ receiver sender. sends_of_lines sender receiver lines ∙ ap (sends sender receiver) (m.are sender) ∙ f.posts receiver sender
        ∙ ap (λ (l : List Message). l ++ p.left receiver sender) (sym (takes_of_lines receiver sender lines ∙ ap (takes receiver sender) (m.are receiver)));
    none = f.none;
    sizes = length_mapped (λ row. 0) p.declared;
    rows = λ object. row_all (is_alive []) (λ who. refl) (row_at p.declared object);
    stands = λ cell armed. by_test (λ c. None ≡ elim c [ true ↦ None | false ↦ decision_by (fates cell armed) ]) (comes lines cell armed) (λ t. refl)
        (λ t. none_by (fates cell armed) (λ fate e. true≢false (sym (decided cell armed fate e) ∙ t)));
    past = λ cell armed fate e t. absurd (true≢false (sym (decided cell armed fate e) ∙ t));
  }

  -- over any machine of one domain
  pub merged_lead : {L : Type 0} (Steps : L → Noted → L → Type 0) (first ends : ℕ → L) → ((d : ℕ) → LocalRun Steps (first d) (p.logs d) (ends d))
      → Leads Steps (0, 0) (record { locals = first; shared = shared_at_first p.declared }) lines ends (λ object. row_after (row_at p.declared object) (p.entries object)) fates p.left
  merged_lead Steps first ends l =
      leads Steps fates p.left ends lines (0, 0) (record { locals = first; shared = shared_at_first p.declared }) (row_at p.declared) p.entries left_at_first
      (λ d. subst (λ (xs : List Noted). LocalRun Steps (first d) xs (ends d)) (sym (m.are d)) (l d))
