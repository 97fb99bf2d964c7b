-- From a call in an object's history to the line that made it, and back.
use Rattle.std.proofs.Common.{◌≡◌, ℕ, ◌⊎◌, inl, inr, ⊎_elim, Bool, true, false, ◌==◌, List, [], ◌∷◌, Option, refl, sym, ap, subst, eq-eqb}
use Rattle.eio_value.specs.declared.call.Answer.{Answer}
use Rattle.eio_value.specs.declared.message.Message.{Message}
use Rattle.spec_machine.specs.Labels.{Label, Inner, Called, Struck, Mocked, Took}
use Rattle.spec_machine.specs.ObjectHistories.{Made, call_on, calls_on, calls_of}
use Rattle.spec_machine.specs.Runs.{Noted, domain_of, stamp_of}
use Rattle.spec_machine.specs.Shared.{Asked}
use Rattle.law_history.proofs.Legal.Rows.{by_test}

abbrev pub IsLine : Noted → List Noted → Type 0
IsLine x [] = ⊥
IsLine x (y ∷ ys) = (y ≡ x) ⊎ IsLine x ys

abbrev pub IsCall : Made → List Made → Type 0
IsCall m [] = ⊥
IsCall m (n ∷ ns) = (n ≡ m) ⊎ IsCall m ns

-- a call as an object's history has it, of a line with this label
abbrev pub made_by : Noted → Asked → Answer → (mine : Option Message) → Made
made_by x asked it mine = record { domain = domain_of x; stamp = stamp_of x; asked = asked; answer = it; mine = mine; away = x.away }

-- the line of a call
pub record HasLine (xs : List Noted) (m : Made) : Type 0 where
  pub line : Noted
  pub among : IsLine line xs
  pub label : line.label ≡ Called m.asked m.answer m.mine
  pub stamp : stamp_of line ≡ m.stamp

line_go : (object : ℕ) (x : Noted) (label : Label) (rest : List Made) (m : Made) → IsCall m (call_on object x label rest) → ((label ≡ Called m.asked m.answer m.mine) × (stamp_of x ≡ m.stamp)) ⊎ IsCall m rest
line_go object x Inner rest m i = inr i
line_go object x (Struck who won) rest m i = inr i
line_go object x (Mocked asked it texts) rest m i = inr i
line_go object x (Took n) rest m i = inr i
line_go object x (Called asked it mine) rest m i =
    let n : Made = made_by x asked it mine in
    by_test (λ b. IsCall m (elim b [ true ↦ n ∷ rest | false ↦ rest ]) → ((Called asked it mine ≡ Called m.asked m.answer m.mine) × (stamp_of x ≡ m.stamp)) ⊎ IsCall m rest) (asked.object == object)
    (λ e j. ⊎_elim (λ (q : n ≡ m). inl ((λ k. Called (q k).asked (q k).answer (q k).mine), ap (λ (u : Made). u.stamp) q)) (λ (j : IsCall m rest). inr j) j)
    (λ e j. inr j) i

-- each call on an object among lines has its line there
pub line_of_call : (object : ℕ) (xs : List Noted) (m : Made) → IsCall m (calls_on object xs) → HasLine xs m
line_of_call object [] m i = absurd i
line_of_call object (x ∷ xs) m i = ⊎_elim
    (λ (h : (x.label ≡ Called m.asked m.answer m.mine) × (stamp_of x ≡ m.stamp)). record { line = x; among = inl refl; label = h.0; stamp = h.1 })
    (λ (j : IsCall m (calls_on object xs)). let h : HasLine xs m = line_of_call object xs m j in record { line = h.line; among = inr h.among; label = h.label; stamp = h.stamp })
    (line_go object x x.label (calls_on object xs) m i)

call_behind : (object : ℕ) (x : Noted) (label : Label) (rest : List Made) (m : Made) → IsCall m rest → IsCall m (call_on object x label rest)
call_behind object x Inner rest m i = i
call_behind object x (Struck who won) rest m i = i
call_behind object x (Mocked asked it texts) rest m i = i
call_behind object x (Took n) rest m i = i
call_behind object x (Called asked it mine) rest m i =
    let n : Made = made_by x asked it mine in
    by_test (λ b. IsCall m (elim b [ true ↦ n ∷ rest | false ↦ rest ])) (asked.object == object) (λ e. inr i) (λ e. i)

call_here : (x : Noted) (rest : List Made) (asked : Asked) (it : Answer) (mine : Option Message) → x.label ≡ Called asked it mine → IsCall (made_by x asked it mine) (call_on asked.object x x.label rest)
call_here x rest asked it mine e = subst (λ (label : Label). IsCall (made_by x asked it mine) (call_on asked.object x label rest)) (sym e)
    (subst (λ (b : Bool). IsCall (made_by x asked it mine) (elim b [ true ↦ made_by x asked it mine ∷ rest | false ↦ rest ])) (sym (eq-eqb asked.object asked.object refl)) (inl refl))

-- each line that calls is a call on its object
pub call_of_line : (x : Noted) (xs : List Noted) (asked : Asked) (it : Answer) (mine : Option Message) → IsLine x xs → x.label ≡ Called asked it mine → IsCall (made_by x asked it mine) (calls_on asked.object xs)
call_of_line x [] asked it mine i e = absurd i
call_of_line x (y ∷ ys) asked it mine i e = ⊎_elim
    (λ (q : y ≡ x). subst (λ (z : Noted). IsCall (made_by x asked it mine) (call_on asked.object z z.label (calls_on asked.object ys))) (sym q) (call_here x (calls_on asked.object ys) asked it mine e))
    (λ (j : IsLine x ys). call_behind asked.object y y.label (calls_on asked.object ys) (made_by x asked it mine) (call_of_line x ys asked it mine j e))
    i

-- a call of a list is among those of its domain, and those of a domain are calls of the list
pub call_of_domain : (ms : List Made) (m : Made) → IsCall m ms → IsCall m (calls_of m.domain ms)
call_of_domain [] m i = absurd i
call_of_domain (n ∷ ns) m i = ⊎_elim
    (λ (q : n ≡ m).
    subst (λ (b : Bool). IsCall m (elim b [ true ↦ n ∷ calls_of m.domain ns | false ↦ calls_of m.domain ns ])) (sym (eq-eqb n.domain m.domain (ap (λ (u : Made). u.domain) q))) (inl q))
    (λ (j : IsCall m ns). let k : IsCall m (calls_of m.domain ns) = call_of_domain ns m j in by_test (λ b. IsCall m (elim b [ true ↦ n ∷ calls_of m.domain ns | false ↦ calls_of m.domain ns ])) (n.domain == m.domain) (λ e. inr k) (λ e. k))
    i

among_go : (b : Bool) (n m : Made) (ns rest : List Made) → IsCall m (elim b [ true ↦ n ∷ rest | false ↦ rest ]) → (IsCall m rest → IsCall m ns) → (n ≡ m) ⊎ IsCall m ns
among_go true n m ns rest i ih = ⊎_elim (λ (q : n ≡ m). inl q) (λ (j : IsCall m rest). inr (ih j)) i
among_go false n m ns rest i ih = inr (ih i)

pub call_of_all : (d : ℕ) (ms : List Made) (m : Made) → IsCall m (calls_of d ms) → IsCall m ms
call_of_all d [] m i = absurd i
call_of_all d (n ∷ ns) m i = among_go (n.domain == d) n m ns (calls_of d ns) i (λ j. call_of_all d ns m j)
