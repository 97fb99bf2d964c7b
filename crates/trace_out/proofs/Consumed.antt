-- What a source has left once bytes were taken from its front.
use Rattle.std.proofs.Common.{◌≡◌, ℕ, ◌<◌, ◌≤◌, List, [], ◌++◌, length, drop, Bool, true, false, None, Some, refl, ap, sym, ◌∙◌, arith, append-nil}
use Rattle.std.specs.Prelude.{nat_lt}
use Rattle.std.proofs.lemmas.List.{drop_all}
use Rattle.std.proofs.lemmas.Grind.{common_steps}
use Rattle.std.proofs.KnownBytes.{Consumes-trans}
use Rattle.std.specs.declared.option.Option.{Option}
use Rattle.std.specs.Io.KnownBytes.{Consumes}
use Rattle.trace_out.specs.Outcome.{HasRead, HasReadSome}
use Rattle.trace_out.specs.Input.{ReadsInput}

rest_of : (all front rest : List ℕ) → all ≡ front ++ rest → rest ≡ drop (length front) all
rest_of all front rest e =
    let behind : drop (length front) (front ++ rest) ≡ rest = grind (arith, common_steps) in
    sym (ap (drop (length front)) e ∙ behind)

-- taking a front reads as many bytes
pub has_read : (old new : Option (List ℕ)) (front : List ℕ) → Consumes old new front → HasRead (length front) old new
has_read None new front taken = tt
has_read (Some all) None front taken = absurd taken
has_read (Some all) (Some rest) front taken = rest_of all front rest taken

-- two fronts in turn
pub has_read_some : (old mid new : Option (List ℕ)) (xs ys : List ℕ) → Consumes old mid xs → Consumes mid new ys → length (xs ++ ys) ≤ 262145 → HasReadSome old new
has_read_some old mid new xs ys first second within =
    record { count = length (xs ++ ys); within = within; read = has_read old new (xs ++ ys) (Consumes-trans old mid new xs ys first second) }

-- what is left behind a front that is the whole, or n bytes of it
rest_by : (n : ℕ) (all front rest : List ℕ) (short : Bool) → nat_lt (length front) n ≡ short → all ≡ front ++ rest → length front ≤ n → (length front < n → rest ≡ []) → rest ≡ drop n all
rest_by n all front rest true test e most whole =
    let less : length front < n = grind (arith, common_steps) in
    let none : rest ≡ [] = whole less in
    let all_front : all ≡ front = e ∙ (ap (λ xs. front ++ xs) none ∙ append-nil front) in
    none ∙ sym (ap (drop n) all_front ∙ drop_all n front most)
rest_by n all front rest false test e most whole =
    let full : length front ≡ n = grind (arith, common_steps) in
    rest_of all front rest e ∙ ap (λ k. drop k all) full

-- where all or 262,145 bytes were taken, that many were read
pub has_read_through : (old new : Option (List ℕ)) (input : List ℕ) → ReadsInput old new input → HasRead 262145 old new
has_read_through None new input reads = tt
has_read_through (Some all) None input reads = absurd reads.taken
has_read_through (Some all) (Some rest) input reads =
    rest_by 262145 all input rest (nat_lt (length input) 262145) refl reads.taken reads.most reads.whole
