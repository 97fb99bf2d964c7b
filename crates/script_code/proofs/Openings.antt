-- The opening table, exception by exception: each step of the code is one of the definition's.
use Rattle.std.proofs.Common.{◌≡◌, ℕ, ◌+◌, ◌≤◌, ◌<◌, List, [], ◌∷◌, ◌++◌, length, map, take, get_or, ap, sym, ◌∙◌, append-nil, arith, Some, None, Option}
use Rattle.std.proofs.lemmas.Grind.{common_steps}
use Rattle.std.proofs.lemmas.List.Elements.{All-weaker}
use Rattle.std.specs.Prelude.{codes, position, fold}
use Rattle.std.proofs.lemmas.List.{map_push, take_all, take_more}
use Rattle.std.proofs.lemmas.List.Sums.{fold_push, fold-append}
use Rattle.eio_value.specs.declared.plain.Plain.TheVariants.{Failure}
use Rattle.std.specs.Str.{bytes_eq}
use Rattle.eio_value.specs.declared.plain.Plain.{Plain}
use Rattle.eio_value.specs.declared.value.TextId.{TextId}
use Rattle.eio_value.specs.Exceptions.{plain_text}
use Rattle.eio_value.specs.Table.{HasText, Interned, text_id}
use Rattle.spec_script.specs.Opening.{textless, with_text, with_bound}
use Rattle.script_forms.specs.Failures.{HasFailures}
use Rattle.script_code.specs.Opened.{opened_texts}

-- the three texts that are bound to an exception are put in, one after the other
pub bound : (texts alone_in cancelled_in all_in : List (List ℕ)) (what : Plain) (alone : List ℕ) → alone ≡ plain_text texts what → alone_in ≡ with_text texts alone
    → cancelled_in ≡ with_text alone_in (codes "Cancelled: " ++ (alone ++ [])) → all_in ≡ with_text cancelled_in (codes "Multiple [" ++ (alone ++ codes "; ...]")) → all_in ≡ with_bound texts what
bound texts alone_in cancelled_in all_in what alone spelled first second third =
    let second_of : cancelled_in ≡ with_text (with_text texts alone) (codes "Cancelled: " ++ alone) = second ∙ ((λ j. with_text (first j) (codes "Cancelled: " ++ append-nil alone j))) in
    third ∙ (ap (λ t. with_text t (codes "Multiple [" ++ (alone ++ codes "; ...]"))) second_of
    ∙ ap (λ own. with_text (with_text (with_text texts own) (codes "Cancelled: " ++ own)) (codes "Multiple [" ++ (own ++ codes "; ...]"))) spelled)

-- a text that is put in leaves all that are there
table_grows : (texts : List (List ℕ)) (text : List ℕ) → length texts ≤ length (with_text texts text)
table_grows texts text = by_place (position (bytes_eq text) texts)
  where
    grown : Option ℕ → Interned
    grown place = elim place [ Some at ↦ record { id = text_id at; texts = texts } | None ↦ record { id = text_id (length texts); texts = texts ++ text ∷ [] } ]

    by_place : (place : Option ℕ) → length texts ≤ length (grown place).texts
    by_place (Some at) = omega arith
    by_place None = grind (arith, common_steps)

bound_grows : (texts : List (List ℕ)) (what : Plain) → length texts ≤ length (with_bound texts what)
bound_grows texts what =
    let first = with_text texts (plain_text texts what) in
    let second = with_text first (codes "Cancelled: " ++ plain_text texts what) in
    omega (arith, table_grows texts (plain_text texts what), table_grows first (codes "Cancelled: " ++ plain_text texts what), table_grows second (codes "Multiple [" ++ (plain_text texts what ++ codes "; ...]")))

-- the failures' texts stand in a table that has grown
pub failures_stay : (old new : List (List ℕ)) (failures : List TextId) → length old ≤ length new → HasFailures old failures → HasFailures new failures
failures_stay old new failures grows has = All-weaker (HasText old) (HasText new) (λ id there. omega (arith, there, grows)) failures has

pub failures_bound : (before after : List (List ℕ)) (failures : List TextId) (i : ℕ) (d : TextId) → after ≡ with_bound before (Failure (get_or failures i d)) → HasFailures before failures → HasFailures after failures
failures_bound before after failures i d one has = failures_stay before after failures (omega (arith, bound_grows before (Failure (get_or failures i d)), ap length one)) has

-- one failure more was bound
pub bound_on : (texts before after : List (List ℕ)) (failures : List TextId) (i : ℕ) (d : TextId) → i < length failures → before ≡ fold with_bound texts (map Failure (take i failures))
    → after ≡ with_bound before (Failure (get_or failures i d)) → after ≡ fold with_bound texts (map Failure (take (i + 1) failures))
bound_on texts before after failures i d within so_far one =
    one ∙ (ap (λ t. with_bound t (Failure (get_or failures i d))) so_far
    ∙ (sym (fold_push with_bound texts (map Failure (take i failures)) (Failure (get_or failures i d)))
    ∙ ap (fold with_bound texts) (sym (map_push Failure (take i failures) (get_or failures i d)) ∙ ap (map Failure) (sym (take_more failures i d within)))))

-- one exception more was bound
pub bound_next : (texts before after : List (List ℕ)) (all : List Plain) (i : ℕ) (d : Plain) → i < length all → before ≡ fold with_bound texts (take i all) → after ≡ with_bound before (get_or all i d) → after ≡ fold with_bound texts (take (i + 1) all)
bound_next texts before after all i d within so_far one =
    one ∙ (ap (λ t. with_bound t (get_or all i d)) so_far ∙ (sym (fold_push with_bound texts (take i all) (get_or all i d)) ∙ ap (fold with_bound texts) (sym (take_more all i d within))))

-- all were bound, behind the failures
pub all_bound : (texts between table : List (List ℕ)) (failures : List TextId) (i : ℕ) → length textless ≤ i → between ≡ fold with_bound texts (map Failure failures) → table ≡ fold with_bound between (take i textless)
    → table ≡ opened_texts texts failures
all_bound texts between table failures i whole first second =
    second ∙ (ap (fold with_bound between) (take_all i textless whole) ∙ (ap (λ t. fold with_bound t textless) first ∙ sym (fold-append with_bound texts (map Failure failures) textless)))
