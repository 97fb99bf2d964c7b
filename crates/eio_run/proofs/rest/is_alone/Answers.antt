use Rattle.std.proofs.Common.{◌≡◌, codes, false, refl, sym, ◌∙◌}
use Rattle.std.proofs.lemmas.Bool.{false≢true}
use Rattle.std.specs.List.{list_any}
use Rattle.std.specs.Str.{bytes_eq}
use Rattle.std.specs.String.{string_bytes}
use Rattle.eio_run.proofs.Behind.{refused_is_some, taken_is_none}
use Rattle.eio_run.proofs.rest.is_alone.Goals as goal

pub returns-in-None : goal.returns-in-None
returns-in-None c =
    let other : list_any (λ word. bytes_eq (string_bytes word) (codes "--")) c.args.rest.now ≡ false = sym c.has_separator.ensures ∙ c.if-has_separator.false in
    (λ _. taken_is_none string_bytes c.args.rest.now other c.in-None.ensures, λ _. refl)

pub returns-in_default : goal.returns-in_default
returns-in_default c =
    (λ wrong. absurd (false≢true wrong), λ none. absurd (refused_is_some string_bytes c.args.rest.now _ c.in-Some.ensures c.in_default.not-OutOfMemory none))
