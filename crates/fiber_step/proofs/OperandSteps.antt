-- The steps of statements that call with operands, and of those whose operands raise.
use Rattle.std.proofs.Common.{◌≡◌, ℕ, ◌+◌, List, Bool, sym, ap, ◌∙◌, ℤ}
use Rattle.eio_value.specs.declared.plain.Plain.{Plain}
use Rattle.eio_value.specs.declared.value.TextId.{TextId}
use Rattle.eio_value.specs.declared.value.Value.{Value}
use Rattle.spec_script.specs.Syntax as syntax
use Rattle.spec_script.specs.Syntax.{Statement}
use Rattle.script_forms.specs.Calls.{object_call_with_of, path_call_of, directory_of}
use Rattle.script_code.specs.Standing.{block_at, expression_at, behind_expression, expressions_at, behind_expressions}
use Rattle.script_forms.specs.declared.node.Directory.{Directory}
use Rattle.script_forms.specs.declared.node.Node.{Node}
use Rattle.script_forms.specs.declared.node.Node.TheVariants as node
use Rattle.script_forms.specs.declared.node.ObjectCallWith.{ObjectCallWith}
use Rattle.script_forms.specs.declared.node.PathCall.{PathCall}
use Rattle.spec_fiber.specs.Asks as model
use Rattle.spec_fiber.specs.Evaluation.{Is, Raises, held_number, value_of, values_of, number_of, text_of}
use Rattle.spec_fiber.specs.Silent.{asks, place_in, statement, with_value}
use Rattle.fiber_step.specs.Standing.{place_of}
use Rattle.fiber_step.specs.Stepping.{IsRaise}
use Rattle.fiber_step.specs.declared.ask.Ask.{Ask}
use Rattle.fiber_step.specs.declared.ask.Ask.TheVariants as ask
use Rattle.fiber_step.specs.declared.ask.DirectoryRef.{DirectoryRef}
use Rattle.fiber_step.proofs.Steps.{Knows, known_at, IsCallStep, called, raised, value_gives, value_raises}

pub trace_raises : (nodes : List Node) (texts at : ℕ) (n_at : Node) (variables : List Value) (what : Plain) (count : ℕ) → Knows nodes texts at n_at → n_at ≡ (node.Trace count)
    → Raises what ≡ values_of variables (expressions_at nodes count (at + 1)) → IsRaise nodes at variables what
unfolding statement
trace_raises nodes texts at n_at variables what count knows e is =
    let here = known_at nodes texts at n_at (node.Trace count) knows e in
    raised nodes at variables (syntax.Trace (expressions_at nodes count (at + 1))) _ what here.stands
    (λ c same. value_raises (values_of c.variables (expressions_at nodes count (at + 1))) what c (λ it. asks (model.Trace it) c) (is ∙ ap (λ those. values_of those (expressions_at nodes count (at + 1))) (sym same)))

pub trace_step : (nodes : List Node) (texts at : ℕ) (n_at : Node) (variables : List Value) (call : Ask) (after : ℕ) (count : ℕ) (given : List Value) → Knows nodes texts at n_at → n_at ≡ (node.Trace count)
    → Is given ≡ values_of variables (expressions_at nodes count (at + 1)) → call ≡ ask.Trace given → after ≡ behind_expressions nodes count (at + 1) → IsCallStep nodes texts at variables call after
unfolding statement
trace_step nodes texts at n_at variables call after count given knows e is call_is after_is =
    let here = known_at nodes texts at n_at (node.Trace count) knows e in
    called nodes texts at variables (syntax.Trace (expressions_at nodes count (at + 1))) call (ask.Trace given) after (behind_expressions nodes count (at + 1)) call_is after_is here.stands here.parts.2 tt tt
    (λ c same. value_gives (values_of c.variables (expressions_at nodes count (at + 1))) given c (λ it. asks (model.Trace it) c) (is ∙ ap (λ those. values_of those (expressions_at nodes count (at + 1))) (sym same)))

pub on_object_with_raises : (nodes : List Node) (texts at : ℕ) (n_at : Node) (variables : List Value) (what : Plain) (which : ObjectCallWith) (object : ℕ) → Knows nodes texts at n_at → n_at ≡ (node.OnObjectWith which object)
    → Raises what ≡ value_of variables (expression_at nodes (at + 1)) → IsRaise nodes at variables what
unfolding statement
on_object_with_raises nodes texts at n_at variables what which object knows e is =
    let here = known_at nodes texts at n_at (node.OnObjectWith which object) knows e in
    raised nodes at variables (syntax.OnObjectWith (object_call_with_of which) object (expression_at nodes (at + 1))) _ what here.stands
    (λ c same. value_raises (value_of c.variables (expression_at nodes (at + 1))) what c (λ it. asks (model.OnObjectWith (object_call_with_of which) object it) c) (is ∙ ap (λ those. value_of those (expression_at nodes (at + 1))) (sym same)))

pub on_object_with_step : (nodes : List Node) (texts at : ℕ) (n_at : Node) (variables : List Value) (call : Ask) (after : ℕ) (which : ObjectCallWith) (object : ℕ) (given : Value) → Knows nodes texts at n_at → n_at ≡ (node.OnObjectWith which object)
    → Is given ≡ value_of variables (expression_at nodes (at + 1)) → call ≡ ask.OnObjectWith which object given → after ≡ behind_expression nodes (at + 1) → IsCallStep nodes texts at variables call after
unfolding statement
on_object_with_step nodes texts at n_at variables call after which object given knows e is call_is after_is =
    let here = known_at nodes texts at n_at (node.OnObjectWith which object) knows e in
    called nodes texts at variables (syntax.OnObjectWith (object_call_with_of which) object (expression_at nodes (at + 1))) call (ask.OnObjectWith which object given) after (behind_expression nodes (at + 1)) call_is after_is here.stands here.parts.1 tt tt
    (λ c same. value_gives (value_of c.variables (expression_at nodes (at + 1))) given c (λ it. asks (model.OnObjectWith (object_call_with_of which) object it) c) (is ∙ ap (λ those. value_of those (expression_at nodes (at + 1))) (sym same)))

pub sleep_raises : (nodes : List Node) (texts at : ℕ) (n_at : Node) (variables : List Value) (what : Plain) → Knows nodes texts at n_at → n_at ≡ node.Sleep
    → Raises what ≡ number_of variables (expression_at nodes (at + 1)) → IsRaise nodes at variables what
unfolding statement
sleep_raises nodes texts at n_at variables what knows e is =
    let here = known_at nodes texts at n_at node.Sleep knows e in
    raised nodes at variables (syntax.Sleep (expression_at nodes (at + 1))) _ what here.stands
    (λ c same. value_raises (number_of c.variables (expression_at nodes (at + 1))) what c (λ it. asks (model.Sleep it) c) (is ∙ ap (λ those. number_of those (expression_at nodes (at + 1))) (sym same)))

pub sleep_step : (nodes : List Node) (texts at : ℕ) (n_at : Node) (variables : List Value) (call : Ask) (after : ℕ) (given : ℤ) → Knows nodes texts at n_at → n_at ≡ node.Sleep
    → Is given ≡ number_of variables (expression_at nodes (at + 1)) → call ≡ ask.Sleep given → after ≡ behind_expression nodes (at + 1) → IsCallStep nodes texts at variables call after
unfolding statement
sleep_step nodes texts at n_at variables call after given knows e is call_is after_is =
    let here = known_at nodes texts at n_at node.Sleep knows e in
    called nodes texts at variables (syntax.Sleep (expression_at nodes (at + 1))) call (ask.Sleep given) after (behind_expression nodes (at + 1)) call_is after_is here.stands here.parts.1 tt tt
    (λ c same. value_gives (number_of c.variables (expression_at nodes (at + 1))) given c (λ it. asks (model.Sleep it) c) (is ∙ ap (λ those. number_of those (expression_at nodes (at + 1))) (sym same)))

pub take_bytes_raises : (nodes : List Node) (texts at : ℕ) (n_at : Node) (variables : List Value) (what : Plain) (reader : ℕ) → Knows nodes texts at n_at → n_at ≡ (node.TakeBytes reader)
    → Raises what ≡ number_of variables (expression_at nodes (at + 1)) → IsRaise nodes at variables what
unfolding statement
take_bytes_raises nodes texts at n_at variables what reader knows e is =
    let here = known_at nodes texts at n_at (node.TakeBytes reader) knows e in
    raised nodes at variables (syntax.TakeBytes reader (expression_at nodes (at + 1))) _ what here.stands
    (λ c same. value_raises (number_of c.variables (expression_at nodes (at + 1))) what c (λ it. asks (model.TakeBytes (held_number c.variables reader) it) c) (is ∙ ap (λ those. number_of those (expression_at nodes (at + 1))) (sym same)))

pub take_bytes_step : (nodes : List Node) (texts at : ℕ) (n_at : Node) (variables : List Value) (call : Ask) (after : ℕ) (reader : ℕ) (given : ℤ) (found : ℕ) → Knows nodes texts at n_at → n_at ≡ (node.TakeBytes reader)
    → Is given ≡ number_of variables (expression_at nodes (at + 1)) → found ≡ held_number variables reader → call ≡ ask.TakeBytes found given → after ≡ behind_expression nodes (at + 1) → IsCallStep nodes texts at variables call after
unfolding statement
take_bytes_step nodes texts at n_at variables call after reader given found knows e is found_is call_is after_is =
    let here = known_at nodes texts at n_at (node.TakeBytes reader) knows e in
    called nodes texts at variables (syntax.TakeBytes reader (expression_at nodes (at + 1))) call (ask.TakeBytes found given) after (behind_expression nodes (at + 1)) call_is after_is here.stands here.parts.1 tt tt
    (λ c same. value_gives (number_of c.variables (expression_at nodes (at + 1))) given c (λ it. asks (model.TakeBytes (held_number c.variables reader) it) c) (is ∙ ap (λ those. number_of those (expression_at nodes (at + 1))) (sym same))
    ∙ ap (λ which_one. asks (model.TakeBytes which_one given) c) (ap (λ those. (held_number those reader)) same ∙ sym found_is))

pub put_raises : (nodes : List Node) (texts at : ℕ) (n_at : Node) (variables : List Value) (what : Plain) (writer : ℕ) → Knows nodes texts at n_at → n_at ≡ (node.Put writer)
    → Raises what ≡ text_of variables (expression_at nodes (at + 1)) → IsRaise nodes at variables what
unfolding statement
put_raises nodes texts at n_at variables what writer knows e is =
    let here = known_at nodes texts at n_at (node.Put writer) knows e in
    raised nodes at variables (syntax.Put writer (expression_at nodes (at + 1))) _ what here.stands
    (λ c same. value_raises (text_of c.variables (expression_at nodes (at + 1))) what c (λ it. asks (model.PutText (held_number c.variables writer) it) c) (is ∙ ap (λ those. text_of those (expression_at nodes (at + 1))) (sym same)))

pub put_step : (nodes : List Node) (texts at : ℕ) (n_at : Node) (variables : List Value) (call : Ask) (after : ℕ) (writer : ℕ) (given : TextId) (found : ℕ) → Knows nodes texts at n_at → n_at ≡ (node.Put writer)
    → Is given ≡ text_of variables (expression_at nodes (at + 1)) → found ≡ held_number variables writer → call ≡ ask.PutText found given → after ≡ behind_expression nodes (at + 1) → IsCallStep nodes texts at variables call after
unfolding statement
put_step nodes texts at n_at variables call after writer given found knows e is found_is call_is after_is =
    let here = known_at nodes texts at n_at (node.Put writer) knows e in
    called nodes texts at variables (syntax.Put writer (expression_at nodes (at + 1))) call (ask.PutText found given) after (behind_expression nodes (at + 1)) call_is after_is here.stands here.parts.1 tt tt
    (λ c same. value_gives (text_of c.variables (expression_at nodes (at + 1))) given c (λ it. asks (model.PutText (held_number c.variables writer) it) c) (is ∙ ap (λ those. text_of those (expression_at nodes (at + 1))) (sym same))
    ∙ ap (λ which_one. asks (model.PutText which_one given) c) (ap (λ those. (held_number those writer)) same ∙ sym found_is))

pub open_dir_raises : (nodes : List Node) (texts at : ℕ) (n_at : Node) (variables : List Value) (what : Plain) (directory : Directory) (n from_here : ℕ) → Knows nodes texts at n_at → n_at ≡ (node.OpenDir directory n from_here)
    → Raises what ≡ text_of variables (expression_at nodes (at + 1)) → IsRaise nodes at variables what
unfolding statement
open_dir_raises nodes texts at n_at variables what directory n from_here knows e is =
    let here = known_at nodes texts at n_at (node.OpenDir directory n from_here) knows e in
    raised nodes at variables (syntax.OpenDir (directory_of directory) (expression_at nodes (at + 1)) (block_at nodes n)) _ what here.stands
    (λ c same. value_raises (text_of c.variables (expression_at nodes (at + 1))) what c (λ it. asks (model.OpenDirectory (place_in c.variables (directory_of directory)) it (block_at nodes n)) c) (is ∙ ap (λ those. text_of those (expression_at nodes (at + 1))) (sym same)))

pub open_dir_step : (nodes : List Node) (texts at : ℕ) (n_at : Node) (variables : List Value) (call : Ask) (after : ℕ) (directory : Directory) (n from_here : ℕ) (given : TextId) (found : DirectoryRef) → Knows nodes texts at n_at → n_at ≡ (node.OpenDir directory n from_here)
    → Is given ≡ text_of variables (expression_at nodes (at + 1)) → place_of found ≡ place_in variables (directory_of directory) → call ≡ ask.OpenDirectory found given n → after ≡ from_here → IsCallStep nodes texts at variables call after
unfolding statement
open_dir_step nodes texts at n_at variables call after directory n from_here given found knows e is found_is call_is after_is =
    let here = known_at nodes texts at n_at (node.OpenDir directory n from_here) knows e in
    called nodes texts at variables (syntax.OpenDir (directory_of directory) (expression_at nodes (at + 1)) (block_at nodes n)) call (ask.OpenDirectory found given n) after (from_here) call_is after_is here.stands here.parts.1.1 here.parts.1.0 tt
    (λ c same. value_gives (text_of c.variables (expression_at nodes (at + 1))) given c (λ it. asks (model.OpenDirectory (place_in c.variables (directory_of directory)) it (block_at nodes n)) c) (is ∙ ap (λ those. text_of those (expression_at nodes (at + 1))) (sym same))
    ∙ ap (λ which_one. asks (model.OpenDirectory which_one given (block_at nodes n)) c) (ap (λ those. (place_in those (directory_of directory))) same ∙ sym found_is))

pub on_path_raises : (nodes : List Node) (texts at : ℕ) (n_at : Node) (variables : List Value) (what : Plain) (which : PathCall) (directory : Directory) → Knows nodes texts at n_at → n_at ≡ (node.OnPath which directory)
    → Raises what ≡ text_of variables (expression_at nodes (at + 1)) → IsRaise nodes at variables what
unfolding statement
on_path_raises nodes texts at n_at variables what which directory knows e is =
    let here = known_at nodes texts at n_at (node.OnPath which directory) knows e in
    raised nodes at variables (syntax.OnPath (path_call_of which) (directory_of directory) (expression_at nodes (at + 1))) _ what here.stands
    (λ c same. value_raises (text_of c.variables (expression_at nodes (at + 1))) what c (λ it. asks (model.OnPath (path_call_of which) (place_in c.variables (directory_of directory)) it) c) (is ∙ ap (λ those. text_of those (expression_at nodes (at + 1))) (sym same)))

pub on_path_step : (nodes : List Node) (texts at : ℕ) (n_at : Node) (variables : List Value) (call : Ask) (after : ℕ) (which : PathCall) (directory : Directory) (given : TextId) (found : DirectoryRef) → Knows nodes texts at n_at → n_at ≡ (node.OnPath which directory)
    → Is given ≡ text_of variables (expression_at nodes (at + 1)) → place_of found ≡ place_in variables (directory_of directory) → call ≡ ask.OnPath which found given → after ≡ behind_expression nodes (at + 1) → IsCallStep nodes texts at variables call after
unfolding statement
on_path_step nodes texts at n_at variables call after which directory given found knows e is found_is call_is after_is =
    let here = known_at nodes texts at n_at (node.OnPath which directory) knows e in
    called nodes texts at variables (syntax.OnPath (path_call_of which) (directory_of directory) (expression_at nodes (at + 1))) call (ask.OnPath which found given) after (behind_expression nodes (at + 1)) call_is after_is here.stands here.parts.1 tt tt
    (λ c same. value_gives (text_of c.variables (expression_at nodes (at + 1))) given c (λ it. asks (model.OnPath (path_call_of which) (place_in c.variables (directory_of directory)) it) c) (is ∙ ap (λ those. text_of those (expression_at nodes (at + 1))) (sym same))
    ∙ ap (λ which_one. asks (model.OnPath (path_call_of which) which_one given) c) (ap (λ those. (place_in those (directory_of directory))) same ∙ sym found_is))

pub save_path_raises : (nodes : List Node) (texts at : ℕ) (n_at : Node) (variables : List Value) (what : Plain) (only_new : Bool) (directory : Directory) → Knows nodes texts at n_at → n_at ≡ (node.Save only_new directory)
    → Raises what ≡ text_of variables (expression_at nodes (at + 1)) → IsRaise nodes at variables what
unfolding statement
save_path_raises nodes texts at n_at variables what only_new directory knows e is =
    let here = known_at nodes texts at n_at (node.Save only_new directory) knows e in
    raised nodes at variables (syntax.Save only_new (directory_of directory) (expression_at nodes (at + 1)) (expression_at nodes (behind_expression nodes (at + 1)))) _ what here.stands
    (λ c same. value_raises (text_of c.variables (expression_at nodes (at + 1))) what c (λ name. with_value (text_of c.variables (expression_at nodes (behind_expression nodes (at + 1)))) c (λ text. asks (model.Save only_new (place_in c.variables (directory_of directory)) name text) c)) (is ∙ ap (λ those. text_of those (expression_at nodes (at + 1))) (sym same)))

pub save_content_raises : (nodes : List Node) (texts at : ℕ) (n_at : Node) (variables : List Value) (what : Plain) (only_new : Bool) (directory : Directory) (name : TextId) → Knows nodes texts at n_at → n_at ≡ (node.Save only_new directory)
    → Is name ≡ text_of variables (expression_at nodes (at + 1)) → Raises what ≡ text_of variables (expression_at nodes (behind_expression nodes (at + 1))) → IsRaise nodes at variables what
unfolding statement
save_content_raises nodes texts at n_at variables what only_new directory name knows e first is =
    let here = known_at nodes texts at n_at (node.Save only_new directory) knows e in
    raised nodes at variables (syntax.Save only_new (directory_of directory) (expression_at nodes (at + 1)) (expression_at nodes (behind_expression nodes (at + 1)))) _ what here.stands
    (λ c same. value_gives (text_of c.variables (expression_at nodes (at + 1))) name c (λ name. with_value (text_of c.variables (expression_at nodes (behind_expression nodes (at + 1)))) c (λ text. asks (model.Save only_new (place_in c.variables (directory_of directory)) name text) c)) (first ∙ ap (λ those. text_of those (expression_at nodes (at + 1))) (sym same))
    ∙ value_raises (text_of c.variables (expression_at nodes (behind_expression nodes (at + 1)))) what c (λ text. asks (model.Save only_new (place_in c.variables (directory_of directory)) name text) c) (is ∙ ap (λ those. text_of those (expression_at nodes (behind_expression nodes (at + 1)))) (sym same)))

pub save_step : (nodes : List Node) (texts at : ℕ) (n_at : Node) (variables : List Value) (call : Ask) (after : ℕ) (only_new : Bool) (directory : Directory) (name content : TextId) (found : DirectoryRef) → Knows nodes texts at n_at → n_at ≡ (node.Save only_new directory)
    → Is name ≡ text_of variables (expression_at nodes (at + 1)) → Is content ≡ text_of variables (expression_at nodes (behind_expression nodes (at + 1))) → place_of found ≡ place_in variables (directory_of directory)
    → call ≡ ask.Save only_new found name content → after ≡ behind_expression nodes (behind_expression nodes (at + 1)) → IsCallStep nodes texts at variables call after
unfolding statement
save_step nodes texts at n_at variables call after only_new directory name content found knows e first second found_is call_is after_is =
    let here = known_at nodes texts at n_at (node.Save only_new directory) knows e in
    called nodes texts at variables (syntax.Save only_new (directory_of directory) (expression_at nodes (at + 1)) (expression_at nodes (behind_expression nodes (at + 1)))) call (ask.Save only_new found name content) after (behind_expression nodes (behind_expression nodes (at + 1))) call_is after_is here.stands here.parts.2 tt tt
    (λ c same. value_gives (text_of c.variables (expression_at nodes (at + 1))) name c (λ name. with_value (text_of c.variables (expression_at nodes (behind_expression nodes (at + 1)))) c (λ text. asks (model.Save only_new (place_in c.variables (directory_of directory)) name text) c)) (first ∙ ap (λ those. text_of those (expression_at nodes (at + 1))) (sym same))
    ∙ (value_gives (text_of c.variables (expression_at nodes (behind_expression nodes (at + 1)))) content c (λ text. asks (model.Save only_new (place_in c.variables (directory_of directory)) name text) c) (second ∙ ap (λ those. text_of those (expression_at nodes (behind_expression nodes (at + 1)))) (sym same))
    ∙ ap (λ which_one. asks (model.Save only_new which_one name content) c) (ap (λ those. place_in those (directory_of directory)) same ∙ sym found_is)))
