-- The steps of statements that call with no operand to be evaluated.
use Rattle.std.proofs.Common.{◌≡◌, ℕ, ◌+◌, List, refl, sym, ap, ◌∙◌}
use Rattle.std.specs.Prelude.{map}
use Rattle.eio_value.specs.declared.value.TextId.{TextId}
use Rattle.eio_value.specs.declared.value.Value.{Value}
use Rattle.spec_script.specs.Syntax as syntax
use Rattle.spec_script.specs.Syntax.{Statement}
use Rattle.script_forms.specs.Calls.{forking_of, object_call_of, reader_call_of}
use Rattle.script_code.specs.Standing.{block_at}
use Rattle.script_forms.specs.declared.node.Forking.{Forking}
use Rattle.script_forms.specs.declared.node.Node.{Node}
use Rattle.script_forms.specs.declared.node.Node.TheVariants as node
use Rattle.script_forms.specs.declared.node.ObjectCall.{ObjectCall}
use Rattle.script_forms.specs.declared.node.ReaderCall.{ReaderCall}
use Rattle.spec_fiber.specs.Evaluation.{value_at, held_context, held_switch, held_number}
use Rattle.spec_fiber.specs.Silent.{asks, statement}
use Rattle.fiber_step.specs.Standing.{ask_of}
use Rattle.fiber_step.specs.declared.ask.Ask.{Ask}
use Rattle.fiber_step.specs.declared.ask.Ask.TheVariants as ask
use Rattle.fiber_step.proofs.Steps.{Knows, known_at, IsCallStep, called}

pub yield_step : (nodes : List Node) (texts at : ℕ) (n_at : Node) (variables : List Value) (call : Ask) (after : ℕ) → Knows nodes texts at n_at → n_at ≡ node.Yield
    → call ≡ ask.Yield → after ≡ at + 1 → IsCallStep nodes texts at variables call after
unfolding statement
yield_step nodes texts at n_at variables call after knows e call_is after_is =
    let here = known_at nodes texts at n_at node.Yield knows e in
    called nodes texts at variables (syntax.Yield) call (ask.Yield) after (at + 1) call_is after_is here.stands here.parts tt tt (λ c same. refl)

pub check_step : (nodes : List Node) (texts at : ℕ) (n_at : Node) (variables : List Value) (call : Ask) (after : ℕ) → Knows nodes texts at n_at → n_at ≡ node.Check
    → call ≡ ask.Check → after ≡ at + 1 → IsCallStep nodes texts at variables call after
unfolding statement
check_step nodes texts at n_at variables call after knows e call_is after_is =
    let here = known_at nodes texts at n_at node.Check knows e in
    called nodes texts at variables (syntax.Check) call (ask.Check) after (at + 1) call_is after_is here.stands here.parts tt tt (λ c same. refl)

pub await_cancel_step : (nodes : List Node) (texts at : ℕ) (n_at : Node) (variables : List Value) (call : Ask) (after : ℕ) → Knows nodes texts at n_at → n_at ≡ node.AwaitCancel
    → call ≡ ask.AwaitCancel → after ≡ at + 1 → IsCallStep nodes texts at variables call after
unfolding statement
await_cancel_step nodes texts at n_at variables call after knows e call_is after_is =
    let here = known_at nodes texts at n_at node.AwaitCancel knows e in
    called nodes texts at variables (syntax.AwaitCancel) call (ask.AwaitCancel) after (at + 1) call_is after_is here.stands here.parts tt tt (λ c same. refl)

pub now_step : (nodes : List Node) (texts at : ℕ) (n_at : Node) (variables : List Value) (call : Ask) (after : ℕ) → Knows nodes texts at n_at → n_at ≡ node.Now
    → call ≡ ask.Now → after ≡ at + 1 → IsCallStep nodes texts at variables call after
unfolding statement
now_step nodes texts at n_at variables call after knows e call_is after_is =
    let here = known_at nodes texts at n_at node.Now knows e in
    called nodes texts at variables (syntax.Now) call (ask.Now) after (at + 1) call_is after_is here.stands here.parts tt tt (λ c same. refl)

pub cancel_step : (nodes : List Node) (texts at : ℕ) (n_at : Node) (variables : List Value) (call : Ask) (after : ℕ) (context : ℕ) (text : TextId) (found : ℕ) → Knows nodes texts at n_at → n_at ≡ (node.Cancel context text) → found ≡ held_context variables context
    → call ≡ ask.Cancel found text → after ≡ at + 1 → IsCallStep nodes texts at variables call after
unfolding statement
cancel_step nodes texts at n_at variables call after context text found knows e found_is call_is after_is =
    let here = known_at nodes texts at n_at (node.Cancel context text) knows e in
    called nodes texts at variables (syntax.Cancel context text) call (ask.Cancel found text) after (at + 1) call_is after_is here.stands here.parts tt here.text (λ c same. ap (λ found. asks (ask_of nodes (ask.Cancel found text)) c) (ap (λ those. held_context those context) same ∙ sym found_is))

pub fail_step : (nodes : List Node) (texts at : ℕ) (n_at : Node) (variables : List Value) (call : Ask) (after : ℕ) (switch : ℕ) (text : TextId) (found : ℕ) → Knows nodes texts at n_at → n_at ≡ (node.Fail switch text) → found ≡ held_switch variables switch
    → call ≡ ask.Fail found text → after ≡ at + 1 → IsCallStep nodes texts at variables call after
unfolding statement
fail_step nodes texts at n_at variables call after switch text found knows e found_is call_is after_is =
    let here = known_at nodes texts at n_at (node.Fail switch text) knows e in
    called nodes texts at variables (syntax.Fail switch text) call (ask.Fail found text) after (at + 1) call_is after_is here.stands here.parts tt here.text (λ c same. ap (λ found. asks (ask_of nodes (ask.Fail found text)) c) (ap (λ those. held_switch those switch) same ∙ sym found_is))

pub on_object_step : (nodes : List Node) (texts at : ℕ) (n_at : Node) (variables : List Value) (call : Ask) (after : ℕ) (which : ObjectCall) (object : ℕ) → Knows nodes texts at n_at → n_at ≡ (node.OnObject which object)
    → call ≡ ask.OnObject which object → after ≡ at + 1 → IsCallStep nodes texts at variables call after
unfolding statement
on_object_step nodes texts at n_at variables call after which object knows e call_is after_is =
    let here = known_at nodes texts at n_at (node.OnObject which object) knows e in
    called nodes texts at variables (syntax.OnObject (object_call_of which) object) call (ask.OnObject which object) after (at + 1) call_is after_is here.stands here.parts tt tt (λ c same. refl)

pub on_reader_step : (nodes : List Node) (texts at : ℕ) (n_at : Node) (variables : List Value) (call : Ask) (after : ℕ) (which : ReaderCall) (reader : ℕ) (found : ℕ) → Knows nodes texts at n_at → n_at ≡ (node.OnReader which reader) → found ≡ held_number variables reader
    → call ≡ ask.OnReader which found → after ≡ at + 1 → IsCallStep nodes texts at variables call after
unfolding statement
on_reader_step nodes texts at n_at variables call after which reader found knows e found_is call_is after_is =
    let here = known_at nodes texts at n_at (node.OnReader which reader) knows e in
    called nodes texts at variables (syntax.OnReader (reader_call_of which) reader) call (ask.OnReader which found) after (at + 1) call_is after_is here.stands here.parts tt tt (λ c same. ap (λ found. asks (ask_of nodes (ask.OnReader which found)) c) (ap (λ those. held_number those reader) same ∙ sym found_is))

pub copy_step : (nodes : List Node) (texts at : ℕ) (n_at : Node) (variables : List Value) (call : Ask) (after : ℕ) (from : ℕ) (to : ℕ) → Knows nodes texts at n_at → n_at ≡ (node.Copy from to)
    → call ≡ ask.Copy from to → after ≡ at + 1 → IsCallStep nodes texts at variables call after
unfolding statement
copy_step nodes texts at n_at variables call after from to knows e call_is after_is =
    let here = known_at nodes texts at n_at (node.Copy from to) knows e in
    called nodes texts at variables (syntax.Copy from to) call (ask.Copy from to) after (at + 1) call_is after_is here.stands here.parts tt tt (λ c same. refl)

pub sub_step : (nodes : List Node) (texts at : ℕ) (n_at : Node) (variables : List Value) (call : Ask) (after : ℕ) (n : ℕ) (from_here : ℕ) → Knows nodes texts at n_at → n_at ≡ (node.Sub n from_here)
    → call ≡ ask.Sub n → after ≡ from_here → IsCallStep nodes texts at variables call after
unfolding statement
sub_step nodes texts at n_at variables call after n from_here knows e call_is after_is =
    let here = known_at nodes texts at n_at (node.Sub n from_here) knows e in
    called nodes texts at variables (syntax.Sub (block_at nodes n)) call (ask.Sub n) after from_here call_is after_is here.stands here.parts.1 here.parts.0 tt (λ c same. refl)

pub protect_step : (nodes : List Node) (texts at : ℕ) (n_at : Node) (variables : List Value) (call : Ask) (after : ℕ) (n : ℕ) (from_here : ℕ) → Knows nodes texts at n_at → n_at ≡ (node.Protect n from_here)
    → call ≡ ask.Protect n → after ≡ from_here → IsCallStep nodes texts at variables call after
unfolding statement
protect_step nodes texts at n_at variables call after n from_here knows e call_is after_is =
    let here = known_at nodes texts at n_at (node.Protect n from_here) knows e in
    called nodes texts at variables (syntax.Protect (block_at nodes n)) call (ask.Protect n) after from_here call_is after_is here.stands here.parts.1 here.parts.0 tt (λ c same. refl)

pub switch_step : (nodes : List Node) (texts at : ℕ) (n_at : Node) (variables : List Value) (call : Ask) (after : ℕ) (n : ℕ) (from_here : ℕ) → Knows nodes texts at n_at → n_at ≡ (node.Switch n from_here)
    → call ≡ ask.Switch n → after ≡ from_here → IsCallStep nodes texts at variables call after
unfolding statement
switch_step nodes texts at n_at variables call after n from_here knows e call_is after_is =
    let here = known_at nodes texts at n_at (node.Switch n from_here) knows e in
    called nodes texts at variables (syntax.Switch (block_at nodes n)) call (ask.Switch n) after from_here call_is after_is here.stands here.parts.1 here.parts.0 tt (λ c same. refl)

pub buf_read_step : (nodes : List Node) (texts at : ℕ) (n_at : Node) (variables : List Value) (call : Ask) (after : ℕ) (flow : ℕ) (limit : ℕ) (n : ℕ) (from_here : ℕ) → Knows nodes texts at n_at → n_at ≡ (node.BufRead flow limit n from_here)
    → call ≡ ask.OpenReader flow limit n → after ≡ from_here → IsCallStep nodes texts at variables call after
unfolding statement
buf_read_step nodes texts at n_at variables call after flow limit n from_here knows e call_is after_is =
    let here = known_at nodes texts at n_at (node.BufRead flow limit n from_here) knows e in
    called nodes texts at variables (syntax.BufRead flow limit (block_at nodes n)) call (ask.OpenReader flow limit n) after from_here call_is after_is here.stands here.parts.1 here.parts.0 tt (λ c same. refl)

pub buf_write_step : (nodes : List Node) (texts at : ℕ) (n_at : Node) (variables : List Value) (call : Ask) (after : ℕ) (flow : ℕ) (n : ℕ) (from_here : ℕ) → Knows nodes texts at n_at → n_at ≡ (node.BufWrite flow n from_here)
    → call ≡ ask.OpenWriter flow n → after ≡ from_here → IsCallStep nodes texts at variables call after
unfolding statement
buf_write_step nodes texts at n_at variables call after flow n from_here knows e call_is after_is =
    let here = known_at nodes texts at n_at (node.BufWrite flow n from_here) knows e in
    called nodes texts at variables (syntax.BufWrite flow (block_at nodes n)) call (ask.OpenWriter flow n) after from_here call_is after_is here.stands here.parts.1 here.parts.0 tt (λ c same. refl)

pub fork_step : (nodes : List Node) (texts at : ℕ) (n_at : Node) (variables : List Value) (call : Ask) (after : ℕ) (forking : Forking) (switch : ℕ) (n : ℕ) (from_here : ℕ) (found : ℕ) → Knows nodes texts at n_at → n_at ≡ (node.Fork forking switch n from_here) → found ≡ held_switch variables switch
    → call ≡ ask.Fork forking found n → after ≡ from_here → IsCallStep nodes texts at variables call after
unfolding statement
fork_step nodes texts at n_at variables call after forking switch n from_here found knows e found_is call_is after_is =
    let here = known_at nodes texts at n_at (node.Fork forking switch n from_here) knows e in
    called nodes texts at variables (syntax.Fork (forking_of forking) switch (block_at nodes n)) call (ask.Fork forking found n) after from_here call_is after_is here.stands here.parts.1 here.parts.0 tt (λ c same. ap (λ found. asks (ask_of nodes (ask.Fork forking found n)) c) (ap (λ those. held_switch those switch) same ∙ sym found_is))

pub on_release_step : (nodes : List Node) (texts at : ℕ) (n_at : Node) (variables : List Value) (call : Ask) (after : ℕ) (switch : ℕ) (n : ℕ) (from_here : ℕ) (found : ℕ) → Knows nodes texts at n_at → n_at ≡ (node.OnRelease switch n from_here) → found ≡ held_switch variables switch
    → call ≡ ask.OnRelease found n → after ≡ from_here → IsCallStep nodes texts at variables call after
unfolding statement
on_release_step nodes texts at n_at variables call after switch n from_here found knows e found_is call_is after_is =
    let here = known_at nodes texts at n_at (node.OnRelease switch n from_here) knows e in
    called nodes texts at variables (syntax.OnRelease switch (block_at nodes n)) call (ask.OnRelease found n) after from_here call_is after_is here.stands here.parts.1 here.parts.0 tt (λ c same. ap (λ found. asks (ask_of nodes (ask.OnRelease found n)) c) (ap (λ those. held_switch those switch) same ∙ sym found_is))

pub submit_step : (nodes : List Node) (texts at : ℕ) (n_at : Node) (variables : List Value) (call : Ask) (after : ℕ) (executor : ℕ) (weight : ℕ) (captured : List ℕ) (n : ℕ) (from_here : ℕ) (found : List Value) → Knows nodes texts at n_at → n_at ≡ (node.Submit executor weight captured n from_here) → found ≡ map (value_at variables) captured
    → call ≡ ask.Submit executor weight found n → after ≡ from_here → IsCallStep nodes texts at variables call after
unfolding statement
submit_step nodes texts at n_at variables call after executor weight captured n from_here found knows e found_is call_is after_is =
    let here = known_at nodes texts at n_at (node.Submit executor weight captured n from_here) knows e in
    called nodes texts at variables (syntax.Submit executor weight captured (block_at nodes n)) call (ask.Submit executor weight found n) after from_here call_is after_is here.stands here.parts.1.1 here.parts.1.0 tt (λ c same. ap (λ found. asks (ask_of nodes (ask.Submit executor weight found n)) c) (ap (λ those. map (value_at those) captured) same ∙ sym found_is))
