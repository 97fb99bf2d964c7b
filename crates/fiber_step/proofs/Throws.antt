-- What an exception comes to.
use Rattle.std.proofs.Common.{◌≡◌, ◌≤◌, ◌+◌, ℕ, List, [], ◌∷◌, ◌++◌, append-nil, append_assoc, Option, Some, None, true, false, length, take, refl, sym, ap, ◌∙◌, subst, arith}
use Rattle.std.proofs.Math.Seq.{take-append_seam}
use Rattle.std.specs.Prelude.{position}
use Rattle.std.specs.Str.{bytes_eq}
use Rattle.eio_value.specs.Exceptions.{bound_text}
use Rattle.eio_value.specs.Table.{Interned, intern, text_id}
use Rattle.eio_value.specs.declared.plain.Member.{Member}
use Rattle.eio_value.specs.declared.plain.Plain.{Plain}
use Rattle.eio_value.specs.declared.raised.Outcome.{Outcome}
use Rattle.eio_value.specs.declared.raised.Outcome.TheVariants as outcome
use Rattle.eio_value.specs.declared.raised.Raised.{Raised}
use Rattle.eio_value.specs.declared.raised.Raised.TheVariants.{One}
use Rattle.eio_value.specs.declared.value.TextId.{TextId}
use Rattle.eio_value.specs.declared.value.Value.TheVariants as value
use Rattle.script_code.specs.Standing.{statements_at}
use Rattle.script_forms.specs.declared.node.Node.{Node}
use Rattle.spec_fiber.specs.Asks as model
use Rattle.spec_fiber.specs.Settling.{Settled, answered, thrown}
use Rattle.spec_fiber.specs.Silent.{block}
use Rattle.spec_fiber.specs.Work as work
use Rattle.spec_fiber.specs.Work.{Carry, restored, bound}
use Rattle.fiber_step.specs.Framing.{KeptFrames}
use Rattle.fiber_step.specs.Standing.{works_of, is_end}
use Rattle.fiber_step.specs.Throwing.{shared_by, IsGrown, IsTurnWith}
use Rattle.fiber_step.specs.Turning.{with_mark, next_call, next_behind, gone_into, cut_to, naming, carried, Shared, IsLighter, IsTurn}
use Rattle.fiber_step.specs.Unwinding.{stops, IsDropped}
use Rattle.fiber_step.specs.Weighing.{weight_of_block, weight}
use Rattle.fiber_step.specs.declared.ask.Ask.TheVariants as ask
use Rattle.fiber_step.specs.declared.mark.Mark.{Mark}
use Rattle.fiber_step.specs.declared.mark.Mark.TheVariants as mark
use Rattle.fiber_step.specs.declared.progress.Progress.{Progress}
use Rattle.fiber_step.specs.declared.progress.Progress.TheVariants as progress
use Rattle.fiber_step.proofs.Passes.{block_works, block_weight, block_placed}
use Rattle.fiber_step.proofs.Turns.{mark_next, mark_weight, mark_placed, placed_mark}

-- ## The table

grown_by : (texts : List (List ℕ)) (text : List ℕ) (found : Option ℕ)
    → IsGrown texts (let i : Interned = elim found [ Some at ↦ record { id = text_id at; texts = texts } | None ↦ record { id = text_id (length texts); texts = texts ++ text ∷ [] } ] in i.texts)
grown_by texts text (Some at) = record { more = []; is = sym (append-nil texts) }
grown_by texts text None = record { more = text ∷ []; is = refl }

pub none_grown : (texts others : List (List ℕ)) → others ≡ texts → IsGrown texts others
none_grown texts others e = record { more = []; is = e ∙ sym (append-nil texts) }

-- cut to its old length it is the old one
pub cut_back : (old new : List (List ℕ)) (before : ℕ) → IsGrown old new → before ≡ length old → take before new ≡ old
cut_back old new before grown same = ap (λ n. take n new) same ∙ (ap (take (length old)) grown.is ∙ take-append_seam old grown.more)

pub grown_then : (old mid new : List (List ℕ)) → IsGrown old mid → IsGrown mid new → IsGrown old new
grown_then old mid new first second = record { more = first.more ++ second.more; is = second.is ∙ (ap (λ these. these ++ second.more) first.is ∙ append_assoc old first.more second.more) }

pub interned_grown : (texts later : List (List ℕ)) (text : List ℕ) (id : TextId) → (let i : Interned = record { id = id; texts = later } in i ≡ intern texts text) → IsGrown texts later
interned_grown texts later text id e = subst (λ these. IsGrown texts these) (sym (ap (λ (i : Interned). i.texts) e)) (grown_by texts text (position (bytes_eq text) texts))

-- ## Turns of an exception

pub turn_with : (nodes : List Node) (came : Outcome) (old new : KeptFrames) (t : Progress) (shared : Shared) → IsTurn nodes came old t new → IsTurnWith nodes (next_call nodes came) old shared t new shared
turn_with nodes came old new t shared is = record { next = λ before. (before, is.next (carried shared before)); placed = is.placed; lighter = is.lighter; quiet = is.quiet }

lighter_than : (nodes : List Node) (old mid new : KeptFrames) (t : Progress) → weight (works_of nodes mid.items) ≤ weight (works_of nodes old.items) → IsLighter nodes mid t new → IsLighter nodes old t new
lighter_than nodes old mid new (progress.GoesOn it) less lighter = omega (arith, less, lighter)
lighter_than nodes old mid new (progress.Calls call) less lighter = tt
lighter_than nodes old mid new (progress.Raises what) less lighter = omega (arith, less, lighter)

-- behind what an exception drops
pub dropped_turn : (nodes : List Node) (raised : Raised) (old mid new : KeptFrames) (t : Progress) (shared later : Shared) → IsDropped old mid
    → IsTurnWith nodes (next_call nodes (outcome.Err raised)) mid shared t new later → IsTurnWith nodes (next_call nodes (outcome.Err raised)) old shared t new later
dropped_turn nodes raised old mid new t shared later dropped is = record {
  next = λ before. let found = is.next before in (found.0, dropped.same nodes raised (carried shared before) ∙ found.1);
  placed = λ all. is.placed (dropped.placed nodes all);
  lighter = lighter_than nodes old mid new t (dropped.lighter nodes) is.lighter;
  quiet = is.quiet;
}

none_left : (nodes : List Node) (raised : Raised) (kept : KeptFrames) (c : Carry) → kept.items ≡ []
    → next_call nodes (outcome.Err raised) kept c ≡ (let s : Settled = record { call = model.End (outcome.Err raised); behind = works_of nodes kept.items; carry = restored kept.variables c } in s)
unfolding thrown
none_left nodes raised kept c none =
    ap (λ these. thrown (works_of nodes these) raised (restored kept.variables c)) none
    ∙ ap (λ these. let s : Settled = record { call = model.End (outcome.Err raised); behind = works_of nodes these; carry = restored kept.variables c } in s) (sym none)

-- it ends a fiber that has no work
pub ends_fiber : (nodes : List Node) (raised : Raised) (kept : KeptFrames) (shared : Shared) → kept.items ≡ []
    → IsTurnWith nodes (next_call nodes (outcome.Err raised)) kept shared (progress.Calls (ask.End (outcome.Err raised))) kept shared
ends_fiber nodes raised kept shared none = record {
  next = λ before. (before, none_left nodes raised kept (carried shared before) none);
  placed = λ all. all;
  lighter = tt;
  quiet = tt;
}

-- it is caught
caught_next : (nodes : List Node) (raised : Raised) (handler keep serial : ℕ) (texts later : List (List ℕ)) (id : TextId) (old : KeptFrames) (before : List Member)
    → (let i : Interned = record { id = id; texts = later } in i ≡ intern texts (bound_text texts raised))
    → next_call nodes (outcome.Err raised) (with_mark (mark.Try handler keep) old) (carried (shared_by texts serial) before)
    ≡ answered (work.Run (statements_at nodes handler) ∷ work.Cut keep ∷ works_of nodes old.items) value.Unit (restored (take keep old.variables ++ value.Text id ∷ []) (carried (shared_by later serial) before))
unfolding answered thrown block
caught_next nodes raised handler keep serial texts later id old before interned =
    mark_next nodes (outcome.Err raised) (mark.Try handler keep) old (carried (shared_by texts serial) before)
    ∙ ap (λ (i : Interned). answered (work.Run (statements_at nodes handler) ∷ work.Cut keep ∷ works_of nodes old.items) value.Unit
    (restored (take keep old.variables ++ value.Text i.id ∷ []) (carried (shared_by i.texts serial) before))) (sym interned)

pub caught_turn : (nodes : List Node) (raised : Raised) (handler keep serial : ℕ) (texts later : List (List ℕ)) (id : TextId) (old : KeptFrames)
    → (let i : Interned = record { id = id; texts = later } in i ≡ intern texts (bound_text texts raised))
    → IsTurnWith nodes (next_call nodes (outcome.Err raised)) (with_mark (mark.Try handler keep) old) (shared_by texts serial) (progress.GoesOn value.Unit)
    (gone_into (mark.Cut keep) handler (naming (value.Text id) (cut_to keep old))) (shared_by later serial)
unfolding weight_of_block
caught_turn nodes raised handler keep serial texts later id old interned =
    let named = naming (value.Text id) (cut_to keep old) in
    let end = mark.Cut keep in
    record {
      next = λ before. (
        before,
        caught_next nodes raised handler keep serial texts later id old before interned
            ∙ ap (λ these. answered these value.Unit (restored named.variables (carried (shared_by later serial) before))) (block_works nodes end handler named),
      );
      placed = λ all. let was = mark_placed nodes (mark.Try handler keep) old all in block_placed nodes end handler named was.0 was.1.0 (placed_mark nodes end old.items was.0 (tt, tt));
      lighter = let sum = mark_weight nodes (mark.Try handler keep) old in let less = block_weight nodes end handler named in omega (arith, sum, less);
      quiet = tt;
    }

-- a new raise
pub raised_turn : (nodes : List Node) (what : Plain) (old new : KeptFrames) (t : Progress) (texts : List (List ℕ)) (serial : ℕ) (later : Shared)
    → (let x : Member = record { serial = serial; what = what } in IsTurnWith nodes (next_call nodes (outcome.Err (One x))) old (shared_by texts (serial + 1)) t new later)
    → IsTurnWith nodes (next_behind nodes (progress.Raises what)) old (shared_by texts serial) t new later
raised_turn nodes what old new t texts serial later is =
    let x : Member = record { serial = serial; what = what } in
    record { next = λ before. is.next (before ++ x ∷ []); placed = is.placed; lighter = is.lighter; quiet = is.quiet }

-- a mark at which an exception stops, and which isn't an end, is that of a `try`
pub is_try : (it : Mark) → stops it ≡ true → is_end it ≡ false → ((handler keep : ℕ) → it ≡ mark.Try handler keep → ⊥) → ⊥
is_try (mark.Try handler keep) stop end other = other handler keep refl
is_try (mark.Run at) stop end other = cc
is_try (mark.Cut keep) stop end other = cc
is_try (mark.Bind slot) stop end other = cc
is_try (mark.Loop body keep) stop end other = cc
is_try (mark.Repeat number left body keep) stop end other = cc
is_try (mark.Locking mutex body) stop end other = cc
is_try (mark.Using pool body) stop end other = cc
is_try (mark.Leave context late keep) stop end other = cc
is_try (mark.Close switch keep) stop end other = cc
is_try (mark.Closing switch kept) stop end other = cc
is_try (mark.Join group keep) stop end other = cc
is_try (mark.ShutReader reader keep) stop end other = cc
is_try (mark.ShutWriter writer keep) stop end other = cc
is_try (mark.Unlock mutex keep) stop end other = cc
is_try (mark.Put pool resource keep) stop end other = cc
is_try (mark.Resolve promise) stop end other = cc
