-- The calls of end marks.
use Rattle.std.specs.Prelude.{IfSome}
use Rattle.std.proofs.Common.{◌≡◌, ℕ, List, ◌∷◌, Bool, false, Option, Some, None, refl, sym, ap, ◌∙◌, subst}
use Rattle.eio_value.specs.declared.raised.Outcome.{Outcome}
use Rattle.eio_value.specs.declared.raised.Outcome.TheVariants as outcome
use Rattle.eio_value.specs.declared.value.Value.{Value}
use Rattle.script_forms.specs.declared.node.Node.{Node}
use Rattle.spec_fiber.specs.Asks as model
use Rattle.spec_fiber.specs.Replies.{passed}
use Rattle.spec_fiber.specs.Settling.{Settled, answered, thrown}
use Rattle.spec_fiber.specs.Work as work
use Rattle.spec_fiber.specs.Work.{Work, Carry, cut}
use Rattle.fiber_step.specs.Standing.{mark_work, ask_of, kept_by, is_end, Ends, failed_in, value_in, unlocked}
use Rattle.fiber_step.specs.Stepping.{HasBodiesOf}
use Rattle.fiber_step.specs.declared.ask.Ask.{Ask}
use Rattle.fiber_step.specs.declared.mark.End.{End}
use Rattle.fiber_step.specs.declared.mark.Mark.{Mark}
use Rattle.fiber_step.specs.declared.mark.Mark.TheVariants as mark

-- what is said of a call, where it is this one for each list of nodes
ends : (it : Mark) (came : Outcome) (call : Ask) (keep : Option ℕ) (is : model.Ask) → ((nodes : List Node) → ask_of nodes call ≡ is)
    → ((nodes : List Node) (behind : List Work) (c : Carry) → passed came (mark_work nodes it ∷ behind) c ≡ (let s : Settled = record { call = is; behind = behind; carry = kept_by keep c } in s))
    → (result : Option End) → result ≡ Some (record { call = call; keep = keep }) → Ends it came result
ends it came call keep is same all result made =
    subst (λ r. Ends it came r) (sym made) (λ nodes behind c. all nodes behind c ∙ ap (λ it. let s : Settled = record { call = it; behind = behind; carry = kept_by keep c } in s) (sym (same nodes)))

leave_goes : (context : ℕ) (late : Bool) (keep : ℕ) (came : Outcome) (behind : List Work) (c : Carry) → passed came (work.Leave context late keep ∷ behind) c ≡ (let s : Settled = record { call = model.Leave context late came; behind = behind; carry = kept_by (Some keep) c } in s)
unfolding answered thrown
leave_goes context late keep (outcome.Ok it) behind c = refl
leave_goes context late keep (outcome.Err raised) behind c = refl

pub leave_ends : (it : Mark) (context : ℕ) (late : Bool) (keep : ℕ) (came : Outcome) (call : Ask) (result : Option End) → it ≡ mark.Leave context late keep → ((nodes : List Node) → ask_of nodes call ≡ model.Leave context late came)
    → result ≡ Some (record { call = call; keep = Some keep }) → Ends it came result
leave_ends it context late keep came call result e same made =
    ends it came call (Some keep) (model.Leave context late came) same (λ nodes behind c. ap (λ x. passed came (mark_work nodes x ∷ behind) c) e ∙ leave_goes context late keep came behind c) result made

close_goes : (switch keep : ℕ) (came : Outcome) (behind : List Work) (c : Carry) → passed came (work.Close switch keep ∷ behind) c ≡ (let s : Settled = record { call = model.Close switch (failed_in came) (value_in came); behind = behind; carry = kept_by (Some keep) c } in s)
unfolding answered thrown
close_goes switch keep (outcome.Ok it) behind c = refl
close_goes switch keep (outcome.Err raised) behind c = refl

pub close_ends : (it : Mark) (switch keep : ℕ) (came : Outcome) (call : Ask) (result : Option End) → it ≡ mark.Close switch keep → ((nodes : List Node) → ask_of nodes call ≡ model.Close switch (failed_in came) (value_in came))
    → result ≡ Some (record { call = call; keep = Some keep }) → Ends it came result
close_ends it switch keep came call result e same made =
    ends it came call (Some keep) (model.Close switch (failed_in came) (value_in came)) same (λ nodes behind c. ap (λ x. passed came (mark_work nodes x ∷ behind) c) e ∙ close_goes switch keep came behind c) result made

closing_goes : (switch : ℕ) (kept : Value) (came : Outcome) (behind : List Work) (c : Carry) → passed came (work.Closing switch kept ∷ behind) c ≡ (let s : Settled = record { call = model.Close switch (failed_in came) kept; behind = behind; carry = kept_by (None) c } in s)
unfolding answered thrown
closing_goes switch kept (outcome.Ok it) behind c = refl
closing_goes switch kept (outcome.Err raised) behind c = refl

pub closing_ends : (it : Mark) (switch : ℕ) (kept : Value) (came : Outcome) (call : Ask) (result : Option End) → it ≡ mark.Closing switch kept → ((nodes : List Node) → ask_of nodes call ≡ model.Close switch (failed_in came) kept)
    → result ≡ Some (record { call = call; keep = None }) → Ends it came result
closing_ends it switch kept came call result e same made =
    ends it came call (None) (model.Close switch (failed_in came) kept) same (λ nodes behind c. ap (λ x. passed came (mark_work nodes x ∷ behind) c) e ∙ closing_goes switch kept came behind c) result made

join_goes : (group keep : ℕ) (came : Outcome) (behind : List Work) (c : Carry) → passed came (work.Join group keep ∷ behind) c ≡ (let s : Settled = record { call = model.Join group (Some came); behind = behind; carry = kept_by (Some keep) c } in s)
unfolding answered thrown
join_goes group keep (outcome.Ok it) behind c = refl
join_goes group keep (outcome.Err raised) behind c = refl

pub join_ends : (it : Mark) (group keep : ℕ) (came : Outcome) (call : Ask) (result : Option End) → it ≡ mark.Join group keep → ((nodes : List Node) → ask_of nodes call ≡ model.Join group (Some came))
    → result ≡ Some (record { call = call; keep = Some keep }) → Ends it came result
join_ends it group keep came call result e same made =
    ends it came call (Some keep) (model.Join group (Some came)) same (λ nodes behind c. ap (λ x. passed came (mark_work nodes x ∷ behind) c) e ∙ join_goes group keep came behind c) result made

reader_goes : (reader keep : ℕ) (came : Outcome) (behind : List Work) (c : Carry) → passed came (work.ShutReader reader keep ∷ behind) c ≡ (let s : Settled = record { call = model.ShutReader reader came; behind = behind; carry = kept_by (Some keep) c } in s)
unfolding answered thrown
reader_goes reader keep (outcome.Ok it) behind c = refl
reader_goes reader keep (outcome.Err raised) behind c = refl

pub reader_ends : (it : Mark) (reader keep : ℕ) (came : Outcome) (call : Ask) (result : Option End) → it ≡ mark.ShutReader reader keep → ((nodes : List Node) → ask_of nodes call ≡ model.ShutReader reader came)
    → result ≡ Some (record { call = call; keep = Some keep }) → Ends it came result
reader_ends it reader keep came call result e same made =
    ends it came call (Some keep) (model.ShutReader reader came) same (λ nodes behind c. ap (λ x. passed came (mark_work nodes x ∷ behind) c) e ∙ reader_goes reader keep came behind c) result made

writer_goes : (writer keep : ℕ) (came : Outcome) (behind : List Work) (c : Carry) → passed came (work.ShutWriter writer keep ∷ behind) c ≡ (let s : Settled = record { call = model.ShutWriter writer came; behind = behind; carry = kept_by (Some keep) c } in s)
unfolding answered thrown
writer_goes writer keep (outcome.Ok it) behind c = refl
writer_goes writer keep (outcome.Err raised) behind c = refl

pub writer_ends : (it : Mark) (writer keep : ℕ) (came : Outcome) (call : Ask) (result : Option End) → it ≡ mark.ShutWriter writer keep → ((nodes : List Node) → ask_of nodes call ≡ model.ShutWriter writer came)
    → result ≡ Some (record { call = call; keep = Some keep }) → Ends it came result
writer_ends it writer keep came call result e same made =
    ends it came call (Some keep) (model.ShutWriter writer came) same (λ nodes behind c. ap (λ x. passed came (mark_work nodes x ∷ behind) c) e ∙ writer_goes writer keep came behind c) result made

unlock_goes : (mutex keep : ℕ) (came : Outcome) (behind : List Work) (c : Carry) → passed came (work.Unlock mutex keep ∷ behind) c ≡ (let s : Settled = record { call = unlocked mutex came; behind = behind; carry = kept_by (Some keep) c } in s)
unfolding answered thrown
unlock_goes mutex keep (outcome.Ok it) behind c = refl
unlock_goes mutex keep (outcome.Err raised) behind c = refl

pub unlock_ends : (it : Mark) (mutex keep : ℕ) (came : Outcome) (call : Ask) (result : Option End) → it ≡ mark.Unlock mutex keep → ((nodes : List Node) → ask_of nodes call ≡ unlocked mutex came)
    → result ≡ Some (record { call = call; keep = Some keep }) → Ends it came result
unlock_ends it mutex keep came call result e same made =
    ends it came call (Some keep) (unlocked mutex came) same (λ nodes behind c. ap (λ x. passed came (mark_work nodes x ∷ behind) c) e ∙ unlock_goes mutex keep came behind c) result made

put_goes : (pool resource keep : ℕ) (came : Outcome) (behind : List Work) (c : Carry) → passed came (work.Put pool resource keep ∷ behind) c ≡ (let s : Settled = record { call = model.PutEnd pool resource came; behind = behind; carry = kept_by (Some keep) c } in s)
unfolding answered thrown
put_goes pool resource keep (outcome.Ok it) behind c = refl
put_goes pool resource keep (outcome.Err raised) behind c = refl

pub put_ends : (it : Mark) (pool resource keep : ℕ) (came : Outcome) (call : Ask) (result : Option End) → it ≡ mark.Put pool resource keep → ((nodes : List Node) → ask_of nodes call ≡ model.PutEnd pool resource came)
    → result ≡ Some (record { call = call; keep = Some keep }) → Ends it came result
put_ends it pool resource keep came call result e same made =
    ends it came call (Some keep) (model.PutEnd pool resource came) same (λ nodes behind c. ap (λ x. passed came (mark_work nodes x ∷ behind) c) e ∙ put_goes pool resource keep came behind c) result made

resolve_goes : (promise : ℕ) (came : Outcome) (behind : List Work) (c : Carry) → passed came (work.Resolve promise ∷ behind) c ≡ (let s : Settled = record { call = model.ResolveEnd promise came; behind = behind; carry = kept_by (None) c } in s)
unfolding answered thrown
resolve_goes promise (outcome.Ok it) behind c = refl
resolve_goes promise (outcome.Err raised) behind c = refl

pub resolve_ends : (it : Mark) (promise : ℕ) (came : Outcome) (call : Ask) (result : Option End) → it ≡ mark.Resolve promise → ((nodes : List Node) → ask_of nodes call ≡ model.ResolveEnd promise came)
    → result ≡ Some (record { call = call; keep = None }) → Ends it came result
resolve_ends it promise came call result e same made =
    ends it came call (None) (model.ResolveEnd promise came) same (λ nodes behind c. ap (λ x. passed came (mark_work nodes x ∷ behind) c) e ∙ resolve_goes promise came behind c) result made

-- no other item makes a call at once
pub makes_none : (it : Mark) → ((context : ℕ) (late : Bool) (keep : ℕ) → it ≡ mark.Leave context late keep → ⊥) → ((switch keep : ℕ) → it ≡ mark.Close switch keep → ⊥) → ((switch : ℕ) (kept : Value) → it ≡ mark.Closing switch kept → ⊥) → ((group keep : ℕ) → it ≡ mark.Join group keep → ⊥) → ((reader keep : ℕ) → it ≡ mark.ShutReader reader keep → ⊥) → ((writer keep : ℕ) → it ≡ mark.ShutWriter writer keep → ⊥) → ((mutex keep : ℕ) → it ≡ mark.Unlock mutex keep → ⊥) → ((pool resource keep : ℕ) → it ≡ mark.Put pool resource keep → ⊥) → ((promise : ℕ) → it ≡ mark.Resolve promise → ⊥) → is_end it ≡ false
makes_none (mark.Run number) no_leave no_close no_closing no_join no_reader no_writer no_unlock no_put no_resolve = refl
makes_none (mark.Cut keep) no_leave no_close no_closing no_join no_reader no_writer no_unlock no_put no_resolve = refl
makes_none (mark.Try handler keep) no_leave no_close no_closing no_join no_reader no_writer no_unlock no_put no_resolve = refl
makes_none (mark.Bind slot) no_leave no_close no_closing no_join no_reader no_writer no_unlock no_put no_resolve = refl
makes_none (mark.Loop body keep) no_leave no_close no_closing no_join no_reader no_writer no_unlock no_put no_resolve = refl
makes_none (mark.Repeat turn left body keep) no_leave no_close no_closing no_join no_reader no_writer no_unlock no_put no_resolve = refl
makes_none (mark.Locking mutex body) no_leave no_close no_closing no_join no_reader no_writer no_unlock no_put no_resolve = refl
makes_none (mark.Using pool body) no_leave no_close no_closing no_join no_reader no_writer no_unlock no_put no_resolve = refl
makes_none (mark.Leave context late keep) no_leave no_close no_closing no_join no_reader no_writer no_unlock no_put no_resolve = absurd (no_leave context late keep refl)
makes_none (mark.Close switch keep) no_leave no_close no_closing no_join no_reader no_writer no_unlock no_put no_resolve = absurd (no_close switch keep refl)
makes_none (mark.Closing switch kept) no_leave no_close no_closing no_join no_reader no_writer no_unlock no_put no_resolve = absurd (no_closing switch kept refl)
makes_none (mark.Join group keep) no_leave no_close no_closing no_join no_reader no_writer no_unlock no_put no_resolve = absurd (no_join group keep refl)
makes_none (mark.ShutReader reader keep) no_leave no_close no_closing no_join no_reader no_writer no_unlock no_put no_resolve = absurd (no_reader reader keep refl)
makes_none (mark.ShutWriter writer keep) no_leave no_close no_closing no_join no_reader no_writer no_unlock no_put no_resolve = absurd (no_writer writer keep refl)
makes_none (mark.Unlock mutex keep) no_leave no_close no_closing no_join no_reader no_writer no_unlock no_put no_resolve = absurd (no_unlock mutex keep refl)
makes_none (mark.Put pool resource keep) no_leave no_close no_closing no_join no_reader no_writer no_unlock no_put no_resolve = absurd (no_put pool resource keep refl)
makes_none (mark.Resolve promise) no_leave no_close no_closing no_join no_reader no_writer no_unlock no_put no_resolve = absurd (no_resolve promise refl)

-- the call of an end has no block
pub has_none : (call : Ask) (keep : Option ℕ) (result : Option End) → result ≡ Some (record { call = call; keep = keep }) → ((nodes : List Node) → HasBodiesOf nodes call) → IfSome result (λ end. (nodes : List Node) → HasBodiesOf nodes end.call)
has_none call keep result made none = subst (λ r. IfSome r (λ (end : End). (nodes : List Node) → HasBodiesOf nodes end.call)) (sym made) none
