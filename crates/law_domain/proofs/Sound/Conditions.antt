-- What is so of a sound domain when a fiber calls.
use Rattle.std.proofs.Common.{◌≡◌, ℕ, Bool, true, false, is_some, List, [], ◌∷◌, ◌++◌, refl, ap, ◌∙◌, sym, subst, arith}
use Rattle.std.specs.Prelude.{slice_get}
use Rattle.spec_parts.specs.Switches.{switch_at}
use Rattle.spec_fiber.specs.Asks as ask
use Rattle.spec_fiber.specs.Asks.{Ask}
use Rattle.spec_machine.specs.Domain.{Role, OfBody, OfSwitch, OfGroup, DomainState, fiber_at, has_ended}
use Rattle.law_domain.specs.Sound.Conditions.{AtEnd, IsAlone, MayClose, MayLeave, MayJoin, EndsAs, IsMet, MovesMayCall, SwitchesAreSound}
use Rattle.law_domain.specs.Sound.Scopes.{Entered, InContext, InSwitch, InGroup, Nests, ScopeAt, base_of, called_scope, context_in, is_end, scopes_in, scopes_of}
use Rattle.law_domain.specs.Sound.SoundStates.{IsBuiltRole, IsSoundState, attached_to}
use Rattle.law_domain.proofs.Sound.Branches.{nobody_branches, some_branch}
use Rattle.law_domain.proofs.Sound.Counting.{lives_below}
use Rattle.law_domain.proofs.Sound.Following.{body_childless, body_runs, context_live, nobody_new, role_below, role_unfinished, room_among_live, room_behind, scope_childless, scope_runs, unfinished_live}
use Rattle.law_domain.proofs.Sound.Preparing.{prepares_call}
use Rattle.law_domain.proofs.Sound.Scoping.{context_no_group, context_no_switch, group_in, groups_below, same_switch, switch_no_group, unfinished_below}

module _ (l : DomainState) (sound : IsSoundState l) (g : ℕ) (lives : has_ended (fiber_at l.fibers g) ≡ false) where
  -- ## Ends of scopes

  at_end : (scope : Entered) (behind : List Entered) → scopes_of l g ≡ scope ∷ behind → AtEnd l g scope
  at_end scope behind sees = (
      let here : ScopeAt (scopes_of l) l scope g 0 = record { lives = lives; there = ap (λ xs. slice_get xs 0) sees } in
      record {
        innermost = here;
        entered = sound.scoped.entered scope g 0 here;
        runs = sym (runs_by (subst (λ xs. Nests l (base_of l (fiber_at l.fibers g).role) xs (fiber_at l.fibers g).context) sees (sound.scoped.nests g lives)));
      }) where
        runs_by : Nests l (base_of l (fiber_at l.fibers g).role) (scope ∷ behind) (fiber_at l.fibers g).context → context_in l scope ≡ (fiber_at l.fibers g).context
        runs_by nests = nests.0

  alone_in : (scope : Entered) → ScopeAt (scopes_of l) l scope g 0 → ((n : ℕ) → scope ≡ InSwitch n → (daemon : Bool) → attached_to daemon (switch_at l.switches n) ≡ [])
      → ((n : ℕ) (own : Bool) (h : ℕ) → scope ≡ InGroup n own → (fiber_at l.fibers h).role ≡ OfGroup n → has_ended (fiber_at l.fibers h) ≡ false → ⊥)
      → IsAlone l g (context_in l scope)
  alone_in scope here nobody no_branch = record {
    childless = scope_childless (scopes_of l) l.lines l sound scope g here nobody no_branch;
    idle = scope_runs (scopes_of l) l.lines l sound scope g here nobody no_branch;
  }

  may_close : (n : ℕ) (behind : List Entered) → scopes_of l g ≡ InSwitch n ∷ behind → MayClose l g n
  may_close n behind sees = (
      let it = at_end (InSwitch n) behind sees in
      record {
        at_end = it;
        made = unfinished_below l.switches n it.entered.unfinished;
        unfinished = it.entered.unfinished;
        live = it.entered.live;
        alone = λ none. alone_in (InSwitch n) it.innermost
            (λ m e daemon. subst (λ (x : ℕ). attached_to daemon (switch_at l.switches x) ≡ []) (same_switch n m e) (none daemon))
            (λ m own h e role alive. switch_no_group n m own e);
      })

  may_leave : (c : ℕ) (behind : List Entered) → scopes_of l g ≡ InContext c ∷ behind → MayLeave l g c
  may_leave c behind sees = (
      let it = at_end (InContext c) behind sees in
      record {
        at_end = it;
        live = it.entered.live;
        alone = alone_in (InContext c) it.innermost (λ n e daemon. absurd (context_no_switch c n e)) (λ n own h e role alive. context_no_group c n own e);
      })

  may_join : (n : ℕ) (own : Bool) (behind : List Entered) → scopes_of l g ≡ InGroup n own ∷ behind → MayJoin l g n own
  may_join n own behind sees = (
      let it = at_end (InGroup n own) behind sees in
      let left = sound.scoped.left n own g 0 it.innermost in
      record {
        at_end = it;
        made = groups_below l.groups n it.entered.low;
        live = it.entered.live;
        some_left = omega (arith, left);
        alone = λ last. alone_in (InGroup n own) it.innermost (λ m e daemon. absurd (switch_no_group m n own (sym e)))
            (λ m other h e role alive. nobody_branches n l.fibers (omega (arith, left, last)) h alive (role ∙ ap (λ (x : ℕ). OfGroup x) (sym (ap group_in e))));
      })

  -- ## The end of the fiber

  module _ (outside : scopes_of l g ≡ []) where
    at_base : (fiber_at l.fibers g).context ≡ base_of l (fiber_at l.fibers g).role
    at_base = subst (λ xs. Nests l (base_of l (fiber_at l.fibers g).role) xs (fiber_at l.fibers g).context) outside (sound.scoped.nests g lives)

    ends_as : (role : Role) → (fiber_at l.fibers g).role ≡ role → IsBuiltRole g role → EndsAs l g role
    ends_as OfBody is may = (
        let body : scopes_of l 0 ≡ [] = subst (λ (x : ℕ). scopes_of l x ≡ []) may outside in (
          may,
          at_base ∙ ap (base_of l) is,
          record {
            childless = body_childless (scopes_of l) l.lines l sound body;
            idle = λ h alive same. body_runs (scopes_of l) l.lines l sound body h alive same ∙ sym may;
          },
        ))
    ends_as (OfSwitch n daemon) is may = (
      may,
      role_below (scopes_of l) l.lines l sound n daemon g is lives,
      role_unfinished (scopes_of l) l.lines l sound n daemon g is lives,
      sound.attaching.attaches n daemon g is lives,
      at_base ∙ ap (base_of l) is,
    )
    ends_as (OfGroup n) is may = (
        let it = sound.scoped.gathered n g is lives in
        let left = sound.scoped.left n it.0 it.1 it.2 it.3 in
        let some = some_branch n l.fibers g lives is in (
          may,
          groups_below l.groups n (sound.scoped.entered (InGroup n it.0) it.1 it.2 it.3).low,
          omega (arith, left, some),
          at_base ∙ ap (base_of l) is,
        ))
    ends_as role is may = absurd may

  -- ## All calls

  is_met : (call : Ask) (behind : List Entered) → scopes_of l g ≡ called_scope call ++ behind → (is_end_of : is_end call ≡ true → behind ≡ []) → IsMet l g call
  is_met (ask.Leave c late it) behind sees bare = may_leave c behind sees
  is_met (ask.Close n came kept) behind sees bare = may_close n behind sees
  is_met (ask.Join n own) behind sees bare = may_join n (is_some own) behind sees
  is_met (ask.End it) behind sees bare = (sees ∙ bare refl, ends_as (sees ∙ bare refl) (fiber_at l.fibers g).role refl ((sound.fibers g).role lives))
  is_met call behind sees bare = tt

pub moves_may_call : MovesMayCall
moves_may_call l g others sound none is = (
    let it = prepares_call l sound g others none is in
    record {
      next = it.next;
      stands = it.stands;
      may = it.may;
      settled = it.settled;
      settles = it.settles;
      prepares = it.prepares;
      built = it.calls.built;
      work = it.calls.position;
      lives = it.lives;
      made = lives_below l.fibers g it.lives;
      live = context_live (scopes_of l) l.lines l sound g it.lives;
      met = is_met l sound g it.lives it.settled.call (scopes_in it.settled.behind) it.calls.sees (λ e. ap scopes_in (it.calls.bare e));
      room = room_behind (scopes_of l) l.lines l sound g others is;
      among_live = room_among_live (scopes_of l) l.lines l sound g others is;
    })

pub switches_are_sound : SwitchesAreSound
switches_are_sound l sound = record {
  live = unfinished_live (scopes_of l) l.lines l sound;
  made = λ n still. unfinished_below l.switches n still;
  nobody_new = nobody_new (scopes_of l) l.lines l sound;
}
