-- Calls that make branches: `both`, `all`, `first`, `any`. The fiber goes into a group of its own branch alone; then the others are made, one by one.
use Rattle.std.proofs.Common.{◌≡◌, ◌≢◌, ◌⊎◌, inl, inr, ℕ, zero, suc, ◌+◌, ◌-◌, ◌<◌, ◌≤◌, Bool, true, false, not, List, [], ◌∷◌, ◌++◌, length, take, slice_set, Option, Some, None, append-nil, append_assoc, refl, ap, ap₂, ◌∙◌, sym, subst, ltb-false, arith}
use Rattle.std.specs.Prelude.{All, slice_get}
use Rattle.std.specs.List.{Contains, last_or}
use Rattle.std.specs.Option.{unwrap_or}
use Rattle.std.proofs.lemmas.List.{length_push}
use Rattle.std.proofs.lemmas.List.Elements.{All-take}
use Rattle.std.proofs.lemmas.Option.{none-some, same_Some}
use Rattle.eio_value.specs.declared.plain.Plain.{Plain}
use Rattle.eio_value.specs.declared.raised.Outcome.TheVariants as outcome
use Rattle.eio_value.specs.declared.value.Value.{Value}
use Rattle.eio_value.specs.declared.value.Value.TheVariants as value
use Rattle.spec_parts.specs.Contexts.{is_full}
use Rattle.spec_parts.specs.Groups.{Group, group_at, gathered, with_group, never_gathered}
use Rattle.spec_script.specs.Syntax as syntax
use Rattle.spec_script.specs.Syntax.{Block, Begins, Done}
use Rattle.spec_fiber.specs.Asks as ask
use Rattle.spec_fiber.specs.Asks.{Ask}
use Rattle.spec_fiber.specs.Replies.{Position, begun, entered, own_branch, other_branches}
use Rattle.spec_machine.specs.Domain.{Cells, Next, GoesOn, OfGroup, Ready, Fiber, DomainState, never_made, fiber_at, has_ended, live_fibers, most_fibers, made, next_cell, behind_next_cell, is_full_by, moved_to, off_for, placed, to_head}
use Rattle.spec_machine.specs.ContextMoves.{before_block, context_of}
use Rattle.spec_machine.specs.GroupMoves.{branched, branches_in, did_branch, kind_of, makes, numbers_from}
use Rattle.spec_machine.specs.Moves.{own_call}
use Rattle.spec_machine.specs.Steps.{Step, halts, in_new, raises_cancelled}
use Rattle.law_domain.specs.Sound.BuiltForms.{IsBuiltBlock, AreBuilt}
use Rattle.law_domain.specs.Sound.Scopes.{Entered, InGroup, ScopeAt, scopes_in, scopes_of}
use Rattle.law_domain.specs.Sound.SoundStates.{IsSoundWith}
use Rattle.law_domain.proofs.Sound.BuiltSettle.{items_built}
use Rattle.law_domain.proofs.Sound.ByNumber as numbers
use Rattle.law_domain.proofs.Sound.ByNumber.{same_or_other}
use Rattle.law_domain.proofs.Sound.Calling.{CallKept, IsSoundUnless, by_room, goes_cancelled, halting, made_by, placed_only, with_context}
use Rattle.law_domain.proofs.Sound.Changes.{of_only}
use Rattle.law_domain.proofs.Sound.Counting.{count_pushed, lives_below, live_same}
use Rattle.law_domain.proofs.Sound.GroupEntering.{GathersOne, mid_gathers}
use Rattle.law_domain.proofs.Sound.GroupMaking.{BranchesOne, mid_branches}
use Rattle.law_domain.proofs.Sound.GroupMidst.{mid_regrouped}
use Rattle.law_domain.proofs.Sound.Lists.{AreDistinct, all_rest, contains_cases, front_apart}
use Rattle.law_domain.proofs.Sound.Midst.{IsMid, fiber_grows, lined, mid_lives, mid_untouched, one_more_line, seen_ahead, is_ready_lives}
use Rattle.law_domain.proofs.Sound.Scoping.{with_held, held_here}
use Rattle.law_domain.proofs.Sound.Staying.{scopes_stay}

-- ## The new fibers

abbrev goes : Next
goes = GoesOn (outcome.Ok value.Unit)

abbrev pub branch : (context group : ℕ) → List Value → Block → Cells → Fiber
branch c n variables block cells = record {
  context = c;
  role = OfGroup n;
  cell = next_cell cells;
  work = (begun block variables).work;
  variables = (begun block variables).variables;
  standing = Ready goes;
}

abbrev pub new_branches : (context group : ℕ) → List Value → List Block → Cells → List Fiber
new_branches c n variables [] cells = []
new_branches c n variables (block ∷ blocks) cells = branch c n variables block cells ∷ new_branches c n variables blocks (behind_next_cell cells)

abbrev pub cells_after : List Block → Cells → Cells
cells_after [] cells = cells
cells_after (block ∷ blocks) cells = cells_after blocks (behind_next_cell cells)

pub branched_is : (c n : ℕ) (variables : List Value) (blocks : List Block) (l : DomainState)
    → branched c n variables blocks l ≡ record l { fibers = l.fibers ++ new_branches c n variables blocks l.cells; cells = cells_after blocks l.cells }
unfolding branched
branched_is c n variables [] l = ap (λ fs. record l { fibers = fs }) (sym (append-nil l.fibers))
branched_is c n variables (block ∷ blocks) l =
    branched_is c n variables blocks (made c (OfGroup n) (begun block variables) l)
    ∙ ap (λ fs. (let it : DomainState = record l { fibers = fs; cells = cells_after blocks (behind_next_cell l.cells) } in it))
    (append_assoc l.fibers (branch c n variables block l.cells ∷ []) (new_branches c n variables blocks (behind_next_cell l.cells)))

new_count : (c n : ℕ) (variables : List Value) (blocks : List Block) (cells : Cells) → length (new_branches c n variables blocks cells) ≡ length blocks
new_count c n variables [] cells = refl
new_count c n variables (block ∷ blocks) cells = ap suc (new_count c n variables blocks (behind_next_cell cells))

-- ## Made one by one

-- what has become of the domain, in which so many more are left of the group
record Grown (g : ℕ) (held : ℕ → List Entered) (lines n more : ℕ) (m : DomainState) (news : List Fiber) : Type 0 where
  groups : List Group
  mid : IsMid g held lines (record m { fibers = m.fibers ++ news; groups = groups })
  made : length groups ≡ length m.groups
  contexts : (x : ℕ) → (group_at groups x).context ≡ (group_at m.groups x).context
  left : (group_at groups n).left ≡ (group_at m.groups n).left + more
  elsewhere : (x : ℕ) → x ≢ n → (group_at groups x).left ≡ (group_at m.groups x).left

module _ (g : ℕ) (held : ℕ → List Entered) (lines c n : ℕ) (variables : List Value) where
  grows : (blocks : List Block) (cells : Cells) (m : DomainState) → IsMid g held lines m → All IsBuiltBlock blocks
      → ((own : Bool) × (h : ℕ) × (i : ℕ) × ScopeAt held m (InGroup n own) h i) → (group_at m.groups n).context ≡ c → n < length m.groups
      → live_fibers m.fibers + length blocks ≤ most_fibers → Grown g held lines n (length blocks) m (new_branches c n variables blocks cells)
  grows [] cells m mid built gone_in context below room = record {
    groups = m.groups;
    mid = subst (λ fs. IsMid g held lines (record m { fibers = fs })) (sym (append-nil m.fibers)) mid;
    made = refl;
    contexts = λ x. refl;
    left = omega arith;
    elsewhere = λ x other. refl;
  }
  grows (block ∷ blocks) cells m mid built gone_in context below room = (
      let one : Fiber = branch c n variables block cells in
      let more : Group = record (group_at m.groups n) { left = (group_at m.groups n).left + 1 } in
      let k : DomainState = record m { fibers = m.fibers ++ one ∷ []; groups = with_group n more m.groups } in
      let live : live_fibers (m.fibers ++ one ∷ []) ≡ live_fibers m.fibers + 1 = count_pushed (λ (f : Fiber). not (has_ended f)) refl m.fibers one in
      let first_built : IsBuiltBlock block = built 0 block (omega arith) in
      let step : BranchesOne held n one m k = record {
        fibers = refl;
        role = refl;
        context = sym context;
        standing = refl;
        outside = refl;
        position = (items_built block first_built, tt);
        entered = gone_in;
        group_contexts = numbers.set_same never_gathered (λ (x : Group). x.context) m.groups n more refl;
        left = ap (λ (x : Group). x.left) (numbers.changed_itself never_gathered m.groups n more below);
        left_elsewhere = λ x other. ap (λ (y : Group). y.left) (numbers.others_unchanged never_gathered m.groups n x more other);
        groups_made = numbers.set_keeps_length never_gathered m.groups n more;
        switches = refl;
        contexts = refl;
        ready = refl;
        duties = refl;
        timers = refl;
        room = omega (arith, room);
      } in
      let next = mid_branches g held lines m k n one mid step in
      let there : has_ended (fiber_at k.fibers gone_in.1) ≡ false =
      ap has_ended (numbers.older_unchanged never_made m.fibers gone_in.1 one (lives_below m.fibers gone_in.1 gone_in.3.lives)) ∙ gone_in.3.lives in
      let count = numbers.set_keeps_length never_gathered m.groups n more in
      let rest = grows blocks (behind_next_cell cells) k next (all_rest IsBuiltBlock block blocks built)
      (gone_in.0, gone_in.1, gone_in.2, record { lives = there; there = gone_in.3.there })
      (numbers.set_same never_gathered (λ (x : Group). x.context) m.groups n more refl n ∙ context) (omega (arith, count, below)) (omega (arith, live, room)) in
      let left = rest.left in
      let here = step.left in
      record {
        groups = rest.groups;
        mid = subst (λ fs. IsMid g held lines (record m { fibers = fs; groups = rest.groups })) (append_assoc m.fibers (one ∷ []) (new_branches c n variables blocks (behind_next_cell cells))) rest.mid;
        made = rest.made ∙ count;
        contexts = λ x. rest.contexts x ∙ step.group_contexts x;
        left = omega (arith, left, here);
        elsewhere = λ x other. rest.elsewhere x other ∙ step.left_elsewhere x other;
      })

-- ## Which of them are ready

-- the numbers of the new fibers, and those behind them
numbers_cases : (first count h : ℕ) (others : List ℕ) → Contains (numbers_from first count ++ others) h → ((first ≤ h) × (h < first + count)) ⊎ Contains others h
numbers_cases first zero h others there = inr there
numbers_cases first (suc count) h others there = elim (contains_cases first h (numbers_from (first + 1) count ++ others) there) as (λ _. ((first ≤ h) × (h < first + suc count)) ⊎ Contains others h) [
  | inl e ↦ inl (omega (arith, e), omega (arith, e))
  | inr it ↦ elim (numbers_cases (first + 1) count h others it) as (λ _. ((first ≤ h) × (h < first + suc count)) ⊎ Contains others h) [
    | inl among ↦ (let low = among.0 in let high = among.1 in inl (omega (arith, low), omega (arith, high)))
    | inr old ↦ inr old
  ]
]

numbers_apart : (first count : ℕ) (others : List ℕ) → AreDistinct others → ((h : ℕ) → Contains others h → h < first) → AreDistinct (numbers_from first count ++ others)
numbers_apart first zero others apart low = apart
numbers_apart first (suc count) others apart low =
    front_apart first (numbers_from (first + 1) count ++ others)
    (numbers_apart (first + 1) count others apart (λ h there. (let less = low h there in omega (arith, less))))
    (λ there. elim (numbers_cases (first + 1) count first others there) as (λ _. ⊥) [
      | inl among ↦ (let high = among.0 in omega (arith, high))
      | inr old ↦ (let less = low first old in omega (arith, less))
    ])

-- those behind others in a list
behind_all : (P : Fiber → Type 0) (news : List Fiber) → ((i : ℕ) → i < length news → P (fiber_at news i)) → (xs : List Fiber) (h : ℕ) → length xs ≤ h → h < length xs + length news
    → P (fiber_at (xs ++ news) h)
behind_all P news all [] h low high = all h (omega (arith, high))
behind_all P news all (x ∷ xs) zero low high = absurd (omega (arith, low))
behind_all P news all (x ∷ xs) (suc h) low high = behind_all P news all xs h (omega (arith, low)) (omega (arith, high))

new_ready : (c n : ℕ) (variables : List Value) (blocks : List Block) (cells : Cells) (i : ℕ) → i < length (new_branches c n variables blocks cells)
    → (fiber_at (new_branches c n variables blocks cells) i).standing ≡ Ready goes
new_ready c n variables [] cells i less = absurd (omega (arith, less))
new_ready c n variables (block ∷ blocks) cells zero less = refl
new_ready c n variables (block ∷ blocks) cells (suc i) less = new_ready c n variables blocks (behind_next_cell cells) i (omega (arith, less))

-- more stand in the ready list
ready_more : (held : ℕ → List Entered) (lines : ℕ) (l : DomainState) (more : List ℕ) → IsSoundWith held lines l → AreDistinct more
    → ((h : ℕ) → Contains more h → (next : Next) × ((fiber_at l.fibers h).standing ≡ Ready next)) → IsSoundWith held lines (record l { ready = more })
ready_more held lines l more sound distinct all = record {
  owes = sound.owes;
  sleeps = sound.sleeps;
  fibers = λ h. fiber_grows l (record l { ready = more }) h _ (omega arith) (omega arith) (sound.fibers h);
  distinct = distinct;
  ready = all;
  attaching = record { attached = sound.attaching.attached; attaches = sound.attaching.attaches; emptied = sound.attaching.emptied };
  scoped = scopes_stay held held l (record l { ready = more }) sound.scoped (record {
    fibers = λ h lives. inl (record { lived = lives; role = refl; context = refl; has = refl });
    stay = λ h lives. inl (record { lives = lives; has = refl });
    contexts = λ x. refl;
    finished = λ x. refl;
    group_contexts = λ x. refl;
    lefts = λ x. refl;
    parents = λ c. refl;
    live = λ c low. refl;
    body = sound.scoped.body;
    rooted = sound.scoped.rooted;
  });
  counted = (let was = sound.counted in record {
    live = was.live;
    fibers_made = was.fibers_made;
    some_context = was.some_context;
    contexts_made = was.contexts_made;
    switches_made = was.switches_made;
    groups_made = was.groups_made;
  });
}

-- ## The fiber that called, before and behind

set_append : (xs ys : List Fiber) (g : ℕ) (change : Fiber → Fiber) → g < length xs → slice_set (xs ++ ys) g (change (fiber_at (xs ++ ys) g)) ≡ slice_set xs g (change (fiber_at xs g)) ++ ys
set_append [] ys g change below = absurd (omega (arith, below))
set_append (x ∷ xs) ys zero change below = refl
set_append (x ∷ xs) ys (suc g) change below = ap (λ (zs : List Fiber). x ∷ zs) (set_append xs ys g change (omega (arith, below)))

pub at_append : (xs ys : List Fiber) (g : ℕ) → g < length xs → fiber_at (xs ++ ys) g ≡ fiber_at xs g
at_append [] ys g below = absurd (omega (arith, below))
at_append (x ∷ xs) ys zero below = refl
at_append (x ∷ xs) ys (suc g) below = at_append xs ys g (omega (arith, below))

-- ## Blocks

last_built : (otherwise : Option Block) (blocks : List Block) → ((block : Block) → otherwise ≡ Some block → IsBuiltBlock block) → All IsBuiltBlock blocks
    → IsBuiltBlock (unwrap_or (last_or otherwise blocks) (Begins 0 Done))
unfolding IsBuiltBlock AreBuilt
last_built None [] before built = tt
last_built (Some block) [] before built = before block refl
last_built otherwise (block ∷ blocks) before built =
    last_built (Some block) blocks (λ other e. subst IsBuiltBlock (same_Some _ _ e) (built 0 block (omega arith))) (all_rest IsBuiltBlock block blocks built)

own_built : (blocks : List Block) → All IsBuiltBlock blocks → IsBuiltBlock (own_branch blocks)
own_built blocks built = last_built None blocks (λ block e. absurd (none-some _ e)) built

take_count : {X : Type 0} (xs : List X) (k : ℕ) → k ≤ length xs → length (take k xs) ≡ k
take_count xs zero few = refl
take_count [] (suc k) few = absurd (omega (arith, few))
take_count (x ∷ xs) (suc k) few = ap suc (take_count xs k (omega (arith, few)))

-- ## The call

module _ (g : ℕ) (held : ℕ → List Entered) (l : DomainState) (mid : IsMid g held l.lines l) (sees : held g ≡ scopes_in (fiber_at l.fibers g).work) (stamp : ℕ)
    (kind : syntax.Group) (blocks : List Block) (some : 1 ≤ length blocks) (built : All IsBuiltBlock blocks) where
  abbrev c : ℕ
  c = length l.contexts

  abbrev n : ℕ
  n = length l.groups

  abbrev others : List Block
  others = other_branches blocks

  abbrev call : Ask
  call = ask.Branches kind blocks

  abbrev variables : List Value
  variables = (fiber_at l.fibers g).variables

  abbrev news : List Fiber
  news = new_branches c n variables others l.cells

  abbrev in_context : DomainState
  in_context = with_context g held l mid stamp false

  -- the caller has gone in, and no other branch is there yet
  abbrev start : DomainState
  start = record in_context { groups = l.groups ++ gathered (kind_of kind) c 1 ∷ [] }

  abbrev position : Position
  position = before_block call n g start

  abbrev inside : DomainState
  inside = placed position g (moved_to c g start)

  -- the domain that has the group, before its branches are made
  abbrev base : DomainState
  base = record in_context { groups = l.groups ++ gathered (kind_of kind) c (length blocks) ∷ [] }

  abbrev all_made : DomainState
  all_made = record base { fibers = l.fibers ++ news; cells = cells_after others l.cells }

  caller_below : g < length l.fibers
  caller_below = lives_below l.fibers g (mid_lives g held l.lines l mid)

  gathers : GathersOne g (kind_of kind) position l inside
  gathers = record {
    fibers = placed_only g held l mid stamp position c;
    contexts = (false, refl);
    switches = refl;
    groups = refl;
    ready = refl;
    duties = refl;
    timers = refl;
    sound = (items_built (own_branch blocks) (own_built blocks built), (tt, (mid.sound.fibers g).position (mid_lives g held l.lines l mid)));
  }

  abbrev new : ℕ → List Entered
  new = with_held g (InGroup n true ∷ held g) held

  mid_inside : IsMid g new (l.lines + 1) inside
  mid_inside = mid_gathers g held l.lines l inside (kind_of kind) position mid gathers

  group_inside : group_at inside.groups n ≡ gathered (kind_of kind) c 1
  group_inside = numbers.made_last never_gathered l.groups (gathered (kind_of kind) c 1)

  many_others : length others ≡ length blocks - 1
  many_others = take_count blocks (length blocks - 1) (omega arith)

  inside_count : length inside.fibers ≡ length l.fibers
  inside_count = gathers.fibers.made

  inside_live : live_fibers inside.fibers ≡ live_fibers l.fibers
  inside_live = live_same inside.fibers l.fibers (of_only g l.fibers inside.fibers _ gathers.fibers (λ h f. has_ended f ≡ has_ended (fiber_at l.fibers h)) refl (λ h other. refl))

  group_below : n < length inside.groups
  group_below = (let count : length inside.groups ≡ length l.groups + 1 = length_push l.groups (gathered (kind_of kind) c 1) in omega (arith, count))

  module _ (room : is_full_by (length blocks - 1) l.fibers ≡ false) where
    grown : Grown g new (l.lines + 1) n (length others) inside news
    grown = (
        let most : live_fibers l.fibers + (length blocks - 1) ≤ most_fibers = ltb-false most_fibers (live_fibers l.fibers + (length blocks - 1)) room in
        grows g new (l.lines + 1) c n variables others l.cells inside mid_inside (All-take IsBuiltBlock (length blocks - 1) blocks built)
        (true, g, 0, record { lives = mid_lives g new (l.lines + 1) inside mid_inside; there = ap (λ xs. slice_get xs 0) (held_here g (InGroup n true ∷ held g) held) })
        (ap (λ (x : Group). x.context) group_inside) group_below (omega (arith, inside_live, many_others, most)))

    -- ### As many are left as there are branches

    base_group : group_at base.groups n ≡ gathered (kind_of kind) c (length blocks)
    base_group = numbers.made_last never_gathered l.groups (gathered (kind_of kind) c (length blocks))

    base_other : (x : ℕ) → x ≢ n → group_at base.groups x ≡ group_at inside.groups x
    base_other x other =
        numbers.pushed_other never_gathered l.groups x (gathered (kind_of kind) c (length blocks)) other
        ∙ sym (numbers.pushed_other never_gathered l.groups x (gathered (kind_of kind) c 1) other)

    same_contexts : (x : ℕ) → (group_at base.groups x).context ≡ (group_at grown.groups x).context
    same_contexts x = elim (same_or_other x n) as (λ _. (group_at base.groups x).context ≡ (group_at grown.groups x).context) [
      | inl e ↦ subst (λ (y : ℕ). (group_at base.groups y).context ≡ (group_at grown.groups y).context) (sym e)
          (ap (λ (y : Group). y.context) base_group ∙ sym (grown.contexts n ∙ ap (λ (y : Group). y.context) group_inside))
      | inr other ↦ ap (λ (y : Group). y.context) (base_other x other) ∙ sym (grown.contexts x)
    ]

    same_lefts : (x : ℕ) → (group_at base.groups x).left ≡ (group_at grown.groups x).left
    same_lefts x = elim (same_or_other x n) as (λ _. (group_at base.groups x).left ≡ (group_at grown.groups x).left) [
      | inl e ↦ subst (λ (y : ℕ). (group_at base.groups y).left ≡ (group_at grown.groups y).left) (sym e) (
          let all : (group_at base.groups n).left ≡ length blocks = ap (λ (y : Group). y.left) base_group in
          let first : (group_at inside.groups n).left ≡ 1 = ap (λ (y : Group). y.left) group_inside in
          let more = grown.left in
          omega (arith, all, first, more, many_others, some))
      | inr other ↦ ap (λ (y : Group). y.left) (base_other x other) ∙ sym (grown.elsewhere x other)
    ]

    same_made : length base.groups ≡ length grown.groups
    same_made = length_push l.groups (gathered (kind_of kind) c (length blocks)) ∙ sym (grown.made ∙ length_push l.groups (gathered (kind_of kind) c 1))

    abbrev told : DomainState
    told = record inside { fibers = inside.fibers ++ news; groups = base.groups }

    mid_told : IsMid g new (l.lines + 1) told
    mid_told = mid_regrouped g new (l.lines + 1) (record inside { fibers = inside.fibers ++ news; groups = grown.groups }) base.groups grown.mid
        (record { made = same_made; contexts = same_contexts; lefts = same_lefts })

    -- ### The caller, behind the others in making

    abbrev placed_last : DomainState
    placed_last = placed (before_block call n g all_made) g (moved_to c g all_made)

    abbrev moved : List Fiber → List Fiber
    moved fibers = slice_set fibers g (record (fiber_at fibers g) { context = c })

    abbrev placed_in : List Fiber → Position → List Fiber
    placed_in fibers p = slice_set fibers g (record (fiber_at fibers g) { work = p.work; variables = p.variables })

    same_position : before_block call n g all_made ≡ position
    same_position = ap (λ (f : Fiber). entered call n f.work f.variables) (at_append l.fibers news g caller_below)

    moved_count : length (moved l.fibers) ≡ length l.fibers
    moved_count = numbers.set_keeps_length never_made l.fibers g _

    same_fibers : placed_last.fibers ≡ inside.fibers ++ news
    same_fibers =
        ap₂ placed_in (set_append l.fibers news g (λ f. record f { context = c }) caller_below) same_position
        ∙ set_append (moved l.fibers) news g (λ f. record f { work = position.work; variables = position.variables }) (omega (arith, moved_count, caller_below))

    mid_last : IsMid g new (l.lines + 1) placed_last
    mid_last = mid_untouched g new (l.lines + 1) told placed_last mid_told (record {
      fibers = same_fibers;
      ready = refl;
      owes = λ owes. owes;
      sleeps = refl;
      contexts_made = refl;
      parents = λ x. refl;
      live = λ x. refl;
      switches_made = refl;
      contexts = λ x. refl;
      finished = λ x. refl;
      lists = λ x daemon. refl;
      groups = refl;
      lines = refl;
    })

    caller_there : fiber_at placed_last.fibers g ≡ record (fiber_at l.fibers g) { context = c; work = position.work; variables = position.variables }
    caller_there = ap (λ fs. fiber_at fs g) same_fibers ∙ (at_append inside.fibers news g (omega (arith, inside_count, caller_below)) ∙ gathers.fibers.there)

    abbrev ahead : DomainState
    ahead = to_head goes g placed_last

    ahead_sound : IsSoundWith (scopes_of ahead) (l.lines + 1) ahead
    ahead_sound = seen_ahead g new (l.lines + 1) placed_last mid_last stamp (omega arith) goes tt
        (held_here g (InGroup n true ∷ held g) held ∙ (ap (λ xs. InGroup n true ∷ xs) sees ∙ ap (λ (f : Fiber). scopes_in f.work) (sym caller_there)))

    abbrev first : ℕ
    first = length l.fibers

    abbrev all_ready : List ℕ
    all_ready = numbers_from first (length others) ++ ahead.ready

    older : (h : ℕ) → Contains ahead.ready h → h < first
    older h there = elim (contains_cases g h l.ready there) as (λ _. h < first) [
      | inl e ↦ omega (arith, e, caller_below)
      | inr it ↦ (let was = mid.sound.ready h it in lives_below l.fibers h (is_ready_lives (fiber_at l.fibers h) was.0 was.1))
    ]

    each_ready : (h : ℕ) → Contains all_ready h → (next : Next) × ((fiber_at ahead.fibers h).standing ≡ Ready next)
    each_ready h there = elim (numbers_cases first (length others) h ahead.ready there) as (λ _. (next : Next) × ((fiber_at ahead.fibers h).standing ≡ Ready next)) [
      | inr old ↦ ahead_sound.ready h old
      | inl among ↦ (
          let low = among.0 in
          let high = among.1 in
          let count = new_count c n variables others l.cells in
          let other : h ≢ g = λ e. omega (arith, e, low, caller_below) in (
            goes,
            ap (λ (f : Fiber). f.standing) (numbers.others_unchanged never_made placed_last.fibers g h _ other ∙ ap (λ fs. fiber_at fs h) same_fibers)
                ∙ behind_all (λ (f : Fiber). f.standing ≡ Ready goes) news (new_ready c n variables others l.cells) inside.fibers h (omega (arith, inside_count, low)) (omega (arith, inside_count, high, count)),
          ))
    ]

    -- what comes of it, by the domain in which all branches were made
    abbrev comes_of : DomainState → DomainState
    comes_of t = (
        let k : DomainState = to_head goes g (placed (before_block call n g t) g (moved_to c g t)) in
        record k { ready = numbers_from first (length others) ++ k.ready })

    comes_sound : IsSoundUnless (one_more_line (comes_of all_made) stamp)
    comes_sound runs = lined (l.lines + 1) (comes_of all_made) stamp (omega arith)
        (ready_more (scopes_of ahead) (l.lines + 1) ahead all_ready ahead_sound (numbers_apart first (length others) ahead.ready ahead_sound.distinct older) each_ready)

    branches_sound : IsSoundUnless (one_more_line (branches_in call kind blocks c g in_context).state stamp)
    branches_sound = subst (λ t. IsSoundUnless (one_more_line (comes_of t) stamp)) (sym (branched_is c n variables others base)) comes_sound

  by_full : (full : Bool) → is_full_by (length blocks - 1) l.fibers ≡ full → IsSoundUnless (one_more_line (elim full as (λ _. Step) [
    | true ↦ halts g l
    | false ↦ in_new (made_by g held l mid stamp false (is_full l.contexts)) g l (λ x m. branches_in call kind blocks x g m)
  ]).state stamp)
  by_full true is = halting g l stamp
  by_full false is = by_room g held l mid stamp false (λ x m. branches_in call kind blocks x g m) (branches_sound is) (is_full l.contexts)

  by_off : (why : Option Plain) → IsSoundUnless (one_more_line (elim why as (λ _. Step) [
    | Some reason ↦ raises_cancelled (did_branch kind (context_of l g)) reason g l
    | None ↦ makes call kind blocks g l
  ]).state stamp)
  by_off (Some reason) = goes_cancelled g held l mid sees stamp (did_branch kind (context_of l g)) reason
  by_off None = by_full (is_full_by (length blocks - 1) l.fibers) refl

pub branches_kept : (kind : syntax.Group) (blocks : List Block) → CallKept (ask.Branches kind blocks)
unfolding own_call
branches_kept kind blocks script forms g held l mid sees built stamp = by_off g held l mid sees stamp kind blocks built.0 built.1 (off_for l g)
