-- New fibers of a group, one for each block, with the variables of the fiber that makes them.
use Rattle.std.proofs.Common.{◌≡◌, ℕ, zero, suc, ◌+◌, ◌<◌, ◌≤◌, List, [], ◌∷◌, ◌++◌, length, map, take, get_or, Option, Some, refl, ap, ◌∙◌, sym, subst, arith}
use Rattle.std.specs.Prelude.{count_by, is_some}
use Rattle.std.specs.List.{AllByRecursion as Each}
use Rattle.std.proofs.lemmas.List.{append_assoc, append-nil, length-append, map-append, take_all, take_more}
use Rattle.std.proofs.lemmas.List.Sums.{count_by-le-length, sum_by-append}
use Rattle.eio_value.specs.declared.value.Value.{Value}
use Rattle.spec_script.specs.Syntax.{Block}
use Rattle.script_code.specs.Standing.{block_at}
use Rattle.script_forms.specs.declared.node.Node.{Node}
use Rattle.spec_parts.specs.Groups.{Group, GroupKind, gathered}
use Rattle.spec_fiber.specs.Replies.{begun}
use Rattle.fiber_step.specs.Having.{HasStatements}
use Rattle.spec_machine.specs.Domain as model
use Rattle.spec_machine.specs.Domain.{DomainState, OfGroup, fiber_at, made, never_made}
use Rattle.spec_machine.specs.GroupMoves.{branched}
use Rattle.domain_core.specs.Answering.{BecomesUnder, SameCounts, gathers}
use Rattle.domain_core.specs.Conditions.{IsAwake}
use Rattle.domain_core.specs.Keeping.{KeptFiber, KeptDomain, kept_at}
use Rattle.domain_core.specs.Mirrors.{Mirrors}
use Rattle.domain_core.specs.Stepping.{IsPlacedAt}
use Rattle.domain_core.proofs.ByNumber as numbers
use Rattle.domain_core.proofs.Making.{more_length}
use Rattle.domain_core.proofs.Mirroring.{below_made, groups_mirrors}

-- ## The definitions

-- the last one is made last
branched_last : (c n : ℕ) (variables : List Value) (blocks : List Block) (block : Block) (l : DomainState)
    → branched c n variables (blocks ++ block ∷ []) l ≡ made c (OfGroup n) (begun block variables) (branched c n variables blocks l)
unfolding branched
branched_last c n variables [] block l = refl
branched_last c n variables (b ∷ blocks) block l = branched_last c n variables blocks block (made c (OfGroup n) (begun b variables) l)

branched_none : (c n : ℕ) (variables : List Value) (l : DomainState) → branched c n variables [] l ≡ l
unfolding branched
branched_none c n variables l = refl

-- who was made before stands as before
pub older_fiber : (c n : ℕ) (variables : List Value) (blocks : List Block) (l : DomainState) (g : ℕ) → g < length l.fibers
    → fiber_at (branched c n variables blocks l).fibers g ≡ fiber_at l.fibers g
unfolding branched
older_fiber c n variables [] l g below = refl
older_fiber c n variables (b ∷ blocks) l g below = (
    let more : DomainState = made c (OfGroup n) (begun b variables) l in
    let many : length more.fibers ≡ length l.fibers + 1 = more_length l.fibers _ in
    older_fiber c n variables blocks more g (omega (arith, many, below))
    ∙ numbers.older_unchanged never_made l.fibers g _ below)

-- a fiber for each of these, with the variables of the maker
abbrev pub branches_for : (maker context group : ℕ) → (bodies : List ℕ) → List Node → DomainState → DomainState
branches_for g c n bodies nodes l = branched c n (fiber_at l.fibers g).variables (map (block_at nodes) bodies) l

-- ## What is kept

-- so many of them were made
pub record HasGathered (maker context group : ℕ) (bodies : List ℕ) (done : ℕ) (old new : KeptDomain) : Type 0 where
  pub becomes : (nodes : List Node) → Each (HasStatements nodes) bodies → BecomesUnder nodes (branches_for maker context group (take done bodies) nodes) old new
  pub made : List (Option KeptFiber)
  pub fibers : new.fibers ≡ old.fibers ++ made
  pub many : length made ≡ done
  pub ready : new.ready ≡ old.ready
  pub same : SameCounts old new

statements_at_each : (nodes : List Node) (bodies : List ℕ) (i : ℕ) → i < length bodies → Each (HasStatements nodes) bodies → HasStatements nodes (get_or bodies i 0)
statements_at_each nodes [] i below each = absurd (omega arith)
statements_at_each nodes (body ∷ bodies) zero below each = each.0
statements_at_each nodes (body ∷ bodies) (suc i) below each = statements_at_each nodes bodies i (omega arith) each.1

-- a fiber that was made before is kept as before
kept_older : (fibers made : List (Option KeptFiber)) (g : ℕ) → g < length fibers → kept_at (fibers ++ made) g ≡ kept_at fibers g
kept_older [] made g below = absurd (omega arith)
kept_older (x ∷ fibers) made zero below = refl
kept_older (x ∷ fibers) made (suc g) below = kept_older fibers made g (omega arith)

module _ (maker context group : ℕ) (bodies : List ℕ) where
  pub none_gathered : (kept : KeptDomain) → HasGathered maker context group bodies 0 kept kept
  none_gathered kept = record {
    becomes = λ nodes has texts l mirrors.
        subst (λ (m : DomainState). Mirrors nodes texts kept m) (sym (branched_none context group (fiber_at l.fibers maker).variables l)) mirrors;
    made = [];
    fibers = sym (append-nil kept.fibers);
    many = refl;
    ready = refl;
    same = record { number = refl; stamp = refl; lines = refl; budget = refl; mocked = refl };
  }

  module _ (done : ℕ) (old between : KeptDomain) (so_far : HasGathered maker context group bodies done old between) where
    module _ (g : ℕ) (awake : IsAwake old g) where
      older_kept : kept_at between.fibers g ≡ kept_at old.fibers g
      older_kept = ap (λ (xs : List (Option KeptFiber)). kept_at xs g) so_far.fibers ∙ kept_older old.fibers so_far.made g (below_made old.fibers g awake.fiber awake.there)

      pub still_awake : IsAwake between g
      still_awake = record { fiber = awake.fiber; there = older_kept ∙ awake.there; awake = awake.awake }

      pub still_placed : (nodes : List Node) → IsPlacedAt nodes g old.fibers → IsPlacedAt nodes g between.fibers
      still_placed nodes placed fiber there = placed fiber (sym older_kept ∙ there)

    pub many_then : length between.fibers ≡ length old.fibers + done
    many_then = ap (λ (xs : List (Option KeptFiber)). length xs) so_far.fibers ∙ (length-append old.fibers so_far.made ∙ ap (λ n. length old.fibers + n) so_far.many)

    pub few_live : count_by is_some between.fibers ≤ count_by is_some old.fibers + done
    few_live = (
        let sum : count_by is_some between.fibers ≡ count_by is_some old.fibers + count_by is_some so_far.made =
        ap (λ (xs : List (Option KeptFiber)). count_by is_some xs) so_far.fibers ∙ sum_by-append _ old.fibers so_far.made in
        let few : count_by is_some so_far.made ≤ length so_far.made = count_by-le-length is_some so_far.made in
        let many : length so_far.made ≡ done = so_far.many in
        omega (arith, sum, few, many))

    -- and one more
    module _ (awake : IsAwake old maker) (below : done < length bodies) (new : KeptDomain)
        (becomes : (nodes : List Node) → HasStatements nodes (get_or bodies done 0)
        → BecomesUnder nodes (λ l. made context (OfGroup group) (begun (block_at nodes (get_or bodies done 0)) (fiber_at l.fibers maker).variables) l) between new)
        (fiber : KeptFiber) (fibers : new.fibers ≡ between.fibers ++ Some fiber ∷ [])
        (ready : new.ready ≡ between.ready) (same : SameCounts between new) where
      becomes_then : (nodes : List Node) → Each (HasStatements nodes) bodies → BecomesUnder nodes (branches_for maker context group (take (done + 1) bodies) nodes) old new
      becomes_then nodes has texts l mirrors = (
          let variables : List Value = (fiber_at l.fibers maker).variables in
          let blocks : List Block = map (block_at nodes) (take done bodies) in
          let last : Block = block_at nodes (get_or bodies done 0) in
          let m : DomainState = branched context group variables blocks l in
          let maker_made : maker < length l.fibers =
          subst (λ n. maker < n) (sym mirrors.count) (below_made old.fibers maker awake.fiber awake.there) in
          let same_variables : (fiber_at m.fibers maker).variables ≡ variables =
          ap (λ (f : model.Fiber). f.variables) (older_fiber context group variables blocks l maker maker_made) in
          let blocks_then : map (block_at nodes) (take (done + 1) bodies) ≡ blocks ++ last ∷ [] =
          ap (map (block_at nodes)) (take_more bodies done 0 below) ∙ map-append (block_at nodes) (take done bodies) (get_or bodies done 0 ∷ []) in
          let is : made context (OfGroup group) (begun last (fiber_at m.fibers maker).variables) m ≡ branches_for maker context group (take (done + 1) bodies) nodes l =
          ap (λ (vs : List Value). made context (OfGroup group) (begun last vs) m) same_variables
          ∙ (sym (branched_last context group variables blocks last l) ∙ ap (λ (bs : List Block). branched context group variables bs l) (sym blocks_then)) in
          subst (λ (k : DomainState). Mirrors nodes texts new k) is
          (becomes nodes (statements_at_each nodes bodies done below has) texts m (so_far.becomes nodes has texts l mirrors)))

      pub one_gathered : HasGathered maker context group bodies (done + 1) old new
      one_gathered = record {
        becomes = becomes_then;
        made = so_far.made ++ Some fiber ∷ [];
        fibers = fibers ∙ (ap (λ (xs : List (Option KeptFiber)). xs ++ Some fiber ∷ []) so_far.fibers ∙ append_assoc old.fibers so_far.made (Some fiber ∷ []));
        many = more_length so_far.made (Some fiber) ∙ ap (λ n. n + 1) so_far.many;
        ready = ready ∙ so_far.ready;
        same = record {
          number = same.number ∙ so_far.same.number;
          stamp = same.stamp ∙ so_far.same.stamp;
          lines = same.lines ∙ so_far.same.lines;
          budget = same.budget ∙ so_far.same.budget;
          mocked = same.mocked ∙ so_far.same.mocked;
        };
      }

  -- all of them, in a group that was opened before
  module _ (done : ℕ) (all : length bodies ≤ done) (kind : GroupKind) (old : KeptDomain) (groups : List Group) (new : KeptDomain)
      (number : group ≡ length old.groups) (opened : groups ≡ old.groups ++ gathered kind context (length bodies + 1) ∷ [])
      (so_far : HasGathered maker context group bodies done (record old { groups = groups }) new) where
    pub all_gathered : (nodes : List Node) → Each (HasStatements nodes) bodies → BecomesUnder nodes (gathers maker kind context bodies nodes) old new
    all_gathered nodes has texts l mirrors = (
        let opened_there : l.groups ++ gathered kind context (length bodies + 1) ∷ [] ≡ groups =
        ap (λ (xs : List Group). xs ++ gathered kind context (length bodies + 1) ∷ []) mirrors.groups ∙ sym opened in
        let number_there : group ≡ length l.groups = number ∙ ap (λ (xs : List Group). length xs) (sym mirrors.groups) in
        let wider : DomainState = record l { groups = l.groups ++ gathered kind context (length bodies + 1) ∷ [] } in
        let begun_so : Mirrors nodes texts (record old { groups = groups }) wider =
        subst (λ (xs : List Group). Mirrors nodes texts (record old { groups = xs }) wider) opened_there (groups_mirrors nodes texts old l mirrors wider.groups) in
        subst (λ n. Mirrors nodes texts new (branched context n (fiber_at l.fibers maker).variables (map (block_at nodes) bodies) wider)) number_there
        (subst (λ (xs : List ℕ). Mirrors nodes texts new (branches_for maker context group xs nodes wider)) (take_all done bodies all)
        (so_far.becomes nodes has texts wider begun_so)))
