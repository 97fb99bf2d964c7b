-- The calls that make branches: refused on both sides, or a limit is met on both, or a group is gathered.
use Rattle.std.proofs.Common.{◌≡◌, ℕ, zero, suc, ◌+◌, ◌-◌, ◌<◌, ◌≤◌, Bool, true, false, List, [], ◌∷◌, ◌++◌, length, map, take, Option, Some, None, refl, ap, ap₂, ◌∙◌, sym, subst, arith}
use Rattle.std.specs.Prelude.{count_by, is_some}
use Rattle.std.specs.List.{AllByRecursion as Each}
use Rattle.std.proofs.lemmas.Bool.{lt-ltb, le-ltb}
use Rattle.std.proofs.lemmas.List.{length-map, length-take-le, take-map}
use Rattle.eio_value.specs.declared.plain.Plain.{Plain}
use Rattle.spec_parts.specs.Groups.{gathered}
use Rattle.script_code.specs.Standing.{block_at}
use Rattle.script_forms.specs.declared.node.Node.{Node}
use Rattle.spec_script.specs.Scripts.{Script}
use Rattle.spec_script.specs.Syntax as syntax
use Rattle.spec_script.specs.Syntax.{Block}
use Rattle.spec_fiber.specs.Asks as ask
use Rattle.spec_fiber.specs.Asks.{Ask}
use Rattle.spec_fiber.specs.Replies.{other_branches}
use Rattle.trace_lines.specs.declared.line.Did.{Did}
use Rattle.spec_machine.specs.ContextMoves.{context_of, sub_of}
use Rattle.spec_machine.specs.Domain.{DomainState, fiber_at, is_full_by, live_fibers, off_for}
use Rattle.spec_machine.specs.GroupMoves.{branched, branches_in, did_branch, first_of, kind_of, makes}
use Rattle.spec_machine.specs.Moves.{own_call}
use Rattle.spec_machine.specs.Steps.{Step, halts, in_new, raises_cancelled, told}
use Rattle.domain_core.specs.declared.told.Told.{Told}
use Rattle.domain_core.specs.Answering.{BecomesUnder, HoldsOf, MakesUnder, Tells, enters_block, gathers, heads_with}
use Rattle.domain_core.specs.Keeping.{KeptFiber, KeptDomain, kept_at}
use Rattle.domain_core.specs.Mirrors.{Mirrors}
use Rattle.domain_core.proofs.Composing.{full_halts, makes_as, room_goes}
use Rattle.domain_core.proofs.Counting.{same_live}
use Rattle.domain_core.proofs.Mirroring.{is_fiber}

-- ## Blocks

-- what holds of each holds of each of the first ones
pub each_taken : {X : Type 0} (P : X → Type 0) (n : ℕ) (xs : List X) → Each P xs → Each P (take n xs)
each_taken P zero xs each = tt
each_taken P (suc n) [] each = tt
each_taken P (suc n) (x ∷ xs) each = (each.0, each_taken P n xs each.1)

-- the blocks of a form, and the nodes at which they begin, of which the last is the caller's own
module _ (nodes : List Node) (bodies : List ℕ) (blocks : List Block) (begin : map (block_at nodes) bodies ≡ blocks) where
  pub many_blocks : length blocks ≡ length bodies
  many_blocks = ap (λ (bs : List Block). length bs) (sym begin) ∙ length-map bodies (block_at nodes)

  pub many_others : length (take (length bodies - 1) bodies) ≡ length blocks - 1
  many_others = (let same : length blocks ≡ length bodies = many_blocks in length-take-le (length bodies - 1) bodies (omega arith) ∙ ap (λ n. n - 1) (sym same))

  pub other_blocks : other_branches blocks ≡ map (block_at nodes) (take (length bodies - 1) bodies)
  other_blocks =
      ap₂ (λ (n : ℕ) (bs : List Block). take (n - 1) bs) many_blocks (sym begin)
      ∙ take-map (block_at nodes) (length bodies - 1) bodies

-- ## What the call comes to

module _ (script : Script) (nodes : List Node) (blocks : List Block) (kind : syntax.Group) (g : ℕ) (kept : KeptDomain) (it : Told) (new : KeptDomain) where
  abbrev call : Ask
  call = ask.Branches kind blocks

  abbrev off_by : DomainState → Option Plain → Step
  off_by l found = elim found [ Some why ↦ raises_cancelled (did_branch kind (context_of l g)) why g l | None ↦ makes call kind blocks g l ]

  abbrev limited_by : DomainState → Bool → Step
  limited_by l full = elim full [ true ↦ halts g l | false ↦ in_new (sub_of l g) g l (λ c m. branches_in call kind blocks c g m) ]

  -- in a context that is off
  pub makes_raised : (f : KeptFiber) → kept_at kept.fibers g ≡ Some f → (does : Did) → does ≡ did_branch kind f.context
      → (why : Plain) → HoldsOf kept (λ l. Some why ≡ off_for l g)
      → MakesUnder nodes (raises_cancelled does why g) kept it new → MakesUnder nodes (own_call script call g) kept it new
  unfolding own_call
  makes_raised f there does is why off made =
      makes_as nodes _ (raises_cancelled does why g) kept it new
      (λ texts l mirrors. (
      let same : (fiber_at l.fibers g).context ≡ f.context = (is_fiber nodes texts kept l g f there mirrors).context in
      ap (off_by l) (sym (off nodes texts l mirrors))
      ∙ ap (λ (d : Did). raises_cancelled d why g l) (ap (did_branch kind) same ∙ sym is)))
      made

  module _ (bodies : List ℕ) (begin : map (block_at nodes) bodies ≡ blocks) (on : HoldsOf kept (λ l. None ≡ off_for l g)) where
    makes_on : (texts : List (List ℕ)) (l : DomainState) → Mirrors nodes texts kept l → own_call script call g l ≡ limited_by l (is_full_by (length blocks - 1) l.fibers)
    unfolding own_call
    makes_on texts l mirrors = ap (off_by l) (sym (on nodes texts l mirrors))

    -- where more would live than may
    pub makes_full : 1024 < count_by is_some kept.fibers + length (take (length bodies - 1) bodies)
        → MakesUnder nodes (halts g) kept it new → MakesUnder nodes (own_call script call g) kept it new
    makes_full full made = makes_as nodes _ (halts g) kept it new
        (λ texts l mirrors. (
        let same : live_fibers l.fibers ≡ count_by is_some kept.fibers = same_live nodes texts kept l mirrors in
        let others : length (take (length bodies - 1) bodies) ≡ length blocks - 1 = many_others nodes bodies blocks begin in
        makes_on texts l mirrors ∙ ap (limited_by l) (lt-ltb 1024 (live_fibers l.fibers + (length blocks - 1)) (omega (arith, full, same, others)))))
        made

    module _ (room : count_by is_some kept.fibers + length (take (length bodies - 1) bodies) ≤ 1024) where
      makes_some : (texts : List (List ℕ)) (l : DomainState) → Mirrors nodes texts kept l
          → own_call script call g l ≡ in_new (sub_of l g) g l (λ c m. branches_in call kind blocks c g m)
      makes_some texts l mirrors = (
          let same : live_fibers l.fibers ≡ count_by is_some kept.fibers = same_live nodes texts kept l mirrors in
          let others : length (take (length bodies - 1) bodies) ≡ length blocks - 1 = many_others nodes bodies blocks begin in
          makes_on texts l mirrors ∙ ap (limited_by l) (le-ltb 1024 (live_fibers l.fibers + (length blocks - 1)) (omega (arith, room, same, others))))

      -- where there is no room for their context
      pub makes_none : HoldsOf kept (λ l. None ≡ (sub_of l g).number)
          → MakesUnder nodes (halts g) kept it new → MakesUnder nodes (own_call script call g) kept it new
      makes_none none made = makes_as nodes _ (halts g) kept it new
          (λ texts l mirrors.
          makes_some texts l mirrors ∙ full_halts (sub_of l g) g l (λ c m. branches_in call kind blocks c g m) (sym (none nodes texts l mirrors)))
          made

      module _ (c number first count : ℕ) (some : 1 ≤ length bodies) (many : count ≡ length (take (length bodies - 1) bodies)) where
        abbrev others : List ℕ
        others = take (length bodies - 1) bodies

        -- the move from the domain with the new context
        abbrev gathers_in : DomainState → DomainState
        gathers_in m = heads_with first count (enters_block call number c g (gathers g (kind_of kind) c others nodes m))

        abbrev with_parts : DomainState → (number first size count : ℕ) → List Block → Step
        with_parts m n from size more made =
            told g (did_branch kind c) (first_of m.number from more)
            (heads_with from more (enters_block call n c g
            (branched c (length m.groups) (fiber_at m.fibers g).variables made (record m { groups = m.groups ++ gathered (kind_of kind) c size ∷ [] }))))

        same_parts : (m : DomainState) → number ≡ length m.groups → first ≡ length m.fibers
            → branches_in call kind blocks c g m ≡ told g (did_branch kind c) (first_of m.number first count) (gathers_in m)
        same_parts m is_number is_first = (
            let same : length blocks ≡ length bodies = many_blocks nodes bodies blocks begin in
            let short : length others ≡ length blocks - 1 = many_others nodes bodies blocks begin in
            let size : length blocks ≡ length others + 1 = omega (arith, same, short, some) in
            let these : other_branches blocks ≡ map (block_at nodes) others = other_blocks nodes bodies blocks begin in
            let more : length (other_branches blocks) ≡ count =
            ap (λ (bs : List Block). length bs) these ∙ (length-map others (block_at nodes) ∙ sym many) in
            ap₂ (λ (n from : ℕ). with_parts m n from (length blocks) (length (other_branches blocks)) (other_branches blocks)) (sym is_number) (sym is_first)
            ∙ (ap₂ (λ (s k : ℕ). with_parts m number first s k (other_branches blocks)) size more
            ∙ ap (λ (bs : List Block). with_parts m number first (length others + 1) count bs) these))

        -- a group is gathered in a new context
        pub makes_gathered : HoldsOf kept (λ l. Some c ≡ (sub_of l g).number) → number ≡ length kept.groups → first ≡ length kept.fibers
            → it ≡ record { fiber = g; did = did_branch kind c; reply = first_of kept.number first count }
            → BecomesUnder nodes (λ l. gathers_in (record l { contexts = (sub_of l g).contexts })) kept new
            → MakesUnder nodes (own_call script call g) kept it new
        makes_gathered made is_number is_first is_told becomes =
            makes_as nodes _ (λ l. told g (did_branch kind c) (first_of l.number first count) (gathers_in (record l { contexts = (sub_of l g).contexts }))) kept it new
            (λ texts l mirrors.
            makes_some texts l mirrors
            ∙ (room_goes (sub_of l g) g l (λ x m. branches_in call kind blocks x g m) c (sym (made nodes texts l mirrors))
            ∙ same_parts (record l { contexts = (sub_of l g).contexts }) (is_number ∙ ap (λ xs. length xs) (sym mirrors.groups)) (is_first ∙ sym mirrors.count)))
            (record {
              tells = λ texts l mirrors. subst (λ (x : Told). Tells (told g (did_branch kind c) (first_of l.number first count) (gathers_in (record l { contexts = (sub_of l g).contexts }))) x) (sym is_told)
                  (record { fiber = refl; did = refl; reply = ap (λ (n : ℕ). first_of n first count) mirrors.number });
              becomes = becomes;
            })
