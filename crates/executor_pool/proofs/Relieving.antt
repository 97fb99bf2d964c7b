-- The one worker that has a place is relieved where it stands.
use Rattle.std.proofs.Common.{◌≡◌, ℕ, zero, suc, ◌-◌, ◌<◌, ◌==◌, ◌||◌, Bool, true, false, List, [], ◌∷◌, length, map, get_or, slice_set, Some, None, arith, refl, sym, ap, ◌∙◌, eqb-true, true≢false}
use Rattle.std.specs.Prelude.{find}
use Rattle.std.proofs.lemmas.Grind.{common_steps}
use Rattle.spec_parts.specs.Data.{Running, Worker}
use Rattle.spec_parts.specs.Executors.{relieved}
use Rattle.executor_pool.specs.declared.crew.Worker.{Worker as Kept}
use Rattle.executor_pool.specs.Kept.{worker_of}
use Rattle.executor_pool.specs.Loads.{has_place, AreApart}

itself : (a b : ℕ) → a ≡ b → (a == b) ≡ true
itself a b e = grind (arith, common_steps)

or_left : (a b : Bool) → a ≡ true → (a || b) ≡ true
or_left a b e = grind (arith, common_steps)

or_right : (a b : Bool) → b ≡ true → (a || b) ≡ true
or_right a b e = grind (arith, common_steps)

or_first : (a b : Bool) → (a || b) ≡ false → a ≡ false
or_first a b e = grind (arith, common_steps)

or_second : (a b : Bool) → (a || b) ≡ false → b ≡ false
or_second a b e = grind (arith, common_steps)

-- where nobody has the place nobody is relieved
none_relieved : (job : Running) (ws : List Worker) → has_place job.worker ws ≡ false → map (relieved job) ws ≡ ws
none_relieved job [] none = refl
none_relieved job (w ∷ ws) none =
    let other : (w.place == job.worker) ≡ false = or_first _ _ none in
    let same : relieved job w ≡ w = rw other refl in
    λ i. same i ∷ none_relieved job ws (or_second _ _ none) i

place_there : (xs : List Kept) (i : ℕ) (d : Kept) → i < length xs → has_place (get_or xs i d).place (map worker_of xs) ≡ true
place_there [] i d less = absurd (omega (arith, less))
place_there (x ∷ xs) zero d less = or_left _ _ (itself x.place x.place refl)
place_there (x ∷ xs) (suc i) d less = or_right _ _ (place_there xs i d (omega (arith, less)))

-- the worker without the weight of a job
abbrev lighter : ℕ → Kept → Kept
lighter weight x = record x { load = x.load - weight }

pub one_relieved : (job : Running) (xs : List Kept) (i : ℕ) (d : Kept) → AreApart (map worker_of xs) → i < length xs → (get_or xs i d).place ≡ job.worker
    → map worker_of (slice_set xs i (lighter job.weight (get_or xs i d))) ≡ map (relieved job) (map worker_of xs)
one_relieved job [] i d apart less is = absurd (omega (arith, less))
one_relieved job (x ∷ xs) zero d apart less is =
    let here : (x.place == job.worker) ≡ true = itself x.place job.worker is in
    let same : worker_of (lighter job.weight x) ≡ relieved job (worker_of x) = rw here refl in
    let none : has_place job.worker (map worker_of xs) ≡ false = ap (λ (p : ℕ). has_place p (map worker_of xs)) (sym is) ∙ apart.0 in
    let others : map worker_of xs ≡ map (relieved job) (map worker_of xs) = sym (none_relieved job (map worker_of xs) none) in
    λ k. same k ∷ others k
one_relieved job (x ∷ xs) (suc i) d apart less is =
    let there : has_place job.worker (map worker_of xs) ≡ true = ap (λ (p : ℕ). has_place p (map worker_of xs)) (sym is) ∙ place_there xs i d (omega (arith, less)) in
    let same : worker_of x ≡ relieved job (worker_of x) = go (x.place == job.worker) refl there in
    λ k. same k ∷ one_relieved job xs i d apart.1 (omega (arith, less)) is k
  where
    go : (b : Bool) → (x.place == job.worker) ≡ b → has_place job.worker (map worker_of xs) ≡ true → worker_of x ≡ relieved job (worker_of x)
    go true e there = absurd (true≢false (sym there ∙ (ap (λ (p : ℕ). has_place p (map worker_of xs)) (sym (eqb-true x.place job.worker e)) ∙ apart.0)))
    go false e there = rw e refl

-- a place that isn't found nobody has
no_place_go : (place : ℕ) (w : Worker) (ws : List Worker) (b : Bool) → (w.place == place) ≡ b → find (λ other. other.place == place) (w ∷ ws) ≡ None → (find (λ other. other.place == place) ws ≡ None → has_place place ws ≡ false) → has_place place (w ∷ ws) ≡ false
no_place_go place w ws true e none rest = let h : Some w ≡ None = rw e at none in cc
no_place_go place w ws false e none rest = rw e (rest (rw e at none))

no_place : (place : ℕ) (ws : List Worker) → find (λ other. other.place == place) ws ≡ None → has_place place ws ≡ false
no_place place [] none = refl
no_place place (w ∷ ws) none = no_place_go place w ws (w.place == place) refl none (λ e. no_place place ws e)

pub nobody_relieved : (job : Running) (ws : List Worker) → find (λ other. other.place == job.worker) ws ≡ None → map (relieved job) ws ≡ ws
nobody_relieved job ws none = none_relieved job ws (no_place job.worker ws none)
