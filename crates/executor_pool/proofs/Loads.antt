-- How loads and weights change together: when a job starts on the first worker that it fits, and when a job ends.
use Rattle.std.proofs.Common.{◌≡◌, ℕ, ◌+◌, ◌≤◌, ◌<◌, ◌==◌, ◌||◌, if◌then◌else◌, nat_le, Bool, true, false, List, [], ◌∷◌, ◌++◌, map, Some, None, arith, refl, sym, ap, ◌∙◌, eqb-true, true≢false}
use Rattle.std.specs.Prelude.{find}
use Rattle.std.proofs.lemmas.Grind.{common_steps}
use Rattle.std.proofs.lemmas.List.Folds.{list_any-append}
use Rattle.spec_parts.specs.Data.{Running, Worker}
use Rattle.spec_parts.specs.Executors.{fits, has_number, relieved, workers_from}
use Rattle.spec_parts.specs.Row.{but_first}
use Rattle.executor_pool.specs.Working.{weight_at}
use Rattle.executor_pool.specs.Loads.{has_place, AreApart, AreLoaded, AreAtWork, AreWorking}

-- Tests

or_true : (a b : Bool) → (a || b) ≡ true → a ≡ false → b ≡ true
or_true a b e f = grind (arith, common_steps)

or_left : (a b : Bool) → a ≡ true → (a || b) ≡ true
or_left a b e = grind (arith, common_steps)

or_right : (a b : Bool) → b ≡ true → (a || b) ≡ true
or_right a b e = grind (arith, common_steps)

or_first : (a b : Bool) → (a || b) ≡ false → a ≡ false
or_first a b e = grind (arith, common_steps)

or_second : (a b : Bool) → (a || b) ≡ false → b ≡ false
or_second a b e = grind (arith, common_steps)

or_none : (a b : Bool) → a ≡ false → b ≡ false → (a || b) ≡ false
or_none a b e f = grind (arith, common_steps)

same_number : (a b : ℕ) → (a == b) ≡ (b == a)
same_number a b = grind (arith, common_steps)

itself : (a : ℕ) → (a == a) ≡ true
itself a = grind (arith, common_steps)

at_most : (a b : ℕ) → nat_le a b ≡ true → a ≤ b
at_most a b h = grind (arith, common_steps)

-- Weights

weight-push : (place : ℕ) (jobs : List Running) (job : Running) → weight_at place (jobs ++ job ∷ []) ≡ weight_at place jobs + (if job.worker == place then job.weight else 0)
weight-push place [] job = omega arith
weight-push place (j ∷ jobs) job = omega (arith, weight-push place jobs job)

-- a job that leaves takes its weight from its worker
weight_left_go : (place n : ℕ) (j job : Running) (jobs : List Running) (b : Bool) → has_number n j ≡ b → find (has_number n) (j ∷ jobs) ≡ Some job
    → (find (has_number n) jobs ≡ Some job → weight_at place (but_first (has_number n) jobs) + (if job.worker == place then job.weight else 0) ≡ weight_at place jobs)
    → weight_at place (but_first (has_number n) (j ∷ jobs)) + (if job.worker == place then job.weight else 0) ≡ weight_at place (j ∷ jobs)
weight_left_go place n j job jobs true e is rest =
    let same : j ≡ job = cc (rw e at is) in
    let weight : (if job.worker == place then job.weight else 0) ≡ (if j.worker == place then j.weight else 0) = ap (λ (r : Running). if r.worker == place then r.weight else 0) (sym same) in
    rw (e, but_first) (omega (arith, weight))
weight_left_go place n j job jobs false e is rest = let more = rest (rw e at is) in rw (e, but_first) (omega (arith, more))

pub weight_left : (place n : ℕ) (jobs : List Running) (job : Running) → find (has_number n) jobs ≡ Some job
    → weight_at place (but_first (has_number n) jobs) + (if job.worker == place then job.weight else 0) ≡ weight_at place jobs
weight_left place n [] job is = let e : None ≡ Some job = is in cc
weight_left place n (j ∷ jobs) job is = weight_left_go place n j job jobs (has_number n j) refl is (λ e. weight_left place n jobs job e)

-- A job starts

loaded-other : (jobs : List Running) (job : Running) (workers : List Worker) → has_place job.worker workers ≡ false → AreLoaded jobs workers → AreLoaded (jobs ++ job ∷ []) workers
loaded-other jobs job [] apart loaded = tt
loaded-other jobs job (w ∷ ws) apart loaded =
    let other : (job.worker == w.place) ≡ false = same_number job.worker w.place ∙ or_first _ _ apart in
    let none : (if job.worker == w.place then job.weight else 0) ≡ 0 = rw other refl in
    (omega (arith, loaded.0, weight-push w.place jobs job, none), loaded.1, loaded-other jobs job ws (or_second _ _ apart) loaded.2)

loaded-push : (jobs : List Running) (workers : List Worker) (w : Worker) → AreLoaded jobs workers → w.load ≡ weight_at w.place jobs → w.load ≤ 100 → AreLoaded jobs (workers ++ w ∷ [])
loaded-push jobs [] w loaded is most = (is, most, tt)
loaded-push jobs (v ∷ ws) w loaded is most = (loaded.0, loaded.1, loaded-push jobs ws w loaded.2 is most)

has_place-push : (place : ℕ) (workers : List Worker) (w : Worker) → has_place place (workers ++ w ∷ []) ≡ (has_place place workers || (w.place == place))
has_place-push place workers w = list_any-append (λ worker. worker.place == place) workers (w ∷ []) ∙ grind (arith, common_steps)

apart-push : (workers : List Worker) (w : Worker) → AreApart workers → has_place w.place workers ≡ false → AreApart (workers ++ w ∷ [])
apart-push [] w apart none = (refl, tt)
apart-push (v ∷ ws) w apart none =
    (has_place-push v.place ws w ∙ or_none _ _ apart.0 (same_number w.place v.place ∙ or_first _ _ none), apart-push ws w apart.1 (or_second _ _ none))

-- the workers without the first that passes a test
pub record Without (jobs : List Running) (test : Worker → Bool) (workers : List Worker) (w : Worker) : Type 0 where
  pub passes : test w ≡ true
  pub is : w.load ≡ weight_at w.place jobs
  pub apart : AreApart (but_first test workers)
  pub loaded : AreLoaded jobs (but_first test workers)
  pub none : has_place w.place (but_first test workers) ≡ false
  pub others : (place : ℕ) → has_place place workers ≡ (has_place place (but_first test workers) || (w.place == place))

without_go : (jobs : List Running) (test : Worker → Bool) (v w : Worker) (ws : List Worker) (b : Bool) → test v ≡ b → find test (v ∷ ws) ≡ Some w → AreApart (v ∷ ws) → AreLoaded jobs (v ∷ ws)
    → (find test ws ≡ Some w → Without jobs test ws w) → Without jobs test (v ∷ ws) w
without_go jobs test v w ws true e is apart loaded rest =
    let same : v ≡ w = cc (rw e at is) in
    record {
      passes = rw (← same) e;
      is = rw (← same) loaded.0;
      apart = rw (e, but_first) apart.1;
      loaded = rw (e, but_first) loaded.2;
      none = rw (e, but_first) (rw (← same) apart.0);
      others = λ place. rw (e, but_first) (rw (← same) (grind (arith, common_steps)));
    }
without_go jobs test v w ws false e is apart loaded rest =
    let more : Without jobs test ws w = rest (rw e at is) in
    let split : (has_place v.place (but_first test ws) || (w.place == v.place)) ≡ false = sym (more.others v.place) ∙ apart.0 in
    record {
      passes = more.passes;
      is = more.is;
      apart = rw (e, but_first) (or_first _ _ split, more.apart);
      loaded = rw (e, but_first) (loaded.0, loaded.1, more.loaded);
      none = rw (e, but_first) (or_none _ _ (same_number v.place w.place ∙ or_second _ _ split) more.none);
      others = λ place. rw (e, but_first) (let h : has_place place ws ≡ (has_place place (but_first test ws) || (w.place == place)) = more.others place in rw h (grind (arith, common_steps)));
    }

without : (jobs : List Running) (test : Worker → Bool) (workers : List Worker) (w : Worker) → find test workers ≡ Some w → AreApart workers → AreLoaded jobs workers → Without jobs test workers w
without jobs test [] w is apart loaded = let e : None ≡ Some w = is in cc
without jobs test (v ∷ ws) w is apart loaded = without_go jobs test v w ws (test v) refl is apart loaded (λ e. without jobs test ws w e apart.1 loaded.2)

at_work-kept : (workers others : List Worker) (jobs : List Running) → ((place : ℕ) → has_place place workers ≡ true → has_place place others ≡ true) → AreAtWork workers jobs → AreAtWork others jobs
at_work-kept workers others [] keeps are = tt
at_work-kept workers others (job ∷ jobs) keeps are = (keeps job.worker are.0, at_work-kept workers others jobs keeps are.1)

at_work-push : (workers : List Worker) (jobs : List Running) (job : Running) → AreAtWork workers jobs → has_place job.worker workers ≡ true → AreAtWork workers (jobs ++ job ∷ [])
at_work-push workers [] job are has = (has, tt)
at_work-push workers (j ∷ jobs) job are has = (are.0, at_work-push workers jobs job are.1 has)

-- a job of this weight starts on the first worker that it fits
pub starts : (number weight : ℕ) (workers : List Worker) (jobs : List Running) (w : Worker) → AreWorking workers jobs → find (fits weight) workers ≡ Some w
    → AreWorking (but_first (fits weight) workers ++ record w { load = w.load + weight } ∷ []) (jobs ++ record { number = number; weight = weight; worker = w.place } ∷ [])
starts number weight workers jobs w are is =
    let left : Without jobs (fits weight) workers w = without jobs (fits weight) workers w is are.apart are.loaded in
    let job : Running = record { number = number; weight = weight; worker = w.place } in
    let now : Worker = record w { load = w.load + weight } in
    let bound : w.load + weight ≤ 100 = at_most _ _ left.passes in
    let here : (if w.place == w.place then weight else 0) ≡ weight = rw (itself w.place) refl in
    let has : (place : ℕ) → has_place place (but_first (fits weight) workers ++ now ∷ []) ≡ has_place place workers = λ place. has_place-push place (but_first (fits weight) workers) now ∙ sym (left.others place) in
    record {
      apart = apart-push (but_first (fits weight) workers) now left.apart left.none;
      loaded =
          loaded-push (jobs ++ job ∷ []) (but_first (fits weight) workers) now (loaded-other jobs job (but_first (fits weight) workers) left.none left.loaded)
          (omega (arith, left.is, weight-push w.place jobs job, here)) bound;
      at_work =
          at_work-push _ jobs job (at_work-kept workers _ jobs (λ place h. has place ∙ h) are.at_work)
          (has w.place ∙ left.others w.place ∙ or_right _ _ (itself w.place));
    }

-- A job ends

has_place-relieved_go : (place : ℕ) (job : Running) (w : Worker) (b : Bool) → (w.place == job.worker) ≡ b → ((relieved job w).place == place) ≡ (w.place == place)
has_place-relieved_go place job w true e = rw e refl
has_place-relieved_go place job w false e = rw e refl

has_place-relieved : (place : ℕ) (job : Running) (workers : List Worker) → has_place place (map (relieved job) workers) ≡ has_place place workers
has_place-relieved place job [] = refl
has_place-relieved place job (w ∷ ws) = rw (has_place-relieved_go place job w (w.place == job.worker) refl, has_place-relieved place job ws) refl

relieved_place : (job : Running) (w : Worker) (b : Bool) → (w.place == job.worker) ≡ b → (relieved job w).place ≡ w.place
relieved_place job w true e = rw e refl
relieved_place job w false e = rw e refl

apart-relieved : (job : Running) (workers : List Worker) → AreApart workers → AreApart (map (relieved job) workers)
apart-relieved job [] apart = tt
apart-relieved job (w ∷ ws) apart = (rw (relieved_place job w (w.place == job.worker) refl) (has_place-relieved w.place job ws ∙ apart.0), apart-relieved job ws apart.1)

loaded_go : (n : ℕ) (job : Running) (jobs : List Running) (w : Worker) (b : Bool) → (w.place == job.worker) ≡ b → find (has_number n) jobs ≡ Some job → w.load ≡ weight_at w.place jobs → w.load ≤ 100
    → ((relieved job w).load ≡ weight_at (relieved job w).place (but_first (has_number n) jobs)) × ((relieved job w).load ≤ 100)
loaded_go n job jobs w true e is load most =
    let here : (job.worker == w.place) ≡ true = same_number job.worker w.place ∙ e in
    let weight : (if job.worker == w.place then job.weight else 0) ≡ job.weight = rw here refl in
    let left = weight_left w.place n jobs job is in
    (rw e (omega (arith, left, weight, load)), rw e (omega (arith, most)))
loaded_go n job jobs w false e is load most =
    let other : (job.worker == w.place) ≡ false = same_number job.worker w.place ∙ e in
    let weight : (if job.worker == w.place then job.weight else 0) ≡ 0 = rw other refl in
    let left = weight_left w.place n jobs job is in
    (rw e (omega (arith, left, weight, load)), rw e most)

loaded-relieved : (n : ℕ) (job : Running) (jobs : List Running) (workers : List Worker) → find (has_number n) jobs ≡ Some job → AreLoaded jobs workers → AreLoaded (but_first (has_number n) jobs) (map (relieved job) workers)
loaded-relieved n job jobs [] is loaded = tt
loaded-relieved n job jobs (w ∷ ws) is loaded =
    let here = loaded_go n job jobs w (w.place == job.worker) refl is loaded.0 loaded.1 in
    (here.0, here.1, loaded-relieved n job jobs ws is loaded.2)

at_work-fewer_go : (workers : List Worker) (n : ℕ) (j : Running) (jobs : List Running) (b : Bool) → has_number n j ≡ b → AreAtWork workers (j ∷ jobs) → AreAtWork workers (but_first (has_number n) jobs)
    → AreAtWork workers (but_first (has_number n) (j ∷ jobs))
at_work-fewer_go workers n j jobs true e are rest = rw (e, but_first) are.1
at_work-fewer_go workers n j jobs false e are rest = rw (e, but_first) (are.0, rest)

at_work-fewer : (workers : List Worker) (n : ℕ) (jobs : List Running) → AreAtWork workers jobs → AreAtWork workers (but_first (has_number n) jobs)
at_work-fewer workers n [] are = tt
at_work-fewer workers n (j ∷ jobs) are = at_work-fewer_go workers n j jobs (has_number n j) refl are (at_work-fewer workers n jobs are.1)

-- the job with this number ends
pub ends : (n : ℕ) (workers : List Worker) (jobs : List Running) (job : Running) → AreWorking workers jobs → find (has_number n) jobs ≡ Some job
    → AreWorking (map (relieved job) workers) (but_first (has_number n) jobs)
ends n workers jobs job are is = record {
  apart = apart-relieved job workers are.apart;
  loaded = loaded-relieved n job jobs workers is are.loaded;
  at_work = at_work-kept workers (map (relieved job) workers) (but_first (has_number n) jobs) (λ place h. has_place-relieved place job workers ∙ h) (at_work-fewer workers n jobs are.at_work);
}

found_number_go : (n : ℕ) (j job : Running) (jobs : List Running) (b : Bool) → has_number n j ≡ b → find (has_number n) (j ∷ jobs) ≡ Some job → (find (has_number n) jobs ≡ Some job → job.number ≡ n) → job.number ≡ n
found_number_go n j job jobs true e is rest = let same : j ≡ job = cc (rw e at is) in rw (← same) (eqb-true j.number n e)
found_number_go n j job jobs false e is rest = rest (rw e at is)

-- it has this number
pub found_number : (n : ℕ) (jobs : List Running) (job : Running) → find (has_number n) jobs ≡ Some job → job.number ≡ n
found_number n [] job is = let e : None ≡ Some job = is in cc
found_number n (j ∷ jobs) job is = found_number_go n j job jobs (has_number n j) refl is (λ e. found_number n jobs job e)

-- Opening

from_place : (place other : ℕ) (domains : List ℕ) → other < place → has_place other (workers_from place domains) ≡ false
from_place place other [] below = refl
from_place place other (domain ∷ domains) below =
    let apart : (place == other) ≡ false = grind (arith, common_steps) in
    or_none _ _ apart (from_place (place + 1) other domains (omega arith))

pub opening_apart : (place : ℕ) (domains : List ℕ) → AreApart (workers_from place domains)
opening_apart place [] = tt
opening_apart place (domain ∷ domains) = (from_place (place + 1) place domains (omega arith), opening_apart (place + 1) domains)

pub opening_loaded : (place : ℕ) (domains : List ℕ) → AreLoaded [] (workers_from place domains)
opening_loaded place [] = tt
opening_loaded place (domain ∷ domains) = (refl, omega arith, opening_loaded (place + 1) domains)

pub opening : (domains : List ℕ) → AreWorking (workers_from 0 domains) []
opening domains = record { apart = opening_apart 0 domains; loaded = opening_loaded 0 domains; at_work = tt }

-- What runs on one worker

not_there : (place : ℕ) (workers : List Worker) (jobs : List Running) → has_place place workers ≡ false → AreAtWork workers jobs → weight_at place jobs ≡ 0
not_there place workers [] none are = refl
not_there place workers (job ∷ jobs) none are =
    let rest : weight_at place jobs ≡ 0 = not_there place workers jobs none are.1 in
    there (job.worker == place) refl rest
  where
    there : (b : Bool) → (job.worker == place) ≡ b → weight_at place jobs ≡ 0 → weight_at place (job ∷ jobs) ≡ 0
    there true e rest = let same : job.worker ≡ place = eqb-true job.worker place e in absurd (true≢false (sym (are.0) ∙ (ap (λ p. has_place p workers) same ∙ none)))
    there false e rest = let none : (if job.worker == place then job.weight else 0) ≡ 0 = rw e refl in omega (arith, none, rest)

loaded_there_go : (place : ℕ) (w : Worker) (ws : List Worker) (jobs : List Running) (b : Bool) → (w.place == place) ≡ b → has_place place (w ∷ ws) ≡ true → AreLoaded jobs (w ∷ ws) → (has_place place ws ≡ true → weight_at place jobs ≤ 100) → weight_at place jobs ≤ 100
loaded_there_go place w ws jobs true e has loaded rest = let same : w.place ≡ place = eqb-true w.place place e in let is : w.load ≡ weight_at place jobs = loaded.0 ∙ ap (λ p. weight_at p jobs) same in omega (arith, is, loaded.1)
loaded_there_go place w ws jobs false e has loaded rest = rest (or_true _ _ has e)

loaded_there : (place : ℕ) (workers : List Worker) (jobs : List Running) → has_place place workers ≡ true → AreLoaded jobs workers → weight_at place jobs ≤ 100
loaded_there place [] jobs has loaded = let e : false ≡ true = has in cc
loaded_there place (w ∷ ws) jobs has loaded = loaded_there_go place w ws jobs (w.place == place) refl has loaded (λ h. loaded_there place ws jobs h loaded.2)

bounded_go : (place : ℕ) (workers : List Worker) (jobs : List Running) (b : Bool) → has_place place workers ≡ b → AreWorking workers jobs → weight_at place jobs ≤ 100
bounded_go place workers jobs true has are = loaded_there place workers jobs has are.loaded
bounded_go place workers jobs false none are = let e : weight_at place jobs ≡ 0 = not_there place workers jobs none are.at_work in omega (arith, e)

pub bounded : (place : ℕ) (workers : List Worker) (jobs : List Running) → AreWorking workers jobs → weight_at place jobs ≤ 100
bounded place workers jobs are = bounded_go place workers jobs (has_place place workers) refl are
