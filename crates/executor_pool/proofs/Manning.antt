-- How many jobs can run: each weighs something, and all on one worker weigh at most 100.
use Rattle.std.proofs.Common.{◌≡◌, ℕ, suc, ◌+◌, ◌*◌, ◌≤◌, ◌<◌, ◌==◌, if◌then◌else◌, Bool, true, false, List, [], ◌∷◌, ◌++◌, length, map, Some, None, arith, refl, sym, ap, ◌∙◌, length-append}
use Rattle.std.specs.Prelude.{find}
use Rattle.std.proofs.lemmas.Grind.{common_steps}
use Rattle.spec_parts.specs.Data.{Running, Worker}
use Rattle.spec_parts.specs.Executors.{fits, has_number, relieved, workers_from}
use Rattle.spec_parts.specs.Row.{but_first}
use Rattle.executor_pool.specs.Crews.{AreWeighty, AreManned}
use Rattle.executor_pool.specs.Loads.{has_place, AreLoaded, AreAtWork, AreWorking}
use Rattle.executor_pool.specs.Working.{weight_at}
use Rattle.executor_pool.proofs.Loads.{starts, ends, opening, weight_left}

-- the weight of the jobs that run on these workers
abbrev weight_on : List Worker → List Running → ℕ
weight_on [] jobs = 0
weight_on (w ∷ ws) jobs = weight_at w.place jobs + weight_on ws jobs

-- what one job weighs on them
abbrev weighs_on : List Worker → Running → ℕ
weighs_on [] job = 0
weighs_on (w ∷ ws) job = (if job.worker == w.place then job.weight else 0) + weighs_on ws job

none_runs : (ws : List Worker) → weight_on ws [] ≡ 0
none_runs [] = refl
none_runs (w ∷ ws) = omega (arith, none_runs ws)

one_more : (ws : List Worker) (job : Running) (jobs : List Running) → weight_on ws (job ∷ jobs) ≡ weighs_on ws job + weight_on ws jobs
one_more [] job jobs = omega arith
one_more (w ∷ ws) job jobs = omega (arith, one_more ws job jobs)

weighs_go : (w : Worker) (ws : List Worker) (job : Running) (b : Bool) → (w.place == job.worker) ≡ b → has_place job.worker (w ∷ ws) ≡ true → (has_place job.worker ws ≡ true → job.weight ≤ weighs_on ws job) → job.weight ≤ weighs_on (w ∷ ws) job
weighs_go w ws job true e has rest =
    let flipped : (job.worker == w.place) ≡ true = grind (arith, common_steps) in
    let here : (if job.worker == w.place then job.weight else 0) ≡ job.weight = rw flipped refl in
    omega (arith, here)
weighs_go w ws job false e has rest = let more : job.weight ≤ weighs_on ws job = rest (rw e at has) in omega (arith, more)

weighs : (ws : List Worker) (job : Running) → has_place job.worker ws ≡ true → job.weight ≤ weighs_on ws job
weighs [] job has = let e : false ≡ true = has in cc
weighs (w ∷ ws) job has = weighs_go w ws job (w.place == job.worker) refl has (λ h. weighs ws job h)

all_weigh : (ws : List Worker) (jobs : List Running) → AreAtWork ws jobs → AreWeighty jobs → length jobs ≤ weight_on ws jobs
all_weigh ws [] are weighty = omega arith
all_weigh ws (job ∷ jobs) are weighty = omega (arith, one_more ws job jobs, weighs ws job are.0, weighty.0, all_weigh ws jobs are.1 weighty.1)

bounded_on : (ws : List Worker) (jobs : List Running) → AreLoaded jobs ws → weight_on ws jobs ≤ 100 * length ws
bounded_on [] jobs loaded = omega arith
bounded_on (w ∷ ws) jobs loaded = omega (arith, loaded.0, loaded.1, bounded_on ws jobs loaded.2)

-- no more jobs run than there is room for
pub few_run : (ws : List Worker) (jobs : List Running) (most : ℕ) → AreManned ws jobs most → length jobs ≤ most
few_run ws jobs most are = omega (arith, all_weigh ws jobs are.working.at_work are.weighty, bounded_on ws jobs are.working.loaded, are.room)

-- A job starts

weighty-push : (jobs : List Running) (job : Running) → AreWeighty jobs → 0 < job.weight → AreWeighty (jobs ++ job ∷ [])
weighty-push [] job are more = (more, tt)
weighty-push (j ∷ jobs) job are more = (are.0, weighty-push jobs job are.1 more)

as_many_go : (test : Worker → Bool) (v w : Worker) (ws : List Worker) (b : Bool) → test v ≡ b → find test (v ∷ ws) ≡ Some w → (find test ws ≡ Some w → length (but_first test ws) + 1 ≡ length ws) → length (but_first test (v ∷ ws)) + 1 ≡ length (v ∷ ws)
as_many_go test v w ws true e is rest = rw (e, but_first) (omega arith)
as_many_go test v w ws false e is rest = let more = rest (rw e at is) in rw (e, but_first) (omega (arith, more))

as_many : (test : Worker → Bool) (ws : List Worker) (w : Worker) → find test ws ≡ Some w → length (but_first test ws) + 1 ≡ length ws
as_many test [] w is = let e : None ≡ Some w = is in cc
as_many test (v ∷ ws) w is = as_many_go test v w ws (test v) refl is (λ e. as_many test ws w e)

pub manned_with : (number weight : ℕ) (ws : List Worker) (jobs : List Running) (most : ℕ) (w : Worker) → 0 < weight → AreManned ws jobs most → find (fits weight) ws ≡ Some w
    → AreManned (but_first (fits weight) ws ++ record w { load = w.load + weight } ∷ []) (jobs ++ record { number = number; weight = weight; worker = w.place } ∷ []) most
manned_with number weight ws jobs most w weighty are is =
    let now : Worker = record w { load = w.load + weight } in
    let long : length (but_first (fits weight) ws ++ now ∷ []) ≡ length ws = length-append (but_first (fits weight) ws) (now ∷ []) ∙ as_many (fits weight) ws w is in
    record { working = starts number weight ws jobs w are.working is; weighty = weighty-push jobs _ are.weighty weighty; room = omega (arith, are.room, long) }

passes_go : (test : Worker → Bool) (v w : Worker) (ws : List Worker) (b : Bool) → test v ≡ b → find test (v ∷ ws) ≡ Some w → (find test ws ≡ Some w → test w ≡ true) → test w ≡ true
passes_go test v w ws true e is rest = let same : v ≡ w = cc (rw e at is) in ap test (sym same) ∙ e
passes_go test v w ws false e is rest = rest (rw e at is)

-- the one that is found passes
pub passes : (test : Worker → Bool) (ws : List Worker) (w : Worker) → find test ws ≡ Some w → test w ≡ true
passes test [] w is = let e : None ≡ Some w = is in cc
passes test (v ∷ ws) w is = passes_go test v w ws (test v) refl is (λ e. passes test ws w e)

-- A job ends

weighty-fewer_go : (n : ℕ) (j : Running) (jobs : List Running) (b : Bool) → has_number n j ≡ b → AreWeighty (j ∷ jobs) → AreWeighty (but_first (has_number n) jobs) → AreWeighty (but_first (has_number n) (j ∷ jobs))
weighty-fewer_go n j jobs true e are rest = rw (e, but_first) are.1
weighty-fewer_go n j jobs false e are rest = rw (e, but_first) (are.0, rest)

weighty-fewer : (n : ℕ) (jobs : List Running) → AreWeighty jobs → AreWeighty (but_first (has_number n) jobs)
weighty-fewer n [] are = tt
weighty-fewer n (j ∷ jobs) are = weighty-fewer_go n j jobs (has_number n j) refl are (weighty-fewer n jobs are.1)

length-map : (f : Worker → Worker) (ws : List Worker) → length (map f ws) ≡ length ws
length-map f [] = refl
length-map f (w ∷ ws) = ap suc (length-map f ws)

pub manned_without : (n : ℕ) (ws : List Worker) (jobs : List Running) (most : ℕ) (job : Running) → AreManned ws jobs most → find (has_number n) jobs ≡ Some job → AreManned (map (relieved job) ws) (but_first (has_number n) jobs) most
manned_without n ws jobs most job are is =
    record { working = ends n ws jobs job are.working is; weighty = weighty-fewer n jobs are.weighty; room = omega (arith, are.room, length-map (relieved job) ws) }

load_go : (v w : Worker) (ws : List Worker) (jobs : List Running) (test : Worker → Bool) (b : Bool) → test v ≡ b → find test (v ∷ ws) ≡ Some w → AreLoaded jobs (v ∷ ws) → (find test ws ≡ Some w → w.load ≡ weight_at w.place jobs) → w.load ≡ weight_at w.place jobs
load_go v w ws jobs test true e is loaded rest = let same : v ≡ w = cc (rw e at is) in ap (λ (x : Worker). x.load) (sym same) ∙ loaded.0 ∙ ap (λ (x : Worker). weight_at x.place jobs) same
load_go v w ws jobs test false e is loaded rest = rest (rw e at is)

load_of : (test : Worker → Bool) (ws : List Worker) (w : Worker) (jobs : List Running) → find test ws ≡ Some w → AreLoaded jobs ws → w.load ≡ weight_at w.place jobs
load_of test [] w jobs is loaded = let e : None ≡ Some w = is in cc
load_of test (v ∷ ws) w jobs is loaded = load_go v w ws jobs test (test v) refl is loaded (λ e. load_of test ws w jobs e loaded.2)

-- the worker of a job bears its weight
pub bears : (n : ℕ) (ws : List Worker) (jobs : List Running) (job : Running) (w : Worker) → AreWorking ws jobs → find (has_number n) jobs ≡ Some job → find (λ other. other.place == job.worker) ws ≡ Some w → job.weight ≤ w.load
bears n ws jobs job w are is at =
    let here : (w.place == job.worker) ≡ true = passes (λ other. other.place == job.worker) ws w at in
    let flipped : (job.worker == w.place) ≡ true = grind (arith, common_steps) in
    let weight : (if job.worker == w.place then job.weight else 0) ≡ job.weight = rw flipped refl in
    omega (arith, weight_left w.place n jobs job is, weight, load_of (λ other. other.place == job.worker) ws w jobs at are.loaded)

-- Opening

length_from : (place : ℕ) (domains : List ℕ) → length (workers_from place domains) ≡ length domains
length_from place [] = refl
length_from place (domain ∷ domains) = ap suc (length_from (place + 1) domains)

pub manned_first : (domains : List ℕ) (most : ℕ) → 100 * length domains ≤ most → AreManned (workers_from 0 domains) [] most
manned_first domains most room = record { working = opening domains; weighty = tt; room = omega (arith, length_from 0 domains, room) }
