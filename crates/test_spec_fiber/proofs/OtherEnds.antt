-- The ends of blocks that hold a mutex, a resource, a reader, a writer or a directory, of fibers that resolve a promise, and of jobs.
use Rattle.std.proofs.Common.{◌≡◌, [], ◌∷◌, refl}
use Rattle.std.specs.Prelude.{ℕ, codes, pos, negsuc}
use Rattle.eio_value.specs.Table.{text_id}
use Rattle.eio_value.specs.declared.value.Value.{Value}
use Rattle.eio_value.specs.declared.value.Value.TheVariants.{Unit, Int, Text}
use Rattle.eio_value.specs.declared.plain.Misuse.TheVariants.{NotLocked, Resolved}
use Rattle.eio_value.specs.declared.plain.Plain.{Plain}
use Rattle.eio_value.specs.declared.plain.Plain.TheVariants.{Failure, Invalid, Exit, Poisoned}
use Rattle.eio_value.specs.declared.raised.Raised.TheVariants.{Cancelled}
use Rattle.eio_value.specs.declared.raised.Outcome.TheVariants.{Ok, Err}
use Rattle.spec_script.specs.Syntax.{Begins, Then, Done, Give, Raise, Variable, Lock, Line}
use Rattle.spec_fiber.specs.Asks.{Ask, Trace, Yield, OnObject, Use, Submit, OpenReader, OnReader, OpenWriter, PutText, OpenDirectory, Declared, Opened, ShutReader, ShutWriter, UnlockEnd, PoisonEnd, PutEnd, ResolveEnd, End}
use Rattle.spec_fiber.specs.Evaluation.{value_of, values_of}
use Rattle.spec_fiber.specs.Work.{Carry}
use Rattle.spec_fiber.specs.Silent.{statement}
use Rattle.spec_fiber.specs.Settling.{answered}
use Rattle.spec_fiber.specs.Replies.{begun, begun_promising}
use Rattle.test_spec_fiber.specs.Replied.{Gives, Throws, Cancels, Enters, Passes, Waits, done, raise, ends, fails, block, calls_from, settled}
use Rattle.test_spec_fiber.specs.Runs.{calls}

abbrev int : ℕ → Value
int n = Int (pos n)

abbrev traces : ℕ → Ask
traces n = Trace (int n ∷ [])

abbrev failure : ℕ → Plain
failure n = Failure (text_id n)

-- Mutexes: the block begins once the mutex is had

unlocks_with_value : calls (codes "(eio 1 (mutex m) (main (let x (use-rw m (let y 1) (yield) (give y))) (trace x)))") (done ∷ done ∷ Passes ∷ done ∷ []) ≡ OnObject Lock 0 ∷ Yield ∷ UnlockEnd 0 (int 1) ∷ traces 1 ∷ ends Unit ∷ []
unfolding calls
unlocks_with_value = refl

-- the same without a call in the block
unlocks_at_once : calls (codes "(eio 1 (mutex m) (main (let x (use-rw m (let y 1) (give y))) (let z 2) (trace x z)))") (done ∷ Passes ∷ done ∷ []) ≡ OnObject Lock 0 ∷ UnlockEnd 0 (int 1) ∷ Trace (int 1 ∷ int 2 ∷ []) ∷ ends Unit ∷ []
unfolding calls
unlocks_at_once = refl

poisons_by_exception : calls (codes "(eio 1 (mutex m) (main (try ((use-rw m (raise \"a\"))) e ((trace 1)))))") (done ∷ Passes ∷ done ∷ []) ≡ OnObject Lock 0 ∷ PoisonEnd 0 (raise 0 (failure 1)) ∷ traces 1 ∷ ends Unit ∷ []
unfolding calls
poisons_by_exception = refl

-- by a Cancelled too, which goes on behind
poisons_by_cancelled : calls (codes "(eio 1 (mutex m) (main (use-rw m (yield))))") (done ∷ Cancels Exit ∷ []) ≡ OnObject Lock 0 ∷ Yield ∷ PoisonEnd 0 (Cancelled (record { serial = 0; what = Exit })) ∷ []
unfolding calls
poisons_by_cancelled = refl

-- where the lock isn't had, nothing is unlocked
lock_raises : calls (codes "(eio 1 (mutex m) (main (use-rw m (yield))))") (Throws Poisoned ∷ []) ≡ OnObject Lock 0 ∷ fails 0 Poisoned ∷ []
unfolding calls
lock_raises = refl

-- the end raises itself, in place of the value
unlock_raises : calls (codes "(eio 1 (mutex m) (main (use-rw m (give 1))))") (done ∷ Throws (Invalid NotLocked) ∷ []) ≡ OnObject Lock 0 ∷ UnlockEnd 0 (int 1) ∷ fails 0 (Invalid NotLocked) ∷ []
unfolding calls
unlock_raises = refl

-- Pools: the name stands for the resource, which is put back at the end

puts_back : calls (codes "(eio 1 (pool r 4) (main (let x (use-pool r i (trace i) (give (plus i 1)))) (trace x)))") (Gives (int 3) ∷ done ∷ Passes ∷ done ∷ []) ≡ Use 0 ∷ traces 3 ∷ PutEnd 0 3 (Ok (int 4)) ∷ traces 4 ∷ ends Unit ∷ []
unfolding calls
puts_back = refl

puts_back_by_exception : calls (codes "(eio 1 (pool r 4) (main (try ((use-pool r i (raise \"a\"))) e ((trace 1)))))") (Gives (int 3) ∷ Passes ∷ done ∷ []) ≡ Use 0 ∷ PutEnd 0 3 (Err (raise 0 (failure 1))) ∷ traces 1 ∷ ends Unit ∷ []
unfolding calls
puts_back_by_exception = refl

-- an exception that comes from a call of the block, and through two ends
puts_back_both : calls (codes "(eio 1 (pool r 4) (mutex m) (main (use-pool r i (use-rw m (yield)) (trace 1))))") (Gives (int 2) ∷ done ∷ Throws Exit ∷ Passes ∷ Passes ∷ []) ≡ Use 0 ∷ OnObject Lock 1 ∷ Yield ∷ PoisonEnd 1 (raise 0 Exit) ∷ PutEnd 0 2 (Err (raise 0 Exit)) ∷ fails 0 Exit ∷ []
unfolding calls
puts_back_both = refl

nothing_to_put : calls (codes "(eio 1 (pool r 4) (main (use-pool r i (yield))))") (Cancels Exit ∷ []) ≡ Use 0 ∷ End (Err (Cancelled (record { serial = 0; what = Exit }))) ∷ []
unfolding calls
nothing_to_put = refl

-- no pool answers so: what isn't a number of a resource is put back as the greatest one
no_resource : calls (codes "(eio 1 (pool r 4) (main (use-pool r i)))") (Gives Unit ∷ []) ≡ Use 0 ∷ PutEnd 0 4294967295 (Ok Unit) ∷ []
unfolding calls
no_resource = refl

negative_resource : calls (codes "(eio 1 (pool r 4) (main (use-pool r i)))") (Gives (Int (negsuc 0)) ∷ []) ≡ Use 0 ∷ PutEnd 0 4294967295 (Ok Unit) ∷ []
unfolding calls
negative_resource = refl

greatest_resource : calls (codes "(eio 1 (pool r 4) (main (use-pool r i)))") (Gives (int 4294967296) ∷ []) ≡ Use 0 ∷ PutEnd 0 4294967295 (Ok Unit) ∷ []
unfolding calls
greatest_resource = refl

-- Readers, writers, directories

shuts_reader : calls (codes "(eio 1 (flow f) (main (let x (buf-read b f 9 (line b))) (trace x)))") (Enters 2 ∷ Gives (int 1) ∷ Waits ∷ Passes ∷ done ∷ []) ≡ OpenReader 0 9 (block 2) ∷ OnReader Line 2 ∷ ShutReader 2 (Ok Unit) ∷ ShutReader 2 (Ok Unit) ∷ Trace (Unit ∷ []) ∷ ends Unit ∷ []
unfolding calls
shuts_reader = refl

shuts_writer_by_exception : calls (codes "(eio 1 (flow f) (main (buf-write w f (put w \"a\") (raise \"b\"))))") (Enters 2 ∷ done ∷ Passes ∷ []) ≡ OpenWriter 0 (block 1) ∷ PutText 2 (text_id 1) ∷ ShutWriter 2 (Err (raise 0 (failure 2))) ∷ fails 0 (failure 2) ∷ []
unfolding calls
shuts_writer_by_exception = refl

-- a directory has no end: its block is left silently
directory_has_no_end : calls (codes "(eio 1 (dir c) (main (let x (open-dir c \"a\" d (open-dir d \"b\" e (yield)) (give 5))) (trace x)))") (Enters 3 ∷ Enters 4 ∷ done ∷ done ∷ []) ≡ OpenDirectory (Declared 0) (text_id 1) (block 3) ∷ OpenDirectory (Opened 3) (text_id 2) (block 5) ∷ Yield ∷ traces 5 ∷ ends Unit ∷ []
unfolding calls
directory_has_no_end = refl

-- Names of a block are gone behind its end

behind_mutex : calls (codes "(eio 1 (mutex m) (main (use-rw m (let y 1) (yield)) (let z 7) (trace z)))") (done ∷ done ∷ Passes ∷ done ∷ []) ≡ OnObject Lock 0 ∷ Yield ∷ UnlockEnd 0 Unit ∷ traces 7 ∷ ends Unit ∷ []
unfolding calls
behind_mutex = refl

behind_pool : calls (codes "(eio 1 (pool r 4) (main (use-pool r i (let y 1)) (let z 7) (trace z)))") (Gives (int 3) ∷ Passes ∷ done ∷ []) ≡ Use 0 ∷ PutEnd 0 3 (Ok Unit) ∷ traces 7 ∷ ends Unit ∷ []
unfolding calls
behind_pool = refl

behind_pool_late : calls (codes "(eio 1 (pool r 4) (main (use-pool r i (let y 1) (yield)) (let z 7) (trace z)))") (Gives (int 3) ∷ done ∷ Passes ∷ done ∷ []) ≡ Use 0 ∷ Yield ∷ PutEnd 0 3 (Ok Unit) ∷ traces 7 ∷ ends Unit ∷ []
unfolding calls
behind_pool_late = refl

behind_reader : calls (codes "(eio 1 (flow f) (main (buf-read b f 9 (let y 1)) (let z 7) (trace z)))") (Enters 3 ∷ Passes ∷ done ∷ []) ≡ OpenReader 0 9 (block 1) ∷ ShutReader 3 (Ok Unit) ∷ traces 7 ∷ ends Unit ∷ []
unfolding calls
behind_reader = refl

behind_directory : calls (codes "(eio 1 (dir c) (main (open-dir c \"a\" d (let y 1)) (let z 7) (trace z)))") (Enters 3 ∷ done ∷ []) ≡ OpenDirectory (Declared 0) (text_id 1) (block 2) ∷ traces 7 ∷ ends Unit ∷ []
unfolding calls
behind_directory = refl

-- Fibers

-- a promise gets the outcome, and the end of the fiber has unit, or what `resolve` raised
abbrev fresh : Carry
fresh = record { variables = int 4 ∷ []; texts = []; serial = 2; raises = [] }

resolves_with_value : calls_from (done ∷ []) (settled (begun_promising 6 (Begins 0 (Then (Give (Variable 0)) Done)) fresh.variables) fresh) ≡ ResolveEnd 6 (Ok (int 4)) ∷ ends Unit ∷ []
unfolding value_of values_of statement answered
resolves_with_value = refl

resolves_with_exception : calls_from (Throws (Invalid Resolved) ∷ []) (settled (begun_promising 6 (Begins 0 (Then (Raise (text_id 0)) Done)) fresh.variables) fresh) ≡ ResolveEnd 6 (Err (raise 2 (failure 0))) ∷ fails 3 (Invalid Resolved) ∷ []
unfolding value_of values_of statement answered
resolves_with_exception = refl

-- a job is given the values of its captured variables, in their order, and they are its first slots
job_is_given : calls (codes "(eio 1 (executor e 0) (main (let a 1) (let b 2) (let c \"t\") (let r (submit e 60 (c a) (give a))) (trace r)))") (Gives (int 9) ∷ done ∷ []) ≡ Submit 0 60 (Text (text_id 1) ∷ int 1 ∷ []) (block 8) ∷ traces 9 ∷ ends Unit ∷ []
unfolding calls
job_is_given = refl

job_ends : calls_from [] (settled (begun (Begins 8 (Then (Give (Variable 1)) Done)) (Text (text_id 1) ∷ int 1 ∷ [])) fresh) ≡ ends (int 1) ∷ []
unfolding value_of values_of statement answered
job_ends = refl
