-- The forms that are one call, each with its operands.
use Rattle.std.proofs.Common.{◌≡◌, [], ◌∷◌, true, false, refl}
use Rattle.std.specs.Prelude.{ℕ, codes, pos, negsuc}
use Rattle.eio_value.specs.Table.{text_id}
use Rattle.eio_value.specs.declared.value.Value.{Value}
use Rattle.eio_value.specs.declared.value.Value.TheVariants.{Unit, Int, Text}
use Rattle.eio_value.specs.declared.plain.Misuse.TheVariants.{NotNumber, NotText, Overflow}
use Rattle.eio_value.specs.declared.plain.Plain.TheVariants.{Invalid, EndOfFile}
use Rattle.spec_script.specs.Syntax.{Take, TakeNonblocking, Length, Await, Acquire, Release, Lock, TryLock, Unlock, Add, Resolve, TryResolve, Line, TakeAll, Char, AtEnd, Load, Mkdir, ReadDir, Unlink, Rmdir, Kind}
use Rattle.spec_fiber.specs.Asks.{Ask, Trace, Yield, Check, AwaitCancel, OnObject, OnObjectWith, Sleep, Now, OpenReader, OnReader, TakeBytes, Copy, OpenWriter, PutText, Declared, OnPath, Save, ShutReader, ShutWriter}
use Rattle.test_spec_fiber.specs.Replied.{Throws, Enters, Passes, raise, done, ends, fails, block}
use Rattle.test_spec_fiber.specs.Runs.{calls}
use Rattle.eio_value.specs.declared.raised.Outcome.TheVariants.{Ok, Err}

abbrev int : ℕ → Value
int n = Int (pos n)

abbrev traces : ℕ → Ask
traces n = Trace (int n ∷ [])

-- what is traced are values; contexts can't be
of_values : calls (codes "(eio 1 (main (trace) (trace \"a\" 1 (unit) \"a\")))") (done ∷ done ∷ []) ≡ Trace [] ∷ Trace (Text (text_id 0) ∷ int 1 ∷ Unit ∷ Text (text_id 0) ∷ []) ∷ ends Unit ∷ []
unfolding calls
of_values = refl

of_fibers : calls (codes "(eio 1 (main (yield) (check) (await-cancel)))") (done ∷ done ∷ done ∷ []) ≡ Yield ∷ Check ∷ AwaitCancel ∷ ends Unit ∷ []
unfolding calls
of_fibers = refl

of_streams : calls (codes "(eio 1 (semaphore k 1) (stream q 1) (main (add q (plus 1 1)) (take q) (take-nonblocking q) (length q)))") (done ∷ done ∷ done ∷ done ∷ []) ≡ OnObjectWith Add 1 (int 2) ∷ OnObject Take 1 ∷ OnObject TakeNonblocking 1 ∷ OnObject Length 1 ∷ ends Unit ∷ []
unfolding calls
of_streams = refl

of_promises : calls (codes "(eio 1 (promise p) (main (resolve p 1) (try-resolve p \"a\") (await p)))") (done ∷ done ∷ done ∷ []) ≡ OnObjectWith Resolve 0 (int 1) ∷ OnObjectWith TryResolve 0 (Text (text_id 1)) ∷ OnObject Await 0 ∷ ends Unit ∷ []
unfolding calls
of_promises = refl

of_locks : calls (codes "(eio 1 (semaphore k 1) (mutex m) (main (acquire k) (release k) (lock m) (try-lock m) (unlock m)))") (done ∷ done ∷ done ∷ done ∷ done ∷ []) ≡ OnObject Acquire 0 ∷ OnObject Release 0 ∷ OnObject Lock 1 ∷ OnObject TryLock 1 ∷ OnObject Unlock 1 ∷ ends Unit ∷ []
unfolding calls
of_locks = refl

-- the operand raises before the call is made
operand_raises : calls (codes "(eio 1 (stream q 1) (main (add q (plus \"a\" 1))))") [] ≡ fails 0 (Invalid NotNumber) ∷ []
unfolding calls
operand_raises = refl

of_clock : calls (codes "(eio 1 (main (sleep (minus 1 3)) (now)))") (done ∷ done ∷ []) ≡ Sleep (negsuc 1) ∷ Now ∷ ends Unit ∷ []
unfolding calls
of_clock = refl

sleep_of_text : calls (codes "(eio 1 (main (sleep \"a\")))") [] ≡ fails 0 (Invalid NotNumber) ∷ []
unfolding calls
sleep_of_text = refl

of_readers : calls (codes "(eio 1 (flow f) (main (let x 1) (buf-read b f 8 (line b) (take-bytes b -2) (take-all b) (char b) (at-end b))))") (Enters 6 ∷ done ∷ done ∷ done ∷ done ∷ done ∷ Passes ∷ []) ≡ OpenReader 0 8 (block 3) ∷ OnReader Line 6 ∷ TakeBytes 6 (negsuc 1) ∷ OnReader TakeAll 6 ∷ OnReader Char 6 ∷ OnReader AtEnd 6 ∷ ShutReader 6 (Ok Unit) ∷ ends Unit ∷ []
unfolding calls
of_readers = refl

-- an exception of a reader's call comes to `shut`, and so does one of its operand
reader_raises : calls (codes "(eio 1 (flow f) (main (buf-read b f 8 (line b))))") (Enters 6 ∷ Throws EndOfFile ∷ Passes ∷ []) ≡ OpenReader 0 8 (block 1) ∷ OnReader Line 6 ∷ ShutReader 6 (Err (raise 0 EndOfFile)) ∷ fails 0 EndOfFile ∷ []
unfolding calls
reader_raises = refl

count_of_text : calls (codes "(eio 1 (flow f) (main (buf-read b f 8 (take-bytes b \"a\"))))") (Enters 6 ∷ []) ≡ OpenReader 0 8 (block 1) ∷ ShutReader 6 (Err (raise 0 (Invalid NotNumber))) ∷ []
unfolding calls
count_of_text = refl

of_writers : calls (codes "(eio 1 (flow f) (flow g) (main (copy g f) (buf-write w g (put w \"a\"))))") (done ∷ Enters 6 ∷ done ∷ Passes ∷ []) ≡ Copy 1 0 ∷ OpenWriter 1 (block 2) ∷ PutText 6 (text_id 2) ∷ ShutWriter 6 (Ok Unit) ∷ ends Unit ∷ []
unfolding calls
of_writers = refl

put_of_number : calls (codes "(eio 1 (flow f) (main (buf-write w f (put w 1))))") (Enters 6 ∷ []) ≡ OpenWriter 0 (block 1) ∷ ShutWriter 6 (Err (raise 0 (Invalid NotText))) ∷ []
unfolding calls
put_of_number = refl

of_paths : calls (codes "(eio 1 (dir c) (main (load c \"a\") (mkdir c \"a\") (read-dir c \"a\") (unlink c \"a\") (rmdir c \"a\") (kind c \"a\") (save c \"a\" \"b\") (save-new c \"b\" \"a\")))") (done ∷ done ∷ done ∷ done ∷ done ∷ done ∷ done ∷ done ∷ []) ≡ OnPath Load (Declared 0) (text_id 1) ∷ OnPath Mkdir (Declared 0) (text_id 1) ∷ OnPath ReadDir (Declared 0) (text_id 1) ∷ OnPath Unlink (Declared 0) (text_id 1) ∷ OnPath Rmdir (Declared 0) (text_id 1) ∷ OnPath Kind (Declared 0) (text_id 1) ∷ Save false (Declared 0) (text_id 1) (text_id 2) ∷ Save true (Declared 0) (text_id 2) (text_id 1) ∷ ends Unit ∷ []
unfolding calls
of_paths = refl

path_of_unit : calls (codes "(eio 1 (dir c) (main (load c (unit))))") [] ≡ fails 0 (Invalid NotText) ∷ []
unfolding calls
path_of_unit = refl

open_number : calls (codes "(eio 1 (dir c) (main (open-dir c 1 d (yield))))") [] ≡ fails 0 (Invalid NotText) ∷ []
unfolding calls
open_number = refl

-- the first text is asked for before the second is evaluated
texts_from_left : calls (codes "(eio 1 (dir c) (main (save c 1 (plus \"a\" 1))))") [] ≡ fails 0 (Invalid NotText) ∷ []
unfolding calls
texts_from_left = refl

second_text : calls (codes "(eio 1 (dir c) (main (save c \"a\" (plus 9223372036854775807 1))))") [] ≡ fails 0 (Invalid Overflow) ∷ []
unfolding calls
second_text = refl
