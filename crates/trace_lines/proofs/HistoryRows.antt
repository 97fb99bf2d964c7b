-- The lines of a history, form by form, computed by the prover.
use Rattle.std.proofs.Common.{◌≡◌, ℕ, List, [], ◌∷◌, true, refl}
use Rattle.std.specs.Prelude.{codes, pos, negsuc}
use Rattle.std.specs.Fmt.{digits}
use Rattle.eio_value.specs.declared.mock_call.Said.TheVariants.{Nothing}
use Rattle.eio_value.specs.declared.plain.Member.{Member}
use Rattle.eio_value.specs.declared.plain.Misuse.TheVariants.{Overflow, Resolved, NotLocked}
use Rattle.eio_value.specs.declared.plain.Plain.{Plain}
use Rattle.eio_value.specs.declared.plain.Plain.TheVariants.{Failure, Invalid, EndOfFile, Poisoned}
use Rattle.eio_value.specs.declared.raised.Outcome.TheVariants.{Ok, Err}
use Rattle.eio_value.specs.declared.raised.Raised.TheVariants.{One, Cancelled, Many}
use Rattle.eio_value.specs.declared.value.Value.TheVariants.{Unit, Int, Text, Ctx, Switch}
use Rattle.trace_lines.specs.declared.line.Did.{Did}
use Rattle.trace_lines.specs.declared.line.Did.TheVariants as did
use Rattle.trace_lines.specs.declared.line.Said2.{Said2}
use Rattle.trace_lines.specs.declared.line.Said2.TheVariants as said
use Rattle.trace_lines.specs.HistoryTexts.{line_text}
use Rattle.trace_lines.proofs.RowTables.{texts, names, odd, boom, got}

-- the line with the stamp 12, of fiber 3 of domain 1
abbrev written : Did → Said2 → List ℕ
written did reply = line_text texts names (record { stamp = 12; domain = 1; fiber = 3; did = did; reply = reply })

abbrev unit : Said2
unit = said.Done Unit

abbrev member : (serial : ℕ) → Plain → Member
member serial what = record { serial = serial; what = what }

-- a single exception
abbrev raised : Plain → Said2
raised what = said.Raised (One (member 0 what))

-- Calls of a fiber

trace :
    written (did.Trace (got ∷ Int (negsuc 4) ∷ Unit ∷ Text odd ∷ Ctx 2 ∷ Switch 30 ∷ [])) unit
    ≡ codes "12 1.3 trace \"got -5()a\\r\\n\\t\\\"\\\\#2%30\" = ()\n"
unfolding digits
trace = refl

trace_nothing : written (did.Trace []) unit ≡ codes "12 1.3 trace \"\" = ()\n"
unfolding digits
trace_nothing = refl

turn : written did.Turn unit ≡ codes "12 1.3 turn = ()\n"
unfolding digits
turn = refl

turn_cancelled :
    written did.Turn (said.Raised (Cancelled (member 4 (Failure boom))))
    ≡ codes "12 1.3 turn = !Cancelled: Failure \"boom\"\n"
unfolding digits
turn_cancelled = refl

yield : written did.Yield said.Back ≡ codes "12 1.3 yield = back\n"
unfolding digits
yield = refl

check : written did.Check unit ≡ codes "12 1.3 check = ()\n"
unfolding digits
check = refl

await_cancel : written did.AwaitCancel said.Waits ≡ codes "12 1.3 await-cancel = waits\n"
unfolding digits
await_cancel = refl

await_cancel_off : written did.AwaitCancel said.Off ≡ codes "12 1.3 await-cancel = off\n"
unfolding digits
await_cancel_off = refl

-- Contexts and switches

sub : written did.Sub (said.Done (Ctx 7)) ≡ codes "12 1.3 sub = #7\n"
unfolding digits
sub = refl

protect : written did.Protect (said.Done (Ctx 8)) ≡ codes "12 1.3 protect = #8\n"
unfolding digits
protect = refl

leave : written (did.Leave 7) unit ≡ codes "12 1.3 leave #7 = ()\n"
unfolding digits
leave = refl

cancel : written (did.Cancel 7 odd) unit ≡ codes "12 1.3 cancel #7 \"a\\r\\n\\t\\\"\\\\\" = ()\n"
unfolding digits
cancel = refl

switch : written did.Switch (said.Done (Switch 2)) ≡ codes "12 1.3 switch = %2\n"
unfolding digits
switch = refl

fork : written (did.Fork 2) (said.Fiber 1 4) ≡ codes "12 1.3 fork %2 = 1.4\n"
unfolding digits
fork = refl

fork_finished : written (did.Fork 2) said.Nothing ≡ codes "12 1.3 fork %2 = none\n"
unfolding digits
fork_finished = refl

fork_daemon : written (did.ForkDaemon 2) (said.Fiber 1 5) ≡ codes "12 1.3 fork-daemon %2 = 1.5\n"
unfolding digits
fork_daemon = refl

fork_promise : written (did.ForkPromise 2 1) (said.Fiber 1 6) ≡ codes "12 1.3 fork-promise %2 p = 1.6\n"
unfolding digits
fork_promise = refl

fail : written (did.Fail 2 boom) unit ≡ codes "12 1.3 fail %2 \"boom\" = ()\n"
unfolding digits
fail = refl

on_release : written (did.OnRelease 2) said.Handler ≡ codes "12 1.3 on-release %2 = handler\n"
unfolding digits
on_release = refl

close : written (did.Close 2) said.Waits ≡ codes "12 1.3 close %2 = waits\n"
unfolding digits
close = refl

-- Groups

both : written (did.Both 9) (said.Fiber 1 7) ≡ codes "12 1.3 both #9 = 1.7\n"
unfolding digits
both = refl

all : written (did.All 9) (said.Fiber 1 10) ≡ codes "12 1.3 all #9 = 1.10\n"
unfolding digits
all = refl

first : written (did.First 9) (raised (Invalid Overflow)) ≡ codes "12 1.3 first #9 = !Invalid_argument \"Overflow\"\n"
unfolding digits
first = refl

any : written (did.Any 9) said.Nothing ≡ codes "12 1.3 any #9 = none\n"
unfolding digits
any = refl

join : written (did.Join 9) (said.Done (Text odd)) ≡ codes "12 1.3 join #9 = \"a\\r\\n\\t\\\"\\\\\"\n"
unfolding digits
join = refl

-- Shared objects

add : written (did.Add 0 (Text boom)) unit ≡ codes "12 1.3 add q \"boom\" = ()\n"
unfolding digits
add = refl

take : written (did.Take 0) (said.Done (Text boom)) ≡ codes "12 1.3 take q = \"boom\"\n"
unfolding digits
take = refl

take_nonblocking : written (did.TakeNonblocking 0) said.Nothing ≡ codes "12 1.3 take-nonblocking q = none\n"
unfolding digits
take_nonblocking = refl

length_of : written (did.Length 0) (said.Done (Int (pos 3))) ≡ codes "12 1.3 length q = 3\n"
unfolding digits
length_of = refl

resolve : written (did.Resolve 1 (Ok (Int (pos 7)))) unit ≡ codes "12 1.3 resolve p 7 = ()\n"
unfolding digits
resolve = refl

resolve_text :
    written (did.Resolve 1 (Ok (Text odd))) (raised (Invalid Resolved))
    ≡ codes "12 1.3 resolve p \"a\\r\\n\\t\\\"\\\\\" = !Invalid_argument \"Promise already resolved\"\n"
unfolding digits
resolve_text = refl

resolve_raised :
    written (did.Resolve 1 (Err (One (member 2 (Failure boom))))) unit
    ≡ codes "12 1.3 resolve p !Failure \"boom\" = ()\n"
unfolding digits
resolve_raised = refl

try_resolve : written (did.TryResolve 1 (Ctx 7)) (said.Done (Int (pos 1))) ≡ codes "12 1.3 try-resolve p #7 = 1\n"
unfolding digits
try_resolve = refl

await : written (did.Await 1) said.Waits ≡ codes "12 1.3 await p = waits\n"
unfolding digits
await = refl

acquire : written (did.Acquire 2) unit ≡ codes "12 1.3 acquire s = ()\n"
unfolding digits
acquire = refl

release : written (did.Release 2) unit ≡ codes "12 1.3 release s = ()\n"
unfolding digits
release = refl

lock : written (did.Lock 3) (raised Poisoned) ≡ codes "12 1.3 lock m = !Poisoned\n"
unfolding digits
lock = refl

try_lock : written (did.TryLock 3) (said.Done (Int (pos 0))) ≡ codes "12 1.3 try-lock m = 0\n"
unfolding digits
try_lock = refl

unlock :
    written (did.Unlock 3) (raised (Invalid NotLocked))
    ≡ codes "12 1.3 unlock m = !Invalid_argument \"Mutex not locked\"\n"
unfolding digits
unlock = refl

poison : written (did.Poison 3) unit ≡ codes "12 1.3 poison m = ()\n"
unfolding digits
poison = refl

use_pool : written (did.Use 4) (said.Done (Int (pos 2))) ≡ codes "12 1.3 use r = 2\n"
unfolding digits
use_pool = refl

put : written (did.Put 4 2) unit ≡ codes "12 1.3 put r 2 = ()\n"
unfolding digits
put = refl

submit : written (did.Submit 5 60) said.Waits ≡ codes "12 1.3 submit e 60 = waits\n"
unfolding digits
submit = refl

unnamed : written (did.Take 8) said.Waits ≡ codes "12 1.3 take  = waits\n"
unfolding digits
unnamed = refl

-- Obligations

done : written (did.Done 5 11) said.Nothing ≡ codes "12 1.3 done e 11 = none\n"
unfolding digits
done = refl

strike_won : written (did.Strike 2 14) said.Won ≡ codes "12 1.3 strike 2.14 = won\n"
unfolding digits
strike_won = refl

strike_lost : written (did.Strike 2 14) said.Lost ≡ codes "12 1.3 strike 2.14 = lost\n"
unfolding digits
strike_lost = refl

wake : written (did.Wake 1) (said.Fiber 2 14) ≡ codes "12 1.3 wake p = 2.14\n"
unfolding digits
wake = refl

start : written (did.Start 5) (said.Started 2 11) ≡ codes "12 1.3 start e = 11 on 2\n"
unfolding digits
start = refl

-- Messages, ends and limits

got_value : written did.Got (said.Done (Int (pos 4))) ≡ codes "12 1.3 got = 4\n"
unfolding digits
got_value = refl

got_several :
    written did.Got (said.Raised (Many (record { members = member 1 (Failure boom) ∷ member 2 EndOfFile ∷ []; cut = true })))
    ≡ codes "12 1.3 got = !Multiple [Failure \"boom\"; End_of_file; ...]\n"
unfolding digits
got_several = refl

got_job : written (did.GotJob 5 11) unit ≡ codes "12 1.3 got e 11 = ()\n"
unfolding digits
got_job = refl

end : written did.End (raised (Failure odd)) ≡ codes "12 1.3 end = !Failure \"a\\r\\n\\t\\\"\\\\\"\n"
unfolding digits
end = refl

limit : written did.Limit unit ≡ codes "12 1.3 limit = ()\n"
unfolding digits
limit = refl

-- Moves that stand in no history

tick : written (did.Tick (pos 1500)) unit ≡ codes "12 1.3  = ()\n"
unfolding digits
tick = refl

mock : written (did.Mock Nothing) unit ≡ codes "12 1.3  = ()\n"
unfolding digits
mock = refl
