-- What a fiber's items and calls stand for, under the nodes of a script.
use Rattle.std.specs.Prelude.{◌≡◌, ℕ, List, ◌∷◌, map, reverse, Option, Some, None, Bool, true, false, slice_get}
use Rattle.eio_value.specs.declared.raised.Outcome.{Outcome}
use Rattle.eio_value.specs.declared.raised.Outcome.TheVariants as outcome
use Rattle.eio_value.specs.declared.raised.Raised.{Raised}
use Rattle.eio_value.specs.declared.value.Value.{Value}
use Rattle.eio_value.specs.declared.value.Value.TheVariants as value
use Rattle.spec_script.specs.Syntax.{Blocks, NoBlocks}
use Rattle.script_forms.specs.Calls.{group_of, forking_of, object_call_of, object_call_with_of, reader_call_of, path_call_of}
use Rattle.script_code.specs.Standing.{statements_at, block_at, blocks_at}
use Rattle.script_forms.specs.declared.node.Node.{Node}
use Rattle.script_forms.specs.declared.node.Node.TheVariants as node
use Rattle.spec_fiber.specs.Asks as model
use Rattle.spec_fiber.specs.Replies.{passed}
use Rattle.spec_fiber.specs.Silent.{blocks_of}
use Rattle.spec_fiber.specs.Work as work
use Rattle.spec_fiber.specs.Work.{Work, Carry, cut}
use Rattle.fiber_step.specs.declared.ask.Ask.{Ask}
use Rattle.fiber_step.specs.declared.ask.Ask.TheVariants as ask
use Rattle.fiber_step.specs.declared.ask.DirectoryRef.{DirectoryRef}
use Rattle.fiber_step.specs.declared.ask.DirectoryRef.TheVariants as place
use Rattle.fiber_step.specs.declared.mark.End.{End}
use Rattle.fiber_step.specs.declared.item.Item.{Item}
use Rattle.fiber_step.specs.declared.item.Item.TheVariants as item
use Rattle.fiber_step.specs.declared.mark.Mark.{Mark}
use Rattle.fiber_step.specs.declared.mark.Mark.TheVariants as mark

-- ## Work

abbrev pub mark_work : List Node → Mark → Work
mark_work nodes (mark.Run number) = work.Run (statements_at nodes number)
mark_work nodes (mark.Cut keep) = work.Cut keep
mark_work nodes (mark.Try handler keep) = work.Try (block_at nodes handler) keep
mark_work nodes (mark.Bind slot) = work.Bind slot
mark_work nodes (mark.Loop body keep) = work.Loop (block_at nodes body) keep
mark_work nodes (mark.Repeat turn left body keep) = work.Repeat turn left (block_at nodes body) keep
mark_work nodes (mark.Leave context late keep) = work.Leave context late keep
mark_work nodes (mark.Close switch keep) = work.Close switch keep
mark_work nodes (mark.Closing switch kept) = work.Closing switch kept
mark_work nodes (mark.Join group keep) = work.Join group keep
mark_work nodes (mark.ShutReader reader keep) = work.ShutReader reader keep
mark_work nodes (mark.ShutWriter writer keep) = work.ShutWriter writer keep
mark_work nodes (mark.Locking mutex body) = work.Locking mutex (block_at nodes body)
mark_work nodes (mark.Unlock mutex keep) = work.Unlock mutex keep
mark_work nodes (mark.Using pool body) = work.Using pool (block_at nodes body)
mark_work nodes (mark.Put pool resource keep) = work.Put pool resource keep
mark_work nodes (mark.Resolve promise) = work.Resolve promise

abbrev pub work_of : List Node → Item → Work
work_of nodes (item.Mark it) = mark_work nodes it
work_of nodes (item.Restore variables) = work.Restore variables

-- items, of which the next one is the last
abbrev pub works_of : List Node → List Item → List Work
works_of nodes items = map (work_of nodes) (reverse items)

-- ## Calls

abbrev pub place_of : DirectoryRef → model.DirectoryRef
place_of (place.Declared number) = model.Declared number
place_of (place.Opened number) = model.Opened number

-- the blocks of a form
abbrev pub branches_in : List Node → Option Node → Blocks
branches_in nodes (Some (node.Branches group numbers after)) = blocks_at nodes numbers
branches_in nodes other = NoBlocks

abbrev pub branches_at : List Node → (form : ℕ) → Blocks
branches_at nodes form = branches_in nodes (slice_get nodes form)

abbrev pub ask_of : List Node → Ask → model.Ask
ask_of nodes (ask.Trace operands) = model.Trace operands
ask_of nodes ask.Yield = model.Yield
ask_of nodes ask.Check = model.Check
ask_of nodes ask.AwaitCancel = model.AwaitCancel
ask_of nodes ask.Turn = model.Turn
ask_of nodes (ask.Sub body) = model.Sub (block_at nodes body)
ask_of nodes (ask.Protect body) = model.Protect (block_at nodes body)
ask_of nodes (ask.Cancel context text) = model.Cancel context text
ask_of nodes (ask.Switch body) = model.Switch (block_at nodes body)
ask_of nodes (ask.Fork forking switch body) = model.Fork (forking_of forking) switch (block_at nodes body)
ask_of nodes (ask.Fail switch text) = model.Fail switch text
ask_of nodes (ask.OnRelease switch handler) = model.OnRelease switch (block_at nodes handler)
ask_of nodes (ask.Branches group form) = model.Branches (group_of group) (blocks_of (branches_at nodes form))
ask_of nodes (ask.OnObject call object) = model.OnObject (object_call_of call) object
ask_of nodes (ask.OnObjectWith call object operand) = model.OnObjectWith (object_call_with_of call) object operand
ask_of nodes (ask.Use pool) = model.Use pool
ask_of nodes (ask.Submit executor weight given job) = model.Submit executor weight given (block_at nodes job)
ask_of nodes (ask.Sleep time) = model.Sleep time
ask_of nodes ask.Now = model.Now
ask_of nodes (ask.OpenReader flow limit body) = model.OpenReader flow limit (block_at nodes body)
ask_of nodes (ask.OnReader call reader) = model.OnReader (reader_call_of call) reader
ask_of nodes (ask.TakeBytes reader count) = model.TakeBytes reader count
ask_of nodes (ask.Copy from to) = model.Copy from to
ask_of nodes (ask.OpenWriter flow body) = model.OpenWriter flow (block_at nodes body)
ask_of nodes (ask.PutText writer text) = model.PutText writer text
ask_of nodes (ask.OpenDirectory dir path body) = model.OpenDirectory (place_of dir) path (block_at nodes body)
ask_of nodes (ask.OnPath call dir path) = model.OnPath (path_call_of call) (place_of dir) path
ask_of nodes (ask.Save only_new dir path content) = model.Save only_new (place_of dir) path content
ask_of nodes (ask.Leave context late it) = model.Leave context late it
ask_of nodes (ask.Close switch failed kept) = model.Close switch failed kept
ask_of nodes (ask.Join group own) = model.Join group own
ask_of nodes (ask.ShutReader reader it) = model.ShutReader reader it
ask_of nodes (ask.ShutWriter writer it) = model.ShutWriter writer it
ask_of nodes (ask.UnlockEnd mutex it) = model.UnlockEnd mutex it
ask_of nodes (ask.PoisonEnd mutex raised) = model.PoisonEnd mutex raised
ask_of nodes (ask.PutEnd pool resource it) = model.PutEnd pool resource it
ask_of nodes (ask.ResolveEnd promise it) = model.ResolveEnd promise it
ask_of nodes (ask.End it) = model.End it

-- ## Ends

-- the parts of what comes to an end: its exception, if it is one, and its value, which is unit where there is none
abbrev pub failed_in : Outcome → Option Raised
failed_in (outcome.Ok it) = None
failed_in (outcome.Err raised) = Some raised

abbrev pub value_in : Outcome → Value
value_in (outcome.Ok it) = it
value_in (outcome.Err raised) = value.Unit

-- the end of a block that ran with a mutex
abbrev pub unlocked : (mutex : ℕ) → Outcome → model.Ask
unlocked mutex (outcome.Ok it) = model.UnlockEnd mutex it
unlocked mutex (outcome.Err raised) = model.PoisonEnd mutex raised

abbrev pub kept_by : Option ℕ → Carry → Carry
kept_by None c = c
kept_by (Some keep) c = cut keep c

-- whether a mark is the end of a block that makes a call with what came to it
abbrev pub is_end : Mark → Bool
is_end (mark.Leave context late keep) = true
is_end (mark.Close switch keep) = true
is_end (mark.Closing switch kept) = true
is_end (mark.Join group keep) = true
is_end (mark.ShutReader reader keep) = true
is_end (mark.ShutWriter writer keep) = true
is_end (mark.Unlock mutex keep) = true
is_end (mark.Put pool resource keep) = true
is_end (mark.Resolve promise) = true
is_end it = false

-- the call of a mark where this comes to it
abbrev pub Ends : Mark → Outcome → Option End → Type 0
Ends it came None = is_end it ≡ false
Ends it came (Some end) = (nodes : List Node) (behind : List Work) (c : Carry) →
    passed came (mark_work nodes it ∷ behind) c ≡ record { call = ask_of nodes end.call; behind = behind; carry = kept_by end.keep c }
