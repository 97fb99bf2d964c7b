-- The ends of fibers, and the fibers that jobs and messages make or resume.
use Rattle.std.specs.Prelude.{ℕ, true, false, length, take, Option, Some, None}
use Rattle.eio_value.specs.declared.message.Job.{Job}
use Rattle.eio_value.specs.declared.message.Message.{Message}
use Rattle.eio_value.specs.declared.message.Message.TheVariants as message
use Rattle.eio_value.specs.declared.raised.Outcome.{Outcome}
use Rattle.eio_value.specs.declared.raised.Outcome.TheVariants as outcome
use Rattle.eio_value.specs.declared.value.Value.TheVariants as value
use Rattle.spec_parts.specs.Contexts.{Made, root, end}
use Rattle.spec_script.specs.Scripts.{Script}
use Rattle.spec_fiber.specs.Numbered.{block_numbered}
use Rattle.spec_fiber.specs.Replies.{begun}
use Rattle.trace_lines.specs.declared.line.Did.TheVariants as did
use Rattle.trace_lines.specs.declared.line.Said2.TheVariants as said
use Rattle.spec_machine.specs.Domain.{Role, OfBody, OfJob, OfSwitch, OfGroup, OfWriter, GoesOn, DomainState, fiber_at, made, ended, to_back}
use Rattle.spec_machine.specs.Steps.{Step, told, reply_of, halts}
use Rattle.spec_machine.specs.Asking.{is_full_for_one}
use Rattle.spec_machine.specs.ContextMoves.{context_of}
use Rattle.spec_machine.specs.SwitchMoves.{detached}
use Rattle.spec_machine.specs.GroupMoves.{branch_ended}

-- ## Ends

-- the context that a fiber was made with has ended too
abbrev pub ends_context : (context : ℕ) → DomainState → DomainState
ends_context c l = record l { contexts = end c l.contexts }

-- what the end of a fiber does, besides ending it. The end of a job is a call on its executor, and that of a copier no call
abbrev pub after_end : Role → Outcome → (fiber : ℕ) → DomainState → DomainState
after_end OfBody result g l = ends_context (context_of l g) l
after_end (OfJob executor number) result g l = ends_context (context_of l g) l
after_end (OfSwitch n daemon) result g l = detached n daemon result g l
after_end (OfGroup n) result g l = branch_ended n result g l
after_end (OfWriter writer) result g l = ends_context (context_of l g) l

abbrev pub ends : Outcome → (fiber : ℕ) → DomainState → DomainState
ends result g l = after_end (fiber_at l.fibers g).role result g (ended result g l)

abbrev pub end_told : Outcome → (fiber : ℕ) → DomainState → Step
end_told result g l = told g did.End (reply_of result) (ends result g l)

-- ## Jobs

-- a job is a new fiber in a root context of its own, with the values that it was given, last in the ready list
abbrev pub job_made : Script → Job → (number : ℕ) → (context : ℕ) → DomainState → DomainState
job_made script job number c l =
    let new = length l.fibers in
    let t : DomainState = made c (OfJob job.executor number) (begun (block_numbered script job.node) (take job.count job.given)) l in
    to_back (GoesOn (outcome.Ok value.Unit)) new t

-- where there is no room for its context, nothing is made; a job isn't started then
abbrev pub job_begun : Script → Job → (number : ℕ) → DomainState → DomainState
job_begun script job number l = (let it : Made = root l.contexts in elim it.number [ None ↦ l | Some c ↦ job_made script job number c (record l { contexts = it.contexts }) ])

-- ## Messages

-- a fiber is resumed, and stands last in the ready list; or a job begins
abbrev pub received : Script → Message → DomainState → DomainState
received script (message.Resume who result stamp) l = to_back (GoesOn result) who.fiber l
received script (message.Start job number stamp) l = job_begun script job number l

abbrev pub received_if : Script → Option Message → DomainState → DomainState
received_if script None l = l
received_if script (Some it) l = received script it l

-- a message is taken. For a job for which there is no room the limit is met
abbrev pub takes : Script → Message → DomainState → Step
takes script (message.Resume who result stamp) l = told who.fiber did.Got (reply_of result) (received script (message.Resume who result stamp) l)
takes script (message.Start job number stamp) l = elim (is_full_for_one l) [
  | true ↦ halts (length l.fibers) l
  | false ↦ told (length l.fibers) (did.GotJob job.executor number) (said.Done value.Unit) (received script (message.Start job number stamp) l)
]
