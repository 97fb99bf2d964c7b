-- Where a fiber stands before a block whose texts stand.
use Rattle.std.proofs.Common.{ℕ, ◌-◌, true, false, List, [], ◌∷◌, ◌++◌, length, Option, Some, None, pos}
use Rattle.std.specs.List.{AllByRecursion as Each, last_or}
use Rattle.std.specs.Option.{unwrap_or}
use Rattle.eio_value.specs.declared.raised.Raised.{Raised}
use Rattle.eio_value.specs.declared.value.Value.{Value}
use Rattle.eio_value.specs.declared.value.Value.TheVariants as value
use Rattle.spec_script.specs.Scripts.{Script}
use Rattle.spec_script.specs.Syntax.{Block, Begins, Done}
use Rattle.spec_fiber.specs.Asks as ask
use Rattle.spec_fiber.specs.Asks.{Ask}
use Rattle.spec_fiber.specs.Replies.{begun, begun_promising, own_branch, other_branches, into, entered, handled}
use Rattle.spec_fiber.specs.Silent.{items_of}
use Rattle.spec_fiber.specs.Work as work
use Rattle.spec_fiber.specs.Work.{Work}
use Rattle.law_fiber.specs.Texts.Texts.{IsWrittenBlock, AreWritten, IsHeldValue, AreHeldValues, IsTextedWork, IsTextedItem, IsTextedCall, written_in, known_in}
use Rattle.law_domain.specs.Texts.Domains.{IsTextedPosition}
use Rattle.law_fiber.proofs.Texts.Lists.{each_push, each_take}

module _ (script : Script) where
  pub items_are : (body : Block) → IsWrittenBlock (written_in script) body → AreWritten (written_in script) (items_of body)
  unfolding IsWrittenBlock
  items_are (Begins number items) are = are

  pub begun_texted : (block : Block) (variables : List Value) → IsWrittenBlock (written_in script) block → AreHeldValues (known_in script) variables
      → IsTextedPosition script (begun block variables)
  begun_texted block variables is are = record { behind = (items_are block is, tt); values = are }

  pub promising_texted : (promise : ℕ) (block : Block) (variables : List Value) → IsWrittenBlock (written_in script) block
      → AreHeldValues (known_in script) variables → IsTextedPosition script (begun_promising promise block variables)
  promising_texted promise block variables is are = record { behind = (items_are block is, (tt, tt)); values = are }

  -- the block that the caller runs of its branches
  last_written : (found : Option Block) (blocks : List Block) → IsWrittenBlock (written_in script) (unwrap_or found (Begins 0 Done))
      → Each (IsWrittenBlock (written_in script)) blocks → IsWrittenBlock (written_in script) (unwrap_or (last_or found blocks) (Begins 0 Done))
  last_written found [] is are = is
  last_written found (block ∷ blocks) is are = last_written (Some block) blocks are.0 are.1

  nothing_written : IsWrittenBlock (written_in script) (Begins 0 Done)
  unfolding IsWrittenBlock AreWritten
  nothing_written = tt

  pub own_written : (blocks : List Block) → Each (IsWrittenBlock (written_in script)) blocks → IsWrittenBlock (written_in script) (own_branch blocks)
  own_written blocks are = last_written None blocks nothing_written are

  pub others_written : (blocks : List Block) → Each (IsWrittenBlock (written_in script)) blocks
      → Each (IsWrittenBlock (written_in script)) (other_branches blocks)
  others_written blocks are = each_take (IsWrittenBlock (written_in script)) (length blocks - 1) blocks are

  module _ (rest : List Work) (variables : List Value) (work_is : IsTextedWork (written_in script) (known_in script) rest)
      (are : AreHeldValues (known_in script) variables) where
    pub into_texted : (block : Block) (mark : Work) → IsWrittenBlock (written_in script) block → IsTextedItem (written_in script) (known_in script) mark
        → IsTextedPosition script (into block mark rest variables)
    into_texted block mark is marked = record { behind = (items_are block is, (marked, work_is)); values = are }

    named_texted : (it : Value) (block : Block) (mark : Work) → IsHeldValue (known_in script) it → IsWrittenBlock (written_in script) block
        → IsTextedItem (written_in script) (known_in script) mark → IsTextedPosition script (into block mark rest (variables ++ it ∷ []))
    named_texted it block mark one is marked =
        record { behind = (items_are block is, (marked, work_is)); values = each_push (IsHeldValue (known_in script)) variables it are one }

    stays_there : IsTextedPosition script (record { work = rest; variables = variables })
    stays_there = record { behind = work_is; values = are }

    pub entered_texted : (call : Ask) (number : ℕ) → IsTextedCall (written_in script) (known_in script) call
        → IsTextedPosition script (entered call number rest variables)
    entered_texted (ask.Sub block) number is = named_texted (value.Ctx number) block (work.Leave number false (length variables)) tt is tt
    entered_texted (ask.Protect block) number is = into_texted block (work.Leave number false (length variables)) is tt
    entered_texted (ask.Switch block) number is = named_texted (value.Switch number) block (work.Close number (length variables)) tt is tt
    entered_texted (ask.OnRelease switch block) number is = into_texted block (work.Leave number true (length variables)) is tt
    entered_texted (ask.Branches group blocks) number is =
        into_texted (own_branch blocks) (work.Join number (length variables)) (own_written blocks is) tt
    entered_texted (ask.OpenReader flow limit block) number is =
        named_texted (value.Int (pos number)) block (work.ShutReader number (length variables)) tt is tt
    entered_texted (ask.OpenWriter flow block) number is =
        named_texted (value.Int (pos number)) block (work.ShutWriter number (length variables)) tt is tt
    entered_texted (ask.OpenDirectory place path block) number is =
        named_texted (value.Int (pos number)) block (work.Cut (length variables)) tt is.1 tt
    entered_texted call number is = stays_there

    -- before a handler, behind which the fiber's own variables are back
    pub handled_texted : (n : ℕ) (failed : Option Raised) (kept : Value) (context : ℕ) (handler : Block) (registered : List Value)
        → IsHeldValue (known_in script) kept → IsWrittenBlock (written_in script) handler → AreHeldValues (known_in script) registered
        → IsTextedPosition script (handled (ask.Close n failed kept) context handler registered rest variables)
    handled_texted n failed kept context handler registered held is own =
        record { behind = (items_are handler is, (tt, (are, (held, work_is)))); values = own }
