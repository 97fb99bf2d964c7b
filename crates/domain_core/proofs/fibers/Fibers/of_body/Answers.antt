use Rattle.std.proofs.Common.{◌∙◌, ap, List, [], ◌∷◌, ◌++◌, length, Option, Some}
use Rattle.script_forms.specs.Flat.{nodes_of}
use Rattle.script_code.specs.Standing.{block_at}
use Rattle.spec_script.specs.Syntax.{Block}
use Rattle.spec_fiber.specs.Replies.{begun}
use Rattle.spec_machine.specs.Domain.{OfBody}
use Rattle.domain_core.specs.Keeping.{KeptFiber, new_fiber}
use Rattle.domain_core.proofs.Starting.{body_block}
use Rattle.domain_core.proofs.fibers.Fibers.of_body.Goals as goal

pub returns : goal.returns
returns c = (
    let nodes = nodes_of c.args.script.now in
    let frames = c.in_ok-frames.frames in
    let block = body_block c.args.script.now c.args.body c.first_node.result c.first_node.ensures.block in
    record {
      frames = frames;
      begins =
          c.in_ok-frames.ensures.position nodes
          ∙ (ap (begun (block_at nodes c.first_node.result)) (c.new-2.ensures ∙ c.new.ensures.items) ∙ ap (λ (b : Block). begun b []) block);
      placed = c.in_ok-frames.ensures.items nodes c.first_node.ensures.statements;
      is =
          c.in_ok-add.ensures.ok
          ∙ ap (λ (xs : List (Option KeptFiber)). xs ++ Some (new_fiber (length xs) c.args.context OfBody frames) ∷ []) c.in_ok-fibers.ensures;
    })
