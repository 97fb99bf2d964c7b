use Rattle.std.proofs.Common.{◌≡◌, ◌<◌, ◌+◌, [], length, drop, ap, sym, ◌∙◌, arith}
use Rattle.std.proofs.lemmas.Result.{on_ok_weaker}
use Rattle.std.proofs.lemmas.Grind.{common_steps}
use Rattle.eio_value.specs.Directory.{entry_count}
use Rattle.eio_value.specs.EntriesInside.{directory_of}
use Rattle.spec_parts.specs.Directories.{Tree, placed}
use Rattle.path_cap.proofs.Placing.{placed_none, placed_more, count_more, placed_file, placed_link, placed_sub, count_sub, length-put_directory}
use Rattle.path_cap.proofs.tree.DirTree.+place.Goals as goal

pub place-next_number-number-requires : goal.place-next_number-number-requires
place-next_number-number-requires t c = omega (arith, count_sub c.args.entry.now c.in-Sub.name c.in-Sub.inner c.in-Sub.is, c.requires)

pub place-place_all-requires : goal.place-place_all-requires
place-place_all-requires t c =
    let count = count_sub c.args.entry.now c.in-Sub.name c.in-Sub.inner c.in-Sub.is in
    let inner = ap entry_count c.as_slice.ensures in
    let made = ap length c.in_ok-put_directory-in-Sub.ensures.ok ∙ length-put_directory _ _ _ in
    (omega (arith, count, inner, c.decreases), omega (arith, count, inner, made, c.requires))

pub place-returns-in_ok-copied-in-File-2-clause-ok : goal.place-returns-in_ok-copied-in-File-2-clause-ok
place-returns-in_ok-copied-in-File-2-clause-ok t c =
    on_ok_weaker c.put.result
    (λ is. is ∙ placed_file c.args.entry.now c.in-File.name c.in-File.content c.in_ok-copied-in-File-2.field-0 c.in_ok-copied-in-File.field-0 c.args.at c.args.self.now c.in-File.is c.in_ok-copied-in-File-2.ensures c.in_ok-copied-in-File.ensures)
    c.put.ensures.ok

pub place-returns-in_ok-copied-in-Link-2-clause-ok : goal.place-returns-in_ok-copied-in-Link-2-clause-ok
place-returns-in_ok-copied-in-Link-2-clause-ok t c =
    on_ok_weaker c.put-in-Link.result
    (λ is. is ∙ placed_link c.args.entry.now c.in-Link.name c.in-Link.target c.in_ok-copied-in-Link-2.field-0 c.in_ok-copied-in-Link.field-0 c.args.at c.args.self.now c.in-Link.is c.in_ok-copied-in-Link-2.ensures c.in_ok-copied-in-Link.ensures)
    c.put-in-Link.ensures.ok

pub place-returns-in_ok-put_directory-in-Sub-clause-ok : goal.place-returns-in_ok-put_directory-in-Sub-clause-ok
place-returns-in_ok-put_directory-in-Sub-clause-ok t c =
    on_ok_weaker c.place_all.result
    (λ is. is ∙ placed_sub c.args.entry.now c.in-Sub.name c.in_ok-copied-in-Sub.field-0 c.in-Sub.inner (directory_of c.as_slice.result.now) c.args.at c.next_number-number.result c.args.self.now c.put_directory.new.self c.in-Sub.is c.in_ok-copied-in-Sub.ensures c.as_slice.ensures c.next_number-number.ensures c.in_ok-put_directory-in-Sub.ensures.ok)
    c.place_all.ensures.ok

pub place-returns-in_ok-put_directory-in-Sub-clause-len : goal.place-returns-in_ok-put_directory-in-Sub-clause-len
place-returns-in_ok-put_directory-in-Sub-clause-len t c =
    let count = count_sub c.args.entry.now c.in-Sub.name c.in-Sub.inner c.in-Sub.is in
    let inner = ap entry_count c.as_slice.ensures in
    let made = ap length c.in_ok-put_directory-in-Sub.ensures.ok ∙ length-put_directory _ _ _ in
    on_ok_weaker c.place_all.result (λ is. omega (arith, is, count, inner, made)) c.place_all.ensures.len

pub place_all-place-requires : goal.place_all-place-requires
place_all-place-requires t c =
    let within : c.loop-entry.entry-index < length c.args.entries.now = omega arith in
    let count = count_more c.args.entries.now c.loop-entry.entry-index c.entry-item.result within c.entry-item.is in
    (omega (arith, count, c.decreases, c.loop-entry.invariant.fits), omega (arith, count, c.loop-entry.invariant.len, c.requires))

pub place_all-loop-entry-preserved : goal.place_all-loop-entry-preserved
place_all-loop-entry-preserved t c =
    let entries = c.args.entries.now in
    let i = c.loop-entry.entry-index in
    let within : i < length entries = omega arith in
    let count = count_more entries i c.entry-item.result within c.entry-item.is in
    record {
      same =
          ap (λ (tree : Tree). placed (directory_of (drop (i + 1) entries)) c.args.at tree) c.in_ok-place.ensures.ok
          ∙ (sym (placed_more entries i c.entry-item.result c.args.at c.loop-entry.self within c.entry-item.is) ∙ c.loop-entry.invariant.same);
      len = omega (arith, count, c.loop-entry.invariant.len, c.in_ok-place.ensures.len);
      fits = omega (arith, count, c.loop-entry.invariant.fits);
    }

pub place_all-returns-clause-ok : goal.place_all-returns-clause-ok
place_all-returns-clause-ok t c =
    let none : drop c.loop-entry.entry-index c.args.entries.now ≡ [] = grind (arith, common_steps) in
    sym (placed_none c.args.entries.now c.loop-entry.entry-index c.args.at c.loop-entry.self none) ∙ c.loop-entry.invariant.same
