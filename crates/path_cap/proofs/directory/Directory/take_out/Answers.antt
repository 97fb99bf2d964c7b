use Rattle.std.proofs.Common.{List, ap, ◌∙◌, rules, tests}
use Rattle.std.specs.Prelude.{not, bytes_eq}
use Rattle.spec_parts.specs.Directories.{Entry, Directory, without_entry}
use Rattle.path_cap.proofs.Taking.{retained}
use Rattle.path_cap.proofs.directory.Directory.take_out.Goals as goal

pub returns : goal.returns
returns c =
    let kept = retained _ (λ entry. not (bytes_eq entry.name c.args.name.now)) _ (λ x b q k. search (rules, tests)) c.self.inside.entries.items c.retain.new.self.items c.retain.ensures.filtered in
    let with = λ (entries : List Entry) (old : Directory). let new : Directory = record { entries = entries; removed = old.removed } in new in
    ap (λ (entries : List Entry). with entries (record { entries = c.self.inside.entries.items; removed = c.self.inside.removed })) kept
    ∙ ap (λ (old : Directory). with (without_entry c.args.name.now old.entries) old) c.self.view_is
