use Rattle.std.proofs.Common.{◌≡◌, ℕ, Bool, true, false, List, [], ◌∷◌, ap, sym, ◌∙◌, if◌then◌else◌}
use Rattle.std.proofs.lemmas.Result.{IfOk-weaker}
use Rattle.eio_value.specs.declared.plain.PathFault.TheVariants.{PermissionDenied}
use Rattle.spec_parts.specs.Walk.{Place, ToNothing, Refused, is_up, goes_down, walk}
use Rattle.spec_parts.specs.Directories.{directory_at, held_by}
use Rattle.path_cap.specs.Leading.{leads_of, to_file, to_link, by_link}
use Rattle.path_cap.proofs.Walking.{onward, holds, holds_nothing, walk_ends, walk_up, walk_nothing, walk_file, walk_link, walk_inner, nothing_last, nothing_before, file_last, file_before, link_goes, link_ends}
use Rattle.path_cap.proofs.walk.+walk.Goals as goal

pub walk-returns-then-not-go_up : goal.walk-returns-then-not-go_up
walk-returns-then-not-go_up t c =
    let name = c.in-Some.name in
    let rest = c.take_next.new.self in
    let up : is_up name ≡ true = cc in
    let back : c.go_up.result ≡ false = cc in
    let on = λ (place : Place). walk c.args.links c.args.tree.now c.args.follow place rest in
    onward c.args.links c.args.tree.now c.args.follow c.loop-name.place c.loop-name.left (name ∷ rest) _ _ c.loop-name.invariant c.in-Some.ensures
    (walk_up c.args.links c.args.tree.now c.args.follow c.loop-name.place name rest up ∙ (c.go_up.ensures on ∙ ap (λ (b : Bool). if b then on c.go_up.new.self else Refused PermissionDenied) back))

pub walk-loop-name-preserved-then-is_up : goal.walk-loop-name-preserved-then-is_up
walk-loop-name-preserved-then-is_up t c =
    let name = c.in-Some.name in
    let rest = c.take_next.new.self in
    let up : is_up name ≡ true = cc in
    let back : c.go_up.result ≡ true = cc in
    let on = λ (place : Place). walk c.args.links c.args.tree.now c.args.follow place rest in
    onward c.args.links c.args.tree.now c.args.follow c.loop-name.place c.loop-name.left (name ∷ rest) _ _ c.loop-name.invariant c.in-Some.ensures
    (walk_up c.args.links c.args.tree.now c.args.follow c.loop-name.place name rest up ∙ (c.go_up.ensures on ∙ ap (λ (b : Bool). if b then on c.go_up.new.self else Refused PermissionDenied) back))

pub walk-loop-name-preserved : goal.walk-loop-name-preserved
walk-loop-name-preserved t c =
    let tree = c.args.tree.now in
    let place = c.loop-name.place in
    let name = c.in-Some.name in
    let rest = c.take_next.new.self in
    let no_up : is_up name ≡ false = cc in
    let held = holds tree place.here c.here.result name c.as_slice-in-Some.result.now _ _ c.in-Some-Inner.ensures c.here.ensures c.as_slice-in-Some.ensures c.in-Some-Inner.field-0-is in
    let down : walk c.args.links tree c.args.follow (goes_down place name c.in-Some-Inner.directory) rest ≡ walk c.args.links tree c.args.follow c.go_down.new.self rest = ap (λ (p : Place). walk c.args.links tree c.args.follow p rest) (sym c.in_ok-go_down-in-Some-Inner.ensures) in
    onward c.args.links tree c.args.follow place c.loop-name.left (name ∷ rest) _ _ c.loop-name.invariant c.in-Some.ensures
    (walk_inner c.args.links tree c.args.follow place name c.in-Some-Inner.directory rest no_up held ∙ down)

pub walk-returns-in-Some-Link : goal.walk-returns-in-Some-Link
walk-returns-in-Some-Link t c =
    let tree = c.args.tree.now in
    let place = c.loop-name.place in
    let name = c.in-Some.name in
    let rest = c.take_next.new.self in
    let no_up : is_up name ≡ false = cc in
    let held = holds tree place.here c.here.result name c.as_slice-in-Some.result.now _ _ c.in-Some-Link.ensures c.here.ensures c.as_slice-in-Some.ensures c.in-Some-Link.field-0-is in
    let target = c.in-Some-Link.target in
    let goes = sym c.is_followed.ensures ∙ c.if-is_followed.true in
    let whole = onward c.args.links tree c.args.follow place c.loop-name.left (name ∷ rest) _ _ c.loop-name.invariant c.in-Some.ensures
    (walk_link c.args.links tree c.args.follow place name target rest no_up held ∙ link_goes c.args.follow place.here name target rest (by_link c.args.links tree c.args.follow place target) c.is_empty-is_last.result c.is_empty-is_last.ensures goes) in
    IfOk-weaker c.follow_link.result (λ leads. leads_of tree leads ≡ by_link c.args.links tree c.args.follow place c.as_slice-in-Some-Link.result.now rest) (λ leads. leads_of tree leads ≡ walk c.args.links tree c.args.follow c.args.place c.args.left)
    (λ leads is. is ∙ (ap (λ (bytes : List ℕ). by_link c.args.links tree c.args.follow place bytes rest) c.as_slice-in-Some-Link.ensures ∙ whole)) c.follow_link.ensures

pub walk-returns-in-Some-Link-2 : goal.walk-returns-in-Some-Link-2
walk-returns-in-Some-Link-2 t c =
    let tree = c.args.tree.now in
    let place = c.loop-name.place in
    let name = c.in-Some.name in
    let rest = c.take_next.new.self in
    let no_up : is_up name ≡ false = cc in
    let held = holds tree place.here c.here.result name c.as_slice-in-Some.result.now _ _ c.in-Some-Link.ensures c.here.ensures c.as_slice-in-Some.ensures c.in-Some-Link.field-0-is in
    let target = c.in-Some-Link.target in
    let ends = sym c.is_followed.ensures ∙ c.if-is_followed.false in
    let end = link_ends tree c.args.follow place.here name target rest (by_link c.args.links tree c.args.follow place target) c.is_empty-is_last.result c.is_empty-is_last.ensures ends held in
    ap (λ (here : ℕ). to_link here name (held_by (directory_at tree here).entries name)) c.here-in-Some-Link-2.ensures
    ∙ onward c.args.links tree c.args.follow place c.loop-name.left (name ∷ rest) _ _ c.loop-name.invariant c.in-Some.ensures (walk_link c.args.links tree c.args.follow place name target rest no_up held ∙ sym end)

pub walk-returns-in-Some-File : goal.walk-returns-in-Some-File
walk-returns-in-Some-File t c =
    let tree = c.args.tree.now in
    let place = c.loop-name.place in
    let name = c.in-Some.name in
    let rest = c.take_next.new.self in
    let no_up : is_up name ≡ false = cc in
    let held = holds tree place.here c.here.result name c.as_slice-in-Some.result.now _ _ c.in-Some-File.ensures c.here.ensures c.as_slice-in-Some.ensures c.in-Some-File.field-0-is in
    let content = c.in-Some-File.field-0-0 in
    let none : rest ≡ [] = c.is_empty-is_last.ensures.0 c.if-is_last.true in
    ap (λ (here : ℕ). to_file here name (held_by (directory_at tree here).entries name)) c.here-in-Some-File.ensures
    ∙ onward c.args.links tree c.args.follow place c.loop-name.left (name ∷ rest) _ _ c.loop-name.invariant c.in-Some.ensures
    (walk_file c.args.links tree c.args.follow place name content rest no_up held ∙ sym (file_last tree place.here name content rest none held))

pub walk-returns-in-Some-File-2 : goal.walk-returns-in-Some-File-2
walk-returns-in-Some-File-2 t c =
    let tree = c.args.tree.now in
    let place = c.loop-name.place in
    let name = c.in-Some.name in
    let rest = c.take_next.new.self in
    let no_up : is_up name ≡ false = cc in
    let held = holds tree place.here c.here.result name c.as_slice-in-Some.result.now _ _ c.in-Some-File.ensures c.here.ensures c.as_slice-in-Some.ensures c.in-Some-File.field-0-is in
    let content = c.in-Some-File.field-0-0 in
    onward c.args.links tree c.args.follow place c.loop-name.left (name ∷ rest) _ _ c.loop-name.invariant c.in-Some.ensures
    (walk_file c.args.links tree c.args.follow place name content rest no_up held ∙ sym (file_before place.here name content rest c.is_empty-is_last.result c.is_empty-is_last.ensures c.if-is_last.false))

pub walk-returns-in-None : goal.walk-returns-in-None
walk-returns-in-None t c =
    let tree = c.args.tree.now in
    let place = c.loop-name.place in
    let name = c.in-Some.name in
    let rest = c.take_next.new.self in
    let no_up : is_up name ≡ false = cc in
    let held = holds_nothing tree place.here c.here.result name c.as_slice-in-Some.result.now c.in-None.ensures c.here.ensures c.as_slice-in-Some.ensures in
    let none : rest ≡ [] = c.is_empty-is_last.ensures.0 c.if-is_last-2.true in
    ap (λ (here : ℕ). ToNothing here name) c.here-in-None.ensures
    ∙ onward c.args.links tree c.args.follow place c.loop-name.left (name ∷ rest) _ _ c.loop-name.invariant c.in-Some.ensures
    (walk_nothing c.args.links tree c.args.follow place name rest no_up held ∙ sym (nothing_last place.here name rest none))

pub walk-returns-in-None-2 : goal.walk-returns-in-None-2
walk-returns-in-None-2 t c =
    let tree = c.args.tree.now in
    let place = c.loop-name.place in
    let name = c.in-Some.name in
    let rest = c.take_next.new.self in
    let no_up : is_up name ≡ false = cc in
    let held = holds_nothing tree place.here c.here.result name c.as_slice-in-Some.result.now c.in-None.ensures c.here.ensures c.as_slice-in-Some.ensures in
    onward c.args.links tree c.args.follow place c.loop-name.left (name ∷ rest) _ _ c.loop-name.invariant c.in-Some.ensures
    (walk_nothing c.args.links tree c.args.follow place name rest no_up held ∙ sym (nothing_before place.here name rest c.is_empty-is_last.result c.is_empty-is_last.ensures c.if-is_last-2.false))

pub walk-returns : goal.walk-returns
walk-returns t c =
    onward c.args.links c.args.tree.now c.args.follow c.loop-name.place c.loop-name.left [] _ _ c.loop-name.invariant c.in_default.ensures (walk_ends c.args.links c.args.tree.now c.args.follow c.loop-name.place)
