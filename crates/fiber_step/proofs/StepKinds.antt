-- Which nodes are of each kind: one that is of the kind, and none of these, there is not.
use Rattle.std.proofs.Common.{◌≡◌, ℕ, List, Bool, true, false, refl, sym}
use Rattle.eio_value.specs.declared.value.TextId.{TextId}
use Rattle.script_forms.specs.declared.node.Directory.{Directory}
use Rattle.script_forms.specs.declared.node.Forking.{Forking}
use Rattle.script_forms.specs.declared.node.Group.{Group}
use Rattle.script_forms.specs.declared.node.Node.{Node}
use Rattle.script_forms.specs.declared.node.Node.TheVariants as node
use Rattle.script_forms.specs.declared.node.ObjectCall.{ObjectCall}
use Rattle.script_forms.specs.declared.node.ObjectCallWith.{ObjectCallWith}
use Rattle.script_forms.specs.declared.node.PathCall.{PathCall}
use Rattle.script_forms.specs.declared.node.ReaderCall.{ReaderCall}
use Rattle.fiber_step.specs.Calling.{is_bare, has_own_block, hands_on, is_group, has_marks, has_operands, is_of_path, is_silent}

true_false : true ≡ false → ⊥
true_false e = cc

pub bare_only : (it : Node) → is_bare it ≡ true → (it ≡ node.Yield → ⊥) → (it ≡ node.Check → ⊥) → (it ≡ node.AwaitCancel → ⊥) → (it ≡ node.Now → ⊥) → ((context : ℕ) (text : TextId) → it ≡ node.Cancel context text → ⊥) → ((switch : ℕ) (text : TextId) → it ≡ node.Fail switch text → ⊥) → ((call : ObjectCall) (object : ℕ) → it ≡ node.OnObject call object → ⊥) → ((call : ReaderCall) (reader : ℕ) → it ≡ node.OnReader call reader → ⊥) → ((from : ℕ) (to : ℕ) → it ≡ node.Copy from to → ⊥) → ⊥
bare_only node.Yield is no_yield no_check no_await_cancel no_now no_cancel no_fail no_on_object no_on_reader no_copy = no_yield refl
bare_only node.Check is no_yield no_check no_await_cancel no_now no_cancel no_fail no_on_object no_on_reader no_copy = no_check refl
bare_only node.AwaitCancel is no_yield no_check no_await_cancel no_now no_cancel no_fail no_on_object no_on_reader no_copy = no_await_cancel refl
bare_only node.Now is no_yield no_check no_await_cancel no_now no_cancel no_fail no_on_object no_on_reader no_copy = no_now refl
bare_only (node.Cancel context text) is no_yield no_check no_await_cancel no_now no_cancel no_fail no_on_object no_on_reader no_copy = no_cancel context text refl
bare_only (node.Fail switch text) is no_yield no_check no_await_cancel no_now no_cancel no_fail no_on_object no_on_reader no_copy = no_fail switch text refl
bare_only (node.OnObject call object) is no_yield no_check no_await_cancel no_now no_cancel no_fail no_on_object no_on_reader no_copy = no_on_object call object refl
bare_only (node.OnReader call reader) is no_yield no_check no_await_cancel no_now no_cancel no_fail no_on_object no_on_reader no_copy = no_on_reader call reader refl
bare_only (node.Copy from to) is no_yield no_check no_await_cancel no_now no_cancel no_fail no_on_object no_on_reader no_copy = no_copy from to refl
bare_only other is no_yield no_check no_await_cancel no_now no_cancel no_fail no_on_object no_on_reader no_copy = true_false (sym is)

pub own_only : (it : Node) → has_own_block it ≡ true → ((n : ℕ) (after : ℕ) → it ≡ node.Sub n after → ⊥) → ((n : ℕ) (after : ℕ) → it ≡ node.Protect n after → ⊥) → ((n : ℕ) (after : ℕ) → it ≡ node.Switch n after → ⊥) → ((flow : ℕ) (limit : ℕ) (n : ℕ) (after : ℕ) → it ≡ node.BufRead flow limit n after → ⊥) → ((flow : ℕ) (n : ℕ) (after : ℕ) → it ≡ node.BufWrite flow n after → ⊥) → ⊥
own_only (node.Sub n after) is no_sub no_protect no_switch no_buf_read no_buf_write = no_sub n after refl
own_only (node.Protect n after) is no_sub no_protect no_switch no_buf_read no_buf_write = no_protect n after refl
own_only (node.Switch n after) is no_sub no_protect no_switch no_buf_read no_buf_write = no_switch n after refl
own_only (node.BufRead flow limit n after) is no_sub no_protect no_switch no_buf_read no_buf_write = no_buf_read flow limit n after refl
own_only (node.BufWrite flow n after) is no_sub no_protect no_switch no_buf_read no_buf_write = no_buf_write flow n after refl
own_only other is no_sub no_protect no_switch no_buf_read no_buf_write = true_false (sym is)

pub handing_only : (it : Node) → hands_on it ≡ true → ((forking : Forking) (switch : ℕ) (n : ℕ) (after : ℕ) → it ≡ node.Fork forking switch n after → ⊥) → ((switch : ℕ) (n : ℕ) (after : ℕ) → it ≡ node.OnRelease switch n after → ⊥) → ((executor : ℕ) (weight : ℕ) (captured : List ℕ) (n : ℕ) (after : ℕ) → it ≡ node.Submit executor weight captured n after → ⊥) → ⊥
handing_only (node.Fork forking switch n after) is no_fork no_on_release no_submit = no_fork forking switch n after refl
handing_only (node.OnRelease switch n after) is no_fork no_on_release no_submit = no_on_release switch n after refl
handing_only (node.Submit executor weight captured n after) is no_fork no_on_release no_submit = no_submit executor weight captured n after refl
handing_only other is no_fork no_on_release no_submit = true_false (sym is)

pub group_only : (it : Node) → is_group it ≡ true → ((group : Group) (numbers : List ℕ) (after : ℕ) → it ≡ node.Branches group numbers after → ⊥) → ⊥
group_only (node.Branches group numbers after) is no_branches = no_branches group numbers after refl
group_only other is no_branches = true_false (sym is)

pub marked_only : (it : Node) → has_marks it ≡ true → ((n : ℕ) (m : ℕ) (after : ℕ) → it ≡ node.Try n m after → ⊥) → ((n : ℕ) (after : ℕ) → it ≡ node.Loop n after → ⊥) → ((mutex : ℕ) (n : ℕ) (after : ℕ) → it ≡ node.UseRw mutex n after → ⊥) → ((pool : ℕ) (n : ℕ) (after : ℕ) → it ≡ node.UsePool pool n after → ⊥) → ⊥
marked_only (node.Try n m after) is no_try no_loop no_use_rw no_use_pool = no_try n m after refl
marked_only (node.Loop n after) is no_try no_loop no_use_rw no_use_pool = no_loop n after refl
marked_only (node.UseRw mutex n after) is no_try no_loop no_use_rw no_use_pool = no_use_rw mutex n after refl
marked_only (node.UsePool pool n after) is no_try no_loop no_use_rw no_use_pool = no_use_pool pool n after refl
marked_only other is no_try no_loop no_use_rw no_use_pool = true_false (sym is)

pub operands_only : (it : Node) → has_operands it ≡ true → ((count : ℕ) → it ≡ node.Trace count → ⊥) → ((call : ObjectCallWith) (object : ℕ) → it ≡ node.OnObjectWith call object → ⊥) → (it ≡ node.Sleep → ⊥) → ((reader : ℕ) → it ≡ node.TakeBytes reader → ⊥) → ((writer : ℕ) → it ≡ node.Put writer → ⊥) → ⊥
operands_only (node.Trace count) is no_trace no_on_object_with no_sleep no_take_bytes no_put = no_trace count refl
operands_only (node.OnObjectWith call object) is no_trace no_on_object_with no_sleep no_take_bytes no_put = no_on_object_with call object refl
operands_only node.Sleep is no_trace no_on_object_with no_sleep no_take_bytes no_put = no_sleep refl
operands_only (node.TakeBytes reader) is no_trace no_on_object_with no_sleep no_take_bytes no_put = no_take_bytes reader refl
operands_only (node.Put writer) is no_trace no_on_object_with no_sleep no_take_bytes no_put = no_put writer refl
operands_only other is no_trace no_on_object_with no_sleep no_take_bytes no_put = true_false (sym is)

pub path_only : (it : Node) → is_of_path it ≡ true → ((directory : Directory) (n : ℕ) (after : ℕ) → it ≡ node.OpenDir directory n after → ⊥) → ((call : PathCall) (directory : Directory) → it ≡ node.OnPath call directory → ⊥) → ((only_new : Bool) (directory : Directory) → it ≡ node.Save only_new directory → ⊥) → ⊥
path_only (node.OpenDir directory n after) is no_open_dir no_on_path no_save = no_open_dir directory n after refl
path_only (node.OnPath call directory) is no_open_dir no_on_path no_save = no_on_path call directory refl
path_only (node.Save only_new directory) is no_open_dir no_on_path no_save = no_save only_new directory refl
path_only other is no_open_dir no_on_path no_save = true_false (sym is)

pub silent_only : (it : Node) → is_silent it ≡ true → (it ≡ node.Let → ⊥) → (it ≡ node.LetForm → ⊥) → ((n : ℕ) (m : ℕ) (after : ℕ) → it ≡ node.If n m after → ⊥) → (it ≡ node.Give → ⊥) → ((text : TextId) → it ≡ node.Raise text → ⊥) → ((n : ℕ) (after : ℕ) → it ≡ node.Repeat n after → ⊥) → ⊥
silent_only node.Let is no_let no_let_form no_if no_give no_raise no_repeat = no_let refl
silent_only node.LetForm is no_let no_let_form no_if no_give no_raise no_repeat = no_let_form refl
silent_only (node.If n m after) is no_let no_let_form no_if no_give no_raise no_repeat = no_if n m after refl
silent_only node.Give is no_let no_let_form no_if no_give no_raise no_repeat = no_give refl
silent_only (node.Raise text) is no_let no_let_form no_if no_give no_raise no_repeat = no_raise text refl
silent_only (node.Repeat n after) is no_let no_let_form no_if no_give no_raise no_repeat = no_repeat n after refl
silent_only other is no_let no_let_form no_if no_give no_raise no_repeat = true_false (sym is)
