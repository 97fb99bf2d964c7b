-- The heads of statements in the code as those of the definitions.
use Rattle.std.specs.Prelude.{◌≡◌, ◌≤◌, ℕ, Bool, ◌==◌, nat_le, List}
use Rattle.spec_script.specs.Forms as forms
use Rattle.script_forms.specs.Calls.{object_call_of, object_call_with_of, reader_call_of, path_call_of, group_of}
use Rattle.script_forms.specs.declared.heads.Head.{Head}
use Rattle.script_forms.specs.declared.heads.Head.TheVariants as code
use Rattle.script_forms.specs.declared.heads.Form.{Form}
use Rattle.script_forms.specs.declared.heads.Arity.{Arity}
use Rattle.script_forms.specs.declared.heads.Arity.TheVariants.{Exactly, AtLeast}
use Rattle.script_forms.specs.declared.heads.Shape.{Shape as ReadAs}
use Rattle.script_forms.specs.declared.heads.Shape.TheVariants as shape

abbrev pub head_of : Head → forms.Head
head_of code.Let = forms.LetHead
head_of code.If = forms.IfHead
head_of code.Give = forms.GiveHead
head_of code.Raise = forms.RaiseHead
head_of code.Try = forms.TryHead
head_of code.Repeat = forms.RepeatHead
head_of code.Loop = forms.LoopHead
head_of code.Trace = forms.TraceHead
head_of code.Yield = forms.YieldHead
head_of code.Check = forms.CheckHead
head_of code.AwaitCancel = forms.AwaitCancelHead
head_of code.Sub = forms.SubHead
head_of code.Protect = forms.ProtectHead
head_of code.Cancel = forms.CancelHead
head_of code.Switch = forms.SwitchHead
head_of code.Fork = forms.ForkHead
head_of code.ForkDaemon = forms.ForkDaemonHead
head_of code.ForkPromise = forms.ForkPromiseHead
head_of code.Fail = forms.FailHead
head_of code.OnRelease = forms.OnReleaseHead
head_of (code.Pair group) = forms.PairHead (group_of group)
head_of (code.Row group) = forms.RowHead (group_of group)
head_of (code.Object call) = forms.ObjectHead (object_call_of call)
head_of (code.ObjectWith call) = forms.ObjectHeadWith (object_call_with_of call)
head_of code.UseRw = forms.UseRwHead
head_of code.UsePool = forms.UsePoolHead
head_of code.Submit = forms.SubmitHead
head_of code.Sleep = forms.SleepHead
head_of code.Now = forms.NowHead
head_of code.BufRead = forms.BufReadHead
head_of (code.Reader call) = forms.ReaderHead (reader_call_of call)
head_of code.TakeBytes = forms.TakeBytesHead
head_of code.Copy = forms.CopyHead
head_of code.BufWrite = forms.BufWriteHead
head_of code.Put = forms.PutHead
head_of code.OpenDir = forms.OpenDirHead
head_of (code.Path call) = forms.PathHead (path_call_of call)
head_of (code.Save only_new) = forms.SaveHead only_new

-- the form of a word
abbrev pub form_seen : List ℕ → Form → forms.Form
form_seen word it = record { word = word; head = head_of it.head; gives = it.gives; mocked = it.mocked; feature = it.feature }

-- how many items stand behind a form's word
abbrev pub arity_of : Head → Arity
arity_of code.Let = Exactly 2
arity_of code.If = Exactly 3
arity_of code.Give = Exactly 1
arity_of code.Raise = Exactly 1
arity_of code.Try = Exactly 3
arity_of code.Repeat = AtLeast 2
arity_of code.Loop = AtLeast 0
arity_of code.Trace = AtLeast 0
arity_of code.Yield = Exactly 0
arity_of code.Check = Exactly 0
arity_of code.AwaitCancel = Exactly 0
arity_of code.Sub = AtLeast 1
arity_of code.Protect = AtLeast 0
arity_of code.Cancel = Exactly 2
arity_of code.Switch = AtLeast 1
arity_of code.Fork = AtLeast 1
arity_of code.ForkDaemon = AtLeast 1
arity_of code.ForkPromise = AtLeast 2
arity_of code.Fail = Exactly 2
arity_of code.OnRelease = AtLeast 1
arity_of (code.Pair group) = Exactly 2
arity_of (code.Row group) = AtLeast 0
arity_of (code.Object call) = Exactly 1
arity_of (code.ObjectWith call) = Exactly 2
arity_of code.UseRw = AtLeast 1
arity_of code.UsePool = AtLeast 2
arity_of code.Submit = AtLeast 3
arity_of code.Sleep = Exactly 1
arity_of code.Now = Exactly 0
arity_of code.BufRead = AtLeast 3
arity_of (code.Reader call) = Exactly 1
arity_of code.TakeBytes = Exactly 2
arity_of code.Copy = Exactly 2
arity_of code.BufWrite = AtLeast 2
arity_of code.Put = Exactly 2
arity_of code.OpenDir = AtLeast 3
arity_of (code.Path call) = Exactly 2
arity_of (code.Save only_new) = Exactly 3

-- a list has that many items
abbrev pub Fits : Arity → ℕ → Type 0
Fits (Exactly n) count = count ≡ n
Fits (AtLeast n) count = n ≤ count

abbrev pub fits : Arity → ℕ → Bool
fits (Exactly n) count = count == n
fits (AtLeast n) count = nat_le n count

-- how a form is read
abbrev pub shape_of : Head → ReadAs
shape_of code.Let = shape.Let
shape_of code.If = shape.If
shape_of code.Give = shape.Give
shape_of code.Raise = shape.Leaf
shape_of code.Try = shape.Try
shape_of code.Repeat = shape.Body
shape_of code.Loop = shape.Body
shape_of code.Trace = shape.Leaf
shape_of code.Yield = shape.Leaf
shape_of code.Check = shape.Leaf
shape_of code.AwaitCancel = shape.Leaf
shape_of code.Sub = shape.Body
shape_of code.Protect = shape.Body
shape_of code.Cancel = shape.Leaf
shape_of code.Switch = shape.Body
shape_of code.Fork = shape.Body
shape_of code.ForkDaemon = shape.Body
shape_of code.ForkPromise = shape.Body
shape_of code.Fail = shape.Leaf
shape_of code.OnRelease = shape.Body
shape_of (code.Pair group) = shape.Branches group
shape_of (code.Row group) = shape.Branches group
shape_of (code.Object call) = shape.Leaf
shape_of (code.ObjectWith call) = shape.Leaf
shape_of code.UseRw = shape.Body
shape_of code.UsePool = shape.Body
shape_of code.Submit = shape.Body
shape_of code.Sleep = shape.Leaf
shape_of code.Now = shape.Leaf
shape_of code.BufRead = shape.Body
shape_of (code.Reader call) = shape.Leaf
shape_of code.TakeBytes = shape.Leaf
shape_of code.Copy = shape.Leaf
shape_of code.BufWrite = shape.Body
shape_of code.Put = shape.Leaf
shape_of code.OpenDir = shape.Body
shape_of (code.Path call) = shape.Leaf
shape_of (code.Save only_new) = shape.Leaf
