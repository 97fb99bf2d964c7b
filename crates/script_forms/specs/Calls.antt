-- The small enums of the code and those of the definitions, both ways.
use Rattle.spec_script.specs.Syntax as syntax
use Rattle.script_forms.specs.declared.node.Operator.{Operator}
use Rattle.script_forms.specs.declared.node.Operator.TheVariants as operator
use Rattle.script_forms.specs.declared.node.ObjectCall.{ObjectCall}
use Rattle.script_forms.specs.declared.node.ObjectCall.TheVariants as object
use Rattle.script_forms.specs.declared.node.ObjectCallWith.{ObjectCallWith}
use Rattle.script_forms.specs.declared.node.ObjectCallWith.TheVariants as object_with
use Rattle.script_forms.specs.declared.node.ReaderCall.{ReaderCall}
use Rattle.script_forms.specs.declared.node.ReaderCall.TheVariants as reader
use Rattle.script_forms.specs.declared.node.PathCall.{PathCall}
use Rattle.script_forms.specs.declared.node.PathCall.TheVariants as path
use Rattle.script_forms.specs.declared.node.Group.{Group}
use Rattle.script_forms.specs.declared.node.Group.TheVariants as group
use Rattle.script_forms.specs.declared.node.Forking.{Forking}
use Rattle.script_forms.specs.declared.node.Forking.TheVariants as forking
use Rattle.script_forms.specs.declared.node.Directory.{Directory}
use Rattle.script_forms.specs.declared.node.Directory.TheVariants as directory

-- ## What the code's stand for

abbrev pub operator_of : Operator → syntax.Operator
operator_of operator.Plus = syntax.Plus
operator_of operator.Minus = syntax.Minus
operator_of operator.Same = syntax.Same
operator_of operator.Less = syntax.Less

abbrev pub object_call_of : ObjectCall → syntax.ObjectCall
object_call_of object.Take = syntax.Take
object_call_of object.TakeNonblocking = syntax.TakeNonblocking
object_call_of object.Length = syntax.Length
object_call_of object.Await = syntax.Await
object_call_of object.Acquire = syntax.Acquire
object_call_of object.Release = syntax.Release
object_call_of object.Lock = syntax.Lock
object_call_of object.TryLock = syntax.TryLock
object_call_of object.Unlock = syntax.Unlock

abbrev pub object_call_with_of : ObjectCallWith → syntax.ObjectCallWith
object_call_with_of object_with.Add = syntax.Add
object_call_with_of object_with.Resolve = syntax.Resolve
object_call_with_of object_with.TryResolve = syntax.TryResolve

abbrev pub reader_call_of : ReaderCall → syntax.ReaderCall
reader_call_of reader.Line = syntax.Line
reader_call_of reader.TakeAll = syntax.TakeAll
reader_call_of reader.Char = syntax.Char
reader_call_of reader.AtEnd = syntax.AtEnd

abbrev pub path_call_of : PathCall → syntax.PathCall
path_call_of path.Load = syntax.Load
path_call_of path.Mkdir = syntax.Mkdir
path_call_of path.ReadDir = syntax.ReadDir
path_call_of path.Unlink = syntax.Unlink
path_call_of path.Rmdir = syntax.Rmdir
path_call_of path.Kind = syntax.Kind

abbrev pub group_of : Group → syntax.Group
group_of group.Both = syntax.Both
group_of group.All = syntax.All
group_of group.First = syntax.First
group_of group.Any = syntax.Any

abbrev pub forking_of : Forking → syntax.Forking
forking_of forking.Plain = syntax.Plain
forking_of forking.Daemon = syntax.Daemon
forking_of (forking.Promising promise) = syntax.Promising promise

abbrev pub directory_of : Directory → syntax.Directory
directory_of (directory.Declared number) = syntax.Declared number
directory_of (directory.Opened slot) = syntax.Opened slot

-- ## What stands for the definitions'

abbrev pub operator_in : syntax.Operator → Operator
operator_in syntax.Plus = operator.Plus
operator_in syntax.Minus = operator.Minus
operator_in syntax.Same = operator.Same
operator_in syntax.Less = operator.Less

abbrev pub object_call_in : syntax.ObjectCall → ObjectCall
object_call_in syntax.Take = object.Take
object_call_in syntax.TakeNonblocking = object.TakeNonblocking
object_call_in syntax.Length = object.Length
object_call_in syntax.Await = object.Await
object_call_in syntax.Acquire = object.Acquire
object_call_in syntax.Release = object.Release
object_call_in syntax.Lock = object.Lock
object_call_in syntax.TryLock = object.TryLock
object_call_in syntax.Unlock = object.Unlock

abbrev pub object_call_with_in : syntax.ObjectCallWith → ObjectCallWith
object_call_with_in syntax.Add = object_with.Add
object_call_with_in syntax.Resolve = object_with.Resolve
object_call_with_in syntax.TryResolve = object_with.TryResolve

abbrev pub reader_call_in : syntax.ReaderCall → ReaderCall
reader_call_in syntax.Line = reader.Line
reader_call_in syntax.TakeAll = reader.TakeAll
reader_call_in syntax.Char = reader.Char
reader_call_in syntax.AtEnd = reader.AtEnd

abbrev pub path_call_in : syntax.PathCall → PathCall
path_call_in syntax.Load = path.Load
path_call_in syntax.Mkdir = path.Mkdir
path_call_in syntax.ReadDir = path.ReadDir
path_call_in syntax.Unlink = path.Unlink
path_call_in syntax.Rmdir = path.Rmdir
path_call_in syntax.Kind = path.Kind

abbrev pub group_in : syntax.Group → Group
group_in syntax.Both = group.Both
group_in syntax.All = group.All
group_in syntax.First = group.First
group_in syntax.Any = group.Any

abbrev pub forking_in : syntax.Forking → Forking
forking_in syntax.Plain = forking.Plain
forking_in syntax.Daemon = forking.Daemon
forking_in (syntax.Promising promise) = forking.Promising promise

abbrev pub directory_in : syntax.Directory → Directory
directory_in (syntax.Declared number) = directory.Declared number
directory_in (syntax.Opened slot) = directory.Opened slot
