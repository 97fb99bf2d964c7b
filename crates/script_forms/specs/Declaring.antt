-- The code's declarations as those of the definitions.
use Rattle.spec_script.specs.Declarations as model
use Rattle.spec_script.specs.Declarations.{Declaration}
use Rattle.script_forms.specs.declared.declaration.Decl.{Decl}
use Rattle.script_forms.specs.declared.declaration.Decl.TheVariants as decl

abbrev pub declaration_of : Decl → Declaration
declaration_of (decl.Stream capacity) = model.Stream capacity
declaration_of decl.Promise = model.Promise
declaration_of (decl.Semaphore count) = model.Semaphore count
declaration_of decl.Mutex = model.Mutex
declaration_of (decl.Pool size) = model.Pool size
declaration_of (decl.Executor workers) = model.Executor workers
declaration_of (decl.Flow steps) = model.Flow steps
declaration_of (decl.Dir entries) = model.Dir entries

abbrev pub declaration_in : Declaration → Decl
declaration_in (model.Stream capacity) = decl.Stream capacity
declaration_in model.Promise = decl.Promise
declaration_in (model.Semaphore count) = decl.Semaphore count
declaration_in model.Mutex = decl.Mutex
declaration_in (model.Pool size) = decl.Pool size
declaration_in (model.Executor workers) = decl.Executor workers
declaration_in (model.Flow steps) = decl.Flow steps
declaration_in (model.Dir entries) = decl.Dir entries
