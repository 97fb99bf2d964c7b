-- The limits of the notation and of scripts.
use Rattle.std.specs.Prelude.{ℕ, ◌^◌, Bool, nat_lt, ℤ, pos, negsuc}
use Rattle.spec_script.specs.declared.Limits.{Limits}

-- ## Inputs and their trees

-- of an input, in bytes
abbrev pub most_input_bytes : ℕ
most_input_bytes = 262144

-- of a word, in bytes
abbrev pub most_word_bytes : ℕ
most_word_bytes = 32

-- of a text, in items, which are the bytes that it stands for
abbrev pub most_text_items : ℕ
most_text_items = 1024

-- so many lists may be open in one another
abbrev pub most_open_lists : ℕ
most_open_lists = 64

-- a number is at least -2^63 and below 2^63; `negsuc n` is -(n + 1)
abbrev pub is_within : ℤ → Bool
is_within (pos n) = nat_lt n (2 ^ 63)
is_within (negsuc n) = nat_lt n (2 ^ 63)

-- ## How many of a thing a script may have

-- of the scripts of a version, and of their runs. A version that has others than the first stands on a line of its own, above the last
unfoldable pub limits_of : (version : ℕ) → Limits
limits_of version = record { declarations = 64; bodies = 8; fibers = 1024; contexts = 4096; jobs = 1024 }

-- names in scope at one place, besides those of declarations
abbrev pub most_names : ℕ
most_names = 64

-- operands of a `trace`
abbrev pub most_traced : ℕ
most_traced = 8

-- blocks of an `all` or an `any`
abbrev pub most_branches : ℕ
most_branches = 64

-- variables that a job takes with it
abbrev pub most_captured : ℕ
most_captured = 8

-- workers of an executor
abbrev pub most_workers : ℕ
most_workers = 16

-- steps of all flows together
abbrev pub most_flow_steps : ℕ
most_flow_steps = 1024

-- entries of all directories together, in whatever depth
abbrev pub most_entries : ℕ
most_entries = 1024

-- of the name of an entry, in bytes
abbrev pub most_entry_name_bytes : ℕ
most_entry_name_bytes = 64

-- ## Which numbers may stand in a script

pub record Range : Type 0 where
  pub least : ℕ
  pub most : ℕ

-- of a stream
abbrev pub capacities : Range
capacities = record { least = 0; most = 1024 }

-- of a semaphore
abbrev pub counts : Range
counts = record { least = 0; most = 1000000 }

-- of a pool
abbrev pub sizes : Range
sizes = record { least = 1; most = 64 }

-- of a job, in hundredths of a worker
abbrev pub weights : Range
weights = record { least = 1; most = 100 }

-- of a reader, in bytes
abbrev pub reader_limits : Range
reader_limits = record { least = 1; most = 65536 }

-- ## Which numbers words of a command line may have; of steps and of lines also the number where none is given

abbrev pub most_steps : ℕ
most_steps = 1000000

abbrev pub most_lines : ℕ
most_lines = 100000

abbrev pub most_load : ℕ
most_load = 1000
