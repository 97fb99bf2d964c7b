-- A reader in code as a reader of the definitions.
use Rattle.std.specs.Prelude.{false}
use Rattle.spec_parts.specs.Readers.{Reader}
use Rattle.buf_flow.specs.declared.read.BufRead.TheInside.{Inside}

abbrev pub reader_of : Inside → Reader
reader_of inside = record { most = inside.most; bytes = inside.bytes.bytes; over = inside.over; closed = false }
