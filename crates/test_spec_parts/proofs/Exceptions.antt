-- Exceptions that rows name: failures by the number of their text, and raises by their serial.
use Rattle.std.specs.Prelude.{ℕ, List, Bool}
use Rattle.eio_value.specs.declared.plain.Member.{Member}
use Rattle.eio_value.specs.declared.plain.Plain.{Plain}
use Rattle.eio_value.specs.declared.plain.Plain.TheVariants as plain
use Rattle.eio_value.specs.declared.raised.Raised.{Raised}
use Rattle.eio_value.specs.declared.raised.Raised.TheVariants.{One, Cancelled, Many}
use Rattle.eio_value.specs.Table.{text_id}

abbrev pub failure : ℕ → Plain
failure n = plain.Failure (text_id n)

abbrev pub member : (serial : ℕ) → Plain → Member
member serial what = record { serial = serial; what = what }

abbrev pub one : (serial : ℕ) → Plain → Raised
one serial what = One (member serial what)

abbrev pub cancelled : (serial : ℕ) → Plain → Raised
cancelled serial what = Cancelled (member serial what)

abbrev pub many : List Member → Bool → Raised
many members cut = Many (record { members = members; cut = cut })
