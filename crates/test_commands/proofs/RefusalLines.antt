-- The line that each refusal writes.
use Rattle.std.proofs.Common.{◌≡◌, refl}
use Rattle.std.specs.Prelude.{codes}
use Rattle.std.specs.Fmt.{digits}
use Rattle.spec_script.specs.Faults as fault
use Rattle.spec_script.specs.Refusals.{TooLong, NoTree, NoScript, MockOnly, DomainOnly, Unbuilt, NoHistory, NoList, NoNet, refusal_line}

too_long : refusal_line TooLong ≡ codes "!Refused Size at 262144\n"
unfolding refusal_line digits
too_long = refl

byte : refusal_line (NoTree (fault.Byte 0)) ≡ codes "!Refused Byte at 0\n"
unfolding refusal_line digits
byte = refl

unclosed : refusal_line (NoTree (fault.Unclosed 20)) ≡ codes "!Refused Unclosed at 20\n"
unfolding refusal_line digits
unclosed = refl

stray : refusal_line (NoTree (fault.Stray 15)) ≡ codes "!Refused Stray at 15\n"
unfolding refusal_line digits
stray = refl

number : refusal_line (NoTree (fault.Number 7)) ≡ codes "!Refused Number at 7\n"
unfolding refusal_line digits
number = refl

long_text : refusal_line (NoTree (fault.LongText 10)) ≡ codes "!Refused LongText at 10\n"
unfolding refusal_line digits
long_text = refl

deep : refusal_line (NoTree (fault.Deep 64)) ≡ codes "!Refused Deep at 64\n"
unfolding refusal_line digits
deep = refl

shape : refusal_line (NoScript (fault.Shape 13)) ≡ codes "!Refused Shape at 13\n"
unfolding refusal_line digits
shape = refl

size : refusal_line (NoScript (fault.Size 262143)) ≡ codes "!Refused Size at 262143\n"
unfolding refusal_line digits
size = refl

twice : refusal_line (NoScript (fault.Twice 9)) ≡ codes "!Refused Twice at 9\n"
unfolding refusal_line digits
twice = refl

name : refusal_line (NoScript (fault.Name 19)) ≡ codes "!Refused Name at 19\n"
unfolding refusal_line digits
name = refl

mock_only : refusal_line (MockOnly 13) ≡ codes "!Refused MockOnly at 13\n"
unfolding refusal_line digits
mock_only = refl

domain_only : refusal_line (DomainOnly 14) ≡ codes "!Refused DomainOnly at 14\n"
unfolding refusal_line digits
domain_only = refl

unbuilt : refusal_line (Unbuilt 13) ≡ codes "!Refused Unbuilt at 13\n"
unfolding refusal_line digits
unbuilt = refl

no_history : refusal_line (NoHistory 15) ≡ codes "!Refused NoHistory at 15\n"
unfolding refusal_line digits
no_history = refl

no_list : refusal_line (NoList 21) ≡ codes "!Refused List at 21\n"
unfolding refusal_line digits
no_list = refl

no_net : refusal_line (NoNet 5) ≡ codes "!Refused Net at 5\n"
unfolding refusal_line digits
no_net = refl
