-- What holds where a call succeeded.
use Rattle.std.proofs.Common.{Result, Ok, Err}
use Rattle.std.specs.Prelude.{IfOk, OnOk}

pub after_ok : {A E : Type 0} (P Q : A → Type 0) (D : Type 0) (r : Result A E) → IfOk r P → OnOk r D → ((it : A) → P it → D → Q it) → IfOk r Q
after_ok P Q D (Ok it) holds changed then = then it holds changed
after_ok P Q D (Err e) holds changed then = tt

pub if_ok : {A E : Type 0} (P Q : A → Type 0) (r : Result A E) → IfOk r P → ((it : A) → P it → Q it) → IfOk r Q
if_ok P Q (Ok it) holds then = then it holds
if_ok P Q (Err e) holds then = tt
