-- What holds on both sides of a test holds of the test.
use Rattle.std.specs.Prelude.{Bool, true, false, Option, Some, None}

pub either_way : (P : Bool → Type 0) (test : Bool) → P true → P false → P test
either_way P true hit miss = hit
either_way P false hit miss = miss

pub found_or_not : {A : Type 0} (P : Option A → Type 0) (found : Option A) → P None → ((a : A) → P (Some a)) → P found
found_or_not P None missed hit = missed
found_or_not P (Some a) missed hit = hit a
