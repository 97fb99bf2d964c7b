-- What holds of each element of two lists, one behind the other.
use Rattle.std.proofs.Common.{List, [], ◌∷◌, ◌++◌}
use Rattle.std.specs.List.{AllByRecursion as Each}

pub each_both : {A : Type 0} (P : A → Type 0) (first second : List A) → Each P first → Each P second → Each P (first ++ second)
each_both P [] second all others = others
each_both P (x ∷ first) second all others = (all.0, each_both P first second all.1 others)

pub each_first : {A : Type 0} (P : A → Type 0) (first second : List A) → Each P (first ++ second) → Each P first
each_first P [] second all = tt
each_first P (x ∷ first) second all = (all.0, each_first P first second all.1)

pub each_second : {A : Type 0} (P : A → Type 0) (first second : List A) → Each P (first ++ second) → Each P second
each_second P [] second all = all
each_second P (x ∷ first) second all = each_second P first second all.1
