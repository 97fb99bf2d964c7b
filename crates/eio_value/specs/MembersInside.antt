-- How `Members` keeps its members: in the first places of an array of eight, and one blank member in all others.
use Rattle.std.specs.Prelude.{◌≡◌, ℕ, ◌-◌, ◌≤◌, Bool, List, ◌++◌, length, take, drop, replicate}
use Rattle.std.proofs.Common.{ap, ◌∙◌}
use Rattle.eio_value.specs.declared.plain.Member.{Member}
use Rattle.eio_value.specs.declared.plain.Plain.TheVariants.{Exit}
use Rattle.eio_value.specs.Several.{Several, AreDistinct}
use Rattle.eio_value.specs.declared.members.Members.TheInside.{Inside}
use Rattle.eio_value.specs.FilledPlaces.{padded_front, length_front}

abbrev pub blank : Member
blank = record { serial = 0; what = Exit }

-- what callers see
abbrev pub several_of : Inside → Several
several_of m = record { members = take m.count m.places; cut = m.cut }

-- two to eight places are filled, with distinct serials, and the others are blank
pub record IsFilled (m : Inside) : Type 0 where
  pub whole : length m.places ≡ 8
  pub least : 2 ≤ m.count
  pub most : m.count ≤ 8
  pub rest : drop m.count m.places ≡ replicate (8 - m.count) blank
  pub distinct : AreDistinct (take m.count m.places)

-- the places that hold these members
abbrev pub filled : Several → Inside
filled s = record { places = s.members ++ replicate (8 - length s.members) blank; count = length s.members; cut = s.cut }

abbrev pub inside : List Member → ℕ → Bool → Inside
inside places count cut = record { places = places; count = count; cut = cut }

-- what callers see gives the places back
pub filled-several_of : (m : Inside) → IsFilled m → filled (several_of m) ≡ m
filled-several_of m h =
    let places = padded_front blank m.places m.count h.whole h.most h.rest in
    let count = length_front m.places m.count h.whole h.most in
    ap (λ xs. inside xs (length (take m.count m.places)) m.cut) places ∙ ap (λ n. inside m.places n m.cut) count
