use Rattle.std.proofs.Common.{◌≡◌, ◌≤◌, ◌<◌, inl, inr, length, ◌∙◌, sym, arith, true≢false}
use Rattle.std.proofs.lemmas.Bool.Decides.{leb_tells}
use Rattle.domain_strikes.proofs.Owed.{none_owed, all_struck}
use Rattle.domain_strikes.proofs.strikes.Strikes.is_empty.Goals as goal

pub returns : goal.returns
returns c =
    let long : c.len.result ≡ length c.self.inside.fibers.items = c.len.ensures ∙ c.self.inside.fibers.ok.0 in
    elim (leb_tells c.len.result c.self.inside.struck) [
      | inl few ↦ (
        λ is. (let all : c.len.result ≤ c.self.inside.struck = few.1 in sym c.self.view_is ∙ none_owed c.self.inside.maker c.self.inside.fibers.items c.self.inside.struck (omega arith)),
        λ none. few.0,
      )
      | inr many ↦ (
        λ is. absurd (true≢false (sym is ∙ many.0)),
        λ none. (
            let left : c.self.inside.struck < c.len.result = many.1 in
            let all : length c.self.inside.fibers.items ≤ c.self.inside.struck = all_struck c.self.inside.maker c.self.inside.fibers.items c.self.inside.struck (c.self.view_is ∙ none) in
            absurd (omega arith)),
      )
    ]
