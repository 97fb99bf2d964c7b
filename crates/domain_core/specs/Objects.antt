-- What a domain asks of the objects that it is given at a turn, and finds of them again behind it.
use Rattle.std.specs.Prelude.{◌≡◌, ℕ, ◌≤◌, Bool, false, []}
use Rattle.eio_value.specs.declared.message.Waiter.{Waiter}
use Rattle.eio_value.specs.Waits.{Terms, Open}
use Rattle.domain_core.specs.Keeping.{KeptDomain}

-- they are mocked exactly where the domain is; they know the domain by its number, and no stamp above its own; none of its fibers waits on them; and their
-- script submits nothing, since none of this is built
pub record AreFor (kept : KeptDomain) (is_mocked : Bool) (terms : Terms) (last_seen : ℕ) (is_open : Open) : Type 0 where
  pub mocked : is_mocked ≡ kept.mocked
  pub domain : terms.domain ≡ kept.number
  pub seen : last_seen ≤ kept.stamp
  pub waits : (who : Waiter) → is_open who ≡ false
  pub submits : terms.submits ≡ []
