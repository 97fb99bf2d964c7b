-- All that is known of a domain holds at its opening, and is kept.
use Rattle.std.proofs.Common.{◌≡◌, ℕ, zero, suc, List, [], ◌∷◌, length, refl, ap, ◌∙◌, sym, subst}
use Rattle.std.specs.Prelude.{slice_get, slice_index_or}
use Rattle.std.specs.Option.{unwrap_or}
use Rattle.spec_script.specs.Opening.{opening_texts}
use Rattle.spec_fiber.specs.Settling.{Settled}
use Rattle.spec_machine.specs.Domain.{fiber_at, off_for}
use Rattle.spec_machine.specs.Preparing.{next_call, next_of, carry_of}
use Rattle.law_fiber.specs.Kinded.Kinds.{HasKindsOfSettled}
use Rattle.law_fiber.specs.Texts.Texts.{IsWrittenBlock, written_in}
use Rattle.law_domain.proofs.Texts.Moving.{keeps_texted, openings_are_texted}
use Rattle.law_domain.proofs.Texts.Preparing.{prepares_keep_texted}
use Rattle.law_domain.specs.Sound.Laws.{body_of}
use Rattle.law_domain.proofs.Sound.Conditions.{moves_may_call}
use Rattle.law_domain.proofs.Sound.Keeping.{keeps_sound}
use Rattle.law_domain.proofs.Sound.Opening.{opens_sound}
use Rattle.law_domain.specs.Kinded.KindedStates.{made_facts}
use Rattle.law_domain.proofs.Kinded.Keeping.{calls_kinded, keeps_kinded}
use Rattle.law_domain.proofs.Kinded.Naming.{named_were_made}
use Rattle.law_domain.proofs.Kinded.Opening.{opens_kinded}
use Rattle.law_domain.specs.Well.WellStates.{KeepsWell, MovesCallWell, MovesTellKnown, OpensWell}

index_or : {X : Type 0} (xs : List X) (n : ℕ) (otherwise : X) → slice_index_or xs n otherwise ≡ unwrap_or (slice_get xs n) otherwise
index_or [] n otherwise = refl
index_or (x ∷ xs) zero otherwise = refl
index_or (x ∷ xs) (suc n) otherwise = index_or xs n otherwise

pub opens_well : OpensWell
opens_well script body good below = record {
  sound = opens_sound script body good.forms below;
  kinded = opens_kinded script body good.sound good.blocks below;
  texted = (openings_are_texted script good.texts).with_body body (body_of script body)
      (subst (IsWrittenBlock (written_in script)) (index_or script.bodies body _) (good.texts.bodies body _ below));
}

pub keeps_well : KeepsWell
keeps_well script l k x good well inner moves runs = record {
  sound = keeps_sound script l k x good.forms well.sound inner moves runs;
  kinded = keeps_kinded script l k x good.forms well.sound well.kinded inner moves;
  texted = (keeps_texted script l k x good.texts well.texted inner moves).state;
}

pub moves_call_well : MovesCallWell
moves_call_well script l g others good well none is = (
    let it = moves_may_call l g others well.sound none is in
    let has = calls_kinded script l g others well.sound well.kinded is in
    record {
      calls = it;
      kinds = subst (λ (s : Settled). HasKindsOfSettled (made_facts script (length l.switches) (length l.contexts)) s)
          (ap (λ standing. next_call (next_of standing) (off_for l g) (fiber_at l.fibers g) (carry_of (fiber_at l.fibers g) l)) it.stands ∙ sym it.settles) has;
      made = named_were_made script l g others well.kinded it;
      texts = prepares_keep_texted script l good.texts.failures well.texted;
    })

pub moves_tell_known : MovesTellKnown
moves_tell_known script l k x good well inner moves = keeps_texted script l k x good.texts well.texted inner moves
