-- What `done` gives once the job that has ended was taken off: nobody waits for it, or the one that does is alive or dead.
use Rattle.std.proofs.Common.{◌≡◌, ℕ, Bool, true, List, [], ◌∷◌, Option, Some, None, refl, sym, ap, ◌∙◌, subst}
use Rattle.std.specs.Prelude.{filter, find}
use Rattle.std.proofs.lemmas.List.Elements.{All-nil}
use Rattle.eio_value.specs.declared.call.Woken.{Woken}
use Rattle.eio_value.specs.declared.call.Woken.TheVariants.{Won, Lost}
use Rattle.eio_value.specs.declared.message.Waiter.{Waiter}
use Rattle.eio_value.specs.declared.raised.Outcome.{Outcome}
use Rattle.eio_value.specs.Sending.{Sent, Resumes}
use Rattle.eio_value.specs.Waking.{Test, IsKnown, IsUnknown, Keeps, Skips, IsAlive, Wakes}
use Rattle.eio_value.proofs.Scanning.{scan_starts, scan_lost}
use Rattle.spec_parts.specs.Data.{Executor, Running, Work}
use Rattle.spec_parts.specs.Executors.{finish, without_running}
use Rattle.spec_parts.specs.Row.{Row, Queued, Takers, Looks, but_first, done, quiet, stepped}
use Rattle.spec_parts.specs.Skipping.{waiters}
use Rattle.wait_list.specs.Waits.{has_number}
use Rattle.wait_list.proofs.Picking.{all_left}
use Rattle.executor_pool.specs.Finishing.{AsksFor, AsksOne}
use Rattle.executor_pool.specs.Submitting.{AreNumbered}
use Rattle.executor_pool.proofs.Submitting.{first_of, found_first, gone}

abbrev pub row_of : Work → List Queued → Row
row_of work takers = record { values = Executor work; takers = takers; adders = [] }

-- the one that is found first is alive
alive_first : (knew : Test) (list : List Queued) (q : Queued) → Some q ≡ first_of list → IsUnknown knew q.who → IsAlive knew (waiters list)
alive_first knew [] q first unknown = let e : Some q ≡ None = first in cc
alive_first knew (x ∷ xs) q first unknown = let same : q ≡ x = cc in subst (λ (y : Queued). IsUnknown knew y.who) same unknown

alive_none : (knew : Test) (list : List Queued) → None ≡ first_of list → IsAlive knew (waiters list)
alive_none knew [] first = tt
alive_none knew (x ∷ xs) first = let e : None ≡ Some x = first in cc

module _ (knew knows : Test) (tells : Bool) (work now : Work) (takers : List Queued) (who : Waiter) (off : Bool) (number : ℕ) (given : Outcome) where
  abbrev pub Gives : List Queued → Option Sent → Row → Type 0
  Gives left sent row =
      stepped row who off (Looks Takers (has_number number) (λ submitter. record { values = Executor now; answer = done; outcome = given }) (quiet (Executor now) done))
      ≡ record { row = row_of now left; answer = done; sent = sent }

  abbrev pub Ended : List Queued → Option Sent → Type 0
  Ended left sent = AsksOne knew knows tells (row_of work takers) Takers (has_number number) (Gives left sent)

  no_dead : Skips knew knows tells []
  no_dead = record { known = All-nil (IsKnown knows); told = λ _. All-nil (IsKnown knew) }

  nobody_asked : find (has_number number) takers ≡ None → Keeps knew knows → Ended (but_first (has_number number) takers) None
  nobody_asked none keeps = record {
    dead = [];
    rest = takers;
    parts = refl;
    skips = no_dead;
    alive = alive_none knew (filter (has_number number) takers) (sym none ∙ found_first (has_number number) takers);
    keeps = keeps;
    gives = rw (all_left (λ (q : Queued). q) (has_number number) takers none) (rw none refl);
  }

  one_alive : (q : Queued) → find (has_number number) takers ≡ Some q → Keeps knew knows → IsUnknown knew q.who → Ended (but_first (has_number number) takers) (Some (Resumes q.who given))
  one_alive q is keeps unknown = record {
    dead = [];
    rest = takers;
    parts = refl;
    skips = no_dead;
    alive = alive_first knew (filter (has_number number) takers) q (sym is ∙ found_first (has_number number) takers) unknown;
    keeps = keeps;
    gives = rw is refl;
  }

  one_dead : (submitted : ℕ) (q : Queued) → find (has_number number) takers ≡ Some q → AreNumbered submitted takers → Keeps knew knows → (tells ≡ true → Keeps knows knew) → IsKnown knows q.who
      → Ended (but_first (has_number number) takers) None
  one_dead submitted q is numbered keeps back known =
      let rest : List Queued = but_first (has_number number) takers in
      let none : filter (has_number number) rest ≡ [] = gone submitted number takers numbered in
      let nobody : find (has_number number) rest ≡ None = found_first (has_number number) rest ∙ ap first_of none in
      record {
        dead = q ∷ [];
        rest = rest;
        parts = (refl, is, refl);
        skips = (scan_lost knew knew knows tells [] q.who (scan_starts knew tells) keeps back known).skips;
        alive = rw none tt;
        keeps = keeps;
        gives = rw nobody refl;
      }

  pub one_asked : (submitted : ℕ) (q : Queued) (woken : Woken) (sent : Option Sent) → find (has_number number) takers ≡ Some q → AreNumbered submitted takers → Keeps knew knows → (tells ≡ true → Keeps knows knew)
      → Wakes knew knows q.who given woken sent → Ended (but_first (has_number number) takers) sent
  one_asked submitted q Won sent is numbered keeps back wakes = subst (Ended (but_first (has_number number) takers)) (sym wakes.1) (one_alive q is keeps wakes.0)
  one_asked submitted q Lost sent is numbered keeps back wakes = subst (Ended (but_first (has_number number) takers)) (sym wakes.1) (one_dead submitted q is numbered keeps back wakes.0)

  pub none_asked : (sent : Option Sent) → find (has_number number) takers ≡ None → Keeps knew knows → sent ≡ None → Ended (but_first (has_number number) takers) sent
  none_asked sent none keeps quiet = subst (Ended (but_first (has_number number) takers)) (sym quiet) (nobody_asked none keeps)

module _ (knew knows : Test) (tells : Bool) (work now : Work) (takers left : List Queued) (who : Waiter) (off : Bool) (number : ℕ) (given : Outcome) (sent : Option Sent) where
  -- what `done` gives where a job with the number runs, and these are the data without it
  pub met : (job : Option Running) → (job ≡ None → ⊥) → ((j : Running) → job ≡ Some j → now ≡ without_running work j) → Ended knew knows tells work now takers who off number given left sent
      → AsksFor knew knows tells (row_of work takers) who off (finish work number given job) (record { row = row_of now left; answer = done; sent = sent })
  met None runs is ended = absurd (runs refl)
  met (Some j) runs is ended =
      subst
      (λ (w : Work). AsksOne knew knows tells (row_of work takers) Takers (has_number number) (λ row.
      stepped row who off (Looks Takers (has_number number) (λ submitter. record { values = Executor w; answer = done; outcome = given }) (quiet (Executor w) done))
      ≡ record { row = row_of now left; answer = done; sent = sent }))
      (is j refl)
      ended
