-- What was alike stays alike while tables of texts grow at their ends.
use Rattle.std.proofs.Common.{ℕ, List, ◌++◌, refl, sym, ◌∙◌}
use Rattle.eio_value.specs.declared.value.TextId.{TextId}
use Rattle.eio_value.specs.declared.value.Value.{Value}
use Rattle.eio_value.specs.declared.plain.Plain.{Plain}
use Rattle.eio_value.specs.declared.raised.Outcome.{Outcome}
use Rattle.eio_value.specs.declared.raised.Raised.{Raised}
use Rattle.spec_fiber.specs.Work.{Work}
use Rattle.law_fiber.specs.Calls.Sights.{Sight}
use Rattle.law_fiber.specs.Calls.Alike.{Tables, Keeps, IsLater, AlikeLists, Ends, Goes, IsSameText, AlikeValue, Units, Numbers, Texts, Contexts, Switches, AlikePlain, Failures, Invalids, EndsOfFile, BufferLimits, Poisonings, Exits, NotFirsts, Paths, AlikeRaised, Ones, Cancellations, Multiples, AlikeOutcome, Oks, Errs, AlikeVariables}
use Rattle.law_fiber.specs.Calls.AlikeWork.{AlikeItem, Runs, Cuts, Restores, Tries, Binds, Loops, Repeats, Leaves, Closes, Closings, Joins, ShutReaders, ShutWriters, Lockings, Unlocks, Usings, Puts, Resolves, AlikeWork}

keeps_self : (texts : List (List ℕ)) → Keeps texts texts
keeps_self texts = record { has = λ id has. has; same = λ id has. refl }

keeps_then : {old mid new : List (List ℕ)} → Keeps old mid → Keeps mid new → Keeps old new
keeps_then first second = record {
  has = λ id has. second.has id (first.has id has);
  same = λ id has. second.same id (first.has id has) ∙ first.same id has;
}

pub at_once : (t : Tables) → IsLater t t
at_once t = record { one = keeps_self t.one; other = keeps_self t.other }

pub and_later : {t u v : Tables} → IsLater t u → IsLater u v → IsLater t v
and_later first second = record { one = keeps_then first.one second.one; other = keeps_then first.other second.other }

-- ## Lists

pub lists_by : {X : Type 0} {R S : X → X → Type 0} → ((a b : X) → R a b → S a b) → {these those : List X} → AlikeLists R these those
    → AlikeLists S these those
lists_by by Ends = Ends
lists_by by (Goes {a = a} {b = b} first others) = Goes (by a b first) (lists_by by others)

-- ## Values and exceptions

pub text_later : {t u : Tables} → IsLater t u → (a b : TextId) → IsSameText t a b → IsSameText u a b
text_later later a b same = (later.one.has a same.0, later.other.has b same.1, later.one.same a same.0 ∙ (same.2 ∙ sym (later.other.same b same.1)))

pub value_later : {t u : Tables} → IsLater t u → {a b : Value} → AlikeValue t a b → AlikeValue u a b
value_later later Units = Units
value_later later (Numbers z) = Numbers z
value_later later (Texts {a = a} {b = b} same) = Texts (text_later later a b same)
value_later later (Contexts number) = Contexts number
value_later later (Switches number) = Switches number

pub plain_later : {t u : Tables} → IsLater t u → {a b : Plain} → AlikePlain t a b → AlikePlain u a b
plain_later later (Failures {a = a} {b = b} same) = Failures (text_later later a b same)
plain_later later (Invalids why) = Invalids why
plain_later later EndsOfFile = EndsOfFile
plain_later later BufferLimits = BufferLimits
plain_later later Poisonings = Poisonings
plain_later later Exits = Exits
plain_later later NotFirsts = NotFirsts
plain_later later (Paths fault {a = a} {b = b} same) = Paths fault (text_later later a b same)

pub raised_later : {t u : Tables} → IsLater t u → {a b : Raised} → AlikeRaised t a b → AlikeRaised u a b
raised_later later (Ones alike) = Ones (plain_later later alike)
raised_later later (Cancellations alike) = Cancellations (plain_later later alike)
raised_later later (Multiples members cut) = Multiples (lists_by (λ a b one. plain_later later one) members) cut

pub outcome_later : {t u : Tables} → IsLater t u → {a b : Outcome} → AlikeOutcome t a b → AlikeOutcome u a b
outcome_later later (Oks alike) = Oks (value_later later alike)
outcome_later later (Errs alike) = Errs (raised_later later alike)

-- ## Work

pub variables_later : {t u : Tables} → IsLater t u → {sight : Sight} {these those : List Value} → AlikeVariables sight t these those
    → AlikeVariables sight u these those
variables_later later alike = record { as_many = alike.as_many; in_scope = λ slot sees. value_later later (alike.in_scope slot sees) }

pub item_later : {t u : Tables} → IsLater t u → {sight : Sight} {a b : Work} → AlikeItem sight t a b → AlikeItem sight u a b
item_later later (Runs items sees) = Runs items sees
item_later later (Cuts keep) = Cuts keep
item_later later (Restores alike) = Restores (variables_later later alike)
item_later later (Tries handler keep sees) = Tries handler keep sees
item_later later (Binds slot) = Binds slot
item_later later (Loops body keep sees) = Loops body keep sees
item_later later (Repeats turn left body keep sees) = Repeats turn left body keep sees
item_later later (Leaves context late keep) = Leaves context late keep
item_later later (Closes switch keep) = Closes switch keep
item_later later (Closings switch alike) = Closings switch (value_later later alike)
item_later later (Joins group keep) = Joins group keep
item_later later (ShutReaders reader keep) = ShutReaders reader keep
item_later later (ShutWriters writer keep) = ShutWriters writer keep
item_later later (Lockings mutex body sees) = Lockings mutex body sees
item_later later (Unlocks mutex keep) = Unlocks mutex keep
item_later later (Usings pool body sees) = Usings pool body sees
item_later later (Puts pool resource keep) = Puts pool resource keep
item_later later (Resolves promise) = Resolves promise

pub work_later : {t u : Tables} → IsLater t u → {sight : Sight} {these those : List Work} → AlikeWork sight t these those
    → AlikeWork sight u these those
work_later later alike = lists_by (λ a b one. item_later later one) alike

pub work_behind : {sight : Sight} {t : Tables} {these those more further : List Work} → AlikeWork sight t these those → AlikeWork sight t more further
    → AlikeWork sight t (these ++ more) (those ++ further)
work_behind Ends others = others
work_behind (Goes first rest) others = Goes first (work_behind rest others)
