-- What is kept of a domain that has just started stands for the opening domain of the definitions.
use Rattle.std.proofs.Common.{◌≡◌, ℕ, zero, suc, ◌*◌, ◌^◌, ◌<◌, Bool, false, List, [], ◌∷◌, length, Option, Some, None, refl, ap, ap₂, ◌∙◌, sym, subst}
use Rattle.std.specs.Prelude.{slice_get}
use Rattle.std.specs.Option.{unwrap_or}
use Rattle.spec_parts.specs.ContextCalls.{Contexts, Root, no_contexts, called}
use Rattle.spec_parts.specs.Groups.{Group}
use Rattle.spec_parts.specs.Switches.{Switch}
use Rattle.fiber_step.specs.Framing.{KeptFrames, position_of}
use Rattle.fiber_step.specs.Placing.{ArePlaced}
use Rattle.script_forms.specs.Flat.{nodes_of}
use Rattle.script_code.specs.Standing.{block_at}
use Rattle.script_forms.specs.declared.node.Node.{Node}
use Rattle.spec_script.specs.Opening.{opening_texts}
use Rattle.spec_script.specs.Scripts.{Script}
use Rattle.spec_script.specs.Syntax.{Block, Begins, Done}
use Rattle.spec_fiber.specs.Replies.{Position, begun}
use Rattle.spec_machine.specs.Domain.{Duty, OfBody, fiber_at}
use Rattle.spec_machine.specs.Mock.{opening_domain}
use Rattle.law_domain.specs.Sound.Laws.{body_of}
use Rattle.domain_strikes.proofs.Waiting.Parts.{calls_in_step}
use Rattle.law_domain.specs.Well.WellStates.{IsRunnable}
use Rattle.law_domain.proofs.Well.Standing.{opens_well}
use Rattle.domain_core.specs.Keeping.{KeptFiber, KeptDomain, kept_at, new_fiber}
use Rattle.domain_core.specs.Mirrors.{IsKept, Mirrors}
use Rattle.domain_core.specs.Turns.{Starts}

-- what is kept of it but for its counts
pub record Beginning : Type 0 where
  pub fibers : List (Option KeptFiber)
  pub ready : List ℕ
  pub owed : List Duty
  pub contexts : Contexts
  pub switches : List Switch
  pub groups : List Group
  pub serial : ℕ

abbrev pub started : (number budget : ℕ) (mocked : Bool) → Beginning → KeptDomain
started number budget mocked it = record {
  number = number;
  fibers = it.fibers;
  came = None;
  ready = it.ready;
  owed = it.owed;
  contexts = it.contexts;
  switches = it.switches;
  groups = it.groups;
  serial = it.serial;
  stamp = 0;
  lines = 0;
  budget = budget;
  halted = false;
  mocked = mocked;
}

-- with a body that runs these frames
abbrev pub beginning : (number : ℕ) → KeptFrames → Beginning
beginning number frames = record {
  fibers = Some (new_fiber 0 0 OfBody frames) ∷ [];
  ready = 0 ∷ [];
  owed = [];
  contexts = called Root no_contexts;
  switches = [];
  groups = [];
  serial = number * 2 ^ 56;
}

pub beginning_is : (number : ℕ) (frames : KeptFrames) (fibers : List (Option KeptFiber)) (ready : List ℕ) (owed : List Duty) (contexts : Contexts) (switches : List Switch) (groups : List Group) (serial : ℕ)
    → fibers ≡ Some (new_fiber 0 0 OfBody frames) ∷ [] → ready ≡ 0 ∷ [] → owed ≡ [] → contexts ≡ called Root no_contexts → switches ≡ [] → groups ≡ [] → serial ≡ number * 2 ^ 56
    → record { fibers = fibers; ready = ready; owed = owed; contexts = contexts; switches = switches; groups = groups; serial = serial } ≡ beginning number frames
beginning_is number frames fibers ready owed contexts switches groups serial are_fibers are_ready are_owed are_contexts are_switches are_groups is_serial = (
    let at : List (Option KeptFiber) → List ℕ → List Duty → Contexts → List Switch → List Group → ℕ → Beginning =
    λ f r o c s g n. record { fibers = f; ready = r; owed = o; contexts = c; switches = s; groups = g; serial = n } in
    ap₂ (λ f r. at f r owed contexts switches groups serial) are_fibers are_ready
    ∙ (ap₂ (λ o c. at (Some (new_fiber 0 0 OfBody frames) ∷ []) (0 ∷ []) o c switches groups serial) are_owed are_contexts
    ∙ (ap₂ (λ s g. at (Some (new_fiber 0 0 OfBody frames) ∷ []) (0 ∷ []) [] (called Root no_contexts) s g serial) are_switches are_groups
    ∙ ap (λ n. at (Some (new_fiber 0 0 OfBody frames) ∷ []) (0 ∷ []) [] (called Root no_contexts) [] [] n) is_serial)))

module _ (nodes : List Node) (texts : List (List ℕ)) (number : ℕ) (block : Block) (frames : KeptFrames) (position : position_of nodes frames ≡ begun block []) (placed : ArePlaced nodes frames.items)
    (budget : ℕ) (mocked : Bool) where
  each : (g : ℕ) → IsKept nodes g (kept_at (Some (new_fiber 0 0 OfBody frames) ∷ []) g) (fiber_at (opening_domain number texts block).fibers g)
  each zero = record {
    number = refl;
    context = refl;
    role = refl;
    standing = refl;
    lives = refl;
    work = ap (λ (p : Position). p.work) (sym position);
    variables = ap (λ (p : Position). p.variables) (sym position);
    placed = placed;
  }
  each (suc g) = refl

  starts_mirrors : Mirrors nodes texts (started number budget mocked (beginning number frames)) (opening_domain number texts block)
  starts_mirrors = record {
    number = refl;
    count = refl;
    fibers = each;
    came = refl;
    ready = refl;
    duties = refl;
    contexts = calls_in_step.starts number texts block;
    switches = refl;
    groups = refl;
    texts = refl;
    serial = refl;
    stamp = refl;
    lines = refl;
    halted = refl;
  }

module _ (script : Script) (runnable : IsRunnable script) (body : ℕ) (below : body < length script.bodies) (budget : ℕ) (mocked : Bool)
    (frames : KeptFrames) (position : position_of (nodes_of script) frames ≡ begun (body_of script body) []) (placed : ArePlaced (nodes_of script) frames.items) where
  pub starts : (it : Beginning) → it ≡ beginning body frames → Starts script body budget mocked (started body budget mocked it)
  starts it same =
      subst (λ (b : Beginning). Starts script body budget mocked (started body budget mocked b)) (sym same)
      (record {
        stands = record {
          mirrors = starts_mirrors (nodes_of script) (opening_texts script) body (body_of script body) frames position placed budget mocked;
          well = λ going. opens_well script body runnable below;
        };
        number = refl;
        budget = refl;
        mocked = refl;
        stamp = refl;
        lines = refl;
      })

-- the block of a body is that of its first node
pub body_block : (script : Script) (body node : ℕ) → slice_get script.bodies body ≡ Some (block_at (nodes_of script) node) → block_at (nodes_of script) node ≡ body_of script body
body_block script body node begins = ap (λ (o : Option Block). unwrap_or o (Begins 0 Done)) (sym begins)
