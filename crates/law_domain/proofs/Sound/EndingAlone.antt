-- What follows of a sound domain, as laws.
use Rattle.law_domain.specs.Sound.Laws.{BodyEndsAlone, FibersRunInLive, HasRoomBehind, ScopesEndAlone}
use Rattle.law_domain.specs.Sound.Scopes.{scopes_of}
use Rattle.law_domain.proofs.Sound.Following.{body_childless, body_runs, context_live, room_behind, scope_childless, scope_runs}

pub scopes_end_alone : ScopesEndAlone
scopes_end_alone l scope g sound last = (
  scope_childless (scopes_of l) l.lines l sound scope g last.innermost last.nobody last.no_branch,
  scope_runs (scopes_of l) l.lines l sound scope g last.innermost last.nobody last.no_branch,
)

pub body_ends_alone : BodyEndsAlone
body_ends_alone l sound outside = (body_childless (scopes_of l) l.lines l sound outside, body_runs (scopes_of l) l.lines l sound outside)

pub fibers_run_in_live : FibersRunInLive
fibers_run_in_live l g sound lives = context_live (scopes_of l) l.lines l sound g lives

pub has_room_behind : HasRoomBehind
has_room_behind l g others sound is = room_behind (scopes_of l) l.lines l sound g others is
