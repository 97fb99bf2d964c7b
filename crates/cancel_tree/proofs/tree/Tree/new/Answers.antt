use Rattle.std.proofs.Common.{refl}
use Rattle.cancel_tree.specs.KeptContext.{contexts_in, listed}
use Rattle.cancel_tree.proofs.tree.Tree.new.Goals as goal

pub invariant_of-result : goal.invariant_of-result
unfolding contexts_in listed
invariant_of-result c =
    let items = c.in_ok-with_capacity-2.ensures.items in
    let room = c.in_ok-with_capacity-2.ensures.capacity in
    let empty = c.in_ok-with_capacity.ensures.empty in
    let big = c.in_ok-with_capacity.ensures.capacity in
    rw items record {
      tree = record {
        rise = tt;
        below = tt;
        stands = λ n place e. cc;
        live = refl;
        many = rw empty refl;
        room = big;
      };
      jumps = record { jumps = λ n place context e found jump f. cc };
      counted = refl;
      room = room;
    }

pub returns : goal.returns
unfolding contexts_in listed
returns c = refl
