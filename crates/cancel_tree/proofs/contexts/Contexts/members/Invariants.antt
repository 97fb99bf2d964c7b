use Rattle.std.proofs.Common.{◌≡◌, ◌≤◌, ◌+◌, ◌++◌, length, map, vec_len, vec_capacity}
use Rattle.std.specs.VecDeque.Iter.{deque_iter_rest}
use Rattle.spec_parts.specs.Contexts.{reached}
use Rattle.cancel_tree.specs.Entered.{waiting_of}
use Rattle.cancel_tree.proofs.contexts.Contexts.members.Given as goal

abbrev pub invariant-loop-waiting : goal.invariant-loop-waiting
invariant-loop-waiting l = record {
  items : l.out.items ++ reached l.self.made (map waiting_of (deque_iter_rest l.waiting-iterator)) l.c ≡ l.fn.out.items ++ reached l.self.made l.self.waiting l.c;
  len : vec_len l.out + length (deque_iter_rest l.waiting-iterator) ≤ vec_len l.fn.out + 1024;
  capacity : vec_capacity l.fn.out ≤ vec_capacity l.out;
  room : vec_len l.fn.out + 1024 ≤ vec_capacity l.out;
}
