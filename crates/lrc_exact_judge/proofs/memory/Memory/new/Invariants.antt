use Rattle.std.proofs.Common.{◌≡◌, ◌<◌, ℕ, [], length}
use Rattle.std.specs.Prelude.{Some, None, slice_get, slice_index_or}
use Rattle.lrc_exact.specs.Rule.{Shape, state_at_start}
use Rattle.lrc_exact_copies.specs.declared.copy.NodeCopy.{NodeCopy}
use Rattle.lrc_exact_copies.specs.Copies.{CopyOf}
use Rattle.lrc_exact_copies.specs.Made.{row_of}
use Rattle.lrc_exact_judge.proofs.memory.Memory.new.Given as goal

-- the nodes so far have copies of the state in which they begin, and closed nothing
abbrev pub invariant-loop-node : goal.invariant-loop-node
invariant-loop-node l = record {
  copies_long : length l.copies.items ≡ l._node;
  made_long : length l.made.items ≡ l._node;
  copies_are : (q : ℕ) → q < l._node → (copy : NodeCopy) × (slice_get l.copies.items q ≡ Some copy)
      × ((shape : Shape) (node : ℕ) → shape.nodes ≡ l.layout.nodes → CopyOf shape node 0 0 copy (state_at_start l.layout.nodes));
  rows_are : (q : ℕ) → row_of l.made.items q ≡ [];
}

-- no lock so far was released
abbrev pub invariant-loop-lock : goal.invariant-loop-lock
invariant-loop-lock l = record {
  long : length l.released.items ≡ l._lock;
  none : (m : ℕ) → slice_index_or l.released.items m None ≡ None;
}
