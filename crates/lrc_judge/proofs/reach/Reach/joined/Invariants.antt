use Rattle.std.proofs.Common.{◌≡◌, ℕ, ◌<◌, ◌≤◌, length, max, get_or}
use Rattle.lrc_judge.proofs.reach.Reach.joined.Given as goal

-- below the node the greater of the two, and from it on still its own
abbrev pub invariant-loop-node : goal.invariant-loop-node
invariant-loop-node l = record {
  full : length l.latest ≡ 16;
  done : (p : ℕ) → p < l.node → get_or l.latest p 0 ≡ max (get_or l.fn.self.latest p 0) (get_or l.other.latest p 0);
  rest : (p : ℕ) → l.node ≤ p → get_or l.latest p 0 ≡ get_or l.fn.self.latest p 0;
}
