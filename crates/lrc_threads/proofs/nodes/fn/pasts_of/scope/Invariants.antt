use Rattle.std.proofs.Common.{◌≡◌, ◌≤◌, length, map}
use Rattle.lrc_node.specs.Options.{options_of}
use Rattle.lrc_threads.specs.Threads.{AreOwed}
use Rattle.lrc_threads.proofs.nodes.fn.pasts_of.scope.Given as goal

-- the threads so far owe the pasts of the nodes so far
abbrev pub invariant-loop-me : goal.invariant-loop-me
invariant-loop-me g l = record {
  count : length l.threads.items ≡ l.me;
  owed : AreOwed l.program l.setting.now.nodes.count (options_of l.setting.now) (map (λ handle. handle.promise) l.threads.items);
  few : l.me ≤ l.setting.now.nodes.count;
}
