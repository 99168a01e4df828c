use Rattle.std.proofs.Common.{◌≡◌, ◌≤◌, length, vec_capacity}
use Rattle.lrc_node.specs.Options.{options_of}
use Rattle.lrc_threads.specs.Threads.{AreFirstPasts}
use Rattle.lrc_threads.proofs.nodes.filled.Given as goal

-- the pasts of the nodes so far, and room for the others
abbrev pub invariant-loop-me : goal.invariant-loop-me
invariant-loop-me l = record {
  count : length l.pasts.items ≡ l.me;
  few : l.me ≤ l.setting.nodes.count;
  room : l.setting.nodes.count ≤ vec_capacity l.pasts;
  pasts : AreFirstPasts l.program l.setting.nodes.count (options_of l.setting) l.pasts.items;
}
