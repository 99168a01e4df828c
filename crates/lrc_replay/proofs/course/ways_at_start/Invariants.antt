use Rattle.std.proofs.Common.{◌≡◌, map}
use Rattle.std.specs.Prelude.{All}
use Rattle.std.specs.List.{range_with_len}
use Rattle.lrc_exec.specs.Plain.{start_of}
use Rattle.lrc_private_names.specs.Ways.{IsOnWay, thread_of}
use Rattle.lrc_replay.proofs.course.ways_at_start.Given as goal

-- the nodes so far
abbrev pub invariant-loop-me : goal.invariant-loop-me
invariant-loop-me l = record {
  on : All IsOnWay l.ways.items;
  ways : map thread_of l.ways.items ≡ map (λ me. start_of l.code l.nodes me) (range_with_len 0 l.me);
}
