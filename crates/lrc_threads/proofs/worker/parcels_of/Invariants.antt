use Rattle.std.proofs.Common.{◌≡◌, take, map}
use Rattle.std.specs.Prelude.{All}
use Rattle.lrc_threads.specs.Worker.{IsShort, shown, shown_sent}
use Rattle.lrc_threads.proofs.worker.parcels_of.Given as goal

-- the parcels so far, none of which is too long
abbrev pub invariant-loop-envelope : goal.invariant-loop-envelope
invariant-loop-envelope l = record {
  shown : map shown l.parcels.items ≡ map (shown_sent l.stamp) (take l.envelope-index l.out);
  short : All IsShort (take l.envelope-index l.out);
}
