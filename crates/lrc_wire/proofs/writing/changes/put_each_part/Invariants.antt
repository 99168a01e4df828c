use Rattle.std.proofs.Common.{◌≡◌, ◌++◌, take}
use Rattle.std.specs.Prelude.{All}
use Rattle.std.specs.List.{flat_map}
use Rattle.lrc_wire.specs.declared.version.Version.TheVariants.{Two}
use Rattle.lrc_wire.specs.Ranges.{FitPart}
use Rattle.lrc_wire.specs.Runs.{runs_of}
use Rattle.lrc_wire.specs.Spelling.{part}
use Rattle.lrc_wire.proofs.writing.changes.put_each_part.Given as goal

abbrev pub invariant-loop-item : goal.invariant-loop-item
invariant-loop-item l = record {
  written : l.out.items ≡ l.fn.out.items ++ flat_map (part Two runs_of) (take l.item-index l.list);
  each : All (FitPart Two) (take l.item-index l.list);
}
