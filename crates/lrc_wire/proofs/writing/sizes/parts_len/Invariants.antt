use Rattle.std.proofs.Common.{◌≡◌, ◌+◌, ◌≤◌, length, take}
use Rattle.std.specs.List.{flat_map}
use Rattle.lrc_wire.specs.declared.limits.TheConstants.{MOST_BODY_BYTES}
use Rattle.lrc_wire.specs.declared.version.Version.TheVariants.{Two}
use Rattle.lrc_wire.specs.Runs.{runs_of}
use Rattle.lrc_wire.specs.Spelling.{part}
use Rattle.lrc_wire.proofs.writing.sizes.parts_len.Given as goal

abbrev pub invariant-loop-item : goal.invariant-loop-item
invariant-loop-item l = record {
  exact : l.len ≡ 6 + length (flat_map (part Two runs_of) (take l.item-index l.list));
  small : l.len ≤ MOST_BODY_BYTES;
}
