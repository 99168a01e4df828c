-- The name of the path so far.
use Rattle.std.proofs.Common.{◌≡◌, take}
use Rattle.lrc_cli_runs.specs.Stated.{name_of}
use Rattle.lrc_cli_runs.proofs.stated.name_of.Given as goal

abbrev pub invariant-loop-byte : goal.invariant-loop-byte
invariant-loop-byte l = l.name.items ≡ name_of (take l.byte-index l.path)
