-- The parts so far are joined.
use Rattle.std.proofs.Common.{◌≡◌, take}
use Rattle.lrc_text.specs.Parts.{whole_text}
use Rattle.lrc_cli_runs.proofs.stated.joined.Given as goal

abbrev pub invariant-loop-part : goal.invariant-loop-part
invariant-loop-part l = l.text.items ≡ whole_text (take l.part-index l.parts)
