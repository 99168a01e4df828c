use Rattle.std.proofs.Common.{◌≡◌, []}
use Rattle.std.specs.Prelude.{replicate}
use Rattle.lrc_text.specs.Parts.{texts_of}
use Rattle.lrc_report.proofs.report.empty_parts.Given as goal

abbrev pub invariant-loop-node : goal.invariant-loop-node
invariant-loop-node l = texts_of l.parts.items ≡ replicate l._node []
