use Rattle.std.proofs.Common.{◌≡◌, ◌<◌, ◌≤◌, ℕ, [], length, take, get_or, vec_len}
use Rattle.std.specs.List.{flat_map}
use Rattle.lrc_trace.specs.declared.end.End.TheVariants.{Ended}
use Rattle.lrc_text.specs.Parts.{texts_of}
use Rattle.lrc_report.specs.ReportText.{line_of_act, node_text}
use Rattle.lrc_report.proofs.report.report_parts.Given as goal

abbrev pub invariant-loop-act : goal.invariant-loop-act
invariant-loop-act l = record {
  many : vec_len l.parts ≡ length l.ends;
  prints : (k : ℕ) → k < length l.ends → get_or (texts_of l.parts.items) k [] ≡ flat_map (line_of_act k) (take l.act-index l.acts);
}

abbrev pub invariant-loop-node : goal.invariant-loop-node
invariant-loop-node l = record {
  many : vec_len l.parts ≡ length l.ends;
  ended : (k : ℕ) → k < l.node → get_or (texts_of l.parts.items) k [] ≡ node_text l.acts k (get_or l.ends k Ended);
  printed : (k : ℕ) → l.node ≤ k → k < length l.ends → get_or (texts_of l.parts.items) k [] ≡ flat_map (line_of_act k) l.acts;
}
