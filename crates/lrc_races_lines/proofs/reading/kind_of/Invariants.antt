-- The text is none of the words so far.
use Rattle.std.proofs.Common.{◌≡◌, ℕ, ◌<◌, get_or}
use Rattle.lrc_races_lines.specs.declared.line.Kind.{Kind}
use Rattle.lrc_races_lines.specs.declared.reading.TheConstants.{KINDS}
use Rattle.lrc_races_lines.specs.Line.{word}
use Rattle.lrc_races_lines.proofs.reading.kind_of.Given as goal

abbrev pub invariant-loop-kind : goal.invariant-loop-kind
invariant-loop-kind l = (k : ℕ) (d : Kind) → k < l.kind-index → l.text ≡ word (get_or KINDS k d) → ⊥
