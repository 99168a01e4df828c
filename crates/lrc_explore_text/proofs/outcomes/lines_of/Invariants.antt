use Rattle.std.proofs.Common.{◌≡◌, map, take}
use Rattle.lrc_text.specs.Parts.{texts_of}
use Rattle.lrc_explore_text.specs.Outcomes.{outcome_line}
use Rattle.lrc_explore_text.proofs.outcomes.lines_of.Given as goal

-- the lines of the outcomes so far
abbrev pub invariant-loop-outcome : goal.invariant-loop-outcome
invariant-loop-outcome l = texts_of l.lines.items ≡ map (λ outcome. outcome_line l.nodes outcome.notes.items) (take l.outcome-index l.outcomes)
