use Rattle.std.proofs.Common.{◌≡◌, ◌++◌, map, take}
use Rattle.lrc_step.specs.EndLines.{circles_text}
use Rattle.lrc_step.proofs.end_lines.push_circles.Given as goal

-- the circles so far
abbrev pub invariant-loop-place : goal.invariant-loop-place
invariant-loop-place l = l.text.items ≡ l.initial.text.items ++ circles_text (take l.place (map (λ one. one.items) l.circles))
