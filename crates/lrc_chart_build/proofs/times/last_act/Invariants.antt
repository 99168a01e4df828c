use Rattle.std.proofs.Common.{◌≡◌, take}
use Rattle.lrc_chart_build.specs.Words.{last_act}
use Rattle.lrc_chart_build.proofs.times.last_act.Given as goal

-- the last act in the rows so far
abbrev pub invariant-loop-place : goal.invariant-loop-place
invariant-loop-place l = l.last ≡ last_act l.acts l.node (take l.place-index l.places)
