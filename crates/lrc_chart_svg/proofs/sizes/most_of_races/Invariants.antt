use Rattle.std.proofs.Common.{◌≡◌, take}
use Rattle.std.specs.Prelude.{fold, max}
use Rattle.lrc_chart_svg.specs.Flow.{letters}
use Rattle.lrc_chart_svg.proofs.sizes.most_of_races.Given as goal

abbrev pub invariant-loop-race : goal.invariant-loop-race
invariant-loop-race l = l.most ≡ fold (λ most race. max most (letters race.label.items)) 0 (take l.race-index l.picture.races.items)
