use Rattle.std.proofs.Common.{◌≡◌, take}
use Rattle.std.specs.Prelude.{fold, max}
use Rattle.lrc_chart_svg.specs.Flow.{letters}
use Rattle.lrc_chart_svg.specs.Sizes.{most_of_races}
use Rattle.lrc_chart_svg.proofs.sizes.most_below.Given as goal

abbrev pub invariant-loop-words : goal.invariant-loop-words
invariant-loop-words l =
    l.most ≡ fold (λ most words. max most (letters words.items)) (most_of_races l.picture) (take l.words-index l.picture.deadlocks.items)
