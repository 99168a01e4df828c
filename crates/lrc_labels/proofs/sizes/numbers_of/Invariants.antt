use Rattle.std.proofs.Common.{◌≡◌, take, map}
use Rattle.lrc_labels.specs.Sizes.{sizes_of}
use Rattle.lrc_labels.proofs.sizes.numbers_of.Given as goal

-- the sizes so far
abbrev pub invariant-loop-field : goal.invariant-loop-field
invariant-loop-field l = l.numbers.items ≡ take l.field-index (sizes_of (map (λ size. size.now) l.sizes))
