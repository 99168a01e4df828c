use Rattle.std.proofs.Common.{◌≡◌, drop, map}
use Rattle.lrc_labels.specs.Sizes.{fills, sizes_of}
use Rattle.lrc_labels.proofs.sizes.fills.Given as goal

-- the rows of the sizes so far are to be whole rows of those that are left
abbrev pub invariant-loop-field : goal.invariant-loop-field
invariant-loop-field l =
    fills l.rows (drop l.field-index (sizes_of (map (λ size. size.now) l.sizes))) ≡ fills l.count (sizes_of (map (λ size. size.now) l.sizes))
