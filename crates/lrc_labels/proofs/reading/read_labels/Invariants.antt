use Rattle.std.proofs.Common.{◌≡◌, map, take}
use Rattle.lrc_text.specs.Each.{each}
use Rattle.lrc_labels.specs.Known.{IsKnown}
use Rattle.lrc_labels.specs.Reading.{idle_at, label_seen, labels_of}
use Rattle.lrc_labels.proofs.reading.read_labels.Given as goal

-- what the label lines of the lines so far say, and which of them say nothing
abbrev pub invariant-loop-place : goal.invariant-loop-place
invariant-loop-place l =
    (map label_seen l.known.said.items ≡ labels_of l.words l.locks (take l.place (map (λ line. line.now) l.line-items)))
    × (l.idle.items ≡ each (idle_at l.words l.locks (map (λ line. line.now) l.line-items)) (take l.place (map (λ line. line.now) l.line-items)))
    × IsKnown l.known
