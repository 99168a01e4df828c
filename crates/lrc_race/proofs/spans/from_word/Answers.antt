use Rattle.std.proofs.Common.{rules, of_calls, ltb, length, arith}
use Rattle.std.proofs.lemmas.Fn.{always_returns_same}
use Rattle.std.proofs.lemmas.List.Sorted.{IsPartitionedBy-ltb}
use Rattle.std.proofs.lemmas.Slice.{between_to_end}
use Rattle.lrc_race.proofs.Parts.{rest-part-words, words-rise}
use Rattle.lrc_race.proofs.spans.from_word.Goals as goal

pub returns : goal.returns
returns c =
    let places = c.args.places.now in
    let word = c.args.word in
    let start = c.partition_point-start.result in
    let parted =
    c.partition_point-start.ensures.partitioned (λ p. ltb p.word word) (always_returns_same _ _ _ (λ a r f k. search (rules, of_calls)))
    (IsPartitionedBy-ltb (λ p. p.word) places word (words-rise places c.requires)) in
    rw (between_to_end places start (length places) (omega arith)) (rest-part-words places word start c.requires parted.0)
