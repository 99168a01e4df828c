-- What is counted and what is still to come are all, and no more is counted than the numbers below what comes next.
use Rattle.std.proofs.Common.{◌≡◌, ◌≤◌, ◌+◌, ℕ, length, drop}
use Rattle.lrc_mail.specs.Spans.{spanned, AreSpansFrom}
use Rattle.lrc_mail.proofs.numbers.Numbers.count.Given as goal

abbrev pub invariant-loop-span : goal.invariant-loop-span
invariant-loop-span l =
    (count : ℕ) × (l.count ≤ count) × AreSpansFrom count (drop l.span-index l.span-items)
    × (l.count + length (spanned (drop l.span-index l.span-items)) ≡ length (spanned l.span-items))
