-- What a segment knows of a trace, across epochs.
use Rattle.std.proofs.Common.{ℕ, ◌<◌, ◌≤◌, ⊎_elim, arith}
use Rattle.std.proofs.lemmas.Bool.{cases_lt}
use Rattle.lrc_time.specs.Time.{Covers}
use Rattle.lrc_trace.specs.declared.trace.Segment.{Segment}
use Rattle.lrc_trace.specs.Trace.{TraceRecord}
use Rattle.lrc_race.specs.Epochs.{AgreesFrom, AgreesWith, KnowsBelow}
use Rattle.lrc_race.proofs.Stretches.{at_contains, contains_at}

-- what is known before a number, and agrees from it on, agrees
pub agrees-known : (a : TraceRecord) (t : Segment) (n : ℕ) → KnowsBelow a t n → AgreesFrom a t n → AgreesWith a t
agrees-known a t n known from s there earlier =
    let (k, is) = contains_at a.segments s there in
    ⊎_elim (λ (low : k < n). known k s low is) (λ (high : n ≤ k). from k s high is earlier) (cases_lt k n)

-- and the reverse
pub agrees-whole : (a : TraceRecord) (t : Segment) (n : ℕ) → AgreesWith a t → AgreesFrom a t n
agrees-whole a t n whole k s high is earlier = whole s (at_contains a.segments k s is) earlier

-- what is known stays known to a time that covers
pub known-later : (a : TraceRecord) (t later : Segment) (n : ℕ) → Covers later.time t.time → KnowsBelow a t n → KnowsBelow a later n
known-later a t later n covers known k s low is = omega (arith, known k s low is, covers a.node)
