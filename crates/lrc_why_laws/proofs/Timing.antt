-- The time that is told is that of the node.
use Rattle.std.proofs.Common.{◌≡◌, ℕ, ◌+◌, ◌<◌, List, Some, length, get_or, refl, sym, ◌∙◌, arith}
use Rattle.std.specs.Prelude.{slice_get}
use Rattle.std.proofs.lemmas.Grind.{same_number_lists}
use Rattle.std.proofs.lemmas.List.Kept.{AllPairs-from_increasing}
use Rattle.std.proofs.lemmas.Option.{slice_get-get_or}
use Rattle.lrc_trace.specs.declared.act.Act.{Act}
use Rattle.lrc_trace.specs.declared.act.Deed.{Deed}
use Rattle.lrc_trace.specs.Run.{Does}
use Rattle.lrc_trace.specs.Interval.{interval_at}
use Rattle.lrc_trace.specs.Synchronization.{IsWellSynchronized}
use Rattle.lrc_trace.proofs.Intervals.{never_fall, next_behind_close}
use Rattle.lrc_time.specs.Time.{entry}
use Rattle.lrc_clock.specs.Cover.{ClosesAt}
use Rattle.lrc_clock.specs.Keeping.{KeepsTime}
use Rattle.lrc_clock.specs.Times.{time_at}
use Rattle.lrc_clock.proofs.Covering.{complete, sound}
use Rattle.lrc_clock.proofs.Rules.{long}
use Rattle.lrc_why_chains.specs.Writes.{AreExactly}
use Rattle.lrc_why.specs.declared.reasons.Reasons.{Reasons}
use Rattle.lrc_why.specs.Known.{CountsClosed}
use Rattle.lrc_why.specs.Positions.{IsClosed}
use Rattle.lrc_why.specs.Whole.{AreReasons}
use Rattle.lrc_why_laws.proofs.Counting.{StandFor, as_many}

module _ {nodes : ℕ} {run : List Act} {times : List (List ℕ)} (keeps : KeepsTime nodes run times) (sync : IsWellSynchronized nodes run)
    (node position : ℕ) (deed : Deed) (does : Does run position node deed) (q : ℕ) where
  closed-index : (i : ℕ) → IsClosed run q position i → ClosesAt run q (interval_at run q i) i
  closed-index i closed = record { deed = closed.deed; does = closed.does; closing = closed.closes; interval = refl }

  rises : (i j : ℕ) → IsClosed run q position i → i < j → interval_at run q i < interval_at run q j
  rises i j closed lt =
      let next = next_behind_close run q i closed.deed closed.does closed.closes in
      let le = never_fall run q (i + 1) j (omega arith) in
      omega arith

  -- the closing acts that are known stand for the intervals that the time has
  stand_for : (closed : List ℕ) → AreExactly (IsClosed run q position) closed
      → StandFor (interval_at run q) closed 1 (entry (time_at times position) q)
  stand_for closed are = record {
    rises = λ i j h g lt. rises i j ((are.exact i).0 h) lt;
    from = λ i h. omega arith;
    below = λ i h.
        let is = (are.exact i).0 h in
        let le = complete keeps sync position q (interval_at run q i) (i, closed-index i is, is.reaches) in
        omega arith;
    each = λ k low high.
        let (i, at, reaches) = sound keeps position node deed q k does low (omega arith) in
        (i, (are.exact i).1 (record { deed = at.deed; does = at.does; closes = at.closing; reaches = reaches }), at.interval);
  }

  pub counted : (count : ℕ) → CountsClosed run q position count → count ≡ entry (time_at times position) q
  counted count (closed, are, is) =
      is ∙ as_many (interval_at run q) closed 1 (entry (time_at times position) q) (AllPairs-from_increasing closed are.ascending) (stand_for closed are)

-- the whole time
pub time_is : {nodes : ℕ} {run : List Act} {times : List (List ℕ)} → KeepsTime nodes run times → IsWellSynchronized nodes run
    → (position : ℕ) (reasons : Reasons) → AreReasons run nodes position reasons → reasons.time.items ≡ time_at times position
time_is {nodes} {run} {times} keeps sync position reasons are =
    let time = time_at times position in
    let long_is : length time ≡ nodes = long keeps position are.node are.deed are.does in
    same_number_lists reasons.time.items time (are.time.all ∙ sym long_is) (λ q lt.
    let one : slice_get reasons.time.items q ≡ Some (get_or reasons.time.items q 0) = slice_get-get_or reasons.time.items q 0 lt in
    counted keeps sync are.node position are.deed are.does q (get_or reasons.time.items q 0) (are.time.each q (get_or reasons.time.items q 0) one))
