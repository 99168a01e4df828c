-- What is known to the node of an interval before it closes the interval weighs less than the interval.
use Rattle.std.proofs.Common.{◌≡◌, ℕ, ◌+◌, ◌<◌, ◌≤◌, List, length, sym, subst, ap, ◌∙◌, arith}
use Rattle.std.specs.Prelude.{Some, slice_get}
use Rattle.std.proofs.lemmas.Option.{slice_get_within}
use Rattle.lrc_trace.specs.declared.act.Act.{Act}
use Rattle.lrc_trace.specs.declared.act.Deed.{Deed}
use Rattle.lrc_trace.specs.Run.{Does}
use Rattle.lrc_trace.specs.Synchronization.{IsWellSynchronized}
use Rattle.lrc_trace.proofs.Positions.{Does-within}
use Rattle.lrc_time.specs.Time.{entry, Covers, weight_of}
use Rattle.lrc_time.proofs.Times.{weight-covers, weight-raised}
use Rattle.lrc_clock.specs.Times.{time_at, time_before, stamp_at}
use Rattle.lrc_clock.specs.Keeping.{KeepsTime}
use Rattle.lrc_clock.specs.Cover.{ClosesAt}
use Rattle.lrc_clock.proofs.Rules.{long-before, stamp-covers}
use Rattle.lrc_clock.proofs.Counting.{own_entry_before}
use Rattle.lrc_clock.proofs.Stamps.{cut_at, cut_before}
use Rattle.lrc_clock.proofs.Ordering.{closed_once}
use Rattle.lrc_exact.specs.LocalRule.{state_before}
use Rattle.lrc_exact.specs.Memory.{Interval}
use Rattle.lrc_exact.specs.Rule.{Shape, State, exact_rule, KeepsExact}
use Rattle.lrc_exact_known.specs.Known.{times_of}
use Rattle.lrc_exact_known.proofs.KeepingTime.{before-time, time-there, times-kept}
use Rattle.lrc_exact_known.proofs.Made.{did_there}

module _ (shape : Shape) (run : List Act) (states : List State) (keeps : KeepsExact shape run states) (ws : IsWellSynchronized shape.nodes run)
    (j node : ℕ) (deed : Deed) (state : State) (does : Does run j node deed) (stands : slice_get states j ≡ Some state) where
  timed : KeepsTime shape.nodes run (times_of states)
  timed = times-kept shape run states keeps

  -- a known interval's weight is that of what its node knew before, and one
  weighs : (q index i : ℕ) → 1 ≤ index → index ≤ entry state.knows.time q → ClosesAt run q index i
      → (state.knows.interval q index).weight ≡ weight_of (time_before shape.nodes run (times_of states) q i) + 1
  weighs q index i some known closing =
      let inside = Does-within closing.does in
      ap (λ (x : Interval). x.weight) (did_there shape run states keeps j state q index i stands some known closing)
      ∙ ap (λ t. weight_of t + 1) (sym (before-time shape run states keeps q i (omega arith)))

  pub weighs_less : (other index i p m : ℕ) → 1 ≤ index → index ≤ entry state.knows.time other → ClosesAt run other index i
      → 1 ≤ m → m ≤ entry (state_before (exact_rule shape) run states other i).knows.time p
      → (state.knows.interval p m).weight < (state.knows.interval other index).weight
  weighs_less other index i p m some known closing some' known' =
      let time : time_at (times_of states) j ≡ state.knows.time = time-there states j state stands in
      let (e, closing', least, above) = cut_at timed ws j node deed other index does some (subst (λ t. index ≤ entry t other) (sym time) known) in
      let same = closed_once run other index i e closing closing' in
      let inside = Does-within closing.does in
      let before : (state_before (exact_rule shape) run states other i).knows.time ≡ time_before shape.nodes run (times_of states) other i =
      sym (before-time shape run states keeps other i (omega arith)) in
      let known_before : m ≤ entry (time_before shape.nodes run (times_of states) other i) p = subst (λ t. m ≤ entry t p) before known' in
      let (c, closing'', earlier, covers) = cut_before timed ws i other p m some' known_before in
      let above_stamp = above p in
      let stamp = stamp-covers timed other e p in
      let entries : entry (time_before shape.nodes run (times_of states) other i) p ≡ entry (time_before shape.nodes run (times_of states) other e) p =
      ap (λ k. entry (time_before shape.nodes run (times_of states) other k) p) same in
      let state_time : entry (time_at (times_of states) j) p ≡ entry state.knows.time p = ap (λ t. entry t p) time in
      let first = weighs p m c some' (omega arith) closing'' in
      let second = weighs other index i some known closing in
      let in_range = timed.in_range c p closing''.deed closing''.does in
      let long = long-before timed p c in
      let raised = weight-raised (time_before shape.nodes run (times_of states) p c) p (entry (time_before shape.nodes run (times_of states) p c) p + 1)
      (omega arith) in
      let heavier = weight-covers (time_before shape.nodes run (times_of states) other i) (stamp_at shape.nodes run (times_of states) p c) covers in
      omega arith

  pub rises : (other index later : ℕ) → 1 ≤ index → index < later → later ≤ entry state.knows.time other
      → (state.knows.interval other index).weight < (state.knows.interval other later).weight
  rises other index later some less known =
      let time : time_at (times_of states) j ≡ state.knows.time = time-there states j state stands in
      let (i, closing, least, above) = cut_at timed ws j node deed other later does (omega arith) (subst (λ t. later ≤ entry t other) (sym time) known) in
      let inside = Does-within closing.does in
      let own = own_entry_before timed i other (omega arith) in
      let number = closing.interval in
      let before : entry (time_before shape.nodes run (times_of states) other i) other
      ≡ entry (state_before (exact_rule shape) run states other i).knows.time other =
      ap (λ t. entry t other) (before-time shape run states keeps other i (omega arith)) in
      weighs_less other later i other index (omega arith) known closing some (omega arith)
