-- In every run an arrival on its way tells of just the intervals that the manager expects of its sender: it would accept it now.
use Rattle.std.proofs.Common.{◌≡◌, ℕ, ◌+◌, ◌-◌, ◌<◌, ◌≤◌, List, true, length, map, refl, sym, ap, subst, ◌∙◌, inl, inr, arith}
use Rattle.std.specs.Prelude.{Option, Some, ◌==◌, Contains, slice_get, slice_index, option_map, unwrap_or}
use Rattle.std.specs.List.{range_with_len}
use lib.Pointwise.{pointwise}
use Rattle.std.proofs.lemmas.Bool.{and_from, cases_eq, eq-eqb}
use Rattle.lrc_program.specs.declared.Program.{Program}
use Rattle.lrc_time.specs.Time.{entry}
use Rattle.lrc_envelope.specs.Envelope.{EnvelopeRecord}
use Rattle.lrc_envelope.specs.Records.{ArriveRecord}
use Rattle.lrc_envelope.specs.declared.message.Message.TheVariants.{Arrive}
use Rattle.lrc_store.specs.Interval.{IntervalRecord, index_of}
use Rattle.lrc_store.specs.Store.{StoredRecord, interval_of}
use Rattle.lrc_copies.proofs.Members.{none_Contains}
use Rattle.lrc_barrier.specs.Barrier.{ManagerRecord}
use Rattle.lrc_protocol.specs.Times.{are_between}
use Rattle.lrc_protocol.specs.Barriers.{last_arrived}
use Rattle.lrc_protocol.specs.Node.{OptionsRecord}
use Rattle.lrc_protocol.specs.Turn.{are_arriving}
use Rattle.lrc_protocol.specs.Follows.{is_expected}
use Rattle.lrc_protocol.specs.Run.{Logged, World, run_of}
use Rattle.lrc_protocol.specs.Follows.{pending}
use Rattle.lrc_protocol.specs.declared.event.Event.{Event}
use Rattle.lrc_protocol.proofs.Expecting.{conditions}
use Rattle.lrc_order_laws.specs.Barriers.{accepts_arrival}
use Rattle.lrc_order_laws.proofs.Addressed.{all_addressed}
use Rattle.lrc_order_laws.proofs.AllTimely.{all_timely}
use Rattle.lrc_order_laws.proofs.BarrierExpected.{arrival_accepted}
use Rattle.lrc_order_laws.proofs.Reached.{IsReached}
use Rattle.lrc_reading_laws.specs.Made.{AllMade, intervals_in}
use Rattle.lrc_reading_laws.proofs.Arriving.ArriveWorlds.{ArrivesSo, all_arrive}
use Rattle.lrc_reading_laws.proofs.Closed.History.{History, history_of}
use Rattle.lrc_reading_laws.proofs.Asked.Departs.{IsOwn}
use Rattle.lrc_reading_laws.proofs.Asked.Expected.{asker}
use Rattle.lrc_reading_laws.proofs.Stamped.Cuts.{IsFull}
use Rattle.lrc_reading_laws.proofs.Stamped.Grants.{told_in}
use Rattle.lrc_reading_laws.proofs.Stamped.Learn.{each_from, numbers_same, news_from}
use Rattle.lrc_reading_laws.proofs.Stamped.Made.{all_made}
use Rattle.lrc_reading_laws.proofs.Stamped.Times.{all_cuts}
use Rattle.lrc_reading_laws.proofs.Stamped.Worlds.{Placed, placed}
use Rattle.lrc_reading_laws.proofs.Closed.Stored.{index_in, from_range}

-- a node's own intervals are its own, and up to the top
module _ (former top : ℕ → ℕ) (from : ℕ) (intervals : List IntervalRecord) (own : IsOwn former top from intervals) (i : IntervalRecord)
    (c : Contains intervals i) where
  pub its_own : i.node ≡ from
  its_own = elim (cases_eq from i.node) [
    | inl e ↦ sym e
    | inr ne ↦
        absurd (none_Contains (index_of i) (subst (λ ks. Contains ks (index_of i)) (own.only i.node ne) (index_in i.node intervals i c refl)))
  ]

  pub upto_top : index_of i ≤ top from
  upto_top =
      let within : (former from + 1 ≤ index_of i) × (index_of i < former from + 1 + (top from - former from)) =
      from_range (former from + 1) (top from - former from) (index_of i)
      (subst (λ ks. Contains ks (index_of i)) own.own (index_in from intervals i c its_own)) in
      let low : former from + 1 ≤ index_of i = within.0 in
      let high : index_of i < former from + 1 + (top from - former from) = within.1 in
      omega (arith, low, high)

module _ (program : Program) (nodes : ℕ) (options : OptionsRecord) (events : List Event) (world : World)
    (runs : run_of program nodes options events ≡ Some world) where
  r : IsReached program nodes options world
  r = record { events = events; runs = runs }

  arriving_by : (made : List StoredRecord) → History program nodes options world made → (e : EnvelopeRecord) (m : ArriveRecord) (l : Logged)
      → Contains (pending world) e → e.message ≡ Arrive m → slice_get world.nodes e.to ≡ Some l → are_arriving l.node e.from m.time m.intervals ≡ true
  unfolding r
  arriving_by made h e m l there says at =
      let s : ArrivesSo program nodes options world = all_arrive program nodes options world r in
      let own : IsOwn (entry s.stand.manager.last) (entry m.time) e.from m.intervals = s.own e m there says in
      let first : slice_get world.nodes 0 ≡ Some l =
      ap (slice_get world.nodes) (sym ((all_addressed program nodes options events world runs).arrive e m there says).0) ∙ at in
      let sender : (x : Logged) × (slice_get world.nodes e.from ≡ Some x) = asker program nodes options world r e there in
      let time_is : m.time ≡ sender.0.node.locks.time = (all_timely program nodes options events world runs).sent e m sender.0 there says sender.1 in
      let p : Placed nodes e.from sender.0.node = placed program nodes options world r e.from sender.0 sender.1 in
      let note : last_arrived l.node.barrier e.from ≡ entry s.stand.manager.last e.from =
      ap (λ (o : Option ManagerRecord). unwrap_or (option_map (λ manager. slice_index manager.last e.from) o) 0) (s.stand.here l first) in
      and_from _ _
      (and_from _ _
      (news_from program nodes options world made h e.to l at m.time m.intervals (ap length time_is ∙ p.long)
      (subst (IsFull made) (sym time_is) ((all_cuts program nodes options world made h).times e.from sender.0 sender.1))
      (subst (λ x. AllMade (map interval_of made) (intervals_in x)) says (told_in (map interval_of made) (pending world) e
      (all_made program nodes options world made h).told there))
      (λ i c.
      subst (λ k. index_of i ≤ entry m.time k) (sym (its_own (entry s.stand.manager.last) (entry m.time) e.from m.intervals own i c))
      (upto_top (entry s.stand.manager.last) (entry m.time) e.from m.intervals own i c)))
      (each_from (λ (i : IntervalRecord). i.node == e.from) m.intervals
      (λ i c. eq-eqb i.node e.from (its_own (entry s.stand.manager.last) (entry m.time) e.from m.intervals own i c))))
      (ap (λ k. are_between m.intervals e.from k (entry m.time e.from)) note
      ∙ ap (λ ks. pointwise ◌==◌ ks (range_with_len (entry s.stand.manager.last e.from + 1) (entry m.time e.from - entry s.stand.manager.last e.from))) own.own
      ∙ numbers_same (range_with_len (entry s.stand.manager.last e.from + 1) (entry m.time e.from - entry s.stand.manager.last e.from)))

  -- so the manager would accept it
  pub arrival_expected : (e : EnvelopeRecord) (m : ArriveRecord) (l : Logged) → Contains (pending world) e → e.message ≡ Arrive m
      → slice_get world.nodes e.to ≡ Some l → is_expected l.node e.from e.message ≡ true
  unfolding r
  arrival_expected e m l there says at =
      let h : (made : List StoredRecord) × History program nodes options world made = history_of program nodes options events world runs in
      let first : slice_get world.nodes 0 ≡ Some l =
      ap (slice_get world.nodes) (sym ((all_addressed program nodes options events world runs).arrive e m there says).0) ∙ at in
      let sender : (x : Logged) × (slice_get world.nodes e.from ≡ Some x) = asker program nodes options world r e there in
      ap (is_expected l.node e.from) says
      ∙ conditions l.node e.from (Arrive m)
      ∙ and_from (accepts_arrival l.node e.from m) (are_arriving l.node e.from m.time m.intervals)
      (arrival_accepted program nodes options events world runs l sender.0 e m first there says sender.1)
      (arriving_by h.0 h.1 e m l there says at)
