-- The collections of a run are the exact memory's.
use Rattle.std.proofs.Common.{◌≡◌, ℕ, ◌+◌, ◌≤◌, List, Bool, true, length, refl, sym, ap, ◌∙◌, arith}
use Rattle.std.specs.Prelude.{◌&&◌, Some, Contains, count_by, nat_le, slice_get}
use Rattle.lrc_program.specs.declared.Program.{Program}
use Rattle.lrc_trace.specs.Run.{departs_before}
use Rattle.lrc_envelope.specs.Envelope.{EnvelopeRecord}
use Rattle.lrc_envelope.specs.Records.{ArriveRecord, DepartRecord}
use Rattle.lrc_envelope.specs.declared.message.Message.TheVariants.{Arrive, Depart}
use Rattle.lrc_clock.specs.Times.{arrived_time}
use Rattle.lrc_protocol.specs.declared.event.Event.{Event}
use Rattle.lrc_protocol.specs.Node.{Wait, nothing, grant, departure, access, upkeep, discard, OptionsRecord}
use Rattle.lrc_protocol.specs.Run.{Logged, World, run_of}
use Rattle.lrc_protocol.specs.Follows.{pending}
use Rattle.lrc_order_laws.specs.Barriers.{arrive_from, depart_to, kept_of, awaits_depart, time_in, IsNewestTime}
use Rattle.lrc_order_laws.specs.Counts.{is_inside}
use Rattle.lrc_order_laws.proofs.Reached.{IsReached}
use Rattle.lrc_order_laws.proofs.Timely.{gate, is_sent, is_told, waits_for_departure, at_most_one}
use Rattle.lrc_reading_laws.proofs.Collected.Turns.{in_collection}
use Rattle.lrc_exact.specs.LocalRule.{arrived_state}
use Rattle.lrc_exact.specs.Rule.{asks, collects}
use Rattle.lrc_exact_known.specs.Known.{times_of}
use Rattle.lrc_exact_known.proofs.KeepingTime.{meeting-is}
use Rattle.lrc_exact_collected.specs.Collected.{shape_in, state_of, collects_at, known_at}
use Rattle.lrc_exact_collected.specs.Laws.{CollectsExactly}
use Rattle.lrc_exact_collected.proofs.Worlds.{IsDecided, Collecting, all_collecting, asks_state, departed-as, times_are}

-- who is in a collection is inside the barrier, and does not wait to depart
in_barrier : (w : Wait) (time : List ℕ) → time_in w ≡ Some time → (in_collection w ≡ true) × (is_inside w ≡ 1) × (awaits_depart w ≡ 0)
in_barrier nothing time e = absurd cc
in_barrier (grant lock) time e = absurd cc
in_barrier departure time e = absurd cc
in_barrier (access need) time e = absurd cc
in_barrier (upkeep collection needs) time e = (refl, refl, refl)
in_barrier (discard collection) time e = (refl, refl, refl)

module _ (program : Program) (nodes : ℕ) (options : OptionsRecord) (events : List Event) (world : World)
    (run : run_of program nodes options events ≡ Some world) where
  r : IsReached program nodes options world
  r = record { events = events; runs = run }

  h : Collecting program nodes options world
  h = all_collecting program nodes options events world run

  asked : (e : EnvelopeRecord) (m : ArriveRecord) (l : Logged) → Contains (pending world) e → e.message ≡ Arrive m
      → slice_get world.nodes e.from ≡ Some l
      → m.ask ≡ (nat_le 1 options.collect && asks options.collect (Some (state_of nodes options world h.states e.from)))
  asked e m l there says at =
      h.sent e m l there says at
      ∙ asks_state program nodes options world r h e.from l at
      (gate program nodes options world h.timely.stand e.from l at (is_sent program nodes options world h.timely.stand e m there says))

  -- of a node's own barrier it is decided
  decided : (n : ℕ) (l : Logged) (b : Bool) → slice_get world.nodes n ≡ Some l → is_inside l.node.mail.wait ≡ 1
      → count_by (arrive_from n) (pending world) + kept_of h.timely.stand.manager n ≡ 0
      → (k : IsDecided (shape_in nodes options) world.acts h.states h.timely.stand.manager.done b)
      → (b ≡ collects_at nodes options world h.states n) × (departs_before world.acts n (length world.acts) ≡ k.number)
  decided n l b at inside none k =
      let number : departs_before world.acts n (length world.acts) ≡ k.number =
      departed-as program nodes options world r h.timely.stand n l at k.number k.newest inside none in (
        k.decides ∙ ap (λ number. collects (shape_in nodes options) (arrived_state world.acts h.states number (length world.acts))) (sym number),
        number,
      )

  told : (e : EnvelopeRecord) (m : DepartRecord) (l : Logged) → Contains (pending world) e → e.message ≡ Depart m
      → slice_get world.nodes e.to ≡ Some l → m.collect ≡ collects_at nodes options world h.states e.to
  told e m l there says at =
      let one : 1 ≤ count_by (depart_to e.to) (pending world) = is_told program nodes options world e m there says in
      let stands = (h.timely.stand.each e.to l at).departs in
      let waiting : l.node.mail.wait ≡ departure = waits_for_departure l.node.mail.wait (omega arith) in
      let most = at_most_one l.node.mail.wait in
      (decided e.to l m.collect at (ap is_inside waiting) (omega arith) (h.told e m l there says at)).0

  inside : (n : ℕ) (l : Logged) (time : List ℕ) → slice_get world.nodes n ≡ Some l → time_in l.node.mail.wait ≡ Some time
      → (collects_at nodes options world h.states n ≡ true) × (time ≡ (known_at nodes world h.states n).time)
  inside n l time at e =
      let w = in_barrier l.node.mail.wait time e in
      let stands = (h.timely.stand.each n l at).departs in
      let out = w.2 in
      let k : IsDecided (shape_in nodes options) world.acts h.states h.timely.stand.manager.done true = h.inside n l at w.0 in
      let d = decided n l true at w.1 (omega arith) k in
      let t : IsNewestTime nodes world.acts world.times h.timely.stand.manager.done time = h.timely.learned n l time at e in
      let number' = d.1 in
      let newest = t.newest in
      let newest' = k.newest in
      let number : t.number ≡ departs_before world.acts n (length world.acts) = omega arith in (
        sym d.0,
        t.joins
            ∙ ap (λ times. arrived_time nodes world.acts times t.number (length world.acts)) (times_are program nodes options world r h)
            ∙ ap (λ number. arrived_time nodes world.acts (times_of h.states) number (length world.acts)) number
            ∙ meeting-is (shape_in nodes options) world.acts h.states h.keeps (departs_before world.acts n (length world.acts)) (length world.acts) (omega arith),
      )

pub was_collected : CollectsExactly
was_collected program nodes options events world run =
    let all : Collecting program nodes options world = h program nodes options events world run in (
      all.states,
      record {
        keeps = all.keeps;
        dropped = all.dropped;
        asked = asked program nodes options events world run;
        told = told program nodes options events world run;
        inside = inside program nodes options events world run;
      },
    )
