-- In every run the pending messages of barriers are expected, but for the intervals that they carry.
use Rattle.std.proofs.Common.{◌≡◌, ℕ, ◌+◌, ◌≤◌, ◌&&◌, List, Bool, true, false, cond, not, is_some, length, refl, sym, ap, subst, ◌∙◌, arith}
use Rattle.std.specs.Prelude.{Option, Some, None, ◌==◌, Contains, unwrap_or, option_map, count_by, slice_get, slice_index_or, slice_set, if◌then◌else◌}
use Rattle.std.specs.List.{list_all}
use Rattle.std.proofs.lemmas.Bool.{eq-eqb, and_from}
use Rattle.lrc_program.specs.declared.Program.{Program}
use Rattle.lrc_time.specs.Time.{covers, Covers}
use Rattle.lrc_time.proofs.Times.{covers-holds}
use Rattle.lrc_trace.proofs.Intervals.{numbered_arrive}
use Rattle.lrc_trace.specs.Run.{arrives_before}
use Rattle.lrc_clock.specs.Times.{arrives_at, arrived_time, time_at}
use Rattle.lrc_clock.proofs.Lasting.{join-covers}
use Rattle.lrc_clock.proofs.Passing.{arrives_at-true}
use Rattle.lrc_envelope.specs.Envelope.{EnvelopeRecord}
use Rattle.lrc_envelope.specs.Records.{ArriveRecord, DepartRecord}
use Rattle.lrc_envelope.specs.declared.message.Message.TheVariants.{Arrive, Depart, Clean, Discard}
use Rattle.lrc_barrier.specs.declared.fault.BarrierFault.TheVariants.{WrongEpisode, Twice}
use Rattle.lrc_barrier.specs.Barrier.{ManagerRecord, refuses, waits, departs, is_accepted, with_arrival, arrivals_of, departures_of, departed}
use Rattle.lrc_barrier.specs.Barrier.{is_next, has_arrived, arrived, refuses_clean, awaits, discards, cleaned_by, cleaned, is_clean}
use Rattle.lrc_protocol.specs.declared.event.Event.{Event}
use Rattle.lrc_protocol.specs.Barriers.{arrival_in}
use Rattle.lrc_protocol.specs.Node.{Wait, nothing, grant, departure, access, upkeep, discard, awaits_departure, OptionsRecord}
use Rattle.lrc_protocol.specs.Follows.{awaits_discard}
use Rattle.lrc_protocol.specs.Follows.{is_expected}
use Rattle.lrc_protocol.specs.Run.{Logged, World, run_of}
use Rattle.lrc_protocol.specs.Follows.{pending}
use Rattle.lrc_protocol.proofs.Expecting.{conditions}
use Rattle.lrc_order_laws.specs.Barriers.{accepts_arrival, says_clean, says_discard, arrive_from, depart_to, clean_from, discard_to}
use Rattle.lrc_order_laws.specs.Barriers.{kept_of, noted_of, awaits_depart, awaits_word, IsNewestTime}
use Rattle.lrc_order_laws.proofs.Moves.{counted_in}
use Rattle.lrc_order_laws.proofs.AllStand.{AllStand}
use Rattle.lrc_order_laws.proofs.Departs.{Standing_at, standing_at}
use Rattle.lrc_order_laws.proofs.Timely.{Timely, Gate, gate, is_arrive_from, is_sent, is_told, at_most_one, waits_for_departure}
use Rattle.lrc_order_laws.proofs.Addressed.{Addressed, all_addressed}

-- ---- at the manager

none_or_some : {X : Type 0} (o : Option X) → (o ≡ None → ⊥) → (x : X) × (o ≡ Some x)
none_or_some None never = absurd (never refl)
none_or_some (Some x) never = (x, refl)

clean_if : (manager : ManagerRecord) (cleans : List Bool) (a b c : Bool) → a ≡ true → b ≡ false
    → is_clean (if a then (if b then refuses_clean Twice else
    (if c then discards manager.done (record manager { cleans = None }) else awaits
    (record manager { cleans = Some cleans }))) else refuses_clean WrongEpisode) ≡ true
clean_if manager cleans true false true e f = refl
clean_if manager cleans true false false e f = refl
clean_if manager cleans true true c e f = cc
clean_if manager cleans false b c e f = cc

clean_by : (manager : ManagerRecord) (from episode : ℕ) (cleans : List Bool) → manager.cleans ≡ Some cleans → episode ≡ manager.done
    → slice_index_or cleans from false ≡ false → is_clean (cleaned manager from episode) ≡ true
clean_by manager from episode cleans is e first =
    ap (λ o. is_clean (cleaned_by manager from episode o)) is
    ∙ clean_if manager (slice_set cleans from true) (episode == manager.done) (slice_index_or cleans from false)
    (list_all (λ clean. clean) (slice_set cleans from true)) (eq-eqb episode manager.done e) first

arrive_if : (manager : ManagerRecord) (from : ℕ) (m : ArriveRecord) (a b c : Bool) → a ≡ true → b ≡ false
    → is_accepted (if a then (if b then refuses Twice else (if c
    then departs (departures_of (arrivals_of (with_arrival manager from (arrival_in m)))) (departed (with_arrival manager from (arrival_in m)))
    else waits (with_arrival manager from (arrival_in m)))) else refuses WrongEpisode) ≡ true
arrive_if manager from m true false true e f = refl
arrive_if manager from m true false false e f = refl
arrive_if manager from m true true c e f = cc
arrive_if manager from m false b c e f = cc

arrive_by : (manager : ManagerRecord) (from : ℕ) (m : ArriveRecord) → m.episode ≡ manager.done + 1 → manager.cleans ≡ None → has_arrived manager from ≡ false
    → is_accepted (arrived manager from (arrival_in m)) ≡ true
arrive_by manager from m e free first =
    arrive_if manager from m (is_next manager m.episode) (has_arrived manager from) (list_all is_some (with_arrival manager from (arrival_in m)).arrivals)
    (and_from (m.episode == manager.done + 1) (not (is_some manager.cleans)) (eq-eqb m.episode (manager.done + 1) e) (ap (λ o. not (is_some o)) free)) first

no_place : (b : Bool) → cond {A = ℕ} b 1 0 ≡ 0 → b ≡ false
no_place true e = absurd (omega (arith, e))
no_place false e = refl

waits_to_discard : (w : Wait) → 1 ≤ awaits_word w → awaits_discard w ≡ true
waits_to_discard (discard collection) some = refl
waits_to_discard nothing some = absurd (omega (arith, some))
waits_to_discard (grant lock) some = absurd (omega (arith, some))
waits_to_discard departure some = absurd (omega (arith, some))
waits_to_discard (access need) some = absurd (omega (arith, some))
waits_to_discard (upkeep collection needs) some = absurd (omega (arith, some))

-- ---- in a run

module _ (program : Program) (nodes : ℕ) (options : OptionsRecord) (events : List Event) (world : World)
    (run : run_of program nodes options events ≡ Some world) where
  a : Addressed program nodes options world
  a = all_addressed program nodes options events world run

  stand : AllStand program nodes options world
  stand = a.exclusive.timely.stand

  pub clean_expected : (first l : Logged) (e : EnvelopeRecord) (episode : ℕ) → slice_get world.nodes 0 ≡ Some first → Contains (pending world) e
      → e.message ≡ Clean episode → slice_get world.nodes e.from ≡ Some l → is_expected first.node e.from (Clean episode) ≡ true
  unfolding stand
  clean_expected first l e episode at_first there says at =
      let some : 1 ≤ count_by (clean_from e.from) (pending world) =
      counted_in (clean_from e.from) (pending world) e there
      (and_from (says_clean e.message) (e.from == e.from) (ap says_clean says) (eq-eqb e.from e.from refl)) in
      let under_way : (cleans : List Bool) × (stand.manager.cleans ≡ Some cleans) =
      none_or_some stand.manager.cleans
      (λ none.
      let zero : count_by (clean_from e.from) (pending world) ≡ 0 = (a.exclusive.free none e.from l at).0 in
      absurd (omega (arith, some, zero))) in
      let is_of : episode ≡ l.node.barrier.episode = (a.clean e episode there says).1 l at in
      let arrived : l.node.barrier.episode ≡ stand.manager.done + (count_by (arrive_from e.from) (pending world) + kept_of stand.manager e.from) =
      (stand.each e.from l at).arrived in
      let none : count_by (arrive_from e.from) (pending world) + kept_of stand.manager e.from ≡ 0 = (a.exclusive.busy under_way.0 under_way.1 e.from l at).1 in
      let discards : count_by (clean_from e.from) (pending world) + noted_of stand.manager e.from + count_by (discard_to e.from)
      (pending world) ≡ awaits_word l.node.mail.wait =
      (stand.each e.from l at).discards in
      let most : awaits_word l.node.mail.wait ≤ 1 = at_most_word l.node.mail.wait in
      let unnoted : noted_of stand.manager e.from ≡ 0 = omega (arith, some, discards, most) in
      let first_one : slice_index_or under_way.0 e.from false ≡ false =
      no_place _ (sym (ap (λ (o : Option (List Bool)).
      cond {A = ℕ} (unwrap_or (option_map (λ cleans. slice_index_or cleans e.from false) o) false) 1 0) under_way.1) ∙ unnoted) in
      conditions first.node e.from (Clean episode)
      ∙ ap (λ o. unwrap_or (option_map is_clean (option_map (λ manager. cleaned manager e.from episode) o)) false) (stand.here first at_first)
      ∙ clean_by stand.manager e.from episode under_way.0 under_way.1 (omega (arith, is_of, arrived, none)) first_one
    where
      at_most_word : (w : Wait) → awaits_word w ≤ 1
      at_most_word (discard collection) = omega arith
      at_most_word nothing = omega arith
      at_most_word (grant lock) = omega arith
      at_most_word departure = omega arith
      at_most_word (access need) = omega arith
      at_most_word (upkeep collection needs) = omega arith

  pub discard_expected : (l : Logged) (e : EnvelopeRecord) (episode : ℕ) → Contains (pending world) e → e.message ≡ Discard episode
      → slice_get world.nodes e.to ≡ Some l → is_expected l.node e.from (Discard episode) ≡ true
  unfolding stand
  discard_expected l e episode there says at =
      let some : 1 ≤ count_by (discard_to e.to) (pending world) =
      counted_in (discard_to e.to) (pending world) e there
      (and_from (says_discard e.message) (e.to == e.to) (ap says_discard says) (eq-eqb e.to e.to refl)) in
      let discards : count_by (clean_from e.to) (pending world) + noted_of stand.manager e.to + count_by (discard_to e.to)
      (pending world) ≡ awaits_word l.node.mail.wait =
      (stand.each e.to l at).discards in
      conditions l.node e.from (Discard episode)
      ∙ and_from ((e.from == 0) && awaits_discard l.node.mail.wait) (episode == l.node.barrier.episode)
      (and_from (e.from == 0) (awaits_discard l.node.mail.wait) (eq-eqb e.from 0 (a.word e episode there says).0)
      (waits_to_discard l.node.mail.wait (omega (arith, some, discards))))
      (eq-eqb episode l.node.barrier.episode ((a.word e episode there says).1 l at))

  pub arrival_accepted : (first l : Logged) (e : EnvelopeRecord) (m : ArriveRecord) → slice_get world.nodes 0 ≡ Some first → Contains (pending world) e
      → e.message ≡ Arrive m → slice_get world.nodes e.from ≡ Some l → accepts_arrival first.node e.from m ≡ true
  unfolding stand
  arrival_accepted first l e m at_first there says at =
      let some : 1 ≤ count_by (arrive_from e.from) (pending world) =
      counted_in (arrive_from e.from) (pending world) e there (is_arrive_from e m says) in
      let g : Gate program nodes options world stand e.from l =
      gate program nodes options world stand e.from l at (is_sent program nodes options world stand e m there says) in
      let one : count_by (arrive_from e.from) (pending world) + kept_of stand.manager e.from ≡ 1 = g.one in
      let unkept : kept_of stand.manager e.from ≡ 0 = omega (arith, some, one) in
      let arrived_so : l.node.barrier.episode ≡ stand.manager.done + (count_by (arrive_from e.from) (pending world) + kept_of stand.manager e.from) =
      (stand.each e.from l at).arrived in
      let is_of : m.episode ≡ l.node.barrier.episode = (a.arrive e m there says).1 l at in
      let free : stand.manager.cleans ≡ None = is_none stand.manager.cleans
      (λ cleans some_is.
      let none : count_by (arrive_from e.from) (pending world) + kept_of stand.manager e.from ≡ 0 = (a.exclusive.busy cleans some_is e.from l at).1 in
      absurd (omega (arith, one, none))) in
      ap (λ o. unwrap_or (option_map is_accepted (option_map (λ manager. arrived manager e.from (arrival_in m)) o)) false) (stand.here first at_first)
      ∙ arrive_by stand.manager e.from m (omega (arith, is_of, arrived_so, one)) free (no_place (has_arrived stand.manager e.from) unkept)
    where
      is_none : (o : Option (List Bool)) → ((cleans : List Bool) → o ≡ Some cleans → ⊥) → o ≡ None
      is_none None no_one = refl
      is_none (Some cleans) no_one = absurd (no_one cleans refl)

  -- a Depart is expected, but for what can be learned of it
  pub depart_accepted : (l : Logged) (e : EnvelopeRecord) (m : DepartRecord) → Contains (pending world) e → e.message ≡ Depart m
      → slice_get world.nodes e.to ≡ Some l
      → (e.from ≡ 0) × (awaits_departure l.node.mail.wait ≡ true) × (m.episode ≡ l.node.barrier.episode) × (covers m.time l.node.locks.time ≡ true)
  unfolding stand
  depart_accepted l e m there says at =
      let t : Timely program nodes options world = a.exclusive.timely in
      let some : 1 ≤ count_by (depart_to e.to) (pending world) = is_told program nodes options world e m there says in
      let departs : count_by (arrive_from e.to) (pending world) + kept_of stand.manager e.to + count_by (depart_to e.to)
      (pending world) ≡ awaits_depart l.node.mail.wait =
      (stand.each e.to l at).departs in
      let most : awaits_depart l.node.mail.wait ≤ 1 = at_most_one l.node.mail.wait in
      let arrived_so : l.node.barrier.episode ≡ stand.manager.done + (count_by (arrive_from e.to) (pending world) + kept_of stand.manager e.to) =
      (stand.each e.to l at).arrived in
      let k : IsNewestTime nodes world.acts world.times t.stand.manager.done m.time = t.told e m l there says at in
      let newest : t.stand.manager.done ≡ k.number + 1 = k.newest in
      let s : Standing_at program nodes options world e.to l = standing_at program nodes options world (record { events = events; runs = run }) e.to l at in
      let arrives : arrives_before world.acts e.to (length world.acts) ≡ l.node.barrier.episode = s.arrived in
      let waits : l.node.mail.wait ≡ departure = waits_for_departure l.node.mail.wait (omega (arith, some, departs)) in
      let (i, lt, does, same) = numbered_arrive world.acts e.to (length world.acts) k.number (omega arith)
      (omega (arith, some, departs, most, arrived_so, newest, arrives)) in
      let had : time_at world.times i ≡ l.node.locks.time =
      t.had e.to l at waits i does (omega (arith, same, some, departs, most, arrived_so, newest)) in
      let covered : Covers (arrived_time nodes world.acts world.times k.number (length world.acts)) (time_at world.times i) =
      join-covers nodes (arrives_at world.acts k.number) world.times i (length world.acts) lt (arrives_at-true world.acts i e.to k.number does same) in (
        (a.depart e m there says).0,
        ap awaits_departure waits,
        (a.depart e m there says).1 l at,
        covers-holds m.time l.node.locks.time (subst (Covers m.time) had (subst (λ u. Covers u (time_at world.times i)) (sym k.joins) covered)),
      )
