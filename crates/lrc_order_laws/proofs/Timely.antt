-- In every run: the times that go by barriers are those of the nodes that arrive, and their join.
use Rattle.std.proofs.Common.{◌≡◌, ℕ, zero, suc, ◌+◌, ◌<◌, ◌≤◌, List, [], ◌∷◌, true, cond, is_some, length, map, refl, sym, ap, subst, ◌∙◌, inl, inr, arith}
use Rattle.std.specs.Prelude.{Option, Some, None, ◌==◌, Contains, count_by, slice_get, slice_index_or}
use Rattle.std.specs.List.{enumerate_from}
use Rattle.std.proofs.lemmas.Bool.{cases_eq, eq-eqb, ne_eqb, and_from}
use Rattle.std.proofs.lemmas.List.{length-set}
use Rattle.std.proofs.lemmas.Option.{same_Some, slice_get-get_or}
use Rattle.lrc_program.specs.declared.Program.{Program}
use Rattle.lrc_trace.specs.declared.act.Act.{Act}
use Rattle.lrc_trace.specs.declared.act.Deed.{Deed}
use Rattle.lrc_trace.specs.declared.act.Deed.TheVariants.{Arrive as Arrives}
use Rattle.lrc_trace.specs.Run.{act_of, Does, arrives_before}
use Rattle.lrc_trace.proofs.Positions.{Does-within}
use Rattle.lrc_trace.proofs.Intervals.{numbered_arrive}
use Rattle.lrc_clock.specs.Times.{arrived_time}
use Rattle.lrc_envelope.specs.Envelope.{EnvelopeRecord}
use Rattle.lrc_envelope.specs.Records.{ArriveRecord, DepartRecord}
use Rattle.lrc_envelope.specs.declared.message.Message.{Message}
use Rattle.lrc_envelope.specs.declared.message.Message.TheVariants.{Arrive, Depart}
use Rattle.lrc_exec.specs.Plain.{setting_of}
use Rattle.lrc_store.proofs.Orders.{Contains-first, Contains-later, cases_Contains, none_Contains}
use Rattle.lrc_barrier.specs.declared.arrival.Arrival.{Arrival}
use Rattle.lrc_barrier.specs.declared.departure.Departure.{Departure}
use Rattle.lrc_barrier.specs.Barrier.{ManagerRecord, with_arrival, arrivals_of, departure_to, joined_time}
use Rattle.lrc_protocol.specs.Node.{Letter, Wait, nothing, grant, departure, access, upkeep, discard, OptionsRecord}
use Rattle.lrc_protocol.specs.Turn.{departure_of}
use Rattle.lrc_protocol.specs.Run.{Logged, World}
use Rattle.lrc_protocol.specs.Follows.{pending}
use Rattle.lrc_protocol.proofs.Worlds.{run-whole}
use Rattle.lrc_protocol.specs.Barriers.{arrival_in}
use Rattle.lrc_order_laws.specs.Barriers.{says_arrive, says_depart, arrive_from, depart_to, kept_of, awaits_depart, time_in, IsNewestTime}
use Rattle.lrc_order_laws.proofs.Shape.{NodeShape, shape_at}
use Rattle.lrc_order_laws.proofs.Managers.{failing, LetGo, kept-more, kept-all}
use Rattle.lrc_order_laws.proofs.Moves.{Brought, counted_in}
use Rattle.lrc_order_laws.proofs.Arrivals.{get_set}
use Rattle.lrc_order_laws.proofs.Joins.{AreTimes, same_join, InPlace, in_place, place_of, HadTime}
use Rattle.lrc_order_laws.proofs.AllStand.{AllStand}
use Rattle.lrc_order_laws.proofs.Departs.{standing_at}
use Rattle.lrc_order_laws.proofs.Reached.{IsReached}

pub waits_for_departure : (w : Wait) → 1 ≤ awaits_depart w → w ≡ departure
waits_for_departure departure e = refl
waits_for_departure nothing e = absurd (omega (arith, e))
waits_for_departure (grant lock) e = absurd (omega (arith, e))
waits_for_departure (access need) e = absurd (omega (arith, e))
waits_for_departure (upkeep collection needs) e = absurd (omega (arith, e))
waits_for_departure (discard collection) e = absurd (omega (arith, e))

pub at_most_one : (w : Wait) → awaits_depart w ≤ 1
at_most_one departure = omega arith
at_most_one nothing = omega arith
at_most_one (grant lock) = omega arith
at_most_one (access need) = omega arith
at_most_one (upkeep collection needs) = omega arith
at_most_one (discard collection) = omega arith

pub get_within : {X : Type 0} (xs : List X) (n : ℕ) → n < length xs → (x : X) × (slice_get xs n ≡ Some x)
get_within [] n lt = absurd (omega (arith, lt))
get_within (x ∷ xs) zero lt = (x, refl)
get_within (x ∷ xs) (suc n) lt = get_within xs n (omega (arith, lt))

-- its sender passes the test of arrivals, and its receiver that of departures
pub is_arrive_from : (e : EnvelopeRecord) (m : ArriveRecord) → e.message ≡ Arrive m → arrive_from e.from e ≡ true
is_arrive_from e m is = and_from (says_arrive e.message) (e.from == e.from) (ap says_arrive is) (eq-eqb e.from e.from refl)

is_depart_to : (e : EnvelopeRecord) (m : DepartRecord) → e.message ≡ Depart m → depart_to e.to e ≡ true
is_depart_to e m is = and_from (says_depart e.message) (e.to == e.to) (ap says_depart is) (eq-eqb e.to e.to refl)

module _ (program : Program) (nodes : ℕ) (options : OptionsRecord) where
  -- A pending Arrive, and an arrival that is kept, has its node's time; a pending Depart, and a collection that a node is in,
  -- the time of the newest episode; and a node that waits to depart has the time that it had at its newest arrive.
  pub record Timely (world : World) : Type 0 where
    pub stand : AllStand program nodes options world
    pub sent : (e : EnvelopeRecord) (m : ArriveRecord) (l : Logged) → Contains (pending world) e → e.message ≡ Arrive m
        → slice_get world.nodes e.from ≡ Some l → m.time ≡ l.node.locks.time
    pub kept : (n : ℕ) (a : Arrival) (l : Logged) → slice_index_or stand.manager.arrivals n None ≡ Some a → slice_get world.nodes n ≡ Some l
        → a.time ≡ l.node.locks.time
    pub told : (e : EnvelopeRecord) (m : DepartRecord) (l : Logged) → Contains (pending world) e → e.message ≡ Depart m
        → slice_get world.nodes e.to ≡ Some l → IsNewestTime nodes world.acts world.times stand.manager.done m.time
    pub learned : (n : ℕ) (l : Logged) (t : List ℕ) → slice_get world.nodes n ≡ Some l → time_in l.node.mail.wait ≡ Some t
        → IsNewestTime nodes world.acts world.times stand.manager.done t
    pub had : (n : ℕ) (l : Logged) → slice_get world.nodes n ≡ Some l → l.node.mail.wait ≡ departure
        → HadTime world.acts world.times n l.node.barrier.episode l.node.locks.time

  -- ---- one world

  -- a node whose arrival is on its way or kept
  pub record Gate (world : World) (s : AllStand program nodes options world) (n : ℕ) (l : Logged) : Type 0 where
    pub waits : l.node.mail.wait ≡ departure
    pub one : count_by (arrive_from n) (pending world) + kept_of s.manager n ≡ 1
    pub none : count_by (depart_to n) (pending world) ≡ 0

  pub gate : (world : World) (s : AllStand program nodes options world) (n : ℕ) (l : Logged) → slice_get world.nodes n ≡ Some l
      → 1 ≤ count_by (arrive_from n) (pending world) + kept_of s.manager n → Gate world s n l
  gate world s n l at some =
      let so : count_by (arrive_from n) (pending world) + kept_of s.manager n + count_by (depart_to n) (pending world) ≡ awaits_depart l.node.mail.wait =
      (s.each n l at).departs in
      let most : awaits_depart l.node.mail.wait ≤ 1 = at_most_one l.node.mail.wait in
      record {
        waits = waits_for_departure l.node.mail.wait (omega (arith, so, some));
        one = omega (arith, so, some, most);
        none = omega (arith, so, some, most);
      }

  pub is_kept : (world : World) (s : AllStand program nodes options world) (n : ℕ) (a : Arrival) → slice_index_or s.manager.arrivals n None ≡ Some a
      → 1 ≤ count_by (arrive_from n) (pending world) + kept_of s.manager n
  is_kept world s n a e =
      let one : kept_of s.manager n ≡ 1 = ap (λ (o : Option Arrival). cond {A = ℕ} (is_some o) 1 0) e in
      omega (arith, one)

  pub is_sent : (world : World) (s : AllStand program nodes options world) (e : EnvelopeRecord) (m : ArriveRecord) → Contains (pending world) e
      → e.message ≡ Arrive m
      → 1 ≤ count_by (arrive_from e.from) (pending world) + kept_of s.manager e.from
  is_sent world s e m there is =
      let one : 1 ≤ count_by (arrive_from e.from) (pending world) = counted_in (arrive_from e.from) (pending world) e there (is_arrive_from e m is) in
      omega (arith, one)

  pub is_told : (world : World) (e : EnvelopeRecord) (m : DepartRecord) → Contains (pending world) e → e.message ≡ Depart m
      → 1 ≤ count_by (depart_to e.to) (pending world)
  is_told world e m there is = counted_in (depart_to e.to) (pending world) e there (is_depart_to e m is)

  in_range : (world : World) → IsReached program nodes options world → (i node : ℕ) (d : Deed) → Does world.acts i node d → node < nodes
  in_range world r i node d does =
      let act : Act = act_of node d in
      let lt : i < length world.acts = Does-within does in
      subst (λ (a : Act). a.node < nodes)
      (same_Some (slice_index_or world.acts i act) act (sym (slice_get-get_or world.acts i act lt) ∙ does.stands))
      ((run-whole program nodes options r.events world r.runs).in_range i act lt)

  -- the manager has all arrivals once this one has come
  module _ (world : World) (r : IsReached program nodes options world) (h : Timely world) (me from : ℕ) (m : ArriveRecord)
      (b : Brought me from (Arrive m) (pending world)) (lt : from < nodes) (after : ManagerRecord) (departures : List Departure)
      (g : LetGo h.stand.manager from (arrival_in m) after departures) where
    abbrev full : ManagerRecord
    full = with_arrival h.stand.manager from (arrival_in m)

    size : length full.arrivals ≡ nodes
    size = length-set h.stand.manager.arrivals from (Some (arrival_in m)) ∙ h.stand.places.arrivals

    node_at : (k : ℕ) → k < nodes → (l : Logged) × (slice_get world.nodes k ≡ Some l)
    node_at k lt_k = get_within world.nodes k (subst (λ n. k < n) (sym h.stand.count) lt_k)

    pub all_in : (k : ℕ) → k < nodes → 1 ≤ count_by (arrive_from k) (pending world) + kept_of h.stand.manager k
    all_in k lt_k = elim (cases_eq from k) [
      | inl e ↦
          subst (λ k. 1 ≤ count_by (arrive_from k) (pending world) + kept_of h.stand.manager k) (b.from_is ∙ e)
          (is_sent world h.stand b.envelope m b.among b.message_is)
      | inr ne ↦
          let more : kept_of full k ≡ kept_of h.stand.manager k + cond {A = ℕ} (from == k) 1 0 =
          kept-more h.stand.manager from (arrival_in m) k (subst (λ n. from < n) (sym h.stand.places.arrivals) lt) g.arrives.first in
          let one : kept_of full k ≡ 1 = kept-all full k g.all (subst (λ n. k < n) (sym size) lt_k) in
          let zero : cond {A = ℕ} (from == k) 1 0 ≡ 0 = failing (from == k) (ne_eqb from k ne) in
          omega (arith, more, one, zero)
    ]

    time_of : (k : ℕ) (a : Arrival) (l : Logged) → slice_index_or full.arrivals k None ≡ Some a → slice_get world.nodes k ≡ Some l
        → a.time ≡ l.node.locks.time
    time_of k a l e at = elim (get_set h.stand.manager.arrivals from k (arrival_in m) a e) [
      | inl here ↦
          ap (λ (a : Arrival). a.time) (sym here.1)
          ∙ h.sent b.envelope m l b.among b.message_is (subst (λ k. slice_get world.nodes k ≡ Some l) (sym (b.from_is ∙ here.0)) at)
      | inr there ↦ h.kept k a l there at
    ]

    gate_at : (k : ℕ) (l : Logged) → slice_get world.nodes k ≡ Some l → k < nodes → Gate world h.stand k l
    gate_at k l at lt_k = gate world h.stand k l at (all_in k lt_k)

    episode_at : (k : ℕ) (l : Logged) → slice_get world.nodes k ≡ Some l → k < nodes → l.node.barrier.episode ≡ h.stand.manager.done + 1
    episode_at k l at lt_k =
        let so : l.node.barrier.episode ≡ h.stand.manager.done + (count_by (arrive_from k) (pending world) + kept_of h.stand.manager k) =
        (h.stand.each k l at).arrived in
        let one : count_by (arrive_from k) (pending world) + kept_of h.stand.manager k ≡ 1 = (gate_at k l at lt_k).one in
        omega (arith, so, one)

    times_are : AreTimes nodes world.acts world.times h.stand.manager.done (arrivals_of full)
    times_are = record {
      sized = λ a there.
          let (k, lt_k, at) = place_of full.arrivals a there in
          let l : (l : Logged) × (slice_get world.nodes k ≡ Some l) = node_at k (subst (λ n. k < n) size lt_k) in
          let shape : NodeShape (setting_of program nodes k) options _ = shape_at program nodes options r.events world k l.0 r.runs l.1 in
          ap length (time_of k a l.0 at l.1) ∙ shape.shape.times;
      there = λ a there.
          let (k, lt_k, at) = place_of full.arrivals a there in
          let lt' : k < nodes = subst (λ n. k < n) size lt_k in
          let l : (l : Logged) × (slice_get world.nodes k ≡ Some l) = node_at k lt' in
          let episode : l.0.node.barrier.episode ≡ h.stand.manager.done + 1 = episode_at k l.0 l.1 lt' in
          let arrived : arrives_before world.acts k (length world.acts) ≡ l.0.node.barrier.episode =
          (standing_at program nodes options world r k l.0 l.1).arrived in
          let (i, lt_i, does, same) = numbered_arrive world.acts k (length world.acts) h.stand.manager.done (omega arith) (omega (arith, episode, arrived)) in
          let count : arrives_before world.acts k i + 1 ≡ l.0.node.barrier.episode = omega (arith, same, episode) in
          (i, k, lt_i, does, same, h.had k l.0 l.1 (gate_at k l.0 l.1 lt').waits i does count ∙ sym (time_of k a l.0 at l.1));
      back = λ i node does same.
          let lt' : node < nodes = in_range world r i node Arrives does in
          let l : (l : Logged) × (slice_get world.nodes node ≡ Some l) = node_at node lt' in
          let episode : l.0.node.barrier.episode ≡ h.stand.manager.done + 1 = episode_at node l.0 l.1 lt' in
          let count : arrives_before world.acts node i + 1 ≡ l.0.node.barrier.episode = omega (arith, same, episode) in
          let p : InPlace full.arrivals node = in_place full.arrivals node g.all (subst (λ n. node < n) (sym size) lt') in (
            p.arrival,
            p.among,
            time_of node p.arrival l.0 p.at l.1
                ∙ sym (h.had node l.0 l.1 (gate_at node l.0 l.1 lt').waits i does count),
          );
    }

    pub joins_all : joined_time nodes (arrivals_of full) ≡ arrived_time nodes world.acts world.times h.stand.manager.done (length world.acts)
    joins_all = same_join nodes world.acts world.times h.stand.manager.done (arrivals_of full) times_are

    depart_time : Message → Option (List ℕ)
    depart_time (Depart d) = Some d.time
    depart_time _ = None

    -- each departure has this time
    departure_time : (arrivals : List Arrival) (k : ℕ) (rest : List Arrival) (l : Letter) (d : DepartRecord)
        → ((a : Arrival) → Contains rest a → length a.time ≡ nodes)
        → Contains (map departure_of (map (departure_to arrivals) (enumerate_from k rest))) l → l.message ≡ Depart d → d.time ≡ joined_time nodes arrivals
    unfolding depart_time
    departure_time arrivals k [] l d sized there e = absurd (none_Contains l there)
    departure_time arrivals k (a ∷ rest) l d sized there e =
        elim (cases_Contains (departure_of (departure_to arrivals (k, a)))
        (map departure_of (map (departure_to arrivals) (enumerate_from (k + 1) rest))) l there) [
          | inl is ↦
              same_Some d.time (joined_time (length a.time) arrivals) (ap depart_time (sym e) ∙ ap (λ (l : Letter). depart_time l.message) (sym is))
              ∙ ap (λ n. joined_time n arrivals) (sized a (Contains-first a rest))
          | inr later ↦ departure_time arrivals (k + 1) rest l d (λ b there. sized b (Contains-later a rest b there)) later e
        ]

    pub told_time : (l : Letter) (d : DepartRecord) → Contains (map departure_of departures) l → l.message ≡ Depart d
        → d.time ≡ arrived_time nodes world.acts world.times h.stand.manager.done (length world.acts)
    told_time l d there e =
        departure_time (arrivals_of full) 0 (arrivals_of full) l d times_are.sized
        (subst (λ ds. Contains (map departure_of ds) l) g.told there) e
        ∙ joins_all
