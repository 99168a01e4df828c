-- What each node had told by the end of the former episode; and how all stand as the last arrival of an episode comes: each node has
-- arrived, with its time and with its own intervals since then.
use Rattle.std.proofs.Common.{◌≡◌, ℕ, zero, suc, ◌+◌, ◌<◌, ◌≤◌, List, [], ◌∷◌, true, length, map, refl, sym, ap, subst, ◌∙◌, ⊎_elim, inl, inr, arith}
use Rattle.std.specs.Prelude.{Option, Some, None, Contains, count_by, is_some, slice_get, slice_index_or}
use Rattle.std.specs.List.{filter_map, list_all}
use Rattle.std.proofs.lemmas.Bool.{cases_lt}
use Rattle.std.proofs.lemmas.List.{get_or_past, length-set}
use Rattle.std.proofs.lemmas.Option.{slice_get_within}
use Rattle.lrc_program.specs.declared.Program.{Program}
use Rattle.lrc_time.specs.Time.{entry, zeros}
use Rattle.lrc_store.proofs.Orders.{Contains-first, Contains-later, cases_Contains, none_Contains}
use Rattle.lrc_envelope.specs.Envelope.{EnvelopeRecord}
use Rattle.lrc_envelope.specs.Records.{ArriveRecord, DepartRecord}
use Rattle.lrc_envelope.specs.declared.message.Message.TheVariants.{Arrive, Depart}
use Rattle.lrc_barrier.specs.declared.arrival.Arrival.{Arrival}
use Rattle.lrc_barrier.specs.declared.departure.Departure.{Departure}
use Rattle.lrc_barrier.specs.Barrier.{ManagerRecord, with_arrival, arrivals_of, joined_time}
use Rattle.lrc_protocol.specs.Node.{OptionsRecord}
use Rattle.lrc_protocol.specs.Run.{Logged, World}
use Rattle.lrc_protocol.specs.Follows.{pending}
use Rattle.lrc_protocol.specs.Barriers.{arrival_in}
use Rattle.lrc_order_laws.specs.Barriers.{depart_to}
use Rattle.lrc_order_laws.proofs.Managers.{LetGo}
use Rattle.lrc_order_laws.proofs.Moves.{Brought}
use Rattle.lrc_order_laws.proofs.Arrivals.{get_set}
use Rattle.lrc_order_laws.proofs.Joins.{InPlace, in_place}
use Rattle.lrc_order_laws.proofs.Timely.{Timely, Gate, gate, all_in, get_within}
use Rattle.lrc_order_laws.proofs.Reached.{IsReached}
use Rattle.lrc_reading_laws.proofs.Asked.Departs.{IsOwn, AllOwn, join_entry-some}
use Rattle.lrc_reading_laws.proofs.Asked.Notes.{Notes, notes-keep}

-- ---- arrivals that are all there

-- the arrivals of all places, each with its own intervals
pub all_own : (former top : ℕ → ℕ) (start : ℕ) (places : List (Option Arrival)) → list_all is_some places ≡ true
    → ((j : ℕ) (a : Arrival) → slice_index_or places j None ≡ Some a → IsOwn former top (start + j) a.intervals)
    → AllOwn former top start (filter_map (λ a. a) places)
all_own former top start [] all own = tt
all_own former top start (None ∷ places) all own = cc
all_own former top start (Some x ∷ places) all own =
    let here : start + zero ≡ start = omega arith in (
      subst (λ k. IsOwn former top k x.intervals) here (own zero x refl),
      all_own former top (start + 1) places all
          (λ j a at.
          let next : start + suc j ≡ start + 1 + j = omega arith in
          subst (λ k. IsOwn former top k a.intervals) next (own (suc j) a at)),
    )

times-contain : (arrivals : List Arrival) (a : Arrival) → Contains arrivals a → Contains (map (λ (a : Arrival). a.time) arrivals) a.time
times-contain [] a there = absurd (none_Contains a there)
times-contain (x ∷ arrivals) a there = elim (cases_Contains x arrivals a there) [
  | inl is ↦
      subst (λ (y : Arrival). Contains (map (λ (a : Arrival). a.time) (x ∷ arrivals)) y.time) is
      (Contains-first x.time (map (λ (a : Arrival). a.time) arrivals))
  | inr later ↦
      Contains-later x.time (map (λ (a : Arrival). a.time) arrivals) a.time (times-contain arrivals a later)
]

-- the time of all has at least what each has
pub joined-least : (nodes q : ℕ) (arrivals : List Arrival) (a : Arrival) → Contains arrivals a → entry a.time q ≤ entry (joined_time nodes arrivals) q
joined-least nodes q arrivals a there =
    join_entry-some q (zeros nodes) (map (λ (a : Arrival). a.time) arrivals) a.time (times-contain arrivals a there)

module _ (program : Program) (nodes : ℕ) (options : OptionsRecord) where
  -- what each node had told by the end of the former episode, for who arrived and who did not; it is covered by the time of each node
  -- that has departed, and by what comes to each that has not
  pub record Former (world : World) : Type 0 where
    pub timely : Timely program nodes options world
    pub former : ℕ → ℕ
    pub notes : Notes former timely.stand.manager
    pub knows : (n : ℕ) (l : Logged) → slice_get world.nodes n ≡ Some l → count_by (depart_to n) (pending world) ≡ 0
        → (q : ℕ) → former q ≤ entry l.node.locks.time q
    pub told : (e : EnvelopeRecord) (m : DepartRecord) (l : Logged) → Contains (pending world) e → e.message ≡ Depart m
        → slice_get world.nodes e.to ≡ Some l → (q : ℕ) → former q ≤ entry m.time q

  -- the last arrival comes
  module _ (world : World) (r : IsReached program nodes options world) (h : Former world) (me from : ℕ) (m : ArriveRecord)
      (b : Brought me from (Arrive m) (pending world)) (lt : from < nodes)
      (own : IsOwn (entry h.timely.stand.manager.last) (entry m.time) from m.intervals) (after : ManagerRecord) (departures : List Departure)
      (g : LetGo h.timely.stand.manager from (arrival_in m) after departures) where
    abbrev pub full : ManagerRecord
    full = with_arrival h.timely.stand.manager from (arrival_in m)

    pub size : length full.arrivals ≡ nodes
    size = length-set h.timely.stand.manager.arrivals from (Some (arrival_in m)) ∙ h.timely.stand.places.arrivals

    pub notes_full : Notes h.former full
    notes_full =
        notes-keep nodes h.former h.timely.stand.manager from (arrival_in m) h.timely.stand.places lt g.arrives.first own h.notes

    pub gate_at : (k : ℕ) (x : Logged) → slice_get world.nodes k ≡ Some x → Gate program nodes options world h.timely.stand k x
    gate_at k x at =
        gate program nodes options world h.timely.stand k x at
        (all_in program nodes options world r h.timely me from m b lt after departures g k
        (subst (λ n. k < n) h.timely.stand.count (slice_get_within world.nodes k x at)))

    pub node_at : (k : ℕ) → k < nodes → (x : Logged) × (slice_get world.nodes k ≡ Some x)
    node_at k lt_k = get_within world.nodes k (subst (λ n. k < n) (sym h.timely.stand.count) lt_k)

    -- its arrival has the time that it has
    pub time_at : (k : ℕ) (a : Arrival) (x : Logged) → slice_index_or full.arrivals k None ≡ Some a → slice_get world.nodes k ≡ Some x
        → a.time ≡ x.node.locks.time
    time_at k a x e at = elim (get_set h.timely.stand.manager.arrivals from k (arrival_in m) a e) [
      | inl here ↦
          ap (λ (a : Arrival). a.time) (sym here.1)
          ∙ h.timely.sent b.envelope m x b.among b.message_is (subst (λ k. slice_get world.nodes k ≡ Some x) (sym (b.from_is ∙ here.0)) at)
      | inr there ↦ h.timely.kept k a x there at
    ]

    pub place_at : (k : ℕ) → k < nodes → InPlace full.arrivals k
    place_at k lt_k = in_place full.arrivals k g.all (subst (λ n. k < n) (sym size) lt_k)

    -- so it knows what each had told by the end of the former episode
    pub former-known : (k : ℕ) (x : Logged) → slice_get world.nodes k ≡ Some x → (q : ℕ) → h.former q ≤ entry x.node.locks.time q
    former-known k x at q = h.knows k x at (gate_at k x at).none q

    -- what the manager notes now is below the time of all
    pub last-below : (k q : ℕ) → entry full.last q ≤ entry (joined_time k (arrivals_of full)) q
    last-below k q =
        ⊎_elim
        (λ (lt_q : q < nodes).
        let p : InPlace full.arrivals q = place_at q lt_q in
        let noted : entry full.last q ≡ entry p.arrival.time q = (notes_full.kept q p.arrival p.at).1 in
        let least : entry p.arrival.time q ≤ entry (joined_time k (arrivals_of full)) q = joined-least k q (arrivals_of full) p.arrival p.among in
        omega (arith, noted, least))
        (λ (past : nodes ≤ q).
        let long : length full.last ≡ nodes = length-set h.timely.stand.manager.last from (entry m.time from) ∙ h.timely.stand.places.last in
        let none : entry full.last q ≡ 0 = get_or_past full.last q 0 (omega (arith, past, long)) in
        omega (arith, none))
        (cases_lt q nodes)
