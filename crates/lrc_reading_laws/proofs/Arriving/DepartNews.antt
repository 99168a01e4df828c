-- In every history the intervals of a pending departure are just those between its receiver's time and its own: the receiver can
-- learn it, and would accept it now.
use Rattle.std.proofs.Common.{◌≡◌, ℕ, ◌+◌, ◌-◌, ◌<◌, ◌≤◌, max, List, [], ◌∷◌, ◌++◌, Bool, true, length, map, refl, sym, ap, subst, ◌∙◌, ⊎_elim, inl, inr, arith}
use Rattle.std.specs.Prelude.{Some, None, Contains, count_by, filter, slice_get, slice_index_or}
use Rattle.std.specs.List.{fold, range_with_len}
use Rattle.std.proofs.lemmas.Bool.{and_from, cases_eq, cases_lt, eq-eqb, false≢true}
use Rattle.std.proofs.lemmas.List.{get_or_past}
use Rattle.std.proofs.lemmas.Option.{same_Some}
use Rattle.lrc_program.specs.declared.Program.{Program}
use Rattle.lrc_time.specs.Time.{entry, zeros, joined}
use Rattle.lrc_time.proofs.Times.{covers-trans, entry-joined, entry-zeros, length-joined_same, length-zeros}
use Rattle.lrc_store.specs.Interval.{IntervalRecord}
use Rattle.lrc_store.specs.Store.{StoredRecord, interval_of}
use Rattle.lrc_store.proofs.Orders.{Contains-first, Contains-later, none_Contains}
use Rattle.lrc_envelope.specs.Envelope.{EnvelopeRecord}
use Rattle.lrc_envelope.specs.Records.{ArriveRecord, DepartRecord}
use Rattle.lrc_envelope.specs.declared.message.Message.TheVariants.{Arrive, Depart}
use Rattle.lrc_barrier.specs.declared.arrival.Arrival.{Arrival}
use Rattle.lrc_barrier.specs.declared.departure.Departure.{Departure}
use Rattle.lrc_barrier.specs.Barrier.{ManagerRecord, arrivals_of, is_news, intervals_of, joined_time, with_arrival}
use Rattle.lrc_copies.specs.Stamps.{stamp_index}
use Rattle.lrc_copies.proofs.Stamping.{covered-le, le-covered}
use Rattle.lrc_protocol.specs.declared.event.Event.{Event}
use Rattle.lrc_protocol.specs.Times.{indices_by}
use Rattle.lrc_protocol.specs.Locks.{Locks}
use Rattle.lrc_protocol.specs.Barriers.{arrival_in, Barrier}
use Rattle.lrc_protocol.specs.Node.{Letter, Wait, nothing, departure, OptionsRecord}
use Rattle.lrc_protocol.specs.Turn.{is_learnable, departure_of}
use Rattle.lrc_protocol.specs.Follows.{is_expected}
use Rattle.lrc_protocol.specs.Run.{Input, EntryRecord, Logged, World, Flying, with_turn, run_of}
use Rattle.lrc_protocol.specs.Follows.{pending}
use Rattle.lrc_protocol.proofs.Worlds.{IsEntry, get_set_same, get_set_other}
use Rattle.lrc_protocol.proofs.Induction.{Comes}
use Rattle.lrc_protocol.proofs.Expecting.{conditions}
use Rattle.lrc_order_laws.specs.Barriers.{says_depart, arrive_from, depart_to, kept_of, awaits_depart}
use Rattle.lrc_order_laws.proofs.Sends.{Came, Site, site_of, letter_in}
use Rattle.lrc_order_laws.proofs.Flows.{IsFromNode}
use Rattle.lrc_order_laws.proofs.Managers.{LetGo}
use Rattle.lrc_order_laws.proofs.Moves.{in-now, Brought, brought, among_letters}
use Rattle.lrc_order_laws.proofs.Passing.{Passing, arrives_so, told_so, gathers_so, lets_depart_so, other_so}
use Rattle.lrc_order_laws.proofs.Arrivals.{LetsAll, lets_or_not}
use Rattle.lrc_order_laws.proofs.Joins.{InPlace, place_of}
use Rattle.lrc_order_laws.proofs.AllStand.{AllStand, its_manager}
use Rattle.lrc_order_laws.proofs.Timely.{is_told, waits_for_departure}
use Rattle.lrc_order_laws.proofs.BarrierExpected.{depart_accepted}
use Rattle.lrc_order_laws.proofs.Reached.{IsReached}
use Rattle.lrc_reading_laws.specs.Made.{AllMade, intervals_in}
use Rattle.lrc_reading_laws.specs.Written.{made_stamps}
use Rattle.lrc_reading_laws.proofs.Closed.History.{History, KeptByHistory, by_history, history_of, closed_by}
use Rattle.lrc_reading_laws.proofs.Stamped.Worlds.{Placed, placed}
use Rattle.lrc_reading_laws.proofs.Stamped.Made.{AreListed, all_made, all_listed}
use Rattle.lrc_reading_laws.proofs.Stamped.Cuts.{IsFull, Counted, full_still}
use Rattle.lrc_reading_laws.proofs.Stamped.Times.{AreCuts, all_cuts}
use Rattle.lrc_reading_laws.proofs.Stamped.Learn.{full-most, learnable_from}
use Rattle.lrc_reading_laws.proofs.Stamped.Grants.{told_in}
use Rattle.lrc_reading_laws.proofs.Asked.Departs.{IsOwn, AllOwn, told_between}
use Rattle.lrc_reading_laws.proofs.Asked.Notes.{Notes}
use Rattle.lrc_reading_laws.proofs.Asked.Told.{ToldSo, told_so as told_to, all_there, all_counted}
use Rattle.lrc_reading_laws.proofs.Asked.Former.{step, all_former}
use Rattle.lrc_reading_laws.proofs.Arriving.DepartSteps.{CameExpected, LineStep, arrives_own}
use Rattle.lrc_reading_laws.proofs.Arriving.DepartLets.{Former, all_own, joined-least, size, notes_full, node_at, time_at, place_at, former-known}

-- ---- the time of all that arrived

joined-most : (q bound : ℕ) (start : List ℕ) (arrivals : List Arrival) → entry start q ≤ bound
    → ((a : Arrival) → Contains arrivals a → entry a.time q ≤ bound) → entry (fold joined start (map (λ (a : Arrival). a.time) arrivals)) q ≤ bound
joined-most q bound start [] s h = s
joined-most q bound start (a ∷ arrivals) s h =
    let first : entry a.time q ≤ bound = h a (Contains-first a arrivals) in
    let both : entry (joined start a.time) q ≡ max (entry start q) (entry a.time q) = entry-joined start a.time q in
    joined-most q bound (joined start a.time) arrivals (omega (arith, s, first, both)) (λ x there. h x (Contains-later a arrivals x there))

joined-long : (nodes : ℕ) (start : List ℕ) (arrivals : List Arrival) → length start ≡ nodes
    → ((a : Arrival) → Contains arrivals a → length a.time ≡ nodes) → length (fold joined start (map (λ (a : Arrival). a.time) arrivals)) ≡ nodes
joined-long nodes start [] s h = s
joined-long nodes start (a ∷ arrivals) s h =
    joined-long nodes (joined start a.time) arrivals
    (length-joined_same start a.time (s ∙ sym (h a (Contains-first a arrivals))) ∙ s) (λ x there. h x (Contains-later a arrivals x there))

-- ---- who waits to depart

-- its time stands still while it waits
time-stays : (s : Site) (came : Came) (acts : Bool) (wait : Wait) (locks : Locks) (barrier : Barrier) (letters : List Letter)
    → Passing s came acts wait locks barrier letters → s.wait ≡ departure → wait ≡ departure → locks.time ≡ s.locks.time
time-stays s _ _ _ _ _ _ (arrives_so m after w n time same episode) d d' = absurd (not_both (sym w ∙ d))
  where
    not_both : nothing ≡ departure → ⊥
    not_both e = cc
time-stays s _ _ _ _ _ _ (told_so from m w ne times quiet) d d' = absurd (ne d')
time-stays s _ _ _ _ _ _ (gathers_so from m before after at said manager_is episode) d d' = refl
time-stays s _ _ _ _ _ _ (lets_depart_so from m before after departures at sized said manager_is episode) d d' = refl
time-stays s _ _ _ _ _ _ (other_so quiet keeps episode waits time times) d d' = time d

-- ---- news of a departure

-- a time so long, covering only what was closed, with just the intervals above a node's time and up to it
pub record IsNewsOf (nodes : ℕ) (made : List StoredRecord) (before time : List ℕ) (intervals : List IntervalRecord) : Type 0 where
  pub long : length time ≡ nodes
  pub full : IsFull made time
  pub between : (q : ℕ) → q < nodes → indices_by intervals q ≡ range_with_len (entry before q + 1) (entry time q - entry before q)

module _ (program : Program) (nodes : ℕ) (options : OptionsRecord) where
  awaiting : (world : World) (stand : AllStand program nodes options world) (e : EnvelopeRecord) (m : DepartRecord) (l : Logged)
      → Contains (pending world) e → e.message ≡ Depart m → slice_get world.nodes e.to ≡ Some l → l.node.mail.wait ≡ departure
  awaiting world stand e m l there says at =
      let some : 1 ≤ count_by (depart_to e.to) (pending world) = is_told program nodes options world e m there says in
      let departs : count_by (arrive_from e.to) (pending world) + kept_of stand.manager e.to + count_by (depart_to e.to) (pending world)
      ≡ awaits_depart l.node.mail.wait =
      (stand.each e.to l at).departs in
      waits_for_departure l.node.mail.wait (omega (arith, some, departs))

  -- ---- as the last arrival comes

  module _ (world : World) (made : List StoredRecord) (history : History program nodes options world made) (r : IsReached program nodes options world)
      (f : Former program nodes options world) (me from : ℕ) (m : ArriveRecord) (b : Brought me from (Arrive m) (pending world)) (lt : from < nodes)
      (own : IsOwn (entry f.timely.stand.manager.last) (entry m.time) from m.intervals) (after : ManagerRecord) (departures : List Departure)
      (g : LetGo f.timely.stand.manager from (arrival_in m) after departures) where
    abbrev full : ManagerRecord
    full = with_arrival f.timely.stand.manager from (arrival_in m)

    abbrev all : List Arrival
    all = arrivals_of full

    abbrev top : List ℕ
    top = joined_time nodes all

    cuts : AreCuts nodes made world
    cuts = all_cuts program nodes options world made history

    size_is : length full.arrivals ≡ nodes
    size_is = size program nodes options world r f me from m b lt own after departures g

    node_of : (q : ℕ) → q < nodes → (x : Logged) × (slice_get world.nodes q ≡ Some x)
    node_of q within = node_at program nodes options world r f me from m b lt own after departures g q within

    place_is : (q : ℕ) → q < nodes → InPlace full.arrivals q
    place_is q within = place_at program nodes options world r f me from m b lt own after departures g q within

    time_is : (q : ℕ) (a : Arrival) (x : Logged) → slice_index_or full.arrivals q None ≡ Some a → slice_get world.nodes q ≡ Some x
        → a.time ≡ x.node.locks.time
    time_is q a x e at = time_at program nodes options world r f me from m b lt own after departures g q a x e at

    -- an arrival is that of a node
    record Arrived (a : Arrival) : Type 0 where
      q : ℕ
      x : Logged
      at : slice_get world.nodes q ≡ Some x
      time : a.time ≡ x.node.locks.time

    arrived : (a : Arrival) → Contains all a → Arrived a
    arrived a there =
        let place : (q : ℕ) × (q < length full.arrivals) × (slice_index_or full.arrivals q None ≡ Some a) = place_of full.arrivals a there in
        let node : (x : Logged) × (slice_get world.nodes place.0 ≡ Some x) = node_of place.0 (subst (λ k. place.0 < k) size_is place.1) in
        record { q = place.0; x = node.0; at = node.1; time = time_is place.0 a node.0 place.2 node.1 }

    -- the time of all has of each node what the node itself has
    top-least : (q k : ℕ) (x : Logged) → q < nodes → slice_get world.nodes q ≡ Some x → entry x.node.locks.time k ≤ entry top k
    top-least q k x within at =
        let p : InPlace full.arrivals q = place_is q within in
        subst (λ t. entry t k ≤ entry top k) (time_is q p.arrival x p.at at) (joined-least nodes k all p.arrival p.among)

    top-is : (q : ℕ) (x : Logged) → q < nodes → slice_get world.nodes q ≡ Some x → entry top q ≡ entry x.node.locks.time q
    top-is q x within at =
        let least : entry x.node.locks.time q ≤ entry top q = top-least q q x within at in
        let none : entry (zeros nodes) q ≡ 0 = entry-zeros nodes q in
        let most : entry top q ≤ entry x.node.locks.time q =
        joined-most q (entry x.node.locks.time q) (zeros nodes) all (omega (arith, none))
        (λ a there.
        let k : Arrived a = arrived a there in
        subst (λ t. entry t q ≤ entry x.node.locks.time q) (sym k.time)
        (full-most made k.x.node.locks.time q (entry x.node.locks.time q) (cuts.times k.q k.x k.at)
        ((all_made program nodes options world made history).exact q x at))) in
        omega (arith, least, most)

    top-long : length top ≡ nodes
    top-long =
        joined-long nodes (zeros nodes) all (length-zeros nodes)
        (λ a there.
        let k : Arrived a = arrived a there in
        let p : Placed nodes k.q k.x.node = placed program nodes options world r k.q k.x k.at in
        ap length k.time ∙ p.long)

    top-full : IsFull made top
    top-full = record {
      cut = λ a c covered.
          let within : a.node < nodes = (all_listed program nodes options world made history).among a c in
          let x : (x : Logged) × (slice_get world.nodes a.node ≡ Some x) = node_of a.node within in
          let known : stamp_index made_stamps a ≤ entry top a.node = covered-le made_stamps top a covered in
          let same : entry top a.node ≡ entry x.0.node.locks.time a.node = top-is a.node x.0 within x.1 in
          covers-trans top x.0.node.locks.time a.stamp (λ k. top-least a.node k x.0 within x.1)
          ((cuts.times a.node x.0 x.1).cut a c (le-covered made_stamps x.0.node.locks.time a (omega (arith, known, same))));
      reach = λ q k least most.
          ⊎_elim
          (λ (within : q < nodes).
          let x : (x : Logged) × (slice_get world.nodes q ≡ Some x) = node_of q within in
          let same : entry top q ≡ entry x.0.node.locks.time q = top-is q x.0 within x.1 in
          (cuts.times q x.0 x.1).reach q k least (omega (arith, most, same)))
          (λ (past : nodes ≤ q).
          let none : entry top q ≡ 0 = get_or_past top q 0 (omega (arith, past, top-long)) in
          absurd (omega (arith, none, least, most)))
          (cases_lt q nodes);
    }

    some_none : (a : Arrival) → Some a ≡ None → ⊥
    some_none a e = cc

    all-own : AllOwn f.former (entry top) 0 all
    all-own =
        all_own f.former (entry top) 0 full.arrivals g.all
        (λ j a at.
        let within : j < nodes =
        ⊎_elim (λ (in_range : j < nodes). in_range)
        (λ (past : nodes ≤ j). absurd (some_none a (sym at ∙ get_or_past full.arrivals j None (omega (arith, past, size_is)))))
        (cases_lt j nodes) in
        let x : (x : Logged) × (slice_get world.nodes j ≡ Some x) = node_of j within in
        let notes : Notes f.former full = notes_full program nodes options world r f me from m b lt own after departures g in
        let mine : IsOwn f.former (entry a.time) j a.intervals = (notes.kept j a at).0 in
        let same : entry a.time j ≡ entry top j = ap (λ t. entry t j) (time_is j a x.0 at x.1) ∙ sym (top-is j x.0 within x.1) in
        let start : j ≡ 0 + j = omega arith in
        subst (λ k. IsOwn f.former (entry top) k a.intervals) start
        (record { own = mine.own ∙ ap (λ k. range_with_len (f.former j + 1) (k - f.former j)) same; only = mine.only }))

    -- so what a node is told is news of it
    pub news_of : (p : ℕ) (x : Logged) (a : Arrival) (time : List ℕ) (intervals : List IntervalRecord) → slice_get world.nodes p ≡ Some x
        → slice_index_or full.arrivals p None ≡ Some a → time ≡ joined_time (length a.time) all
        → intervals ≡ filter (is_news a.time) (intervals_of all) → IsNewsOf nodes made x.node.locks.time time intervals
    news_of p x a time intervals at there time_same intervals_same =
        let place : Placed nodes p x.node = placed program nodes options world r p x at in
        let known : a.time ≡ x.node.locks.time = time_is p a x there at in
        let is_top : time ≡ top = time_same ∙ ap (λ k. joined_time k all) (ap length known ∙ place.long) in
        let counted : length all ≡ nodes = all_counted full.arrivals g.all ∙ size_is in
        subst (λ t. IsNewsOf nodes made x.node.locks.time t intervals) (sym is_top)
        (subst (IsNewsOf nodes made x.node.locks.time top) (sym intervals_same)
        (subst (λ t. IsNewsOf nodes made x.node.locks.time top (filter (is_news t) (intervals_of all))) (sym known)
        (record {
          long = top-long;
          full = top-full;
          between = λ q within.
              let y : (y : Logged) × (slice_get world.nodes q ≡ Some y) = node_of q within in
              let had : f.former q ≤ entry y.0.node.locks.time q =
              former-known program nodes options world r f me from m b lt own after departures g q y.0 y.1 q in
              let same : entry top q ≡ entry y.0.node.locks.time q = top-is q y.0 within y.1 in
              told_between f.former (entry top) x.node.locks.time q all all-own (subst (λ k. q < k) (sym counted) within)
              (former-known program nodes options world r f me from m b lt own after departures g p x at q) (omega (arith, had, same));
        })))

  -- ---- one turn

  abbrev pub DepartsNews : World → List StoredRecord → Type 0
  DepartsNews world made = (e : EnvelopeRecord) (m : DepartRecord) (l : Logged) → Contains (pending world) e → e.message ≡ Depart m
      → slice_get world.nodes e.to ≡ Some l → IsNewsOf nodes made l.node.locks.time m.time m.intervals

  module _ (world : World) (made : List StoredRecord) (flight : List Flying) (n : ℕ) (l after : Logged) (input : Input) (log_entry : EntryRecord)
      (at : slice_get world.nodes n ≡ Some l) (come : Comes world n input flight) (i : IsEntry l input log_entry after)
      (r : IsReached program nodes options world) (r' : IsReached program nodes options (with_turn world flight n log_entry after))
      (h : History program nodes options world made) (news : DepartsNews world made) where
    abbrev next : World
    next = with_turn world flight n log_entry after

    abbrev now_made : List StoredRecord
    now_made = made ++ closed_by l.node after.node

    f : Former program nodes options world
    f = all_former program nodes options world r

    f' : Former program nodes options next
    f' = all_former program nodes options next r'

    p : Placed nodes n l.node
    p = placed program nodes options world r n l at

    st : LineStep l.node f.timely.stand.manager nodes (pending world) (pending next) log_entry.turn after.node
    st = step program nodes options world flight n l after input log_entry at come i r r' f

    is : (x : ManagerRecord) → l.node.barrier.manager ≡ Some x → x ≡ f.timely.stand.manager
    is = its_manager program nodes options world f.timely.stand n l at

    listed : AreListed nodes made
    listed = all_listed program nodes options world made h

    counted : Counted made l.node.setting.me (entry l.node.locks.time l.node.setting.me)
    counted = subst (λ k. Counted made k (entry l.node.locks.time k)) (sym p.me) ((all_made program nodes options world made h).exact n l at)

    -- what was news of a time is that still
    news-longer : (before time : List ℕ) (intervals : List IntervalRecord) → IsNewsOf nodes made before time intervals
        → IsNewsOf nodes now_made before time intervals
    news-longer before time intervals k =
        record { long = k.long; full = full_still nodes n l.node made p listed counted after.node.locks.time time k.full; between = k.between }

    -- the receiver before the turn, and its time
    record Before (q : ℕ) (lb : Logged) : Type 0 where
      old : Logged
      was : slice_get world.nodes q ≡ Some old
      own : (n ≡ q) → (l ≡ old) × (after ≡ lb)
      other : (n ≡ q → ⊥) → old ≡ lb

    before : (q : ℕ) (lb : Logged) → slice_get next.nodes q ≡ Some lb → Before q lb
    before q lb at_q = elim (cases_eq n q) [
      | inl e ↦
          record {
            old = l;
            was = subst (λ k. slice_get world.nodes k ≡ Some l) e at;
            own = λ e'. (refl, same_Some after lb (sym (get_set_same world.nodes n l after at) ∙ ap (slice_get next.nodes) e ∙ at_q));
            other = λ ne. absurd (ne e);
          }
      | inr ne ↦ record { old = lb; was = sym (get_set_other world.nodes n q after ne) ∙ at_q; own = λ e. absurd (ne e); other = λ ne'. refl }
    ]

    -- a departure that was pending, and is
    depart-still : (e : EnvelopeRecord) (m : DepartRecord) (lb : Logged) → Contains (pending world) e → Contains (pending next) e → e.message ≡ Depart m
        → slice_get next.nodes e.to ≡ Some lb → IsNewsOf nodes now_made lb.node.locks.time m.time m.intervals
    depart-still e m lb old now says at_b =
        let k : Before e.to lb = before e.to lb at_b in
        let had : IsNewsOf nodes now_made k.old.node.locks.time m.time m.intervals =
        news-longer k.old.node.locks.time m.time m.intervals (news e m k.old old says k.was) in
        let time_is : k.old.node.locks.time ≡ lb.node.locks.time = elim (cases_eq n e.to) [
          | inl same ↦
              let is_l : l ≡ k.old = (k.own same).0 in
              let is_after : after ≡ lb = (k.own same).1 in
              let waited : l.node.mail.wait ≡ departure =
              awaiting world f.timely.stand e m l old says (ap (slice_get world.nodes) (sym same) ∙ at) in
              let waits : after.node.mail.wait ≡ departure =
              awaiting next f'.timely.stand e m after now says (ap (slice_get next.nodes) (sym same) ∙ get_set_same world.nodes n l after at) in
              ap (λ (x : Logged). x.node.locks.time) (sym is_l)
              ∙ sym (time-stays (site_of l.node) st.came st.acts after.node.mail.wait after.node.locks after.node.barrier st.letters st.passes waited waits)
              ∙ ap (λ (x : Logged). x.node.locks.time) is_after
          | inr ne ↦ ap (λ (x : Logged). x.node.locks.time) (k.other ne)
        ] in
        subst (λ t. IsNewsOf nodes now_made t m.time m.intervals) time_is had

    -- a departure that is sent
    depart-new : LetsAll (site_of l.node) f.timely.stand.manager is st.came st.acts after.node.mail.wait after.node.locks after.node.barrier st.letters
        → (e : EnvelopeRecord) (m : DepartRecord) (lb : Logged) → Contains log_entry.turn.out e → e.message ≡ Depart m
        → slice_get next.nodes e.to ≡ Some lb → IsNewsOf nodes now_made lb.node.locks.time m.time m.intervals
    depart-new c e m lb new says at_b =
        let came : Brought l.node.setting.me c.from (Arrive c.arrive) (pending world) =
        brought l.node.setting.me c.from (Arrive c.arrive) st.came st.o (pending world) log_entry.turn.out (pending next) c.came_is st.brings st.goes in
        let from_node : c.from < nodes = subst (IsFromNode nodes) c.came_is st.sender in
        let own : IsOwn (entry f.timely.stand.manager.last) (entry c.arrive.time) c.from c.arrive.intervals =
        arrives_own l.node c.from c.arrive f.timely.stand.manager is (subst (CameExpected l.node) c.came_is st.expected) in
        let full : ManagerRecord = with_arrival f.timely.stand.manager c.from (arrival_in c.arrive) in
        let t : ToldSo (arrivals_of full) (arrivals_of full) 0 (letter_in e) m =
        told_to (arrivals_of full) (arrivals_of full) 0 (letter_in e) m
        (subst (λ ls. Contains ls (letter_in e)) (st.out ∙ c.letters_is ∙ ap (map departure_of) c.lets.told) (among_letters log_entry.turn.out e new)) says in
        let to_is : t.place ≡ e.to = (let to : e.to ≡ 0 + t.place = t.to_is in omega (arith, to)) in
        let there : slice_index_or full.arrivals e.to None ≡ Some t.arrival =
        subst (λ k. slice_index_or full.arrivals k None ≡ Some t.arrival) to_is (all_there full.arrivals t.place t.arrival c.lets.all t.at) in
        let k : Before e.to lb = before e.to lb at_b in
        let time_is : k.old.node.locks.time ≡ lb.node.locks.time = elim (cases_eq n e.to) [
          | inl same ↦
              ap (λ (x : Logged). x.node.locks.time) (sym (k.own same).0)
              ∙ ap (λ (x : Locks). x.time) (sym c.locks_is)
              ∙ ap (λ (x : Logged). x.node.locks.time) (k.own same).1
          | inr ne ↦ ap (λ (x : Logged). x.node.locks.time) (k.other ne)
        ] in
        subst (λ u. IsNewsOf nodes now_made u m.time m.intervals) time_is
        (news-longer k.old.node.locks.time m.time m.intervals
        (news_of world made h r f l.node.setting.me c.from c.arrive came from_node own c.after c.departures c.lets e.to k.old t.arrival m.time m.intervals
        k.was there t.time_is t.intervals_is))

    departs_next : DepartsNews next now_made
    departs_next e m lb now says at_b =
        elim (in-now st.o (pending world) log_entry.turn.out (pending next) e st.goes now) [
          | inl old ↦ depart-still e m lb old now says at_b
          | inr new ↦
              elim (lets_or_not (site_of l.node) f.timely.stand.manager is st.came st.acts after.node.mail.wait after.node.locks after.node.barrier st.letters
              st.passes) [
                | inl c ↦ depart-new c e m lb new says at_b
                | inr g ↦
                    absurd (false≢true
                    (sym (g.no_departs (letter_in e) (subst (λ ls. Contains ls (letter_in e)) st.out (among_letters log_entry.turn.out e new)))
                    ∙ ap says_depart says))
              ]
        ]

  -- ---- every history

  departs-history : KeptByHistory program nodes options (λ world made. DepartsNews world made)
  departs-history world made flight n l after input log_entry at come i r r' h news =
      departs_next world made flight n l after input log_entry at come i r r' h news

  pub all_departs : (world : World) (made : List StoredRecord) → History program nodes options world made → DepartsNews world made
  all_departs world made h =
      by_history program nodes options (λ world made. DepartsNews world made) (λ e m l c is at. absurd (none_Contains e c)) departs-history world made h

  -- so its receiver can learn it
  pub depart_learnable : (world : World) (made : List StoredRecord) → History program nodes options world made → (e : EnvelopeRecord) (m : DepartRecord)
      (l : Logged) → Contains (pending world) e → e.message ≡ Depart m → slice_get world.nodes e.to ≡ Some l → is_learnable l.node m.time m.intervals ≡ true
  depart_learnable world made h e m l c is at =
      let news : IsNewsOf nodes made l.node.locks.time m.time m.intervals = all_departs world made h e m l c is at in
      learnable_from program nodes options world made h e.to l at m.time m.intervals news.long news.full
      (subst (λ x. AllMade (map interval_of made) (intervals_in x)) is (told_in (map interval_of made) (pending world) e
      (all_made program nodes options world made h).told c))
      news.between

  -- and would accept it now
  pub depart_expected : (events : List Event) (world : World) (e : EnvelopeRecord) (m : DepartRecord) (l : Logged)
      → run_of program nodes options events ≡ Some world → Contains (pending world) e → e.message ≡ Depart m → slice_get world.nodes e.to ≡ Some l
      → is_expected l.node e.from e.message ≡ true
  depart_expected events world e m l runs c is at =
      let h : (made : List StoredRecord) × History program nodes options world made = history_of program nodes options events world runs in
      let accepted : _ = depart_accepted program nodes options events world runs l e m c is at in
      ap (is_expected l.node e.from) is
      ∙ conditions l.node e.from (Depart m)
      ∙ and_from _ _
      (and_from _ _ (and_from _ _ (and_from _ _ (eq-eqb e.from 0 accepted.0) accepted.1) (eq-eqb m.episode l.node.barrier.episode accepted.2)) accepted.3)
      (depart_learnable world h.0 h.1 e m l c is at)
