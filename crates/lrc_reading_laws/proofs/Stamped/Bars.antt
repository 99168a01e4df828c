-- What a turn does to what a node sent with its arrivals, and to what the manager has of arrivals.
use Rattle.std.proofs.Common.{◌≡◌, ◌⊎◌, ℕ, zero, suc, ◌≤◌, max, List, [], ◌∷◌, Bool, true, false, length, map, refl, sym, ap, subst, ◌∙◌, inl, inr, arith}
use Rattle.std.specs.Prelude.{Option, Some, None, is_some, replicate, slice_index_or, slice_set, if◌then◌else◌}
use Rattle.std.specs.List.{list_all, range_with_len}
use Rattle.lrc_time.specs.Time.{entry, joined}
use Rattle.lrc_time.proofs.Times.{entry-joined}
use Rattle.lrc_envelope.specs.Records.{ArriveRecord}
use Rattle.lrc_envelope.specs.declared.message.Message.{Message}
use Rattle.lrc_envelope.specs.declared.message.Message.TheVariants.{LockRequest, LockForward, LockGrant, Arrive, Depart, Clean, Discard}
use Rattle.lrc_envelope.specs.declared.message.Message.TheVariants.{ChangesRequest, ChangesReply, PageRequest, PageReply}
use Rattle.lrc_lock.specs.declared.state.Pass.{Pass}
use Rattle.lrc_barrier.specs.declared.fault.BarrierFault.TheVariants.{WrongEpisode, Twice}
use Rattle.lrc_barrier.specs.declared.arrival.Arrival.{Arrival}
use Rattle.lrc_barrier.specs.declared.departure.Departure.{Departure}
use Rattle.lrc_barrier.specs.Barrier.{ManagerRecord, ArriveStep, refuses, waits, departs, is_next, has_arrived, with_arrival, arrivals_of}
use Rattle.lrc_barrier.specs.Barrier.{accepted, arrived, departed, departures_of, CleanStep, refuses_clean, awaits, discards, cleaned_with}
use Rattle.lrc_barrier.specs.Barrier.{cleaned_by, cleaned}
use Rattle.lrc_protocol.specs.Times.{next_time}
use Rattle.lrc_protocol.specs.Locks.{Locks}
use Rattle.lrc_protocol.specs.Barriers.{arrival_in, Barrier}
use Rattle.lrc_protocol.specs.Node.{Letter, Wait, nothing}
use Rattle.lrc_protocol.specs.Turn.{departure_of, discards_to}
use Rattle.lrc_order_laws.specs.Counts.{is_inside}
use Rattle.lrc_order_laws.proofs.Arrivals.{get_set}
use Rattle.lrc_order_laws.proofs.Sends.{is_other, AreOthers, Grants, Came, by_itself, comes, Site, Sends, plain, misses, takes, asks}
use Rattle.lrc_order_laws.proofs.Sends.{releasing, arriving, manages, forwarding, grants, gathers, lets_depart, departing, collecting}
use Rattle.lrc_order_laws.proofs.Sends.{clean_at_once, notes_clean, lets_discard, discarding, serves, accessing, still_misses, still_collects}
use Rattle.lrc_order_laws.proofs.Sends.{cleaning}

-- ---- letters that are no arrival

abbrev pub is_arrive : Message → Bool
is_arrive (Arrive m) = true
is_arrive _ = false

abbrev pub NoArrives : List Letter → Type 0
NoArrives [] = Unit {0}
NoArrives (x ∷ letters) = (is_arrive x.message ≡ false) × NoArrives letters

other-none : (m : Message) → is_other m ≡ true → is_arrive m ≡ false
other-none (ChangesRequest m) e = refl
other-none (ChangesReply m) e = refl
other-none (PageRequest page) e = refl
other-none (PageReply m) e = refl
other-none (LockRequest m) e = refl
other-none (LockForward m) e = refl
other-none (LockGrant m) e = refl
other-none (Arrive m) e = cc
other-none (Depart m) e = refl
other-none (Clean episode) e = refl
other-none (Discard episode) e = refl

pub others-none : (letters : List Letter) → AreOthers letters → NoArrives letters
others-none [] h = tt
others-none (x ∷ letters) h = (other-none x.message h.0, others-none letters h.1)

pub grants-none : (pass : Option Pass) (letters : List Letter) → Grants pass letters → NoArrives letters
grants-none None letters g = subst NoArrives (sym g) tt
grants-none (Some pass) letters g = subst NoArrives (sym g.1) (refl, tt)

pub departures-none : (departures : List Departure) → NoArrives (map departure_of departures)
departures-none [] = tt
departures-none (d ∷ departures) = (refl, departures-none departures)

pub discards-none : (nodes : List ℕ) (episode : ℕ) → NoArrives (discards_to nodes episode)
discards-none [] episode = tt
discards-none (n ∷ nodes) episode = (refl, discards-none nodes episode)

-- ---- the manager

-- what it has of each node's arrivals, and the arrival that it keeps
abbrev pub last_of : Option ManagerRecord → List ℕ
last_of None = []
last_of (Some manager) = manager.last

abbrev pub kept_in : Option ManagerRecord → ℕ → Option Arrival
kept_in None q = None
kept_in (Some manager) q = slice_index_or manager.arrivals q None

abbrev ArriveKeeps : ManagerRecord → ℕ → Arrival → ArriveStep → Type 0
ArriveKeeps manager from a (refuses fault) = Unit {0}
ArriveKeeps manager from a (waits after) =
    (after.last ≡ slice_set manager.last from (entry a.time from)) × (after.arrivals ≡ slice_set manager.arrivals from (Some a))
ArriveKeeps manager from a (departs departures after) =
    (after.last ≡ slice_set manager.last from (entry a.time from)) × ((k : ℕ) × (after.arrivals ≡ replicate k None))

arrive-keeps : (manager : ManagerRecord) (from : ℕ) (a : Arrival) → ArriveKeeps manager from a (arrived manager from a)
arrive-keeps manager from a = by_tests (is_next manager a.episode) (has_arrived manager from)
  where
    all_there : (b : Bool) → ArriveKeeps manager from a
        (if b then departs (departures_of (arrivals_of (with_arrival manager from a))) (departed (with_arrival manager from a)) else waits
        (with_arrival manager from a))
    all_there true = (refl, (length (with_arrival manager from a).last, refl))
    all_there false = (refl, refl)

    by_tests : (b c : Bool) → ArriveKeeps manager from a
        (if b then (if c then refuses Twice else accepted (with_arrival manager from a)) else refuses WrongEpisode)
    by_tests true true = tt
    by_tests true false = all_there (list_all is_some (with_arrival manager from a).arrivals)
    by_tests false c = tt

abbrev CleanKeeps : ManagerRecord → CleanStep → Type 0
CleanKeeps manager (refuses_clean fault) = Unit {0}
CleanKeeps manager (awaits after) = (after.last ≡ manager.last) × (after.arrivals ≡ manager.arrivals)
CleanKeeps manager (discards over after) = (after.last ≡ manager.last) × (after.arrivals ≡ manager.arrivals)

clean-keeps : (manager : ManagerRecord) (from episode : ℕ) → CleanKeeps manager (cleaned manager from episode)
clean-keeps manager from episode = by_cleans manager.cleans
  where
    with_cleans : (cleans : List Bool) (b : Bool) → CleanKeeps manager
        (if b then discards manager.done (record manager { cleans = None }) else awaits (record manager { cleans = Some cleans }))
    with_cleans cleans true = (refl, refl)
    with_cleans cleans false = (refl, refl)

    by_tests : (cleans : List Bool) (b c : Bool) → CleanKeeps manager
        (if b then (if c then refuses_clean Twice else cleaned_with manager (slice_set cleans from true)) else refuses_clean WrongEpisode)
    by_tests cleans true true = tt
    by_tests cleans true false = with_cleans (slice_set cleans from true) (list_all (λ clean. clean) (slice_set cleans from true))
    by_tests cleans false c = tt

    by_cleans : (cleans : Option (List Bool)) → CleanKeeps manager (cleaned_by manager from episode cleans)
    by_cleans None = tt
    by_cleans (Some cleans) = by_tests cleans _ (slice_index_or cleans from false)

none_kept : (k q : ℕ) (a : Arrival) → slice_index_or (replicate k None) q None ≡ Some a → ⊥
none_kept zero q a e = cc
none_kept (suc k) zero a e = cc
none_kept (suc k) (suc q) a e = none_kept k q a e

-- ---- one turn

-- what comes is no arrival
abbrev pub NotArrive : Came → Type 0
NotArrive by_itself = Unit {0}
NotArrive (comes from (Arrive m)) = ⊥
NotArrive (comes from _) = Unit {0}

pub other-not : (from : ℕ) (message : Message) → is_other message ≡ true → NotArrive (comes from message)
other-not from (ChangesRequest m) e = tt
other-not from (ChangesReply m) e = tt
other-not from (PageRequest page) e = tt
other-not from (PageReply m) e = tt
other-not from (LockRequest m) e = tt
other-not from (LockForward m) e = tt
other-not from (LockGrant m) e = tt
other-not from (Arrive m) e = cc
other-not from (Depart m) e = tt
other-not from (Clean episode) e = tt
other-not from (Discard episode) e = tt

-- With nothing of arrivals; the node arrives; or the manager takes an arrival.
pub data Bars (s : Site) : Came → Wait → Locks → Barrier → List Letter → Type 0 where
  calm : {came : Came} {wait : Wait} {locks : Locks} {barrier : Barrier} {letters : List Letter} → NotArrive came → NoArrives letters
      → barrier.sent ≡ s.barrier.sent → last_of barrier.manager ≡ last_of s.barrier.manager
      → ((q : ℕ) (a : Arrival) → kept_in barrier.manager q ≡ Some a → kept_in s.barrier.manager q ≡ Some a)
      → (is_inside wait ≡ 1 → (is_inside s.wait ≡ 1) × (entry locks.time s.me ≡ entry s.locks.time s.me))
      → Bars s came wait locks barrier letters
  arrives : {wait : Wait} {locks : Locks} {barrier : Barrier} {letters : List Letter} → s.wait ≡ nothing → locks.time ≡ next_time s.me s.locks.time
      → barrier.sent ≡ entry (next_time s.me s.locks.time) s.me → barrier.manager ≡ s.barrier.manager
      → Bars s by_itself wait locks barrier letters
  takes_one : (from : ℕ) (m : ArriveRecord) {wait : Wait} {locks : Locks} {barrier : Barrier} {letters : List Letter} → NoArrives letters
      → barrier.sent ≡ s.barrier.sent → last_of barrier.manager ≡ slice_set (last_of s.barrier.manager) from (entry m.time from)
      → ((q : ℕ) (a : Arrival) → kept_in barrier.manager q ≡ Some a → (kept_in s.barrier.manager q ≡ Some a) ⊎ ((from ≡ q) × (arrival_in m ≡ a)))
      → locks ≡ s.locks → wait ≡ s.wait
      → Bars s (comes from (Arrive m)) wait locks barrier letters

outside : (w : Wait) (Y : Type 0) → is_inside w ≡ 0 → is_inside w ≡ 1 → Y
outside w Y z i = absurd (omega (arith, z, i))

module _ (s : Site) where
  abbrev Own : Wait → Locks → Type 0
  Own wait locks = is_inside wait ≡ 1 → (is_inside s.wait ≡ 1) × (entry locks.time s.me ≡ entry s.locks.time s.me)

  still : (came : Came) (wait : Wait) (locks : Locks) (letters : List Letter) → NotArrive came → NoArrives letters → Own wait locks
      → Bars s came wait locks s.barrier letters
  still came wait locks letters other q own = calm other q refl refl (λ q a e. e) own

  out : (wait : Wait) (locks : Locks) → is_inside wait ≡ 0 → Own wait locks
  out wait locks z = λ i. outside wait ((is_inside s.wait ≡ 1) × (entry locks.time s.me ≡ entry s.locks.time s.me)) z i

  learned : (time : List ℕ) → entry time s.me ≤ entry s.locks.time s.me → entry (joined s.locks.time time) s.me ≡ entry s.locks.time s.me
  learned time le = entry-joined s.locks.time time s.me ∙ most (entry s.locks.time s.me) (entry time s.me) le
    where
      most : (a b : ℕ) → b ≤ a → max a b ≡ a
      most a b le = omega (arith, le)

  with_clean : (came : Came) (wait : Wait) (barrier : Barrier) (letters : List Letter) (before after : ManagerRecord) → NotArrive came
      → NoArrives letters → s.barrier.manager ≡ Some before → barrier.manager ≡ Some after → barrier.sent ≡ s.barrier.sent
      → (after.last ≡ before.last) × (after.arrivals ≡ before.arrivals) → wait ≡ s.wait → Bars s came wait s.locks barrier letters
  with_clean came wait barrier letters before after other q was now sent k w =
      calm other q sent (ap last_of now ∙ k.0 ∙ sym (ap last_of was))
      (λ n a e. ap (λ o. kept_in o n) was ∙ sym (ap (λ arrivals. slice_index_or arrivals n None) k.1) ∙ sym (ap (λ o. kept_in o n) now) ∙ e)
      (λ i. (ap is_inside (sym w) ∙ i, refl))

  with_arrive_step : (from : ℕ) (m : ArriveRecord) (wait : Wait) (barrier : Barrier) (letters : List Letter) (before after : ManagerRecord) → NoArrives letters
      → s.barrier.manager ≡ Some before → barrier.manager ≡ Some after → barrier.sent ≡ s.barrier.sent
      → after.last ≡ slice_set before.last from (entry m.time from)
      → ((q : ℕ) (a : Arrival) → slice_index_or after.arrivals q None ≡ Some a
      → (slice_index_or before.arrivals q None ≡ Some a) ⊎ ((from ≡ q) × (arrival_in m ≡ a)))
      → wait ≡ s.wait → Bars s (comes from (Arrive m)) wait s.locks barrier letters
  with_arrive_step from m wait barrier letters before after q was now sent last kept w =
      takes_one from m q sent
      (ap last_of now ∙ last ∙ ap (λ l. slice_set l from (entry m.time from)) (sym (ap last_of was)))
      (λ n a e. by_kept n a (kept n a (sym (ap (λ o. kept_in o n) now) ∙ e)))
      refl w
    where
      by_kept : (n : ℕ) (a : Arrival) → (slice_index_or before.arrivals n None ≡ Some a) ⊎ ((from ≡ n) × (arrival_in m ≡ a))
          → (kept_in s.barrier.manager n ≡ Some a) ⊎ ((from ≡ n) × (arrival_in m ≡ a))
      by_kept n a (inl old) = inl (ap (λ o. kept_in o n) was ∙ old)
      by_kept n a (inr new) = inr new

  set_kept : (arrivals : List (Option Arrival)) (from : ℕ) (m : ArriveRecord) (q : ℕ) (a : Arrival)
      → slice_index_or (slice_set arrivals from (Some (arrival_in m))) q None ≡ Some a
      → (slice_index_or arrivals q None ≡ Some a) ⊎ ((from ≡ q) × (arrival_in m ≡ a))
  set_kept arrivals from m q a e = elim (get_set arrivals from q (arrival_in m) a e) [ inl here ↦ inr (here.0, here.1) | inr there ↦ inl there ]

  pub turn_bars : (came : Came) (acts : Bool) (wait : Wait) (locks : Locks) (barrier : Barrier) (letters : List Letter)
      → Sends s came acts wait locks barrier letters → Bars s came wait locks barrier letters
  turn_bars _ _ wait locks _ letters (plain next w n p o) = still by_itself wait locks letters tt (others-none letters o) (out wait locks refl)
  turn_bars _ _ wait locks _ letters (misses w n o) = still by_itself wait locks letters tt (others-none letters o) (out wait locks refl)
  turn_bars _ _ wait locks _ letters (takes lock w n f) = still by_itself wait locks letters tt tt (out wait locks refl)
  turn_bars _ _ wait locks _ letters (asks lock w n f) = still by_itself wait locks letters tt (refl, tt) (out wait locks refl)
  turn_bars _ _ wait locks _ letters (releasing lock after w n g) = still by_itself wait locks letters tt (grants-none _ letters g) (out wait locks refl)
  turn_bars _ _ _ _ _ _ (arriving after ask intervals w n) = arrives w refl refl refl
  turn_bars _ _ wait locks _ letters (manages from m lt long is) = still (comes from (LockRequest m)) wait locks letters tt (refl, tt) (λ i. (i, refl))
  turn_bars _ _ wait locks _ letters (forwarding from m lt among long is t g) =
      still (comes from (LockForward m)) wait locks letters tt (grants-none _ letters g) (λ i. (i, refl))
  turn_bars _ _ wait locks _ letters (grants from m lt w l) = still (comes from (LockGrant m)) wait locks letters tt tt (out wait locks refl)
  turn_bars _ _ wait _ barrier letters (gathers from m before after e long a) =
      let k : ArriveKeeps before from (arrival_in m) (waits after) = subst (ArriveKeeps before from (arrival_in m)) a (arrive-keeps before from
      (arrival_in m)) in
      with_arrive_step from m wait barrier letters before after tt e refl refl k.0
      (λ q x is. set_kept before.arrivals from m q x (ap (λ arrivals. slice_index_or arrivals q None) (sym k.1) ∙ is)) refl
  turn_bars _ _ wait _ barrier letters (lets_depart from m before after departures e long a) =
      let k : ArriveKeeps before from (arrival_in m) (departs departures after) =
      subst (ArriveKeeps before from (arrival_in m)) a (arrive-keeps before from (arrival_in m)) in
      with_arrive_step from m wait barrier letters before after (departures-none departures) e refl refl k.0
      (λ q x is. absurd (none_kept k.1.0 q x (ap (λ arrivals. slice_index_or arrivals q None) (sym k.1.1) ∙ is))) refl
  turn_bars _ _ wait locks _ letters (departing from m a c) = still (comes from (Depart m)) wait locks letters tt tt (out wait locks refl)
  turn_bars _ _ wait locks _ letters (collecting from m a c t o) =
      still (comes from (Depart m)) wait locks letters tt (others-none letters o) (λ i. (ap is_inside a.wait, learned m.time a.learnable.own))
  turn_bars _ _ wait locks _ letters (clean_at_once from m a c t) =
      still (comes from (Depart m)) wait locks letters tt (refl, tt) (λ i. (ap is_inside a.wait, learned m.time a.learnable.own))
  turn_bars _ _ wait _ barrier letters (notes_clean from episode before after e c) =
      let k : CleanKeeps before (awaits after) = subst (CleanKeeps before) c (clean-keeps before from episode) in
      with_clean (comes from (Clean episode)) wait barrier letters before after tt tt e refl refl k refl
  turn_bars _ _ wait _ barrier letters (lets_discard from episode over before after e c) =
      let k : CleanKeeps before (discards over after) = subst (CleanKeeps before) c (clean-keeps before from episode) in
      with_clean (comes from (Clean episode)) wait barrier letters before after tt (discards-none (range_with_len 0 s.nodes) over) e refl refl k refl
  turn_bars _ _ wait locks _ letters (discarding from episode collection w z e) = still (comes from (Discard episode)) wait locks letters tt tt
      (out wait locks refl)
  turn_bars _ _ wait locks _ letters (serves from message is o) = still (comes from message) wait locks letters (other-not from message is)
      (others-none letters o) (λ i. (i, refl))
  turn_bars _ _ wait locks _ letters (accessing from message need is w) = still (comes from message) wait locks letters (other-not from message is) tt
      (out wait locks refl)
  turn_bars _ _ wait locks _ letters (still_misses from message before is w) = still (comes from message) wait locks letters
      (other-not from message is) tt (out wait locks refl)
  turn_bars _ _ wait locks _ letters (still_collects from message before had is w t) =
      still (comes from message) wait locks letters (other-not from message is) tt (λ i. (ap is_inside w, refl))
  turn_bars _ _ wait locks _ letters (cleaning from message before had is w t) =
      still (comes from message) wait locks letters (other-not from message is) (refl, tt) (λ i. (ap is_inside w, refl))
