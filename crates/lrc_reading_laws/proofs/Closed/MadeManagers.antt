-- What the manager keeps of arrivals, and what departures tell, is of intervals that were made.
use Rattle.std.proofs.Common.{◌≡◌, ℕ, zero, suc, ◌≤◌, List, [], ◌∷◌, Bool, true, false, length, map, refl, sym, subst}
use Rattle.std.specs.Prelude.{Option, Some, None, is_some, replicate, slice_index_or, slice_set, if◌then◌else◌}
use Rattle.std.specs.List.{list_all, enumerate_from, range_with_len}
use Rattle.lrc_time.specs.Time.{entry}
use Rattle.lrc_store.specs.Interval.{IntervalRecord}
use Rattle.lrc_envelope.specs.Records.{DepartRecord}
use Rattle.lrc_envelope.specs.declared.message.Message.{Message}
use Rattle.lrc_envelope.specs.declared.message.Message.TheVariants.{LockRequest, LockForward, LockGrant, Arrive, Depart, Clean, Discard}
use Rattle.lrc_envelope.specs.declared.message.Message.TheVariants.{ChangesRequest, ChangesReply, PageRequest, PageReply}
use Rattle.lrc_lock.specs.declared.state.Pass.{Pass}
use Rattle.lrc_barrier.specs.declared.fault.BarrierFault.TheVariants.{WrongEpisode, Twice}
use Rattle.lrc_barrier.specs.declared.arrival.Arrival.{Arrival}
use Rattle.lrc_barrier.specs.declared.departure.Departure.{Departure}
use Rattle.lrc_barrier.specs.Barrier.{ManagerRecord, ArriveStep, refuses, waits, departs, is_next, has_arrived, with_arrival, arrivals_of}
use Rattle.lrc_barrier.specs.Barrier.{accepted, arrived, departed, departures_of, departure_to, is_news, intervals_of as intervals_told}
use Rattle.lrc_barrier.specs.Barrier.{CleanStep, refuses_clean, awaits, discards, cleaned_with, cleaned_by, cleaned}
use Rattle.lrc_protocol.specs.Locks.{Locks}
use Rattle.lrc_protocol.specs.Barriers.{arrival_in, Barrier}
use Rattle.lrc_protocol.specs.Node.{Letter, Wait}
use Rattle.lrc_protocol.specs.Turn.{departure_of, discards_to}
use Rattle.lrc_order_laws.proofs.Sends.{is_other, AreOthers, Grants, Came, by_itself, comes, Site, Sends, plain, misses, takes, asks}
use Rattle.lrc_order_laws.proofs.Sends.{releasing, arriving, manages, forwarding, grants, gathers, lets_depart, departing, collecting}
use Rattle.lrc_order_laws.proofs.Sends.{clean_at_once, notes_clean, lets_discard, discarding, serves, accessing, still_misses, still_collects}
use Rattle.lrc_order_laws.proofs.Sends.{cleaning}
use Rattle.lrc_reading_laws.specs.Made.{AllMade, AllKept, ManagerKeeps}
use Rattle.lrc_reading_laws.proofs.Closed.Told.{made-filter, kept-set, kept-all}
use Rattle.lrc_reading_laws.proofs.Closed.MadeSteps.{DepartsSo}

module _ (made : List IntervalRecord) where
  abbrev AllDepart : List Departure → Type 0
  AllDepart [] = Unit {0}
  AllDepart (d ∷ departures) = AllMade made d.intervals × AllDepart departures

  -- ---- an arrival

  abbrev StepSo : ArriveStep → Type 0
  StepSo (refuses fault) = Unit {0}
  StepSo (waits after) = AllKept made after.arrivals
  StepSo (departs departures after) = AllDepart departures × AllKept made after.arrivals

  none_kept : (k : ℕ) → AllKept made (replicate k None)
  none_kept zero = tt
  none_kept (suc k) = none_kept k

  told_to : (arrivals : List Arrival) → AllMade made (intervals_told arrivals) → (some : List (ℕ × Arrival)) → AllDepart (map (departure_to arrivals) some)
  told_to arrivals h [] = tt
  told_to arrivals h (a ∷ some) = (made-filter made (is_news a.1.time) (intervals_told arrivals) h, told_to arrivals h some)

  accepted_so : (manager : ManagerRecord) → AllKept made manager.arrivals → StepSo (accepted manager)
  accepted_so manager h = by_test (list_all is_some manager.arrivals)
    where
      by_test : (b : Bool) → StepSo (if b then departs (departures_of (arrivals_of manager)) (departed manager) else waits manager)
      by_test true = (
        told_to (arrivals_of manager) (kept-all made manager.arrivals h) (enumerate_from 0 (arrivals_of manager)),
        none_kept
            (length manager.last),
      )
      by_test false = h

  arrived_so : (manager : ManagerRecord) (from : ℕ) (a : Arrival) → AllKept made manager.arrivals → AllMade made a.intervals → StepSo (arrived manager from a)
  arrived_so manager from a h k = by_tests (is_next manager a.episode) (has_arrived manager from)
    where
      by_tests : (b c : Bool) → StepSo (if b then (if c then refuses Twice else accepted (with_arrival manager from a)) else refuses WrongEpisode)
      by_tests true true = tt
      by_tests true false = accepted_so (with_arrival manager from a) (kept-set made manager.arrivals from a h k)
      by_tests false c = tt

  -- ---- a Clean

  abbrev CleanSo : List (Option Arrival) → CleanStep → Type 0
  CleanSo kept (refuses_clean fault) = Unit {0}
  CleanSo kept (awaits after) = after.arrivals ≡ kept
  CleanSo kept (discards over after) = after.arrivals ≡ kept

  cleaned_so : (manager : ManagerRecord) (from episode : ℕ) → CleanSo manager.arrivals (cleaned manager from episode)
  cleaned_so manager from episode = by_cleans manager.cleans
    where
      with_cleans : (cleans : List Bool) (b : Bool) → CleanSo manager.arrivals
          (if b then discards manager.done (record manager { cleans = None }) else awaits (record manager { cleans = Some cleans }))
      with_cleans cleans true = refl
      with_cleans cleans false = refl

      by_tests : (cleans : List Bool) (b c : Bool) → CleanSo manager.arrivals
          (if b then (if c then refuses_clean Twice else cleaned_with manager (slice_set cleans from true)) else refuses_clean WrongEpisode)
      by_tests cleans true true = tt
      by_tests cleans true false = with_cleans (slice_set cleans from true) (list_all (λ clean. clean) (slice_set cleans from true))
      by_tests cleans false c = tt

      by_cleans : (cleans : Option (List Bool)) → CleanSo manager.arrivals (cleaned_by manager from episode cleans)
      by_cleans None = tt
      by_cleans (Some cleans) = by_tests cleans _ (slice_index_or cleans from false)

  -- ---- letters of no departure

  no_depart : (message : Message) → is_other message ≡ true → (m : DepartRecord) → message ≡ Depart m → ⊥
  no_depart (Depart m) e d is = cc
  no_depart (LockRequest m) e d is = cc
  no_depart (LockForward m) e d is = cc
  no_depart (LockGrant m) e d is = cc
  no_depart (Arrive m) e d is = cc
  no_depart (Clean episode) e d is = cc
  no_depart (Discard episode) e d is = cc
  no_depart (ChangesRequest m) e d is = cc
  no_depart (ChangesReply m) e d is = cc
  no_depart (PageRequest page) e d is = cc
  no_depart (PageReply m) e d is = cc

  others_so : (letters : List Letter) → AreOthers letters → DepartsSo made letters
  others_so [] h = tt
  others_so (x ∷ letters) h = (λ m e. absurd (no_depart x.message h.0 m e), others_so letters h.1)

  departures_so : (departures : List Departure) → AllDepart departures → DepartsSo made (map departure_of departures)
  departures_so [] h = tt
  departures_so (d ∷ departures) h = (λ m e. by_same d m h.0 e, departures_so departures h.1)
    where
      by_same : (d : Departure) (m : DepartRecord) → AllMade made d.intervals
          → Depart (record { episode = d.episode; collect = d.collect; time = d.time; intervals = d.intervals }) ≡ Depart m → AllMade made m.intervals
      by_same d m h e =
          let same : record { episode = d.episode; collect = d.collect; time = d.time; intervals = d.intervals } ≡ m = cc in
          subst (λ (m : DepartRecord). AllMade made m.intervals) same h

  discards_so : (nodes : List ℕ) (episode : ℕ) → DepartsSo made (discards_to nodes episode)
  discards_so [] episode = tt
  discards_so (n ∷ nodes) episode = (λ m e. cc, discards_so nodes episode)

  grants_so : (pass : Option Pass) (letters : List Letter) → Grants pass letters → DepartsSo made letters
  grants_so None letters g = subst (DepartsSo made) (sym g) tt
  grants_so (Some p) letters g = subst (DepartsSo made) (sym g.1) (λ m e. cc, tt)

  -- ---- every turn

  -- what an arrival that comes tells was made
  abbrev pub ArrivesSo : Came → Type 0
  ArrivesSo (comes from (Arrive m)) = AllMade made m.intervals
  ArrivesSo _ = Unit {0}

  -- what the manager keeps then, and what departures tell
  pub record ManagedSo (barrier : Barrier) (letters : List Letter) : Type 0 where
    pub keeps : ManagerKeeps made barrier.manager
    pub departs : DepartsSo made letters

  keeps_of : (o : Option ManagerRecord) (manager : ManagerRecord) → o ≡ Some manager → ManagerKeeps made o → AllKept made manager.arrivals
  keeps_of o manager e h = subst (ManagerKeeps made) e h

  pub managed_so : (s : Site) → ManagerKeeps made s.barrier.manager → (came : Came) (acts : Bool) (wait : Wait) (locks : Locks) (barrier : Barrier)
      (letters : List Letter)
      → ArrivesSo came → Sends s came acts wait locks barrier letters → ManagedSo barrier letters
  managed_so s h _ _ _ _ _ letters k (plain next w n is o) = record { keeps = h; departs = others_so letters o }
  managed_so s h _ _ _ _ _ letters k (misses w n o) = record { keeps = h; departs = others_so letters o }
  managed_so s h _ _ _ _ _ letters k (takes lock w n free) = record { keeps = h; departs = tt }
  managed_so s h _ _ _ _ _ letters k (asks lock w n away) = record { keeps = h; departs = (λ m e. cc, tt) }
  managed_so s h _ _ _ _ _ letters k (releasing lock t w n g) = record { keeps = h; departs = grants_so _ letters g }
  managed_so s h _ _ _ _ _ letters k (arriving t ask intervals w n) = record { keeps = h; departs = (λ m e. cc, tt) }
  managed_so s h _ _ _ _ _ letters k (manages from m lt long mine) = record { keeps = h; departs = (λ m e. cc, tt) }
  managed_so s h _ _ _ _ _ letters k (forwarding from m lt asker long mine t g) = record { keeps = h; departs = grants_so _ letters g }
  managed_so s h _ _ _ _ _ letters k (grants from m lt w l) = record { keeps = h; departs = tt }
  managed_so s h _ _ _ _ _ letters k (gathers from a before after at long is) = record {
    keeps = subst StepSo is (arrived_so before from (arrival_in a) (keeps_of s.barrier.manager before at h) k);
    departs = tt;
  }
  managed_so s h _ _ _ _ _ letters k (lets_depart from a before after departures at long is) =
      let told : StepSo (departs departures after) = subst StepSo is (arrived_so before from (arrival_in a) (keeps_of s.barrier.manager before at h) k) in
      record { keeps = told.1; departs = departures_so departures told.0 }
  managed_so s h _ _ _ _ _ letters k (departing from d l c) = record { keeps = h; departs = tt }
  managed_so s h _ _ _ _ _ letters k (collecting from d l c t o) = record { keeps = h; departs = others_so letters o }
  managed_so s h _ _ _ _ _ letters k (clean_at_once from d l c t) = record { keeps = h; departs = (λ m e. cc, tt) }
  managed_so s h _ _ _ _ _ letters k (notes_clean from episode before after at is) = record {
    keeps =
        let same : after.arrivals ≡ before.arrivals = subst (CleanSo before.arrivals) is (cleaned_so before from episode) in
        subst (AllKept made) (sym same) (keeps_of s.barrier.manager before at h);
    departs = tt;
  }
  managed_so s h _ _ _ _ _ letters k (lets_discard from episode over before after at is) = record {
    keeps =
        let same : after.arrivals ≡ before.arrivals = subst (CleanSo before.arrivals) is (cleaned_so before from episode) in
        subst (AllKept made) (sym same) (keeps_of s.barrier.manager before at h);
    departs = discards_so (range_with_len 0 s.nodes) over;
  }
  managed_so s h _ _ _ _ _ letters k (discarding from episode collection w z e) = record { keeps = h; departs = tt }
  managed_so s h _ _ _ _ _ letters k (serves from message o l) = record { keeps = h; departs = others_so letters l }
  managed_so s h _ _ _ _ _ letters k (accessing from message need o w) = record { keeps = h; departs = tt }
  managed_so s h _ _ _ _ _ letters k (still_misses from message before o w) = record { keeps = h; departs = tt }
  managed_so s h _ _ _ _ _ letters k (still_collects from message before had o w t) = record { keeps = h; departs = tt }
  managed_so s h _ _ _ _ _ letters k (cleaning from message before had o w t) = record { keeps = h; departs = (λ m e. cc, tt) }

-- ---- a time that a node learns has no more of it than the node itself

abbrev pub Bounds : Site → Message → Type 0
Bounds s (LockGrant m) = entry m.time s.me ≤ entry s.locks.time s.me
Bounds s (Depart m) = entry m.time s.me ≤ entry s.locks.time s.me
Bounds s _ = Unit {0}

abbrev pub BoundsIn : Site → Came → Type 0
BoundsIn s by_itself = Unit {0}
BoundsIn s (comes from message) = Bounds s message

other_bounds : (s : Site) (message : Message) → is_other message ≡ true → Bounds s message
other_bounds s (ChangesRequest m) e = tt
other_bounds s (ChangesReply m) e = tt
other_bounds s (PageRequest page) e = tt
other_bounds s (PageReply m) e = tt
other_bounds s (LockRequest m) e = cc
other_bounds s (LockForward m) e = cc
other_bounds s (LockGrant m) e = cc
other_bounds s (Arrive m) e = cc
other_bounds s (Depart m) e = cc
other_bounds s (Clean episode) e = cc
other_bounds s (Discard episode) e = cc

pub bounded : (s : Site) (came : Came) (acts : Bool) (wait : Wait) (locks : Locks) (barrier : Barrier) (letters : List Letter)
    → Sends s came acts wait locks barrier letters → BoundsIn s came
bounded s _ _ _ _ _ letters (plain next w n is o) = tt
bounded s _ _ _ _ _ letters (misses w n o) = tt
bounded s _ _ _ _ _ letters (takes lock w n free) = tt
bounded s _ _ _ _ _ letters (asks lock w n away) = tt
bounded s _ _ _ _ _ letters (releasing lock t w n g) = tt
bounded s _ _ _ _ _ letters (arriving t ask intervals w n) = tt
bounded s _ _ _ _ _ letters (manages from m lt long mine) = tt
bounded s _ _ _ _ _ letters (forwarding from m lt asker long mine t g) = tt
bounded s _ _ _ _ _ letters (grants from m lt w k) = k.own
bounded s _ _ _ _ _ letters (gathers from a before after at long is) = tt
bounded s _ _ _ _ _ letters (lets_depart from a before after departures at long is) = tt
bounded s _ _ _ _ _ letters (departing from d k c) = k.learnable.own
bounded s _ _ _ _ _ letters (collecting from d k c t o) = k.learnable.own
bounded s _ _ _ _ _ letters (clean_at_once from d k c t) = k.learnable.own
bounded s _ _ _ _ _ letters (notes_clean from episode before after at is) = tt
bounded s _ _ _ _ _ letters (lets_discard from episode over before after at is) = tt
bounded s _ _ _ _ _ letters (discarding from episode collection w z e) = tt
bounded s _ _ _ _ _ letters (serves from message o l) = other_bounds s message o
bounded s _ _ _ _ _ letters (accessing from message need o w) = other_bounds s message o
bounded s _ _ _ _ _ letters (still_misses from message before o w) = other_bounds s message o
bounded s _ _ _ _ _ letters (still_collects from message before had o w t) = other_bounds s message o
bounded s _ _ _ _ _ letters (cleaning from message before had o w t) = other_bounds s message o
