-- What a turn does to the manager's note of the newest arrivals, and to its node's time: which never falls, and covers what a
-- departure tells.
use Rattle.std.proofs.Common.{◌≡◌, ℕ, List, [], Bool, true, false, map, refl, sym, ap, subst, ◌∙◌}
use Rattle.std.specs.Prelude.{Option, Some, None, unwrap_or}
use Rattle.std.proofs.lemmas.Bool.{false≢true}
use Rattle.lrc_time.specs.Time.{joined, Covers}
use Rattle.lrc_time.proofs.Times.{covers-refl, covers-joined_first, covers-joined_second}
use Rattle.lrc_envelope.specs.Records.{ArriveRecord, DepartRecord}
use Rattle.lrc_envelope.specs.declared.message.Message.{Message}
use Rattle.lrc_envelope.specs.declared.message.Message.TheVariants.{LockRequest, LockForward, LockGrant, Arrive, Depart, Clean, Discard}
use Rattle.lrc_barrier.specs.declared.departure.Departure.{Departure}
use Rattle.lrc_barrier.specs.Barrier.{ManagerRecord}
use Rattle.lrc_protocol.specs.Locks.{Locks}
use Rattle.lrc_protocol.specs.Barriers.{arrival_in, Barrier}
use Rattle.lrc_protocol.specs.Node.{Letter, Wait}
use Rattle.lrc_protocol.specs.Turn.{departure_of}
use Rattle.lrc_order_laws.proofs.Managers.{Gathered, gathered, LetGo, let_go, Noted, noted, LetDiscard, let_discard}
use Rattle.lrc_order_laws.proofs.LockMoves.{covers-next}
use Rattle.lrc_order_laws.proofs.Sends.{is_other, Came, by_itself, comes, Site, Sends, plain, misses, takes, asks, releasing}
use Rattle.lrc_order_laws.proofs.Sends.{arriving, manages, forwarding, grants, gathers, lets_depart, departing, collecting, clean_at_once}
use Rattle.lrc_order_laws.proofs.Sends.{notes_clean, lets_discard, discarding, serves, accessing, still_misses, still_collects, cleaning}

-- the manager's arrivals and notes stay; or it keeps an arrival; or lets all depart
pub data Line (s : Site) (manager : ManagerRecord) : Came → Barrier → List Letter → Type 0 where
  stays_so : {came : Came} {barrier : Barrier} {letters : List Letter} → (unwrap_or barrier.manager manager).last ≡ manager.last
      → (unwrap_or barrier.manager manager).arrivals ≡ manager.arrivals → Line s manager came barrier letters
  keeps_so : (from : ℕ) (m : ArriveRecord) {barrier : Barrier} (after : ManagerRecord) → unwrap_or barrier.manager manager ≡ after
      → Gathered manager from (arrival_in m) after → Line s manager (comes from (Arrive m)) barrier []
  lets_so : (from : ℕ) (m : ArriveRecord) {barrier : Barrier} (after : ManagerRecord) (departures : List Departure)
      → unwrap_or barrier.manager manager ≡ after → LetGo manager from (arrival_in m) after departures
      → Line s manager (comes from (Arrive m)) barrier (map departure_of departures)

pub same_line : (s : Site) (manager : ManagerRecord) (came : Came) (barrier : Barrier) (letters : List Letter) (o : Option ManagerRecord)
    → s.barrier.manager ≡ o
    → ((x : ManagerRecord) → o ≡ Some x → x ≡ manager) → barrier.manager ≡ s.barrier.manager → Line s manager came barrier letters
same_line s manager came barrier letters None at is e =
    stays_so (ap (λ (o : Option ManagerRecord). (unwrap_or o manager).last) (e ∙ at)) (ap (λ (o : Option ManagerRecord).
    (unwrap_or o manager).arrivals) (e ∙ at))
same_line s manager came barrier letters (Some x) at is e =
    stays_so (ap (λ (o : Option ManagerRecord). (unwrap_or o manager).last) (e ∙ at) ∙ ap (λ (m : ManagerRecord). m.last) (is x refl))
    (ap (λ (o : Option ManagerRecord). (unwrap_or o manager).arrivals) (e ∙ at) ∙ ap (λ (m : ManagerRecord). m.arrivals) (is x refl))

module _ (s : Site) (manager : ManagerRecord) (is : (x : ManagerRecord) → s.barrier.manager ≡ Some x → x ≡ manager) where
  still : (came : Came) (barrier : Barrier) (letters : List Letter) → barrier.manager ≡ s.barrier.manager → Line s manager came barrier letters
  still came barrier letters e = same_line s manager came barrier letters s.barrier.manager refl is e

  pub line : (came : Came) (acts : Bool) (wait : Wait) (locks : Locks) (barrier : Barrier) (letters : List Letter)
      → Sends s came acts wait locks barrier letters → Line s manager came barrier letters
  line came _ _ _ barrier letters (plain next w n p o) = still came barrier letters refl
  line came _ _ _ barrier letters (misses w n o) = still came barrier letters refl
  line came _ _ _ barrier letters (takes lock w n f) = still came barrier letters refl
  line came _ _ _ barrier letters (asks lock w n f) = still came barrier letters refl
  line came _ _ _ barrier letters (releasing lock after w n g) = still came barrier letters refl
  line came _ _ _ barrier letters (arriving after ask intervals w n) = still came barrier letters refl
  line came _ _ _ barrier letters (manages from m lt long mine) = still came barrier letters refl
  line came _ _ _ barrier letters (forwarding from m lt asker long mine t g) = still came barrier letters refl
  line came _ _ _ barrier letters (grants from m lt w k) = still came barrier letters refl
  line _ _ _ _ _ _ (gathers from m before after at long step) =
      keeps_so from m after refl
      (subst (λ b. Gathered b from (arrival_in m) after) (is before at) (gathered before from (arrival_in m) after step))
  line _ _ _ _ _ _ (lets_depart from m before after departures at long step) =
      lets_so from m after departures refl
      (subst (λ b. LetGo b from (arrival_in m) after departures) (is before at) (let_go before from (arrival_in m) after departures step))
  line came _ _ _ barrier letters (departing from m a c) = still came barrier letters refl
  line came _ _ _ barrier letters (collecting from m a c t o) = still came barrier letters refl
  line came _ _ _ barrier letters (clean_at_once from m a c t) = still came barrier letters refl
  line _ _ _ _ _ _ (notes_clean from episode before after at step) =
      let g : Noted before from episode after = noted before from episode after step in
      stays_so (ap (λ (m : ManagerRecord). m.last) g.after_is ∙ ap (λ (m : ManagerRecord). m.last) (is before at))
      (ap (λ (m : ManagerRecord). m.arrivals) g.after_is ∙ ap (λ (m : ManagerRecord). m.arrivals) (is before at))
  line _ _ _ _ _ _ (lets_discard from episode over before after at step) =
      let g : LetDiscard before from episode after over = let_discard before from episode after over step in
      stays_so (ap (λ (m : ManagerRecord). m.last) g.after_is ∙ ap (λ (m : ManagerRecord). m.last) (is before at))
      (ap (λ (m : ManagerRecord). m.arrivals) g.after_is ∙ ap (λ (m : ManagerRecord). m.arrivals) (is before at))
  line came _ _ _ barrier letters (discarding from episode collection w z e) = still came barrier letters refl
  line came _ _ _ barrier letters (serves from message o a) = still came barrier letters refl
  line came _ _ _ barrier letters (accessing from message need o w) = still came barrier letters refl
  line came _ _ _ barrier letters (still_misses from message before o w) = still came barrier letters refl
  line came _ _ _ barrier letters (still_collects from message before had o w t) = still came barrier letters refl
  line came _ _ _ barrier letters (cleaning from message before had o w t) = still came barrier letters refl

-- ---- times

pub record Rises (s : Site) (came : Came) (locks : Locks) : Type 0 where
  pub above : Covers locks.time s.locks.time
  pub told : (from : ℕ) (m : DepartRecord) → came ≡ comes from (Depart m) → Covers locks.time m.time

depart_time : Message → List ℕ
depart_time (Depart m) = m.time
depart_time _ = []

came_message : Came → Message → Message
came_message by_itself m = m
came_message (comes from message) m = message

silent : (s : Site) (came : Came) (locks : Locks) → Covers locks.time s.locks.time → ((from : ℕ) (m : DepartRecord) → came ≡ comes from (Depart m) → ⊥)
    → Rises s came locks
silent s came locks c no_depart = record { above = c; told = λ from m e. absurd (no_depart from m e) }

-- a departure comes
departs_rise : (s : Site) (from : ℕ) (m : DepartRecord) (locks : Locks) → locks.time ≡ joined s.locks.time m.time → Rises s (comes from (Depart m)) locks
unfolding depart_time came_message
departs_rise s from m locks e = record {
  above = subst (λ t. Covers t s.locks.time) (sym e) (covers-joined_first s.locks.time m.time);
  told = λ from' m' is.
      let same : m.time ≡ m'.time = ap (λ c. depart_time (came_message c (Depart m))) is in
      subst (λ t. Covers t m'.time) (sym e) (subst (λ t. Covers (joined s.locks.time m.time) t) same (covers-joined_second s.locks.time m.time));
}

none_comes : (from : ℕ) (m : DepartRecord) → by_itself ≡ comes from (Depart m) → ⊥
none_comes from m e = cc

says_no : (sender : ℕ) (message : Message) (test : Message → Bool) → test message ≡ true → ((m : DepartRecord) → test (Depart m) ≡ false)
    → (from : ℕ) (m : DepartRecord) → comes sender message ≡ comes from (Depart m) → ⊥
unfolding came_message
says_no sender message test passes no_depart from m e =
    false≢true (sym (no_depart m) ∙ sym (ap test (ap (λ c. came_message c (Depart m)) e)) ∙ passes)

not_depart : Message → Bool
not_depart (Depart m) = false
not_depart _ = true

pub alone : (s : Site) (locks : Locks) → Covers locks.time s.locks.time → Rises s by_itself locks
alone s locks c = silent s by_itself locks c none_comes

other : (s : Site) (from : ℕ) (message : Message) (locks : Locks) → Covers locks.time s.locks.time → not_depart message ≡ true
    → Rises s (comes from message) locks
unfolding not_depart
other s from message locks c e = silent s (comes from message) locks c (says_no from message not_depart e (λ m. refl))

of_pages : (s : Site) (from : ℕ) (message : Message) (locks : Locks) → Covers locks.time s.locks.time → is_other message ≡ true
    → Rises s (comes from message) locks
of_pages s from message locks c e = silent s (comes from message) locks c (says_no from message is_other e (λ m. refl))

-- every turn
pub rises : (s : Site) (came : Came) (acts : Bool) (wait : Wait) (locks : Locks) (barrier : Barrier) (letters : List Letter)
    → Sends s came acts wait locks barrier letters → Rises s came locks
unfolding not_depart
rises s _ _ _ locks _ _ (plain next w n p o) = alone s locks (covers-refl s.locks.time)
rises s _ _ _ locks _ _ (misses w n o) = alone s locks (covers-refl s.locks.time)
rises s _ _ _ locks _ _ (takes lock w n f) = alone s locks (covers-next s.me s.locks.time)
rises s _ _ _ locks _ _ (asks lock w n f) = alone s locks (covers-next s.me s.locks.time)
rises s _ _ _ locks _ _ (releasing lock after w n g) = alone s locks (covers-next s.me s.locks.time)
rises s _ _ _ locks _ _ (arriving after ask intervals w n) = alone s locks (covers-next s.me s.locks.time)
rises s _ _ _ locks _ _ (manages from m lt long mine) = other s from (LockRequest m) locks (covers-refl s.locks.time) refl
rises s _ _ _ locks _ _ (forwarding from m lt asker long mine t g) = other s from (LockForward m) locks (covers-refl s.locks.time) refl
rises s _ _ _ locks _ _ (grants from m lt w k) = other s from (LockGrant m) locks (covers-joined_first s.locks.time m.time) refl
rises s _ _ _ locks _ _ (gathers from m before after at long step) = other s from (Arrive m) locks (covers-refl s.locks.time) refl
rises s _ _ _ locks _ _ (lets_depart from m before after departures at long step) = other s from (Arrive m) locks (covers-refl s.locks.time) refl
rises s _ _ _ locks _ _ (departing from m a c) = departs_rise s from m locks refl
rises s _ _ _ locks _ _ (collecting from m a c t o) = departs_rise s from m locks refl
rises s _ _ _ locks _ _ (clean_at_once from m a c t) = departs_rise s from m locks refl
rises s _ _ _ locks _ _ (notes_clean from episode before after at step) = other s from (Clean episode) locks (covers-refl s.locks.time) refl
rises s _ _ _ locks _ _ (lets_discard from episode over before after at step) = other s from (Clean episode) locks (covers-refl s.locks.time) refl
rises s _ _ _ locks _ _ (discarding from episode collection w z e) = other s from (Discard episode) locks (covers-refl s.locks.time) refl
rises s _ _ _ locks _ _ (serves from message o a) = of_pages s from message locks (covers-refl s.locks.time) o
rises s _ _ _ locks _ _ (accessing from message need o w) = of_pages s from message locks (covers-refl s.locks.time) o
rises s _ _ _ locks _ _ (still_misses from message before o w) = of_pages s from message locks (covers-refl s.locks.time) o
rises s _ _ _ locks _ _ (still_collects from message before had o w t) = of_pages s from message locks (covers-refl s.locks.time) o
rises s _ _ _ locks _ _ (cleaning from message before had o w t) = of_pages s from message locks (covers-refl s.locks.time) o
