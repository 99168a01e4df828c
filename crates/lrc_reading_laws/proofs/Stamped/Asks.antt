-- What a turn does to what is said of who asks for a lock: to the requests that are made and passed on, and to the successors.
use Rattle.std.proofs.Common.{◌≡◌, ◌⊎◌, ℕ, zero, suc, List, [], ◌∷◌, Bool, true, false, length, map, refl, sym, ap, subst, ◌∙◌, inl, inr, ⊎_elim, arith}
use Rattle.std.specs.Prelude.{Option, Some, None, Contains, ◌==◌, slice_index_or, slice_set, if◌then◌else◌}
use Rattle.std.specs.List.{range_with_len}
use Rattle.std.proofs.lemmas.Bool.{cases_eq, cases_lt, false≢true}
use Rattle.std.proofs.lemmas.List.{get_or_past, get_or-set_same, get_or-set_other, length-set}
use Rattle.lrc_time.specs.Time.{zeros}
use Rattle.lrc_envelope.specs.Records.{LockRequestRecord, LockForwardRecord}
use Rattle.lrc_envelope.specs.declared.message.Message.{Message}
use Rattle.lrc_envelope.specs.declared.message.Message.TheVariants.{LockRequest, LockForward, LockGrant, Arrive, Depart, Clean, Discard}
use Rattle.lrc_envelope.specs.declared.message.Message.TheVariants.{ChangesRequest, ChangesReply, PageRequest, PageReply}
use Rattle.lrc_lock.specs.declared.fault.LockFault.TheVariants.{NotMine}
use Rattle.lrc_lock.specs.declared.state.Pass.{Pass}
use Rattle.lrc_lock.specs.declared.state.Waiter.{Waiter}
use Rattle.lrc_lock.specs.declared.state.LockState.{LockState}
use Rattle.lrc_lock.specs.declared.state.LockState.TheVariants.{Away, Awaited, Free, Held}
use Rattle.lrc_lock.specs.Lock.{manager_of}
use Rattle.lrc_lock.specs.Held.{HeldRecord, LockStep, refuses, stays, passes, lock_at, with_lock, first_state, is_free, released, released_at}
use Rattle.lrc_lock.specs.Held.{forwarded, forwarded_at, granted, granted_at, held_after}
use Rattle.lrc_barrier.specs.declared.departure.Departure.{Departure}
use Rattle.lrc_copies.proofs.Members.{cases_Contains, none_Contains}
use Rattle.lrc_protocol.specs.Times.{next_time}
use Rattle.lrc_protocol.specs.Locks.{Locks}
use Rattle.lrc_protocol.specs.Barriers.{Barrier}
use Rattle.lrc_protocol.specs.Node.{Letter, Wait, nothing, grant, departure, access, upkeep, discard}
use Rattle.lrc_protocol.specs.Turn.{departure_of, discards_to}
use Rattle.lrc_order_laws.proofs.Sends.{is_other, AreOthers, Grants, Came, by_itself, comes, Site, Sends, plain, misses, takes, asks, releasing}
use Rattle.lrc_order_laws.proofs.Sends.{arriving, manages, forwarding, grants, gathers, lets_depart, departing, collecting, clean_at_once}
use Rattle.lrc_order_laws.proofs.Sends.{notes_clean, lets_discard, discarding, serves, accessing, still_misses, still_collects, cleaning}

-- ---- letters that ask for no lock

abbrev pub is_asking : Message → Bool
is_asking (LockRequest m) = true
is_asking (LockForward m) = true
is_asking _ = false

abbrev AllQuiet : List Letter → Type 0
AllQuiet [] = Unit {0}
AllQuiet (x ∷ letters) = (is_asking x.message ≡ false) × AllQuiet letters

other-quiet : (m : Message) → is_other m ≡ true → is_asking m ≡ false
other-quiet (ChangesRequest m) e = refl
other-quiet (ChangesReply m) e = refl
other-quiet (PageRequest page) e = refl
other-quiet (PageReply m) e = refl
other-quiet (LockRequest m) e = cc
other-quiet (LockForward m) e = cc
other-quiet (LockGrant m) e = refl
other-quiet (Arrive m) e = refl
other-quiet (Depart m) e = refl
other-quiet (Clean episode) e = refl
other-quiet (Discard episode) e = refl

others-quiet : (letters : List Letter) → AreOthers letters → AllQuiet letters
others-quiet [] h = tt
others-quiet (x ∷ letters) h = (other-quiet x.message h.0, others-quiet letters h.1)

grants-quiet : (pass : Option Pass) (letters : List Letter) → Grants pass letters → AllQuiet letters
grants-quiet None letters g = subst AllQuiet (sym g) tt
grants-quiet (Some pass) letters g = subst AllQuiet (sym g.1) (refl, tt)

departures-quiet : (departures : List Departure) → AllQuiet (map departure_of departures)
departures-quiet [] = tt
departures-quiet (d ∷ departures) = (refl, departures-quiet departures)

discards-quiet : (nodes : List ℕ) (episode : ℕ) → AllQuiet (discards_to nodes episode)
discards-quiet [] episode = tt
discards-quiet (n ∷ nodes) episode = (refl, discards-quiet nodes episode)

quiet-at : (letters : List Letter) → AllQuiet letters → (x : Letter) → Contains letters x → is_asking x.message ≡ false
quiet-at [] h x c = absurd (none_Contains x c)
quiet-at (y ∷ letters) h x c =
    ⊎_elim
    (λ (first : y ≡ x). subst (λ (z : Letter). is_asking z.message ≡ false) first h.0)
    (λ (later : Contains letters x). quiet-at letters h.1 x later)
    (cases_Contains y letters x c)

-- ---- successors

abbrev pub waiter_in : LockState → Option Waiter
waiter_in (Awaited next) = next
waiter_in (Held next) = next
waiter_in (Free kept) = None
waiter_in Away = None

-- at the start there is none
no_waiter : (nodes : ℕ) (b : Bool) → waiter_in (if b then Free (zeros nodes) else Away) ≡ None
no_waiter nodes true = refl
no_waiter nodes false = refl

pub no_waiters : (me nodes : ℕ) (locks : List ℕ) (k : ℕ) → waiter_in (slice_index_or (map (first_state me nodes) locks) k Away) ≡ None
no_waiters me nodes [] k = refl
no_waiters me nodes (lock ∷ locks) zero = no_waiter nodes (manager_of nodes lock == me)
no_waiters me nodes (lock ∷ locks) (suc k) = no_waiters me nodes locks k

pub none_some : {X : Type 0} (Y : Type 0) (x : X) → None ≡ Some x → Y
none_some Y x e = absurd cc

-- another state of one lock
set-waiter : (held : HeldRecord) (lock : ℕ) (state : LockState) (k : ℕ) (w : Waiter) → waiter_in (lock_at (with_lock held lock state) k) ≡ Some w
    → (waiter_in (lock_at held k) ≡ Some w) ⊎ ((lock ≡ k) × (waiter_in state ≡ Some w))
set-waiter held lock state k w e = elim (cases_eq lock k) [
  | inr other ↦ inl (ap waiter_in (sym (get_or-set_other held.locks lock k state Away (λ is. other (sym is)))) ∙ e)
  | inl same ↦ elim (cases_lt lock (length held.locks)) [
    | inl lt ↦
        inr (same, ap waiter_in (sym (get_or-set_same held.locks lock state Away lt) ∙ ap (lock_at (with_lock held lock state)) same) ∙ e)
    | inr le ↦
        let past : lock_at (with_lock held lock state) k ≡ Away =
        get_or_past (slice_set held.locks lock state) k Away (omega (arith, le, same, length-set held.locks lock state)) in
        none_some ((waiter_in (lock_at held k) ≡ Some w) ⊎ ((lock ≡ k) × (waiter_in state ≡ Some w))) w (sym (ap waiter_in past) ∙ e)
  ]
]

step-waiter : (held : HeldRecord) (lock : ℕ) (step : LockStep) (k : ℕ) (w : Waiter) → waiter_in (lock_at (held_after held lock step) k) ≡ Some w
    → (waiter_in (lock_at held k) ≡ Some w) ⊎ ((next : LockState) × (lock ≡ k) × (step ≡ stays next) × (waiter_in next ≡ Some w))
step-waiter held lock (refuses fault) k w e = inl e
step-waiter held lock (stays next) k w e =
    ⊎_elim (λ old. inl old) (λ new. inr (next, new.0, refl, new.1)) (set-waiter held lock next k w e)
step-waiter held lock (passes pass) k w e =
    ⊎_elim (λ old. inl old)
    (λ new. none_some ((waiter_in (lock_at held k) ≡ Some w)
    ⊎ ((next : LockState) × (lock ≡ k) × (passes pass ≡ stays next) × (waiter_in next ≡ Some w))) w new.1)
    (set-waiter held lock Away k w e)

pub stays-same : (a b : LockState) → stays a ≡ stays b → a ≡ b
stays-same a b e = cc

released-waiter : (lock : ℕ) (now : List ℕ) (x next : LockState) (w : Waiter) → released_at lock now x ≡ stays next → waiter_in next ≡ Some w
    → waiter_in x ≡ Some w
released-waiter lock now Away next w e f = ap waiter_in (stays-same Away next e) ∙ f
released-waiter lock now (Awaited successor) next w e f = ap waiter_in (stays-same (Awaited successor) next e) ∙ f
released-waiter lock now (Free kept) next w e f = ap waiter_in (stays-same (Free kept) next e) ∙ f
released-waiter lock now (Held None) next w e f = ap waiter_in (stays-same (Free now) next e) ∙ f
released-waiter lock now (Held (Some waiter)) next w e f = absurd cc

granted-waiter : (x next : LockState) (w : Waiter) → granted_at x ≡ stays next → waiter_in next ≡ Some w → waiter_in x ≡ Some w
granted-waiter Away next w e f = absurd cc
granted-waiter (Awaited successor) next w e f = ap waiter_in (stays-same (Held successor) next e) ∙ f
granted-waiter (Free kept) next w e f = absurd cc
granted-waiter (Held successor) next w e f = absurd cc

forwarded_at-waiter : (lock : ℕ) (waiter : Waiter) (x next : LockState) (w : Waiter) → forwarded_at lock waiter x ≡ stays next → waiter_in next ≡ Some w
    → w ≡ waiter
forwarded_at-waiter lock waiter Away next w e f = absurd cc
forwarded_at-waiter lock waiter (Awaited None) next w e f =
    let is : Some waiter ≡ Some w = ap waiter_in (stays-same (Awaited (Some waiter)) next e) ∙ f in cc
forwarded_at-waiter lock waiter (Awaited (Some first)) next w e f = absurd cc
forwarded_at-waiter lock waiter (Free kept) next w e f = absurd cc
forwarded_at-waiter lock waiter (Held None) next w e f =
    let is : Some waiter ≡ Some w = ap waiter_in (stays-same (Held (Some waiter)) next e) ∙ f in cc
forwarded_at-waiter lock waiter (Held (Some first)) next w e f = absurd cc

forwarded-waiter : (held : HeldRecord) (lock asker : ℕ) (time : List ℕ) (next : LockState) (w : Waiter) (b : Bool)
    → (if b then refuses NotMine else forwarded_at lock (record { node = asker; time = time }) (lock_at held lock)) ≡ stays next
    → waiter_in next ≡ Some w → w ≡ record { node = asker; time = time }
forwarded-waiter held lock asker time next w true e f = absurd cc
forwarded-waiter held lock asker time next w false e f =
    forwarded_at-waiter lock (record { node = asker; time = time }) (lock_at held lock) next w e f

-- ---- one turn

abbrev pub is_granting : Wait → Bool
is_granting (grant lock) = true
is_granting nothing = false
is_granting departure = false
is_granting (access need) = false
is_granting (upkeep collection needs) = false
is_granting (discard collection) = false

-- a successor was one before, or is who asks by a request that was passed on here
abbrev Successor : Site → Came → ℕ → Waiter → Type 0
Successor s came k w =
    (waiter_in (lock_at s.locks.held k) ≡ Some w)
    ⊎ ((from : ℕ) × (m : LockForwardRecord) × (came ≡ comes from (LockForward m)) × (w ≡ record { node = m.asker; time = m.time }))

-- A request has the node's time then; one is passed on as it came; and the node's time changes only where it does not wait for a
-- grant, before or after.
pub record TurnAsks (s : Site) (came : Came) (wait : Wait) (locks : Locks) (letters : List Letter) : Type 0 where
  pub requests : (x : Letter) (m : LockRequestRecord) → Contains letters x → x.message ≡ LockRequest m → m.time ≡ locks.time
  pub forwards : (x : Letter) (m : LockForwardRecord) → Contains letters x → x.message ≡ LockForward m
      → (from : ℕ) × (r : LockRequestRecord) × (came ≡ comes from (LockRequest r)) × (m.asker ≡ from) × (m.time ≡ r.time)
  pub waiters : (k : ℕ) (w : Waiter) → waiter_in (lock_at locks.held k) ≡ Some w → Successor s came k w
  pub times : (locks.time ≡ s.locks.time) ⊎ ((is_granting s.wait ≡ false) ⊎ (is_granting wait ≡ false))

module _ (s : Site) where
  quiet : (came : Came) (wait : Wait) (locks : Locks) (letters : List Letter) → AllQuiet letters
      → ((k : ℕ) (w : Waiter) → waiter_in (lock_at locks.held k) ≡ Some w → Successor s came k w)
      → (locks.time ≡ s.locks.time) ⊎ ((is_granting s.wait ≡ false) ⊎ (is_granting wait ≡ false)) → TurnAsks s came wait locks letters
  quiet came wait locks letters q w t = record {
    requests = λ x m c e. absurd (false≢true (sym (quiet-at letters q x c) ∙ ap is_asking e));
    forwards = λ x m c e. absurd (false≢true (sym (quiet-at letters q x c) ∙ ap is_asking e));
    waiters = w;
    times = t;
  }

  calm : (came : Came) (wait : Wait) (letters : List Letter) → AllQuiet letters → TurnAsks s came wait s.locks letters
  calm came wait letters q = quiet came wait s.locks letters q (λ k w e. inl e) (inl refl)

  -- the lock of a step that stays
  at-lock : (lock k : ℕ) (w : Waiter) → lock ≡ k → waiter_in (lock_at s.locks.held lock) ≡ Some w → waiter_in (lock_at s.locks.held k) ≡ Some w
  at-lock lock k w e h = subst (λ k. waiter_in (lock_at s.locks.held k) ≡ Some w) e h

  taken-waiter : (came : Came) (lock k : ℕ) (w : Waiter) (b : Bool)
      → waiter_in (lock_at (if b then with_lock s.locks.held lock (Held None) else s.locks.held) k) ≡ Some w → Successor s came k w
  taken-waiter came lock k w true e =
      ⊎_elim (λ old. inl old) (λ new. none_some (Successor s came k w) w new.1) (set-waiter s.locks.held lock (Held None) k w e)
  taken-waiter came lock k w false e = inl e

  idle : (w : Wait) → s.wait ≡ w → is_granting w ≡ false → is_granting s.wait ≡ false
  idle w e g = ap is_granting e ∙ g

  pub turn_asks : (came : Came) (acts : Bool) (wait : Wait) (locks : Locks) (barrier : Barrier) (letters : List Letter)
      → Sends s came acts wait locks barrier letters → TurnAsks s came wait locks letters
  turn_asks _ _ wait _ _ letters (plain next w n p o) = calm by_itself wait letters (others-quiet letters o)
  turn_asks _ _ wait _ _ letters (misses w n o) = calm by_itself wait letters (others-quiet letters o)
  turn_asks _ _ wait locks _ letters (takes lock w n f) =
      quiet by_itself wait locks letters tt (λ k x e. taken-waiter by_itself lock k x (is_free (lock_at s.locks.held lock)) e)
      (inr (inl (idle nothing w refl)))
  turn_asks _ _ wait locks _ letters (asks lock w n f) = record {
    requests = λ x m c e. ⊎_elim
        (λ first. let is : LockRequest (record { lock = lock; time = next_time s.me s.locks.time }) ≡ LockRequest m = ap (λ
        (x : Letter). x.message) first ∙ e in
        same_time m is)
        (λ later. absurd (none_Contains x later))
        (cases_Contains _ [] x c);
    forwards = λ x m c e. ⊎_elim
        (λ first. let is : LockRequest (record { lock = lock; time = next_time s.me s.locks.time }) ≡ LockForward m = ap (λ
        (x : Letter). x.message) first ∙ e in
        absurd cc)
        (λ later. absurd (none_Contains x later))
        (cases_Contains _ [] x c);
    waiters = λ k x e. ⊎_elim
        (λ old. inl old) (λ new. none_some (Successor s by_itself k x) x new.1) (set-waiter s.locks.held lock (Awaited None) k x e);
    times = inr (inl (idle nothing w refl));
  }
    where
      same_time : (m : LockRequestRecord) → LockRequest (record { lock = lock; time = next_time s.me s.locks.time }) ≡ LockRequest m
          → m.time ≡ next_time s.me s.locks.time
      same_time m e = let is : record { lock = lock; time = next_time s.me s.locks.time } ≡ m = cc in ap (λ (x : LockRequestRecord). x.time) (sym is)
  turn_asks _ _ wait locks _ letters (releasing lock after w n g) =
      quiet by_itself wait locks letters (grants-quiet _ letters g)
      (λ k x e. ⊎_elim (λ old. inl old)
      (λ new. inl (at-lock lock k x new.1
      (released-waiter lock (next_time s.me s.locks.time) (lock_at s.locks.held lock) new.0 x new.2 new.3)))
      (step-waiter s.locks.held lock (released s.locks.held lock (next_time s.me s.locks.time)) k x e))
      (inr (inl (idle nothing w refl)))
  turn_asks _ _ wait locks _ letters (arriving after ask intervals w n) =
      quiet by_itself wait locks letters (refl, tt) (λ k x e. inl e) (inr (inl (idle nothing w refl)))
  turn_asks _ _ wait locks _ letters (manages from m lt long is) = record {
    requests = λ x r c e. ⊎_elim
        (λ first. let is : LockForward _ ≡ LockRequest r = ap (λ (x : Letter). x.message) first ∙ e in absurd cc)
        (λ later. absurd (none_Contains x later))
        (cases_Contains _ [] x c);
    forwards = λ x f c e. ⊎_elim
        (λ first. passed f (ap (λ (x : Letter). x.message) first ∙ e))
        (λ later. absurd (none_Contains x later))
        (cases_Contains _ [] x c);
    waiters = λ k x e. inl e;
    times = inl refl;
  }
    where
      passed : (f : LockForwardRecord) → LockForward (record { lock = m.lock; asker = from; time = m.time }) ≡ LockForward f
          → (from' : ℕ) × (r : LockRequestRecord) × (comes from (LockRequest m) ≡ comes from' (LockRequest r)) × (f.asker ≡ from') × (f.time ≡ r.time)
      passed f e =
          let is : record { lock = m.lock; asker = from; time = m.time } ≡ f = cc in
          (from, m, refl, ap (λ (x : LockForwardRecord). x.asker) (sym is), ap (λ (x : LockForwardRecord). x.time) (sym is))
  turn_asks _ _ wait locks _ letters (forwarding from m lt among long is taken_so g) =
      quiet (comes from (LockForward m)) wait locks letters (grants-quiet _ letters g)
      (λ k x e. ⊎_elim (λ old. inl old)
      (λ new. inr (from, m, refl, forwarded-waiter s.locks.held m.lock m.asker m.time new.0 x (m.asker == s.locks.held.me) new.2 new.3))
      (step-waiter s.locks.held m.lock (forwarded s.locks.held m.lock m.asker m.time) k x e))
      (inl refl)
  turn_asks _ _ wait locks _ letters (grants from m lt w l) =
      quiet (comes from (LockGrant m)) wait locks letters tt
      (λ k x e. ⊎_elim (λ old. inl old)
      (λ new. inl (at-lock m.lock k x new.1 (granted-waiter (lock_at s.locks.held m.lock) new.0 x new.2 new.3)))
      (step-waiter s.locks.held m.lock (granted s.locks.held m.lock) k x e))
      (inr (inr refl))
  turn_asks _ _ wait _ _ letters (gathers from m before after e long a) = calm (comes from (Arrive m)) wait letters tt
  turn_asks _ _ wait _ _ letters (lets_depart from m before after departures e long a) =
      calm (comes from (Arrive m)) wait letters (departures-quiet departures)
  turn_asks _ _ wait locks _ letters (departing from m a c) =
      quiet (comes from (Depart m)) wait locks letters tt (λ k x e. inl e) (inr (inr refl))
  turn_asks _ _ wait locks _ letters (collecting from m a c t o) =
      quiet (comes from (Depart m)) wait locks letters (others-quiet letters o) (λ k x e. inl e) (inr (inr refl))
  turn_asks _ _ wait locks _ letters (clean_at_once from m a c t) =
      quiet (comes from (Depart m)) wait locks letters (refl, tt) (λ k x e. inl e) (inr (inr refl))
  turn_asks _ _ wait _ _ letters (notes_clean from episode before after e c) = calm (comes from (Clean episode)) wait letters tt
  turn_asks _ _ wait _ _ letters (lets_discard from episode over before after e c) =
      calm (comes from (Clean episode)) wait letters (discards-quiet (range_with_len 0 s.nodes) over)
  turn_asks _ _ wait _ _ letters (discarding from episode collection w z e) = calm (comes from (Discard episode)) wait letters tt
  turn_asks _ _ wait _ _ letters (serves from message is o) = calm (comes from message) wait letters (others-quiet letters o)
  turn_asks _ _ wait _ _ letters (accessing from message need is w) = calm (comes from message) wait letters tt
  turn_asks _ _ wait _ _ letters (still_misses from message before is w) = calm (comes from message) wait letters tt
  turn_asks _ _ wait _ _ letters (still_collects from message before had is w t) = calm (comes from message) wait letters tt
  turn_asks _ _ wait _ _ letters (cleaning from message before had is w t) = calm (comes from message) wait letters (refl, tt)
