-- What a turn does to the times that are kept with free tokens.
use Rattle.std.proofs.Common.{◌≡◌, ◌⊎◌, ℕ, List, [], ◌∷◌, Bool, true, false, length, refl, sym, ap, subst, ◌∙◌, inl, inr, ⊎_elim, arith}
use Rattle.std.specs.Prelude.{Option, Some, None, Contains, ◌==◌, slice_set, if◌then◌else◌}
use Rattle.std.proofs.lemmas.Bool.{cases_eq, cases_lt, false≢true}
use Rattle.std.proofs.lemmas.List.{get_or_past, get_or-set_same, get_or-set_other, length-set}
use Rattle.std.proofs.lemmas.Option.{same_Some}
use Rattle.lrc_envelope.specs.declared.message.Message.{Message}
use Rattle.lrc_envelope.specs.declared.message.Message.TheVariants.{LockRequest, LockForward, LockGrant, Arrive, Depart, Clean, Discard}
use Rattle.lrc_envelope.specs.declared.message.Message.TheVariants.{ChangesRequest, ChangesReply, PageRequest, PageReply}
use Rattle.lrc_lock.specs.declared.fault.LockFault.TheVariants.{NotMine}
use Rattle.lrc_lock.specs.declared.state.Waiter.{Waiter}
use Rattle.lrc_lock.specs.declared.state.LockState.{LockState}
use Rattle.lrc_lock.specs.declared.state.LockState.TheVariants.{Away, Awaited, Free, Held}
use Rattle.lrc_lock.specs.Held.{HeldRecord, LockStep, refuses, stays, passes, lock_at, with_lock, is_free, released, released_at, forwarded}
use Rattle.lrc_lock.specs.Held.{forwarded_at, granted, granted_at, held_after}
use Rattle.lrc_copies.proofs.Members.{cases_Contains, none_Contains}
use Rattle.lrc_protocol.specs.Times.{next_time}
use Rattle.lrc_protocol.specs.Locks.{Locks}
use Rattle.lrc_protocol.specs.Barriers.{Barrier}
use Rattle.lrc_protocol.specs.Node.{Letter, Wait}
use Rattle.lrc_order_laws.proofs.Sends.{is_other, AreOthers, Came, by_itself, Site, Sends, plain, misses, takes, asks, releasing, arriving}
use Rattle.lrc_order_laws.proofs.Sends.{manages, forwarding, grants, gathers, lets_depart, departing, collecting, clean_at_once}
use Rattle.lrc_order_laws.proofs.Sends.{notes_clean, lets_discard, discarding, serves, accessing, still_misses, still_collects, cleaning}
use Rattle.lrc_reading_laws.proofs.Stamped.Turns.{is_lock_grant}
use Rattle.lrc_reading_laws.proofs.Stamped.Asks.{none_some, stays-same}

-- ---- the time that is kept with a free token

abbrev pub free_in : LockState → Option (List ℕ)
free_in (Free kept) = Some kept
free_in (Held next) = None
free_in (Awaited next) = None
free_in Away = None

set-free : (held : HeldRecord) (lock : ℕ) (state : LockState) (k : ℕ) (kept : List ℕ) → free_in (lock_at (with_lock held lock state) k) ≡ Some kept
    → (free_in (lock_at held k) ≡ Some kept) ⊎ ((lock ≡ k) × (free_in state ≡ Some kept))
set-free held lock state k kept e = elim (cases_eq lock k) [
  | inr other ↦ inl (ap free_in (sym (get_or-set_other held.locks lock k state Away (λ is. other (sym is)))) ∙ e)
  | inl here ↦ elim (cases_lt lock (length held.locks)) [
    | inl lt ↦
        inr (here, ap free_in (sym (get_or-set_same held.locks lock state Away lt) ∙ ap (lock_at (with_lock held lock state)) here) ∙ e)
    | inr le ↦
        let past : lock_at (with_lock held lock state) k ≡ Away =
        get_or_past (slice_set held.locks lock state) k Away (omega (arith, le, here, length-set held.locks lock state)) in
        none_some ((free_in (lock_at held k) ≡ Some kept) ⊎ ((lock ≡ k) × (free_in state ≡ Some kept))) kept (sym (ap free_in past) ∙ e)
  ]
]

step-free : (held : HeldRecord) (lock : ℕ) (step : LockStep) (k : ℕ) (kept : List ℕ) → free_in (lock_at (held_after held lock step) k) ≡ Some kept
    → (free_in (lock_at held k) ≡ Some kept) ⊎ ((next : LockState) × (lock ≡ k) × (step ≡ stays next) × (free_in next ≡ Some kept))
step-free held lock (refuses fault) k kept e = inl e
step-free held lock (stays next) k kept e =
    ⊎_elim (λ old. inl old) (λ new. inr (next, new.0, refl, new.1)) (set-free held lock next k kept e)
step-free held lock (passes pass) k kept e =
    ⊎_elim (λ old. inl old)
    (λ new. none_some ((free_in (lock_at held k) ≡ Some kept)
    ⊎ ((next : LockState) × (lock ≡ k) × (passes pass ≡ stays next) × (free_in next ≡ Some kept))) kept new.1)
    (set-free held lock Away k kept e)

released-free : (lock : ℕ) (now : List ℕ) (x next : LockState) (kept : List ℕ) → released_at lock now x ≡ stays next → free_in next ≡ Some kept
    → (free_in x ≡ Some kept) ⊎ (now ≡ kept)
released-free lock now Away next kept e f = inl (ap free_in (stays-same Away next e) ∙ f)
released-free lock now (Awaited successor) next kept e f = inl (ap free_in (stays-same (Awaited successor) next e) ∙ f)
released-free lock now (Free k) next kept e f = inl (ap free_in (stays-same (Free k) next e) ∙ f)
released-free lock now (Held None) next kept e f = inr (same_Some now kept (ap free_in (stays-same (Free now) next e) ∙ f))
released-free lock now (Held (Some waiter)) next kept e f = absurd cc

granted-free : (Y : Type 0) (x next : LockState) (kept : List ℕ) → granted_at x ≡ stays next → free_in next ≡ Some kept → Y
granted-free Y Away next kept e f = absurd cc
granted-free Y (Awaited successor) next kept e f = none_some Y kept (ap free_in (stays-same (Held successor) next e) ∙ f)
granted-free Y (Free k) next kept e f = absurd cc
granted-free Y (Held successor) next kept e f = absurd cc

forwarded_at-free : (Y : Type 0) (lock : ℕ) (waiter : Waiter) (x next : LockState) (kept : List ℕ) → forwarded_at lock waiter x ≡ stays next
    → free_in next ≡ Some kept → Y
forwarded_at-free Y lock waiter Away next kept e f = absurd cc
forwarded_at-free Y lock waiter (Awaited None) next kept e f = none_some Y kept (ap free_in (stays-same (Awaited (Some waiter)) next e) ∙ f)
forwarded_at-free Y lock waiter (Awaited (Some first)) next kept e f = absurd cc
forwarded_at-free Y lock waiter (Free k) next kept e f = absurd cc
forwarded_at-free Y lock waiter (Held None) next kept e f = none_some Y kept (ap free_in (stays-same (Held (Some waiter)) next e) ∙ f)
forwarded_at-free Y lock waiter (Held (Some first)) next kept e f = absurd cc

forwarded-free : (Y : Type 0) (held : HeldRecord) (lock : ℕ) (waiter : Waiter) (next : LockState) (kept : List ℕ) (b : Bool)
    → (if b then refuses NotMine else forwarded_at lock waiter (lock_at held lock)) ≡ stays next → free_in next ≡ Some kept → Y
forwarded-free Y held lock waiter next kept true e f = absurd cc
forwarded-free Y held lock waiter next kept false e f = forwarded_at-free Y lock waiter (lock_at held lock) next kept e f

no_grant_message : (message : Message) → is_other message ≡ true → is_lock_grant message ≡ true → ⊥
no_grant_message (LockGrant m) o g = false≢true o
no_grant_message (LockRequest m) o g = false≢true g
no_grant_message (LockForward m) o g = false≢true g
no_grant_message (Arrive m) o g = false≢true g
no_grant_message (Depart m) o g = false≢true g
no_grant_message (Clean episode) o g = false≢true g
no_grant_message (Discard episode) o g = false≢true g
no_grant_message (ChangesRequest m) o g = false≢true g
no_grant_message (ChangesReply m) o g = false≢true g
no_grant_message (PageRequest page) o g = false≢true g
no_grant_message (PageReply m) o g = false≢true g

no_grant : (letters : List Letter) → AreOthers letters → (x : Letter) → Contains letters x → is_lock_grant x.message ≡ true → ⊥
no_grant [] o x c g = none_Contains x c
no_grant (y ∷ letters) o x c g =
    ⊎_elim
    (λ (first : y ≡ x). no_grant_message y.message o.0 (ap (λ (z : Letter). is_lock_grant z.message) first ∙ g))
    (λ (later : Contains letters x). no_grant letters o.1 x later g)
    (cases_Contains y letters x c)

-- it was kept before, or is the node's time then
abbrev pub Frees : Site → Locks → Type 0
Frees s locks = (k : ℕ) (kept : List ℕ) → free_in (lock_at locks.held k) ≡ Some kept
    → (free_in (lock_at s.locks.held k) ≡ Some kept) ⊎ (locks.time ≡ kept)

module _ (s : Site) where
  at-lock : (lock k : ℕ) (kept : List ℕ) → lock ≡ k → free_in (lock_at s.locks.held lock) ≡ Some kept → free_in (lock_at s.locks.held k) ≡ Some kept
  at-lock lock k kept e h = subst (λ k. free_in (lock_at s.locks.held k) ≡ Some kept) e h

  taken-free : (locks : Locks) (lock k : ℕ) (kept : List ℕ) (b : Bool)
      → free_in (lock_at (if b then with_lock s.locks.held lock (Held None) else s.locks.held) k) ≡ Some kept
      → (free_in (lock_at s.locks.held k) ≡ Some kept) ⊎ (locks.time ≡ kept)
  taken-free locks lock k kept true e =
      ⊎_elim (λ old. inl old) (λ new. none_some ((free_in (lock_at s.locks.held k) ≡ Some kept) ⊎ (locks.time ≡ kept)) kept new.1)
      (set-free s.locks.held lock (Held None) k kept e)
  taken-free locks lock k kept false e = inl e

  pub turn_frees : (came : Came) (acts : Bool) (wait : Wait) (locks : Locks) (barrier : Barrier) (letters : List Letter)
      → Sends s came acts wait locks barrier letters → Frees s locks
  turn_frees _ _ _ _ _ _ (plain next w n p o) = λ k kept e. inl e
  turn_frees _ _ _ _ _ _ (misses w n o) = λ k kept e. inl e
  turn_frees _ _ _ locks _ _ (takes lock w n f) = λ k kept e. taken-free locks lock k kept (is_free (lock_at s.locks.held lock)) e
  turn_frees _ _ _ locks _ _ (asks lock w n f) = λ k kept e.
      ⊎_elim (λ old. inl old) (λ new. none_some ((free_in (lock_at s.locks.held k) ≡ Some kept) ⊎ (locks.time ≡ kept)) kept new.1)
      (set-free s.locks.held lock (Awaited None) k kept e)
  turn_frees _ _ _ locks _ _ (releasing lock after w n g) = λ k kept e.
      ⊎_elim (λ old. inl old)
      (λ new. ⊎_elim (λ old. inl (at-lock lock k kept new.1 old)) (λ now. inr now)
      (released-free lock (next_time s.me s.locks.time) (lock_at s.locks.held lock) new.0 kept new.2 new.3))
      (step-free s.locks.held lock (released s.locks.held lock (next_time s.me s.locks.time)) k kept e)
  turn_frees _ _ _ _ _ _ (arriving after ask intervals w n) = λ k kept e. inl e
  turn_frees _ _ _ _ _ _ (manages from m lt long is) = λ k kept e. inl e
  turn_frees _ _ _ locks _ _ (forwarding from m lt among long is taken_so g) = λ k kept e.
      ⊎_elim (λ old. inl old)
      (λ new. forwarded-free ((free_in (lock_at s.locks.held k) ≡ Some kept) ⊎ (locks.time ≡ kept)) s.locks.held m.lock
      (record { node = m.asker; time = m.time }) new.0 kept (m.asker == s.locks.held.me) new.2 new.3)
      (step-free s.locks.held m.lock (forwarded s.locks.held m.lock m.asker m.time) k kept e)
  turn_frees _ _ _ locks _ _ (grants from m lt w l) = λ k kept e.
      ⊎_elim (λ old. inl old)
      (λ new. granted-free ((free_in (lock_at s.locks.held k) ≡ Some kept) ⊎ (locks.time ≡ kept)) (lock_at s.locks.held m.lock) new.0 kept new.2 new.3)
      (step-free s.locks.held m.lock (granted s.locks.held m.lock) k kept e)
  turn_frees _ _ _ _ _ _ (gathers from m before after e long a) = λ k kept e. inl e
  turn_frees _ _ _ _ _ _ (lets_depart from m before after departures e long a) = λ k kept e. inl e
  turn_frees _ _ _ _ _ _ (departing from m a c) = λ k kept e. inl e
  turn_frees _ _ _ _ _ _ (collecting from m a c t o) = λ k kept e. inl e
  turn_frees _ _ _ _ _ _ (clean_at_once from m a c t) = λ k kept e. inl e
  turn_frees _ _ _ _ _ _ (notes_clean from episode before after e c) = λ k kept e. inl e
  turn_frees _ _ _ _ _ _ (lets_discard from episode over before after e c) = λ k kept e. inl e
  turn_frees _ _ _ _ _ _ (discarding from episode collection w z e) = λ k kept e. inl e
  turn_frees _ _ _ _ _ _ (serves from message is o) = λ k kept e. inl e
  turn_frees _ _ _ _ _ _ (accessing from message need is w) = λ k kept e. inl e
  turn_frees _ _ _ _ _ _ (still_misses from message before is w) = λ k kept e. inl e
  turn_frees _ _ _ _ _ _ (still_collects from message before had is w t) = λ k kept e. inl e
  turn_frees _ _ _ _ _ _ (cleaning from message before had is w t) = λ k kept e. inl e

  -- who grants by itself has closed its interval
  pub released_then : (acts : Bool) (wait : Wait) (locks : Locks) (barrier : Barrier) (letters : List Letter)
      → Sends s by_itself acts wait locks barrier letters
      → (x : Letter) → Contains letters x → is_lock_grant x.message ≡ true → locks.time ≡ next_time s.me s.locks.time
  released_then _ _ _ _ letters (plain next w n p o) x c g = absurd (no_grant letters o x c g)
  released_then _ _ _ _ letters (misses w n o) x c g = absurd (no_grant letters o x c g)
  released_then _ _ _ _ letters (takes lock w n f) x c g = refl
  released_then _ _ _ _ letters (asks lock w n f) x c g = refl
  released_then _ _ _ _ letters (releasing lock after w n p) x c g = refl
  released_then _ _ _ _ letters (arriving after ask intervals w n) x c g = refl
