-- What a call keeps of the locks, and what it leaves of the one that it is about.
use Rattle.std.proofs.Common.{ℕ, ◌≡◌, ◌≢◌, ◌<◌, ◌∙◌, Bool, true, false, if◌then◌else◌, List, length, set, get_or, ap, sym, subst, refl}
use Rattle.std.proofs.Common.{arith}
use Rattle.std.specs.Prelude.{Some, None, IfSome, IfOk}
use Rattle.std.specs.List.{refill}
use Rattle.std.proofs.lemmas.Bool.{eq-eqb, ne_eqb}
use Rattle.std.proofs.lemmas.List.{length-set, set-get_or, get_or_default, take-append-le, take_all}
use Rattle.std.proofs.lemmas.List.Elements.{All-set}
use Rattle.lrc_lock.specs.declared.fault.LockFault.TheVariants.{NotMine}
use Rattle.lrc_lock.specs.declared.state.LockState.{LockState}
use Rattle.lrc_lock.specs.declared.state.LockState.TheVariants.{Away, Awaited, Free, Held}
use Rattle.lrc_lock.specs.declared.state.Waiter.{Waiter}
use Rattle.lrc_lock.specs.Lock.{IsLockState, IsPass, IsWaiter, manager_of}
use Rattle.lrc_lock.specs.Held.{HeldRecord, IsHeld, SamePlace, LockStep, refuses, stays, passes, lock_at, with_lock, held_after, state_after}
use Rattle.lrc_lock.specs.Held.{forwarded, forwarded_at, granted_at, released_at, answer_of, pass_of}
use Rattle.lrc_lock.specs.Managed.{ManagedRecord, IsManaged, SameManager, Requested, requested, forwards, recent_asker, with_asker}

-- a list with one entry changed, back in its place
pub refilled : {X : Type 0} (xs now : List X) (at : ℕ) (x : X) → now ≡ xs → refill (length xs) xs (set now at x) ≡ set xs at x
refilled xs now at x same =
    let long : length (set now at x) ≡ length xs = length-set now at x ∙ ap length same in
    take-append-le (length xs) (set now at x) _ (omega (arith, long))
    ∙ take_all (length xs) (set now at x) (omega (arith, long))
    ∙ ap (λ l. set l at x) same

-- a lock gets a state that can be
pub stays_held : (me nodes : ℕ) (locks now : List LockState) (at : ℕ) (state : LockState)
    → IsHeld (record { me = me; nodes = nodes; locks = locks }) → now ≡ locks → IsLockState me nodes state
    → IsHeld (record { me = me; nodes = nodes; locks = refill (length locks) locks (set now at state) })
stays_held me nodes locks now at state held same can_be =
    subst (λ (l : List LockState). IsHeld (record { me = me; nodes = nodes; locks = l })) (sym (refilled locks now at state same))
    (record {
      me = held.me;
      few = held.few;
      locks = omega (arith, length-set locks at state, held.locks);
      states = All-set (IsLockState me nodes) locks at state can_be held.states;
    })

-- the state that is read can be
pub read_can_be : (me nodes : ℕ) (locks now : List LockState) (at : ℕ) (d : LockState)
    → IsHeld (record { me = me; nodes = nodes; locks = locks }) → now ≡ locks → at < length locks → IsLockState me nodes (get_or now at d)
read_can_be me nodes locks now at d held same within =
    subst (λ (l : List LockState). IsLockState me nodes (get_or l at d)) (sym same) (held.states at d within)

-- the state that is read is the lock's
pub read_is : (me nodes : ℕ) (locks now : List LockState) (held : HeldRecord) (at lock : ℕ) (d : LockState)
    → record { me = me; nodes = nodes; locks = locks } ≡ held → now ≡ locks → at ≡ lock → lock < length held.locks
    → get_or now at d ≡ lock_at held lock
read_is me nodes locks now held at lock d is same at_is within =
    ap (λ l. get_or l at d) same ∙ ap (λ n. get_or locks n d) at_is ∙ ap (λ (h : HeldRecord). get_or h.locks lock d) is
    ∙ get_or_default held.locks lock d Away within

pub with_state : (me nodes : ℕ) (locks now : List LockState) (held : HeldRecord) (at lock : ℕ) (state : LockState)
    → record { me = me; nodes = nodes; locks = locks } ≡ held → now ≡ locks → at ≡ lock
    → ◌≡◌ {A = HeldRecord} (record { me = me; nodes = nodes; locks = refill (length locks) locks (set now at state) }) (with_lock held lock state)
with_state me nodes locks now held at lock state is same at_is =
    ap (λ l. record { me = me; nodes = nodes; locks = l }) (refilled locks now at state same ∙ ap (λ n. set locks n state) at_is)
    ∙ ap (λ (h : HeldRecord). with_lock h lock state) is

pub same_place : (me nodes : ℕ) (locks now : List LockState) (held : HeldRecord) (at : ℕ) (state : LockState)
    → record { me = me; nodes = nodes; locks = locks } ≡ held → now ≡ locks
    → SamePlace held (record { me = me; nodes = nodes; locks = refill (length locks) locks (set now at state) })
same_place me nodes locks now held at state is same = record {
  me = ap (λ (h : HeldRecord). h.me) is;
  nodes = ap (λ (h : HeldRecord). h.nodes) is;
  locks = ap length (refilled locks now at state same) ∙ length-set locks at state ∙ ap (λ (h : HeldRecord). length h.locks) is;
}

pub after_step : (held : HeldRecord) (lock : ℕ) (step : LockStep) → with_lock held lock (state_after (lock_at held lock) step) ≡ held_after held lock step
after_step held lock (refuses fault) = ap (λ l. record held { locks = l }) (set-get_or held.locks lock Away)
after_step held lock (stays next) = refl
after_step held lock (passes pass) = refl

-- ---- the states after each call can be

pub granted_can_be : (me nodes : ℕ) (state : LockState) → IsLockState me nodes state → IsLockState me nodes (state_after state (granted_at state))
granted_can_be me nodes Away is = tt
granted_can_be me nodes (Awaited successor) is = is
granted_can_be me nodes (Free kept) is = is
granted_can_be me nodes (Held successor) is = is

pub forwarded_can_be : (me nodes lock : ℕ) (waiter : Waiter) (state : LockState) → IsLockState me nodes state → IsWaiter me nodes waiter
    → IsLockState me nodes (state_after state (forwarded_at lock waiter state))
forwarded_can_be me nodes lock waiter Away is can_be = tt
forwarded_can_be me nodes lock waiter (Awaited None) is can_be = can_be
forwarded_can_be me nodes lock waiter (Awaited (Some first)) is can_be = is
forwarded_can_be me nodes lock waiter (Free kept) is can_be = tt
forwarded_can_be me nodes lock waiter (Held None) is can_be = can_be
forwarded_can_be me nodes lock waiter (Held (Some first)) is can_be = is

pub released_can_be : (me nodes lock : ℕ) (now : List ℕ) (state : LockState) → IsLockState me nodes state → length now ≡ nodes
    → IsLockState me nodes (state_after state (released_at lock now state))
released_can_be me nodes lock now Away is counted = tt
released_can_be me nodes lock now (Awaited successor) is counted = is
released_can_be me nodes lock now (Free kept) is counted = is
released_can_be me nodes lock now (Held None) is counted = counted
released_can_be me nodes lock now (Held (Some waiter)) is counted = tt

-- the token leaves with a pass that can be
pub pass_can_be : (me nodes lock : ℕ) (now : List ℕ) (state : LockState) → IsLockState me nodes state → length now ≡ nodes
    → IfSome (pass_of (released_at lock now state)) (IsPass me nodes)
pass_can_be me nodes lock now Away is counted = tt
pass_can_be me nodes lock now (Awaited successor) is counted = tt
pass_can_be me nodes lock now (Free kept) is counted = tt
pass_can_be me nodes lock now (Held None) is counted = tt
pass_can_be me nodes lock now (Held (Some waiter)) is counted = record { another = is.another; in_range = is.in_range; since = is.counted; upto = counted }

pub forward_can_pass : (me nodes lock : ℕ) (waiter : Waiter) (state : LockState) → IsLockState me nodes state → IsWaiter me nodes waiter
    → IfOk (answer_of (forwarded_at lock waiter state)) (λ answer. IfSome answer (IsPass me nodes))
forward_can_pass me nodes lock waiter Away is can_be = tt
forward_can_pass me nodes lock waiter (Awaited None) is can_be = tt
forward_can_pass me nodes lock waiter (Awaited (Some first)) is can_be = tt
forward_can_pass me nodes lock waiter (Free kept) is can_be =
    record { another = can_be.another; in_range = can_be.in_range; since = can_be.counted; upto = is }
forward_can_pass me nodes lock waiter (Held None) is can_be = tt
forward_can_pass me nodes lock waiter (Held (Some first)) is can_be = tt

-- a request of another node is not refused for its asker
refused_if : (mine : Bool) (step : LockStep) → mine ≡ false → (if mine then refuses NotMine else step) ≡ step
refused_if true step is = cc
refused_if false step is = refl

pub of_another : (held : HeldRecord) (lock asker : ℕ) (time : List ℕ) → asker ≢ held.me
    → forwarded held lock asker time ≡ forwarded_at lock (record { node = asker; time = time }) (lock_at held lock)
of_another held lock asker time another = refused_if _ _ (ne_eqb asker held.me another)

-- ---- the manager

pub stays_managed : (me nodes : ℕ) (recent now : List ℕ) (at asker : ℕ)
    → IsManaged (record { me = me; nodes = nodes; recent = recent }) → now ≡ recent → asker < nodes
    → IsManaged (record { me = me; nodes = nodes; recent = refill (length recent) recent (set now at asker) })
stays_managed me nodes recent now at asker managed same below =
    subst (λ (l : List ℕ). IsManaged (record { me = me; nodes = nodes; recent = l })) (sym (refilled recent now at asker same))
    (record {
      me = managed.me;
      few = managed.few;
      locks = omega (arith, length-set recent at asker, managed.locks);
      askers = All-set (λ a. a < nodes) recent at asker below managed.askers;
    })

pub asked_by : (me nodes : ℕ) (recent now : List ℕ) (managed : ManagedRecord) (at lock asker : ℕ)
    → record { me = me; nodes = nodes; recent = recent } ≡ managed → now ≡ recent → at ≡ lock
    → ◌≡◌ {A = ManagedRecord} (record { me = me; nodes = nodes; recent = refill (length recent) recent (set now at asker) })
    (with_asker managed lock asker)
asked_by me nodes recent now managed at lock asker is same at_is =
    ap (λ l. record { me = me; nodes = nodes; recent = l }) (refilled recent now at asker same ∙ ap (λ n. set recent n asker) at_is)
    ∙ ap (λ (m : ManagedRecord). with_asker m lock asker) is

pub same_manager : (me nodes : ℕ) (recent now : List ℕ) (managed : ManagedRecord) (at asker : ℕ)
    → record { me = me; nodes = nodes; recent = recent } ≡ managed → now ≡ recent
    → SameManager managed (record { me = me; nodes = nodes; recent = refill (length recent) recent (set now at asker) })
same_manager me nodes recent now managed at asker is same = record {
  me = ap (λ (m : ManagedRecord). m.me) is;
  nodes = ap (λ (m : ManagedRecord). m.nodes) is;
  locks = ap length (refilled recent now at asker same) ∙ length-set recent at asker ∙ ap (λ (m : ManagedRecord). length m.recent) is;
}

taken_if : (mine : Bool) (step other : Requested) → mine ≡ true → (if mine then step else other) ≡ step
taken_if true step other is = refl
taken_if false step other is = cc

pub of_a_managed : (managed : ManagedRecord) (lock asker : ℕ) → manager_of managed.nodes lock ≡ managed.me
    → requested managed lock asker ≡ forwards (recent_asker managed lock) (with_asker managed lock asker)
of_a_managed managed lock asker mine = taken_if _ _ _ (eq-eqb (manager_of managed.nodes lock) managed.me mine)
