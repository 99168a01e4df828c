-- The tokens at one node: the text holds those that are held, and who waits for a grant awaits that one token alone.
use Rattle.std.proofs.Common.{◌≡◌, ℕ, zero, suc, ◌<◌, List, [], ◌∷◌, Bool, true, false, length, refl, sym, ap, subst, ◌∙◌, inl, inr}
use Rattle.std.specs.Prelude.{Some, None, ◌==◌, slice_set, slice_index_or, if◌then◌else◌}
use Rattle.std.proofs.lemmas.Bool.{cases_eq, eq-eqb, ne_eqb}
use Rattle.std.proofs.lemmas.List.{get_or-set_same, get_or-set_other}
use Rattle.lrc_exec.specs.Meaning.{Setting}
use Rattle.lrc_lock.specs.declared.state.LockState.{LockState}
use Rattle.lrc_lock.specs.declared.state.LockState.TheVariants.{Away, Awaited, Free, Held}
use Rattle.lrc_lock.specs.declared.state.Waiter.{Waiter}
use Rattle.lrc_lock.specs.declared.fault.LockFault.TheVariants.{NotMine}
use Rattle.lrc_lock.specs.Held.{HeldRecord, LockStep, refuses, stays, passes, lock_at, is_free, is_held, with_lock, state_after, held_after}
use Rattle.lrc_lock.specs.Held.{taken, asked, released, released_at, forwarded, forwarded_at, granted_at}
use Rattle.lrc_protocol.specs.Times.{next_time}
use Rattle.lrc_protocol.specs.Locks.{Locks}
use Rattle.lrc_protocol.specs.Node.{Wait, nothing, grant, departure, access, upkeep, discard, awaits_grant}
use Rattle.lrc_order_laws.specs.Waiting.{acquiring, FixesNext}
use Rattle.lrc_protocol.specs.Node.{next_in}
use Rattle.lrc_order_laws.specs.Tokens.{AwaitsOne}
use Rattle.lrc_lock.specs.Held.{is_awaited}
use Rattle.lrc_order_laws.proofs.Shift.{Part, Shift, plain, misses, takes, asks, releasing, arriving, manages, forwarding, grants, departing}
use Rattle.lrc_order_laws.proofs.Shift.{collecting, clean_at_once, discarding, accessing, still_misses, still_collects, cleaning, rests}

-- ---- one lock's state, by a test

-- another state of one lock that tests the same changes nothing
set_list : (q : LockState → Bool) (xs : List LockState) (l other : ℕ) (s : LockState) → q s ≡ q (slice_index_or xs l Away)
    → q (slice_index_or (slice_set xs l s) other Away) ≡ q (slice_index_or xs other Away)
set_list q [] l other s e = refl
set_list q (x ∷ xs) zero zero s e = e
set_list q (x ∷ xs) zero (suc other) s e = refl
set_list q (x ∷ xs) (suc l) zero s e = refl
set_list q (x ∷ xs) (suc l) (suc other) s e = set_list q xs l other s e

pub set_kept : (q : LockState → Bool) (held : HeldRecord) (l : ℕ) (s : LockState) → q s ≡ q (lock_at held l)
    → (other : ℕ) → q (lock_at (with_lock held l s) other) ≡ q (lock_at held other)
set_kept q held l s e other = set_list q held.locks l other s e

pub step_kept : (q : LockState → Bool) (held : HeldRecord) (l : ℕ) (step : LockStep) → q (state_after (lock_at held l) step) ≡ q (lock_at held l)
    → (other : ℕ) → q (lock_at (held_after held l step) other) ≡ q (lock_at held other)
step_kept q held l (refuses fault) e other = refl
step_kept q held l (stays next) e other = set_kept q held l next e other
step_kept q held l (passes pass) e other = set_kept q held l Away e other

-- what is forwarded leaves who holds and who awaits
forwarded_held : (l : ℕ) (w : Waiter) (s : LockState) → is_held (state_after s (forwarded_at l w s)) ≡ is_held s
forwarded_held l w Away = refl
forwarded_held l w (Awaited None) = refl
forwarded_held l w (Awaited (Some first)) = refl
forwarded_held l w (Free kept) = refl
forwarded_held l w (Held None) = refl
forwarded_held l w (Held (Some first)) = refl

forwarded_awaited : (l : ℕ) (w : Waiter) (s : LockState) → is_awaited (state_after s (forwarded_at l w s)) ≡ is_awaited s
forwarded_awaited l w Away = refl
forwarded_awaited l w (Awaited None) = refl
forwarded_awaited l w (Awaited (Some first)) = refl
forwarded_awaited l w (Free kept) = refl
forwarded_awaited l w (Held None) = refl
forwarded_awaited l w (Held (Some first)) = refl

if_own : (q : LockState → Bool) (s : LockState) (b : Bool) (step : LockStep) → q (state_after s step) ≡ q s
    → q (state_after s (if b then refuses NotMine else step)) ≡ q s
if_own q s true step e = refl
if_own q s false step e = e

pub forward_held : (held : HeldRecord) (l asker : ℕ) (time : List ℕ) (other : ℕ)
    → is_held (lock_at (held_after held l (forwarded held l asker time)) other) ≡ is_held (lock_at held other)
forward_held held l asker time other =
    step_kept is_held held l (forwarded held l asker time)
    (if_own is_held (lock_at held l) (asker == held.me) (forwarded_at l (record { node = asker; time = time }) (lock_at held l))
    (forwarded_held l (record { node = asker; time = time }) (lock_at held l))) other

forward_awaited : (held : HeldRecord) (l asker : ℕ) (time : List ℕ) (other : ℕ)
    → is_awaited (lock_at (held_after held l (forwarded held l asker time)) other) ≡ is_awaited (lock_at held other)
forward_awaited held l asker time other =
    step_kept is_awaited held l (forwarded held l asker time)
    (if_own is_awaited (lock_at held l) (asker == held.me) (forwarded_at l (record { node = asker; time = time }) (lock_at held l))
    (forwarded_awaited l (record { node = asker; time = time }) (lock_at held l))) other

free_awaited : (s : LockState) → is_free s ≡ true → is_awaited s ≡ false
free_awaited (Free kept) e = refl
free_awaited Away e = refl
free_awaited (Awaited successor) e = cc
free_awaited (Held successor) e = refl

released_awaited : (l : ℕ) (now : List ℕ) (s : LockState) → is_awaited (state_after s (released_at l now s)) ≡ is_awaited s
released_awaited l now Away = refl
released_awaited l now (Awaited successor) = refl
released_awaited l now (Free kept) = refl
released_awaited l now (Held None) = refl
released_awaited l now (Held (Some waiter)) = refl

pub taken_is : (held : HeldRecord) (l : ℕ) → is_free (lock_at held l) ≡ true → taken held l ≡ with_lock held l (Held None)
taken_is held l e = ap (λ b. if b then with_lock held l (Held None) else held) e

-- ---- who waits for a grant awaits that token alone

no_other : (l other : ℕ) → (l ≡ other → ⊥) → awaits_grant other (grant l) ≡ false
no_other l other ne = ne_eqb l other ne

-- once the node has asked
asks_one : (held : HeldRecord) (l : ℕ) → l < length held.locks → AwaitsOne nothing held → AwaitsOne (grant l) (asked held l)
asks_one held l lt a other = elim (cases_eq l other) [
  | inl e ↦ subst (λ o. is_awaited (lock_at (asked held l) o) ≡ awaits_grant o (grant l)) e
      (ap is_awaited (get_or-set_same held.locks l (Awaited None) Away lt) ∙ sym (eq-eqb l l refl))
  | inr ne ↦ ap is_awaited (get_or-set_other held.locks l other (Awaited None) Away (λ e. ne (sym e))) ∙ a other ∙ sym (no_other l other ne)
]

-- once the token has come
comes_one : (held : HeldRecord) (l : ℕ) (s : LockState) → l < length held.locks → is_awaited s ≡ false → AwaitsOne (grant l) held
    → AwaitsOne nothing (with_lock held l s)
comes_one held l s lt e a other = elim (cases_eq l other) [
  | inl same ↦ subst (λ o. is_awaited (lock_at (with_lock held l s) o) ≡ false) same (ap is_awaited (get_or-set_same held.locks l s Away lt) ∙ e)
  | inr ne ↦ ap is_awaited (get_or-set_other held.locks l other s Away (λ e. ne (sym e))) ∙ a other ∙ no_other l other ne
]

granted_one : (held : HeldRecord) (l : ℕ) (s : LockState) → l < length held.locks → is_awaited s ≡ true → AwaitsOne (grant l) held
    → AwaitsOne nothing (held_after held l (granted_at s))
granted_one held l (Awaited successor) lt e a = comes_one held l (Held successor) lt refl a
granted_one held l Away lt e a = cc
granted_one held l (Free kept) lt e a = cc
granted_one held l (Held successor) lt e a = cc

pub awaits_it : (held : HeldRecord) (l : ℕ) → AwaitsOne (grant l) held → is_awaited (lock_at held l) ≡ true
awaits_it held l a = a l ∙ eq-eqb l l refl

pub awaits_for : (p : Part) (w : Wait) → p.wait ≡ w → AwaitsOne p.wait p.locks.held → AwaitsOne w p.locks.held
awaits_for p w e a = subst (λ w. AwaitsOne w p.locks.held) e a

-- a node that awaits no grant still awaits none
none_still : (w : Wait) (held after : HeldRecord) → ((l : ℕ) → awaits_grant l w ≡ false)
    → ((l : ℕ) → is_awaited (lock_at after l) ≡ is_awaited (lock_at held l)) → AwaitsOne nothing held → AwaitsOne w after
none_still w held after none s a l = s l ∙ a l ∙ sym (none l)

module _ (p : Part) (s : Setting) (count : length p.locks.held.locks ≡ s.locks) (fits : FixesNext p.wait (next_in p.course))
    (a : AwaitsOne p.wait p.locks.held) where
  -- a lock that the text acquires or releases is one of the program
  pub awaits-kept : (below : (lock : ℕ) → acquiring (next_in p.course) ≡ Some lock → lock < s.locks)
      → (acts : Bool) (wait : Wait) (locks : Locks) (episode : ℕ) → Shift p acts wait locks episode → AwaitsOne wait locks.held
  awaits-kept below _ _ _ _ (plain next w n is) = awaits_for p nothing w a
  awaits-kept below _ _ _ _ (misses {need = need} w n) = awaits_for p nothing w a
  awaits-kept below _ _ _ _ (takes lock w n free) =
      subst (AwaitsOne nothing) (sym (taken_is p.locks.held lock free))
      (none_still nothing p.locks.held (with_lock p.locks.held lock (Held None)) (λ l. refl)
      (set_kept is_awaited p.locks.held lock (Held None) (sym (free_awaited (lock_at p.locks.held lock) free)))
      (awaits_for p nothing w a))
  awaits-kept below _ _ _ _ (asks {lock = lock} w n away) =
      asks_one p.locks.held lock (subst (λ k. lock < k) (sym count) (below lock n)) (awaits_for p nothing w a)
  awaits-kept below _ _ _ _ (releasing lock next w n) =
      none_still nothing p.locks.held (held_after p.locks.held lock (released p.locks.held lock (next_time p.me p.locks.time))) (λ l. refl)
      (step_kept is_awaited p.locks.held lock (released p.locks.held lock (next_time p.me p.locks.time))
      (released_awaited lock (next_time p.me p.locks.time) (lock_at p.locks.held lock)))
      (awaits_for p nothing w a)
  awaits-kept below _ _ _ _ (arriving next w n) = awaits_for p nothing w a
  awaits-kept below _ _ _ _ (manages lock from) = a
  awaits-kept below _ _ _ _ (forwarding lock asker time) = λ l. forward_awaited p.locks.held lock asker time l ∙ a l
  awaits-kept below _ _ _ _ (grants lock time w k) =
      let it : AwaitsOne (grant lock) p.locks.held = awaits_for p (grant lock) w a in
      granted_one p.locks.held lock (lock_at p.locks.held lock)
      (subst (λ k. lock < k) (sym count) (below lock (subst (λ w. FixesNext w (next_in p.course)) w fits)))
      (awaits_it p.locks.held lock it) it
  awaits-kept below _ _ _ _ (departing time w k) = awaits_for p departure w a
  awaits-kept below _ _ _ _ (collecting time w k same) = awaits_for p departure w a
  awaits-kept below _ _ _ _ (clean_at_once time w k same) = awaits_for p departure w a
  awaits-kept below _ _ _ _ (discarding collection w) = awaits_for p (discard collection) w a
  awaits-kept below _ _ _ _ (accessing need w) = awaits_for p (access need) w a
  awaits-kept below _ _ _ _ (still_misses before w) = awaits_for p (access before) w a
  awaits-kept below _ _ _ _ (still_collects before had w same) = awaits_for p (upkeep before had) w a
  awaits-kept below _ _ _ _ (cleaning before had w same) = awaits_for p (upkeep before had) w a
  awaits-kept below _ _ _ _ rests = a
