-- The shape of a node is kept by every turn.
use Rattle.std.proofs.Common.{◌≡◌, ℕ, ◌+◌, List, [], Bool, true, false, length, refl, sym, ap, ◌∙◌}
use Rattle.std.specs.Prelude.{Some, None, slice_get, if◌then◌else◌}
use Rattle.std.specs.List.{range_with_len}
use Rattle.std.proofs.lemmas.List.{length-set, length-map}
use Rattle.std.proofs.lemmas.List.FromFn.{length-range_with_len}
use Rattle.lrc_program.specs.declared.Program.{Program}
use Rattle.lrc_time.specs.Time.{entry}
use Rattle.lrc_time.proofs.Times.{length-zeros, length-joined_same}
use Rattle.lrc_lock.specs.declared.state.LockState.{LockState}
use Rattle.lrc_lock.specs.declared.state.LockState.TheVariants.{Away, Awaited, Held}
use Rattle.lrc_lock.specs.Held.{HeldRecord, SamePlace, LockStep, refuses, stays, passes, lock_at, is_free, with_lock, first_state, taken}
use Rattle.lrc_lock.specs.Held.{released, forwarded, granted, held_after}
use Rattle.lrc_lock.specs.Lock.{manager_of}
use Rattle.lrc_lock.specs.Managed.{ManagedRecord, SameManager, with_asker}
use Rattle.lrc_exec.specs.Meaning.{Setting}
use Rattle.lrc_exec.specs.Plain.{setting_of}
use Rattle.lrc_protocol.specs.Times.{next_time}
use Rattle.lrc_protocol.specs.Locks.{Locks, fresh_locks, ticked, with_joined_time, with_held, with_managed}
use Rattle.lrc_protocol.specs.Node.{Wait, OptionsRecord, fresh_node}
use Rattle.lrc_protocol.specs.declared.event.Event.{Event}
use Rattle.lrc_protocol.specs.Run.{Logged, World, run_of}
use Rattle.lrc_protocol.specs.Follows.{Local}
use Rattle.lrc_protocol.specs.Follows.{turns_of}
use Rattle.lrc_order_laws.specs.Shape.{HasShape}
use Rattle.lrc_order_laws.proofs.Shift.{Part, part_of, Shift, plain, misses, takes, asks, releasing, arriving, manages, forwarding, grants, departing}
use Rattle.lrc_order_laws.proofs.Shift.{collecting, clean_at_once}
use Rattle.lrc_order_laws.proofs.Inputs.{KeptByShifts, at_each}

-- ---- tokens

same_place : (held : HeldRecord) → SamePlace held held
same_place held = record { me = refl; nodes = refl; locks = refl }

pub lock-place : (held : HeldRecord) (lock : ℕ) (state : LockState) → SamePlace held (with_lock held lock state)
lock-place held lock state = record { me = refl; nodes = refl; locks = length-set held.locks lock state }

pub step-place : (held : HeldRecord) (lock : ℕ) (step : LockStep) → SamePlace held (held_after held lock step)
step-place held lock (refuses fault) = same_place held
step-place held lock (stays next) = lock-place held lock next
step-place held lock (passes pass) = lock-place held lock Away

taken_by : (held : HeldRecord) (lock : ℕ) (b : Bool) → SamePlace held (if b then with_lock held lock (Held None) else held)
taken_by held lock true = lock-place held lock (Held None)
taken_by held lock false = same_place held

taken-place : (held : HeldRecord) (lock : ℕ) → SamePlace held (taken held lock)
taken-place held lock = taken_by held lock (is_free (lock_at held lock))

asker-place : (managed : ManagedRecord) (lock asker : ℕ) → SameManager managed (with_asker managed lock asker)
asker-place managed lock asker = record { me = refl; nodes = refl; locks = length-set managed.recent lock asker }

-- ---- clock and tokens

ticks : (s : Setting) (me : ℕ) (locks : Locks) → HasShape s locks → HasShape s (ticked me locks)
ticks s me locks h = record {
  times = length-set locks.time me (entry locks.time me + 1) ∙ h.times;
  holder = h.holder;
  held_nodes = h.held_nodes;
  tokens = h.tokens;
  manager = h.manager;
  managed_nodes = h.managed_nodes;
  askers = h.askers;
}

holds : (s : Setting) (locks : Locks) (held : HeldRecord) → SamePlace locks.held held → HasShape s locks → HasShape s (with_held held locks)
holds s locks held p h = record {
  times = h.times;
  holder = p.me ∙ h.holder;
  held_nodes = p.nodes ∙ h.held_nodes;
  tokens = p.locks ∙ h.tokens;
  manager = h.manager;
  managed_nodes = h.managed_nodes;
  askers = h.askers;
}

manages_so : (s : Setting) (locks : Locks) (managed : ManagedRecord) → SameManager locks.managed managed → HasShape s locks
    → HasShape s (with_managed managed locks)
manages_so s locks managed p h = record {
  times = h.times;
  holder = h.holder;
  held_nodes = h.held_nodes;
  tokens = h.tokens;
  manager = p.me ∙ h.manager;
  managed_nodes = p.nodes ∙ h.managed_nodes;
  askers = p.locks ∙ h.askers;
}

learns_so : (s : Setting) (locks : Locks) (time : List ℕ) → length time ≡ s.nodes → HasShape s locks → HasShape s (with_joined_time time locks)
learns_so s locks time e h = record {
  times = length-joined_same locks.time time (h.times ∙ sym e) ∙ h.times;
  holder = h.holder;
  held_nodes = h.held_nodes;
  tokens = h.tokens;
  manager = h.manager;
  managed_nodes = h.managed_nodes;
  askers = h.askers;
}

-- ---- every turn

shape-kept : (p : Part) (s : Setting) → p.nodes ≡ s.nodes → (acts : Bool) (wait : Wait) (locks : Locks) (episode : ℕ)
    → Shift p acts wait locks episode → HasShape s p.locks → HasShape s locks
shape-kept p s e _ _ _ _ (plain next w n is) h = h
shape-kept p s e _ _ _ _ (misses w n) h = h
shape-kept p s e _ _ _ _ (takes lock w n free) h =
    holds s (ticked p.me p.locks) _ (taken-place p.locks.held lock) (ticks s p.me p.locks h)
shape-kept p s e _ _ _ _ (asks {lock = lock} w n away) h =
    holds s (ticked p.me p.locks) _ (lock-place p.locks.held lock (Awaited None)) (ticks s p.me p.locks h)
shape-kept p s e _ _ _ _ (releasing lock next w n) h =
    holds s (ticked p.me p.locks) _ (step-place p.locks.held lock (released p.locks.held lock (next_time p.me p.locks.time))) (ticks s p.me p.locks h)
shape-kept p s e _ _ _ _ (arriving next w n) h = ticks s p.me p.locks h
shape-kept p s e _ _ _ _ (manages lock from) h = manages_so s p.locks _ (asker-place p.locks.managed lock from) h
shape-kept p s e _ _ _ _ (forwarding lock asker time) h = holds s p.locks _ (step-place p.locks.held lock (forwarded p.locks.held lock asker time)) h
shape-kept p s e _ _ _ _ (grants lock time w k) h =
    learns_so s (with_held (held_after p.locks.held lock (granted p.locks.held lock)) p.locks) time (k.counted ∙ e)
    (holds s p.locks _ (step-place p.locks.held lock (granted p.locks.held lock)) h)
shape-kept p s e _ _ _ _ (departing time w k) h = learns_so s p.locks time (k.counted ∙ e) h
shape-kept p s e _ _ _ _ (collecting time w k same) h = learns_so s p.locks time (k.counted ∙ e) h
shape-kept p s e _ _ _ _ (clean_at_once time w k same) h = learns_so s p.locks time (k.counted ∙ e) h
shape-kept p s e _ _ _ _ _ h = h

-- of a node
pub record NodeShape (s : Setting) (o : OptionsRecord) (l : Local) : Type 0 where
  pub setting : l.node.setting ≡ s
  pub options : l.node.options ≡ o
  pub shape : HasShape s l.node.locks

pub node-shape : (s : Setting) (o : OptionsRecord) → KeptByShifts (NodeShape s o)
node-shape s o l turn after t sh h = record {
  setting = t.setting ∙ h.setting;
  options = t.options ∙ h.options;
  shape = shape-kept (part_of l.node) s (ap (λ (s : Setting). s.nodes) h.setting) sh.acts after.mail.wait after.locks after.barrier.episode sh.shift h.shape;
}

fresh-shape : (s : Setting) → HasShape s (fresh_locks s.me s.nodes s.locks)
fresh-shape s = record {
  times = length-zeros s.nodes;
  holder = refl;
  held_nodes = refl;
  tokens = length-map (range_with_len 0 s.locks) (first_state s.me s.nodes) ∙ length-range_with_len 0 s.locks;
  manager = refl;
  managed_nodes = refl;
  askers = length-map (range_with_len 0 s.locks) (manager_of s.nodes) ∙ length-range_with_len 0 s.locks;
}

pub fresh_node-shape : (program : Program) (nodes : ℕ) (options : OptionsRecord) (n : ℕ)
    → NodeShape (setting_of program nodes n) options (record { node = fresh_node program nodes options n; turns = [] })
fresh_node-shape program nodes options n = record { setting = refl; options = refl; shape = fresh-shape (setting_of program nodes n) }

pub shape_at : (program : Program) (nodes : ℕ) (options : OptionsRecord) (events : List Event) (world : World) (n : ℕ) (l : Logged)
    → run_of program nodes options events ≡ Some world → slice_get world.nodes n ≡ Some l
    → NodeShape (setting_of program nodes n) options (record { node = l.node; turns = turns_of l.log })
shape_at program nodes options events world n l e at =
    at_each (NodeShape (setting_of program nodes n) options) (node-shape (setting_of program nodes n) options) program nodes options events world n l
    (fresh_node-shape program nodes options n) e at
