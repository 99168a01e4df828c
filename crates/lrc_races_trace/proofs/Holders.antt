-- Who holds a lock, one event further.
use Rattle.std.proofs.Common.{add-one, ◌≡◌, ℕ, zero, suc, ◌+◌, ◌-◌, ◌≤◌, List, refl, arith}
use Rattle.std.specs.Prelude.{Option, Some, None, slice_get, true, false, ◌==◌, cond}
use Rattle.lrc_races_trace.specs.declared.event.Event.{Event}
use Rattle.lrc_races_trace.specs.declared.event.Operation.{Operation}
use Rattle.lrc_races_trace.specs.declared.event.Operation.TheVariants.{Read, Write, Acquire, Release, Post, Wait, Fork, Join, Arrive, Depart, Idle}
use Rattle.lrc_races_trace.specs.declared.fault.Holder.{Holder}
use Rattle.lrc_races_trace.specs.Trace.{At}
use Rattle.lrc_races_trace.specs.Formed.{holder_before, after_acquire, after_release, held_after_event, held_after_operation}

pub holder_before-none : (events : List Event) (l : ℕ) → holder_before events l 0 ≡ None
unfolding holder_before
holder_before-none events l = refl

pub holder_before-next : (events : List Event) (l n : ℕ) (e : Event) → At events n e
    → holder_before events l (n + 1) ≡ held_after_operation l e e.operation (holder_before events l n)
unfolding holder_before
holder_before-next events l n e h = rw (add-one, h.is) refl

-- how many acquires want a release
abbrev pub depth_of : Option Holder → ℕ
depth_of (Some holder) = holder.depth
depth_of None = 0

acquire-little : (e : Event) (holder : Option Holder) → depth_of (after_acquire e holder) ≤ depth_of holder + 1
acquire-little e None = omega arith
acquire-little e (Some h) =
    elim (h.thread == e.thread) as (λ b. depth_of (Some (cond b (record h { depth = h.depth + 1 }) h)) ≤ h.depth + 1) [ true ↦ omega arith | false ↦ omega arith ]

release-little : (e : Event) (holder : Option Holder) → depth_of (after_release e holder) ≤ depth_of holder + 1
release-little e None = omega arith
release-little e (Some h) =
    elim (h.thread == e.thread) as (λ b. depth_of (cond b (cond (h.depth == 1) None (Some (record h { depth = h.depth - 1 }))) (Some h)) ≤ h.depth + 1) [
      | true ↦ elim (h.depth == 1) as (λ b. depth_of (cond b None (Some (record h { depth = h.depth - 1 }))) ≤ h.depth + 1) [ true ↦ omega arith | false ↦ omega arith ]
      | false ↦ omega arith
    ]

operation-little : (l : ℕ) (e : Event) (o : Operation) (holder : Option Holder) → depth_of (held_after_operation l e o holder) ≤ depth_of holder + 1
operation-little l e (Acquire m) holder =
    elim (m == l) as (λ b. depth_of (cond b (after_acquire e holder) holder) ≤ depth_of holder + 1) [ true ↦ acquire-little e holder | false ↦ omega arith ]
operation-little l e (Release m) holder =
    elim (m == l) as (λ b. depth_of (cond b (after_release e holder) holder) ≤ depth_of holder + 1) [ true ↦ release-little e holder | false ↦ omega arith ]
operation-little l e (Read v) holder = omega arith
operation-little l e (Write v) holder = omega arith
operation-little l e (Post v) holder = omega arith
operation-little l e (Wait v) holder = omega arith
operation-little l e (Fork v) holder = omega arith
operation-little l e (Join v) holder = omega arith
operation-little l e (Arrive v) holder = omega arith
operation-little l e (Depart v) holder = omega arith
operation-little l e Idle holder = omega arith

event-little : (l : ℕ) (o : Option Event) (holder : Option Holder) → depth_of (held_after_event l o holder) ≤ depth_of holder + 1
event-little l None holder = omega arith
event-little l (Some e) holder = operation-little l e e.operation holder

-- no more acquires want a release than there are events
pub holder_before-few : (events : List Event) (l n : ℕ) → depth_of (holder_before events l n) ≤ n
unfolding holder_before
holder_before-few events l zero = omega arith
holder_before-few events l (suc n) =
    let one = event-little l (slice_get events n) (holder_before events l n) in
    let few = holder_before-few events l n in
    omega arith
