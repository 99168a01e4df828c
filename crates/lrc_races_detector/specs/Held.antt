-- Who holds each lock, after the events before a position.
use Rattle.std.specs.Prelude.{◌≡◌, ◌≢◌, ℕ, List, Option, Some, None, slice_get, ⊤}
use Rattle.lrc_races_trace.specs.declared.event.Event.{Event}
use Rattle.lrc_races_trace.specs.declared.fault.Holder.{Holder}
use Rattle.lrc_races_trace.specs.declared.fault.Reason.{Reason}
use Rattle.lrc_races_trace.specs.declared.fault.Reason.TheVariants.{Held, NotHeld}
use Rattle.lrc_races_trace.specs.Formed.{Holds, holder_before}
use Rattle.lrc_races_detector.specs.declared.held.Holders.{Holders}

-- what is kept of a lock; where nothing is, nobody holds it
abbrev pub holder_at : Option (Option Holder) → Option Holder
holder_at (Some holder) = holder
holder_at None = None

abbrev pub holder_of : Holders → ℕ → Option Holder
holder_of holders lock = holder_at (slice_get holders.holders.items lock)

-- this lock has this holder, and all others have the same as before
pub record IsHolderSet (before after : Holders) (lock : ℕ) (holder : Option Holder) : Type 0 where
  pub here : holder_of after lock ≡ holder
  pub others : (other : ℕ) → other ≢ lock → holder_of after other ≡ holder_of before other

abbrev pub AreHolders : List Event → ℕ → Holders → Type 0
AreHolders events n holders = (lock : ℕ) → holder_of holders lock ≡ holder_before events lock n

-- no reason that a lock gives holds of the event
pub record HasNoLockFault (events : List Event) (n : ℕ) (event : Event) : Type 0 where
  pub free : (lock thread line : ℕ) → ¬ Holds events n event (Held lock thread line)
  pub held : (lock : ℕ) → ¬ Holds events n event (NotHeld lock)

-- a lock gives the reason
abbrev pub IsOfLock : Reason → Type 0
IsOfLock (Held lock thread line) = ⊤
IsOfLock (NotHeld lock) = ⊤
IsOfLock _ = ⊥
