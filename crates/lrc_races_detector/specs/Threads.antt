-- Which threads are joined and which are known, after the events before a position.
use Rattle.std.specs.Prelude.{◌≡◌, ◌≢◌, ℕ, ◌<◌, List, Option, Some, None, slice_get, ⊤}
use Rattle.lrc_races_trace.specs.declared.event.Event.{Event}
use Rattle.lrc_races_trace.specs.declared.event.Operation.TheVariants.{Join}
use Rattle.lrc_races_trace.specs.declared.fault.Reason.{Reason}
use Rattle.lrc_races_trace.specs.declared.fault.Reason.TheVariants.{Joined, Known}
use Rattle.lrc_races_trace.specs.Trace.{At}
use Rattle.lrc_races_trace.specs.Formed.{IsFirstBefore, Knows}
use Rattle.lrc_races_detector.specs.declared.threads.Lines.{Lines}
use Rattle.lrc_races_detector.specs.declared.threads.Threads.{Threads}

-- the line that is kept of a thread
abbrev pub line_at : Option (Option ℕ) → Option ℕ
line_at (Some line) = line
line_at None = None

abbrev pub line_of : Lines → ℕ → Option ℕ
line_of lines thread = line_at (slice_get lines.lines.items thread)

-- this thread has this line, and all others have the same as before
pub record IsLineSet (before after : Lines) (thread : ℕ) (line : Option ℕ) : Type 0 where
  pub here : line_of after thread ≡ line
  pub others : (other : ℕ) → other ≢ thread → line_of after other ≡ line_of before other

-- the first line stays
abbrev pub first_line : Option ℕ → ℕ → Option ℕ
first_line (Some first) line = Some first
first_line None line = Some line

-- the line of the first event before this position that is so, if there is one
abbrev pub IsFirstLine : List Event → ℕ → (Event → Type 0) → Option ℕ → Type 0
IsFirstLine events n These (Some line) = (event : Event) × IsFirstBefore events n These event × (event.line ≡ line)
IsFirstLine events n These None = (k : ℕ) (a : Event) → k < n → At events k a → ¬ These a

abbrev pub Joins : ℕ → Event → Type 0
Joins thread event = event.operation ≡ Join thread

abbrev pub AreJoined : List Event → ℕ → Lines → Type 0
AreJoined events n lines = (thread : ℕ) → IsFirstLine events n (Joins thread) (line_of lines thread)

abbrev pub AreKnown : List Event → ℕ → Lines → Type 0
AreKnown events n lines = (thread : ℕ) → IsFirstLine events n (Knows thread) (line_of lines thread)

-- the threads of the events before this position
pub record HasThreads (events : List Event) (n : ℕ) (threads : Threads) : Type 0 where
  pub joined : AreJoined events n threads.joined
  pub known : AreKnown events n threads.known

-- the reason is that its thread was joined, or that the thread that it forks is known
abbrev pub IsJoined : Reason → Type 0
IsJoined (Joined line) = ⊤
IsJoined _ = ⊥

abbrev pub IsKnown : Reason → Type 0
IsKnown (Known thread line) = ⊤
IsKnown _ = ⊥
