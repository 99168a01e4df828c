-- The lines of the first events of variables.
use Rattle.std.specs.Prelude.{◌≡◌, ◌≢◌, ℕ, ◌<◌, ◌≤◌, List, Bool, true, Option, Some, None, slice_get}
use Rattle.lrc_races_trace.specs.declared.event.Event.{Event}
use Rattle.lrc_races_trace.specs.Trace.{At, Accesses}
use Rattle.lrc_races_claims.specs.declared.firsts.FirstLines.{FirstLines}
use Rattle.lrc_races_claims.specs.declared.firsts.Firsts.{Firsts}

-- the line that is kept of a variable
abbrev pub line_at : Option (Option ℕ) → Option ℕ
line_at (Some line) = line
line_at None = None

abbrev pub line_of : FirstLines → ℕ → Option ℕ
line_of lines variable = line_at (slice_get lines.lines.items variable)

-- the first line stays
abbrev pub first_line : Option ℕ → ℕ → Option ℕ
first_line (Some first) line = Some first
first_line None line = Some line

-- this variable has this line, and all others have the same as before
pub record IsLineSet (before after : FirstLines) (variable : ℕ) (line : Option ℕ) : Type 0 where
  pub here : line_of after variable ≡ line
  pub others : (other : ℕ) → other ≢ variable → line_of after other ≡ line_of before other

-- the event at a position is one of these: an access of the variable that is marked, or any access of it
pub record IsMarked (events : List Event) (marks : List Bool) (variable position : ℕ) (event : Event) : Type 0 where
  pub at : At events position event
  pub accesses : Accesses event variable
  pub mark : slice_get marks position ≡ Some true

pub record IsAny (events : List Event) (marks : List Bool) (variable position : ℕ) (event : Event) : Type 0 where
  pub at : At events position event
  pub accesses : Accesses event variable

-- the line of the first event before position n that is so, if there is one
pub record IsFirstOn (n : ℕ) (These : ℕ → Event → Type 0) (line : ℕ) : Type 0 where
  pub position : ℕ
  pub event : Event
  pub before : position < n
  pub these : These position event
  pub on : event.line ≡ line
  pub first : (k : ℕ) (other : Event) → k < n → These k other → position ≤ k

abbrev pub IsFirstLine : ℕ → (ℕ → Event → Type 0) → Option ℕ → Type 0
IsFirstLine n These (Some line) = IsFirstOn n These line
IsFirstLine n These None = (k : ℕ) (other : Event) → k < n → ¬ These k other

-- of each variable the line of its first access before this position, and of the first that is marked
pub record AreFirsts (events : List Event) (marks : List Bool) (n : ℕ) (firsts : Firsts) : Type 0 where
  pub any : (variable : ℕ) → IsFirstLine n (IsAny events marks variable) (line_of firsts.any variable)
  pub marked : (variable : ℕ) → IsFirstLine n (IsMarked events marks variable) (line_of firsts.marked variable)
