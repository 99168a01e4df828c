-- Where the acts of a run come from: of each act its turn, its statement, and its node's time just after it.
use Rattle.std.specs.Prelude.{◌≡◌, ℕ, ◌+◌, ◌++◌, ◌==◌, Bool, false, Option, Some, None, List, [], ◌∷◌, if◌then◌else◌, is_some, length, replicate, slice_get, take}
use Rattle.std.specs.List.{count_by}
use Rattle.std.specs.Option.{option_to_list}
use Rattle.lrc_program.specs.declared.Program.{Program}
use Rattle.lrc_trace.specs.declared.act.Act.{Act}
use Rattle.lrc_clock.specs.Keeping.{KeepsTime}
use Rattle.lrc_lines.specs.Statements.{act_statements}
use Rattle.lrc_protocol.specs.Follows.{log_of, next_entry}
use Rattle.lrc_protocol.specs.Run.{EntryRecord}
use Rattle.lrc_timeline.specs.Timeline.{brought_behind, timed, times_in}
use Rattle.lrc_world.specs.declared.keep.Keep.{Keep}
use Rattle.lrc_world.specs.declared.origins.Origins.{Origins}
use Rattle.lrc_world.specs.declared.turned.Turned.{Turned}
use Rattle.lrc_world.specs.Turned.{when_all}
use Rattle.lrc_world.specs.Walk.{come_with}

-- the act of an entry, if it has one
abbrev pub acts_of : Option EntryRecord → List Act
acts_of None = []
acts_of (Some entry) = option_to_list entry.turn.act

-- the acts that turns make, one after another, where so many turns of each node come before
abbrev pub acts_along : List (List EntryRecord) → (come : List ℕ) → List Turned → List Act
acts_along logs come [] = []
acts_along logs come (turn ∷ more) = acts_of (next_entry logs come turn.node) ++ acts_along logs (come_with logs come (Some turn.node)) more

-- those of all turns of a run with these logs
abbrev pub acts_in_turn : List (List EntryRecord) → List Turned → List Act
acts_in_turn logs turned = acts_along logs (replicate (length logs) 0) turned

-- whether an entry has an act
abbrev pub has_act : Option EntryRecord → Bool
has_act None = false
has_act (Some entry) = is_some entry.turn.act

-- of each of these acts the position of the turn that makes it, where so many turns come before
abbrev pub turns_along : List (List EntryRecord) → (come : List ℕ) → (before : ℕ) → List Turned → List ℕ
turns_along logs come before [] = []
turns_along logs come before (turn ∷ more) =
    (if has_act (next_entry logs come turn.node) then before ∷ [] else []) ++ turns_along logs (come_with logs come (Some turn.node)) (before + 1) more

-- of each act of a run with these logs the position of its turn
abbrev pub act_turns : List (List EntryRecord) → List Turned → List ℕ
act_turns logs turned = turns_along logs (replicate (length logs) 0) 0 turned

-- how many of the turns before a place are of a node
abbrev pub turns_before : List Turned → (place node : ℕ) → ℕ
turns_before turned place node = count_by (λ turn. turn.node == node) (take place turned)

-- The turn at this place makes the act: in its node's log it stands behind as many turns as the node has before this place.
pub record IsTurnOf (logs : List (List EntryRecord)) (turned : List Turned) (place : ℕ) (act : Act) : Type 0 where
  pub turn : Turned
  pub there : slice_get turned place ≡ Some turn
  pub entry : EntryRecord
  pub logged : slice_get (log_of logs turn.node) (turns_before turned place turn.node) ≡ Some entry
  pub makes : entry.turn.act ≡ Some act

-- each of the acts is made by the turn at the place of the same index
abbrev pub AreTurnsOf : List (List EntryRecord) → List Turned → (places : List ℕ) → List Act → Type 0
AreTurnsOf logs turned places acts = (k : ℕ) (act : Act) → slice_get acts k ≡ Some act
    → (place : ℕ) × (slice_get places k ≡ Some place) × IsTurnOf logs turned place act

-- Where all is kept, these are the origins of the acts of a run of so many nodes with these logs and turns; and otherwise there are none. A time
-- is kept once for as long as it is its node's.
pub record AreOriginsOf (keep : Keep) (program : Program) (nodes : ℕ) (logs : List (List EntryRecord)) (turned : List Turned) (acts : List Act)
    (origins : Origins) : Type 0 where
  pub turns : origins.turns.items ≡ when_all keep (act_turns logs turned)
  pub statements : origins.statements.items ≡ when_all keep (act_statements program nodes acts)
  pub times : KeepsTime nodes (when_all keep acts) (times_in origins.times)
  pub kept : origins.times.kept.items ≡ brought_behind [] (timed acts (times_in origins.times))
