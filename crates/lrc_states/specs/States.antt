-- The lines of a run's turns with the states of its nodes.
use Rattle.std.specs.Prelude.{◌≡◌, ◌<◌, ◌≤◌, ℕ, Bool, true, Option, None, Some, List, [], ◌∷◌, ◌++◌, codes, decimal, drop, filter, length, map, nat_le, slice_get, take}
use Rattle.std.specs.List.{enumerate_from, flat_map}
use Rattle.std.specs.Option.{option_to_list}
use Rattle.lrc_trace.specs.declared.act.Act.{Act}
use Rattle.lrc_program.specs.declared.Program.{Program}
use Rattle.lrc_lang.specs.Symbol.{Names}
use Rattle.lrc_labels.specs.declared.cut.Divider.TheVariants.{LineFeed}
use Rattle.lrc_labels.specs.Cut.{cut, divides}
use Rattle.lrc_labels.specs.Reading.{Label, labels_of}
use Rattle.lrc_page.specs.declared.size.Size.{Size}
use Rattle.lrc_page.specs.Page.{words_of}
use Rattle.lrc_events.specs.Writing.{event_text}
use Rattle.lrc_messages.specs.Lists.{before}
use Rattle.lrc_private_names.specs.Spelling.{AreNamesOf}
use Rattle.lrc_protocol.specs.declared.event.Event.{Event}
use Rattle.lrc_protocol.specs.Node.{Node, OptionsRecord}
use Rattle.lrc_protocol.specs.Turn.{TurnRecord}
use Rattle.lrc_protocol.specs.Run.{event_on, Logged, run_of, World}
use Rattle.lrc_state_text.specs.Intervals.{StoredInterval, stored_in}
use Rattle.lrc_state_text.specs.State.{state_text}
use Rattle.lrc_text.specs.Each.{each}
use Rattle.lrc_source.specs.Telling.{AreLines, ReadText, names_told}
use Rattle.lrc_states.specs.declared.told.Range.{Range}
use Rattle.lrc_states.specs.declared.told.Telling.{Telling}
use Rattle.lrc_states.specs.declared.told.Told as code_told
use Rattle.lrc_replay.specs.Acts.{last_notes, notes_behind, Plan, spot_behind}
use Rattle.lrc_replay.specs.Replays.{brought_by}
use Rattle.lrc_states.specs.Members.{did_members, first_members, stands_member, taken_parts}
use Rattle.lrc_states.specs.Names.{names_behind}
use Rattle.lrc_states.specs.declared.fault.StatesFault.{StatesFault}
use Rattle.lrc_states.specs.declared.fault.StatesFault.TheVariants.{NoMemory, TooLong}
use Rattle.lrc_states.specs.Objects.{act_or_null, labels_list, messages_list, notes_list, taken_object, truth_text}
use Rattle.lrc_replay.specs.Turns.{is_again, Turn, turns_from, turns_of}

-- ---- states

-- a node's state behind these acts; of its intervals those are told that it did not have when it was told before
unfoldable pub state_behind : Plan → List Act → (node : ℕ) → (known : List StoredInterval) → Node → List ℕ
state_behind plan acts node known state =
    state_text state (spot_behind plan acts node).line (names_behind plan acts node) known

-- a node's state that is told for the first time
abbrev pub first_state : Plan → List Act → (node : ℕ) → Logged → List ℕ
first_state plan acts node l = before node (codes ",") ++ state_behind plan acts node [] l.node

abbrev pub states_list : Plan → World → List ℕ
states_list plan world = each (first_state plan world.acts) world.nodes

-- ---- the first line

abbrev pub setting_members : Plan → Size → List ℕ
setting_members plan size =
    codes "{\"nodes\":" ++ decimal plan.nodes ++ codes ",\"words\":" ++ decimal plan.program.words ++ codes ",\"locks\":" ++ decimal plan.program.locks
    ++ codes ",\"page\":" ++ decimal (words_of size)

abbrev pub flight_list : World → List ℕ
flight_list world = messages_list (map (λ sent. sent.envelope) world.flight)

abbrev pub written_list : Plan → World → List ℕ
written_list plan world = notes_list (last_notes plan.program.words (notes_behind plan [] world.acts))

-- how all stands before the first turn that is shown
abbrev pub first_line : Plan → Telling → Size → List Label → World → List ℕ
first_line plan telling size labels world =
    setting_members plan size ++ codes ",\"labels\":[" ++ labels_list labels ++ codes "],\"flight\":[" ++ flight_list world
    ++ codes "],\"states\":[" ++ states_list plan world ++ codes "],\"written\":[" ++ written_list plan world ++ codes "]"
    ++ first_members telling world ++ codes "}\n"

-- ---- a turn

-- the acts once the turn is made
abbrev pub acts_after : Turn → List Act
acts_after turn = turn.before.acts ++ option_to_list turn.made.act

-- what was stored at a node before
abbrev pub known_of : Option Logged → List StoredInterval
known_of None = []
known_of (Some l) = stored_in l.node.memory

-- the number of a turn, its event and its node
unfoldable pub event_members : (number : ℕ) → Event → (node : ℕ) → List ℕ
event_members number event node =
    codes "{\"turn\":" ++ decimal number ++ codes ",\"event\":\"" ++ event_text event ++ codes "\",\"node\":" ++ decimal node

-- what is known of a turn before it is made
abbrev pub turn_head : (number : ℕ) → Turn → List ℕ
turn_head number turn =
    event_members number turn.event turn.node
    ++ (codes ",\"take\":" ++ taken_object turn.input ++ codes ",\"again\":"
    ++ truth_text (is_again (slice_get turn.before.nodes turn.node) turn.input))

-- what a node did in a turn behind these acts
abbrev pub made_members : Plan → List Act → (node : ℕ) → TurnRecord → List ℕ
made_members plan acts node made =
    codes ",\"act\":" ++ act_or_null (spot_behind plan acts node) made.act ++ codes ",\"sends\":[" ++ messages_list made.out ++ codes "]"

-- the members about a turn that are not told in words
abbrev pub turn_members : Telling → Turn → List ℕ
turn_members telling turn =
    did_members telling turn.event (taken_parts (brought_by turn.input)) turn.made ++ stands_member telling turn.after

abbrev pub turn_line : Plan → Telling → (number : ℕ) → Turn → List ℕ
turn_line plan telling number turn =
    turn_head number turn ++ made_members plan turn.before.acts turn.node turn.made ++ codes ",\"state\":"
    ++ state_behind plan (acts_after turn) turn.node (known_of (slice_get turn.before.nodes turn.node)) turn.after
    ++ turn_members telling turn ++ codes "}\n"

-- ---- which turns are shown

-- Turns are shown from this world on, before these events: from the beginning; or from the turn on that makes the act at a position, and
-- where there is no such act, none is left.
abbrev pub MakesAct : World → (position : ℕ) → List Event → Type 0
MakesAct world position [] = Unit {0}
MakesAct world position (event ∷ more) = (next : World) × (event_on world event ≡ Some next) × (position < length next.acts)

abbrev pub BeginsAt : Option ℕ → World → (before rest : List Event) → Type 0
BeginsAt None world before rest = before ≡ []
BeginsAt (Some position) world before rest = (length world.acts ≤ position) × MakesAct world position rest

-- a turn that begins behind so many acts is no later than that of the act at a position
abbrev pub is_within : Option ℕ → (acts : ℕ) → Bool
is_within None acts = true
is_within (Some position) acts = nat_le acts position

-- the events of a run up to those whose turns are shown, and the others
pub record IsCut (program : Program) (nodes : ℕ) (options : OptionsRecord) (from : Option ℕ) (events before rest : List Event) (world : World) : Type 0 where
  pub split : events ≡ before ++ rest
  pub stands : run_of program nodes options before ≡ Some world
  pub begins : BeginsAt from world before rest

-- so many events come before those whose turns are shown
abbrev pub IsStart : Program → (nodes : ℕ) → OptionsRecord → (from : Option ℕ) → List Event → (count : ℕ) → Type 0
IsStart program nodes options from events count =
    (count ≤ length events) × ((world : World) × IsCut program nodes options from events (take count events) (drop count events) world)

-- those of some turns that are shown, with their numbers, where so many come before
abbrev pub shown_now : Option ℕ → (number : ℕ) → List Turn → List (ℕ × Turn)
shown_now to number turns = filter (λ at. is_within to (length at.1.before.acts)) (enumerate_from number turns)

abbrev pub turns_shown : Option ℕ → (number : ℕ) → World → (rest : List Event) → List (ℕ × Turn)
turns_shown to number world rest = shown_now to number (turns_from (Some world) rest)

abbrev pub turn_lines : Plan → Telling → List (ℕ × Turn) → List ℕ
turn_lines plan telling turns = flat_map (λ at. turn_line plan telling at.0 at.1) turns

-- the most turns that are shown
abbrev pub most_turns : ℕ
most_turns = 2000

-- ---- the whole

-- what the lines are told of: the run of these events of a program
pub record Told : Type 0 where
  pub text : ReadText
  pub program : Program
  pub nodes : ℕ
  pub options : OptionsRecord
  pub events : List Event

abbrev pub told_seen : code_told.Told → Told
told_seen told = record { text = told.source.now.text; program = told.source.now.program; nodes = told.nodes; options = told.options; events = told.events.now }

abbrev pub labels_in : Told → List Label
labels_in told = labels_of told.program.words told.program.locks (cut (divides LineFeed) told.text.core)

-- the private names that are told of those of the text
abbrev pub AreNamesTold : ReadText → Names → Type 0
AreNamesTold text told = (names : Names) × AreNamesOf text.core names × (told ≡ names_told text.telling names)

-- the lines, and how many turns they show
pub record IsShown (told : Told) (range : Range) (telling : Telling) (count : ℕ) (out : List ℕ) : Type 0 where
  pub plan : Plan
  pub program_is : plan.program ≡ told.program
  pub nodes_are : plan.nodes ≡ told.nodes
  pub lines_are : AreLines told.text told.program plan.lines
  pub names_are : AreNamesTold told.text plan.names
  pub before : List Event
  pub rest : List Event
  pub world : World
  pub at : IsCut told.program told.nodes told.options range.from told.events before rest world
  pub shown : List (ℕ × Turn)
  pub shown_are : shown ≡ turns_shown range.to (length (turns_of told.program told.nodes told.options before)) world rest
  pub counted : count ≡ length shown
  pub whole : out ≡ first_line plan telling told.options.size (labels_in told) world ++ turn_lines plan telling shown

-- all lines, of no more turns than are shown at most
abbrev pub AreStates : Told → Range → Telling → List ℕ → Type 0
AreStates told range telling out = (count : ℕ) × (count ≤ most_turns) × IsShown told range telling count out

-- why there are no lines: they would show too many turns, however they are told
abbrev pub IsUnshown : Told → Range → StatesFault → Type 0
IsUnshown told range TooLong =
    (count : ℕ) × (most_turns < count) × ((telling : Telling) → (out : List ℕ) × IsShown told range telling count out)
IsUnshown told range NoMemory = Unit {0}
