-- A run that is played again, as it stands in the world of a run.
use Rattle.std.specs.Prelude.{◌≡◌, ℕ, Bool, false, Option, None, Some, List, [], ◌∷◌, ◌++◌, ◌+◌, codes, length, slice_get, Vec}
use Rattle.std.specs.declared.alloc.Global.{Global}
use Rattle.std.specs.BTreeMap.{BTreeMap, get}
use Rattle.std.specs.Ordering.{nat_cmp}
use Rattle.lrc_envelope.specs.Envelope.{EnvelopeRecord}
use Rattle.lrc_protocol.specs.Turn.{is_repeat, TurnRecord}
use Rattle.std.specs.Option.{option_to_list}
use Rattle.lrc_state_text.specs.Intervals.{StoredInterval}
use Rattle.lrc_trace.specs.declared.act.Act.{Act}
use Rattle.lrc_protocol.specs.Run.{Logged, World}
use Rattle.lrc_replay.specs.Replays.{IsReplay, LeavesOut}
use Rattle.lrc_replay.specs.Turns.{Turn}
use Rattle.lrc_states.specs.declared.player.Player.{Player}
use Rattle.lrc_states.specs.declared.told.Telling.{Telling}
use Rattle.lrc_replay.specs.Acts.{Plan}
use Rattle.lrc_replay.specs.Courses.{IsCourse, plan_of}
use Rattle.lrc_states.specs.Objects.{message_object, truth_text}
use Rattle.lrc_program.specs.declared.Program.{Program}
use Rattle.lrc_lang.specs.Symbol.{Names}
use Rattle.lrc_labels.specs.Reading.{Label}
use Rattle.lrc_source.specs.Telling.{AreLines}
use Rattle.lrc_states.specs.States.{AreNamesTold, known_of, labels_in, Told, turn_line, turn_lines}
use Rattle.lrc_text.specs.Parts.{whole_text}

-- what is kept of some nodes is what they store in this world
abbrev pub AreKnown : BTreeMap ℕ (List StoredInterval) → World → Type 0
AreKnown shown world =
    (node : ℕ) (stored : List StoredInterval) → get nat_cmp shown node ≡ Some stored → stored ≡ known_of (slice_get world.nodes node)

-- all stands as in this world, behind so many turns
pub record IsPlayer (plan : Plan) (world : World) (turns : ℕ) (player : Player) : Type 0 where
  pub plan_is : plan_of player.plan ≡ plan
  pub replay : IsReplay player.replay world
  pub course : IsCourse plan world.acts player.course
  pub counted : player.turns ≡ turns
  pub known : AreKnown player.shown world

-- a turn was made: all stands as in the next world, but for its act and for what it sends
pub record LeavesTurn (plan : Plan) (acts : List Act) (turns : ℕ) (next : World) (made : TurnRecord) (player : Player) : Type 0 where
  pub plan_is : plan_of player.plan ≡ plan
  pub leaves : LeavesOut player.replay made.out next
  pub course : IsCourse plan acts player.course
  pub acts_are : next.acts ≡ acts ++ option_to_list made.act
  pub counted : player.turns ≡ turns
  pub known : AreKnown player.shown next

-- the line of a turn that is made in this world, and none where none is made
abbrev pub TellsTurn : Plan → Telling → World → (number : ℕ) → List Turn → Option (Vec ℕ Global) → Type 0
TellsTurn plan telling world number turns None = turns ≡ []
TellsTurn plan telling world number turns (Some line) =
    (turn : Turn) × (turns ≡ turn ∷ []) × (turn.before ≡ world) × (line.items ≡ turn_line plan telling number turn)

-- the lines of these turns are added, each as a part of its own
pub record AddsLines (plan : Plan) (telling : Telling) (turns : List (ℕ × Turn)) (old new : List (Vec ℕ Global)) : Type 0 where
  pub text : whole_text new ≡ whole_text old ++ turn_lines plan telling turns
  pub many : length new ≡ length old + length turns

-- the message that an event names
unfoldable pub message_or_null : Option EnvelopeRecord → List ℕ
message_or_null None = codes "null"
message_or_null (Some envelope) = message_object envelope

-- whether a node took a message before
abbrev pub was_taken : Option Logged → Option EnvelopeRecord → Bool
was_taken None message = false
was_taken (Some l) None = false
was_taken (Some l) (Some envelope) = is_repeat l.node envelope

-- the message that is taken, and whether it was taken before
abbrev pub take_members : Option EnvelopeRecord → (again : Bool) → List ℕ
take_members message again = codes ",\"take\":" ++ message_or_null message ++ codes ",\"again\":" ++ truth_text again

-- the plan of a program, on so many nodes, with the lines and the names of its text
abbrev pub plan_with : Program → (nodes : ℕ) → (lines : List ℕ) → Names → Plan
plan_with program nodes lines names = record { program = program; nodes = nodes; lines = lines; names = names }

-- the plan and the labels are those of what the lines are told of
pub record IsSetting (told : Told) (plan : Plan) (labels : List Label) : Type 0 where
  pub program_is : plan.program ≡ told.program
  pub nodes_are : plan.nodes ≡ told.nodes
  pub lines_are : AreLines told.text told.program plan.lines
  pub names_are : AreNamesTold told.text plan.names
  pub labels_are : labels ≡ labels_in told
