-- What the code keeps of the acts so far.
use Rattle.std.specs.Prelude.{◌≡◌, ℕ, ◌+◌, List, [], length, map}
use Rattle.std.specs.List.{range_with_len}
use Rattle.lrc_trace.specs.declared.act.Act.{Act}
use Rattle.lrc_trace.specs.Interval.{closes}
use Rattle.lrc_trace.specs.Run.{count_of}
use Rattle.lrc_lines.specs.Seen.{walks_of}
use Rattle.lrc_lines.specs.Walks.{end_line, walks_behind}
use Rattle.lrc_private_names.specs.declared.way.Way.{Way}
use Rattle.lrc_private_names.specs.Ways.{thread_of}
use Rattle.lrc_replay.specs.declared.course.Course.{Course}
use Rattle.lrc_replay.specs.declared.notes.Note.{Note}
use Rattle.lrc_replay.specs.declared.notes.Notes.{Notes}
use Rattle.lrc_replay.specs.declared.plan.Plan as code_plan
use Rattle.lrc_replay.specs.Acts.{last_note, notes_behind, Plan}

-- what does not change along a run, as the definitions see it
abbrev pub plan_of : code_plan.Plan → Plan
plan_of plan = record { program = plan.code.now; nodes = plan.nodes; lines = plan.lines.now; names = map (λ name. name.now) plan.names.now }

-- of each word the last of these Writes to it is kept
abbrev pub AreNotes : (words : ℕ) → List Note → Notes → Type 0
AreNotes words all notes = notes.last.items ≡ map (last_note all) (range_with_len 0 words)

-- of each node the interval that comes after these acts
abbrev pub AreClosed : List Act → List ℕ → Type 0
AreClosed acts closed = closed ≡ map (λ node. 1 + count_of closes node acts) (range_with_len 0 256)

-- these acts have led the nodes' threads here
abbrev pub AreWays : Plan → List Act → List Way → Type 0
AreWays plan acts ways = map thread_of ways ≡ map (λ walk. walk.thread) (walks_behind plan.program plan.nodes plan.lines acts)

-- these acts have led to this
pub record IsCourse (plan : Plan) (acts : List Act) (course : Course) : Type 0 where
  pub counted : course.acts ≡ length acts
  pub closed : AreClosed acts course.closed.items
  pub walks : walks_of course.walks ≡ walks_behind plan.program plan.nodes plan.lines acts
  pub end : course.walks.end ≡ end_line plan.lines
  pub ways : AreWays plan acts course.ways.items
  pub notes : AreNotes plan.program.words (notes_behind plan [] acts) course.notes
