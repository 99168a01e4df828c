-- A node's text: how far it has come, and how many steps are left of those that the node may make.
use Rattle.std.specs.Prelude.{ℕ, ◌-◌, true, if◌then◌else◌, nat_le, Option, Some, None, option_map}
use Rattle.lrc_trace.specs.declared.act.Deed.{Deed}
use Rattle.lrc_exec.specs.declared.machine.Ask.{Ask}
use Rattle.lrc_exec.specs.declared.machine.Ask.TheVariants.{Barrier, Trap, End}
use Rattle.lrc_exec.specs.Ask.{ask_of, cost_asked}
use Rattle.lrc_exec.specs.Meaning.{Thread, Next, next_of}
use Rattle.lrc_protocol.specs.Node.{Course, going, trapped, ended, deed_of, course_of, cost_of}
use Rattle.lrc_protocol.specs.Turn.{begins_of}
use Rattle.lrc_protocol.specs.Node.{next_in}
use Rattle.lrc_control.specs.declared.text.TextStanding.{TextStanding}
use Rattle.lrc_control.specs.declared.text.TextStanding.TheVariants.{Running, Arrived, Trapped, Ended}
use Rattle.lrc_trace.specs.declared.end.End.{End as Ending}
use Rattle.lrc_trace.specs.declared.end.End.TheVariants.{Ended as End_Ended, Trapped as End_Trapped, Unfinished}

-- how far the text has come, and the steps that are left
pub record TextRecord : Type 0 where
  pub course : Course
  pub left : ℕ

-- the course of a machine that stands so: at a barrier its thread has arrived, and once stopped there is none
abbrev pub course_in : TextStanding → Thread → Course
course_in Running thread = going thread
course_in Arrived thread = going (record thread { arrived = true })
course_in (Trapped cause) thread = trapped cause
course_in Ended thread = ended

-- what it asks for next
abbrev pub asked_in : Course → Option Ask
asked_in course = option_map ask_of (next_in course)

-- the deed that it makes next, a read giving this value
abbrev pub deed_in : ℕ → Course → Option Deed
deed_in value course = option_map (deed_of value) (next_in course)

-- how far it has come once it made that deed
abbrev pub gone_on : ℕ → Course → Course
gone_on value (going thread) = course_of value (next_of thread)
gone_on value (trapped cause) = trapped cause
gone_on value ended = ended

-- what it costs to begin this, and nothing where nothing is begun
abbrev pub cost_to_begin : Option Next → ℕ
cost_to_begin None = 0
cost_to_begin (Some next) = cost_of next

-- what the node begins if it is named and awaits nothing
abbrev pub begun_by : TextRecord → Option Next
begun_by text = begins_of text.left text.course

-- the text once that is begun
abbrev pub begun : TextRecord → TextRecord
begun text = record text { left = text.left - cost_to_begin (begun_by text) }

-- how a node ended whose text came so far
abbrev pub end_of : Course → Ending
end_of (going thread) = Unfinished
end_of (trapped cause) = End_Trapped cause
end_of ended = End_Ended

-- ---- by what is asked for

-- what is begun where this is asked for, with so many steps left
abbrev pub allowed_with : ℕ → Ask → Option Ask
allowed_with left ask = if nat_le (cost_asked ask) left then Some ask else None

-- where a machine stands once it has done what it asked for
abbrev pub standing_after : Ask → TextStanding
standing_after Barrier = Arrived
standing_after (Trap cause) = Trapped cause
standing_after End = Ended
standing_after _ = Running
