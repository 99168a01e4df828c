-- The run that a choice asks for, or why there is none.
use Rattle.std.specs.Prelude.{◌≡◌, ℕ, List, Option, None, Some, Ok, Err}
use Rattle.lrc_program.specs.declared.Program.{Program}
use Rattle.lrc_envelope.specs.declared.picker.Picker.{Picker}
use Rattle.lrc_post.specs.Mailbox.{MailboxRecord}
use Rattle.lrc_protocol.specs.declared.event.Event.{Event}
use Rattle.lrc_protocol.specs.Node.{OptionsRecord}
use Rattle.lrc_world.specs.Random.{WanderingWearsOut}
use Rattle.lrc_world.specs.Report.{IsWornBy}
use Rattle.lrc_world.specs.Rounds.{RoundsWearOut}
use Rattle.lrc_world.specs.Driven.{schedule_of}
use Rattle.lrc_world.specs.Runs.{AreFollowed, IsRunBy, IsRunIn, WearsOutBehind}
use Rattle.lrc_world.specs.Turned.{turned_of}
use Rattle.lrc_world.specs.declared.keep.Keep.{Keep}
use Rattle.lrc_world.specs.declared.lead.Lead.{Lead}
use Rattle.lrc_world.specs.declared.lead.Lead.TheVariants as leads
use Rattle.lrc_world.specs.declared.run.Order.TheVariants.{Random, Rounds}
use Rattle.lrc_world.specs.declared.run.Run.{Run}
use Rattle.lrc_world.specs.declared.turned.Turned.{Turned}
use Rattle.lrc_run.specs.Run.{IsThreadedRun}
use Rattle.lrc_run.specs.Halts.{IsHalt}
use Rattle.lrc_run.specs.declared.halt.Halt.{Halt}
use Rattle.lrc_run.specs.declared.halt.Halt.TheVariants as halts
use Rattle.lrc_events.specs.EventsText.{ReadsEvents}
use Rattle.lrc_events.specs.declared.events.EventsFault.TheVariants.{BadEvent}
use Rattle.lrc_cli_args.specs.declared.choice.RunOptions.{RunOptions}
use Rattle.lrc_cli_args.specs.declared.choice.Then.{Then}
use Rattle.lrc_cli_args.specs.declared.choice.Then.TheVariants as thens
use Rattle.lrc_cli_args.specs.declared.choice.Way.{Way}
use Rattle.lrc_cli_args.specs.declared.choice.Way.TheVariants as ways
use Rattle.lrc_cli_answer.specs.declared.fault.Fault.{Fault}
use Rattle.lrc_cli_answer.specs.declared.fault.Fault.TheVariants.{Events, Worn, Mismatch, NoMemory}

-- the options of a run: its messages are numbered from 0
abbrev pub options_of : RunOptions → OptionsRecord
options_of options = record { steps = options.steps.count; collect = options.collect.count; first = 0; size = options.size }

-- a run of a program, whichever its events are, with so much of the turns of its nodes
abbrev pub IsRunWith : Program → RunOptions → Keep → Run → Type 0
IsRunWith program options keep run = IsRunBy (λ events. Unit {0}) program options.nodes.count (options_of options) keep run

-- the events of a run that are not skipped, each with the node whose turn it makes
abbrev pub turns_in : Program → RunOptions → List Event → List Turned
turns_in program options events = turned_of program options.nodes.count (options_of options) events

-- what leads a run that goes on so behind its events
abbrev pub lead_of : Then → Lead
lead_of (thens.Rounds picker) = leads.Rounds picker
lead_of (thens.Random seed) = leads.Random seed

-- the run of the events that a text names, and of those that follow, led so
abbrev pub IsFollowedRun : Program → RunOptions → List ℕ → Then → Keep → Run → Type 0
IsFollowedRun program options events_text next keep run = (given : List Event) × ReadsEvents events_text (Ok given)
    × IsRunBy (AreFollowed (schedule_of options.nodes.count (lead_of next)) given program options.nodes.count (options_of options))
    program options.nodes.count (options_of options) keep run

-- The run that goes on in some way, with so much of the turns of its nodes: by the events that a text names, and what follows them where
-- something does, in rounds, or in a random order; or on threads, with all turns at least, and what the post between the nodes kept tells the same.
abbrev pub IsRunOfWay : Way → Program → RunOptions → Option (List ℕ) → Keep → Run → Type 0
IsRunOfWay (ways.Events file) program options None keep run = ⊥
IsRunOfWay (ways.Events file) program options (Some events_text) keep run =
    IsRunBy (λ events. ReadsEvents events_text (Ok events)) program options.nodes.count (options_of options) keep run
IsRunOfWay (ways.Followed file next) program options None keep run = ⊥
IsRunOfWay (ways.Followed file next) program options (Some events_text) keep run = IsFollowedRun program options events_text next keep run
IsRunOfWay (ways.Rounds order) program options events_text keep run =
    IsRunIn (Rounds order) program options.nodes.count (options_of options) keep run
IsRunOfWay (ways.Random seed) program options events_text keep run =
    IsRunIn (Random seed) program options.nodes.count (options_of options) keep run
IsRunOfWay (ways.Threads order) program options events_text keep run =
    (wires : List MailboxRecord) × IsThreadedRun program options.nodes.count (options_of options) order keep run wires

-- ---- faults

-- Why a run by the events of a text answers no report: a bad line of the text; or a number or a message becomes too large at one of
-- the events.
abbrev pub IsPlayedFault : Program → RunOptions → List ℕ → Fault → Type 0
IsPlayedFault program options events_text (Events line) = ReadsEvents events_text (Err (BadEvent line))
IsPlayedFault program options events_text Worn =
    (events : List Event) × ReadsEvents events_text (Ok events) × IsWornBy program options.nodes.count (options_of options) events
IsPlayedFault program options events_text NoMemory = Unit {0}
IsPlayedFault program options events_text _ = ⊥

-- the same of a run that goes on behind them
abbrev pub IsFollowedFault : Program → RunOptions → List ℕ → Then → Fault → Type 0
IsFollowedFault program options events_text next (Events line) = ReadsEvents events_text (Err (BadEvent line))
IsFollowedFault program options events_text next Worn = (given : List Event) × ReadsEvents events_text (Ok given)
    × WearsOutBehind (schedule_of options.nodes.count (lead_of next)) given program options.nodes.count (options_of options)
IsFollowedFault program options events_text next NoMemory = Unit {0}
IsFollowedFault program options events_text next _ = ⊥

-- why a run that is led answers none: it wears out so
abbrev pub IsLedFault : (WearsOut : Type 0) → Fault → Type 0
IsLedFault WearsOut Worn = WearsOut
IsLedFault WearsOut NoMemory = Unit {0}
IsLedFault WearsOut _ = ⊥

-- what is said of a run on threads that halted: that a number or a message became too large; that what its nodes left does not tell of one
-- run; or that memory ran out
abbrev pub halt_said : Halt → Fault
halt_said (halts.Worn worn) = Worn
halt_said (halts.Refused left) = NoMemory
halt_said (halts.Mismatch left) = Mismatch
halt_said halts.NoMemory = NoMemory

-- Why a run on threads answers none: it halted so. Of a node that wore out, its own turns and those of the others up to there tell so. Which
-- thread goes on when is not known.
abbrev pub IsThreadedFault : Program → RunOptions → Picker → Fault → Type 0
IsThreadedFault program options order fault =
    (halt : Halt) × IsHalt program options.nodes.count (options_of options) order halt × (fault ≡ halt_said halt)

abbrev pub IsRunFault : Way → Program → RunOptions → Option (List ℕ) → Fault → Type 0
IsRunFault (ways.Events file) program options None fault = ⊥
IsRunFault (ways.Events file) program options (Some events_text) fault = IsPlayedFault program options events_text fault
IsRunFault (ways.Followed file next) program options None fault = ⊥
IsRunFault (ways.Followed file next) program options (Some events_text) fault = IsFollowedFault program options events_text next fault
IsRunFault (ways.Rounds order) program options events_text fault =
    IsLedFault (RoundsWearOut program options.nodes.count (options_of options) order) fault
IsRunFault (ways.Random seed) program options events_text fault =
    IsLedFault (WanderingWearsOut program options.nodes.count (options_of options) seed) fault
IsRunFault (ways.Threads order) program options events_text fault = IsThreadedFault program options order fault
