-- The files that a choice names, and whether it starts threads.
use Rattle.std.specs.Prelude.{ℕ, Bool, false, true, List, Option, None, Some, is_some}
use Rattle.lrc_cli_args.specs.declared.choice.Choice.{Choice}
use Rattle.lrc_cli_args.specs.declared.choice.Choice.TheVariants.{Check, Core, Plain, Show, Judge, Explore, Lint, WhyActs, ChartActs}
use Rattle.lrc_cli_args.specs.declared.choice.Way.{Way}
use Rattle.lrc_cli_args.specs.declared.choice.Way.TheVariants.{Events, Followed, Rounds, Random, Threads}

-- the file of the text: of acts for `judge`, `why --acts` and `chart --acts`, and else of a program
abbrev pub file_of : Choice → List ℕ
file_of (Check file) = file.now
file_of (Core file) = file.now
file_of (Plain run) = run.file.now
file_of (Show run shape) = run.options.file.now
file_of (Judge judging) = judging.file.now
file_of (Explore exploring) = exploring.file.now
file_of (Lint file) = file.now
file_of (WhyActs acts asking) = acts.file.now
file_of (ChartActs acts charting) = acts.file.now

-- the choice is about acts from anywhere, and its file has a text of acts
abbrev pub reads_acts : Choice → Bool
reads_acts (Check file) = false
reads_acts (Core file) = false
reads_acts (Plain run) = false
reads_acts (Show run shape) = false
reads_acts (Judge judging) = true
reads_acts (Explore exploring) = false
reads_acts (Lint file) = false
reads_acts (WhyActs acts asking) = true
reads_acts (ChartActs acts charting) = true

-- the file of the events by which a run goes on
abbrev pub events_along : Way → Option (List ℕ)
events_along (Events path) = Some path.now
events_along (Followed path next) = Some path.now
events_along (Rounds order) = None
events_along (Random seed) = None
events_along (Threads order) = None

-- the file of the events, where the choice names one
abbrev pub events_of : Choice → Option (List ℕ)
events_of (Check file) = None
events_of (Core file) = None
events_of (Plain run) = None
events_of (Show run shape) = events_along run.way
events_of (Judge judging) = None
events_of (Explore exploring) = None
events_of (Lint file) = None
events_of (WhyActs acts asking) = None
events_of (ChartActs acts charting) = None

abbrev pub names_events : Choice → Bool
names_events choice = is_some (events_of choice)

abbrev pub is_on_threads : Way → Bool
is_on_threads (Events path) = false
is_on_threads (Followed path next) = false
is_on_threads (Rounds order) = false
is_on_threads (Random seed) = false
is_on_threads (Threads order) = true

-- the choice is a run whose nodes are on threads of their own
abbrev pub starts_threads : Choice → Bool
starts_threads (Check file) = false
starts_threads (Core file) = false
starts_threads (Plain run) = false
starts_threads (Show run shape) = is_on_threads run.way
starts_threads (Judge judging) = false
starts_threads (Explore exploring) = false
starts_threads (Lint file) = false
starts_threads (WhyActs acts asking) = false
starts_threads (ChartActs acts charting) = false
