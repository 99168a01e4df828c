-- A command line that makes a chart: its file as it was given, and the options that are others than they are without words.
use Rattle.std.specs.Prelude.{◌==◌, ℕ, Option, Some, None, List, [], ◌++◌, codes, decimal, if◌then◌else◌, option_map}
use Rattle.lrc_page.specs.declared.size.Size.{Size}
use Rattle.lrc_page.specs.declared.size.Size.TheVariants.{Words64, Words256}
use Rattle.lrc_envelope.specs.declared.picker.Picker.{Picker}
use Rattle.lrc_envelope.specs.declared.picker.Picker.TheVariants.{Oldest, Newest, Twice}
use Rattle.lrc_cli_args.specs.declared.choice.ChartedActs.{ChartedActs}
use Rattle.lrc_cli_args.specs.declared.choice.Charting.{Charting}
use Rattle.lrc_cli_args.specs.declared.choice.RunChoice.{RunChoice}
use Rattle.lrc_cli_args.specs.declared.choice.RunOptions.{RunOptions}
use Rattle.lrc_cli_args.specs.declared.choice.Way.{Way}
use Rattle.lrc_chart_title.specs.Word.{behind_text, front_text, value_text}
use Rattle.lrc_cli_args.specs.declared.choice.Way.TheVariants.{Events, Followed, Rounds, Random, Threads}
use Rattle.lrc_cli_args.specs.declared.choice.Then.{Then}
use Rattle.lrc_cli_args.specs.declared.choice.Then.TheVariants as thens

-- an option and its number, left out where the number is the one that it has without words
abbrev pub option_text : List ℕ → ℕ → ℕ → List ℕ
option_text option default number = if number == default then [] else option ++ decimal number

-- an option and its number, left out where there is none
abbrev pub some_option_text : List ℕ → Option ℕ → List ℕ
some_option_text option None = []
some_option_text option (Some number) = option ++ decimal number

abbrev pub page_size_text : Size → List ℕ
page_size_text Words64 = []
page_size_text Words256 = codes " --page 256"

-- the options that all runs of the nodes have in common
abbrev pub options_text : RunOptions → List ℕ
options_text options = option_text (codes " --nodes ") options.default_nodes.count options.nodes.count
    ++ option_text (codes " --steps ") 1000000 options.steps.count
    ++ option_text (codes " --collect ") 0 options.collect.count
    ++ page_size_text options.size

abbrev pub picker_text : Picker → List ℕ
picker_text Oldest = []
picker_text Newest = codes " --order newest"
picker_text Twice = codes " --order twice"

-- the option that says how a run goes on behind its events
abbrev pub then_text : Then → List ℕ
then_text (thens.Rounds Oldest) = codes " --then oldest"
then_text (thens.Rounds Newest) = codes " --then newest"
then_text (thens.Rounds Twice) = codes " --then twice"
then_text (thens.Random seed) = codes " --then random" ++ option_text (codes " --seed ") 0 seed

-- the options that say how a run goes on
abbrev pub way_text : Way → List ℕ
way_text (Events path) = value_text (codes " --events") path.now
way_text (Followed path next) = value_text (codes " --events") path.now ++ then_text next
way_text (Rounds picker) = picker_text picker
way_text (Random seed) = codes " --order random" ++ option_text (codes " --seed ") 0 seed
way_text (Threads picker) = picker_text picker ++ codes " --threads"

-- the options that say what of it is shown
abbrev pub charting_text : Charting → List ℕ
charting_text charting = some_option_text (codes " --from ") charting.from ++ some_option_text (codes " --to ") charting.to
    ++ (if charting.hides_quiet then codes " --hide quiet" else []) ++ (if charting.source then codes " --source" else [])

-- The words by which a chart is had, without those that change nothing. A chart for a terminal has the title of the document.
abbrev pub title_text : RunChoice → Charting → List ℕ
title_text run charting = codes "treadmarks chart" ++ front_text run.options.file.now ++ options_text run.options ++ way_text run.way
    ++ charting_text charting ++ behind_text run.options.file.now

-- the words by which a chart of acts from anywhere is had
abbrev pub title_text_of_acts : ChartedActs → Charting → List ℕ
title_text_of_acts acts charting =
    codes "treadmarks chart" ++ value_text (codes " --acts") acts.file.now ++ some_option_text (codes " --nodes ") (option_map (λ nodes. nodes.count) acts.nodes) ++ charting_text charting
