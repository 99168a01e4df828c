-- The commands and their options, as clap sees them.
use Rattle.std.specs.Prelude.{Bool, true, List, [], ◌∷◌, Some, codes, map}
use Rattle.std.specs.List.{list_any}
use Rattle.std.specs.Str.{bytes_eq}
use Rattle.clap.specs.Words.{App, Rule, Shape, Text, new_app, new_rule, with_rule, with_subcommand}
use Rattle.clap.specs.declared.builder.action.ArgAction.TheVariants.{SetTrue}
use Rattle.clap.specs.declared.builder.value_parser.ValueParser.TheVariants.{Unsigned}

-- FILE, which each command has to have
abbrev pub file : Rule
file = record (new_rule (codes "FILE")) { required = true }

-- an option that takes a value
abbrev pub option : Text → Rule
option name = record (new_rule name) { long = Some name; value_names = 1 }

-- one that has this value where the words give it none
abbrev pub defaulted : Text → Text → Rule
defaulted name value = record (option name) { defaults = value ∷ [] }

-- an option that takes a number of 64 bits
abbrev pub bare_number : Text → Rule
bare_number name = record (option name) { parser = Some (Unsigned 0 18446744073709551615) }

-- one that is this number where the words give it none
abbrev pub number_option : Text → Text → Rule
number_option name value = record (bare_number name) { defaults = value ∷ [] }

-- an option that takes no value: `true` where the words name it, else `false`
abbrev pub flag_option : Text → Rule
flag_option name = record (new_rule name) { long = Some name; action = Some SetTrue }

abbrev pub nodes : Rule
nodes = number_option (codes "nodes") (codes "1")

abbrev pub steps : Rule
steps = number_option (codes "steps") (codes "1000000")

abbrev pub collect : Rule
collect = number_option (codes "collect") (codes "0")

abbrev pub most : Rule
most = number_option (codes "most") (codes "1000000")

-- `order`, `page`, `as` and `memory` take one of few words, which are looked at once clap has read them
abbrev pub order : Rule
order = defaulted (codes "order") (codes "oldest")

abbrev pub page : Rule
page = defaulted (codes "page") (codes "64")

abbrev pub form : Rule
form = defaulted (codes "as") (codes "acts")

abbrev pub memory : Rule
memory = defaulted (codes "memory") (codes "flat")

abbrev pub check_command : App
check_command = with_rule (new_app (codes "check")) file

abbrev pub core_command : App
core_command = with_rule (new_app (codes "core")) file

abbrev pub plain_command : App
plain_command = with_rule (with_rule (with_rule (new_app (codes "plain")) file) nodes) steps

-- the options that all runs of the nodes have in common
abbrev pub with_counts : App → App
with_counts command = with_rule (with_rule (with_rule (with_rule (with_rule command nodes) steps) collect) order) page

abbrev pub with_run_options : App → App
with_run_options command = with_counts (with_rule command file)

abbrev pub run_command : App
run_command = with_run_options (new_app (codes "run"))

-- what those have beside it that may go on by events, or at random
abbrev pub with_ways : App → App
with_ways command = with_rule (with_rule (with_rule command (option (codes "events"))) (option (codes "then"))) (bare_number (codes "seed"))

abbrev pub with_way_options : App → App
with_way_options command = with_ways (with_run_options command)

abbrev pub sim_command : App
sim_command = with_way_options (new_app (codes "sim"))

-- and those that show something of a run in any way
abbrev pub with_showing_options : App → App
with_showing_options command = with_rule (with_way_options command) (flag_option (codes "threads"))

-- which part of a run is shown need not be said
abbrev pub with_part : App → App
with_part command = with_rule (with_rule command (bare_number (codes "from"))) (bare_number (codes "to"))

abbrev pub trace_command : App
trace_command = with_part (with_rule (with_rule (with_showing_options (new_app (codes "trace"))) form) (flag_option (codes "messages")))

abbrev pub step_command : App
step_command = with_part (with_showing_options (new_app (codes "step")))

abbrev pub explain_command : App
explain_command = with_showing_options (new_app (codes "explain"))

abbrev pub stats_command : App
stats_command = with_showing_options (new_app (codes "stats"))

-- neither the number of nodes nor a memory need be given
abbrev pub judge_command : App
judge_command = with_rule (with_rule (with_rule (with_rule (with_rule (with_rule (with_rule (new_app (codes "judge")) file) (bare_number (codes "nodes")))
    (flag_option (codes "pairs"))) (flag_option (codes "all"))) (option (codes "memory"))) page) collect

abbrev pub explore_command : App
explore_command = with_rule (with_rule (with_rule (with_rule (with_rule (with_rule (with_rule (with_rule (with_rule (with_rule (with_rule (with_rule (with_rule
    (new_app (codes "explore")) file) nodes) most) memory) (flag_option (codes "outcomes"))) (bare_number (codes "outcome"))) (bare_number (codes "tries")))
    (flag_option (codes "ignore-races"))) (flag_option (codes "ends"))) (option (codes "as"))) (option (codes "tell"))) page) collect

-- a FILE need not be given where there is a file of acts, and an act has to be
abbrev pub optional_file : Rule
optional_file = new_rule (codes "FILE")

abbrev pub act : Rule
act = record (bare_number (codes "act")) { required = true }

abbrev pub why_command : App
why_command = with_rule (with_rule (with_rule (with_ways (with_counts (with_rule (new_app (codes "why")) optional_file)))
    (option (codes "acts"))) act) (bare_number (codes "and"))

abbrev pub chart_command : App
chart_command = with_rule (with_rule (with_part (with_rule (with_rule (with_rule
    (with_ways (with_counts (with_rule (new_app (codes "chart")) optional_file))) (flag_option (codes "threads"))) (option (codes "acts")))
    (flag_option (codes "text")))) (option (codes "hide"))) (flag_option (codes "source"))

abbrev pub lint_command : App
lint_command = with_rule (new_app (codes "lint")) file

abbrev pub trace_form : Rule
trace_form = defaulted (codes "as") (codes "std")

-- an option that takes the numbers of two lines, which are looked at once clap has read them
abbrev pub line_pair : Text → Rule
line_pair name = record (new_rule name) { long = Some name; value_names = 2 }

abbrev pub races_command : App
races_command = with_rule (with_rule (with_rule (with_rule (with_rule (with_rule (with_rule (with_rule (with_rule (with_rule (new_app (codes "races")) file)
    trace_form) (flag_option (codes "group"))) (flag_option (codes "locations"))) (flag_option (codes "sure"))) (flag_option (codes "json")))
    (flag_option (codes "strict"))) (option (codes "score"))) (line_pair (codes "why"))) (line_pair (codes "witness"))

-- what help is wanted on need not be given
abbrev pub help_command : App
help_command = with_rule (new_app (codes "help")) (new_rule (codes "COMMAND"))

abbrev pub version_command : App
version_command = new_app (codes "version")

-- The words begin with no program's name, and name one of the commands; the program has a version.
abbrev pub treadmarks_shape : Shape
treadmarks_shape = record (new_app (codes "treadmarks")).top {
  has_version = true;
  no_binary_name = true;
  subcommand_required = true;
  disable_help_subcommand = true;
}

abbrev pub with_reports : App → App
with_reports command = with_subcommand (with_subcommand (with_subcommand (with_subcommand (with_subcommand command check_command.top) core_command.top)
    plain_command.top) sim_command.top) run_command.top

abbrev pub with_questions : App → App
with_questions command = with_subcommand (with_subcommand (with_subcommand (with_subcommand
    (with_subcommand (with_subcommand (with_subcommand command trace_command.top) step_command.top) explain_command.top) stats_command.top)
    chart_command.top) judge_command.top) explore_command.top

abbrev pub with_hints : App → App
with_hints command = with_subcommand (with_subcommand (with_subcommand command why_command.top) lint_command.top) races_command.top

abbrev pub with_topics : App → App
with_topics command = with_subcommand (with_subcommand command help_command.top) version_command.top

unfoldable pub treadmarks : App
treadmarks = with_topics (with_hints (with_questions (with_reports (record { top = treadmarks_shape; subs = [] }))))

-- what the commands are called
unfoldable pub command_names : List Text
command_names = map (λ command. command.name) treadmarks.subs

abbrev pub is_command : Text → Bool
is_command word = list_any (λ name. bytes_eq name word) command_names
