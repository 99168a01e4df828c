-- What the options of a command say, by the matches that clap made of its words.
use Rattle.std.specs.Prelude.{◌≡◌, ◌≢◌, ◌⊎◌, ℕ, Bool, false, true, List, [], ◌∷◌, Option, None, Some, IfSome, IsSome, IsSomeAnd, codes, if◌then◌else◌, map, not, option_map, is_some, unwrap_or, ◌&&◌, ◌||◌}
use Rattle.std.specs.Borrow.{Bor}
use Rattle.std.specs.Int.{IsOutOfRange}
use Rattle.std.specs.List.{list_any}
use Rattle.std.specs.Option.{is_none, option_map_or}
use Rattle.std.specs.Str.Parse.{digits_value, without_leading_plus}
use Rattle.clap.specs.Values.{bool_text}
use Rattle.clap.specs.Takes.{is_given}
use Rattle.clap.specs.Words.{IsUnsignedIn, Row, Text, all_of, first_of, one_of}
use Rattle.lrc_page.specs.declared.size.Size.{Size}
use Rattle.lrc_page.specs.declared.size.Size.TheVariants.{Words64, Words256}
use Rattle.lrc_envelope.specs.declared.picker.Picker.{Picker}
use Rattle.lrc_envelope.specs.declared.picker.Picker.TheVariants.{Oldest, Newest, Twice}
use Rattle.lrc_cli_args.specs.declared.choice.Asking.{Asking}
use Rattle.lrc_cli_args.specs.declared.choice.ChartedActs.{ChartedActs}
use Rattle.lrc_cli_args.specs.declared.choice.ExactOptions.{ExactOptions}
use Rattle.lrc_cli_args.specs.declared.choice.ForeignActs.{ForeignActs}
use Rattle.lrc_cli_args.specs.declared.choice.Form.{Form}
use Rattle.lrc_cli_args.specs.declared.choice.Form.TheVariants as forms
use Rattle.lrc_cli_args.specs.declared.choice.Grouping.{Grouping}
use Rattle.lrc_cli_args.specs.declared.choice.Grouping.TheVariants as groupings
use Rattle.lrc_cli_args.specs.declared.choice.LinePair.{LinePair}
use Rattle.lrc_cli_args.specs.declared.choice.Memory.{Memory}
use Rattle.lrc_cli_args.specs.declared.choice.Memory.TheVariants.{Flat, Lazy, Exact}
use Rattle.lrc_cli_args.specs.declared.choice.Part.{Part}
use Rattle.lrc_cli_args.specs.declared.choice.RunOptions.{RunOptions}
use Rattle.lrc_cli_args.specs.declared.choice.Tell.{Tell}
use Rattle.lrc_cli_args.specs.declared.choice.Tell.TheVariants as tells
use Rattle.lrc_cli_args.specs.declared.choice.TraceForm.{TraceForm}
use Rattle.lrc_cli_args.specs.declared.choice.TraceForm.TheVariants.{Std, Acts}
use Rattle.lrc_cli_args.specs.declared.choice.Then.{Then}
use Rattle.lrc_cli_args.specs.declared.choice.Then.TheVariants as thens
use Rattle.lrc_cli_args.specs.declared.choice.Way.{Way}
use Rattle.lrc_cli_args.specs.declared.choice.Way.TheVariants as ways
use Rattle.lrc_cli_args.specs.declared.misfit.Misfit.{Misfit}
use Rattle.lrc_cli_args.specs.declared.misfit.Misfit.TheVariants as unfit
use Rattle.lrc_cli_args.specs.declared.races.Question.{Question}
use Rattle.lrc_cli_args.specs.declared.races.Question.TheVariants as questions
use Rattle.lrc_cli_args.specs.declared.runs.Order.{Order}
use Rattle.lrc_cli_args.specs.declared.runs.Order.TheVariants.{Picked, Random}

-- ---- values

-- these matches have a value of the option or argument
abbrev pub HasValue : Text → List Row → Type 0
HasValue name rows = IsSome (first_of name rows)

-- the number that an option has among these matches; clap makes sure that there is one
abbrev pub option_number : Text → List Row → ℕ
option_number name rows = option_map_or (λ text. digits_value 10 (without_leading_plus text)) (first_of name rows) 0

-- the number that an option has that need not be there
abbrev pub some_number_in : Text → List Row → Option ℕ
some_number_in name rows = option_map (λ text. digits_value 10 (without_leading_plus text)) (first_of name rows)

abbrev pub nodes_in : List Row → ℕ
nodes_in = option_number (codes "nodes")

abbrev pub steps_in : List Row → ℕ
steps_in = option_number (codes "steps")

abbrev pub collect_in : List Row → ℕ
collect_in = option_number (codes "collect")

abbrev pub most_in : List Row → ℕ
most_in = option_number (codes "most")

-- the number of the outcome that is asked for, if one is
abbrev pub outcome_in : List Row → Option ℕ
outcome_in = some_number_in (codes "outcome")

-- how many runs are played at random, if any are
abbrev pub tries_in : List Row → Option ℕ
tries_in = some_number_in (codes "tries")

-- the values that an option is given, as texts
abbrev pub texts_of : Bor (List (Bor Text)) → List Text
texts_of texts = map (λ text. text.now) texts.now

-- the report that is to be judged, if `--score` is named
abbrev pub report_in : List Row → Option Text
report_in = first_of (codes "score")

-- the lines that `--why` is given, if it is named
abbrev pub reasons_in : List Row → Option (List Text)
reasons_in = all_of (codes "why")

-- the lines that `--witness` is given, if it is named
abbrev pub witness_in : List Row → Option (List Text)
witness_in = all_of (codes "witness")

-- the number that the words give an option: a default is none
abbrev pub given_number : Text → List Row → Option ℕ
given_number name rows = if is_given name rows then some_number_in name rows else None

-- whether the words name this flag
abbrev pub IsFlag : Text → Bool → List Row → Type 0
IsFlag name named rows = first_of name rows ≡ Some (bool_text named)

-- ---- what clap makes sure of

-- the option has a number of 64 bits, which clap reads as it is written
pub record IsNumberOption (name : Text) (rows : List Row) : Type 0 where
  pub number : IsSomeAnd (first_of name rows) (IsUnsignedIn 0 18446744073709551615)
  pub as_written : one_of name rows ≡ first_of name rows

-- where the option is there, it has such a number
pub record IsBareNumber (name : Text) (rows : List Row) : Type 0 where
  pub number : IfSome (first_of name rows) (IsUnsignedIn 0 18446744073709551615)
  pub as_written : one_of name rows ≡ first_of name rows

-- the flag is `true` or `false`
pub record IsFlagOption (name : Text) (rows : List Row) : Type 0 where
  pub said : IsSomeAnd (first_of name rows) (λ text. (text ≡ codes "true") ⊎ (text ≡ codes "false"))
  pub as_written : one_of name rows ≡ first_of name rows

-- in the matches of `plain`
pub record IsPlainTaken (rows : List Row) : Type 0 where
  pub file : HasValue (codes "FILE") rows
  pub nodes : IsNumberOption (codes "nodes") rows
  pub steps : IsNumberOption (codes "steps") rows

-- of `run`
pub record IsRunTaken (rows : List Row) : Type 0 where
  pub plain : IsPlainTaken rows
  pub collect : IsNumberOption (codes "collect") rows
  pub order : HasValue (codes "order") rows
  pub page : HasValue (codes "page") rows

-- of `sim`
pub record IsSimTaken (rows : List Row) : Type 0 where
  pub run : IsRunTaken rows
  pub seed : IsBareNumber (codes "seed") rows

-- of `explain` and `stats`
pub record IsShowingTaken (rows : List Row) : Type 0 where
  pub sim : IsSimTaken rows
  pub threads : IsFlagOption (codes "threads") rows

-- of a command that shows a part of a run
pub record IsPartTaken (rows : List Row) : Type 0 where
  pub from : IsBareNumber (codes "from") rows
  pub to : IsBareNumber (codes "to") rows

-- of `trace`
pub record IsTraceTaken (rows : List Row) : Type 0 where
  pub showing : IsShowingTaken rows
  pub form : HasValue (codes "as") rows
  pub messages : IsFlagOption (codes "messages") rows
  pub part : IsPartTaken rows

-- of `step`
pub record IsStepTaken (rows : List Row) : Type 0 where
  pub showing : IsShowingTaken rows
  pub part : IsPartTaken rows

-- of `chart`: a FILE need not be there
pub record IsChartTaken (rows : List Row) : Type 0 where
  pub nodes : IsNumberOption (codes "nodes") rows
  pub run : HasValue (codes "FILE") rows → IsShowingTaken rows
  pub text : IsFlagOption (codes "text") rows
  pub from : IsBareNumber (codes "from") rows
  pub to : IsBareNumber (codes "to") rows
  pub source : IsFlagOption (codes "source") rows

-- of `judge`
pub record IsJudgeTaken (rows : List Row) : Type 0 where
  pub file : HasValue (codes "FILE") rows
  pub nodes : IsBareNumber (codes "nodes") rows
  pub pairs : IsFlagOption (codes "pairs") rows
  pub all : IsFlagOption (codes "all") rows
  pub page : HasValue (codes "page") rows
  pub collect : IsNumberOption (codes "collect") rows

-- of `explore`
pub record IsExploreTaken (rows : List Row) : Type 0 where
  pub file : HasValue (codes "FILE") rows
  pub nodes : IsNumberOption (codes "nodes") rows
  pub most : IsNumberOption (codes "most") rows
  pub memory : HasValue (codes "memory") rows
  pub outcomes : IsFlagOption (codes "outcomes") rows
  pub outcome : IsBareNumber (codes "outcome") rows
  pub tries : IsBareNumber (codes "tries") rows
  pub races : IsFlagOption (codes "ignore-races") rows
  pub ends : IsFlagOption (codes "ends") rows
  pub page : HasValue (codes "page") rows
  pub collect : IsNumberOption (codes "collect") rows

-- of `races`
pub record IsRacesTaken (rows : List Row) : Type 0 where
  pub file : HasValue (codes "FILE") rows
  pub form : HasValue (codes "as") rows
  pub group : IsFlagOption (codes "group") rows
  pub locations : IsFlagOption (codes "locations") rows
  pub sure : IsFlagOption (codes "sure") rows
  pub json : IsFlagOption (codes "json") rows
  pub strict : IsFlagOption (codes "strict") rows

-- of `why`: a FILE need not be there
pub record IsWhyTaken (rows : List Row) : Type 0 where
  pub nodes : IsNumberOption (codes "nodes") rows
  pub page : HasValue (codes "page") rows
  pub act : IsNumberOption (codes "act") rows
  pub other : IsBareNumber (codes "and") rows
  pub run : HasValue (codes "FILE") rows → IsSimTaken rows

-- ---- words and what they name

-- the order of deliveries that a word names
abbrev pub IsPicker : Option Text → Picker → Type 0
IsPicker word Oldest = word ≡ Some (codes "oldest")
IsPicker word Newest = word ≡ Some (codes "newest")
IsPicker word Twice = word ≡ Some (codes "twice")

-- the order of a run that a word names: by deliveries, or at random
abbrev pub IsOrder : Option Text → Order → Type 0
IsOrder word (Picked picker) = IsPicker word picker
IsOrder word Random = word ≡ Some (codes "random")

-- the size of a page that a word names
abbrev pub IsPageSize : Option Text → Size → Type 0
IsPageSize word Words64 = word ≡ Some (codes "64")
IsPageSize word Words256 = word ≡ Some (codes "256")

-- the part is the whole run: neither of its ends is given
abbrev pub is_whole : Part → Bool
is_whole part = is_none part.from && is_none part.to

-- The form that a word names, where messages are asked for or not, and a part of the run. Messages are of acts alone, and a
-- part is of bytes and states alone.
abbrev pub IsForm : Option Text → Bool → Part → Form → Type 0
IsForm word messages part forms.Acts = (word ≡ Some (codes "acts")) × (messages ≡ false) × (is_whole part ≡ true)
IsForm word messages part forms.Messages = (word ≡ Some (codes "acts")) × (messages ≡ true) × (is_whole part ≡ true)
IsForm word messages part forms.Events = (word ≡ Some (codes "events")) × (messages ≡ false) × (is_whole part ≡ true)
IsForm word messages part forms.Json = (word ≡ Some (codes "json")) × (messages ≡ false) × (is_whole part ≡ true)
IsForm word messages part forms.Rapid = (word ≡ Some (codes "rapid")) × (messages ≡ false) × (is_whole part ≡ true)
IsForm word messages part (forms.States shown) = (word ≡ Some (codes "states")) × (messages ≡ false) × (shown ≡ part)
IsForm word messages part (forms.Bytes shown) = (word ≡ Some (codes "bytes")) × (messages ≡ false) × (shown ≡ part)

-- the form of a trace that a word names
abbrev pub IsTraceForm : Option Text → TraceForm → Type 0
IsTraceForm word Std = word ≡ Some (codes "std")
IsTraceForm word Acts = word ≡ Some (codes "acts")

-- the number of a line that a text writes
pub record IsLine (text : Text) (line : ℕ) : Type 0 where
  pub writes : IsUnsignedIn 1 18446744073709551615 text
  pub is : digits_value 10 (without_leading_plus text) ≡ line

-- the texts write the numbers of two lines, the lesser one first
pub record AreLines (texts : List Text) (lines : LinePair) : Type 0 where
  pub one : Text
  pub other : Text
  pub two : texts ≡ one ∷ other ∷ []
  pub first : IsLine one lines.first
  pub second : IsLine other lines.second

-- the memory without options that a word names
abbrev pub IsPlainMemory : Text → Memory → Type 0
IsPlainMemory word Flat = word ≡ codes "flat"
IsPlainMemory word Lazy = word ≡ codes "lazy"
IsPlainMemory word (Exact options) = ⊥

-- a word that names no such memory
abbrev pub IsNoPlainMemory : Text → Type 0
IsNoPlainMemory word = (word ≢ codes "flat") × (word ≢ codes "lazy")

-- whether runs at random may be asked for: with the list of the lazy or of the exact outcomes
abbrev pub takes_tries : Memory → (outcomes : Bool) → (outcome : Option ℕ) → Bool
takes_tries Flat outcomes outcome = false
takes_tries (Exact options) outcomes outcome = outcomes && is_none outcome
takes_tries Lazy outcomes outcome = outcomes && is_none outcome

-- whether a word says that rows of quiet acts are left out; without one they are not
abbrev pub IsHiding : Option Text → Bool → Type 0
IsHiding None hides = hides ≡ false
IsHiding (Some word) hides = (word ≡ codes "quiet") × (hides ≡ true)

-- How a run goes on in this order, with such a seed and such a file of events, on threads or not. A seed is of a random
-- order alone. Where a file of events is named, the order is not used. On threads there is neither a file of events nor a
-- random order.
abbrev pub IsWay : Order → Option ℕ → Option Text → Bool → Way → Type 0
IsWay order seed events threads (ways.Events path) =
    (events ≡ Some path.now) × (threads ≡ false) × (IsSome seed → order ≡ Random)
IsWay order seed events threads (ways.Rounds picker) =
    (order ≡ Picked picker) × (seed ≡ None) × (events ≡ None) × (threads ≡ false)
IsWay order seed events threads (ways.Random number) =
    (order ≡ Random) × (unwrap_or seed 0 ≡ number) × (events ≡ None) × (threads ≡ false)
IsWay order seed events threads (ways.Threads picker) =
    (order ≡ Picked picker) × (seed ≡ None) × (events ≡ None) × (threads ≡ true)
IsWay order seed events threads (ways.Followed path next) = ⊥

-- how a run goes on behind its events, by a word and a seed: a seed is of a random order alone
abbrev pub IsThen : Option Text → Option ℕ → Then → Type 0
IsThen word seed (thens.Rounds picker) = IsPicker word picker × (seed ≡ None)
IsThen word seed (thens.Random number) = (word ≡ Some (codes "random")) × (unwrap_or seed 0 ≡ number)

-- what keeps a word and a seed from saying how
abbrev pub HasThenMisfit : Option Text → Option ℕ → Misfit → Type 0
HasThenMisfit word seed misfit =
    ((misfit ≡ unfit.Then) × ((order : Order) → ¬ IsOrder word order))
    ⊎ ((misfit ≡ unfit.Seed) × IsSome seed × ((picker : Picker) × IsPicker word picker))

-- what keeps a run from going on so
abbrev pub HasWayMisfit : Order → Option ℕ → Option Text → Bool → Misfit → Type 0
HasWayMisfit order seed events threads misfit =
    ((misfit ≡ unfit.Seed) × IsSome seed × (order ≢ Random))
    ⊎ ((misfit ≡ unfit.Threads) × (threads ≡ true) × (IsSome events ⊎ (order ≡ Random)))

-- what keeps a word from naming a form of this part of the run
abbrev pub HasNameMisfit : Option Text → Part → Misfit → Type 0
HasNameMisfit word part misfit =
    ((misfit ≡ unfit.Form) × ((messages : Bool) (part : Part) (form : Form) → ¬ IsForm word messages part form))
    ⊎ ((misfit ≡ unfit.Part) × (is_whole part ≡ false) × (word ≢ Some (codes "states")) × (word ≢ Some (codes "bytes")))

-- the same, where messages are asked for or not
abbrev pub HasWordMisfit : Option Text → Bool → Part → Misfit → Type 0
HasWordMisfit word messages part misfit =
    HasNameMisfit word part misfit ⊎ ((misfit ≡ unfit.Messages) × (messages ≡ true) × (word ≢ Some (codes "acts")))

-- ---- the choice of the matches

-- the file and the numbers of a run stand in these matches
pub record AreOptions (path : Text) (node_count : ℕ) (given : Bool) (step_count : ℕ) (rows : List Row) : Type 0 where
  pub file : first_of (codes "FILE") rows ≡ Some path
  pub nodes : nodes_in rows ≡ node_count
  pub given_is : given ≡ is_given (codes "nodes") rows
  pub steps : steps_in rows ≡ step_count

-- what all runs of the nodes have in common is chosen by these matches
pub record AreRunOptions (run : RunOptions) (rows : List Row) : Type 0 where
  pub plain : AreOptions run.file.now run.nodes.count run.nodes_given run.steps.count rows
  pub default_nodes : run.default_nodes.count ≡ 1
  pub collect : collect_in rows ≡ run.collect.count
  pub size : IsPageSize (first_of (codes "page") rows) run.size

-- what these matches say of a run's order, its seed and its events
pub record AreAsked (rows : List Row) (order : Order) (seed : Option ℕ) (events : Option Text) : Type 0 where
  pub order_is : IsOrder (first_of (codes "order") rows) order
  pub seed_is : seed ≡ some_number_in (codes "seed") rows
  pub events_is : events ≡ first_of (codes "events") rows

-- how a run goes on that has nothing behind its events, on threads or not, is chosen by these matches
pub record IsBareWayIn (threads : Bool) (rows : List Row) (way : Way) : Type 0 where
  pub bare : first_of (codes "then") rows ≡ None
  pub order : Order
  pub seed : Option ℕ
  pub events : Option Text
  pub asked : AreAsked rows order seed events
  pub way_is : IsWay order seed events threads way

-- The events of a run, and how it goes on behind them, are chosen by these matches. No order is named beside them, and the run is not on
-- threads.
pub record IsFollowedIn (threads : Bool) (rows : List Row) (path : Text) (next : Then) : Type 0 where
  pub events : first_of (codes "events") rows ≡ Some path
  pub then_is : IsThen (first_of (codes "then") rows) (some_number_in (codes "seed") rows) next
  pub unordered : is_given (codes "order") rows ≡ false
  pub threadless : threads ≡ false

-- how a run goes on, on threads or not, is chosen by these matches
abbrev pub IsWayIn : Bool → List Row → Way → Type 0
IsWayIn threads rows (ways.Followed path next) = IsFollowedIn threads rows path.now next
IsWayIn threads rows (ways.Events path) = IsBareWayIn threads rows (ways.Events path)
IsWayIn threads rows (ways.Rounds picker) = IsBareWayIn threads rows (ways.Rounds picker)
IsWayIn threads rows (ways.Random number) = IsBareWayIn threads rows (ways.Random number)
IsWayIn threads rows (ways.Threads picker) = IsBareWayIn threads rows (ways.Threads picker)

-- the same on threads, where the command has neither events nor a seed
abbrev pub IsThreadsWayIn : List Row → Way → Type 0
IsThreadsWayIn rows (ways.Events path) = ⊥
IsThreadsWayIn rows (ways.Followed path next) = ⊥
IsThreadsWayIn rows (ways.Rounds picker) = ⊥
IsThreadsWayIn rows (ways.Random number) = ⊥
IsThreadsWayIn rows (ways.Threads picker) = IsPicker (first_of (codes "order") rows) picker

-- which part of a run is shown is chosen by these matches
pub record IsPart (rows : List Row) (part : Part) : Type 0 where
  pub from : some_number_in (codes "from") rows ≡ part.from
  pub to : some_number_in (codes "to") rows ≡ part.to

-- the form of a trace is chosen by these matches
pub record IsFormIn (rows : List Row) (form : Form) : Type 0 where
  pub messages : Bool
  pub part : Part
  pub asked : IsFlag (codes "messages") messages rows
  pub part_is : IsPart rows part
  pub named : IsForm (first_of (codes "as") rows) messages part form

-- Of which acts it is asked: the second is another than the first.
pub record IsAsking (rows : List Row) (asking : Asking) : Type 0 where
  pub act : option_number (codes "act") rows ≡ asking.act
  pub other : some_number_in (codes "and") rows ≡ asking.other
  pub differ : asking.other ≢ Some asking.act

-- how the races of a trace are put together is chosen by these matches
abbrev pub IsGrouping : List Row → Grouping → Type 0
IsGrouping rows groupings.Each = IsFlag (codes "group") false rows × IsFlag (codes "locations") false rows
IsGrouping rows groupings.Groups = IsFlag (codes "group") true rows × IsFlag (codes "locations") false rows
IsGrouping rows groupings.Locations = IsFlag (codes "group") false rows × IsFlag (codes "locations") true rows

-- One question among these options: a report, reasons or a witness are asked for alone, and neither beside groups nor beside pairs of locations.
abbrev pub IsOneOf : Grouping → (report : Option Text) → (reasons witness : Option (List Text)) → Question → Type 0
IsOneOf grouping report reasons witness (questions.Told told) = (grouping ≡ told) × (report ≡ None) × (reasons ≡ None) × (witness ≡ None)
IsOneOf grouping report reasons witness (questions.Scored path) =
    (grouping ≡ groupings.Each) × (report ≡ Some path.now) × (reasons ≡ None) × (witness ≡ None)
IsOneOf grouping report reasons witness (questions.Reasoned texts) =
    (grouping ≡ groupings.Each) × (report ≡ None) × (reasons ≡ Some (texts_of texts)) × (witness ≡ None)
IsOneOf grouping report reasons witness (questions.Witnessed texts) =
    (grouping ≡ groupings.Each) × (report ≡ None) × (reasons ≡ None) × (witness ≡ Some (texts_of texts))

-- what these matches ask of a trace
pub record IsQuestion (rows : List Row) (question : Question) : Type 0 where
  pub grouping : Grouping
  pub grouped : IsGrouping rows grouping
  pub one : IsOneOf grouping (report_in rows) (reasons_in rows) (witness_in rows) question

-- The order of which events are shown that a word names: the first where there is no word.
abbrev pub IsTell : Option Text → Tell → Type 0
IsTell word tells.First = word ≡ None
IsTell word tells.Stuck = word ≡ Some (codes "stuck")
IsTell word tells.Trap = word ≡ Some (codes "trap")
IsTell word tells.End = word ≡ Some (codes "end")

-- events are of one order of the flat memory, or of one outcome of the exact memory: none are shown of a list of outcomes
abbrev pub takes_events : Memory → (outcomes : Bool) → (outcome : Option ℕ) → Bool
takes_events Flat outcomes outcome = not outcomes || is_some outcome
takes_events Lazy outcomes outcome = false
takes_events (Exact options) outcomes outcome = is_some outcome

-- of an outcome there is one order, and an order that can no longer end is looked for only where ends are asked for
abbrev pub takes_tell : Tell → (outcome : Option ℕ) → (ends : Bool) → Bool
takes_tell tells.First outcome ends = true
takes_tell tells.Stuck outcome ends = is_none outcome
takes_tell tells.Trap outcome ends = is_none outcome
takes_tell tells.End outcome ends = ends && is_none outcome

-- the order whose events are shown is chosen by these matches, or no events are
abbrev pub AreEventsChosen : Memory → (outcomes : Bool) → (outcome : Option ℕ) → (ends : Bool) → List Row → Option Tell → Type 0
AreEventsChosen memory outcomes outcome ends rows None = (first_of (codes "as") rows ≡ None) × (first_of (codes "tell") rows ≡ None)
AreEventsChosen memory outcomes outcome ends rows (Some tell) = (first_of (codes "as") rows ≡ Some (codes "events"))
    × IsTell (first_of (codes "tell") rows) tell × (takes_events memory outcomes outcome ≡ true) × (takes_tell tell outcome ends ≡ true)

-- outcomes are asked for, or a memory is named: so races are not ignored, and it is not asked for ends
abbrev pub asks_outcomes : (outcomes : Bool) → (outcome : Option ℕ) → List Row → Bool
asks_outcomes outcomes outcome rows = outcomes || is_some outcome || is_given (codes "memory") rows

-- the words give an option that only a run of the nodes has
abbrev pub has_run_option : List Row → Bool
has_run_option rows = list_any (λ name. is_given name rows)
    (codes "steps" ∷ codes "collect" ∷ codes "order" ∷ codes "events" ∷ codes "then" ∷ codes "seed" ∷ [])

-- the words give an option that only the exact memory has
abbrev pub names_exact_option : List Row → Bool
names_exact_option rows = list_any (λ name. is_given name rows) (codes "page" ∷ codes "collect" ∷ [])

-- the exact memory is chosen by these matches, or none is
abbrev pub IsExactChosen : List Row → Option ExactOptions → Type 0
IsExactChosen rows None = (first_of (codes "memory") rows ≡ None) × (names_exact_option rows ≡ false)
IsExactChosen rows (Some exact) = (first_of (codes "memory") rows ≡ Some (codes "exact"))
    × IsPageSize (first_of (codes "page") rows) exact.size × (collect_in rows ≡ exact.collect.count)

-- the memory whose runs are searched is chosen by these matches
abbrev pub IsMemory : List Row → Memory → Type 0
IsMemory rows Flat = (first_of (codes "memory") rows ≡ Some (codes "flat")) × (names_exact_option rows ≡ false)
IsMemory rows Lazy = (first_of (codes "memory") rows ≡ Some (codes "lazy")) × (names_exact_option rows ≡ false)
IsMemory rows (Exact options) = IsExactChosen rows (Some options)

-- acts from anywhere are chosen by these matches
pub record AreForeignActs (rows : List Row) (acts : ForeignActs) : Type 0 where
  pub file : first_of (codes "acts") rows ≡ Some acts.file.now
  pub nodes : given_number (codes "nodes") rows ≡ option_map (λ nodes. nodes.count) acts.nodes
  pub size : IsPageSize (first_of (codes "page") rows) acts.size
  pub alone : has_run_option rows ≡ false

-- the words give an option that only a chart of a run has
abbrev pub names_run_option : List Row → Bool
names_run_option rows = list_any (λ name. is_given name rows)
    (codes "steps" ∷ codes "collect" ∷ codes "order" ∷ codes "page" ∷ codes "events" ∷ codes "then" ∷ codes "seed" ∷ codes "threads" ∷ codes "source" ∷ [])

-- the acts from anywhere that are charted are chosen by these matches
pub record AreChartedActs (rows : List Row) (acts : ChartedActs) : Type 0 where
  pub file : first_of (codes "acts") rows ≡ Some acts.file.now
  pub nodes : given_number (codes "nodes") rows ≡ option_map (λ nodes. nodes.count) acts.nodes
  pub alone : names_run_option rows ≡ false

-- ---- what does not fit in the matches

-- the number of nodes is not 1 to 16, or that of steps not 1 to 1,000,000
abbrev pub HasBadCount : List Row → Type 0
HasBadCount rows = IsOutOfRange 1 16 (nodes_in rows) ⊎ IsOutOfRange 1 1000000 (steps_in rows)

-- a number of a run is not in its range
abbrev pub HasBadNumber : List Row → Type 0
HasBadNumber rows = HasBadCount rows ⊎ IsOutOfRange 0 1000000 (collect_in rows)

-- no size has the word of the option
abbrev pub HasBadPage : List Row → Type 0
HasBadPage rows = (size : Size) → ¬ IsPageSize (first_of (codes "page") rows) size

-- what does not fit in the options that all runs have: words are looked at before numbers
abbrev pub HasOptionsMisfit : List Row → Misfit → Type 0
HasOptionsMisfit rows misfit = ((misfit ≡ unfit.Page) × HasBadPage rows)
    ⊎ ((misfit ≡ unfit.Number) × ((size : Size) × IsPageSize (first_of (codes "page") rows) size) × HasBadNumber rows)

-- what does not fit in how a run goes on behind its events: the word of it, or the seed; then that there are no events, that an order is
-- named, or that the run is on threads
abbrev pub HasFollowedMisfit : Bool → List Row → Misfit → Type 0
HasFollowedMisfit threads rows misfit =
    HasThenMisfit (first_of (codes "then") rows) (some_number_in (codes "seed") rows) misfit
    ⊎ ((misfit ≡ unfit.Followed) × ((first_of (codes "events") rows ≡ None) ⊎ (is_given (codes "order") rows ≡ true) ⊎ (threads ≡ true)))

-- what does not fit in how a run goes on that has nothing behind its events
abbrev pub HasBareWayMisfit : Bool → List Row → Misfit → Type 0
HasBareWayMisfit threads rows misfit =
    ((misfit ≡ unfit.Order) × ((order : Order) → ¬ IsOrder (first_of (codes "order") rows) order))
    ⊎ ((order : Order) × (seed : Option ℕ) × (events : Option Text) × AreAsked rows order seed events
    × HasWayMisfit order seed events threads misfit)

-- what does not fit in how a run goes on
abbrev pub HasWayMisfitIn : Bool → List Row → Misfit → Type 0
HasWayMisfitIn threads rows misfit = ((first_of (codes "then") rows ≡ None) × HasBareWayMisfit threads rows misfit)
    ⊎ (IsSome (first_of (codes "then") rows) × HasFollowedMisfit threads rows misfit)

-- what does not fit in the form of a trace
abbrev pub HasFormMisfitIn : List Row → Misfit → Type 0
HasFormMisfitIn rows misfit =
    (messages : Bool) × (part : Part) × IsFlag (codes "messages") messages rows × IsPart rows part
    × HasWordMisfit (first_of (codes "as") rows) messages part misfit

-- a number of `explore` is not in its range
abbrev pub HasBadExploreNumber : List Row → Type 0
HasBadExploreNumber rows = IsOutOfRange 1 16 (nodes_in rows) ⊎ IsOutOfRange 1 100000000 (most_in rows) ⊎ (outcome_in rows ≡ Some 0)
    ⊎ IsSomeAnd (tries_in rows) (IsOutOfRange 1 1000000)

-- of events: an order of theirs is named and they are not asked for; then the word that asks for them; then that they may not be asked for;
-- then the word of the order; then that it may not be that one
abbrev pub HasEventsMisfit : Memory → (outcomes : Bool) → (outcome : Option ℕ) → (ends : Bool) → List Row → Misfit → Type 0
HasEventsMisfit memory outcomes outcome ends rows misfit =
    ((misfit ≡ unfit.Tell) × (first_of (codes "as") rows ≡ None) × IsSome (first_of (codes "tell") rows))
    ⊎ ((misfit ≡ unfit.ExploreForm) × IsSomeAnd (first_of (codes "as") rows) (λ word. word ≢ codes "events"))
    ⊎ ((misfit ≡ unfit.Events) × (first_of (codes "as") rows ≡ Some (codes "events")) × (takes_events memory outcomes outcome ≡ false))
    ⊎ ((misfit ≡ unfit.ToldOrder) × (first_of (codes "as") rows ≡ Some (codes "events")) × (takes_events memory outcomes outcome ≡ true)
    × ((tell : Tell) → ¬ IsTell (first_of (codes "tell") rows) tell))
    ⊎ ((misfit ≡ unfit.Tell) × (first_of (codes "as") rows ≡ Some (codes "events")) × (takes_events memory outcomes outcome ≡ true)
    × ((tell : Tell) × IsTell (first_of (codes "tell") rows) tell × (takes_tell tell outcome ends ≡ false)))

-- of the exact memory: another one is named, or an option of it is given without it; then the size of its pages; then the number
abbrev pub HasExactMisfit : List Row → Misfit → Type 0
HasExactMisfit rows misfit =
    ((misfit ≡ unfit.ExactMemory) × IsSomeAnd (first_of (codes "memory") rows) (λ word. word ≢ codes "exact"))
    ⊎ ((misfit ≡ unfit.ExactOption) × (first_of (codes "memory") rows ≡ None) × (names_exact_option rows ≡ true))
    ⊎ ((misfit ≡ unfit.Page) × (first_of (codes "memory") rows ≡ Some (codes "exact")) × HasBadPage rows)
    ⊎ ((misfit ≡ unfit.Number) × (first_of (codes "memory") rows ≡ Some (codes "exact"))
    × ((size : Size) × IsPageSize (first_of (codes "page") rows) size) × IsOutOfRange 0 1000000 (collect_in rows))

-- Of the memory whose runs are searched: the word names none; or an option of the exact one is given to another; then the size of its pages;
-- then the number.
abbrev pub HasMemoryMisfit : List Row → Misfit → Type 0
HasMemoryMisfit rows misfit =
    ((misfit ≡ unfit.Memory) × IsSomeAnd (first_of (codes "memory") rows) (λ word. IsNoPlainMemory word × (word ≢ codes "exact")))
    ⊎ ((misfit ≡ unfit.ExactOption) × IsSomeAnd (first_of (codes "memory") rows) (λ word. (memory : Memory) × IsPlainMemory word memory)
    × (names_exact_option rows ≡ true))
    ⊎ ((misfit ≡ unfit.Page) × (first_of (codes "memory") rows ≡ Some (codes "exact")) × HasBadPage rows)
    ⊎ ((misfit ≡ unfit.Number) × (first_of (codes "memory") rows ≡ Some (codes "exact"))
    × ((size : Size) × IsPageSize (first_of (codes "page") rows) size) × IsOutOfRange 0 1000000 (collect_in rows))

-- Beside what is asked of a trace: a report that is to be judged stands with no objects, and is not standard input where the trace is; the
-- order of two events and a sure race stand neither with sure races nor with objects, and a trace that may be read twice is not standard
-- input; then what are no two lines.
abbrev pub HasMisfitBeside : List Row → Question → Misfit → Type 0
HasMisfitBeside rows (questions.Told grouping) misfit = ⊥
HasMisfitBeside rows (questions.Scored report) misfit = (misfit ≡ unfit.Score)
    × (IsFlag (codes "json") true rows ⊎ ((first_of (codes "FILE") rows ≡ Some (codes "-")) × (report.now ≡ codes "-")))
HasMisfitBeside rows (questions.Reasoned texts) misfit = ((misfit ≡ unfit.Reasons) × (IsFlag (codes "sure") true rows ⊎ IsFlag (codes "json") true rows))
    ⊎ ((misfit ≡ unfit.ReasonLines) × IsFlag (codes "sure") false rows × IsFlag (codes "json") false rows
    × ((lines : LinePair) → ¬ AreLines (texts_of texts) lines))
HasMisfitBeside rows (questions.Witnessed texts) misfit = ((misfit ≡ unfit.Witness)
    × (IsFlag (codes "sure") true rows ⊎ IsFlag (codes "json") true rows ⊎ (first_of (codes "FILE") rows ≡ Some (codes "-"))))
    ⊎ ((misfit ≡ unfit.WitnessLines) × IsFlag (codes "sure") false rows × IsFlag (codes "json") false rows × (first_of (codes "FILE") rows ≢ Some (codes "-"))
    × ((lines : LinePair) → ¬ AreLines (texts_of texts) lines))

-- of what is asked of a trace: more than one thing is; then what does not stand beside it
abbrev pub HasQuestionMisfit : List Row → Misfit → Type 0
HasQuestionMisfit rows misfit = ((misfit ≡ unfit.Questions) × ((question : Question) → ¬ IsQuestion rows question))
    ⊎ ((question : Question) × IsQuestion rows question × HasMisfitBeside rows question misfit)

-- of `races`: no form has the word of the option; then what does not fit in what is asked
abbrev pub HasRacesMisfit : List Row → Misfit → Type 0
HasRacesMisfit rows misfit = ((misfit ≡ unfit.TraceForm) × ((form : TraceForm) → ¬ IsTraceForm (first_of (codes "as") rows) form))
    ⊎ ((form : TraceForm) × IsTraceForm (first_of (codes "as") rows) form × HasQuestionMisfit rows misfit)

-- of acts from anywhere: words are looked at before numbers
abbrev pub HasForeignMisfit : List Row → Misfit → Type 0
HasForeignMisfit rows misfit = ((misfit ≡ unfit.RunOption) × (has_run_option rows ≡ true))
    ⊎ ((misfit ≡ unfit.Page) × HasBadPage rows)
    ⊎ ((misfit ≡ unfit.Number) × (has_run_option rows ≡ false) × ((size : Size) × IsPageSize (first_of (codes "page") rows) size)
    × IsSomeAnd (given_number (codes "nodes") rows) (IsOutOfRange 1 16))

-- of acts from anywhere that are charted
abbrev pub HasChartedActsMisfit : List Row → Misfit → Type 0
HasChartedActsMisfit rows misfit = ((misfit ≡ unfit.ChartRunOption) × (names_run_option rows ≡ true))
    ⊎ ((misfit ≡ unfit.Number) × (names_run_option rows ≡ false) × IsSomeAnd (given_number (codes "nodes") rows) (IsOutOfRange 1 16))
