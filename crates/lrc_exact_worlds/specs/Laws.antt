-- What runs of the protocol machine read, and what was made in them.
use Rattle.std.specs.Prelude.{◌≡◌, ℕ, ◌<◌, Some, List, Contains}
use Rattle.lrc_program.specs.declared.Program.{Program}
use Rattle.lrc_page.specs.Page.{words_of}
use Rattle.lrc_page.specs.Changes.{change_at}
use Rattle.lrc_exec.specs.Follows.{deeds_of, nodes_of_acts}
use Rattle.lrc_clock.specs.Cover.{ClosesAt}
use Rattle.lrc_store.specs.Store.{StoredRecord}
use Rattle.lrc_copies.specs.Stamps.{stamp_index}
use Rattle.lrc_protocol.specs.declared.event.Event.{Event}
use Rattle.lrc_protocol.specs.Node.{OptionsRecord}
use Rattle.lrc_protocol.specs.Run.{World, run_of}
use Rattle.lrc_reading_laws.specs.Acted.{AreOfActs}
use Rattle.lrc_reading_laws.specs.Known.{AreKnown}
use Rattle.lrc_reading_laws.specs.Written.{made_stamps, changes_on}
use Rattle.lrc_exact.specs.Rule.{State, ReadsExactly}
use Rattle.lrc_exact_laws.specs.Laws.{IsExactRun}
use Rattle.lrc_exact_laws.specs.Order.{acquirers, OneBeginsOther}
use Rattle.lrc_exact_reading.specs.Steady.{ReadsSteadily}
use Rattle.lrc_exact_machine.specs.Machine.{exact}
use Rattle.lrc_exact_worlds.specs.Made.{shape_in, AreExact}

-- In every run, whatever its barriers collect,
abbrev pub InEachRun : (Program → ℕ → OptionsRecord → World → Type 0) → Type 0
InEachRun Holds =
    (program : Program) (nodes : ℕ) (options : OptionsRecord) (events : List Event) (world : World) → run_of program nodes options events ≡ Some world
    → Holds program nodes options world

-- each read gives the exact memory's value.
abbrev pub ReadExactly : Type 0
ReadExactly = InEachRun (λ program nodes options world. ReadsExactly (shape_in nodes options) world.acts)

-- So reads are steady.
abbrev pub ReadSteadily : Type 0
ReadSteadily = InEachRun (λ program nodes options world. ReadsSteadily world.acts)

-- The run is one of the exact machine's,
abbrev pub AreExactRuns : Type 0
AreExactRuns = InEachRun (λ program nodes options world. IsExactRun program (shape_in nodes options) world.acts)

-- led by the order of its acts.
abbrev pub OrderFixesActs : Type 0
OrderFixesActs = InEachRun (λ program nodes options world. exact program (shape_in nodes options) (nodes_of_acts world.acts) ≡ Some world.acts)

-- Of two runs, let the nodes acquire each lock in the same order, as far as both go. Then each node makes the same acts in both, as far
-- as both go.
abbrev pub LocksAloneDecide : Type 0
LocksAloneDecide =
    (program : Program) (nodes : ℕ) (options : OptionsRecord) (events other_events : List Event) (world other : World)
    → run_of program nodes options events ≡ Some world → run_of program nodes options other_events ≡ Some other
    → ((l : ℕ) → OneBeginsOther (acquirers l world.acts) (acquirers l other.acts))
    → (node : ℕ) → OneBeginsOther (deeds_of node world.acts) (deeds_of node other.acts)

-- There is one list of intervals with which nodes and acts agree, and each of them did what the exact memory says of it.
abbrev pub WasExactlyMade : Type 0
WasExactlyMade = InEachRun (λ program nodes options world. (made : List StoredRecord) × (states : List State) × AreKnown nodes made world
    × AreOfActs options.size nodes made world × AreExact nodes options made world states)

-- So the acts fix the changes, races or not: two worlds with the same acts have the same changes of each interval that an act closed.
abbrev pub ActsFixWhatWasMade : Type 0
ActsFixWhatWasMade = (nodes : ℕ) (options : OptionsRecord) (world other : World) (made mades : List StoredRecord) (states other_states : List State)
    → AreExact nodes options made world states → AreExact nodes options mades other other_states → world.acts ≡ other.acts
    → (x y : StoredRecord) (j : ℕ) → Contains made x → Contains mades y → x.node ≡ y.node → stamp_index made_stamps x ≡ stamp_index made_stamps y
    → ClosesAt world.acts x.node (stamp_index made_stamps x) j
    → (page offset : ℕ) → offset < words_of options.size → change_at (changes_on page x) offset ≡ change_at (changes_on page y) offset
