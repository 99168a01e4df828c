-- Runs that stand alike by levels of any kind, told apart or not.
use Rattle.std.specs.Prelude.{◌≡◌, ℕ, ◌+◌, ◌<◌, ◌≤◌, List, length}
use Rattle.lrc_program.specs.declared.Program.{Program}
use Rattle.lrc_trace.specs.declared.act.Act.{Act}
use Rattle.lrc_time.specs.Time.{entry}
use Rattle.lrc_exact.specs.LocalRule.{arrived_state, released_state}
use Rattle.lrc_exact.specs.Rule.{Shape, State, KeepsExact}
use Rattle.lrc_exact_laws.specs.Laws.{IsExactRun}
use Rattle.lrc_exact_states.specs.Levels.{AreLevels, Levels, levels_told, Table}
use Rattle.lrc_exact_states.specs.Alike.{ArriveAlike, IsHandedAlike, IsStateAlike}
use Rattle.lrc_exact_states.specs.Runs.{AreLight, AreSynchronizedAlike, Base, here}
use Rattle.lrc_exact_states.specs.Goes.{AreAlike, IsTextAlike}

-- The states of two runs are alike, seen from these bases, by levels of any kind.
pub record AreRunsAlikeBy (shape : Shape) (cap : ℕ) (base base' : Base) (run run' : List Act) (states states' : List State) : Type 1 where
  pub some : 1 ≤ cap
  pub wide : length base.floor ≡ shape.nodes
  pub wide' : length base'.floor ≡ shape.nodes
  pub keeps : KeepsExact shape run states
  pub keeps' : KeepsExact shape run' states'
  pub synchronized : AreSynchronizedAlike shape.nodes base.first base'.first run run'
  pub made : Table
  pub made' : Table
  pub level : Levels
  pub levels : AreLevels cap base.floor base'.floor made made' level
  pub most : (q b b' : ℕ) → q < shape.nodes → level q b b'
      → (b ≤ entry (here shape run states q).knows.time q) × (b' ≤ entry (here shape run' states' q).knows.time q)
  pub light : AreLight shape run states made
  pub light' : AreLight shape run' states' made'
  pub nodes_are : (q : ℕ) → q < shape.nodes
      → IsStateAlike shape.nodes cap base.floor base'.floor made made' level (here shape run states q) (here shape run' states' q)
  pub locks : (l : ℕ)
      → IsHandedAlike shape.nodes made made' level base.floor base'.floor (released_state run states l (length run)) (released_state run' states' l (length run'))
  pub arrived : (k q : ℕ)
      → ArriveAlike shape.nodes made made' level (arrived_state run states (k + base.first) (length run) q)
      (arrived_state run' states' (k + base'.first) (length run') q)

pub record AreAlikeBy (program : Program) (shape : Shape) (cap : ℕ) (base base' : Base) (run run' : List Act) (states states' : List State) : Type 1 where
  pub exact : IsExactRun program shape run
  pub exact' : IsExactRun program shape run'
  pub text : IsTextAlike program shape.nodes run run'
  pub alike : AreRunsAlikeBy shape cap base base' run run' states states'

-- those that are told apart are of this kind
pub by_told : (program : Program) (shape : Shape) (cap : ℕ) (base base' : Base) (run run' : List Act) (states states' : List State)
    → AreAlike program shape cap base base' run run' states states' → AreAlikeBy program shape cap base base' run run' states states'
by_told program shape cap base base' run run' states states' a = record {
  exact = a.exact;
  exact' = a.exact';
  text = a.text;
  alike = record {
    some = a.alike.some;
    wide = a.alike.wide;
    wide' = a.alike.wide';
    keeps = a.alike.keeps;
    keeps' = a.alike.keeps';
    synchronized = a.alike.synchronized;
    made = a.alike.made;
    made' = a.alike.made';
    level = levels_told a.alike.told;
    levels = a.alike.levels;
    most = a.alike.most;
    light = a.alike.light;
    light' = a.alike.light';
    nodes_are = a.alike.nodes_are;
    locks = a.alike.locks;
    arrived = a.alike.arrived;
  };
}
