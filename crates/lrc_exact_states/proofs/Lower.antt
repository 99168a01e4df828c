-- Runs that stand alike up to a cap stand alike up to a lower one.
use Rattle.std.proofs.Common.{ℕ, ◌≤◌, List, arith}
use Rattle.std.specs.Prelude.{Option, Some, None}
use Rattle.lrc_program.specs.declared.Program.{Program}
use Rattle.lrc_trace.specs.declared.act.Act.{Act}
use Rattle.lrc_exact.specs.Memory.{Rank}
use Rattle.lrc_exact.specs.Rule.{Shape, State}
use Rattle.lrc_exact_states.specs.Levels.{AreChangesAlike, AreLevels, Change, IsCapped, exact, much, IsWeightAlike, last_change, no_change, one_change, Levels, Table}
use Rattle.lrc_exact_states.specs.Alike.{IsMarkAlike, low, high, IsStateAlike}
use Rattle.lrc_exact_states.specs.Runs.{Base, here}
use Rattle.lrc_exact_states.proofs.By.{AreAlikeBy, AreRunsAlikeBy}

module _ (cap more : ℕ) (le : cap ≤ more) where
  capped_lower : {a b : ℕ} → IsCapped more a b → IsCapped cap a b
  capped_lower (exact e) = exact e
  capped_lower (much x y) = much (omega (arith, le, x)) (omega (arith, le, y))

  module _ (floor floor' : List ℕ) where
    weight_lower : {a b : ℕ} → IsWeightAlike more floor floor' a b → IsWeightAlike cap floor floor' a b
    weight_lower w = record { above = w.above; above' = w.above'; capped = capped_lower w.capped }

    changes_lower : (o o' : Option Change) → AreChangesAlike more floor floor' o o' → AreChangesAlike cap floor floor' o o'
    changes_lower None None no_change = no_change
    changes_lower (Some c) (Some c') (one_change e w) = one_change e (weight_lower w)
    changes_lower None (Some c') a = elim a [ ]
    changes_lower (Some c) None a = elim a [ ]

    mark_lower : (o o' : Option Rank) → IsMarkAlike more floor floor' o o' → IsMarkAlike cap floor floor' o o'
    mark_lower o o' (low a b) = low a b
    mark_lower (Some r) (Some r') (high e w) = high e (weight_lower w)

    levels_lower : (made made' : Table) (level : Levels) → AreLevels more floor floor' made made' level → AreLevels cap floor floor' made made' level
    levels_lower made made' level l = record {
      above = l.above;
      counted = λ q a a' x. capped_lower (l.counted q a a' x);
      order = l.order;
      order' = l.order';
      changes = λ q word a a' b b' x y lt.
          changes_lower (last_change (made q) word a b) (last_change (made' q) word a' b') (l.changes q word a a' b b' x y lt);
      rising = l.rising;
    }

    state_lower : (nodes : ℕ) (made made' : Table) (level : Levels) (s s' : State) → IsStateAlike nodes more floor floor' made made' level s s'
        → IsStateAlike nodes cap floor floor' made made' level s s'
    state_lower nodes made made' level s s' a = record {
      words = λ word. record {
        value = (a.words word).value;
        mark = mark_lower (s.words word).mark (s'.words word).mark (a.words word).mark;
      };
      before = a.before;
      knows = a.knows;
      marks = a.marks;
      marks' = a.marks';
    }

  pub runs_lower : (shape : Shape) → 1 ≤ cap → (base base' : Base) (run run' : List Act) (states states' : List State)
      → AreRunsAlikeBy shape more base base' run run' states states' → AreRunsAlikeBy shape cap base base' run run' states states'
  runs_lower shape some base base' run run' states states' r = record {
    some = some;
    wide = r.wide;
    wide' = r.wide';
    keeps = r.keeps;
    keeps' = r.keeps';
    synchronized = r.synchronized;
    made = r.made;
    made' = r.made';
    level = r.level;
    levels = levels_lower base.floor base'.floor r.made r.made' r.level r.levels;
    most = r.most;
    light = r.light;
    light' = r.light';
    nodes_are = λ q lt.
        state_lower base.floor base'.floor shape.nodes r.made r.made' r.level (here shape run states q) (here shape run' states' q) (r.nodes_are q lt);
    locks = r.locks;
    arrived = r.arrived;
  }

  pub alike_lower : (program : Program) (shape : Shape) → 1 ≤ cap → (base base' : Base) (run run' : List Act) (states states' : List State)
      → AreAlikeBy program shape more base base' run run' states states' → AreAlikeBy program shape cap base base' run run' states states'
  alike_lower program shape some base base' run run' states states' a = record {
    exact = a.exact;
    exact' = a.exact';
    text = a.text;
    alike = runs_lower shape some base base' run run' states states' a.alike;
  }
