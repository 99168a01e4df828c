-- The exact machine: the plain machine, in which each node sees what the exact memory has for it in place of one flat memory.
use Rattle.std.specs.Prelude.{ℕ, Option, Some, List, [], ◌∷◌, ◌++◌, length, map, option_map, option_and_then}
use Rattle.std.specs.List.{range_with_len}
use Rattle.lrc_program.specs.declared.Program.{Program}
use Rattle.lrc_trace.specs.declared.act.Act.{Act}
use Rattle.lrc_trace.specs.declared.act.Deed.{Deed}
use Rattle.lrc_trace.specs.Run.{act_of}
use Rattle.lrc_exec.specs.Plain.{Plain, plain_start, plain_step}
use Rattle.lrc_exact.specs.LocalRule.{state_after}
use Rattle.lrc_exact.specs.Rule.{Shape, State, exact_rule, exact_value}

-- the machine between two acts: locks, barriers and threads as the plain machine has them, the acts so far, and their states
pub record Exact : Type 0 where
  pub machine : Plain
  pub acts : List Act
  pub states : List State

abbrev pub exact_start : Program → ℕ → Exact
exact_start program nodes = record { machine = plain_start program nodes; acts = []; states = [] }

-- what the exact memory has now for a node, word by word
abbrev pub memory_of : Shape → Exact → ℕ → List ℕ
memory_of shape now node =
    map (λ word. exact_value shape now.acts now.states node (length now.acts) word) (range_with_len 0 (length now.machine.memory))

-- what a node sees: the machine with this memory
abbrev pub seen_by : Shape → Exact → ℕ → Plain
seen_by shape now node = record (now.machine) { memory = memory_of shape now node }

-- one act more, which leaves locks, barriers and threads so
abbrev pub with_act : Shape → Exact → ℕ → Deed → Plain → Exact
with_act shape now node deed after =
    record {
      machine = after;
      acts = now.acts ++ act_of node deed ∷ [];
      states = now.states ++ state_after (exact_rule shape) now.acts now.states (length now.acts) node deed ∷ [];
    }

-- one step of a node: that of the plain machine on what the node sees; none where it cannot step
abbrev pub exact_step : Shape → Exact → ℕ → Option Exact
exact_step shape now node = option_map (λ step. with_act shape now node step.0 step.1) (plain_step (seen_by shape now node) node)

-- the machine after one step for each entry of the order; none where an entry is no node or a node that cannot step
abbrev pub exact_from : Shape → Exact → List ℕ → Option Exact
exact_from shape now [] = Some now
exact_from shape now (node ∷ order) = option_and_then (λ next. exact_from shape next order) (exact_step shape now node)

-- the acts of a program on the nodes of the shape, in this order
abbrev pub exact : Program → Shape → List ℕ → Option (List Act)
exact program shape order = option_map (λ last. last.acts) (exact_from shape (exact_start program shape.nodes) order)
