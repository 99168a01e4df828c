-- Rounds: in each, every node from 0 up makes its next act, where it can and has steps left for it.
use Rattle.std.specs.Prelude.{◌≡◌, ℕ, zero, suc, ◌-◌, Option, Some, None, List, [], ◌∷◌, ◌++◌, is_some, nat_le}
use Rattle.std.specs.Prelude.{if◌then◌else◌, option_and_then, replicate, slice_index, slice_set, unwrap_or}
use Rattle.std.specs.List.{range_with_len}
use Rattle.lrc_program.specs.declared.Program.{Program}
use Rattle.lrc_trace.specs.declared.act.Act.{Act}
use Rattle.lrc_exec.specs.Ask.{steps_of}
use Rattle.lrc_exec.specs.Plain.{Plain, plain_start, plain_step, plain}

-- the plain machine, and for each node the steps that it has left
pub record Paced : Type 0 where
  pub machine : Plain
  pub left : List ℕ

-- one turn of a node; none where it cannot step, or has too few steps left
abbrev pub turn : Paced → ℕ → Option Paced
turn paced node =
    option_and_then (λ step.
    if nat_le (steps_of step.0) (slice_index paced.left node)
    then Some (record { machine = step.1; left = slice_set paced.left node (slice_index paced.left node - steps_of step.0) })
    else None) (plain_step paced.machine node)

-- the turns of these nodes, one after another: those that make an act, and what is left after them
abbrev pub turns : Paced → List ℕ → List ℕ × Paced
turns paced [] = ([], paced)
turns paced (node ∷ nodes) =
    let after = turns (unwrap_or (turn paced node) paced) nodes in
    (if is_some (turn paced node) then node ∷ after.0 else after.0, after.1)

-- one round
abbrev pub round : ℕ → Paced → List ℕ × Paced
round nodes paced = turns paced (range_with_len 0 nodes)

-- the order that so many rounds make, and what is left after them
abbrev pub rounds : ℕ → Paced → ℕ → List ℕ × Paced
rounds nodes start zero = ([], start)
rounds nodes start (suc count) =
    let before = rounds nodes start count in
    let last = round nodes before.1 in
    (before.0 ++ last.0, last.1)

-- the beginning: each node has all its steps
abbrev pub paced_start : Program → ℕ → ℕ → Paced
paced_start program nodes steps = record { machine = plain_start program nodes; left = replicate nodes steps }

-- the acts of the rounds up to the first in which no node makes an act
pub record AreActsOfRounds (program : Program) (nodes steps : ℕ) (acts : List Act) : Type 0 where
  pub count : ℕ
  pub made : plain program nodes (rounds nodes (paced_start program nodes steps) count).0 ≡ Some acts
  pub over : (round nodes (rounds nodes (paced_start program nodes steps) count).1).0 ≡ []
