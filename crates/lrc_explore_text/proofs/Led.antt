-- The acts of an order of the plain machine.
use Rattle.std.proofs.Common.{◌≡◌, ℕ, suc, ◌+◌, ◌<◌, List, [], ◌∷◌, ◌++◌, length, refl, sym, subst, ◌∙◌, ap, arith}
use Rattle.std.specs.Prelude.{All, Some, option_map}
use Rattle.std.proofs.lemmas.Option.{same_Some}
use Rattle.lrc_program.specs.declared.Program.{Program}
use Rattle.lrc_trace.specs.declared.act.Act.{Act}
use Rattle.lrc_judge.specs.declared.TheConstants.{NODES}
use Rattle.lrc_exec.specs.Plain.{Plain, plain}
use Rattle.lrc_consistency_laws.proofs.Plainly.{facts}
use Rattle.lrc_lines.specs.Walks.{lines_behind}
use Rattle.lrc_orders.specs.Stuck.{GetsStuck}
use Rattle.lrc_orders.specs.Traps.{NodeTraps}
use Rattle.lrc_orders.specs.Verdict.{EndsInRace}
use Rattle.lrc_trace.specs.Conflict.{Races}
use Rattle.lrc_exec.specs.Nodes.{AreNodes}

-- they are of nodes that there can be
pub in_range : (program : Program) (nodes : ℕ) (order : List ℕ) (run : List Act) → AreNodes nodes → plain program nodes order ≡ Some run
    → All (λ act. act.node < NODES) run
in_range program nodes order run few e k d lt =
    let below = (facts program nodes order run e).follows.in_range k d lt in
    let most = few.1 in
    omega (arith, below, most)

-- an order that gets stuck is one of the plain machine
pub plain_stuck : (program : Program) (nodes : ℕ) (order : List ℕ) (gets : GetsStuck program nodes order) → plain program nodes order ≡ Some gets.acts
plain_stuck program nodes order gets = ap (option_map (λ (r : List Act × Plain). r.0)) gets.led

-- so is one in which a node traps
pub plain_traps : (program : Program) (nodes : ℕ) (order : List ℕ) (traps : NodeTraps program nodes order) → plain program nodes order ≡ Some traps.acts
plain_traps program nodes order traps = ap (option_map (λ (r : List Act × Plain). r.0)) traps.led

-- as many lines as acts
pub as_many_lines : (program : Program) (nodes : ℕ) (lines : List ℕ) (before acts : List Act)
    → length (lines_behind program nodes lines before acts) ≡ length acts
as_many_lines program nodes lines before [] = refl
as_many_lines program nodes lines before (act ∷ acts) = ap suc (as_many_lines program nodes lines (before ++ act ∷ []) acts)

-- the race of an order that ends in one
pub race_there : (program : Program) (nodes : ℕ) (order : List ℕ) (run : List Act) → plain program nodes order ≡ Some run → EndsInRace program nodes order
    → (i : ℕ) × (j : ℕ) × Races run i j
race_there program nodes order run led ends =
    let same = same_Some ends.run run (sym ends.is ∙ led) in (ends.first, ends.first + 1, subst (λ l. Races l ends.first (ends.first + 1)) same ends.races)
