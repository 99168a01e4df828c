-- Pairs that stand for acts shown.
use Rattle.std.proofs.Common.{◌≡◌, ◌∙◌, ◌<◌, ◌≤◌, ℕ, List, arith, get_or, length, subst, sym}
use Rattle.std.specs.Prelude.{All, Some, slice_get}
use Rattle.std.proofs.lemmas.Option.{same_Some, slice_get-get_or}
use Rattle.lrc_trace.specs.declared.act.Act.{Act}
use Rattle.lrc_trace.specs.Run.{act_of}
use Rattle.lrc_trace.proofs.Positions.{Does-within}
use Rattle.lrc_judge.specs.declared.lanes.Pair.{Pair}
use Rattle.lrc_step.specs.declared.shown.Part.{Part}
use Rattle.lrc_step.specs.Shown.{IsShown, StandsForNode}

-- a node that acts is below the number of nodes
pub node_below : (run : List Act) (nodes node : ℕ) (part : Part) (position : ℕ) (pair : Pair) → All (λ act. act.node < nodes) run
    → StandsForNode run part position node pair → node < nodes
node_below run nodes node part position pair few of =
    let (deed, does) = of.is_least.racing.acts in
    let act : Act = act_of node deed in
    let within : of.least < length run = Does-within does in
    let same : get_or run of.least act ≡ act = same_Some (get_or run of.least act) act (sym (slice_get-get_or run of.least act within) ∙ does.stands) in
    subst (λ (a : Act). a.node < nodes) same (few of.least act within)

-- the pair stands for the act at the position, which is shown
abbrev pub IsOfAct : List Act → Part → ℕ → Pair → Type 0
IsOfAct run part position pair = IsShown part position × ((node : ℕ) × StandsForNode run part position node pair)
