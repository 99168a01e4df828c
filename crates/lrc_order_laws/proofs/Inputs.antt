-- Induction over the turns of one node: what holds of a node at the start, and is kept by each of its turns, holds of it in
-- every run.
use Rattle.std.proofs.Common.{◌≡◌, ℕ, List, [], ◌∷◌, ◌++◌, subst}
use Rattle.std.specs.Prelude.{Option, Some, None, fold, slice_get}
use Rattle.lrc_program.specs.declared.Program.{Program}
use Rattle.lrc_protocol.specs.declared.event.Event.{Event}
use Rattle.lrc_protocol.specs.Node.{Node, OptionsRecord, fresh_node}
use Rattle.lrc_protocol.specs.Turn.{TurnRecord, Outcome, done, not_ready, unexpected, worn}
use Rattle.lrc_protocol.specs.Run.{Input, outcome_of, Logged, World, run_of}
use Rattle.lrc_protocol.specs.Follows.{local}
use Rattle.lrc_protocol.specs.Follows.{local_step}
use Rattle.lrc_protocol.specs.Follows.{local_after}
use Rattle.lrc_protocol.specs.Follows.{Local}
use Rattle.lrc_protocol.specs.Follows.{inputs_of, turns_of}
use Rattle.lrc_protocol.proofs.Texts.{follows_at}
use Rattle.lrc_protocol.proofs.Turned.{Turned, Turns, turns}
use Rattle.lrc_order_laws.proofs.Shift.{Shifted, ShiftedIf, shifts}

-- every turn of a node keeps what holds of it and its turns so far
abbrev pub KeptByShifts : (Local → Type 0) → Type 0
KeptByShifts P =
    (l : Local) (turn : TurnRecord) (after : Node) → Turned l.node turn after → Shifted l.node turn after → P l
    → P (record { node = after; turns = l.turns ++ turn ∷ [] })

module _ (P : Local → Type 0) (kept : KeptByShifts P) where
  HoldsIf : Option Local → Type 0
  HoldsIf None = Unit {0}
  HoldsIf (Some l) = P l

  by_outcome : (l : Local) (o : Outcome) → Turns l.node o → ShiftedIf l.node o → P l → HoldsIf (local_after l.turns o)
  unfolding HoldsIf
  by_outcome l (done turn after) t s p = kept l turn after t s p
  by_outcome l not_ready t s p = tt
  by_outcome l unexpected t s p = tt
  by_outcome l worn t s p = tt

  by_step : (o : Option Local) (input : Input) → HoldsIf o → HoldsIf (local_step o input)
  unfolding HoldsIf
  by_step None input p = tt
  by_step (Some l) input p = by_outcome l (outcome_of l.node input) (turns l.node input) (shifts l.node input) p

  by_inputs : (inputs : List Input) (o : Option Local) → HoldsIf o → HoldsIf (fold local_step o inputs)
  by_inputs [] o p = p
  by_inputs (input ∷ inputs) o p = by_inputs inputs (local_step o input) (by_step o input p)

  module _ (program : Program) (nodes : ℕ) (options : OptionsRecord) where
    pub by_local : (n : ℕ) (inputs : List Input) (l : Local) → P (record { node = fresh_node program nodes options n; turns = [] })
        → local program nodes options n inputs ≡ Some l → P l
    unfolding HoldsIf
    by_local n inputs l start e =
        subst HoldsIf e (by_inputs inputs (Some (record { node = fresh_node program nodes options n; turns = [] })) start)

    -- what holds of a fresh node and is kept by its turns holds of it in every run
    pub at_each : (events : List Event) (world : World) (n : ℕ) (l : Logged)
        → P (record { node = fresh_node program nodes options n; turns = [] })
        → run_of program nodes options events ≡ Some world → slice_get world.nodes n ≡ Some l
        → P (record { node = l.node; turns = turns_of l.log })
    at_each events world n l start e at =
        by_local n (inputs_of l.log) _ start (follows_at program nodes options events world e n l at).replayed
