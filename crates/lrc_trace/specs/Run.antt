-- A run is a list of acts. Positions in it count from 0.
use Rattle.std.specs.Prelude.{◌≡◌, ℕ, ◌==◌, ◌&&◌, Bool, true, false, List, Some, slice_get, count_by, take}
use Rattle.lrc_trace.specs.declared.act.Act.{Act}
use Rattle.lrc_trace.specs.declared.act.Deed.{Deed}
use Rattle.lrc_trace.specs.declared.act.Deed.TheVariants.{Arrive, Depart}

-- the act of this node with this deed
abbrev pub act_of : ℕ → Deed → Act
act_of node deed = record { node = node; deed = deed }

-- at this position the node does the deed
pub record Does (run : List Act) (position node : ℕ) (deed : Deed) : Type 0 where
  pub stands : slice_get run position ≡ Some (act_of node deed)

-- at this position some node does the deed
abbrev pub IsDone : List Act → ℕ → Deed → Type 0
IsDone run position deed = (node : ℕ) × Does run position node deed

-- whether a deed comes to a barrier, or goes on from one
abbrev pub is_arrive : Deed → Bool
is_arrive Arrive = true
is_arrive _ = false

abbrev pub is_depart : Deed → Bool
is_depart Depart = true
is_depart _ = false

-- how many of the acts are deeds of this kind by this node
abbrev pub count_of : (Deed → Bool) → ℕ → List Act → ℕ
count_of kind node acts = count_by (λ a. a.node == node && kind a.deed) acts

-- how often the node has arrived before a position, and how often it has departed
abbrev pub arrives_before : List Act → ℕ → ℕ → ℕ
arrives_before run node position = count_of is_arrive node (take position run)

abbrev pub departs_before : List Act → ℕ → ℕ → ℕ
departs_before run node position = count_of is_depart node (take position run)
