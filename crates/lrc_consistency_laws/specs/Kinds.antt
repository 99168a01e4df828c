-- Deeds of one kind, and runs that are those of the plain machine up to a position.
use Rattle.std.specs.Prelude.{◌≡◌, ℕ, ◌+◌, Some, List, [], ◌∷◌, ◌++◌, take}
use Rattle.lrc_program.specs.declared.Program.{Program}
use Rattle.lrc_trace.specs.declared.act.Act.{Act}
use Rattle.lrc_trace.specs.declared.act.Deed.{Deed}
use Rattle.lrc_trace.specs.declared.act.Deed.TheVariants.{Read}
use Rattle.lrc_trace.specs.Run.{act_of, Does}
use Rattle.lrc_exec.specs.Plain.{plain}
use Rattle.lrc_exec.specs.Follows.{nodes_of_acts}

-- the same deed, or reads of one word that may give two values
pub data SameKind : Deed → Deed → Type 0 where
  same : {d : Deed} → SameKind d d
  reads : {w u v : ℕ} → SameKind (Read w u) (Read w v)

-- the plain machine makes the acts before the position, and then an act of the same kind as the one there
pub record PlainUpTo (program : Program) (nodes : ℕ) (run : List Act) (position : ℕ) : Type 0 where
  pub before : plain program nodes (nodes_of_acts (take position run)) ≡ Some (take position run)
  pub there : (node : ℕ) (deed : Deed) → Does run position node deed
      → (other : Deed) × SameKind deed other
      × (plain program nodes (nodes_of_acts (take (position + 1) run)) ≡ Some (take position run ++ act_of node other ∷ []))
