-- What holds of exact outcomes.
use Rattle.std.specs.Prelude.{◌≡◌, ℕ, ◌↔◌, List, [], ◌∷◌, ◌++◌, Some}
use Rattle.lrc_program.specs.declared.Program.{Program}
use Rattle.lrc_trace.specs.declared.act.Act.{Act}
use Rattle.lrc_trace.specs.declared.act.Deed.{Deed}
use Rattle.lrc_trace.specs.Run.{act_of}
use Rattle.lrc_consistency_laws.specs.Kinds.{SameKind}
use Rattle.lrc_orders.specs.Notes.{notes_of}
use Rattle.lrc_lazy.specs.Front.{MayGoFirst}
use Rattle.lrc_lazy.specs.Lazy.{IsOver, MayComeNext}
use Rattle.lrc_lazy.specs.Swapped.{pair, MayComeFirst}
use Rattle.lrc_exact.specs.Rule.{Shape}
use Rattle.lrc_exact_laws.specs.Laws.{IsExactRun}
use Rattle.lrc_exact_machine.specs.Machine.{exact}
use Rattle.lrc_exact_outcomes.specs.Outcome.{IsExactOutcome, IsExactOutcomeFrom}

-- Two neighbouring acts of an exact run change places, where the second may come first.
abbrev pub ActsChangePlaces : Type 0
ActsChangePlaces = (program : Program) (shape : Shape) (front : List Act) (first second : Act) (rest : List Act)
    → IsExactRun program shape (pair front first second rest) → MayComeFirst shape.nodes front first second
    → IsExactRun program shape (pair front second first rest)

-- A node that may come next with an act that is no acquire may go first.
abbrev pub MayBeMadeFirst : Type 0
MayBeMadeFirst = (program : Program) (shape : Shape) (acts : List Act) (node : ℕ) (notes : List Act) → MayGoFirst program shape.nodes acts node
    → IsExactOutcomeFrom program shape acts notes ↔ ((deed : Deed) × IsExactOutcomeFrom program shape (acts ++ act_of node deed ∷ []) notes)

-- An exact run goes on with an act that may come next, but for the value that it reads.
abbrev pub EachRunGoesOn : Type 0
EachRunGoesOn = (program : Program) (shape : Shape) (acts : List Act) (node : ℕ) (deed : Deed) → IsExactRun program shape acts
    → MayComeNext program shape.nodes acts (act_of node deed)
    → (other : Deed) × SameKind deed other × IsExactRun program shape (acts ++ act_of node other ∷ [])

abbrev pub IsOverWhereNoneGoesOn : Type 0
IsOverWhereNoneGoesOn = (program : Program) (shape : Shape) (acts : List Act) → IsExactRun program shape acts
    → IsOver program shape.nodes acts ↔ ((act : Act) → ¬ IsExactRun program shape (acts ++ act ∷ []))

-- The outcomes are those from the beginning,
abbrev pub AreFromTheBeginning : Type 0
AreFromTheBeginning = (program : Program) (shape : Shape) (notes : List Act)
    → IsExactOutcome program shape notes ↔ IsExactOutcomeFrom program shape [] notes

-- and those of what the exact machine makes.
pub record IsMachineOutcome (program : Program) (shape : Shape) (notes : List Act) : Type 0 where
  pub order : List ℕ
  pub acts : List Act
  pub made : exact program shape order ≡ Some acts
  pub over : IsOver program shape.nodes acts
  pub are : notes_of shape.nodes acts ≡ notes

abbrev pub AreMadeByTheMachine : Type 0
AreMadeByTheMachine = (program : Program) (shape : Shape) (notes : List Act)
    → IsExactOutcome program shape notes ↔ IsMachineOutcome program shape notes
