-- What holds of the exact memory.
use Rattle.std.specs.Prelude.{◌≡◌, ℕ, ◌<◌, ◌↔◌, List, [], ◌∷◌, ◌++◌, length}
use Rattle.lrc_trace.specs.declared.act.Act.{Act}
use Rattle.lrc_trace.specs.declared.act.Deed.{Deed}
use Rattle.lrc_trace.specs.Run.{Does}
use Rattle.lrc_exact.specs.LocalRule.{state_after}
use Rattle.lrc_exact.specs.Rule.{Shape, State, exact_rule, KeepsExact}

-- Every run of these nodes has states,
abbrev pub StatesExist : Type 0
StatesExist = (shape : Shape) (run : List Act) → ((j node : ℕ) (deed : Deed) → Does run j node deed → node < shape.nodes)
    → (states : List State) × KeepsExact shape run states

-- and one list of them alone.
abbrev pub StatesAreOne : Type 0
StatesAreOne = (shape : Shape) (run : List Act) (states others : List State) → KeepsExact shape run states → KeepsExact shape run others
    → states ≡ others

-- A prefix of the run has their beginning,
abbrev pub StatesOnPrefix : Type 0
StatesOnPrefix = (shape : Shape) (run more : List Act) (states later : List State) → length states ≡ length run
    → KeepsExact shape (run ++ more) (states ++ later) → KeepsExact shape run states

-- and one act more adds one state, that of the rule.
abbrev pub StatesByOneMore : Type 0
StatesByOneMore = (shape : Shape) (run : List Act) (states : List State) (act : Act) (state : State) → KeepsExact shape run states
    → KeepsExact shape (run ++ act ∷ []) (states ++ state ∷ [])
    ↔ ((act.node < shape.nodes) × (state ≡ state_after (exact_rule shape) run states (length run) act.node act.deed))
