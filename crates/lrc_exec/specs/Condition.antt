-- The condition that a thread evaluates next.
use Rattle.std.specs.Prelude.{ℕ, Bool, true, false, Option, Some, None, List, ◌∷◌}
use Rattle.lrc_program.specs.declared.Statement.{Statement}
use Rattle.lrc_program.specs.declared.Statement.TheVariants.{If', While'}
use Rattle.lrc_exec.specs.Meaning.{Thread, chosen, value_in}

-- whether a condition of this value holds; one without a value does not
abbrev pub value_is_met : Option ℕ → Bool
value_is_met None = false
value_is_met (Some value) = chosen value true false

-- whether the condition of the first of these statements holds; where that has none, it does not
abbrev pub first_is_met : Thread → List Statement → Bool
first_is_met thread (If' condition p first q second ∷ rest) = value_is_met (value_in thread condition)
first_is_met thread (While' condition p body ∷ rest) = value_is_met (value_in thread condition)
first_is_met thread _ = false

-- whether the condition holds that a thread evaluates next; where it evaluates none, it does not
abbrev pub condition_holds : Thread → Bool
condition_holds thread = first_is_met thread thread.rest
