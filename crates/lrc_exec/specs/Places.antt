-- Where a thread stands in flat code once its statement is done.
use Rattle.std.specs.Prelude.{ℕ, zero, suc, Option, Some, None, List, slice_get, if◌then◌else◌}
use Rattle.lrc_program.specs.declared.Statement.{Statement}
use Rattle.lrc_program.specs.declared.Statement.TheVariants.{If', While'}
use Rattle.lrc_exec.specs.declared.code.Instruction.{Instruction}
use Rattle.lrc_exec.specs.Condition.{value_is_met}
use Rattle.lrc_exec.specs.Meaning.{Thread, value_in}

-- where an instruction's statement leads a thread: a condition to one of its two places, and every other statement to the next place
abbrev pub place_led_to : Thread → Instruction → Statement → ℕ
place_led_to thread instruction (If' condition p first q second) =
    if value_is_met (value_in thread condition) then instruction.then else instruction.otherwise
place_led_to thread instruction (While' condition p body) =
    if value_is_met (value_in thread condition) then instruction.then else instruction.otherwise
place_led_to thread instruction statement = instruction.next

-- the same of the instruction that is there, if one is
abbrev pub place_led_by : Thread → Option Instruction → ℕ
place_led_by thread None = 0
place_led_by thread (Some instruction) = place_led_to thread instruction instruction.statement.now

-- the place after a place, once the statement there is done by this thread; after the end of the text there is no other
abbrev pub place_after : Thread → List Instruction → ℕ → ℕ
place_after thread code zero = 0
place_after thread code (suc k) = place_led_by thread (slice_get code k)
