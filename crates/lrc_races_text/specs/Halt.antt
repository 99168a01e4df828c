-- The halt at a fault of a line.
use Rattle.lrc_races_text.specs.declared.fault.Fault.{Fault}
use Rattle.lrc_races_text.specs.declared.fault.Fault.TheVariants as faults
use Rattle.lrc_races_text.specs.declared.halt.Halt.{Halt}
use Rattle.lrc_races_text.specs.declared.halt.Halt.TheVariants as halts

-- the line is bad, or memory ran out
abbrev pub halt_of : Fault → Halt
halt_of (faults.BadEvent line why) = halts.BadEvent line why
halt_of faults.NoMemory = halts.NoMemory
