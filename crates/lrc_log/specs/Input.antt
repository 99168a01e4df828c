-- What makes a turn, as the protocol has it.
use Rattle.lrc_protocol.specs.Run.{Input, run, taken}
use Rattle.lrc_log.specs.declared.Input.{Input as Given}
use Rattle.lrc_log.specs.declared.Input.TheVariants.{Run, Taken}

-- the input that the code has, without where its message lies in memory
abbrev pub seen_input : Given → Input
seen_input Run = run
seen_input (Taken envelope) = taken envelope.value
