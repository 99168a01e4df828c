-- Why a judgement was not written to its end.
use Rattle.std.specs.Prelude.{Bool, true, false}
use Rattle.lrc_judge_text.specs.declared.broken_off.BrokenOff.{BrokenOff}
use Rattle.lrc_judge_text.specs.declared.broken_off.BrokenOff.TheVariants.{Unwritten, NoMemory}

-- whether a write failed
abbrev pub is_unwritten : BrokenOff → Bool
is_unwritten (Unwritten error) = true
is_unwritten NoMemory = false
