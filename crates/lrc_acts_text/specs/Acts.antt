-- Acts by their positions.
use Rattle.std.specs.Prelude.{ℕ, List, slice_index_or}
use Rattle.lrc_trace.specs.declared.act.Act.{Act}
use Rattle.lrc_trace.specs.declared.act.Deed.TheVariants.{Quiet}
use Rattle.lrc_trace.specs.Run.{act_of}

-- the act at a position; past the last one an act that does nothing
abbrev pub act_at : List Act → ℕ → Act
act_at acts position = slice_index_or acts position (act_of 0 Quiet)
