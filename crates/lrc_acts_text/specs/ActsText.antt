-- Acts in plain words.
use Rattle.std.specs.Prelude.{ℕ, List, slice_index}
use Rattle.lrc_trace.specs.declared.act.Act.{Act}
use Rattle.lrc_text.specs.ActText.{act_line}
use Rattle.lrc_text.specs.Each.{each}

-- a line for each act, with the line of the program's text that it is of
abbrev pub acts_text : List Act → List ℕ → List ℕ
acts_text acts lines = each (λ position act. act_line act (slice_index lines position)) acts
