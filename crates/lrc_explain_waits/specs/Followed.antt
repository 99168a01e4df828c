-- Acts that were followed through the text.
use Rattle.std.specs.Prelude.{◌≡◌, ℕ, List}
use Rattle.lrc_program.specs.declared.Program.{Program}
use Rattle.lrc_trace.specs.declared.act.Act.{Act}
use Rattle.lrc_lines.specs.declared.walks.Followed.{Followed}
use Rattle.lrc_lines.specs.Seen.{walks_of}
use Rattle.lrc_lines.specs.Walks.{end_line, act_lines, walks_behind}

-- these acts were followed, of a program whose statements, and the text's end behind them, have these lines
pub record AreFollowed (program : Program) (nodes : ℕ) (lines : List ℕ) (acts : List Act) (followed : Followed) : Type 0 where
  pub lines_are : followed.lines.items ≡ act_lines program nodes lines acts
  pub walks_are : walks_of followed.walks ≡ walks_behind program nodes lines acts
  pub end_is : followed.walks.end ≡ end_line lines
