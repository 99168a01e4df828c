-- What a judge of acts says of a run of a program.
use Rattle.std.specs.Prelude.{◌≡◌, ℕ, Bool, IfSome, List, None, Option}
use Rattle.lrc_trace.specs.declared.act.Act.{Act}
use Rattle.lrc_judge_text.specs.Judgement.{Judges}
use Rattle.lrc_acts_text_laws.specs.PrintedRun.{IsPrintedRun}

-- These acts are those of a run of a program, and this is said of what is printed of them, with this status behind it: how many nodes
-- there are is not given, or just the number of nodes of the run, and no exact memory is.
pub record IsJudgedRun (acts : List Act) (pairs : Bool) (out : List ℕ) (status : ℕ) : Type 0 where
  pub nodes : ℕ
  pub printed : List ℕ
  pub is_printed : IsPrintedRun nodes acts printed
  pub given : Option ℕ
  pub as_many : IfSome given (λ count. count ≡ nodes)
  pub judged : Judges given None pairs printed out status
