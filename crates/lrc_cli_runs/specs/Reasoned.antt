-- What is asked of acts: why one is as it is, or how two are ordered.
use Rattle.std.specs.Prelude.{ℕ}
use Rattle.lrc_cli_args.specs.declared.choice.Asking.{Asking}
use Rattle.lrc_cli_answer.specs.declared.fault.Fault.{Fault}
use Rattle.lrc_cli_answer.specs.declared.fault.Fault.TheVariants.{NoAct, NoMemory}
use Rattle.lrc_why_run.specs.Answers.{RefusesRun}
use Rattle.lrc_why_text.specs.declared.asked.Asked.{Asked}
use Rattle.lrc_why_text.specs.declared.fault.WhyFault.TheVariants as why_faults

-- the acts that are asked of
abbrev pub asked_of : Asking → Asked
asked_of asking = record { act = asking.act; and = asking.other }

-- why it is not told of so many acts of a run: there is none at a position
abbrev pub IsUntold : Asking → (count : ℕ) → Fault → Type 0
IsUntold asking count (NoAct position acts) = RefusesRun (asked_of asking) count (why_faults.NoAct position acts)
IsUntold asking count NoMemory = Unit {0}
IsUntold asking count _ = ⊥
