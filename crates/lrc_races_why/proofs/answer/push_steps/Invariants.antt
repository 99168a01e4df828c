-- Whatever the lines of the steps that are left, the lines of all steps are those so far and these.
use Rattle.std.proofs.Common.{◌-◌}
use Rattle.lrc_races_text.specs.Tables.{naming_of}
use Rattle.lrc_races_why.proofs.Answering.{Follows}
use Rattle.lrc_races_why.proofs.answer.push_steps.Given as goal

abbrev pub invariant-loop-place : goal.invariant-loop-place
invariant-loop-place l = Follows l.form (naming_of l.names) l.events l.lines l.chain (l.place - 1) l.initial.text.items l.text.items
