use Rattle.lrc_acts_text_laws.proofs.Judging.{run_begins, run_counted, run_judged, run_status}
use Rattle.lrc_acts_text_laws.proofs.laws.printed_runs_are_judged_as_their_acts.Goals as goal

pub returns-clause-judgement : goal.returns-clause-judgement
returns-clause-judgement c = λ acts pairs out status is.
    (is.judged.count, run_counted acts pairs out status is, run_judged acts pairs out status is)

pub returns-clause-begins : goal.returns-clause-begins
returns-clause-begins c = λ acts pairs out status is. run_begins acts pairs out status is

pub returns-clause-status : goal.returns-clause-status
returns-clause-status c = λ acts pairs out status is. run_status acts pairs out status is
