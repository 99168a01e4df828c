use Rattle.lrc_protocol.specs.Run.{fresh_world}
use Rattle.lrc_world.proofs.Made.{alone, still_turned}
use Rattle.lrc_world.proofs.turned.skipped_events_may_be_left_out.Goals as goal

pub returns-clause-run : goal.returns-clause-run
returns-clause-run c = λ program nodes options events world runs. alone events (fresh_world program nodes options) world runs

pub returns-clause-report : goal.returns-clause-report
returns-clause-report c = λ program nodes options events report is.
    (is.0, alone events (fresh_world program nodes options) is.0 is.1, is.2)

pub returns-clause-unskipped : goal.returns-clause-unskipped
returns-clause-unskipped c = λ program nodes options events. still_turned events (fresh_world program nodes options)
