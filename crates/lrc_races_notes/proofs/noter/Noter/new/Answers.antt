-- Of no line nothing is known.
use Rattle.std.proofs.Common.{true≢false}
use Rattle.std.proofs.Common.{sym}
use Rattle.lrc_races_notes.proofs.noter.Noter.new.Goals as goal

pub returns-clause-none : goal.returns-clause-none
returns-clause-none c form = record { mark = ((λ e. absurd (true≢false (sym e))), (λ m. absurd m)); blank = tt }
