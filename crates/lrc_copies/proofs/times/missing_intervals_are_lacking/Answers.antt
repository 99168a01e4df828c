use Rattle.std.proofs.Common.{[]}
use Rattle.lrc_copies.proofs.Timing.{parts_lacking}
use Rattle.lrc_copies.proofs.times.missing_intervals_are_lacking.Goals as goal

pub returns : goal.returns
returns g c = λ s wrote words all stored since upto names part. parts_lacking s wrote (λ a. []) words all stored since upto names part
