use Rattle.lrc_clock.proofs.Racing.{interval_order}
use Rattle.lrc_clock.proofs.laws.order_of_intervals_is_cover.Goals as goal

pub returns : goal.returns
returns c = λ nodes run times keeps ws waits. interval_order keeps ws waits
