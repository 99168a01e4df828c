use Rattle.lrc_clock.proofs.Stamps.{stamps_rise}
use Rattle.lrc_clock.proofs.laws.stamps_of_a_node_rise.Goals as goal

pub returns : goal.returns
returns c = λ nodes run times keeps. stamps_rise keeps
