use Rattle.lrc_exact_reading.proofs.Giving.{stays_until}
use Rattle.lrc_exact_reading.proofs.laws.the_exact_value_stays.Goals as goal

pub returns : goal.returns
returns c = λ shape run states keeps i j node word le inside calm. stays_until shape run states keeps node word i j le inside calm
