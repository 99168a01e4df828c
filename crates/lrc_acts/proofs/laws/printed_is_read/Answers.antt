use Rattle.lrc_acts.proofs.PrintLemmas.{printed_from}
use Rattle.lrc_acts.proofs.laws.printed_is_read.Goals as goal

pub returns : goal.returns
returns c = λ acts text printed. printed_from 1 printed
