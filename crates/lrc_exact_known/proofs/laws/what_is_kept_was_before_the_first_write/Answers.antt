use Rattle.lrc_exact_known.proofs.Kept.{kept_is_before}
use Rattle.lrc_exact_known.proofs.laws.what_is_kept_was_before_the_first_write.Goals as goal

pub returns : goal.returns
returns c = λ shape run states keeps node j word within. kept_is_before shape run states keeps node word j within
