use Rattle.lrc_mail.proofs.Sparse.{one_span}
use Rattle.lrc_mail.proofs.laws.numbers_in_order_are_one_span.Goals as goal

pub returns : goal.returns
returns c = one_span
