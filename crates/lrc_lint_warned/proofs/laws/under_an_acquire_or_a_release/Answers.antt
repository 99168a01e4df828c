use Rattle.lrc_lint_warned.proofs.Acquired.{is_under_one, under_is}
use Rattle.lrc_lint_warned.proofs.laws.under_an_acquire_or_a_release.Goals as goal

pub returns : goal.returns
returns c = λ side lock path. (under_is side lock path, is_under_one side lock path)
