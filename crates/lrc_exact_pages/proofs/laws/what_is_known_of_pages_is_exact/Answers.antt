use Rattle.lrc_exact_pages.proofs.Closing.{closes}
use Rattle.lrc_exact_pages.proofs.Learning.{learns_pages}
use Rattle.lrc_exact_pages.proofs.laws.what_is_known_of_pages_is_exact.Goals as goal

pub returns-clause-closed : goal.returns-clause-closed
returns-clause-closed c = closes

pub returns-clause-learned : goal.returns-clause-learned
returns-clause-learned c = learns_pages
