use Rattle.lrc_exact_collecting.proofs.Discarding.{discards_pages}
use Rattle.lrc_exact_collecting.proofs.Keeping.{keeps_pages}
use Rattle.lrc_exact_collecting.proofs.laws.what_is_collected_stays_exact.Goals as goal

pub returns-clause-kept : goal.returns-clause-kept
returns-clause-kept c = keeps_pages

pub returns-clause-discarded : goal.returns-clause-discarded
returns-clause-discarded c = discards_pages
