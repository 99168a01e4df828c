use Rattle.lrc_explore_text.proofs.Reports.{free_and_plain, unraced}
use Rattle.lrc_explore_text.proofs.laws.reports_of_explored_programs_are_plain.Goals as goal

pub returns-clause-plain : goal.returns-clause-plain
returns-clause-plain c = free_and_plain

pub returns-clause-unraced : goal.returns-clause-unraced
returns-clause-unraced c = unraced
