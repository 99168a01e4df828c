use Rattle.lrc_node_laws.proofs.Always.{whole_at, sized_at}
use Rattle.lrc_node_laws.proofs.laws.copies_are_whole.Goals as goal

pub returns-clause-copies : goal.returns-clause-copies
returns-clause-copies c = λ node r. (whole_at node r).copies

pub returns-clause-bases : goal.returns-clause-bases
returns-clause-bases c = λ node r. (whole_at node r).bases

pub returns-clause-changes : goal.returns-clause-changes
returns-clause-changes c = λ node r. sized_at node r
