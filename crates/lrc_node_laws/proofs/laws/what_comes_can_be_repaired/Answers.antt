use Rattle.lrc_node_laws.proofs.Comes.{changes_repair, page_repairs}
use Rattle.lrc_node_laws.proofs.laws.what_comes_can_be_repaired.Goals as goal

pub returns-clause-changes : goal.returns-clause-changes
returns-clause-changes c = λ node from m need r e w. changes_repair node r from m e need w

pub returns-clause-page : goal.returns-clause-page
returns-clause-page c = λ node from m need r e w. page_repairs node r from m e need w
