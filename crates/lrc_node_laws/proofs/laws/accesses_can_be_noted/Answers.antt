use Rattle.lrc_node_laws.proofs.Noting.{traced_first, can_note_turn, traced_turn}
use Rattle.lrc_node_laws.proofs.laws.accesses_can_be_noted.Goals as goal

pub returns-clause-fresh : goal.returns-clause-fresh
returns-clause-fresh c = λ program nodes options me among. traced_first program nodes options me among

pub returns-clause-can : goal.returns-clause-can
returns-clause-can c = λ node after trace input turn t e. can_note_turn node trace input turn after t e

pub returns-clause-kept : goal.returns-clause-kept
returns-clause-kept c = λ node after trace input turn t e. traced_turn node trace input turn after t e
