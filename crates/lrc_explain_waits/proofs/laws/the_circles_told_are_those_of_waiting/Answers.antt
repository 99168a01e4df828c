use Rattle.lrc_explain_waits.proofs.Circling.{told_exactly, told_wholly}
use Rattle.lrc_explain_waits.proofs.laws.the_circles_told_are_those_of_waiting.Goals as goal

pub returns-clause-exact : goal.returns-clause-exact
returns-clause-exact c = λ waits node others. told_exactly waits node others

pub returns-clause-whole : goal.returns-clause-whole
returns-clause-whole c = λ waits node others circle. told_wholly waits node others circle
