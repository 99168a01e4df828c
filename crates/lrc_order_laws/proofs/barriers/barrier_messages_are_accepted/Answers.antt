use Rattle.lrc_order_laws.proofs.BarrierExpected.{clean_expected, discard_expected, arrival_accepted, depart_accepted}
use Rattle.lrc_order_laws.proofs.barriers.barrier_messages_are_accepted.Goals as goal

pub returns-clause-clean : goal.returns-clause-clean
returns-clause-clean c = λ program nodes options events world first l e k run at_first there says at.
    clean_expected program nodes options events world run first l e k at_first there says at

pub returns-clause-discard : goal.returns-clause-discard
returns-clause-discard c = λ program nodes options events world l e k run there says at.
    discard_expected program nodes options events world run l e k there says at

pub returns-clause-arrive : goal.returns-clause-arrive
returns-clause-arrive c = λ program nodes options events world first l e m run at_first there says at.
    arrival_accepted program nodes options events world run first l e m at_first there says at

pub returns-clause-depart : goal.returns-clause-depart
returns-clause-depart c = λ program nodes options events world l e m run there says at.
    depart_accepted program nodes options events world run l e m there says at
