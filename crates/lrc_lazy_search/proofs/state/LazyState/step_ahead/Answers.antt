use Rattle.lrc_lazy_search.specs.Searching.{still, onward}
use Rattle.lrc_lazy_search.proofs.Making.{front_below}
use Rattle.lrc_lazy_search.proofs.state.LazyState.step_ahead.Goals as goal

pub returns-in_default : goal.returns-in_default
returns-in_default c = record { ahead = still; neat = λ neat. neat; made = λ never. cc }

pub returns-in_default-2 : goal.returns-in_default-2
returns-in_default-2 c = record { ahead = still; neat = λ neat. neat; made = λ never. cc }

pub make-requires-clause-can : goal.make-requires-clause-can
make-requires-clause-can c = (c.in_ok-deed.ensures c.in-Some-2.deed c.in-Some-2.is).can

pub make-requires-clause-node : goal.make-requires-clause-node
make-requires-clause-node c =
    front_below c.args.flat.now c.args.self.now c.in-Some.node c.requires.fit (c.in_front.ensures.front c.in-Some.node c.in-Some.is)

pub returns-clause-ahead : goal.returns-clause-ahead
returns-clause-ahead c =
    onward c.in-Some.node c.in-Some-2.deed still (c.in_ok-deed.ensures c.in-Some-2.deed c.in-Some-2.is) c.in_ok-make.ensures.steps c.in_ok-make.ensures.state

pub returns-clause-made : goal.returns-clause-made
returns-clause-made c = λ yes. record {
  node = c.in-Some.node;
  deed = c.in-Some-2.deed;
  forced = c.in_ok-deed.ensures c.in-Some-2.deed c.in-Some-2.is;
  steps = c.in_ok-make.ensures.steps;
}
