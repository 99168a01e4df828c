use Rattle.lrc_named_parse.specs.SeenState.{state_seen}
use Rattle.lrc_named_may.specs.Kind.{all_kinds}
use Rattle.lrc_named_may.specs.Stops.{takes_kind}
use Rattle.lrc_named_may.proofs.Taken.{taken_all, taken_in}
use Rattle.lrc_named_may.proofs.first_fault.kinds_taken.Goals as goal

pub loop-kind-preserved : goal.loop-kind-preserved
loop-kind-preserved c = λ at.
    taken_in (takes_kind at (state_seen c.args.state.now)) c.all_kinds-kind-items.result.now all_kinds c.loop-kind.kind-index _ c.loop-kind.kinds.items
    c.push_if_taken.new.kinds.items c.all_kinds-kind-items.ensures c.loop-kind-test.true (c.loop-kind.invariant at) (c.in_ok-push_if_taken.ensures at)

pub returns : goal.returns
returns c = λ at.
    taken_all (takes_kind at (state_seen c.args.state.now)) c.all_kinds-kind-items.result.now all_kinds c.loop-kind.kind-index c.loop-kind.kinds.items
    c.all_kinds-kind-items.ensures c.loop-kind-test.false (c.loop-kind.invariant at)
