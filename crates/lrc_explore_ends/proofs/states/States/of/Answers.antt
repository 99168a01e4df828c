use Rattle.lrc_explore_ends.specs.declared.states.States.{States}
use Rattle.lrc_explore_ends.proofs.Linking.{none_stepped}
use Rattle.lrc_explore_ends.proofs.states.States.of.Goals as goal

pub returns-clause-stepped : goal.returns-clause-stepped
returns-clause-stepped c task f =
    let states : States = record { found = c.args.found; steps = c.new.result } in
    none_stepped task states f c.new.ensures.count c.new.ensures.edges
