use Rattle.std.proofs.Common.{◌≡◌, length, sym, subst, Option}
use Rattle.std.specs.Prelude.{IfSome}
use Rattle.lrc_barrier.specs.Barrier.{ManagerRecord}
use Rattle.lrc_control.specs.Barrier.{KeepsEpisodes, IsOfNodes}
use Rattle.lrc_control.proofs.Episodes.{kept_after, are_departures}
use Rattle.lrc_control.proofs.barrier.Barrier.take_arrival.Goals as goal
use Rattle.lrc_control.proofs.barrier.Barrier.take_arrival.Goals.{in-Ok, in-Err-NoMemory}

pub invariant_of-self : goal.invariant_of-self
invariant_of-self c =
    let each : KeepsEpisodes c.in-Some.manager = subst (λ (o : Option ManagerRecord). IfSome o KeepsEpisodes) c.in-Some.is c.self.invariant in
    kept_after c.in-Some.manager c.take.new.self c.take.result c.args.from c.args.arrival c.take.ensures.manager
    c.take.ensures.err each c.requires.begun

pub returns-clause-departures : goal.returns-clause-departures
returns-clause-departures c = λ nodes of_nodes.
    let each : KeepsEpisodes c.in-Some.manager = subst (λ (o : Option ManagerRecord). IfSome o KeepsEpisodes) c.in-Some.is c.self.invariant in
    let at : IfSome c.self.inside.manager (λ (manager : ManagerRecord). length manager.last ≡ nodes) = subst (IsOfNodes nodes) (sym c.self.view_is) of_nodes in
    let of : length c.in-Some.manager.last ≡ nodes = subst (λ (o : Option ManagerRecord). IfSome o (λ manager. length manager.last ≡ nodes)) c.in-Some.is at in
    elim c.match-take.branch [
      | in-Ok w ↦ rw w.result-is (are_departures nodes c.in-Some.manager c.args.from c.args.arrival w.in-Ok.departures of each
          c.requires.begun w.in-Ok.ensures.answer w.in-Ok.ensures.departures)
      | in-Err-NoMemory w ↦ rw w.result-is tt
    ]
