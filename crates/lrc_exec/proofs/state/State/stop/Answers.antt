use Rattle.std.proofs.Common.{◌≤◌, ◌∙◌, ap, arith, length, subst, sym}
use Rattle.lrc_exec.specs.declared.spot.Spot.{Spot}
use Rattle.lrc_exec.specs.Spots.{spot_stopped}
use Rattle.lrc_exec.proofs.Spots.{ended, has_moved, state_set}
use Rattle.lrc_exec.proofs.state.State.stop.Goals as goal

pub returns-clause-ended : goal.returns-clause-ended
returns-clause-ended c =
    ended c.args.flat.now c.args.self.now c.args.node c.spot_stopped.result (ap (λ (x : Spot). x.stopped) c.spot_stopped.ensures)

pub returns-clause-state : goal.returns-clause-state
returns-clause-state c =
    let flat = c.args.flat.now in
    let is = c.spot_stopped.ensures in
    state_set flat c.args.self.now c.args.node c.index.result.now c.spot_stopped.result c.index.ensures c.requires.state
    (ap (λ (x : Spot). x.me) is)
    (subst (λ (x : Spot). x.place ≤ length flat.code.now) (sym is) (omega arith)) (λ on. is ∙ ap spot_stopped (sym (ap (λ (x : Spot). x.me) is)))

pub returns-clause-moved : goal.returns-clause-moved
returns-clause-moved c =
    has_moved c.args.self.now c.args.node c.index.result.now c.spot_stopped.result (λ _. 0) c.index.ensures
    (ap (λ (x : Spot). x.place) c.spot_stopped.ensures)
