use Rattle.std.proofs.Common.{false, refl}
use Rattle.lrc_exec.proofs.Spots.{goes_blank, has_moved, left, placed, runs_on, state_set}
use Rattle.lrc_exec.proofs.state.State.leave.Goals as goal

pub returns-clause-left : goal.returns-clause-left
returns-clause-left c =
    left c.args.flat.now c.args.self.now c.args.node c.index_mut.result.now c.index_mut.ensures.value c.requires.there

pub returns-clause-state : goal.returns-clause-state
returns-clause-state c =
    let flat = c.args.flat.now in
    let state = c.args.self.now in
    let old = c.index_mut.result.now in
    let running = runs_on flat state c.args.node old c.index_mut.ensures.value c.requires.there in
    state_set flat state c.args.node old (record old { arrived = false }) c.index_mut.ensures.value c.requires.state refl
    (placed flat state c.args.node old c.index_mut.ensures.value c.requires.there c.requires.state) (goes_blank _ running)

pub returns-clause-moved : goal.returns-clause-moved
returns-clause-moved c =
    let old = c.index_mut.result.now in
    has_moved c.args.self.now c.args.node old (record old { arrived = false }) (λ spot. spot.place) c.index_mut.ensures.value refl
