use Rattle.std.proofs.Common.{◌∙◌}
use Rattle.lrc_exec.specs.Places.{place_after}
use Rattle.lrc_exec.specs.Spots.{thread_at}
use Rattle.lrc_exec.proofs.Spots.{answers, goes_blank, gone_on, has_moved, number_kept, resumes_on, state_set}
use Rattle.lrc_exec.proofs.state.State.go_on.Goals as goal

pub complete-requires-clause-takes : goal.complete-requires-clause-takes
complete-requires-clause-takes c =
    (answers c.args.flat.now c.args.self.now c.args.node c.index_mut-spot.result.now c.index_mut-spot.ensures.value c.requires.resumable).takes

pub complete-requires-clause-number : goal.complete-requires-clause-number
complete-requires-clause-number c =
    (answers c.args.flat.now c.args.self.now c.args.node c.index_mut-spot.result.now c.index_mut-spot.ensures.value c.requires.resumable).number
    c.args.number c.requires.number

pub returns-clause-gone : goal.returns-clause-gone
returns-clause-gone c =
    gone_on c.args.flat.now c.args.self.now c.args.node c.index_mut-spot.result.now c.complete.new.spot c.args.value c.args.arrived
    c.index_mut-spot.ensures.value c.requires.resumable c.complete.ensures.answered c.complete.ensures.stopped

pub returns-clause-state : goal.returns-clause-state
returns-clause-state c =
    let flat = c.args.flat.now in
    let old = c.index_mut-spot.result.now in
    let running = resumes_on flat c.args.self.now c.args.node old c.index_mut-spot.ensures.value c.requires.resumable in
    state_set flat c.args.self.now c.args.node old (record c.complete.new.spot { arrived = c.args.arrived }) c.index_mut-spot.ensures.value c.requires.state
    (number_kept flat c.args.value old c.complete.new.spot c.complete.ensures.answered) c.complete.ensures.within
    (goes_blank _ (c.complete.ensures.stopped ∙ running))

pub returns-clause-moved : goal.returns-clause-moved
returns-clause-moved c =
    let flat = c.args.flat.now in
    has_moved c.args.self.now c.args.node c.index_mut-spot.result.now (record c.complete.new.spot { arrived = c.args.arrived })
    (λ spot. place_after (thread_at flat spot) flat.code.now spot.place) c.index_mut-spot.ensures.value c.complete.ensures.placed
