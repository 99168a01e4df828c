use Rattle.std.proofs.Common.{[], ◌++◌, subst}
use Rattle.lrc_replay.specs.declared.notes.Spot.{Spot}
use Rattle.lrc_replay.specs.Acts.{note_of, notes_behind}
use Rattle.lrc_replay.specs.Courses.{AreNotes}
use Rattle.lrc_replay.proofs.Coursing.{act_passed, notes_passed, on_ok}
use Rattle.lrc_replay.proofs.course.Course.pass.Goals as goal

pub returns-clause-course : goal.returns-clause-course
returns-clause-course c plan acts is =
    let act = c.args.act in
    let all = notes_behind plan [] acts in
    let noted = subst (λ (s : Spot). AreNotes plan.program.words (all ++ note_of s act.node act.deed) c.note.new.self) (c.spot-spot.ensures plan acts is)
    (c.note.ensures plan.program.words all is.notes) in
    on_ok c.follow.result (c.follow.ensures.walks plan.program plan.nodes plan.lines acts is.walks)
    (λ walks. act_passed plan acts act c.args.self.now _ is c.in_ok-self.ensures (c.in_ok-close.ensures acts is.closed) walks c.follow.ensures.end
    (c.lead.ensures.led plan acts is.ways) (notes_passed plan acts act c.note.new.self noted))
