use Rattle.std.proofs.Common.{◌++◌, Option, subst, sym}
use Rattle.std.specs.Option.{option_to_list}
use Rattle.lrc_trace.specs.declared.act.Act.{Act}
use Rattle.lrc_replay.specs.Courses.{IsCourse}
use Rattle.lrc_replay.proofs.Coursing.{no_act}
use Rattle.lrc_replay.proofs.course.Course.follow.Goals as goal

pub returns-in-None-clause-course : goal.returns-in-None-clause-course
returns-in-None-clause-course c plan acts is =
    subst (λ (o : Option Act). IsCourse plan (acts ++ option_to_list o) c.args.self.now) (sym c.in-None.is) (no_act plan acts c.args.self.now is)
