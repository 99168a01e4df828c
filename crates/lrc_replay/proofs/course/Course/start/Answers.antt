use Rattle.std.proofs.Common.{◌≡◌, [], ℕ, refl, replicate, rules, subst}
use Rattle.lrc_replay.specs.Courses.{AreNotes, plan_of}
use Rattle.lrc_replay.proofs.Coursing.{closed_at_start, ways_at_start}
use Rattle.lrc_replay.proofs.course.Course.start.Goals as goal

pub returns-clause-course : goal.returns-clause-course
returns-clause-course c =
    let closed : c.in_ok-vec.field-0.items ≡ replicate 256 1 = search rules in
    record {
      counted = refl;
      closed = closed_at_start c.in_ok-vec.field-0.items closed;
      walks = c.in_ok-start.ensures.walks;
      end = c.in_ok-start.ensures.end;
      ways = ways_at_start (plan_of c.args.plan) c.in_ok-ways_at_start.field-0.items c.in_ok-ways_at_start.ensures.ways;
      notes = subst (λ (n : ℕ). AreNotes n [] c.in_ok-none.field-0) c.words.ensures c.in_ok-none.ensures;
    }
