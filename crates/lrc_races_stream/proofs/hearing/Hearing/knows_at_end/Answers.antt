-- So many lines are good.
use Rattle.std.proofs.Common.{Bool, subst}
use Rattle.lrc_races_front.specs.Steps.{HasEnded}
use Rattle.lrc_races_stream.proofs.HearingLemmas.{any_sought, bad_ended, good_ended}
use Rattle.lrc_races_stream.proofs.hearing.Hearing.knows_at_end.Goals as goal

pub returns-in-Ok-false-clause-count : goal.returns-in-Ok-false-clause-count
returns-in-Ok-false-clause-count c =
    good_ended c.args.self.now.front c.end.new.self c.args.count
    (subst (λ (come : Bool). HasEnded any_sought c.args.self.now.front c.end.new.self come) c.in-Ok-false.field-0-test c.in-Ok-false.ensures.ok)

pub returns-in-Err-BadEvent-clause-count : goal.returns-in-Err-BadEvent-clause-count
returns-in-Err-BadEvent-clause-count c =
    bad_ended c.args.self.now.front c.end.new.self.kept _ c.in-Err-BadEvent.line c.args.count _ c.in-Err-BadEvent.field-0-is
    c.in-Err-BadEvent.ensures.bad
