-- So many lines are good.
use Rattle.std.proofs.Common.{Bool, subst}
use Rattle.lrc_races_front.specs.Steps.{HasGoneOn}
use Rattle.lrc_races_stream.proofs.HearingLemmas.{any_sought, bad_taken, good_taken}
use Rattle.lrc_races_stream.proofs.hearing.Hearing.knows.Goals as goal

pub returns-in-Ok-false-clause-count : goal.returns-in-Ok-false-clause-count
returns-in-Ok-false-clause-count c =
    good_taken c.args.self.now.front c.take.new.self c.args.block.now c.args.count
    (subst (λ (come : Bool). HasGoneOn any_sought c.args.self.now.front c.args.block.now c.take.new.self come) c.in-Ok-false.field-0-test
    c.in-Ok-false.ensures.ok)

pub returns-in-Err-BadEvent-clause-count : goal.returns-in-Err-BadEvent-clause-count
returns-in-Err-BadEvent-clause-count c =
    bad_taken c.args.self.now.front c.take.new.self.kept _ c.in-Err-BadEvent.line c.args.count _ c.args.block.now c.in-Err-BadEvent.field-0-is
    c.in-Err-BadEvent.ensures.bad
