-- Nothing has come.
use Rattle.lrc_races_text.specs.declared.asked.Sought.TheVariants.{AllRaces}
use Rattle.lrc_races_stream.proofs.HearingLemmas.{hears_first}
use Rattle.lrc_races_stream.proofs.NotedLemmas.{new_notes}
use Rattle.lrc_races_stream.proofs.hearing.Hearing.new.Goals as goal

pub returns : goal.returns
returns c held start =
    hears_first c.args.form held start _ (c.new-2.ensures AllRaces (c.new.ensures.none c.args.form)) (c.new-3.ensures.none c.args.form)
    (new_notes c.new-3.result c.new-3.ensures.empty)
