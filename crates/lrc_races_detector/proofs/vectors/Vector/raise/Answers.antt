-- It is raised among the recent ones.
use Rattle.std.proofs.Common.{sym, subst}
use Rattle.std.specs.Prelude.{Option}
use Rattle.std.proofs.lemmas.Result.{on_ok_weaker}
use Rattle.lrc_races_detector.specs.declared.vectors.Entry.{Entry}
use Rattle.lrc_races_detector.specs.Vectors.{IsRaised, held, rest, with_apart}
use Rattle.lrc_races_detector.proofs.Entries.{raised_among}
use Rattle.lrc_races_detector.proofs.vectors.Vector.raise.Goals as goal

pub returns : goal.returns
returns c =
    let self = c.args.self.now in
    let after = c.note.new.self in
    let e = c.args.entry in
    on_ok_weaker c.note.result (λ raised.
    subst (λ (o : Option Entry). IsRaised (held self) (with_apart o (rest after)) e.thread e.value) (sym c.note.ensures.apart)
    (raised_among self.apart (rest self) (rest after) e.thread e.value raised)) c.note.ensures.rest
