-- What is known is noted.
use Rattle.std.proofs.Common.{◌∙◌, List, ℕ, subst}
use Rattle.lrc_shell_sources.specs.Lines.{IsTold}
use Rattle.lrc_races_notes.specs.Noter.{notes_of}
use Rattle.lrc_races_stream.specs.Noted.{lacking, noted}
use Rattle.lrc_races_stream.proofs.NotedLemmas.{part_of}
use Rattle.lrc_races_stream.proofs.TellerLemmas.{nothing_said}
use Rattle.lrc_races_stream.proofs.noted.note.Goals as goal

pub returns-in-Ok : goal.returns-in-Ok
returns-in-Ok g c =
    noted (notes_of c.noted_by.result) (λ form held last known. part_of form held last c.args.noter c.noted_by.result c.args.answer c.noted_by.ensures known)
    (subst (λ (text : List ℕ). IsTold (g.E.Write.contents c.args.err.now) (g.E.Write.contents c.tell_line.new.err) text)
    (c.deref.ensures.value ∙ c.in-Ok.ensures) c.tell_line.ensures)

pub returns-in-Err : goal.returns-in-Err
returns-in-Err g c = lacking (nothing_said (g.E.Write.contents c.args.err.now))
