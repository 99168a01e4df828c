use Rattle.std.proofs.Common.{◌++◌, ◌∷◌, [], length, sym}
use Rattle.std.proofs.lemmas.Bool.{ltb-false}
use Rattle.std.proofs.lemmas.Option.{slice_get_past}
use Rattle.lrc_bytes_turns.proofs.Telling.{eventless}
use Rattle.lrc_bytes_turns.proofs.section.Section.tell.Goals as goal

pub returns-in-None-clause-text : goal.returns-in-None-clause-text
returns-in-None-clause-text c = λ before sees.
    let events = c.args.self.now.events.now in
    let place = c.args.place in
    let none = slice_get_past events place (ltb-false place (length events) (sym c.in-None.ensures.lookup.0)) in
    eventless c.args.self.now.from c.args.self.now.to events before (before ++ c.args.turn.now ∷ []) place c.args.turn.now c.args.text.now.items none
