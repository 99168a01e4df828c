use Rattle.std.proofs.lemmas.Option.{slice_get-get_or}
use Rattle.lrc_races_text.specs.Tables.{naming_of}
use Rattle.lrc_races_why.proofs.Answering.{event_same}
use Rattle.lrc_races_why.proofs.answer.push_at.Goals as goal

pub returns : goal.returns
returns c = λ a at.
    event_same c.args.form (naming_of c.args.names.now) c.args.events.now c.args.position a _ _ _ c.args.text.now.items _ at
    (record { is = slice_get-get_or c.args.events.now c.args.position _ c.requires }) c.text_at.ensures c.in_ok-push_event.ensures
