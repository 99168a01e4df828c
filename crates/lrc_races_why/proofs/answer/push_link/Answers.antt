-- The line of the step.
use Rattle.std.proofs.lemmas.Option.{slice_get-get_or}
use Rattle.lrc_races_text.specs.Tables.{naming_of}
use Rattle.lrc_races_why.proofs.Answering.{step_added}
use Rattle.lrc_races_why.proofs.answer.push_link.Goals as goal

pub returns : goal.returns
returns c = λ p.
    let events = c.args.events.now in
    step_added c.args.form (naming_of c.args.names.now) events c.args.lines.now c.args.from c.args.to _ _ c.link_of-link.result c.text_at.result.now
    c.args.text.now.items _ c.in_ok-push_step.ensures c.text_at.ensures (record { is = slice_get-get_or events c.args.from _ c.requires.first })
    (record { is = slice_get-get_or events c.args.to _ c.requires.second })
    (c.link_of-link.ensures events c.args.from c.args.to p (record { is = slice_get-get_or events c.args.from _ c.requires.first })
    (record { is = slice_get-get_or events c.args.to _ c.requires.second }))
