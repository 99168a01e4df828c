use Rattle.lrc_races_text.specs.Tables.{naming_of}
use Rattle.lrc_races_why.proofs.Answering.{shown_before}
use Rattle.lrc_races_why.proofs.answer.push_told.Goals as goal

pub returns : goal.returns
returns c = λ a b at there.
    shown_before c.args.form (naming_of c.args.names.now) c.args.events.now c.args.lines.now c.args.earlier c.args.later a b at there a b at there
    c.args.text.now.items _ _ _ (c.in_ok-push_at.ensures a at) (c.in_ok-push_at-2.ensures b there) (c.in_ok-push_why.ensures a b at there)
