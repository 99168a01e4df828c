use Rattle.std.proofs.Common.{rules, ap, sym, ◌∙◌}
use Rattle.std.specs.Prelude.{◌||◌}
use Rattle.lrc_log.specs.Input.{seen_input}
use Rattle.lrc_weave.specs.Again.{has_key}
use Rattle.lrc_weave.specs.Woven.{takes_same}
use Rattle.lrc_weave.proofs.Repeated.{noted_one}
use Rattle.lrc_weave.proofs.again.note.Goals as goal

pub returns-in_ok-insert-in-Taken-clause-more : goal.returns-in_ok-insert-in-Taken-clause-more
returns-in_ok-insert-in-Taken-clause-more c = λ message.
    noted_one message c.in-Taken.envelope.value c.envelope.inside.from c.envelope.inside.number c.args.seen.now.keys c.insert.new.self.keys
    (c.in_ok-insert-in-Taken.ensures.updates.0 (message.from, message.number)) (search rules) (search rules)
    ∙ ap (λ i. takes_same message (seen_input i) || has_key c.args.seen.now.keys message) (sym c.in-Taken.is)
