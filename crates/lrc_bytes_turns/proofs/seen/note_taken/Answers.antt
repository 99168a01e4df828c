use Rattle.std.proofs.Common.{rules, ap, sym, ◌∙◌}
use Rattle.std.specs.Prelude.{◌||◌}
use Rattle.lrc_log.specs.Input.{seen_input}
use Rattle.lrc_turns_text.specs.Told.{holds_key}
use Rattle.lrc_turns_text.specs.TurnsText.{takes_numbered}
use Rattle.lrc_turns_text.proofs.Noting.{noted_one}
use Rattle.lrc_bytes_turns.proofs.seen.note_taken.Goals as goal

pub returns-in_ok-insert-in-Taken-clause-more : goal.returns-in_ok-insert-in-Taken-clause-more
returns-in_ok-insert-in-Taken-clause-more c = λ other from number.
    noted_one other from number c.args.node c.in-Taken.envelope.value c.envelope.inside.from c.envelope.inside.number c.args.taken.now.keys
    c.insert.new.self.keys (c.in_ok-insert-in-Taken.ensures.updates.0 (other, (from, number))) (search rules) (search rules)
    ∙ ap (λ i. takes_numbered other from number c.args.node (seen_input i) || holds_key c.args.taken.now.keys other from number) (sym c.in-Taken.is)
