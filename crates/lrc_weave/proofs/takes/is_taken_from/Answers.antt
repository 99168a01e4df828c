use Rattle.std.proofs.Common.{rules, subst, sym, IfOk, IsTrue, ◌↔◌}
use Rattle.lrc_post.specs.declared.parcel.Wire.{Wire}
use Rattle.lrc_weave.specs.Matched.{message_of}
use Rattle.lrc_weave.specs.Compared.{IsTakenAs}
use Rattle.lrc_weave.proofs.Spellings.{taken_from}
use Rattle.lrc_weave.proofs.takes.is_taken_from.Goals as goal

pub returns-in-Put : goal.returns-in-Put
returns-in-Put c =
    subst (λ (w : Wire). IfOk c.is_written.result (λ is. IsTrue is ↔ IsTakenAs (message_of w) c.args.envelope.now c.args.before c.args.stamp))
    (sym c.in-Put.is) (
    taken_from c.args.before c.args.stamp c.in-Put.sent c.args.envelope.now c.in-Put.bytes c.deref.result.now _
    c.is_written.result (search rules) (search rules) c.is_written.ensures
    )
