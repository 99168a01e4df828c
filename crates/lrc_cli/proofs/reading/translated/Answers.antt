use Rattle.std.proofs.Common.{inr, map, refl, subst, sym}
use Rattle.lrc_named_core.specs.View.{trap_of}
use Rattle.lrc_named_held.specs.Held.{held_seen}
use Rattle.lrc_cli.specs.Reading.{IsUnread}
use Rattle.lrc_cli.proofs.ReadingLemmas.{unread_named}
use Rattle.lrc_cli.proofs.reading.translated.Goals as goal

pub returns-in-Ok-clause-ok : goal.returns-in-Ok-clause-ok
returns-in-Ok-clause-ok c =
    let core = c.in-Ok.core in
    inr (c.requires, (core.lines.items, map trap_of core.traps.items, map (λ one. map held_seen one.items) core.held.items, c.in-Ok.ensures.core, refl))

pub returns-in-Err-clause-err : goal.returns-in-Err-clause-err
returns-in-Err-clause-err c =
    subst (IsUnread c.args.text.now) (sym c.fault_of.ensures) (unread_named c.args.text.now c.in-Err.fault c.requires c.in-Err.ensures.fault)
