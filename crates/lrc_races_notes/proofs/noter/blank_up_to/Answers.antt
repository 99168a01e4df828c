-- It is among the first lines, or behind them, or there is none.
use Rattle.std.proofs.Common.{subst}
use Rattle.lrc_races_notes.specs.Noter.{IsBlankOf}
use Rattle.lrc_races_notes.proofs.NoterLemmas.{blank_beyond, blank_within, none_take}
use Rattle.lrc_races_notes.proofs.noter.blank_up_to.Goals as goal

pub returns-then-first-count : goal.returns-then-first-count
returns-then-first-count c form lines h =
    blank_within form lines c.args.count c.in-Some.first c.if-first-count.true (subst (IsBlankOf form lines) c.in-Some.is h)

pub returns-else-first-count : goal.returns-else-first-count
returns-else-first-count c form lines h =
    blank_beyond form lines c.args.count c.in-Some.first c.if-first-count.false (subst (IsBlankOf form lines) c.in-Some.is h)

pub returns-in-None : goal.returns-in-None
returns-in-None c form lines h = none_take form c.args.count lines (subst (IsBlankOf form lines) c.in-None.is h)
