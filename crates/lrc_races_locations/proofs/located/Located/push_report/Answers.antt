-- All is told.
use Rattle.std.proofs.Common.{refl, sym}
use Rattle.lrc_races_locations.proofs.Locating.{status_none, status_some, told_all}
use Rattle.lrc_races_locations.proofs.located.Located.push_report.Goals as goal

pub returns-then-races-eq0 : goal.returns-then-races-eq0
returns-then-races-eq0 c sought lines h =
    told_all sought c.args.form c.args.layout lines c.args.self.now _ _ _ _ c.args.text.now.items _ _ 0
    c.in_ok-push_location_lines.ensures c.in_ok-push_end_lines.ensures refl c.position.ensures c.pairs-pairs.ensures c.fault.ensures
    (sym (status_none _ c.if-races-eq0.true)) h

pub returns-else-races-eq0 : goal.returns-else-races-eq0
returns-else-races-eq0 c sought lines h =
    told_all sought c.args.form c.args.layout lines c.args.self.now _ _ _ _ c.args.text.now.items _ _ 3
    c.in_ok-push_location_lines.ensures c.in_ok-push_end_lines.ensures refl c.position.ensures c.pairs-pairs.ensures c.fault.ensures
    (sym (status_some _ c.if-races-eq0.false)) h
