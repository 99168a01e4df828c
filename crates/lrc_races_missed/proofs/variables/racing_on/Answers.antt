-- The line is that of the first, or not.
use Rattle.std.proofs.Common.{sym}
use Rattle.lrc_races_claims.specs.Firsts.{line_of}
use Rattle.lrc_races_missed.proofs.Testing.{racing_elsewhere, racing_here, racing_nowhere}
use Rattle.lrc_races_missed.proofs.variables.racing_on.Goals as goal

pub returns-then-first-line : goal.returns-then-first-line
returns-then-first-line c =
    racing_here c.args.variable c.args.line c.in-Some.first (line_of c.args.facts.now.firsts.marked c.args.variable) (sym c.in-Some.ensures) c.if-first-line.true

pub returns-else-first-line : goal.returns-else-first-line
returns-else-first-line c =
    racing_elsewhere c.args.variable c.args.line c.in-Some.first (line_of c.args.facts.now.firsts.marked c.args.variable) (sym c.in-Some.ensures)
    c.if-first-line.false

pub returns-in-None : goal.returns-in-None
returns-in-None c =
    racing_nowhere c.args.variable c.args.line (line_of c.args.facts.now.firsts.marked c.args.variable) (sym c.in-None.ensures)
