-- By how the races are put together.
use Rattle.std.proofs.Common.{subst, sym}
use Rattle.lrc_cli_args.specs.declared.choice.Grouping.{Grouping}
use Rattle.lrc_shell.specs.Plays.{IsRacingTold}
use Rattle.lrc_shell.proofs.races.tell_racing.Goals as goal

pub returns-in-Each : goal.returns-in-Each
returns-in-Each g c =
    subst (λ (grouping : Grouping). IsRacingTold (g.F.Sources.known c.args.sources.now) c.args.racing.now grouping
    (g.W.Write.contents c.args.out.now) (g.W.Write.contents c.tell_races.new.out) (g.E.Write.contents c.args.err.now)
    (g.E.Write.contents c.tell_races.new.err) c.tell_races.result) (sym c.in-Each.is) c.tell_races.ensures

pub returns-in-Groups : goal.returns-in-Groups
returns-in-Groups g c =
    subst (λ (grouping : Grouping). IsRacingTold (g.F.Sources.known c.args.sources.now) c.args.racing.now grouping
    (g.W.Write.contents c.args.out.now) (g.W.Write.contents c.tell_races-in-Groups.new.out) (g.E.Write.contents c.args.err.now)
    (g.E.Write.contents c.tell_races-in-Groups.new.err) c.tell_races-in-Groups.result) (sym c.in-Groups.is) c.tell_races-in-Groups.ensures

pub returns-in-Locations : goal.returns-in-Locations
returns-in-Locations g c =
    subst (λ (grouping : Grouping). IsRacingTold (g.F.Sources.known c.args.sources.now) c.args.racing.now grouping
    (g.W.Write.contents c.args.out.now) (g.W.Write.contents c.tell_locations.new.out) (g.E.Write.contents c.args.err.now)
    (g.E.Write.contents c.tell_locations.new.err) c.tell_locations.result) (sym c.in-Locations.is) c.tell_locations.ensures
