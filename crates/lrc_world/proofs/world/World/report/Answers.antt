use Rattle.std.proofs.Common.{◌∙◌, MatchOption, sym, ap, subst, map}
use Rattle.lrc_trace.specs.Conflict.{IsFirstRace, IsRaceFree}
use Rattle.lrc_protocol.specs.Run.{Logged}
use Rattle.lrc_node.specs.Logged.{LoggedNode, TracedLog, sound}
use Rattle.lrc_world.specs.Report.{end_of_logged}
use Rattle.lrc_world.specs.World.{cut}
use Rattle.lrc_world.proofs.Kept.{all_logged}
use Rattle.lrc_world.proofs.Lists.{map-map}
use Rattle.lrc_world.proofs.world.World.report.Goals as goal

pub returns-clause-report : goal.returns-clause-report
returns-clause-report c = λ starts run shows. record {
  acts = shows.acts;
  first = subst (λ acts. MatchOption c.in_ok-first_race.first_race (IsRaceFree acts) (IsFirstRace acts)) (c.deref-4.ensures.value ∙ shows.acts)
      c.in_ok-first_race.ensures;
  ends = c.in_ok-ends.ensures (map (cut starts.keep) run.nodes)
      (ap (map (λ (t : TracedLog). t.logged)) c.deref.ensures.value ∙ all_logged starts c.args.self.nodes.items run.nodes shows.nodes)
      ∙ map-map end_of_logged (cut starts.keep) run.nodes;
  logs = c.in_ok-logs.ensures.logs ∙ sym (map-map (λ (l : LoggedNode). l.log) (λ (t : TracedLog). t.logged) c.args.self.nodes.items)
      ∙ ap (map (λ (l : LoggedNode). l.log)) (all_logged starts c.args.self.nodes.items run.nodes shows.nodes)
      ∙ map-map (λ (l : LoggedNode). l.log) sound (map (cut starts.keep) run.nodes)
      ∙ map-map (λ (l : Logged). l.log) (cut starts.keep) run.nodes;
}
