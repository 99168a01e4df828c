use Rattle.std.proofs.Common.{◌≡◌, ◌∙◌, ◌<◌, ◌≤◌, ◌⊎◌, inl, inr, false, true, ap, arith, map, sym, subst, rules}
use Rattle.std.specs.Prelude.{All, MatchOption}
use Rattle.lrc_judge.specs.Races.{AreNamedRaces}
use Rattle.lrc_trace.specs.Conflict.{IsFirstRace, IsRaceFree}
use Rattle.lrc_world.specs.Ends.{ends_of}
use Rattle.lrc_world.specs.Turned.{HaveLogs, turned_of, when_all}
use Rattle.lrc_node.specs.Options.{options_of}
use Rattle.lrc_run.specs.Run.{IsUntold, IsWovenReport}
use Rattle.lrc_run.proofs.Telling.{acts_own, acts_told, left_over, over_told, raceless_told, races_told, report_told, run_told, traces_told}
use Rattle.lrc_run.proofs.Telling.{same_origins, weave_told, woven_told}
use Rattle.lrc_run.proofs.told.told.Goals.{then-parts-via-then-parts, then-parts-via-else-parts+then-run-gt0}
use Rattle.lrc_run.proofs.told.told.Goals.{then-parts-via-else-parts+else-run-gt0+then-not-are_all_given}
use Rattle.lrc_run.proofs.told.told.Goals as goal

pub findings_of-requires : goal.findings_of-requires
findings_of-requires c =
    let program = c.args.program.now in
    let nodes = c.args.setting.now.nodes.count in
    let options = options_of c.args.setting.now in
    let parts = c.args.parts.now in
    let run = c.in_ok-run.run' in
    let logs = map (λ log. log.items) parts.logs.items in
    let m = run_told (λ log. log.items) c.as_slice-logs.result.now parts.logs.items (search rules) program nodes options run.events.items
    run.acts.items run.in_flight c.requires.turns c.in_ok-run.ensures.makes in
    let acts : c.as_slice-acts.result.now ≡ run.acts.items = search rules in
    let traces : c.as_slice-traces.result.now ≡ parts.traces.items = search rules in
    let its = traces ∙ c.requires.whole.traces_are in
    record {
      acts = subst (All (λ act. act.node < 16)) (sym acts)
          (acts_told program nodes options logs run.events.items run.acts.items run.in_flight m c.args.setting.now.nodes.few);
      traces = traces_told program nodes options logs run.events.items run.acts.items run.in_flight m c.as_slice-traces.result.now its;
      raceless = λ none. subst IsRaceFree (sym acts)
          (raceless_told program nodes options logs run.events.items run.acts.items run.in_flight m c.as_slice-traces.result.now its none);
    }

pub origins_of-requires-clause-acts : goal.origins_of-requires-clause-acts
origins_of-requires-clause-acts c =
    let program = c.args.program.now in
    let nodes = c.args.setting.now.nodes.count in
    let options = options_of c.args.setting.now in
    let parts = c.args.parts.now in
    let run = c.in_ok-run.run' in
    let logs = map (λ log. log.items) parts.logs.items in
    let m = run_told (λ log. log.items) c.as_slice-logs.result.now parts.logs.items (search rules) program nodes options run.events.items
    run.acts.items run.in_flight c.requires.turns c.in_ok-run.ensures.makes in
    let acts : c.as_slice-acts.result.now ≡ run.acts.items = search rules in
    let count : c.number-nodes.result ≡ nodes = search rules in
    subst (λ n. All (λ act. act.node < n) c.as_slice-acts.result.now) (sym count)
    (subst (All (λ act. act.node < nodes)) (sym acts)
    (acts_own program nodes options logs run.events.items run.acts.items run.in_flight m))

pub returns-then-parts-clause-mismatch : goal.returns-then-parts-clause-mismatch
returns-then-parts-clause-mismatch c = λ answered.
    let program = c.args.program.now in
    let nodes = c.args.setting.now.nodes.count in
    let options = options_of c.args.setting.now in
    let parts = c.args.parts.now in
    let run = c.in_ok-run.run' in
    let logs = map (λ log. log.items) parts.logs.items in
    let m = run_told (λ log. log.items) c.as_slice-logs.result.now parts.logs.items (search rules) program nodes options run.events.items
    run.acts.items run.in_flight c.requires.turns c.in_ok-run.ensures.makes in
    let woven = weave_told (λ log. log.items) c.as_slice-logs.result.now parts.logs.items (search rules) program nodes options run.events.items
    c.requires.turns c.in_ok-run.ensures.woven in
    let unfinished : (parts.is_any_ready ≡ true) ⊎ (1 ≤ run.in_flight) → IsUntold program nodes options logs c.args.wires.now = λ left.
    inr (inl (
      run.events.items,
      woven.0,
      woven.1,
      left_over program nodes options logs run.events.items run.acts.items run.in_flight m parts.is_any_ready c.requires.whole.ready_is left,
    )) in
    elim c.then-parts.branch [
      | then-parts-via-then-parts w ↦ unfinished (inl (search rules))
      | then-parts-via-else-parts+then-run-gt0 w ↦ unfinished (inr (search rules))
      | then-parts-via-else-parts+else-run-gt0+then-not-are_all_given w ↦ inr (inr (w.are_all_given.ensures.left (search rules)))
    ]

pub returns-clause-told : goal.returns-clause-told
returns-clause-told c =
    let program = c.args.program.now in
    let nodes = c.args.setting.now.nodes.count in
    let options = options_of c.args.setting.now in
    let parts = c.args.parts.now in
    let run = c.in_ok-run.run' in
    let found = c.in_ok-found.found in
    let logs = map (λ log. log.items) parts.logs.items in
    let m = run_told (λ log. log.items) c.as_slice-logs.result.now parts.logs.items (search rules) program nodes options run.events.items
    run.acts.items run.in_flight c.requires.turns c.in_ok-run.ensures.makes in
    let woven = weave_told (λ log. log.items) c.as_slice-logs.result.now parts.logs.items (search rules) program nodes options run.events.items
    c.requires.turns c.in_ok-run.ensures.woven in
    let told = c.with_findings.result in
    let acts : c.as_slice-acts.result.now ≡ run.acts.items = search rules in
    let traces : c.as_slice-traces.result.now ≡ parts.traces.items = search rules in
    let its = traces ∙ c.requires.whole.traces_are in
    let none : parts.is_any_ready ≡ false = search rules in
    let landed : run.in_flight ≤ 0 = search rules in
    let events : c.as_slice-events.result.now ≡ run.events.items = search rules in
    let read : c.as_slice-logs.result.now ≡ parts.logs.items = search rules in
    let have : HaveLogs program nodes options c.as_slice-events.result.now (map (λ log. log.items) c.as_slice-logs.result.now) =
    subst (λ events. HaveLogs program nodes options events (map (λ log. log.items) c.as_slice-logs.result.now)) (sym events)
    (subst (λ read. HaveLogs program nodes options run.events.items (map (λ log. log.items) read)) (sym read) (m.world, m.runs, m.logs_are)) in
    let first : MatchOption found.first_race (IsRaceFree run.acts.items) (IsFirstRace run.acts.items) =
    subst (λ acts. MatchOption found.first_race (IsRaceFree acts) (IsFirstRace acts)) acts c.in_ok-found.ensures.first in
    record {
      woven = λ report reports.
          let ends : report.ends.items ≡ ends_of nodes run.acts.items =
          ap (λ ends. ends.items) (reports.ends ∙ c.with_findings.ensures.ends) ∙ c.in_ok-found.ensures.ends ∙ ap (ends_of nodes) acts in
          subst (λ events. IsWovenReport program nodes options events.items report) (sym c.with_findings.ensures.events)
          (woven_told program nodes options logs run.events.items run.acts.items run.in_flight m report
          (report_told program nodes options logs run.events.items run.acts.items run.in_flight m report
          (ap (λ acts. acts.items) (reports.acts ∙ c.with_findings.ensures.acts)) ends reports.turns
          (subst (λ first. MatchOption first (IsRaceFree run.acts.items) (IsFirstRace run.acts.items)) (sym (reports.first ∙ c.with_findings.ensures.first)) first))
          reports.turns woven
          (over_told program nodes options logs run.events.items run.acts.items run.in_flight m parts.is_any_ready c.requires.whole.ready_is none landed)
          c.requires.whole.short);
      turned = ap (λ turned. turned.items) c.with_findings.ensures.turned
          ∙ c.in_ok-turned.ensures program nodes options (omega (arith, c.args.setting.now.nodes.few)) have
          ∙ ap (λ events. when_all c.args.keep (turned_of program nodes options events)) events
          ∙ ap (λ events. when_all c.args.keep (turned_of program nodes options events.items)) (sym c.with_findings.ensures.events);
      origins = same_origins c.args.keep program c.number-nodes.result nodes (map (λ log. log.items) c.as_slice-logs.result.now) logs
          c.deref.result.now told.turned.items c.as_slice-acts.result.now told.acts.items c.in_ok-origins.origins told.origins
          (search rules) (ap (map (λ log. log.items)) read)
          (c.deref.ensures.value ∙ ap (λ turned. turned.items) (sym c.with_findings.ensures.turned))
          (acts ∙ ap (λ acts. acts.items) (sym c.with_findings.ensures.acts)) (sym c.with_findings.ensures.origins) c.in_ok-origins.ensures;
      races = subst (λ acts. AreNamedRaces acts.items told.races.items) (sym c.with_findings.ensures.acts)
          (subst (λ races. AreNamedRaces run.acts.items races.items) (sym c.with_findings.ensures.races)
          (races_told program nodes options logs run.events.items run.acts.items run.in_flight m c.as_slice-traces.result.now found.races.items
          its c.in_ok-found.ensures.races));
    }
