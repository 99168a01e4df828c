use Rattle.std.proofs.Common.{◌≡◌, ◌≤◌, ◌∙◌, Some, ap, refl, rules, subst}
use Rattle.lrc_protocol.specs.declared.event.Event.TheVariants as events
use Rattle.lrc_protocol.specs.Run as log
use Rattle.lrc_protocol.specs.Run.{EntryRecord}
use Rattle.lrc_world.specs.declared.world.World.{World}
use Rattle.lrc_world.specs.World.{AddsTo, NodeLogsLast}
use Rattle.lrc_world.specs.Turned.{node_by}
use Rattle.lrc_world.proofs.Noted.{no_node, none_made, notes_none, notes_same, who_made}
use Rattle.lrc_world.proofs.Played.{goes, rests, fails}
use Rattle.lrc_world.proofs.world.World.go_on.Goals as goal

pub returns-in_default-clause-plays : goal.returns-in_default-clause-plays
returns-in_default-clause-plays c = λ starts run shows.
    let large : 256 ≤ c.args.node = search rules in
    (run, ap (log.input_to run run.flight c.args.node log.run 0) (no_node starts c.args.self.now run c.args.node shows large), shows)

pub returns-in_default-clause-turned : goal.returns-in_default-clause-turned
returns-in_default-clause-turned c = λ starts run shows.
    let large : 256 ≤ c.args.node = search rules in
    notes_none c.args.self.now c.args.self.now (events.Run c.args.node) _
    (ap (node_by c.args.node log.run 0) (no_node starts c.args.self.now run c.args.node shows large)) refl

pub returns-then-branch-clause-plays : goal.returns-then-branch-clause-plays
returns-then-branch-clause-plays c = λ starts run shows.
    let same : c.in-Ok.number ≡ c.args.node = search rules in
    let mid : World = record c.args.self.now { nodes = c.run_at-outcome.new.nodes } in
    goes starts c.args.self.now mid c.follow.new.self run c.args.node log.run 0
    c.run_at-outcome.result c.follow.result shows
    c.run_at-outcome.ensures (search rules) refl refl refl
    (subst (λ n. (e : EntryRecord) → NodeLogsLast mid n e → AddsTo mid c.follow.new.self n e c.follow.result) same c.follow.ensures.adds)

pub returns-then-branch-clause-turned : goal.returns-then-branch-clause-turned
returns-then-branch-clause-turned c = λ starts run shows.
    let same : c.in-Ok.number ≡ c.args.node = search rules in
    let mid : World = record c.args.self.now { nodes = c.run_at-outcome.new.nodes } in
    notes_same c.args.self.now c.follow.new.self c.args.self.now.keep c.args.self.now.turned.items (events.Run c.args.node) (Some c.in-Ok.number) _
    c.follow.result refl refl
    (ap Some same ∙ who_made starts c.args.self.now mid run c.args.node log.run 0 c.run_at-outcome.result shows c.run_at-outcome.ensures (search rules))
    c.follow.ensures.turned

pub returns-in_err-is_made-clause-plays : goal.returns-in_err-is_made-clause-plays
returns-in_err-is_made-clause-plays c = λ starts run shows.
    fails starts c.args.self.now _ run c.args.node log.run 0 shows refl refl refl c.run_at-outcome.result c.run_at-outcome.ensures
    c.in_err-is_made.field-0.0 (search rules) c.from_residual.result c.from_residual.ensures.1

pub returns-else-branch-clause-plays : goal.returns-else-branch-clause-plays
returns-else-branch-clause-plays c = λ starts run shows.
    rests starts c.args.self.now _ run c.args.node log.run 0 shows refl refl refl c.run_at-outcome.result c.run_at-outcome.ensures (search rules)

pub returns-else-branch-clause-turned : goal.returns-else-branch-clause-turned
returns-else-branch-clause-turned c = λ starts run shows.
    let mid : World = record c.args.self.now { nodes = c.run_at-outcome.new.nodes } in
    notes_none c.args.self.now mid (events.Run c.args.node) _
    (none_made starts c.args.self.now mid run c.args.node log.run 0 c.run_at-outcome.result shows c.run_at-outcome.ensures (search rules)) refl
