use Rattle.std.proofs.Common.{rules, ◌≡◌, Some, ◌∙◌}
use Rattle.lrc_named_statement.specs.Body.{whole_of}
use Rattle.lrc_named_statement.specs.Seen.{body_seen}
use Rattle.lrc_named_parse.specs.State.{at, ended}
use Rattle.lrc_named_parse.specs.SeenState.{declared_seen, state_seen}
use Rattle.lrc_named_parse.proofs.Ending.{finished_with, finished_fails}
use Rattle.lrc_named_parse.proofs.state.State.end_statements.Goals as goal

pub returns-in-Ok : goal.returns-in-Ok
returns-in-Ok c =
    let last : at (declared_seen c.args.self.now) (ended (body_seen c.finish.new.self).before) ≡ Some (state_seen c.go_to.new.self) = search rules in
    finished_with (declared_seen c.args.self.now) (whole_of (body_seen c.args.self.now.body)) (body_seen c.finish.new.self) c.in-Ok.ensures ∙ last

pub returns-in-Err : goal.returns-in-Err
returns-in-Err c = finished_fails c.in-Err.kind (declared_seen c.args.self.now) (whole_of (body_seen c.args.self.now.body)) c.in-Err.ensures
