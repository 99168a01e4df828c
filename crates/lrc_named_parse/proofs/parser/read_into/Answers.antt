use Rattle.std.proofs.Common.{subst, map}
use Rattle.std.proofs.lemmas.Result.{IfOk-from_err, err_from_is_err_and}
use Rattle.lrc_named_tokens.specs.View.{located_of}
use Rattle.lrc_named_parse.specs.Faults.{HasProgram}
use Rattle.lrc_named_parse.specs.SeenState.{state_seen}
use Rattle.lrc_named_parse.specs.State.{program_in}
use Rattle.lrc_named_parse.proofs.Ending.{ended_program}
use Rattle.lrc_named_parse.proofs.parser.read_into.Goals as goal

pub returns-clause-program : goal.returns-clause-program
returns-clause-program c =
    let program = ended_program c.take_all.new.state c.take_program-program.result c.in_ok-take_all.ensures.ended
    c.take_program-program.ensures.declarations c.take_program-program.ensures.statements in
    subst (HasProgram (map located_of c.args.tokens.items)) program
    (subst (λ all. HasProgram (map located_of all) (program_in (state_seen c.take_all.new.state))) c.deref.ensures.value c.in_ok-take_all.ensures.program)

pub returns-in_err-take_all-clause-same : goal.returns-in_err-take_all-clause-same
returns-in_err-take_all-clause-same c = IfOk-from_err c.from_residual.result _ c.from_residual.ensures.0

pub returns-in_err-take_all-clause-program : goal.returns-in_err-take_all-clause-program
returns-in_err-take_all-clause-program c = IfOk-from_err c.from_residual.result _ c.from_residual.ensures.0

pub returns-in_err-take_all-clause-fault : goal.returns-in_err-take_all-clause-fault
returns-in_err-take_all-clause-fault c =
    let p = err_from_is_err_and c.from_residual.result c.from_residual.ensures.1 in
    rw (p.1, p.2) (rw c.deref.ensures.value at c.in_err-take_all.ensures.fault)
