use Rattle.std.proofs.Common.{sym, subst}
use Rattle.std.proofs.lemmas.Result.{IfOk-from_err, err_from_is_err_and}
use Rattle.lrc_lang.specs.Faults.{IsText}
use Rattle.lrc_lang.specs.Parser.SeenState.{state_seen}
use Rattle.lrc_lang.specs.Parser.State.{program_in}
use Rattle.lrc_lang.proofs.Sizes.{text_names, text_depth, text_operators}
use Rattle.lrc_lang.proofs.parser.read_from.Goals as goal

pub take_program-requires-clause-names : goal.take_program-requires-clause-names
take_program-requires-clause-names c = text_names c.args.text.now (program_in (state_seen c.read_into.new.state)) c.in_ok-read_into.ensures.program

pub take_program-requires-clause-depth : goal.take_program-requires-clause-depth
take_program-requires-clause-depth c = text_depth c.args.text.now (program_in (state_seen c.read_into.new.state)) c.in_ok-read_into.ensures.program

pub take_program-requires-clause-operators : goal.take_program-requires-clause-operators
take_program-requires-clause-operators c =
    text_operators c.args.text.now (program_in (state_seen c.read_into.new.state)) c.in_ok-read_into.ensures.program

pub returns-clause-program : goal.returns-clause-program
returns-clause-program c = subst (IsText c.args.text.now) (sym c.take_program.ensures) c.in_ok-read_into.ensures.program

pub returns-in_err-read_into-clause-program : goal.returns-in_err-read_into-clause-program
returns-in_err-read_into-clause-program c = IfOk-from_err c.from_residual.result _ c.from_residual.ensures.0

pub returns-in_err-read_into-clause-fault : goal.returns-in_err-read_into-clause-fault
returns-in_err-read_into-clause-fault c =
    let p = err_from_is_err_and c.from_residual.result c.from_residual.ensures.1 in
    rw (p.1, p.2) c.in_err-read_into.ensures.fault
