use Rattle.std.proofs.Common.{◌⊎◌, ◌∙◌, ap, inl}
use Rattle.lrc_program.specs.declared.Program.{Program}
use Rattle.lrc_text.specs.Parts.{whole_text}
use Rattle.lrc_cli_answer.specs.Texts.{IsTextFault, IsTextOf}
use Rattle.lrc_cli_answer.proofs.FaultLemmas.{fault_up}
use Rattle.lrc_cli.specs.Answer.{IsExploration, IsSearchFault}
use Rattle.lrc_cli.specs.Reading.{exploring_for}
use Rattle.lrc_cli.proofs.ReadingLemmas.{explored_for, unexplored_for}
use Rattle.lrc_cli.proofs.explored.explored.Goals as goal

pub returns-in_err-reading-clause-err : goal.returns-in_err-reading-clause-err
returns-in_err-reading-clause-err c =
    fault_up c.from_residual.result _ _ c.from_residual.ensures.1 (inl c.in_err-reading.ensures.err)

pub returns-clause-ok : goal.returns-clause-ok
returns-clause-ok c =
    explored_for c.args.exploring.now c.exploring_for-own.result c.args.text.now _ _ c.told-told.result c.explored_as_read.result c.in_ok-reading.ensures.ok
    (c.exploring_for-own.ensures ∙ ap (exploring_for c.args.exploring.now) c.nodes.ensures) c.told-told.ensures c.explored_as_read.ensures.ok

pub returns-clause-err : goal.returns-clause-err
returns-clause-err c =
    unexplored_for c.args.exploring.now c.exploring_for-own.result c.args.text.now _ _ c.told-told.result c.explored_as_read.result c.in_ok-reading.ensures.ok
    (c.exploring_for-own.ensures ∙ ap (exploring_for c.args.exploring.now) c.nodes.ensures) c.told-told.ensures c.explored_as_read.ensures.err
