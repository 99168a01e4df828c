-- By what the name means.
use Rattle.std.proofs.Common.{ap}
use Rattle.std.specs.Prelude.{Some, None}
use Rattle.lrc_named_tree.specs.View.{named_of}
use Rattle.lrc_named_expression_faults.specs.declared.fault.FaultKind.TheVariants.{WrongUse}
use Rattle.lrc_named_expression_faults.specs.Fault.{fault_at}
use Rattle.lrc_named_expression_faults.specs.Scope.{private_name}
use Rattle.lrc_named_expression_faults.specs.View.{sense_seen}
use Rattle.lrc_named_expression_faults.proofs.First.{told_as}
use Rattle.lrc_named_statement_faults.proofs.Senses.{counter_as}
use Rattle.lrc_named_statement_faults.proofs.statements.in_counter.Goals as goal

pub returns-in-Unknown : goal.returns-in-Unknown
returns-in-Unknown c =
    counter_as (named_of c.args.name) (sense_seen c.args.sense) _ (Some c.at_token.result) (ap sense_seen c.in-Unknown.is)
    (told_as c.at_token.result (fault_at c.args.name.at WrongUse) c.at_token.ensures)

pub returns-in-Parameter : goal.returns-in-Parameter
returns-in-Parameter c =
    counter_as (named_of c.args.name) (sense_seen c.args.sense) _ (Some c.at_token-in-Parameter.result) (ap sense_seen c.in-Parameter.is)
    (told_as c.at_token-in-Parameter.result (fault_at c.args.name.at WrongUse) c.at_token-in-Parameter.ensures)

pub returns-in-Declared : goal.returns-in-Declared
returns-in-Declared c =
    counter_as (named_of c.args.name) (sense_seen c.args.sense) _ (Some c.at_token-in-Declared.result) (ap sense_seen c.in-Declared.is)
    (told_as c.at_token-in-Declared.result (fault_at c.args.name.at WrongUse) c.at_token-in-Declared.ensures)

pub returns-in-Private : goal.returns-in-Private
returns-in-Private c = counter_as (named_of c.args.name) (sense_seen c.args.sense) private_name None (ap sense_seen c.in-Private.is) (λ f h. h)
