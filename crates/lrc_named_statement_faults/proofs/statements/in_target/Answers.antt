-- By what the name means.
use Rattle.std.proofs.Common.{ap, subst, ◌∙◌}
use Rattle.std.specs.Prelude.{Some}
use Rattle.lrc_named_tree.specs.View.{expressions_of, named_of}
use Rattle.lrc_named_names.specs.View.{meaning_seen}
use Rattle.lrc_named_expression_faults.specs.declared.fault.FaultKind.TheVariants.{UnknownName, WrongUse}
use Rattle.lrc_named_expression_faults.specs.Expressions.{AreWrongIndices}
use Rattle.lrc_named_expression_faults.specs.Fault.{IsFirstOf, fault_at}
use Rattle.lrc_named_expression_faults.specs.Scope.{declared}
use Rattle.lrc_named_expression_faults.specs.View.{sense_seen}
use Rattle.lrc_named_expression_faults.proofs.First.{told_as}
use Rattle.lrc_named_statement_faults.proofs.Senses.{target_as}
use Rattle.lrc_named_statement_faults.proofs.statements.in_target.Goals as goal

pub returns-in-Unknown : goal.returns-in-Unknown
returns-in-Unknown c =
    target_as (named_of c.args.name) (expressions_of c.args.indices.now) (sense_seen c.args.sense) _ (Some c.at_token.result)
    (ap sense_seen c.in-Unknown.is)
    (told_as c.at_token.result (fault_at c.args.name.at UnknownName) c.at_token.ensures)

pub returns-in-Parameter : goal.returns-in-Parameter
returns-in-Parameter c =
    target_as (named_of c.args.name) (expressions_of c.args.indices.now) (sense_seen c.args.sense) _ (Some c.at_token-in-Parameter.result)
    (ap sense_seen c.in-Parameter.is)
    (told_as c.at_token-in-Parameter.result (fault_at c.args.name.at WrongUse) c.at_token-in-Parameter.ensures)

pub returns-in-Private : goal.returns-in-Private
returns-in-Private c =
    target_as (named_of c.args.name) (expressions_of c.args.indices.now) (sense_seen c.args.sense) _ c.indexed.result
    (ap sense_seen c.in-Private.is)
    c.indexed.ensures

pub returns-in-Constant : goal.returns-in-Constant
returns-in-Constant c =
    target_as (named_of c.args.name) (expressions_of c.args.indices.now) (sense_seen c.args.sense) _ (Some c.at_token-in-Constant.result)
    (ap sense_seen c.in-Declared.is ∙ ap (λ m. declared (meaning_seen m)) c.in-Constant.is)
    (told_as c.at_token-in-Constant.result (fault_at c.args.name.at WrongUse) c.at_token-in-Constant.ensures)

pub returns-in-Shared : goal.returns-in-Shared
returns-in-Shared c =
    target_as (named_of c.args.name) (expressions_of c.args.indices.now) (sense_seen c.args.sense) _ c.wrong_indices.result
    (ap sense_seen c.in-Declared.is ∙ ap (λ m. declared (meaning_seen m)) c.in-Shared.is)
    (subst (λ l. IsFirstOf (λ f. AreWrongIndices (named_of c.args.name) (expressions_of c.args.indices.now) l f) c.wrong_indices.result) c.deref.ensures.value c.wrong_indices.ensures)

pub returns-in-Lock : goal.returns-in-Lock
returns-in-Lock c =
    target_as (named_of c.args.name) (expressions_of c.args.indices.now) (sense_seen c.args.sense) _ (Some c.at_token-in-Lock.result)
    (ap sense_seen c.in-Declared.is ∙ ap (λ m. declared (meaning_seen m)) c.in-Lock.is)
    (told_as c.at_token-in-Lock.result (fault_at c.args.name.at WrongUse) c.at_token-in-Lock.ensures)

pub returns-in-Function : goal.returns-in-Function
returns-in-Function c =
    target_as (named_of c.args.name) (expressions_of c.args.indices.now) (sense_seen c.args.sense) _ (Some c.at_token-in-Function.result)
    (ap sense_seen c.in-Declared.is ∙ ap (λ m. declared (meaning_seen m)) c.in-Function.is)
    (told_as c.at_token-in-Function.result (fault_at c.args.name.at WrongUse) c.at_token-in-Function.ensures)
