-- By what the name means.
use Rattle.std.proofs.Common.{◌≡◌, map, sym, ap, ◌∙◌}
use Rattle.std.specs.Prelude.{Some}
use Rattle.std.proofs.lemmas.List.{length-map}
use Rattle.lrc_named_tree.specs.View.{expression_of, expressions_of, named_of}
use Rattle.lrc_named_names.specs.Names.{function}
use Rattle.lrc_named_names.specs.View.{meaning_seen}
use Rattle.lrc_named_expression_faults.specs.declared.fault.FaultKind.TheVariants.{UnknownName, WrongUse}
use Rattle.lrc_named_expression_faults.specs.Fault.{fault_at}
use Rattle.lrc_named_expression_faults.specs.Scope.{declared, sense_of}
use Rattle.lrc_named_expression_faults.specs.View.{scope_of}
use Rattle.lrc_named_expression_faults.proofs.First.{told_as}
use Rattle.lrc_named_expression_faults.proofs.Inside.{call_as}
use Rattle.lrc_named_expression_faults.proofs.Senses.{declared_means}
use Rattle.lrc_named_expression_faults.proofs.scope.Scope.in_call.Goals as goal

pub returns-in-Unknown : goal.returns-in-Unknown
returns-in-Unknown c =
    call_as (scope_of c.args.self.now) (named_of c.args.name) (expressions_of c.args.arguments.now) c.args.close _ (sense_of (scope_of c.args.self.now) c.args.name.bytes.now)
    (Some c.at_token.result) (c.in-Unknown.ensures) (told_as c.at_token.result (fault_at c.args.name.at UnknownName) c.at_token.ensures)

pub returns-in-Parameter : goal.returns-in-Parameter
returns-in-Parameter c =
    call_as (scope_of c.args.self.now) (named_of c.args.name) (expressions_of c.args.arguments.now) c.args.close _ (sense_of (scope_of c.args.self.now) c.args.name.bytes.now)
    (Some c.at_token-in-Parameter.result) (c.in-Parameter.ensures) (told_as c.at_token-in-Parameter.result (fault_at c.args.name.at WrongUse) c.at_token-in-Parameter.ensures)

pub returns-in-Private : goal.returns-in-Private
returns-in-Private c =
    call_as (scope_of c.args.self.now) (named_of c.args.name) (expressions_of c.args.arguments.now) c.args.close _ (sense_of (scope_of c.args.self.now) c.args.name.bytes.now)
    (Some c.at_token-in-Private.result) (c.in-Private.ensures) (told_as c.at_token-in-Private.result (fault_at c.args.name.at WrongUse) c.at_token-in-Private.ensures)

pub returns-in-Constant : goal.returns-in-Constant
returns-in-Constant c =
    call_as (scope_of c.args.self.now) (named_of c.args.name) (expressions_of c.args.arguments.now) c.args.close _ (sense_of (scope_of c.args.self.now) c.args.name.bytes.now)
    (Some c.at_token-in-Constant.result) (ap (λ m. declared (meaning_seen m)) (sym c.in-Constant.is) ∙ c.in-Declared.ensures) (told_as c.at_token-in-Constant.result (fault_at c.args.name.at WrongUse) c.at_token-in-Constant.ensures)

pub returns-in-Shared : goal.returns-in-Shared
returns-in-Shared c =
    call_as (scope_of c.args.self.now) (named_of c.args.name) (expressions_of c.args.arguments.now) c.args.close _ (sense_of (scope_of c.args.self.now) c.args.name.bytes.now)
    (Some c.at_token-in-Shared.result) (ap (λ m. declared (meaning_seen m)) (sym c.in-Shared.is) ∙ c.in-Declared.ensures) (told_as c.at_token-in-Shared.result (fault_at c.args.name.at WrongUse) c.at_token-in-Shared.ensures)

pub returns-in-Lock : goal.returns-in-Lock
returns-in-Lock c =
    call_as (scope_of c.args.self.now) (named_of c.args.name) (expressions_of c.args.arguments.now) c.args.close _ (sense_of (scope_of c.args.self.now) c.args.name.bytes.now)
    (Some c.at_token-in-Lock.result) (ap (λ m. declared (meaning_seen m)) (sym c.in-Lock.is) ∙ c.in-Declared.ensures) (told_as c.at_token-in-Lock.result (fault_at c.args.name.at WrongUse) c.at_token-in-Lock.ensures)

pub returns-in-Function : goal.returns-in-Function
returns-in-Function c =
    let scope = scope_of c.args.self.now in
    let own = map named_of c.in-Function.parameters.now in
    let body = expression_of c.in-Function.field-1.now in
    let is : declared (function own body) ≡ sense_of scope c.args.name.bytes.now = ap (λ m. declared (meaning_seen m)) (sym c.in-Function.is) ∙ c.in-Declared.ensures in
    call_as scope (named_of c.args.name) (expressions_of c.args.arguments.now) c.args.close (declared (function own body)) (sense_of scope c.args.name.bytes.now)
    c.in_function_call.result is
    (c.in_function_call.ensures own body (sym (length-map c.in-Function.parameters.now named_of)) (declared_means scope c.args.name.bytes.now (function own body) is))
