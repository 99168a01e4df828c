-- By what the name means.
use Rattle.std.proofs.Common.{◌≡◌, ◌⊎◌, sym, ap, subst, ◌∙◌}
use Rattle.std.specs.Prelude.{Some, true}
use Rattle.lrc_named_tree.specs.View.{expressions_of, named_of}
use Rattle.lrc_named_names.specs.View.{meaning_seen}
use Rattle.lrc_named_expression_faults.specs.declared.fault.FaultKind.TheVariants.{UnknownName, WrongUse}
use Rattle.lrc_named_expression_faults.specs.Expressions.{AreWrongIndices, IsWrongUse}
use Rattle.lrc_named_expression_faults.specs.Fault.{IsFirstOf, fault_at}
use Rattle.lrc_named_expression_faults.specs.Scope.{declared}
use Rattle.lrc_named_expression_faults.specs.View.{sense_seen}
use Rattle.lrc_named_expression_faults.proofs.First.{earlier_first, only_if_first, told_as}
use Rattle.lrc_named_expression_faults.proofs.Inside.{element_as}
use Rattle.lrc_named_expression_faults.proofs.scope.Scope.in_element.Goals as goal

pub returns-in-Unknown : goal.returns-in-Unknown
returns-in-Unknown c =
    element_as c.args.self.now.is_constant (named_of c.args.name) (expressions_of c.args.indices.now) (sense_seen c.args.sense) _ (Some c.at_token.result)
    (ap sense_seen c.in-Unknown.is) (told_as c.at_token.result (fault_at c.args.name.at UnknownName) c.at_token.ensures)

pub returns-in-Parameter : goal.returns-in-Parameter
returns-in-Parameter c =
    element_as c.args.self.now.is_constant (named_of c.args.name) (expressions_of c.args.indices.now) (sense_seen c.args.sense) _ c.indexed.result
    (ap sense_seen c.in-Parameter.is) c.indexed.ensures

pub returns-in-Private : goal.returns-in-Private
returns-in-Private c =
    element_as c.args.self.now.is_constant (named_of c.args.name) (expressions_of c.args.indices.now) (sense_seen c.args.sense) _ c.indexed-in-Private.result
    (ap sense_seen c.in-Private.is) c.indexed-in-Private.ensures

pub returns-in-Constant : goal.returns-in-Constant
returns-in-Constant c =
    element_as c.args.self.now.is_constant (named_of c.args.name) (expressions_of c.args.indices.now) (sense_seen c.args.sense) _ c.indexed-in-Constant.result
    (ap sense_seen c.in-Declared.is ∙ ap (λ m. declared (meaning_seen m)) c.in-Constant.is) c.indexed-in-Constant.ensures

pub returns-in-Lock : goal.returns-in-Lock
returns-in-Lock c =
    element_as c.args.self.now.is_constant (named_of c.args.name) (expressions_of c.args.indices.now) (sense_seen c.args.sense) _ (Some c.at_token-in-Lock.result)
    (ap sense_seen c.in-Declared.is ∙ ap (λ m. declared (meaning_seen m)) c.in-Lock.is)
    (told_as c.at_token-in-Lock.result (fault_at c.args.name.at WrongUse) c.at_token-in-Lock.ensures)

pub returns-in-Function : goal.returns-in-Function
returns-in-Function c =
    element_as c.args.self.now.is_constant (named_of c.args.name) (expressions_of c.args.indices.now) (sense_seen c.args.sense) _ (Some c.at_token-in-Function.result)
    (ap sense_seen c.in-Declared.is ∙ ap (λ m. declared (meaning_seen m)) c.in-Function.is)
    (told_as c.at_token-in-Function.result (fault_at c.args.name.at WrongUse) c.at_token-in-Function.ensures)

pub returns-in-Shared : goal.returns-in-Shared
returns-in-Shared c =
    let named = named_of c.args.name in
    let indices = expressions_of c.args.indices.now in
    let k = c.args.self.now.is_constant in
    let sizes = c.in-Shared.item.sizes.items in
    let own = only_if_first k c.at_token-wrong.result (fault_at c.args.name.at WrongUse) c.only_if-own.result c.only_if-own.ensures c.at_token-wrong.ensures in
    let counted = subst (λ l. IsFirstOf (λ f. AreWrongIndices named indices l f) c.wrong_indices.result) c.deref.ensures.value c.wrong_indices.ensures in
    element_as k named indices (sense_seen c.args.sense) _ c.earlier.result
    (ap sense_seen c.in-Declared.is ∙ ap (λ m. declared (meaning_seen m)) c.in-Shared.is)
    (subst (λ r. IsFirstOf (λ f. ((k ≡ true) × IsWrongUse named f) ⊎ AreWrongIndices named indices sizes f) r) (sym c.earlier.ensures)
    (earlier_first (λ f. (k ≡ true) × IsWrongUse named f) (λ f. AreWrongIndices named indices sizes f) c.only_if-own.result c.wrong_indices.result own counted))
