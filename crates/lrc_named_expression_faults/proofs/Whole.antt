-- The first fault of an expression, by those of its parts.
use Rattle.std.proofs.Common.{◌≡◌, ℕ, List, [], length, drop, sym, ap, subst, ◌∙◌}
use Rattle.std.specs.Prelude.{Option, Some, None, if◌then◌else◌}
use Rattle.std.proofs.Math.Seq.{drop-length}
use Rattle.lrc_program.specs.declared.Operator.{Operator}
use Rattle.lrc_named_tree.specs.declared.tree.Expression as code_expression
use Rattle.lrc_named_tree.specs.Tree.{Named, Expression, Expressions, number, me, nodes, element, call, binary, both, either}
use Rattle.lrc_named_tree.specs.View.{expression_of, expressions_of}
use Rattle.lrc_named_expression_faults.specs.declared.fault.FaultKind.TheVariants.{NotConstant}
use Rattle.lrc_named_expression_faults.specs.declared.fault.Fault.{Fault}
use Rattle.lrc_named_expression_faults.specs.Expressions.{IsInCall, IsInElement, IsInExpression, IsInIndices}
use Rattle.lrc_named_expression_faults.specs.Fault.{IsFirstOf, earlier, fault_at}
use Rattle.lrc_named_expression_faults.specs.Scope.{Scope, Sense, sense_of, shared_sizes}
use Rattle.lrc_named_expression_faults.proofs.First.{joined, nothing_first, only_if_first}

-- what is said of an expression of the code
pub first_seen : (scope : Scope) (x : code_expression.Expression) (e : Expression) (found : Option Fault) → expression_of x ≡ e
    → IsFirstOf (λ f. IsInExpression scope e f) found → IsFirstOf (λ f. IsInExpression scope (expression_of x) f) found
first_seen scope x e found is h = subst (λ y. IsFirstOf (λ f. IsInExpression scope y f) found) (sym is) h

pub number_first : (scope : Scope) (at n : ℕ) → IsFirstOf (λ f. IsInExpression scope (number at n) f) None
number_first scope at n = nothing_first

pub me_first : (scope : Scope) (at : ℕ) (x : Fault) (found : Option Fault) → found ≡ (if scope.constant then Some x else None) → x ≡ fault_at at NotConstant
    → IsFirstOf (λ f. IsInExpression scope (me at) f) found
me_first scope at x found is e = only_if_first scope.constant x (fault_at at NotConstant) found is e

pub nodes_first : (scope : Scope) (at : ℕ) (x : Fault) (found : Option Fault) → found ≡ (if scope.constant then Some x else None) → x ≡ fault_at at NotConstant
    → IsFirstOf (λ f. IsInExpression scope (nodes at) f) found
nodes_first scope at x found is e = only_if_first scope.constant x (fault_at at NotConstant) found is e

pub element_first : (scope : Scope) (named : Named) (indices : Expressions) (last : ℕ) (s : Sense) (sizes : List ℕ) (own inside found : Option Fault)
    → s ≡ sense_of scope named.bytes → sizes ≡ shared_sizes s → IsFirstOf (λ f. IsInElement scope.constant s named indices f) own
    → IsFirstOf (λ f. IsInIndices scope indices sizes f) inside → found ≡ earlier own inside
    → IsFirstOf (λ f. IsInExpression scope (element named indices last) f) found
element_first scope named indices last s sizes own inside found sense all a b is =
    let t = sense_of scope named.bytes in
    joined (λ f. IsInElement scope.constant t named indices f) (λ f. IsInIndices scope indices (shared_sizes t) f) own inside found is
    (subst (λ u. IsFirstOf (λ f. IsInElement scope.constant u named indices f) own) sense a)
    (subst (λ l. IsFirstOf (λ f. IsInIndices scope indices l f) inside) (all ∙ ap shared_sizes sense) b)

pub call_first : (scope : Scope) (named : Named) (arguments : Expressions) (close : ℕ) (sizes : List ℕ) (own inside found : Option Fault) → sizes ≡ []
    → IsFirstOf (λ f. IsInCall scope (sense_of scope named.bytes) named arguments close f) own → IsFirstOf (λ f. IsInIndices scope arguments sizes f) inside
    → found ≡ earlier own inside → IsFirstOf (λ f. IsInExpression scope (call named arguments close) f) found
call_first scope named arguments close sizes own inside found nothing a b is =
    joined (λ f. IsInCall scope (sense_of scope named.bytes) named arguments close f) (λ f. IsInIndices scope arguments [] f) own inside found is a
    (subst (λ l. IsFirstOf (λ f. IsInIndices scope arguments l f) inside) nothing b)

pub binary_first : (scope : Scope) (left right : Expression) (o : Operator) (one other found : Option Fault) → IsFirstOf (λ f. IsInExpression scope left f) one
    → IsFirstOf (λ f. IsInExpression scope right f) other → found ≡ earlier one other → IsFirstOf (λ f. IsInExpression scope (binary left o right) f) found
binary_first scope left right o one other found a b is =
    joined (λ f. IsInExpression scope left f) (λ f. IsInExpression scope right f) one other found is a b

pub both_first : (scope : Scope) (left right : Expression) (one other found : Option Fault) → IsFirstOf (λ f. IsInExpression scope left f) one
    → IsFirstOf (λ f. IsInExpression scope right f) other → found ≡ earlier one other → IsFirstOf (λ f. IsInExpression scope (both left right) f) found
both_first scope left right one other found a b is =
    joined (λ f. IsInExpression scope left f) (λ f. IsInExpression scope right f) one other found is a b

pub either_first : (scope : Scope) (left right : Expression) (one other found : Option Fault) → IsFirstOf (λ f. IsInExpression scope left f) one
    → IsFirstOf (λ f. IsInExpression scope right f) other → found ≡ earlier one other → IsFirstOf (λ f. IsInExpression scope (either left right) f) found
either_first scope left right one other found a b is =
    joined (λ f. IsInExpression scope left f) (λ f. IsInExpression scope right f) one other found is a b

-- no index is left
pub no_index_left : (scope : Scope) (xs : List code_expression.Expression) (sizes : List ℕ)
    → IsFirstOf (λ f. IsInIndices scope (expressions_of (drop (length xs) xs)) sizes f) None
no_index_left scope xs sizes = subst (λ l. IsFirstOf (λ f. IsInIndices scope (expressions_of l) sizes f) None) (sym (drop-length xs)) nothing_first
