-- The first fault of each form of an expression is the first one of its parts.
use Rattle.std.proofs.Common.{◌≡◌, ◌-◌, ◌+◌, ◌<◌, ◌≤◌, suc, length, drop, sym, ap, subst, ◌∙◌, arith, refl}
use Rattle.std.specs.Prelude.{None}
use Rattle.lrc_named_tree.specs.Tree.{call, element, group, me, negation, nodes, number, binary, both, either}
use Rattle.lrc_named_tree.specs.View.{expression_of, expressions_of, named_of, row_of}
use Rattle.lrc_named_tree.specs.declared.tree.Expression.TheBlock.{hidden-the_row-Expression-0}
use Rattle.lrc_named_constants.proofs.Each.{smaller_at}
use Rattle.lrc_named_constants.proofs.Measure.{size, sizes}
use Rattle.lrc_named_constants.proofs.Rows.{row_of_hidden}
use Rattle.lrc_named_expression_faults.specs.Expressions.{IsInExpression, IsInIndex, IsInIndices}
use Rattle.lrc_named_expression_faults.specs.Fault.{IsFirstOf}
use Rattle.lrc_named_expression_faults.specs.View.{scope_of, sense_seen}
use Rattle.lrc_named_expression_faults.proofs.Inside.{indices_step}
use Rattle.lrc_named_expression_faults.proofs.Whole.{binary_first, both_first, call_first, either_first, element_first, first_seen, me_first, no_index_left, nodes_first, number_first}
use Rattle.lrc_named_expression_faults.proofs.scope.Scope.+expression.Goals as goal

pub expression-indices-requires : goal.expression-indices-requires
expression-indices-requires t c =
    let e : row_of (hidden-the_row-Expression-0 c.in-Element.indices) ≡ expressions_of c.deref-in-Element.result.now =
    row_of_hidden c.in-Element.indices ∙ ap expressions_of (sym c.deref-in-Element.ensures.value) in
    let m : size (expression_of c.args.expression.now) ≡ 1 + sizes (expressions_of c.deref-in-Element.result.now) =
    ap (λ x. size (expression_of x)) c.in-Element.is ∙ ap (λ l. 1 + sizes l) e in
    (omega (arith, m), (c.requires.table, c.requires.extents))

pub expression-indices-requires-in-Call : goal.expression-indices-requires-in-Call
expression-indices-requires-in-Call t c =
    let e : row_of (hidden-the_row-Expression-0 c.in-Call.arguments) ≡ expressions_of c.deref-in-Call-2.result.now =
    row_of_hidden c.in-Call.arguments ∙ ap expressions_of (sym c.deref-in-Call-2.ensures.value) in
    let m : size (expression_of c.args.expression.now) ≡ 2 + sizes (expressions_of c.deref-in-Call-2.result.now) =
    ap (λ x. size (expression_of x)) c.in-Call.is ∙ ap (λ l. 2 + sizes l) e in
    (omega (arith, m), (c.requires.table, c.requires.extents))

pub indices-expression-requires : goal.indices-expression-requires
indices-expression-requires t c =
    let xs = c.args.indices.now in
    let y = c.index-indices-i.result in
    let lt : c.loop-i.i - 1 < length xs = omega (arith, c.loop-i-test.true) in
    let h : size (expression_of y) < sizes (expressions_of xs) =
    subst (λ z. size (expression_of z) < sizes (expressions_of xs)) (sym c.index-indices-i.is) (smaller_at xs (c.loop-i.i - 1) y lt) in
    (omega (arith, h), (c.requires.table, c.requires.extents))

pub expression-returns-in-Number : goal.expression-returns-in-Number
expression-returns-in-Number t c =
    let scope = scope_of c.args.self.now in
    first_seen scope c.args.expression.now (number c.in-Number.field-0 c.in-Number.field-1) None (ap expression_of c.in-Number.is)
    (number_first scope c.in-Number.field-0 c.in-Number.field-1)

pub expression-returns-in-Me : goal.expression-returns-in-Me
expression-returns-in-Me t c =
    let scope = scope_of c.args.self.now in
    first_seen scope c.args.expression.now (me c.in-Me.at) c.only_if.result (ap expression_of c.in-Me.is)
    (me_first scope c.in-Me.at c.at_token-fault.result c.only_if.result c.only_if.ensures c.at_token-fault.ensures)

pub expression-returns-in-Nodes : goal.expression-returns-in-Nodes
expression-returns-in-Nodes t c =
    let scope = scope_of c.args.self.now in
    first_seen scope c.args.expression.now (nodes c.in-Nodes.at) c.only_if-in-Nodes.result (ap expression_of c.in-Nodes.is)
    (nodes_first scope c.in-Nodes.at c.at_token-fault-in-Nodes.result c.only_if-in-Nodes.result c.only_if-in-Nodes.ensures c.at_token-fault-in-Nodes.ensures)

pub expression-returns-in_ok-inside-in-Element : goal.expression-returns-in_ok-inside-in-Element
expression-returns-in_ok-inside-in-Element t c =
    let scope = scope_of c.args.self.now in
    let named = named_of c.in-Element.name in
    let es = expressions_of c.deref.result.now in
    let e : expression_of c.args.expression.now ≡ element named es c.in-Element.field-2 =
    ap expression_of c.in-Element.is ∙ ap (λ l. element named l c.in-Element.field-2) (row_of_hidden c.in-Element.indices ∙ ap expressions_of (sym c.deref.ensures.value)) in
    let same : c.deref-in-Element.result.now ≡ c.deref.result.now = c.deref-in-Element.ensures.value ∙ sym c.deref.ensures.value in
    let inside = subst (λ l. IsFirstOf (λ f. IsInIndices scope (expressions_of l) c.shared_sizes.result.now f) c.in_ok-inside-in-Element.inside) same c.in_ok-inside-in-Element.ensures in
    first_seen scope c.args.expression.now (element named es c.in-Element.field-2) c.earlier.result e
    (element_first scope named es c.in-Element.field-2 (sense_seen c.sense-sense.result) c.shared_sizes.result.now c.in_element-own.result c.in_ok-inside-in-Element.inside c.earlier.result
    c.sense-sense.ensures c.shared_sizes.ensures c.in_element-own.ensures inside c.earlier.ensures)

pub expression-returns-in_ok-inside-in-Call : goal.expression-returns-in_ok-inside-in-Call
expression-returns-in_ok-inside-in-Call t c =
    let scope = scope_of c.args.self.now in
    let named = named_of c.in-Call.name in
    let es = expressions_of c.deref-in-Call.result.now in
    let e : expression_of c.args.expression.now ≡ call named es c.in-Call.close =
    ap expression_of c.in-Call.is ∙ ap (λ l. call named l c.in-Call.close) (row_of_hidden c.in-Call.arguments ∙ ap expressions_of (sym c.deref-in-Call.ensures.value)) in
    let same : c.deref-in-Call-2.result.now ≡ c.deref-in-Call.result.now = c.deref-in-Call-2.ensures.value ∙ sym c.deref-in-Call.ensures.value in
    let inside = subst (λ l. IsFirstOf (λ f. IsInIndices scope (expressions_of l) _ f) c.in_ok-inside-in-Call.inside) same c.in_ok-inside-in-Call.ensures in
    first_seen scope c.args.expression.now (call named es c.in-Call.close) c.earlier-in-Call.result e
    (call_first scope named es c.in-Call.close _ c.in_call-own.result c.in_ok-inside-in-Call.inside c.earlier-in-Call.result
    refl c.in_call-own.ensures inside c.earlier-in-Call.ensures)

pub expression-returns-in_ok-found-in-Group : goal.expression-returns-in_ok-found-in-Group
expression-returns-in_ok-found-in-Group t c =
    let scope = scope_of c.args.self.now in
    let inside = subst (λ x. IsFirstOf (λ f. IsInExpression scope (expression_of x) f) c.in_ok-found-in-Group.found) c.deref-in-Group.ensures c.in_ok-found-in-Group.ensures in
    first_seen scope c.args.expression.now (group c.in-Group.field-0 (expression_of c.in-Group.inside.value) c.in-Group.field-2) c.in_ok-found-in-Group.found (ap expression_of c.in-Group.is) inside

pub expression-returns-in_ok-found-in-Not : goal.expression-returns-in_ok-found-in-Not
expression-returns-in_ok-found-in-Not t c =
    let scope = scope_of c.args.self.now in
    let inside = subst (λ x. IsFirstOf (λ f. IsInExpression scope (expression_of x) f) c.in_ok-found-in-Not.found) c.deref-in-Not.ensures c.in_ok-found-in-Not.ensures in
    first_seen scope c.args.expression.now (negation c.in-Not.field-0 (expression_of c.in-Not.operand.value)) c.in_ok-found-in-Not.found (ap expression_of c.in-Not.is) inside

pub expression-returns-in_ok-other-in-Binary : goal.expression-returns-in_ok-other-in-Binary
expression-returns-in_ok-other-in-Binary t c =
    let scope = scope_of c.args.self.now in
    let l = expression_of c.deref-in-Binary.result.now in
    let r = expression_of c.deref-in-Binary-2.result.now in
    let e : expression_of c.args.expression.now ≡ binary l c.in-Binary.field-1 r =
    ap expression_of c.in-Binary.is ∙ ap (λ x. binary (expression_of x) c.in-Binary.field-1 (expression_of c.in-Binary.right.value)) (sym c.deref-in-Binary.ensures) ∙ ap (λ x. binary l c.in-Binary.field-1 (expression_of x)) (sym c.deref-in-Binary-2.ensures) in
    first_seen scope c.args.expression.now (binary l c.in-Binary.field-1 r) c.earlier-in-Binary.result e
    (binary_first scope l r c.in-Binary.field-1 c.in_ok-one-in-Binary.one c.in_ok-other-in-Binary.other c.earlier-in-Binary.result c.in_ok-one-in-Binary.ensures c.in_ok-other-in-Binary.ensures c.earlier-in-Binary.ensures)

pub expression-returns-in_ok-other-in-And : goal.expression-returns-in_ok-other-in-And
expression-returns-in_ok-other-in-And t c =
    let scope = scope_of c.args.self.now in
    let l = expression_of c.deref-in-And.result.now in
    let r = expression_of c.deref-in-And-2.result.now in
    let e : expression_of c.args.expression.now ≡ both l r =
    ap expression_of c.in-And.is ∙ ap (λ x. both (expression_of x) (expression_of c.in-And.right.value)) (sym c.deref-in-And.ensures) ∙ ap (λ x. both l (expression_of x)) (sym c.deref-in-And-2.ensures) in
    first_seen scope c.args.expression.now (both l r) c.earlier-in-And.result e
    (both_first scope l r c.in_ok-one-in-And.one c.in_ok-other-in-And.other c.earlier-in-And.result c.in_ok-one-in-And.ensures c.in_ok-other-in-And.ensures c.earlier-in-And.ensures)

pub expression-returns-in_ok-other-in-Or : goal.expression-returns-in_ok-other-in-Or
expression-returns-in_ok-other-in-Or t c =
    let scope = scope_of c.args.self.now in
    let l = expression_of c.deref-in-Or.result.now in
    let r = expression_of c.deref-in-Or-2.result.now in
    let e : expression_of c.args.expression.now ≡ either l r =
    ap expression_of c.in-Or.is ∙ ap (λ x. either (expression_of x) (expression_of c.in-Or.right.value)) (sym c.deref-in-Or.ensures) ∙ ap (λ x. either l (expression_of x)) (sym c.deref-in-Or-2.ensures) in
    first_seen scope c.args.expression.now (either l r) c.earlier-in-Or.result e
    (either_first scope l r c.in_ok-one-in-Or.one c.in_ok-other-in-Or.other c.earlier-in-Or.result c.in_ok-one-in-Or.ensures c.in_ok-other-in-Or.ensures c.earlier-in-Or.ensures)

pub indices-loop-i-init : goal.indices-loop-i-init
indices-loop-i-init t c = no_index_left (scope_of c.args.self.now) c.args.indices.now _

pub indices-loop-i-preserved : goal.indices-loop-i-preserved
indices-loop-i-preserved t c =
    let scope = scope_of c.args.self.now in
    let xs = c.args.indices.now in
    let sizes = c.args.sizes.now in
    let i = c.loop-i.i in
    let y = c.index-indices-i.result in
    let back : suc (i - 1) ≡ i = omega (arith, c.loop-i-test.true) in
    let within : suc (i - 1) ≤ length xs = omega (arith, c.loop-i-test.true) in
    let here = subst (λ s. IsFirstOf (λ f. IsInIndex (λ g. IsInExpression scope (expression_of y) g) scope (expression_of y) s f) c.in_ok-one.one) c.size_at.ensures c.in_ok-one.ensures in
    subst (λ r. IsFirstOf (λ f. IsInIndices scope (expressions_of (drop (i - 1) xs)) (drop (i - 1) sizes) f) r) (sym c.earlier-first.ensures)
    (indices_step scope xs sizes i (i - 1) y c.in_ok-one.one c.loop-i.first back within c.index-indices-i.is here c.loop-i.invariant)

pub indices-returns : goal.indices-returns
indices-returns t c =
    let all : c.loop-i.i ≡ 0 = omega (arith, c.loop-i-test.false) in
    subst (λ k. IsFirstOf (λ f. IsInIndices (scope_of c.args.self.now) (expressions_of (drop k c.args.indices.now)) (drop k c.args.sizes.now) f) c.loop-i.first) all c.loop-i.invariant
