-- The extent of each form of an expression is that of its parts.
use Rattle.std.proofs.Common.{◌≡◌, ◌-◌, ◌+◌, ◌<◌, ◌≤◌, suc, length, drop, map, sym, ap, subst, ◌∙◌, arith}
use Rattle.std.proofs.Math.Seq.{drop-length}
use Rattle.lrc_named_tree.specs.Tree.{call, element}
use Rattle.lrc_named_tree.specs.View.{expression_of, expressions_of, named_of, row_of}
use Rattle.lrc_named_tree.specs.declared.tree.Expression.TheBlock.{hidden-the_row-Expression-0}
use Rattle.lrc_named_names.specs.Names.{meaning_of}
use Rattle.lrc_named_names.specs.View.{declared_of}
use Rattle.lrc_named_constants.specs.Constant.{names_of}
use Rattle.lrc_named_constants.specs.View.{known_of}
use Rattle.lrc_named_constants.specs.Well.{AreWell, IsWell, count}
use Rattle.lrc_named_constants.proofs.Each.{smaller_at, well_at}
use Rattle.lrc_named_constants.proofs.Measure.{size, sizes}
use Rattle.lrc_named_constants.proofs.Rows.{row_of_hidden}
use Rattle.lrc_named_expression_faults.specs.Extent.{AreExtent, IsExtent}
use Rattle.lrc_named_expression_faults.specs.Scope.{is_shared}
use Rattle.lrc_named_expression_faults.specs.View.{scope_of}
use Rattle.lrc_named_expression_faults.proofs.Extents.{binary_extent, both_extent, called_function, call_extent, either_extent, element_extent, extent_step, me_extent, negation_extent}
use Rattle.lrc_named_expression_faults.proofs.Extents.{no_extent, nodes_extent, number_extent, parentheses_extent, sides}
use Rattle.lrc_named_expression_faults.proofs.scope.Scope.+extent.Goals as goal

pub extent-extent_of_all-inside-requires : goal.extent-extent_of_all-inside-requires
extent-extent_of_all-inside-requires t c =
    let d = declared_of c.args.self.now.names.now in
    let ps = names_of (map known_of c.args.self.now.known.now) in
    let es = expressions_of c.deref.result.now in
    let e : row_of (hidden-the_row-Expression-0 c.in-Element.indices) ≡ es = row_of_hidden c.in-Element.indices ∙ ap expressions_of (sym c.deref.ensures.value) in
    let well = subst (λ x. IsWell d ps (length d) (expression_of x)) c.in-Element.is c.requires.well in
    let w : AreWell d ps (length d) es = subst (λ l. AreWell d ps (length d) l) e well.1 in
    let m : size (expression_of c.args.expression.now) ≡ 1 + sizes es = ap (λ x. size (expression_of x)) c.in-Element.is ∙ ap (λ l. 1 + sizes l) e in
    (omega (arith, m), (c.requires.extents, w))

pub extent-extent_of_all-inside-requires-in-Call : goal.extent-extent_of_all-inside-requires-in-Call
extent-extent_of_all-inside-requires-in-Call t c =
    let d = declared_of c.args.self.now.names.now in
    let ps = names_of (map known_of c.args.self.now.known.now) in
    let es = expressions_of c.deref-in-Call.result.now in
    let e : row_of (hidden-the_row-Expression-0 c.in-Call.arguments) ≡ es = row_of_hidden c.in-Call.arguments ∙ ap expressions_of (sym c.deref-in-Call.ensures.value) in
    let well = subst (λ x. IsWell d ps (length d) (expression_of x)) c.in-Call.is c.requires.well in
    let w : AreWell d ps (length d) es = subst (λ l. AreWell d ps (length d) l) e well.2 in
    let m : size (expression_of c.args.expression.now) ≡ 2 + sizes es = ap (λ x. size (expression_of x)) c.in-Call.is ∙ ap (λ l. 2 + sizes l) e in
    (omega (arith, m), (c.requires.extents, w))

pub extent_of_all-extent-one-requires : goal.extent_of_all-extent-one-requires
extent_of_all-extent-one-requires t c =
    let d = declared_of c.args.self.now.names.now in
    let ps = names_of (map known_of c.args.self.now.known.now) in
    let xs = c.args.expressions.now in
    let y = c.index-expressions-i.result in
    let lt : c.loop-i.i - 1 < length xs = omega (arith, c.loop-i-test.true) in
    let h : size (expression_of y) < sizes (expressions_of xs) =
    subst (λ z. size (expression_of z) < sizes (expressions_of xs)) (sym c.index-expressions-i.is) (smaller_at xs (c.loop-i.i - 1) y lt) in
    let w : IsWell d ps (length d) (expression_of y) =
    subst (λ z. IsWell d ps (length d) (expression_of z)) (sym c.index-expressions-i.is) (well_at d ps (length d) xs (c.loop-i.i - 1) y lt c.requires.well) in
    (omega (arith, h), (c.requires.extents, w))

pub extent-returns-in-Number : goal.extent-returns-in-Number
extent-returns-in-Number t c =
    let d = declared_of c.args.self.now.names.now in
    let ps = names_of (map known_of c.args.self.now.known.now) in
    subst (λ x. IsExtent d ps (expression_of x) c.nothing.result) (sym c.in-Number.is)
    (number_extent d ps c.in-Number.field-0 c.in-Number.field-1 c.nothing.result c.nothing.ensures.varies c.nothing.ensures.weight)

pub extent-returns-in-Me : goal.extent-returns-in-Me
extent-returns-in-Me t c =
    let d = declared_of c.args.self.now.names.now in
    let ps = names_of (map known_of c.args.self.now.known.now) in
    subst (λ x. IsExtent d ps (expression_of x) c.nothing-in-Me.result) (sym c.in-Me.is)
    (me_extent d ps c.in-Me.field-0 c.nothing-in-Me.result c.nothing-in-Me.ensures.varies c.nothing-in-Me.ensures.weight)

pub extent-returns-in-Nodes : goal.extent-returns-in-Nodes
extent-returns-in-Nodes t c =
    let d = declared_of c.args.self.now.names.now in
    let ps = names_of (map known_of c.args.self.now.known.now) in
    subst (λ x. IsExtent d ps (expression_of x) c.nothing-in-Nodes.result) (sym c.in-Nodes.is)
    (nodes_extent d ps c.in-Nodes.field-0 c.nothing-in-Nodes.result c.nothing-in-Nodes.ensures.varies c.nothing-in-Nodes.ensures.weight)

pub extent-returns-in-Element : goal.extent-returns-in-Element
extent-returns-in-Element t c =
    let scope = scope_of c.args.self.now in
    let d = declared_of c.args.self.now.names.now in
    let ps = names_of (map known_of c.args.self.now.known.now) in
    let named = named_of c.in-Element.name in
    let es = expressions_of c.deref.result.now in
    let e : expression_of c.args.expression.now ≡ element named es c.in-Element.field-2 =
    ap expression_of c.in-Element.is ∙ ap (λ l. element named l c.in-Element.field-2) (row_of_hidden c.in-Element.indices ∙ ap expressions_of (sym c.deref.ensures.value)) in
    subst (λ x. IsExtent d ps x c.and.result) (sym e)
    (element_extent scope named es c.in-Element.field-2 c.nothing-own.result c.extent_of_all-inside.result c.and.result
    (c.nothing-own.ensures.varies ∙ c.is_shared.ensures ∙ ap is_shared c.sense.ensures) c.nothing-own.ensures.weight c.extent_of_all-inside.ensures
    c.and.ensures.varies c.and.ensures.weight)

pub extent-returns-in-Call : goal.extent-returns-in-Call
extent-returns-in-Call t c =
    let d = declared_of c.args.self.now.names.now in
    let ps = names_of (map known_of c.args.self.now.known.now) in
    let named = named_of c.in-Call.name in
    let es = expressions_of c.deref-in-Call.result.now in
    let e : expression_of c.args.expression.now ≡ call named es c.in-Call.field-2 =
    ap expression_of c.in-Call.is ∙ ap (λ l. call named l c.in-Call.field-2) (row_of_hidden c.in-Call.arguments ∙ ap expressions_of (sym c.deref-in-Call.ensures.value)) in
    let well : IsWell d ps (length d) (call named es c.in-Call.field-2) = subst (λ x. IsWell d ps (length d) x) e c.requires.well in
    let f = called_function (meaning_of d named.bytes) (count es) well.1 in
    let body = c.body_extent-body.ensures f.0 f.1 f.2 in
    subst (λ x. IsExtent d ps x c.and_one.result) (sym e)
    (call_extent d ps named es c.in-Call.field-2 f.0 f.1 c.extent_of_all-inside-in-Call.result c.body_extent-body.result c.and-in-Call.result c.and_one.result
    f.2 c.extent_of_all-inside-in-Call.ensures body.1 body.0 c.and-in-Call.ensures.varies c.and-in-Call.ensures.weight c.and_one.ensures.varies c.and_one.ensures.weight)

pub extent-returns-in-Group : goal.extent-returns-in-Group
extent-returns-in-Group t c =
    let d = declared_of c.args.self.now.names.now in
    let ps = names_of (map known_of c.args.self.now.known.now) in
    let inside = subst (λ x. IsExtent d ps (expression_of x) c.extent.result) c.deref-in-Group.ensures c.extent.ensures in
    subst (λ x. IsExtent d ps (expression_of x) c.extent.result) (sym c.in-Group.is)
    (parentheses_extent d ps c.in-Group.field-0 c.in-Group.field-2 _ c.extent.result inside)

pub extent-returns-in-Not : goal.extent-returns-in-Not
extent-returns-in-Not t c =
    let d = declared_of c.args.self.now.names.now in
    let ps = names_of (map known_of c.args.self.now.known.now) in
    let inside = subst (λ x. IsExtent d ps (expression_of x) c.extent-in-Not.result) c.deref-in-Not.ensures c.extent-in-Not.ensures in
    subst (λ x. IsExtent d ps (expression_of x) c.and_one-in-Not.result) (sym c.in-Not.is)
    (negation_extent d ps c.in-Not.field-0 _ c.extent-in-Not.result c.and_one-in-Not.result inside c.and_one-in-Not.ensures.varies c.and_one-in-Not.ensures.weight)

pub extent-returns-in-Binary : goal.extent-returns-in-Binary
extent-returns-in-Binary t c =
    let d = declared_of c.args.self.now.names.now in
    let ps = names_of (map known_of c.args.self.now.known.now) in
    let one = subst (λ x. IsExtent d ps (expression_of x) c.extent-one.result) c.deref-in-Binary.ensures c.extent-one.ensures in
    let other = subst (λ x. IsExtent d ps (expression_of x) c.extent-other.result) c.deref-in-Binary-2.ensures c.extent-other.ensures in
    subst (λ x. IsExtent d ps (expression_of x) c.and_one-in-Binary.result) (sym c.in-Binary.is)
    (binary_extent d ps _ _ c.in-Binary.field-1 c.and_one-in-Binary.result
    (sides d ps _ _ c.extent-one.result c.extent-other.result c.and-in-Binary.result c.and_one-in-Binary.result one other c.and-in-Binary.ensures.varies c.and-in-Binary.ensures.weight
    c.and_one-in-Binary.ensures.varies c.and_one-in-Binary.ensures.weight))

pub extent-returns-in-And : goal.extent-returns-in-And
extent-returns-in-And t c =
    let d = declared_of c.args.self.now.names.now in
    let ps = names_of (map known_of c.args.self.now.known.now) in
    let one = subst (λ x. IsExtent d ps (expression_of x) c.extent-one-in-And.result) c.deref-in-And.ensures c.extent-one-in-And.ensures in
    let other = subst (λ x. IsExtent d ps (expression_of x) c.extent-other-in-And.result) c.deref-in-And-2.ensures c.extent-other-in-And.ensures in
    subst (λ x. IsExtent d ps (expression_of x) c.and_one-in-And.result) (sym c.in-And.is)
    (both_extent d ps _ _ c.and_one-in-And.result
    (sides d ps _ _ c.extent-one-in-And.result c.extent-other-in-And.result c.and-in-And.result c.and_one-in-And.result one other c.and-in-And.ensures.varies c.and-in-And.ensures.weight
    c.and_one-in-And.ensures.varies c.and_one-in-And.ensures.weight))

pub extent-returns-in-Or : goal.extent-returns-in-Or
extent-returns-in-Or t c =
    let d = declared_of c.args.self.now.names.now in
    let ps = names_of (map known_of c.args.self.now.known.now) in
    let one = subst (λ x. IsExtent d ps (expression_of x) c.extent-one-in-Or.result) c.deref-in-Or.ensures c.extent-one-in-Or.ensures in
    let other = subst (λ x. IsExtent d ps (expression_of x) c.extent-other-in-Or.result) c.deref-in-Or-2.ensures c.extent-other-in-Or.ensures in
    subst (λ x. IsExtent d ps (expression_of x) c.and_one-in-Or.result) (sym c.in-Or.is)
    (either_extent d ps _ _ c.and_one-in-Or.result
    (sides d ps _ _ c.extent-one-in-Or.result c.extent-other-in-Or.result c.and-in-Or.result c.and_one-in-Or.result one other c.and-in-Or.ensures.varies c.and-in-Or.ensures.weight
    c.and_one-in-Or.ensures.varies c.and_one-in-Or.ensures.weight))

pub extent_of_all-loop-i-init : goal.extent_of_all-loop-i-init
extent_of_all-loop-i-init t c =
    let d = declared_of c.args.self.now.names.now in
    let ps = names_of (map known_of c.args.self.now.known.now) in
    subst (λ l. AreExtent d ps (expressions_of l) c.nothing-all.result) (sym (drop-length c.args.expressions.now))
    (no_extent d ps c.nothing-all.result c.nothing-all.ensures.varies c.nothing-all.ensures.weight)

pub extent_of_all-loop-i-preserved : goal.extent_of_all-loop-i-preserved
extent_of_all-loop-i-preserved t c =
    let d = declared_of c.args.self.now.names.now in
    let ps = names_of (map known_of c.args.self.now.known.now) in
    let i = c.loop-i.i in
    let back : suc (i - 1) ≡ i = omega (arith, c.loop-i-test.true) in
    let within : suc (i - 1) ≤ length c.args.expressions.now = omega (arith, c.loop-i-test.true) in
    extent_step d ps c.args.expressions.now i (i - 1) c.index-expressions-i.result c.extent-one.result c.loop-i.all c.and-all.result back within c.index-expressions-i.is
    c.extent-one.ensures c.loop-i.invariant c.and-all.ensures.varies c.and-all.ensures.weight

pub extent_of_all-returns : goal.extent_of_all-returns
extent_of_all-returns t c =
    let d = declared_of c.args.self.now.names.now in
    let ps = names_of (map known_of c.args.self.now.known.now) in
    let all : c.loop-i.i ≡ 0 = omega (arith, c.loop-i-test.false) in
    subst (λ k. AreExtent d ps (expressions_of (drop k c.args.expressions.now)) c.loop-i.all) all c.loop-i.invariant
