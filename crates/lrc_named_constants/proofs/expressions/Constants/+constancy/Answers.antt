-- Each form of an expression has a rule.
use Rattle.std.proofs.Common.{◌≡◌, ◌<◌, ◌+◌, Some, map, length, sym, ap, subst, arith, ◌∙◌}
use Rattle.lrc_named_tree.specs.Tree.{Expressions, call}
use Rattle.lrc_named_tree.specs.View.{named_of, expression_of, expressions_of, row_of}
use Rattle.lrc_named_tree.specs.declared.tree.Expression.TheBlock.{hidden-the_row-Expression-0}
use Rattle.lrc_named_names.specs.Names.{IsFunction, function, meaning_at, meaning_of}
use Rattle.lrc_named_names.specs.View.{declared_of}
use Rattle.lrc_named_constants.specs.declared.constancy.Constancy.TheVariants.{Varies, Value}
use Rattle.lrc_named_constants.specs.Combine.{joined, negated, both_of, either_of, called}
use Rattle.lrc_named_constants.specs.View.{known_of}
use Rattle.lrc_named_constants.specs.Constant.{IsConstancy, a_number, me, nodes, a_call, parentheses, a_negation, a_binary, both, either}
use Rattle.lrc_named_constants.specs.Constant.{AreConstancies, no_expression, bound, names_of}
use Rattle.lrc_named_constants.specs.Well.{IsWell, AreWell, Takes, bytes_of, count}
use Rattle.lrc_named_constants.proofs.Among.{function_takes, length_of_constancies, names_of-bound, takes_all}
use Rattle.lrc_named_constants.proofs.Each.{constancies_step, element_is, smaller_at, well_at}
use Rattle.lrc_named_constants.proofs.Measure.{size, sizes, bodies, body_within, deeper}
use Rattle.lrc_named_constants.proofs.Rows.{row_of_hidden}
use Rattle.lrc_named_constants.proofs.expressions.Constants.+constancy.Goals as goal

pub constancies-loop-expression-init : goal.constancies-loop-expression-init
constancies-loop-expression-init t c =
    subst (λ l. AreConstancies (declared_of c.args.self.now.names.now) (map known_of c.args.known.now) Expressions.none l) (sym c.new-all.ensures.items) no_expression

pub constancies-constancy-requires : goal.constancies-constancy-requires
constancies-constancy-requires t c =
    let declared = declared_of c.args.self.now.names.now in
    let xs = c.args.expressions.now in
    let x = c.expression-item.result in
    let i = c.loop-expression.expression-index in
    let h : size (expression_of x) < sizes (expressions_of xs) =
    subst (λ y. size (expression_of y) < sizes (expressions_of xs)) (sym c.expression-item.is) (smaller_at xs i x c.loop-expression-test.true) in
    let w : IsWell declared (names_of (map known_of c.args.known.now)) c.args.below (expression_of x) =
    subst (λ y. IsWell declared (names_of (map known_of c.args.known.now)) c.args.below (expression_of y)) (sym c.expression-item.is) (well_at declared (names_of (map known_of c.args.known.now)) c.args.below xs i x c.loop-expression-test.true c.requires.well) in
    (omega (arith, h), (c.requires.table, w))

pub constancies-loop-expression-preserved : goal.constancies-loop-expression-preserved
constancies-loop-expression-preserved t c =
    constancies_step (declared_of c.args.self.now.names.now) (map known_of c.args.known.now) c.args.expressions.now c.loop-expression.expression-index
    c.expression-item.result c.loop-expression.all.items c.push.new.self.items c.in_ok-one.one c.loop-expression-test.true c.expression-item.is
    c.in_ok-push.ensures.items c.loop-expression.invariant c.in_ok-one.ensures

pub constancy-constancy_of_call-requires : goal.constancy-constancy_of_call-requires
constancy-constancy_of_call-requires t c =
    let declared = declared_of c.args.self.now.names.now in
    let es = expressions_of c.deref.result.now in
    let e : row_of (hidden-the_row-Expression-0 c.in-Call.arguments) ≡ es = row_of_hidden c.in-Call.arguments ∙ ap expressions_of (sym c.deref.ensures.value) in
    let well = subst (λ x. IsWell declared (names_of (map known_of c.args.known.now)) c.args.below (expression_of x)) c.in-Call.is c.requires.well in
    let w : AreWell declared (names_of (map known_of c.args.known.now)) c.args.below es = subst (λ l. AreWell declared (names_of (map known_of c.args.known.now)) c.args.below l) e well.2 in
    let m : size (expression_of c.args.expression.now) ≡ 2 + sizes es = ap (λ x. size (expression_of x)) c.in-Call.is ∙ ap (λ l. 2 + sizes l) e in
    let n : Takes (meaning_of declared c.in-Call.name.bytes.now) (count es) =
    subst (λ l. Takes (meaning_of declared c.in-Call.name.bytes.now) (count l)) e well.1 in
    (omega (arith, m), (c.requires.table, (well.0, (n, w))))

pub constancy-returns-in-Number : goal.constancy-returns-in-Number
constancy-returns-in-Number t c =
    subst (λ x. IsConstancy (declared_of c.args.self.now.names.now) (map known_of c.args.known.now) (expression_of x) (Value c.in-Number.n)) (sym c.in-Number.is) a_number

pub constancy-returns-in-Me : goal.constancy-returns-in-Me
constancy-returns-in-Me t c =
    subst (λ x. IsConstancy (declared_of c.args.self.now.names.now) (map known_of c.args.known.now) (expression_of x) Varies) (sym c.in-Me.is) me

pub constancy-returns-in-Nodes : goal.constancy-returns-in-Nodes
constancy-returns-in-Nodes t c =
    subst (λ x. IsConstancy (declared_of c.args.self.now.names.now) (map known_of c.args.known.now) (expression_of x) Varies) (sym c.in-Nodes.is) nodes

pub constancy-returns-in-Element : goal.constancy-returns-in-Element
constancy-returns-in-Element t c =
    let declared = declared_of c.args.self.now.names.now in
    let known = map known_of c.args.known.now in
    let well = subst (λ x. IsWell declared (names_of (map known_of c.args.known.now)) c.args.below (expression_of x)) c.in-Element.is c.requires.well in
    subst (λ x. IsConstancy declared known (expression_of x) c.constancy_of_name-w.result) (sym c.in-Element.is)
    (element_is declared known (named_of c.in-Element.name) _ _ c.constancy_of_name-w.result well.0 c.constancy_of_name-w.ensures)

pub constancy-returns-in_ok-w-in-Call : goal.constancy-returns-in_ok-w-in-Call
constancy-returns-in_ok-w-in-Call t c =
    let declared = declared_of c.args.self.now.names.now in
    let known = map known_of c.args.known.now in
    let e : row_of (hidden-the_row-Expression-0 c.in-Call.arguments) ≡ expressions_of c.deref.result.now =
    row_of_hidden c.in-Call.arguments ∙ ap expressions_of (sym c.deref.ensures.value) in
    subst (λ x. IsConstancy declared known (expression_of x) c.in_ok-w-in-Call.w) (sym c.in-Call.is)
    (subst (λ l. IsConstancy declared known (call (named_of c.in-Call.name) l c.in-Call.field-2) c.in_ok-w-in-Call.w) (sym e)
    (c.in_ok-w-in-Call.ensures c.in-Call.field-2))

pub constancy-returns-in_ok-w-in-Group : goal.constancy-returns-in_ok-w-in-Group
constancy-returns-in_ok-w-in-Group t c =
    let declared = declared_of c.args.self.now.names.now in
    let known = map known_of c.args.known.now in
    subst (λ x. IsConstancy declared known (expression_of x) c.in_ok-w-in-Group.w) (sym c.in-Group.is)
    (parentheses (subst (λ x. IsConstancy declared known (expression_of x) c.in_ok-w-in-Group.w) c.deref-in-Group.ensures c.in_ok-w-in-Group.ensures))

pub constancy-returns-in_ok-w-in-Not : goal.constancy-returns-in_ok-w-in-Not
constancy-returns-in_ok-w-in-Not t c =
    let declared = declared_of c.args.self.now.names.now in
    let known = map known_of c.args.known.now in
    let inside = subst (λ x. IsConstancy declared known (expression_of x) c.in_ok-w-in-Not.w) c.deref-in-Not.ensures c.in_ok-w-in-Not.ensures in
    subst (λ v. IsConstancy declared known (expression_of c.args.expression.now) v) (sym c.join.ensures)
    (subst (λ x. IsConstancy declared known (expression_of x) (negated c.in_ok-w-in-Not.w)) (sym c.in-Not.is) (a_negation inside))

pub constancy-returns-in_ok-r-in-Binary : goal.constancy-returns-in_ok-r-in-Binary
constancy-returns-in_ok-r-in-Binary t c =
    let declared = declared_of c.args.self.now.names.now in
    let known = map known_of c.args.known.now in
    let left = subst (λ x. IsConstancy declared known (expression_of x) c.in_ok-l-in-Binary.l) c.deref-in-Binary.ensures c.in_ok-l-in-Binary.ensures in
    let right = subst (λ x. IsConstancy declared known (expression_of x) c.in_ok-r-in-Binary.r) c.deref-in-Binary-2.ensures c.in_ok-r-in-Binary.ensures in
    subst (λ v. IsConstancy declared known (expression_of c.args.expression.now) v) (sym c.join-in-Binary.ensures)
    (subst (λ x. IsConstancy declared known (expression_of x) (joined c.in-Binary.operator c.in_ok-l-in-Binary.l c.in_ok-r-in-Binary.r)) (sym c.in-Binary.is) (a_binary left right))

pub constancy-returns-in_ok-r-in-And : goal.constancy-returns-in_ok-r-in-And
constancy-returns-in_ok-r-in-And t c =
    let declared = declared_of c.args.self.now.names.now in
    let known = map known_of c.args.known.now in
    let left = subst (λ x. IsConstancy declared known (expression_of x) c.in_ok-l-in-And.l) c.deref-in-And.ensures c.in_ok-l-in-And.ensures in
    let right = subst (λ x. IsConstancy declared known (expression_of x) c.in_ok-r-in-And.r) c.deref-in-And-2.ensures c.in_ok-r-in-And.ensures in
    subst (λ v. IsConstancy declared known (expression_of c.args.expression.now) v) (sym c.both.ensures)
    (subst (λ x. IsConstancy declared known (expression_of x) (both_of c.in_ok-l-in-And.l c.in_ok-r-in-And.r)) (sym c.in-And.is) (both left right))

pub constancy-returns-in_ok-r-in-Or : goal.constancy-returns-in_ok-r-in-Or
constancy-returns-in_ok-r-in-Or t c =
    let declared = declared_of c.args.self.now.names.now in
    let known = map known_of c.args.known.now in
    let left = subst (λ x. IsConstancy declared known (expression_of x) c.in_ok-l-in-Or.l) c.deref-in-Or.ensures c.in_ok-l-in-Or.ensures in
    let right = subst (λ x. IsConstancy declared known (expression_of x) c.in_ok-r-in-Or.r) c.deref-in-Or-2.ensures c.in_ok-r-in-Or.ensures in
    subst (λ v. IsConstancy declared known (expression_of c.args.expression.now) v) (sym c.either.ensures)
    (subst (λ x. IsConstancy declared known (expression_of x) (either_of c.in_ok-l-in-Or.l c.in_ok-r-in-Or.r)) (sym c.in-Or.is) (either left right))

pub constancy_of_call-function-requires : goal.constancy_of_call-function-requires
constancy_of_call-function-requires t c =
    let declared = declared_of c.args.self.now.names.now in
    subst (λ n. IsFunction (meaning_at declared n)) (sym c.place-place.ensures) (function_takes _ _ c.requires.function)

pub constancy_of_call-constancy-requires : goal.constancy_of_call-constancy-requires
constancy_of_call-constancy-requires t c =
    let declared = declared_of c.args.self.now.names.now in
    let place = c.place-place.result in
    let parameters = map named_of c.function.result.0.now in
    let ws = c.in_ok-constancies.constancies.items in
    let small = body_within declared place _ _ c.function.ensures in
    let before : place < c.args.below = omega (arith, c.place-place.ensures, c.requires.before) in
    let d = deeper place c.args.below (bodies declared) (size (expression_of c.function.result.1.now)) (sizes (expressions_of c.args.arguments.now)) before small in
    let inner : map known_of c.deref-2.result.now ≡ bound parameters ws =
    ap (λ l. map known_of l) c.deref-2.ensures.value ∙ c.in_ok-inner.ensures ∙ ap (λ l. bound parameters l) c.deref.ensures.value in
    let means : meaning_of declared c.args.name.bytes.now ≡ Some (function parameters (expression_of c.function.result.1.now)) =
    ap (λ n. meaning_at declared n) (sym c.place-place.ensures) ∙ c.function.ensures in
    let all : length ws ≡ length parameters = length_of_constancies c.in_ok-constancies.ensures ∙ takes_all _ _ _ _ c.requires.function means in
    let names : names_of (map known_of c.deref-2.result.now) ≡ bytes_of parameters = ap names_of inner ∙ names_of-bound parameters ws all in (
      omega (arith, d),
      (
        c.requires.table,
        subst (λ l. IsWell declared l place (expression_of c.function.result.1.now)) (sym names) (c.requires.table place _ _ c.function.ensures),
      ),
    )

pub constancy_of_call-returns : goal.constancy_of_call-returns
constancy_of_call-returns t c =
    λ close.
    let declared = declared_of c.args.self.now.names.now in
    let known = map known_of c.args.known.now in
    let parameters = map named_of c.function.result.0.now in
    let whole = c.in_ok-whole.whole in
    let inner : map known_of c.deref-2.result.now ≡ bound parameters c.in_ok-constancies.constancies.items =
    ap (λ l. map known_of l) c.deref-2.ensures.value ∙ c.in_ok-inner.ensures ∙ ap (λ l. bound parameters l) c.deref.ensures.value in
    let body = subst (λ k. IsConstancy declared k (expression_of c.function.result.1.now) whole) inner c.in_ok-whole.ensures in
    let e : c.call_with.result ≡ called c.in_ok-constancies.constancies.items whole =
    c.call_with.ensures ∙ ap (λ l. called l whole) c.deref-3.ensures.value in
    subst (λ v. IsConstancy declared known (call (named_of c.args.name) (expressions_of c.args.arguments.now) close) v) (sym e)
    (a_call (ap (λ n. meaning_at declared n) (sym c.place-place.ensures) ∙ c.function.ensures) c.in_ok-constancies.ensures body)
