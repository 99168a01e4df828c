-- The list grows by the names of each form of an expression.
use Rattle.std.proofs.Common.{◌≡◌, [], ◌∷◌, ◌++◌, map, append-nil, sym, ap, ◌∙◌}
use Rattle.lrc_named_tree.specs.View.{expression_of, expressions_of, named_of}
use Rattle.lrc_named_constants.proofs.Rows.{row_of_hidden}
use Rattle.lrc_named_statement_faults.specs.Statements.{names_in, names_in_all}
use Rattle.lrc_named_statement_faults.proofs.Growing.{piece_step, two_pieces, well}
use Rattle.lrc_named_statement_faults.proofs.Names.{all_names_pieced}
use Rattle.lrc_named_statement_faults.proofs.privates.+names.Goals as goal

pub push_all_names-loop-expression-preserved : goal.push_all_names-loop-expression-preserved
push_all_names-loop-expression-preserved t c =
    piece_step _ _ all_names_pieced c.args.expressions.now c.loop-expression.expression-index c.expression-item.result (map named_of c.args.names.now.items)
    (map named_of c.loop-expression.names.items) (map named_of c.push_names.new.names.items) c.loop-expression-test.true c.expression-item.is c.loop-expression.invariant
    c.in_ok-push_names.ensures

pub push_names-returns-in-Number : goal.push_names-returns-in-Number
push_names-returns-in-Number t c =
    let old = map named_of c.args.names.now.items in
    let is : names_in (expression_of c.args.expression.now) ≡ [] = ap (λ x. names_in (expression_of x)) c.in-Number.is in
    sym (append-nil old) ∙ ap (λ l. old ++ l) (sym is)

pub push_names-returns-in-Me : goal.push_names-returns-in-Me
push_names-returns-in-Me t c =
    let old = map named_of c.args.names.now.items in
    let is : names_in (expression_of c.args.expression.now) ≡ [] = ap (λ x. names_in (expression_of x)) c.in-Me.is in
    sym (append-nil old) ∙ ap (λ l. old ++ l) (sym is)

pub push_names-returns-in-Nodes : goal.push_names-returns-in-Nodes
push_names-returns-in-Nodes t c =
    let old = map named_of c.args.names.now.items in
    let is : names_in (expression_of c.args.expression.now) ≡ [] = ap (λ x. names_in (expression_of x)) c.in-Nodes.is in
    sym (append-nil old) ∙ ap (λ l. old ++ l) (sym is)

pub push_names-returns-in_ok-push-in-Element : goal.push_names-returns-in_ok-push-in-Element
push_names-returns-in_ok-push-in-Element t c =
    let old = map named_of c.args.names.now.items in
    let one = map named_of c.push.new.names.items in
    let new = map named_of c.push_all_names.new.names.items in
    let named = named_of c.in-Element.name in
    let inside = names_in_all (expressions_of c.deref.result.now) in
    let is : names_in (expression_of c.args.expression.now) ≡ named ∷ inside =
    ap (λ x. names_in (expression_of x)) c.in-Element.is
    ∙ ap (λ l. named ∷ names_in_all l) (row_of_hidden c.in-Element.indices ∙ ap expressions_of (sym c.deref.ensures.value)) in
    well (new ≡ one ++ inside) (new ≡ old ++ names_in (expression_of c.args.expression.now)) c.push_all_names.result
    (λ h. two_pieces old one new (named ∷ []) inside c.in_ok-push-in-Element.ensures h ∙ ap (λ l. old ++ l) (sym is)) c.push_all_names.ensures

pub push_names-returns-in_ok-push-in-Call : goal.push_names-returns-in_ok-push-in-Call
push_names-returns-in_ok-push-in-Call t c =
    let old = map named_of c.args.names.now.items in
    let one = map named_of c.push-in-Call.new.names.items in
    let new = map named_of c.push_all_names-in-Call.new.names.items in
    let named = named_of c.in-Call.name in
    let inside = names_in_all (expressions_of c.deref-in-Call.result.now) in
    let is : names_in (expression_of c.args.expression.now) ≡ named ∷ inside =
    ap (λ x. names_in (expression_of x)) c.in-Call.is
    ∙ ap (λ l. named ∷ names_in_all l) (row_of_hidden c.in-Call.arguments ∙ ap expressions_of (sym c.deref-in-Call.ensures.value)) in
    well (new ≡ one ++ inside) (new ≡ old ++ names_in (expression_of c.args.expression.now)) c.push_all_names-in-Call.result
    (λ h. two_pieces old one new (named ∷ []) inside c.in_ok-push-in-Call.ensures h ∙ ap (λ l. old ++ l) (sym is)) c.push_all_names-in-Call.ensures

pub push_names-returns-in-Group : goal.push_names-returns-in-Group
push_names-returns-in-Group t c =
    let old = map named_of c.args.names.now.items in
    let new = map named_of c.push_names.new.names.items in
    let inside = names_in (expression_of c.deref-in-Group.result.now) in
    let is : names_in (expression_of c.args.expression.now) ≡ inside =
    ap (λ x. names_in (expression_of x)) c.in-Group.is ∙ ap (λ x. names_in (expression_of x)) (sym c.deref-in-Group.ensures) in
    well (new ≡ old ++ inside) (new ≡ old ++ names_in (expression_of c.args.expression.now)) c.push_names.result (λ h. h ∙ ap (λ l. old ++ l) (sym is)) c.push_names.ensures

pub push_names-returns-in-Not : goal.push_names-returns-in-Not
push_names-returns-in-Not t c =
    let old = map named_of c.args.names.now.items in
    let new = map named_of c.push_names-in-Not.new.names.items in
    let inside = names_in (expression_of c.deref-in-Not.result.now) in
    let is : names_in (expression_of c.args.expression.now) ≡ inside =
    ap (λ x. names_in (expression_of x)) c.in-Not.is ∙ ap (λ x. names_in (expression_of x)) (sym c.deref-in-Not.ensures) in
    well (new ≡ old ++ inside) (new ≡ old ++ names_in (expression_of c.args.expression.now)) c.push_names-in-Not.result (λ h. h ∙ ap (λ l. old ++ l) (sym is)) c.push_names-in-Not.ensures

pub push_names-returns-in_ok-push_names-in-Binary : goal.push_names-returns-in_ok-push_names-in-Binary
push_names-returns-in_ok-push_names-in-Binary t c =
    let old = map named_of c.args.names.now.items in
    let one = map named_of c.push_names-in-Binary.new.names.items in
    let new = map named_of c.push_names-in-Binary-2.new.names.items in
    let l = names_in (expression_of c.deref-in-Binary.result.now) in
    let r = names_in (expression_of c.deref-in-Binary-2.result.now) in
    let is : names_in (expression_of c.args.expression.now) ≡ l ++ r =
    ap (λ x. names_in (expression_of x)) c.in-Binary.is ∙ ap (λ x. names_in (expression_of x) ++ names_in (expression_of c.in-Binary.right.value)) (sym c.deref-in-Binary.ensures) ∙ ap (λ x. l ++ names_in (expression_of x)) (sym c.deref-in-Binary-2.ensures) in
    well (new ≡ one ++ r) (new ≡ old ++ names_in (expression_of c.args.expression.now)) c.push_names-in-Binary-2.result
    (λ h. two_pieces old one new l r c.in_ok-push_names-in-Binary.ensures h ∙ ap (λ z. old ++ z) (sym is)) c.push_names-in-Binary-2.ensures

pub push_names-returns-in_ok-push_names-in-And : goal.push_names-returns-in_ok-push_names-in-And
push_names-returns-in_ok-push_names-in-And t c =
    let old = map named_of c.args.names.now.items in
    let one = map named_of c.push_names-in-And.new.names.items in
    let new = map named_of c.push_names-in-And-2.new.names.items in
    let l = names_in (expression_of c.deref-in-And.result.now) in
    let r = names_in (expression_of c.deref-in-And-2.result.now) in
    let is : names_in (expression_of c.args.expression.now) ≡ l ++ r =
    ap (λ x. names_in (expression_of x)) c.in-And.is ∙ ap (λ x. names_in (expression_of x) ++ names_in (expression_of c.in-And.right.value)) (sym c.deref-in-And.ensures) ∙ ap (λ x. l ++ names_in (expression_of x)) (sym c.deref-in-And-2.ensures) in
    well (new ≡ one ++ r) (new ≡ old ++ names_in (expression_of c.args.expression.now)) c.push_names-in-And-2.result
    (λ h. two_pieces old one new l r c.in_ok-push_names-in-And.ensures h ∙ ap (λ z. old ++ z) (sym is)) c.push_names-in-And-2.ensures

pub push_names-returns-in_ok-push_names-in-Or : goal.push_names-returns-in_ok-push_names-in-Or
push_names-returns-in_ok-push_names-in-Or t c =
    let old = map named_of c.args.names.now.items in
    let one = map named_of c.push_names-in-Or.new.names.items in
    let new = map named_of c.push_names-in-Or-2.new.names.items in
    let l = names_in (expression_of c.deref-in-Or.result.now) in
    let r = names_in (expression_of c.deref-in-Or-2.result.now) in
    let is : names_in (expression_of c.args.expression.now) ≡ l ++ r =
    ap (λ x. names_in (expression_of x)) c.in-Or.is ∙ ap (λ x. names_in (expression_of x) ++ names_in (expression_of c.in-Or.right.value)) (sym c.deref-in-Or.ensures) ∙ ap (λ x. l ++ names_in (expression_of x)) (sym c.deref-in-Or-2.ensures) in
    well (new ≡ one ++ r) (new ≡ old ++ names_in (expression_of c.args.expression.now)) c.push_names-in-Or-2.result
    (λ h. two_pieces old one new l r c.in_ok-push_names-in-Or.ensures h ∙ ap (λ z. old ++ z) (sym is)) c.push_names-in-Or-2.ensures
