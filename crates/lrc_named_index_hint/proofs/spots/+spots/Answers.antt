-- The list grows by the indices of each form of an expression.
use Rattle.std.proofs.Common.{◌≡◌, [], ◌∷◌, ◌++◌, map, append-nil, sym, ap, ◌∙◌}
use Rattle.lrc_named_tree.specs.View.{expression_of, expressions_of, named_of}
use Rattle.lrc_named_constants.proofs.Rows.{row_of_hidden}
use Rattle.lrc_named_statement_faults.proofs.Growing.{piece_step, two_pieces, well}
use Rattle.lrc_named_index_hint.specs.Spots.{spot_seen, spots_among, spots_in, spots_in_all}
use Rattle.lrc_named_index_hint.proofs.Growing.{all_pieced}
use Rattle.lrc_named_index_hint.proofs.spots.+spots.Goals as goal

pub push_all-loop-expression-preserved : goal.push_all-loop-expression-preserved
push_all-loop-expression-preserved t c =
    piece_step _ _ (all_pieced c.args.at) c.args.expressions.now c.loop-expression.expression-index c.expression-item.result (map spot_seen c.args.spots.now.items)
    (map spot_seen c.loop-expression.spots.items) (map spot_seen c.push_in.new.spots.items) c.loop-expression-test.true c.expression-item.is c.loop-expression.invariant
    c.in_ok-push_in.ensures

pub push_in-returns-in-Number : goal.push_in-returns-in-Number
push_in-returns-in-Number t c =
    let old = map spot_seen c.args.spots.now.items in
    let is : spots_in c.args.at (expression_of c.args.expression.now) ≡ [] = ap (λ x. spots_in c.args.at (expression_of x)) c.in-Number.is in
    sym (append-nil old) ∙ ap (λ l. old ++ l) (sym is)

pub push_in-returns-in-Me : goal.push_in-returns-in-Me
push_in-returns-in-Me t c =
    let old = map spot_seen c.args.spots.now.items in
    let is : spots_in c.args.at (expression_of c.args.expression.now) ≡ [] = ap (λ x. spots_in c.args.at (expression_of x)) c.in-Me.is in
    sym (append-nil old) ∙ ap (λ l. old ++ l) (sym is)

pub push_in-returns-in-Nodes : goal.push_in-returns-in-Nodes
push_in-returns-in-Nodes t c =
    let old = map spot_seen c.args.spots.now.items in
    let is : spots_in c.args.at (expression_of c.args.expression.now) ≡ [] = ap (λ x. spots_in c.args.at (expression_of x)) c.in-Nodes.is in
    sym (append-nil old) ∙ ap (λ l. old ++ l) (sym is)

pub push_in-returns-in_ok-push_among-in-Element : goal.push_in-returns-in_ok-push_among-in-Element
push_in-returns-in_ok-push_among-in-Element t c =
    let at = c.args.at in
    let old = map spot_seen c.args.spots.now.items in
    let one = map spot_seen c.push_among.new.spots.items in
    let new = map spot_seen c.push_all.new.spots.items in
    let named = named_of c.in-Element.name in
    let own = spots_among at named 0 (expressions_of c.deref.result.now) in
    let inside = spots_in_all at (expressions_of c.deref-in-Element.result.now) in
    let is : spots_in at (expression_of c.args.expression.now) ≡ own ++ inside =
    ap (λ x. spots_in at (expression_of x)) c.in-Element.is
    ∙ ap (λ l. spots_among at named 0 l ++ spots_in_all at l) (row_of_hidden c.in-Element.indices)
    ∙ ap (λ l. spots_among at named 0 (expressions_of l) ++ spots_in_all at (expressions_of c.in-Element.indices.items)) (sym c.deref.ensures.value)
    ∙ ap (λ l. own ++ spots_in_all at (expressions_of l)) (sym c.deref-in-Element.ensures.value) in
    well (new ≡ one ++ inside) (new ≡ old ++ spots_in at (expression_of c.args.expression.now)) c.push_all.result
    (λ h. two_pieces old one new own inside c.in_ok-push_among-in-Element.ensures h ∙ ap (λ l. old ++ l) (sym is)) c.push_all.ensures

pub push_in-returns-in-Call : goal.push_in-returns-in-Call
push_in-returns-in-Call t c =
    let old = map spot_seen c.args.spots.now.items in
    let new = map spot_seen c.push_all-in-Call.new.spots.items in
    let inside = spots_in_all c.args.at (expressions_of c.deref-in-Call.result.now) in
    let is : spots_in c.args.at (expression_of c.args.expression.now) ≡ inside =
    ap (λ x. spots_in c.args.at (expression_of x)) c.in-Call.is
    ∙ ap (λ l. spots_in_all c.args.at l) (row_of_hidden c.in-Call.arguments ∙ ap expressions_of (sym c.deref-in-Call.ensures.value)) in
    well (new ≡ old ++ inside) (new ≡ old ++ spots_in c.args.at (expression_of c.args.expression.now)) c.push_all-in-Call.result
    (λ h. h ∙ ap (λ l. old ++ l) (sym is)) c.push_all-in-Call.ensures

pub push_in-returns-in-Group : goal.push_in-returns-in-Group
push_in-returns-in-Group t c =
    let old = map spot_seen c.args.spots.now.items in
    let new = map spot_seen c.push_in.new.spots.items in
    let inside = spots_in c.args.at (expression_of c.deref-in-Group.result.now) in
    let is : spots_in c.args.at (expression_of c.args.expression.now) ≡ inside =
    ap (λ x. spots_in c.args.at (expression_of x)) c.in-Group.is ∙ ap (λ x. spots_in c.args.at (expression_of x)) (sym c.deref-in-Group.ensures) in
    well (new ≡ old ++ inside) (new ≡ old ++ spots_in c.args.at (expression_of c.args.expression.now)) c.push_in.result (λ h. h ∙ ap (λ l. old ++ l) (sym is)) c.push_in.ensures

pub push_in-returns-in-Not : goal.push_in-returns-in-Not
push_in-returns-in-Not t c =
    let old = map spot_seen c.args.spots.now.items in
    let new = map spot_seen c.push_in-in-Not.new.spots.items in
    let inside = spots_in c.args.at (expression_of c.deref-in-Not.result.now) in
    let is : spots_in c.args.at (expression_of c.args.expression.now) ≡ inside =
    ap (λ x. spots_in c.args.at (expression_of x)) c.in-Not.is ∙ ap (λ x. spots_in c.args.at (expression_of x)) (sym c.deref-in-Not.ensures) in
    well (new ≡ old ++ inside) (new ≡ old ++ spots_in c.args.at (expression_of c.args.expression.now)) c.push_in-in-Not.result (λ h. h ∙ ap (λ l. old ++ l) (sym is)) c.push_in-in-Not.ensures

pub push_in-returns-in_ok-push_in-in-Binary : goal.push_in-returns-in_ok-push_in-in-Binary
push_in-returns-in_ok-push_in-in-Binary t c =
    let old = map spot_seen c.args.spots.now.items in
    let one = map spot_seen c.push_in-in-Binary.new.spots.items in
    let new = map spot_seen c.push_in-in-Binary-2.new.spots.items in
    let l = spots_in c.args.at (expression_of c.deref-in-Binary.result.now) in
    let r = spots_in c.args.at (expression_of c.deref-in-Binary-2.result.now) in
    let is : spots_in c.args.at (expression_of c.args.expression.now) ≡ l ++ r =
    ap (λ x. spots_in c.args.at (expression_of x)) c.in-Binary.is
    ∙ ap (λ x. spots_in c.args.at (expression_of x) ++ spots_in c.args.at (expression_of c.in-Binary.right.value)) (sym c.deref-in-Binary.ensures)
    ∙ ap (λ x. l ++ spots_in c.args.at (expression_of x)) (sym c.deref-in-Binary-2.ensures) in
    well (new ≡ one ++ r) (new ≡ old ++ spots_in c.args.at (expression_of c.args.expression.now)) c.push_in-in-Binary-2.result
    (λ h. two_pieces old one new l r c.in_ok-push_in-in-Binary.ensures h ∙ ap (λ z. old ++ z) (sym is)) c.push_in-in-Binary-2.ensures

pub push_in-returns-in_ok-push_in-in-And : goal.push_in-returns-in_ok-push_in-in-And
push_in-returns-in_ok-push_in-in-And t c =
    let old = map spot_seen c.args.spots.now.items in
    let one = map spot_seen c.push_in-in-And.new.spots.items in
    let new = map spot_seen c.push_in-in-And-2.new.spots.items in
    let l = spots_in c.args.at (expression_of c.deref-in-And.result.now) in
    let r = spots_in c.args.at (expression_of c.deref-in-And-2.result.now) in
    let is : spots_in c.args.at (expression_of c.args.expression.now) ≡ l ++ r =
    ap (λ x. spots_in c.args.at (expression_of x)) c.in-And.is
    ∙ ap (λ x. spots_in c.args.at (expression_of x) ++ spots_in c.args.at (expression_of c.in-And.right.value)) (sym c.deref-in-And.ensures)
    ∙ ap (λ x. l ++ spots_in c.args.at (expression_of x)) (sym c.deref-in-And-2.ensures) in
    well (new ≡ one ++ r) (new ≡ old ++ spots_in c.args.at (expression_of c.args.expression.now)) c.push_in-in-And-2.result
    (λ h. two_pieces old one new l r c.in_ok-push_in-in-And.ensures h ∙ ap (λ z. old ++ z) (sym is)) c.push_in-in-And-2.ensures

pub push_in-returns-in_ok-push_in-in-Or : goal.push_in-returns-in_ok-push_in-in-Or
push_in-returns-in_ok-push_in-in-Or t c =
    let old = map spot_seen c.args.spots.now.items in
    let one = map spot_seen c.push_in-in-Or.new.spots.items in
    let new = map spot_seen c.push_in-in-Or-2.new.spots.items in
    let l = spots_in c.args.at (expression_of c.deref-in-Or.result.now) in
    let r = spots_in c.args.at (expression_of c.deref-in-Or-2.result.now) in
    let is : spots_in c.args.at (expression_of c.args.expression.now) ≡ l ++ r =
    ap (λ x. spots_in c.args.at (expression_of x)) c.in-Or.is
    ∙ ap (λ x. spots_in c.args.at (expression_of x) ++ spots_in c.args.at (expression_of c.in-Or.right.value)) (sym c.deref-in-Or.ensures)
    ∙ ap (λ x. l ++ spots_in c.args.at (expression_of x)) (sym c.deref-in-Or-2.ensures) in
    well (new ≡ one ++ r) (new ≡ old ++ spots_in c.args.at (expression_of c.args.expression.now)) c.push_in-in-Or-2.result
    (λ h. two_pieces old one new l r c.in_ok-push_in-in-Or.ensures h ∙ ap (λ z. old ++ z) (sym is)) c.push_in-in-Or-2.ensures
