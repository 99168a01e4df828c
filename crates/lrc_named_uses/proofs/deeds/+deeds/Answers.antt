-- The list grows by what each form of a statement does.
use Rattle.std.proofs.Common.{◌≡◌, [], ◌∷◌, ◌++◌, append-nil, map, sym, ap, ◌∙◌}
use Rattle.lrc_named_tree.specs.Tree.{no_arm}
use Rattle.lrc_named_tree.specs.View.{arm_row, block_of, block_row, named_of, place_of, statement_of}
use Rattle.lrc_named_tree.specs.declared.tree.Statement.TheBlock.{hidden-the_row-Statement-0, hidden-the_row-Arm-1}
use Rattle.lrc_named_statement_faults.specs.Parts.{arms_of, with_arm}
use Rattle.lrc_named_statement_faults.proofs.Growing.{piece_step, two_pieces, well}
use Rattle.lrc_named_statement_faults.proofs.Rows.{arm_row_hidden, block_row_hidden}
use Rattle.lrc_named_uses.specs.Deeds.{deed_seen, deeds_in, deeds_of, deeds_of_arms, learns, sets, sets_place}
use Rattle.lrc_named_uses.proofs.Growing.{three_pieces}
use Rattle.lrc_named_uses.proofs.Rows.{deeds_of_arms_pieced, deeds_pieced}
use Rattle.lrc_named_uses.proofs.deeds.+deeds.Goals as goal

pub put_block-loop-statement-preserved : goal.put_block-loop-statement-preserved
put_block-loop-statement-preserved t c =
    piece_step _ _ deeds_pieced c.args.block.now c.loop-statement.statement-index c.statement-item.result (map deed_seen c.args.deeds.now.items)
    (map deed_seen c.loop-statement.deeds.items) (map deed_seen c.put_statement.new.deeds.items) c.loop-statement-test.true c.statement-item.is
    c.loop-statement.invariant c.in_ok-put_statement.ensures

pub put_arms-loop-arm-preserved : goal.put_arms-loop-arm-preserved
put_arms-loop-arm-preserved t c =
    piece_step _ _ deeds_of_arms_pieced c.args.arms.now c.loop-arm.arm-index c.arm-item.result (map deed_seen c.args.deeds.now.items)
    (map deed_seen c.loop-arm.deeds.items) (map deed_seen c.put_arm.new.deeds.items) c.loop-arm-test.true c.arm-item.is c.loop-arm.invariant
    c.in_ok-put_arm.ensures

pub put_arm-returns : goal.put_arm-returns
put_arm-returns t c =
    let old = map deed_seen c.args.deeds.now.items in
    let new = map deed_seen c.put_block.new.deeds.items in
    let inside = deeds_in (block_of c.deref.result.now) in
    let is : deeds_of_arms (with_arm c.args.arm.now no_arm) ≡ inside =
    append-nil (deeds_in (block_of c.args.arm.now.block.items)) ∙ ap (λ l. deeds_in (block_of l)) (sym c.deref.ensures.value) in
    well (new ≡ old ++ inside) (new ≡ old ++ deeds_of_arms (with_arm c.args.arm.now no_arm)) c.put_block.result (λ h. h ∙ ap (λ l. old ++ l) (sym is)) c.put_block.ensures

pub put_statement-returns-in-Assign : goal.put_statement-returns-in-Assign
put_statement-returns-in-Assign t c =
    let old = map deed_seen c.args.deeds.now.items in
    let new = map deed_seen c.put_place.new.deeds.items in
    let is : deeds_of (statement_of c.args.statement.now) ≡ sets_place (place_of c.in-Assign.place) = ap (λ s. deeds_of (statement_of s)) c.in-Assign.is in
    well (new ≡ old ++ sets_place (place_of c.in-Assign.place)) (new ≡ old ++ deeds_of (statement_of c.args.statement.now)) c.put_place.result
    (λ h. h ∙ ap (λ l. old ++ l) (sym is)) c.put_place.ensures

pub put_statement-returns-in-Acquire : goal.put_statement-returns-in-Acquire
put_statement-returns-in-Acquire t c =
    let old = map deed_seen c.args.deeds.now.items in
    let new = map deed_seen c.put.new.deeds.items in
    let is : deeds_of (statement_of c.args.statement.now) ≡ learns ∷ [] = ap (λ s. deeds_of (statement_of s)) c.in-Acquire.is in
    well (new ≡ old ++ learns ∷ []) (new ≡ old ++ deeds_of (statement_of c.args.statement.now)) c.put.result (λ h. h ∙ ap (λ l. old ++ l) (sym is)) c.put.ensures

pub put_statement-returns-in-Barrier : goal.put_statement-returns-in-Barrier
put_statement-returns-in-Barrier t c =
    let old = map deed_seen c.args.deeds.now.items in
    let new = map deed_seen c.put-in-Barrier.new.deeds.items in
    let is : deeds_of (statement_of c.args.statement.now) ≡ learns ∷ [] = ap (λ s. deeds_of (statement_of s)) c.in-Barrier.is in
    well (new ≡ old ++ learns ∷ []) (new ≡ old ++ deeds_of (statement_of c.args.statement.now)) c.put-in-Barrier.result (λ h. h ∙ ap (λ l. old ++ l) (sym is))
    c.put-in-Barrier.ensures

pub put_statement-returns-in_ok-put-in-With : goal.put_statement-returns-in_ok-put-in-With
put_statement-returns-in_ok-put-in-With t c =
    let old = map deed_seen c.args.deeds.now.items in
    let one = map deed_seen c.put-in-With.new.deeds.items in
    let new = map deed_seen c.put_block.new.deeds.items in
    let inside = deeds_in (block_of c.deref.result.now) in
    let same : deeds_in (block_row (hidden-the_row-Statement-0 c.in-With.inside)) ≡ inside =
    ap deeds_in (block_row_hidden c.in-With.inside ∙ ap block_of (sym c.deref.ensures.value)) in
    let is : deeds_of (statement_of c.args.statement.now) ≡ learns ∷ inside = ap (λ s. deeds_of (statement_of s)) c.in-With.is ∙ ap (λ l. learns ∷ l) same in
    well (new ≡ one ++ inside) (new ≡ old ++ deeds_of (statement_of c.args.statement.now)) c.put_block.result
    (λ h. two_pieces old one new (learns ∷ []) inside c.in_ok-put-in-With.ensures h ∙ ap (λ l. old ++ l) (sym is)) c.put_block.ensures

pub put_statement-returns-in_ok-put_arms-in-If : goal.put_statement-returns-in_ok-put_arms-in-If
put_statement-returns-in_ok-put_arms-in-If t c =
    let old = map deed_seen c.args.deeds.now.items in
    let one = map deed_seen c.put_block-in-If.new.deeds.items in
    let two = map deed_seen c.put_arms.new.deeds.items in
    let new = map deed_seen c.put_block-in-If-2.new.deeds.items in
    let then = deeds_in (block_of c.deref-in-If.result.now) in
    let others = deeds_of_arms (arms_of c.deref-in-If-2.result.now) in
    let otherwise = deeds_in (block_of c.deref-in-If-3.result.now) in
    let same_then : deeds_in (block_row (hidden-the_row-Statement-0 c.in-If.then)) ≡ then =
    ap deeds_in (block_row_hidden c.in-If.then ∙ ap block_of (sym c.deref-in-If.ensures.value)) in
    let same_others : deeds_of_arms (arm_row (hidden-the_row-Arm-1 c.in-If.others)) ≡ others =
    ap deeds_of_arms (arm_row_hidden c.in-If.others ∙ ap arms_of (sym c.deref-in-If-2.ensures.value)) in
    let same_otherwise : deeds_in (block_row (hidden-the_row-Statement-0 c.in-If.otherwise)) ≡ otherwise =
    ap deeds_in (block_row_hidden c.in-If.otherwise ∙ ap block_of (sym c.deref-in-If-3.ensures.value)) in
    let is : deeds_of (statement_of c.args.statement.now) ≡ then ++ (others ++ otherwise) =
    ap (λ s. deeds_of (statement_of s)) c.in-If.is
    ∙ ap (λ l. l ++ (deeds_of_arms (arm_row (hidden-the_row-Arm-1 c.in-If.others)) ++ deeds_in (block_row (hidden-the_row-Statement-0 c.in-If.otherwise)))) same_then
    ∙ ap (λ l. then ++ (l ++ deeds_in (block_row (hidden-the_row-Statement-0 c.in-If.otherwise)))) same_others
    ∙ ap (λ l. then ++ (others ++ l)) same_otherwise
    in
    well (new ≡ two ++ otherwise) (new ≡ old ++ deeds_of (statement_of c.args.statement.now)) c.put_block-in-If-2.result
    (λ h. three_pieces old one two new then others otherwise c.in_ok-put_block-in-If.ensures c.in_ok-put_arms-in-If.ensures h ∙ ap (λ l. old ++ l) (sym is))
    c.put_block-in-If-2.ensures

pub put_statement-returns-in-While : goal.put_statement-returns-in-While
put_statement-returns-in-While t c =
    let old = map deed_seen c.args.deeds.now.items in
    let new = map deed_seen c.put_block-in-While.new.deeds.items in
    let inside = deeds_in (block_of c.deref-in-While.result.now) in
    let same : deeds_in (block_row (hidden-the_row-Statement-0 c.in-While.inside)) ≡ inside =
    ap deeds_in (block_row_hidden c.in-While.inside ∙ ap block_of (sym c.deref-in-While.ensures.value)) in
    let is : deeds_of (statement_of c.args.statement.now) ≡ inside = ap (λ s. deeds_of (statement_of s)) c.in-While.is ∙ same in
    well (new ≡ old ++ inside) (new ≡ old ++ deeds_of (statement_of c.args.statement.now)) c.put_block-in-While.result (λ h. h ∙ ap (λ l. old ++ l) (sym is))
    c.put_block-in-While.ensures

pub put_statement-returns-in_ok-put-in-For : goal.put_statement-returns-in_ok-put-in-For
put_statement-returns-in_ok-put-in-For t c =
    let old = map deed_seen c.args.deeds.now.items in
    let one = map deed_seen c.put-in-For.new.deeds.items in
    let new = map deed_seen c.put_block-in-For.new.deeds.items in
    let head = sets (named_of c.in-For.name) in
    let inside = deeds_in (block_of c.deref-in-For.result.now) in
    let same : deeds_in (block_row (hidden-the_row-Statement-0 c.in-For.inside)) ≡ inside =
    ap deeds_in (block_row_hidden c.in-For.inside ∙ ap block_of (sym c.deref-in-For.ensures.value)) in
    let is : deeds_of (statement_of c.args.statement.now) ≡ head ∷ inside = ap (λ s. deeds_of (statement_of s)) c.in-For.is ∙ ap (λ l. head ∷ l) same in
    well (new ≡ one ++ inside) (new ≡ old ++ deeds_of (statement_of c.args.statement.now)) c.put_block-in-For.result
    (λ h. two_pieces old one new (head ∷ []) inside c.in_ok-put-in-For.ensures h ∙ ap (λ l. old ++ l) (sym is)) c.put_block-in-For.ensures
