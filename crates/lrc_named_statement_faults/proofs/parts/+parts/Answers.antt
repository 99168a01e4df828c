-- The list grows by the parts of each form of a statement.
use Rattle.std.proofs.Common.{◌≡◌, [], ◌∷◌, ◌++◌, append-nil, map, sym, ap, ◌∙◌}
use Rattle.lrc_named_tree.specs.Tree.{no_arm}
use Rattle.lrc_named_tree.specs.View.{arm_row, block_of, block_row, expression_of, expressions_of, named_of, place_of, statement_of}
use Rattle.lrc_named_tree.specs.declared.tree.Statement.TheBlock.{hidden-the_row-Statement-0, hidden-the_row-Arm-1}
use Rattle.lrc_named_statement_faults.specs.Parts.{arms_of, counter, lock_place, part_seen, parts_of, parts_of_arms, parts_of_block, parts_of_values, target, value, with_arm}
use Rattle.lrc_named_statement_faults.proofs.Growing.{four_pieces, piece_step, two_pieces, well}
use Rattle.lrc_named_statement_faults.proofs.Rows.{arm_row_hidden, arms_pieced, block_row_hidden, blocks_pieced}
use Rattle.lrc_named_statement_faults.proofs.parts.+parts.Goals as goal

pub push_parts-loop-statement-preserved : goal.push_parts-loop-statement-preserved
push_parts-loop-statement-preserved t c =
    piece_step _ _ blocks_pieced c.args.statements.now c.loop-statement.statement-index c.statement-item.result (map part_seen c.args.parts.now.items)
    (map part_seen c.loop-statement.parts.items) (map part_seen c.push_statement.new.parts.items) c.loop-statement-test.true c.statement-item.is c.loop-statement.invariant
    c.in_ok-push_statement.ensures

pub push_arms-loop-arm-preserved : goal.push_arms-loop-arm-preserved
push_arms-loop-arm-preserved t c =
    piece_step _ _ arms_pieced c.args.arms.now c.loop-arm.arm-index c.arm-item.result (map part_seen c.args.parts.now.items)
    (map part_seen c.loop-arm.parts.items) (map part_seen c.push_arm.new.parts.items) c.loop-arm-test.true c.arm-item.is c.loop-arm.invariant
    c.in_ok-push_arm.ensures

pub push_statement-returns-in_ok-push-in-Assign : goal.push_statement-returns-in_ok-push-in-Assign
push_statement-returns-in_ok-push-in-Assign t c =
    let old = map part_seen c.args.parts.now.items in
    let one = map part_seen c.push.new.parts.items in
    let new = map part_seen c.push-in-Assign.new.parts.items in
    let is : parts_of (statement_of c.args.statement.now) ≡ target (place_of c.in-Assign.place) ∷ value (expression_of c.in-Assign.value) ∷ [] =
    ap (λ s. parts_of (statement_of s)) c.in-Assign.is in
    well (new ≡ one ++ value (expression_of c.in-Assign.value) ∷ []) (new ≡ old ++ parts_of (statement_of c.args.statement.now)) c.push-in-Assign.result
    (λ h. two_pieces old one new _ _ c.in_ok-push-in-Assign.ensures h ∙ ap (λ l. old ++ l) (sym is)) c.push-in-Assign.ensures

pub push_statement-returns-in-Acquire : goal.push_statement-returns-in-Acquire
push_statement-returns-in-Acquire t c =
    let old = map part_seen c.args.parts.now.items in
    let new = map part_seen c.push-in-Acquire.new.parts.items in
    let is : parts_of (statement_of c.args.statement.now) ≡ lock_place (place_of c.in-Acquire.place) ∷ [] = ap (λ s. parts_of (statement_of s)) c.in-Acquire.is in
    well (new ≡ old ++ lock_place (place_of c.in-Acquire.place) ∷ []) (new ≡ old ++ parts_of (statement_of c.args.statement.now)) c.push-in-Acquire.result
    (λ h. h ∙ ap (λ l. old ++ l) (sym is)) c.push-in-Acquire.ensures

pub push_statement-returns-in-Release : goal.push_statement-returns-in-Release
push_statement-returns-in-Release t c =
    let old = map part_seen c.args.parts.now.items in
    let new = map part_seen c.push-in-Release.new.parts.items in
    let is : parts_of (statement_of c.args.statement.now) ≡ lock_place (place_of c.in-Release.place) ∷ [] = ap (λ s. parts_of (statement_of s)) c.in-Release.is in
    well (new ≡ old ++ lock_place (place_of c.in-Release.place) ∷ []) (new ≡ old ++ parts_of (statement_of c.args.statement.now)) c.push-in-Release.result
    (λ h. h ∙ ap (λ l. old ++ l) (sym is)) c.push-in-Release.ensures

pub push_statement-returns-in-Assert : goal.push_statement-returns-in-Assert
push_statement-returns-in-Assert t c =
    let old = map part_seen c.args.parts.now.items in
    let new = map part_seen c.push-in-Assert.new.parts.items in
    let is : parts_of (statement_of c.args.statement.now) ≡ value (expression_of c.in-Assert.condition) ∷ [] = ap (λ s. parts_of (statement_of s)) c.in-Assert.is in
    well (new ≡ old ++ value (expression_of c.in-Assert.condition) ∷ []) (new ≡ old ++ parts_of (statement_of c.args.statement.now)) c.push-in-Assert.result
    (λ h. h ∙ ap (λ l. old ++ l) (sym is)) c.push-in-Assert.ensures

pub push_statement-returns-in-Print : goal.push_statement-returns-in-Print
push_statement-returns-in-Print t c =
    let old = map part_seen c.args.parts.now.items in
    let new = map part_seen c.push_values.new.parts.items in
    let is : parts_of (statement_of c.args.statement.now) ≡ parts_of_values (expressions_of c.deref-in-Print.result.now) =
    ap (λ s. parts_of (statement_of s)) c.in-Print.is ∙ ap (λ l. parts_of_values (expressions_of l)) (sym c.deref-in-Print.ensures.value) in
    well (new ≡ old ++ parts_of_values (expressions_of c.deref-in-Print.result.now)) (new ≡ old ++ parts_of (statement_of c.args.statement.now)) c.push_values.result
    (λ h. h ∙ ap (λ l. old ++ l) (sym is)) c.push_values.ensures

pub push_statement-returns-in_ok-push-in-With : goal.push_statement-returns-in_ok-push-in-With
push_statement-returns-in_ok-push-in-With t c =
    let old = map part_seen c.args.parts.now.items in
    let one = map part_seen c.push-in-With.new.parts.items in
    let new = map part_seen c.push_parts.new.parts.items in
    let inside = parts_of_block (block_of c.deref.result.now) in
    let same : parts_of_block (block_row (hidden-the_row-Statement-0 c.in-With.inside)) ≡ inside =
    ap parts_of_block (block_row_hidden c.in-With.inside ∙ ap block_of (sym c.deref.ensures.value)) in
    let is : parts_of (statement_of c.args.statement.now) ≡ lock_place (place_of c.in-With.place) ∷ inside =
    ap (λ s. parts_of (statement_of s)) c.in-With.is ∙ ap (λ l. lock_place (place_of c.in-With.place) ∷ l) same in
    well (new ≡ one ++ inside) (new ≡ old ++ parts_of (statement_of c.args.statement.now)) c.push_parts.result
    (λ h. two_pieces old one new (lock_place (place_of c.in-With.place) ∷ []) inside c.in_ok-push-in-With.ensures h ∙ ap (λ l. old ++ l) (sym is)) c.push_parts.ensures

pub push_statement-returns-in_ok-push-in-While : goal.push_statement-returns-in_ok-push-in-While
push_statement-returns-in_ok-push-in-While t c =
    let old = map part_seen c.args.parts.now.items in
    let one = map part_seen c.push-in-While.new.parts.items in
    let new = map part_seen c.push_parts-in-While.new.parts.items in
    let inside = parts_of_block (block_of c.deref-in-While.result.now) in
    let same : parts_of_block (block_row (hidden-the_row-Statement-0 c.in-While.inside)) ≡ inside =
    ap parts_of_block (block_row_hidden c.in-While.inside ∙ ap block_of (sym c.deref-in-While.ensures.value)) in
    let is : parts_of (statement_of c.args.statement.now) ≡ value (expression_of c.in-While.condition) ∷ inside =
    ap (λ s. parts_of (statement_of s)) c.in-While.is ∙ ap (λ l. value (expression_of c.in-While.condition) ∷ l) same in
    well (new ≡ one ++ inside) (new ≡ old ++ parts_of (statement_of c.args.statement.now)) c.push_parts-in-While.result
    (λ h. two_pieces old one new (value (expression_of c.in-While.condition) ∷ []) inside c.in_ok-push-in-While.ensures h ∙ ap (λ l. old ++ l) (sym is)) c.push_parts-in-While.ensures

pub push_statement-returns-in_ok-push_arms-in-If : goal.push_statement-returns-in_ok-push_arms-in-If
push_statement-returns-in_ok-push_arms-in-If t c =
    let old = map part_seen c.args.parts.now.items in
    let one = map part_seen c.push-in-If.new.parts.items in
    let two = map part_seen c.push_parts-in-If.new.parts.items in
    let three = map part_seen c.push_arms.new.parts.items in
    let new = map part_seen c.push_parts-in-If-2.new.parts.items in
    let head = value (expression_of c.in-If.condition) in
    let then = parts_of_block (block_of c.deref-in-If.result.now) in
    let others = parts_of_arms (arms_of c.deref-in-If-2.result.now) in
    let otherwise = parts_of_block (block_of c.deref-in-If-3.result.now) in
    let same_then : parts_of_block (block_row (hidden-the_row-Statement-0 c.in-If.then)) ≡ then =
    ap parts_of_block (block_row_hidden c.in-If.then ∙ ap block_of (sym c.deref-in-If.ensures.value)) in
    let same_others : parts_of_arms (arm_row (hidden-the_row-Arm-1 c.in-If.others)) ≡ others =
    ap parts_of_arms (arm_row_hidden c.in-If.others ∙ ap arms_of (sym c.deref-in-If-2.ensures.value)) in
    let same_otherwise : parts_of_block (block_row (hidden-the_row-Statement-0 c.in-If.otherwise)) ≡ otherwise =
    ap parts_of_block (block_row_hidden c.in-If.otherwise ∙ ap block_of (sym c.deref-in-If-3.ensures.value)) in
    let is : parts_of (statement_of c.args.statement.now) ≡ head ∷ (then ++ (others ++ otherwise)) =
    ap (λ s. parts_of (statement_of s)) c.in-If.is
    ∙ ap (λ l. head ∷ (l ++ (parts_of_arms (arm_row (hidden-the_row-Arm-1 c.in-If.others)) ++ parts_of_block (block_row (hidden-the_row-Statement-0 c.in-If.otherwise))))) same_then
    ∙ ap (λ l. head ∷ (then ++ (l ++ parts_of_block (block_row (hidden-the_row-Statement-0 c.in-If.otherwise))))) same_others
    ∙ ap (λ l. head ∷ (then ++ (others ++ l))) same_otherwise
    in
    well (new ≡ three ++ otherwise) (new ≡ old ++ parts_of (statement_of c.args.statement.now)) c.push_parts-in-If-2.result
    (λ h. four_pieces old one two three new (head ∷ []) then others otherwise c.in_ok-push-in-If.ensures c.in_ok-push_parts-in-If.ensures c.in_ok-push_arms-in-If.ensures h
    ∙ ap (λ l. old ++ l) (sym is)) c.push_parts-in-If-2.ensures

pub push_statement-returns-in_ok-push-in-For-3 : goal.push_statement-returns-in_ok-push-in-For-3
push_statement-returns-in_ok-push-in-For-3 t c =
    let old = map part_seen c.args.parts.now.items in
    let one = map part_seen c.push-in-For.new.parts.items in
    let two = map part_seen c.push-in-For-2.new.parts.items in
    let three = map part_seen c.push-in-For-3.new.parts.items in
    let new = map part_seen c.push_parts-in-For.new.parts.items in
    let a = counter (named_of c.in-For.name) in
    let b = value (expression_of c.in-For.first) in
    let d = value (expression_of c.in-For.end) in
    let inside = parts_of_block (block_of c.deref-in-For.result.now) in
    let same : parts_of_block (block_row (hidden-the_row-Statement-0 c.in-For.inside)) ≡ inside =
    ap parts_of_block (block_row_hidden c.in-For.inside ∙ ap block_of (sym c.deref-in-For.ensures.value)) in
    let is : parts_of (statement_of c.args.statement.now) ≡ a ∷ b ∷ d ∷ inside = ap (λ s. parts_of (statement_of s)) c.in-For.is ∙ ap (λ l. a ∷ b ∷ d ∷ l) same in
    well (new ≡ three ++ inside) (new ≡ old ++ parts_of (statement_of c.args.statement.now)) c.push_parts-in-For.result
    (λ h. four_pieces old one two three new (a ∷ []) (b ∷ []) (d ∷ []) inside c.in_ok-push-in-For.ensures c.in_ok-push-in-For-2.ensures c.in_ok-push-in-For-3.ensures h
    ∙ ap (λ l. old ++ l) (sym is)) c.push_parts-in-For.ensures

pub push_arm-returns : goal.push_arm-returns
push_arm-returns t c =
    let old = map part_seen c.args.parts.now.items in
    let one = map part_seen c.push.new.parts.items in
    let new = map part_seen c.push_parts.new.parts.items in
    let head = value (expression_of c.args.arm.now.condition) in
    let inside = parts_of_block (block_of c.deref.result.now) in
    let is : parts_of_arms (with_arm c.args.arm.now no_arm) ≡ head ∷ inside =
    ap (λ l. head ∷ l) (append-nil (parts_of_block (block_of c.args.arm.now.block.items))) ∙ ap (λ l. head ∷ parts_of_block (block_of l)) (sym c.deref.ensures.value) in
    well (new ≡ one ++ inside) (new ≡ old ++ parts_of_arms (with_arm c.args.arm.now no_arm)) c.push_parts.result
    (λ h. two_pieces old one new (head ∷ []) inside c.in_ok-push.ensures h ∙ ap (λ l. old ++ l) (sym is)) c.push_parts.ensures
