-- The list grows by the loops in each form of a statement.
use Rattle.std.proofs.Common.{◌≡◌, ◌++◌, append-nil, map, sym, ap, ◌∙◌}
use Rattle.lrc_named_tokens.specs.View.{located_of}
use Rattle.lrc_named_tree.specs.Tree.{Block, no_arm}
use Rattle.lrc_named_tree.specs.View.{arm_row, block_of, block_row, expression_of, statement_of}
use Rattle.lrc_named_tree.specs.declared.tree.Statement.TheBlock.{hidden-the_row-Statement-0, hidden-the_row-Arm-1}
use Rattle.lrc_named_names.specs.View.{declared_of}
use Rattle.lrc_named_statement_faults.specs.Parts.{arms_of, with_arm}
use Rattle.lrc_named_statement_faults.proofs.Growing.{piece_step, two_pieces, well}
use Rattle.lrc_named_statement_faults.proofs.Rows.{arm_row_hidden, block_row_hidden}
use Rattle.lrc_named_uses.specs.Deeds.{deeds_in}
use Rattle.lrc_named_uses.specs.Loops.{loops_in, loops_of, loops_of_arms, waits_at}
use Rattle.lrc_named_uses.proofs.Growing.{three_pieces}
use Rattle.lrc_named_uses.proofs.Rows.{loops_of_arms_pieced, loops_pieced}
use Rattle.lrc_named_uses.proofs.loops.+loops.Goals as goal

pub put_block-loop-statement-preserved : goal.put_block-loop-statement-preserved
put_block-loop-statement-preserved t c =
    piece_step _ _ (loops_pieced (declared_of c.args.names.now) (map located_of c.args.tokens.now)) c.args.block.now c.loop-statement.statement-index
    c.statement-item.result c.args.loops.now.items c.loop-statement.loops.items c.put_statement.new.loops.items c.loop-statement-test.true c.statement-item.is
    c.loop-statement.invariant c.in_ok-put_statement.ensures

pub put_arms-loop-arm-preserved : goal.put_arms-loop-arm-preserved
put_arms-loop-arm-preserved t c =
    piece_step _ _ (loops_of_arms_pieced (declared_of c.args.names.now) (map located_of c.args.tokens.now)) c.args.arms.now c.loop-arm.arm-index
    c.arm-item.result c.args.loops.now.items c.loop-arm.loops.items c.put_arm.new.loops.items c.loop-arm-test.true c.arm-item.is c.loop-arm.invariant
    c.in_ok-put_arm.ensures

pub put_arm-returns : goal.put_arm-returns
put_arm-returns t c =
    let d = declared_of c.args.names.now in
    let ts = map located_of c.args.tokens.now in
    let old = c.args.loops.now.items in
    let new = c.put_block.new.loops.items in
    let inside = loops_in d ts (block_of c.deref.result.now) in
    let is : loops_of_arms d ts (with_arm c.args.arm.now no_arm) ≡ inside =
    append-nil (loops_in d ts (block_of c.args.arm.now.block.items)) ∙ ap (λ l. loops_in d ts (block_of l)) (sym c.deref.ensures.value) in
    well (new ≡ old ++ inside) (new ≡ old ++ loops_of_arms d ts (with_arm c.args.arm.now no_arm)) c.put_block.result (λ h. h ∙ ap (λ l. old ++ l) (sym is)) c.put_block.ensures

pub put_statement-returns-in-With : goal.put_statement-returns-in-With
put_statement-returns-in-With t c =
    let d = declared_of c.args.names.now in
    let ts = map located_of c.args.tokens.now in
    let old = c.args.loops.now.items in
    let new = c.put_block.new.loops.items in
    let inside = loops_in d ts (block_of c.deref.result.now) in
    let same : loops_in d ts (block_row (hidden-the_row-Statement-0 c.in-With.inside)) ≡ inside =
    ap (loops_in d ts) (block_row_hidden c.in-With.inside ∙ ap block_of (sym c.deref.ensures.value)) in
    let is : loops_of d ts (statement_of c.args.statement.now) ≡ inside = ap (λ s. loops_of d ts (statement_of s)) c.in-With.is ∙ same in
    well (new ≡ old ++ inside) (new ≡ old ++ loops_of d ts (statement_of c.args.statement.now)) c.put_block.result (λ h. h ∙ ap (λ l. old ++ l) (sym is))
    c.put_block.ensures

pub put_statement-returns-in_ok-put_arms-in-If : goal.put_statement-returns-in_ok-put_arms-in-If
put_statement-returns-in_ok-put_arms-in-If t c =
    let d = declared_of c.args.names.now in
    let ts = map located_of c.args.tokens.now in
    let old = c.args.loops.now.items in
    let one = c.put_block-in-If.new.loops.items in
    let two = c.put_arms.new.loops.items in
    let new = c.put_block-in-If-2.new.loops.items in
    let then = loops_in d ts (block_of c.deref-in-If.result.now) in
    let others = loops_of_arms d ts (arms_of c.deref-in-If-2.result.now) in
    let otherwise = loops_in d ts (block_of c.deref-in-If-3.result.now) in
    let same_then : loops_in d ts (block_row (hidden-the_row-Statement-0 c.in-If.then)) ≡ then =
    ap (loops_in d ts) (block_row_hidden c.in-If.then ∙ ap block_of (sym c.deref-in-If.ensures.value)) in
    let same_others : loops_of_arms d ts (arm_row (hidden-the_row-Arm-1 c.in-If.others)) ≡ others =
    ap (loops_of_arms d ts) (arm_row_hidden c.in-If.others ∙ ap arms_of (sym c.deref-in-If-2.ensures.value)) in
    let same_otherwise : loops_in d ts (block_row (hidden-the_row-Statement-0 c.in-If.otherwise)) ≡ otherwise =
    ap (loops_in d ts) (block_row_hidden c.in-If.otherwise ∙ ap block_of (sym c.deref-in-If-3.ensures.value)) in
    let is : loops_of d ts (statement_of c.args.statement.now) ≡ then ++ (others ++ otherwise) =
    ap (λ s. loops_of d ts (statement_of s)) c.in-If.is
    ∙ ap (λ l. l ++ (loops_of_arms d ts (arm_row (hidden-the_row-Arm-1 c.in-If.others)) ++ loops_in d ts (block_row (hidden-the_row-Statement-0 c.in-If.otherwise)))) same_then
    ∙ ap (λ l. then ++ (l ++ loops_in d ts (block_row (hidden-the_row-Statement-0 c.in-If.otherwise)))) same_others
    ∙ ap (λ l. then ++ (others ++ l)) same_otherwise
    in
    well (new ≡ two ++ otherwise) (new ≡ old ++ loops_of d ts (statement_of c.args.statement.now)) c.put_block-in-If-2.result
    (λ h. three_pieces old one two new then others otherwise c.in_ok-put_block-in-If.ensures c.in_ok-put_arms-in-If.ensures h ∙ ap (λ l. old ++ l) (sym is))
    c.put_block-in-If-2.ensures

pub put_statement-returns-in_ok-put_while-in-While : goal.put_statement-returns-in_ok-put_while-in-While
put_statement-returns-in_ok-put_while-in-While t c =
    let d = declared_of c.args.names.now in
    let ts = map located_of c.args.tokens.now in
    let old = c.args.loops.now.items in
    let one = c.put_while.new.loops.items in
    let new = c.put_block-in-While.new.loops.items in
    let waits = λ (b : Block). waits_at d ts c.in-While.at (expression_of c.in-While.condition) (deeds_in b) in
    let block = block_row (hidden-the_row-Statement-0 c.in-While.inside) in
    let inside = loops_in d ts (block_of c.deref-in-While-2.result.now) in
    let first : block ≡ block_of c.deref-in-While.result.now = block_row_hidden c.in-While.inside ∙ ap block_of (sym c.deref-in-While.ensures.value) in
    let second : block ≡ block_of c.deref-in-While-2.result.now = block_row_hidden c.in-While.inside ∙ ap block_of (sym c.deref-in-While-2.ensures.value) in
    let is : loops_of d ts (statement_of c.args.statement.now) ≡ waits (block_of c.deref-in-While.result.now) ++ inside =
    ap (λ s. loops_of d ts (statement_of s)) c.in-While.is ∙ ap (λ b. waits b ++ loops_in d ts block) first
    ∙ ap (λ b. waits (block_of c.deref-in-While.result.now) ++ loops_in d ts b) second in
    well (new ≡ one ++ inside) (new ≡ old ++ loops_of d ts (statement_of c.args.statement.now)) c.put_block-in-While.result
    (λ h. two_pieces old one new (waits (block_of c.deref-in-While.result.now)) inside c.in_ok-put_while-in-While.ensures h ∙ ap (λ l. old ++ l) (sym is))
    c.put_block-in-While.ensures

pub put_statement-returns-in-For : goal.put_statement-returns-in-For
put_statement-returns-in-For t c =
    let d = declared_of c.args.names.now in
    let ts = map located_of c.args.tokens.now in
    let old = c.args.loops.now.items in
    let new = c.put_block-in-For.new.loops.items in
    let inside = loops_in d ts (block_of c.deref-in-For.result.now) in
    let same : loops_in d ts (block_row (hidden-the_row-Statement-0 c.in-For.inside)) ≡ inside =
    ap (loops_in d ts) (block_row_hidden c.in-For.inside ∙ ap block_of (sym c.deref-in-For.ensures.value)) in
    let is : loops_of d ts (statement_of c.args.statement.now) ≡ inside = ap (λ s. loops_of d ts (statement_of s)) c.in-For.is ∙ same in
    well (new ≡ old ++ inside) (new ≡ old ++ loops_of d ts (statement_of c.args.statement.now)) c.put_block-in-For.result (λ h. h ∙ ap (λ l. old ++ l) (sym is))
    c.put_block-in-For.ensures
