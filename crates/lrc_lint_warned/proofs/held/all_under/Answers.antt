use Rattle.std.proofs.Common.{◌≡◌, ◌∙◌, ◌++◌, [], ap, length, map}
use Rattle.lrc_program.specs.Statements.{block_of}
use Rattle.lrc_lint_warned.specs.Held.{is_under, paths}
use Rattle.lrc_lint_warned.specs.Inside.{statements_in}
use Rattle.lrc_lint_warned.proofs.Marks.{all_marked}
use Rattle.lrc_lint_warned.proofs.held.all_under.Goals as goal

pub returns : goal.returns
returns c =
    let side = c.args.side in
    let lock = c.args.lock in
    let block = block_of c.args.block.now in
    let start : c.at_start.result ≡ is_under side lock [] = c.at_start.ensures in
    let marked = all_marked side lock c.deref.result.now (length c.new-out.result.items) (statements_in block) (ap length c.new-out.ensures.items)
    (c.deref.ensures.value ∙ c.in_ok-marks.ensures) in
    c.in_ok-put_block.ensures [] start marked ∙ ap (λ l. l ++ map (is_under side lock) (paths [] block)) c.new-out.ensures.items
