use Rattle.std.proofs.Common.{subst}
use Rattle.lrc_exact_copies.specs.Copies.{CopyOf, with_all_changes, with_all_pages}
use Rattle.lrc_exact_copies.proofs.Learned.{rank_of}
use Rattle.lrc_exact_copies.proofs.Rows.{interval-learned}
use Rattle.lrc_exact_copies.proofs.copy.NodeCopy.learn.Goals as goal

pub returns : goal.returns
returns c = λ shape node a state lt same old.
    let made = c.args.made.now in
    let rank = rank_of made.weight c.args.from in
    let changed = with_all_changes rank made.changes.items state in
    interval-learned c.args.from made state
    (subst (λ xs. CopyOf shape node a c.args.now c.name_pages.new.self (with_all_pages xs changed)) c.as_slice-2.ensures.value
    (c.in_ok-name_pages.ensures shape node a c.args.now changed
    (subst (λ xs. CopyOf shape node a c.args.now c.learn_changes.new.self (with_all_changes rank xs state)) c.as_slice.ensures.value
    (c.in_ok-learn_changes.ensures shape node a state lt same old))))
