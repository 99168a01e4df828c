use Rattle.std.proofs.Common.{rules, ◌≡◌, ◌∙◌, ap, get_or, length, sym, append-nil, take}
use Rattle.lrc_program.specs.Statements.{statement_of}
use Rattle.lrc_lint_warned.specs.Held.{Path, is_under}
use Rattle.lrc_lint_warned.specs.Undone.{nothing_undone}
use Rattle.lrc_lint_warned.proofs.Marks.{block_marked, first_marked, if_kept, second_marked, while_kept, while_marked, whole_kept}
use Rattle.lrc_lint_warned.proofs.Under.{all_later, behind_all, one_later, puts_if, puts_straight, puts_while, state_later}
use Rattle.lrc_lint_warned.proofs.held.+under.Goals as goal

pub put_block-loop-s-init : goal.put_block-loop-s-init
put_block-loop-s-init t c = λ path h marked. (h, sym (append-nil c.args.out.now.items))

pub put_block-loop-s-preserved : goal.put_block-loop-s-preserved
put_block-loop-s-preserved t c = λ path h marked.
    let side = c.args.side in
    let lock = c.args.lock in
    let marks = c.args.marks.now in
    let block = c.args.block.now in
    let i = c.loop-s.s-index in
    let s = c.s-item.result in
    let now = c.loop-s.out.items in
    let before = c.loop-s.invariant path h marked in
    let long : c.len.result ≡ length now = search rules in
    let here = block_marked side lock marks block path i s c.args.out.now.items now c.loop-s-test.true c.s-item.is before.1 marked in (
      state_later side lock block path i s c.loop-s.under _ c.loop-s-test.true c.s-item.is before.0
          (whole_kept side lock marks (length now) c.len.result (statement_of s) long here c.mark_at-mark.result c.mark_at-mark.ensures c.loop-s.under _
          c.behind-under.ensures),
      one_later side lock block path i s c.args.out.now.items now _ c.loop-s-test.true c.s-item.is before.1
          (c.in_ok-put_paths_of.ensures (behind_all path (take i block)) before.0 here),
    )

pub put_block-returns : goal.put_block-returns
put_block-returns t c = λ path h marked.
    all_later c.args.side c.args.lock c.args.block.now path c.loop-s.s-index _ _ c.loop-s-test.false (c.loop-s.invariant path h marked).1

pub put_paths_of-returns-in_default : goal.put_paths_of-returns-in_default
put_paths_of-returns-in_default t c = λ path h marked.
    puts_straight c.args.side c.args.lock path c.args.statement.now _ _ c.args.under h c.in_ok-push.ensures.items c.in_default.not-If c.in_default.not-While

pub put_paths_of-returns-in-While : goal.put_paths_of-returns-in-While
put_paths_of-returns-in-While t c = λ path h marked.
    let side = c.args.side in
    let lock = c.args.lock in
    let marks = c.args.marks.now in
    let s = c.args.statement.now in
    let old = c.args.out.now.items in
    let pushed = c.in_ok-push.ensures.items in
    let long : c.len.result ≡ length old = search rules in
    let mark = c.mark_at.ensures ∙ ap (λ n. get_or marks n nothing_undone) long in
    let is = c.in-While.is in
    let same = c.deref-in-While.ensures.value in
    puts_while side lock path s old _ c.args.under h pushed c.put_block-in-While.result c.in-While.field-0 c.in-While.inside _ _ _ _ is same same
    (while_kept side lock marks s old _ c.args.under pushed marked c.in-While.field-0 c.in-While.inside _ is same _ _ mark c.unless_undone-inner.ensures)
    (λ q k. c.put_block-in-While.ensures q k (while_marked side lock marks s old _ c.args.under pushed marked c.in-While.field-0 c.in-While.inside _ is same))

pub put_paths_of-returns-in_ok-put_block-in-If : goal.put_paths_of-returns-in_ok-put_block-in-If
put_paths_of-returns-in_ok-put_block-in-If t c = λ path h marked.
    let side = c.args.side in
    let lock = c.args.lock in
    let marks = c.args.marks.now in
    let s = c.args.statement.now in
    let old = c.args.out.now.items in
    let pushed = c.in_ok-push.ensures.items in
    let long : c.len.result ≡ length old = search rules in
    let mark = c.mark_at.ensures ∙ ap (λ n. get_or marks n nothing_undone) long in
    let is = c.in-If.is in
    let e = c.in-If.field-0 in
    let a = c.in-If.first in
    let b = c.in-If.second in
    let one = c.deref.ensures.value in
    let other = c.deref-in-If.ensures.value in
    let first = λ (q : Path) (k : c.args.under ≡ is_under c.args.side c.args.lock q). c.in_ok-put_block-in-If.ensures q k
    (first_marked side lock marks s old _ c.args.under pushed marked e a b _ _ is one other) in
    puts_if side lock path s old _ c.args.under h pushed c.put_block-in-If.result e a b _ _ _ _ _ _ is one one other first
    (if_kept side lock marks s old _ c.args.under pushed marked e a b _ _ is one other _ _ mark c.unless_undone-inner.ensures)
    (λ q k. c.put_block-in-If.ensures q k
    (second_marked side lock marks s old _ c.args.under pushed marked e a b _ _ is one other path _ (first path h)))
