use Rattle.std.proofs.Common.{rules, ◌≡◌, length, sym, append-nil, refl}
use Rattle.lrc_lint_warned.proofs.Marks.{marks_all, marks_if, marks_later, marks_while, some_all, some_if, some_later, some_while}
use Rattle.lrc_lint_warned.proofs.undone.+undone.Goals as goal

pub put_undone-loop-s-init : goal.put_undone-loop-s-init
put_undone-loop-s-init t c = (sym (append-nil c.args.out.now.items), refl)

pub put_undone-loop-s-preserved : goal.put_undone-loop-s-preserved
put_undone-loop-s-preserved t c = (
  marks_later c.args.side c.args.lock c.args.block.now c.loop-s.s-index c.s-item.result c.args.out.now.items c.loop-s.out.items _
      c.loop-s-test.true c.s-item.is c.loop-s.invariant.0 c.in_ok-one.ensures.marks,
  some_later c.args.side c.args.lock c.args.block.now c.loop-s.s-index c.s-item.result c.loop-s.some _ _ c.loop-s-test.true c.s-item.is
      c.loop-s.invariant.1 c.in_ok-one.ensures.some c.either-some.ensures,
)

pub put_undone-returns-clause-marks : goal.put_undone-returns-clause-marks
put_undone-returns-clause-marks t c =
    marks_all c.args.side c.args.lock c.args.block.now c.loop-s.s-index c.args.out.now.items c.loop-s.out.items c.loop-s-test.false c.loop-s.invariant.0

pub put_undone-returns-clause-some : goal.put_undone-returns-clause-some
put_undone-returns-clause-some t c =
    some_all c.args.side c.args.lock c.args.block.now c.loop-s.s-index c.loop-s.some c.loop-s-test.false c.loop-s.invariant.1

pub put_undone_of-returns-in_ok-one-in-While-clause-some : goal.put_undone_of-returns-in_ok-one-in-While-clause-some
put_undone_of-returns-in_ok-one-in-While-clause-some t c =
    some_while c.args.side c.args.lock c.args.statement.now c.in-While.field-0 c.in-While.inside _ c.in-While.is c.deref-in-While.ensures.value
    _ c.in_ok-one-in-While.ensures.some

pub put_undone_of-returns-in_ok-one-in-While-clause-marks : goal.put_undone_of-returns-in_ok-one-in-While-clause-marks
put_undone_of-returns-in_ok-one-in-While-clause-marks t c =
    let at_is : c.len-at.result ≡ length c.args.out.now.items = search rules in
    marks_while c.args.side c.args.lock c.args.statement.now c.in-While.field-0 c.in-While.inside _ c.in-While.is c.deref-in-While.ensures.value
    _ c.args.out.now.items _ _ _ c.len-at.result _ at_is c.in_ok-one-in-While.ensures.some c.in_ok-push.ensures.items
    c.in_ok-one-in-While.ensures.marks c.set_mark-in-While.ensures

pub put_undone_of-returns-in_ok-other-in-If-clause-some : goal.put_undone_of-returns-in_ok-other-in-If-clause-some
put_undone_of-returns-in_ok-other-in-If-clause-some t c =
    some_if c.args.side c.args.lock c.args.statement.now c.in-If.field-0 c.in-If.first c.in-If.second _ _ c.in-If.is c.deref.ensures.value
    c.deref-in-If.ensures.value _ _ _ c.in_ok-one-in-If.ensures.some c.in_ok-other-in-If.ensures.some c.either-whole.ensures

pub put_undone_of-returns-in_ok-other-in-If-clause-marks : goal.put_undone_of-returns-in_ok-other-in-If-clause-marks
put_undone_of-returns-in_ok-other-in-If-clause-marks t c =
    let at_is : c.len-at.result ≡ length c.args.out.now.items = search rules in
    marks_if c.args.side c.args.lock c.args.statement.now c.in-If.field-0 c.in-If.first c.in-If.second _ _ c.in-If.is c.deref.ensures.value
    c.deref-in-If.ensures.value _ _ _ c.args.out.now.items _ _ _ _ c.len-at.result _ at_is c.in_ok-one-in-If.ensures.some
    c.in_ok-other-in-If.ensures.some c.either-whole.ensures c.in_ok-push.ensures.items c.in_ok-one-in-If.ensures.marks
    c.in_ok-other-in-If.ensures.marks c.set_mark.ensures
