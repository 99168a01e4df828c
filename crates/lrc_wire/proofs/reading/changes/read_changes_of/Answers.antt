use Rattle.std.proofs.Common.{◌≡◌, ◌-◌, Some, None, ap, arith}
use Rattle.std.proofs.lemmas.Result.{err_from_is_err_and}
use Rattle.lrc_page.specs.declared.changes.Change.{Change}
use Rattle.lrc_wire.specs.Reading.{elements_at, next_change_at}
use Rattle.lrc_wire.proofs.Elements.{with_nothing, goes_on, ends, is_done}
use Rattle.lrc_envelope.proofs.Last.{last_pushed}
use Rattle.lrc_wire.proofs.reading.changes.read_changes_of.Goals as goal

pub loop-init : goal.loop-init
loop-init c =
    let none : c.args.count - 0 ≡ c.args.count = omega arith in
    record {
      last = λ change e. let empty = rw c.empty-changes.ensures at e in absurd cc;
      read = rw (
        c.empty-changes.ensures,
        none,
      ) (with_nothing (elements_at next_change_at (λ _ change. Some change.offset) c.args.count None c.args.bytes.now.now));
    }

pub returns-in_err-change : goal.returns-in_err-change
returns-in_err-change c =
    let p = err_from_is_err_and c.from_residual.result c.from_residual.ensures.1 in
    rw (p.1, p.2) (ends next_change_at
    (λ _ change. Some change.offset) c.in_err-change.field-0.0 c.loop.changes c.args.count c.loop.counter c.loop.before c.loop.bytes.now _ c.loop-test.true
    c.in_err-change.ensures.exact c.loop.invariant.read)

pub push-requires : goal.push-requires
push-requires c =
    λ change e. rw (c.loop.invariant.last change e) at c.in_ok-change.ensures.above

pub loop-preserved : goal.loop-preserved
loop-preserved c = record {
  last = λ change e. ap (λ (x : Change). Some x.offset) (last_pushed c.loop.changes c.in_ok-change.change change (rw c.in_ok-push.ensures.ok at e));
  read = rw c.in_ok-push.ensures.ok
      (goes_on next_change_at
      (λ _ change. Some change.offset) c.loop.changes c.args.count c.loop.counter c.loop.before c.loop.bytes.now c.in_ok-change.change
      c.read_next_change.new.bytes.now _ c.loop-test.true c.in_ok-change.ensures.exact c.loop.invariant.read);
}

pub returns : goal.returns
returns c = is_done next_change_at
    (λ _ change. Some change.offset) c.loop.changes c.args.count c.loop.counter c.loop.before c.loop.bytes.now _ c.loop-test.false c.loop.invariant.read
