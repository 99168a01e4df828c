use Rattle.std.proofs.Common.{◌≡◌, ℕ, ◌-◌, Some, None, ap, arith}
use Rattle.std.proofs.lemmas.Result.{err_from_is_err_and}
use Rattle.lrc_wire.specs.Reading.{elements_at, next_page_at}
use Rattle.lrc_wire.proofs.Elements.{with_nothing, goes_on, ends, is_done}
use Rattle.lrc_envelope.proofs.Last.{last_pushed}
use Rattle.lrc_wire.proofs.reading.intervals.read_pages_of.Goals as goal

pub loop-init : goal.loop-init
loop-init c =
    let none : c.args.count - 0 ≡ c.args.count = omega arith in
    record {
      last = λ page e. let empty = rw c.requires at e in absurd cc;
      read = rw (
        c.requires,
        none,
      ) (with_nothing (elements_at (next_page_at c.args.version) (λ _ page. Some page) c.args.count None c.args.bytes.now.now));
    }

pub returns-in_err-page : goal.returns-in_err-page
returns-in_err-page c =
    let p = err_from_is_err_and c.from_residual.result c.from_residual.ensures.1 in
    rw (p.1, p.2) (ends (next_page_at c.args.version)
    (λ _ page. Some page) c.in_err-page.field-0.0 c.loop.pages c.args.count c.loop.counter c.loop.before c.loop.bytes.now _ c.loop-test.true
    c.in_err-page.ensures.exact c.loop.invariant.read)

pub push-requires-clause-above : goal.push-requires-clause-above
push-requires-clause-above c =
    λ page e. rw (c.loop.invariant.last page e) at c.in_ok-page.ensures.above

pub loop-preserved : goal.loop-preserved
loop-preserved c = record {
  last = λ page e. ap (λ (x : ℕ). Some x) (last_pushed c.loop.pages c.in_ok-page.page page (rw c.in_ok-push.ensures.ok at e));
  read = rw c.in_ok-push.ensures.ok
      (goes_on (next_page_at c.args.version)
      (λ _ page. Some page) c.loop.pages c.args.count c.loop.counter c.loop.before c.loop.bytes.now c.in_ok-page.page c.read_next_page.new.bytes.now _
      c.loop-test.true c.in_ok-page.ensures.exact c.loop.invariant.read);
}

pub returns : goal.returns
returns c = is_done (next_page_at c.args.version)
    (λ _ page. Some page) c.loop.pages c.args.count c.loop.counter c.loop.before c.loop.bytes.now _ c.loop-test.false c.loop.invariant.read
