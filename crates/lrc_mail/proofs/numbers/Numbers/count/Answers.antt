-- One span more.
use Rattle.std.proofs.Common.{length}
use Rattle.lrc_mail.specs.declared.numbers.Span.{Span}
use Rattle.lrc_mail.specs.Spans.{spanned}
use Rattle.lrc_mail.proofs.Spans.{counted_more}
use Rattle.lrc_mail.proofs.numbers.Numbers.count.Goals as goal

pub loop-span-preserved : goal.loop-span-preserved
loop-span-preserved c =
    let spans = c.deref-span-items.result.now in
    let none : Span = record { first = 0; last = 0 } in
    let (count, few, are, whole) = c.loop-span.invariant in
    counted_more count c.loop-span.count c.from.result (length (spanned spans)) c.loop-span.span-index spans none c.loop-span-test.true few are whole
    c.from.ensures
