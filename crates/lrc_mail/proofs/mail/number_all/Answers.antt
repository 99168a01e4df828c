use Rattle.std.proofs.Common.{◌+◌, ◌∙◌, List, Err, is_ok, sym, ap, subst, arith}
use Rattle.std.specs.Prelude.{slice_index}
use Rattle.std.proofs.lemmas.Bool.{true≢false}
use Rattle.std.proofs.lemmas.Result.{IfOk-from_err}
use Rattle.std.specs.Vec.Iter.{drain_items}
use Rattle.lrc_envelope.specs.Envelope.{EnvelopeRecord}
use Rattle.lrc_protocol.specs.Node.{Letter}
use Rattle.lrc_mail.proofs.Numbering.{Midway, continues, finishes, fault_is_worn, wears}
use Rattle.lrc_mail.proofs.mail.number_all.Goals as goal

-- the letters midway, with the one that comes next
pub put_numbered-requires-clause-to : goal.put_numbered-requires-clause-to
put_numbered-requires-clause-to c =
    let midway =
    subst (Midway c.args.me c.args.first c.args.sent.now c.args.letters.now.items c.loop-letter.sent c.loop-letter.envelopes.items)
    c.in-Some.ensures.steps.0 c.loop-letter.invariant in
    midway.to 0 c.in-Some.letter (omega arith)

pub loop-letter-preserved : goal.loop-letter-preserved
loop-letter-preserved c =
    let me = c.args.me in
    let first = c.args.first in
    let start = c.args.sent.now in
    let all = c.args.letters.now.items in
    let sent = c.loop-letter.sent in
    let letter : Letter = c.in-Some.letter in
    let rest = drain_items c.next.new.self in
    subst (λ (out : List EnvelopeRecord). Midway me first start all c.put_numbered.new.sent out rest) (sym c.in_ok-put_numbered.ensures.put)
    (continues me first start all sent c.put_numbered.new.sent c.loop-letter.envelopes.items letter rest (first + slice_index sent letter.to)
    (subst (Midway me first start all sent c.loop-letter.envelopes.items) c.in-Some.ensures.steps.0 c.loop-letter.invariant)
    c.in_ok-put_numbered.ensures.number c.in_ok-put_numbered.ensures.after c.put_numbered.ensures.counts)

pub returns-in_err-put_numbered : goal.returns-in_err-put_numbered
returns-in_err-put_numbered c =
    let me = c.args.me in
    let first = c.args.first in
    let start = c.args.sent.now in
    let all = c.args.letters.now.items in
    let sent = c.loop-letter.sent in
    let fault = c.in_err-put_numbered.field-0.0 in
    record {
      numbers = IfOk-from_err _ _ c.from_residual.ensures.0;
      worn = λ worn.
          wears me first start all sent c.loop-letter.envelopes.items c.in-Some.letter (drain_items c.next.new.self)
          (subst (Midway me first start all sent c.loop-letter.envelopes.items) c.in-Some.ensures.steps.0 c.loop-letter.invariant)
          (c.put_numbered.ensures.worn
          (c.in_err-put_numbered.was ∙ ap Err (fault_is_worn c.from_residual.result fault c.from_residual.ensures.1 worn)));
      counts = c.put_numbered.ensures.counts;
    }

pub returns : goal.returns
returns c = record {
  numbers =
      finishes c.args.me c.args.first c.args.sent.now c.args.letters.now.items c.loop-letter.sent c.loop-letter.envelopes.items
      (subst (Midway c.args.me c.args.first c.args.sent.now c.args.letters.now.items c.loop-letter.sent c.loop-letter.envelopes.items)
      c.in-None.ensures.steps.0 c.loop-letter.invariant);
  worn = λ worn. absurd (true≢false (ap is_ok worn));
  counts = c.loop-letter.invariant.counts;
}
