use Rattle.std.proofs.Common.{append-nil, subst, sym}
use Rattle.std.specs.Prelude.{All}
use Rattle.std.proofs.lemmas.List.Elements.{All-more, All-nil}
use Rattle.std.proofs.lemmas.List.{take_all}
use Rattle.std.proofs.lemmas.Result.{IfOk-from_err}
use Rattle.lrc_store.specs.Interval.{IsInterval}
use Rattle.lrc_wire.specs.Ranges.{HasBits}
use Rattle.lrc_wire.specs.Spelling.{interval}
use Rattle.lrc_wire.proofs.Written.{flat_map-all, flat_map-take_more}
use Rattle.lrc_wire.proofs.writing.intervals.put_each_interval.Goals as goal

pub loop-record-preserved : goal.loop-record-preserved
loop-record-preserved c =
    let list = c.args.list.now in
    let i = c.loop-record.record-index in
    let item = c.record-item.result in
    let within = c.loop-record-test.true in
    record {
      written = rw (
        c.in_ok-put_interval.ensures.written,
        c.loop-record.invariant.written,
        c.record-item.is,
      ) (flat_map-take_more interval c.args.out.now.items list i item within);
      each = All-more IsInterval list i item within c.loop-record.invariant.each (rw (← c.record-item.is) c.in_ok-put_interval.ensures.is_interval);
      bits = All-more (λ x. All (HasBits 32) x.stamp) list i item within c.loop-record.invariant.bits
          (rw (← c.record-item.is) c.in_ok-put_interval.ensures.bits);
    }

pub loop-record-init : goal.loop-record-init
loop-record-init c = record {
  written = sym (append-nil c.args.out.now.items);
  each = All-nil IsInterval;
  bits = All-nil (λ x. All (HasBits 32) x.stamp);
}

pub returns-in_err-put_interval : goal.returns-in_err-put_interval
returns-in_err-put_interval c = record {
  written = IfOk-from_err c.from_residual.result _ c.from_residual.ensures.0;
  each = IfOk-from_err c.from_residual.result _ c.from_residual.ensures.0;
  bits = IfOk-from_err c.from_residual.result _ c.from_residual.ensures.0;
}

pub returns : goal.returns
returns c =
    let list = c.args.list.now in
    let whole = take_all c.loop-record.record-index list c.loop-record-test.false in
    record {
      written = flat_map-all interval c.args.out.now.items c.loop-record.out.items list c.loop-record.record-index c.loop-record-test.false
          c.loop-record.invariant.written;
      each = subst (All IsInterval) whole c.loop-record.invariant.each;
      bits = subst (All (λ x. All (HasBits 32) x.stamp)) whole c.loop-record.invariant.bits;
    }
