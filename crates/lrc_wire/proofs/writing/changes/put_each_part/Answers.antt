use Rattle.std.proofs.Common.{append-nil, subst, sym}
use Rattle.std.specs.Prelude.{All}
use Rattle.std.proofs.lemmas.List.{take_all}
use Rattle.std.proofs.lemmas.List.Elements.{All-more, All-nil}
use Rattle.std.proofs.lemmas.Result.{IfOk-from_err}
use Rattle.lrc_wire.specs.declared.version.Version.TheVariants.{Two}
use Rattle.lrc_wire.specs.Ranges.{FitPart}
use Rattle.lrc_wire.specs.Runs.{runs_of}
use Rattle.lrc_wire.specs.Spelling.{part}
use Rattle.lrc_wire.proofs.Written.{flat_map-all, flat_map-take_more}
use Rattle.lrc_wire.proofs.writing.changes.put_each_part.Goals as goal

pub loop-item-preserved : goal.loop-item-preserved
loop-item-preserved c =
    let list = c.args.list.now in
    let i = c.loop-item.item-index in
    let item = c.item-item.result in
    let within = c.loop-item-test.true in
    record {
      written = rw (
        c.in_ok-put_part.ensures.written,
        c.loop-item.invariant.written,
        c.item-item.is,
      ) (flat_map-take_more (part Two runs_of) c.args.out.now.items list i item within);
      each = All-more (FitPart Two) list i item within c.loop-item.invariant.each (rw (← c.item-item.is) c.in_ok-put_part.ensures.fits);
    }

pub loop-item-init : goal.loop-item-init
loop-item-init c = record { written = sym (append-nil c.args.out.now.items); each = All-nil (FitPart Two) }

pub returns-in_err-put_part : goal.returns-in_err-put_part
returns-in_err-put_part c = record {
  written = IfOk-from_err c.from_residual.result _ c.from_residual.ensures.0;
  each = IfOk-from_err c.from_residual.result _ c.from_residual.ensures.0;
}

pub returns : goal.returns
returns c = record {
  written = flat_map-all (part Two runs_of) c.args.out.now.items c.loop-item.out.items c.args.list.now c.loop-item.item-index c.loop-item-test.false
      c.loop-item.invariant.written;
  each = subst (All (FitPart Two)) (take_all c.loop-item.item-index c.args.list.now c.loop-item-test.false) c.loop-item.invariant.each;
}
