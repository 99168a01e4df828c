use Rattle.std.proofs.Common.{◌≡◌, ◌+◌, ◌∙◌, List, [], length, ap, sym, subst, arith}
use Rattle.std.specs.List.{All}
use Rattle.std.proofs.lemmas.List.{length_push}
use Rattle.std.proofs.lemmas.List.Elements.{All-nil, All-push}
use Rattle.std.proofs.lemmas.Result.{IfOk-from_err}
use Rattle.lrc_store.specs.Rows.{RowRecord}
use Rattle.lrc_store.proofs.nodes.empty_rows.Goals as goal

-- a row without places
abbrev IsBare : RowRecord → Type 0
IsBare row = row.places ≡ []

pub loop-init : goal.loop-init
loop-init c = (
  ap (λ (rows : List RowRecord). length rows) c.new-rows.ensures.items,
  subst (All IsBare) (sym c.new-rows.ensures.items) (All-nil IsBare),
)

pub returns-in_err-push : goal.returns-in_err-push
returns-in_err-push c = record {
  count = IfOk-from_err _ _ c.from_residual.ensures.0;
  none = IfOk-from_err _ _ c.from_residual.ensures.0;
}

pub loop-preserved : goal.loop-preserved
loop-preserved c =
    let rows = c.loop.rows.items in (
      ap (λ (rows : List RowRecord). length rows) c.in_ok-push.ensures.items
          ∙ length_push rows c.new.result
          ∙ ap (λ n. n + 1) c.loop.invariant.0,
      subst (All IsBare) (sym c.in_ok-push.ensures.items) (All-push IsBare rows c.new.result c.loop.invariant.1 c.new.ensures),
    )

pub returns : goal.returns
returns c = record {
  count = omega (arith, c.loop.invariant.0, c.loop-test.false, c.loop.auto.counter-end);
  none = c.loop.invariant.1;
}
