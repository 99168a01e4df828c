-- By the size, if there is one.
use Rattle.std.proofs.Common.{◌≡◌, sym, ap, ◌∙◌}
use Rattle.std.specs.Prelude.{Some, None, slice_get}
use Rattle.lrc_named_expression_faults.specs.Scope.{sense_of}
use Rattle.lrc_named_expression_faults.specs.View.{scope_of}
use Rattle.lrc_named_expression_faults.proofs.First.{if_ok}
use Rattle.lrc_named_index_hint.specs.Over.{IsFound, IsIndexOver, IsOver, sizes_of}
use Rattle.lrc_named_index_hint.specs.Spots.{spot_seen}
use Rattle.lrc_named_index_hint.proofs.Finding.{not_over, over_as}
use Rattle.lrc_named_index_hint.proofs.over.over.Goals as goal

pub returns-in-Some : goal.returns-in-Some
returns-in-Some c =
    let scope = scope_of c.args.scope.now in
    let spot = spot_seen c.args.spot in
    let sized : slice_get (sizes_of (sense_of scope spot.name.bytes)) spot.number ≡ Some c.in-Some.size =
    ap (λ x. slice_get (sizes_of x) spot.number) (sym c.sense.ensures) ∙ ap (λ l. slice_get l spot.number) (sym c.sizes_of-sizes.ensures)
    ∙ sym c.size_at.ensures ∙ c.in-Some.is in
    if_ok (λ found. IsFound (λ v own. (own ≡ c.in-Some.size) × IsIndexOver scope spot.index v own) found) (λ found. IsFound (λ v s. IsOver scope spot v s) found)
    c.index_over.result (λ found h. over_as scope spot c.in-Some.size found sized h) c.index_over.ensures

pub returns-in-None : goal.returns-in-None
returns-in-None c =
    let scope = scope_of c.args.scope.now in
    let spot = spot_seen c.args.spot in
    let none : slice_get (sizes_of (sense_of scope spot.name.bytes)) spot.number ≡ None =
    ap (λ x. slice_get (sizes_of x) spot.number) (sym c.sense.ensures) ∙ ap (λ l. slice_get l spot.number) (sym c.sizes_of-sizes.ensures)
    ∙ sym c.size_at.ensures ∙ c.in-None.is in
    not_over scope spot none
