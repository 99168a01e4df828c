-- What the thread knows at the event is by way of which events it was reached.
use Rattle.std.proofs.Common.{ℕ, ◌≡◌, List, sym, subst}
use Rattle.std.proofs.lemmas.Option.{slice_get-get_or}
use Rattle.std.proofs.lemmas.Result.{IfOk-weaker}
use Rattle.std.specs.Prelude.{Vec, slice_index}
use Rattle.std.specs.declared.alloc.Global.{Global}
use Rattle.lrc_races_trace.specs.Order.{Precedes}
use Rattle.lrc_races_detector.specs.Vectors.{entries}
use Rattle.lrc_races_sure_pass.specs.Knowing.{Gathers}
use Rattle.lrc_races_witness.specs.Past.{IsWay}
use Rattle.lrc_races_witness.proofs.Pasts.{way, way_equal}
use Rattle.lrc_races_witness.proofs.Receiving.{received}
use Rattle.lrc_races_witness.proofs.past.way_of.Goals as goal

pub take_first_surely-requires-clause-fresh : goal.take_first_surely-requires-clause-fresh
take_first_surely-requires-clause-fresh c = c.new-detector.ensures c.args.events.now

pub returns : goal.returns
returns c =
    let events = c.args.events.now in
    let j = c.args.position in
    let taken = c.in_ok-take_first_surely.ensures in
    let detector = c.take_first_surely.new.detector in
    let known = entries c.row.result in
    let gathers : Gathers events (λ k. Precedes events k j) known =
    subst (λ (row : List ℕ). Gathers events (λ k. Precedes events k j) row) (sym c.row.ensures)
    (received events j detector.threads detector.locks detector.barriers taken.threads taken.locks taken.barriers _
    (record { is = slice_get-get_or events j _ c.requires }) c.receive.new.threads c.in_ok-receive.ensures) in
    IfOk-weaker c.list.result (λ (list : Vec ℕ Global). (t : ℕ) → slice_index list.items t ≡ slice_index known t)
    (λ (list : Vec ℕ Global). IsWay events j list.items)
    (λ list same. way_equal events j known list.items same (way events j known gathers)) c.list.ensures
