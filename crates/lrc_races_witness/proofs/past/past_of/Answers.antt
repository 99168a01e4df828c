-- What the thread knows after the event is what happens before it.
use Rattle.std.proofs.Common.{ℕ, ◌≡◌}
use Rattle.std.proofs.lemmas.Option.{slice_get-get_or}
use Rattle.std.proofs.lemmas.Result.{IfOk-weaker}
use Rattle.std.specs.Prelude.{Vec, slice_index}
use Rattle.std.specs.declared.alloc.Global.{Global}
use Rattle.lrc_races_detector.specs.Vectors.{entries}
use Rattle.lrc_races_witness.specs.Past.{IsPast}
use Rattle.lrc_races_witness.proofs.Pasts.{past, past_equal}
use Rattle.lrc_races_witness.proofs.past.past_of.Goals as goal

pub take_first-requires-clause-fresh : goal.take_first-requires-clause-fresh
take_first-requires-clause-fresh c = c.new-detector.ensures c.args.events.now

pub returns : goal.returns
returns c =
    let events = c.args.events.now in
    let j = c.args.position in
    let known = entries c.row.result in
    let is_past : IsPast events j known =
    past events j _ (record { is = slice_get-get_or events j _ c.requires }) c.take_first.new.detector.threads known
    c.in_ok-take_first.ensures.threads c.row.ensures in
    IfOk-weaker c.list.result (λ (list : Vec ℕ Global). (t : ℕ) → slice_index list.items t ≡ slice_index known t)
    (λ (list : Vec ℕ Global). IsPast events j list.items) (λ list same. past_equal events j known list.items same is_past) c.list.ensures
