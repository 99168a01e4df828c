-- The entry that stands apart is put among the others.
use Rattle.std.proofs.Common.{ap, ◌∙◌}
use Rattle.std.specs.Prelude.{slice_index}
use Rattle.std.proofs.lemmas.Result.{IfOk-weaker}
use Rattle.lrc_races_detector.specs.Chunks.{values}
use Rattle.lrc_races_detector.specs.Vectors.{rest}
use Rattle.lrc_races_detector.proofs.Entries.{laid_alike, settled_none}
use Rattle.lrc_races_detector.proofs.vectors.Vector.list.Goals as goal

pub returns-in-Some : goal.returns-in-Some
returns-in-Some c =
    let self = c.args.self.now in
    let laid = laid_alike self.apart c.in-Some.entry (rest self) (values c.in_ok-all.all.items) (values c.raise.new.chunks.items) c.in-Some.is
    c.in_ok-all.ensures c.in_ok-raise-in-Some.ensures in
    IfOk-weaker c.list.result _ _
    (λ l same thread. same thread ∙ ap (λ xs. slice_index (values xs) thread) c.as_slice.ensures.value ∙ laid thread) c.list.ensures

pub returns : goal.returns
returns c =
    let self = c.args.self.now in
    IfOk-weaker c.list-in-None.result _ _
    (λ l same thread. same thread ∙ ap (λ xs. slice_index (values xs) thread) c.as_slice-in-None.ensures.value
    ∙ c.in_ok-all.ensures thread ∙ settled_none self.apart (rest self) c.in-None.is thread)
    c.list-in-None.ensures
