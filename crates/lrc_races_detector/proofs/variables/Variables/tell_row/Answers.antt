-- Nothing is told of a variable that has no row.
use Rattle.std.proofs.Common.{◌≡◌, ◌++◌, List, [], length, sym, ◌∙◌, ap}
use Rattle.std.specs.Prelude.{slice_get}
use Rattle.std.proofs.lemmas.List.{append-nil}
use Rattle.std.proofs.lemmas.Option.{slice_get_past}
use Rattle.lrc_races_detector.specs.declared.variables.Last.{Last}
use Rattle.lrc_races_detector.specs.Variables.{items_of, lasts_of, told_below}
use Rattle.lrc_races_detector.specs.Vectors.{entries}
use Rattle.lrc_races_detector.proofs.variables.Variables.tell_row.Goals as goal

pub returns-in-None : goal.returns-in-None
returns-in-None c =
    let told = c.args.told.now.items in
    let v = c.args.variable in
    let (a, b, d, past, e) = c.in-None.ensures.lookup in
    let none : lasts_of c.args.self.now v ≡ [] =
    ap (λ rows. items_of (slice_get rows v)) (sym c.deref.ensures.value) ∙ ap items_of (slice_get_past c.deref.result.now v past) in
    sym (ap (λ (lasts : List Last). told ++ told_below lasts (entries c.args.known) c.args.later c.args.is_write (length lasts)) none ∙ append-nil told)
