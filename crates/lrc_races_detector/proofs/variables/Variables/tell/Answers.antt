-- A read tells nothing of a variable that nobody has written.
use Rattle.std.proofs.Common.{◌≡◌, ◌++◌, [], length, sym, subst, ◌∙◌, ap}
use Rattle.std.specs.Prelude.{Bool}
use Rattle.std.proofs.lemmas.List.{append-nil}
use Rattle.lrc_races_detector.specs.Variables.{lasts_of, told_below}
use Rattle.lrc_races_detector.specs.Vectors.{entries}
use Rattle.lrc_races_detector.proofs.Written.{untold}
use Rattle.lrc_races_detector.proofs.variables.Variables.tell.Goals as goal

pub returns : goal.returns
returns c =
    let lasts = lasts_of c.args.self.now c.args.variable in
    let known = entries c.args.known in
    let told = c.args.told.now.items in
    let none : told_below lasts known c.args.later c.args.is_write (length lasts) ≡ [] =
    subst (λ (w : Bool). told_below lasts known c.args.later w (length lasts) ≡ []) (sym c.if-is_write.false)
    (untold lasts known c.args.later (length lasts) c.if-is_written.ensures) in
    sym (ap (λ xs. told ++ xs) none ∙ append-nil told)
