-- The row of the variable is noted in, and all others are as before.
use Rattle.std.proofs.Common.{◌≡◌, sym, subst, ◌∙◌, ap}
use Rattle.std.proofs.lemmas.Option.{slice_get-get_or}
use Rattle.lrc_races_detector.specs.Variables.{items_of, lasts_of, row_of, IsRowNoted}
use Rattle.lrc_races_detector.proofs.Pushing.{slice_get-set_same, slice_get-set_other}
use Rattle.lrc_races_detector.proofs.variables.Variables.note.Goals as goal

pub returns : goal.returns
returns c =
    let (lt, kept) = c.in_ok-reach.ensures in
    let rows = c.reach.new.self.rows.items in
    let v = c.args.variable in
    let row = c.note.new.self in
    let was : row_of c.index_mut.result.now ≡ lasts_of c.args.self.now v =
    ap row_of c.index_mut.ensures.value ∙ sym (ap items_of (slice_get-get_or rows v _ lt)) ∙ kept v in
    record {
      here = subst (λ l. IsRowNoted (lasts_of c.args.self.now v) l c.args.placed c.args.is_write) (sym (ap items_of (slice_get-set_same rows v row lt)))
          (subst (λ l. IsRowNoted l (row_of row) c.args.placed c.args.is_write) was c.in_ok-note.ensures);
      others = λ other apart. ap items_of (slice_get-set_other rows v row other apart) ∙ kept other;
    }
