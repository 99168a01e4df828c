-- Behind all accesses nothing is told; else the last access of each thread is looked at.
use Rattle.std.proofs.Common.{◌≡◌, ◌++◌, length, refl, sym, subst, ap, ◌∙◌}
use Rattle.std.specs.Prelude.{Some}
use Rattle.lrc_races_sure.specs.Sure.{AreSureToldAt}
use Rattle.lrc_races_detector.specs.Covers.{cover_of}
use Rattle.lrc_races_detector.specs.Variables.{lasts_of, told_below}
use Rattle.lrc_races_sure_pass.proofs.Covering.{behind_all, none_told_behind, cover_here, cover_after, covers_set}
use Rattle.lrc_races_detector.proofs.Noting.{variables_noted}
use Rattle.lrc_races_sure_pass.proofs.Telling.{told_all}
use Rattle.lrc_races_detector.specs.Vectors.{entries}
use Rattle.lrc_races_sure_pass.proofs.detector.judge_access.Goals as goal

pub returns-then-is_known : goal.returns-then-is_known
returns-then-is_known c = λ events here op g old covers empty.
    let placed = c.args.placed in
    let v = c.args.variable in
    let w = c.args.is_write in
    let known = entries c.args.known in
    let all = behind_all events placed here w v op known g (cover_of c.args.covers.now v) c.if-is_known.ensures (covers v) in (
      variables_noted events placed.position placed.event here w v op c.args.variables.now c.note.new.self placed refl refl c.in_ok-note.ensures old,
      covers_set events placed here w v op known g c.args.covers.now c.set.new.self (Some c.cover_of.result) c.in_ok-set.ensures
          (cover_here events placed here w v op known g all c.cover_of.result c.cover_of.ensures.position c.cover_of.ensures.thread) covers,
      none_told_behind events placed here w v op known g all c.args.told.now.items empty,
    )

pub returns : goal.returns
returns c = λ events here op g old covers empty.
    let placed = c.args.placed in
    let v = c.args.variable in
    let w = c.args.is_write in
    let known = entries c.args.known in
    let lasts = lasts_of c.args.variables.now v in
    let pairs = told_below lasts known placed w (length lasts) in
    let told : c.access.new.told.items ≡ pairs = c.in_ok-access.ensures.told ∙ ap (λ xs. xs ++ pairs) empty in
    let are : AreSureToldAt events placed.position c.access.new.told.items =
    subst (λ ps. AreSureToldAt events placed.position ps) (sym told) (told_all events placed here w v op known g lasts (old v)) in (
      variables_noted events placed.position placed.event here w v op c.args.variables.now c.access.new.variables placed refl refl
          c.in_ok-access.ensures.noted old,
      covers_set events placed here w v op known g c.args.covers.now c.set-2.new.self c.cover_behind.result c.in_ok-set-2.ensures
          (cover_after events placed here w v op known g lasts (old v) c.access.new.told.items c.as_slice.result.now are c.as_slice.ensures.value
          c.cover_behind.result c.cover_behind.ensures) covers,
      are,
    )
