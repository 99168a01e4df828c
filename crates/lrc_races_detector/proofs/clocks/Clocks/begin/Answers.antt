-- The row is a copy of the other.
use Rattle.std.proofs.Common.{◌≡◌, set, ◌∙◌, ap, arith}
use Rattle.std.specs.Prelude.{slice_index}
use Rattle.lrc_races_detector.specs.Within.{row_in}
use Rattle.lrc_races_detector.proofs.Within.{set_here, set_others, set_grown, begun_within}
use Rattle.lrc_races_detector.proofs.clocks.Clocks.begin.Goals as goal

pub invariant_of-self-2 : goal.invariant_of-self-2
invariant_of-self-2 c =
    let before = c.args.self.now.rows.items in
    let reached = c.reach.new.rows.items in
    let to = c.args.to in
    let row = c.copy.new.self in
    let (room, kept) = c.in_ok-reach.ensures in
    record {
      inside = begun_within before (set reached to row) c.args.self.now.within.items c.keep.new.within.items to
          (set_grown before reached to row room kept (λ thread.
          let none : slice_index (row_in before to) thread ≡ 0 = ap (λ xs. slice_index xs thread) c.requires in
          omega arith))
          c.args.from (set_here before reached to row room kept ∙ c.in_ok-copy.ensures ∙ c.row.ensures) c.args.self.now.holds c.in_ok-keep.ensures
          c.args.self.now.inside;
    }

pub returns : goal.returns
returns c =
    let before = c.args.self.now.rows.items in
    let reached = c.reach.new.rows.items in
    let to = c.args.to in
    let row = c.copy.new.self in
    let (room, kept) = c.in_ok-reach.ensures in
    record {
      here = set_here before reached to row room kept ∙ c.in_ok-copy.ensures ∙ c.row.ensures;
      others = set_others before reached to row room kept;
    }
