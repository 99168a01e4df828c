-- The chunk of the row is raised, and no other is kept of it.
use Rattle.std.proofs.Common.{◌≡◌, List, ℕ, set, sym, subst, ◌∙◌, ap}
use Rattle.std.proofs.lemmas.Option.{slice_get-get_or}
use Rattle.lrc_races_detector.specs.Chunks.{IsChunkRaised}
use Rattle.lrc_races_detector.specs.Vectors.{held}
use Rattle.lrc_races_detector.specs.Within.{entries_of, row_in}
use Rattle.lrc_races_detector.proofs.Within.{set_here, set_others, set_grown, chunk_more, still_within}
use Rattle.lrc_races_detector.proofs.clocks.Clocks.level_row.Goals as goal

pub invariant_of-self-2 : goal.invariant_of-self-2
invariant_of-self-2 c =
    let before = c.args.self.now.rows.items in
    let reached = c.reach.new.rows.items in
    let i = c.args.index in
    let row = c.level.new.self in
    let old = c.index_mut.result.now in
    let (room, kept) = c.in_ok-reach.ensures in
    let was : held old ≡ row_in before i =
    ap held c.index_mut.ensures.value ∙ sym (ap entries_of (slice_get-get_or reached i _ room)) ∙ kept i in
    record {
      inside = still_within before (set reached i row) c.args.self.now.within.items c.leave.new.within.items i
          (set_grown before reached i row room kept
          (chunk_more (held old) (row_in before i) (held row) c.args.chunk c.args.value was c.in_ok-level.ensures))
          c.args.self.now.holds c.leave.ensures c.args.self.now.inside;
    }

pub returns : goal.returns
returns c =
    let before = c.args.self.now.rows.items in
    let reached = c.reach.new.rows.items in
    let i = c.args.index in
    let row = c.level.new.self in
    let old = c.index_mut.result.now in
    let (room, kept) = c.in_ok-reach.ensures in
    let was : held old ≡ row_in before i =
    ap held c.index_mut.ensures.value ∙ sym (ap entries_of (slice_get-get_or reached i _ room)) ∙ kept i in
    record {
      here = subst (λ (xs : List ℕ). IsChunkRaised (row_in before i) xs c.args.chunk c.args.value)
          (sym (set_here before reached i row room kept))
          (subst (λ (xs : List ℕ). IsChunkRaised xs (held row) c.args.chunk c.args.value) was c.in_ok-level.ensures);
      others = set_others before reached i row room kept;
    }
