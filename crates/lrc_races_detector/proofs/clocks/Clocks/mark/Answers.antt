-- The thread's own entry is set, and what is within another stays so if the entry is no less than it was.
use Rattle.std.proofs.Common.{◌≡◌, ◌≤◌, List, ℕ, set, sym, subst, ◌∙◌, ap}
use Rattle.std.specs.Prelude.{true, slice_index}
use Rattle.std.specs.Bool.{OnTrue}
use Rattle.std.proofs.lemmas.Option.{slice_get-get_or}
use Rattle.lrc_races_detector.specs.Vectors.{IsPut, held}
use Rattle.lrc_races_detector.specs.Within.{entries_of, row_in}
use Rattle.lrc_races_detector.proofs.Within.{set_here, set_others, marked_within}
use Rattle.lrc_races_detector.proofs.clocks.Clocks.mark.Goals as goal

pub invariant_of-self-2 : goal.invariant_of-self-2
invariant_of-self-2 c =
    let before = c.args.self.now.rows.items in
    let reached = c.reach.new.rows.items in
    let i = c.args.thread in
    let value = c.args.value in
    let row = c.put.new.self in
    let old = c.index_mut.result.now in
    let (room, kept) = c.in_ok-reach.ensures in
    let was : held old ≡ row_in before i = ap held c.index_mut.ensures.value ∙ sym (ap entries_of (slice_get-get_or reached i _ room)) ∙ kept i in
    let known = c.of-known.ensures ∙ ap (λ xs. slice_index xs i) c.row.ensures in
    record {
      inside = marked_within before (set reached i row) c.args.self.now.within.items i value
          (subst (λ (xs : List ℕ). IsPut (row_in before i) xs i value) (sym (set_here before reached i row room kept))
          (subst (λ (xs : List ℕ). IsPut xs (held row) i value) was c.in_ok-put.ensures))
          (set_others before reached i row room kept)
          c.args.self.now.holds c.is_still-holds.result
          (subst (λ (most : ℕ). OnTrue c.is_still-holds.result ((c.args.self.now.holds ≡ true) × (most ≤ value))) known c.is_still-holds.ensures)
          c.args.self.now.inside;
    }

pub returns : goal.returns
returns c =
    let before = c.args.self.now.rows.items in
    let reached = c.reach.new.rows.items in
    let i = c.args.thread in
    let row = c.put.new.self in
    let old = c.index_mut.result.now in
    let (room, kept) = c.in_ok-reach.ensures in
    let was : held old ≡ row_in before i = ap held c.index_mut.ensures.value ∙ sym (ap entries_of (slice_get-get_or reached i _ room)) ∙ kept i in
    record {
      here = subst (λ (xs : List ℕ). IsPut (row_in before i) xs i c.args.value) (sym (set_here before reached i row room kept))
          (subst (λ (xs : List ℕ). IsPut xs (held row) i c.args.value) was c.in_ok-put.ensures);
      others = set_others before reached i row room kept;
    }
