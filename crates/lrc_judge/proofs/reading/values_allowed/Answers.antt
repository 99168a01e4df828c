-- One value where the writes are ordered, else all; sorted, and each kept once.
use Rattle.std.proofs.Common.{◌≡◌, ℕ, eqb, sym, ◌∙◌}
use Rattle.std.specs.Prelude.{◌↔◌, false, true, Contains}
use Rattle.std.proofs.lemmas.List.Filters.{dedup_is}
use Rattle.lrc_trace.specs.Reading.{IsSomeWrite, MayRead}
use Rattle.lrc_judge.proofs.Additions.{adds-push}
use Rattle.lrc_judge.proofs.Allowed.{allowed-adds, allowed-from}
use Rattle.lrc_judge.proofs.Tally.{may_any, may_last}
use Rattle.lrc_judge.proofs.reading.values_allowed.Goals as goal
use Rattle.lrc_judge.proofs.reading.values_allowed.Goals.{then-tally+in_ok-push, else-tally+in_ok-add_written}

pub returns : goal.returns
returns c =
    let run = c.args.acts.now in
    let j = c.args.position in
    let word = c.args.word in
    let tally = c.tally_of-tally.result in
    let (written, t) = c.tally_of-tally.ensures in
    let none = c.new-values.result.items in
    let sorted = c.sort_unstable.new.self.items in
    let unique = c.dedup.new.self.items in
    let exact : (value : ℕ) → Contains c.if-tally.values.items value ↔ MayRead run j word value =
    elim c.if-tally.branch [
      | then-tally+in_ok-push w ↦
          let ordered : tally.are_ordered ≡ true = w.if-tally.true in
          rw w.values-is (allowed-adds run j word none w.push.new.self.items (λ v. v ≡ w.latest.result) c.new-values.ensures.items
          (adds-push none w.push.new.self.items w.latest.result w.in_ok-push.ensures.items)
          (λ v. let m = may_last run j word 0 written tally.are_ordered tally.last t ordered v in
          (λ e. m.0 (e ∙ w.latest.ensures), λ r. m.1 r ∙ sym w.latest.ensures)))
      | else-tally+in_ok-add_written w ↦
          let unordered : tally.are_ordered ≡ false = w.if-tally.false in
          rw w.values-is (allowed-adds run j word none w.add_written.new.values.items (IsSomeWrite run j word) c.new-values.ensures.items
          w.in_ok-add_written.ensures (may_any run j word 0 written tally.are_ordered tally.last t unordered))
    ] in
    allowed-from run j word c.if-tally.values.items sorted unique c.sort_unstable.ensures.permutation c.sort_unstable.ensures.sorted
    (dedup_is eqb sorted unique c.dedup.ensures.filtered) exact
