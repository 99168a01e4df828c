use Rattle.std.proofs.Common.{◌≡◌, ◌∙◌, ◌+◌, ◌<◌, sym, subst, ap, length, take}
use Rattle.lrc_stats.specs.Learned.{brought_after, first_takings, together, with_entry}
use Rattle.lrc_stats.specs.Seen.{HasSeen}
use Rattle.lrc_stats.proofs.SoFar.{IsSoFar, kept_more, so_far_more}
use Rattle.lrc_stats.proofs.learned.learned_in.Goals as goal

pub loop-entry-preserved : goal.loop-entry-preserved
loop-entry-preserved c =
    let log = c.args.log.now in
    let i = c.loop-entry.entry-index in
    let entry = c.entry-item.result in
    let lt : i < length log = c.loop-entry-test.true in
    let kept = first_takings (take i log) in
    let more : first_takings (take (i + 1) log) ≡ with_entry kept entry =
    kept_more log i entry lt ∙ ap (with_entry kept) (sym c.entry-item.is) in
    let before = c.loop-entry.invariant.so_far in
    let both = c.in_ok-brought_after.ensures kept c.loop-entry.invariant.seen in
    let learned : c.in_ok-learned.learned ≡ together c.loop-entry.learned (brought_after kept entry) =
    c.in_ok-learned.ensures ∙ ap (together c.loop-entry.learned) both.0 in
    record {
      seen = subst (λ k. HasSeen k c.brought_after.new.seen) (sym more) both.1;
      so_far = subst (λ k. IsSoFar (i + 1) k c.in_ok-learned.learned) (sym more)
          (subst (λ l. IsSoFar (i + 1) (with_entry kept entry) l) (sym learned) (so_far_more i kept entry c.loop-entry.learned before));
    }
