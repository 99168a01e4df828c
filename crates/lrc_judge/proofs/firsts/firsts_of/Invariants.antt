-- The first ones so far, in order.
use Rattle.std.proofs.Common.{◌≡◌, ℕ, ◌<◌, [], length, get_or}
use Rattle.std.specs.declared.cmp.Ordering.TheVariants.{Less}
use Rattle.lrc_judge.specs.declared.lanes.Entry.{Entry}
use Rattle.lrc_judge.specs.Adding.{Adds}
use Rattle.lrc_judge.specs.Firsts.{IsFirstAt}
use Rattle.lrc_judge.specs.Lanes.{entry_cmp}
use Rattle.lrc_judge.proofs.Additions.{IsBelow}
use Rattle.lrc_judge.proofs.firsts.firsts_of.Given as goal

abbrev pub invariant-loop-at : goal.invariant-loop-at
invariant-loop-at l = record {
  rising : (i j : ℕ) (d : Entry) → i < j → j < length l.firsts.items → entry_cmp (get_or l.firsts.items i d) (get_or l.firsts.items j d) ≡ Less;
  found : Adds [] l.firsts.items (IsBelow (IsFirstAt l.entries l.intervals) l.at);
}
