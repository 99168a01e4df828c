-- The groups are those of the pairs.
use Rattle.std.proofs.Common.{subst, sym}
use Rattle.lrc_races_trace.specs.Groups.{AreGroups}
use Rattle.lrc_races_detector.proofs.Grouping.{groups_from}
use Rattle.lrc_races_detector.proofs.groups.Groups.list.Goals as goal

pub returns : goal.returns
returns c = λ pairs few old.
    subst (AreGroups pairs) (sym c.as_slice.ensures.value) (groups_from pairs c.args.self.now.groups.items (old.groups few))
