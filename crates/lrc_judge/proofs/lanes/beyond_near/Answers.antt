-- One entry more that is behind, and the first that is not.
use Rattle.std.proofs.Common.{sym, ◌∙◌, arith}
use Rattle.lrc_judge.specs.declared.lanes.Entry.{Entry}
use Rattle.lrc_judge.proofs.Searching.{behind_before, beyond_after}
use Rattle.lrc_judge.proofs.lanes.beyond_near.Goals as goal

abbrev nothing : Entry
nothing = record { lane = record { word = 0; value = 0; node = 0 }; position = 0 }

pub loop-at-preserved : goal.loop-at-preserved
loop-at-preserved c =
    let from = c.loop-at.invariant.from in
    record {
      from = omega arith;
      behind = behind_before c.args.entries.now c.args.order.now c.requires c.args.lane c.args.position c.loop-at.at nothing c.loop-at-test.true
          (sym c.is_behind.ensures ∙ c.if-not-is_behind.false);
    }

pub returns-then-not-is_behind-clause-point : goal.returns-then-not-is_behind-clause-point
returns-then-not-is_behind-clause-point c = (
  c.loop-at.invariant.behind,
  beyond_after c.args.entries.now c.args.order.now c.requires c.args.lane c.args.position c.loop-at.at nothing c.loop-at-test.true
      (sym c.is_behind.ensures ∙ c.if-not-is_behind.true),
)
