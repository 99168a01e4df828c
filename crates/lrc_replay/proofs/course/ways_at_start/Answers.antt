use Rattle.std.proofs.Common.{◌≡◌, ◌++◌, ◌∷◌, [], List, rules, subst, sym}
use Rattle.std.specs.Prelude.{All}
use Rattle.lrc_exec.specs.Plain.{start_of}
use Rattle.lrc_private_names.specs.declared.way.Way.{Way}
use Rattle.lrc_private_names.specs.Ways.{IsOnWay}
use Rattle.lrc_replay.proofs.Coursing.{all_more, ways_more}
use Rattle.lrc_replay.proofs.course.ways_at_start.Goals as goal

pub loop-me-preserved : goal.loop-me-preserved
loop-me-preserved c =
    let items : c.push.new.self.items ≡ c.loop-me.ways.items ++ c.in_ok-start.field-0 ∷ [] = search rules in
    record {
      on = subst (λ (l : List Way). All IsOnWay l) (sym items) (all_more IsOnWay c.loop-me.ways.items c.in_ok-start.field-0 c.loop-me.invariant.on c.in_ok-start.ensures.on);
      ways = ways_more (λ me. start_of c.args.code.now c.args.nodes me) c.loop-me.ways.items c.push.new.self.items c.in_ok-start.field-0 c.loop-me.me
          c.loop-me.invariant.ways items c.in_ok-start.ensures.thread;
    }
