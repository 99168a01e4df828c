use Rattle.std.proofs.Common.{◌≡◌, ◌∙◌, refl, ap, map, arith}
use Rattle.std.specs.List.{range_with_len}
use Rattle.lrc_world.specs.World.{Starts, fresh_one, starts_of, seen_flying}
use Rattle.lrc_world.proofs.Kept.{all_fresh, fresh_replayed}
use Rattle.lrc_world.proofs.Worlds.{fresh_few, fresh_short, fresh_next}
use Rattle.lrc_world.proofs.world.World.new.Goals as goal

pub returns-clause-shows : goal.returns-clause-shows
returns-clause-shows c =
    let all : c.loop-me.me ≡ c.args.nodes = omega arith in
    let starts : Starts = starts_of c.args.code.now c.args.nodes c.args.options.now c.args.keep in
    record {
      keep = refl;
      nodes = c.loop-me.invariant
          ∙ ap (λ n. map (fresh_one c.args.code.now c.args.nodes c.args.options.now) (range_with_len 0 n)) all
          ∙ all_fresh starts c.args.nodes;
      replayed = fresh_replayed starts c.args.nodes;
      flight = ap (map seen_flying) c.new.ensures.items;
      acts = c.new-2.ensures.items;
      short = fresh_short c.args.code.now c.args.nodes c.args.options.now;
      few = fresh_few c.args.code.now c.args.nodes c.args.options.now c.requires.few;
    }

pub loop-me-preserved : goal.loop-me-preserved
loop-me-preserved c =
    c.in_ok-add_node.ensures
    ∙ fresh_next c.args.code.now c.args.nodes c.args.options.now c.loop-me.made.items
    (fresh_one c.args.code.now c.args.nodes c.args.options.now c.loop-me.me) c.loop-me.me c.loop-me.invariant refl
