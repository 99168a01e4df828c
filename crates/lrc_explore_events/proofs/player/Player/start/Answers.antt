use Rattle.std.proofs.Common.{◌∙◌, [], ap, refl}
use Rattle.lrc_lines.specs.Walks.{end_line, walks_behind}
use Rattle.lrc_explore_events.proofs.player.Player.start.Goals as goal

pub returns-clause-player : goal.returns-clause-player
returns-clause-player c = record {
  replay = c.in_ok-replay.ensures;
  walks = c.in_ok-walks.ensures.walks ∙ ap (λ lines. walks_behind c.args.code.now c.args.nodes lines []) c.requires.numbers;
  end = c.in_ok-walks.ensures.end ∙ ap end_line c.requires.numbers;
  acts = refl;
}
