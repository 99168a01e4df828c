use Rattle.std.proofs.Common.{get_or}
use Rattle.lrc_trace.specs.declared.act.Act.{Act}
use Rattle.lrc_trace.specs.declared.act.Deed.TheVariants.{Quiet}
use Rattle.lrc_trace.proofs.Positions.{Does-read}
use Rattle.lrc_why.proofs.whole.reasons.Goals as goal

abbrev quiet : Act
quiet = record { node = 0; deed = Quiet }

pub returns : goal.returns
returns c =
    let run = c.args.acts.now in
    let position = c.args.position in
    record {
      node = (get_or run position quiet).node;
      deed = (get_or run position quiet).deed;
      does = Does-read run position quiet c.requires.within;
      about = c.in_ok-about.ensures;
      opponents = c.in_ok-opponents.ensures;
      time = c.in_ok-time.ensures;
      words = c.in_ok-words.ensures;
      news = c.in_ok-news.ensures;
      unknown = c.in_ok-unknown.ensures;
      forward = c.in_ok-forward.ensures;
    }
