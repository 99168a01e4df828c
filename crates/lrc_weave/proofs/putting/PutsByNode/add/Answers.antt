use Rattle.std.proofs.Common.{rules}
use Rattle.lrc_weave.proofs.Lining.{put_into}
use Rattle.lrc_weave.proofs.putting.PutsByNode.add.Goals as goal

pub returns : goal.returns
returns c =
    put_into (λ line. line.items) (λ wire. wire.now) c.args.self.now.lines.items c.from.result c.in-Put.to c.in-Put.stamp c.in-Put.bytes
    c.in-Some.line.now c.push.new.self c.args.wire (search rules) (search rules) (search rules) (search rules)
