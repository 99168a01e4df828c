use Rattle.std.proofs.Common.{◌∙◌, sym, ap, rules, false}
use Rattle.std.specs.Option.{option_map_or}
use Rattle.lrc_protocol.specs.Run.{Flying as Sent}
use Rattle.lrc_world.specs.World.{Seen}
use Rattle.lrc_world.proofs.Played.{sent_at}
use Rattle.lrc_world.proofs.world.World.is_oldest_delivered.Goals as goal

pub returns-in-Some : goal.returns-in-Some
returns-in-Some c = λ starts run shows.
    let s = sent_at c.args.self.now.flight.items run.flight 0 c.in-Some.flying.now shows.flight (search rules) (search rules) in
    ap (λ (x : Seen). x.1.1) s.2 ∙ sym (ap (λ o. option_map_or (λ (x : Sent). x.delivered) o false) s.1)
