-- The name has one token more.
use Rattle.std.proofs.Common.{Some, ap, cond, ◌∙◌}
use Rattle.std.specs.HashMap as hash
use Rattle.std.specs.Str.{bytes_eq}
use Rattle.lrc_named_uses.specs.Spots.{with_spot}
use Rattle.lrc_named_uses.proofs.Spotting.{adds}
use Rattle.lrc_named_uses.proofs.spots.put_name.Goals as goal

pub returns : goal.returns
returns c =
    let own = c.args.name.now in
    let old = c.args.spots.now in
    adds own c.args.at old c.insert.new.self
    (λ q. c.in_ok-insert.ensures.updates.0 q
    ∙ ap (λ spots. cond (bytes_eq own q.now) (Some spots) (hash.get_by (λ key. bytes_eq q.now key.now) old))
    (c.with_spot-all.ensures ∙ ap (λ before. with_spot before c.args.at) c.get.ensures.value))
