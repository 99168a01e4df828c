use Rattle.std.proofs.Common.{◌<◌}
use Rattle.std.proofs.lemmas.List.Quantifiers.{all_pairs_push}
use Rattle.lrc_envelope.proofs.Last.{last_above}
use Rattle.lrc_envelope.proofs.parts.Parts.push.Goals as goal

pub invariant_of-self-2 : goal.invariant_of-self-2
invariant_of-self-2 c =
    let xs = c.self.inside.list.items in
    let below = rw (← c.self.view_is) at c.requires in
    rw c.in_ok-push.ensures.ok
    (all_pairs_push (λ a b. a.index < b.index) xs c.args.part c.self.invariant (last_above (λ p. p.index) xs c.args.part.index c.self.invariant below))
