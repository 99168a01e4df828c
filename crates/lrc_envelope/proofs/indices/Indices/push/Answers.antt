use Rattle.std.proofs.Common.{◌≤◌}
use Rattle.std.proofs.lemmas.List.Elements.{All-push}
use Rattle.lrc_envelope.proofs.Last.{increasing_pushed}
use Rattle.lrc_envelope.proofs.indices.Indices.push.Goals as goal

pub invariant_of-self-2 : goal.invariant_of-self-2
invariant_of-self-2 c =
    let list = c.self.inside.list.items in
    rw c.in_ok-push.ensures.ok (record {
      begun = All-push (λ index. 1 ≤ index) list c.args.index c.self.invariant.begun c.requires.begun;
      ascending = increasing_pushed list c.args.index c.self.invariant.ascending (rw (← c.self.view_is) at c.requires.above);
    })
