use Rattle.std.proofs.Common.{◌≡◌, ◌≤◌, length}
use Rattle.std.specs.Vec.{vec_capacity}
use Rattle.lrc_post.specs.Post.{AreWires, AreOf}
use Rattle.lrc_post.proofs.post.Post.into_wires.Given as goal

abbrev pub invariant-loop-owner : goal.invariant-loop-owner
invariant-loop-owner l =
    (length l.mailboxes.items ≡ l.owner) × (l.fn.self.nodes ≤ vec_capacity l.mailboxes) × (l.owner ≤ l.fn.self.nodes) × AreWires l.mailboxes.items
    × AreOf l.fn.self.picker l.mailboxes.items
