use Rattle.std.proofs.Common.{◌≡◌, ◌∙◌, ap, [], ◌∷◌, ◌++◌, rules}
use Rattle.lrc_node.specs.Node.{TracedNode}
use Rattle.lrc_node.specs.Logged.{TracedLog}
use Rattle.lrc_world.proofs.world.add_node.Goals as goal

pub returns-in_ok-push-in-Ok : goal.returns-in_ok-push-in-Ok
returns-in_ok-push-in-Ok c =
    let items : c.push.new.self.items ≡ c.args.made.now.items ++ c.new-in-Ok.result ∷ [] = search rules in
    items ∙ ap (λ x. c.args.made.now.items ++ x ∷ []) (c.new-in-Ok.ensures
    ∙ ap (λ (x : TracedNode). let t : TracedLog = record { logged = record { node = x.node; log = [] }; trace = x.trace } in t) c.in-Ok.ensures)
