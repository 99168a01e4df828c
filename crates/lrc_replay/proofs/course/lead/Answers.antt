use Rattle.std.proofs.Common.{◌≡◌, ◌∙◌, ◌++◌, ◌∷◌, [], ℕ, ap, arith, get_or, rules, subst, sym}
use Rattle.std.specs.Prelude.{slice_set}
use Rattle.std.proofs.lemmas.List.Elements.{All-set}
use Rattle.lrc_private_names.specs.Ways.{IsOnWay}
use Rattle.lrc_replay.specs.Courses.{AreWays}
use Rattle.lrc_replay.proofs.Coursing.{ways_led, ways_past}
use Rattle.lrc_replay.proofs.course.lead.Goals as goal

pub returns-then-node-len-clause-on : goal.returns-then-node-len-clause-on
returns-then-node-len-clause-on c =
    All-set IsOnWay c.args.ways.now.items c.from-node.result c.follow.new.self c.follow.ensures.on c.requires

pub returns-then-node-len-clause-led : goal.returns-then-node-len-clause-led
returns-then-node-len-clause-led c plan acts are =
    let ways = c.args.ways.now.items in
    let place : c.from-node.result ≡ c.args.act.node = search rules in
    let at : c.index_mut.result.now ≡ get_or ways c.args.act.node c.index_mut.result.now =
    c.index_mut.ensures.value ∙ ap (λ n. get_or ways n c.index_mut.result.now) place in
    subst (λ (n : ℕ). AreWays plan (acts ++ c.args.act ∷ []) (slice_set ways n c.follow.new.self)) (sym place)
    (ways_led plan acts c.args.act ways c.index_mut.result.now c.follow.new.self are (omega (arith, c.if-node-len.true, place)) at c.follow.ensures.thread)

pub returns-else-node-len-clause-led : goal.returns-else-node-len-clause-led
returns-else-node-len-clause-led c plan acts are =
    let place : c.from-node.result ≡ c.args.act.node = search rules in
    ways_past plan acts c.args.act c.args.ways.now.items are (omega (arith, c.if-node-len.false, place))
