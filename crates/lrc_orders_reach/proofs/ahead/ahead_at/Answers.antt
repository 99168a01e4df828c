use Rattle.std.proofs.Common.{◌≡◌, ◌∷◌, inl, inr, sym, subst, arith}
use Rattle.lrc_exec.specs.declared.code.Instruction.{Instruction}
use Rattle.lrc_exec.specs.Flat.{IsSoundAt, rest_at}
use Rattle.lrc_orders_reach.proofs.Led.{led_by}
use Rattle.lrc_orders_reach.proofs.Placed.{no_step, rest_there, sound_there, step_there}
use Rattle.lrc_orders_reach.proofs.ahead.ahead_at.Goals as goal

pub returns-in_default : goal.returns-in_default
returns-in_default c = no_step c.args.follower.now c.args.standing.now (inl (omega (arith, c.in_default.ensures)))

pub returns-then-index-code : goal.returns-then-index-code
returns-then-index-code c =
    no_step c.args.follower.now c.args.standing.now (inr (omega (arith, c.if-index-code.true, c.in-Some.ensures.0, c.in-Some.ensures.1)))

pub ahead_of-ahead-requires : goal.ahead_of-ahead-requires
ahead_of-ahead-requires c =
    let flat = c.args.follower.now.flat in
    let own = c.index-code-index.result in
    (subst (IsSoundAt flat.code.now c.in-Some.index) (sym c.index-code-index.is)
    (sound_there flat c.in-Some.index own c.requires (omega (arith, c.if-index-code.false)))).names

pub returns : goal.returns
returns c =
    let follower = c.args.follower.now in
    let standing = c.args.standing.now in
    let flat = follower.flat in
    let index = c.in-Some.index in
    let own = c.index-code-index.result in
    let ahead = c.ahead_of-ahead.result in
    let sound = subst (IsSoundAt flat.code.now index) (sym c.index-code-index.is) (sound_there flat index own c.requires (omega (arith, c.if-index-code.false))) in
    let at = subst (λ (i : Instruction). rest_at flat.code.now standing.place ≡ i.statement.now ∷ rest_at flat.code.now i.next) (sym c.index-code-index.is)
    (rest_there flat index own c.requires (omega (arith, c.if-index-code.false)) standing.place (omega (arith, c.in-Some.ensures.0, c.in-Some.ensures.1))) in
    step_there follower standing index own ahead c.standing_at.result c.standing_at-2.result sound at
    (λ rest. led_by follower own.statement.now standing.names ahead c.ahead_of-ahead.ensures rest) c.standing_at.ensures c.standing_at-2.ensures
