use Rattle.std.proofs.Common.{◌≡◌, ◌∷◌, inl, inr, sym, subst, arith}
use Rattle.lrc_exec.specs.declared.code.Instruction.{Instruction}
use Rattle.lrc_exec.specs.Flat.{IsSoundAt, rest_at}
use Rattle.lrc_orders_reach.proofs.Placed.{rest_there, sound_there}
use Rattle.lrc_orders_away.proofs.Conflicting.{away_there, none_there}
use Rattle.lrc_orders_away.proofs.conflict.may_conflict_at.Goals as goal

pub returns-in_default : goal.returns-in_default
returns-in_default c = λ e. none_there c.args.follower.now c.args.standing.now c.args.deed (inl (omega (arith, c.in_default.ensures)))

pub returns-then-index-code : goal.returns-then-index-code
returns-then-index-code c = λ e.
    none_there c.args.follower.now c.args.standing.now c.args.deed
    (inr (omega (arith, c.if-index-code.true, c.in-Some.ensures.0, c.in-Some.ensures.1)))

pub may_conflict_by-requires : goal.may_conflict_by-requires
may_conflict_by-requires c =
    let flat = c.args.follower.now.flat in
    let own = c.index-code-index.result in
    (subst (IsSoundAt flat.code.now c.in-Some.index) (sym c.index-code-index.is)
    (sound_there flat c.in-Some.index own c.requires (omega (arith, c.if-index-code.false)))).names

pub returns : goal.returns
returns c = λ e.
    let follower = c.args.follower.now in
    let standing = c.args.standing.now in
    let flat = follower.flat in
    let index = c.in-Some.index in
    let own = c.index-code-index.result in
    let at = subst (λ (i : Instruction). rest_at flat.code.now standing.place ≡ i.statement.now ∷ rest_at flat.code.now i.next) (sym c.index-code-index.is)
    (rest_there flat index own c.requires (omega (arith, c.if-index-code.false)) standing.place (omega (arith, c.in-Some.ensures.0, c.in-Some.ensures.1))) in
    away_there follower standing own.statement.now (rest_at flat.code.now own.next) c.args.deed at (c.may_conflict_by.ensures e)
