use Rattle.std.proofs.Common.{[], take, take_all, get_or, refl, sym, subst, arith}
use Rattle.std.proofs.lemmas.List.{take_more}
use Rattle.lrc_exact_copies.specs.Copies.{CopyOf, with_all_changes}
use Rattle.lrc_exact_copies.proofs.Copying.{same-view}
use Rattle.lrc_exact_copies.proofs.Learned.{changes-more, no_change, rank_of}
use Rattle.lrc_exact_copies.proofs.copy.NodeCopy.learn_changes.Goals as goal

pub loop-change-init : goal.loop-change-init
loop-change-init c = λ shape node a state lt same old.
    same-view old (with_all_changes (rank_of c.args.weight c.args.from) [] state) (λ w. refl) (λ w. refl) (λ p. refl) (λ p. refl) refl

pub loop-change-preserved : goal.loop-change-preserved
loop-change-preserved c = λ shape node a state lt same old.
    let changes = c.args.changes.now in
    let i = c.loop-change.change-index in
    let rank = rank_of c.args.weight c.args.from in
    subst (λ xs. CopyOf shape node a c.args.now c.learn_change.new.self (with_all_changes rank xs state))
    (sym (take_more changes i no_change c.loop-change-test.true))
    (changes-more rank (take i changes) (get_or changes i no_change) state
    (c.in_ok-learn_change.ensures shape node a (with_all_changes rank (take i changes) state) lt same
    (c.loop-change.invariant shape node a state lt same old)))

pub returns : goal.returns
returns c = λ shape node a state lt same old.
    subst (λ xs. CopyOf shape node a c.args.now c.loop-change.self (with_all_changes (rank_of c.args.weight c.args.from) xs state))
    (take_all c.loop-change.change-index c.args.changes.now (omega arith))
    (c.loop-change.invariant shape node a state lt same old)
