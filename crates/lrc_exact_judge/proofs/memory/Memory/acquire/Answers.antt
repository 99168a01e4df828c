use Rattle.std.proofs.Common.{◌≤◌, ◌<◌, ◌+◌, length, set, get_or, rules, refl, sym, subst, ap, ◌∙◌, arith}
use Rattle.lrc_time.specs.Time.{entry}
use Rattle.lrc_exact.specs.Rule.{acquired, closed}
use Rattle.lrc_exact_copies.specs.Made.{AreAmong, row_of}
use Rattle.lrc_exact_judge.specs.declared.layout.Layout.{Layout}
use Rattle.lrc_exact_judge.specs.Memory.{AreKept, IsReleased, with_have}
use Rattle.lrc_exact_judge.specs.Shape.{shape_of}
use Rattle.lrc_exact_judge.proofs.Kept.{kept-later}
use Rattle.lrc_exact_judge.proofs.Learning.{acquired-some, found-released, learned-at, own-at, released-none, released-some}
use Rattle.lrc_exact_judge.proofs.Loops.{kept-have, long-at}
use Rattle.lrc_exact_judge.proofs.memory.Memory.acquire.Goals as goal

pub index-requires : goal.index-requires
index-requires c =
    let ready = c.requires.ready in
    let kept = c.in_ok-close.ensures.kept ready.accessed ready.learned ready.most ready.having ready.kept in
    let long = kept.all_locks in
    let place = c.from.ensures in
    let fits : c.args.lock < 256 = search rules in
    let size = c.close.new.self.released.ok.0 in
    omega arith

pub index_mut-copy-requires : goal.index_mut-copy-requires
index_mut-copy-requires c =
    let ready = c.requires.ready in
    let kept = c.in_ok-close.ensures.kept ready.accessed ready.learned ready.most ready.having ready.kept in
    let long = kept.all_copies in
    let place = c.from-in-Some.ensures in
    let same = ap (λ (y : Layout). y.nodes) c.in_ok-close.ensures.alike.layout in
    let within = c.requires.node in
    let size = c.close.new.self.copies.ok.0 in
    omega arith

pub learn_all-requires-clause-long : goal.learn_all-requires-clause-long
learn_all-requires-clause-long c =
    let ready = c.requires.ready in
    let mid = c.close.new.self in
    let node = c.args.node in
    let kept = c.in_ok-close.ensures.kept ready.accessed ready.learned ready.most ready.having ready.kept in
    let within : node < mid.layout.nodes = subst (λ (y : Layout). node < y.nodes) (sym c.in_ok-close.ensures.alike.layout) c.requires.node in
    let fits : c.args.lock < 256 = search rules in
    let known = released-some (subst (λ o. IsReleased mid.layout.nodes mid.made.items o (ready.having.released c.args.lock)) c.in-Some.is
    (found-released kept c.args.lock c.from.result c.index.result.now fits c.from.ensures c.index.ensures)) in
    long-at kept node within c.index_mut-copy.result.now
    (c.index_mut-copy.ensures.value ∙ ap (λ p. get_or mid.copies.items p c.index_mut-copy.result.now) c.from-in-Some.ensures)
    ∙ sym known.wide

pub learn_all-requires-clause-rows : goal.learn_all-requires-clause-rows
learn_all-requires-clause-rows c =
    let ready = c.requires.ready in
    let mid = c.close.new.self in
    let kept = c.in_ok-close.ensures.kept ready.accessed ready.learned ready.most ready.having ready.kept in
    let fits : c.args.lock < 256 = search rules in
    let known = released-some (subst (λ o. IsReleased mid.layout.nodes mid.made.items o (ready.having.released c.args.lock)) c.in-Some.is
    (found-released kept c.args.lock c.from.result c.index.result.now fits c.from.ensures c.index.ensures)) in
    ap length c.as_slice.ensures.value ∙ kept.all_made ∙ sym known.wide

pub learn_all-requires-clause-there : goal.learn_all-requires-clause-there
learn_all-requires-clause-there c = λ q.
    let ready = c.requires.ready in
    let mid = c.close.new.self in
    let kept = c.in_ok-close.ensures.kept ready.accessed ready.learned ready.most ready.having ready.kept in
    let fits : c.args.lock < 256 = search rules in
    let known = released-some (subst (λ o. IsReleased mid.layout.nodes mid.made.items o (ready.having.released c.args.lock)) c.in-Some.is
    (found-released kept c.args.lock c.from.result c.index.result.now fits c.from.ensures c.index.ensures)) in
    let there = known.among.there q in
    let times = ap (λ t. entry t q) known.times in
    let rows = ap (λ xs. length (row_of xs q)) c.as_slice.ensures.value in
    omega arith

pub returns-in_ok-learn_all-in-Some-clause-kept : goal.returns-in_ok-learn_all-in-Some-clause-kept
returns-in_ok-learn_all-in-Some-clause-kept c = λ a l most having early late old.
    let mid = c.close.new.self in
    let node = c.args.node in
    let lock = c.args.lock in
    let kept = c.in_ok-close.ensures.kept a l most having old in
    let fits : lock < 256 = search rules in
    let known = released-some (subst (λ o. IsReleased mid.layout.nodes mid.made.items o (having.released lock)) c.in-Some.is
    (found-released kept lock c.from.result c.index.result.now fits c.from.ensures c.index.ensures)) in
    let within : node < mid.layout.nodes = subst (λ (y : Layout). node < y.nodes) (sym c.in_ok-close.ensures.alike.layout) c.requires.node in
    let next = with_have having node (closed node (having.have node)) in
    let had = c.index_mut-copy.result.now in
    let had_is = c.index_mut-copy.ensures.value ∙ ap (λ p. get_or mid.copies.items p had) c.from-in-Some.ensures in
    let own : entry c.in-Some.time node ≤ entry had.time node = own-at kept node had known.state.knows c.in-Some.time within had_is known.among known.times in
    subst (λ n. AreKept mid.layout a c.args.now (most + 1) (set mid.copies.items c.from-in-Some.result c.learn_all.new.copy) mid.made.items mid.released.items mid.dropped
    (with_have having node (acquired n node (having.have node) (having.released lock))))
    (ap (λ (y : Layout). y.nodes) c.in_ok-close.ensures.alike.layout)
    (acquired-some having node lock known.state known.is
    (learned-at kept c.args.now node c.from-in-Some.result had c.learn_all.new.copy known.state.knows c.in-Some.time early late within c.from-in-Some.ensures
    c.index_mut-copy.ensures.value known.among known.times known.wide
    (λ h. c.in_ok-learn_all-in-Some.ensures.copy (shape_of mid.layout) node a (next.have node) known.state.knows early refl known.times
    (subst (λ xs. AreAmong xs known.state.knows) (sym c.as_slice.ensures.value) known.among) own h)))

pub returns-in-None-clause-kept : goal.returns-in-None-clause-kept
returns-in-None-clause-kept c = λ a l most having early late old.
    let mid = c.close.new.self in
    let node = c.args.node in
    let lock = c.args.lock in
    let kept = c.in_ok-close.ensures.kept a l most having old in
    let fits : lock < 256 = search rules in
    let none = released-none (subst (λ o. IsReleased mid.layout.nodes mid.made.items o (having.released lock)) c.in-None.is
    (found-released kept lock c.from.result c.index.result.now fits c.from.ensures c.index.ensures)) in
    kept-have having node (closed node (having.have node)) (acquired c.args.self.now.layout.nodes node (having.have node) (having.released lock))
    (ap (acquired c.args.self.now.layout.nodes node (having.have node)) (sym none))
    (kept-later kept a c.args.now (most + 1) (omega arith) late (omega arith))
