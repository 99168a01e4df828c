use Rattle.std.proofs.Common.{◌≡◌, ◌<◌, ◌+◌, set, get_or, rules, sym, subst, ap, ◌∙◌, arith}
use Rattle.std.specs.Prelude.{Some}
use Rattle.lrc_exact.specs.Rule.{closed}
use Rattle.lrc_exact_judge.specs.declared.layout.Layout.{Layout}
use Rattle.lrc_exact_judge.specs.Memory.{AreKept, with_have, with_release}
use Rattle.lrc_exact_judge.proofs.Kept.{kept-released}
use Rattle.lrc_exact_judge.proofs.Loops.{have-here, time-at}
use Rattle.lrc_exact_judge.proofs.memory.Memory.release.Goals as goal

pub index-requires : goal.index-requires
index-requires c =
    let ready = c.requires.ready in
    let kept = c.in_ok-close.ensures.kept ready.accessed ready.learned ready.most ready.having ready.kept in
    let long = kept.all_copies in
    let place = c.from.ensures in
    let same = ap (λ (y : Layout). y.nodes) c.in_ok-close.ensures.alike.layout in
    let within = c.requires.node in
    let size = c.close.new.self.copies.ok.0 in
    omega arith

pub index_mut-requires : goal.index_mut-requires
index_mut-requires c =
    let ready = c.requires.ready in
    let kept = c.in_ok-close.ensures.kept ready.accessed ready.learned ready.most ready.having ready.kept in
    let long = kept.all_locks in
    let place = c.from-2.ensures in
    let fits : c.args.lock < 256 = search rules in
    let size = c.close.new.self.released.ok.0 in
    omega arith

pub returns-clause-kept : goal.returns-clause-kept
returns-clause-kept c = λ a l most having old.
    let memory = c.close.new.self in
    let node = c.args.node in
    let lock = c.args.lock in
    let kept = c.in_ok-close.ensures.kept a l most having old in
    let state = closed node (having.have node) in
    let next = with_have having node state in
    let within : node < memory.layout.nodes = subst (λ (y : Layout). node < y.nodes) (sym c.in_ok-close.ensures.alike.layout) c.requires.node in
    let had : c.index.result.now ≡ get_or memory.copies.items node c.index.result.now =
    c.index.ensures ∙ ap (λ p. get_or memory.copies.items p c.index.result.now) c.from.ensures in
    let here : next.have node ≡ state = have-here having node state in
    let time : c.copy-time.result ≡ (next.have node).knows.time = c.copy-time.ensures ∙ sym (time-at kept node within c.index.result.now had) in
    subst (λ p. AreKept memory.layout a l (most + 1) memory.copies.items memory.made.items (set memory.released.items p (Some c.copy-time.result))
    memory.dropped (with_release next lock state)) (sym c.from-2.ensures)
    (subst (λ s. AreKept memory.layout a l (most + 1) memory.copies.items memory.made.items (set memory.released.items lock (Some c.copy-time.result))
    memory.dropped (with_release next lock s)) here
    (kept-released kept node lock c.copy-time.result within time))
