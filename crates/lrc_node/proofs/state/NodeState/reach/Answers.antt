use Rattle.std.proofs.Common.{◌≡◌, ◌<◌, true, [], length, sym, ◌∙◌, ap, subst}
use Rattle.std.specs.Prelude.{All}
use Rattle.std.proofs.lemmas.Bool.{cond-true}
use Rattle.std.proofs.lemmas.Result.{IfOk-from_err}
use Rattle.lrc_store.specs.declared.key.Key.{Key}
use Rattle.lrc_memory.specs.Turns.{is_mendable}
use Rattle.lrc_protocol.specs.Pages.{Need, need_of, keeper_at, is_met, is_readable, copy_at, repaired}
use Rattle.lrc_protocol.specs.Turn.{fetches, requests_of, reaches}
use Rattle.lrc_exec.specs.Meaning.{Setting}
use Rattle.lrc_protocol.specs.Node.{nothing, Node, acts, waiting, with_memory}
use Rattle.lrc_control.specs.Text.{asked_in}
use Rattle.lrc_node.specs.Effects.{AccessesPage}
use Rattle.lrc_node.specs.Seen.{node_of}
use Rattle.lrc_node.specs.State.{AreFor}
use Rattle.lrc_node.proofs.Misses.{lacking_of_page, requests_for, reaches_missing, access_met, fits_at_once, can_access}
use Rattle.lrc_node.proofs.Kept.{none_for, made_for}
use Rattle.lrc_node.proofs.state.NodeState.reach.Goals as goal

pub repair-requires-clause-of_page : goal.repair-requires-clause-of_page
repair-requires-clause-of_page c =
    subst (λ (n : Need). All (λ (key : Key). key.page ≡ n.page) n.missing) (sym c.in_ok-need.ensures.need)
    (lacking_of_page c.self.inside.memory.memory c.args.page)

pub returns-then-is_met-clause-effect : goal.returns-then-is_met-clause-effect
returns-then-is_met-clause-effect c =
    let node = node_of c.self.inside in
    let need = c.in_ok-need.need in
    let is : need ≡ need_of node.setting.nodes node.memory c.args.page =
    c.in_ok-need.ensures.need ∙ ap (λ n. need_of n node.memory c.args.page) c.self.invariant.last in
    let e = reaches_missing node c.args.page need (sym c.is_readable.ensures ∙ c.if-is_readable.false) is
    ∙ access_met (requests_of need) node need (sym c.is_met.ensures ∙ c.if-is_met.true) in
    let here = subst (λ (n : Node). reaches n c.args.page ≡ acts (requests_of need)
    (waiting nothing (with_memory n (repaired n.memory need)))) c.self.view_is e in
    let now : Node = c.args.self.now in
    let sent = ap (λ letters. acts letters (waiting nothing (with_memory now (repaired now.memory need)))) (sym c.in_ok-letters.ensures.letters) in
    let same = ap (λ (n : Node). acts c.in_ok-letters.letters.items (waiting nothing (with_memory n (repaired n.memory need))))
    (sym c.requests_for.ensures.same) in
    rw (here ∙ sent ∙ same) c.repair.ensures.effect

pub returns-else-is_met-clause-to : goal.returns-else-is_met-clause-to
returns-else-is_met-clause-to c =
    let node = node_of c.self.inside in
    let need = c.in_ok-need.need in
    let nodes : c.await_access.new.self.setting.nodes ≡ node.setting.nodes =
    ap (λ (s : Setting). s.nodes) c.await_access.ensures.setting ∙ ap (λ (n : Node). n.setting.nodes) c.requests_for.ensures.same
    ∙ sym (ap (λ (n : Node). n.setting.nodes) c.self.view_is) in
    let last = c.self.invariant.last in
    let keeper : keeper_at node.memory c.args.page < length node.memory.store.last = c.in_ok-need.ensures.keeper in
    let base : AreFor (length node.memory.store.last) (requests_of (need_of (length node.memory.store.last) node.memory c.args.page)) =
    requests_for (length node.memory.store.last) node.memory c.args.page keeper in
    let sent : c.await_access.result.letters.items ≡ requests_of (need_of (length node.memory.store.last) node.memory c.args.page) =
    ap (λ letters. letters.items) c.await_access.ensures.letters ∙ c.in_ok-letters.ensures.letters ∙ ap requests_of c.in_ok-need.ensures.need in
    subst (λ n. AreFor n c.await_access.result.letters.items) (last ∙ sym nodes)
    (subst (AreFor (length node.memory.store.last)) (sym sent) base)

pub act-requires : goal.act-requires
act-requires c =
    let now : Node = c.args.self.now in
    let readable = ap (λ (n : Node). is_readable (copy_at n.memory c.args.page)) (sym c.self.view_is)
    ∙ sym c.is_readable.ensures ∙ c.if-is_readable.true in
    record { access = can_access now now.memory c.args.page (asked_in now.course) c.requires.next readable }

pub returns-then-is_readable-clause-effect : goal.returns-then-is_readable-clause-effect
returns-then-is_readable-clause-effect c =
    let now : Node = c.args.self.now in
    let readable = ap (λ (n : Node). is_readable (copy_at n.memory c.args.page)) (sym c.self.view_is)
    ∙ sym c.is_readable.ensures ∙ c.if-is_readable.true in
    let hit : reaches now c.args.page ≡ acts [] now = cond-true (is_readable (copy_at now.memory c.args.page)) _ _ readable in
    rw (hit ∙ ap (λ letters. acts letters now) (sym c.new.ensures.items)) c.act-then-is_readable.ensures.effect

pub returns-then-is_readable-clause-to : goal.returns-then-is_readable-clause-to
returns-then-is_readable-clause-to c =
    let nodes = c.act-then-is_readable.new.self.setting.nodes in
    made_for c.act-then-is_readable.result c.new.result nodes c.act-then-is_readable.ensures.letters
    (none_for nodes c.new.result.items c.new.ensures.items)

pub need-requires : goal.need-requires
need-requires c = subst (λ (n : Node). c.args.page < length n.memory.copies) (sym c.self.view_is) c.requires.page

pub returns-in_err-need-clause-effect : goal.returns-in_err-need-clause-effect
returns-in_err-need-clause-effect c = IfOk-from_err _ _ c.from_residual.ensures.0

pub returns-in_err-need-clause-to : goal.returns-in_err-need-clause-to
returns-in_err-need-clause-to c = IfOk-from_err _ _ c.from_residual.ensures.0

pub returns-in_err-letters-clause-effect : goal.returns-in_err-letters-clause-effect
returns-in_err-letters-clause-effect c = IfOk-from_err _ _ c.from_residual-in_err-letters.ensures.0

pub returns-in_err-letters-clause-to : goal.returns-in_err-letters-clause-to
returns-in_err-letters-clause-to c = IfOk-from_err _ _ c.from_residual-in_err-letters.ensures.0

pub repair-requires-clause-page : goal.repair-requires-clause-page
repair-requires-clause-page c =
    let page = ap (λ (n : Need). n.page) c.in_ok-need.ensures.need in
    subst (λ p. p < length c.requests_for.new.self.memory.copies) (sym page)
    (subst (λ (n : Node). c.args.page < length n.memory.copies) (sym c.requests_for.ensures.same) c.requires.page)

pub repair-requires-clause-fit : goal.repair-requires-clause-fit
repair-requires-clause-fit c =
    let node = node_of c.self.inside in
    let need = c.in_ok-need.need in
    let is = c.in_ok-need.ensures.need in
    let fit = fits_at_once node.options.size (length node.memory.store.last) node.memory c.args.page
    (sym c.is_readable.ensures ∙ c.if-is_readable.false) (ap is_met (sym is) ∙ sym c.is_met.ensures ∙ c.if-is_met.true) in
    subst (λ (n : Node). is_mendable n.options.size (copy_at n.memory need.page) need.base ≡ true) (c.self.view_is ∙ sym c.requests_for.ensures.same)
    (subst (λ (n : Need). is_mendable node.options.size (copy_at node.memory n.page) n.base ≡ true) (sym is) fit)

pub repair-requires-clause-next : goal.repair-requires-clause-next
repair-requires-clause-next c =
    let now : Node = c.requests_for.new.self in
    let page = ap (λ (n : Need). n.page) c.in_ok-need.ensures.need in
    subst (λ p. AccessesPage now p (asked_in now.course)) (sym page)
    (subst (λ (n : Node). AccessesPage n c.args.page (asked_in n.course)) (sym c.requests_for.ensures.same) c.requires.next)

pub await_access-requires : goal.await_access-requires
await_access-requires c = sym c.is_met.ensures ∙ c.if-is_met.false

pub returns-then-is_met-clause-to : goal.returns-then-is_met-clause-to
returns-then-is_met-clause-to c =
    let node = node_of c.self.inside in
    let many = length node.memory.store.last in
    let nodes : c.repair.new.self.setting.nodes ≡ node.setting.nodes =
    ap (λ (s : Setting). s.nodes) c.repair.ensures.setting ∙ ap (λ (n : Node). n.setting.nodes) c.requests_for.ensures.same
    ∙ sym (ap (λ (n : Node). n.setting.nodes) c.self.view_is) in
    let sent : c.in_ok-letters.letters.items ≡ requests_of (need_of many node.memory c.args.page) =
    c.in_ok-letters.ensures.letters ∙ ap requests_of c.in_ok-need.ensures.need in
    made_for c.repair.result c.in_ok-letters.letters c.repair.new.self.setting.nodes c.repair.ensures.letters
    (subst (λ n. AreFor n c.in_ok-letters.letters.items) (c.self.invariant.last ∙ sym nodes)
    (subst (AreFor many) (sym sent) (requests_for many node.memory c.args.page c.in_ok-need.ensures.keeper)))

pub returns-else-is_met-clause-effect : goal.returns-else-is_met-clause-effect
returns-else-is_met-clause-effect c =
    let node = node_of c.self.inside in
    let now : Node = c.args.self.now in
    let need = c.in_ok-need.need in
    let is : need ≡ need_of node.setting.nodes node.memory c.args.page =
    c.in_ok-need.ensures.need ∙ ap (λ n. need_of n node.memory c.args.page) c.self.invariant.last in
    let here = subst (λ (n : Node). reaches n c.args.page ≡ fetches (requests_of need) n need) c.self.view_is
    (reaches_missing node c.args.page need (sym c.is_readable.ensures ∙ c.if-is_readable.false) is) in
    here ∙ ap (λ letters. fetches letters now need) (sym c.in_ok-letters.ensures.letters)
    ∙ ap (λ (n : Node). fetches c.in_ok-letters.letters.items n need) (sym c.requests_for.ensures.same) ∙ c.await_access.ensures.effect
