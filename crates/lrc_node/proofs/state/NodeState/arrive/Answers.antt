use Rattle.std.proofs.Common.{◌≡◌, ℕ, ◌+◌, ◌<◌, Bool, List, ◌∷◌, [], length, sym, ◌∙◌, ap, subst, arith}
use Rattle.std.proofs.lemmas.Result.{IfOk-from_err}
use Rattle.lrc_time.specs.Time.{entry}
use Rattle.lrc_store.specs.Interval.{IntervalRecord}
use Rattle.lrc_envelope.specs.Records.{GoWith}
use Rattle.lrc_envelope.specs.declared.message.Message.TheVariants.{Arrive}
use Rattle.lrc_exec.specs.Meaning.{Setting}
use Rattle.lrc_protocol.specs.Barriers.{Barrier, with_arrive}
use Rattle.lrc_protocol.specs.Node.{departure, Mail, Node, acts, own_index, waiting, with_barrier}
use Rattle.lrc_protocol.specs.Turn.{arrival_of, letter, asks_for_collection}
use Rattle.lrc_node.specs.Effects.{CanAccess}
use Rattle.lrc_node.specs.Seen.{node_of}
use Rattle.lrc_control.specs.Text.{asked_in}
use Rattle.lrc_node.proofs.Kept.{kept_barrier, kept_mail, one_for, made_for}
use Rattle.lrc_node.proofs.state.NodeState.arrive.Goals as goal

pub returns-in_err-intervals-clause-effect : goal.returns-in_err-intervals-clause-effect
returns-in_err-intervals-clause-effect c = IfOk-from_err _ _ c.from_residual.ensures.0

pub returns-in_err-intervals-clause-to : goal.returns-in_err-intervals-clause-to
returns-in_err-intervals-clause-to c = IfOk-from_err _ _ c.from_residual.ensures.0

pub invariant_of-arrive : goal.invariant_of-arrive
invariant_of-arrive c =
    let time = c.copy-time.ensures ∙ c.time.ensures.time ∙ ap (λ (n : Node). n.locks.time) c.self.view_is in
    subst (λ nodes. GoWith nodes c.in_ok-intervals.intervals) (sym (ap length time)) c.in_ok-intervals.ensures.stamps

pub returns-in_err-letters-clause-effect : goal.returns-in_err-letters-clause-effect
returns-in_err-letters-clause-effect c = IfOk-from_err _ _ c.from_residual-in_err-letters.ensures.0

pub returns-in_err-letters-clause-to : goal.returns-in_err-letters-clause-to
returns-in_err-letters-clause-to c = IfOk-from_err _ _ c.from_residual-in_err-letters.ensures.0

pub invariant_of-self : goal.invariant_of-self
invariant_of-self c =
    let node = node_of c.self-2.inside in
    kept_mail (record node { barrier = c.arrive.new.self }) c.wait_for.new.self
    (kept_barrier node c.arrive.new.self c.self-2.invariant c.arrive.ensures.same)
    (ap (λ (m : Mail). length m.sent) c.wait_for.ensures) (ap (λ (m : Mail). length m.taken) c.wait_for.ensures)

pub act-requires : goal.act-requires
act-requires c =
    let asked : asked_in c.self-2.inside.text.course ≡ _ =
    ap (λ (n : Node). asked_in n.course) (c.self-2.view_is ∙ c.letter.ensures.same) ∙ c.requires.next in
    record { access = subst (CanAccess (node_of (record c.self-2.inside { barrier = c.arrive.new.self; mail = c.wait_for.new.self }))) (sym asked) tt }

pub returns-clause-effect : goal.returns-clause-effect
returns-clause-effect c =
    let now : Node = c.args.self.now in
    let node = node_of c.self-2.inside in
    let back : node ≡ now = c.self-2.view_is ∙ c.letter.ensures.same in
    let arrival = λ (episode : ℕ) (ask : Bool) (time : List ℕ) (intervals : List IntervalRecord).
    letter 0 (Arrive (record { episode = episode + 1; ask = ask; time = time; intervals = intervals })) ∷ [] in
    let ask = c.asks_for_collection.result in
    let time = c.copy-time.result in
    let intervals = c.in_ok-intervals.intervals in
    let arrives = λ (n : Node). waiting departure (with_barrier n (with_arrive (own_index n) n.barrier)) in
    let sent : c.in_ok-letters.letters.items ≡ arrival_of now (now.barrier.episode + 1) ∷ [] =
    c.in_ok-letters.ensures.letters
    ∙ ap (λ episode. arrival episode ask time intervals) (c.episode.ensures ∙ ap (λ (n : Node). n.barrier.episode) c.self.view_is)
    ∙ ap (λ a. arrival now.barrier.episode a time intervals) c.asks_for_collection.ensures
    ∙ ap (λ t. arrival now.barrier.episode (asks_for_collection now) t intervals)
    (c.copy-time.ensures ∙ c.time.ensures.time ∙ ap (λ (n : Node). n.locks.time) c.self.view_is)
    ∙ ap (arrival now.barrier.episode (asks_for_collection now) now.locks.time) c.in_ok-intervals.ensures.news in
    let index : c.index.result ≡ own_index node = c.index.ensures ∙ ap (entry node.locks.time) c.self-2.invariant.holder in
    let barrier : c.arrive.new.self ≡ with_arrive (own_index node) node.barrier =
    c.arrive.ensures.barrier ∙ ap (λ i. with_arrive i node.barrier) index in
    let after : Node = record node { barrier = c.arrive.new.self; mail = c.wait_for.new.self } in
    let waits : after ≡ arrives node =
    ap (λ (b : Barrier). let n : Node = record node { barrier = b; mail = c.wait_for.new.self } in n) barrier
    ∙ ap (λ (mail : Mail). record (with_barrier node (with_arrive (own_index node) node.barrier)) { mail = mail }) c.wait_for.ensures in
    rw (ap (λ letters. acts letters (arrives now)) (sym sent) ∙ ap (acts c.in_ok-letters.letters.items) (sym (waits ∙ ap arrives back)))
    c.act.ensures.effect

pub returns-clause-to : goal.returns-clause-to
returns-clause-to c =
    let here : c.self-2.inside.me < c.self-2.inside.nodes = c.self-2.invariant.here in
    let nodes : c.act.new.self.setting.nodes ≡ c.self-2.inside.nodes = ap (λ (s : Setting). s.nodes) c.act.ensures.setting in
    made_for c.act.result c.in_ok-letters.letters c.act.new.self.setting.nodes c.act.ensures.letters
    (one_for c.act.new.self.setting.nodes c.in_ok-letters.letters.items 0 _ c.in_ok-letters.ensures.letters (omega (arith, here, nodes)))
