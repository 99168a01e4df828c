use Rattle.std.proofs.Common.{◌≡◌, ◌∙◌, ◌≤◌, ◌++◌, [], ◌∷◌, List, sym, ap, subst, arith, length, map, rules}
use Rattle.std.proofs.lemmas.List.{length-map}
use Rattle.std.specs.declared.thread.PromisedHandle.{PromisedHandle}
use Rattle.lrc_threads.specs.declared.life.Past.{Past}
use Rattle.lrc_protocol.specs.Node.{fresh_node}
use Rattle.lrc_threads.specs.declared.nodes.PastOf.{PastOf}
use Rattle.lrc_threads.specs.declared.member.Member.{Member}
use Rattle.lrc_node.specs.Options.{options_of}
use Rattle.lrc_threads.specs.Threads.{AreOwed, node_of}
use Rattle.lrc_threads.proofs.Joined.{first_pasts, started_more}
use Rattle.lrc_threads.proofs.nodes.fn.pasts_of.scope.Goals.{else-loop-me-test, then-loop-me-test+in_default, then-loop-me-test+in-Ok+then-is_err}
use Rattle.lrc_threads.proofs.nodes.fn.pasts_of.scope.Goals as goal

pub loop-me-preserved : goal.loop-me-preserved
loop-me-preserved g c =
    let program = c.captures.program.now in
    let setting = c.captures.setting.now in
    let items : c.push.new.self.items ≡ c.loop-me.threads.items ++ c.in-Ok.thread ∷ [] = search rules in
    let promised = ap node_of c.in-Ok.ensures.ok in
    let member = ap (λ (m : Member). fresh_node program m.nodes m.options m.me) c.new-member.ensures in
    let more = started_more program setting.nodes.count (options_of setting) (λ handle. handle.promise) c.loop-me.threads.items c.push.new.self.items
    c.in-Ok.thread c.loop-me.me items c.loop-me.invariant.count c.loop-me.invariant.owed (promised ∙ member) in
    record { count = more.0; owed = more.1; few = omega (arith, c.loop-me-test.true, c.number-nodes.ensures) }

pub joined-pasts-requires : goal.joined-pasts-requires
joined-pasts-requires g c =
    let setting = c.captures.setting.now in
    let AreFew = λ (threads : List (PromisedHandle Past PastOf)). length threads ≤ setting.nodes.count in
    let so_far : AreFew c.loop-me.threads.items = omega (arith, c.loop-me.invariant.count, c.loop-me.invariant.few) in
    let few : AreFew c.loop-me-test.threads.items =
    elim c.loop-me-test.branch [
      | else-loop-me-test w ↦ subst (λ threads. AreFew threads.items) (sym w.threads-is) so_far
      | then-loop-me-test+in_default w ↦ subst (λ threads. AreFew threads.items) (sym w.threads-is) so_far
      | then-loop-me-test+in-Ok+then-is_err w ↦
          let items : c.loop-me-test.threads.items ≡ c.loop-me.threads.items = search rules in subst AreFew (sym items) so_far
    ] in
    let same : c.from.result ≡ c.number-nodes.result = search rules in
    record { none = c.in_ok-room.ensures.items; room = omega (arith, few, same, c.number-nodes.ensures, c.in_ok-room.ensures.capacity) }

pub filled-requires : goal.filled-requires
filled-requires g c =
    let program = c.captures.program.now in
    let setting = c.captures.setting.now in
    let AreSo = λ (threads : List (PromisedHandle Past PastOf)). (length threads ≤ setting.nodes.count)
    × AreOwed program setting.nodes.count (options_of setting) (map (λ handle. handle.promise) threads) in
    let so_far : AreSo c.loop-me.threads.items = (omega (arith, c.loop-me.invariant.count, c.loop-me.invariant.few), c.loop-me.invariant.owed) in
    let started : AreSo c.loop-me-test.threads.items =
    elim c.loop-me-test.branch [
      | else-loop-me-test w ↦ subst (λ threads. AreSo threads.items) (sym w.threads-is) so_far
      | then-loop-me-test+in_default w ↦ subst (λ threads. AreSo threads.items) (sym w.threads-is) so_far
      | then-loop-me-test+in-Ok+then-is_err w ↦
          let items : c.loop-me-test.threads.items ≡ c.loop-me.threads.items = search rules in subst AreSo (sym items) so_far
    ] in
    let same : c.from.result ≡ c.number-nodes.result = search rules in
    let kept = c.joined-pasts.ensures.owed in
    record {
      few = omega (arith, started.0, kept.count, length-map c.loop-me-test.threads.items (λ handle. handle.promise));
      room = omega (arith, same, c.number-nodes.ensures, c.joined-pasts.ensures.room, c.in_ok-room.ensures.capacity);
      pasts = first_pasts program setting.nodes.count (options_of setting) (map (λ handle. handle.promise) c.loop-me-test.threads.items)
          c.joined-pasts.result.items started.1 kept;
    }
