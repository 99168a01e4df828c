use Rattle.std.proofs.Common.{◌≡◌, ◌++◌, [], ◌∷◌, ap, arith, length, rules, refl}
use Rattle.std.proofs.lemmas.List.{length_push}
use Rattle.lrc_threads.proofs.Joined.{owed_more}
use Rattle.lrc_threads.proofs.nodes.joined.Goals as goal

pub loop-thread-preserved : goal.loop-thread-preserved
loop-thread-preserved g c =
    let before = c.loop-thread.pasts.items in
    let items : c.push_reserved.new.self.items ≡ before ++ c.join.result ∷ [] = search rules in
    record {
      owed = owed_more (λ handle. handle.promise) c.loop-thread.yielded (c.loop-thread.yielded ++ c.in-Some.thread ∷ []) c.in-Some.thread before
          c.push_reserved.new.self.items c.join.result refl items c.loop-thread.invariant.owed c.join.ensures;
      few = omega (arith, c.loop-thread.invariant.few, ap length c.in-Some.ensures.steps.0, ap length items, length_push before c.join.result, c.push_reserved.ensures.capacity);
      room = omega (arith, c.loop-thread.invariant.room, c.push_reserved.ensures.capacity);
    }
