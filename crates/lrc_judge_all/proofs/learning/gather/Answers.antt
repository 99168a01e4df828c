use Rattle.std.proofs.Common.{◌≡◌, ◌∙◌, Bool, arith, length, subst, sym, ℕ}
use Rattle.std.specs.Prelude.{MatchBool, IsTrue}
use Rattle.lrc_judge.specs.Adding.{Adds}
use Rattle.lrc_judge.specs.Order.{is_before}
use Rattle.lrc_judge_all.specs.Known.{IsPassed, IsWriteOf}
use Rattle.lrc_judge_all.proofs.Gathering.{before_more, gather_more, gather_same, passed_same}
use Rattle.lrc_judge_all.proofs.learning.gather.Goals as goal
use Rattle.lrc_judge_all.proofs.learning.gather.Goals.{then-is_write_of+else-not-is_before+in_ok-push, else-is_write_of}

pub loop-k-preserved : goal.loop-k-preserved
loop-k-preserved c =
    let run = c.args.acts.now in
    let node = c.args.node in
    let from = c.args.from in
    let k = c.loop-k.k in
    let is = λ (b : Bool). MatchBool b (IsWriteOf run node k) (IsWriteOf run node k → ⊥) in
    elim c.if-is_write_of.branch [
      | then-is_write_of+else-not-is_before+in_ok-push w ↦
          let here : IsWriteOf run node k = subst is w.if-is_write_of.true c.is_write_of.ensures in
          let before : IsTrue (is_before c.args.order.now k c.args.position) = sym w.is_before.ensures ∙ w.if-not-is_before.false in
          record {
            adds = rw w.batch-is (gather_more run node from k c.args.batch.now.items c.loop-k.batch.items w.push.new.self.items c.loop-k.auto.k here
                w.in_ok-push.ensures.items c.loop-k.invariant.adds);
            known = before_more run node from c.args.order.now c.args.position k before c.loop-k.invariant.known;
          }
      | else-is_write_of w ↦
          let not : IsWriteOf run node k → ⊥ = subst is w.if-is_write_of.false c.is_write_of.ensures in
          record {
            adds = rw w.batch-is (gather_same run node from k c.args.batch.now.items c.loop-k.batch.items not c.loop-k.invariant.adds);
            known = λ i p. c.loop-k.invariant.known i (passed_same run node from k i not p);
          }
    ]

pub returns : goal.returns
returns c =
    let run = c.args.acts.now in
    let end : c.loop-k.k ≡ length run = omega arith in
    record {
      within = omega arith;
      forward = c.requires;
      adds = subst (λ n. Adds c.args.batch.now.items c.loop-k.batch.items (IsPassed run c.args.node c.args.from n)) end c.loop-k.invariant.adds;
      known = subst (λ n. (i : ℕ) → IsPassed run c.args.node c.args.from n i → IsTrue (is_before c.args.order.now i c.args.position)) end
          c.loop-k.invariant.known;
      stops = λ lt. absurd (omega (arith, lt));
    }
