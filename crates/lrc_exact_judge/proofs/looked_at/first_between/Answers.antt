use Rattle.std.proofs.Common.{◌≡◌, ◌<◌, ◌+◌, ℕ, length, length-set, get_or, sym, subst, ap, ◌∙◌, arith}
use Rattle.std.proofs.lemmas.Bool.{both_ways}
use Rattle.lrc_trace.specs.declared.act.Act.{Act}
use Rattle.lrc_trace.specs.declared.act.Deed.TheVariants.{Quiet}
use Rattle.lrc_trace.specs.Run.{Does, is_arrive, is_depart, arrives_before, departs_before}
use Rattle.lrc_trace.proofs.Positions.{Does-node, Does-read}
use Rattle.lrc_trace.proofs.Counts.{counts_next, counts_same, no_arrive, no_depart}
use Rattle.lrc_exact_judge.proofs.Counting.{never-more, not-between, waits-never}
use Rattle.lrc_exact_judge.proofs.looked_at.first_between.Goals as goal
use Rattle.lrc_exact_judge.proofs.looked_at.first_between.Goals.{in-Depart, in-Arrive+else-departs-node, in_default+else-departs-node-2}

pub loop-position-preserved : goal.loop-position-preserved
loop-position-preserved c =
    let run = c.args.acts.now in
    let n = c.loop-position.position in
    let act : Act = get_or run n (record { node = 0; deed = Quiet }) in
    let node = c.from-node.result in
    let arrives = c.loop-position.arrives in
    let departs = c.loop-position.departs in
    let inv = c.loop-position.invariant in
    let here : Does run n node act.deed = Does-node (sym c.from-node.ensures) (Does-read run n (record { node = 0; deed = Quiet }) c.loop-position-test.true) in
    let low : node < 16 = rw c.from-node.ensures (c.requires n (record { node = 0; deed = Quiet }) c.loop-position-test.true) in
    elim c.match-acts-position.branch [
      | in-Depart w ↦
          record {
            all_arrives = ap length w.arrives-is ∙ inv.all_arrives;
            all_departs = ap length w.departs-is ∙ length-set departs node (get_or departs node 0 + 1) ∙ inv.all_departs;
            arrives_are =
                subst (λ xs. (q : ℕ) → q < length xs → get_or xs q 0 ≡ arrives_before run q (n + 1)) (sym w.arrives-is)
                (counts_same run n node act.deed here is_arrive arrives (ap is_arrive w.in-Depart.is) inv.arrives_are);
            departs_are =
                subst (λ xs. (q : ℕ) → q < length xs → get_or xs q 0 ≡ departs_before run q (n + 1)) (sym w.departs-is)
                (counts_next run n node act.deed here is_depart departs (ap is_depart w.in-Depart.is) (let long = inv.all_departs in omega arith) inv.departs_are);
            never = never-more run n inv.never
                (not-between run n node act.deed here (λ other. absurd (both_ways (is_depart act.deed) other (ap is_depart w.in-Depart.is))));
          }
      | in-Arrive+else-departs-node w ↦
          record {
            all_arrives = ap length w.arrives-is ∙ length-set arrives node (get_or arrives node 0 + 1) ∙ inv.all_arrives;
            all_departs = ap length w.departs-is ∙ inv.all_departs;
            arrives_are =
                subst (λ xs. (q : ℕ) → q < length xs → get_or xs q 0 ≡ arrives_before run q (n + 1)) (sym w.arrives-is)
                (counts_next run n node act.deed here is_arrive arrives (ap is_arrive w.in-Arrive.is) (let long = inv.all_arrives in omega arith) inv.arrives_are);
            departs_are =
                subst (λ xs. (q : ℕ) → q < length xs → get_or xs q 0 ≡ departs_before run q (n + 1)) (sym w.departs-is)
                (counts_same run n node act.deed here is_depart departs (ap is_depart w.in-Arrive.is) inv.departs_are);
            never = never-more run n inv.never
                (not-between run n node act.deed here
                (λ other.
                let a = inv.arrives_are node (let long = inv.all_arrives in omega arith) in
                let d = inv.departs_are node (let long = inv.all_departs in omega arith) in
                omega arith));
          }
      | in_default+else-departs-node-2 w ↦
          record {
            all_arrives = ap length w.arrives-is ∙ inv.all_arrives;
            all_departs = ap length w.departs-is ∙ inv.all_departs;
            arrives_are =
                subst (λ xs. (q : ℕ) → q < length xs → get_or xs q 0 ≡ arrives_before run q (n + 1)) (sym w.arrives-is)
                (counts_same run n node act.deed here is_arrive arrives (no_arrive act.deed w.in_default.not-Arrive) inv.arrives_are);
            departs_are =
                subst (λ xs. (q : ℕ) → q < length xs → get_or xs q 0 ≡ departs_before run q (n + 1)) (sym w.departs-is)
                (counts_same run n node act.deed here is_depart departs (no_depart act.deed w.in_default.not-Depart) inv.departs_are);
            never = never-more run n inv.never
                (not-between run n node act.deed here
                (λ other.
                let a = inv.arrives_are node (let long = inv.all_arrives in omega arith) in
                let d = inv.departs_are node (let long = inv.all_departs in omega arith) in
                omega arith));
          }
    ]

pub returns : goal.returns
returns c = waits-never c.args.acts.now (λ j lt. c.loop-position.invariant.never j (let low = c.loop-position-test.false in omega arith))
