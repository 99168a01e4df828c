use Rattle.std.proofs.Common.{◌≡◌, ◌∙◌, ◌+◌, ◌++◌, ℕ, List, drop, subst, sym}
use Rattle.lrc_judge.specs.declared.lanes.Pair.{Pair}
use Rattle.lrc_acts.specs.JudgeLines.{pair_line}
use Rattle.lrc_report.proofs.WriteLemmas.{IsUnderWay, on_err, way_front, way_part, way_stops}
use Rattle.lrc_judge_text.specs.Judgement.{pair_lines}
use Rattle.lrc_judge_text.proofs.Writing.{gathered, line-comes}
use Rattle.lrc_judge_text.proofs.pairs.put_lines.Goals as goal
use Rattle.lrc_judge_text.proofs.pairs.put_lines.Goals.{then-len-ge-BLOCK+in_ok-put, else-len-ge-BLOCK}

abbrev nothing : Pair
nothing = record { later = 0; earlier = 0 }

pub returns-in_err-push_pair-clause-err : goal.returns-in_err-push_pair-clause-err
returns-in_err-push_pair-clause-err g c =
    let acts = c.args.acts.now in
    let pairs = c.args.pairs.now in
    on_err c.from_residual.result _
    (way_front _ _ (pair_lines acts pairs) (c.loop-pair.text.items ++ pair_lines acts (drop c.loop-pair.pair-index pairs))
    (line-comes acts pairs c.loop-pair.pair-index nothing c.loop-pair-test.true c.loop-pair.text.items)
    c.loop-pair.invariant.way)

pub returns-in_err-put-clause-err : goal.returns-in_err-put-clause-err
returns-in_err-put-clause-err g c =
    let acts = c.args.acts.now in
    let pairs = c.args.pairs.now in
    let i = c.loop-pair.pair-index in
    let text : c.deref.result.now ≡ c.loop-pair.text.items ++ pair_line c.accesses_of.result =
    subst (λ (line : List ℕ). line ≡ c.loop-pair.text.items ++ pair_line c.accesses_of.result) (sym c.deref.ensures.value) c.in_ok-push_pair.ensures.ok in
    let more : c.loop-pair.text.items ++ pair_lines acts (drop i pairs) ≡ c.deref.result.now ++ pair_lines acts (drop (i + 1) pairs) =
    gathered acts pairs i nothing c.loop-pair-test.true c.accesses_of.result c.loop-pair.text.items c.deref.result.now c.accesses_of.ensures text in
    on_err c.from_residual-in_err-put.result _
    (way_stops _ _ _ (pair_lines acts pairs) c.deref.result.now (pair_lines acts (drop (i + 1) pairs))
    (subst (IsUnderWay (g.W.Write.contents c.args.output.now.writer.now) (g.W.Write.contents c.loop-pair.output.writer.now) (pair_lines acts pairs)) more
    c.loop-pair.invariant.way)
    c.in_err-put.ensures.err)

pub loop-pair-preserved : goal.loop-pair-preserved
loop-pair-preserved g c =
    let acts = c.args.acts.now in
    let pairs = c.args.pairs.now in
    let i = c.loop-pair.pair-index in
    let rest = pair_lines acts (drop (i + 1) pairs) in
    let old = g.W.Write.contents c.args.output.now.writer.now in
    let more : c.loop-pair.text.items ++ pair_lines acts (drop i pairs) ≡ c.push_pair.new.text.items ++ rest =
    gathered acts pairs i nothing c.loop-pair-test.true c.accesses_of.result c.loop-pair.text.items c.push_pair.new.text.items c.accesses_of.ensures
    c.in_ok-push_pair.ensures.ok in
    let way = subst (IsUnderWay old (g.W.Write.contents c.loop-pair.output.writer.now) (pair_lines acts pairs)) more c.loop-pair.invariant.way in
    elim c.if-len-ge-BLOCK.branch [
      | then-len-ge-BLOCK+in_ok-put w ↦ record {
        way = rw (w.output-is, w.text-is, w.clear.ensures.items)
            (way_part old _ _ (pair_lines acts pairs) w.deref.result.now rest
            (subst (λ (text : List ℕ). IsUnderWay old (g.W.Write.contents c.loop-pair.output.writer.now) (pair_lines acts pairs) (text ++ rest))
            (sym w.deref.ensures.value) way)
            w.in_ok-put.ensures.ok);
        fine = rw w.output-is w.in_ok-put.ensures.fine;
        same_writer = rw w.output-is (w.in_ok-put.ensures.same_writer ∙ c.loop-pair.invariant.same_writer);
      }
      | else-len-ge-BLOCK w ↦ record {
        way = rw (w.output-is, w.text-is) way;
        fine = rw w.output-is c.loop-pair.invariant.fine;
        same_writer = rw w.output-is c.loop-pair.invariant.same_writer;
      }
    ]

pub returns-in_err-put-2-clause-err : goal.returns-in_err-put-2-clause-err
returns-in_err-put-2-clause-err g c =
    let acts = c.args.acts.now in
    let pairs = c.args.pairs.now in
    on_err c.from_residual-in_err-put-2.result _
    (way_stops _ _ _ (pair_lines acts pairs) c.deref-2.result.now (pair_lines acts (drop c.loop-pair.pair-index pairs))
    (subst (λ (text : List ℕ). IsUnderWay (g.W.Write.contents c.args.output.now.writer.now) (g.W.Write.contents c.loop-pair.output.writer.now)
    (pair_lines acts pairs) (text ++ pair_lines acts (drop c.loop-pair.pair-index pairs))) (sym c.deref-2.ensures.value) c.loop-pair.invariant.way)
    c.in_err-put-2.ensures.err)
