use Rattle.std.proofs.Common.{◌≡◌, ◌∙◌, ◌+◌, ◌-◌, ◌++◌, List, [], Some, ap, length, subst, sym, arith}
use Rattle.lrc_judge.specs.Pairs.{ArePairsWithLater}
use Rattle.lrc_judge.specs.declared.lanes.Pair.{Pair}
use Rattle.lrc_text.specs.RaceText.{first_race_text}
use Rattle.lrc_report.proofs.WriteLemmas.{IsUnderWay, on_err, way_front, way_part, way_stops}
use Rattle.lrc_judge_text.specs.Judgement.{pair_lines}
use Rattle.lrc_judge_text.specs.RacingPairs.{lines_from}
use Rattle.lrc_judge_text.proofs.Within.{pairs_within}
use Rattle.lrc_judge_text.proofs.Writing.{last-comes, last-lines, next-lines, way-over}
use Rattle.lrc_judge_text.proofs.pairs.put_races.Goals as goal

pub returns-in_err-pairs-clause-err : goal.returns-in_err-pairs-clause-err
returns-in_err-pairs-clause-err g c =
    let run = c.args.judgement.now.acts.items in
    let order = c.args.judgement.now.conflicts.order in
    let later = c.loop-later.later in
    let last = first_race_text (Some c.args.first) in
    let rest = lines_from order run later (length run - later) in
    on_err c.from_residual-in_err-pairs.result _
    (way_front _ _ (lines_from order run 0 (length run) ++ last) (rest ++ last) (last-comes c.args.first rest) c.loop-later.invariant.way)

pub put_lines-requires-clause-pairs : goal.put_lines-requires-clause-pairs
put_lines-requires-clause-pairs g c =
    pairs_within c.as_slice-acts.result.now c.loop-later.later c.deref.result.now
    (subst (λ (pairs : List Pair). ArePairsWithLater c.as_slice-acts.result.now c.loop-later.later pairs) (sym c.deref.ensures.value)
    c.in_ok-pairs.ensures)

pub returns-in_err-put_lines-clause-err : goal.returns-in_err-put_lines-clause-err
returns-in_err-put_lines-clause-err g c =
    let run = c.args.judgement.now.acts.items in
    let acts = c.as_slice-acts.result.now in
    let order = c.args.judgement.now.conflicts.order in
    let later = c.loop-later.later in
    let last = first_race_text (Some c.args.first) in
    let pairs = c.deref.result.now in
    let whole = lines_from order run 0 (length run) ++ last in
    let rest = lines_from order run (later + 1) (length run - (later + 1)) ++ last in
    let more : lines_from order run later (length run - later) ++ last ≡ pair_lines acts pairs ++ rest =
    next-lines run acts order c.requires.races.kept.order later c.in_ok-pairs.pairs.items pairs last c.as_slice-acts.ensures.value c.deref.ensures.value
    (omega arith) c.in_ok-pairs.ensures in
    on_err c.from_residual-in_err-put_lines.result _
    (way_stops _ _ _ whole (pair_lines acts pairs) rest
    (subst (IsUnderWay (g.W.Write.contents c.args.output.now.writer.now) (g.W.Write.contents c.loop-later.output.writer.now) whole) more
    c.loop-later.invariant.way)
    c.in_err-put_lines.ensures.err)

pub loop-later-preserved : goal.loop-later-preserved
loop-later-preserved g c =
    let run = c.args.judgement.now.acts.items in
    let acts = c.as_slice-acts.result.now in
    let order = c.args.judgement.now.conflicts.order in
    let later = c.loop-later.later in
    let last = first_race_text (Some c.args.first) in
    let pairs = c.deref.result.now in
    let whole = lines_from order run 0 (length run) ++ last in
    let rest = lines_from order run (later + 1) (length run - (later + 1)) ++ last in
    let more : lines_from order run later (length run - later) ++ last ≡ pair_lines acts pairs ++ rest =
    next-lines run acts order c.requires.races.kept.order later c.in_ok-pairs.pairs.items pairs last c.as_slice-acts.ensures.value c.deref.ensures.value
    (omega arith) c.in_ok-pairs.ensures in
    record {
      way = way_part _ _ _ whole (pair_lines acts pairs) rest
          (subst (IsUnderWay (g.W.Write.contents c.args.output.now.writer.now) (g.W.Write.contents c.loop-later.output.writer.now) whole) more
          c.loop-later.invariant.way)
          c.in_ok-put_lines.ensures.ok;
      fine = c.in_ok-put_lines.ensures.fine;
      same_writer = c.in_ok-put_lines.ensures.same_writer ∙ c.loop-later.invariant.same_writer;
    }

pub returns-in_err-put-clause-err : goal.returns-in_err-put-clause-err
returns-in_err-put-clause-err g c =
    let run = c.args.judgement.now.acts.items in
    let order = c.args.judgement.now.conflicts.order in
    let later = c.loop-later.later in
    let last = first_race_text (Some c.args.first) in
    let text = c.deref-2.result.now in
    let whole = lines_from order run 0 (length run) ++ last in
    let more : lines_from order run later (length run - later) ++ last ≡ text ++ [] =
    last-lines run order later last text (omega (arith, ap (λ acts. length acts) c.as_slice-acts.ensures.value))
    (c.deref-2.ensures.value ∙ c.in_ok-last.ensures) in
    on_err c.from_residual-in_err-put.result _
    (way_stops _ _ _ whole text []
    (subst (IsUnderWay (g.W.Write.contents c.args.output.now.writer.now) (g.W.Write.contents c.loop-later.output.writer.now) whole) more
    c.loop-later.invariant.way)
    c.in_err-put.ensures.err)

pub returns-clause-ok : goal.returns-clause-ok
returns-clause-ok g c =
    let run = c.args.judgement.now.acts.items in
    let order = c.args.judgement.now.conflicts.order in
    let later = c.loop-later.later in
    let last = first_race_text (Some c.args.first) in
    let text = c.deref-2.result.now in
    let whole = lines_from order run 0 (length run) ++ last in
    let more : lines_from order run later (length run - later) ++ last ≡ text ++ [] =
    last-lines run order later last text (omega (arith, ap (λ acts. length acts) c.as_slice-acts.ensures.value))
    (c.deref-2.ensures.value ∙ c.in_ok-last.ensures) in
    way-over _ _ whole
    (way_part _ _ _ whole text []
    (subst (IsUnderWay (g.W.Write.contents c.args.output.now.writer.now) (g.W.Write.contents c.loop-later.output.writer.now) whole) more
    c.loop-later.invariant.way)
    c.in_ok-put.ensures.ok)
