use Rattle.std.proofs.Common.{◌∙◌, ap, length, min}
use Rattle.std.specs.Prelude.{◌++◌, codes}
use Rattle.std.specs.Slice.Iter.{chunks_rest}
use Rattle.lrc_chart_text.proofs.Writing.{written_more}
use Rattle.lrc_chart_text.proofs.lines.push_phrase.Goals as goal

pub loop-piece-preserved : goal.loop-piece-preserved
loop-piece-preserved c =
    let old = c.loop-piece.invariant in
    let left = chunks_rest c.loop-piece.piece-iterator in
    let steps = c.in-Some.ensures.steps in
    record {
      text = λ more.
          written_more c.args.room (codes "\n" ++ c.args.margin.now) c.loop-piece.now c.in_ok-now.now c.in-Some.piece.now left (chunks_rest c.next.new.self)
          c.loop-piece.text.items c.push_piece.new.text.items c.requires.some steps.1.0 (steps.1.1 ∙ ap (λ n. min n (length left)) old.size) steps.1.2
          c.in_ok-now.ensures.used c.in_ok-now.ensures.text more ∙ old.text more;
      size = steps.0 ∙ old.size;
      short = c.in_ok-now.ensures.short;
    }
