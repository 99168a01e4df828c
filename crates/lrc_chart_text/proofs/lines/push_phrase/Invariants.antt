use Rattle.std.proofs.Common.{◌≡◌, ◌≤◌, ◌++◌, ℕ, List}
use Rattle.std.specs.Prelude.{codes}
use Rattle.std.specs.Slice.Iter.{chunks_rest, chunks_size}
use Rattle.lrc_chart_text.specs.Lines.{pieces_of}
use Rattle.lrc_chart_text.specs.Written.{written}
use Rattle.lrc_chart_text.proofs.lines.push_phrase.Given as goal

-- what is written, with the pieces that are left and any behind them, is the whole
abbrev pub invariant-loop-piece : goal.invariant-loop-piece
invariant-loop-piece l = record {
  text : (more : List (List ℕ)) → l.text.items ++ written l.room (codes "\n" ++ l.margin) l.now (pieces_of l.room (chunks_rest l.piece-iterator) ++ more)
      ≡ l.initial.text.items ++ written l.room (codes "\n" ++ l.margin) l.used (pieces_of l.room l.phrase ++ more);
  size : chunks_size l.piece-iterator ≡ l.room;
  short : l.now ≤ l.room;
}
