use Rattle.std.proofs.Common.{◌≡◌, ◌≤◌, ◌+◌, length, map, take}
use Rattle.lrc_lang.specs.Parser.Located.{located_of}
use Rattle.lrc_lang.specs.Positions.{behind_line_feed}
use Rattle.lrc_lang.proofs.Located.{IsLocatedTo}
use Rattle.lrc_lang.proofs.positions.positions_of.Given as goal

abbrev pub invariant-loop-all : goal.invariant-loop-all
invariant-loop-all l = record {
  so_far : IsLocatedTo l.text (map located_of l.all.items) l.lexer.line l.lexer.rest.now;
  left : l.offset + length l.lexer.rest.now ≤ length l.text;
  behind : l.behind ≡ behind_line_feed (take l.offset l.text);
  bound : l.behind ≤ l.offset;
}

abbrev pub decreases-loop-all : goal.decreases-loop-all
decreases-loop-all l = length l.lexer.rest.now
