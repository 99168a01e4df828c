use Rattle.std.proofs.Common.{ℕ, List, map}
use Rattle.std.specs.Borrow.{Bor}
use Rattle.lrc_named_tokens.specs.Token.{Located}
use Rattle.lrc_named_tokens.specs.View.{located_of}
use Rattle.lrc_named_name_hints.specs.Hints.{candidate}
use Rattle.lrc_named_name_hints.specs.Seen.{name_in, seen_of}
use Rattle.lrc_named_name_hints.proofs.Searching.{grown_by, pieces_more}
use Rattle.lrc_named_name_hints.proofs.near.candidates.Goals as goal

pub loop-found-preserved : goal.loop-found-preserved
loop-found-preserved c =
    pieces_more (λ (it : Located). candidate (seen_of c.args.seen.now) (name_in it.lexeme)) located_of c.args.seen.now.tokens.now c.loop-found.found-index _
    (map (λ (word : Bor (List ℕ)). word.now) c.loop-found.words.items) (map (λ (word : Bor (List ℕ)). word.now) c.push_candidate.new.words.items)
    c.loop-found-test.true c.loop-found.invariant
    (grown_by (candidate (seen_of c.args.seen.now)) _ _ _ _ c.name_of.ensures c.in_ok-push_candidate.ensures)
