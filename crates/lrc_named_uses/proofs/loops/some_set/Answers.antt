use Rattle.std.proofs.Common.{map, sym, ◌∙◌}
use Rattle.lrc_named_tokens.specs.Token.{Located}
use Rattle.lrc_named_tokens.specs.View.{located_of}
use Rattle.lrc_named_names.specs.View.{declared_of}
use Rattle.lrc_named_uses.specs.Deeds.{deed_seen}
use Rattle.lrc_named_uses.specs.Loops.{is_set_in}
use Rattle.lrc_named_uses.proofs.Finding.{any_here, any_later, any_nowhere}
use Rattle.lrc_named_uses.proofs.loops.some_set.Goals as goal

pub loop-found-preserved : goal.loop-found-preserved
loop-found-preserved c =
    any_later located_of (λ (f : Located). is_set_in (declared_of c.args.names.now) (map deed_seen c.args.deeds.now) f.lexeme) c.args.some.now
    c.loop-found.found-index _ _ c.loop-found-test.true c.loop-found.invariant (sym c.is_set_in.ensures ∙ c.if-is_set_in.false)

pub returns-then-is_set_in : goal.returns-then-is_set_in
returns-then-is_set_in c =
    any_here located_of (λ (f : Located). is_set_in (declared_of c.args.names.now) (map deed_seen c.args.deeds.now) f.lexeme) c.args.some.now
    c.loop-found.found-index _ _ c.loop-found-test.true c.loop-found.invariant (sym c.is_set_in.ensures ∙ c.if-is_set_in.true)

pub returns : goal.returns
returns c =
    any_nowhere located_of (λ (f : Located). is_set_in (declared_of c.args.names.now) (map deed_seen c.args.deeds.now) f.lexeme) c.args.some.now
    c.loop-found.found-index _ c.loop-found-test.false c.loop-found.invariant
