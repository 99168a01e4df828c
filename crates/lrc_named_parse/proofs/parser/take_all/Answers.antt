use Rattle.std.proofs.Common.{map, refl, ap, arith, ◌+◌}
use Rattle.lrc_named_tokens.specs.View.{located_of}
use Rattle.lrc_named_parse.proofs.Behind.{IsBehind-start}
use Rattle.lrc_named_parse.proofs.Reading.{IsRead-start, one_more, first_fault, none_left, few_lexemes}
use Rattle.lrc_named_parse.proofs.parser.take_all.Goals as goal

pub loop-found-init : goal.loop-found-init
loop-found-init c = (
  refl,
  IsRead-start c.requires.of_text.text (map located_of c.args.all.now) c.args.state.now c.empty-limits.result c.requires.of_text.lexed
      (IsBehind-start c.args.state.now c.empty-limits.result c.requires.start c.empty-limits.ensures.nested c.empty-limits.ensures.counted),
)

pub overflow_add-at : goal.overflow_add-at
overflow_add-at c = omega (arith, few_lexemes c.args.all.now c.requires.of_text, c.loop-found.invariant.0, c.loop-found-test.true)

pub loop-found-preserved : goal.loop-found-preserved
loop-found-preserved c = (
  ap (λ n. n + 1) c.loop-found.invariant.0,
  one_more c.args.all.now c.loop-found.found-index c.loop-found.at c.loop-found.state c.take.new.state
      c.loop-found.limits c.take.new.limits c.loop-found-test.true c.loop-found.invariant.0 c.loop-found.invariant.1 c.in_default.ensures,
)

pub returns-in-Err-clause-fault : goal.returns-in-Err-clause-fault
returns-in-Err-clause-fault c =
    first_fault c.args.all.now c.loop-found.found-index c.loop-found.at c.loop-found.state c.take.new.state c.loop-found.limits c.take.new.limits
    c.loop-found-test.true c.loop-found.invariant.0 c.loop-found.invariant.1 c.in-Err.kind c.in-Err.ensures

pub returns-clause-program : goal.returns-clause-program
returns-clause-program c =
    (none_left c.args.all.now c.loop-found.found-index c.loop-found.state c.loop-found.limits c.loop-found-test.false c.loop-found.invariant.1).0

pub returns-clause-ended : goal.returns-clause-ended
returns-clause-ended c =
    (none_left c.args.all.now c.loop-found.found-index c.loop-found.state c.loop-found.limits c.loop-found-test.false c.loop-found.invariant.1).1
