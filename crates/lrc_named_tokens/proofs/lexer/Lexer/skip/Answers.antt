use Rattle.std.proofs.Common.{ap, arith, length}
use Rattle.lrc_lang.proofs.LexemesSpans.{span_keeps}
use Rattle.lrc_named_tokens.specs.View.{place_of}
use Rattle.lrc_named_tokens.proofs.Steps.{blank_is_passed, line_feed_is_passed, comment_is_passed, length-behind, passed_to}
use Rattle.lrc_named_tokens.proofs.lexer.Lexer.skip.Goals as goal

pub loop-self-preserved-in-32 : goal.loop-self-preserved-in-32
loop-self-preserved-in-32 c =
    let text = c.loop-self.self.rest.now in
    let p = place_of c.loop-self.self.place in
    let so_far = c.loop-self.invariant in
    let is = c.go_to.ensures in
    let here = passed_to p _ (place_of c.go_to.new.self.place) text _ c.go_to.new.self.rest.now is.place is.rest
    (blank_is_passed p text c.in-len1-up.len_at_least c.in-32.is) in
    record {
      passed = λ all inside. so_far.passed all (here all inside);
      shorter = omega (arith, ap length is.rest, length-behind text, so_far.shorter);
    }

pub loop-self-preserved-in-10 : goal.loop-self-preserved-in-10
loop-self-preserved-in-10 c =
    let text = c.loop-self.self.rest.now in
    let p = place_of c.loop-self.self.place in
    let so_far = c.loop-self.invariant in
    let is = c.begin_line.ensures in
    let here = passed_to p _ (place_of c.begin_line.new.self.place) text _ c.begin_line.new.self.rest.now is.place is.rest
    (line_feed_is_passed p text c.in-len1-up.len_at_least c.in-10.is) in
    record {
      passed = λ all inside. so_far.passed all (here all inside);
      shorter = omega (arith, ap length is.rest, length-behind text, so_far.shorter);
    }

pub loop-self-preserved : goal.loop-self-preserved
loop-self-preserved c =
    let text = c.loop-self.self.rest.now in
    let p = place_of c.loop-self.self.place in
    let so_far = c.loop-self.invariant in
    let is = c.go_to-in-35.ensures in
    let here = passed_to p _ (place_of c.go_to-in-35.new.self.place) text _ c.go_to-in-35.new.self.rest.now is.place is.rest
    (comment_is_passed p text _ _ c.in-len1-up.len_at_least c.in-35.is c.split_front.ensures) in
    record {
      passed = λ all inside. so_far.passed all (here all inside);
      shorter = omega (arith, ap length is.rest, span_keeps c.split_front.ensures, length-behind text, so_far.shorter);
    }
