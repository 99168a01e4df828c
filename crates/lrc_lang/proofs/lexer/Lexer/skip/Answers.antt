use Rattle.std.proofs.Common.{refl, arith, length-take, length-drop}
use Rattle.lrc_lang.proofs.LexemesSteps.{blank_is_passed, line_feed_is_passed, comment_is_passed}
use Rattle.lrc_lang.proofs.LexemesSpans.{span_keeps}
use Rattle.lrc_lang.proofs.Located.{passes_on, blank_to, line_feed_to, comment_to}
use Rattle.lrc_lang.proofs.lexer.Lexer.skip.Goals as goal

pub loop-self-preserved-in-32 : goal.loop-self-preserved-in-32
loop-self-preserved-in-32 c =
    let text = c.loop-self.self.rest.now in
    let so_far = c.loop-self.invariant in
    record {
      places = passes_on so_far.places (blank_to c.loop-self.self.line text c.in-len1-up.len_at_least c.in-32.is);
      passed = λ all inside. so_far.passed all (blank_is_passed c.loop-self.self.line text c.in-len1-up.len_at_least c.in-32.is all inside);
      shorter = simp (length-take, length-drop) (omega arith);
    }

pub loop-self-preserved-in-10 : goal.loop-self-preserved-in-10
loop-self-preserved-in-10 c =
    let text = c.loop-self.self.rest.now in
    let so_far = c.loop-self.invariant in
    record {
      places = passes_on so_far.places (line_feed_to c.loop-self.self.line text c.in-len1-up.len_at_least c.in-10.is);
      passed = λ all inside. so_far.passed all (line_feed_is_passed c.loop-self.self.line text c.in-len1-up.len_at_least c.in-10.is all inside);
      shorter = simp (length-take, length-drop) (omega arith);
    }

pub loop-self-preserved : goal.loop-self-preserved
loop-self-preserved c =
    let text = c.loop-self.self.rest.now in
    let so_far = c.loop-self.invariant in
    let within = simp (length-take, length-drop) at (span_keeps c.split_front.ensures) in
    record {
      places = passes_on so_far.places
          (comment_to c.loop-self.self.line text _ _ c.in-len1-up.len_at_least c.in-35.is c.split_front.ensures);
      passed = λ all inside. so_far.passed all
          (comment_is_passed c.loop-self.self.line text _ _ c.in-len1-up.len_at_least c.in-35.is c.split_front.ensures all inside);
      shorter = omega (arith, within);
    }

pub loop-self-init : goal.loop-self-init
loop-self-init c = record {
  places = λ all inside. (inside, refl);
  passed = λ all inside. inside;
  shorter = omega arith;
}
