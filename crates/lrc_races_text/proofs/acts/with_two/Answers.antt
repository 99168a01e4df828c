-- Each word with two numbers.
use Rattle.std.proofs.Common.{refl}
use Rattle.lrc_races_text.proofs.ActLemmas.{reads, writes}
use Rattle.lrc_races_text.proofs.acts.with_two.Goals as goal

pub returns-then-is : goal.returns-then-is
returns-then-is c = reads c.args.word.now c.args.digits.now c.args.value.now (λ f. f.0) (λ f. f.1.now) (c.if-is.ensures.0 refl) _ c.access.ensures

pub returns-then-is-2 : goal.returns-then-is-2
returns-then-is-2 c = writes c.args.word.now c.args.digits.now c.args.value.now (λ f. f.0) (λ f. f.1.now) (c.if-is-2.ensures.0 refl) _ c.access-then-is-2.ensures
