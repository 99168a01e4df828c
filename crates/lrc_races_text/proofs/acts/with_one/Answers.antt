-- Each word with one number.
use Rattle.std.proofs.Common.{refl}
use Rattle.lrc_races_text.proofs.ActLemmas.{acquired, released, printed, trapped}
use Rattle.lrc_races_text.proofs.acts.with_one.Goals as goal

pub returns-then-is : goal.returns-then-is
returns-then-is c = acquired c.args.word.now c.args.digits.now (λ f. f.0) (λ f. f.1.now) (c.if-is.ensures.0 refl) c.on_lock.result c.on_lock.ensures

pub returns-then-is-2 : goal.returns-then-is-2
returns-then-is-2 c = released c.args.word.now c.args.digits.now (λ f. f.0) (λ f. f.1.now) (c.if-is-2.ensures.0 refl) _ c.on_lock-then-is-2.ensures

pub returns-then-is-3 : goal.returns-then-is-3
returns-then-is-3 c = printed c.args.word.now c.args.digits.now (λ f. f.0) (λ f. f.1.now) (c.if-is-3.ensures.0 refl) _ c.idle.ensures

pub returns-then-is-4 : goal.returns-then-is-4
returns-then-is-4 c = trapped c.args.word.now c.args.digits.now (λ f. f.0) (λ f. f.1.now) (c.if-is-4.ensures.0 refl) _ c.idle-then-is-4.ensures
