use Rattle.std.proofs.Common.{map, refl, ap}
use Rattle.lrc_named_tokens.specs.View.{located_of}
use Rattle.lrc_named_tokens.proofs.Cut.{none_cut, one_cut, all_cut, pushed}
use Rattle.lrc_named_tokens.proofs.tokens.tokens_of.Goals as goal

pub loop-all-init : goal.loop-all-init
loop-all-init c = none_cut _ _ _ _ (ap (map located_of) c.new-all.ensures.items) c.new-lexer.ensures.place c.new-lexer.ensures.rest

pub loop-all-preserved : goal.loop-all-preserved
loop-all-preserved c =
    let whole = one_cut c.args.text.now _ _ _ _ _ _ c.loop-all.invariant c.next_lexeme-found.ensures.next (c.if-not-goes_on.ensures.0 refl) in
    rw (pushed located_of c.loop-all.all.items c.push.new.self.items _ c.in_ok-push.ensures.items) whole

pub returns-then-not-goes_on : goal.returns-then-not-goes_on
returns-then-not-goes_on c =
    let whole = all_cut c.args.text.now _ _ _ _ _ _ c.loop-all.invariant c.next_lexeme-found.ensures.next
    (λ h. let t = c.if-not-goes_on.ensures.1 h in absurd (cc)) in
    rw (pushed located_of c.loop-all.all.items c.push.new.self.items _ c.in_ok-push.ensures.items) whole
