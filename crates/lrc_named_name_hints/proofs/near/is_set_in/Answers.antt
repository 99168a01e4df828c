use Rattle.std.proofs.Common.{map, sym, ◌∙◌, arith}
use Rattle.lrc_named_tokens.specs.View.{located_of}
use Rattle.lrc_named_name_hints.specs.Hints.{is_set_in}
use Rattle.lrc_named_name_hints.proofs.Setting.{not_set, set_here, set_more}
use Rattle.lrc_named_name_hints.proofs.near.is_set_in.Goals as goal

pub loop-place-preserved : goal.loop-place-preserved
loop-place-preserved c =
    set_more c.args.name.now c.args.tokens.now (is_set_in c.args.name.now (map located_of c.args.tokens.now)) c.loop-place.place _ _ (omega arith)
    c.loop-place-test.true c.loop-place.invariant (sym c.is_set_by.ensures ∙ c.if-is_set_by.false)

pub returns-then-is_set_by : goal.returns-then-is_set_by
returns-then-is_set_by c =
    set_here c.args.name.now c.args.tokens.now (is_set_in c.args.name.now (map located_of c.args.tokens.now)) c.loop-place.place _ _ (omega arith)
    c.loop-place-test.true c.loop-place.invariant (sym c.is_set_by.ensures ∙ c.if-is_set_by.true)

pub returns : goal.returns
returns c =
    not_set c.args.name.now c.args.tokens.now (is_set_in c.args.name.now (map located_of c.args.tokens.now)) c.loop-place.place c.loop-place-test.false
    c.loop-place.invariant
