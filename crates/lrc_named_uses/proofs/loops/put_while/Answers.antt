-- What the block does is what its deeds are.
use Rattle.std.proofs.Common.{◌≡◌, ◌++◌, ◌∙◌, List, ap, map}
use Rattle.lrc_named_tokens.specs.View.{located_of}
use Rattle.lrc_named_tree.specs.View.{block_of, expression_of}
use Rattle.lrc_named_names.specs.View.{declared_of}
use Rattle.lrc_named_statement_faults.proofs.Growing.{well}
use Rattle.lrc_named_uses.specs.Deeds.{Deed, deed_seen, deeds_in}
use Rattle.lrc_named_uses.specs.Loops.{waits_at}
use Rattle.lrc_named_uses.proofs.loops.put_while.Goals as goal

pub returns : goal.returns
returns c =
    let old = c.args.loops.now.items in
    let new = c.put_if_waits.new.loops.items in
    let added = λ (deeds : List Deed). waits_at (declared_of c.args.names.now) (map located_of c.args.tokens.now) c.args.at (expression_of c.args.condition.now) deeds in
    well (new ≡ old ++ added (map deed_seen c.deref.result.now)) (new ≡ old ++ added (deeds_in (block_of c.args.inside.now))) c.put_if_waits.result
    (λ h. h ∙ ap (λ deeds. old ++ added deeds) (ap (map deed_seen) c.deref.ensures.value ∙ c.in_ok-deeds.ensures)) c.put_if_waits.ensures
