use Rattle.std.proofs.Common.{◌∙◌, ◌++◌, ◌∷◌, [], ap, map, length, arith, get_or}
use Rattle.std.proofs.lemmas.List.{map_push}
use Rattle.lrc_program.specs.Statements.{statement_of}
use Rattle.lrc_lint_warned.specs.Found.{statement_seen}
use Rattle.lrc_lint_warned.specs.Places.{statement_at}
use Rattle.lrc_lint_warned.proofs.Standing.{past_either, zip_all, zip_more}
use Rattle.lrc_lint_warned.proofs.places.zip_statements.Goals as goal

pub loop-i-preserved : goal.loop-i-preserved
loop-i-preserved c =
    zip_more statement_at (λ x. statement_of x.now) c.args.places.now c.args.all.now c.loop-i.i 0 c.index-all-i.result _ _ _ (omega arith) (omega arith) c.loop-i.invariant
    (ap (map statement_seen) c.in_ok-push.ensures.items ∙ map_push statement_seen c.loop-i.found.items _
    ∙ ap (λ x. map statement_seen c.loop-i.found.items ++ statement_at (get_or c.args.places.now c.loop-i.i 0, statement_of x.now) ∷ []) c.index-all-i.is)

pub returns : goal.returns
returns c =
    zip_all statement_at (λ x. statement_of x.now) c.args.places.now c.args.all.now c.loop-i.i _ _
    (past_either (length c.args.places.now) (length c.args.all.now) c.loop-i.i (omega arith)) c.loop-i.invariant
