use Rattle.std.proofs.Common.{◌∙◌, ◌∷◌, [], ◌++◌, ℕ, List, ap₂, sym}
use Rattle.lrc_text.proofs.Each.{each_more}
use Rattle.lrc_explain_waits.specs.declared.stand.Stand.{Stand}
use Rattle.lrc_explain_waits.proofs.Standing.{no_stand}
use Rattle.lrc_step.specs.EndLines.{end_of}
use Rattle.lrc_step.specs.declared.end_lines.End.{End}
use Rattle.lrc_step.proofs.ends.ends_of.Goals as goal

pub loop-node-preserved : goal.loop-node-preserved
loop-node-preserved c =
    let of : ℕ → Stand → List End = λ node stand. end_of c.args.acts.now node stand ∷ [] in
    c.in_ok-push.ensures.items ∙ ap₂ (λ (l : List End) (one : End). l ++ one ∷ []) c.loop-node.invariant c.end_of.ensures
    ∙ sym (each_more of c.args.stands.now c.loop-node.node no_stand c.loop-node-test.true)
