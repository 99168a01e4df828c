use Rattle.std.proofs.Common.{◌≡◌, ◌∙◌, ◌++◌, ℕ, List, true, false, ap, ap₂, sym, take, get_or, append-nil}
use Rattle.lrc_text.proofs.Each.{each_more}
use Rattle.lrc_explain_waits.specs.declared.missing.Missing.{Missing}
use Rattle.lrc_explain_waits.specs.declared.stand.Stand.{Stand}
use Rattle.lrc_explain_waits.specs.Missing.{has_not_come, missing_if, missing_nodes}
use Rattle.lrc_explain_waits.proofs.Standing.{no_stand}
use Rattle.lrc_explain_waits.proofs.missing.missing_nodes.Goals as goal
use Rattle.lrc_explain_waits.proofs.missing.missing_nodes.Goals.{then-has_not_come+in_ok-push, else-has_not_come}

pub loop-node-preserved : goal.loop-node-preserved
loop-node-preserved c =
    let number = c.args.number in
    let me = c.args.me in
    let stands = c.args.stands.now in
    let i = c.loop-node.node in
    let here = get_or stands i no_stand in
    let of : ℕ → Stand → List Missing = λ node stand. missing_if (has_not_come number me node stand) node stand in
    let more = sym (each_more of stands i no_stand c.loop-node-test.true) in
    elim c.if-has_not_come.branch [
      | then-has_not_come+in_ok-push w ↦
          let yes' : true ≡ has_not_come number me i here = sym w.if-has_not_come.true ∙ c.has_not_come.ensures in
          ap (λ v. v.items) w.missing-is ∙ w.in_ok-push.ensures.items
          ∙ ap₂ (λ l b. l ++ missing_if b i here) c.loop-node.invariant yes' ∙ more
      | else-has_not_come w ↦
          let no' : false ≡ has_not_come number me i here = sym w.if-has_not_come.false ∙ c.has_not_come.ensures in
          ap (λ v. v.items) w.missing-is ∙ c.loop-node.invariant ∙ sym (append-nil (missing_nodes number me (take i stands)))
          ∙ ap (λ b. missing_nodes number me (take i stands) ++ missing_if b i here) no' ∙ more
    ]
