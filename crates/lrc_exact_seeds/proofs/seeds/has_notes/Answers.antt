use Rattle.std.proofs.Common.{◌≡◌, ◌∙◌, rules, sym}
use Rattle.std.specs.Cmp.Lexicographic.{pointwise}
use Rattle.lrc_trace.specs.contracts.act.ActPartialEq.TheImpl.{eq-value as act_eq}
use Rattle.lrc_orders.proofs.Alike.{acts_same}
use Rattle.lrc_orders.proofs.KeptAlike.{equal_items}
use Rattle.lrc_explore.proofs.Ending.{act_itself}
use Rattle.lrc_exact_seeds.proofs.seeds.has_notes.Goals as goal

pub returns : goal.returns
returns c =
    let kept = c.args.outcome.now.notes.items in
    let notes = c.args.notes.now in
    let is : c.eq.result ≡ pointwise act_eq.it kept notes = search rules in
    (λ holds. acts_same kept notes (sym is ∙ holds), λ equal. is ∙ equal_items act_eq.it act_itself kept notes equal)
