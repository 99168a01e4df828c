use Rattle.std.proofs.Common.{◌≡◌, ◌∙◌, Bor, ℕ, List, Option, ap, ap₂, map, option_map, subst}
use Rattle.std.proofs.lemmas.Result.{IfOk-weaker}
use Rattle.lrc_labels.specs.Reading.{Label, label_seen}
use Rattle.lrc_labels.specs.declared.label.Label as code_label
use Rattle.lrc_named_core.specs.Tree.{Trap}
use Rattle.lrc_named_core.specs.View.{trap_of}
use Rattle.lrc_named_core.specs.declared.tree.Trap as code_trap
use Rattle.lrc_explain_waits.specs.Traps.{Wording}
use Rattle.lrc_cli_answer.specs.Labels.{labels_in}
use Rattle.lrc_cli.specs.Answer.{IsAnswerTo, IsSaid, IsSaidMet, wording_in}
use Rattle.lrc_cli.specs.Met.{IsMetIn}
use Rattle.lrc_cli.proofs.AnswerLemmas.{answered_weaker}
use Rattle.lrc_cli.proofs.explored.all_orders.Goals as goal

-- of the same labels and the same traps is the same wording
same_wording : {one other : List Label} {traps more : Option (List Trap)} → one ≡ other → traps ≡ more
    → ◌≡◌ {A = Wording} (record { labels = one; traps = traps }) (record { labels = other; traps = more })
same_wording is are = ap₂ (λ (l : List Label) (t : Option (List Trap)). let w : Wording = record { labels = l; traps = t } in w) is are

pub returns-clause-ok : goal.returns-clause-ok
returns-clause-ok c =
    let exploring = c.args.exploring.now in
    let text = c.args.text.now in
    let program = c.args.program.now in
    let labels : map label_seen c.deref.result.now ≡ labels_in text.core program =
    ap (λ (l : List code_label.Label). map label_seen l) c.deref.ensures.value ∙ c.in_ok-labels.ensures.said
    ∙ ap (λ (t : List ℕ). labels_in t program) c.core.ensures in
    let seen : Wording = record {
      labels = map label_seen c.deref.result.now;
      traps = option_map (λ (list : Bor (List code_trap.Trap)). map trap_of list.now) c.traps.result;
    } in
    IfOk-weaker c.in_memory.result _ _
    (answered_weaker (IsAnswerTo exploring.memory exploring seen program c.deref-2.result.now) (IsSaid exploring text program)
    (IsMetIn exploring.memory exploring seen program c.deref-2.result.now) (IsSaidMet exploring text program)
    (λ out status says. (
      c.in_ok-lines.lines.items,
      c.in_ok-lines.ensures program c.requires,
      subst (λ (w : Wording). IsAnswerTo exploring.memory exploring w program c.in_ok-lines.lines.items out status)
          (same_wording labels c.traps.ensures)
          (subst (λ (l : List ℕ). IsAnswerTo exploring.memory exploring seen program l out status) c.deref-2.ensures.value says),
    ))
    (λ out fault met. (
      c.in_ok-lines.lines.items,
      c.in_ok-lines.ensures program c.requires,
      subst (λ (w : Wording). IsMetIn exploring.memory exploring w program c.in_ok-lines.lines.items out fault) (same_wording labels c.traps.ensures)
          (subst (λ (l : List ℕ). IsMetIn exploring.memory exploring seen program l out fault) c.deref-2.ensures.value met),
    )))
    c.in_memory.ensures.ok
