use Rattle.std.proofs.Common.{◌≡◌, ◌∙◌, Bor, List, ℕ, Option, ap, ap₂, map, option_map, refl, subst, sym}
use Rattle.std.specs.Prelude.{slice_index}
use Rattle.std.proofs.lemmas.Result.{IfOk-weaker}
use Rattle.lrc_lang.specs.Symbol.{Names}
use Rattle.lrc_program.specs.declared.Program.{Program}
use Rattle.lrc_named_core.specs.Tree.{Trap}
use Rattle.lrc_named_core.specs.View.{trap_of}
use Rattle.lrc_named_core.specs.declared.tree.Trap as code_trap
use Rattle.lrc_source.specs.Telling.{ReadText, names_at, traps_of}
use Rattle.lrc_why_lines.specs.declared.shown.Shown.{Shown}
use Rattle.lrc_why_run.specs.Answers.{Tells, trap_said}
use Rattle.lrc_why_run.proofs.run.told_at.Goals as goal

abbrev bytes_of : Bor (List ℕ) → List ℕ
bytes_of name = name.now

pub returns : goal.returns
returns c =
    let source = c.args.source.now in
    let shown = c.args.shown in
    let asked = c.args.asked in
    let statement = slice_index c.args.statements.now asked.act in
    let own : Shown = record {
      acts = shown.acts;
      lines = shown.lines;
      intervals = shown.intervals;
      labels = shown.labels;
      trap = c.trap_said-trap.result;
    } in
    let traps : option_map (λ (list : Bor (List code_trap.Trap)). map trap_of list.now) c.traps.result ≡ traps_of source.text.telling =
    c.traps.ensures ∙ ap (λ (text : ReadText). traps_of text.telling) c.text-text.ensures in
    let said : trap_of own.trap ≡ trap_said (traps_of source.text.telling) statement =
    c.trap_said-trap.ensures ∙ ap₂ (λ (list : Option (List Trap)) (s : ℕ). trap_said list s) traps c.statement_at-statement.ensures in
    let names : map bytes_of c.deref.result.now ≡ names_at source.text.telling statement source.names =
    ap (map bytes_of) c.deref.ensures.value ∙ c.in_ok-names.ensures
    ∙ ap₂ (λ (text : ReadText) (s : ℕ). names_at text.telling s (map bytes_of c.names.result.now)) c.text-text.ensures c.statement_at-statement.ensures
    ∙ ap (names_at source.text.telling statement) c.names.ensures.names in
    IfOk-weaker c.told.result _ _
    (λ part tells. (
      own,
      record { acts = refl; lines = refl; intervals = refl; labels = refl; said = said },
      c.names.ensures.text,
      subst (λ (n : Names). Tells own n source.program c.args.nodes c.args.page asked part.items) names
          (subst (λ (p : Program). Tells own (map bytes_of c.deref.result.now) p c.args.nodes c.args.page asked part.items) c.code.ensures tells),
    ))
    c.told.ensures
