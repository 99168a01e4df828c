use Rattle.std.proofs.Common.{◌≡◌, ◌∙◌, List, ℕ, Some, ap, get_or, length, refl, subst, sym}
use Rattle.std.specs.Prelude.{All, slice_get, slice_index}
use Rattle.std.proofs.lemmas.Option.{same_Some, slice_get-get_or, slice_get_within}
use Rattle.lrc_program.specs.declared.Program.{Program}
use Rattle.lrc_lang.specs.Symbol.{Names}
use Rattle.lrc_judge.specs.Firsts.{AreIntervals}
use Rattle.lrc_lines.specs.Statements.{act_statements}
use Rattle.lrc_lines.specs.Walks.{act_lines}
use Rattle.lrc_named_core.specs.declared.tree.Trap.TheVariants.{Plain}
use Rattle.lrc_source.specs.Telling.{AreLines, names_at, traps_of}
use Rattle.lrc_source.proofs.Lines.{are_counted}
use Rattle.lrc_why_lines.specs.declared.shown.Shown.{Shown}
use Rattle.lrc_why_text.specs.declared.asked.Asked.{Asked}
use Rattle.lrc_why_run.specs.Answers.{IsAnswerable, TellsBehind, statement_at, trap_said}
use Rattle.lrc_why_run.proofs.run.why_each.Goals as goal

-- it can be answered what is asked at a place
answerable : (count : ℕ) (asked : List Asked) (place : ℕ) (one : Asked) → All (IsAnswerable count) asked → slice_get asked place ≡ Some one
    → IsAnswerable count one
answerable count asked place one all stands =
    let within = slice_get_within asked place one stands in
    let same : get_or asked place one ≡ one = same_Some (get_or asked place one) one (sym (slice_get-get_or asked place one within) ∙ stands) in
    subst (IsAnswerable count) same (all place one within)

pub told_each-requires-clause-intervals : goal.told_each-requires-clause-intervals
told_each-requires-clause-intervals c =
    let acts = c.args.acts.now in
    subst (λ (zs : List ℕ). AreIntervals acts (length acts) zs) (sym c.as_slice-2.ensures.value) c.in_ok-intervals.ensures

pub returns : goal.returns
returns c =
    let source = c.args.source.now in
    let text = source.text in
    let program = source.program in
    let nodes = c.args.nodes in
    let acts = c.args.acts.now in
    let lines = c.args.source.now.lines in
    let names = c.args.source.now.names in
    let shown : Shown = record { acts = c.args.acts; lines = c.as_slice.result; intervals = c.as_slice-2.result; labels = c.labels.result; trap = Plain } in
    let told = c.in_ok-parts.ensures in
    let statements : c.deref-2.result.now ≡ act_statements program nodes acts =
    c.deref-2.ensures.value ∙ c.in_ok-statements.ensures ∙ ap (λ (p : Program). act_statements p nodes acts) c.code.ensures in
    let kept : c.deref.result.now ≡ act_statements program nodes acts =
    c.deref.ensures.value ∙ c.in_ok-statements.ensures ∙ ap (λ (p : Program). act_statements p nodes acts) c.code.ensures in
    let are : AreLines text program c.lines.result.now = subst (AreLines text program) (sym c.lines.ensures.lines) c.lines.ensures.text in
    let lined : c.as_slice.result.now ≡ act_lines program nodes lines acts =
    c.as_slice.ensures.value ∙ c.in_ok-lines.ensures.lines program nodes acts (are_counted text program c.lines.result.now are) kept
    ∙ ap (λ (l : List ℕ). act_lines program nodes l acts) c.lines.ensures.lines in
    record {
      all = told.all;
      each = λ place part is one stands.
          let (own, with, are_names, tells_own) = told.each place part is one stands in
          let (behind, tells_behind, tells) = tells_own lines in
          let at : slice_index c.deref-2.result.now one.act ≡ statement_at program nodes acts one.act =
          ap (λ (l : List ℕ). slice_index l one.act) statements in
          record {
            there = (answerable (length acts) c.args.asked.now place one c.requires.asked stands).there;
            lines = lines;
            are_lines = c.lines.ensures.text;
            names = names;
            are_names = are_names;
            shown = own;
            is_shown = record {
              acts_are = with.acts;
              lines_are = with.lines ∙ lined;
              intervals = subst (λ (zs : List ℕ). AreIntervals acts (length acts) zs) (sym (with.intervals ∙ c.as_slice-2.ensures.value)) c.in_ok-intervals.ensures;
              labels_are = with.labels ∙ c.labels.ensures.labels ∙ c.labels.ensures.text;
              trap_is = with.said ∙ ap (trap_said (traps_of text.telling)) at;
            };
            behind = behind;
            tells_behind = subst (λ (s : ℕ). TellsBehind own (names_at text.telling s names) program nodes lines one.act one.and behind) at tells_behind;
            tells = tells;
          };
    }
