use Rattle.std.proofs.Common.{◌∙◌, Bor, List, ℕ, ap, ap₂, map, refl, subst, sym}
use Rattle.lrc_lang.specs.Symbol.{Names}
use Rattle.lrc_source.specs.Telling.{AreLines, ReadText, names_told}
use Rattle.lrc_states.proofs.states.states_parts.Goals as goal

abbrev bytes_of : Bor (List ℕ) → List ℕ
bytes_of name = name.now

pub parts_of-requires-clause-setting : goal.parts_of-requires-clause-setting
parts_of-requires-clause-setting c =
    let source = c.args.told.now.source.now in
    record {
      program_is = c.code.ensures;
      nodes_are = refl;
      lines_are = subst (λ (l : List ℕ). AreLines source.text source.program l) (sym c.lines.ensures.lines) c.lines.ensures.text;
      names_are = (
        source.names,
        c.names.ensures.text,
        ap (map bytes_of) c.deref.ensures.value ∙ c.in_ok-names.ensures
            ∙ ap₂ (λ (text : ReadText) (names : Names). names_told text.telling names) c.text.ensures c.names.ensures.names,
      );
      labels_are = c.labels.ensures.labels ∙ c.labels.ensures.text;
    }
