use Rattle.std.proofs.Common.{◌≡◌, ◌∙◌, ◌<◌, ◌++◌, ℕ, List, Option, Vec, ap, ap₂, length, map, subst, sym}
use Rattle.std.specs.Prelude.{All}
use Rattle.std.specs.declared.alloc.Global.{Global}
use Rattle.std.proofs.lemmas.List.{length-map}
use Rattle.lrc_program.specs.declared.Program.{Program}
use Rattle.lrc_lines.specs.Walks.{act_lines}
use Rattle.lrc_text.specs.Parts.{texts_of}
use Rattle.lrc_why_text.specs.declared.asked.Asked.{Asked}
use Rattle.lrc_why_run.specs.Answers.{IsAnswerable}
use Rattle.lrc_step.specs.ReasonLines.{asked_alone, whys_text}
use Rattle.lrc_step.specs.declared.given.Given.{Given}
use Rattle.lrc_step.specs.declared.rivals.Rival.{Rival}
use Rattle.lrc_step.proofs.Nodes.{all_within, answerable}
use Rattle.lrc_step.proofs.Answered.{AreAnswers, AreFound, AreGiven, answered, given_found, rivals_found, rivals_of}
use Rattle.lrc_step.proofs.reasons.reasons_part.Goals as goal

pub why_each-requires-clause-asked : goal.why_each-requires-clause-asked
why_each-requires-clause-asked c =
    let acts = c.args.acts.now in
    let positions = c.in_ok-positions.positions.items in
    let are = c.deref-2.ensures.value ∙ c.in_ok-asked.ensures ∙ ap (map asked_alone) c.deref.ensures.value in
    subst (λ (list : List Asked). All (IsAnswerable (length acts)) list) (sym are) (answerable acts c.args.part positions c.in_ok-positions.ensures)

pub rivals_of_each-requires-clause-within : goal.rivals_of_each-requires-clause-within
rivals_of_each-requires-clause-within c =
    let acts = c.args.acts.now in
    let positions = c.in_ok-positions.positions.items in
    subst (λ (list : List ℕ). All (λ position. position < length acts) list) (sym c.deref-4.ensures.value)
    (all_within acts c.args.part positions c.in_ok-positions.ensures)

pub given_of_each-requires-clause-within : goal.given_of_each-requires-clause-within
given_of_each-requires-clause-within c =
    let acts = c.args.acts.now in
    let positions = c.in_ok-positions.positions.items in
    subst (λ (list : List ℕ). All (λ position. position < length acts) list) (sym c.deref-5.ensures.value)
    (all_within acts c.args.part positions c.in_ok-positions.ensures)

pub push_whys-requires-clause-printed : goal.push_whys-requires-clause-printed
push_whys-requires-clause-printed c =
    let positions = c.in_ok-positions.positions.items in
    let many = c.in_ok-printed.ensures.all
    ∙ ap length (c.deref-2.ensures.value ∙ c.in_ok-asked.ensures ∙ ap (map asked_alone) c.deref.ensures.value)
    ∙ length-map positions asked_alone in
    ap length c.deref-7.ensures.value ∙ many ∙ sym (ap length c.deref-6.ensures.value)

pub push_whys-requires-clause-rivals : goal.push_whys-requires-clause-rivals
push_whys-requires-clause-rivals c =
    ap length c.deref-8.ensures.value ∙ c.in_ok-rivals.ensures.all ∙ ap length c.deref-4.ensures.value ∙ sym (ap length c.deref-6.ensures.value)

pub push_whys-requires-clause-given : goal.push_whys-requires-clause-given
push_whys-requires-clause-given c =
    ap length c.deref-9.ensures.value ∙ c.in_ok-given.ensures.all ∙ ap length c.deref-5.ensures.value ∙ sym (ap length c.deref-6.ensures.value)

pub returns : goal.returns
returns c =
    let text = c.args.source.now.text in
    let program = c.args.source.now.program in
    let nodes = c.args.nodes in
    let acts = c.args.acts.now in
    let lines = c.args.source.now.lines in
    let positions = c.in_ok-positions.positions.items in
    let asked = c.in_ok-asked.asked.items in
    let parts = c.in_ok-printed.printed.items in
    let found = c.in_ok-rivals.rivals.items in
    let given = c.in_ok-given.given.items in
    let told : AreAnswers text program nodes c.args.page acts asked parts =
    subst (λ (list : List Asked). AreAnswers text program nodes c.args.page acts list parts) c.deref-2.ensures.value
    c.in_ok-printed.ensures in
    let lined : c.deref-3.result.now ≡ act_lines program nodes lines acts = c.deref-3.ensures.value ∙ c.in_ok-lines.ensures
    ∙ ap₂ (λ (p : Program) (l : List ℕ). act_lines p nodes l acts) c.code.ensures c.lines.ensures.lines in
    let rivals : AreFound acts (act_lines program nodes lines acts) nodes positions found =
    subst (λ (l : List ℕ). AreFound acts l nodes positions found) lined
    (subst (λ (list : List ℕ). AreFound acts c.deref-3.result.now nodes list found) c.deref-4.ensures.value c.in_ok-rivals.ensures) in
    let known : AreGiven acts positions given = subst (λ (list : List ℕ). AreGiven acts list given) c.deref-5.ensures.value c.in_ok-given.ensures in
    record {
      positions = positions;
      are_told = c.in_ok-positions.ensures;
      printed = texts_of parts;
      answers = answered text program nodes c.args.page acts positions asked parts
          (c.in_ok-asked.ensures ∙ ap (map asked_alone) c.deref.ensures.value) told;
      lines = lines;
      are_lines = c.lines.ensures.text;
      rivals = map rivals_of found;
      are_rivals = rivals_found acts (act_lines program nodes lines acts) nodes positions found rivals;
      given = given;
      are_given = given_found acts positions given known;
      whole = c.in_ok-push_whys.ensures
          ∙ ap (λ (l : List ℕ). l ++ whys_text c.deref-6.result.now (texts_of c.deref-7.result.now) (map rivals_of c.deref-8.result.now) c.deref-9.result.now)
          c.new-told.ensures.items
          ∙ ap₂ (λ (ps : List ℕ) (qs : List (Vec ℕ Global)). whys_text ps (texts_of qs) (map rivals_of c.deref-8.result.now) c.deref-9.result.now)
          c.deref-6.ensures.value c.deref-7.ensures.value
          ∙ ap₂ (λ (rs : List (Vec (Option Rival) Global)) (gs : List (Option Given)). whys_text positions (texts_of parts) (map rivals_of rs) gs)
          c.deref-8.ensures.value c.deref-9.ensures.value;
    }
