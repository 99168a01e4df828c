use Rattle.std.proofs.Common.{◌≡◌, ◌∙◌, ◌++◌, ◌∷◌, [], ℕ, List, Some, Vec, append-nil, arith, length, refl, subst, sym}
use Rattle.std.specs.Prelude.{All, slice_get}
use Rattle.std.specs.declared.alloc.Global.{Global}
use Rattle.std.proofs.lemmas.List.Elements.{All-cons, All-nil}
use Rattle.lrc_program.specs.declared.Program.{Program}
use Rattle.lrc_trace.specs.declared.act.Act.{Act}
use Rattle.lrc_page.specs.declared.size.Size.{Size}
use Rattle.lrc_text.specs.Parts.{whole_text}
use Rattle.lrc_why.specs.Spread.{OfEach}
use Rattle.lrc_why_text.specs.declared.asked.Asked.{Asked}
use Rattle.lrc_source.specs.Telling.{ReadText}
use Rattle.lrc_why_run.specs.Answers.{AnswersRun, IsAnswerable}
use Rattle.lrc_why_run.proofs.run.told_alone.Goals as goal

-- the answer to one that is asked, as a text of one part
alone : (text : ReadText) (program : Program) (nodes : ℕ) (page : Size) (acts : List Act) (asked : Asked) (parts : List (Vec ℕ Global))
    → OfEach 1 (λ place part. (one : Asked) → slice_get (asked ∷ []) place ≡ Some one → AnswersRun text program nodes page acts one part.items) parts
    → AnswersRun text program nodes page acts asked (whole_text parts)
alone text program nodes page acts asked [] answers = let none = answers.all in absurd (omega arith)
alone text program nodes page acts asked (part ∷ []) answers =
    subst (λ (l : List ℕ). AnswersRun text program nodes page acts asked l) (sym (append-nil part.items)) (answers.each 0 part refl asked refl)
alone text program nodes page acts asked (part ∷ other ∷ rest) answers = let many = answers.all in absurd (omega arith)

pub why_each-requires-clause-asked : goal.why_each-requires-clause-asked
why_each-requires-clause-asked c =
    let So : Asked → Type 0 = IsAnswerable (length c.args.acts.now) in
    All-cons So c.args.asked [] c.requires.asked (All-nil So)

pub returns : goal.returns
returns c = alone c.args.source.now.text c.args.source.now.program c.args.nodes c.args.page c.args.acts.now c.args.asked c.in_ok-parts.parts.items c.in_ok-parts.ensures
