use Rattle.std.proofs.Common.{◌≡◌, ◌∙◌, ◌+◌, ℕ, List, add-one, ap, ap₂, append-nil, drop, drop-cons, sym}
use Rattle.std.specs.Prelude.{◌++◌, codes}
use Rattle.std.specs.List.{flat_map}
use Rattle.std.proofs.lemmas.List.{drop_all}
use Rattle.lrc_text.specs.Parts.{texts_of}
use Rattle.lrc_chart_text.specs.Lines.{pieces_of}
use Rattle.lrc_chart_text.specs.Written.{written}
use Rattle.lrc_chart_text.proofs.Steps.{on_ok}
use Rattle.lrc_chart_text.proofs.Writing.{paragraph_written}
use Rattle.lrc_chart_text.proofs.lines.push_paragraph.Goals as goal

pub returns : goal.returns
returns c =
    let room = c.args.room in
    let rest = c.args.rest.now in
    let phrases = c.args.phrases.now in
    let text = c.loop-phrase.text.items in
    let none = drop_all c.loop-phrase.phrase-index phrases c.loop-phrase-test.false in
    let last =
    sym (append-nil text)
    ∙ ap (λ l. text ++ written room (codes "\n" ++ rest) c.loop-phrase.used (flat_map (pieces_of room) (texts_of l))) (sym none)
    ∙ c.loop-phrase.invariant.text in
    on_ok c.push_end.result
    (paragraph_written room c.args.first.now rest (texts_of phrases) c.args.text.now.items c.extend_from_slice.new.self.items text c.push_end.new.text.items
    c.in_ok-extend_from_slice.ensures.items last)
    c.push_end.ensures

pub loop-phrase-preserved : goal.loop-phrase-preserved
loop-phrase-preserved c =
    let room = c.args.room in
    let phrases = c.args.phrases.now in
    let i = c.loop-phrase.phrase-index in
    let item = c.phrase-item.result in
    let left : flat_map (pieces_of room) (texts_of (drop i phrases))
    ≡ pieces_of room c.as_slice.result.now ++ flat_map (pieces_of room) (texts_of (drop (i + 1) phrases)) =
    ap (λ l. flat_map (pieces_of room) (texts_of l)) (drop-cons phrases i item c.loop-phrase-test.true)
    ∙ ap₂ (λ (words : List ℕ) (k : ℕ). pieces_of room words ++ flat_map (pieces_of room) (texts_of (drop k phrases)))
    (ap (λ v. v.items) (sym c.phrase-item.is) ∙ sym c.as_slice.ensures.value) (sym (add-one i)) in
    record {
      text = c.in_ok-used.ensures.text (flat_map (pieces_of room) (texts_of (drop (i + 1) phrases)))
          ∙ ap (λ l. c.loop-phrase.text.items ++ written room (codes "\n" ++ c.args.rest.now) c.loop-phrase.used l) (sym left)
          ∙ c.loop-phrase.invariant.text;
      short = c.in_ok-used.ensures.short;
    }
