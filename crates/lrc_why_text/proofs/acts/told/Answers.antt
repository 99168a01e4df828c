use Rattle.std.proofs.Common.{◌≡◌, ◌∙◌, ◌++◌, [], ◌∷◌, List, ℕ, ap, append-nil, length, refl, subst, sym}
use Rattle.lrc_judge.specs.Firsts.{AreIntervals}
use Rattle.lrc_named_core.specs.declared.tree.Trap.TheVariants.{Plain}
use Rattle.lrc_page.specs.Page.{words_of}
use Rattle.lrc_text.specs.Parts.{whole_text}
use Rattle.lrc_why_lines.specs.declared.shown.Shown.{Shown}
use Rattle.lrc_why_text.specs.Answers.{TellsOf}
use Rattle.lrc_why_text.proofs.acts.told.Goals as goal

pub returns : goal.returns
returns c =
    let acts = c.args.acts.now in
    let part = c.in_ok-part.part in
    let shown : Shown = record { acts = c.args.acts; lines = c.args.lines; intervals = c.as_slice.result; labels = c.args.labels; trap = Plain } in
    let whole : whole_text c.push.new.self.items ≡ part.items =
    ap whole_text (c.in_ok-push.ensures.items ∙ ap (λ l. l ++ part ∷ []) c.new-parts.ensures.items) ∙ append-nil part.items in (
      shown,
      record {
        acts_are = refl;
        lines_are = refl;
        intervals = subst (λ (zs : List ℕ). AreIntervals acts (length acts) zs) (sym c.as_slice.ensures.value) c.in_ok-intervals.ensures;
        unlabelled = c.requires.plain;
        untold = refl;
      },
      subst (λ (text : List ℕ). TellsOf shown c.args.nodes (words_of c.args.page) c.args.asked.act c.args.asked.and [] text) (sym whole)
          (subst (λ (size : ℕ). TellsOf shown c.args.nodes size c.args.asked.act c.args.asked.and [] part.items) (c.from.ensures ∙ c.words.ensures)
          c.in_ok-part.ensures),
    )
