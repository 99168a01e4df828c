-- One page more.
use Rattle.std.proofs.Common.{◌∙◌, ◌-◌, ◌++◌, ◌∷◌, ap, sym, append_assoc, drop, take, List, ℕ}
use Rattle.std.specs.Prelude.{map}
use Rattle.std.specs.List.{flat_map}
use Rattle.std.proofs.lemmas.List.Concat.{flat_map-cons}
use Rattle.lrc_labels.specs.Reading.{label_seen}
use Rattle.lrc_why_lines.specs.Pages.{page_line, pages_of}
use Rattle.lrc_why_lines.proofs.Grouping.{first_page}
use Rattle.lrc_why_lines.proofs.pages.push_pages.Goals as goal

pub loop-start-preserved : goal.loop-start-preserved
loop-start-preserved c =
    let size = c.args.size in
    let words = c.args.words.now in
    let start = c.loop-start.start in
    let end = c.end_of_page-end.result in
    let ends = c.end_of_page-end.ensures in
    let line : List ℕ → List ℕ = page_line (map label_seen c.args.labels.now) size in
    let page = take (end - start) (drop start words) in
    let others = pages_of size (drop end words) in
    let now = c.loop-start.text.items in
    record {
      within = ends.within;
      added = ap (λ l. l ++ flat_map line others) c.in_ok-push_page.ensures
          ∙ append_assoc now (line page) (flat_map line others)
          ∙ ap (λ l. now ++ l) (sym (flat_map-cons line page others))
          ∙ ap (λ (pages : List (List ℕ)). now ++ flat_map line pages) (sym (first_page size words start end ends.more ends.within ends.same ends.end))
          ∙ c.loop-start.invariant.added;
    }
