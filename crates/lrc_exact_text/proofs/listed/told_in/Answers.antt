use Rattle.std.proofs.Common.{◌∙◌, ℕ, List, ap, length, subst}
use Rattle.std.specs.Prelude.{Option}
use Rattle.lrc_text.specs.Parts.{whole_text}
use Rattle.lrc_exact_judge.specs.Shape.{shape_of}
use Rattle.lrc_node.specs.Options.{options_of}
use Rattle.lrc_exact_seeds.specs.Seeds.{AreSeedsFor}
use Rattle.lrc_exact_text.specs.Listed.{ListsExactOutcomes}
use Rattle.lrc_exact_text.proofs.Telling.{outcomes_found, seeds_long}
use Rattle.lrc_exact_text.proofs.listed.told_in.Goals as goal

pub outcomes_listed-requires : goal.outcomes_listed-requires
outcomes_listed-requires c =
    ap (λ (l : List (Option ℕ)). length l) c.deref.ensures.value
    ∙ seeds_long c.args.program.now c.args.setting.now.nodes.count (options_of c.args.setting.now) c.args.tries c.as_slice-outcomes.result.now c.in_ok-seeds.seeds.items
    c.in_ok-seeds.ensures

pub returns-clause-told : goal.returns-clause-told
returns-clause-told c =
    let program = c.args.program.now in
    let outcomes = c.as_slice-outcomes.result.now in
    let seeds = c.in_ok-seeds.seeds.items in
    let shape = shape_of c.args.layout in
    record {
      outcomes = outcomes;
      are = outcomes_found program shape c.in_ok-found.found.keys outcomes c.as_slice-outcomes.ensures.keys c.in_ok-found.ensures.exact
          c.as_slice-outcomes.ensures.unique;
      seeds = seeds;
      seeded = subst (λ (n : ℕ). AreSeedsFor program n (options_of c.args.setting.now) c.args.tries outcomes seeds) c.requires c.in_ok-seeds.ensures;
      listed = subst (λ (s : List (Option ℕ)). ListsExactOutcomes shape.nodes outcomes s (whole_text c.in_ok-parts.parts.items)) c.deref.ensures.value
          c.in_ok-parts.ensures;
    }
