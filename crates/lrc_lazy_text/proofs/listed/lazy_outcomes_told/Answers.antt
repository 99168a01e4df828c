use Rattle.std.proofs.Common.{ℕ, List, subst}
use Rattle.std.specs.Prelude.{Option}
use Rattle.lrc_text.specs.Parts.{whole_text}
use Rattle.lrc_lazy_text.specs.Listed.{ListsLazyOutcomes}
use Rattle.lrc_lazy_text.proofs.Telling.{outcomes_found}
use Rattle.lrc_lazy_text.proofs.listed.lazy_outcomes_told.Goals as goal

pub returns-clause-told : goal.returns-clause-told
returns-clause-told c =
    let outcomes = c.as_slice-outcomes.result.now in
    let seeds = c.in_ok-seeds.seeds.items in
    let nodes = c.args.nodes.count in
    let out = whole_text c.in_ok-parts.parts.items in
    record {
      outcomes = outcomes;
      are = outcomes_found c.args.program.now nodes c.in_ok-found.found.keys outcomes c.as_slice-outcomes.ensures.keys c.in_ok-found.ensures.exact
          c.as_slice-outcomes.ensures.unique;
      seeds = seeds;
      seeded = c.in_ok-seeds.ensures;
      listed = subst (λ (s : List (Option ℕ)). ListsLazyOutcomes nodes outcomes s out) c.deref.ensures.value
          (subst (λ (n : ℕ). ListsLazyOutcomes n outcomes c.deref.result.now out) c.number.ensures c.in_ok-parts.ensures);
    }

pub returns-clause-fits : goal.returns-clause-fits
returns-clause-fits c = (c.in_ok-found.found.keys, c.in_ok-found.ensures.fits)
