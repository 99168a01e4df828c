use Rattle.std.proofs.Common.{◌∙◌, sym}
use Rattle.std.specs.Prelude.{nat_eq}
use Rattle.std.specs.Option.{option_eq}
use Rattle.std.proofs.lemmas.Bool.{eqb-true, not-false}
use Rattle.lrc_exec.specs.contracts.spot.SpotPartialEq.TheImpl.{eq-value as spot_eq}
use Rattle.lrc_orders.proofs.Same.{option_same, pointwise_same, spot_same}
use Rattle.lrc_lazy_search.proofs.Same.{knowledge_same}
use Rattle.lrc_lazy_search.proofs.state.LazyState.is_again.Goals as goal

pub returns : goal.returns
returns c = λ yes.
    let now = c.args.self.now in
    let earlier = c.args.earlier.now in
    record {
      holders = sym (pointwise_same (option_eq nat_eq) option_same now.state.holders.items earlier.holders.items (not-false _ (sym c.if-ne-2.ensures)));
      arrivals = sym (pointwise_same nat_eq (λ x y h. eqb-true x y h) now.state.arrivals.items earlier.arrivals.items (not-false _ (sym c.if-ne-3.ensures)));
      spots = sym (pointwise_same spot_eq.it spot_same now.state.spots.items earlier.spots.items (not-false _ (sym c.if-ne.ensures)));
      known = λ word. knowledge_same now.knowledge earlier.knowledge (sym c.eq.ensures ∙ yes) word;
    }
