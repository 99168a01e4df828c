-- Each run that is reached stands as itself.
use Rattle.std.proofs.Common.{◌≡◌, ℕ, ◌<◌, ◌≤◌, List, [], ◌∷◌, ◌++◌, length, max, refl, subst, arith}
use Rattle.lrc_program.specs.declared.Program.{Program}
use Rattle.lrc_trace.specs.declared.act.Act.{Act}
use Rattle.lrc_trace.proofs.Positions.{Does-last}
use Rattle.lrc_consistency_laws.proofs.UpToRace.{in_range}
use Rattle.lrc_exact.specs.LocalRule.{state_after}
use Rattle.lrc_exact.specs.Rule.{Shape, State, exact_rule}
use Rattle.lrc_exact.proofs.LocalRules.{one_list}
use Rattle.lrc_exact_laws.specs.Laws.{IsExactRun}
use Rattle.lrc_exact_states.specs.Runs.{Base, begun, IsLevel}
use Rattle.lrc_exact_states.specs.Searched.{begins, goes_on, IsReached, IsSeenFrom, as_before, from_level}
use Rattle.lrc_exact_states.proofs.By.{AreAlikeBy}
use Rattle.lrc_exact_states.proofs.Decided.{deed_decided, high_cap}
use Rattle.lrc_exact_states.proofs.Goes.{alike_more, none_yet}
use Rattle.lrc_exact_states.proofs.Level.{begun_alike, from_here}
use Rattle.lrc_exact_states.proofs.Lower.{alike_lower}

module _ (program : Program) (shape : Shape) (calm : shape.collect ≡ 0) where
  -- seen from a base, a run stands as itself, whatever the cap
  pub record StandsAlone (run : List Act) (base : Base) : Type 1 where
    pub states : List State
    pub alike : (cap : ℕ) → 1 ≤ cap → AreAlikeBy program shape cap base base run run states states

  alone_begun : StandsAlone [] (begun shape.nodes)
  alone_begun = record {
    states = [];
    alike = λ cap some. record {
      exact = none_yet program shape;
      exact' = none_yet program shape;
      text = record { makes = λ n lt more. (λ m. m, λ m. m); notes = refl };
      alike = begun_alike shape cap some;
    };
  }

  module _ (run : List Act) (base : Base) (s : StandsAlone run base) (act : Act) (longer : IsExactRun program shape (run ++ act ∷ [])) where
    abbrev later : List State
    later = s.states ++ state_after (exact_rule shape) run s.states (length run) act.node act.deed ∷ []

    among : act.node < shape.nodes
    among = in_range longer.follows (length run) act.node act.deed (Does-last run act)

    -- up to a cap above all weights, and so up to a lower one
    alone_more : (cap : ℕ) → 1 ≤ cap → AreAlikeBy program shape cap base base (run ++ act ∷ []) (run ++ act ∷ []) later later
    alone_more cap some =
        let high = max cap (high_cap shape run s.states) in
        alike_lower cap high (omega arith) program shape some base base (run ++ act ∷ []) (run ++ act ∷ []) later later
        (alike_more program shape high base base run run s.states s.states (s.alike high (omega (arith, some))) calm act longer
        (deed_decided shape 1 base run s.states (s.alike 1 (omega arith)).alike high (omega arith) act.node among act.deed))

    from_base : (now : Base) → IsSeenFrom shape (run ++ act ∷ []) base now → StandsAlone (run ++ act ∷ []) now
    from_base now as_before = record { states = later; alike = alone_more }
    from_base now (from_level states keeps level some_node) = record {
      states = later;
      alike = λ cap some.
          let a = alone_more cap some in
          let same : states ≡ later = one_list (exact_rule shape) shape.nodes (run ++ act ∷ []) states later keeps a.alike.keeps in
          let level' : IsLevel shape now (run ++ act ∷ []) later = subst (λ ss. IsLevel shape now (run ++ act ∷ []) ss) same level in
          record {
            exact = longer;
            exact' = longer;
            text = a.text;
            alike = from_here shape cap base base (run ++ act ∷ []) (run ++ act ∷ []) later later a.alike now now level' level';
          };
    }

  pub stands_alone : (run : List Act) (base : Base) → IsReached program shape run base → StandsAlone run base
  stands_alone run base begins = alone_begun
  stands_alone run base (goes_on {run = before} {before = old} act reached longer from) =
      from_base before old (stands_alone before old reached) act longer base from
