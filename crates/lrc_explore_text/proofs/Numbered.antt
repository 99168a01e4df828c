-- The outcome of a number, and a run that has it.
use Rattle.std.proofs.Common.{◌≡◌, false, ℕ, zero, suc, ◌+◌, ◌<◌, ◌≤◌, List, [], ◌∷◌, inl, inr, length, map, sym, subst, ◌∙◌, ap, arith}
use Rattle.std.specs.Prelude.{Contains, Some, None, slice_get}
use Rattle.std.specs.List.{IsDistinct}
use Rattle.std.specs.List.Sorted.{IsPermutation}
use Rattle.std.proofs.lemmas.Bool.{cases_eq}
use Rattle.std.proofs.lemmas.List.{get_or-map, length-map}
use Rattle.std.proofs.lemmas.List.Sorted.{Contains-permutation, IsPermutation-sym, length_permutation}
use Rattle.std.proofs.lemmas.Option.{get_or_from_slice_get, same_Some, slice_get_within}
use Rattle.lrc_trace.specs.declared.act.Act.{Act}
use Rattle.lrc_orders.specs.declared.outcomes.Outcome.{Outcome}
use Rattle.lrc_orders.specs.contracts.outcomes.OutcomePartialEq.TheImpl.{eq-value}
use Rattle.lrc_orders.proofs.Keeping.{item_at}
use Rattle.lrc_orders.specs.declared.search.ExploreFault.TheVariants.{NoMemory, TooMany}
use Rattle.lrc_explore.specs.Answers.{IsSearchFault}
use Rattle.lrc_explore.specs.declared.task.Task.{Task}
use Rattle.lrc_explore.specs.Ended.{IsRunFor, IsRunWith}
use Rattle.lrc_explore_less.specs.declared.ended.Ended.{Ended}
use Rattle.lrc_explore_less.specs.Outcomes.{AreEnded}
use Rattle.lrc_text.specs.Parts.{texts_of}
use Rattle.lrc_explore_text.proofs.Listed.{Part}
use Rattle.lrc_explore_text.specs.OutcomeRun.{HasFewerOutcomes, HasNoLineBefore, IsNumberedAt, IsNumberedRun, IsRunAt}
use Rattle.lrc_explore_text.specs.Outcomes.{AreLinesOf, AreOutcomesOf, outcome_line}

module _ (task : Task) (ended : Ended) (e : AreEnded task ended) where
  module _ (place : ℕ) (own : Outcome) (there : slice_get ended.outcomes.keys place ≡ Some own) (notes : List Act) (is : notes ≡ own.notes.items) where
    -- what is at a place is an outcome, so some run has it
    pub never_none : IsRunFor task.program.now task.flat.nodes notes None → ⊥
    never_none none = none ((e.exact notes).0 (record { place = place; outcome = own; there = there; same = sym is }))

    pub run_found : (acts : List Act) → IsRunFor task.program.now task.flat.nodes notes (Some acts) → IsRunAt task ended place acts
    run_found acts run outcome at =
        let same : own ≡ outcome = same_Some own outcome (sym there ∙ at) in
        subst (λ n. IsRunWith task.program.now task.flat.nodes n acts) (is ∙ ap (λ (o : Outcome). o.notes.items) same) run

  module _ (once : IsDistinct eq-value.it ended.outcomes.keys) (number : ℕ) where
    are_outcomes : AreOutcomesOf task.program.now task.flat.nodes ended.outcomes.keys
    are_outcomes = record { exact = e.exact; once = once }

    pub fewer : length ended.outcomes.keys < number → HasFewerOutcomes task.program.now task.flat.nodes number
    fewer few = record { outcomes = ended.outcomes.keys; are = are_outcomes; few = few }

    pub numbered : (place : ℕ) (acts : List Act) → IsNumberedAt task.flat.nodes ended.outcomes.keys number place → IsRunAt task ended place acts
        → IsNumberedRun task.program.now task.flat.nodes number acts
    numbered place acts at run = record {
      outcomes = ended.outcomes.keys;
      are = are_outcomes;
      lines = at.lines;
      list = at.list;
      notes = at.at.outcome.notes.items;
      there = at.there ∙ ap Some (sym at.at.is);
      run = run at.at.outcome at.at.there;
    }

-- where there is no line of this number there are fewer outcomes
pub no_line : (nodes : ℕ) (outcomes : List Outcome) (lines : List (List ℕ)) (at number : ℕ) → AreLinesOf nodes outcomes lines → length lines ≤ at
    → at + 1 ≡ number → length outcomes < number
no_line nodes outcomes lines at number are past is =
    let long = length_permutation (map (λ (o : Outcome). outcome_line nodes o.notes.items) outcomes) lines are.same in
    omega (arith, past, is, long, length-map outcomes (λ (o : Outcome). outcome_line nodes o.notes.items))

-- a line among the sorted ones is that of an outcome
pub line_of_some : (lines all : List (List ℕ)) (line : List ℕ) (at : ℕ) → IsPermutation all lines → slice_get lines at ≡ Some line → Contains all line
line_of_some lines all line at permutation there =
    Contains-permutation lines all line (IsPermutation-sym all lines permutation)
    (at, slice_get_within lines at line there, get_or_from_slice_get lines at line line there)

-- ---- which outcome has a line

abbrev own_line : (nodes : ℕ) → Outcome → List ℕ
own_line nodes outcome = outcome_line nodes outcome.notes.items

module _ (nodes : ℕ) (outcomes : List Outcome) (line : List ℕ) where
  -- one of them has it
  pub none_left : (index : ℕ) → length outcomes ≤ index → Contains (map (own_line nodes) outcomes) line → HasNoLineBefore nodes outcomes line index → ⊥
  none_left index past has before =
      let (k, lt, is) = has in
      let within : k < length outcomes = omega (arith, lt, length-map outcomes (own_line nodes)) in
      let (outcome, at) = item_at outcomes k within in
      before k outcome (omega (arith, within, past)) at
      (sym (get_or-map (own_line nodes) outcomes k outcome line within ∙ ap (own_line nodes) (get_or_from_slice_get outcomes k outcome outcome at)) ∙ is)

  pub no_line_at : (place : ℕ) (outcome : Outcome) → slice_get outcomes place ≡ Some outcome → (own_line nodes outcome ≡ line → ⊥)
      → HasNoLineBefore nodes outcomes line place → HasNoLineBefore nodes outcomes line (place + 1)
  no_line_at place outcome there never before k other lt at = elim (cases_eq k place) [
    | inl same ↦
        let is : other ≡ outcome = same_Some other outcome (sym at ∙ ap (slice_get outcomes) same ∙ there) in
        λ e. never (ap (own_line nodes) (sym is) ∙ e)
    | inr apart ↦ before k other (omega (arith, lt, apart)) at
  ]

-- the text at a place
pub text_at : (parts : List Part) (k : ℕ) (part : Part) → slice_get parts k ≡ Some part → slice_get (texts_of parts) k ≡ Some part.items
text_at [] k part e = cc
text_at (first ∷ parts) zero part e = ap (λ (p : Part). Some p.items) (same_Some first part e)
text_at (first ∷ parts) (suc k) part e = text_at parts k part e

-- that memory ran out is a fault of every search
pub no_memory : (task : Task) → IsSearchFault task false NoMemory
no_memory task = record { nodes = λ e. cc; many = λ e. let x : NoMemory ≡ TooMany = e in cc }
