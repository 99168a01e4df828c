-- What is told of the outcomes of exact runs.
use Rattle.std.proofs.Common.{◌≡◌, ℕ, List, ◌++◌, get_or, length, map, sym, subst, ◌∙◌, ap, ap₂}
use Rattle.std.specs.Prelude.{◌↔◌, Option, Some, None}
use Rattle.std.specs.List.{IsDistinct}
use Rattle.std.proofs.lemmas.List.{length-replicate}
use Rattle.std.proofs.lemmas.Option.{same_Some, slice_get-get_or, slice_get_within}
use Rattle.lrc_program.specs.declared.Program.{Program}
use Rattle.lrc_trace.specs.declared.act.Act.{Act}
use Rattle.lrc_orders.specs.declared.outcomes.Outcome.{Outcome}
use Rattle.lrc_orders.specs.contracts.outcomes.OutcomePartialEq.TheImpl.{eq-value}
use Rattle.lrc_orders.specs.Outcome.{HasOutcome}
use Rattle.lrc_explore_text.specs.OutcomeRun.{IsNumberedAt}
use Rattle.lrc_lazy_text.specs.declared.listed.ToldOutcome.{ToldOutcome}
use Rattle.lrc_protocol.specs.Node.{OptionsRecord}
use Rattle.lrc_lazy_text.specs.Listed.{AreToldOf, marked_lines, told_pair}
use Rattle.lrc_lazy_text.proofs.Sorting.{marked_text}
use Rattle.lrc_exact.specs.Rule.{Shape}
use Rattle.lrc_exact_outcomes.specs.Outcome.{IsExactOutcome}
use Rattle.lrc_exact_search.specs.declared.search.Met.{Met}
use Rattle.lrc_exact_search.specs.Searching.{AreRunsOf, HasRunAt}
use Rattle.lrc_exact_seeds.specs.Seeds.{AreSeedsFor}
use Rattle.lrc_exact_text.specs.Listed.{AreExactOutcomes, ListsExactOutcomes, exact_head}
use Rattle.lrc_exact_text.specs.One.{IsNumberedExactRun}

-- the search finds exactly the outcomes, each once
pub outcomes_found : (program : Program) (shape : Shape) (found outcomes : List Outcome) → outcomes ≡ found
    → ((notes : List Act) → IsExactOutcome program shape notes ↔ HasOutcome found notes) → IsDistinct eq-value.it found → AreExactOutcomes program shape outcomes
outcomes_found program shape found outcomes is exact once =
    subst (λ l. AreExactOutcomes program shape l) (sym is) (record { exact = λ notes. ((exact notes).1, (exact notes).0); once = once })

-- the run of the outcome at the place of a number
pub numbered : (program : Program) (shape : Shape) (outcomes : List Outcome) (runs : List Met) → AreExactOutcomes program shape outcomes
    → AreRunsOf program shape outcomes runs → (number place : ℕ) → (at : IsNumberedAt shape.nodes outcomes number place)
    → (r : HasRunAt program shape runs place at.at.outcome.notes.items) → IsNumberedExactRun program shape number r.met.acts.items
numbered program shape outcomes runs are sound number place at r = record {
  outcomes = outcomes;
  are = are;
  lines = at.lines;
  list = at.list;
  notes = at.at.outcome.notes.items;
  there = at.there ∙ ap Some (sym at.at.is);
  run = r.is;
}

-- so are acts that are those of the run at the place
pub numbered_at : (program : Program) (shape : Shape) (outcomes : List Outcome) (runs : List Met) → AreExactOutcomes program shape outcomes
    → AreRunsOf program shape outcomes runs → (number place : ℕ) → IsNumberedAt shape.nodes outcomes number place
    → (own any : Met) → own ≡ get_or runs place any → (acts : List Act) → acts ≡ own.acts.items → IsNumberedExactRun program shape number acts
numbered_at program shape outcomes runs are sound number place at own any there acts is =
    let r = sound.each place at.at.outcome at.at.there in
    let within = slice_get_within runs place r.met r.there in
    let same : r.met ≡ own = same_Some r.met own (sym r.there ∙ slice_get-get_or runs place any within ∙ ap Some (sym there)) in
    subst (λ (a : List Act). IsNumberedExactRun program shape number a) (ap (λ (m : Met). m.acts.items) same ∙ sym is)
    (numbered program shape outcomes runs are sound number place at r)

-- the text of all lines behind the first
pub listed : (nodes : ℕ) (outcomes : List Outcome) (seeds : List (Option ℕ)) (told : List ToldOutcome) (head out : List ℕ) → AreToldOf nodes outcomes seeds told
    → head ≡ exact_head (length outcomes) → out ≡ head ++ marked_lines told → ListsExactOutcomes nodes outcomes seeds out
listed nodes outcomes seeds told head out are is_head whole = record {
  told = map told_pair told;
  are = are;
  whole = whole ∙ ap₂ (λ (h m : List ℕ). h ++ m) is_head (marked_text told);
}

-- where runs are tried or not, there is a seed for each outcome, or none
pub seeds_long : (program : Program) (nodes : ℕ) (options : OptionsRecord) (tries : Option ℕ) (outcomes : List Outcome) (seeds : List (Option ℕ))
    → AreSeedsFor program nodes options tries outcomes seeds → length seeds ≡ length outcomes
seeds_long program nodes options (Some tries) outcomes seeds are = are.count
seeds_long program nodes options None outcomes seeds are = ap (λ (l : List (Option ℕ)). length l) are ∙ length-replicate {A = Option ℕ} (length outcomes) None
