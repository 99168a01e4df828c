-- What some order shows, an open state shows.
use Rattle.std.proofs.Common.{◌≡◌, List, true, length, sym, ◌∙◌, subst}
use Rattle.std.specs.Prelude.{◌↔◌, is_none}
use Rattle.std.proofs.lemmas.Bool.{true≢false}
use Rattle.std.proofs.lemmas.Option.{slice_get_within}
use Rattle.lrc_trace.specs.declared.act.Act.{Act}
use Rattle.lrc_exec.specs.States.{plain_at}
use Rattle.lrc_consistency_laws.specs.Racing.{HasNoRace}
use Rattle.lrc_orders.specs.declared.outcomes.Outcome.{Outcome}
use Rattle.lrc_orders.specs.Outcome.{HasOutcome, IsOutcome}
use Rattle.lrc_orders.specs.Verdict.{NeverStuck}
use Rattle.lrc_orders.specs.Traps.{NeverTraps}
use Rattle.lrc_orders.proofs.Meetings.{no_race}
use Rattle.lrc_orders_laws.specs.Steps.{IsSettledOutcome}
use Rattle.lrc_orders_laws.proofs.Finishing.{finishes_by_rest}
use Rattle.lrc_orders_laws.proofs.GoingOn.{state_fine}
use Rattle.lrc_orders_laws.proofs.Settled.{outcomes as settled_outcomes}
use Rattle.lrc_orders_live.proofs.Like.{meet_like, rest_like, stuck_like}
use Rattle.lrc_orders_table.specs.Rows.{row_count}
use Rattle.lrc_orders_table.proofs.RowLaws.{row_within}
use Rattle.lrc_orders_undisputed.specs.Findings.{meeting, stuck, outcome, Shows}
use Rattle.lrc_explore.specs.declared.task.Task.{Task}
use Rattle.lrc_explore.specs.Answers.{AreSound}
use Rattle.lrc_explore.specs.Ended.{HasNoEndBefore}
use Rattle.lrc_explore.proofs.Reaching.{fine_key}
use Rattle.lrc_explore_less.specs.declared.less.Less.{Less}
use Rattle.lrc_explore_less.specs.Passing.{AreLess}
use Rattle.lrc_explore_less.specs.Enough.{AreDone, AreOpenCalm, AreOpenGoing, HasBegun}
use Rattle.lrc_explore_less.specs.Outcomes.{AreGathered}
use Rattle.lrc_explore_less.proofs.Looked.{HasTrap, meeting_looked, outcome_looked, stuck_looked, trap_looked}
use Rattle.lrc_explore_less.proofs.Onto.{Open, are_kept}
use Rattle.lrc_explore_less.proofs.Reduced.{all_shown, may_finish}

module _ (task : Task) (less : Less) (is : AreLess task less) (begun : HasBegun task less) (done : AreDone task less (length less.opens.items)) where
  pub never_races : AreOpenCalm task less (length less.opens.items) → HasNoRace task.program.now task.flat.nodes
  never_races calm = no_race task.program.now task.flat.nodes (λ machine reached p q meet.
      all_shown task.program.now task.flat.nodes (Open task less is begun done) (λ l m. Shows meeting l m) (are_kept task less is begun done) meeting_looked
      ⊥ (may_finish (λ l m. Shows meeting l m))
      (λ past there o met.
      let s = o.stood in
      calm o.index o.place s.key (slice_get_within less.opens.items o.index o.place o.is_open) o.is_open s.there met.0 met.1 (meet_like s.alike met.0 met.1 met.2))
      reached.order reached.acts machine reached.led (p, q, meet))

  pub never_sticks : AreOpenGoing task less (length less.opens.items) → NeverStuck task.program.now task.flat.nodes
  never_sticks going order gets =
      all_shown task.program.now task.flat.nodes (Open task less is begun done) (λ l m. Shows stuck l m) (are_kept task less is begun done) stuck_looked
      ⊥ (may_finish (λ l m. Shows stuck l m))
      (λ past there o halted.
      let s = o.stood in
      going o.index o.place s.key (slice_get_within less.opens.items o.index o.place o.is_open) o.is_open s.there
      (stuck_like there (plain_at task.flat s.key.state) (state_fine o.state)
      (fine_key task s.key (is.sound.found.reached.each o.place s.key s.there)) s.alike halted))
      order gets.acts gets.machine gets.led gets.stuck

  pub never_trapping : is_none less.trap ≡ true → NeverTraps task.program.now task.flat.nodes
  never_trapping none order traps =
      all_shown task.program.now task.flat.nodes (Open task less is begun done) HasTrap (are_kept task less is begun done) trap_looked
      ⊥ (may_finish HasTrap)
      (λ past there o trapped. true≢false (sym trapped ∙ o.trapless none)) order traps.acts traps.machine traps.led traps.traps

  -- where a node ends all its runs, its outcome is that of an open state
  pub has_outcome : (outcomes : List Outcome) (notes : List Act) → task.noting ≡ true → AreGathered task less outcomes (length less.opens.items)
      → IsOutcome task.program.now task.flat.nodes notes → HasOutcome outcomes notes
  has_outcome outcomes notes noting gathered o =
      all_shown task.program.now task.flat.nodes (Open task less is begun done) (λ l m. Shows (outcome task.flat.nodes notes) l m)
      (are_kept task less is begun done) (outcome_looked task.flat.nodes notes) (HasOutcome outcomes notes)
      (λ machine order total acts final run rests go. go (record { each = finishes_by_rest order machine final acts run rests.0 }))
      (λ past there a shows.
      let s = a.stood in
      let reached = is.sound.found.reached.each a.place s.key s.there in
      let still = rest_like there (plain_at task.flat s.key.state) (state_fine a.state) (fine_key task s.key reached) s.alike shows.0 in
      let has = gathered.gathered a.index a.place (slice_get_within less.opens.items a.index a.place a.is_open) a.is_open s.key s.there still in
      record { place = has.place; outcome = has.outcome; there = has.there; same = has.same ∙ sym (s.noted noting) ∙ shows.1 })
      o.order o.acts o.machine o.led (o.still, o.are)

  -- where no state that was found ends with these notes, they are of no outcome
  pub no_outcome : (notes : List Act) → task.noting ≡ true → HasNoEndBefore task less.found notes (row_count less.found.table.rows)
      → IsOutcome task.program.now task.flat.nodes notes → ⊥
  no_outcome notes noting none o =
      all_shown task.program.now task.flat.nodes (Open task less is begun done) (λ l m. Shows (outcome task.flat.nodes notes) l m)
      (are_kept task less is begun done) (outcome_looked task.flat.nodes notes) ⊥ (may_finish (λ l m. Shows (outcome task.flat.nodes notes) l m))
      (λ past there a shows.
      let s = a.stood in
      let still = rest_like there (plain_at task.flat s.key.state) (state_fine a.state)
      (fine_key task s.key (is.sound.found.reached.each a.place s.key s.there)) s.alike shows.0 in
      none a.place (row_within less.found.table.rows a.place s.key s.there)
      (record { key = s.key; there = s.there; still = still; are = sym (s.noted noting) ∙ shows.1 }))
      o.order o.acts o.machine o.led (o.still, o.are)

  pub exact : (outcomes : List Outcome) → task.noting ≡ true → AreSound task outcomes → AreGathered task less outcomes (length less.opens.items)
      → (notes : List Act) → (HasOutcome outcomes notes ↔ IsOutcome task.program.now task.flat.nodes notes)
  exact outcomes noting sound gathered notes = (
    λ has.
        (settled_outcomes task.program.now task.flat.nodes notes).1
        (subst (IsSettledOutcome task.program.now task.flat.nodes) has.same (sound has.place has.outcome has.there noting)),
    has_outcome outcomes notes noting gathered,
  )
