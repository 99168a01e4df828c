-- What deliveries behind a run along an order make.
use Rattle.std.proofs.Common.{◌≡◌, ◌∙◌, ◌++◌, ℕ, suc, true, List, [], ◌∷◌, Some, inl, inr, sym, ap, subst, length, append-nil, append_assoc, arith}
use Rattle.std.specs.Prelude.{All}
use Rattle.std.proofs.lemmas.List.Elements.{All-append}
use Rattle.std.proofs.lemmas.Option.{same_Some, slice_get_within}
use Rattle.lrc_program.specs.declared.Program.{Program}
use Rattle.lrc_trace.specs.declared.act.Act.{Act}
use Rattle.lrc_trace.specs.declared.act.Deed.TheVariants.{Depart}
use Rattle.lrc_protocol.specs.declared.event.Event.{Event}
use Rattle.lrc_protocol.specs.declared.event.Event.TheVariants as kinds
use Rattle.lrc_protocol.specs.Node.{OptionsRecord}
use Rattle.lrc_protocol.specs.Run.{World, event_on, run_of}
use Rattle.lrc_along.specs.Along.{AreDue, BeginsInTurn, IsDelivery, MayStandBehind}
use Rattle.lrc_along.specs.Due.{has_begun_at}
use Rattle.lrc_along.proofs.Events.{all_before, one_before}
use Rattle.lrc_along.proofs.Onward.{behind}
use Rattle.lrc_along.proofs.Stopping.{all_along}

first_of : {X : Type 0} (P : X → Type 0) (x : X) (xs : List X) → All P (x ∷ xs) → P x
first_of P x xs all = all 0 x (omega arith)

others_of : {X : Type 0} (P : X → Type 0) (x : X) (xs : List X) → All P (x ∷ xs) → All P xs
others_of P x xs all k d lt = all (suc k) d (omega (arith, lt))

module _ (program : Program) (nodes : ℕ) (options : OptionsRecord) (at : World) where
  -- these acts stand behind those of the run
  abbrev pub StandBehind : World → List Act → Type 0
  StandBehind world more = (world.acts ≡ at.acts ++ more) × All (MayStandBehind at) more

  delivered : (rest before : List Event) (world end : World) (more : List Act) → run_of program nodes options before ≡ Some world
      → StandBehind world more → ((node : ℕ) → has_begun_at world node ≡ true → has_begun_at at node ≡ true) → All IsDelivery rest
      → run_of program nodes options (before ++ rest) ≡ Some end → (all : List Act) × StandBehind end all
  delivered [] before world end more runs stand begun all goes =
      let same : world ≡ end = same_Some world end (sym runs ∙ sym (ap (run_of program nodes options) (append-nil before)) ∙ goes) in
      (more, subst (λ (w : World). StandBehind w more) same stand)
  delivered (event ∷ rest) before world end more runs stand begun all goes =
      let split : (before ++ event ∷ []) ++ rest ≡ before ++ event ∷ rest = append_assoc before (event ∷ []) rest in
      let next = all_before program nodes options (before ++ event ∷ []) rest end (ap (run_of program nodes options) split ∙ goes) in
      let b = one_before program nodes options before event next.0 next.1 in
      let same : b.0 ≡ world = same_Some b.0 world (sym b.1 ∙ runs) in
      let is : event ≡ kinds.Deliver 0 = first_of IsDelivery event rest all in
      let e : event_on world (kinds.Deliver 0) ≡ Some next.0 = subst (λ w. event_on w (kinds.Deliver 0) ≡ Some next.0) same (ap (event_on b.0) (sym is) ∙ b.2) in
      let on = behind program nodes options before world at runs begun next.0 e in
      delivered rest (before ++ event ∷ []) next.0 end (more ++ on.more) next.1 (
        on.acts_are ∙ ap (λ a. a ++ on.more) stand.0 ∙ append_assoc at.acts more on.more,
        All-append (MayStandBehind at) more on.more stand.1 on.stand,
      )
      on.begun_is (others_of IsDelivery event rest all) (ap (run_of program nodes options) split ∙ goes)

  pub stand_behind : (along deliveries : List Event) (end : World) → run_of program nodes options along ≡ Some at → All IsDelivery deliveries
      → run_of program nodes options (along ++ deliveries) ≡ Some end → (all : List Act) × StandBehind end all
  stand_behind along deliveries end runs all goes =
      delivered deliveries along at end [] runs (sym (append-nil at.acts), λ k d lt. absurd (omega (arith, lt))) (λ node h. h) all goes

  -- where the order's acts are all made, no node has begun one, and departs stand alone
  departs_if : (order : List Act) → BeginsInTurn program nodes order at → length at.acts ≡ length order → (act : Act) → MayStandBehind at act
      → act.deed ≡ Depart
  departs_if order begun done act (inl is) = is
  departs_if order begun done act (inr h) =
      let there = begun act.node h in
      absurd (omega (arith, slice_get_within order (length at.acts) there.0 there.1.next, done))

  pub departs_alone : (order : List Act) (along deliveries : List Event) (end : World) → run_of program nodes options along ≡ Some at
      → AreDue program nodes options order along → length at.acts ≡ length order → All IsDelivery deliveries
      → run_of program nodes options (along ++ deliveries) ≡ Some end → (all : List Act) × (end.acts ≡ at.acts ++ all) × All (λ act. act.deed ≡ Depart) all
  departs_alone order along deliveries end runs due done all goes =
      let s = stand_behind along deliveries end runs all goes in
      let begun = (all_along program nodes options order along at runs due).1 in
      (s.0, s.1.0, λ k d lt. departs_if order begun done _ (s.1.1 k d lt))
