-- Reports of the same events say the same.
use Rattle.std.proofs.Common.{◌≡◌, ◌∙◌, ⊎_elim, ℕ, arith, Bool, true, false, List, [], ◌∷◌, Option, Some, None, MatchOption, Less, Ordering, map, refl, sym, ap, subst}
use Rattle.std.specs.Prelude.{Contains}
use Rattle.std.specs.Ordering.{ordering_reverse}
use Rattle.std.specs.Cmp.{IsTotalOrder}
use Rattle.std.specs.List.{AllByRecursion}
use Rattle.std.specs.List.Sorted.{IsStrictlySortedBy}
use Rattle.std.proofs.lemmas.Option.{same_Some}
use Rattle.lrc_program.specs.declared.Program.{Program}
use Rattle.lrc_trace.specs.declared.act.Act.{Act}
use Rattle.lrc_trace.specs.declared.race.Race.{Race}
use Rattle.lrc_trace.specs.Conflict.{IsFirstRace, IsRaceFree}
use Rattle.lrc_judge.specs.Races.{AreNamedRaces, race_cmp}
use Rattle.lrc_judge.proofs.Ascending.{race_total}
use Rattle.lrc_store.proofs.Orders.{Contains-first, Contains-later, cases_Contains, none_Contains}
use Rattle.lrc_protocol.specs.Node.{OptionsRecord}
use Rattle.lrc_protocol.specs.Run.{World as Run, run_of}
use Rattle.lrc_world.specs.declared.keep.Keep.{Keep}
use Rattle.lrc_world.specs.declared.run.Order.{Order}
use Rattle.lrc_world.specs.declared.run.Run.{Run as MadeRun}
use Rattle.lrc_world.specs.Report.{IsOver, end_of_logged}
use Rattle.lrc_world.specs.Runs.{IsRunIn}
use Rattle.lrc_world_laws.specs.Same.{SaysTheSame}

-- ---- lists that ascend

module _ {X : Type 0} (cmp : X → X → Ordering) (total : IsTotalOrder cmp) where
  apart : (x y : X) → cmp x y ≡ Less → cmp y x ≡ Less → ⊥
  apart x y first second = let turned : Less ≡ ordering_reverse Less = sym first ∙ total.antisymm x y ∙ ap ordering_reverse second in cc

  below : (x : X) (xs : List X) (y : X) → AllByRecursion (λ z. cmp x z ≡ Less) xs → Contains xs y → cmp x y ≡ Less
  below x [] y all there = absurd (none_Contains y there)
  below x (z ∷ xs) y all there =
      ⊎_elim (λ (here : z ≡ y). ap (cmp x) (sym here) ∙ all.0)
      (λ (later : Contains xs y). below x xs y all.1 later) (cases_Contains z xs y there)

  -- what stands in the one behind its first stands in the other behind its first
  moved : (x : X) (xs ys : List X) → AllByRecursion (λ z. cmp x z ≡ Less) xs → ((z : X) → Contains (x ∷ xs) z → Contains (x ∷ ys) z)
      → (z : X) → Contains xs z → Contains ys z
  moved x xs ys all into z there =
      let less : cmp x z ≡ Less = below x xs z all there in
      ⊎_elim (λ (same : x ≡ z). absurd (apart x z less (ap (λ y. cmp y x) (sym same) ∙ ap (cmp x) same ∙ less)))
      (λ (later : Contains ys z). later)
      (cases_Contains x ys z (into z (Contains-later x xs z there)))

  same_lists : (xs ys : List X) → IsStrictlySortedBy cmp xs → IsStrictlySortedBy cmp ys → ((z : X) → Contains xs z → Contains ys z)
      → ((z : X) → Contains ys z → Contains xs z) → xs ≡ ys
  unfolding IsStrictlySortedBy
  same_lists [] [] first second into from = refl
  same_lists [] (y ∷ ys) first second into from = absurd (none_Contains y (from y (Contains-first y ys)))
  same_lists (x ∷ xs) [] first second into from = absurd (none_Contains x (into x (Contains-first x xs)))
  same_lists (x ∷ xs) (y ∷ ys) first second into from =
      let heads : x ≡ y =
      ⊎_elim (λ (same : y ≡ x). sym same)
      (λ (later : Contains ys x).
      ⊎_elim (λ (same : x ≡ y). same)
      (λ (behind : Contains xs y). absurd (apart x y (below x xs y first.0 behind) (below y ys x second.0 later)))
      (cases_Contains x xs y (from y (Contains-first y ys))))
      (cases_Contains y ys x (into x (Contains-first x xs))) in
      let on : AllByRecursion (λ z. cmp x z ≡ Less) ys = subst (λ y. AllByRecursion (λ z. cmp y z ≡ Less) ys) (sym heads) second.0 in
      let tails : xs ≡ ys =
      same_lists xs ys first.1 second.1
      (moved x xs ys first.0 (λ z there. subst (λ y. Contains (y ∷ ys) z) (sym heads) (into z there)))
      (moved x ys xs on (λ z there. from z (subst (λ y. Contains (y ∷ ys) z) heads there))) in
      ap (λ y. y ∷ xs) heads ∙ ap (λ ys. y ∷ ys) tails

pub same_races : (acts : List Act) (races others : List Race) → AreNamedRaces acts races → AreNamedRaces acts others → races ≡ others
same_races acts races others first second =
    same_lists race_cmp race_total races others first.ascending second.ascending
    (λ race there. (second.exact race).1 ((first.exact race).0 there)) (λ race there. (first.exact race).1 ((second.exact race).0 there))

-- ---- first races

same_first : (acts : List Act) (a b : Option ℕ) → MatchOption a (IsRaceFree acts) (IsFirstRace acts)
    → MatchOption b (IsRaceFree acts) (IsFirstRace acts) → a ≡ b
same_first acts None None first second = refl
same_first acts None (Some j) first second = absurd (first second.with j second.races)
same_first acts (Some i) None first second = absurd (second first.with i first.races)
same_first acts (Some i) (Some j) first second =
    let low = first.least second.with j second.races in
    let high = second.least first.with i first.races in
    ap (λ (k : ℕ). Some k) (omega (arith, low, high))

-- ---- reports

both_true : (a b : Bool) → (a ≡ true → b ≡ true) → (b ≡ true → a ≡ true) → a ≡ b
both_true true b on back = sym (on refl)
both_true false true on back = back refl
both_true false false on back = refl

module _ (program : Program) (nodes : ℕ) (options : OptionsRecord) (order another : Order) (keep other : Keep) (run again : MadeRun)
    (is : IsRunIn order program nodes options keep run) (also : IsRunIn another program nodes options other again)
    (same : again.events.items ≡ run.events.items) where
  -- both sets of turns make one run of the machine
  one_made : also.made ≡ is.made
  one_made = same_Some also.made is.made (sym also.makes ∙ ap (run_of program nodes options) same ∙ is.makes)

  same_acts : again.report.acts.items ≡ run.report.acts.items
  same_acts = also.report.acts ∙ ap (λ (made : Run). made.acts) one_made ∙ sym is.report.acts

  -- what is said beside the turns is the same
  pub says_the_same : SaysTheSame run again
  says_the_same = record {
    acts = same_acts;
    ends = also.report.ends ∙ ap (λ (made : Run). map end_of_logged made.nodes) one_made ∙ sym is.report.ends;
    races = same_races run.report.acts.items again.report.races.items run.report.races.items
        (subst (λ acts. AreNamedRaces acts again.report.races.items) same_acts also.races) is.races;
    first = same_first is.made.acts again.report.first_race run.report.first_race
        (subst (λ (made : Run). MatchOption again.report.first_race (IsRaceFree made.acts) (IsFirstRace made.acts)) one_made also.report.first)
        is.report.first;
    over = both_true again.is_over run.is_over (λ e. is.over.1 (subst IsOver one_made (also.over.0 e)))
        (λ e. also.over.1 (subst IsOver (sym one_made) (is.over.0 e)));
  }
