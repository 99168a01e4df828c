-- Reports of a program of which every order was looked at and none races.
use Rattle.std.proofs.Common.{◌≡◌, ℕ, List, [], ◌∷◌, inl, inr, refl, sym, subst, arith}
use Rattle.std.specs.Prelude.{Option, Some, None, MatchOption}
use Rattle.lrc_program.specs.declared.Program.{Program}
use Rattle.lrc_trace.specs.declared.act.Act.{Act}
use Rattle.lrc_trace.specs.declared.race.Race.{Race}
use Rattle.lrc_trace.specs.Conflict.{IsFirstRace, IsRaceFree}
use Rattle.lrc_judge.specs.Races.{AreNamedRaces}
use Rattle.lrc_exec.specs.Plain.{plain}
use Rattle.lrc_exec.specs.Follows.{nodes_of_acts}
use Rattle.lrc_protocol.specs.declared.event.Event.{Event}
use Rattle.lrc_protocol.specs.Node.{OptionsRecord}
use Rattle.lrc_world.specs.Report.{IsReportOf}
use Rattle.lrc_world.specs.declared.report.Report.{Report}
use Rattle.lrc_world.proofs.Theorem.{reports_consistently}
use Rattle.lrc_orders.specs.declared.search.Verdict.TheVariants.{RaceFree, Racy}
use Rattle.lrc_orders.specs.Verdict.{FindsNoRace}
use Rattle.lrc_explore.specs.Answers.{IsAnswer}
use Rattle.lrc_consistency_laws.specs.Racing.{HasNoRace}
use Rattle.lrc_orders.specs.declared.search.Verdict.{Verdict}

has_no_race : (program : Program) (nodes : ℕ) (verdict : Verdict) → IsAnswer program nodes verdict → FindsNoRace verdict → HasNoRace program nodes
has_no_race program nodes (RaceFree findings) is finds = is.0
has_no_race program nodes (Racy order) is finds = absurd finds

none_first : (acts : List Act) (first : Option ℕ) → IsRaceFree acts → MatchOption first (IsRaceFree acts) (IsFirstRace acts) → first ≡ None
none_first acts None free is = refl
none_first acts (Some position) free is = absurd (free is.with position is.races)

none_named : (acts : List Act) (races : List Race) → IsRaceFree acts → AreNamedRaces acts races → races ≡ []
none_named acts [] free are = refl
none_named acts (race ∷ more) free are =
    let (i, j, names) = (are.exact race).0 (0, omega arith, refl) in
    elim names.races [ inl r ↦ absurd (free i j r) | inr r ↦ absurd (free j i r) ]

module _ (program : Program) (nodes : ℕ) (verdict : Verdict) (options : OptionsRecord) (events : List Event) (report : Report)
    (is : IsAnswer program nodes verdict) (finds : FindsNoRace verdict) (reported : IsReportOf program nodes options events report) where
  free : IsRaceFree report.acts.items
  free = (reports_consistently program nodes options events report reported).unraced (has_no_race program nodes verdict is finds)

  pub free_and_plain : IsRaceFree report.acts.items × (plain program nodes (nodes_of_acts report.acts.items) ≡ Some report.acts.items)
  free_and_plain = (free, (reports_consistently program nodes options events report reported).consistent free)

  pub unraced : AreNamedRaces report.acts.items report.races.items → (report.first_race ≡ None) × (report.races.items ≡ [])
  unraced are = (
    none_first report.acts.items report.first_race free
        (subst (λ acts. MatchOption report.first_race (IsRaceFree acts) (IsFirstRace acts)) (sym reported.2.acts) reported.2.first),
    none_named report.acts.items report.races.items free are,
  )
