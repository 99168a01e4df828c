-- The races of the traces that the nodes of a run keep.
use Rattle.std.proofs.Common.{◌≡◌, ◌∙◌, ℕ, List, [], Some, inl, inr, refl, sym, ap, subst, map, arith}
use Rattle.std.proofs.lemmas.Bool.{cases_order}
use Rattle.std.specs.List.{enumerate_from}
use Rattle.lrc_program.specs.declared.Program.{Program}
use Rattle.lrc_trace.specs.declared.act.Act.{Act}
use Rattle.lrc_trace.specs.declared.race.Race.{Race}
use Rattle.lrc_trace.specs.Conflict.{IsRaceFree}
use Rattle.lrc_trace.specs.Interval.{interval_at, IsNamedRace}
use Rattle.lrc_trace.specs.Trace.{TraceRecord}
use Rattle.lrc_trace.proofs.Conflicts.{ConflictAt-symmetric}
use Rattle.lrc_judge.specs.Races.{AreNamedRaces}
use Rattle.lrc_race.specs.Races.{AreTracesOf, AreRacesOf, IsRaceOf}
use Rattle.lrc_protocol.specs.declared.event.Event.{Event}
use Rattle.lrc_protocol.specs.Node.{OptionsRecord}
use Rattle.lrc_protocol.specs.Traced.{traces_of}
use Rattle.lrc_protocol.specs.Run.{World as Run, run_of}
use Rattle.lrc_reading_laws.proofs.Traced.Laws.{are_traces, races_named}
use Rattle.lrc_node.specs.Logged.{TracedLog}
use Rattle.lrc_world.specs.declared.world.World.{World}
use Rattle.lrc_world.specs.declared.keep.Keep.{Keep}
use Rattle.lrc_world.specs.World.{Shows, kept_node, starts_of}
use Rattle.lrc_world.proofs.Lists.{map-map}

module _ (acts : List Act) (none : AreNamedRaces acts []) where
  unnamed : (race : Race) → IsNamedRace acts race → ⊥
  unnamed race named = let (at, below, there) = (none.exact race).1 named in absurd (omega (arith, below))

  -- a race is named by the word, the nodes and the intervals, the lower node first
  free_where : IsRaceFree acts
  free_where i j races =
      let (p, q, word, c) = races.conflict in
      elim (cases_order p q) [
        | inl same ↦ absurd (c.apart same)
        | inr (inl lower) ↦
            let race : Race = record { word = word; node_a = p; node_b = q; interval_a = interval_at acts p i; interval_b = interval_at acts q j } in
            unnamed race
            (i, j, record { ascending = lower; conflict = c; races = inl races; interval_a = refl; interval_b = refl })
        | inr (inr upper) ↦
            let race : Race = record { word = word; node_a = q; node_b = p; interval_a = interval_at acts q j; interval_b = interval_at acts p i } in
            unnamed race
            (j, i, record { ascending = upper; conflict = ConflictAt-symmetric c; races = inr races; interval_a = refl; interval_b = refl })
      ]

-- traces that are those of the nodes of a run
module _ (program : Program) (nodes : ℕ) (options : OptionsRecord) (events : List Event) (run : Run)
    (runs : run_of program nodes options events ≡ Some run) (traces : List TraceRecord) (same : traces ≡ traces_of program nodes options run) where
  pub traces_there : AreTracesOf nodes traces
  traces_there = subst (AreTracesOf nodes) (sym same) (are_traces program nodes options events run runs)

  -- their races are those that the run's acts name
  pub races_there : (acts : List Act) (races : List Race) → acts ≡ run.acts → AreRacesOf traces races → AreNamedRaces acts races
  races_there acts races is r =
      subst (λ (acts : List Act). AreNamedRaces acts races) (sym is)
      (record {
        ascending = r.ascending;
        exact = λ race. (
          λ h. (races_named program nodes options events run runs race).0 (subst (λ ts. IsRaceOf ts race) same ((r.exact race).0 h)),
          λ h. (r.exact race).1 (subst (λ ts. IsRaceOf ts race) (sym same) ((races_named program nodes options events run runs race).1 h)),
        );
      })

  -- where they have none, the acts have none
  pub raceless_there : (acts : List Act) → acts ≡ run.acts → AreRacesOf traces [] → IsRaceFree acts
  raceless_there acts is r = free_where acts (races_there acts [] is r)

-- those that the nodes of a world keep
module _ (program : Program) (nodes : ℕ) (options : OptionsRecord) (events : List Event) (run : Run)
    (runs : run_of program nodes options events ≡ Some run) (world : World) (keep : Keep) (shows : Shows (starts_of program nodes options keep) world run) where
  abbrev kept : List TraceRecord
  kept = map (λ (t : TracedLog). t.trace) world.nodes.items

  same : kept ≡ traces_of program nodes options run
  same =
      ap (map (λ (t : TracedLog). t.trace)) shows.nodes
      ∙ map-map (λ (t : TracedLog). t.trace) (kept_node (starts_of program nodes options keep)) (enumerate_from 0 run.nodes)

  pub kept_traces : (n : ℕ) × AreTracesOf n kept
  kept_traces = (nodes, traces_there program nodes options events run runs kept same)

  pub kept_races : (acts : List Act) (races : List Race) → acts ≡ run.acts → AreRacesOf kept races → AreNamedRaces acts races
  kept_races = races_there program nodes options events run runs kept same

  pub kept_raceless : (acts : List Act) → acts ≡ run.acts → AreRacesOf kept [] → IsRaceFree acts
  kept_raceless = raceless_there program nodes options events run runs kept same
