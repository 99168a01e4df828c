-- A lazy run goes on with what the machine can make, and the machine can make what it goes on with.
use Rattle.std.proofs.Common.{◌≡◌, ℕ, ◌+◌, ◌-◌, ◌<◌, ◌≤◌, true, false, List, [], ◌∷◌, ◌++◌, length, inl, inr, refl, sym, subst, ◌∙◌, ap, arith}
use Rattle.std.specs.Prelude.{Option, Some, None, slice_index, slice_set}
use Rattle.std.proofs.lemmas.Bool.{cases_eq}
use Rattle.std.proofs.lemmas.List.{get_or-set_same, length-map, length-set, length_push}
use Rattle.lrc_program.specs.declared.Program.{Program}
use Rattle.lrc_trace.specs.declared.act.Act.{Act}
use Rattle.lrc_trace.specs.declared.act.Deed.{Deed}
use Rattle.lrc_trace.specs.declared.act.Deed.TheVariants.{Read}
use Rattle.lrc_trace.specs.Run.{act_of, arrives_before, departs_before, is_arrive, is_depart}
use Rattle.lrc_trace.specs.Reading.{MayRead}
use Rattle.lrc_trace.specs.Synchronization.{MayGoOn}
use Rattle.lrc_trace.proofs.Positions.{Does-last, Does-cases, arrives_before-prefix, departs_before-prefix}
use Rattle.lrc_trace.proofs.Intervals.{count_of-rises}
use Rattle.lrc_trace.proofs.Prefixes.{IsWellSynchronized-more, MayGoOn-last, ReadsLazily-more, MayRead-last}
use Rattle.lrc_exec.specs.Meaning.{Thread, next_of}
use Rattle.lrc_exec.specs.Plain.{Plain, thread_in, plain_step, start_of}
use Rattle.lrc_exec.proofs.NextLaws.{IsFine, next_of-fine}
use Rattle.lrc_exec.proofs.PlainParts.{thread_within}
use Rattle.lrc_exec.specs.Follows.{Goes, Makes, deeds_of}
use Rattle.lrc_consistency_laws.specs.Matching.{Matches, IsPaired}
use Rattle.lrc_consistency_laws.proofs.Matching.{arrives-same, departs-same}
use Rattle.lrc_consistency_laws.proofs.Runs.{CanDo, can_do}
use Rattle.lrc_consistency_laws.proofs.UpToRace.{in_range}
use Rattle.lrc_orders.proofs.Effects.{after_of, length-holders, length-arrivals}
use Rattle.lrc_orders_laws.proofs.Parts.{stepped, can_step}
use Rattle.lrc_lazy.specs.Lazy.{IsLazyRun, IsOver}
use Rattle.lrc_lazy.proofs.Onward.{deeds_more-own}
use Rattle.lrc_lazy.proofs.Plainly.{over_stops, stops_over}
use Rattle.lrc_lazy_known.specs.declared.known.Knowledge.{Knowledge}
use Rattle.lrc_lazy_known.specs.Effect.{word_of, IsKnowledgeAfter, AreCounts, AreOf}
use Rattle.lrc_lazy_known.proofs.Stepping.{knowledge_on}
use Rattle.lrc_lazy_known.proofs.Giving.{gives_read}
use Rattle.lrc_lazy.specs.Standing.{advanced, with_memory, Comes, Stands, effect_at, MayGive, CanMake}
use Rattle.lrc_lazy.proofs.Coming.{comes_makes, comes_more, comes_goes, deeds_same, follows_more}
use Rattle.lrc_lazy.proofs.Coming.{read_stays, acquire_below, release_below, depart_waits, stops_then, sound_of}
use Rattle.lrc_lazy.proofs.Going.{matches_after, may_after}
use Rattle.lrc_lazy.proofs.Advancing.{can_moved, can_back, after_moved}
use Rattle.lrc_lazy.proofs.Renewing.{arrived}

module _ (program : Program) (nodes : ℕ) (acts : List Act) (machine : Plain) (knowledge : Knowledge) (s : Stands program nodes acts machine knowledge) where
  -- the machine where no barrier is gone
  abbrev whole : Plain
  whole = advanced s.gone machine

  abbrev now : Plain
  now = with_memory whole s.memory

  -- ---- what the machine makes
  module _ (node : ℕ) (thread : Thread) (at : thread_in machine node ≡ Some thread) where
    fine : IsFine thread (next_of thread)
    fine = next_of-fine thread

    below : node < nodes
    below =
        let within = thread_within machine node thread at in
        let sizes = s.matches.sizes in
        let long = length-map machine.arrivals (λ count. s.gone + count) in
        let size = s.size in
        omega arith

    counted : node < length machine.arrivals
    counted = let size = s.size in let lt = below in omega arith

    size_is : length whole.arrivals ≡ nodes
    size_is = length-map machine.arrivals (λ count. s.gone + count) ∙ s.size

    lazily_after : (d : Deed) → MayGive knowledge node d
        → (word value : ℕ) → d ≡ Read word value → MayRead (acts ++ act_of node d ∷ []) (length acts) word value
    lazily_after d gives word value is =
        subst (λ x. MayRead (acts ++ act_of node x ∷ []) (length acts) word value) (sym is)
        ((gives_read nodes program.locks s.gone acts node word value s.are below (word_of knowledge word) (s.known word)).1 (gives word value is))

    run_after : (memory : List ℕ) (d : Deed) (t : Option Thread) → Goes (next_of thread) d t → CanDo (with_memory machine memory) node d
        → MayGive knowledge node d → IsLazyRun program nodes (acts ++ act_of node d ∷ [])
    run_after memory d t goes can gives = record {
      follows = follows_more program nodes acts node d s.run.follows below
          (comes_makes (comes_more (subst (λ o. Comes (Some (start_of program nodes node)) (deeds_of node acts) o) at (s.leads node below)) goes));
      synchronized = IsWellSynchronized-more acts (act_of node d) nodes s.run.synchronized
          (may_after nodes acts whole s.memory s.matches size_is node thread at memory d t goes (can_moved s.gone machine node counted memory d can));
      lazily = ReadsLazily-more acts (act_of node d) s.run.lazily (lazily_after d gives);
    }

    locks_are : thread.setting.locks ≡ program.locks
    locks_are = (s.matches.threads node thread at).locks ∙ s.holders

    are_after : (d : Deed) (t : Option Thread) → Goes (next_of thread) d t → AreOf nodes program.locks (acts ++ act_of node d ∷ [])
    are_after d t goes = record {
      in_nodes = λ i n x does. elim (Does-cases does) [
        | inl (lt, before) ↦ s.are.in_nodes i n x before
        | inr (here, own, is) ↦ subst (λ y. y < nodes) own below
      ];
      in_locks = λ i n l does. elim (Does-cases does) [
        | inl (lt, before) ↦ s.are.in_locks i n l before
        | inr (here, own, is) ↦
            subst (λ y. l < y) locks_are (release_below thread fine (subst (λ y. Goes (next_of thread) y t) is goes))
      ];
    }

    -- the counts of the machine are those of the run, without the barriers that are gone
    counts : (d : Deed) (t : Option Thread) → Goes (next_of thread) d t
        → AreCounts s.gone acts node d (slice_index machine.arrivals node) (slice_index machine.arrivals node - 1)
    counts d t goes =
        let all = arrived program nodes acts machine knowledge s node below in
        record {
          arrives = λ is. all;
          departs = λ is.
              let waits = depart_waits thread fine (subst (λ y. Goes (next_of thread) y t) is goes) in
              let paired : IsPaired true (arrives_before acts node (length acts)) (departs_before acts node (length acts)) =
              subst (λ b. IsPaired b (arrives_before acts node (length acts)) (departs_before acts node (length acts))) waits
              (s.matches.threads node thread at).paired in
              let gone = s.departed node below in
              omega (arith, all, paired, gone);
        }

    -- ---- how often nodes have departed then
    abbrev run_on : Deed → List Act
    run_on d = acts ++ act_of node d ∷ []

    departs_rise : (d : Deed) (n : ℕ) → departs_before acts n (length acts) ≤ departs_before (run_on d) n (length (run_on d))
    departs_rise d n =
        let long = length_push acts (act_of node d) in
        let more = count_of-rises is_depart (run_on d) n (length acts) (length (run_on d)) (omega (arith, long)) in
        let same = departs_before-prefix acts (act_of node d ∷ []) n (length acts) (omega arith) in
        omega (arith, more, same)

    -- a node that neither arrives nor departs is where it was
    counts_still : (d : Deed) (n : ℕ) → (node ≡ n → is_arrive d ≡ true → ⊥) → (node ≡ n → is_depart d ≡ true → ⊥)
        → departs_before acts n (length acts) ≡ arrives_before acts n (length acts)
        → departs_before (run_on d) n (length (run_on d)) ≡ arrives_before (run_on d) n (length (run_on d))
    counts_still d n no_arrive no_depart same =
        let here = Does-last acts (act_of node d) in
        let arrives = arrives-same (run_on d) (length acts) node d here n no_arrive
        ∙ arrives_before-prefix acts (act_of node d ∷ []) n (length acts) (omega arith) in
        let departs = departs-same (run_on d) (length acts) node d here n no_depart
        ∙ departs_before-prefix acts (act_of node d ∷ []) n (length acts) (omega arith) in
        subst (λ k. departs_before (run_on d) n k ≡ arrives_before (run_on d) n k) (sym (length_push acts (act_of node d)))
        (departs ∙ same ∙ sym arrives)

    stopped_own : (d : Deed) (t : Option Thread) → Goes (next_of thread) d t → t ≡ None
        → departs_before (run_on d) node (length (run_on d)) ≡ arrives_before (run_on d) node (length (run_on d))
    stopped_own d t goes none =
        let stops = stops_then thread fine goes none in
        let paired : IsPaired false (arrives_before acts node (length acts)) (departs_before acts node (length acts)) =
        subst (λ b. IsPaired b (arrives_before acts node (length acts)) (departs_before acts node (length acts))) stops.0
        (s.matches.threads node thread at).paired in
        counts_still d node (λ e. stops.1) (λ e. stops.2) (sym paired)

  -- the run goes on with what the machine can make
  pub run_made : (node : ℕ) (deed : Deed) → CanMake program.words machine knowledge node deed → IsLazyRun program nodes (acts ++ act_of node deed ∷ [])
  run_made node deed can =
      let made = stepped (with_memory machine can.memory) node deed can.after can.made in
      run_after node made.thread made.there can.memory deed made.took.goes_on_as made.took.goes made.took.can can.gives

  -- and stands where it leads
  pub stands_on : (node : ℕ) (deed : Deed) (memory later : List ℕ) (after : Plain) (kept : Knowledge)
      → plain_step (with_memory machine memory) node ≡ Some (deed, with_memory after later) → MayGive knowledge node deed
      → IsKnowledgeAfter (effect_at nodes program.locks machine node deed) knowledge kept
      → Stands program nodes (acts ++ act_of node deed ∷ []) after kept
  stands_on node deed memory later after kept step gives effect =
      let made = stepped (with_memory machine memory) node deed (with_memory after later) step in
      let thread = made.thread in
      let at : thread_in machine node ≡ Some thread = made.there in
      let t = made.took.goes_on_as in
      let goes = made.took.goes in
      let act = act_of node deed in
      let run = acts ++ act ∷ [] in
      let within = counted node thread at in
      let found = matches_after acts whole s.memory s.matches node thread at memory deed t goes (can_moved s.gone machine node within memory deed made.took.can) in
      let words = found.0 in
      let is : with_memory (advanced s.gone after) words ≡ with_memory (after_of whole node deed t) words =
      ap (λ (m : Plain). with_memory (advanced s.gone m) words) made.took.is
      ∙ ap (λ (m : Plain). with_memory m words) (sym (after_moved s.gone machine node within deed t)) in
      let lt = below node thread at in
      record {
        run = run_after node thread at memory deed t goes made.took.can gives;
        gone = s.gone;
        departed = λ n below_n. let least = s.departed n below_n in let rise = departs_rise node thread at deed n in omega (arith, least, rise);
        memory = words;
        matches = subst (λ k. Matches run k (with_memory (advanced s.gone after) words)) (sym (length_push acts act))
            (subst (λ m. Matches run (length acts + 1) m) (sym is) found.1);
        long = found.2 ∙ s.long;
        holders = ap (λ (m : Plain). length m.holders) made.took.is ∙ length-holders node deed machine.holders ∙ s.holders;
        size = ap (λ (m : Plain). length m.arrivals) made.took.is ∙ length-arrivals node deed machine.arrivals ∙ s.size;
        leads = λ n below_n. elim (cases_eq node n) [
          | inl own ↦
              subst (λ x. Comes (Some (start_of program nodes x)) (deeds_of x run) (thread_in after x)) own
              (subst (λ ds. Comes (Some (start_of program nodes node)) ds (thread_in after node)) (sym (deeds_more-own node acts deed))
              (subst (λ o. Comes (Some (start_of program nodes node)) (deeds_of node acts ++ deed ∷ []) o) (sym made.own)
              (comes_more (subst (λ o. Comes (Some (start_of program nodes node)) (deeds_of node acts) o) at (s.leads node lt)) goes)))
          | inr other ↦
              subst (λ ds. Comes (Some (start_of program nodes n)) ds (thread_in after n)) (sym (deeds_same n acts act other))
              (subst (λ o. Comes (Some (start_of program nodes n)) (deeds_of n acts) o) (sym (made.others n (λ e. other (sym e)))) (s.leads n below_n))
        ];
        stopped = λ n below_n none. elim (cases_eq n node) [
          | inl own ↦
              subst (λ x. departs_before run x (length run) ≡ arrives_before run x (length run)) (sym own)
              (stopped_own node thread at deed t goes (sym made.own ∙ ap (thread_in after) (sym own) ∙ none))
          | inr other ↦
              counts_still node thread at deed n (λ e. absurd (other (sym e))) (λ e. absurd (other (sym e)))
              (s.stopped n below_n (sym (made.others n other) ∙ none))
        ];
        are = are_after node thread at deed t goes;
        known = knowledge_on nodes program.locks s.gone (slice_index machine.arrivals node) (slice_index machine.arrivals node - 1) acts act knowledge kept
            s.are lt
            (λ l e. subst (λ y. l < y) (locks_are node thread at)
            (acquire_below thread (fine node thread at) (subst (λ y. Goes (next_of thread) y t) e goes)))
            (counts node thread at deed t goes) s.known effect;
      }

  -- ---- what the run goes on with
  words_found : (node : ℕ) (thread : Thread) → thread_in machine node ≡ Some thread → thread.setting.words ≡ program.words
  words_found node thread at = (s.matches.threads node thread at).words ∙ s.long

  make_deed : (node : ℕ) (deed : Deed) (thread : Thread) (t : Option Thread) → thread_in machine node ≡ Some thread → Goes (next_of thread) deed t
      → MayGoOn nodes acts (act_of node deed) → MayGive knowledge node deed → CanMake program.words machine knowledge node deed
  make_deed node (Read w v) thread t at goes may gives =
      let stays = read_stays (fine node thread at) goes in
      let words = words_found node thread at in
      let long = s.long in
      let within : w < length s.memory = let lt = stays.0 in omega arith in
      let memory = slice_set s.memory w v in
      record {
        memory = memory;
        long = length-set s.memory w v ∙ s.long;
        after = after_of (with_memory machine memory) node (Read w v) t;
        made = can_step (with_memory machine memory) node thread (Read w v) at refl goes (sym (get_or-set_same s.memory w v 0 within));
        gives = gives;
      }
  make_deed node deed thread t at goes may gives = record {
    memory = s.memory;
    long = s.long;
    after = after_of (with_memory machine s.memory) node deed t;
    made = can_step (with_memory machine s.memory) node thread deed at refl goes
        (can_back s.gone machine node (counted node thread at) s.memory deed
        (can_do acts nodes (length acts) node now thread at s.matches (size_is node thread at) goes (fine node thread at)
        (sound_of nodes acts node deed (λ w v e. cc) may)));
    gives = gives;
  }

  pub can_make : (node : ℕ) (deed : Deed) → IsLazyRun program nodes (acts ++ act_of node deed ∷ []) → CanMake program.words machine knowledge node deed
  can_make node deed run =
      let act = act_of node deed in
      let lt : node < nodes = in_range run.follows (length acts) node deed (Does-last acts act) in
      let makes = subst (λ ds. Makes (Some (start_of program nodes node)) ds) (deeds_more-own node acts deed) (run.follows.each node lt) in
      let found = comes_goes (deeds_of node acts) (s.leads node lt) makes in
      make_deed node deed found.thread found.after found.stands found.goes (MayGoOn-last acts act nodes run.synchronized)
      (λ w v is.
      (gives_read nodes program.locks s.gone acts node w v s.are lt (word_of knowledge w) (s.known w)).0
      (subst (λ x. MayRead (acts ++ act_of node x ∷ []) (length acts) w v) is (MayRead-last acts act run.lazily w v is)))

  -- the run is over where the machine can make nothing
  pub over_there : ((node : ℕ) (deed : Deed) → CanMake program.words machine knowledge node deed → ⊥) → IsOver program nodes acts
  over_there none = stops_over program nodes acts s.run (λ act lazy. none act.node act.deed (can_make act.node act.deed lazy))

  pub none_there : IsOver program nodes acts → (node : ℕ) (deed : Deed) → CanMake program.words machine knowledge node deed → ⊥
  none_there over node deed can = over_stops program nodes acts over (act_of node deed) (run_made node deed can)
