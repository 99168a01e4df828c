-- Threads that come by deeds to where they stand, and runs by one act more or less.
use Rattle.std.proofs.Common.{◌≡◌, ℕ, ◌<◌, true, false, List, [], ◌∷◌, ◌++◌, length, inl, inr, refl, sym, subst, ◌∙◌, ap, arith}
use Rattle.std.specs.Prelude.{Option, Some, None}
use Rattle.std.proofs.lemmas.Bool.{cases_eq}
use Rattle.std.proofs.lemmas.List.{append-nil, take-append-le}
use Rattle.lrc_program.specs.declared.Program.{Program}
use Rattle.lrc_trace.specs.declared.act.Act.{Act}
use Rattle.lrc_trace.specs.declared.act.Deed.{Deed}
use Rattle.lrc_trace.specs.declared.act.Deed.TheVariants.{Read, Acquire, Release, Depart}
use Rattle.lrc_trace.specs.Run.{act_of, is_arrive, is_depart, arrives_before, departs_before}
use Rattle.lrc_trace.specs.Synchronization.{Holds, MayGoOn}
use Rattle.lrc_trace.proofs.Positions.{Does-cases, arrives_before-prefix, departs_before-prefix}
use Rattle.lrc_trace.proofs.Prefixes.{Holds-longer, Holds-shorter}
use Rattle.lrc_exec.specs.Meaning.{Thread, Next, next_of}
use Rattle.lrc_exec.specs.Plain.{Plain, start_of}
use Rattle.lrc_exec.proofs.NextLaws.{IsFine, Stays}
use Rattle.lrc_exec.specs.Follows.{Goes, quietly, printing, reading, writing, acquiring, releasing, arriving, departing}
use Rattle.lrc_exec.specs.Follows.{trapping, ending, Makes, nothing_more, and_then, deeds_of, FollowsText}
use Rattle.lrc_consistency_laws.specs.InOrder.{value_after_all}
use Rattle.lrc_consistency_laws.specs.Matching.{Matches, IsPaired}
use Rattle.lrc_consistency_laws.proofs.Runs.{SoundAt, deeds_of-other}
use Rattle.lrc_consistency_laws.proofs.UpToRace.{in_range}
use Rattle.lrc_lazy.specs.Lazy.{IsLazyRun}
use Rattle.lrc_lazy.proofs.Onward.{deeds_more-own, all_in_range}
use Rattle.lrc_lazy.proofs.Deeds.{deeds_joined, goes_one, lazy_front}
use Rattle.lrc_lazy.specs.Standing.{Comes, there, onward}

-- ---- deeds of a thread

pub comes_makes : {o t : Option Thread} {ds : List Deed} → Comes o ds t → Makes o ds
comes_makes there = nothing_more
comes_makes (onward g c) = and_then g (comes_makes c)

pub comes_more : {o : Option Thread} {t : Thread} {ds : List Deed} {d : Deed} {after : Option Thread} → Comes o ds (Some t) → Goes (next_of t) d after
    → Comes o (ds ++ d ∷ []) after
comes_more there g = onward g there
comes_more (onward h c) g = onward h (comes_more c g)

-- what a thread makes more, it makes from where it stands
pub record GoesFrom (t : Option Thread) (d : Deed) : Type 0 where
  pub thread : Thread
  pub stands : t ≡ Some thread
  pub after : Option Thread
  pub goes : Goes (next_of thread) d after

pub comes_goes : {o t : Option Thread} (ds : List Deed) {d : Deed} → Comes o ds t → Makes o (ds ++ d ∷ []) → GoesFrom t d
comes_goes [] there (and_then g m) = record { thread = _; stands = refl; after = _; goes = g }
comes_goes (x ∷ ds) {d} (onward g c) (and_then h m) =
    comes_goes ds c (subst (λ o. Makes o (ds ++ d ∷ [])) (goes_one h g refl) m)

-- ---- the deeds of a node in a run of one act more

pub deeds_same : (n : ℕ) (run : List Act) (a : Act) → (a.node ≡ n → ⊥) → deeds_of n (run ++ a ∷ []) ≡ deeds_of n run
deeds_same n run a other =
    deeds_joined n run (a ∷ []) ∙ ap (λ ds. deeds_of n run ++ ds) (deeds_of-other a [] n other) ∙ append-nil (deeds_of n run)

-- a lazy run of one act less
pub lazy_shorter : (program : Program) (nodes : ℕ) (run : List Act) (a : Act) → IsLazyRun program nodes (run ++ a ∷ []) → IsLazyRun program nodes run
lazy_shorter program nodes run a lazy = lazy_front program nodes run (a ∷ []) lazy

pub follows_more : (program : Program) (nodes : ℕ) (run : List Act) (node : ℕ) (deed : Deed) → FollowsText program nodes run → node < nodes
    → Makes (Some (start_of program nodes node)) (deeds_of node run ++ deed ∷ []) → FollowsText program nodes (run ++ act_of node deed ∷ [])
follows_more program nodes run node deed follows lt makes = record {
  in_range = all_in_range nodes (run ++ act_of node deed ∷ []) (λ k n d does. elim (Does-cases does) [
    | inl (within, before) ↦ in_range follows k n d before
    | inr (here, own, is) ↦ subst (λ x. x < nodes) own lt
  ]);
  each = λ n below. elim (cases_eq node n) [
    | inl own ↦
        subst (λ x. Makes (Some (start_of program nodes x)) (deeds_of x (run ++ act_of node deed ∷ []))) own
        (subst (λ ds. Makes (Some (start_of program nodes node)) ds) (sym (deeds_more-own node run deed)) makes)
    | inr other ↦
        subst (λ ds. Makes (Some (start_of program nodes n)) ds) (sym (deeds_same n run (act_of node deed) other)) (follows.each n below)
  ];
}

-- ---- the machine against a run that goes on

pub matches_longer : (run more : List Act) (machine : Plain) → Matches run (length run) machine → Matches (run ++ more) (length run) machine
matches_longer run more machine m = record {
  memory = λ w lt. m.memory w lt ∙ ap (λ acts. value_after_all w acts 0) (sym (take-append-le (length run) run more (omega arith)));
  free = λ l e n h. m.free l e n (Holds-shorter run more (omega arith) h);
  held = λ l p e. let h = m.held l p e in (Holds-longer run more (omega arith) h.0, λ n g. h.1 n (Holds-shorter run more (omega arith) g));
  arrivals = λ n lt. m.arrivals n lt ∙ sym (arrives_before-prefix run more n (length run) (omega arith));
  sizes = m.sizes;
  threads = λ n t e.
      let f = m.threads n t e in
      let arrives = arrives_before-prefix run more n (length run) (omega arith) in
      let departs = departs_before-prefix run more n (length run) (omega arith) in
      record {
        words = f.words;
        locks = f.locks;
        paired = subst (λ a. IsPaired t.arrived a (departs_before (run ++ more) n (length run))) (sym arrives)
            (subst (λ b. IsPaired t.arrived (arrives_before run n (length run)) b) (sym departs) f.paired);
        held = λ l e. Holds-longer run more (omega arith) (f.held l e);
      };
}

-- ---- what a fine thread's deed says

pub read_stays : {t : Thread} {n : Next} {w v : ℕ} {after : Option Thread} → IsFine t n → Goes n (Read w v) after
    → (w < t.setting.words) × ((u : Thread) × (after ≡ Some u) × Stays t u)
read_stays fine (reading {t = f} {v = v}) = (fine.0, (f v, refl, fine.1 v))

pub acquire_below : (t : Thread) {n : Next} {l : ℕ} {after : Option Thread} → IsFine t n → Goes n (Acquire l) after → l < t.setting.locks
acquire_below t fine acquiring = fine.0

pub release_below : (t : Thread) {n : Next} {l : ℕ} {after : Option Thread} → IsFine t n → Goes n (Release l) after → l < t.setting.locks
release_below t fine releasing = fine.0

pub depart_waits : (t : Thread) {n : Next} {after : Option Thread} → IsFine t n → Goes n Depart after → t.arrived ≡ true
depart_waits t fine departing = fine.0

-- a thread that stops neither arrives nor departs, and did not wait
pub stops_then : (t : Thread) {n : Next} {d : Deed} {after : Option Thread} → IsFine t n → Goes n d after → after ≡ None
    → (t.arrived ≡ false) × (is_arrive d ≡ true → ⊥) × (is_depart d ≡ true → ⊥)
stops_then t fine quietly none = cc
stops_then t fine printing none = cc
stops_then t fine reading none = cc
stops_then t fine writing none = cc
stops_then t fine acquiring none = cc
stops_then t fine releasing none = cc
stops_then t fine arriving none = cc
stops_then t fine departing none = cc
stops_then t fine trapping none = (fine, λ e. cc, λ e. cc)
stops_then t fine ending none = (fine, λ e. cc, λ e. cc)

-- a run may go on with a sound deed
pub may_go : (nodes : ℕ) (run : List Act) (node : ℕ) (d : Deed) → ((w v : ℕ) → d ≡ Read w v → ⊥) → SoundAt run nodes (length run) node d
    → MayGoOn nodes run (act_of node d)
may_go nodes run node (Acquire l) no_read sound = record {
  acquires = λ m e other h. let same : l ≡ m = cc in sound other (subst (λ x. Holds run (length run) other x) (sym same) h);
  releases = λ m e. cc;
  departs = λ e. cc;
}
may_go nodes run node (Release l) no_read sound = record {
  acquires = λ m e. cc;
  releases = λ m e. let same : l ≡ m = cc in subst (λ x. Holds run (length run) node x) same sound;
  departs = λ e. cc;
}
may_go nodes run node Depart no_read sound = record { acquires = λ m e. cc; releases = λ m e. cc; departs = λ e. sound }
may_go nodes run node d no_read sound = record { acquires = λ m e. cc; releases = λ m e. cc; departs = λ e. cc }

pub sound_of : (nodes : ℕ) (run : List Act) (node : ℕ) (d : Deed) → ((w v : ℕ) → d ≡ Read w v → ⊥) → MayGoOn nodes run (act_of node d)
    → SoundAt run nodes (length run) node d
sound_of nodes run node (Read w v) no_read may = absurd (no_read w v refl)
sound_of nodes run node (Acquire l) no_read may = may.acquires l refl
sound_of nodes run node (Release l) no_read may = may.releases l refl
sound_of nodes run node Depart no_read may = may.departs refl
sound_of nodes run node d no_read may = tt
