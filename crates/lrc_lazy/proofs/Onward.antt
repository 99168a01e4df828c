-- A lazy run with an act that may come next goes on lazily, with an act of the same kind.
use Rattle.std.proofs.Common.{◌≡◌, ℕ, ◌<◌, List, [], ◌∷◌, ◌++◌, inl, inr, length, map, sym, subst, ◌∙◌, ap}
use Rattle.std.specs.Prelude.{◌==◌, Option, Some, All, slice_index_or, filter}
use Rattle.std.proofs.lemmas.Bool.{cases_eq}
use Rattle.std.proofs.lemmas.List.{map-append}
use Rattle.std.proofs.lemmas.List.Elements.{filter-append}
use Rattle.std.proofs.lemmas.Option.{get_or_from_slice_get}
use Rattle.lrc_program.specs.declared.Program.{Program}
use Rattle.lrc_trace.specs.declared.act.Act.{Act}
use Rattle.lrc_trace.specs.declared.act.Deed.{Deed}
use Rattle.lrc_trace.specs.declared.act.Deed.TheVariants.{Read}
use Rattle.lrc_trace.specs.Run.{Does, act_of}
use Rattle.lrc_trace.specs.Outline.{SameButValues}
use Rattle.lrc_trace.specs.Reading.{WrittenBefore, MayRead}
use Rattle.lrc_trace.specs.Synchronization.{MayGoOn}
use Rattle.lrc_trace.proofs.Positions.{Does-longer, Does-last, Does-cases}
use Rattle.lrc_trace.proofs.Intervals.{act_at}
use Rattle.lrc_trace.proofs.Outlines.{same_order}
use Rattle.lrc_trace.proofs.Prefixes.{IsWellSynchronized-more, ReadsLazily-more}
use Rattle.lrc_exec.specs.Meaning.{Thread, Next}
use Rattle.lrc_exec.specs.Plain.{start_of}
use Rattle.lrc_exec.specs.Follows.{Goes, reading, Makes, nothing_more, and_then, deeds_of, FollowsText}
use Rattle.lrc_consistency_laws.specs.Kinds.{SameKind, same, reads}
use Rattle.lrc_consistency_laws.proofs.Runs.{deeds_of-own, deeds_of-other}
use Rattle.lrc_consistency_laws.proofs.UpToRace.{in_range}
use Rattle.lrc_lazy.specs.Lazy.{IsLazyRun, MayComeNext}
use Rattle.lrc_lazy.proofs.Readings.{some_reading}

-- the deeds of a node in a run of one act more
deeds_more : (n : ℕ) (run : List Act) (a : Act) → deeds_of n (run ++ a ∷ []) ≡ deeds_of n run ++ deeds_of n (a ∷ [])
deeds_more n run a =
    ap (map (λ (x : Act). x.deed)) (filter-append (λ (x : Act). x.node == n) run (a ∷ []))
    ∙ map-append (λ (x : Act). x.deed) (filter (λ (x : Act). x.node == n) run) (filter (λ (x : Act). x.node == n) (a ∷ []))

pub deeds_more-own : (n : ℕ) (run : List Act) (d : Deed) → deeds_of n (run ++ act_of n d ∷ []) ≡ deeds_of n run ++ d ∷ []
deeds_more-own n run d = deeds_more n run (act_of n d) ∙ ap (λ ds. deeds_of n run ++ ds) (deeds_of-own (act_of n d) [])

deeds_more-other : (n : ℕ) (run : List Act) (a : Act) → (a.node ≡ n → ⊥) → deeds_of n (run ++ a ∷ []) ≡ deeds_of n run ++ []
deeds_more-other n run a other = deeds_more n run a ∙ ap (λ ds. deeds_of n run ++ ds) (deeds_of-other a [] n other)

-- a thread that is about to read may get any value
other_read : {n : Next} {after : Option Thread} {w u : ℕ} (v : ℕ) → Goes n (Read w u) after → (later : Option Thread) × Goes n (Read w v) later
other_read v (reading {t = t}) = (Some (t v), reading)

makes_read : {t : Option Thread} (ds : List Deed) (w u v : ℕ) → Makes t (ds ++ Read w u ∷ []) → Makes t (ds ++ Read w v ∷ [])
makes_read [] w u v (and_then g m) = and_then (other_read v g).1 nothing_more
makes_read (d ∷ ds) w u v (and_then g m) = and_then g (makes_read ds w u v m)

-- where each act is of one of the nodes, all are
pub all_in_range : (nodes : ℕ) (run : List Act) → ((k n : ℕ) (d : Deed) → Does run k n d → n < nodes) → All (λ a. a.node < nodes) run
all_in_range nodes run each k d lt =
    let a = act_at run k lt in
    let at : slice_index_or run k d ≡ a.0 = get_or_from_slice_get run k a.0 d a.1.stands in
    subst (λ x. x.node < nodes) (sym at) (each k a.0.node a.0.deed a.1)

-- what may be read is the same in runs with the same writes in the same order
module _ (run other : List Act) (j word : ℕ)
    (to : (i v : ℕ) → WrittenBefore run j word i v → WrittenBefore other j word i v)
    (from : (i v : ℕ) → WrittenBefore other j word i v → WrittenBefore run j word i v)
    (alike : SameButValues other run) where
  same_reading : (value : ℕ) → MayRead run j word value → MayRead other j word value
  same_reading value m = record {
    weak = elim m.weak [ inl zero ↦ inl zero | inr (i, w) ↦ inr (i, to i value w) ];
    strong = λ ordered.
        let latest = m.strong (λ i k u v a b lt. same_order other run alike (ordered i k u v (to i u a) (to k v b) lt)) in
        record {
          none = λ none. latest.none (λ i v w. none i v (to i v w));
          last = λ i v l. latest.last i v (record { written = from i v l.written; last = λ k u w. l.last k u (to k u w) });
        };
  }

module _ (run : List Act) (node w : ℕ) where
  abbrev with_read : ℕ → List Act
  with_read u = run ++ act_of node (Read w u) ∷ []

  same_but_value : (u v : ℕ) → SameButValues (with_read u) (with_read v)
  same_but_value u v = map-append _ run (act_of node (Read w u) ∷ []) ∙ sym (map-append _ run (act_of node (Read w v) ∷ []))

  same_written : (u v word i value : ℕ) → WrittenBefore (with_read u) (length run) word i value → WrittenBefore (with_read v) (length run) word i value
  same_written u v word i value written = record {
    write = elim (Does-cases written.write.1) [
      | inl (lt, does) ↦ (written.write.0, Does-longer (act_of node (Read w v) ∷ []) does)
      | inr (here, own, is) ↦ let never : ⊥ = cc in absurd never
    ];
    before = same_order (with_read u) (with_read v) (same_but_value u v) written.before;
  }

  -- the value that is read, whatever stands there now
  read_value : (u : ℕ) → (v : ℕ) × MayRead (with_read v) (length run) w v
  read_value u =
      let found = some_reading (with_read u) (length run) w in
      let v = found.0 in
      (v, same_reading (with_read u) (with_read v) (length run) w (same_written u v w) (same_written v u w) (same_but_value v u) v found.1)

  module _ (program : Program) (nodes u v : ℕ) (follows : FollowsText program nodes (with_read u)) where
    pub other_follows : FollowsText program nodes (with_read v)
    other_follows = record {
      in_range = all_in_range nodes (with_read v) (λ k n d does. elim (Does-cases does) [
        | inl (lt, before) ↦ in_range follows k n d (Does-longer (act_of node (Read w u) ∷ []) before)
        | inr (here, own, is) ↦ subst (λ x. x < nodes) own
            (in_range follows (length run) node (Read w u) (let last = Does-last run (act_of node (Read w u)) in last))
      ]);
      each = λ n lt. elim (cases_eq node n) [
        | inl own ↦
            subst (λ x. Makes (Some (start_of program nodes x)) (deeds_of x (with_read v))) own
            (subst (λ ds. Makes (Some (start_of program nodes node)) ds) (sym (deeds_more-own node run (Read w v)))
            (makes_read (deeds_of node run) w u v
            (subst (λ ds. Makes (Some (start_of program nodes node)) ds) (deeds_more-own node run (Read w u))
            (follows.each node (subst (λ x. x < nodes) (sym own) lt)))))
        | inr other ↦
            subst (λ ds. Makes (Some (start_of program nodes n)) ds)
            (deeds_more-other n run (act_of node (Read w u)) other ∙ sym (deeds_more-other n run (act_of node (Read w v)) other))
            (follows.each n lt)
      ];
    }

-- a read waits for nothing
pub free_read : (nodes : ℕ) (run : List Act) (node w v : ℕ) → MayGoOn nodes run (act_of node (Read w v))
free_read nodes run node w v = record {
  acquires = λ l is other. let never : ⊥ = cc in absurd never;
  releases = λ l is. let never : ⊥ = cc in absurd never;
  departs = λ is other less. let never : ⊥ = cc in absurd never;
}

-- the run goes on with an act of the same kind
pub record GoesOn (program : Program) (nodes : ℕ) (acts : List Act) (node : ℕ) (deed : Deed) : Type 0 where
  pub other : Deed
  pub kind : SameKind deed other
  pub run : IsLazyRun program nodes (acts ++ act_of node other ∷ [])

pub goes_on : (program : Program) (nodes : ℕ) (acts : List Act) (node : ℕ) (deed : Deed) → IsLazyRun program nodes acts
    → MayComeNext program nodes acts (act_of node deed) → GoesOn program nodes acts node deed
goes_on program nodes acts node (Read w u) run next =
    let (v, may) = read_value acts node w u in
    let act = act_of node (Read w v) in
    record {
      other = Read w v;
      kind = reads;
      run = record {
        follows = other_follows acts node w program nodes u v next.follows;
        synchronized = IsWellSynchronized-more acts act nodes run.synchronized (free_read nodes acts node w v);
        lazily = ReadsLazily-more acts act run.lazily (λ word value is.
            let word_is : w ≡ word = cc in
            let value_is : v ≡ value = cc in
            subst (λ x. MayRead (acts ++ act ∷ []) (length acts) x value) word_is
            (subst (λ x. MayRead (acts ++ act ∷ []) (length acts) w x) value_is may));
      };
    }
goes_on program nodes acts node deed run next = record {
  other = deed;
  kind = same;
  run = record {
    follows = next.follows;
    synchronized = IsWellSynchronized-more acts (act_of node deed) nodes run.synchronized next.may;
    lazily = ReadsLazily-more acts (act_of node deed) run.lazily (λ word value is. let never : ⊥ = cc in absurd never);
  };
}
