-- Of a run up to its first race, the machine that makes what happens before one of the race's accesses alone comes to where the two meet.
use Rattle.std.proofs.Common.{◌≡◌, ℕ, suc, ◌+◌, ◌-◌, ◌<◌, ◌≤◌, List, [], ◌∷◌, ◌++◌, Bool, true, ◌⊎◌, inl, inr, length, drop, sym, subst, ◌∙◌, ap, refl, arith}
use Rattle.std.specs.Prelude.{Option, Some, is_none, nat_le, slice_index, slice_index_or, option_and_then}
use Rattle.std.proofs.lemmas.Bool.{cases_eq, cases_lt, le-leb}
use Rattle.std.proofs.lemmas.List.{get_or_default, length-drop, map-append}
use Rattle.std.proofs.lemmas.List.Sums.{list_all-from_AllPass}
use Rattle.std.proofs.lemmas.Option.{some_pair_parts}
use Rattle.lrc_program.specs.declared.Program.{Program}
use Rattle.lrc_trace.specs.declared.act.Act.{Act}
use Rattle.lrc_trace.specs.declared.act.Deed.{Deed}
use Rattle.lrc_trace.specs.declared.act.Deed.TheVariants.{Quiet, Print, Read, Write, Acquire, Release, Arrive, Depart, Trap, End}
use Rattle.lrc_trace.specs.Run.{Does, arrives_before, departs_before}
use Rattle.lrc_trace.specs.Order.{Precedes, program, lock, barrier, HappensBefore, base}
use Rattle.lrc_trace.specs.Conflict.{Races}
use Rattle.lrc_trace.specs.Synchronization.{IsWellSynchronized}
use Rattle.lrc_trace.proofs.Positions.{Does-within, Does-node, Does-one_node, Does-one_deed}
use Rattle.lrc_trace.proofs.HappensBefore.{forward, transitive}
use Rattle.lrc_trace.proofs.Intervals.{numbered_arrive}
use Rattle.lrc_trace.proofs.Decided.{HappensBefore-decided}
use Rattle.lrc_exec.specs.Meaning.{Thread, Next, next_of}
use Rattle.lrc_exec.specs.Plain.{Plain, deed_done, thread_in, plain_step, plain_start, plain_from}
use Rattle.lrc_exec.proofs.NextLaws.{IsFine, next_of-fine}
use Rattle.lrc_exec.specs.Follows.{Goes, quietly, printing, reading, writing, acquiring, releasing, arriving, departing, trapping, ending}
use Rattle.lrc_exec.specs.Follows.{Makes, deeds_of, nodes_of_acts, FollowsText}
use Rattle.lrc_consistency_laws.specs.InOrder.{ReadsInOrder}
use Rattle.lrc_consistency_laws.proofs.Ahead.{does_ahead}
use Rattle.lrc_consistency_laws.specs.Matching.{IsPaired, Matches}
use Rattle.lrc_consistency_laws.proofs.Runs.{CanDo, SoundAt, can_do, Makes_first, makes_first, deeds_of-own, Ready, led}
use Rattle.lrc_consistency_laws.proofs.Plainly.{one_more, plain_from-joined}
use Rattle.lrc_consistency_laws.proofs.UpToRace.{in_range}
use Rattle.lrc_orders.specs.Meeting.{access_of, next_access_in, next_access}
use Rattle.lrc_orders.proofs.Effects.{after_of, goes_on}
use Rattle.lrc_orders.proofs.Reducing.{Accessed, IsAccess, by_read, by_write}
use Rattle.lrc_explore_causes.specs.Causes.{IsCause, Keeps, kept, left}
use Rattle.lrc_explore_causes.proofs.Leaving.{Clean, Unwritten, Leaves, skipped, own_clean, kept_too}

-- what happens before a cause is one
pub cause_closed : (run : List Act) (i j x k : ℕ) → Precedes run x k → IsCause run i j k → IsCause run i j x
cause_closed run i j x k step (inl h) = inl (transitive (base step) h)
cause_closed run i j x k step (inr h) = inr (transitive (base step) h)

pub cause_far : {run : List Act} {i j x k : ℕ} → HappensBefore run x k → IsCause run i j k → IsCause run i j x
cause_far g (inl h) = inl (transitive g h)
cause_far g (inr h) = inr (transitive g h)

pub cause_or_not : (run : List Act) (i j k : ℕ) → IsCause run i j k ⊎ (IsCause run i j k → ⊥)
cause_or_not run i j k = elim (HappensBefore-decided run k i) [
  | inl before ↦ inl (inl before)
  | inr apart ↦ elim (HappensBefore-decided run k j) [
    | inl before ↦ inl (inr before)
    | inr not ↦ inr (λ cause. elim cause [
      | inl h ↦ apart h
      | inr h ↦ not h
    ])
  ]
]

module _ (nodes : ℕ) (run : List Act) (ws : IsWellSynchronized nodes run) (i j p : ℕ) (access : Option (ℕ × Bool))
    (first : (x y : ℕ) → Races run x y → j ≤ y) where
  module _ (k node : ℕ) (whole part : Plain) (r : Leaves run (IsCause run i j) (cause_closed run i j) i p access k whole part) (m : Matches run k whole)
      (size : length whole.arrivals ≡ nodes) (before : k < j) (stays : IsCause run i j k) (t : Thread) (at : thread_in whole node ≡ Some t)
      (within : node < nodes) where
    -- all writes of the word that an act reads that stays do
    unwritten : (w v : ℕ) → Does run k node (Read w v) → Unwritten run (IsCause run i j) (cause_closed run i j) k w
    unwritten w v here x n u lt does = elim (cases_eq n node) [
      | inl same ↦ cause_closed run i j x k (program lt (Does-node same does) here) stays
      | inr apart ↦ elim (HappensBefore-decided run x k) [
        | inl ordered ↦ cause_far ordered stays
        | inr unordered ↦
            let late = first x k (record {
              earlier = lt;
              conflict = (n, node, w, record { apart = apart; first = inr (u, does); second = inl (v, here); writes = inl (u, does) });
              unordered = unordered;
            }) in
            absurd (omega arith)
      ]
    ]

    -- what the one machine allows of an act that stays, the other does
    can_too : {n : Next} {d : Deed} {t' : Option Thread} → Goes n d t' → IsFine t n → Does run k node d → CanDo whole node d → CanDo part node d
    can_too quietly f here can = tt
    can_too printing f here can = tt
    can_too (reading {w = w} {v = v}) f here can = can ∙ sym (r.memory w (unwritten w v here))
    can_too writing f here can = tt
    can_too (acquiring {l = l}) f here can =
        ap is_none (r.holders l (record {
          got = λ x n lt does. elim (cause_or_not run i j x) [
            | inl cause ↦ cause
            | inr not ↦ absurd (ws.acquires k node l here n (record {
              since = x;
              earlier = lt;
              acquired = does;
              kept = λ y above below released.
                  not (cause_closed run i j x y (program above does released) (cause_closed run i j y k (lock below released here) stays));
            }))
          ];
          given = λ x n lt does. cause_closed run i j x k (lock lt does here) stays;
        }))
        ∙ can
    can_too releasing f here can = tt
    can_too arriving f here can = tt
    can_too departing f here can =
        list_all-from_AllPass (λ count. nat_le (slice_index part.arrivals node) count) part.arrivals (λ o e lt.
        let long = r.arrivals_long in
        let inside : k ≤ length run = let w = Does-within here in omega arith in
        let (x, earlier, does, is) = numbered_arrive run o k (departs_before run node k) inside (ws.departs k node here o (omega arith)) in
        let there = r.arrived x o earlier does (cause_closed run i j x k (barrier earlier does here is) stays) in
        let paired : IsPaired true (arrives_before run node k) (departs_before run node k) =
        subst (λ b. IsPaired b (arrives_before run node k) (departs_before run node k)) f.0 ((m.threads node t at).paired) in
        let own = r.arrivals node (λ y d lt' does'. cause_closed run i j y k (program lt' does' here) stays) in
        let counted = m.arrivals node (omega arith) in
        let count = get_or_default part.arrivals o e 0 lt in
        le-leb (slice_index part.arrivals node) (slice_index_or part.arrivals o e) (omega arith))
    can_too trapping f here can = tt
    can_too ending f here can = tt

goes_access : {n : Next} {d : Deed} {t : Option Thread} {w : ℕ} {b : Bool} → Goes n d t → IsAccess d w b → access_of n ≡ Some (w, b)
goes_access reading by_read = refl
goes_access writing by_write = refl
goes_access _ other = elim other [ ]

module _ (program_ : Program) (nodes : ℕ) (run : List Act) (follows : FollowsText program_ nodes run) (ws : IsWellSynchronized nodes run)
    (in_order : ReadsInOrder run) (i j : ℕ) (first : (x y : ℕ) → Races run x y → j ≤ y) (p q word : ℕ) (b c : Bool)
    (earlier : i < j) (unordered : HappensBefore run i j → ⊥) (one : Accessed run i p word b) (other : Accessed run j q word c) where
  abbrev pub Stays : ℕ → Type 0
  Stays = IsCause run i j

  abbrev pub Stands : ℕ → Plain → Plain → Type 0
  Stands = Leaves run Stays (cause_closed run i j) i p (Some (word, b))

  sound : (k n : ℕ) (d : Deed) → Does run k n d → SoundAt run nodes k n d
  sound k n Quiet h = tt
  sound k n (Print v) h = tt
  sound k n (Read w v) h = in_order k w v (n, h)
  sound k n (Write w v) h = tt
  sound k n (Acquire l) h = ws.acquires k n l h
  sound k n (Release l) h = ws.releases k n l h
  sound k n Arrive h = tt
  sound k n Depart h = ws.departs k n h
  sound k n (Trap e) h = tt
  sound k n End h = tt

  -- the causes before the race, and the state to which they lead, at which both nodes are about to access the word
  pub record Both : Type 0 where
    pub told : List Act
    pub keeps : Keeps run Stays j told
    pub machine : Plain
    pub led : plain_from (plain_start program_ nodes) (nodes_of_acts told) ≡ Some (told, machine)
    pub first_next : next_access machine p ≡ Some (word, b)
    pub second_next : next_access machine q ≡ Some (word, c)

  -- the thread that makes the next act
  makes_next : (k : ℕ) (whole : Plain) (a : Act) (more : List Act) → Ready run nodes k whole (a ∷ more) → a.node < nodes
      → Makes_first (thread_in whole a.node) a.deed (deeds_of a.node more)
  makes_next k whole a more ready lt = makes_first (subst (λ ds. Makes (thread_in whole a.node) ds) (deeds_of-own a more) (ready.makes a.node lt))

  nothing_left : (k : ℕ) → drop k run ≡ [] → j < length run → k ≤ j → ⊥
  nothing_left k e within le = let short : length run - k ≡ 0 = sym (length-drop k run) ∙ ap length e in omega arith

  onward : {k : ℕ} {told : List Act} → Keeps run Stays (suc k) told → Keeps run Stays (k + 1) told
  onward {k} {told} keeps = let is : suc k ≡ k + 1 = omega arith in subst (λ y. Keeps run Stays y told) is keeps

  -- the first access goes
  first_goes : Stays i → ⊥
  first_goes (inl h) = let lt = forward h in absurd (omega arith)
  first_goes (inr h) = unordered h

  pub come : (ahead : List Act) (k : ℕ) (whole part : Plain) (told : List Act) → Ready run nodes k whole ahead → Stands k whole part
      → Keeps run Stays k told → plain_from (plain_start program_ nodes) (nodes_of_acts told) ≡ Some (told, part) → k ≤ j → Both
  come [] k whole part told ready r keeps made le =
      let within = Does-within other.does in
      absurd (nothing_left k ready.stands within le)
  come (a ∷ more) k whole part told ready r keeps made le =
      let here : Does run k a.node a.deed = does_ahead run k a more ready.stands in
      let node_in = in_range follows k a.node a.deed here in
      let now = makes_next k whole a more ready node_in in
      elim (cases_lt k j) [
        | inr at_end ↦
            let same : k ≡ j = omega arith in
            let here' : Does run j a.node a.deed = subst (λ x. Does run x a.node a.deed) same here in
            let node_is : a.node ≡ q = Does-one_node here' other.does in
            let deed_is : a.deed ≡ other.deed = Does-one_deed here' other.does in
            let clean : Clean run Stays (cause_closed run i j) k a.node =
            λ x d lt does. inr (subst (λ y. HappensBefore run x y) same (base (program lt does here))) in
            let next : next_access part a.node ≡ Some (word, c) =
            ap next_access_in (r.threads a.node clean ∙ now.is)
            ∙ goes_access now.goes (subst (λ d. IsAccess d word c) (sym deed_is) other.is) in
            record {
              told = told;
              keeps = subst (λ y. Keeps run Stays y told) same keeps;
              machine = part;
              led = made;
              first_next = r.waits (omega arith);
              second_next = subst (λ n. next_access part n ≡ Some (word, c)) node_is next;
            }
        | inl lt ↦
            let f = next_of-fine now.thread in
            let can = can_do run nodes k a.node whole now.thread now.is ready.matches ready.size now.goes f (sound k a.node a.deed here) in
            let after : Plain = after_of whole a.node a.deed now.after in
            let steps : plain_step whole a.node ≡ Some (a.deed, after) =
            ap (option_and_then (λ thread. deed_done whole a.node (next_of thread))) now.is ∙ goes_on whole a.node now.goes can in
            let l = led run nodes k whole (a ∷ []) more ready (λ x n d h. in_range follows x n d h) (λ x n d lt' h. sound x n d h) in
            let is : l.final ≡ after =
            (some_pair_parts (a ∷ []) (a ∷ []) l.final after (sym l.is ∙ one_more whole after after a.node a.deed [] [] steps refl)).1 in
            let ready' : Ready run nodes (k + 1) after more = subst (λ x. Ready run nodes (k + 1) x more) is l.ready in
            elim (cause_or_not run i j k) [
              | inr goes ↦
                  come more (k + 1) after part told ready'
                  (skipped run Stays (cause_closed run i j) i p (Some (word, b)) k a.node a.deed here whole part r now.after goes (λ same.
                  let here' : Does run i a.node a.deed = subst (λ x. Does run x a.node a.deed) (sym same) here in
                  let node_is : a.node ≡ p = Does-one_node here' one.does in
                  let deed_is : a.deed ≡ one.deed = Does-one_deed here' one.does in
                  let clean : Clean run Stays (cause_closed run i j) k a.node =
                  λ x d before does. inl (subst (λ y. HappensBefore run x y) (sym same) (base (program before does here))) in
                  let next : next_access part a.node ≡ Some (word, b) =
                  ap next_access_in (r.threads a.node clean ∙ now.is) ∙ goes_access now.goes (subst (λ d. IsAccess d word b) (sym deed_is) one.is) in
                  subst (λ n. next_access part n ≡ Some (word, b)) node_is next)) (onward (left keeps goes)) made (omega arith)
              | inl stays ↦
                  let size : a.node < length whole.arrivals = let s = ready.size in omega arith in
                  let own : Clean run Stays (cause_closed run i j) k a.node =
                  own_clean run Stays (cause_closed run i j) i p (Some (word, b)) k a.node a.deed here whole part r stays in
                  let too = can_too nodes run ws i j p (Some (word, b)) first k a.node whole part r ready.matches ready.size lt stays now.thread now.is node_in
                  now.goes f here can in
                  let after' : Plain = after_of part a.node a.deed now.after in
                  let steps' : plain_step part a.node ≡ Some (a.deed, after') =
                  ap (option_and_then (λ thread. deed_done part a.node (next_of thread))) (r.threads a.node own ∙ now.is) ∙ goes_on part a.node now.goes too in
                  come more (k + 1) after after' (told ++ a ∷ []) ready'
                  (kept_too run Stays (cause_closed run i j) i p (Some (word, b)) k a.node a.deed here whole part r stays now.after ready.matches size
                  (λ later e. first_goes (cause_closed run i j i k (program later (Does-node e one.does) here) stays))
                  (λ same. first_goes (subst Stays (sym same) stays)))
                  (onward (kept keeps here.stands stays))
                  (ap (λ ns. plain_from (plain_start program_ nodes) ns) (map-append (λ (x : Act). x.node) told (a ∷ []))
                  ∙ plain_from-joined (nodes_of_acts told) (a.node ∷ []) (plain_start program_ nodes) part after' told (a ∷ []) made
                  (one_more part after' after' a.node a.deed [] [] steps' refl)) (omega arith)
            ]
      ]
