-- Of a run up to its first race, the machine that leaves out what the race's first access leads to comes to where the two meet.
use Rattle.std.proofs.Common.{◌≡◌, ℕ, ◌+◌, ◌-◌, ◌<◌, ◌≤◌, List, [], ◌∷◌, ◌++◌, Bool, true, false, ◌⊎◌, inl, inr, length, drop, sym, subst, ◌∙◌, ap, refl, arith}
use Rattle.std.specs.Prelude.{Option, Some, is_none, nat_le, slice_index, slice_index_or, option_and_then}
use Rattle.std.proofs.lemmas.Bool.{cases_eq, cases_lt, le-leb}
use Rattle.std.proofs.lemmas.List.{get_or_default, length-drop, length_push}
use Rattle.std.proofs.lemmas.List.Sums.{list_all-from_AllPass}
use Rattle.std.proofs.lemmas.Option.{some_pair_parts}
use Rattle.lrc_program.specs.declared.Program.{Program}
use Rattle.lrc_trace.specs.declared.act.Act.{Act}
use Rattle.lrc_trace.specs.declared.act.Deed.{Deed}
use Rattle.lrc_trace.specs.declared.act.Deed.TheVariants.{Quiet, Print, Read, Write, Acquire, Release, Arrive, Depart, Trap, End}
use Rattle.lrc_trace.specs.Run.{Does, arrives_before, departs_before}
use Rattle.lrc_trace.specs.Order.{program, lock, barrier, HappensBefore, base, Reaches}
use Rattle.lrc_trace.specs.Conflict.{Races}
use Rattle.lrc_trace.specs.Synchronization.{IsWellSynchronized}
use Rattle.lrc_trace.proofs.Positions.{Does-within, Does-node, Does-one_node, Does-one_deed}
use Rattle.lrc_trace.proofs.HappensBefore.{forward, transitive}
use Rattle.lrc_trace.proofs.Intervals.{numbered_arrive}
use Rattle.lrc_trace.proofs.Decided.{HappensBefore-decided}
use Rattle.lrc_exec.specs.Meaning.{Thread, Next, next_of}
use Rattle.lrc_exec.specs.Plain.{Plain, deed_done, thread_in, plain_step, plain_start}
use Rattle.lrc_exec.proofs.NextLaws.{IsFine, next_of-fine}
use Rattle.lrc_exec.specs.Follows.{Goes, quietly, printing, reading, writing, acquiring, releasing, arriving, departing, trapping, ending}
use Rattle.lrc_exec.specs.Follows.{Makes, deeds_of, FollowsText}
use Rattle.lrc_consistency_laws.specs.InOrder.{ReadsInOrder}
use Rattle.lrc_consistency_laws.proofs.Ahead.{does_ahead}
use Rattle.lrc_consistency_laws.specs.Matching.{IsPaired, Matches}
use Rattle.lrc_consistency_laws.proofs.Runs.{CanDo, SoundAt, can_do, Makes_first, makes_first, deeds_of-own, Ready, led}
use Rattle.lrc_consistency_laws.proofs.Plainly.{one_more, plain_from-joined}
use Rattle.lrc_consistency_laws.proofs.UpToRace.{in_range}
use Rattle.lrc_orders.specs.Meeting.{access_of, next_access_in, next_access, IsReachable}
use Rattle.lrc_orders.proofs.Effects.{after_of, goes_on}
use Rattle.lrc_orders.proofs.Reduced.{reaches_on, Clean, Unwritten, Reduced, skipped, own_clean, kept_too}

reaches_before : {run : List Act} {i x k : ℕ} → Reaches run i x → HappensBefore run x k → HappensBefore run i k
reaches_before {run} {i} {x} {k} (inl e) h = subst (λ y. HappensBefore run y k) (sym e) h
reaches_before (inr g) h = transitive g h

reaches_forward : {run : List Act} {i x : ℕ} → Reaches run i x → i ≤ x
reaches_forward (inl e) = omega arith
reaches_forward (inr h) = let lt = forward h in omega arith

module _ (nodes i p : ℕ) (access : Option (ℕ × Bool)) (run : List Act) (ws : IsWellSynchronized nodes run) (j : ℕ)
    (first : (x y : ℕ) → Races run x y → j ≤ y) where
  module _ (k node : ℕ) (whole part : Plain) (r : Reduced run i p access k whole part) (m : Matches run k whole) (size : length whole.arrivals ≡ nodes)
      (before : k < j) (kept : Reaches run i k → ⊥) (t : Thread) (at : thread_in whole node ≡ Some t) (within : node < nodes) where
    -- the word that a kept act reads is written by no act that is left out
    unwritten : (w v : ℕ) → Does run k node (Read w v) → Unwritten run i k w
    unwritten w v here x n u lt does tainted = elim (cases_eq n node) [
      | inl same ↦ kept (inr (reaches_on tainted (program lt (Does-node same does) here)))
      | inr apart ↦ elim (HappensBefore-decided run x k) [
        | inl ordered ↦ kept (inr (reaches_before tainted ordered))
        | inr unordered ↦
            let late = first x k (record {
              earlier = lt;
              conflict = (n, node, w, record { apart = apart; first = inr (u, does); second = inl (v, here); writes = inl (u, does) });
              unordered = unordered;
            }) in
            absurd (omega arith)
      ]
    ]

    -- what the one machine allows of a kept act, the other does
    can_too : {n : Next} {d : Deed} {t' : Option Thread} → Goes n d t' → IsFine t n → Does run k node d → CanDo whole node d → CanDo part node d
    can_too quietly f here can = tt
    can_too printing f here can = tt
    can_too (reading {w = w} {v = v}) f here can = can ∙ sym (r.memory w (unwritten w v here))
    can_too writing f here can = tt
    can_too (acquiring {l = l}) f here can =
        ap is_none (r.holders l (record {
          got = λ x n lt does tainted. ws.acquires k node l here n (record {
            since = x;
            earlier = lt;
            acquired = does;
            kept = λ y above below released.
                kept (inr (reaches_on (inr (reaches_on tainted (program above does released))) (lock below released here)));
          });
          given = λ x n lt does tainted. kept (inr (reaches_on tainted (lock lt does here)));
        }))
        ∙ can
    can_too releasing f here can = tt
    can_too arriving f here can = tt
    can_too departing f here can =
        list_all-from_AllPass (λ count. nat_le (slice_index part.arrivals node) count) part.arrivals (λ o e lt.
        let long = r.arrivals_long in
        let inside : k ≤ length run = let w = Does-within here in omega arith in
        let (x, earlier, does, is) = numbered_arrive run o k (departs_before run node k) inside (ws.departs k node here o (omega arith)) in
        let there = r.arrived x o earlier does (λ tainted. kept (inr (reaches_on tainted (barrier earlier does here is)))) in
        let paired : IsPaired true (arrives_before run node k) (departs_before run node k) =
        subst (λ b. IsPaired b (arrives_before run node k) (departs_before run node k)) f.0 ((m.threads node t at).paired) in
        let own = r.arrivals node (λ y d lt' does' tainted. kept (inr (reaches_on tainted (program lt' does' here)))) in
        let counted = m.arrivals node (omega arith) in
        let count = get_or_default part.arrivals o e 0 lt in
        le-leb (slice_index part.arrivals node) (slice_index_or part.arrivals o e) (omega arith))
    can_too trapping f here can = tt
    can_too ending f here can = tt

-- the deed accesses the word, by a write or by a read
pub data IsAccess : Deed → ℕ → Bool → Type 0 where
  by_read : {w v : ℕ} → IsAccess (Read w v) w false
  by_write : {w v : ℕ} → IsAccess (Write w v) w true

goes_access : {n : Next} {d : Deed} {t : Option Thread} {w : ℕ} {b : Bool} → Goes n d t → IsAccess d w b → access_of n ≡ Some (w, b)
goes_access reading by_read = refl
goes_access writing by_write = refl
goes_access _ other = elim other [ ]

-- a position of a race, and what stands there
pub record Accessed (run : List Act) (position node word : ℕ) (is_write : Bool) : Type 0 where
  pub deed : Deed
  pub does : Does run position node deed
  pub is : IsAccess deed word is_write

module _ (program_ : Program) (nodes : ℕ) (run : List Act) (follows : FollowsText program_ nodes run) (ws : IsWellSynchronized nodes run)
    (in_order : ReadsInOrder run) (i j : ℕ) (first : (x y : ℕ) → Races run x y → j ≤ y) (p q word : ℕ) (b c : Bool)
    (earlier : i < j) (unordered : HappensBefore run i j → ⊥) (one : Accessed run i p word b) (other : Accessed run j q word c) where
  sound : (k n : ℕ) (d : Deed) → Does run k n d → SoundAt run nodes k n d
  sound k n Quiet h = tt
  sound k n (Print v) h = tt
  sound k n (Read w v) h = in_order k w v (n, h)
  sound k n (Write w v) h = tt
  sound k n (Acquire l) h = ws.acquires k n l h
  sound k n (Release l) h = ws.releases k n l h
  sound k n Arrive h = tt
  sound k n Depart h = ws.departs k n h
  sound k n (Trap e) h = tt
  sound k n End h = tt

  -- a state that is reached, at which both nodes are about to access the word
  pub record Both : Type 0 where
    pub machine : Plain
    pub reached : IsReachable program_ nodes machine
    pub short : length reached.order < j
    pub first_next : next_access machine p ≡ Some (word, b)
    pub second_next : next_access machine q ≡ Some (word, c)

  -- the thread that makes the next act
  makes_next : (k : ℕ) (whole : Plain) (a : Act) (more : List Act) → Ready run nodes k whole (a ∷ more) → a.node < nodes
      → Makes_first (thread_in whole a.node) a.deed (deeds_of a.node more)
  makes_next k whole a more ready lt = makes_first (subst (λ ds. Makes (thread_in whole a.node) ds) (deeds_of-own a more) (ready.makes a.node lt))

  nothing_left : (k : ℕ) → drop k run ≡ [] → j < length run → k ≤ j → ⊥
  nothing_left k e within le = let short : length run - k ≡ 0 = sym (length-drop k run) ∙ ap length e in omega arith

  reached_or_not : (k : ℕ) → Reaches run i k ⊎ (Reaches run i k → ⊥)
  reached_or_not k = elim (cases_eq i k) [
    | inl same ↦ inl (inl same)
    | inr apart ↦ elim (HappensBefore-decided run i k) [
      | inl before ↦ inl (inr before)
      | inr not ↦ inr (λ reaches. elim reaches [
        | inl same ↦ apart same
        | inr before ↦ not before
      ])
    ]
  ]

  -- the order leaves out what the access leads to, the access at least
  pub record IsShort (k many : ℕ) : Type 0 where
    pub up_to : many ≤ k
    pub fewer : i < k → many < k

  short_kept : (k many : ℕ) → (Reaches run i k → ⊥) → IsShort k many → IsShort (k + 1) (many + 1)
  short_kept k many kept s =
      let up_to = s.up_to in
      record {
        up_to = omega (arith, up_to);
        fewer = λ lt. elim (cases_eq i k) [
          | inl same ↦ absurd (kept (inl same))
          | inr other ↦ let fewer = s.fewer (omega (arith, lt, other)) in omega (arith, fewer)
        ];
      }

  short_skipped : (k many : ℕ) → IsShort k many → IsShort (k + 1) many
  short_skipped k many s = let up_to = s.up_to in record { up_to = omega (arith, up_to); fewer = λ lt. omega (arith, up_to) }

  pub reduce : (ahead : List Act) (k : ℕ) (whole part : Plain) → Ready run nodes k whole ahead → Reduced run i p (Some (word, b)) k whole part
      → (reached : IsReachable program_ nodes part) → IsShort k (length reached.order) → k ≤ j → Both
  reduce [] k whole part ready r reached short le =
      let within = Does-within other.does in
      absurd (nothing_left k ready.stands within le)
  reduce (a ∷ more) k whole part ready r reached short le =
      let here : Does run k a.node a.deed = does_ahead run k a more ready.stands in
      let node_in = in_range follows k a.node a.deed here in
      let now = makes_next k whole a more ready node_in in
      elim (cases_lt k j) [
        | inr at_end ↦
            let same : k ≡ j = omega arith in
            let here' : Does run j a.node a.deed = subst (λ x. Does run x a.node a.deed) same here in
            let node_is : a.node ≡ q = Does-one_node here' other.does in
            let deed_is : a.deed ≡ other.deed = Does-one_deed here' other.does in
            let clean : Clean run i k a.node =
            λ x d lt does tainted. unordered (subst (λ y. HappensBefore run i y) same (reaches_on tainted (program lt does here))) in
            let next : next_access part a.node ≡ Some (word, c) =
            ap next_access_in (r.threads a.node clean ∙ now.is)
            ∙ goes_access now.goes (subst (λ d. IsAccess d word c) (sym deed_is) other.is) in
            record {
              machine = part;
              reached = reached;
              short = let fewer = short.fewer (omega (arith, earlier, same)) in omega (arith, fewer, same);
              first_next = r.waits (omega arith);
              second_next = subst (λ n. next_access part n ≡ Some (word, c)) node_is next;
            }
        | inl lt ↦
            let f = next_of-fine now.thread in
            let can = can_do run nodes k a.node whole now.thread now.is ready.matches ready.size now.goes f (sound k a.node a.deed here) in
            let after : Plain = after_of whole a.node a.deed now.after in
            let steps : plain_step whole a.node ≡ Some (a.deed, after) =
            ap (option_and_then (λ thread. deed_done whole a.node (next_of thread))) now.is ∙ goes_on whole a.node now.goes can in
            let l = led run nodes k whole (a ∷ []) more ready (λ x n d h. in_range follows x n d h) (λ x n d lt' h. sound x n d h) in
            let is : l.final ≡ after =
            (some_pair_parts (a ∷ []) (a ∷ []) l.final after (sym l.is ∙ one_more whole after after a.node a.deed [] [] steps refl)).1 in
            let ready' : Ready run nodes (k + 1) after more = subst (λ x. Ready run nodes (k + 1) x more) is l.ready in
            elim (reached_or_not k) [
              | inl tainted ↦
                  reduce more (k + 1) after part ready' (skipped run i p (Some (word, b)) k a.node a.deed here whole part r now.after tainted (λ same.
                  let here' : Does run i a.node a.deed = subst (λ x. Does run x a.node a.deed) (sym same) here in
                  let node_is : a.node ≡ p = Does-one_node here' one.does in
                  let deed_is : a.deed ≡ one.deed = Does-one_deed here' one.does in
                  let clean : Clean run i k a.node = λ x d before does from. let le' = reaches_forward from in absurd (omega arith) in
                  let next : next_access part a.node ≡ Some (word, b) =
                  ap next_access_in (r.threads a.node clean ∙ now.is) ∙ goes_access now.goes (subst (λ d. IsAccess d word b) (sym deed_is) one.is) in
                  subst (λ n. next_access part n ≡ Some (word, b)) node_is next)) reached (short_skipped k (length reached.order) short) (omega arith)
              | inr kept ↦
                  let size : a.node < length whole.arrivals = let s = ready.size in omega arith in
                  let own : Clean run i k a.node = own_clean run i p (Some (word, b)) k a.node a.deed here whole part r kept in
                  let too = can_too nodes i p (Some (word, b)) run ws j first k a.node whole part r ready.matches ready.size lt kept now.thread now.is node_in
                  now.goes f here can in
                  let after' : Plain = after_of part a.node a.deed now.after in
                  let steps' : plain_step part a.node ≡ Some (a.deed, after') =
                  ap (option_and_then (λ thread. deed_done part a.node (next_of thread))) (r.threads a.node own ∙ now.is) ∙ goes_on part a.node now.goes too in
                  reduce more (k + 1) after after' ready'
                  (kept_too run i p (Some (word, b)) k a.node a.deed here whole part r kept now.after ready.matches size
                  (λ later e. kept (inr (base (program later (Does-node e one.does) here))))) (record {
                    order = reached.order ++ a.node ∷ [];
                    acts = reached.acts ++ a ∷ [];
                    led = plain_from-joined reached.order (a.node ∷ []) (plain_start program_ nodes) part after' reached.acts (a ∷ []) reached.led
                        (one_more part after' after' a.node a.deed [] [] steps' refl);
                  })
                  (subst (IsShort (k + 1)) (sym (length_push reached.order a.node)) (short_kept k (length reached.order) kept short)) (omega arith)
            ]
      ]
