-- One act more, of the memory.
use Rattle.std.proofs.Common.{◌≡◌, ◌≢◌, ℕ, ◌+◌, ◌<◌, ◌≤◌, ◌⊎◌, Bool, true, false, List, [], ◌∷◌, ◌++◌, length, set, get_or-set_same, get_or-set_other, inl, inr, refl, sym, subst, ap, ◌∙◌, arith}
use Rattle.std.specs.Prelude.{◌==◌, Some, None, slice_index}
use Rattle.std.proofs.lemmas.Bool.{cases_eq, both_ways, cond-true, cond-false, eq-eqb, ne_eqb}
use Rattle.lrc_trace.specs.declared.act.Act.{Act}
use Rattle.lrc_trace.specs.declared.act.Deed.{Deed}
use Rattle.lrc_trace.specs.declared.act.Deed.TheVariants.{Read, Write, Acquire, Release, Arrive, Depart}
use Rattle.lrc_trace.specs.Run.{is_depart, arrives_before, departs_before}
use Rattle.lrc_trace.specs.Synchronization.{MayGoOn, WaitsAtBarriers}
use Rattle.lrc_trace.proofs.Prefixes.{WaitsAtBarriers-last}
use Rattle.lrc_exact.specs.LocalRule.{state_before, state_after}
use Rattle.lrc_exact.specs.Rule.{Shape, State, exact_rule, KeepsExact, accessed, acquired, closed, departed, page_of, state_at_start, with_write}
use Rattle.lrc_exact.proofs.LocalRules.{keeps-more}
use Rattle.lrc_exact_judge.specs.Current.{AreCurrent, IsMemoryAt, IsMemoryOf}
use Rattle.lrc_exact_judge.specs.Memory.{CountAlike, Having, IsKept, all_of, with_all, with_have, with_release}
use Rattle.lrc_exact_judge.specs.Shape.{shape_of}
use Rattle.lrc_exact_judge.specs.declared.layout.Layout.{Layout}
use Rattle.lrc_exact_judge.specs.declared.memory.Memory.{Memory}
use Rattle.lrc_exact_judge.proofs.Currents.{after-act, after-depart, after-settling, counted, have-now}
use Rattle.lrc_exact_judge.proofs.Kept.{kept-later}

module _ (run : List Act) (act : Act) (old new : Memory) (memory : IsMemoryOf run old) (within : act.node < old.layout.nodes) where
  abbrev pub shape : Shape
  shape = shape_of old.layout

  abbrev pub before : State
  before = state_before (exact_rule shape) run memory.states act.node (length run)

  abbrev pub after : State
  after = state_after (exact_rule shape) run memory.states (length run) act.node act.deed

  pub step-going : is_depart act.deed ≡ false → arrives_before run act.node (length run) ≤ departs_before run act.node (length run)
      → CountAlike old new → (next : Having) → (a l most : ℕ) → a ≤ length run + 1 → l ≤ length run + 1 → most ≤ length run + 1 → IsKept a l most new next
      → next.have act.node ≡ after → ((q : ℕ) → q ≢ act.node → next.have q ≡ memory.having.have q)
      → ((l : ℕ) → act.deed ≡ Release l → next.released l ≡ Some after)
      → ((l : ℕ) → (act.deed ≡ Release l → ⊥) → next.released l ≡ memory.having.released l)
      → ((l : ℕ) → (act.deed ≡ Release l → ⊥) ⊎ (act.deed ≡ Release l))
      → IsMemoryOf (run ++ act ∷ []) new
  step-going going at_work alike next a l most le le' more kept own others releases keeps which = record {
    states = memory.states ++ after ∷ [];
    keeps =
        subst (λ (y : Layout). KeepsExact (shape_of y) (run ++ act ∷ []) (memory.states ++ after ∷ [])) (sym alike.layout)
        (keeps-more (exact_rule shape) old.layout.nodes run memory.states act after memory.keeps within refl);
    having = next;
    kept = subst (λ n. IsKept n n n new next) (sym (counted run act).long) (kept-later kept (length run + 1) (length run + 1) (length run + 1) le le' more);
    departs = λ q lt.
        ap (λ xs. slice_index xs q) alike.departs
        ∙ memory.departs q (subst (λ (y : Layout). q < y.nodes) alike.layout lt)
        ∙ sym ((counted run act).departs_other q (λ e d. both_ways (is_depart act.deed) going d));
    current =
        subst (λ (y : Layout). AreCurrent (shape_of y) (run ++ act ∷ []) (memory.states ++ after ∷ []) new.settled next) (sym alike.layout)
        (subst (λ n. AreCurrent shape (run ++ act ∷ []) (memory.states ++ after ∷ []) n next) (sym alike.settled)
        (after-act shape run memory.states act after old.settled memory.having next memory.keeps.stated (counted run act) within memory.current
        going at_work own others releases keeps which));
  }

-- the lock that a release names
abbrev lock_of : Deed → ℕ
lock_of (Release l) = l
lock_of _ = 0

pub released_lock : {m l : ℕ} → Release m ≡ Release l → m ≡ l
released_lock e = ap lock_of e

abbrev is_releasing : Deed → Bool
is_releasing (Release l) = true
is_releasing _ = false

-- a release of a lock, or not
pub release-or-not : (d : Deed) (l : ℕ) → (d ≡ Release l → ⊥) ⊎ (d ≡ Release l)
release-or-not (Release m) l =
    elim (cases_eq m l) [
      | inl same ↦ inr (ap Release same)
      | inr other ↦ inl (λ e. other (released_lock e))
    ]
release-or-not d l = inl (λ e. both_ways (is_releasing d) refl (ap is_releasing e))

-- ---- each kind of deed

module _ (run : List Act) (act : Act) (old new : Memory) (memory : IsMemoryOf run old) (within : act.node < old.layout.nodes)
    (waits : WaitsAtBarriers (run ++ act ∷ [])) (alike : CountAlike old new) (a l most : ℕ) (le : a ≤ length run + 1) (le' : l ≤ length run + 1)
    (more : most ≤ length run + 1) where
  abbrev mine : State
  mine = memory.having.have act.node

  abbrev there : State
  there = state_before (exact_rule (shape_of old.layout)) run memory.states act.node (length run)

  at-work : is_depart act.deed ≡ false → arrives_before run act.node (length run) ≤ departs_before run act.node (length run)
  at-work going = WaitsAtBarriers-last run act waits going

  mine-is : is_depart act.deed ≡ false → mine ≡ there
  mine-is going = have-now (shape_of old.layout) run memory.states old.settled memory.having act.node memory.current within (at-work going)

  -- a deed that releases no lock
  no-release : (state : State) (d : Deed) → act.deed ≡ d → is_depart d ≡ false → ((m : ℕ) → d ≡ Release m → ⊥)
      → state ≡ state_after (exact_rule (shape_of old.layout)) run memory.states (length run) act.node d
      → IsKept a l most new (with_have memory.having act.node state) → IsMemoryOf (run ++ act ∷ []) new
  no-release state d is going never made kept =
      let goes = ap is_depart is ∙ going in
      step-going run act old new memory within goes (at-work goes) alike (with_have memory.having act.node state) a l most le le' more kept
      (cond-true (act.node == act.node) state mine (eq-eqb act.node act.node refl) ∙ made
      ∙ ap (λ (e : Deed). state_after (exact_rule (shape_of old.layout)) run memory.states (length run) act.node e) (sym is))
      (λ q other. cond-false (q == act.node) state (memory.having.have q) (ne_eqb q act.node other))
      (λ m released. absurd (never m (sym is ∙ released)))
      (λ m not_. refl)
      (λ m. release-or-not act.deed m)

  pub step-read : (word value : ℕ) → act.deed ≡ Read word value
      → IsKept a l most new (with_have memory.having act.node (accessed (shape_of old.layout) (page_of (shape_of old.layout) word) mine))
      → IsMemoryOf (run ++ act ∷ []) new
  step-read word value is kept =
      no-release (accessed (shape_of old.layout) (page_of (shape_of old.layout) word) mine) (Read word value) is refl
      (λ m e. both_ways false refl (ap is_releasing e))
      (ap (accessed (shape_of old.layout) (page_of (shape_of old.layout) word)) (mine-is (ap is_depart is))) kept

  pub step-write : (word value : ℕ) → act.deed ≡ Write word value
      → IsKept a l most new (with_have memory.having act.node
      (with_write (shape_of old.layout) word value (accessed (shape_of old.layout) (page_of (shape_of old.layout) word) mine)))
      → IsMemoryOf (run ++ act ∷ []) new
  step-write word value is kept =
      no-release (with_write (shape_of old.layout) word value (accessed (shape_of old.layout) (page_of (shape_of old.layout) word) mine))
      (Write word value) is refl
      (λ m e. both_ways false refl (ap is_releasing e))
      (ap (λ s. with_write (shape_of old.layout) word value (accessed (shape_of old.layout) (page_of (shape_of old.layout) word) s)) (mine-is (ap is_depart is)))
      kept

  pub step-arrive : act.deed ≡ Arrive → IsKept a l most new (with_have memory.having act.node (closed act.node mine)) → IsMemoryOf (run ++ act ∷ []) new
  step-arrive is kept =
      no-release (closed act.node mine) Arrive is refl (λ m e. both_ways false refl (ap is_releasing e))
      (ap (closed act.node) (mine-is (ap is_depart is))) kept

  pub step-acquire : (lock : ℕ) → act.deed ≡ Acquire lock
      → IsKept a l most new (with_have memory.having act.node (acquired old.layout.nodes act.node mine (memory.having.released lock)))
      → IsMemoryOf (run ++ act ∷ []) new
  step-acquire lock is kept =
      no-release (acquired old.layout.nodes act.node mine (memory.having.released lock)) (Acquire lock) is refl
      (λ m e. both_ways false refl (ap is_releasing e))
      (ap (λ s. acquired old.layout.nodes act.node s (memory.having.released lock)) (mine-is (ap is_depart is))
      ∙ ap (acquired old.layout.nodes act.node there) (memory.current.locks lock)) kept

  pub step-release : (lock : ℕ) → act.deed ≡ Release lock
      → IsKept a l most new (with_release (with_have memory.having act.node (closed act.node mine)) lock (closed act.node mine))
      → IsMemoryOf (run ++ act ∷ []) new
  step-release lock is kept =
      let goes = ap is_depart is in
      let shape = shape_of old.layout in
      let made : closed act.node mine ≡ state_after (exact_rule shape) run memory.states (length run) act.node act.deed =
      ap (closed act.node) (mine-is goes)
      ∙ ap (λ (e : Deed). state_after (exact_rule shape) run memory.states (length run) act.node e) (sym is) in
      step-going run act old new memory within goes (at-work goes) alike
      (with_release (with_have memory.having act.node (closed act.node mine)) lock (closed act.node mine)) a l most le le' more kept
      (cond-true (act.node == act.node) (closed act.node mine) mine (eq-eqb act.node act.node refl) ∙ made)
      (λ q other. cond-false (q == act.node) (closed act.node mine) (memory.having.have q) (ne_eqb q act.node other))
      (λ m released.
      cond-true (m == lock) (Some (closed act.node mine)) (memory.having.released m) (eq-eqb m lock (released_lock (sym released ∙ is)))
      ∙ ap Some made)
      (λ m not_.
      cond-false (m == lock) (Some (closed act.node mine)) (memory.having.released m)
      (ne_eqb m lock (λ e. not_ (is ∙ ap Release (sym e)))))
      (λ m. release-or-not act.deed m)

-- a deed that changes nothing
pub step-still : (run : List Act) (act : Act) (memory : Memory) (old : IsMemoryOf run memory) → act.node < memory.layout.nodes
    → WaitsAtBarriers (run ++ act ∷ []) → is_depart act.deed ≡ false → ((m : ℕ) → act.deed ≡ Release m → ⊥)
    → ((states : List State) → state_before (exact_rule (shape_of memory.layout)) run states act.node (length run)
    ≡ state_after (exact_rule (shape_of memory.layout)) run states (length run) act.node act.deed)
    → IsMemoryOf (run ++ act ∷ []) memory
step-still run act memory old within waits going never still =
    let at_work = WaitsAtBarriers-last run act waits going in
    step-going run act memory memory old within going at_work (record { layout = refl; departs = refl; settled = refl }) old.having
    (length run) (length run) (length run) (omega arith) (omega arith) (omega arith) old.kept
    (have-now (shape_of memory.layout) run old.states memory.settled old.having act.node old.current within at_work ∙ still old.states)
    (λ q other. refl) (λ m is. absurd (never m is)) (λ m not_. refl) (λ m. release-or-not act.deed m)

depart-from : (d : Deed) → is_depart d ≡ true → d ≡ Depart
depart-from Depart e = refl
depart-from d e = absurd (both_ways false refl e)

-- a barrier that some node left already
pub left-already : (run : List Act) (now : ℕ) (memory : Memory) (node place : ℕ) → IsMemoryOf run memory → node < memory.layout.nodes
    → length run ≤ now → place ≡ node → slice_index memory.departs place ≢ memory.settled
    → IsMemoryAt run now memory × (departs_before run node (length run) < memory.settled)
left-already run now memory node place old within le is apart =
    let count = old.departs node within in
    let behind = old.current.behind node within in
    let here = ap (slice_index memory.departs) is in (
      record {
        states = old.states;
        keeps = old.keeps;
        having = old.having;
        kept = kept-later old.kept now now now le le le;
        departs = old.departs;
        current = old.current;
      },
      omega arith,
    )

-- a barrier that is settled
module _ (run : List Act) (act : Act) (now : ℕ) (old mid new : Memory) (memory : IsMemoryOf run old) (within : act.node < old.layout.nodes)
    (at : now ≡ length run + 1) (departs : is_depart act.deed ≡ true) (goes_on : MayGoOn old.layout.nodes run act) (alike : CountAlike old mid)
    (place : ℕ) (is : place ≡ act.node) (first : slice_index old.departs place ≡ old.settled)
    (kept : (a l most : ℕ) (having : Having) → a < now → l ≤ now → IsKept a l most old having
    → IsKept a now most mid (with_all having (λ node have. departed (shape_of old.layout) have (all_of old.layout.nodes having.have)))) where
  abbrev next : Having
  next = with_all memory.having (λ node have. departed (shape_of old.layout) have (all_of old.layout.nodes memory.having.have))

  all_arrived : (node : ℕ) → node < old.layout.nodes → old.settled < arrives_before run node (length run)
  all_arrived node lt =
      let above = goes_on.departs (depart-from act.deed departs) node lt in
      let count = memory.departs act.node within in
      let here = ap (slice_index old.departs) is in
      omega arith

  pub settled-now : new.layout ≡ mid.layout → new.departs ≡ mid.departs → new.settled ≡ mid.settled + 1
      → ((a l most : ℕ) (having : Having) → IsKept a l most mid having → IsKept a l most new having) → IsMemoryAt run now new
  settled-now layout_same departs_same more kept_same =
      let same = alike.settled in
      let layouts : new.layout ≡ old.layout = layout_same ∙ alike.layout in
      let kept' : IsKept (length run) now (length run) mid next =
      kept (length run) (length run) (length run) memory.having (omega arith) (omega arith) memory.kept in
      record {
        states = memory.states;
        keeps = subst (λ (y : Layout). KeepsExact (shape_of y) run memory.states) (sym layouts) memory.keeps;
        having = next;
        kept = kept_same now now now next (kept-later kept' now now now (omega arith) (omega arith) (omega arith));
        departs = λ q lt.
            ap (λ xs. slice_index xs q) (departs_same ∙ alike.departs) ∙ memory.departs q (subst (λ (y : Layout). q < y.nodes) layouts lt);
        current =
            subst (λ (y : Layout). AreCurrent (shape_of y) run memory.states new.settled next) (sym layouts)
            (subst (λ n. AreCurrent (shape_of old.layout) run memory.states n next) (sym (more ∙ ap (λ n. n + 1) same))
            (after-settling (shape_of old.layout) run memory.states old.settled memory.having memory.keeps.in_range all_arrived memory.current));
      }

-- the depart itself
pub step-depart : (run : List Act) (act : Act) (now place : ℕ) (mid : Memory) (departs : List ℕ) (memory : IsMemoryAt run now mid)
    → act.node < mid.layout.nodes → now ≡ length run + 1 → is_depart act.deed ≡ true → place ≡ act.node → mid.layout.nodes ≤ length mid.departs
    → departs_before run act.node (length run) < mid.settled → departs ≡ set mid.departs place (slice_index mid.departs place + 1)
    → (new : Memory) → new.layout ≡ mid.layout → new.settled ≡ mid.settled → new.departs ≡ departs
    → ((a l most : ℕ) (having : Having) → IsKept a l most mid having → IsKept a l most new having) → IsMemoryOf (run ++ act ∷ []) new
step-depart run act now place mid departs memory within at is_ is long lt counts new layout_same settled_same departs_same kept_same = record {
  states = memory.states ++ after_depart ∷ [];
  keeps =
      subst (λ (y : Layout). KeepsExact (shape_of y) (run ++ act ∷ []) (memory.states ++ after_depart ∷ [])) (sym layout_same)
      (keeps-more (exact_rule (shape_of mid.layout)) mid.layout.nodes run memory.states act after_depart memory.keeps within refl);
  having = memory.having;
  kept = kept_same (length (run ++ act ∷ [])) (length (run ++ act ∷ [])) (length (run ++ act ∷ [])) memory.having
      (subst (λ n. IsKept n n n mid memory.having) (at ∙ sym (counted run act).long) memory.kept);
  departs = λ q q_in.
      let q_lt : q < mid.layout.nodes = subst (λ (y : Layout). q < y.nodes) layout_same q_in in
      ap (λ xs. slice_index xs q) (departs_same ∙ counts)
      ∙ elim (cases_eq q place) [
        | inl same ↦
            ap (slice_index (set mid.departs place (slice_index mid.departs place + 1))) same
            ∙ get_or-set_same mid.departs place (slice_index mid.departs place + 1) 0 (omega arith)
            ∙ ap (λ n. n + 1) (ap (slice_index mid.departs) is ∙ memory.departs act.node within)
            ∙ sym (ap (λ n. departs_before (run ++ act ∷ []) n (length (run ++ act ∷ []))) (same ∙ is) ∙ (counted run act).departs_own is_)
        | inr other ↦
            get_or-set_other mid.departs place q (slice_index mid.departs place + 1) 0 other
            ∙ memory.departs q q_lt
            ∙ sym ((counted run act).departs_other q (λ e d. other (e ∙ sym is)))
      ];
  current =
      subst (λ (y : Layout). AreCurrent (shape_of y) (run ++ act ∷ []) (memory.states ++ after_depart ∷ []) new.settled memory.having) (sym layout_same)
      (subst (λ n. AreCurrent (shape_of mid.layout) (run ++ act ∷ []) (memory.states ++ after_depart ∷ []) n memory.having) (sym settled_same)
      (after-depart (shape_of mid.layout) run memory.states act after_depart mid.settled memory.having memory.having memory.keeps.stated (counted run act)
      within memory.current is_ lt made (λ m e. both_ways (is_depart act.deed) (ap is_depart e) is_)));
}
  where
    after_depart : State
    after_depart = state_after (exact_rule (shape_of mid.layout)) run memory.states (length run) act.node act.deed

    made : after_depart ≡ memory.having.have act.node
    made =
        ap (λ (d : Deed). state_after (exact_rule (shape_of mid.layout)) run memory.states (length run) act.node d) (depart-from act.deed is_)
        ∙ sym (memory.current.ahead act.node within lt)

-- ---- the beginning

pub current-none : (shape : Shape) (having : Having) → ((q : ℕ) → having.have q ≡ state_at_start shape.nodes) → ((l : ℕ) → having.released l ≡ None)
    → AreCurrent shape [] [] 0 having
current-none shape having begins never = record {
  behind = λ q lt. omega arith;
  near = λ q lt. omega arith;
  came = λ q lt. omega arith;
  once = λ q lt. omega arith;
  left = λ q lt less. absurd (omega arith);
  here = λ q lt is. begins q;
  ahead = λ q lt less. absurd (omega arith);
  waits = λ q lt less. absurd (omega arith);
  locks = never;
}

-- a deed of any other kind changes nothing
pub step-other : (run : List Act) (act : Act) (memory : Memory) → IsMemoryOf run memory → act.node < memory.layout.nodes
    → WaitsAtBarriers (run ++ act ∷ []) → ((w v : ℕ) → act.deed ≡ Read w v → ⊥) → ((w v : ℕ) → act.deed ≡ Write w v → ⊥)
    → ((m : ℕ) → act.deed ≡ Acquire m → ⊥) → ((m : ℕ) → act.deed ≡ Release m → ⊥) → (act.deed ≡ Arrive → ⊥) → (act.deed ≡ Depart → ⊥)
    → IsMemoryOf (run ++ act ∷ []) memory
step-other run act memory old within waits no_read no_write no_acquire no_release no_arrive no_depart =
    step-still run act memory old within waits (goes act.deed no_depart) no_release
    (λ states. stays states act.deed no_read no_write no_acquire no_release no_arrive no_depart)
  where
    goes : (d : Deed) → (d ≡ Depart → ⊥) → is_depart d ≡ false
    goes Depart other = absurd (other refl)
    goes d other = refl

    stays : (states : List State) (d : Deed) → ((w v : ℕ) → d ≡ Read w v → ⊥) → ((w v : ℕ) → d ≡ Write w v → ⊥)
        → ((m : ℕ) → d ≡ Acquire m → ⊥) → ((m : ℕ) → d ≡ Release m → ⊥) → (d ≡ Arrive → ⊥) → (d ≡ Depart → ⊥)
        → state_before (exact_rule (shape_of memory.layout)) run states act.node (length run)
        ≡ state_after (exact_rule (shape_of memory.layout)) run states (length run) act.node d
    stays states (Read w v) a b c d e f = absurd (a w v refl)
    stays states (Write w v) a b c d e f = absurd (b w v refl)
    stays states (Acquire m) a b c d e f = absurd (c m refl)
    stays states (Release m) a b c d e f = absurd (d m refl)
    stays states Arrive a b c d e f = absurd (e refl)
    stays states Depart a b c d e f = absurd (f refl)
    stays states d a b c d' e f = refl
