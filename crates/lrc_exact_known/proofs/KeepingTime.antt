-- The states know what the vector times of the run cover.
use Rattle.std.proofs.Common.{◌≡◌, ℕ, zero, suc, ◌+◌, ◌<◌, ◌≤◌, Bool, true, false, List, [], ◌∷◌, length, inl, inr, refl, sym, subst, ap, ◌∙◌}
use Rattle.std.proofs.Common.{arith, length-set}
use Rattle.std.specs.Prelude.{Option, Some, None, slice_get, unwrap_or, if◌then◌else◌}
use Rattle.std.proofs.lemmas.Bool.{cases_Bool, cases_lt, cond-true, cond-false, and_parts, and_from}
use Rattle.std.proofs.lemmas.Option.{same_Some, slice_get_within}
use Rattle.lrc_trace.specs.declared.act.Act.{Act}
use Rattle.lrc_trace.specs.declared.act.Deed.{Deed}
use Rattle.lrc_trace.specs.declared.act.Deed.TheVariants.{Acquire, Release, Arrive, Depart}
use Rattle.lrc_trace.specs.Run.{Does, is_arrive, arrives_before, departs_before}
use Rattle.lrc_trace.proofs.Positions.{Does-node, Does-one_node, Does-within}
use Rattle.lrc_trace.proofs.Intervals.{act_at, count_of-more, count_of-rises}
use Rattle.lrc_time.specs.Time.{zeros, entry, Covers, joined}
use Rattle.lrc_time.proofs.Times.{length-zeros, length-joined_same, covers-zeros, covers-trans, covers-antisym, joined-covers}
use Rattle.lrc_time.proofs.Times.{covers-refl, covers-joined_first, covers-joined_second, covers-joined_least}
use Rattle.lrc_clock.specs.Times.{time_at, raised, last_time, acts_at, releases_at, arrives_at, time_before, stamp_at, arrived_time}
use Rattle.lrc_clock.specs.Keeping.{KeepsTime, leaves_time}
use Rattle.lrc_clock.proofs.Lasting.{join-length, join-covers, join-least}
use Rattle.lrc_clock.proofs.Passing.{acts_at-true, acts_at-act, arrives_at-true, arrives_at-act}
use Rattle.lrc_exact.specs.LocalRule.{last_state, state_before, released_state, arrived_state, arrives_there, state_after}
use Rattle.lrc_exact.specs.Rule.{Shape, Knowledge, State, exact_rule, KeepsExact, closed, with_learned, acquired, with_arrived, known_by_all}
use Rattle.lrc_exact.specs.Rule.{collects, collected, departed}
use Rattle.lrc_exact_known.specs.Known.{times_of}
use Rattle.lrc_exact.proofs.LocalRules.{last-cases}
use Rattle.lrc_exact_known.proofs.States.{AreMadeOf, of_each, of_each_made}

pub time-there : (states : List State) (j : ℕ) (s : State) → slice_get states j ≡ Some s → time_at (times_of states) j ≡ s.knows.time
time-there [] j s e = let within = slice_get_within [] j s e in absurd (omega arith)
time-there (x ∷ states) zero s e = ap (λ (t : State). t.knows.time) (same_Some x s e)
time-there (x ∷ states) (suc j) s e = time-there states j s e

times-length : (states : List State) → length (times_of states) ≡ length states
times-length [] = refl
times-length (s ∷ states) = let rest = times-length states in omega arith

-- the time in a state, or zeros where there is none
abbrev time_in : ℕ → Option State → List ℕ
time_in nodes None = zeros nodes
time_in nodes (Some s) = s.knows.time

-- what one who departs knows: what a collection leaves as it is
departed-time : (shape : Shape) (s : State) (arrived : ℕ → Option State)
    → (departed shape s arrived).knows.time ≡ joined s.knows.time (known_by_all shape.nodes shape.nodes arrived).time
departed-time shape s arrived = go (collects shape arrived)
  where
    go : (b : Bool)
        → (if b
        then collected shape (known_by_all shape.nodes shape.nodes arrived) arrived (with_learned shape.nodes (known_by_all shape.nodes shape.nodes arrived) s)
        else with_learned shape.nodes (known_by_all shape.nodes shape.nodes arrived) s).knows.time
        ≡ joined s.knows.time (known_by_all shape.nodes shape.nodes arrived).time
    go true = refl
    go false = refl

-- every time has an entry for each node
abbrev IsLong : ℕ → State → Type 0
IsLong nodes s = length s.knows.time ≡ nodes

with-long : (o : Option State) (knows : Knowledge) (width : ℕ) → length knows.time ≡ width → ((s : State) → o ≡ Some s → IsLong width s)
    → length (with_arrived o knows).time ≡ width
with-long None knows width rest one = rest
with-long (Some s) knows width rest one = length-joined_same knows.time s.knows.time (rest ∙ sym (one s refl)) ∙ rest

all-long : (n width : ℕ) (arrived : ℕ → Option State) → ((p : ℕ) (s : State) → arrived p ≡ Some s → IsLong width s)
    → length (known_by_all n width arrived).time ≡ width
all-long zero width arrived long = length-zeros width
all-long (suc n) width arrived long = with-long (arrived n) (known_by_all n width arrived) width (all-long n width arrived long) (long n)

-- one more who arrives
with-more : (o : Option State) (knows : Knowledge) → Covers (with_arrived o knows).time knows.time
with-more None knows = covers-refl knows.time
with-more (Some s) knows = covers-joined_first knows.time s.knows.time

with-one : (o : Option State) (knows : Knowledge) (s : State) → o ≡ Some s → Covers (with_arrived o knows).time s.knows.time
with-one None knows s e = let impossible : ⊥ = cc in absurd impossible
with-one (Some t) knows s e =
    subst (λ (x : State). Covers (joined knows.time t.knows.time) x.knows.time) (same_Some t s e) (covers-joined_second knows.time t.knows.time)

with-least : (o : Option State) (knows : Knowledge) (u : List ℕ) → Covers u knows.time → ((s : State) → o ≡ Some s → Covers u s.knows.time)
    → Covers u (with_arrived o knows).time
with-least None knows u rest one = rest
with-least (Some s) knows u rest one = covers-joined_least knows.time s.knows.time u rest (one s refl)

closed-long : (nodes node : ℕ) (s : State) → IsLong nodes s → IsLong nodes (closed node s)
closed-long nodes node s long = length-set s.knows.time node (entry s.knows.time node + 1) ∙ long

joined-long : (nodes : ℕ) (a b : List ℕ) → length a ≡ nodes → length b ≡ nodes → length (joined a b) ≡ nodes
joined-long nodes a b x y = length-joined_same a b (x ∙ sym y) ∙ x

module _ (shape : Shape) (run : List Act) (states : List State) (keeps : KeepsExact shape run states) where
  long-step : (j node : ℕ) (deed : Deed) → Does run j node deed → AreMadeOf (exact_rule shape) (IsLong shape.nodes) run states j node
      → IsLong shape.nodes (state_after (exact_rule shape) run states j node deed)
  long-step j node (Acquire l) does made = go (released_state run states l j) refl
    where
      go : (o : Option State) → released_state run states l j ≡ o
          → IsLong shape.nodes (acquired shape.nodes node (state_before (exact_rule shape) run states node j) o)
      go None e = closed-long shape.nodes node (state_before (exact_rule shape) run states node j) made.before
      go (Some s) e =
          let here = state_before (exact_rule shape) run states node j in
          joined-long shape.nodes (closed node here).knows.time s.knows.time (closed-long shape.nodes node here made.before) (made.released l s e)
  long-step j node (Release l) does made = closed-long shape.nodes node (state_before (exact_rule shape) run states node j) made.before
  long-step j node Arrive does made = closed-long shape.nodes node (state_before (exact_rule shape) run states node j) made.before
  long-step j node Depart does made =
      let here = state_before (exact_rule shape) run states node j in
      let arrived = arrived_state run states (departs_before run node j) j in
      let all = known_by_all shape.nodes shape.nodes arrived in
      ap length (departed-time shape here arrived)
      ∙ joined-long shape.nodes here.knows.time all.time made.before
      (all-long shape.nodes shape.nodes arrived (λ p s e. made.arrived (departs_before run node j) p s e))
  long-step j node deed does made = made.before

  pub made_long : (j node : ℕ) → AreMadeOf (exact_rule shape) (IsLong shape.nodes) run states j node
  made_long j node =
      of_each_made (exact_rule shape) shape.nodes run states keeps (IsLong shape.nodes) (λ p. length-zeros shape.nodes) long-step j node

  pub long : (j : ℕ) (s : State) → slice_get states j ≡ Some s → IsLong shape.nodes s
  long j s e = of_each (exact_rule shape) shape.nodes run states keeps (IsLong shape.nodes) (λ p. length-zeros shape.nodes) long-step j s e

  -- the last of the times is that of the last of the states
  last-times : (passes : ℕ → Bool) (j : ℕ) → j ≤ length run
      → last_time shape.nodes passes (times_of states) j ≡ time_in shape.nodes (last_state passes states j)
  last-times passes zero le = refl
  last-times passes (suc j) le =
      let (act, does) = act_at run j (omega arith) in
      let state = state_after (exact_rule shape) run states j act.node act.deed in
      let is = keeps.follows j act.node act.deed does in
      elim (cases_Bool (passes j)) [
        | inl holds ↦
            cond-true (passes j) (time_at (times_of states) j) (last_time shape.nodes passes (times_of states) j) holds
            ∙ time-there states j state is
            ∙ ap (time_in shape.nodes) (sym is)
            ∙ ap (time_in shape.nodes) (sym (cond-true (passes j) (slice_get states j) (last_state passes states j) holds))
        | inr fails ↦
            cond-false (passes j) (time_at (times_of states) j) (last_time shape.nodes passes (times_of states) j) fails
            ∙ last-times passes j (omega arith)
            ∙ ap (time_in shape.nodes) (sym (cond-false (passes j) (slice_get states j) (last_state passes states j) fails))
      ]

  pub before-time : (node j : ℕ) → j ≤ length run
      → time_before shape.nodes run (times_of states) node j ≡ (state_before (exact_rule shape) run states node j).knows.time
  before-time node j le = last-times (acts_at run node) j le ∙ go (last_state (acts_at run node) states j)
    where
      go : (o : Option State) → time_in shape.nodes o ≡ (unwrap_or o ((exact_rule shape).start node)).knows.time
      go None = refl
      go (Some s) = refl

  -- what is known at all arrives is the join of the times there
  module _ (number j : ℕ) (within : j ≤ length run) where
    abbrev arrived : ℕ → Option State
    arrived = arrived_state run states number j

    abbrev all : ℕ → Knowledge
    all n = known_by_all n shape.nodes arrived

    abbrev meeting : List ℕ
    meeting = arrived_time shape.nodes run (times_of states) number j

    all-covers : (n p : ℕ) (s : State) → p < n → arrived p ≡ Some s → Covers (all n).time s.knows.time
    all-covers zero p s lt e = absurd (omega arith)
    all-covers (suc n) p s lt e =
        elim (cases_lt p n) [
          | inl less ↦
              covers-trans (all (suc n)).time (all n).time s.knows.time (with-more (arrived n) (all n)) (all-covers n p s less e)
          | inr most ↦
              let same : n ≡ p = omega arith in
              with-one (arrived n) (all n) s (ap arrived same ∙ e)
        ]

    all-least : (n : ℕ) (u : List ℕ) → ((p : ℕ) (s : State) → arrived p ≡ Some s → Covers u s.knows.time) → Covers u (all n).time
    all-least zero u each = covers-zeros u shape.nodes
    all-least (suc n) u each = with-least (arrived n) (all n) u (all-least n u each) (each n)

    -- the state at an arrive with the number
    there : (i p : ℕ) → i < j → Does run i p Arrive → arrives_before run p i ≡ number
        → (s : State) × (arrived p ≡ Some s) × (time_at (times_of states) i ≡ s.knows.time)
    there i p lt does count =
        let passes : arrives_there run number p i ≡ true =
        and_from (arrives_at run number i) (acts_at run p i) (arrives_at-true run i p number does count) (acts_at-true run i p Arrive does) in
        let is = keeps.follows i p Arrive does in
        let state = state_after (exact_rule shape) run states i p Arrive in
        elim (last-cases (arrives_there run number p) states j) [
          | inl (none, never) ↦ absurd (never i lt passes)
          | inr (q, less, holds, last, stands) ↦
              let both = and_parts (arrives_at run number q) (acts_at run p q) holds in
              let (m, does', count') = arrives_at-act run q number both.0 in
              let (d, acts) = acts_at-act run q p both.1 in
              let own : m ≡ p = Does-one_node does' acts in
              let mine : Does run q p Arrive = Does-node own does' in
              let count'' : arrives_before run p q ≡ number = subst (λ n. arrives_before run n q ≡ number) own count' in
              let same : q ≡ i = one_arrive q i p mine does (count'' ∙ sym count) in
              (state, stands ∙ ap (λ k. slice_get states k) same ∙ is, time-there states i state is)
        ]
      where
        one_arrive : (q i p : ℕ) → Does run q p Arrive → Does run i p Arrive → arrives_before run p q ≡ arrives_before run p i → q ≡ i
        one_arrive q i p a b e =
            elim (cases_lt q i) [
              | inl before ↦
                  let more = count_of-more is_arrive run p q Arrive a refl in
                  let rises = count_of-rises is_arrive run p (q + 1) i (omega arith) in
                  absurd (omega arith)
              | inr least ↦
                  elim (cases_lt i q) [
                    | inl before ↦
                        let more = count_of-more is_arrive run p i Arrive b refl in
                        let rises = count_of-rises is_arrive run p (i + 1) q (omega arith) in
                        absurd (omega arith)
                    | inr most ↦ omega arith
                  ]
            ]

    all-covers_meeting : Covers (all shape.nodes).time meeting
    all-covers_meeting = join-least shape.nodes (arrives_at run number) (times_of states) (all shape.nodes).time j covers
      where
        covers : (i : ℕ) → i < j → arrives_at run number i ≡ true → Covers (all shape.nodes).time (time_at (times_of states) i)
        covers i lt holds =
            let (p, does, count) = arrives_at-act run i number holds in
            let (s, stands, time) = there i p lt does count in
            subst (λ t. Covers (all shape.nodes).time t) (sym time) (all-covers shape.nodes p s (keeps.in_range i p Arrive does) stands)

    meeting-covers_all : Covers meeting (all shape.nodes).time
    meeting-covers_all = all-least shape.nodes meeting covers
      where
        covers : (p : ℕ) (s : State) → arrived p ≡ Some s → Covers meeting s.knows.time
        covers p s e =
            elim (last-cases (arrives_there run number p) states j) [
              | inl (none, never) ↦ let impossible : ⊥ = cc in absurd impossible
              | inr (q, less, holds, last, stands) ↦
                  let both = and_parts (arrives_at run number q) (acts_at run p q) holds in
                  let time = time-there states q s (sym stands ∙ e) in
                  subst (λ t. Covers meeting t) time (join-covers shape.nodes (arrives_at run number) (times_of states) q j less both.0)
            ]

    meeting-long : length meeting ≡ shape.nodes
    meeting-long = join-length shape.nodes (arrives_at run number) (times_of states) j lengths
      where
        lengths : (i : ℕ) → i < j → arrives_at run number i ≡ true → length (time_at (times_of states) i) ≡ shape.nodes
        lengths i lt holds =
            let (p, does, count) = arrives_at-act run i number holds in
            let is = keeps.follows i p Arrive does in
            let state = state_after (exact_rule shape) run states i p Arrive in
            ap length (time-there states i state is) ∙ long i state is

    pub meeting-is : meeting ≡ (all shape.nodes).time
    meeting-is =
        let mine = all-long shape.nodes shape.nodes arrived (λ p s e. (made_long j 0).arrived number p s e) in
        covers-antisym meeting (all shape.nodes).time (meeting-long ∙ sym mine) meeting-covers_all all-covers_meeting

  -- the rule of the times
  others-time : (j node : ℕ) (d : Deed) → leaves_time d ≡ true
      → (state_after (exact_rule shape) run states j node d).knows.time ≡ (state_before (exact_rule shape) run states node j).knows.time
  others-time j node (Acquire l) h = let impossible : ⊥ = cc in absurd impossible
  others-time j node (Release l) h = let impossible : ⊥ = cc in absurd impossible
  others-time j node Arrive h = let impossible : ⊥ = cc in absurd impossible
  others-time j node Depart h = let impossible : ⊥ = cc in absurd impossible
  others-time j node d h = refl

  acquired-time : (j node : ℕ) (s : State) (o : Option State) → IsLong shape.nodes s
      → (acquired shape.nodes node s o).knows.time ≡ joined (raised s.knows.time node) (time_in shape.nodes o)
  acquired-time j node s None h =
      let long_here = closed-long shape.nodes node s h in
      sym (joined-covers (raised s.knows.time node) (zeros shape.nodes) (long_here ∙ sym (length-zeros shape.nodes)) (covers-zeros (raised s.knows.time node)
      shape.nodes))
  acquired-time j node s (Some r) h = refl

  pub times-kept : KeepsTime shape.nodes run (times_of states)
  times-kept = record {
    timed = times-length states ∙ keeps.stated;
    in_range = keeps.in_range;
    others = λ j node d h still.
        let within = Does-within h in
        time-there states j (state_after (exact_rule shape) run states j node d) (keeps.follows j node d h) ∙ others-time j node d still
        ∙ sym (before-time node j (omega arith));
    release = λ j node l h.
        let within = Does-within h in
        time-there states j (state_after (exact_rule shape) run states j node (Release l)) (keeps.follows j node (Release l) h)
        ∙ ap (λ t. raised t node) (sym (before-time node j (omega arith)));
    arrive = λ j node h.
        let within = Does-within h in
        time-there states j (state_after (exact_rule shape) run states j node Arrive) (keeps.follows j node Arrive h)
        ∙ ap (λ t. raised t node) (sym (before-time node j (omega arith)));
    acquire = λ j node l h.
        let within = Does-within h in
        time-there states j (state_after (exact_rule shape) run states j node (Acquire l)) (keeps.follows j node (Acquire l) h)
        ∙ acquired-time j node (state_before (exact_rule shape) run states node j) (released_state run states l j) (made_long j node).before
        ∙ ap (λ t. joined (raised t node) (time_in shape.nodes (released_state run states l j))) (sym (before-time node j (omega arith)))
        ∙ ap (λ t. joined (stamp_at shape.nodes run (times_of states) node j) t) (sym (last-times (releases_at run l) j (omega arith)));
    depart = λ j node h.
        let within = Does-within h in
        let number = departs_before run node j in
        time-there states j (state_after (exact_rule shape) run states j node Depart) (keeps.follows j node Depart h)
        ∙ departed-time shape (state_before (exact_rule shape) run states node j) (arrived_state run states number j)
        ∙ ap (λ t. joined t (known_by_all shape.nodes shape.nodes (arrived_state run states number j)).time) (sym (before-time node j (omega arith)))
        ∙ ap (λ t. joined (time_before shape.nodes run (times_of states) node j) t) (sym (meeting-is number j (omega arith)));
  }
