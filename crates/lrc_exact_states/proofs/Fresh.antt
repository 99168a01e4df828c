-- Words that no node writes are as at the start in every state, and in what is known.
use Rattle.std.proofs.Common.{◌≡◌, ℕ, zero, suc, ◌+◌, ◌<◌, ◌≤◌, ◌&&◌, Bool, true, false, List, length, inl, inr, refl, sym, subst, ap, ◌∙◌, arith}
use Rattle.std.specs.Prelude.{◌==◌, Option, Some, None, if◌then◌else◌, nat_le, slice_get, unwrap_or}
use Rattle.std.proofs.lemmas.Bool.{cases_Bool, cases_lt, cond-true, cond-false, ne_eqb}
use Rattle.std.proofs.lemmas.Option.{same_Some}
use Rattle.lrc_trace.specs.declared.act.Act.{Act}
use Rattle.lrc_trace.specs.declared.act.Deed.{Deed}
use Rattle.lrc_trace.specs.declared.act.Deed.TheVariants.{Quiet, Print, Read, Write, Acquire, Release, Arrive, Depart, Trap, End}
use Rattle.lrc_trace.specs.Run.{departs_before, Does}
use Rattle.lrc_trace.proofs.Intervals.{act_at}
use Rattle.lrc_time.specs.Time.{entry}
use Rattle.lrc_clock.specs.Times.{acts_at, releases_at}
use Rattle.lrc_exact.specs.LocalRule.{LocalRule, KeepsStates, arrived_state, arrives_there, last_state, released_state, state_after, state_before}
use Rattle.lrc_exact.specs.Memory.{Interval, Word}
use Rattle.lrc_exact.specs.Rule.{Knowledge, Shape, State, accessed, acquired, change_of, closed, departed, done_alone, exact_rule, KeepsExact, known_by_all, known_together, open_interval, page_of, with_arrived, with_change, with_changes_of, with_learned, with_news, with_write}
use Rattle.lrc_exact_states.proofs.Stepping.{calm_departed}

-- ---- what holds of the first states, and by each act, holds of all

module _ {S : Type 0} (P : S → Type 0) where
  abbrev pub IfThere : Option S → Type 0
  IfThere None = Unit {0}
  IfThere (Some state) = P state

  all_before : (passes : ℕ → Bool) (states : List S) (j : ℕ) → ((k : ℕ) (state : S) → k < j → slice_get states k ≡ Some state → P state)
      → IfThere (last_state passes states j)
  all_before passes states zero all = tt
  all_before passes states (suc j) all = elim (cases_Bool (passes j)) [
    | inl holds ↦
        subst IfThere (sym (cond-true (passes j) (slice_get states j) (last_state passes states j) holds))
        (go (slice_get states j) refl)
    | inr fails ↦
        subst IfThere (sym (cond-false (passes j) (slice_get states j) (last_state passes states j) fails))
        (all_before passes states j (λ k state lt is. all k state (omega (arith, lt)) is))
  ]
    where
      go : (o : Option S) → slice_get states j ≡ o → IfThere o
      go None e = tt
      go (Some state) e = all j state (omega arith) e

  or_start : (o : Option S) (start : S) → IfThere o → P start → P (unwrap_or o start)
  or_start None start x y = y
  or_start (Some state) start x y = x

  module _ (rule : LocalRule S) (nodes : ℕ) (run : List Act) (states : List S) (keeps : KeepsStates rule nodes run states) (start : (q : ℕ) → P (rule.start q))
      (acquires : (q l : ℕ) (state : S) (released : Option S) → P state → IfThere released → P (rule.acquire q state released))
      (departs : (q : ℕ) (state : S) (arrived : ℕ → Option S) → P state → ((n : ℕ) → IfThere (arrived n)) → P (rule.depart q state arrived))
      (alone : (j q : ℕ) (deed : Deed) (state : S) → Does run j q deed → P state → P (rule.alone q deed state)) where
    module _ (j : ℕ) (before : (i : ℕ) (other : S) → i < j → slice_get states i ≡ Some other → P other) where
      mine : (q : ℕ) → P (state_before rule run states q j)
      mine q = or_start (last_state (acts_at run q) states j) (rule.start q) (all_before (acts_at run q) states j before) (start q)

      state_more : (q : ℕ) (deed : Deed) → Does run j q deed → P (state_after rule run states j q deed)
      state_more q (Acquire l) does =
          acquires q l (state_before rule run states q j) (released_state run states l j) (mine q) (all_before (releases_at run l) states j before)
      state_more q Depart does =
          departs q (state_before rule run states q j) (arrived_state run states (departs_before run q j) j) (mine q)
          (λ n. all_before (arrives_there run (departs_before run q j) n) states j before)
      state_more q Quiet does = alone j q Quiet (state_before rule run states q j) does (mine q)
      state_more q (Print v) does = alone j q (Print v) (state_before rule run states q j) does (mine q)
      state_more q (Read w v) does = alone j q (Read w v) (state_before rule run states q j) does (mine q)
      state_more q (Write w v) does = alone j q (Write w v) (state_before rule run states q j) does (mine q)
      state_more q (Release l) does = alone j q (Release l) (state_before rule run states q j) does (mine q)
      state_more q Arrive does = alone j q Arrive (state_before rule run states q j) does (mine q)
      state_more q (Trap c) does = alone j q (Trap c) (state_before rule run states q j) does (mine q)
      state_more q End does = alone j q End (state_before rule run states q j) does (mine q)

    each_state : (j : ℕ) → j ≤ length run → (k : ℕ) (state : S) → k < j → slice_get states k ≡ Some state → P state
    each_state zero le k state lt is = absurd (omega (arith, lt))
    each_state (suc j) le k state lt is = elim (cases_lt k j) [
      | inl less ↦ each_state j (omega (arith, le)) k state less is
      | inr ge ↦
          let (act, does) = act_at run j (omega (arith, le)) in
          let here : k ≡ j = omega (arith, lt, ge) in
          subst P
          (same_Some (state_after rule run states j act.node act.deed) state
          (sym (keeps.follows j act.node act.deed does) ∙ ap (λ i. slice_get states i) (sym here) ∙ is))
          (state_more j (λ i other less there. each_state j (omega (arith, le)) i other less there) act.node act.deed does)
    ]

    pub last_one : (passes : ℕ → Bool) → IfThere (last_state passes states (length run))
    last_one passes = all_before passes states (length run) (λ k state lt is. each_state (length run) (omega arith) k state lt is)

-- ---- a word as at the start

abbrev pub fresh_word : Word
fresh_word = record { value = 0; mark = None }

abbrev pub IsUnchanged : ℕ → Knowledge → Type 0
IsUnchanged word knows = (q j : ℕ) → (knows.interval q j).changed word ≡ None

pub record IsFresh (word : ℕ) (state : State) : Type 0 where
  pub words : state.words word ≡ fresh_word
  pub before : state.before word ≡ None
  pub unchanged : IsUnchanged word state.knows

module _ (word : ℕ) where
  same_either : (b : Bool) (x y z : Word) → x ≡ z → y ≡ z → (if b then x else y) ≡ z
  same_either true x y z e d = e
  same_either false x y z e d = d

  either_unchanged : (b : Bool) (x y : Interval) → x.changed word ≡ None → y.changed word ≡ None → (if b then x else y).changed word ≡ None
  either_unchanged true x y e d = e
  either_unchanged false x y e d = d

  changes_none : (node : ℕ) (f : ℕ → Interval) (first last : ℕ) (now : Word) → ((j : ℕ) → (f j).changed word ≡ None) → with_changes_of node f word first last now ≡ now
  changes_none node f first zero now none = refl
  changes_none node f first (suc last) now none =
      let earlier = with_changes_of node f word first last now in
      let before = changes_none node f first last now none in
      same_either (nat_le first last) (with_change (record { weight = (f (suc last)).weight; node = node }) ((f (suc last)).changed word) earlier) earlier now
      (ap (λ (o : Option ℕ). with_change (record { weight = (f (suc last)).weight; node = node }) o earlier) (none (suc last)) ∙ before) before

  news_none : (count : ℕ) (had : List ℕ) (news : Knowledge) (now : Word) → IsUnchanged word news → with_news count had news word now ≡ now
  news_none zero had news now none = refl
  news_none (suc q) had news now none =
      changes_none q (news.interval q) (entry had q) (entry news.time q) (with_news q had news word now) (none q) ∙ news_none q had news now none

  together_none : (k m : Knowledge) → IsUnchanged word k → IsUnchanged word m → IsUnchanged word (known_together k m)
  together_none k m one two q j = either_unchanged (nat_le j (entry k.time q)) (k.interval q j) (m.interval q j) (one q j) (two q j)

  learned_fresh : (nodes : ℕ) (news : Knowledge) (state : State) → IsFresh word state → IsUnchanged word news → IsFresh word (with_learned nodes news state)
  learned_fresh nodes news state f none = record {
    words = news_none nodes state.knows.time news (state.words word) none ∙ f.words;
    before = f.before;
    unchanged = together_none state.knows news f.unchanged none;
  }

  closed_fresh : (node : ℕ) (state : State) → IsFresh word state → IsFresh word (closed node state)
  closed_fresh node state f = record {
    words = f.words;
    before = refl;
    unchanged = λ q j.
        either_unchanged (q == node && j == entry state.knows.time node + 1) (open_interval state) (state.knows.interval q j)
        (ap (λ (o : Option ℕ). change_of o (state.words word).value) f.before) (f.unchanged q j);
  }

  acquired_fresh : (nodes node : ℕ) (state : State) (released : Option State) → IsFresh word state → IfThere (IsFresh word) released
      → IsFresh word (acquired nodes node state released)
  acquired_fresh nodes node state None f r = closed_fresh node state f
  acquired_fresh nodes node state (Some released) f r = learned_fresh nodes released.knows (closed node state) (closed_fresh node state f) r.unchanged

  arrived_none : (o : Option State) (knows : Knowledge) → IfThere (IsFresh word) o → IsUnchanged word knows → IsUnchanged word (with_arrived o knows)
  arrived_none None knows f none = none
  arrived_none (Some state) knows f none = together_none knows state.knows none f.unchanged

  all_none : (count width : ℕ) (arrived : ℕ → Option State) → ((n : ℕ) → IfThere (IsFresh word) (arrived n)) → IsUnchanged word (known_by_all count width arrived)
  all_none zero width arrived all = λ q j. refl
  all_none (suc count) width arrived all = arrived_none (arrived count) (known_by_all count width arrived) (all count) (all_none count width arrived all)

  departed_fresh : (shape : Shape) → shape.collect ≡ 0 → (state : State) (arrived : ℕ → Option State) → IsFresh word state
      → ((n : ℕ) → IfThere (IsFresh word) (arrived n)) → IsFresh word (departed shape state arrived)
  departed_fresh shape calm state arrived f all =
      subst (IsFresh word) (sym (calm_departed shape calm state arrived))
      (learned_fresh shape.nodes (known_by_all shape.nodes shape.nodes arrived) state f (all_none shape.nodes shape.nodes arrived all))

  accessed_fresh : (shape : Shape) (page : ℕ) (state : State) → IsFresh word state → IsFresh word (accessed shape page state)
  accessed_fresh shape page state f = record {
    words = same_either (page_of shape word == page) (record (state.words word) { mark = None }) (state.words word) fresh_word
        (ap (λ (x : Word). record x { mark = None }) f.words) f.words;
    before = f.before;
    unchanged = f.unchanged;
  }

  written_fresh : (shape : Shape) (written value : ℕ) (state : State) → (word ≡ written → ⊥) → IsFresh word state → IsFresh word (with_write shape written value state)
  written_fresh shape written value state other f = record {
    words = cond-false (word == written) (record { value = value; mark = None }) (state.words word) (ne_eqb word written other) ∙ f.words;
    before = cond-false (word == written) (Some (unwrap_or (state.before word) (state.words word).value)) (state.before word) (ne_eqb word written other) ∙ f.before;
    unchanged = f.unchanged;
  }

  alone_fresh : (shape : Shape) (node : ℕ) (deed : Deed) (state : State) → ((value : ℕ) → deed ≡ Write word value → ⊥) → IsFresh word state
      → IsFresh word (done_alone shape node deed state)
  alone_fresh shape node (Read w v) state other f = accessed_fresh shape (page_of shape w) state f
  alone_fresh shape node (Write w v) state other f =
      written_fresh shape w v (accessed shape (page_of shape w) state) (λ e. other v (ap (λ x. Write x v) (sym e))) (accessed_fresh shape (page_of shape w) state f)
  alone_fresh shape node (Release l) state other f = closed_fresh node state f
  alone_fresh shape node Arrive state other f = closed_fresh node state f
  alone_fresh shape node (Acquire l) state other f = f
  alone_fresh shape node Depart state other f = f
  alone_fresh shape node Quiet state other f = f
  alone_fresh shape node (Print v) state other f = f
  alone_fresh shape node (Trap c) state other f = f
  alone_fresh shape node End state other f = f

-- where nobody writes the word
module _ (shape : Shape) (calm : shape.collect ≡ 0) (run : List Act) (states : List State) (keeps : KeepsExact shape run states) (word : ℕ)
    (never : (j q value : ℕ) → Does run j q (Write word value) → ⊥) where
  pub fresh_last : (passes : ℕ → Bool) → IfThere (IsFresh word) (last_state passes states (length run))
  fresh_last passes =
      last_one (IsFresh word) (exact_rule shape) shape.nodes run states keeps (λ q. record { words = refl; before = refl; unchanged = λ n j. refl })
      (λ q l state released f r. acquired_fresh word shape.nodes q state released f r) (λ q state arrived f all. departed_fresh word shape calm state arrived f all)
      (λ j q deed state does f. alone_fresh word shape q deed state (λ value e. never j q value (subst (λ d. Does run j q d) e does)) f) passes
