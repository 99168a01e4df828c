-- What a read gives that gives what the exact memory has: a value that it may read lazily, and steadily.
use Rattle.std.proofs.Common.{◌≡◌, ℕ, zero, suc, ◌+◌, ◌<◌, ◌≤◌, Bool, true, false, List, length, inl, inr, refl, sym, subst, ap, ◌∙◌, arith, ◌-◌}
use Rattle.std.specs.Prelude.{◌==◌, Option, Some, None, unwrap_or, if◌then◌else◌}
use Rattle.std.proofs.lemmas.Bool.{cases_eq, cases_lt, cond-false, true≢false, eqb-true, eq-eqb, both_ways}
use Rattle.lrc_trace.specs.declared.act.Act.{Act}
use Rattle.lrc_trace.specs.declared.act.Deed.{Deed}
use Rattle.lrc_trace.specs.declared.act.Deed.TheVariants.{Quiet, Print, Read, Write, Acquire, Release, Arrive, Depart, Trap, End}
use Rattle.lrc_trace.specs.Run.{Does}
use Rattle.lrc_trace.specs.Order.{HappensBefore, base, program}
use Rattle.lrc_trace.specs.Interval.{interval_at}
use Rattle.lrc_trace.specs.Reading.{WrittenBefore, MayRead, ReadsLazily}
use Rattle.lrc_trace.specs.Synchronization.{IsWellSynchronized, WaitsAtBarriers}
use Rattle.lrc_trace.proofs.Positions.{Does-node, Does-one_node, Does-one_deed, Does-within}
use Rattle.lrc_trace.proofs.HappensBefore.{forward}
use Rattle.lrc_trace.proofs.Intervals.{act_at, never_fall}
use Rattle.lrc_time.specs.Time.{entry}
use Rattle.lrc_clock.specs.Times.{time_at, time_before}
use Rattle.lrc_clock.specs.Keeping.{KeepsTime}
use Rattle.lrc_clock.proofs.Intervals.{interval_between}
use Rattle.lrc_clock.proofs.Ordering.{order_to_cover, cover_to_order}
use Rattle.lrc_exact.specs.LocalRule.{state_before, state_after}
use Rattle.lrc_exact.specs.Rule.{Shape, State, exact_rule, exact_value, KeepsExact, ReadsExactly, page_of, accessed}
use Rattle.lrc_exact_known.specs.Known.{times_of}
use Rattle.lrc_exact_known.proofs.KeepingTime.{before-time, times-kept}
use Rattle.lrc_exact_known.proofs.Kept.{kept_is_before}
use Rattle.lrc_exact_reading.specs.Steady.{AreInOneInterval, IsLastInInterval, IsSteadyValue, may_change, ReadsSteadily}
use Rattle.lrc_exact_reading.proofs.Pasts.{last_of, FitsPast}
use Rattle.lrc_exact_reading.proofs.Knowing.{value_at, value_at-is, is_known, known-from, known-to, earlier_than}
use Rattle.lrc_exact_reading.proofs.Settling.{made_before, IsLastOwn}
use Rattle.lrc_exact_reading.proofs.Stepping.{Fit, LastOwn, HoldsAt, fits_now}
use Rattle.lrc_exact_reading.proofs.Departing.{next-own, next-other}
use Rattle.lrc_exact_reading.proofs.Always.{always}

-- what may be read, and steadily
pub record IsGiven (run : List Act) (j word v : ℕ) : Type 0 where
  pub may : MayRead run j word v
  pub steady : IsSteadyValue run j word v

module _ (shape : Shape) (run : List Act) (states : List State) (keeps : KeepsExact shape run states) (ws : IsWellSynchronized shape.nodes run)
    (waits : WaitsAtBarriers run) (j node word read : ℕ) (does : Does run j node (Read word read)) where
  abbrev here : State
  here = state_before (exact_rule shape) run states node j

  timed : KeepsTime shape.nodes run (times_of states)
  timed = times-kept shape run states keeps

  within : j < length run
  within = Does-within does

  time_is : time_at (times_of states) j ≡ here.knows.time
  time_is = timed.others j node (Read word read) does refl ∙ before-time shape run states keeps node j (omega (arith, within))

  index : interval_at run node j ≡ entry here.knows.time node + 1
  index = interval_between timed j node (omega (arith, within)) ∙ ap (λ t. entry t node + 1) (before-time shape run states keeps node j (omega (arith, within)))

  -- a known write happens before the read
  sound : (k : ℕ) → is_known run word here.knows.time k ≡ true → WrittenBefore run j word k (value_at run k)
  sound k is =
      let known = known-from run word here.knows.time k is in
      let p = known.node in
      let inside = known.inside in
      let order : HappensBefore run k j = elim (cases_eq p node) [
        | inl own ↦
            let mine : Does run k node (Write word known.value) = Does-node own known.write in
            let inside_own : interval_at run node k ≤ entry here.knows.time node = subst (λ m. interval_at run m k ≤ entry here.knows.time m) own inside in
            elim (cases_lt k j) [
              | inl less ↦ base (program less mine does)
              | inr least ↦ let rise = never_fall run node j k least in absurd (omega (arith, index))
            ]
        | inr other ↦
            cover_to_order timed ws k j p node (Write word known.value) (Read word read) other known.write does
            (subst (λ t. interval_at run p k ≤ entry t p) (sym time_is) inside)
      ] in
      record {
        write = (p, subst (λ x. Does run k p (Write word x)) (sym (value_at-is run k p word known.value known.write)) known.write);
        before = order;
      }

  -- a write of another node that happens before it is known
  other_known : (i p u : ℕ) → (p ≡ node → ⊥) → Does run i p (Write word u) → HappensBefore run i j → is_known run word here.knows.time i ≡ true
  other_known i p u other write order =
      known-to run word here.knows.time i p u write (
      subst (λ t. interval_at run p i ≤ entry t p) time_is (order_to_cover timed ws i j p node (Write word u) (Read word read) other write does order)
      )

  -- ---- where the open interval did not write the word
  module _ (none : here.before word ≡ None) where
    fits : Fit shape run states keeps ws waits word here.knows.time (here.words word).value
    fits =
        fits_now shape run states keeps ws waits word j within (λ i other le. always shape run states keeps ws waits word i other (omega (arith, within)))
        here.knows (here.words word) (made_before shape run states keeps ws waits j node (omega (arith, within)))
        ((always shape run states keeps ws waits word j node (omega (arith, within))).clean none)

    complete : (i u : ℕ) → WrittenBefore run j word i u → is_known run word here.knows.time i ≡ true
    complete i u w =
        let (p, write) = w.write in
        elim (cases_eq p node) [
          | inr other ↦ other_known i p u other write w.before
          | inl own ↦
              let mine : Does run i node (Write word u) = Does-node own write in
              let less = forward w.before in
              let rise = never_fall run node i j (omega arith) in
              let apart = (kept_is_before shape run states keeps node word j (omega (arith, within))).none none i u less mine in
              known-to run word here.knows.time i node u mine (omega (arith, index))
        ]

    clean_given : IsGiven run j word (here.words word).value
    clean_given = record {
      may = record {
        weak =
            elim (last_of (is_known run word here.knows.time) (length run)) [
              | inl nothing ↦
                  inl (fits.none (λ k is. let known = known-from run word here.knows.time k is in nothing k (Does-within known.write) is))
              | inr (i, less, is, last) ↦
                  let (k, inside, same) = fits.some i is in
                  inr (k, subst (WrittenBefore run j word k) (sym same) (sound k inside.known))
            ];
        strong = λ ordered.
            record {
              none = λ nothing. fits.none (λ k is. nothing k (value_at run k) (sound k is));
              last = λ i u w.
                  let (p, write) = w.written.write in
                  fits.strong (λ a b x y lt. ordered a b (value_at run a) (value_at run b) (sound a x) (sound b y) lt) i
                  record { known = complete i u w.written; last = λ k is. w.last k (value_at run k) (sound k is) }
                  ∙ value_at-is run i p word u write;
            };
      };
      steady = record {
        none = λ nothing. fits.none (λ k is. nothing k (value_at run k) (sound k is));
        some = λ i u w.
            let (k, inside, same) = fits.some i (complete i u w) in (
              k,
              record {
                written = subst (WrittenBefore run j word k) (sym same) (sound k inside.known);
                last = λ m x there one. inside.last m (complete m x there) one;
              },
            );
      };
    }

  -- ---- where it did
  module _ (v : ℕ) (own : LastOwn shape run states keeps ws waits word j node v) where
    written_own : WrittenBefore run j word own.at v
    written_own = record { write = (node, own.write); before = base (program own.earlier own.write does) }

    -- its write is the last
    last_own : (i u : ℕ) → WrittenBefore run j word i u → i ≤ own.at
    last_own i u w =
        let (p, write) = w.write in
        let less = forward w.before in
        elim (cases_eq p node) [
          | inr other ↦
              let known : is_known run word (time_before shape.nodes run (times_of states) node j) i ≡ true =
              subst (λ t. is_known run word t i ≡ true) (sym (before-time shape run states keeps node j (omega (arith, within))))
              (other_known i p u other write w.before) in
              let before = earlier_than ws waits timed own.at node j (Write word v) own.write refl own.earlier own.inside word i known in
              omega arith
          | inl mine ↦
              let there : Does run i node (Write word u) = Does-node mine write in
              elim (cases_lt own.at i) [
                | inr le ↦ le
                | inl later ↦
                    let rise = never_fall run node own.at i (omega arith) in
                    let rise' = never_fall run node i j (omega arith) in
                    let inside = own.inside in
                    own.last i u less there (omega arith)
              ]
        ]

    dirty_given : IsGiven run j word v
    dirty_given = record {
      may = record {
        weak = inr (own.at, written_own);
        strong = λ ordered.
            record {
              none = λ nothing. absurd (nothing own.at v written_own);
              last = λ i u w.
                  let (p, write) = w.written.write in
                  let a = last_own i u w.written in
                  let b = w.last own.at v written_own in
                  let same : own.at ≡ i = omega arith in
                  sym (value_at-is run own.at node word v own.write) ∙ ap (value_at run) same ∙ value_at-is run i p word u write;
            };
      };
      steady = record {
        none = λ nothing. absurd (nothing own.at v written_own);
        some = λ i u w. (own.at, record { written = written_own; last = λ m x there one. last_own m x there });
      };
    }

  pub given : IsGiven run j word (exact_value shape run states node j word)
  given = go (here.before word) refl
    where
      go : (o : Option ℕ) → here.before word ≡ o → IsGiven run j word (here.words word).value
      go None e = clean_given e
      go (Some b) e = dirty_given (here.words word).value ((always shape run states keeps ws waits word j node (omega (arith, within))).dirty b e).own

-- ---- for how long

module _ (shape : Shape) (run : List Act) (states : List State) (keeps : KeepsExact shape run states) (node word : ℕ) where
  abbrev value_before : ℕ → ℕ
  value_before j = exact_value shape run states node j word

  -- a look at a page leaves values
  value_looked : (page : ℕ) (s : State) → ((accessed shape page s).words word).value ≡ (s.words word).value
  value_looked page s = go (page_of shape word == page)
    where
      go : (b : Bool) → (if b then record (s.words word) { mark = None } else s.words word).value ≡ (s.words word).value
      go true = refl
      go false = refl

  own_keeps : (j : ℕ) (d : Deed) → Does run j node d → may_change word d ≡ false
      → ((state_after (exact_rule shape) run states j node d).words word).value ≡ value_before j
  own_keeps j Quiet does not = refl
  own_keeps j (Print x) does not = refl
  own_keeps j (Read w x) does not = value_looked (page_of shape w) (state_before (exact_rule shape) run states node j)
  own_keeps j (Write w v) does not =
      ap (λ (x : _). x.value) (cond-false (word == w) (record { value = v; mark = None }) ((accessed shape (page_of shape w) s).words word) test)
      ∙ value_looked (page_of shape w) s
    where
      s : State
      s = state_before (exact_rule shape) run states node j

      test : (word == w) ≡ false
      test = go (word == w) refl
        where
          go : (b : Bool) → (word == w) ≡ b → b ≡ false
          go true e = absurd (both_ways (w == word) not (eq-eqb w word (sym (eqb-true word w e))))
          go false e = refl
  own_keeps j (Acquire l) does not = absurd (true≢false not)
  own_keeps j (Release l) does not = refl
  own_keeps j Arrive does not = refl
  own_keeps j Depart does not = absurd (true≢false not)
  own_keeps j (Trap x) does not = refl
  own_keeps j End does not = refl

  next_keeps : (j : ℕ) → j < length run → ((d : Deed) → Does run j node d → may_change word d ≡ false) → value_before (j + 1) ≡ value_before j
  next_keeps j within calm =
      let (act, does) = act_at run j within in
      elim (cases_eq act.node node) [
        | inl mine ↦
            let here : Does run j node act.deed = Does-node mine does in
            ap (λ (s : State). (s.words word).value) (next-own shape run states keeps j node act.deed here) ∙ own_keeps j act.deed here (calm act.deed here)
        | inr apart ↦ ap (λ (s : State). (s.words word).value) (next-other shape run states keeps j node act.node act.deed does apart)
      ]

  pub keeps_value : (i n : ℕ) → i + n ≤ length run → ((k : ℕ) (d : Deed) → i ≤ k → k < i + n → Does run k node d → may_change word d ≡ false)
      → value_before (i + n) ≡ value_before i
  keeps_value i zero le calm = ap value_before (let same : i + zero ≡ i = omega arith in same)
  keeps_value i (suc n) le calm =
      ap value_before (let step : i + suc n ≡ i + n + 1 = omega arith in step)
      ∙ next_keeps (i + n) (omega arith) (λ d does. calm (i + n) d (omega arith) (omega arith) does)
      ∙ keeps_value i n (omega arith) (λ k d least most does. calm k d least (omega arith) does)

pub stays_until : (shape : Shape) (run : List Act) (states : List State) (keeps : KeepsExact shape run states) (node word i j : ℕ) → i ≤ j → j ≤ length run
    → ((k : ℕ) (d : Deed) → i ≤ k → k < j → Does run k node d → may_change word d ≡ false)
    → exact_value shape run states node j word ≡ exact_value shape run states node i word
stays_until shape run states keeps node word i j le inside calm =
    let long : i + (j - i) ≡ j = omega arith in
    ap (λ k. exact_value shape run states node k word) (sym long)
    ∙ keeps_value shape run states keeps node word i (j - i) (omega arith) (λ k d least most there. calm k d least (omega arith) there)

-- ---- of a run that reads exactly

pub reads_lazily : (shape : Shape) (run : List Act) → IsWellSynchronized shape.nodes run → WaitsAtBarriers run → ReadsExactly shape run → ReadsLazily run
reads_lazily shape run ws waits exact j word value (node, does) =
    subst (MayRead run j word) (sym (exact.reads j node word value does)) (given shape run exact.states exact.keeps ws waits j node word value does).may

pub reads_steadily : (shape : Shape) (run : List Act) → IsWellSynchronized shape.nodes run → WaitsAtBarriers run → ReadsExactly shape run → ReadsSteadily run
reads_steadily shape run ws waits exact = record {
  gives = λ j word value (node, does).
      subst (IsSteadyValue run j word) (sym (exact.reads j node word value does)) (given shape run exact.states exact.keeps ws waits j node word value does).steady;
  stays = λ i j node word u v less first second calm.
      exact.reads i node word u first
      ∙ sym (stays_until shape run exact.states exact.keeps node word i j (omega arith) (let inside = Does-within second in omega arith) (λ k d least most does.
      elim (cases_eq k i) [
        | inl here ↦ ap (may_change word) (Does-one_deed (subst (λ n. Does run n node d) here does) first)
        | inr apart ↦ calm k d (omega arith) most does
      ]))
      ∙ sym (exact.reads j node word v second);
}
