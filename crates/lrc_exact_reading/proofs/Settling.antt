-- What a node has of a word fits the writes that it knows, if what it had of the word fitted those that it knew then, and it has learned since.
use Rattle.std.proofs.Common.{◌≡◌, ℕ, zero, suc, ◌+◌, ◌<◌, ◌≤◌, Bool, true, false, List, length, inl, inr, refl, sym, subst, ap, ◌∙◌, arith}
use Rattle.std.specs.Prelude.{◌==◌, ◌⊎◌, Option, Some, None, slice_get, unwrap_or, if◌then◌else◌}
use Rattle.std.proofs.lemmas.Bool.{cases_Bool, cases_eq, cases_lt, eqb-true, both_ways, false≢true, true≢false}
use Rattle.std.proofs.lemmas.Option.{same_Some}
use Rattle.lrc_trace.specs.declared.act.Act.{Act}
use Rattle.lrc_trace.specs.declared.act.Deed.TheVariants.{Write}
use Rattle.lrc_trace.specs.Run.{Does}
use Rattle.lrc_trace.specs.Order.{HappensBefore}
use Rattle.lrc_trace.specs.Interval.{interval_at}
use Rattle.lrc_trace.specs.Synchronization.{IsWellSynchronized, WaitsAtBarriers}
use Rattle.lrc_trace.proofs.HappensBefore.{forward}
use Rattle.lrc_trace.proofs.Positions.{Does-node, Does-one_node, Does-within}
use Rattle.lrc_trace.proofs.Intervals.{act_at}
use Rattle.lrc_time.specs.Time.{zeros, entry, Covers, weight_of}
use Rattle.lrc_time.proofs.Times.{entry-zeros, covers-trans}
use Rattle.lrc_clock.specs.Times.{time_at, time_before, stamp_at, acts_at}
use Rattle.lrc_clock.specs.Keeping.{KeepsTime}
use Rattle.lrc_clock.specs.Cover.{ClosesAt}
use Rattle.lrc_clock.proofs.Rules.{stamp-covers}
use Rattle.lrc_clock.proofs.Stamps.{cut_before}
use Rattle.lrc_clock.proofs.Ordering.{closed_once}
use Rattle.lrc_exact.specs.LocalRule.{last_state, state_before, state_after}
use Rattle.lrc_exact.specs.Memory.{Rank, Word, is_lower, replaces}
use Rattle.lrc_exact.specs.Rule.{Shape, Knowledge, State, exact_rule, KeepsExact, change_of, open_interval, state_at_start}
use Rattle.lrc_exact.proofs.LocalRules.{last-cases}
use Rattle.lrc_exact_known.specs.Known.{times_of}
use Rattle.lrc_exact_known.specs.Learned.{IsNews, TakesHighest, unchanged, taken}
use Rattle.lrc_exact_known.proofs.KeepingTime.{before-time, times-kept}
use Rattle.lrc_exact_known.proofs.Made.{known_is_made}
use Rattle.lrc_exact_known.proofs.Kept.{kept_is_before}
use Rattle.lrc_exact_reading.specs.Steady.{AreInOneInterval}
use Rattle.lrc_exact_reading.proofs.Pasts.{IsLastInside, FitsPast, IsSilent, AreLearned, taking_fits, keeping_fits}
use Rattle.lrc_exact_reading.proofs.Knowing.{value_at, value_at-is, is_known, known-from, known-to, known-not, known-out, known-rises, known-whole}
use Rattle.lrc_exact_reading.proofs.Knowing.{turned, before_closing, IsDown, rank_of, down, heavier, same_inside, earlier_than, complete_below}

-- the node that acts at a position
abbrev node_of : Option Act → ℕ
node_of (Some act) = act.node
node_of None = 0

-- the rank of the interval that its node is in there
abbrev rank_there : List Act → List (List ℕ) → ℕ → Rank
rank_there run times k = record { weight = weight_of (time_at times k) + 1; node = node_of (slice_get run k) }

rank_there-is : (run : List Act) (times : List (List ℕ)) (k node word v : ℕ) → Does run k node (Write word v)
    → rank_there run times k ≡ rank_of times node k
rank_there-is run times k node word v does = ap (λ o. record { weight = weight_of (time_at times k) + 1; node = node_of o }) does.stands

-- the rank of an interval, by another name of its index
same_rank : (knows : Knowledge) (q index other : ℕ) (rank there : Rank) → rank ≡ record { weight = (knows.interval q index).weight; node = q }
    → index ≡ other → record { weight = (knows.interval q other).weight; node = q } ≡ there → rank ≡ there
same_rank knows q index other rank there is same made = is ∙ ap (λ x. record { weight = (knows.interval q x).weight; node = q }) same ∙ made

-- a value that is changed was written over another
changed_from : (kept : Option ℕ) (now v : ℕ) → change_of kept now ≡ Some v → (b : ℕ) × (kept ≡ Some b) × (now ≡ v)
changed_from None now v e = let impossible : ⊥ = cc in absurd impossible
changed_from (Some b) now v e = go (b == now) e
  where
    go : (t : Bool) → (if t then None else Some now) ≡ Some v → (c : ℕ) × (Some b ≡ Some c) × (now ≡ v)
    go true e' = let impossible : ⊥ = cc in absurd impossible
    go false e' = (b, refl, same_Some now v e')

-- and one that was written over another is changed
changed_or_same : (b now : ℕ) → (b ≡ now) ⊎ (change_of (Some b) now ≡ Some now)
changed_or_same b now = go (b == now) refl
  where
    go : (t : Bool) → (b == now) ≡ t → (b ≡ now) ⊎ ((if t then None else Some now) ≡ Some now)
    go true e = inl (eqb-true b now e)
    go false e = inr refl

module _ (shape : Shape) (run : List Act) (states : List State) (keeps : KeepsExact shape run states) (ws : IsWellSynchronized shape.nodes run)
    (waits : WaitsAtBarriers run) where
  -- the state of a node before a position, and the times of the run
  abbrev state_at : ℕ → ℕ → State
  state_at j node = state_before (exact_rule shape) run states node j

  timed : KeepsTime shape.nodes run (times_of states)
  timed = times-kept shape run states keeps

  -- an interval was closed before j, did what is known of it, and is known with all that its node knew
  pub record IsMadeBefore (j : ℕ) (knows : Knowledge) (q index : ℕ) : Type 0 where
    pub at : ℕ
    pub closing : ClosesAt run q index at
    pub early : at < j
    pub did : knows.interval q index ≡ open_interval (state_at at q)
    pub above : Covers knows.time (time_before shape.nodes run (times_of states) q at)

  abbrev pub AreMadeBefore : ℕ → Knowledge → Type 0
  AreMadeBefore j knows = (q index : ℕ) → 1 ≤ index → index ≤ entry knows.time q → IsMadeBefore j knows q index

  -- the state of a node is that in which it begins, or one that an earlier act made
  pub state_cases : (j node : ℕ) → (state_at j node ≡ state_at_start shape.nodes)
      ⊎ ((i : ℕ) × (s : State) × (i < j) × (slice_get states i ≡ Some s) × (state_at j node ≡ s))
  state_cases j node =
      elim (last-cases (acts_at run node) states j) [
        | inl (none, never) ↦ inl (ap (λ o. unwrap_or o ((exact_rule shape).start node)) none)
        | inr (i, less, holds, last, is) ↦
            elim (stands i) [
              | inl (s, there) ↦ inr (i, s, less, there, ap (λ o. unwrap_or o ((exact_rule shape).start node)) (is ∙ there))
              | inr none ↦ inl (ap (λ o. unwrap_or o ((exact_rule shape).start node)) (is ∙ none))
            ]
      ]
    where
      stands : (i : ℕ) → ((s : State) × (slice_get states i ≡ Some s)) ⊎ (slice_get states i ≡ None)
      stands i = go (slice_get states i) refl
        where
          go : (o : Option State) → slice_get states i ≡ o → ((s : State) × (slice_get states i ≡ Some s)) ⊎ (slice_get states i ≡ None)
          go (Some s) e = inl (s, e)
          go None e = inr e

  -- so what it knows was made
  pub made_before : (j node : ℕ) → j ≤ length run → AreMadeBefore j (state_at j node).knows
  made_before j node within q index some known =
      let time : time_before shape.nodes run (times_of states) node j ≡ (state_at j node).knows.time = before-time shape run states keeps node j within in
      let (c, closing, less, above) = cut_before timed ws j node q index some (subst (λ t. index ≤ entry t q) (sym time) known) in
      record {
        at = c;
        closing = closing;
        early = less;
        did =
            elim (state_cases j node) [
              | inl start ↦
                  let none = entry-zeros shape.nodes q in
                  let nothing : entry (state_at j node).knows.time q ≡ 0 = ap (λ (s : State). entry s.knows.time q) start ∙ none in
                  absurd (omega arith)
              | inr (i, s, earlier, there, is) ↦
                  let made = known_is_made shape run states keeps i s there q index some (subst (λ (x : State). index ≤ entry x.knows.time q) is known) in
                  ap (λ (x : State). x.knows.interval q index) is ∙ made.did
                  ∙ ap (λ k. open_interval (state_at k q)) (closed_once run q index made.at c made.closing closing)
            ];
        above = subst (λ t. Covers t (time_before shape.nodes run (times_of states) q c)) time (
            covers-trans (time_before shape.nodes run (times_of states) node j) (stamp_at shape.nodes run (times_of states) q c)
            (time_before shape.nodes run (times_of states) q c) above (stamp-covers timed q c)
            );
      }

  module _ (word : ℕ) where
    -- a value fits the writes that a time knows
    abbrev pub FitsAt : List ℕ → ℕ → Type 0
    FitsAt time v = FitsPast (HappensBefore run) (AreInOneInterval run) (value_at run) (is_known run word time) v

    -- What a node has of the word has been learned since a time: what it had then fitted what it knew.
    pub record IsClean (knows : Knowledge) (now : Word) : Type 0 where
      pub since : List ℕ
      pub had : ℕ
      pub covered : Covers knows.time since
      pub low : IsDown run (times_of states) since
      pub fits : FitsAt since had
      pub highest : TakesHighest (IsNews shape.nodes since knows word) (record { value = had; mark = None }) now

    -- the node wrote this value to the word, last of those in the interval in which it is at j
    pub record IsLastOwn (j node v : ℕ) : Type 0 where
      pub at : ℕ
      pub earlier : at < j
      pub write : Does run at node (Write word v)
      pub inside : interval_at run node at ≡ interval_at run node j
      pub last : (k u : ℕ) → k < j → Does run k node (Write word u) → interval_at run node k ≡ interval_at run node j → k ≤ at

    -- Its open interval wrote the word: what it had before fitted what it knows.
    pub record IsDirty (j node : ℕ) (s : State) (kept : ℕ) : Type 0 where
      pub fits : FitsAt s.knows.time kept
      pub unmarked : (s.words word).mark ≡ None
      pub own : IsLastOwn j node (s.words word).value

    pub record Holds (j node : ℕ) (s : State) : Type 0 where
      pub clean : s.before word ≡ None → IsClean s.knows (s.words word)
      pub dirty : (kept : ℕ) → s.before word ≡ Some kept → IsDirty j node s kept

    module _ (j : ℕ) (within : j ≤ length run) (holds : (i node : ℕ) → i < j → Holds i node (state_at i node)) (knows : Knowledge)
        (made : AreMadeBefore j knows) where
      -- what is known of a node's interval with a write, and the rank of the interval
      module _ (k q v : ℕ) (does : Does run k q (Write word v)) (known : interval_at run q k ≤ entry knows.time q) where
        there : IsMadeBefore j knows q (interval_at run q k)
        there = made q (interval_at run q k) (omega arith) known

        inside : k < there.at
        inside = before_closing run k q there.at (Write word v) does refl there.closing

        time_there : (state_at there.at q).knows.time ≡ time_at (times_of states) k
        time_there =
            let early = there.early in
            sym (before-time shape run states keeps q there.at (omega arith))
            ∙ same_inside ws waits timed k q there.at (Write word v) does refl inside (sym there.closing.interval)

        rank_made : record { weight = (knows.interval q (interval_at run q k)).weight; node = q } ≡ rank_there run (times_of states) k
        rank_made =
            ap (λ (i : _). record { weight = i.weight; node = q }) there.did
            ∙ ap (λ t. record { weight = weight_of t + 1; node = q }) time_there
            ∙ sym (rank_there-is run (times_of states) k q word v does)

        -- the last own write of the interval
        last_there : (kept : ℕ) → (state_at there.at q).before word ≡ Some kept → IsLastOwn there.at q ((state_at there.at q).words word).value
        last_there kept e = ((holds there.at q there.early).dirty kept e).own

        kept_there : (kept : Option ℕ) → (state_at there.at q).before word ≡ kept → (b : ℕ) × (kept ≡ Some b)
        kept_there (Some b) e = (b, refl)
        kept_there None e =
            let early = there.early in
            let before = kept_is_before shape run states keeps q word there.at (omega arith) in
            absurd (before.none e k v inside does (sym there.closing.interval))

      module _ (since : List ℕ) (had : ℕ) (now : Word) (covered : Covers knows.time since) (low : IsDown run (times_of states) since)
          (fits : FitsAt since had) (highest : TakesHighest (IsNews shape.nodes since knows word) (record { value = had; mark = None }) now) where
        abbrev X : ℕ → Bool
        X = is_known run word since

        abbrev K : ℕ → Bool
        K = is_known run word knows.time

        -- a write is news, and a change says so
        record IsChanged (k : ℕ) : Type 0 where
          node : ℕ
          write : Does run k node (Write word (value_at run k))
          new : entry since node < interval_at run node k
          known : interval_at run node k ≤ entry knows.time node
          changed : (knows.interval node (interval_at run node k)).changed word ≡ Some (value_at run k)

        news_of : (k : ℕ) (c : IsChanged k) → IsNews shape.nodes since knows word (rank_there run (times_of states) k) (value_at run k)
        news_of k c = record {
          node = c.node;
          among = keeps.in_range k c.node (Write word (value_at run k)) c.write;
          change = record {
            index = interval_at run c.node k;
            new = c.new;
            known = c.known;
            ranked = sym (rank_made k c.node (value_at run k) c.write c.known);
            changed = c.changed;
          };
        }

        abbrev IsLower : ℕ → ℕ → Type 0
        IsLower i k = is_lower (rank_there run (times_of states) i) (rank_there run (times_of states) k) ≡ true

        lower : (i k : ℕ) → K i ≡ true → K k ≡ true → HappensBefore run i k → (AreInOneInterval run i k → ⊥) → IsLower i k
        lower i k first second before apart =
            let a = known-from run word knows.time i first in
            let b = known-from run word knows.time k second in
            ap (λ r. is_lower r (rank_there run (times_of states) k)) (rank_there-is run (times_of states) i a.node word a.value a.write)
            ∙ ap (λ r. is_lower (rank_of (times_of states) a.node i) r) (rank_there-is run (times_of states) k b.node word b.value b.write)
            ∙ heavier ws waits timed i k a.node b.node (Write word a.value) (Write word b.value) a.write refl b.write refl before apart

        changed : (y : ℕ) → X y ≡ false → IsLastInside (HappensBefore run) (AreInOneInterval run) (value_at run) K y
            → IsChanged y ⊎ IsSilent (HappensBefore run) (AreInOneInterval run) (value_at run) K y
        changed y new last =
            let known = known-from run word knows.time y last.known in
            let q = known.node in
            let v = known.value in
            let made_there = there y q v known.write known.inside in
            let at = made_there.at in
            let s = state_at at q in
            let less = inside y q v known.write known.inside in
            let (b, kept) = kept_there y q v known.write known.inside (s.before word) refl in
            let dirty = (holds at q made_there.early).dirty b kept in
            let own = dirty.own in
            let index = made_there.closing.interval in
            let first : y ≤ own.at = own.last y v less known.write (sym index) in
            let one : AreInOneInterval run own.at y = record {
              node = q;
              deed = Write word (s.words word).value;
              first = own.write;
              other = Write word v;
              second = known.write;
              same = own.inside ∙ index;
            } in
            let own_index = own.inside in
            let known_inside = known.inside in
            let known_too : K own.at ≡ true = known-to run word knows.time own.at q (s.words word).value own.write (omega arith) in
            let second : own.at ≤ y = last.last own.at known_too one in
            let same : own.at ≡ y = omega arith in
            let value : value_at run y ≡ (s.words word).value =
            ap (value_at run) (sym same) ∙ value_at-is run own.at q word (s.words word).value own.write in
            let write : Does run y q (Write word (value_at run y)) =
            subst (λ x. Does run y q (Write word x)) (sym (value_at-is run y q word v known.write)) known.write in
            elim (changed_or_same b (s.words word).value) [
              | inr change ↦
                  inl record {
                    node = q;
                    write = write;
                    new = known-not run word since y q v known.write new;
                    known = known.inside;
                    changed =
                        ap (λ (i : _). i.changed word) made_there.did ∙ ap (λ o. change_of o (s.words word).value) kept ∙ change ∙ ap (λ x. Some x) (sym value);
                  }
              | inl silent ↦
                  let time : s.knows.time ≡ time_before shape.nodes run (times_of states) q at =
                  let early = made_there.early in sym (before-time shape run states keeps q at (omega arith)) in
                  inr record {
                    below = is_known run word (time_before shape.nodes run (times_of states) q at);
                    fits = subst (λ t. FitsAt t (value_at run y)) time (subst (λ x. FitsAt s.knows.time x) (silent ∙ sym value) dirty.fits);
                    some_of = λ k is. known-rises run word (time_before shape.nodes run (times_of states) q at) knows.time k made_there.above is;
                    earlier = λ k is. earlier_than ws waits timed y q at (Write word v) known.write refl less (sym index) word k is;
                    complete = λ k is before apart.
                        complete_below ws waits timed y q at (Write word v) known.write refl less (sym index) word k knows.time is before apart;
                    whole = λ c k is there_too apart.
                        known-whole run word (time_before shape.nodes run (times_of states) q at) knows.time c k is there_too apart;
                  }
            ]

        learned : AreLearned (HappensBefore run) (AreInOneInterval run) (value_at run) X K IsChanged IsLower
        learned = record {
          bound = j;
          bounded = λ k is.
              let known = known-from run word knows.time k is in
              let less = inside k known.node known.value known.write known.inside in
              let early = (there k known.node known.value known.write known.inside).early in
              omega arith;
          kept = λ k is. known-rises run word since knows.time k covered is;
          down = λ i k is write before. down ws waits timed word since knows.time i k low is write before;
          whole = λ i k is write one. known-whole run word since knows.time i k is write one;
          changed = changed;
          heavier = lower;
        }

        pub settled : FitsAt knows.time now.value
        settled = go highest
          where
            go : TakesHighest (IsNews shape.nodes since knows word) (record { value = had; mark = None }) now → FitsAt knows.time now.value
            go (unchanged is none) =
                subst (λ (w : Word). FitsAt knows.time w.value) (sym is) (
                keeping_fits (HappensBefore run) (AreInOneInterval run) (value_at run) (λ i k h. forward h) (λ i k one. turned run word i k one)
                X K IsChanged IsLower learned had fits (λ k c. true≢false (none (rank_there run (times_of states) k) (value_at run k) (news_of k c)))
                )
            go (taken rank value news above is least) =
                let c = news.change in
                let q = news.node in
                let new = c.new in
                let index_known = c.known in
                let m = made q c.index (omega arith) index_known in
                let s = state_at m.at q in
                let (b, kept, same) = changed_from (s.before word) (s.words word).value value (sym (ap (λ (i : _). i.changed word) m.did) ∙ c.changed) in
                let own = ((holds m.at q m.early).dirty b kept).own in
                let f = own.at in
                let index : interval_at run q f ≡ c.index = own.inside ∙ m.closing.interval in
                let write : Does run f q (Write word value) = subst (λ x. Does run f q (Write word x)) same own.write in
                let known : interval_at run q f ≤ entry knows.time q = omega arith in
                let here : IsLastInside (HappensBefore run) (AreInOneInterval run) (value_at run) K f = record {
                  known = known-to run word knows.time f q value write known;
                  last = λ k is one.
                      let there_too = known-from run word knows.time k is in
                      let own_node : one.node ≡ q = Does-one_node one.second write in
                      let mine : Does run k q (Write word there_too.value) =
                      Does-node (Does-one_node there_too.write one.first ∙ own_node) there_too.write in
                      let inside_too : interval_at run q k ≡ interval_at run q f = subst (λ p. interval_at run p k ≡ interval_at run p f) own_node one.same in
                      let closing : ClosesAt run q (interval_at run q k) m.at =
                      subst (λ x. ClosesAt run q x m.at) (sym (inside_too ∙ index)) m.closing in
                      let less = before_closing run k q m.at (Write word there_too.value) mine refl closing in
                      own.last k there_too.value less mine (inside_too ∙ own.inside);
                } in
                let mine : rank ≡ rank_there run (times_of states) f =
                same_rank knows q c.index (interval_at run q f) rank (rank_there run (times_of states) f) c.ranked (sym index)
                (rank_made f q value write known) in
                let fits_there = taking_fits (HappensBefore run) (AreInOneInterval run) (value_at run) (λ i k h. forward h)
                (λ i k one. turned run word i k one) X K IsChanged IsLower learned f here
                (known-out run word since f q value write (omega arith))
                (λ k change low_rank.
                both_ways (is_lower rank (rank_there run (times_of states) k)) (least (rank_there run (times_of states) k) (value_at run k) (news_of k change))
                (ap (λ r. is_lower r (rank_there run (times_of states) k)) mine ∙ low_rank)) in
                subst (FitsAt knows.time) (value_at-is run f q word value write ∙ ap (λ (w : Word). w.value) (sym is)) fits_there
