-- What a node has of a word goes on to fit what it knows: behind accesses, and where it closes an interval or learns.
use Rattle.std.proofs.Common.{◌≡◌, ℕ, zero, suc, ◌+◌, ◌<◌, ◌≤◌, Bool, true, false, List, length, inl, inr, refl, sym, subst, ap, ◌∙◌, arith}
use Rattle.std.specs.Prelude.{◌==◌, Option, Some, None, unwrap_or, if◌then◌else◌}
use Rattle.std.proofs.lemmas.Bool.{cases_eq, cases_lt, eq-eqb, ne_eqb, cond-true, cond-false, both_ways, false≢true}
use Rattle.std.proofs.lemmas.Option.{same_Some}
use Rattle.lrc_trace.specs.declared.act.Act.{Act}
use Rattle.lrc_trace.specs.declared.act.Deed.{Deed}
use Rattle.lrc_trace.specs.declared.act.Deed.TheVariants.{Write}
use Rattle.lrc_trace.specs.Run.{Does}
use Rattle.lrc_trace.specs.Order.{HappensBefore}
use Rattle.lrc_trace.specs.Interval.{closes, interval_at}
use Rattle.lrc_trace.specs.Synchronization.{IsWellSynchronized, WaitsAtBarriers}
use Rattle.lrc_trace.proofs.Positions.{Does-node, Does-deed, Does-one_deed}
use Rattle.lrc_trace.proofs.Intervals.{count_of-same}
use Rattle.lrc_time.specs.Time.{zeros, entry, Covers}
use Rattle.lrc_time.proofs.Times.{entry-zeros, entry-set_same, entry-set_other, covers-refl, covers-trans, covers-raised, covers-joined_first}
use Rattle.lrc_clock.specs.Times.{raised, time_before}
use Rattle.lrc_clock.specs.Keeping.{KeepsTime}
use Rattle.lrc_clock.specs.Cover.{ClosesAt}
use Rattle.lrc_clock.proofs.Intervals.{interval_between}
use Rattle.lrc_exact.specs.LocalRule.{state_before}
use Rattle.lrc_exact.specs.Memory.{Word}
use Rattle.lrc_exact.specs.Rule.{Shape, Knowledge, State, exact_rule, KeepsExact, change_of, open_interval, state_at_start, nothing_known, page_of, accessed}
use Rattle.lrc_exact.specs.Rule.{with_write, closed, with_news, known_together}
use Rattle.lrc_exact_known.specs.Known.{times_of}
use Rattle.lrc_exact_known.proofs.KeepingTime.{before-time, made_long, times-kept}
use Rattle.lrc_exact_known.proofs.Highest.{learned_is_highest}
use Rattle.lrc_exact_reading.specs.Steady.{AreInOneInterval}
use Rattle.lrc_exact_reading.proofs.Pasts.{IsLastOfAll, fits_last}
use Rattle.lrc_exact_reading.proofs.Knowing.{value_at, value_at-is, is_known, known-from, known-to, before_closing, IsDown, down-zeros, down-before}
use Rattle.lrc_exact_reading.proofs.Knowing.{down-stamp, earlier_than}
use Rattle.lrc_exact_reading.proofs.News.{learning, closing, no_news}
use Rattle.lrc_exact_reading.proofs.Settling.{AreMadeBefore, made_before, FitsAt, IsClean, IsLastOwn, IsDirty, Holds, settled}

-- a look at a page leaves values
value-accessed : (shape : Shape) (page : ℕ) (s : State) (w : ℕ) → ((accessed shape page s).words w).value ≡ (s.words w).value
value-accessed shape page s w = go (page_of shape w == page)
  where
    go : (b : Bool) → (if b then record (s.words w) { mark = None } else s.words w).value ≡ (s.words w).value
    go true = refl
    go false = refl

module _ (shape : Shape) (run : List Act) (states : List State) (keeps : KeepsExact shape run states) (ws : IsWellSynchronized shape.nodes run)
    (waits : WaitsAtBarriers run) (word : ℕ) where
  abbrev state_at : ℕ → ℕ → State
  state_at j node = state_before (exact_rule shape) run states node j

  timed : KeepsTime shape.nodes run (times_of states)
  timed = times-kept shape run states keeps

  abbrev pub Fit : List ℕ → ℕ → Type 0
  Fit time v = FitsAt shape run states keeps ws waits word time v

  abbrev pub Clean : Knowledge → Word → Type 0
  Clean knows now = IsClean shape run states keeps ws waits word knows now

  abbrev pub LastOwn : ℕ → ℕ → ℕ → Type 0
  LastOwn j node v = IsLastOwn shape run states keeps ws waits word j node v

  abbrev pub HoldsAt : ℕ → ℕ → State → Type 0
  HoldsAt j node s = Holds shape run states keeps ws waits word j node s

  -- an act that does not close the node's interval, nor writes the word for it
  pub moves : (j node : ℕ) (s : State) → interval_at run node (j + 1) ≡ interval_at run node j → ((v : ℕ) → Does run j node (Write word v) → ⊥)
      → HoldsAt j node s → HoldsAt (j + 1) node s
  moves j node s same no_write h = record {
    clean = h.clean;
    dirty = λ kept e.
        let d = h.dirty kept e in
        let own = d.own in
        let earlier = own.earlier in
        record {
          fits = d.fits;
          unmarked = d.unmarked;
          own = record {
            at = own.at;
            earlier = omega arith;
            write = own.write;
            inside = own.inside ∙ sym same;
            last = λ k u lt does inside.
                elim (cases_eq k j) [
                  | inl here ↦ absurd (no_write u (subst (λ n. Does run n node (Write word u)) here does))
                  | inr apart ↦ own.last k u (omega arith) does (inside ∙ same)
                ];
          };
        };
  }

  -- a state with the same of the word
  pub alike : (j node : ℕ) (s s' : State) → s'.before word ≡ s.before word → s'.words word ≡ s.words word → s'.knows ≡ s.knows → HoldsAt j node s
      → HoldsAt j node s'
  alike j node s s' kept now knows h = record {
    clean = λ e. subst (λ k. Clean k (s'.words word)) (sym knows) (subst (λ w. Clean s.knows w) (sym now) (h.clean (sym kept ∙ e)));
    dirty = λ b e.
        let d = h.dirty b (sym kept ∙ e) in
        record {
          fits = subst (λ (k : Knowledge). Fit k.time b) (sym knows) d.fits;
          unmarked = ap (λ (w : Word). w.mark) now ∙ d.unmarked;
          own = subst (λ (w : Word). LastOwn j node w.value) (sym now) d.own;
        };
  }

  -- at first a node knows no write, and has 0
  pub start_holds : (node : ℕ) → HoldsAt 0 node (state_at_start shape.nodes)
  start_holds node = record {
    clean = λ e.
        record {
          since = zeros shape.nodes;
          had = 0;
          covered = covers-refl (zeros shape.nodes);
          low = down-zeros ws waits timed;
          fits = record {
            none = λ none. refl;
            some = λ k is. absurd (nothing k is);
            strong = λ ordered i top. absurd (nothing i top.known);
          };
          highest = no_news shape.nodes (nothing_known shape.nodes) word (record { value = 0; mark = None });
        };
    dirty = λ b e. let impossible : ⊥ = cc in absurd impossible;
  }
    where
      nothing : (k : ℕ) → is_known run word (zeros shape.nodes) k ≡ true → ⊥
      nothing k is =
          let known = known-from run word (zeros shape.nodes) k is in
          let inside = known.inside in
          let none = entry-zeros shape.nodes known.node in
          omega arith

  -- a value that fits all that is known
  pub fresh : (knows : Knowledge) (v : ℕ) → IsDown run (times_of states) knows.time → Fit knows.time v → Clean knows (record { value = v; mark = None })
  fresh knows v low fits = record {
    since = knows.time;
    had = v;
    covered = covers-refl knows.time;
    low = low;
    fits = fits;
    highest = no_news shape.nodes knows word (record { value = v; mark = None });
  }

  -- what is learned
  pub learns : (mine : Knowledge) (now : Word) (news : Knowledge) → Clean mine now
      → Clean (known_together mine news) (with_news shape.nodes mine.time news word now)
  learns mine now news c = record {
    since = c.since;
    had = c.had;
    covered = covers-trans (known_together mine news).time mine.time c.since (covers-joined_first mine.time news.time) c.covered;
    low = c.low;
    fits = c.fits;
    highest =
        learning shape.nodes c.since mine news word c.covered (record { value = c.had; mark = None }) now (with_news shape.nodes mine.time news word now)
        c.highest (learned_is_highest shape.nodes mine.time news word now);
  }

  module _ (j : ℕ) (within : j < length run) (holds : (i node : ℕ) → i ≤ j → HoldsAt i node (state_at i node)) where
    -- what is clean fits now
    pub fits_now : (knows : Knowledge) (now : Word) → AreMadeBefore shape run states keeps ws waits j knows → Clean knows now → Fit knows.time now.value
    fits_now knows now made c =
        settled shape run states keeps ws waits word j (omega arith) (λ i node less. holds i node (omega arith)) knows made c.since c.had now c.covered c.low
        c.fits c.highest

    module _ (node : ℕ) where
      low_here : IsDown run (times_of states) (state_at j node).knows.time
      low_here =
          subst (λ t. IsDown run (times_of states) t) (before-time shape run states keeps node j (omega arith)) (down-before ws waits timed j node)

      fits_here : (state_at j node).before word ≡ None → Fit (state_at j node).knows.time ((state_at j node).words word).value
      fits_here e =
          fits_now (state_at j node).knows ((state_at j node).words word) (made_before shape run states keeps ws waits j node (omega arith))
          ((holds j node (omega arith)).clean e)

      abbrev looked_word : Bool → Word
      looked_word t = if t then record ((state_at j node).words word) { mark = None } else (state_at j node).words word

      -- behind a look at a page
      pub looked : (page : ℕ) → HoldsAt j node (accessed shape page (state_at j node))
      looked page = record {
        clean = λ e. clean_at e (page_of shape word == page);
        dirty = λ b e.
            let d = (holds j node (omega arith)).dirty b e in
            record { fits = d.fits; unmarked = unmarked_at b d (page_of shape word == page); own = own_at b d (page_of shape word == page) };
      }
        where
          clean_at : (state_at j node).before word ≡ None → (t : Bool) → Clean (state_at j node).knows (looked_word t)
          clean_at e true = fresh (state_at j node).knows ((state_at j node).words word).value low_here (fits_here e)
          clean_at e false = (holds j node (omega arith)).clean e

          unmarked_at : (b : ℕ) → IsDirty shape run states keeps ws waits word j node (state_at j node) b → (t : Bool) → (looked_word t).mark ≡ None
          unmarked_at b d true = refl
          unmarked_at b d false = d.unmarked

          own_at : (b : ℕ) → IsDirty shape run states keeps ws waits word j node (state_at j node) b → (t : Bool)
              → LastOwn j node (looked_word t).value
          own_at b d true = d.own
          own_at b d false = d.own

      -- an act that closes nothing stays in its interval
      pub same_interval : (d : Deed) → Does run j node d → closes d ≡ false → interval_at run node (j + 1) ≡ interval_at run node j
      same_interval d does not = ap (λ n. 1 + n) (count_of-same closes run node j node d does (λ own is. both_ways (closes d) not is))

      -- behind a write
      module _ (w v : ℕ) (does : Does run j node (Write w v)) where
        abbrev after : State
        after = with_write shape w v (accessed shape (page_of shape w) (state_at j node))

        abbrev look : State
        look = accessed shape (page_of shape w) (state_at j node)

        write_here : word ≡ w → HoldsAt (j + 1) node (with_write shape w v (accessed shape (page_of shape w) (state_at j node)))
        write_here same = record {
          clean = λ e. let impossible : ⊥ = cc (kept_is, e) in absurd impossible;
          dirty = λ kept e.
              let is : unwrap_or ((state_at j node).before word) (look.words word).value ≡ kept =
              same_Some (unwrap_or ((state_at j node).before word) (look.words word).value) kept (sym kept_is ∙ e) in
              record {
                fits = subst (λ x. Fit (state_at j node).knows.time x) is (kept_fits ((state_at j node).before word) refl);
                unmarked = ap (λ (x : Word). x.mark) now_is;
                own = subst (λ (x : Word). LastOwn (j + 1) node x.value) (sym now_is) record {
                  at = j;
                  earlier = omega arith;
                  write = Does-deed (ap (λ x. Write x v) (sym same)) does;
                  inside = sym (same_interval (Write w v) does refl);
                  last = λ k u less there inside. omega arith;
                };
              };
        }
          where
            test : (word == w) ≡ true
            test = eq-eqb word w same

            now_is : after.words word ≡ record { value = v; mark = None }
            now_is = cond-true (word == w) (record { value = v; mark = None }) (look.words word) test

            kept_is : after.before word ≡ Some (unwrap_or ((state_at j node).before word) (look.words word).value)
            kept_is = cond-true (word == w) (Some (unwrap_or (look.before word) (look.words word).value)) (look.before word) test

            kept_fits : (o : Option ℕ) → (state_at j node).before word ≡ o → Fit (state_at j node).knows.time (unwrap_or o (look.words word).value)
            kept_fits None e =
                subst (λ x. Fit (state_at j node).knows.time x) (sym (value-accessed shape (page_of shape w) (state_at j node) word)) (fits_here e)
            kept_fits (Some b) e = ((holds j node (omega arith)).dirty b e).fits

        write_other : (word ≡ w → ⊥) → HoldsAt (j + 1) node (with_write shape w v (accessed shape (page_of shape w) (state_at j node)))
        write_other other =
            alike (j + 1) node look after
            (cond-false (word == w) (Some (unwrap_or (look.before word) (look.words word).value)) (look.before word) (ne_eqb word w other))
            (cond-false (word == w) (record { value = v; mark = None }) (look.words word) (ne_eqb word w other)) refl (
            moves j node look (same_interval (Write w v) does refl)
            (λ u there. let deeds = Does-one_deed does there in let same : word ≡ w = cc in other same) (looked (page_of shape w))
            )

        pub wrote : HoldsAt (j + 1) node (with_write shape w v (accessed shape (page_of shape w) (state_at j node)))
        wrote = elim (cases_eq word w) [ inl same ↦ write_here same | inr other ↦ write_other other ]

      -- where the node closes its interval
      module _ (d : Deed) (does : Does run j node d) (closing_deed : closes d ≡ true) where
        in_range : node < length (state_at j node).knows.time
        in_range =
            let long = (made_long shape run states keeps j node).before in
            let lt = keeps.in_range j node d does in
            omega arith

        time_is : time_before shape.nodes run (times_of states) node j ≡ (state_at j node).knows.time
        time_is = before-time shape run states keeps node j (omega arith)

        -- its last write is the last of all that it knows then
        own_is_last : (v : ℕ) (own : LastOwn j node v)
            → IsLastOfAll (HappensBefore run) (AreInOneInterval run) (value_at run) (is_known run word (raised (state_at j node).knows.time node)) own.at
        own_is_last v own = record { known = known_own; last = most }
          where
            time : List ℕ
            time = (state_at j node).knows.time

            index : interval_at run node j ≡ entry (state_at j node).knows.time node + 1
            index = interval_between timed j node (omega arith) ∙ ap (λ t. entry t node + 1) time_is

            one_more : entry (raised (state_at j node).knows.time node) node ≡ entry (state_at j node).knows.time node + 1
            one_more = entry-set_same (state_at j node).knows.time node (entry (state_at j node).knows.time node + 1) in_range

            known_own : is_known run word (raised (state_at j node).knows.time node) own.at ≡ true
            known_own =
                let inside = own.inside in
                known-to run word (raised (state_at j node).knows.time node) own.at node v own.write (omega (arith, index, one_more))

            older : (k q u : ℕ) → Does run k q (Write word u) → interval_at run q k ≤ entry (state_at j node).knows.time q → k ≤ own.at
            older k q u there inside =
                let known = known-to run word (time_before shape.nodes run (times_of states) node j) k q u there
                (subst (λ t. interval_at run q k ≤ entry t q) (sym time_is) inside) in
                let less = earlier_than ws waits timed own.at node j (Write word v) own.write refl own.earlier own.inside word k known in
                omega arith

            most : (k : ℕ) → is_known run word (raised (state_at j node).knows.time node) k ≡ true → k ≤ own.at
            most k is =
                let known = known-from run word (raised (state_at j node).knows.time node) k is in
                let inside = known.inside in
                elim (cases_eq known.node node) [
                  | inr other ↦
                      let same = entry-set_other (state_at j node).knows.time node (entry (state_at j node).knows.time node + 1) known.node other in
                      older k known.node known.value known.write (omega arith)
                  | inl mine ↦
                      let there : Does run k node (Write word known.value) = Does-node mine known.write in
                      let inside_too : interval_at run node k ≤ entry (raised (state_at j node).knows.time node) node =
                      subst (λ p. interval_at run p k ≤ entry (raised (state_at j node).knows.time node) p) mine inside in
                      elim (cases_lt (entry (state_at j node).knows.time node) (interval_at run node k)) [
                        | inr old ↦ older k node known.value there old
                        | inl new ↦
                            let same : interval_at run node k ≡ interval_at run node j = omega (arith, index, one_more) in
                            let closes_there : ClosesAt run node (interval_at run node k) j =
                            record { deed = d; does = does; closing = closing_deed; interval = sym same } in
                            let less = before_closing run k node j (Write word known.value) there refl closes_there in
                            own.last k known.value less there same
                      ]
                ]

        pub closes_clean : Clean (closed node (state_at j node)).knows ((closed node (state_at j node)).words word)
        closes_clean = go ((state_at j node).before word) refl
          where
            go : (o : Option ℕ) → (state_at j node).before word ≡ o
                → Clean (closed node (state_at j node)).knows ((closed node (state_at j node)).words word)
            go None e =
                let c = (holds j node (omega arith)).clean e in
                record {
                  since = c.since;
                  had = c.had;
                  covered =
                      covers-trans (raised (state_at j node).knows.time node) (state_at j node).knows.time c.since
                      (covers-raised (state_at j node).knows.time node (entry (state_at j node).knows.time node + 1) (omega arith)) c.covered;
                  low = c.low;
                  fits = c.fits;
                  highest =
                      closing shape.nodes c.since (state_at j node).knows word node (open_interval (state_at j node)) in_range
                      (ap (λ o. change_of o ((state_at j node).words word).value) e) (record { value = c.had; mark = None })
                      ((state_at j node).words word) c.highest;
                }
            go (Some b) e =
                let dirty = (holds j node (omega arith)).dirty b e in
                let own = dirty.own in
                let v = ((state_at j node).words word).value in
                let is : record { value = v; mark = None } ≡ (state_at j node).words word =
                ap (λ m. record { value = v; mark = m }) (sym dirty.unmarked) in
                let low : IsDown run (times_of states) (closed node (state_at j node)).knows.time =
                subst (λ t. IsDown run (times_of states) (raised t node)) time_is (down-stamp ws waits timed j node d does closing_deed) in
                let fits : Fit (closed node (state_at j node)).knows.time v =
                subst (λ x. Fit (closed node (state_at j node)).knows.time x) (value_at-is run own.at node word v own.write) (
                fits_last (HappensBefore run) (AreInOneInterval run) (value_at run) (is_known run word (closed node (state_at j node)).knows.time) own.at
                (own_is_last v own)
                ) in
                subst (λ (x : Word). Clean (closed node (state_at j node)).knows x) is (fresh (closed node (state_at j node)).knows v low fits)
