-- What a state keeps of a word is its value just before the first write of the open interval.
use Rattle.std.proofs.Common.{◌≡◌, ℕ, zero, suc, ◌+◌, ◌≤◌, Bool, true, false, List, length, inl, inr, refl, sym, subst, ap, ◌∙◌}
use Rattle.std.proofs.Common.{arith, add-one}
use Rattle.std.specs.Prelude.{◌==◌, Option, Some, None, slice_get, unwrap_or, if◌then◌else◌}
use Rattle.std.proofs.lemmas.Bool.{cases_Bool, cases_eq, eqb-true, eq-eqb, both_ways, cond-true, cond-false, false≢true}
use Rattle.std.proofs.lemmas.Option.{same_Some}
use Rattle.lrc_trace.specs.declared.act.Act.{Act}
use Rattle.lrc_trace.specs.declared.act.Deed.{Deed}
use Rattle.lrc_trace.specs.declared.act.Deed.TheVariants.{Quiet, Print, Read, Write, Acquire, Release, Arrive, Depart, Trap, End}
use Rattle.lrc_trace.specs.Run.{Does, departs_before}
use Rattle.lrc_trace.specs.Interval.{closes, interval_at}
use Rattle.lrc_trace.proofs.Positions.{Does-node, Does-deed, Does-one_node, Does-one_deed}
use Rattle.lrc_trace.proofs.Intervals.{act_at, count_of-same, count_of-more, never_fall}
use Rattle.lrc_clock.specs.Times.{acts_at}
use Rattle.lrc_clock.proofs.Passing.{acts_at-true, acts_at-act}
use Rattle.lrc_exact.specs.LocalRule.{last_state, state_before, released_state, arrived_state, state_after}
use Rattle.lrc_exact.specs.Rule.{Shape, State, exact_rule, exact_value, KeepsExact, page_of, accessed, acquired, known_by_all, with_learned}
use Rattle.lrc_exact.specs.Rule.{collects, collected}
use Rattle.lrc_exact_known.specs.Learned.{IsBefore}

module _ (shape : Shape) (run : List Act) (states : List State) (keeps : KeepsExact shape run states) where
  abbrev state_at : ℕ → ℕ → State
  state_at j node = state_before (exact_rule shape) run states node j

  -- the state of a node just behind an act of its own, and of another
  next-own : (j node : ℕ) (deed : Deed) → Does run j node deed → state_at (j + 1) node ≡ state_after (exact_rule shape) run states j node deed
  next-own j node deed does =
      ap (λ k. state_at k node) (add-one j)
      ∙ ap (λ o. unwrap_or o ((exact_rule shape).start node)) (
      cond-true (acts_at run node j) (slice_get states j) (last_state (acts_at run node) states j) (acts_at-true run j node deed does)
      ∙ keeps.follows j node deed does
      )

  next-other : (j node other : ℕ) (deed : Deed) → Does run j other deed → (other ≡ node → ⊥) → state_at (j + 1) node ≡ state_at j node
  next-other j node other deed does apart =
      let same : last_state (acts_at run node) states (suc j) ≡ last_state (acts_at run node) states j =
      elim (cases_Bool (acts_at run node j)) [
        | inl acts ↦ let (d, does') = acts_at-act run j node acts in absurd (apart (Does-one_node does does'))
        | inr idle ↦ cond-false (acts_at run node j) (slice_get states j) (last_state (acts_at run node) states j) idle
      ] in
      ap (λ k. state_at k node) (add-one j) ∙ ap (λ o. unwrap_or o ((exact_rule shape).start node)) same

  module _ (node word : ℕ) where
    abbrev Is : ℕ → Option ℕ → Type 0
    Is j kept = IsBefore shape run states node j word kept

    -- in the same interval, an act that does not write the word leaves what is kept
    stays : (j : ℕ) (kept : Option ℕ) → interval_at run node (j + 1) ≡ interval_at run node j → ((v : ℕ) → Does run j node (Write word v) → ⊥)
        → Is j kept → Is (j + 1) kept
    stays j kept same other before = record {
      none = λ e k v lt does inside.
          elim (cases_eq k j) [
            | inl here ↦ other v (subst (λ n. Does run n node (Write word v)) here does)
            | inr apart ↦ before.none e k v (omega arith) does (inside ∙ same)
          ];
      some = λ v e.
          let (f, first, is) = before.some v e in
          let earlier = first.earlier in (
            f,
            record {
              earlier = omega arith;
              value = first.value;
              write = first.write;
              inside = first.inside ∙ sym same;
              first = λ k u lt does inside. first.first k u lt does (inside ∙ same);
            },
            is,
          );
    }

    -- behind a close nothing is kept
    cleared : (j : ℕ) (deed : Deed) → Does run j node deed → closes deed ≡ true → Is (j + 1) None
    cleared j deed does closing = record {
      none = λ e k v lt there inside.
          let more = count_of-more closes run node j deed does closing in
          let rises = never_fall run node k j (omega arith) in
          omega arith;
      some = λ v e. let impossible : ⊥ = cc in absurd impossible;
    }

    same_interval : (j other : ℕ) (deed : Deed) → Does run j other deed → (other ≡ node → closes deed ≡ true → ⊥)
        → interval_at run node (j + 1) ≡ interval_at run node j
    same_interval j other deed does not = ap (λ n. 1 + n) (count_of-same closes run node j other deed does not)

    -- a look at a page leaves values
    value-accessed : (page : ℕ) (s : State) (w : ℕ) → ((accessed shape page s).words w).value ≡ (s.words w).value
    value-accessed page s w = go (page_of shape w == page)
      where
        go : (b : Bool) → (if b then record (s.words w) { mark = None } else s.words w).value ≡ (s.words w).value
        go true = refl
        go false = refl

    -- a write of the word
    written : (j v : ℕ) → Does run j node (Write word v) → Is j ((state_at j node).before word)
        → Is (j + 1) (Some (unwrap_or ((state_at j node).before word) (exact_value shape run states node j word)))
    written j v does before = go ((state_at j node).before word) before
      where
        same : interval_at run node (j + 1) ≡ interval_at run node j
        same = ap (λ n. 1 + n) (count_of-same closes run node j node (Write word v) does (λ own is. false≢true is))

        go : (kept : Option ℕ) → Is j kept → Is (j + 1) (Some (unwrap_or kept (exact_value shape run states node j word)))
        go None h = record {
          none = λ e. let impossible : ⊥ = cc in absurd impossible;
          some = λ u e. (
            j,
            record {
              earlier = omega arith;
              value = v;
              write = does;
              inside = sym same;
              first = λ k x lt there inside. h.none refl k x lt there (inside ∙ same);
            },
            same_Some u (exact_value shape run states node j word) (sym e),
          );
        }
        go (Some x) h = record {
          none = λ e. let impossible : ⊥ = cc in absurd impossible;
          some = λ u e.
              let (f, first, is) = h.some x refl in
              let earlier = first.earlier in (
                f,
                record {
                  earlier = omega arith;
                  value = first.value;
                  write = first.write;
                  inside = first.inside ∙ sym same;
                  first = λ k y lt there inside. first.first k y lt there (inside ∙ same);
                },
                same_Some u x (sym e) ∙ is,
              );
        }

    -- a write of any word
    writing : (j w v : ℕ) → Does run j node (Write w v) → Is j ((state_at j node).before word)
        → Is (j + 1) ((state_after (exact_rule shape) run states j node (Write w v)).before word)
    writing j w v does before =
        elim (cases_eq word w) [
          | inl same ↦
              let there : Does run j node (Write word v) = Does-deed (ap (λ x. Write x v) (sym same)) does in
              let is : (state_after (exact_rule shape) run states j node (Write w v)).before word
              ≡ Some (unwrap_or ((state_at j node).before word) (exact_value shape run states node j word)) =
              cond-true (word == w)
              (Some (unwrap_or ((state_at j node).before word) ((accessed shape (page_of shape w) (state_at j node)).words word).value))
              ((state_at j node).before word) (eq-eqb word w same)
              ∙ ap (λ x. Some (unwrap_or ((state_at j node).before word) x)) (value-accessed (page_of shape w) (state_at j node) word) in
              subst (Is (j + 1)) (sym is) (written j v there before)
          | inr other ↦
              let is : (state_after (exact_rule shape) run states j node (Write w v)).before word ≡ (state_at j node).before word =
              go (word == w) refl other in
              subst (Is (j + 1)) (sym is) (
              stays j ((state_at j node).before word) (same_interval j node (Write w v) does (λ own is'. false≢true is'))
              (λ u there. let deeds = Does-one_deed does there in let same : word ≡ w = cc in other same) before
              )
        ]
      where
        go : (b : Bool) → (word == w) ≡ b → (word ≡ w → ⊥)
            → (if b
            then Some (unwrap_or ((state_at j node).before word) ((accessed shape (page_of shape w) (state_at j node)).words word).value)
            else (state_at j node).before word) ≡ (state_at j node).before word
        go true e other = absurd (other (eqb-true word w e))
        go false e other = refl

    -- a deed that writes nothing and closes nothing
    quiet_deed : (j : ℕ) (deed : Deed) → Does run j node deed → closes deed ≡ false → ((v : ℕ) → deed ≡ Write word v → ⊥)
        → Is j ((state_at j node).before word) → Is (j + 1) ((state_at j node).before word)
    quiet_deed j deed does not no_write before =
        stays j ((state_at j node).before word) (same_interval j node deed does (λ own is. both_ways (closes deed) not is))
        (λ v there. no_write v (Does-one_deed does there)) before

    own : (j : ℕ) (deed : Deed) → Does run j node deed → Is j ((state_at j node).before word)
        → Is (j + 1) ((state_after (exact_rule shape) run states j node deed).before word)
    own j Quiet does before = quiet_deed j Quiet does refl (λ v e. let impossible : ⊥ = cc in impossible) before
    own j (Print x) does before = quiet_deed j (Print x) does refl (λ v e. let impossible : ⊥ = cc in impossible) before
    own j (Read w x) does before = quiet_deed j (Read w x) does refl (λ v e. let impossible : ⊥ = cc in impossible) before
    own j (Write w v) does before = writing j w v does before
    own j (Acquire l) does before = go (released_state run states l j)
      where
        go : (o : Option State) → Is (j + 1) ((acquired shape.nodes node (state_at j node) o).before word)
        go None = cleared j (Acquire l) does refl
        go (Some r) = cleared j (Acquire l) does refl
    own j (Release l) does before = cleared j (Release l) does refl
    own j Arrive does before = cleared j Arrive does refl
    own j Depart does before =
        let arrived = arrived_state run states (departs_before run node j) j in
        subst (Is (j + 1)) (sym (go arrived (collects shape arrived)))
        (quiet_deed j Depart does refl (λ v e. let impossible : ⊥ = cc in impossible) before)
      where
        go : (arrived : ℕ → Option State) (b : Bool)
            → (if b
            then collected shape (known_by_all shape.nodes shape.nodes arrived) arrived (with_learned shape.nodes (known_by_all shape.nodes shape.nodes arrived)
            (state_at j node)) else with_learned shape.nodes (known_by_all shape.nodes shape.nodes arrived) (state_at j node)).before word
            ≡ (state_at j node).before word
        go arrived true = refl
        go arrived false = refl
    own j (Trap x) does before = quiet_deed j (Trap x) does refl (λ v e. let impossible : ⊥ = cc in impossible) before
    own j End does before = quiet_deed j End does refl (λ v e. let impossible : ⊥ = cc in impossible) before

    pub kept_is_before : (j : ℕ) → j ≤ length run → Is j ((state_at j node).before word)
    kept_is_before zero le = record { none = λ e k v lt does inside. omega arith; some = λ v e. let impossible : ⊥ = cc in absurd impossible }
    kept_is_before (suc j) le =
        let before = kept_is_before j (omega arith) in
        let (act, does) = act_at run j (omega arith) in
        subst (λ n. Is n ((state_at n node).before word)) (add-one j) (
        elim (cases_eq act.node node) [
          | inl mine ↦
              let here : Does run j node act.deed = Does-node mine does in
              subst (λ (s : State). Is (j + 1) (s.before word)) (sym (next-own j node act.deed here)) (own j act.deed here before)
          | inr apart ↦
              subst (λ (s : State). Is (j + 1) (s.before word)) (sym (next-other j node act.node act.deed does apart)) (
              stays j ((state_at j node).before word) (same_interval j act.node act.deed does (λ e is. apart e))
              (λ v there. apart (Does-one_node does there)) before
              )
        ]
        )
