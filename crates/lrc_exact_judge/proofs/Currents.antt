-- What nodes have after one act more, and once a barrier is settled.
use Rattle.std.proofs.Common.{◌≡◌, ◌≢◌, ℕ, ◌+◌, ◌<◌, ◌≤◌, ◌⊎◌, true, false, List, [], ◌∷◌, ◌++◌, length, take, inl, inr, refl, sym, ap, ◌∙◌, arith}
use Rattle.std.specs.Prelude.{Some, None, nat_lt}
use Rattle.std.proofs.lemmas.Bool.{cases_Bool, cases_eq, cases_lt, both_ways, cond-true, cond-false, lt-ltb, le-ltb, and_parts}
use Rattle.std.proofs.lemmas.List.{length_push}
use Rattle.lrc_trace.specs.declared.act.Act.{Act}
use Rattle.lrc_trace.specs.declared.act.Deed.{Deed}
use Rattle.lrc_trace.specs.declared.act.Deed.TheVariants.{Release, Arrive, Depart}
use Rattle.lrc_trace.specs.Run.{Does, is_arrive, is_depart, count_of, arrives_before, departs_before}
use Rattle.lrc_trace.proofs.Positions.{Does-last, arrives_before-prefix, departs_before-prefix}
use Rattle.lrc_trace.proofs.Intervals.{count_of-more, count_of-same}
use Rattle.lrc_clock.proofs.Passing.{acts_at-act}
use Rattle.lrc_clock.specs.Times.{acts_at, arrives_at}
use Rattle.lrc_exact.specs.LocalRule.{state_before, arrived_state, arrives_there}
use Rattle.lrc_exact.specs.Rule.{Shape, State, exact_rule, departed}
use Rattle.lrc_exact.proofs.LocalRules.{same_function, last-cases}
use Rattle.lrc_exact_judge.specs.Current.{AreCurrent}
use Rattle.lrc_exact_judge.specs.Memory.{Having, all_of, with_all}
use Rattle.lrc_exact_judge.proofs.Next.{before-own, before-other, released-own, released-other, arrived-own, arrived-rest}

-- ---- one act more

-- how often nodes have arrived and departed, once one act more is made
pub record AreCounted (run : List Act) (act : Act) : Type 0 where
  pub long : length (run ++ act ∷ []) ≡ length run + 1
  pub arrives_other : (q : ℕ) → (q ≡ act.node → is_arrive act.deed ≡ true → ⊥)
      → arrives_before (run ++ act ∷ []) q (length (run ++ act ∷ [])) ≡ arrives_before run q (length run)
  pub arrives_own : is_arrive act.deed ≡ true
      → arrives_before (run ++ act ∷ []) act.node (length (run ++ act ∷ [])) ≡ arrives_before run act.node (length run) + 1
  pub departs_other : (q : ℕ) → (q ≡ act.node → is_depart act.deed ≡ true → ⊥)
      → departs_before (run ++ act ∷ []) q (length (run ++ act ∷ [])) ≡ departs_before run q (length run)
  pub departs_own : is_depart act.deed ≡ true
      → departs_before (run ++ act ∷ []) act.node (length (run ++ act ∷ [])) ≡ departs_before run act.node (length run) + 1

arrive-is : (d : Deed) → d ≡ Arrive → is_arrive d ≡ true
arrive-is d e = ap is_arrive e

module _ (shape : Shape) (run : List Act) (states : List State) (act : Act) (state : State) (settled : ℕ) (having next : Having)
    (stated : length states ≡ length run) (counted : AreCounted run act)
    (within : act.node < shape.nodes) (old : AreCurrent shape run states settled having) where
  abbrev grown : List Act
  grown = run ++ act ∷ []

  abbrev later : List State
  later = states ++ state ∷ []

  module _ (going : is_depart act.deed ≡ false) (at_work : arrives_before run act.node (length run) ≤ departs_before run act.node (length run))
      (own : next.have act.node ≡ state) (others : (q : ℕ) → q ≢ act.node → next.have q ≡ having.have q)
      (releases : (l : ℕ) → act.deed ≡ Release l → next.released l ≡ Some state)
      (keeps : (l : ℕ) → (act.deed ≡ Release l → ⊥) → next.released l ≡ having.released l)
      (which : (l : ℕ) → (act.deed ≡ Release l → ⊥) ⊎ (act.deed ≡ Release l)) where
    departs_same : (q : ℕ) → departs_before grown q (length grown) ≡ departs_before run q (length run)
    departs_same q = counted.departs_other q (λ e d. both_ways (is_depart act.deed) going d)

    level : departs_before run act.node (length run) ≡ settled
    level =
        elim (cases_lt (departs_before run act.node (length run)) settled) [
          | inl lt ↦ let a = old.left act.node within lt in absurd (omega arith)
          | inr le ↦ let b = old.behind act.node within in omega arith
        ]

    arrived_same : (q : ℕ) → q ≢ act.node → q < shape.nodes → departs_before run q (length run) < settled → (p : ℕ)
        → arrived_state grown later (departs_before run q (length run)) (length grown) p
        ≡ arrived_state run states (departs_before run q (length run)) (length run) p
    arrived_same q other q_within lt p =
        arrived-rest (exact_rule shape) run states act state stated (departs_before run q (length run)) p
        (λ arrive number same. let l = level in let c = old.came act.node within in omega arith)

    pub after-act : AreCurrent shape grown later settled next
    after-act = record {
      behind = λ q lt. let d = departs_same q in let b = old.behind q lt in omega arith;
      near = λ q lt. let d = departs_same q in let b = old.near q lt in omega arith;
      came = λ q lt.
          let d = departs_same q in
          let b = old.came q lt in
          elim (cases_Bool (is_arrive act.deed)) [
            | inr not ↦ let a = counted.arrives_other q (λ e i. both_ways (is_arrive act.deed) not i) in omega arith
            | inl is ↦
                elim (cases_eq q act.node) [
                  | inr other ↦ let a = counted.arrives_other q (λ e i. other e) in omega arith
                  | inl same ↦
                      let a = counted.arrives_own is in
                      let e = ap (λ n. arrives_before grown n (length grown)) same in
                      let f = ap (λ n. arrives_before run n (length run)) same in
                      omega arith
                ]
          ];
      once = λ q lt.
          let d = departs_same q in
          let b = old.once q lt in
          elim (cases_Bool (is_arrive act.deed)) [
            | inr not ↦ let a = counted.arrives_other q (λ e i. both_ways (is_arrive act.deed) not i) in omega arith
            | inl is ↦
                elim (cases_eq q act.node) [
                  | inr other ↦ let a = counted.arrives_other q (λ e i. other e) in omega arith
                  | inl same ↦
                      let a = counted.arrives_own is in
                      let e = ap (λ n. arrives_before grown n (length grown)) same in
                      let f = ap (λ n. departs_before run n (length run)) same in
                      omega arith
                ]
          ];
      left = λ q lt less.
          elim (cases_eq q act.node) [
            | inl same ↦
                let d = departs_same q in
                let f = ap (λ n. departs_before run n (length run)) same in
                let l = level in
                absurd (omega arith)
            | inr other ↦
                let d = departs_same q in
                let b = old.left q lt (omega arith) in
                let a = counted.arrives_other q (λ e i. other e) in
                omega arith
          ];
      here = λ q lt is.
          elim (cases_eq q act.node) [
            | inl same ↦
                ap next.have same ∙ own
                ∙ sym (ap (λ n. state_before (exact_rule shape) grown later n (length grown)) same
                ∙ before-own (exact_rule shape) run states act state stated)
            | inr other ↦
                others q other ∙ old.here q lt (sym (departs_same q) ∙ is)
                ∙ sym (before-other (exact_rule shape) run states act state stated q other)
          ];
      ahead = λ q lt less.
          elim (cases_eq q act.node) [
            | inl same ↦
                let d = departs_same q in
                let f = ap (λ n. departs_before run n (length run)) same in
                let l = level in
                absurd (omega arith)
            | inr other ↦
                let d = departs_same q in
                let less' : departs_before run q (length run) < settled = omega arith in
                others q other ∙ old.ahead q lt less'
                ∙ ap (λ s. departed shape s (arrived_state run states (departs_before run q (length run)) (length run)))
                (sym (before-other (exact_rule shape) run states act state stated q other))
                ∙ ap (departed shape (state_before (exact_rule shape) grown later q (length grown)))
                (sym (same_function (arrived_same q other lt less')))
                ∙ ap (λ n. departed shape (state_before (exact_rule shape) grown later q (length grown)) (arrived_state grown later n (length grown)))
                (sym d)
          ];
      waits = λ q lt less.
          let d = departs_same q in
          ap (λ n. arrived_state grown later n (length grown) q) d
          ∙ elim (cases_eq q act.node) [
            | inl same ↦
                let e = ap (λ n. arrives_before grown n (length grown)) same in
                let f = ap (λ n. departs_before run n (length run)) same in
                let c = old.came act.node within in
                ap (λ n. arrived_state grown later (departs_before run n (length run)) (length grown) n) same
                ∙ arrived-own (exact_rule shape) run states act state stated (departs_before run act.node (length run))
                (arriving (λ not. let a = counted.arrives_other act.node (λ g i. both_ways (is_arrive act.deed) not i) in omega arith))
                (omega arith)
                ∙ ap (λ s. Some s) (sym (ap (λ n. state_before (exact_rule shape) grown later n (length grown)) same
                ∙ before-own (exact_rule shape) run states act state stated))
            | inr other ↦
                let a = counted.arrives_other q (λ g i. other g) in
                arrived-rest (exact_rule shape) run states act state stated (departs_before run q (length run)) q (λ g h i. other i)
                ∙ old.waits q lt (omega arith)
                ∙ ap (λ s. Some s) (sym (before-other (exact_rule shape) run states act state stated q other))
          ];
      locks = λ l.
          elim (which l) [
            | inl not ↦ keeps l not ∙ old.locks l ∙ sym (released-other (exact_rule shape) run states act state stated l not)
            | inr is ↦ releases l is ∙ sym (released-own (exact_rule shape) run states act state stated l is)
          ];
    }
      where
        arrive-from : (d : Deed) → is_arrive d ≡ true → d ≡ Arrive
        arrive-from Arrive e = refl
        arrive-from d e = absurd (both_ways false refl e)

        arriving : (is_arrive act.deed ≡ false → ⊥) → act.deed ≡ Arrive
        arriving not =
            elim (cases_Bool (is_arrive act.deed)) [
              | inl is ↦ arrive-from act.deed is
              | inr fails ↦ absurd (not fails)
            ]

  -- a depart from a barrier that is settled
  pub after-depart : is_depart act.deed ≡ true → departs_before run act.node (length run) < settled → state ≡ having.have act.node
      → (releases : (l : ℕ) → act.deed ≡ Release l → ⊥) → AreCurrent shape grown later settled having
  after-depart is lt made never = record {
    behind = λ q q_in.
        elim (cases_eq q act.node) [
          | inl same ↦ let e = ap (λ n. departs_before grown n (length grown)) same in let o = counted.departs_own is in omega arith
          | inr other ↦ let d = departs_same q other in let b = old.behind q q_in in omega arith
        ];
    near = λ q q_in.
        elim (cases_eq q act.node) [
          | inl same ↦
              let e = ap (λ n. departs_before grown n (length grown)) same in
              let o = counted.departs_own is in
              let b = old.near act.node within in
              omega arith
          | inr other ↦ let d = departs_same q other in let b = old.near q q_in in omega arith
        ];
    came = λ q q_in.
        let a = arrives_same q in
        elim (cases_eq q act.node) [
          | inl same ↦
              let e = ap (λ n. departs_before grown n (length grown)) same in
              let f = ap (λ n. arrives_before run n (length run)) same in
              let o = counted.departs_own is in
              let b = old.left act.node within lt in
              omega arith
          | inr other ↦ let d = departs_same q other in let b = old.came q q_in in omega arith
        ];
    once = λ q q_in.
        let a = arrives_same q in
        let b = old.once q q_in in
        elim (cases_eq q act.node) [
          | inl same ↦
              let e = ap (λ n. departs_before grown n (length grown)) same in
              let f = ap (λ n. departs_before run n (length run)) same in
              let o = counted.departs_own is in
              omega arith
          | inr other ↦ let d = departs_same q other in omega arith
        ];
    left = λ q q_in less.
        elim (cases_eq q act.node) [
          | inl same ↦
              let e = ap (λ n. departs_before grown n (length grown)) same in
              let o = counted.departs_own is in
              let b = old.near act.node within in
              absurd (omega arith)
          | inr other ↦
              let a = arrives_same q in
              let d = departs_same q other in
              let b = old.left q q_in (omega arith) in
              omega arith
        ];
    here = λ q q_in e.
        elim (cases_eq q act.node) [
          | inl same ↦
              ap having.have same ∙ sym made
              ∙ sym (ap (λ n. state_before (exact_rule shape) grown later n (length grown)) same
              ∙ before-own (exact_rule shape) run states act state stated)
          | inr other ↦
              old.here q q_in (sym (departs_same q other) ∙ e)
              ∙ sym (before-other (exact_rule shape) run states act state stated q other)
        ];
    ahead = λ q q_in less.
        elim (cases_eq q act.node) [
          | inl same ↦
              let e = ap (λ n. departs_before grown n (length grown)) same in
              let o = counted.departs_own is in
              let b = old.near act.node within in
              absurd (omega arith)
          | inr other ↦
              let d = departs_same q other in
              old.ahead q q_in (omega arith)
              ∙ ap (λ s. departed shape s (arrived_state run states (departs_before run q (length run)) (length run)))
              (sym (before-other (exact_rule shape) run states act state stated q other))
              ∙ ap (departed shape (state_before (exact_rule shape) grown later q (length grown)))
              (sym (same_function (arrived_same (departs_before run q (length run)))))
              ∙ ap (λ n. departed shape (state_before (exact_rule shape) grown later q (length grown)) (arrived_state grown later n (length grown)))
              (sym d)
        ];
    waits = λ q q_in less.
        let a = arrives_same q in
        elim (cases_eq q act.node) [
          | inl same ↦
              let e = ap (λ n. departs_before grown n (length grown)) same in
              let f = ap (λ n. arrives_before run n (length run)) same in
              let o = counted.departs_own is in
              let b = old.once act.node within in
              absurd (omega arith)
          | inr other ↦
              let d = departs_same q other in
              ap (λ n. arrived_state grown later n (length grown) q) d
              ∙ arrived_same (departs_before run q (length run)) q
              ∙ old.waits q q_in (omega arith)
              ∙ ap (λ s. Some s) (sym (before-other (exact_rule shape) run states act state stated q other))
        ];
    locks = λ l. old.locks l ∙ sym (released-other (exact_rule shape) run states act state stated l (never l));
  }
    where
      no-arrive : (d : Deed) → is_depart d ≡ true → d ≡ Arrive → ⊥
      no-arrive d e f = both_ways (is_depart d) (ap is_depart f) e

      not-arrive : (d : Deed) → is_depart d ≡ true → is_arrive d ≡ true → ⊥
      not-arrive Depart e f = both_ways false refl f
      not-arrive d e f = both_ways false refl e

      departs_same : (q : ℕ) → q ≢ act.node → departs_before grown q (length grown) ≡ departs_before run q (length run)
      departs_same q other = counted.departs_other q (λ e d. other e)

      arrives_same : (q : ℕ) → arrives_before grown q (length grown) ≡ arrives_before run q (length run)
      arrives_same q = counted.arrives_other q (λ e d. not-arrive act.deed is d)

      arrived_same : (number p : ℕ) → arrived_state grown later number (length grown) p ≡ arrived_state run states number (length run) p
      arrived_same number p = arrived-rest (exact_rule shape) run states act state stated number p (λ e n s. no-arrive act.deed is e)

-- ---- a barrier is settled

module _ (shape : Shape) (run : List Act) (states : List State) (settled : ℕ) (having : Having)
    (in_range : (j node : ℕ) (deed : Deed) → Does run j node deed → node < shape.nodes)
    (all : (node : ℕ) → node < shape.nodes → settled < arrives_before run node (length run))
    (old : AreCurrent shape run states settled having) where
  all_here : (node : ℕ) → node < shape.nodes → departs_before run node (length run) ≡ settled
  all_here node lt = let a = all node lt in let b = old.behind node lt in let c = old.once node lt in omega arith

  none-arrived : (node : ℕ) → shape.nodes ≤ node → arrived_state run states settled (length run) node ≡ None
  none-arrived node le = elim (last-cases (arrives_there run settled node) states (length run)) [
    | inl (none, never) ↦ none
    | inr (q, lt, holds, last, is) ↦
        let both = and_parts (arrives_at run settled q) (acts_at run node q) holds in
        let (deed, does) = acts_at-act run q node both.1 in
        let less = in_range q node deed does in
        absurd (omega arith)
  ]

  arrived-all : (node : ℕ) → arrived_state run states settled (length run) node ≡ all_of shape.nodes having.have node
  arrived-all node =
      elim (cases_lt node shape.nodes) [
        | inl lt ↦
            let e = all_here node lt in
            let a = all node lt in
            ap (λ n. arrived_state run states n (length run) node) (sym e)
            ∙ old.waits node lt (omega arith)
            ∙ ap (λ s. Some s) (sym (old.here node lt e))
            ∙ sym (cond-true (nat_lt node shape.nodes) (Some (having.have node)) None (lt-ltb node shape.nodes lt))
        | inr le ↦
            none-arrived node le
            ∙ sym (cond-false (nat_lt node shape.nodes) (Some (having.have node)) None (le-ltb node shape.nodes le))
      ]

  pub after-settling : AreCurrent shape run states (settled + 1)
      (with_all having (λ node have. departed shape have (all_of shape.nodes having.have)))
  after-settling = record {
    behind = λ q lt. let b = old.behind q lt in omega arith;
    near = λ q lt. let b = all_here q lt in omega arith;
    came = old.came;
    once = old.once;
    left = λ q lt less. let b = all_here q lt in let a = all q lt in omega arith;
    here = λ q lt is. let b = all_here q lt in absurd (omega arith);
    ahead = λ q lt less.
        ap (λ s. departed shape s (all_of shape.nodes having.have)) (old.here q lt (all_here q lt))
        ∙ ap (departed shape (state_before (exact_rule shape) run states q (length run))) (sym (same_function arrived-all))
        ∙ ap (λ n. departed shape (state_before (exact_rule shape) run states q (length run)) (arrived_state run states n (length run)))
        (sym (all_here q lt));
    waits = old.waits;
    locks = old.locks;
  }

-- a node that is at no barrier has the state of its last act
pub have-now : (shape : Shape) (run : List Act) (states : List State) (settled : ℕ) (having : Having) (node : ℕ) → AreCurrent shape run states settled having
    → node < shape.nodes → arrives_before run node (length run) ≤ departs_before run node (length run)
    → having.have node ≡ state_before (exact_rule shape) run states node (length run)
have-now shape run states settled having node old lt at_work =
    elim (cases_lt (departs_before run node (length run)) settled) [
      | inl less ↦ let a = old.left node lt less in absurd (omega arith)
      | inr le ↦ let b = old.behind node lt in old.here node lt (omega arith)
    ]

-- how often nodes arrive and depart
pub counted : (run : List Act) (act : Act) → AreCounted run act
counted run act = record {
  long = long;
  arrives_other = λ q no.
      ap (λ n. count_of is_arrive q (take n (run ++ act ∷ []))) long
      ∙ count_of-same is_arrive (run ++ act ∷ []) q (length run) act.node act.deed last (λ e k. no (sym e) k)
      ∙ arrives_before-prefix run (act ∷ []) q (length run) (omega arith);
  arrives_own = λ is.
      ap (λ n. count_of is_arrive act.node (take n (run ++ act ∷ []))) long
      ∙ count_of-more is_arrive (run ++ act ∷ []) act.node (length run) act.deed last is
      ∙ ap (λ n. n + 1) (arrives_before-prefix run (act ∷ []) act.node (length run) (omega arith));
  departs_other = λ q no.
      ap (λ n. count_of is_depart q (take n (run ++ act ∷ []))) long
      ∙ count_of-same is_depart (run ++ act ∷ []) q (length run) act.node act.deed last (λ e k. no (sym e) k)
      ∙ departs_before-prefix run (act ∷ []) q (length run) (omega arith);
  departs_own = λ is.
      ap (λ n. count_of is_depart act.node (take n (run ++ act ∷ []))) long
      ∙ count_of-more is_depart (run ++ act ∷ []) act.node (length run) act.deed last is
      ∙ ap (λ n. n + 1) (departs_before-prefix run (act ∷ []) act.node (length run) (omega arith));
}
  where
    long : length (run ++ act ∷ []) ≡ length run + 1
    long = length_push run act

    last : Does (run ++ act ∷ []) (length run) act.node act.deed
    last = Does-last run act
