-- Of two runs that read by one local rule, and in which nodes acquire each lock in one order, each node makes the same acts and has the
-- same states.
use Rattle.std.proofs.Common.{◌≡◌, ℕ, zero, suc, ◌+◌, ◌<◌, ◌≤◌, Bool, true, List, [], ◌∷◌, ◌++◌, length, take, drop, inl, inr, refl, sym, subst, ap}
use Rattle.std.proofs.Common.{◌∙◌, arith, add-one}
use Rattle.std.specs.Prelude.{Some, slice_get, unwrap_or, count_by}
use Rattle.std.proofs.lemmas.Bool.{cases_eq, cases_lt, and_parts, and_from}
use Rattle.std.proofs.lemmas.List.{take_all, nil_from_length, take-append-drop}
use Rattle.lrc_program.specs.declared.Program.{Program}
use Rattle.lrc_trace.specs.declared.act.Act.{Act}
use Rattle.lrc_trace.specs.declared.act.Deed.{Deed}
use Rattle.lrc_trace.specs.declared.act.Deed.TheVariants.{Read, Acquire, Release, Arrive, Depart}
use Rattle.lrc_trace.specs.Run.{Does, is_arrive, is_depart, count_of, arrives_before, departs_before}
use Rattle.lrc_trace.specs.Synchronization.{IsWellSynchronized}
use Rattle.lrc_trace.proofs.Positions.{Does-node, Does-deed, Does-one_node, Does-within}
use Rattle.lrc_trace.proofs.Intervals.{act_at, count_of-more, count_of-same, count_of-rises, counted_in, numbered_arrive}
use Rattle.lrc_exec.specs.Plain.{start_of}
use Rattle.lrc_clock.specs.Times.{is_release, acts_at, releases_at, arrives_at}
use Rattle.lrc_clock.proofs.Passing.{acts_at-true, acts_at-act, releases_at-true, releases_at-act, arrives_at-true, arrives_at-act}
use Rattle.lrc_exec.specs.Follows.{FollowsText, Makes, deeds_of}
use Rattle.lrc_exact.specs.LocalRule.{LocalRule, KeepsStates, state_before, released_state, arrived_state, arrives_there, state_after}
use Rattle.lrc_exact.proofs.LocalRules.{same_function, last-cases}
use Rattle.lrc_exact_laws.specs.Order.{is_acquire, acquirers, Begins, OneBeginsOther}
use Rattle.lrc_exact_laws.proofs.Lists.{same_last, same_place_begun, none_at_all, is_number}
use Rattle.lrc_exact_laws.proofs.Deeds.{steady, deeds_of-append, deeds_of-here, deeds_of-not_here, deeds_of-split, count_of-deeds}
use Rattle.lrc_exact_laws.proofs.Deeds.{any_deed, acts_before, acts_before-length, acquirers-split, count-acquirers}
use Rattle.lrc_exact_laws.proofs.Holders.{is_acquire-deed, is_release-own, is_release-deed, released_as_often, last_acquirer}
use Rattle.lrc_exact_laws.proofs.Threads.{next_deeds}

-- a run of the program whose states are those of the rule, and whose reads give the value of a word in the state of their node
pub record IsRuled {S : Type 0} (rule : LocalRule S) (value : S → ℕ → ℕ) (program : Program) (nodes : ℕ) (run : List Act) (states : List S) : Type 0 where
  pub follows : FollowsText program nodes run
  pub synchronized : IsWellSynchronized nodes run
  pub keeps : KeepsStates rule nodes run states
  pub reads : (j node word v : ℕ) → Does run j node (Read word v) → v ≡ value (state_before rule run states node j) word

-- where a node makes no deed of a kind, their count stays
pub idle : (kind : Deed → Bool) (run : List Act) (node a b : ℕ) → a ≤ b → b ≤ length run
    → ((k : ℕ) (d : Deed) → a ≤ k → k < b → Does run k node d → kind d ≡ true → ⊥)
    → count_of kind node (take b run) ≡ count_of kind node (take a run)
idle kind run node a b le within none = steady (count_of kind node) run a b le stays
  where
    stays : (k : ℕ) → a ≤ k → k < b → count_of kind node (take (k + 1) run) ≡ count_of kind node (take k run)
    stays k least most =
        let (act, does) = act_at run k (omega arith) in
        count_of-same kind run node k act.node act.deed does (λ own is. none k act.deed least most (Does-node own does) is)

-- behind the last deed of a kind it is one more than at that deed
pub count_behind_last : (kind : Deed → Bool) (run : List Act) (node q j : ℕ) (d : Deed) → q < j → j ≤ length run → Does run q node d → kind d ≡ true
    → ((k : ℕ) (e : Deed) → q < k → k < j → Does run k node e → kind e ≡ true → ⊥)
    → count_of kind node (take j run) ≡ count_of kind node (take q run) + 1
count_behind_last kind run node q j d lt within does is none =
    idle kind run node (q + 1) j (omega arith) within (λ k e least most does' is'. none k e (omega arith) most does' is')
    ∙ count_of-more kind run node q d does is

module _ {S : Type 0} (run run' : List Act) (states states' : List S) where
  -- An act of the first run is in the second as far as that goes: the act of the same node with as many of its own before is the same.
  pub record IsShared (j : ℕ) : Type 0 where
    pub same : (node i : ℕ) (d e : Deed) → Does run j node d → Does run' i node e → acts_before run node j ≡ acts_before run' node i
        → (d ≡ e) × (slice_get states j ≡ slice_get states' i)

  module _ (j : ℕ) (earlier : (k : ℕ) → k < j → IsShared k) where
    -- after as many acts of a node its deeds are the same
    abbrev SameTo : ℕ → ℕ → Type 0
    SameTo node a = (b : ℕ) → a ≤ j → a ≤ length run → b ≤ length run' → acts_before run node a ≡ acts_before run' node b
        → deeds_of node (take a run) ≡ deeds_of node (take b run')

    module _ (node a : ℕ) (d : Deed) (here : Does run a node d) (before : SameTo node a) (le : a < j) where
      abbrev Shrunk : ℕ → Type 0
      Shrunk b = b ≤ length run' → acts_before run node (a + 1) ≡ acts_before run' node b → deeds_of node (take (a + 1) run) ≡ deeds_of node (take b run')

      shrunk : (b : ℕ) → Shrunk b
      shrunk zero within e = let more = count_of-more any_deed run node a d here refl in absurd (omega arith)
      shrunk (suc b) within e =
          subst Shrunk (add-one b) (λ within' e'.
          let in_run = Does-within here in
          let (act, there) = act_at run' b (omega arith) in
          elim (cases_eq act.node node) [
            | inr other ↦
                let same = count_of-same any_deed run' node b act.node act.deed there (λ own is. other own) in
                shrunk b (omega arith) (e' ∙ same) ∙ sym (deeds_of-not_here run' b node act.node act.deed there other)
            | inl own ↦
                let there' : Does run' b node act.deed = Does-node own there in
                let more = count_of-more any_deed run node a d here refl in
                let more' = count_of-more any_deed run' node b act.deed there' refl in
                let equal : acts_before run node a ≡ acts_before run' node b = omega arith in
                let lists = before b (omega arith) (omega arith) (omega arith) equal in
                let deeds = ((earlier a le).same node b d act.deed here there' equal).0 in
                deeds_of-here run a node d here
                ∙ ap (λ xs. xs ++ d ∷ []) lists
                ∙ ap (λ x. deeds_of node (take b run') ++ x ∷ []) deeds
                ∙ sym (deeds_of-here run' b node act.deed there')
          ]) within e

    same_to : (node a : ℕ) → SameTo node a
    same_to node zero = λ b le within within' e.
        let long = acts_before-length run' node b in
        let empty : length (deeds_of node (take b run')) ≡ 0 = omega arith in
        sym (nil_from_length (deeds_of node (take b run')) empty)
    same_to node (suc a) =
        subst (SameTo node) (add-one a) (λ b le within within' e.
        let (act, here) = act_at run a (omega arith) in
        elim (cases_eq act.node node) [
          | inr other ↦
              let same = count_of-same any_deed run node a act.node act.deed here (λ own is. other own) in
              deeds_of-not_here run a node act.node act.deed here other
              ∙ same_to node a b (omega arith) (omega arith) within' (sym same ∙ e)
          | inl own ↦ shrunk node a act.deed (Does-node own here) (same_to node a) (omega arith) b within' e
        ])

    pub same_deeds : (node a b : ℕ) → a ≤ j → a ≤ length run → b ≤ length run' → acts_before run node a ≡ acts_before run' node b
        → deeds_of node (take a run) ≡ deeds_of node (take b run')
    same_deeds node a = same_to node a

    same_count : (kind : Deed → Bool) (node a b : ℕ) → a ≤ j → a ≤ length run → b ≤ length run' → acts_before run node a ≡ acts_before run' node b
        → count_of kind node (take a run) ≡ count_of kind node (take b run')
    same_count kind node a b le within within' e =
        count_of-deeds kind node (take a run) ∙ ap (count_by kind) (same_deeds node a b le within within' e) ∙ sym (count_of-deeds kind node (take b run'))

    -- a node's deeds of one kind that have as many of that kind before them have the same states
    same_nth : (kind : Deed → Bool) (node q q' : ℕ) (d e : Deed) → q < j → Does run q node d → kind d ≡ true → Does run' q' node e → kind e ≡ true
        → count_of kind node (take q run) ≡ count_of kind node (take q' run') → slice_get states q ≡ slice_get states' q'
    same_nth kind node q q' d e lt here is there is' count =
        let in_run = Does-within here in
        let in_run' = Does-within there in
        elim (cases_lt (acts_before run node q) (acts_before run' node q')) [
          | inl less ↦
              let (x, least, most, (f, does, any, number)) = counted_in any_deed run' node 0 q' (acts_before run node q) (omega arith)
              (omega arith) (omega arith) less in
              let deed = ((earlier q lt).same node x d f here does (sym number)).0 in
              let passes : kind f ≡ true = ap kind (sym deed) ∙ is in
              let same = same_count kind node q x (omega arith) (omega arith) (omega arith) (sym number) in
              let more = count_of-more kind run' node x f does passes in
              let rises = count_of-rises kind run' node (x + 1) q' (omega arith) in
              absurd (omega arith)
          | inr most ↦
              elim (cases_lt (acts_before run' node q') (acts_before run node q)) [
                | inl less ↦
                    let (x, least, below, (f, does, any, number)) = counted_in any_deed run node 0 q (acts_before run' node q') (omega arith)
                    (omega arith) (omega arith) less in
                    let deed = ((earlier x (omega arith)).same node q' f e does there number).0 in
                    let passes : kind f ≡ true = ap kind deed ∙ is' in
                    let same = same_count kind node x q' (omega arith) (omega arith) (omega arith) number in
                    let more = count_of-more kind run node x f does passes in
                    let rises = count_of-rises kind run node (x + 1) q (omega arith) in
                    absurd (omega arith)
                | inr least ↦ ((earlier q lt).same node q' d e here there (omega arith)).1
              ]
        ]

    -- the state of a node before its act
    same_before : (rule : LocalRule S) (node i : ℕ) → j ≤ length run → i ≤ length run' → acts_before run node j ≡ acts_before run' node i
        → state_before rule run states node j ≡ state_before rule run' states' node i
    same_before rule node i within within' e =
        ap (λ o. unwrap_or o (rule.start node)) (
        elim (last-cases (acts_at run node) states j) [
          | inl (none, never) ↦
              let zero_here = idle any_deed run node 0 j (omega arith) within (λ k d least most does is. never k most (acts_at-true run k node d does)) in
              elim (last-cases (acts_at run' node) states' i) [
                | inl (none', never') ↦ none ∙ sym none'
                | inr (q', lt', passes', last', is') ↦
                    let (d', does') = acts_at-act run' q' node passes' in
                    let more = count_behind_last any_deed run' node q' i d' lt' within' does' refl
                    (λ k f after before does is. last' k after before (acts_at-true run' k node f does)) in
                    absurd (omega arith)
              ]
          | inr (q, lt, passes, last, is) ↦
              let (d, does) = acts_at-act run q node passes in
              let more = count_behind_last any_deed run node q j d lt within does refl
              (λ k f after before does' is'. last k after before (acts_at-true run k node f does')) in
              elim (last-cases (acts_at run' node) states' i) [
                | inl (none', never') ↦
                    let zero_there = idle any_deed run' node 0 i (omega arith) within'
                    (λ k f least most does' is'. never' k most (acts_at-true run' k node f does')) in
                    absurd (omega arith)
                | inr (q', lt', passes', last', is') ↦
                    let (d', does') = acts_at-act run' q' node passes' in
                    let more' = count_behind_last any_deed run' node q' i d' lt' within' does' refl
                    (λ k f after before does'' is''. last' k after before (acts_at-true run' k node f does'')) in
                    is ∙ ((earlier q lt).same node q' d d' does does' (omega arith)).1 ∙ sym is'
              ]
        ]
        )

    -- the state at the last release of a lock that both acquire next
    module _ (nodes l node i : ℕ) (sync : IsWellSynchronized nodes run) (sync' : IsWellSynchronized nodes run')
        (locks : OneBeginsOther (acquirers l run) (acquirers l run')) (here : Does run j node (Acquire l)) (there : Does run' i node (Acquire l))
        (e : acts_before run node j ≡ acts_before run' node i) where
      same_acquirers : acquirers l (take j run) ≡ acquirers l (take i run')
      same_acquirers =
          let within = Does-within here in
          let within' = Does-within there in
          same_place_begun node (acquirers l (take j run)) (acquirers l (take i run')) (acquirers l (drop (j + 1) run)) (acquirers l (drop (i + 1) run'))
          (subst (λ xs. OneBeginsOther xs (acquirers l (take i run') ++ node ∷ acquirers l (drop (i + 1) run'))) (acquirers-split run j node l here)
          (subst (λ xs. OneBeginsOther (acquirers l run) xs) (acquirers-split run' i node l there) locks))
          (
          count-acquirers l node (take j run)
          ∙ same_count (is_acquire l) node j i (omega arith) (omega arith) (omega arith) e
          ∙ sym (count-acquirers l node (take i run'))
          )

      -- each node has released it as often in both
      same_releases : (m : ℕ) → count_of (is_release l) m (take j run) ≡ count_of (is_release l) m (take i run')
      same_releases m =
          sym (released_as_often nodes run sync l j node here m)
          ∙ sym (count-acquirers l m (take j run))
          ∙ ap (count_by (is_number m)) same_acquirers
          ∙ count-acquirers l m (take i run')
          ∙ released_as_often nodes run' sync' l i node there m

      same_released : released_state run states l j ≡ released_state run' states' l i
      same_released =
          let within = Does-within here in
          let within' = Does-within there in
          elim (last-cases (releases_at run l) states j) [
            | inl (none, never) ↦
                elim (last-cases (releases_at run' l) states' i) [
                  | inl (none', never') ↦ none ∙ sym none'
                  | inr (q', lt', passes', last', is') ↦
                      let (m, does') = releases_at-act run' q' l passes' in
                      let zero_here = idle (is_release l) run m 0 j (omega arith) (omega arith)
                      (λ k f least most does is. never k most (released_there run k m f does is)) in
                      let more = count_behind_last (is_release l) run' m q' i (Release l) lt' (omega arith) does' (is_release-own l)
                      (λ k f after before does is. last' k after before (released_there run' k m f does is)) in
                      let same = same_releases m in
                      absurd (omega arith)
                ]
            | inr (q, lt, passes, last, is) ↦
                let (m, does) = releases_at-act run q l passes in
                let more = count_behind_last (is_release l) run m q j (Release l) lt (omega arith) does (is_release-own l)
                (λ k f after before does' is'. last k after before (released_there run k m f does' is')) in
                elim (last-cases (releases_at run' l) states' i) [
                  | inl (none', never') ↦
                      let zero_there = idle (is_release l) run' m 0 i (omega arith) (omega arith)
                      (λ k f least most does' is'. never' k most (released_there run' k m f does' is')) in
                      let same = same_releases m in
                      absurd (omega arith)
                  | inr (q', lt', passes', last', is') ↦
                      let (m', does') = releases_at-act run' q' l passes' in
                      let (xs, ends) = last_acquirer nodes run sync l j node here q m lt does
                      (λ k p after before r. last k after before (releases_at-true run k p l r)) in
                      let (xs', ends') = last_acquirer nodes run' sync' l i node there q' m' lt' does'
                      (λ k p after before r. last' k after before (releases_at-true run' k p l r)) in
                      let own : m ≡ m' = same_last xs xs' m m' (sym ends ∙ same_acquirers ∙ ends') in
                      let does'' : Does run' q' m (Release l) = Does-node (sym own) does' in
                      let more' = count_behind_last (is_release l) run' m q' i (Release l) lt' (omega arith) does'' (is_release-own l)
                      (λ k f after before does' is'. last' k after before (released_there run' k m f does' is')) in
                      let same = same_releases m in
                      is ∙ same_nth (is_release l) m q q' (Release l) (Release l) lt does (is_release-own l) does'' (is_release-own l) (omega arith) ∙ sym is'
                ]
          ]
        where
          released_there : (acts : List Act) (k m : ℕ) (f : Deed) → Does acts k m f → is_release l f ≡ true → releases_at acts l k ≡ true
          released_there acts k m f does is = releases_at-true acts k m l (Does-deed (is_release-deed l f is) does)

    -- the states at the arrives at a barrier from which both depart next
    module _ (nodes node i : ℕ) (sync : IsWellSynchronized nodes run) (sync' : IsWellSynchronized nodes run')
        (in_nodes : (k p : ℕ) (d : Deed) → Does run k p d → p < nodes) (in_nodes' : (k p : ℕ) (d : Deed) → Does run' k p d → p < nodes)
        (here : Does run j node Depart) (there : Does run' i node Depart) (number : ℕ)
        (departs : departs_before run node j ≡ number) (departs' : departs_before run' node i ≡ number) where
      arrives_there-act : (acts : List Act) (p k : ℕ) → arrives_there acts number p k ≡ true → Does acts k p Arrive × (arrives_before acts p k ≡ number)
      arrives_there-act acts p k h =
          let both = and_parts (arrives_at acts number k) (acts_at acts p k) h in
          let (m, does, is) = arrives_at-act acts k number both.0 in
          let (d, does') = acts_at-act acts k p both.1 in
          let own : m ≡ p = Does-one_node does does' in
          (Does-node own does, subst (λ n. arrives_before acts n k ≡ number) own is)

      arrives_there-true : (acts : List Act) (p k : ℕ) → Does acts k p Arrive → arrives_before acts p k ≡ number → arrives_there acts number p k ≡ true
      arrives_there-true acts p k does is =
          and_from (arrives_at acts number k) (acts_at acts p k) (arrives_at-true acts k p number does is) (acts_at-true acts k p Arrive does)

      same_arrived : (p : ℕ) → arrived_state run states number j p ≡ arrived_state run' states' number i p
      same_arrived p =
          let within = Does-within here in
          let within' = Does-within there in
          elim (last-cases (arrives_there run number p) states j) [
            | inl (none, never) ↦
                elim (last-cases (arrives_there run' number p) states' i) [
                  | inl (none', never') ↦ none ∙ sym none'
                  | inr (q', lt', passes', last', is') ↦
                      let (does', count') = arrives_there-act run' p q' passes' in
                      let enough = sync.departs j node here p (in_nodes' q' p Arrive does') in
                      let (x, before, does, count) = numbered_arrive run p j number (omega arith) (omega arith) in
                      absurd (never x before (arrives_there-true run p x does count))
                ]
            | inr (q, lt, passes, last, is) ↦
                let (does, count) = arrives_there-act run p q passes in
                elim (last-cases (arrives_there run' number p) states' i) [
                  | inl (none', never') ↦
                      let enough = sync'.departs i node there p (in_nodes q p Arrive does) in
                      let (x, before, does', count') = numbered_arrive run' p i number (omega arith) (omega arith) in
                      absurd (never' x before (arrives_there-true run' p x does' count'))
                  | inr (q', lt', passes', last', is') ↦
                      let (does', count') = arrives_there-act run' p q' passes' in
                      is ∙ same_nth is_arrive p q q' Arrive Arrive lt does refl does' refl (count ∙ sym count') ∙ sym is'
                ]
          ]

module _ {S : Type 0} (rule : LocalRule S) (value : S → ℕ → ℕ) (program : Program) (nodes : ℕ) (run run' : List Act) (states states' : List S)
    (first : IsRuled rule value program nodes run states) (second : IsRuled rule value program nodes run' states')
    (locks : (l : ℕ) → OneBeginsOther (acquirers l run) (acquirers l run')) where
  module _ (j : ℕ) (earlier : (k : ℕ) → k < j → IsShared run run' states states' k) (node i : ℕ) (d e : Deed)
      (here : Does run j node d) (there : Does run' i node e) (equal : acts_before run node j ≡ acts_before run' node i) where
    in_run : j < length run
    in_run = Does-within here

    in_run' : i < length run'
    in_run' = Does-within there

    before : state_before rule run states node j ≡ state_before rule run' states' node i
    before = let a = in_run in let b = in_run' in same_before run run' states states' j earlier rule node i (omega arith) (omega arith) equal

    deeds : deeds_of node (take j run) ≡ deeds_of node (take i run')
    deeds = let a = in_run in let b = in_run' in same_deeds run run' states states' j earlier node j i (omega arith) (omega arith) (omega arith) equal

    same_deed : d ≡ e
    same_deed =
        let lt = first.keeps.in_range j node d here in
        let start = start_of program nodes node in
        let made : Makes (Some start) (deeds_of node (take j run) ++ d ∷ deeds_of node (drop (j + 1) run)) =
        subst (λ ds. Makes (Some start) ds) (deeds_of-split run j node d here) (first.follows.each node lt) in
        let made' : Makes (Some start) (deeds_of node (take j run) ++ e ∷ deeds_of node (drop (i + 1) run')) =
        subst (λ ds. Makes (Some start) ds) (deeds_of-split run' i node e there ∙ ap (λ ds. ds ++ e ∷ deeds_of node (drop (i + 1) run')) (sym deeds))
        (second.follows.each node lt) in
        elim (next_deeds (Some start) (deeds_of node (take j run)) d e (deeds_of node (drop (j + 1) run)) (deeds_of node (drop (i + 1) run')) made made') [
          | inl same ↦ same
          | inr (w, u, v, is, is') ↦
              let a = first.reads j node w u (Does-deed is here) in
              let b = second.reads i node w v (Does-deed is' there) in
              is ∙ ap (λ x. Read w x) (a ∙ ap (λ s. value s w) before ∙ sym b) ∙ sym is'
        ]

    same_after : (x : Deed) → Does run j node x → Does run' i node x → state_after rule run states j node x ≡ state_after rule run' states' i node x
    same_after (Acquire l) a b =
        ap (λ s. rule.acquire node s (released_state run states l j)) before
        ∙ ap (λ o. rule.acquire node (state_before rule run' states' node i) o)
        (same_released run run' states states' j earlier nodes l node i first.synchronized second.synchronized (locks l) a b equal)
    same_after Depart a b =
        let within = in_run in
        let within' = in_run' in
        let number : departs_before run node j ≡ departs_before run' node i =
        same_count run run' states states' j earlier is_depart node j i (omega arith) (omega arith) (omega arith) equal in
        ap (λ s. rule.depart node s (arrived_state run states (departs_before run node j) j)) before
        ∙ ap (λ n. rule.depart node (state_before rule run' states' node i) (arrived_state run states n j)) number
        ∙ ap (λ f. rule.depart node (state_before rule run' states' node i) f) (
        same_function (same_arrived run run' states states' j earlier nodes node i first.synchronized second.synchronized first.keeps.in_range
        second.keeps.in_range a b (departs_before run' node i) number refl)
        )
    same_after x a b = ap (λ s. rule.alone node x s) before

    same_state : slice_get states j ≡ slice_get states' i
    same_state =
        first.keeps.follows j node d here
        ∙ ap (λ s. Some s) (same_after d here (Does-deed (sym same_deed) there))
        ∙ ap (λ (x : Deed). Some (state_after rule run' states' i node x)) same_deed
        ∙ sym (second.keeps.follows i node e there)

  shared_below : (n j : ℕ) → j < n → IsShared run run' states states' j
  shared_below zero j lt = absurd (omega arith)
  shared_below (suc n) j lt =
      let earlier : (k : ℕ) → k < j → IsShared run run' states states' k = λ k less. shared_below n k (omega arith) in
      record {
        same = λ node i d e here there equal.
            (same_deed j earlier node i d e here there equal, same_state j earlier node i d e here there equal);
      }

  pub shared : (j : ℕ) → IsShared run run' states states' j
  shared j = shared_below (j + 1) j (omega arith)

-- where a node has made so many acts
reached : (run : List Act) (node n : ℕ) → n ≤ acts_before run node (length run) → (j : ℕ) × (j ≤ length run) × (acts_before run node j ≡ n)
reached run node n few =
    elim (cases_lt n (acts_before run node (length run))) [
      | inr most ↦ (length run, omega arith, omega arith)
      | inl less ↦
          let (j, least, most, (d, does, any, count)) = counted_in any_deed run node 0 (length run) n (omega arith) (omega arith) (omega arith) less in
          (j, omega arith, count)
    ]

begun_by_part : (run : List Act) (node j : ℕ) (xs : List Deed) → xs ≡ deeds_of node (take j run) → Begins xs (deeds_of node run)
begun_by_part run node j xs is = (
  deeds_of node (drop j run),
  ap (λ ys. ys ++ deeds_of node (drop j run)) is ∙ sym (deeds_of-append node (take j run) (drop j run)) ∙ ap (deeds_of node) (take-append-drop j run),
)

pub one_begins : {S : Type 0} (rule : LocalRule S) (value : S → ℕ → ℕ) (program : Program) (nodes : ℕ) (run run' : List Act) (states states' : List S)
    → IsRuled rule value program nodes run states → IsRuled rule value program nodes run' states'
    → ((l : ℕ) → OneBeginsOther (acquirers l run) (acquirers l run')) → (node : ℕ) → OneBeginsOther (deeds_of node run) (deeds_of node run')
one_begins rule value program nodes run run' states states' first second locks node =
    let earlier : (k : ℕ) → k < length run → IsShared run run' states states' k =
    λ k lt. shared rule value program nodes run run' states states' first second locks k in
    let whole : deeds_of node (take (length run) run) ≡ deeds_of node run = ap (deeds_of node) (take_all (length run) run (omega arith)) in
    let whole' : deeds_of node (take (length run') run') ≡ deeds_of node run' = ap (deeds_of node) (take_all (length run') run' (omega arith)) in
    elim (cases_lt (acts_before run' node (length run')) (acts_before run node (length run))) [
      | inl less ↦
          let (j, within, count) = reached run node (acts_before run' node (length run')) (omega arith) in
          inr (begun_by_part run node j (deeds_of node run') (sym whole'
          ∙ sym (same_deeds run run' states states' (length run) earlier node j (length run') within within (omega arith) count)))
      | inr most ↦
          let (i, within, count) = reached run' node (acts_before run node (length run)) most in
          inl (begun_by_part run' node i (deeds_of node run) (sym whole
          ∙ same_deeds run run' states states' (length run) earlier node (length run) i (omega arith) (omega arith) within (sym count)))
    ]

-- where nobody acquires a lock, it has no acquirer
pub no_acquirer : (run : List Act) → ((j node l : ℕ) → Does run j node (Acquire l) → ⊥) → (l : ℕ) → acquirers l run ≡ []
no_acquirer run none l = none_at_all (acquirers l run) (λ n.
    let never = idle (is_acquire l) run n 0 (length run) (omega arith) (omega arith)
    (λ k d least most does is. none k n l (Does-deed (is_acquire-deed l d is) does)) in
    let whole = ap (λ acts. count_of (is_acquire l) n acts) (take_all (length run) run (omega arith)) in
    let same = count-acquirers l n run in
    omega arith)
