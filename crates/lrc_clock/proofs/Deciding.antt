-- Every run of these nodes has one list of times, so whether times are kept is decided.
use Rattle.std.proofs.Common.{◌≡◌, ℕ, zero, suc, ◌+◌, ◌<◌, ◌≤◌, ◌⊎◌, List, [], ◌∷◌, ◌++◌, length, get_or, take, drop}
use Rattle.std.proofs.Common.{take_all, ext_get_or, inl, inr, refl, sym, subst, ap, ◌∙◌, arith, add-one}
use Rattle.std.proofs.lemmas.Bool.{cases_lt, cases_eq}
use Rattle.std.proofs.lemmas.List.{take_more}
use Rattle.lrc_trace.specs.declared.act.Act.{Act}
use Rattle.lrc_trace.specs.declared.act.Deed.{Deed}
use Rattle.lrc_trace.specs.declared.act.Deed.TheVariants.{Acquire, Release, Arrive, Depart}
use Rattle.lrc_trace.specs.Run.{Does, departs_before}
use Rattle.lrc_trace.proofs.Positions.{Does-read, Does-one_node, Does-within}
use Rattle.lrc_trace.proofs.Intervals.{act_at}
use Rattle.lrc_time.specs.Time.{joined}
use Rattle.lrc_clock.specs.Times.{time_at, raised, acts_at, releases_at, arrives_at, time_before, stamp_at, released_time, arrived_time}
use Rattle.lrc_clock.specs.Keeping.{KeepsTime, next_act_time}
use Rattle.lrc_clock.proofs.Prefixes.{last-same, join-same, keeps-more}
use Rattle.lrc_clock.proofs.Computing.{keeps-none}

module _ (nodes : ℕ) (run : List Act) (in_range : (j node : ℕ) (deed : Deed) → Does run j node deed → node < nodes) where
  exist_to : (n : ℕ) → n ≤ length run → (times : List (List ℕ)) × KeepsTime nodes (take n run) times
  exist_to zero le = ([], keeps-none nodes)
  exist_to (suc n) le =
      let (times, keeps) = exist_to n (omega arith) in
      let (act, does) = act_at run n (omega arith) in
      let time = next_act_time nodes (take n run) times (get_or run n act).node (get_or run n act).deed in
      let lt : (get_or run n act).node < nodes = in_range n (get_or run n act).node (get_or run n act).deed (Does-read run n act (omega arith)) in
      let more = keeps-more nodes (take n run) times (get_or run n act) time keeps lt refl in
      let grown : take (suc n) run ≡ take n run ++ get_or run n act ∷ [] = ap (λ k. take k run) (sym (add-one n)) ∙ take_more run n act (omega arith) in
      (times ++ time ∷ [], subst (λ xs. KeepsTime nodes xs (times ++ time ∷ [])) (sym grown) more)

  pub times_exist : (times : List (List ℕ)) × KeepsTime nodes run times
  times_exist =
      let (times, keeps) = exist_to (length run) (omega arith) in
      (times, subst (λ xs. KeepsTime nodes xs times) (take_all (length run) run (omega arith)) keeps)

-- two lists of times that keep time are one
module _ (nodes : ℕ) (run : List Act) (ts us : List (List ℕ)) (a : KeepsTime nodes run ts) (b : KeepsTime nodes run us) where
  module _ (j : ℕ) (earlier : (k : ℕ) → k < j → time_at ts k ≡ time_at us k) where
    same_before : (node : ℕ) → time_before nodes run ts node j ≡ time_before nodes run us node j
    same_before node = last-same nodes (acts_at run node) (acts_at run node) ts us j (λ k lt. refl) earlier

    same_stamp : (node : ℕ) → stamp_at nodes run ts node j ≡ stamp_at nodes run us node j
    same_stamp node = ap (λ t. raised t node) (same_before node)

    same_released : (l : ℕ) → released_time nodes run ts l j ≡ released_time nodes run us l j
    same_released l = last-same nodes (releases_at run l) (releases_at run l) ts us j (λ k lt. refl) earlier

    same_arrived : (number : ℕ) → arrived_time nodes run ts number j ≡ arrived_time nodes run us number j
    same_arrived number = join-same nodes (arrives_at run number) (arrives_at run number) ts us j (λ k lt. refl) earlier

    same_here : (node : ℕ) (deed : Deed) → Does run j node deed → time_at ts j ≡ time_at us j
    same_here node (Acquire l) h =
        a.acquire j node l h
        ∙ ap (λ t. joined t (released_time nodes run ts l j)) (same_stamp node)
        ∙ ap (λ t. joined (stamp_at nodes run us node j) t) (same_released l)
        ∙ sym (b.acquire j node l h)
    same_here node (Release l) h = a.release j node l h ∙ same_stamp node ∙ sym (b.release j node l h)
    same_here node Arrive h = a.arrive j node h ∙ same_stamp node ∙ sym (b.arrive j node h)
    same_here node Depart h =
        a.depart j node h
        ∙ ap (λ t. joined t (arrived_time nodes run ts (departs_before run node j) j)) (same_before node)
        ∙ ap (λ t. joined (time_before nodes run us node j) t) (same_arrived (departs_before run node j))
        ∙ sym (b.depart j node h)
    same_here node d h = a.others j node d h refl ∙ same_before node ∙ sym (b.others j node d h refl)

  same_below : (n j : ℕ) → j < n → j < length run → time_at ts j ≡ time_at us j
  same_below zero j lt within = absurd (omega arith)
  same_below (suc n) j lt within =
      let (act, does) = act_at run j within in
      same_here j (λ k less. same_below n k (omega arith) (omega arith)) act.node act.deed does

  pub one_list : ts ≡ us
  one_list =
      let timed = a.timed in
      let timed' = b.timed in
      ext_get_or [] ts us (omega arith) (λ j lt. same_below (j + 1) j (omega arith) (omega arith))

-- lists of times are the same, or not
same_numbers : (xs ys : List ℕ) → (xs ≡ ys) ⊎ (xs ≡ ys → ⊥)
same_numbers [] [] = inl refl
same_numbers [] (y ∷ ys) = inr (λ e. let long = ap length e in omega arith)
same_numbers (x ∷ xs) [] = inr (λ e. let long = ap length e in omega arith)
same_numbers (x ∷ xs) (y ∷ ys) =
    elim (cases_eq x y) [
      | inr other ↦ inr (λ e. other (ap (λ zs. get_or zs 0 0) e))
      | inl same ↦
          elim (same_numbers xs ys) [
            | inl rest ↦ inl (ap (λ z. z ∷ xs) same ∙ ap (λ zs. y ∷ zs) rest)
            | inr other ↦ inr (λ e. other (ap (drop 1) e))
          ]
    ]

same_lists_of : (xs ys : List (List ℕ)) → (xs ≡ ys) ⊎ (xs ≡ ys → ⊥)
same_lists_of [] [] = inl refl
same_lists_of [] (y ∷ ys) = inr (λ e. let long = ap length e in omega arith)
same_lists_of (x ∷ xs) [] = inr (λ e. let long = ap length e in omega arith)
same_lists_of (x ∷ xs) (y ∷ ys) =
    elim (same_numbers x y) [
      | inr other ↦ inr (λ e. other (ap (λ zs. get_or zs 0 []) e))
      | inl same ↦
          elim (same_lists_of xs ys) [
            | inl rest ↦ inl (ap (λ z. z ∷ xs) same ∙ ap (λ zs. y ∷ zs) rest)
            | inr other ↦ inr (λ e. other (ap (drop 1) e))
          ]
    ]

-- whether every act is of one of the nodes
in_range_to : (nodes : ℕ) (run : List Act) (n : ℕ) → n ≤ length run → ((j node : ℕ) (deed : Deed) → j < n → Does run j node deed
    → node < nodes) ⊎ (((j node : ℕ) (deed : Deed) → Does run j node deed → node < nodes) → ⊥)
in_range_to nodes run zero le = inl (λ j node deed lt h. absurd (omega arith))
in_range_to nodes run (suc n) le =
    let (act, does) = act_at run n (omega arith) in
    elim (in_range_to nodes run n (omega arith)) [
      | inr out ↦ inr out
      | inl within ↦
          elim (cases_lt act.node nodes) [
            | inr past ↦ inr (λ all. let lt = all n act.node act.deed does in omega arith)
            | inl lt ↦
                inl (λ j node deed less h.
                elim (cases_eq j n) [
                  | inr other ↦ within j node deed (omega arith) h
                  | inl here ↦
                      let same = Does-one_node does (subst (λ k. Does run k node deed) here h) in omega arith
                ])
          ]
    ]

pub decided : (nodes : ℕ) (run : List Act) (times : List (List ℕ)) → KeepsTime nodes run times ⊎ (KeepsTime nodes run times → ⊥)
decided nodes run times =
    elim (in_range_to nodes run (length run) (omega arith)) [
      | inr out ↦ inr (λ keeps. out keeps.in_range)
      | inl within ↦
          let (us, keeps) = times_exist nodes run (λ j node deed h. within j node deed (Does-within h) h) in
          elim (same_lists_of us times) [
            | inl same ↦ inl (subst (λ ts. KeepsTime nodes run ts) same keeps)
            | inr other ↦ inr (λ keeps'. other (one_list nodes run us times keeps keeps'))
          ]
    ]
