-- Intervals never fall, and rise exactly at an acquire, a release or an arrive.
use Rattle.std.proofs.Common.{◌≡◌, ℕ, zero, suc, ◌+◌, ◌<◌, ◌≤◌, List, Bool, true, false, ◌&&◌, inl, inr, length, get_or}
use Rattle.std.proofs.Common.{take, sym, subst, ◌∙◌, ap, refl, arith, eq-eqb, add-zero, ◌∷◌, [], ◌-◌, cond}
use Rattle.std.specs.Prelude.{IsTrue, ◌==◌, ◌↔◌}
use Rattle.std.proofs.lemmas.Bool.{cases_Bool, cases_eq, cases_lt, both_ways, false≢true, and_parts, and_from, eqb-true}
use Rattle.std.proofs.lemmas.List.{take-take, take_all}
use Rattle.std.proofs.lemmas.List.Sums.{sum_by-take-le, count_by_more_yes, count_by_more_no}
use Rattle.std.proofs.lemmas.Option.{get_or_from_slice_get}
use Rattle.lrc_trace.specs.declared.act.Act.{Act}
use Rattle.lrc_trace.specs.declared.act.Deed.{Deed}
use Rattle.lrc_trace.specs.declared.act.Deed.TheVariants.{Arrive, Depart}
use Rattle.lrc_trace.specs.Run.{Does, act_of, is_arrive, is_depart, count_of, arrives_before, departs_before}
use Rattle.lrc_trace.specs.Conflict.{Accesses}
use Rattle.lrc_trace.specs.Interval.{closes, interval_at}
use Rattle.lrc_trace.proofs.Positions.{Does-deed, Does-within}

-- whether an act is of this kind and of this node
abbrev is_of : (Deed → Bool) → ℕ → Act → Bool
is_of kind node a = a.node == node && kind a.deed

module _ (kind : Deed → Bool) (run : List Act) where
  -- a count never falls along the run
  pub count_of-rises : (node i j : ℕ) → i ≤ j → count_of kind node (take i run) ≤ count_of kind node (take j run)
  count_of-rises node i j le = rw (← take-take i j run le) (sum_by-take-le (λ (a : Act). cond (is_of kind node a) 1 0) (take j run) i)

  -- it rises by one at an act of this kind and of this node
  pub count_of-more : (node i : ℕ) (d : Deed) → Does run i node d → kind d ≡ true
      → count_of kind node (take (i + 1) run) ≡ count_of kind node (take i run) + 1
  count_of-more node i d h k =
      let a = act_of node d in
      let at : get_or run i a ≡ a = get_or_from_slice_get run i a a h.stands in
      count_by_more_yes (is_of kind node) run i a (Does-within h) (ap (is_of kind node) at ∙ and_from (node == node) (kind d) (eq-eqb node node refl) k)

  -- and stays at any other act
  pub count_of-same : (node i other : ℕ) (d : Deed) → Does run i other d → ((other ≡ node) → kind d ≡ true → ⊥)
      → count_of kind node (take (i + 1) run) ≡ count_of kind node (take i run)
  count_of-same node i other d h k =
      let a = act_of other d in
      let at : get_or run i a ≡ a = get_or_from_slice_get run i a a h.stands in
      let no : is_of kind node a ≡ false = elim (cases_Bool (is_of kind node a)) [
        | inl passes ↦ let both = and_parts (other == node) (kind d) passes in absurd (k (eqb-true other node both.0) both.1)
        | inr fails ↦ fails
      ] in
      count_by_more_no (is_of kind node) run i a (Does-within h) (ap (is_of kind node) at ∙ no)

-- some act stands at each position within the run
pub act_at : (run : List Act) (i : ℕ) → i < length run → (a : Act) × Does run i a.node a.deed
act_at (a ∷ run) zero h = (a, record { stands = refl })
act_at (a ∷ run) (suc i) h = let found = act_at run i (omega arith) in (found.0, record { stands = found.1.stands })
act_at [] i h = absurd (omega arith)

pub never_fall : (run : List Act) (node i j : ℕ) → i ≤ j → interval_at run node i ≤ interval_at run node j
never_fall run node i j le = let h = count_of-rises closes run node i j le in omega arith

-- where no closing act of the node stands between, the count stays
stays : (run : List Act) (node i n : ℕ) → i + n ≤ length run → ((k : ℕ) (d : Deed) → i ≤ k → k < i + n → Does run k node d → IsTrue (closes d) → ⊥)
    → count_of closes node (take (i + n) run) ≡ count_of closes node (take i run)
stays run node i zero h none = ap (λ k. count_of closes node (take k run)) (add-zero i)
stays run node i (suc n) h none =
    let found = act_at run (i + n) (omega arith) in
    let same = count_of-same closes run node (i + n) found.0.node found.0.deed found.1 (λ e t. none (i + n) found.0.deed (omega arith) (omega arith) (subst
    (λ m. Does run (i + n) m found.0.deed) e found.1) t) in
    let step : i + suc n ≡ i + n + 1 = omega arith in
    ap (λ k. count_of closes node (take k run)) step ∙ same ∙ stays run node i n (omega arith) (λ k d le lt. none k d le (omega arith))

pub same_then_none : (run : List Act) (node i j : ℕ) → interval_at run node i ≡ interval_at run node j → (k : ℕ) (d : Deed) → i ≤ k → k < j
    → Does run k node d → IsTrue (closes d) → ⊥
same_then_none run node i j e k d le lt h t =
    let more = count_of-more closes run node k d h t in
    let before = count_of-rises closes run node i k le in
    let after = count_of-rises closes run node (k + 1) j (omega arith) in
    omega arith

pub none_then_same : (run : List Act) (node i j : ℕ) → i < j → j ≤ length run → ((k : ℕ) (d : Deed) → i ≤ k → k < j → Does run k node d → IsTrue (closes d)
    → ⊥) → interval_at run node i ≡ interval_at run node j
none_then_same run node i j lt in_run none =
    let e : i + (j - i) ≡ j = omega arith in
    let h = stays run node i (j - i) (omega arith) (λ k d le lt'. none k d le (omega arith)) in
    ap (λ n. 1 + n) (sym h ∙ ap (λ k. count_of closes node (take k run)) e)

-- behind the end of the run nothing stands, so the count stays there
behind_the_end : (run : List Act) (node j : ℕ) → length run ≤ j → interval_at run node j ≡ interval_at run node (length run)
behind_the_end run node j long =
    ap (λ acts. 1 + count_of closes node acts) (take_all j run long ∙ sym (take_all (length run) run (omega arith)))

none_within : (run : List Act) (node i j : ℕ) → i ≤ j → j ≤ length run
    → ((k : ℕ) (d : Deed) → i ≤ k → k < j → Does run k node d → IsTrue (closes d) → ⊥) → interval_at run node i ≡ interval_at run node j
none_within run node i j le in_run none =
    elim (cases_lt i j) [
      | inl before ↦ none_then_same run node i j before in_run none
      | inr not_before ↦ let same : i ≡ j = omega arith in ap (interval_at run node) same
    ]

none_anywhere : (run : List Act) (node i j : ℕ) → i ≤ j
    → ((k : ℕ) (d : Deed) → i ≤ k → k < j → Does run k node d → IsTrue (closes d) → ⊥) → interval_at run node i ≡ interval_at run node j
none_anywhere run node i j le none =
    elim (cases_lt j (length run)) [
      | inl inside ↦ none_within run node i j le (omega arith) none
      | inr outside ↦
          elim (cases_lt i (length run)) [
            | inl starts_inside ↦
                none_within run node i (length run) (omega arith) (omega arith) (λ k d least most. none k d least (omega arith))
                ∙ sym (behind_the_end run node j (omega arith))
            | inr starts_outside ↦ behind_the_end run node i (omega arith) ∙ sym (behind_the_end run node j (omega arith))
          ]
    ]

-- a node is in one interval at two positions exactly where no closing act of it stands between
pub same_without_close : (run : List Act) (node i j : ℕ) → i ≤ j
    → (interval_at run node i ≡ interval_at run node j) ↔ ((k : ℕ) (d : Deed) → i ≤ k → k < j → Does run k node d → IsTrue (closes d) → ⊥)
same_without_close run node i j le = (same_then_none run node i j, none_anywhere run node i j le)

-- and behind a closing act of it it is in the next
pub next_behind_close : (run : List Act) (node i : ℕ) (d : Deed) → Does run i node d → IsTrue (closes d)
    → interval_at run node (i + 1) ≡ interval_at run node i + 1
next_behind_close run node i d does closing = let more = count_of-more closes run node i d does closing in omega arith

Accesses-within : {run : List Act} {i node word : ℕ} → Accesses run i node word → i < length run
Accesses-within (inl (value, h)) = Does-within h
Accesses-within (inr (value, h)) = Does-within h

pub same_interval : (run : List Act) (node i j v w : ℕ) → i < j → Accesses run i node v → Accesses run j node w
    → (interval_at run node i ≡ interval_at run node j) ↔ ((k : ℕ) (d : Deed) → i ≤ k → k < j → Does run k node d → IsTrue (closes d) → ⊥)
same_interval run node i j v w lt a b =
    let in_run = Accesses-within b in
    (same_then_none run node i j, none_then_same run node i j lt (omega arith))

-- Where a count has passed c from a on, it did so at a deed of this kind that has c before it.
counted_between : (kind : Deed → Bool) (run : List Act) (node a n c : ℕ) → a + n ≤ length run → count_of kind node (take a run) ≤ c
    → c < count_of kind node (take (a + n) run)
    → (i : ℕ) × (a ≤ i) × (i < a + n) × ((d : Deed) × Does run i node d × (kind d ≡ true) × (count_of kind node (take i run) ≡ c))
counted_between kind run node a zero c within from to =
    let e : count_of kind node (take (a + zero) run) ≡ count_of kind node (take a run) = ap
    (λ k. count_of kind node (take k run)) (add-zero a) in absurd (omega arith)
counted_between kind run node a (suc n) c within from to =
    let step : a + suc n ≡ a + n + 1 = omega arith in
    let to' : c < count_of kind node (take (a + n + 1) run) = subst (λ k. c < count_of kind node (take k run)) step to in
    elim (cases_lt c (count_of kind node (take (a + n) run))) [
      | inl below ↦
          let (i, least, most, found) = counted_between kind run node a n c (omega arith) from below in
          (i, least, omega arith, found)
      | inr reached ↦
          let (act, does) = act_at run (a + n) (omega arith) in
          elim (cases_eq act.node node) [
            | inr other ↦
                let same = count_of-same kind run node (a + n) act.node act.deed does (λ e k. other e) in
                absurd (omega arith)
            | inl own ↦
                let does' : Does run (a + n) node act.deed = subst (λ m. Does run (a + n) m act.deed) own does in
                elim (cases_Bool (kind act.deed)) [
                  | inl passes ↦
                      let more = count_of-more kind run node (a + n) act.deed does' passes in
                      (a + n, omega arith, omega arith, (act.deed, does', passes, omega arith))
                  | inr fails ↦
                      let same = count_of-same kind run node (a + n) node act.deed does' (λ e. both_ways (kind act.deed) fails) in
                      absurd (omega arith)
                ]
          ]
    ]

pub counted_in : (kind : Deed → Bool) (run : List Act) (node a b c : ℕ) → a ≤ b → b ≤ length run → count_of kind node (take a run) ≤ c
    → c < count_of kind node (take b run)
    → (i : ℕ) × (a ≤ i) × (i < b) × ((d : Deed) × Does run i node d × (kind d ≡ true) × (count_of kind node (take i run) ≡ c))
counted_in kind run node a b c le within from to =
    let long : a + (b - a) ≡ b = omega arith in
    let to' : c < count_of kind node (take (a + (b - a)) run) = subst (λ k. c < count_of kind node (take k run)) (sym long) to in
    let (i, least, most, found) = counted_between kind run node a (b - a) c (omega arith) from to' in
    (i, least, omega arith, found)

-- so each arrive and each depart that was made before a position stands somewhere before
pub numbered_arrive : (run : List Act) (node j number : ℕ) → j ≤ length run → number < arrives_before run node j
    → (i : ℕ) × (i < j) × Does run i node Arrive × (arrives_before run node i ≡ number)
numbered_arrive run node j number within few =
    let (i, least, most, (d, does, is, count)) = counted_in is_arrive run node 0 j number (omega arith) within (omega arith) few in
    (i, most, Does-deed (is_arrive-deed d is) does, count)
  where
    is_arrive-deed : (d : Deed) → is_arrive d ≡ true → d ≡ Arrive
    is_arrive-deed Arrive h = refl
    is_arrive-deed _ h = absurd (false≢true h)

pub numbered_depart : (run : List Act) (node j number : ℕ) → j ≤ length run → number < departs_before run node j
    → (i : ℕ) × (i < j) × Does run i node Depart × (departs_before run node i ≡ number)
numbered_depart run node j number within few =
    let (i, least, most, (d, does, is, count)) = counted_in is_depart run node 0 j number (omega arith) within (omega arith) few in
    (i, most, Does-deed (is_depart-deed d is) does, count)
  where
    is_depart-deed : (d : Deed) → is_depart d ≡ true → d ≡ Depart
    is_depart-deed Depart h = refl
    is_depart-deed _ h = absurd (false≢true h)

-- An interval that the node is in at a, or comes to later, and that is over at b, was closed between.
pub closed_between : (run : List Act) (node a b index : ℕ) → a ≤ b → b ≤ length run → interval_at run node a ≤ index → index < interval_at run node b
    → (i : ℕ) × (a ≤ i) × (i < b) × ((d : Deed) × Does run i node d × (closes d ≡ true) × (interval_at run node i ≡ index))
closed_between run node a b index le within from to =
    let (i, least, most, (d, does, closing, count)) = counted_in closes run node a b (index - 1) le within (omega arith) (omega arith) in
    (i, least, most, (d, does, closing, omega arith))
