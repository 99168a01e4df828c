-- Whether a barrier collects: some node asks at its arrive. It stays so as nodes act that do not arrive there.
use Rattle.std.proofs.Common.{◌≡◌, ℕ, zero, suc, ◌<◌, ◌&&◌, Bool, true, false, List, [], ◌∷◌, ◌++◌, length, inl, inr, refl, sym, ap, ◌∙◌, arith}
use Rattle.std.proofs.Common.{append-nil}
use Rattle.std.specs.Prelude.{◌==◌, Option, Some, None, slice_get}
use Rattle.std.proofs.lemmas.Bool.{cases_Bool, cases_eq, cond-false, or_cases, or_left, or_right, false≢true}
use Rattle.std.proofs.lemmas.List.{length_push}
use Rattle.lrc_trace.specs.declared.act.Act.{Act}
use Rattle.lrc_trace.specs.declared.act.Deed.{Deed}
use Rattle.lrc_trace.specs.declared.act.Deed.TheVariants.{Arrive}
use Rattle.lrc_trace.specs.Run.{act_of, Does, is_arrive, arrives_before}
use Rattle.lrc_trace.proofs.Positions.{slice_get-front, Does-last, Does-one_node, Does-one_deed, arrives_before-prefix}
use Rattle.lrc_clock.specs.Times.{is_act, acts_at, arrives_at}
use Rattle.lrc_clock.proofs.Passing.{arrives_at-act}
use Rattle.lrc_order_laws.proofs.Present.{more_acts}
use Rattle.lrc_exact.specs.LocalRule.{last_state, arrived_state, arrives_there}
use Rattle.lrc_exact.specs.Rule.{State, asks, some_asks}
use Rattle.lrc_exact.proofs.LocalRules.{same_function, last-same}

-- what is true of each when it is true of the other is the same
pub same_bool : (a b : Bool) → (a ≡ true → b ≡ true) → (b ≡ true → a ≡ true) → a ≡ b
same_bool true b into back = sym (into refl)
same_bool false true into back = back refl
same_bool false false into back = refl

-- ---- who asks

pub some_asks-at : (n collect : ℕ) (arrived : ℕ → Option State) → some_asks n collect arrived ≡ true
    → (q : ℕ) × (q < n) × (asks collect (arrived q) ≡ true)
some_asks-at zero collect arrived e = absurd (false≢true e)
some_asks-at (suc n) collect arrived e = elim (or_cases (asks collect (arrived n)) (some_asks n collect arrived) e) [
  | inl here ↦ (n, omega arith, here)
  | inr below ↦
      let (q, lt, is) = some_asks-at n collect arrived below in
      (q, omega arith, is)
]

pub some_asks-by : (n collect q : ℕ) (arrived : ℕ → Option State) → q < n → asks collect (arrived q) ≡ true → some_asks n collect arrived ≡ true
some_asks-by zero collect q arrived lt e = absurd (omega arith)
some_asks-by (suc n) collect q arrived lt e = elim (cases_eq q n) [
  | inl same ↦
      or_left (asks collect (arrived n)) (some_asks n collect arrived) (ap (λ k. asks collect (arrived k)) (sym same) ∙ e)
  | inr other ↦
      or_right (asks collect (arrived n)) (some_asks n collect arrived) (some_asks-by n collect q arrived (omega arith) e)
]

-- ---- one more act

-- the state of the act that a turn makes, if it makes one
abbrev pub more_states : (Deed → State) → Option Deed → List State
more_states next None = []
more_states next (Some d) = next d ∷ []

module _ (acts : List Act) (states : List State) (stated : length states ≡ length acts) (n : ℕ) (number : ℕ) where
  module _ (d : Deed) (state : State) (none : d ≡ Arrive → arrives_before acts n (length acts) ≡ number → ⊥) where
    abbrev longer : List Act
    longer = acts ++ act_of n d ∷ []

    abbrev later : List State
    later = states ++ state ∷ []

    no_arrive : arrives_at longer number (length acts) ≡ false
    no_arrive = elim (cases_Bool (arrives_at longer number (length acts))) [
      | inr not ↦ not
      | inl holds ↦
          let (p, does, same) = arrives_at-act longer (length acts) number holds in
          let own : Does longer (length acts) n d = Does-last acts (act_of n d) in
          let before : arrives_before longer n (length acts) ≡ arrives_before acts n (length acts) =
          arrives_before-prefix acts (act_of n d ∷ []) n (length acts) (omega arith) in
          absurd (none (Does-one_deed own does) (sym before ∙ ap (λ p. arrives_before longer p (length acts)) (Does-one_node own does) ∙ same))
    ]

    same_act : (passes : Act → Bool) (k : ℕ) → k < length acts → is_act passes (slice_get longer k) ≡ is_act passes (slice_get acts k)
    same_act passes k lt = ap (is_act passes) (slice_get-front acts (act_of n d ∷ []) k lt)

    same_arrives : (k : ℕ) → k < length acts → arrives_at longer number k ≡ arrives_at acts number k
    same_arrives k lt = same_act (λ a. is_arrive a.deed && arrives_before longer a.node k == number) k lt ∙ go (slice_get acts k)
      where
        go : (o : Option Act)
            → is_act (λ a. is_arrive a.deed && arrives_before longer a.node k == number) o
            ≡ is_act (λ a. is_arrive a.deed && arrives_before acts a.node k == number) o
        go (Some a) = ap (λ c. is_arrive a.deed && c == number) (arrives_before-prefix acts (act_of n d ∷ []) a.node k (omega arith))
        go None = refl

    size : length longer ≡ suc (length acts)
    size = let e = length_push acts (act_of n d) in omega arith

    arrived_so : (q : ℕ) → arrived_state longer later number (length longer) q ≡ arrived_state acts states number (length acts) q
    arrived_so q =
        ap (λ k. last_state (arrives_there longer number q) later k) size
        ∙ cond-false (arrives_there longer number q (length acts)) (slice_get later (length acts)) (last_state (arrives_there longer number q) later (length acts))
        (ap (λ b. b && acts_at longer q (length acts)) no_arrive)
        ∙ last-same (arrives_there longer number q) (arrives_there acts number q) later states (length acts)
        (λ k lt.
        ap (λ b. b && acts_at longer q k) (same_arrives k lt)
        ∙ ap (λ b. arrives_at acts number k && b) (same_act (λ a. a.node == q) k lt))
        (λ k lt. slice_get-front states (state ∷ []) k (omega arith))

    pub arrived-more : arrived_state longer later number (length longer) ≡ arrived_state acts states number (length acts)
    arrived-more = same_function arrived_so

  -- with the act of a turn, if it makes one that is no arrive with this number
  pub arrived-stays : (next : Deed → State) (deed : Option Deed) → (deed ≡ Some Arrive → arrives_before acts n (length acts) ≡ number → ⊥)
      → arrived_state (acts ++ more_acts n deed) (states ++ more_states next deed) number (length (acts ++ more_acts n deed))
      ≡ arrived_state acts states number (length acts)
  arrived-stays next None none =
      ap (λ xs. arrived_state xs (states ++ []) number (length xs)) (append-nil acts)
      ∙ ap (λ ss. arrived_state acts ss number (length acts)) (append-nil states)
  arrived-stays next (Some d) none = arrived-more d (next d) (λ is. none (ap (λ (d : Deed). Some d) is))
