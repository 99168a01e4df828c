-- An act of a lazy run is followed from where the acts before it have led.
use Rattle.std.proofs.Common.{◌≡◌, ℕ, ◌+◌, ◌<◌, ◌≤◌, ◌^◌, ◌-◌, List, [], ◌∷◌, ◌++◌, drop, length, take, inl, inr, replicate, sym, subst, arith, get_or}
use Rattle.std.specs.Prelude.{Some, slice_index, slice_set}
use Rattle.std.proofs.lemmas.Bool.{cases_lt}
use Rattle.std.proofs.lemmas.List.{get_or-replicate, get_or-set_same, get_or_past, length-replicate, take-append-drop, take_more}
use Rattle.lrc_program.specs.declared.Program.{Program}
use Rattle.lrc_trace.specs.declared.act.Act.{Act}
use Rattle.lrc_trace.specs.declared.act.Deed.{Deed}
use Rattle.lrc_trace.specs.declared.act.Deed.TheVariants.{Read}
use Rattle.lrc_trace.specs.Run.{act_of}
use Rattle.lrc_trace.proofs.Prefixes.{MayGoOn-last}
use Rattle.lrc_exec.specs.declared.spot.Flat.{Flat}
use Rattle.lrc_exec.specs.Plain.{Plain, plain_step}
use Rattle.lrc_exec.specs.declared.state.State.{State}
use Rattle.lrc_exec.specs.States.{plain_at, IsStateOf}
use Rattle.lrc_orders.proofs.Counting.{step_counts}
use Rattle.lrc_lazy.specs.Lazy.{IsLazyRun}
use Rattle.lrc_lazy.specs.Following.{IsFlatOf, IsFollowed, MayFollow, machine_for, poked}
use Rattle.lrc_lazy.proofs.Deeds.{lazy_front}
use Rattle.lrc_lazy.proofs.Following.{StandsAt, coming, makes_other, makes_read, read_within, stands_next}

-- ---- the acts so far, and one more

pub so_far : (acts : List Act) (i : ℕ) (d : Act) → i < length acts → take i acts ++ get_or acts i d ∷ [] ≡ take (i + 1) acts
so_far acts i d lt = sym (take_more acts i d lt)

pub front_lazy : (program : Program) (nodes : ℕ) (acts : List Act) (i : ℕ) (d : Act) → i < length acts
    → IsLazyRun program nodes acts → IsLazyRun program nodes (take i acts ++ get_or acts i d ∷ [])
front_lazy program nodes acts i d lt run =
    subst (IsLazyRun program nodes) (sym (so_far acts i d lt))
    (lazy_front program nodes (take (i + 1) acts) (drop (i + 1) acts) (subst (IsLazyRun program nodes) (sym (take-append-drop (i + 1) acts)) run))

-- ---- the beginning

pub none_arrived : (count node : ℕ) → slice_index (replicate count 0) node ≤ 0
none_arrived count node = elim (cases_lt node count) [
  | inl lt ↦ let zero_is = get_or-replicate {A = ℕ} count node 0 0 lt in omega (arith, zero_is)
  | inr le ↦ let zero_is = get_or_past {X = ℕ} (replicate count 0) node 0 (omega (arith, le, length-replicate {A = ℕ} count 0)) in omega (arith, zero_is)
]

-- ---- an act that comes

module _ (program : Program) (flat : Flat) (start : ℕ) (is : IsFlatOf program flat.nodes flat start) (state : State) (valid : IsStateOf flat state)
    (acts : List Act) (stands : StandsAt program flat.nodes acts (plain_at flat state)) where
  abbrev machine : Plain
  machine = plain_at flat state

  may_make : (node : ℕ) (deed : Deed) → IsLazyRun program flat.nodes (acts ++ act_of node deed ∷ [])
      → (after : Plain) × (plain_step (machine_for flat state deed) node ≡ Some (deed, after))
  may_make node (Read w v) run =
      let c = coming program flat.nodes acts machine stands node (Read w v) run.follows in
      let lt = read_within program flat.nodes acts machine stands node w v c in
      let within : w < length state.memory.items = let long = valid.memory in let words = is.words in omega arith in
      makes_read program flat.nodes acts machine stands node w v (slice_set state.memory.items w v) c (get_or-set_same state.memory.items w v 0 within)
  may_make node deed run =
      let c = coming program flat.nodes acts machine stands node deed run.follows in
      makes_other program flat.nodes acts machine stands node deed state.memory.items c (MayGoOn-last acts (act_of node deed) flat.nodes run.synchronized) (λ w v e. cc)

  pub may_follow : (act : Act) → IsLazyRun program flat.nodes (acts ++ act ∷ []) → slice_index state.arrivals.items act.node < 2 ^ 64 - 1 → MayFollow flat state act
  may_follow act run room =
      let made = may_make act.node act.deed run in
      record {
        valid = valid;
        within = λ w v e.
            let here : IsLazyRun program flat.nodes (acts ++ act_of act.node (Read w v) ∷ []) =
            subst (λ d. IsLazyRun program flat.nodes (acts ++ act_of act.node d ∷ [])) e run in
            let lt = read_within program flat.nodes acts machine stands act.node w v (coming program flat.nodes acts machine stands act.node (Read w v) here.follows) in
            let words = is.words in
            omega arith;
        after = made.0;
        makes = made.1;
        room = room;
      }

  pub follow_on : (act : Act) (new : State) → IsFollowed flat state act new → StandsAt program flat.nodes (acts ++ act ∷ []) (plain_at flat new)
  follow_on act new f = stands_next program flat.nodes acts machine stands act.node act.deed (poked act.deed state.memory.items) (plain_at flat new) f.made

-- a node arrives once more at most
pub counts_on : (flat : Flat) (state new : State) (act : Act) (most : ℕ) → IsFollowed flat state act new → ((node : ℕ) → slice_index state.arrivals.items node ≤ most)
    → (node : ℕ) → slice_index new.arrivals.items node ≤ most + 1
counts_on flat state new act most f few node =
    let less = few node in
    let more = step_counts (machine_for flat state act.deed) (plain_at flat new) act.node node act.deed f.made in
    omega (arith, less, more)
