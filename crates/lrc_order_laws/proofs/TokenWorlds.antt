-- In every run each lock's token is at one node or in one pending grant, locks are acquired and released in turn, and each
-- acquire learns what the last release knew.
use Rattle.std.proofs.Common.{◌≡◌, ℕ, zero, suc, ◌+◌, ◌<◌, ◌≤◌, List, [], ◌∷◌, ◌++◌, length, map, refl, sym, ap, subst, ◌∙◌, inl, inr, arith, zero-add}
use Rattle.std.specs.Prelude.{Option, Some, None, slice_get, slice_set, slice_index_or, option_map, if◌then◌else◌}
use Rattle.std.specs.Option.{option_to_list}
use Rattle.std.specs.List.{range_with_len}
use Rattle.std.proofs.lemmas.Bool.{cases_lt, eq-eqb, ne_eqb}
use Rattle.std.proofs.lemmas.Nat.{mod_below}
use Rattle.std.proofs.lemmas.Option.{slice_get_within}
use Rattle.lrc_program.specs.declared.Program.{Program}
use Rattle.lrc_trace.specs.declared.act.Act.{Act}
use Rattle.lrc_trace.specs.declared.act.Deed.{Deed}
use Rattle.lrc_trace.specs.Run.{act_of}
use Rattle.lrc_time.specs.Time.{zeros}
use Rattle.lrc_time.proofs.Times.{length-zeros, covers-zeros}
use Rattle.lrc_clock.specs.Times.{time_before}
use Rattle.lrc_exec.specs.Meaning.{Setting}
use Rattle.lrc_exec.specs.Plain.{setting_of}
use Rattle.lrc_lock.specs.declared.state.LockState.{LockState}
use Rattle.lrc_lock.specs.declared.state.LockState.TheVariants.{Away, Free}
use Rattle.lrc_lock.specs.Lock.{manager_of}
use Rattle.lrc_lock.specs.Held.{lock_at, first_state}
use Rattle.lrc_envelope.specs.Envelope.{EnvelopeRecord}
use Rattle.lrc_protocol.specs.declared.event.Event.{Event}
use Rattle.lrc_protocol.specs.Node.{OptionsRecord}
use Rattle.lrc_protocol.specs.Run.{Input, EntryRecord, Logged, World, Flying, fresh_world, with_turn, run_of}
use Rattle.lrc_protocol.specs.Follows.{pending}
use Rattle.lrc_protocol.specs.Follows.{turns_of}
use Rattle.lrc_protocol.proofs.Worlds.{IsEntry, get_set_same, get_set_other, fresh_at, run-whole}
use Rattle.lrc_protocol.proofs.Turned.{Turned, Turns, turns}
use Rattle.lrc_protocol.proofs.Induction.{Comes}
use Rattle.lrc_order_laws.specs.Shape.{HasShape}
use Rattle.lrc_order_laws.specs.Present.{IsPresent}
use Rattle.lrc_order_laws.specs.Tokens.{grants_of_lock}
use Rattle.lrc_order_laws.specs.LockLines.{KeepsLocks}
use Rattle.lrc_order_laws.proofs.Shift.{deed_made}
use Rattle.lrc_order_laws.proofs.Shape.{shape_at}
use Rattle.lrc_order_laws.proofs.TextHolds.{acquired_below}
use Rattle.lrc_order_laws.proofs.Held.{Tokened, tokened_at}
use Rattle.lrc_order_laws.proofs.PresentTimes.{AllPresent, all_present, deed_back}
use Rattle.lrc_order_laws.proofs.Pending.{get_within, new_of, Goes, all_pending, pending-goes}
use Rattle.lrc_order_laws.proofs.Sends.{SendingIf, sendings, site_of}
use Rattle.lrc_order_laws.proofs.Reached.{IsReached, KeptByReached, by_reached}
use Rattle.lrc_order_laws.proofs.LockMoves.{Status, absent, free_here, IsNeither, Move, still, status_of}
use Rattle.lrc_order_laws.proofs.LockActs.{nobody-first}
use Rattle.lrc_order_laws.proofs.TokenSteps.{Token, free_at, Stepped, stepped}
use Rattle.lrc_order_laws.proofs.TokenTurns.{Moving, moving}
use Rattle.lrc_order_laws.proofs.PendingGrants.{grants-stay, grants-some, grants-lose, none-sent, one-sent}
use Rattle.lrc_order_laws.proofs.LockLines.{lines-first, lines-more}

-- ---- where each node stands

abbrev pub state_in : ℕ → Option Logged → LockState
state_in l None = Away
state_in l (Some x) = lock_at x.node.locks.held l

abbrev pub status_in : ℕ → List Logged → ℕ → Status
status_in l all m = status_of (state_in l (slice_get all m))

abbrev pub time_in : Option Logged → List ℕ
time_in None = []
time_in (Some x) = x.node.locks.time

abbrev pub times_in : List Logged → ℕ → List ℕ
times_in all m = time_in (slice_get all m)

no_move : {l : ℕ} {s : _} {came : _} {deed : Option Deed} {time : List ℕ} {letters : _} (a b : Status) → a ≡ absent → b ≡ absent
    → Move l s came deed time letters a b → IsNeither l deed
no_move a _ ea eb (still bf d g c) = d
no_move _ _ ea eb m = cc

past : (held : List LockState) (k : ℕ) → length held ≤ k → slice_index_or held k Away ≡ Away
past [] k le = refl
past (x ∷ held) zero le = absurd (omega (arith, le))
past (x ∷ held) (suc k) le = past held k (omega (arith, le))

pub first_at : (me nodes a locks k : ℕ) → k < locks
    → slice_index_or (map (first_state me nodes) (range_with_len a locks)) k Away ≡ first_state me nodes (a + k)
first_at me nodes a zero k lt = absurd (omega (arith, lt))
first_at me nodes a (suc locks) zero lt = ap (first_state me nodes) (omega arith)
first_at me nodes a (suc locks) (suc k) lt = first_at me nodes (a + 1) locks k (omega (arith, lt)) ∙ ap (first_state me nodes) (omega arith)

module _ (program : Program) (nodes : ℕ) (options : OptionsRecord) where
  -- one turn
  module _ (world : World) (flight : List Flying) (n : ℕ) (l after : Logged) (input : Input) (entry : EntryRecord)
      (at : slice_get world.nodes n ≡ Some l) (comes : Comes world n input flight) (i : IsEntry l input entry after)
      (reached : IsReached program nodes options world) (reached' : IsReached program nodes options (with_turn world flight n entry after)) where
    abbrev all : List Logged
    all = slice_set world.nodes n after

    abbrev deed : Option Deed
    deed = deed_made entry.turn

    abbrev time : List ℕ
    time = after.node.locks.time

    known : Tokened (setting_of program nodes n) options (record { node = l.node; turns = turns_of l.log })
    known = tokened_at program nodes options reached.events world n l reached.runs at

    setting : l.node.setting ≡ setting_of program nodes n
    setting = known.shape.setting

    shape : HasShape l.node.setting l.node.locks
    shape = subst (λ (s : Setting). HasShape s l.node.locks) (sym setting) known.shape.shape

    present : AllPresent program nodes options world
    present = all_present program nodes options reached.events world reached.runs

    there : slice_get all n ≡ Some after
    there = get_set_same world.nodes n l after at

    counted : length time ≡ nodes
    counted = (shape_at program nodes options reached'.events (with_turn world flight n entry after) n after reached'.runs there).shape.times

    -- its act
    act_is : entry.turn.act ≡ option_map (act_of n) deed
    act_is =
        let t : Turned l.node entry.turn after.node = subst (Turns l.node) i.turn_is (turns l.node input) in
        let own : entry.turn.act ≡ option_map (act_of n) t.deed = t.act ∙ ap (λ (s : Setting). option_map (act_of s.me) t.deed) setting in
        let made : deed ≡ t.deed = ap (option_map (λ (act : Act). act.deed)) own ∙ deed_back program nodes options n t.deed in
        own ∙ ap (option_map (act_of n)) (sym made)

    abbrev last : List ℕ
    last = time_before nodes world.acts world.times n (length world.acts)

    now : IsPresent n l.node.mail.wait last l.node.locks.time
    now = (present.each n l at).present

    pending_goes : Goes (new_of l.node input) (pending world) entry.turn.out (pending (with_turn world flight n entry after))
    pending_goes = pending-goes program nodes options world flight n l after input entry at comes i
        (all_pending program nodes options reached.events world reached.runs)

    module _ (k : ℕ) where
      move : Moving k l.node input entry.turn after.node
      move =
          moving k l.node known.fits known.waits known.holding shape.tokens
          (λ lock next. subst (λ (s : Setting). lock < s.locks) (sym setting) (acquired_below (setting_of program nodes n) l.node.course known.text lock next))
          input entry.turn after.node (subst (SendingIf l.node input) i.turn_is (sendings l.node input shape))

      abbrev grants : List EnvelopeRecord → List EnvelopeRecord
      grants es = grants_of_lock k es

      was_status : status_in k world.nodes n ≡ status_of (lock_at l.node.locks.held k)
      was_status = ap (λ o. status_of (state_in k o)) at

      now_status : status_in k all n ≡ status_of (lock_at after.node.locks.held k)
      now_status = ap (λ o. status_of (state_in k o)) there

      step : Token k nodes (status_in k world.nodes) (times_in world.nodes) (grants (pending world)) world.acts world.times
          → Stepped k nodes n (status_in k all) (times_in all) (grants (pending (with_turn world flight n entry after))) world.acts world.times deed time
      step token =
          stepped k nodes n (status_in k world.nodes) (status_in k all) (times_in world.nodes) (times_in all)
          (λ m ne. ap (λ o. status_of (state_in k o)) (get_set_other world.nodes n m after (λ e. ne (sym e))))
          (λ m ne. ap time_in (get_set_other world.nodes n m after (λ e. ne (sym e))))
          (site_of l.node) (ap (λ (s : Setting). s.me) setting) (sym (ap time_in at)) time (ap time_in there) counted
          (grants (pending world)) (grants (pending (with_turn world flight n entry after))) (grants entry.turn.out)
          world.acts world.times present.timed deed move.came move.letters
          (grants-stay k (new_of l.node input) move.came (pending world) entry.turn.out (pending
          (with_turn world flight n entry after)) move.brought pending_goes)
          (grants-some k (new_of l.node input) move.came (pending world) entry.turn.out (pending
          (with_turn world flight n entry after)) move.brought pending_goes)
          (grants-lose k (new_of l.node input) move.came (pending world) entry.turn.out (pending
          (with_turn world flight n entry after)) move.brought pending_goes)
          (none-sent k entry.turn.out move.letters move.out)
          (one-sent k entry.turn.out move.letters move.out)
          (λ w. ap time_in at ∙ subst (λ w. IsPresent n w last l.node.locks.time) w now)
          (λ w. ap time_in at ∙ subst (λ w. IsPresent n w last l.node.locks.time) w now)
          (status_of (lock_at l.node.locks.held k)) (status_of (lock_at after.node.locks.held k)) move.move was_status now_status token

      -- the program has no such lock
      beyond : program.locks ≤ k → IsNeither k deed
      beyond le =
          let shape' : HasShape (setting_of program nodes n) after.node.locks =
          (shape_at program nodes options reached'.events (with_turn world flight n entry after) n after reached'.runs there).shape in
          let few : length l.node.locks.held.locks ≤ k = subst (λ m. m ≤ k) (sym known.shape.shape.tokens) le in
          let few' : length after.node.locks.held.locks ≤ k = subst (λ m. m ≤ k) (sym shape'.tokens) le in
          no_move (status_of (lock_at l.node.locks.held k)) (status_of (lock_at after.node.locks.held k))
          (ap status_of (past l.node.locks.held.locks k few)) (ap status_of (past after.node.locks.held.locks k few')) move.move

  -- ---- every run

  pub record AllTokens (world : World) : Type 0 where
    pub each : (l : ℕ) → l < program.locks → 0 < nodes
        → Token l nodes (status_in l world.nodes) (times_in world.nodes) (grants_of_lock l (pending world)) world.acts world.times
    pub lines : KeepsLocks nodes world.acts world.times

  tokens-kept : KeptByReached program nodes options AllTokens
  tokens-kept world flight n l after input entry at comes i reached reached' h =
      let made : Option Deed = deed_made entry.turn in
      let time : List ℕ = after.node.locks.time in
      let some_node : 0 < nodes = omega (arith, subst (λ k. n < k) (count world reached) (slice_get_within world.nodes n l at)) in
      let is : entry.turn.act ≡ option_map (act_of n) made = act_is world flight n l after input entry at comes i reached reached' in
      let stepping : (k : ℕ) → k < program.locks → Stepped k nodes n (status_in k (slice_set world.nodes n after)) (times_in (slice_set world.nodes n after))
      (grants_of_lock k (pending (with_turn world flight n entry after))) world.acts world.times made time =
      λ k lt. step world flight n l after input entry at comes i reached reached' k (h.each k lt some_node) in
      record {
        each = λ k lt some.
            subst (λ act. Token k nodes (status_in k (slice_set world.nodes n after)) (times_in (slice_set world.nodes n after))
            (grants_of_lock k (pending (with_turn world flight n entry after)))
            (world.acts ++ option_to_list act) (world.times ++ map (λ (a : Act). time) (option_to_list act)))
            (sym is) (stepping k lt).token;
        lines =
            subst (λ act. KeepsLocks nodes (world.acts ++ option_to_list act) (world.times ++ map (λ (a : Act). time) (option_to_list act))) (sym is)
            (lines-more nodes world.acts world.times (all_present program nodes options reached.events world reached.runs).timed n time h.lines made
            (λ k e. elim (cases_lt k program.locks) [
              | inl lt ↦ (stepping k lt).acquires e
              | inr le ↦ absurd ((beyond world flight n l after input entry at comes i reached reached' k le).acquire e)
            ])
            (λ k e. elim (cases_lt k program.locks) [
              | inl lt ↦ (stepping k lt).releases e
              | inr le ↦ absurd ((beyond world flight n l after input entry at comes i reached reached' k le).release e)
            ]));
      }
    where
      count : (world : World) → IsReached program nodes options world → length world.nodes ≡ nodes
      count world reached = (run-whole program nodes options reached.events world reached.runs).count

  -- at the start the manager has the token
  first_free : (k : ℕ) (some : 0 < nodes) (x : Logged) → slice_get (fresh_world program nodes options).nodes (manager_of nodes k) ≡ Some x → k < program.locks
      → status_of (lock_at x.node.locks.held k) ≡ free_here (zeros nodes)
  first_free k some x is lt =
      let m : ℕ = manager_of nodes k in
      ap (λ (x : Logged). status_of (lock_at x.node.locks.held k)) (fresh_at program nodes options 0 nodes m x is)
      ∙ ap status_of (first_at (0 + m) nodes 0 program.locks k lt)
      ∙ ap (λ b. status_of (if b then Free (zeros nodes) else Away)) (eq-eqb (manager_of nodes (0 + k)) (0 + m) (ap (manager_of nodes) (zero-add k) ∙ sym
      (zero-add m)))

  first_away : (k q : ℕ) (o : Option Logged) → slice_get (fresh_world program nodes options).nodes q ≡ o → (q ≡ manager_of nodes k → ⊥) → k < program.locks
      → status_of (state_in k o) ≡ absent
  first_away k q None is ne lt = refl
  first_away k q (Some x) is ne lt =
      ap (λ (x : Logged). status_of (lock_at x.node.locks.held k)) (fresh_at program nodes options 0 nodes q x is)
      ∙ ap status_of (first_at (0 + q) nodes 0 program.locks k lt)
      ∙ ap (λ b. status_of (if b then Free (zeros nodes) else Away))
      (ne_eqb (manager_of nodes (0 + k)) (0 + q) (λ e. ne (sym (zero-add q) ∙ sym e ∙ ap (manager_of nodes) (zero-add k))))

  tokens-fresh : AllTokens (fresh_world program nodes options)
  tokens-fresh = record {
    each = λ k lt some.
        let m : ℕ = manager_of nodes k in
        let within : m < length (fresh_world program nodes options).nodes =
        subst (λ j. m < j) (sym (run-whole program nodes options [] (fresh_world program nodes options) refl).count) (mod_below k nodes some) in
        let x : (x : Logged) × (slice_get (fresh_world program nodes options).nodes m ≡ Some x) = get_within
        (fresh_world program nodes options).nodes m within in
        free_at m (zeros nodes) (ap (λ o. status_of (state_in k o)) x.1 ∙ first_free k some x.0 x.1 lt)
        (λ q ne. first_away k q (slice_get (fresh_world program nodes options).nodes q) refl ne lt)
        refl (nobody-first k) refl (length-zeros nodes) (covers-zeros (times_in (fresh_world program nodes options).nodes m) nodes);
    lines = lines-first nodes;
  }

  pub all_tokens : (events : List Event) (world : World) → run_of program nodes options events ≡ Some world → AllTokens world
  all_tokens events world e = by_reached program nodes options AllTokens tokens-kept events world tokens-fresh e

-- a node of a run makes one node at least
pub some_node : (program : Program) (nodes : ℕ) (options : OptionsRecord) (events : List Event) (world : World) (n : ℕ) (l : Logged)
    → run_of program nodes options events ≡ Some world → slice_get world.nodes n ≡ Some l → 0 < nodes
some_node program nodes options events world n l e at =
    let lt : n < nodes = subst (λ k. n < k) (run-whole program nodes options events world e).count (slice_get_within world.nodes n l at) in
    omega (arith, lt)
