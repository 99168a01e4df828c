-- Runs read exactly, and their intervals are the exact memory's.
use Rattle.std.proofs.Common.{◌≡◌, ℕ, ◌+◌, ◌<◌, ◌≤◌, List, Bool, length, refl, sym, ap, subst, ◌∙◌, arith}
use Rattle.std.specs.Prelude.{Some, ◌==◌, Contains, slice_get, if◌then◌else◌}
use Rattle.std.proofs.lemmas.Bool.{and_from, eq-eqb}
use Rattle.lrc_program.specs.declared.Program.{Program}
use Rattle.lrc_trace.specs.Interval.{interval_at}
use Rattle.lrc_time.specs.Time.{entry}
use Rattle.lrc_page.specs.Page.{words_of}
use Rattle.lrc_page.specs.Changes.{change_at}
use Rattle.lrc_clock.specs.Cover.{ClosesAt}
use Rattle.lrc_clock.specs.Keeping.{KeepsTime}
use Rattle.lrc_clock.specs.Times.{time_at, time_before}
use Rattle.lrc_clock.proofs.Counting.{closed_before, own_entry_before}
use Rattle.lrc_clock.proofs.Covering.{closing-entry}
use Rattle.lrc_exec.specs.Follows.{deeds_of, nodes_of_acts}
use Rattle.lrc_store.specs.Store.{StoredRecord}
use Rattle.lrc_copies.specs.Stamps.{stamp_index}
use Rattle.lrc_protocol.specs.declared.event.Event.{Event}
use Rattle.lrc_protocol.specs.Node.{Wait, nothing, grant, departure, access, upkeep, discard, OptionsRecord}
use Rattle.lrc_protocol.specs.Run.{Logged, World, run_of}
use Rattle.lrc_protocol.specs.Follows.{pending}
use Rattle.lrc_protocol.proofs.Texts.{text}
use Rattle.lrc_order_laws.specs.Counts.{closes, count, awaits_acquire}
use Rattle.lrc_order_laws.proofs.Departs.{counted_at}
use Rattle.lrc_order_laws.proofs.OwnEntry.{own_entry}
use Rattle.lrc_order_laws.proofs.Pending.{get_within}
use Rattle.lrc_order_laws.proofs.Timed.{synchronized, waits}
use Rattle.lrc_protocol.proofs.Worlds.{run-whole}
use Rattle.lrc_reading_laws.specs.Written.{made_stamps, changes_on}
use Rattle.lrc_reading_laws.proofs.Closed.History.{History, history_of}
use Rattle.lrc_reading_laws.proofs.Stamped.Lists.{own_between}
use Rattle.lrc_reading_laws.proofs.Stamped.Made.{all_made, all_listed}
use Rattle.lrc_reading_laws.proofs.Whole.{stamps, of_acts}
use Rattle.lrc_exact.specs.LocalRule.{state_before}
use Rattle.lrc_exact.specs.Memory.{Interval}
use Rattle.lrc_exact.specs.Rule.{Shape, State, exact_rule, open_interval, closed, KeepsExact, ReadsExactly}
use Rattle.lrc_exact.proofs.LocalRules.{one_list}
use Rattle.lrc_exact_known.specs.Known.{times_of}
use Rattle.lrc_exact_known.proofs.KeepingTime.{before-time, time-there, times-kept}
use Rattle.lrc_exact_known.proofs.Made.{did_there}
use Rattle.lrc_exact_laws.specs.Laws.{IsExactRun}
use Rattle.lrc_exact_laws.proofs.Deciding.{one_begins}
use Rattle.lrc_exact_reading.specs.Steady.{ReadsSteadily}
use Rattle.lrc_exact_reading.proofs.Giving.{reads_steadily}
use Rattle.lrc_exact_machine.specs.Machine.{exact}
use Rattle.lrc_exact_machine.proofs.Making.{is_made}
use Rattle.lrc_exact_made.specs.Copies.{IsExactly, HasExact}
use Rattle.lrc_exact_worlds.specs.Made.{shape_in, AreExact}
use Rattle.lrc_exact_worlds.specs.Laws.{LocksAloneDecide, WasExactlyMade, ActsFixWhatWasMade}
use Rattle.lrc_exact_turns.proofs.Stands.{standing, number_of, all_at, KnowsMade}
use Rattle.lrc_exact_worlds.proofs.Exact.{AreExactOf}
use Rattle.lrc_exact_worlds.proofs.Start.{all_exact}

module _ (program : Program) (nodes : ℕ) (options : OptionsRecord) (events : List Event) (world : World)
    (run : run_of program nodes options events ≡ Some world) where
  abbrev shape : Shape
  shape = shape_in nodes options

  pub hist : (made : List StoredRecord) × History program nodes options world made
  hist = history_of program nodes options events world run

  abbrev made : List StoredRecord
  made = hist.0

  pub all : AreExactOf nodes options made world.nodes (pending world) world.acts
  all = all_exact program nodes options world hist.0 hist.1

  pub reads_exactly : ReadsExactly shape world.acts
  reads_exactly = record { states = all.states; keeps = all.keeps; reads = all.reads }

  pub exact_run : IsExactRun program shape world.acts
  exact_run = record {
    follows = text program nodes options events world run;
    synchronized = synchronized program nodes options events world run;
    exact = reads_exactly;
  }

  pub order_fixes : exact program shape (nodes_of_acts world.acts) ≡ Some world.acts
  order_fixes = is_made program shape world.acts exact_run

  pub steadily : ReadsSteadily world.acts
  steadily =
      reads_steadily shape world.acts (synchronized program nodes options events world run) (waits program nodes options events world run) reads_exactly

  -- ---- what was made

  timed : KeepsTime nodes world.acts (times_of all.states)
  timed = times-kept shape world.acts all.states all.keeps

  begun : (x : StoredRecord) → Contains made x → 1 ≤ stamp_index made_stamps x
  begun x c = (stamps program nodes options world hist.0 hist.1).stamped.begun x c

  -- what a state knows of an interval that an act closed is what the interval's node had just before
  of_state : (x : StoredRecord) (j : ℕ) → Contains made x → ClosesAt world.acts x.node (stamp_index made_stamps x) j → (s : State)
      → slice_get all.states j ≡ Some s → IsExactly options.size x (open_interval (state_before (exact_rule shape) world.acts all.states x.node j))
  of_state x j c closing s there =
      let k : KnowsMade options.size made s.knows = all.holds j s there in
      let own : entry (time_at (times_of all.states) j) x.node ≡ stamp_index made_stamps x =
      closing-entry timed x.node (stamp_index made_stamps x) j closing in
      let time : entry (time_at (times_of all.states) j) x.node ≡ entry s.knows.time x.node =
      ap (λ t. entry t x.node) (time-there all.states j s there) in
      let some = begun x c in
      subst (IsExactly options.size x)
      (did_there shape world.acts all.states all.keeps j s x.node (stamp_index made_stamps x) j there some (omega arith) closing)
      (k.exactly.each x c (omega arith))

  closed_is : (x : StoredRecord) (j : ℕ) → Contains made x → ClosesAt world.acts x.node (stamp_index made_stamps x) j
      → IsExactly options.size x (open_interval (state_before (exact_rule shape) world.acts all.states x.node j))
  closed_is x j c closing = of_state x j c closing _ (all.keeps.follows j x.node closing.deed closing.does)

  -- an interval that is closed before its act is that of a node that waits for a grant
  abbrev now_of : ℕ → State
  now_of n = state_before (exact_rule shape) world.acts all.states n (length world.acts)

  abbrev then_known : StoredRecord → Bool → Interval
  then_known x b = if b then open_interval (now_of x.node) else (now_of x.node).knows.interval x.node (stamp_index made_stamps x)

  -- who waits for a grant has closed one interval more than it has acted
  awaits_grant : (w : Wait) → awaits_acquire w ≡ 1 → (lock : ℕ) × (w ≡ grant lock)
  awaits_grant (grant lock) e = (lock, refl)
  awaits_grant nothing e = absurd (omega arith)
  awaits_grant departure e = absurd (omega arith)
  awaits_grant (access need) e = absurd (omega arith)
  awaits_grant (upkeep collection needs) e = absurd (omega arith)
  awaits_grant (discard collection) e = absurd (omega arith)

  one_at_most : (w : Wait) → awaits_acquire w ≤ 1
  one_at_most nothing = omega arith
  one_at_most (grant lock) = omega arith
  one_at_most departure = omega arith
  one_at_most (access need) = omega arith
  one_at_most (upkeep collection needs) = omega arith
  one_at_most (discard collection) = omega arith

  waits_so : (x : StoredRecord) (l : Logged) (lock : ℕ) → Contains made x → stamp_index made_stamps x ≤ entry l.node.locks.time x.node
      → stamp_index made_stamps x ≡ entry (now_of x.node).knows.time x.node + 1
      → HasExact options.size made l.node.locks.time l.node.memory (closed x.node (now_of x.node))
      → IsExactly options.size x (open_interval (now_of x.node))
  waits_so x l lock c known index f =
      subst (λ b. IsExactly options.size x (then_known x b))
      (and_from (x.node == x.node) (stamp_index made_stamps x == entry (now_of x.node).knows.time x.node + 1) (eq-eqb x.node x.node refl)
      (eq-eqb (stamp_index made_stamps x) (entry (now_of x.node).knows.time x.node + 1) index))
      (f.knows.each x c (subst (λ t. stamp_index made_stamps x ≤ entry t x.node) (sym f.time_is) known))

  waiting_is : (x : StoredRecord) → Contains made x → interval_at world.acts x.node (length world.acts) ≡ stamp_index made_stamps x
      → IsExactly options.size x (open_interval (now_of x.node))
  waiting_is x c opened =
      let among = (all_listed program nodes options world hist.0 hist.1).among x c in
      let counted = (run-whole program nodes options events world run).count in
      let there = get_within world.nodes x.node (omega arith) in
      let l : Logged = there.0 in
      let known : stamp_index made_stamps x ≤ entry l.node.locks.time x.node =
      (own_between made x.node (entry l.node.locks.time x.node) x ((all_made program nodes options world hist.0 hist.1).exact x.node l there.1) c refl).1 in
      let own = own_entry_before timed (length world.acts) x.node (omega arith) in
      let same : entry (time_before nodes world.acts (times_of all.states) x.node (length world.acts)) x.node
      ≡ entry (now_of x.node).knows.time x.node =
      ap (λ t. entry t x.node) (before-time shape world.acts all.states all.keeps x.node (length world.acts) (omega arith)) in
      let index : stamp_index made_stamps x ≡ entry (now_of x.node).knows.time x.node + 1 = omega arith in
      let machine : entry l.node.locks.time x.node ≡ count closes (deeds_of x.node world.acts) + awaits_acquire l.node.mail.wait =
      own_entry program nodes options events world run x.node l there.1 in
      let closed_acts : closed_before world.acts x.node (length world.acts) ≡ count closes (deeds_of x.node world.acts) =
      counted_at closes x.node world.acts in
      let most = one_at_most l.node.mail.wait in
      let g = awaits_grant l.node.mail.wait (omega arith) in
      waits_so x l g.0 c known index
      (subst (λ w. HasExact options.size made l.node.locks.time l.node.memory
      (standing shape x.node (all_at nodes world.acts all.states (number_of world.acts x.node)) w (now_of x.node))) g.1
      (all.stands x.node l there.1).pages.exact)

  pub are_exact : AreExact nodes options made world all.states
  are_exact = record { keeps = all.keeps; closed = closed_is; waiting = waiting_is }

pub was_made : WasExactlyMade
was_made program nodes options events world run =
    let h = hist program nodes options events world run in (
      h.0,
      (all program nodes options events world run).states,
      stamps program nodes options world h.0 h.1,
      of_acts program nodes options world h.0 h.1,
      are_exact program nodes options events world run,
    )

-- two runs that read exactly differ by locks alone
pub locks_decide : LocksAloneDecide
locks_decide program nodes options events other_events world other run run' locks =
    let a : IsExactRun program (shape_in nodes options) world.acts = exact_run program nodes options events world run in
    let b : IsExactRun program (shape_in nodes options) other.acts = exact_run program nodes options other_events other run' in
    one_begins (exact_rule (shape_in nodes options)) (λ state word. (state.words word).value) program nodes world.acts other.acts a.exact.states b.exact.states
    record { follows = a.follows; synchronized = a.synchronized; keeps = a.exact.keeps; reads = a.exact.reads }
    record { follows = b.follows; synchronized = b.synchronized; keeps = b.exact.keeps; reads = b.exact.reads } locks

-- the acts fix the changes
same_changes : (options : OptionsRecord) (x y : StoredRecord) (interval : Interval) → IsExactly options.size x interval → IsExactly options.size y interval
    → (page offset : ℕ) → offset < words_of options.size → change_at (changes_on page x) offset ≡ change_at (changes_on page y) offset
same_changes options x y interval a b page offset lt = sym (a.changed page offset lt) ∙ b.changed page offset lt

pub acts_fix : ActsFixWhatWasMade
acts_fix nodes options world other mine theirs states other_states a b same x y j c d node_is index_is closing page offset lt =
    let rule = exact_rule (shape_in nodes options) in
    let kept : KeepsExact (shape_in nodes options) world.acts other_states = subst (λ acts. KeepsExact (shape_in nodes options) acts other_states) (sym same) b.keeps in
    let states_are : other_states ≡ states = one_list rule nodes world.acts other_states states kept a.keeps in
    let of_y : ClosesAt other.acts y.node (stamp_index made_stamps y) j =
    subst (λ acts. ClosesAt acts y.node (stamp_index made_stamps y) j) same
    (subst (λ k. ClosesAt world.acts y.node k j) index_is (subst (λ n. ClosesAt world.acts n (stamp_index made_stamps x) j) node_is closing)) in
    let second : IsExactly options.size y (open_interval (state_before rule world.acts states x.node j)) =
    subst (λ n. IsExactly options.size y (open_interval (state_before rule world.acts states n j))) (sym node_is)
    (subst (λ states. IsExactly options.size y (open_interval (state_before rule world.acts states y.node j))) states_are
    (subst (λ acts. IsExactly options.size y (open_interval (state_before rule acts other_states y.node j))) (sym same) (b.closed y j d of_y))) in
    same_changes options x y (open_interval (state_before rule world.acts states x.node j)) (a.closed x j c closing) second page offset lt
