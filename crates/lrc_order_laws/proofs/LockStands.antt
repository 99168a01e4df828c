-- In every run, for each lock: the balance of each node.
use Rattle.std.proofs.Common.{◌≡◌, ℕ, zero, suc, ◌+◌, ◌<◌, List, [], ◌∷◌, Bool, true, false, cond, length}
use Rattle.std.proofs.Common.{map, refl, sym, ap, subst, ◌∙◌, inl, inr, arith, zero-add}
use Rattle.std.specs.Prelude.{Option, Some, None, ◌==◌, sum_by, slice_get, slice_set, slice_index, if◌then◌else◌}
use Rattle.std.specs.List.{range_with_len}
use Rattle.std.proofs.lemmas.Bool.{cases_eq, ne_eqb}
use Rattle.std.proofs.lemmas.Nat.{mod_below}
use Rattle.std.proofs.lemmas.List.Sums.{sum_by-cons}
use Rattle.std.proofs.lemmas.Option.{same_Some}
use Rattle.lrc_program.specs.declared.Program.{Program}
use Rattle.lrc_exec.specs.Meaning.{Setting}
use Rattle.lrc_exec.specs.Plain.{setting_of}
use Rattle.lrc_time.specs.Time.{zeros}
use Rattle.lrc_lock.specs.declared.state.LockState.TheVariants.{Away, Free}
use Rattle.lrc_lock.specs.Lock.{manager_of}
use Rattle.lrc_lock.specs.Held.{lock_at, first_state}
use Rattle.lrc_envelope.specs.Envelope.{EnvelopeRecord}
use Rattle.lrc_protocol.specs.declared.event.Event.{Event}
use Rattle.lrc_protocol.specs.Node.{Node, OptionsRecord, fresh_node}
use Rattle.lrc_protocol.specs.Turn.{TurnRecord}
use Rattle.lrc_protocol.specs.Run.{Logged, World, fresh_world, with_turn, run_of}
use Rattle.lrc_protocol.specs.Follows.{pending}
use Rattle.lrc_protocol.specs.Follows.{turns_of}
use Rattle.lrc_protocol.proofs.Worlds.{get_set_same, get_set_other, fresh_at, run-whole}
use Rattle.lrc_order_laws.specs.Shape.{HasShape}
use Rattle.lrc_order_laws.proofs.Shape.{shape_at}
use Rattle.lrc_order_laws.proofs.Pending.{Goes, get_within}
use Rattle.lrc_order_laws.proofs.TextHolds.{acquired_below}
use Rattle.lrc_order_laws.proofs.Held.{Tokened, tokened_at}
use Rattle.lrc_order_laws.proofs.Sends.{Came, site_of, Sent}
use Rattle.lrc_order_laws.proofs.Flows.{Brings, Stepped, again, once, stepped, count_of, counts}
use Rattle.lrc_order_laws.proofs.Shift.{AllFrom}
use Rattle.lrc_order_laws.proofs.Reached.{IsReached, KeptByReached, by_reached}
use Rattle.lrc_order_laws.proofs.LockMessages.{Saying, no, request, Test, IsTest, asks, about, onto, granted_to, asks-test}
use Rattle.lrc_order_laws.proofs.LockMessages.{about-test, onto-test, granted-test, on_letters, count-says, count-comes}
use Rattle.lrc_order_laws.proofs.LockPasses.{Passing, same, Passed, recent_in, passings}
use Rattle.lrc_order_laws.proofs.LockBalance.{is_node, leads_to, Numbers, Balanced, Changes, balanced-own, balanced-other, retargeted}
use Rattle.lrc_order_laws.proofs.TokenWorlds.{state_in, first_at}

-- ---- sums over nodes

-- the sum with another element at a place
pub sum-set : (f : Logged → ℕ) (xs : List Logged) (n : ℕ) (x y : Logged) → slice_get xs n ≡ Some x
    → sum_by f (slice_set xs n y) + f x ≡ sum_by f xs + f y
sum-set f [] n x y at = cc
sum-set f (z ∷ xs) zero x y at =
    let same : z ≡ x = same_Some z x at in
    let new : sum_by f (y ∷ xs) ≡ f y + sum_by f xs = sum_by-cons f y xs in
    let old : sum_by f (z ∷ xs) ≡ f z + sum_by f xs = sum_by-cons f z xs in
    let is : f z ≡ f x = ap f same in
    omega (arith, new, old, is)
sum-set f (z ∷ xs) (suc n) x y at =
    let new : sum_by f (z ∷ slice_set xs n y) ≡ f z + sum_by f (slice_set xs n y) = sum_by-cons f z (slice_set xs n y) in
    let old : sum_by f (z ∷ xs) ≡ f z + sum_by f xs = sum_by-cons f z xs in
    let rest : sum_by f (slice_set xs n y) + f x ≡ sum_by f xs + f y = sum-set f xs n x y at in
    omega (arith, new, old, rest)

-- ---- of a world

abbrev pub saying_so : ℕ → Test → List EnvelopeRecord → ℕ
saying_so l t es = count_of (on_letters l t) es

abbrev pub pointing : ℕ → ℕ → List Logged → ℕ
pointing l n all = sum_by (λ x. leads_to n (lock_at x.node.locks.held l)) all

-- who asked last, by the manager's note
abbrev pub recent_at : ℕ → Option Logged → ℕ
recent_at l None = 0
recent_at l (Some x) = recent_in x.node.locks l

abbrev pub last_asker : ℕ → ℕ → List Logged → ℕ
last_asker nodes l all = recent_at l (slice_get all (manager_of nodes l))

abbrev pub numbers_of : ℕ → ℕ → List EnvelopeRecord → List Logged → Numbers
numbers_of l n es all = record {
  asked = saying_so l (asks n) es;
  passed = saying_so l (about n) es;
  taking = saying_so l (onto n) es;
  granted = saying_so l (granted_to n) es;
  pointed = pointing l n all;
}

-- every node is balanced
abbrev pub AllBalanced : ℕ → ℕ → List EnvelopeRecord → List Logged → Type 0
AllBalanced nodes l es all = (n : ℕ) → Balanced n (last_asker nodes l all) (numbers_of l n es all) (state_in l (slice_get all n))

-- what a turn at a node does to one lock, and to what the pending messages say of it
pub record Passage (nodes k a : ℕ) (l after : Logged) (was now : List EnvelopeRecord) : Type 0 where
  pub from : ℕ
  pub brings : Saying
  pub to : ℕ
  pub sends : Saying
  pub passing : Passing a (recent_in l.node.locks k) from brings to sends (recent_in after.node.locks k) (lock_at l.node.locks.held k)
      (lock_at after.node.locks.held k)
  pub manager : brings ≡ request → manager_of nodes k ≡ a
  pub tests : (t : Test) → IsTest t → saying_so k t now + cond (t from a brings) 1 0 ≡ saying_so k t was + cond (t a to sends) 1 0

no_request : no ≡ request → ⊥
no_request e = cc

-- a repeat does nothing
pub passage_again : (nodes k a : ℕ) (l after : Logged) (was now : List EnvelopeRecord) → now ≡ was → after.node ≡ l.node → Passage nodes k a l after was now
passage_again nodes k a l after was now same_messages same_node = record {
  from = 0;
  brings = no;
  to = 0;
  sends = no;
  passing =
      subst (λ (x : Node). Passing a (recent_in l.node.locks k) 0 no 0 no (recent_in x.locks k) (lock_at l.node.locks.held k) (lock_at x.locks.held k))
      (sym same_node) same;
  manager = λ e. absurd (no_request e);
  tests = λ t is.
      ap (λ es. saying_so k t es + cond (t 0 a no) 1 0) same_messages
      ∙ ap (λ b. saying_so k t was + cond b 1 0) (is 0 a ∙ sym (is a 0));
}

module _ (nodes k a : ℕ) (all : List Logged) (l after : Logged) (at : slice_get all a ≡ Some l) (was now : List EnvelopeRecord)
    (p : Passage nodes k a l after was now) where
  abbrev then_all : List Logged
  then_all = slice_set all a after

  there : slice_get then_all a ≡ Some after
  there = get_set_same all a l after at

  changes : (n : ℕ) → Changes a n p.from p.brings p.to p.sends (lock_at l.node.locks.held k) (lock_at after.node.locks.held k)
      (numbers_of k n was all) (numbers_of k n now then_all)
  changes n = record {
    asked = p.tests (asks n) (asks-test n);
    passed = p.tests (about n) (about-test n);
    taking = p.tests (onto n) (onto-test n);
    granted = p.tests (granted_to n) (granted-test n);
    pointed = sum-set (λ x. leads_to n (lock_at x.node.locks.held k)) all a l after at;
  }

  -- with who asked last by the manager's note
  passing : Passing a (last_asker nodes k all) p.from p.brings p.to p.sends (last_asker nodes k then_all) (lock_at l.node.locks.held k)
      (lock_at after.node.locks.held k)
  passing = elim (cases_eq a (manager_of nodes k)) [
    | inl e ↦
        let old : last_asker nodes k all ≡ recent_in l.node.locks k = ap (λ m. recent_at k (slice_get all m)) (sym e) ∙ ap (recent_at k) at in
        let new : last_asker nodes k then_all ≡ recent_in after.node.locks k = ap (λ m. recent_at k (slice_get then_all m)) (sym e) ∙ ap (recent_at k) there in
        subst (λ r. Passing a r p.from p.brings p.to p.sends (last_asker nodes k then_all) (lock_at l.node.locks.held k) (lock_at after.node.locks.held k))
        (sym old)
        (subst (λ r. Passing a (recent_in l.node.locks k) p.from p.brings p.to p.sends r (lock_at l.node.locks.held k) (lock_at after.node.locks.held k))
        (sym new) p.passing)
    | inr ne ↦
        let new : last_asker nodes k then_all ≡ last_asker nodes k all = ap (recent_at k) (get_set_other all a (manager_of nodes k) after ne) in
        subst (λ r. Passing a (last_asker nodes k all) p.from p.brings p.to p.sends r (lock_at l.node.locks.held k) (lock_at after.node.locks.held k)) (sym new)
        (retargeted a (recent_in l.node.locks k) (recent_in after.node.locks k) (last_asker nodes k all) p.from p.brings p.to p.sends
        (lock_at l.node.locks.held k) (lock_at after.node.locks.held k) (λ e. ne (sym (p.manager e))) p.passing)
  ]

  pub balanced : AllBalanced nodes k was all → AllBalanced nodes k now then_all
  balanced h n = elim (cases_eq a n) [
    | inl e ↦
        subst (λ n. Balanced n (last_asker nodes k then_all) (numbers_of k n now then_all) (state_in k (slice_get then_all n))) e
        (subst (λ o. Balanced a (last_asker nodes k then_all) (numbers_of k a now then_all) (state_in k o)) (sym there)
        (balanced-own a (last_asker nodes k all) (numbers_of k a was all) (numbers_of k a now then_all) p.from p.brings p.to p.sends
        (last_asker nodes k then_all)
        (lock_at l.node.locks.held k) (lock_at after.node.locks.held k) passing (changes a)
        (subst (λ o. Balanced a (last_asker nodes k all) (numbers_of k a was all) (state_in k o)) at (h a))))
    | inr ne ↦
        subst (λ o. Balanced n (last_asker nodes k then_all) (numbers_of k n now then_all) (state_in k o)) (sym (get_set_other all a n after ne))
        (balanced-other a n (last_asker nodes k all) (numbers_of k n was all) (numbers_of k n now then_all) (state_in k (slice_get all n))
        p.from p.brings p.to p.sends (last_asker nodes k then_all) (lock_at l.node.locks.held k) (lock_at after.node.locks.held k) ne passing (changes n) (h n))
  ]

module _ (program : Program) (nodes : ℕ) (options : OptionsRecord) where
  -- one turn
  module _ (world : World) (a : ℕ) (l after : Logged) (at : slice_get world.nodes a ≡ Some l) (reached : IsReached program nodes options world) where
    known : Tokened (setting_of program nodes a) options (record { node = l.node; turns = turns_of l.log })
    known = tokened_at program nodes options reached.events world a l reached.runs at

    setting : l.node.setting ≡ setting_of program nodes a
    setting = known.shape.setting

    shape : HasShape l.node.setting l.node.locks
    shape = subst (λ (s : Setting). HasShape s l.node.locks) (sym setting) known.shape.shape

    me : l.node.setting.me ≡ a
    me = ap (λ (s : Setting). s.me) setting

    once_passes : (k : ℕ) (turn : TurnRecord) (now : List EnvelopeRecord) (came : Came) (o : Option EnvelopeRecord) → Brings l.node.setting.me came o
        → Goes o (pending world) turn.out now → (sent : Sent l.node came turn after.node) → AllFrom l.node.setting.me turn.out
        → Passage nodes k a l after (pending world) now
    once_passes k turn now came o brought goes sent from =
        let p : Passed k (site_of l.node) came sent.letters after.node.locks =
        passings k (site_of l.node) known.waits known.holding shape.tokens shape.askers
        (λ lock next. subst (λ (s : Setting). lock < s.locks) (sym setting) (acquired_below (setting_of program nodes a) l.node.course known.text lock next))
        came sent.acts after.node.mail.wait after.node.locks after.node.barrier sent.letters sent.sent in
        record {
          from = p.from;
          brings = p.brings;
          to = p.to;
          sends = p.sends;
          passing =
              subst (λ me. Passing me (recent_in l.node.locks k) p.from p.brings p.to p.sends (recent_in after.node.locks k)
              (lock_at l.node.locks.held k) (lock_at after.node.locks.held k)) me p.passing;
          manager = λ e. subst (λ (s : Setting). manager_of s.nodes k ≡ s.me) setting (p.manager e);
          tests = λ t is.
              subst (λ me. saying_so k t now + cond (t p.from me p.brings) 1 0 ≡ saying_so k t (pending world) + cond (t me p.to p.sends) 1 0) me
              (ap (λ c. saying_so k t now + c) (sym (count-comes k t is l.node.setting.me came p.from p.brings p.comes_so))
              ∙ counts (on_letters k t) l.node.setting.me came o (pending world) now turn.out sent.letters brought goes from sent.out
              ∙ ap (λ c. saying_so k t (pending world) + c) (count-says k t is l.node.setting.me sent.letters p.to p.sends p.sends_so));
        }

    by_step : (k : ℕ) (now : List EnvelopeRecord) (turn : TurnRecord) (node' : Node) → Stepped l.node (pending world) now turn node' → after.node ≡ node'
        → after.node.setting ≡ l.node.setting → Passage nodes k a l after (pending world) now
    by_step k now _ _ (again is) e same_setting = passage_again nodes k a l after (pending world) now is e
    by_step k now turn node' (once came o brought within sent goes) e same_setting =
        let sent' : Sent l.node came turn after.node = subst (Sent l.node came turn) (sym e) sent in
        once_passes k turn now came o brought goes sent' (subst (λ (s : Setting). AllFrom s.me turn.out) same_setting sent'.from)

  pub record AllInBalance (world : World) : Type 0 where
    pub each : (k : ℕ) → k < program.locks → 0 < nodes → AllBalanced nodes k (pending world) world.nodes

  balance-kept : KeptByReached program nodes options AllInBalance
  balance-kept world flight n l after input entry at comes i reached reached' h = record {
    each = λ k lt some.
        let setting : l.node.setting ≡ setting_of program nodes n = (shape_at program nodes options reached.events world n l reached.runs at).setting in
        let setting' : after.node.setting ≡ setting_of program nodes n =
        (shape_at program nodes options reached'.events (with_turn world flight n entry after) n after reached'.runs
        (get_set_same world.nodes n l after at)).setting in
        balanced nodes k n world.nodes l after at (pending world) (pending (with_turn world flight n entry after))
        (by_step world n l after at reached k (pending (with_turn world flight n entry after)) entry.turn after.node
        (stepped program nodes options world flight n l after input entry at comes i reached) refl (setting' ∙ sym setting))
        (h.each k lt some);
  }

  -- ---- at the start

  abbrev first_nodes : ℕ → ℕ → List Logged
  first_nodes a k = map (λ (node : Node). record { node = node; log = [] }) (map (fresh_node program nodes options) (range_with_len a k))

  no_leader : (n : ℕ) (b : Bool) → leads_to n (if b then Free (zeros nodes) else Away) ≡ 0
  no_leader n true = refl
  no_leader n false = refl

  nobody_points : (k n : ℕ) → k < program.locks → (a count : ℕ) → pointing k n (first_nodes a count) ≡ 0
  nobody_points k n lt a zero = refl
  nobody_points k n lt a (suc count) =
      let x : Logged = record { node = fresh_node program nodes options a; log = [] } in
      let first : leads_to n (lock_at x.node.locks.held k) ≡ 0 =
      ap (leads_to n) (first_at a nodes 0 program.locks k lt) ∙ no_leader n (manager_of nodes (0 + k) == a) in
      let cons : pointing k n (x ∷ first_nodes (a + 1) count) ≡ leads_to n (lock_at x.node.locks.held k) + pointing k n (first_nodes (a + 1) count) =
      sum_by-cons (λ (x : Logged). leads_to n (lock_at x.node.locks.held k)) x (first_nodes (a + 1) count) in
      let rest : pointing k n (first_nodes (a + 1) count) ≡ 0 = nobody_points k n lt (a + 1) count in
      omega (arith, first, cons, rest)

  first_recent : (a count k : ℕ) → k < count → slice_index (map (manager_of nodes) (range_with_len a count)) k ≡ manager_of nodes (a + k)
  first_recent a zero k lt = absurd (omega (arith, lt))
  first_recent a (suc count) zero lt = ap (manager_of nodes) (omega arith)
  first_recent a (suc count) (suc k) lt = first_recent (a + 1) count k (omega (arith, lt)) ∙ ap (manager_of nodes) (omega arith)

  first_asker : (k : ℕ) → k < program.locks → 0 < nodes → last_asker nodes k (fresh_world program nodes options).nodes ≡ manager_of nodes k
  first_asker k lt some =
      let m : ℕ = manager_of nodes k in
      let within : m < length (fresh_world program nodes options).nodes =
      subst (λ j. m < j) (sym (run-whole program nodes options [] (fresh_world program nodes options) refl).count) (mod_below k nodes some) in
      let x : (x : Logged) × (slice_get (fresh_world program nodes options).nodes m ≡ Some x) = get_within (fresh_world program nodes options).nodes m within in
      ap (recent_at k) x.1
      ∙ ap (λ (x : Logged). recent_in x.node.locks k) (fresh_at program nodes options 0 nodes m x.0 x.1)
      ∙ first_recent 0 program.locks k lt
      ∙ ap (manager_of nodes) (zero-add k)

  abbrev quiet : Numbers
  quiet = record { asked = 0; passed = 0; taking = 0; granted = 0; pointed = 0 }

  first_balance : (k n : ℕ) (b : Bool) → is_node (manager_of nodes k) n ≡ cond b 1 0 → Balanced n (manager_of nodes k) quiet (if b then Free
      (zeros nodes) else Away)
  first_balance k n true e = record { stands = refl; points = omega (arith, e) }
  first_balance k n false e = record { stands = refl; points = omega (arith, e) }

  first_at_node : (k n : ℕ) → k < program.locks → 0 < nodes → (o : Option Logged) → slice_get (fresh_world program nodes options).nodes n ≡ o
      → Balanced n (manager_of nodes k) quiet (state_in k o)
  first_at_node k n lt some None is =
      first_balance k n false (ap (λ b. cond b 1 0) (ne_eqb (manager_of nodes k) n (λ e. no_such e)))
    where
      no_such : manager_of nodes k ≡ n → ⊥
      no_such e =
          let within : n < length (fresh_world program nodes options).nodes =
          subst (λ j. n < j) (sym (run-whole program nodes options [] (fresh_world program nodes options) refl).count) (subst (λ j. j < nodes) e
          (mod_below k nodes some)) in
          let x : (x : Logged) × (slice_get (fresh_world program nodes options).nodes n ≡ Some x) = get_within
          (fresh_world program nodes options).nodes n within in
          none_some (sym is ∙ x.1)
        where
          none_some : {x : Logged} → None ≡ Some x → ⊥
          none_some e = cc
  first_at_node k n lt some (Some x) is =
      let state : lock_at x.node.locks.held k ≡ first_state (0 + n) nodes (0 + k) =
      ap (λ (x : Logged). lock_at x.node.locks.held k) (fresh_at program nodes options 0 nodes n x is) ∙ first_at (0 + n) nodes 0 program.locks k lt in
      subst (Balanced n (manager_of nodes k) quiet) (sym state)
      (first_balance k n (manager_of nodes (0 + k) == (0 + n))
      (ap (λ j. cond (manager_of nodes k == j) 1 0) (sym (zero-add n)) ∙ ap (λ j. cond (manager_of nodes j == (0 + n)) 1 0) (sym (zero-add k))))

  balance-fresh : AllInBalance (fresh_world program nodes options)
  balance-fresh = record {
    each = λ k lt some n.
        subst (λ r. Balanced n r (numbers_of k n [] (fresh_world program nodes options).nodes) (state_in k (slice_get
        (fresh_world program nodes options).nodes n)))
        (sym (first_asker k lt some))
        (subst (λ p. Balanced n (manager_of nodes k) (record { asked = 0; passed = 0; taking = 0; granted = 0; pointed = p })
        (state_in k (slice_get (fresh_world program nodes options).nodes n)))
        (sym (nobody_points k n lt 0 nodes))
        (first_at_node k n lt some (slice_get (fresh_world program nodes options).nodes n) refl));
  }

  pub all_balanced : (events : List Event) (world : World) → run_of program nodes options events ≡ Some world → AllInBalance world
  all_balanced events world e = by_reached program nodes options AllInBalance balance-kept events world balance-fresh e
