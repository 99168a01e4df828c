-- One event more along an order, or behind it.
use Rattle.std.proofs.Common.{◌≡◌, ◌∙◌, ◌⊎◌, ◌<◌, ◌+◌, ◌++◌, ℕ, zero, suc, Bool, true, false, List, [], ◌∷◌, Option, Some, None, inl, inr, refl, sym, ap, ap₂, subst, length, take, get_or, map}
use Rattle.std.proofs.Common.{append-nil, arith, length-append}
use Rattle.std.specs.Prelude.{◌||◌, ◌==◌, All, not, option_map, position, remove, slice_get, if◌then◌else◌}
use Rattle.std.specs.List.{range_with_len}
use Rattle.std.specs.Option.{option_to_list}
use Rattle.std.proofs.lemmas.Bool.{cases_eq, eqb-true}
use Rattle.std.proofs.lemmas.List.{map-append, take_more}
use Rattle.std.proofs.lemmas.Option.{get_or_from_slice_get, same_Some, slice_get_within}
use Rattle.std.proofs.lemmas.List.FromFn.{get_or-map-range_with_len}
use Rattle.lrc_program.specs.declared.Program.{Program}
use Rattle.lrc_trace.specs.declared.act.Act.{Act}
use Rattle.lrc_trace.specs.declared.act.Deed.{Deed}
use Rattle.lrc_trace.specs.declared.act.Deed.TheVariants.{Depart}
use Rattle.lrc_trace.specs.Run.{act_of}
use Rattle.lrc_exec.specs.declared.machine.Ask.TheVariants.{End}
use Rattle.lrc_exec.specs.Ask.{ask_of}
use Rattle.lrc_exec.specs.Meaning.{next_of}
use Rattle.lrc_exec.specs.Plain.{start_of}
use Rattle.lrc_lines.specs.Makes.{MakesNext}
use Rattle.lrc_lines.specs.Statements.{act_statements, numbers_of}
use Rattle.lrc_lines.specs.Walks.{Walk, walk_behind}
use Rattle.lrc_lines.proofs.Agreeing.{agrees_behind}
use Rattle.lrc_lines.proofs.Making.{makes_behind}
use Rattle.lrc_lines.proofs.Several.{lines_of_more}
use Rattle.lrc_protocol.specs.declared.event.Event.{Event}
use Rattle.lrc_protocol.specs.declared.event.Event.TheVariants as kinds
use Rattle.lrc_protocol.specs.Node.{OptionsRecord, next_in}
use Rattle.lrc_protocol.specs.Run.{Flying, Input, Logged, World, event_on, outcome_of, run_of}
use Rattle.lrc_protocol.specs.Run as log
use Rattle.lrc_protocol.proofs.Texts.{text}
use Rattle.lrc_protocol.proofs.Turned.{Turns, turns}
use Rattle.lrc_protocol.proofs.Worlds.{get_set_other, get_set_same, run-whole}
use Rattle.lrc_order_laws.specs.Waiting.{FixesNext}
use Rattle.lrc_order_laws.proofs.Inputs.{at_each}
use Rattle.lrc_order_laws.proofs.Shape.{shape_at}
use Rattle.lrc_order_laws.proofs.Shift.{deed_made}
use Rattle.lrc_order_laws.proofs.Waiting.{NodeFits, departs_arrived, node-fits}
use Rattle.lrc_along.specs.Along.{BeginsInTurn, IsAlong}
use Rattle.lrc_along.specs.Asked.{IsAsked, bare, bare_act}
use Rattle.lrc_along.specs.Due.{IsAtTurn, IsDue, ask_behind, envelopes_in, has_begun, has_begun_at, is_depart, is_midway, is_ready_at, lets_go, may_come}
use Rattle.lrc_along.specs.Due.{needs_message, statement_behind}
use Rattle.lrc_along.proofs.Asking.{makes_asked, none_departs, same_deed}
use Rattle.lrc_along.proofs.Events.{Moves, deliver_moves, found, run_moves}
use Rattle.lrc_along.proofs.Turns.{IsActed, Takes, acted, goes_on, is_of_none, it_departs, it_departs_not, makes, rests, takes_so}
use Rattle.lrc_along.proofs.Turns.{waits_for_nothing}

-- ---- the acts so far

module _ (program : Program) (nodes : ℕ) (order : List Act) where
  -- of two acts of the order that are next there is one
  pub only_one : (acts : List Act) (one other : Act) → IsAtTurn program nodes order acts one → IsAtTurn program nodes order acts other → one ≡ other
  only_one acts one other a b = same_Some one other (sym a.next ∙ b.next)

  -- one act more, of the node at its turn, and of its deed, values aside
  pub along_more : (acts : List Act) (a b : Act) → IsAlong program nodes order acts → IsAtTurn program nodes order acts a → b.node ≡ a.node
      → bare b.deed ≡ bare a.deed → IsAlong program nodes order (acts ++ b ∷ [])
  along_more acts a b along turn same_node same_deed =
      let k = length acts in
      let long : length (acts ++ b ∷ []) ≡ k + 1 = length-append acts (b ∷ []) in
      let within : k < length order = slice_get_within order k a turn.next in
      let statements = act_statements program nodes order in
      let stands = statement_behind program nodes acts a.node in
      let within_statements : k < length statements = slice_get_within statements k stands turn.stands in
      let one : take (k + 1) order ≡ take k order ++ a ∷ [] =
      take_more order k a within ∙ ap (λ x. take k order ++ x ∷ []) (get_or_from_slice_get order k a a turn.next) in
      let same_act : bare_act b ≡ bare_act a = ap₂ (λ (n : ℕ) (d : Deed). record { node = n; deed = d }) same_node same_deed in
      record {
        within = omega (arith, long, within);
        deeds =
            map-append bare_act acts (b ∷ []) ∙ ap₂ (λ l (x : Act). l ++ x ∷ []) along.deeds same_act
            ∙ sym (map-append bare_act (take k order) (a ∷ [])) ∙ ap (map bare_act) (sym one) ∙ ap (λ j. map bare_act (take j order)) (sym long);
        statements =
            lines_of_more program nodes (numbers_of program) acts b
            ∙ ap₂ (λ l (x : ℕ). l ++ x ∷ []) along.statements (ap (statement_behind program nodes acts) same_node)
            ∙ sym (take_more statements k stands within_statements
            ∙ ap (λ x. take k statements ++ x ∷ []) (get_or_from_slice_get statements k stands stands turn.stands))
            ∙ ap (λ j. take j statements) (sym long);
      }

-- ---- what a node asks for, and makes

ask_there : (program : Program) (nodes : ℕ) (acts : List Act) (node : ℕ) → node < nodes
    → ask_behind program nodes acts node ≡ ask_of (next_of (walk_behind program nodes (numbers_of program) acts node).thread)
ask_there program nodes acts node lt = mapped_twice (range_with_len 0 nodes) node refl
  where
    walk : ℕ → Walk
    walk = walk_behind program nodes (numbers_of program) acts

    twice : (ns : List ℕ) → map (λ (w : Walk). ask_of (next_of w.thread)) (map (walk_behind program nodes (numbers_of program) acts) ns)
        ≡ map (λ n. ask_of (next_of (walk_behind program nodes (numbers_of program) acts n).thread)) ns
    twice [] = refl
    twice (n ∷ ns) = ap (λ l. ask_of (next_of (walk_behind program nodes (numbers_of program) acts n).thread) ∷ l) (twice ns)

    mapped_twice : (ns : List ℕ) (n : ℕ) → range_with_len 0 nodes ≡ ns
        → ask_behind program nodes acts node ≡ ask_of (next_of (walk_behind program nodes (numbers_of program) acts node).thread)
    mapped_twice ns n is =
        ap (λ l. get_or l node End) (twice (range_with_len 0 nodes))
        ∙ get_or-map-range_with_len (λ n. ask_of (next_of (walk_behind program nodes (numbers_of program) acts n).thread)) 0 nodes node node End lt (omega arith)

take_front : {X : Type 0} (xs ys : List X) → take (length xs) (xs ++ ys) ≡ xs
take_front [] ys = refl
take_front (x ∷ xs) ys = ap (λ l. x ∷ l) (take_front xs ys)

get_last : {X : Type 0} (xs : List X) (x : X) → slice_get (xs ++ x ∷ []) (length xs) ≡ Some x
get_last [] x = refl
get_last (y ∷ xs) x = get_last xs x

module _ (program : Program) (nodes : ℕ) (options : OptionsRecord) (events : List Event) (world : World)
    (runs : run_of program nodes options events ≡ Some world) where
  -- the last act of a run is what its node asked for
  pub last_asked : (acts : List Act) (b : Act) → world.acts ≡ acts ++ b ∷ [] → (b.node < nodes) × IsAsked (ask_behind program nodes acts b.node) b.deed
  last_asked acts b is =
      let k = length acts in
      let there : slice_get world.acts k ≡ Some b = ap (λ l. slice_get l k) is ∙ get_last acts b in
      let whole = run-whole program nodes options events world runs in
      let lt : b.node < nodes =
      subst (λ (x : Act). x.node < nodes) (get_or_from_slice_get world.acts k b b there) (whole.in_range k b (slice_get_within world.acts k b there)) in
      let walk = walk_behind program nodes (numbers_of program) acts b.node in
      let makes_it = makes_behind program nodes (numbers_of program) world.acts k b.node b.deed (text program nodes options events world runs)
      (record { stands = there }) lt in
      let front : take k world.acts ≡ acts = ap (take k) is ∙ take_front acts (b ∷ []) in
      let asked : IsAsked (ask_of (next_of walk.thread)) b.deed =
      makes_asked walk b.deed (agrees_behind program nodes (numbers_of program) acts b.node)
      (subst (λ l. MakesNext (walk_behind program nodes (numbers_of program) l b.node) b.deed) front makes_it) in
      (lt, subst (λ ask. IsAsked ask b.deed) (sym (ask_there program nodes acts b.node lt)) asked)

  pub fixed : (n : ℕ) (l : Logged) → slice_get world.nodes n ≡ Some l → FixesNext l.node.mail.wait (next_in l.node.course)
  fixed n l at = at_each NodeFits node-fits program nodes options events world n l (departs_arrived (start_of program nodes n)) runs at

  pub named : (n : ℕ) (l : Logged) → slice_get world.nodes n ≡ Some l → l.node.setting.me ≡ n
  named n l at = ap (λ s. s.me) (shape_at program nodes options events world n l runs at).setting

-- ---- a turn of a node

module _ (program : Program) (nodes : ℕ) (options : OptionsRecord) (events : List Event) (world : World)
    (runs : run_of program nodes options events ≡ Some world) (next : World) (n : ℕ) (input : Input) (m : Moves world next n input) where
  -- it makes no act, or one of the node's own
  abbrev ActsOrNot : Type 0
  ActsOrNot =
      ((deed_made m.turn ≡ None) × (next.acts ≡ world.acts))
      ⊎ ((deed : Deed) × (deed_made m.turn ≡ Some deed) × (next.acts ≡ world.acts ++ act_of n deed ∷ []))

  acts_by : (o : Option Deed) → m.turn.act ≡ option_map (act_of n) o → ActsOrNot
  acts_by None is =
      inl (
        ap (option_map (λ (act : Act). act.deed)) is,
        m.acts ∙ ap (λ a. world.acts ++ option_to_list a) is ∙ append-nil world.acts,
      )
  acts_by (Some deed) is =
      inr (deed, ap (option_map (λ (act : Act). act.deed)) is, m.acts ∙ ap (λ a. world.acts ++ option_to_list a) is)

  pub acts_so : ActsOrNot
  acts_so =
      let t = subst (Turns m.l.node) m.outcome (turns m.l.node input) in
      acts_by t.deed (t.act ∙ ap (λ me. option_map (act_of me) t.deed) (named program nodes options events world runs n m.l m.there))

  -- whether nodes have begun their acts
  pub begun_own : has_begun_at next n ≡ is_midway m.after.node.mail.wait
  begun_own = ap (λ l. has_begun (slice_get l n)) m.nodes ∙ ap has_begun (get_set_same world.nodes n m.l m.after m.there)

  pub begun_before : has_begun_at world n ≡ is_midway m.l.node.mail.wait
  begun_before = ap has_begun m.there

  pub begun_other : (k : ℕ) → (n ≡ k → ⊥) → has_begun_at next k ≡ has_begun_at world k
  begun_other k other = ap (λ l. has_begun (slice_get l k)) m.nodes ∙ ap has_begun (get_set_other world.nodes n k m.after other)

-- ---- along the order

module _ (program : Program) (nodes : ℕ) (options : OptionsRecord) (order : List Act) (events : List Event) (world : World)
    (runs : run_of program nodes options events ≡ Some world) (so_far : IsAlong program nodes order world.acts)
    (begun : BeginsInTurn program nodes order world) where
  pub record Along (next : World) : Type 0 where
    pub so_far_is : IsAlong program nodes order next.acts
    pub begun_is : BeginsInTurn program nodes order next

  stays : (next : World) → next ≡ world → Along next
  stays next same = subst Along (sym same) (record { so_far_is = so_far; begun_is = begun })

  -- a turn without an act
  quiet : (next : World) (n : ℕ) (input : Input) (m : Moves world next n input) → next.acts ≡ world.acts
      → (is_midway m.after.node.mail.wait ≡ true → (act : Act) × IsAtTurn program nodes order world.acts act × (act.node ≡ n)) → Along next
  quiet next n input m same own = record {
    so_far_is = subst (IsAlong program nodes order) (sym same) so_far;
    begun_is = λ k h.
        subst (λ acts. (act : Act) × IsAtTurn program nodes order acts act × (act.node ≡ k)) (sym same)
        (elim (cases_eq n k) [
          | inl is ↦ subst (λ j. (act : Act) × IsAtTurn program nodes order world.acts act × (act.node ≡ j)) is
              (own (sym (begun_own program nodes options events world runs next n input m) ∙ ap (has_begun_at next) is ∙ h))
          | inr other ↦ begun k (sym (begun_other program nodes options events world runs next n input m k other) ∙ h)
        ]);
  }

  -- a turn with the act whose turn it is
  made : (next : World) (n : ℕ) (input : Input) (m : Moves world next n input) (a : Act) (d : Deed) → IsAtTurn program nodes order world.acts a
      → a.node ≡ n → next.acts ≡ world.acts ++ act_of n d ∷ [] → bare d ≡ bare a.deed → is_midway m.after.node.mail.wait ≡ false → Along next
  made next n input m a d turn own acts same rests_so = record {
    so_far_is = subst (IsAlong program nodes order) (sym acts)
        (along_more program nodes order world.acts a (act_of n d) so_far turn (sym own) same);
    begun_is = λ k h. absurd (none_begun k h);
  }
    where
      none_begun : (k : ℕ) → has_begun_at next k ≡ true → ⊥
      none_begun k h = elim (cases_eq n k) [
        | inl is ↦
            let never : false ≡ true =
            sym rests_so ∙ sym (begun_own program nodes options events world runs next n input m) ∙ ap (has_begun_at next) is ∙ h in cc
        | inr other ↦
            let there = begun k (sym (begun_other program nodes options events world runs next n input m k other) ∙ h) in
            other (sym own ∙ sym (ap (λ (x : Act). x.node) (only_one program nodes order world.acts there.0 a there.1 turn)) ∙ there.2)
      ]

  -- ---- the node goes on

  abbrev Later : Event → World → Type 0
  Later event next = run_of program nodes options (events ++ event ∷ []) ≡ Some next

  asked_at : (event : Event) (next : World) → Later event next → (n : ℕ) (d : Deed) → next.acts ≡ world.acts ++ act_of n d ∷ []
      → IsAsked (ask_behind program nodes world.acts n) d
  asked_at event next later n d acts = (last_asked program nodes options (events ++ event ∷ []) next later world.acts (act_of n d) acts).1

  no_message : (a : Act) → needs_message world a ≡ false → is_depart a.deed ≡ false
  no_message a h = by_test (is_depart a.deed) refl
    where
      by_test : (b : Bool) → is_depart a.deed ≡ b → is_depart a.deed ≡ false
      by_test true is = let never : true ≡ false = sym (ap (λ b. b || has_begun_at world a.node) is) ∙ h in cc
      by_test false is = is

  goes : (event : Event) (next : World) → Later event next → (a : Act) → IsAtTurn program nodes order world.acts a → needs_message world a ≡ false
      → event_on world (kinds.Run a.node) ≡ Some next → Along next
  goes event next later a turn needs e = elim (run_moves world next a.node e) [
    | inl same ↦ stays next same
    | inr m ↦ elim (acts_so program nodes options events world runs next a.node log.run m) [
      | inl none ↦ quiet next a.node log.run m none.1 (λ h. (a, turn, refl))
      | inr some ↦
          let d = some.0 in
          let did = acted m.l.node log.run m.turn m.after.node d m.outcome some.1 in
          let fits = fixed program nodes options events world runs a.node m.l m.there in
          let idle = waits_for_nothing m.l.node m.turn m.after.node m.outcome in
          let no : is_depart d ≡ false = it_departs_not m.l.node m.after.node d did (subst (λ w. FixesNext w (next_in m.l.node.course)) idle fits) in
          made next a.node log.run m a d turn refl some.2
          (same_deed (ask_behind program nodes world.acts a.node) d a.deed (asked_at event next later a.node d some.2) turn.asks
          (no ∙ sym (no_message a needs))) did.rests
    ]
  ]

  -- ---- a message comes

  comes_to : (r : ℕ) (a : Act) (message : _) (to : Bool) → to ≡ (r == a.node) → lets_go message ≡ true → (to || not (lets_go message)) ≡ true → r ≡ a.node
  comes_to r a message true is lets may = eqb-true r a.node (sym is)
  comes_to r a message false is lets may = let never : false ≡ true = sym (ap not lets) ∙ may in cc

  needs_depart : (a : Act) → needs_message world a ≡ true → has_begun_at world a.node ≡ false → is_depart a.deed ≡ true
  needs_depart a needs not_begun = by_test (is_depart a.deed) refl
    where
      by_test : (b : Bool) → is_depart a.deed ≡ b → is_depart a.deed ≡ true
      by_test true is = is
      by_test false is =
          let never : false ≡ true = sym not_begun ∙ sym (ap (λ b. b || has_begun_at world a.node) is) ∙ needs in cc

  module _ (event : Event) (next : World) (later : Later event next) (a : Act) (turn : IsAtTurn program nodes order world.acts a)
      (needs : needs_message world a ≡ true) (sent : Flying) (may : may_come a.node sent.envelope ≡ true)
      (m : Moves world next sent.envelope.to (log.taken sent.envelope)) where
    abbrev r : ℕ
    r = sent.envelope.to

    -- no act is made, and none begun
    rested : deed_made m.turn ≡ None → (is_midway m.after.node.mail.wait ≡ true → is_midway m.l.node.mail.wait ≡ true) → Along next
    rested none keeps = elim (acts_so program nodes options events world runs next r (log.taken sent.envelope) m) [
      | inl same ↦ quiet next r (log.taken sent.envelope) m same.1
          (λ h. begun r (begun_before program nodes options events world runs next r (log.taken sent.envelope) m ∙ keeps h))
      | inr some ↦ let never : Some some.0 ≡ None = sym some.1 ∙ none in cc
    ]

    -- the act of a node at its turn is made
    acts_now : a.node ≡ r → ((d : Deed) → IsActed m.l.node m.after.node d → IsAsked (ask_behind program nodes world.acts a.node) d → is_depart d ≡ is_depart a.deed)
        → (is_midway m.after.node.mail.wait ≡ false) → Along next
    acts_now own kind after = elim (acts_so program nodes options events world runs next r (log.taken sent.envelope) m) [
      | inl same ↦ quiet next r (log.taken sent.envelope) m same.1 (λ h. (a, turn, own))
      | inr some ↦
          let d = some.0 in
          let did = acted m.l.node (log.taken sent.envelope) m.turn m.after.node d m.outcome some.1 in
          let asks : IsAsked (ask_behind program nodes world.acts a.node) d =
          subst (λ k. IsAsked (ask_behind program nodes world.acts k) d) (sym own) (asked_at event next later r d some.2) in
          made next r (log.taken sent.envelope) m a d turn own some.2
          (same_deed (ask_behind program nodes world.acts a.node) d a.deed asks turn.asks (kind d did asks)) after
    ]

    by_kind : Takes m.l.node.mail.wait sent.envelope.message (deed_made m.turn) m.after.node.mail.wait → Along next
    by_kind (rests none keeps) = rested none keeps
    by_kind (makes midway after) =
        let there = begun r (begun_before program nodes options events world runs next r (log.taken sent.envelope) m ∙ midway) in
        let is : there.0 ≡ a = only_one program nodes order world.acts there.0 a there.1 turn in
        let own : a.node ≡ r = sym (ap (λ (x : Act). x.node) is) ∙ there.2 in
        acts_now own
        (λ d did asks. sym (none_departs (ask_behind program nodes world.acts a.node) a.deed d turn.asks
        (is_of_none m.l.node m.after.node d did midway (fixed program nodes options events world runs r m.l m.there)) asks))
        (ap is_midway after)
    by_kind (goes_on lets away fixes after) =
        let own : r ≡ a.node = comes_to r a sent.envelope.message (r == a.node) refl lets may in
        let away_so : has_begun_at world a.node ≡ false =
        ap (has_begun_at world) (sym own) ∙ begun_before program nodes options events world runs next r (log.taken sent.envelope) m ∙ away in
        acts_now (sym own)
        (λ d did asks. ap is_depart
        (it_departs m.l.node m.after.node d did
        (fixes (next_in m.l.node.course) (fixed program nodes options events world runs r m.l m.there)))
        ∙ sym (needs_depart a needs away_so))
        (ap is_midway after)

    pub come : Along next
    come = by_kind (takes_so m.l.node m.turn m.after.node sent.envelope m.outcome)

  delivers_on : (event : Event) (next : World) → Later event next → (a : Act) → IsAtTurn program nodes order world.acts a → needs_message world a ≡ true
      → (place : ℕ) → position (may_come a.node) (envelopes_in world) ≡ Some place → event_on world (kinds.Deliver place) ≡ Some next → Along next
  delivers_on event next later a turn needs place is e =
      let f = found (may_come a.node) world.flight place is in
      elim (deliver_moves world next place f.0 f.1 e) [
        | inl same ↦ stays next same
        | inr m ↦ come event next later a turn needs f.0 f.2 m
      ]

  by_place : (event : Event) (next : World) → Later event next → event_on world event ≡ Some next → (a : Act) → IsAtTurn program nodes order world.acts a
      → needs_message world a ≡ true → (o : Option ℕ) → position (may_come a.node) (envelopes_in world) ≡ o → option_map kinds.Deliver o ≡ Some event → Along next
  by_place event next later e a turn needs None is due = cc
  by_place event next later e a turn needs (Some place) is due =
      delivers_on event next later a turn needs place is (ap (event_on world) (same_Some (kinds.Deliver place) event due) ∙ e)

  by_ready : (event : Event) (next : World) → Later event next → event_on world event ≡ Some next → (a : Act) → IsAtTurn program nodes order world.acts a
      → needs_message world a ≡ false → (b : Bool) → (if b then Some (kinds.Run a.node) else None) ≡ Some event → Along next
  by_ready event next later e a turn needs true due =
      goes event next later a turn needs (ap (event_on world) (same_Some (kinds.Run a.node) event due) ∙ e)
  by_ready event next later e a turn needs false due = cc

  by_need : (event : Event) (next : World) → Later event next → event_on world event ≡ Some next → (a : Act) → IsAtTurn program nodes order world.acts a
      → (b : Bool) → needs_message world a ≡ b
      → (if b then option_map kinds.Deliver (position (may_come a.node) (envelopes_in world))
      else (if is_ready_at world a.node then Some (kinds.Run a.node) else None)) ≡ Some event → Along next
  by_need event next later e a turn true needs due =
      by_place event next later e a turn needs (position (may_come a.node) (envelopes_in world)) refl due
  by_need event next later e a turn false needs due = by_ready event next later e a turn needs (is_ready_at world a.node) due

  -- the event that is due leads on along the order
  pub onward : (event : Event) (next : World) → IsDue program nodes order world event → event_on world event ≡ Some next → Later event next → Along next
  onward event next due e later = by_need event next later e due.act due.turn (needs_message world due.act) refl due.is

-- ---- behind the order

module _ (program : Program) (nodes : ℕ) (options : OptionsRecord) (events : List Event) (world at : World)
    (runs : run_of program nodes options events ≡ Some world)
    (begun : (node : ℕ) → has_begun_at world node ≡ true → has_begun_at at node ≡ true) where
  -- a depart, or the act that its node had begun
  abbrev pub MayStand : Act → Type 0
  MayStand act = (act.deed ≡ Depart) ⊎ (has_begun_at at act.node ≡ true)

  pub record Behind (next : World) : Type 0 where
    pub more : List Act
    pub acts_are : next.acts ≡ world.acts ++ more
    pub stand : All MayStand more
    pub begun_is : (node : ℕ) → has_begun_at next node ≡ true → has_begun_at at node ≡ true

  no_more : All MayStand []
  no_more k d lt = absurd (omega (arith, lt))

  one_more : (act : Act) → MayStand act → All MayStand (act ∷ [])
  one_more act may zero d lt = may
  one_more act may (suc k) d lt = absurd (omega (arith, lt))

  same : (next : World) → next ≡ world → Behind next
  same next is = subst Behind (sym is) (record { more = []; acts_are = sym (append-nil world.acts); stand = no_more; begun_is = begun })

  module _ (next : World) (sent : Flying) (m : Moves world next sent.envelope.to (log.taken sent.envelope)) where
    abbrev q : ℕ
    q = sent.envelope.to

    begun_after : (is_midway m.after.node.mail.wait ≡ true → is_midway m.l.node.mail.wait ≡ true) → (node : ℕ) → has_begun_at next node ≡ true
        → has_begun_at at node ≡ true
    begun_after keeps node h = elim (cases_eq q node) [
      | inl is ↦
          let own = sym (begun_own program nodes options events world runs next q (log.taken sent.envelope) m) ∙ ap (has_begun_at next) is ∙ h in
          begun node (sym (ap (has_begun_at world) is) ∙ begun_before program nodes options events world runs next q (log.taken sent.envelope) m ∙ keeps own)
      | inr other ↦ begun node (sym (begun_other program nodes options events world runs next q (log.taken sent.envelope) m node other) ∙ h)
    ]

    acts_behind : ((d : Deed) → IsActed m.l.node m.after.node d → MayStand (act_of q d)) → is_midway m.after.node.mail.wait ≡ false → Behind next
    acts_behind may after = elim (acts_so program nodes options events world runs next q (log.taken sent.envelope) m) [
      | inl none ↦ record {
        more = [];
        acts_are = none.1 ∙ sym (append-nil world.acts);
        stand = no_more;
        begun_is = begun_after (λ h. let never : false ≡ true = sym after ∙ h in cc);
      }
      | inr some ↦ record {
        more = act_of q some.0 ∷ [];
        acts_are = some.2;
        stand = one_more (act_of q some.0) (may some.0 (acted m.l.node (log.taken sent.envelope) m.turn m.after.node some.0 m.outcome some.1));
        begun_is = begun_after (λ h. let never : false ≡ true = sym after ∙ h in cc);
      }
    ]

    rested_behind : deed_made m.turn ≡ None → (is_midway m.after.node.mail.wait ≡ true → is_midway m.l.node.mail.wait ≡ true) → Behind next
    rested_behind none keeps = elim (acts_so program nodes options events world runs next q (log.taken sent.envelope) m) [
      | inl same_acts ↦ record {
        more = [];
        acts_are = same_acts.1 ∙ sym (append-nil world.acts);
        stand = no_more;
        begun_is = begun_after keeps;
      }
      | inr some ↦ let never : Some some.0 ≡ None = sym some.1 ∙ none in cc
    ]

    by_kind_behind : Takes m.l.node.mail.wait sent.envelope.message (deed_made m.turn) m.after.node.mail.wait → Behind next
    by_kind_behind (rests none keeps) = rested_behind none keeps
    by_kind_behind (makes midway after) =
        acts_behind (λ d did. inr (begun q (begun_before program nodes options events world runs next q (log.taken sent.envelope) m ∙ midway)))
        (ap is_midway after)
    by_kind_behind (goes_on lets away fixes after) =
        acts_behind (λ d did. inl (it_departs m.l.node m.after.node d did
        (fixes (next_in m.l.node.course) (fixed program nodes options events world runs q m.l m.there)))) (ap is_midway after)

    pub came : Behind next
    came = by_kind_behind (takes_so m.l.node m.turn m.after.node sent.envelope m.outcome)

  by_sent : (next : World) (o : Option Flying) → slice_get world.flight 0 ≡ o → event_on world (kinds.Deliver 0) ≡ Some next → Behind next
  by_sent next None at_none e =
      same next (sym (same_Some world next (sym (ap (log.delivers world (remove world.flight 0)) at_none) ∙ e)))
  by_sent next (Some sent) at_sent e = elim (deliver_moves world next 0 sent at_sent e) [
    | inl is ↦ same next is
    | inr m ↦ came next sent m
  ]

  -- the delivery of the oldest message leads on behind the order
  pub behind : (next : World) → event_on world (kinds.Deliver 0) ≡ Some next → Behind next
  behind next e = by_sent next (slice_get world.flight 0) refl e
