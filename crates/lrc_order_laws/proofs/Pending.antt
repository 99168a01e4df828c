-- In every run: how the pending messages change. At a turn that takes a message anew they lose that one, at each other
-- turn none; and they gain what the turn sends.
use Rattle.std.proofs.Common.{◌≡◌, ◌⊎◌, ℕ, zero, suc, ◌+◌, ◌<◌, ◌≤◌, List, [], ◌∷◌, ◌++◌, Bool, true, false, length, refl, sym, ap, subst, ◌∙◌, inl, inr, arith}
use Rattle.std.specs.Prelude.{Option, Some, None, ◌==◌, cond, not, remove, filter, slice_get, slice_set, slice_index, slice_index_or, if◌then◌else◌, nat_lt}
use Rattle.std.proofs.lemmas.Bool.{cases_eq, eq-eqb, false≢true}
use Rattle.std.proofs.lemmas.List.{length-set, map-append, length-replicate}
use Rattle.std.proofs.lemmas.List.Elements.{filter-append}
use Rattle.std.proofs.lemmas.Option.{same_Some, slice_get_within}
use Rattle.lrc_program.specs.declared.Program.{Program}
use Rattle.lrc_exec.specs.Meaning.{Setting}
use Rattle.lrc_exec.specs.Plain.{setting_of}
use Rattle.lrc_store.specs.Order.{placed}
use Rattle.lrc_envelope.specs.Envelope.{EnvelopeRecord}
use Rattle.lrc_protocol.specs.declared.event.Event.{Event}
use Rattle.lrc_protocol.specs.Follows.{numbers_to}
use Rattle.lrc_protocol.specs.Node.{Node, Effect, OptionsRecord}
use Rattle.lrc_protocol.specs.Turn.{TurnRecord, done, run_turn, take_turn, is_repeat, taking}
use Rattle.lrc_protocol.specs.Follows.{is_expected}
use Rattle.lrc_protocol.specs.Run.{Input, run, taken, EntryRecord, Logged, World, Flying, fresh_world, with_turn, sent_by, run_of}
use Rattle.lrc_protocol.specs.Follows.{pending}
use Rattle.lrc_protocol.specs.Rules.{RunRule, TakeRule, IsSent, IsFor, TurnRule, by_run, by_repeat, by_message}
use Rattle.lrc_protocol.proofs.Ruled.{by_rule}
use Rattle.lrc_protocol.proofs.Allowed.{expected_by_rule}
use Rattle.lrc_protocol.proofs.Numbers.{GoOn}
use Rattle.lrc_protocol.proofs.Worlds.{IsEntry, get_set_same, get_set_other, fresh_at}
use Rattle.lrc_protocol.proofs.Turned.{Turned, Turns, turns}
use Rattle.lrc_protocol.proofs.Induction.{Comes, named, delivered, repeated, KeptByTurns, by_turns}
use Rattle.lrc_order_laws.specs.Numbers.{Rises, Below}
use Rattle.lrc_order_laws.proofs.Shift.{AllFrom, Shifted, ShiftedIf, shifts}
use Rattle.lrc_order_laws.proofs.Numbers.{envelopes_in, map_cond, rises-range, marks, sent-envelopes}
use Rattle.lrc_order_laws.proofs.InFlight.{Sends}
use Rattle.lrc_order_laws.proofs.TakenNumbers.{Takes, TakesIf, by_itself, repeats, anew, takes}
use Rattle.lrc_order_laws.proofs.TakenOnce.{AllTaken, Before, before, rises-below, taken-kept, taken-fresh}
use Rattle.lrc_order_laws.proofs.TakenMessages.{is_taken_by, still, pending-is, filter-all, filter-same, filter-others, Same, Others, Split, splits}
use Rattle.lrc_order_laws.proofs.TakenMessages.{others, own-taken, other-taken, nowhere-taken, repeat-same, repeat-other, repeat-itself, repeat-below}

-- ---- what a turn takes

-- the message that an input brings, unless it was taken before
abbrev pub new_of : Node → Input → Option EnvelopeRecord
new_of node run = None
new_of node (taken e) = if is_repeat node e then None else Some e

-- a message taken anew was expected, and its turn is made by the rule for it
pub record Took (node : Node) (e : EnvelopeRecord) (turn : TurnRecord) (after : Node) : Type 0 where
  pub addressed : IsFor node e
  pub anew : is_repeat node e ≡ false
  pub expected : is_expected node e.from e.message ≡ true
  pub effect : Effect
  pub rule : TakeRule (taking node e) e.from e.message effect
  pub sent : IsSent effect turn after

-- a turn that a node makes by itself is made by its rule
pub record Ran (node : Node) (turn : TurnRecord) (after : Node) : Type 0 where
  pub effect : Effect
  pub rule : RunRule node effect
  pub sent : IsSent effect turn after

abbrev MadeBy : Node → Input → TurnRecord → Node → Type 0
MadeBy node run turn after = Ran node turn after
MadeBy node (taken e) turn after = is_repeat node e ≡ false → Took node e turn after

made_by : (node : Node) (input : Input) (turn : TurnRecord) (after : Node) → TurnRule node input turn after → MadeBy node input turn after
made_by node input turn after (by_run {effect = effect} r s) = record { effect = effect; rule = r; sent = s }
made_by node input turn after (by_repeat e f again) = λ new. absurd (false≢true (sym new ∙ again))
made_by node input turn after (by_message e {effect = effect} f new r s) = λ also.
    record { addressed = f; anew = new; expected = expected_by_rule node e effect r; effect = effect; rule = r; sent = s }

pub ran : (node : Node) (turn : TurnRecord) (after : Node) → run_turn node ≡ done turn after → Ran node turn after
ran node turn after is = made_by node run turn after (by_rule node run turn after is)

pub took : (node : Node) (e : EnvelopeRecord) (turn : TurnRecord) (after : Node) → is_repeat node e ≡ false → take_turn node e ≡ done turn after
    → Took node e turn after
took node e turn after new is = made_by node (taken e) turn after (by_rule node (taken e) turn after is) new

-- ---- what is pending then

-- a message was pending, and is no longer; and what was sent is
pub record Lost (e : EnvelopeRecord) (was out now : List EnvelopeRecord) : Type 0 where
  pub front : List EnvelopeRecord
  pub back : List EnvelopeRecord
  pub before : was ≡ front ++ e ∷ back
  pub after : now ≡ (front ++ back) ++ out

-- with the message taken anew, if there is one
abbrev pub Goes : Option EnvelopeRecord → List EnvelopeRecord → List EnvelopeRecord → List EnvelopeRecord → Type 0
Goes None was out now = now ≡ was ++ out
Goes (Some e) was out now = Lost e was out now

-- ---- what is sent is not taken

first_least : (c : Bool) (least bound x : ℕ) (rest : List ℕ) → c ≡ true → Rises least bound (cond c (x ∷ rest) rest) → least ≤ x
first_least true least bound x rest e r = r.0
first_least false least bound x rest e r = cc

then_rises : (c : Bool) (least bound x : ℕ) (rest : List ℕ) → Rises least bound (cond c (x ∷ rest) rest) → (lower : ℕ) × (Rises lower bound rest) ×
    (least ≤ lower)
then_rises true least bound x rest r = let at_least : least ≤ x = r.0 in (x + 1, r.2, omega (arith, at_least))
then_rises false least bound x rest r = (least, r, omega arith)

sent_number : (out : List EnvelopeRecord) (k : ℕ) (x : EnvelopeRecord) (least bound : ℕ) → slice_get out k ≡ Some x
    → Rises least bound (numbers_to x.to out) → least ≤ x.number
sent_number [] k x least bound at r = cc
sent_number (y ∷ out) zero x least bound at r =
    let same : y ≡ x = same_Some y x at in
    subst (λ (y : EnvelopeRecord). least ≤ y.number) same
    (first_least (y.to == x.to) least bound y.number (numbers_to x.to out) (eq-eqb y.to x.to (ap (λ (y : EnvelopeRecord). y.to) same))
    (subst (Rises least bound) (map_cond (y.to == x.to) y (filter (λ y. y.to == x.to) out)) r))
sent_number (y ∷ out) (suc k) x least bound at r =
    let rest : (lower : ℕ) × (Rises lower bound (numbers_to x.to out)) × (least ≤ lower) =
    then_rises (y.to == x.to) least bound y.number (numbers_to x.to out) (subst (Rises least bound) (map_cond (y.to == x.to) y (filter
    (λ y. y.to == x.to) out)) r) in
    let le : rest.0 ≤ x.number = sent_number out k x rest.0 bound at rest.1 in
    let more : least ≤ rest.0 = rest.2 in
    omega (arith, le, more)

from_at : (n : ℕ) (out : List EnvelopeRecord) (k : ℕ) (x : EnvelopeRecord) → AllFrom n out → slice_get out k ≡ Some x → x.from ≡ n
from_at n [] k x f at = cc
from_at n (y ∷ out) zero x f at = subst (λ (y : EnvelopeRecord). y.from ≡ n) (same_Some y x at) f.0
from_at n (y ∷ out) (suc k) x f at = from_at n out k x f.1 at

-- ---- a turn, by what comes

none_or : {X : Type 0} (o : Option X) → (o ≡ None) ⊎ ((x : X) × (o ≡ Some x))
none_or None = inl refl
none_or (Some x) = inr (x, refl)

module _ (program : Program) (nodes : ℕ) (options : OptionsRecord) where
  pub record AllPending (world : World) : Type 0 where
    pub taken : AllTaken program nodes options world
    pub places : (n : ℕ) (l : Logged) → slice_get world.nodes n ≡ Some l → length l.node.mail.taken ≡ nodes

  -- what a node sends has not been taken when it is sent
  module _ (world : World) (flight : List Flying) (n : ℕ) (l after : Logged) (input : Input) (entry : EntryRecord)
      (at : slice_get world.nodes n ≡ Some l) (comes : Comes world n input flight) (i : IsEntry l input entry after) (h : AllPending world) where
    own : Sends (setting_of program nodes n) options (envelopes_in world.flight) l.node
    own = h.taken.sends.each n l at

    t : Turned l.node entry.turn after.node
    t = subst (Turns l.node) i.turn_is (turns l.node input)

    all_from : AllFrom n entry.turn.out
    all_from =
        let sh : Shifted l.node entry.turn after.node = subst (ShiftedIf l.node) i.turn_is (shifts l.node input) in
        subst (λ (s : Setting). AllFrom s.me entry.turn.out) (t.setting ∙ own.setting) sh.from

    untaken : (k : ℕ) (x : EnvelopeRecord) → slice_get entry.turn.out k ≡ Some x → is_taken_by (slice_set world.nodes n after) x ≡ false
    untaken k x is = elim (none_or (slice_get (slice_set world.nodes n after) x.to)) [
      | inl none ↦ nowhere-taken (slice_set world.nodes n after) x none
      | inr (lb, at_b) ↦
          let b : Before nodes world x.to lb = before program nodes options world flight n l after input entry at comes i h.taken x.to lb at_b in
          let lt : x.to < nodes = subst (λ k. x.to < k) h.taken.count (slice_get_within world.nodes x.to b.old b.at) in
          let g : GoOn l.node.options.first l.node.mail.sent entry.turn.out after.node.mail.sent x.to =
          t.numbers.each x.to (subst (λ k. x.to < k) (sym own.size) lt) in
          let bound : ℕ = options.first + slice_index l.node.mail.sent x.to in
          let first : l.node.options.first ≡ options.first = ap (λ (o : OptionsRecord). o.first) own.options in
          let le : l.node.options.first + slice_index l.node.mail.sent x.to ≤ x.number =
          sent_number entry.turn.out k x (l.node.options.first + slice_index l.node.mail.sent x.to)
          (l.node.options.first + slice_index l.node.mail.sent x.to + g.more) is
          (subst (Rises (l.node.options.first + slice_index l.node.mail.sent x.to) (l.node.options.first + slice_index l.node.mail.sent x.to + g.more))
          (sym g.numbers)
          (rises-range (l.node.options.first + slice_index l.node.mail.sent x.to) g.more _ refl)) in
          let least : bound ≤ x.number = omega (arith, first, le) in
          let taken_less : Below bound (slice_index_or lb.node.mail.taken n []) =
          rises-below options.first bound (slice_index_or lb.node.mail.taken n [])
          (b.takes_more n options.first bound (own.numbers x.to lt) (h.taken.rises n x.to l b.old at b.at)) in
          own-taken (slice_set world.nodes n after) x.to lb x at_b refl
          ∙ repeat-below lb.node x bound least
          (subst (λ a. Below bound (slice_index_or lb.node.mail.taken a [])) (sym (from_at n entry.turn.out k x all_from is)) taken_less)
    ]

    -- what was in flight and is pending still, and then what is sent
    pending-sent : pending (with_turn world flight n entry after) ≡ still (slice_set world.nodes n after) (envelopes_in flight) ++ entry.turn.out
    pending-sent =
        let all : List Logged = slice_set world.nodes n after in
        pending-is (with_turn world flight n entry after)
        ∙ ap (still all) (map-append (λ (f : Flying). f.envelope) flight (sent_by entry) ∙ ap (λ es. envelopes_in flight ++ es)
        (sent-envelopes entry.stamp entry.turn.out))
        ∙ filter-append (λ e. not (is_taken_by all e)) (envelopes_in flight) entry.turn.out
        ∙ ap (λ es. still all (envelopes_in flight) ++ es) (filter-all (λ e. not (is_taken_by all e)) entry.turn.out (λ k x is. ap not (untaken k x is)))

    -- where the turn takes no number, the same are taken
    same_taken : after.node.mail.taken ≡ l.node.mail.taken → (x : EnvelopeRecord) → is_taken_by (slice_set world.nodes n after) x ≡ is_taken_by world.nodes x
    same_taken is x = elim (cases_eq n x.to) [
      | inl e ↦
          own-taken (slice_set world.nodes n after) n after x (get_set_same world.nodes n l after at) e
          ∙ repeat-same after.node l.node x is
          ∙ sym (own-taken world.nodes n l x at e)
      | inr ne ↦ other-taken world.nodes n after x ne
    ]

    still-same : after.node.mail.taken ≡ l.node.mail.taken → (es : List EnvelopeRecord) → still (slice_set world.nodes n after) es ≡ still world.nodes es
    still-same is es =
        filter-same (λ e. not (is_taken_by (slice_set world.nodes n after) e)) (λ e. not (is_taken_by world.nodes e)) es (λ x. ap not (same_taken is x))

-- ---- what an input does to the numbers taken

abbrev TakesFact : Node → Input → List (List ℕ) → Type 0
TakesFact node run t = t ≡ node.mail.taken
TakesFact node (taken e) t = (is_repeat node e ≡ true → t ≡ node.mail.taken) × (is_repeat node e ≡ false → t ≡ (taking node e).mail.taken)

takes_fact : (node : Node) (input : Input) (t : List (List ℕ)) → Takes node input t → TakesFact node input t
takes_fact node _ _ by_itself = refl
takes_fact node _ _ (repeats e again) = (λ is. refl, λ not. absurd (false≢true (sym not ∙ again)))
takes_fact node _ _ (anew e new) = (λ is. absurd (false≢true (sym new ∙ is)), λ not. refl)

cond_false : (c : Bool) (e : EnvelopeRecord) (rest : List EnvelopeRecord) → c ≡ false → cond c (e ∷ rest) rest ≡ rest
cond_false true e rest is = cc
cond_false false e rest is = refl

cond_true : (c : Bool) (e : EnvelopeRecord) (rest : List EnvelopeRecord) → c ≡ true → cond c (e ∷ rest) rest ≡ e ∷ rest
cond_true true e rest is = refl
cond_true false e rest is = cc

pub get_within : {X : Type 0} (xs : List X) (n : ℕ) → n < length xs → (x : X) × (slice_get xs n ≡ Some x)
get_within [] n lt = absurd (omega (arith, lt))
get_within (x ∷ xs) zero lt = (x, refl)
get_within (x ∷ xs) (suc n) lt = get_within xs n (omega (arith, lt))

-- a message that is taken already is not pending, so that nothing is lost without it
without-taken : (all : List Logged) (e : EnvelopeRecord) (es without : List EnvelopeRecord) → Split es without e → is_taken_by all e ≡ true
    → still all without ≡ still all es
without-taken all e es without s is =
    let p : EnvelopeRecord → Bool = λ e. not (is_taken_by all e) in
    ap (still all) s.without_is
    ∙ filter-append p s.front s.back
    ∙ ap (λ rest. still all s.front ++ rest) (sym (cond_false (p e) e (still all s.back) (ap not is)))
    ∙ sym (filter-append p s.front (e ∷ s.back))
    ∙ ap (still all) (sym s.is)

module _ (program : Program) (nodes : ℕ) (options : OptionsRecord) where
  -- the sender of a message that is taken anew is a node, and no other message in flight is the same
  module _ (world : World) (n : ℕ) (l after : Logged) (e : EnvelopeRecord) (entry : EntryRecord) (at : slice_get world.nodes n ≡ Some l)
      (i : IsEntry l (taken e) entry after) (h : AllPending program nodes options world) (to : n ≡ e.to) (new : is_repeat l.node e ≡ false) where
    k : Took l.node e entry.turn after.node
    k = took l.node e entry.turn after.node new i.turn_is

    from_node : e.from < nodes
    from_node = subst (λ (s : Setting). e.from < s.nodes) (h.taken.sends.each n l at).setting k.addressed.from_one

    numbers_taken : after.node.mail.taken ≡ (taking l.node e).mail.taken
    numbers_taken = (takes_fact l.node (taken e) after.node.mail.taken (subst (TakesIf l.node (taken e)) i.turn_is (takes l.node (taken e)))).1 new

    alone : (without : List EnvelopeRecord) (s : Split (envelopes_in world.flight) without e) → Others e s.front × Others e s.back
    alone without s =
        let sender : (x : Logged) × (slice_get world.nodes e.from ≡ Some x) = get_within world.nodes e.from (subst (λ k. e.from < k)
        (sym h.taken.count) from_node) in
        let lt : e.to < nodes = subst (λ k. e.to < k) h.taken.count (subst (λ k. k < length world.nodes) to (slice_get_within world.nodes n l at)) in
        others e (envelopes_in world.flight) without options.first (options.first + slice_index sender.0.node.mail.sent e.to) s
        ((h.taken.sends.each e.from sender.0 sender.1).numbers e.to lt)

    other : (x : EnvelopeRecord) → (Same x e → ⊥) → is_taken_by (slice_set world.nodes n after) x ≡ is_taken_by world.nodes x
    other x ne = elim (cases_eq n x.to) [
      | inl is ↦
          own-taken (slice_set world.nodes n after) n after x (get_set_same world.nodes n l after at) is
          ∙ repeat-other after.node l.node e x numbers_taken (sym is ∙ to) ne
          ∙ sym (own-taken world.nodes n l x at is)
      | inr is ↦ other-taken world.nodes n after x is
    ]

    itself : is_taken_by (slice_set world.nodes n after) e ≡ true
    itself =
        own-taken (slice_set world.nodes n after) n after e (get_set_same world.nodes n l after at) to
        ∙ repeat-itself after.node l.node e numbers_taken (subst (λ k. e.from < k) (sym (h.places n l at)) from_node)

    both_still : (without : List EnvelopeRecord) (s : Split (envelopes_in world.flight) without e)
        → still (slice_set world.nodes n after) s.front ++ still (slice_set world.nodes n after) s.back ≡ still world.nodes s.front ++ still world.nodes s.back
    both_still without s =
        let a : Others e s.front × Others e s.back = alone without s in
        let p : EnvelopeRecord → Bool = λ e. not (is_taken_by (slice_set world.nodes n after) e) in
        let q : EnvelopeRecord → Bool = λ e. not (is_taken_by world.nodes e) in
        ap (λ es. es ++ still (slice_set world.nodes n after) s.back) (filter-others p q e s.front (λ x ne. ap not (other x ne)) a.0)
        ∙ ap (λ es. still world.nodes s.front ++ es) (filter-others p q e s.back (λ x ne. ap not (other x ne)) a.1)

    still_without : (without : List EnvelopeRecord) (s : Split (envelopes_in world.flight) without e)
        → still (slice_set world.nodes n after) without ≡ still world.nodes s.front ++ still world.nodes s.back
    still_without without s =
        ap (still (slice_set world.nodes n after)) s.without_is
        ∙ filter-append (λ e. not (is_taken_by (slice_set world.nodes n after) e)) s.front s.back
        ∙ both_still without s

    pending_before : (without : List EnvelopeRecord) (s : Split (envelopes_in world.flight) without e)
        → pending world ≡ still world.nodes s.front ++ e ∷ still world.nodes s.back
    pending_before without s =
        let q : EnvelopeRecord → Bool = λ e. not (is_taken_by world.nodes e) in
        pending-is world
        ∙ ap (still world.nodes) s.is
        ∙ filter-append q s.front (e ∷ s.back)
        ∙ ap (λ es. still world.nodes s.front ++ es) (cond_true (q e) e (still world.nodes s.back) (ap not (own-taken world.nodes n l e at to ∙ new)))

  -- a message that came: its place in flight is empty then, or not
  message : (world : World) (flight : List Flying) (n : ℕ) (l after : Logged) (e : EnvelopeRecord) (entry : EntryRecord) → slice_get world.nodes n ≡ Some l
      → Comes world n (taken e) flight → IsEntry l (taken e) entry after → AllPending program nodes options world → n ≡ e.to
      → (without : List EnvelopeRecord) → Split (envelopes_in world.flight) without e
      → (envelopes_in flight ≡ without) ⊎ (envelopes_in flight ≡ envelopes_in world.flight)
      → (b : Bool) → is_repeat l.node e ≡ b → Goes (if b then None else Some e) (pending world) entry.turn.out (pending (with_turn world flight n entry after))
  message world flight n l after e entry at comes i h to without s there true again =
      let same : after.node.mail.taken ≡ l.node.mail.taken =
      (takes_fact l.node (taken e) after.node.mail.taken (subst (TakesIf l.node (taken e)) i.turn_is (takes l.node (taken e)))).0 again in
      let kept : still world.nodes (envelopes_in flight) ≡ still world.nodes (envelopes_in world.flight) = elim there [
        | inl is ↦
            ap (still world.nodes) is
            ∙ without-taken world.nodes e (envelopes_in world.flight) without s (own-taken world.nodes n l e at to ∙ again)
        | inr is ↦ ap (still world.nodes) is
      ] in
      pending-sent program nodes options world flight n l after (taken e) entry at comes i h
      ∙ ap (λ es. es ++ entry.turn.out)
      (still-same program nodes options world flight n l after (taken e) entry at comes i h same (envelopes_in flight) ∙ kept ∙ sym (pending-is world))
  message world flight n l after e entry at comes i h to without s there false new = record {
    front = still world.nodes s.front;
    back = still world.nodes s.back;
    before = pending_before world n l after e entry at i h to new without s;
    after =
        let left : still (slice_set world.nodes n after) (envelopes_in flight) ≡ still world.nodes s.front ++ still world.nodes s.back = elim there [
          | inl is ↦
              ap (still (slice_set world.nodes n after)) is ∙ still_without world n l after e entry at i h to new without s
          | inr is ↦
              ap (still (slice_set world.nodes n after)) is
              ∙ sym (without-taken (slice_set world.nodes n after) e (envelopes_in world.flight) without s (itself world n l after e entry at i h to new))
              ∙ still_without world n l after e entry at i h to new without s
        ] in
        pending-sent program nodes options world flight n l after (taken e) entry at comes i h ∙ ap (λ es. es ++ entry.turn.out) left;
  }

  -- at each turn the pending messages lose the one that is taken anew, and gain what is sent
  pub pending-goes : (world : World) (flight : List Flying) (n : ℕ) (l after : Logged) (input : Input) (entry : EntryRecord) → slice_get world.nodes n ≡ Some l
      → Comes world n input flight → IsEntry l input entry after → AllPending program nodes options world
      → Goes (new_of l.node input) (pending world) entry.turn.out (pending (with_turn world flight n entry after))
  pending-goes world _ n l after _ entry at named i h =
      let same : after.node.mail.taken ≡ l.node.mail.taken = takes_fact l.node run after.node.mail.taken (subst (TakesIf l.node run) i.turn_is
      (takes l.node run)) in
      pending-sent program nodes options world world.flight n l after run entry at named i h
      ∙ ap (λ es. es ++ entry.turn.out)
      (still-same program nodes options world world.flight n l after run entry at named i h same (envelopes_in world.flight) ∙ sym (pending-is world))
  pending-goes world _ _ l after _ entry at (delivered place {flying = f} is) i h =
      message world (remove world.flight place) f.envelope.to l after f.envelope entry at (delivered place is) i h refl
      (envelopes_in (remove world.flight place)) (splits world.flight place f is) (inl refl) (is_repeat l.node f.envelope) refl
  pending-goes world _ _ l after _ entry at (repeated place {flying = f} is) i h =
      message world _ f.envelope.to l after f.envelope entry at (repeated place is) i h refl
      (envelopes_in (remove world.flight place)) (splits world.flight place f is) (inr (marks 0 place world.flight)) (is_repeat l.node f.envelope) refl

  -- ---- every run

  taken_length : (node : Node) (input : Input) (t : List (List ℕ)) → Takes node input t → length t ≡ length node.mail.taken
  taken_length node _ _ by_itself = refl
  taken_length node _ _ (repeats e again) = refl
  taken_length node _ _ (anew e new) = length-set node.mail.taken e.from (placed nat_lt e.number (slice_index_or node.mail.taken e.from []))

  pub pending-kept : KeptByTurns (AllPending program nodes options)
  pending-kept world flight n l after input entry at comes i h = record {
    taken = taken-kept program nodes options world flight n l after input entry at comes i h.taken;
    places = λ m lm is. elim (cases_eq n m) [
      | inl e ↦
          let same : after ≡ lm = same_Some after lm (sym (get_set_same world.nodes n l after at) ∙ ap (slice_get (slice_set world.nodes n after)) e ∙ is) in
          subst (λ (x : Logged). length x.node.mail.taken ≡ nodes) same
          (taken_length l.node input after.node.mail.taken (subst (TakesIf l.node input) i.turn_is (takes l.node input)) ∙ h.places n l at)
      | inr ne ↦ h.places m lm (sym (get_set_other world.nodes n m after ne) ∙ is)
    ];
  }

  pub pending-fresh : AllPending program nodes options (fresh_world program nodes options)
  pending-fresh = record {
    taken = taken-fresh program nodes options;
    places = λ n l is.
        subst (λ (x : Logged). length x.node.mail.taken ≡ nodes) (sym (fresh_at program nodes options 0 nodes n l is))
        (length-replicate nodes []);
  }

  pub all_pending : (events : List Event) (world : World) → run_of program nodes options events ≡ Some world → AllPending program nodes options world
  all_pending events world e = by_turns (AllPending program nodes options) pending-kept program nodes options events world pending-fresh e
