-- A turn that the code makes is the next turn of the weave.
use Rattle.std.proofs.Common.{◌≡◌, ℕ, zero, suc, ◌+◌, ◌<◌, ◌≤◌, Bool, true, false, cond, List, [], ◌∷◌, ◌++◌, length}
use Rattle.std.proofs.Common.{map, filter, replicate, take, drop, refl, sym, ap, subst, ◌∙◌, arith}
use Rattle.std.specs.Prelude.{Some, None, ◌==◌, ◌&&◌, not, nat_lt, remove, position, slice_get, slice_set, slice_index_or}
use Rattle.std.specs.List.{enumerate_from, position_or_len}
use Rattle.std.specs.Option.{option_to_list}
use Rattle.std.proofs.lemmas.Bool.{and_parts, eqb-true, eq-eqb, ltb-true, lt-ltb}
use Rattle.std.proofs.lemmas.List.{map-append, length-map}
use Rattle.std.proofs.lemmas.List.Quantifiers.{position-Some}
use Rattle.std.proofs.lemmas.Simd.{map-map}
use Rattle.std.proofs.lemmas.Option.{slice_get-get_or, slice_get_within, same_Some, none-some}
use Rattle.lrc_program.specs.declared.Program.{Program}
use Rattle.lrc_trace.specs.declared.act.Act.{Act}
use Rattle.lrc_envelope.specs.Envelope.{EnvelopeRecord}
use Rattle.lrc_protocol.specs.declared.event.Event.{Event}
use Rattle.lrc_protocol.specs.Node.{OptionsRecord}
use Rattle.lrc_protocol.specs.Turn.{Outcome, unexpected, is_addressed, is_repeat, take_anew, empty_turn, done}
use Rattle.lrc_protocol.specs.Run.{Input, run, taken, EntryRecord, Logged, logged, logs as logs', logging, next_stamp, Flying, marked}
use Rattle.lrc_protocol.specs.Run.{with_mark, sent_by}
use Rattle.lrc_order_laws.specs.Numbers.{numbers_between, Rises}
use Rattle.lrc_order_laws.proofs.InFlight.{Sends, all_send}
use Rattle.lrc_weave.specs.declared.events.MessageName.{MessageName}
use Rattle.lrc_weave.specs.Logs.{GoesOnBy, AreLogs}
use Rattle.lrc_weave.specs.Sent.{AreTakesSent}
use Rattle.lrc_weave.specs.Woven.{IsNext, is_taken_among, IsTakenAt, MakesNextTurn, runs, takes_last, takes_again, Woven, nothing_yet, then_one, AreWoven}
use Rattle.lrc_protocol.specs.Follows.{log_of, come_of}
use Rattle.lrc_weave.specs.Next.{IsNextOf}
use Rattle.lrc_weave.specs.Again.{is_again}
use Rattle.lrc_weave.specs.Events.{message_name, has_name, event_taking, names_left, IsTakenFrom, IsMadeByEvent, IsTurnOf, LacksMessage, IsUnsent, NotesTurn}
use Rattle.lrc_weave.proofs.Places.{dropped_less, within_outer}
use Rattle.lrc_weave.proofs.Members.{in_map, of_map}
use Rattle.lrc_weave.specs.Whole.{MakesRun}
use Rattle.lrc_weave.proofs.Played.{acts_in, all_played, makes_run}
use Rattle.lrc_weave.proofs.Holding.{Holds, holds_start, holds_more, can_take}

-- ---- one message in flight for each number

module _ (from to bound : ℕ) where
  abbrev is_between : EnvelopeRecord → Bool
  is_between e = (e.from == from) && (e.to == to)

  abbrev chosen : Bool → EnvelopeRecord → List EnvelopeRecord → List ℕ
  chosen b e es = map (λ (x : EnvelopeRecord). x.number) (cond b (e ∷ filter is_between es) (filter is_between es))

  low_by : (b : Bool) (e y : EnvelopeRecord) (es : List EnvelopeRecord) (least : ℕ) → ((l : ℕ) → Rises l bound (numbers_between from to es) → l ≤ y.number)
      → Rises least bound (chosen b e es) → least ≤ y.number
  low_by true e y es least rest r = omega (arith, r.0, rest (e.number + 1) r.2)
  low_by false e y es least rest r = rest least r

  low : (es : List EnvelopeRecord) (y : EnvelopeRecord) (q least : ℕ) → slice_get es q ≡ Some y → is_between y ≡ true
      → Rises least bound (numbers_between from to es) → least ≤ y.number
  low [] y q least at is r = cc
  low (e ∷ es) y zero least at is r =
      let same : e ≡ y = cc in
      let here : Rises least bound (chosen true e es) = subst (λ b. Rises least bound (chosen b e es)) (ap is_between same ∙ is) r in
      subst (λ (x : EnvelopeRecord). least ≤ x.number) same here.0
  low (e ∷ es) y (suc q) least at is r = low_by (is_between e) e y es least (λ l rest. low es y q l at is rest) r

  rest_rises : (b : Bool) (e : EnvelopeRecord) (es : List EnvelopeRecord) (least : ℕ) → Rises least bound (chosen b e es)
      → (l : ℕ) × Rises l bound (numbers_between from to es)
  rest_rises true e es least r = (e.number + 1, r.2)
  rest_rises false e es least r = (least, r)

  one_place : (es : List EnvelopeRecord) (p q least : ℕ) (x y : EnvelopeRecord) → slice_get es p ≡ Some x → slice_get es q ≡ Some y
      → is_between x ≡ true → is_between y ≡ true → x.number ≡ y.number → Rises least bound (numbers_between from to es) → p ≡ q
  one_place [] p q least x y at_p at_q is_x is_y same r = cc
  one_place (e ∷ es) zero zero least x y at_p at_q is_x is_y same r = refl
  one_place (e ∷ es) zero (suc q) least x y at_p at_q is_x is_y same r =
      let first : e ≡ x = cc in
      let here : Rises least bound (chosen true e es) = subst (λ b. Rises least bound (chosen b e es)) (ap is_between first ∙ is_x) r in
      let later : e.number + 1 ≤ y.number = low es y q (e.number + 1) at_q is_y here.2 in
      absurd (omega (arith, later, same, ap (λ (z : EnvelopeRecord). z.number) first))
  one_place (e ∷ es) (suc p) zero least x y at_p at_q is_x is_y same r =
      let first : e ≡ y = cc in
      let here : Rises least bound (chosen true e es) = subst (λ b. Rises least bound (chosen b e es)) (ap is_between first ∙ is_y) r in
      let later : e.number + 1 ≤ x.number = low es x p (e.number + 1) at_p is_x here.2 in
      absurd (omega (arith, later, same, ap (λ (z : EnvelopeRecord). z.number) first))
  one_place (e ∷ es) (suc p) (suc q) least x y at_p at_q is_x is_y same r =
      let rest = rest_rises (is_between e) e es least r in
      ap suc (one_place es p q rest.0 x y at_p at_q is_x is_y same rest.1)

-- ---- a message that is taken is addressed

addressed_if : (input : Input) (stamp : ℕ) (log : List EntryRecord) (o : Outcome) (entry : EntryRecord) (after : Logged) (b : Bool)
    → logging input stamp log (cond b o unexpected) ≡ logged entry after → b ≡ true
addressed_if input stamp log o entry after true e = refl
addressed_if input stamp log o entry after false e = cc

addressed : (l : Logged) (envelope : EnvelopeRecord) (came : ℕ) (entry : EntryRecord) (after : Logged)
    → logs' l (taken envelope) came ≡ logged entry after → envelope.from < l.node.setting.nodes
addressed l envelope came entry after e =
    let is : is_addressed l.node envelope ≡ true =
    addressed_if (taken envelope) (next_stamp l.log came) l.log (cond (is_repeat l.node envelope) (done empty_turn l.node) (take_anew l.node envelope))
    entry after (is_addressed l.node envelope) e in
    ltb-true envelope.from l.node.setting.nodes (and_parts _ _ is).1

-- ---- what flight is known by

abbrev pub name_at : Flying → MessageName
name_at flying = message_name flying.envelope

name_marked : (b : Bool) (f : Flying) → name_at (cond b (marked f) f) ≡ name_at f
name_marked true f = refl
name_marked false f = refl

names_marked : (flight : List Flying) (first place : ℕ)
    → map name_at (map (λ (at : ℕ × Flying). cond (at.0 == place) (marked at.1) at.1) (enumerate_from first flight)) ≡ map name_at flight
names_marked [] first place = refl
names_marked (f ∷ flight) first place =
    ap (λ k. k ∷ map name_at (map (λ (at : ℕ × Flying). cond (at.0 == place) (marked at.1) at.1) (enumerate_from (first + 1) flight)))
    (name_marked (first == place) f)
    ∙ ap (λ ks. name_at f ∷ ks) (names_marked flight (first + 1) place)

names_removed : (flight : List Flying) (place : ℕ) → map name_at (remove flight place) ≡ remove (map name_at flight) place
names_removed [] zero = refl
names_removed [] (suc place) = refl
names_removed (f ∷ flight) zero = refl
names_removed (f ∷ flight) (suc place) = ap (λ ks. name_at f ∷ ks) (names_removed flight place)

-- a message is known by its name
named_itself : (e : EnvelopeRecord) → has_name e (message_name e) ≡ true
named_itself e =
    ap (λ b. b && ((e.to == e.to) && (e.number == e.number))) (eq-eqb e.from e.from refl)
    ∙ ap (λ b. b && (e.number == e.number)) (eq-eqb e.to e.to refl) ∙ eq-eqb e.number e.number refl

-- nothing passes a test that finds no place
upto_by : (b : Bool) (r k : ℕ) → r ≤ k → cond (not b) (1 + r) 0 ≤ suc k
upto_by true r k le = omega arith
upto_by false r k le = omega (arith, le)

first_upto : {X : Type 0} (p : X → Bool) (xs : List X) (k : ℕ) (x : X) → slice_get xs k ≡ Some x → p x ≡ true → position_or_len p xs ≤ k
first_upto p [] k x at passes = cc
first_upto p (y ∷ ys) zero x at passes =
    let same : y ≡ x = same_Some y x at in
    subst (λ b. cond (not b) (1 + position_or_len p ys) 0 ≤ 0) (sym (ap p same ∙ passes)) (omega arith)
first_upto p (y ∷ ys) (suc k) x at passes = upto_by (p y) (position_or_len p ys) k (first_upto p ys k x at passes)

passes_none : {X : Type 0} (p : X → Bool) (xs : List X) (k : ℕ) (x : X) → position p xs ≡ None → slice_get xs k ≡ Some x → p x ≡ true → ⊥
passes_none p xs k x none at passes =
    let upto : position_or_len p xs ≤ k = first_upto p xs k x at passes in
    let within : k < length xs = slice_get_within xs k x at in
    let found : nat_lt (position_or_len p xs) (length xs) ≡ true = lt-ltb (position_or_len p xs) (length xs) (omega (arith, upto, within)) in
    none-some (position_or_len p xs) (sym none ∙ ap (λ b. cond b (Some (position_or_len p xs)) None) found)

-- ---- one turn

-- what the code keeps stands for a part of the weave
abbrev pub WovenSo : List (List EntryRecord) → List ℕ → List MessageName → List Event → List Act → Type 0
WovenSo logs come names events acts = (program : Program) (nodes : ℕ) (options : OptionsRecord) → AreLogs program nodes options logs
    → AreTakesSent logs
    → (flight : List Flying) × (woven : Woven logs come flight events) × Holds logs come flight × (map name_at flight ≡ names) × (acts_in woven ≡ acts)

pub so_start : (logs : List (List EntryRecord)) → WovenSo logs (replicate (length logs) 0) [] [] []
so_start logs program nodes options are sources = ([], nothing_yet, holds_start logs, refl, refl)

pub so_all : (logs : List (List EntryRecord)) (come : List ℕ) (names : List MessageName) (events : List Event) (acts : List Act)
    → WovenSo logs come names events acts → IsNextOf logs come None
    → (program : Program) (nodes : ℕ) (options : OptionsRecord) → AreLogs program nodes options logs
    → AreTakesSent logs → (flight : List Flying) × AreWoven logs events flight × (map name_at flight ≡ names)
so_all logs come names events acts so none program nodes options are sources =
    let s = so program nodes options are sources in
    (s.0, record { come = come; woven = s.1; all = none }, s.3)

-- the run of these events
pub so_run : (logs : List (List EntryRecord)) (come : List ℕ) (names : List MessageName) (events : List Event) (acts : List Act)
    → WovenSo logs come names events acts → IsNextOf logs come None
    → (program : Program) (nodes : ℕ) (options : OptionsRecord) → AreLogs program nodes options logs
    → AreTakesSent logs → MakesRun program nodes options logs events acts (length names)
so_run logs come names events acts so none program nodes options are sources =
    let s = so program nodes options are sources in
    let m = makes_run logs program nodes options are events s.0 (record { come = come; woven = s.1; all = none }) in
    record {
      world = m.world;
      runs = m.runs;
      logs_are = m.logs_are;
      acts_are = m.acts_are ∙ s.4;
      flight = m.flight ∙ sym (length-map s.0 name_at) ∙ ap length s.3;
    }

module _ (logs : List (List EntryRecord)) (come : List ℕ) (events : List Event) (counted : length come ≡ length logs)
    (node : ℕ) (entry : EntryRecord) (next : IsNext logs come node entry)
    (program : Program) (nodes : ℕ) (options : OptionsRecord) (are : AreLogs program nodes options logs)
    (sources : AreTakesSent logs) (flight : List Flying) (woven : Woven logs come flight events)
    (holds : Holds logs come flight) where
  abbrev before : List EntryRecord
  before = take (come_of come node) (log_of logs node)

  abbrev later : List EntryRecord
  later = drop (come_of come node + 1) (log_of logs node)

  -- the turn is made, and what is left in flight is known by these
  abbrev MadeOf : Event → List MessageName → Type 0
  MadeOf event left = (rest : List Flying) × MakesNextTurn node before later entry flight event rest × (map name_at rest ≡ left)

  from_in : (envelope : EnvelopeRecord) → entry.input ≡ taken envelope → envelope.from < nodes
  from_in envelope is =
      let played = all_played logs program nodes options are come flight events woven in
      let here = played.2.each node (within_outer logs node (come_of come node) entry next.next) in
      let on : GoesOnBy here.0 (entry ∷ later) = subst (GoesOnBy here.0) (dropped_less (log_of logs node) (come_of come node) entry next.next) here.3 in
      let sends : Sends _ options _ here.0.node = (all_send program nodes options events played.0 played.1).each node here.0 here.1 in
      subst (λ s. envelope.from < s) (ap (λ (s : _). s.nodes) sends.setting)
      (addressed here.0 envelope on.0 entry on.1 (ap (λ i. logs' here.0 i on.0) (sym is) ∙ on.3))

  same_place : (p q : ℕ) (f g : Flying) → slice_get flight p ≡ Some f → slice_get flight q ≡ Some g → has_name g.envelope (name_at f) ≡ true
      → g.envelope.from < nodes → g.envelope.to < nodes → p ≡ q
  same_place p q f g at_p at_q is from_lt to_lt =
      let played = all_played logs program nodes options are come flight events woven in
      let sender = played.2.each g.envelope.from (subst (λ k. g.envelope.from < k) (sym are.count) from_lt) in
      let sends = (all_send program nodes options events played.0 played.1).each g.envelope.from sender.0 sender.1 in
      let rises = sends.numbers g.envelope.to to_lt in
      let outer = and_parts (f.envelope.from == g.envelope.from) _ is in
      let inner = and_parts (f.envelope.to == g.envelope.to) _ outer.1 in
      one_place g.envelope.from g.envelope.to _ (map (λ (x : Flying). x.envelope) played.0.flight) p q _ f.envelope g.envelope
      (in_map (λ (x : Flying). x.envelope) played.0.flight f p (ap (λ fs. slice_get fs p) played.2.flown ∙ at_p))
      (in_map (λ (x : Flying). x.envelope) played.0.flight g q (ap (λ fs. slice_get fs q) played.2.flown ∙ at_q))
      (ap (λ b. b && (f.envelope.to == g.envelope.to)) outer.0 ∙ inner.0)
      (ap (λ b. b && (g.envelope.to == g.envelope.to)) (eq-eqb g.envelope.from g.envelope.from refl) ∙ eq-eqb g.envelope.to g.envelope.to refl)
      (eqb-true f.envelope.number g.envelope.number inner.1)
      rises

  by_again : (names left : List MessageName) (event : Event) (place : ℕ) (f : Flying) (b : Bool) → map name_at flight ≡ names
      → IsTakenAt node before entry flight place f
      → is_taken_among f.envelope later ≡ b → event ≡ event_taking b place → left ≡ names_left b place names → MadeOf event left
  by_again names left event place f true same t again event_is left_is = (
    with_mark flight place,
    subst (λ e. MakesNextTurn node before later entry flight e (with_mark flight place)) (sym event_is) (takes_again t again),
    names_marked flight 0 place ∙ same ∙ sym left_is,
  )
  by_again names left event place f false same t last event_is left_is = (
    remove flight place,
    subst (λ e. MakesNextTurn node before later entry flight e (remove flight place)) (sym event_is) (takes_last t last),
    names_removed flight place ∙ ap (λ ks. remove ks place) same ∙ sym left_is,
  )

  by_take : (names left : List MessageName) (event : Event) (envelope : EnvelopeRecord) → map name_at flight ≡ names → entry.input ≡ taken envelope
      → IsTakenFrom names envelope (is_taken_among envelope later) left event → MadeOf event left
  by_take names left event envelope same is t =
      let can = can_take logs program nodes options are sources come flight node entry envelope next is holds in
      let found = position-Some (has_name envelope) names t.0 (message_name envelope) t.1 in
      let there : slice_get (map name_at flight) t.0 ≡ Some (slice_index_or names t.0 (message_name envelope)) =
      ap (λ ks. slice_get ks t.0) same ∙ slice_get-get_or names t.0 (message_name envelope) found.0 in
      let f = of_map name_at flight (slice_index_or names t.0 (message_name envelope)) t.0 there in
      let passes : has_name can.1.envelope (name_at f.0) ≡ true =
      ap (λ e. has_name e (name_at f.0)) can.3 ∙ ap (has_name envelope) f.2 ∙ found.1 in
      let within : node < length logs = within_outer logs node (come_of come node) entry next.next in
      let place_is : t.0 ≡ can.0 =
      same_place t.0 can.0 f.0 can.1 f.1 can.2.there passes
      (subst (λ (e : EnvelopeRecord). e.from < nodes) (sym can.3) (from_in envelope is))
      (subst (λ k. k < nodes) (sym can.2.receiver) (subst (λ k. node < k) are.count within)) in
      by_again names left event t.0 can.1 (is_taken_among envelope later) same
      (subst (λ p. IsTakenAt node before entry flight p can.1) (sym place_is) can.2)
      (ap (λ e. is_taken_among e later) can.3) t.2 t.3

  made_by : (names left : List MessageName) (event : Event) (input : Input) → map name_at flight ≡ names → entry.input ≡ input
      → IsMadeByEvent node (is_again input later) names input left event → MadeOf event left
  made_by names left event run same is m =
      (flight, subst (λ e. MakesNextTurn node before later entry flight e flight) (sym m.0) (runs is), same ∙ sym m.1)
  made_by names left event (taken envelope) same is m = by_take names left event envelope same is m

  one_step : (names new : List MessageName) (event : Event) → map name_at flight ≡ names → IsTurnOf node (log_of logs node) (come_of come node) names new event
      → (rest : List Flying) × (more : Woven logs (slice_set come node (come_of come node + 1)) rest (events ++ event ∷ []))
      × Holds logs (slice_set come node (come_of come node + 1)) rest × (map name_at rest ≡ new)
      × (acts_in more ≡ acts_in woven ++ option_to_list entry.turn.act)
  one_step names new event same t =
      let entry_is : t.0 ≡ entry = same_Some t.0 entry (sym t.2 ∙ next.next) in
      let made = made_by names t.1 event entry.input same refl
      (subst (λ (e : EntryRecord). IsMadeByEvent node (is_again e.input later) names e.input t.1 event) entry_is t.3) in (
        made.0 ++ sent_by entry,
        then_one woven next made.1,
        holds_more logs come flight made.0 event node entry counted next.next made.1 holds,
        map-append name_at made.0 (sent_by entry)
            ∙ ap (λ ks. ks ++ map name_at (sent_by entry)) made.2
            ∙ ap (λ ks. t.1 ++ ks) (map-map name_at (λ envelope. record { envelope = envelope; stamp = entry.stamp; delivered = false }) entry.turn.out)
            ∙ ap (λ (e : EntryRecord). t.1 ++ map message_name e.turn.out) (sym entry_is)
            ∙ sym t.4,
        refl,
      )

  -- what it takes is in flight
  lacks_none : (names : List MessageName) (input : Input) → map name_at flight ≡ names → entry.input ≡ input → LacksMessage names input → ⊥
  lacks_none names run same is lacks = lacks
  lacks_none names (taken envelope) same is lacks =
      let can = can_take logs program nodes options are sources come flight node entry envelope next is holds in
      passes_none (has_name envelope) names can.0 (name_at can.1) lacks
      (ap (λ ks. slice_get ks can.0) (sym same) ∙ in_map name_at flight can.1 can.0 can.2.there)
      (ap (λ e. has_name envelope (message_name e)) can.3 ∙ named_itself envelope)

-- the next turn is made
pub so_more : (logs : List (List EntryRecord)) (come : List ℕ) (names new : List MessageName) (events : List Event) (event : Event) (acts noted : List Act)
    (node : ℕ) → length come ≡ length logs → IsNextOf logs come (Some node) → IsTurnOf node (log_of logs node) (come_of come node) names new event
    → NotesTurn (log_of logs node) (come_of come node) acts noted
    → WovenSo logs come names events acts → WovenSo logs (slice_set come node (come_of come node + 1)) new (events ++ event ∷ []) noted
so_more logs come names new events event acts noted node counted next t notes so program nodes options are sources =
    let s = so program nodes options are sources in
    let step = one_step logs come events counted node next.0 next.1 program nodes options are sources s.0 s.1 s.2 names new event s.3 t in (
      step.0,
      step.1,
      step.2,
      step.3,
      step.4 ∙ ap (λ before. before ++ option_to_list next.0.turn.act) s.4
          ∙ ap (λ (e : EntryRecord). acts ++ option_to_list e.turn.act) (same_Some next.0 notes.0 (sym next.1.next ∙ notes.1)) ∙ sym notes.2,
    )

-- what it takes was sent
pub so_sent : (logs : List (List EntryRecord)) (come : List ℕ) (names : List MessageName) (events : List Event) (acts : List Act) (node : ℕ)
    → length come ≡ length logs → IsNextOf logs come (Some node) → IsUnsent (log_of logs node) (come_of come node) names
    → WovenSo logs come names events acts
    → (program : Program) (nodes : ℕ) (options : OptionsRecord) → AreLogs program nodes options logs
    → AreTakesSent logs → ⊥
so_sent logs come names events acts node counted next unsent so program nodes options are sources =
    let s = so program nodes options are sources in
    let same : unsent.0 ≡ next.0 = same_Some unsent.0 next.0 (sym unsent.1 ∙ next.1.next) in
    lacks_none logs come events counted node next.0 next.1 program nodes options are sources s.0 s.1 s.2 names unsent.0.input s.3
    (ap (λ (e : EntryRecord). e.input) (sym same)) unsent.2
