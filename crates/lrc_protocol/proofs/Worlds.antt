-- A whole run: each node's turns are those of its own inputs, and the acts are the turns' acts.
use Rattle.std.proofs.Common.{◌≡◌, ℕ, zero, suc, ◌+◌, ◌<◌, List, [], ◌∷◌, ◌++◌, Bool, true, false, length}
use Rattle.std.proofs.Common.{map, refl, sym, ap, subst, ◌∙◌, inl, inr, arith, append-nil}
use Rattle.std.specs.Prelude.{Option, Some, None, ◌==◌, All, cond, remove, option_map, filter, filter_map, fold}
use Rattle.std.specs.Prelude.{slice_get, slice_set, slice_index_or, nat_le, if◌then◌else◌}
use Rattle.std.specs.Option.{option_to_list}
use Rattle.std.specs.List.{range_with_len}
use Rattle.std.proofs.lemmas.Bool.{cases_eq, eq-eqb, ne_eqb}
use Rattle.std.proofs.lemmas.List.{map-append, length-set, length-map}
use Rattle.std.proofs.lemmas.List.FromFn.{length-range_with_len}
use Rattle.std.proofs.lemmas.List.Elements.{All-append, filter-append, filter_map-append}
use Rattle.std.proofs.lemmas.Grind.{fold-append}
use Rattle.std.proofs.lemmas.Option.{same_Some, slice_get_within}
use Rattle.lrc_program.specs.declared.Program.{Program}
use Rattle.lrc_trace.specs.declared.act.Act.{Act}
use Rattle.lrc_trace.specs.declared.act.Deed.{Deed}
use Rattle.lrc_trace.specs.Run.{act_of}
use Rattle.lrc_exec.specs.Meaning.{Setting}
use Rattle.lrc_exec.specs.Plain.{setting_of}
use Rattle.lrc_exec.specs.Follows.{deeds_of}
use Rattle.lrc_protocol.specs.declared.event.Event.{Event}
use Rattle.lrc_protocol.specs.declared.event.Event.TheVariants.{Run, Deliver, Repeat}
use Rattle.lrc_protocol.specs.Node.{Node, OptionsRecord, fresh_node}
use Rattle.lrc_protocol.specs.Turn.{TurnRecord, Outcome, done, not_ready, unexpected, worn}
use Rattle.lrc_protocol.specs.Run.{Input, run, taken, EntryRecord, Logged, Logging, logged, refused, too_large, outcome_of, MOST_STAMP, logging}
use Rattle.lrc_protocol.specs.Run.{logs, next_stamp, World, Flying, fresh_world, with_turn, after_input}
use Rattle.lrc_protocol.specs.Follows.{local}
use Rattle.lrc_protocol.specs.Follows.{local_step}
use Rattle.lrc_protocol.specs.Follows.{local_after}
use Rattle.lrc_protocol.specs.Follows.{Local}
use Rattle.lrc_protocol.specs.Run.{input_to, delivers, with_mark, event_on, step_of, run_of}
use Rattle.lrc_protocol.specs.Follows.{inputs_of, turns_of, deeds_in}
use Rattle.lrc_protocol.proofs.Turned.{Turned, Turns, turns}
use Rattle.lrc_protocol.proofs.Locally.{Proper, local-proper}

-- ---- places in a list

pub get_set_same : {X : Type 0} (xs : List X) (n : ℕ) (x y : X) → slice_get xs n ≡ Some x → slice_get (slice_set xs n y) n ≡ Some y
get_set_same [] n x y e = cc
get_set_same (z ∷ xs) zero x y e = refl
get_set_same (z ∷ xs) (suc n) x y e = get_set_same xs n x y e

pub get_set_other : {X : Type 0} (xs : List X) (n m : ℕ) (y : X) → (n ≡ m → ⊥) → slice_get (slice_set xs n y) m ≡ slice_get xs m
get_set_other [] n m y ne = refl
get_set_other (z ∷ xs) zero zero y ne = absurd (ne refl)
get_set_other (z ∷ xs) zero (suc m) y ne = refl
get_set_other (z ∷ xs) (suc n) zero y ne = refl
get_set_other (z ∷ xs) (suc n) (suc m) y ne = get_set_other xs n m y (λ e. ne (ap suc e))

-- ---- deeds of a node

deeds-append : (n : ℕ) (xs ys : List Act) → deeds_of n (xs ++ ys) ≡ deeds_of n xs ++ deeds_of n ys
deeds-append n xs ys =
    ap (map (λ (a : Act). a.deed)) (filter-append (λ a. a.node == n) xs ys)
    ∙ map-append (λ (a : Act). a.deed) (filter (λ a. a.node == n) xs) (filter (λ a. a.node == n) ys)

deeds_own : (n : ℕ) (deed : Option Deed) → deeds_of n (option_to_list (option_map (act_of n) deed)) ≡ option_to_list deed
deeds_own n None = refl
deeds_own n (Some d) = ap (λ b. map (λ (a : Act). a.deed) (cond b (act_of n d ∷ []) [])) (eq-eqb n n refl)

deeds_other : (n m : ℕ) (deed : Option Deed) → (n ≡ m → ⊥) → deeds_of m (option_to_list (option_map (act_of n) deed)) ≡ []
deeds_other n m None ne = refl
deeds_other n m (Some d) ne = ap (λ b. map (λ (a : Act). a.deed) (cond b (act_of n d ∷ []) [])) (ne_eqb n m ne)

deeds_made : (n : ℕ) (deed : Option Deed) → filter_map (λ d. d) (option_map (λ (act : Act). act.deed) (option_map (act_of n) deed) ∷ []) ≡ option_to_list deed
deeds_made n None = refl
deeds_made n (Some d) = refl

one_in_range : (a : Act) (nodes : ℕ) → a.node < nodes → (k : ℕ) (d : Act) → k < 1 → (slice_index_or (a ∷ []) k d).node < nodes
one_in_range a nodes lt zero d k_lt = lt
one_in_range a nodes lt (suc k) d k_lt = absurd (omega (arith, k_lt))

acts_in_range : (n nodes : ℕ) (deed : Option Deed) → n < nodes → All (λ (a : Act). a.node < nodes) (option_to_list (option_map (act_of n) deed))
acts_in_range n nodes None lt = λ k d k_lt. absurd (omega (arith, k_lt))
acts_in_range n nodes (Some d) lt = one_in_range (act_of n d) nodes lt

-- ---- one entry of a log

-- an input's entry is its turn, at the end of the log
pub record IsEntry (l : Logged) (input : Input) (entry : EntryRecord) (after : Logged) : Type 0 where
  pub input_is : entry.input ≡ input
  pub turn_is : outcome_of l.node input ≡ done entry.turn after.node
  pub log_is : after.log ≡ l.log ++ entry ∷ []

abbrev pub Entries : Logged → Input → Logging → Type 0
Entries l input (logged entry after) = IsEntry l input entry after
Entries l input refused = Unit {0}
Entries l input too_large = Unit {0}

entered_or_not : (l : Logged) (input : Input) (stamp : ℕ) (turn : TurnRecord) (node : Node) (b : Bool)
    → outcome_of l.node input ≡ done turn node
    → (let entry : EntryRecord = record { input = input; stamp = stamp; turn = turn } in
    Entries l input (if b then logged entry (record { node = node; log = l.log ++ entry ∷ [] }) else too_large))
entered_or_not l input stamp turn node true e = record { input_is = refl; turn_is = e; log_is = refl }
entered_or_not l input stamp turn node false e = tt

logging-entries : (l : Logged) (input : Input) (stamp : ℕ) (o : Outcome) → outcome_of l.node input ≡ o → Entries l input (logging input stamp l.log o)
logging-entries l input stamp (done turn node) e = entered_or_not l input stamp turn node (nat_le stamp MOST_STAMP) e
logging-entries l input stamp not_ready e = tt
logging-entries l input stamp unexpected e = tt
logging-entries l input stamp worn e = tt

pub logs-entries : (l : Logged) (input : Input) (came : ℕ) → Entries l input (logs l input came)
logs-entries l input came = logging-entries l input (next_stamp l.log came) (outcome_of l.node input) refl

-- ---- what holds of a world

module _ (program : Program) (nodes : ℕ) (options : OptionsRecord) where
  -- a node's log is what its own inputs give, and the acts have its deeds
  pub record Follows (acts : List Act) (n : ℕ) (l : Logged) : Type 0 where
    pub replayed : local program nodes options n (inputs_of l.log) ≡ Some (record { node = l.node; turns = turns_of l.log })
    pub deeds : deeds_of n acts ≡ deeds_in (turns_of l.log)

  pub record Whole (world : World) : Type 0 where
    pub count : length world.nodes ≡ nodes
    pub in_range : All (λ (a : Act). a.node < nodes) world.acts
    pub each : (n : ℕ) (l : Logged) → slice_get world.nodes n ≡ Some l → Follows world.acts n l

  -- the log with one entry more is what one input more gives
  replayed_more : (n : ℕ) (l after : Logged) (input : Input) (entry : EntryRecord) → IsEntry l input entry after
      → local program nodes options n (inputs_of l.log) ≡ Some (record { node = l.node; turns = turns_of l.log })
      → local program nodes options n (inputs_of after.log) ≡ Some (record { node = after.node; turns = turns_of after.log })
  replayed_more n l after input entry i e =
      let first : Option Local = Some (record { node = fresh_node program nodes options n; turns = [] }) in
      ap (λ log. local program nodes options n (inputs_of log)) i.log_is
      ∙ ap (fold local_step first) (map-append (λ (x : EntryRecord). x.input) l.log (entry ∷ []))
      ∙ fold-append local_step first (inputs_of l.log) (entry.input ∷ [])
      ∙ ap (λ o. local_step o entry.input) e
      ∙ ap (λ x. local_after (turns_of l.log) (outcome_of l.node x)) i.input_is
      ∙ ap (local_after (turns_of l.log)) i.turn_is
      ∙ ap (λ ts. Some (record { node = after.node; turns = ts }))
      (sym (ap (λ log. turns_of log) i.log_is ∙ map-append (λ (x : EntryRecord). x.turn) l.log (entry ∷ [])))

  -- the deed of an entry's turn, which is an act of the node
  entry_deed : (n : ℕ) (l after : Logged) (input : Input) (entry : EntryRecord) → IsEntry l input entry after
      → l.node.setting.me ≡ n
      → (deed : Option Deed) × (entry.turn.act ≡ option_map (act_of n) deed)
  entry_deed n l after input entry i me_is =
      let t : Turned l.node entry.turn after.node = subst (Turns l.node) i.turn_is (turns l.node input) in
      (t.deed, t.act ∙ ap (λ me. option_map (act_of me) t.deed) me_is)

  -- the same world after one turn of a node
  turn_more : (world : World) (flight : List Flying) (n : ℕ) (l after : Logged) (input : Input) (entry : EntryRecord)
      → slice_get world.nodes n ≡ Some l → IsEntry l input entry after → Whole world → Whole (with_turn world flight n entry after)
  turn_more world flight n l after input entry at i w =
      let f : Follows world.acts n l = w.each n l at in
      let p : Proper (setting_of program nodes n) options _ (record { node = l.node; turns = turns_of l.log }) =
      local-proper program nodes options n (inputs_of l.log) _ f.replayed in
      let made : (deed : Option Deed) × (entry.turn.act ≡ option_map (act_of n) deed) =
      entry_deed n l after input entry i (ap (λ (s : Setting). s.me) p.setting_kept) in
      let acts_are : option_to_list entry.turn.act ≡ option_to_list (option_map (act_of n) made.0) = ap option_to_list made.1 in
      let within : n < nodes = subst (λ k. n < k) w.count (slice_get_within world.nodes n l at) in
      record {
        count = length-set world.nodes n after ∙ w.count;
        in_range = All-append (λ (a : Act). a.node < nodes) world.acts (option_to_list entry.turn.act) w.in_range
            (subst (All (λ (a : Act). a.node < nodes)) (sym acts_are) (acts_in_range n nodes made.0 within));
        each = λ m lm is. elim (cases_eq n m) [
          | inl e ↦
              let here : Follows (world.acts ++ option_to_list entry.turn.act) n after = record {
                replayed = replayed_more n l after input entry i f.replayed;
                deeds =
                    deeds-append n world.acts (option_to_list entry.turn.act)
                    ∙ ap (λ xs. xs ++ deeds_of n (option_to_list entry.turn.act)) f.deeds
                    ∙ ap (λ xs. deeds_in (turns_of l.log) ++ xs) (ap (deeds_of n) acts_are ∙ deeds_own n made.0 ∙ sym (deeds_made n made.0))
                    ∙ ap (λ act. deeds_in (turns_of l.log) ++ filter_map (λ d. d) (option_map (λ (a : Act). a.deed) act ∷ [])) (sym made.1)
                    ∙ sym (filter_map-append (λ (turn : TurnRecord). option_map (λ act. act.deed) turn.act) (turns_of l.log) (entry.turn ∷ []))
                    ∙ ap deeds_in (sym (ap (λ log. turns_of log) i.log_is ∙ map-append (λ (x : EntryRecord). x.turn) l.log (entry ∷ [])));
              } in
              let same : after ≡ lm =
              same_Some after lm (sym (get_set_same world.nodes n l after at) ∙ ap (slice_get (slice_set world.nodes n after)) e ∙ is) in
              subst (λ k. Follows (world.acts ++ option_to_list entry.turn.act) k lm) e
              (subst (Follows (world.acts ++ option_to_list entry.turn.act) n) same here)
          | inr ne ↦
              let old : Follows world.acts m lm = w.each m lm (sym (get_set_other world.nodes n m after ne) ∙ is) in
              record {
                replayed = old.replayed;
                deeds =
                    deeds-append m world.acts (option_to_list entry.turn.act)
                    ∙ ap (λ xs. deeds_of m world.acts ++ xs) (ap (deeds_of m) acts_are ∙ deeds_other n m made.0 ne)
                    ∙ append-nil (deeds_of m world.acts)
                    ∙ old.deeds;
              }
        ];
      }

  abbrev pub WholeIf : Option World → Type 0
  WholeIf None = Unit {0}
  WholeIf (Some world) = Whole world

  input-whole : (world : World) (flight : List Flying) (n : ℕ) (l : Logged) (input : Input) (r : Logging)
      → slice_get world.nodes n ≡ Some l → Entries l input r → Whole world → WholeIf (after_input world flight n r)
  input-whole world flight n l input (logged entry after) at i w = turn_more world flight n l after input entry at i w
  input-whole world flight n l input refused at i w = w
  input-whole world flight n l input too_large at i w = tt

  inputs-whole : (world : World) (flight : List Flying) (n : ℕ) (input : Input) (stamp : ℕ) (o : Option Logged)
      → slice_get world.nodes n ≡ o → Whole world → WholeIf (input_to world flight n input stamp o)
  inputs-whole world flight n input stamp None at w = w
  inputs-whole world flight n input stamp (Some l) at w = input-whole world flight n l input (logs l input stamp) at (logs-entries l input stamp) w

  delivers-whole : (world : World) (flight : List Flying) (o : Option Flying) → Whole world → WholeIf (delivers world flight o)
  delivers-whole world flight None w = w
  delivers-whole world flight (Some flying) w =
      inputs-whole world flight flying.envelope.to (taken flying.envelope) flying.stamp (slice_get world.nodes flying.envelope.to) refl w

  event-whole : (world : World) (event : Event) → Whole world → WholeIf (event_on world event)
  event-whole world (Run n) w = inputs-whole world world.flight n run 0 (slice_get world.nodes n) refl w
  event-whole world (Deliver place) w = delivers-whole world (remove world.flight place) (slice_get world.flight place) w
  event-whole world (Repeat place) w = delivers-whole world (with_mark world.flight place) (slice_get world.flight place) w

  step-whole : (o : Option World) (event : Event) → WholeIf o → WholeIf (step_of o event)
  step-whole None event w = tt
  step-whole (Some world) event w = event-whole world event w

  events-whole : (events : List Event) (o : Option World) → WholeIf o → WholeIf (fold step_of o events)
  events-whole [] o w = w
  events-whole (event ∷ events) o w = events-whole events (step_of o event) (step-whole o event w)

  -- ---- at the start

  -- the fresh node at a place
  pub fresh_at : (a k n : ℕ) (l : Logged)
      → slice_get (map (λ (node : Node). record { node = node; log = [] }) (map (fresh_node program nodes options) (range_with_len a k))) n ≡ Some l
      → l ≡ record { node = fresh_node program nodes options (a + n); log = [] }
  fresh_at a zero n l e = cc
  fresh_at a (suc k) zero l e = sym (same_Some _ l e) ∙ ap (λ m. record { node = fresh_node program nodes options m; log = [] }) (omega arith)
  fresh_at a (suc k) (suc n) l e = fresh_at (a + 1) k n l e ∙ ap (λ m. record { node = fresh_node program nodes options m; log = [] }) (omega arith)

  fresh-follows : (n : ℕ) (l : Logged) → slice_get (fresh_world program nodes options).nodes n ≡ Some l → Follows [] n l
  fresh-follows n l e =
      subst (Follows [] n)
      (sym (fresh_at 0 nodes n l e ∙ ap (λ m. record { node = fresh_node program nodes options m; log = [] }) (omega arith)))
      (record { replayed = refl; deeds = refl })

  fresh-whole : Whole (fresh_world program nodes options)
  fresh-whole = record {
    count = length-map (map (fresh_node program nodes options) (range_with_len 0 nodes)) (λ (node : Node). record { node = node; log = [] })
        ∙ length-map (range_with_len 0 nodes) (fresh_node program nodes options) ∙ length-range_with_len 0 nodes;
    in_range = λ k d k_lt. absurd (omega (arith, k_lt));
    each = fresh-follows;
  }

  -- every run of the events of a program is so
  pub run-whole : (events : List Event) (world : World) → run_of program nodes options events ≡ Some world → Whole world
  run-whole events world e = subst WholeIf e (events-whole events (Some (fresh_world program nodes options)) fresh-whole)
