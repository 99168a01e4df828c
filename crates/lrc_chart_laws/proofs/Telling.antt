-- The turns that logs tell are those that the events of a run make.
use Rattle.std.proofs.Common.{◌≡◌, ◌∙◌, ℕ, zero, suc, ◌+◌, ◌<◌, ◌≤◌, List, [], ◌∷◌, ◌++◌, Bool, true, false, cond, Option, None, Some, inl, inr, refl, sym, ap, subst, arith, append_assoc, append-nil, fold, get_or, length, map}
use Rattle.std.specs.Prelude.{◌≢◌, ◌==◌, slice_get, slice_index_or, slice_set}
use Rattle.std.specs.Option.{option_to_list}
use Rattle.std.proofs.lemmas.Bool.{cases_eq, eq-eqb}
use Rattle.std.proofs.lemmas.Bool.Decides.{eqb_tells}
use Rattle.std.proofs.lemmas.List.{get_or-map, get_or-set_other, get_or-set_same, length-map, length_push, map-append, map-set}
use Rattle.std.proofs.lemmas.List.Sums.{sum_by-append}
use Rattle.std.specs.List.{range_with_len}
use Rattle.std.proofs.lemmas.Option.{get_or_from_slice_get, same_Some, slice_get_within}
use Rattle.lrc_program.specs.declared.Program.{Program}
use Rattle.lrc_protocol.specs.declared.event.Event.{Event}
use Rattle.lrc_protocol.specs.Node.{fresh_node, Node, OptionsRecord}
use Rattle.lrc_protocol.specs.Turn.{TurnRecord}
use Rattle.lrc_protocol.specs.Run.{EntryRecord, event_on, fresh_world, Input, Logged, played, run_of, step_of, World}
use Rattle.lrc_replay.specs.Turns.{Turn, turn_by, turns_from, turns_of}
use Rattle.lrc_turns_text.specs.Turns.{log_entry, Made, made_by, next as next_made, turns_told}
use Rattle.lrc_world.specs.Turned.{turned_by, turned_from, turned_of, turner}
use Rattle.lrc_chart_laws.specs.Told.{nodes_of, Step, step_made, step_told}
use Rattle.lrc_chart_laws.proofs.Going.{by_event, Goes, makes, stays}

abbrev logs_in : World → List (List EntryRecord)
logs_in world = map (λ (l : Logged). l.log) world.nodes

abbrev log_at : World → ℕ → List EntryRecord
log_at world node = slice_index_or (logs_in world) node []

-- ---- logs, one entry more

entry_more : (xs ys : List EntryRecord) (k : ℕ) (e : EntryRecord) → slice_get xs k ≡ Some e → slice_get (xs ++ ys) k ≡ Some e
entry_more [] ys k e there = cc
entry_more (x ∷ xs) ys zero e there = there
entry_more (x ∷ xs) ys (suc k) e there = entry_more xs ys k e there

entry_last : (xs : List EntryRecord) (e : EntryRecord) → slice_get (xs ++ e ∷ []) (length xs) ≡ Some e
entry_last [] e = refl
entry_last (x ∷ xs) e = entry_last xs e

module _ (world next : World) (node : ℕ) (l after : Logged) (entry : EntryRecord) (there : slice_get world.nodes node ≡ Some l)
    (logged : after.log ≡ l.log ++ entry ∷ []) (set : next.nodes ≡ slice_set world.nodes node after) where
  within : node < length world.nodes
  within = slice_get_within world.nodes node l there

  log_was : log_at world node ≡ l.log
  log_was = get_or-map (λ (l : Logged). l.log) world.nodes node l [] within ∙ ap (λ (l : Logged). l.log) (get_or_from_slice_get world.nodes node l l there)

  logs_now : logs_in next ≡ slice_set (logs_in world) node after.log
  logs_now = ap (map (λ (l : Logged). l.log)) set ∙ map-set (λ (l : Logged). l.log) world.nodes node after

  log_here : log_at next node ≡ l.log ++ entry ∷ []
  log_here =
      ap (λ (logs : List (List EntryRecord)). slice_index_or logs node []) logs_now
      ∙ get_or-set_same (logs_in world) node after.log [] (subst (λ n. node < n) (sym (length-map world.nodes (λ (l : Logged). l.log))) within)
      ∙ logged

  log_else : (other : ℕ) → other ≢ node → log_at next other ≡ log_at world other
  log_else other apart =
      ap (λ (logs : List (List EntryRecord)). slice_index_or logs other []) logs_now ∙ get_or-set_other (logs_in world) node other after.log [] apart

  pub more_entries : (other place : ℕ) (e : EntryRecord) → slice_get (log_at world other) place ≡ Some e → slice_get (log_at next other) place ≡ Some e
  more_entries other place e at = elim (cases_eq other node) [
    | inl same ↦
        subst (λ (n : ℕ). slice_get (log_at next n) place ≡ Some e) (sym same)
        (ap (λ (log : List EntryRecord). slice_get log place) log_here
        ∙ entry_more l.log (entry ∷ []) place e
        (ap (λ (log : List EntryRecord). slice_get log place) (sym log_was) ∙ ap (λ (n : ℕ). slice_get (log_at world n) place) (sym same) ∙ at))
    | inr apart ↦ ap (λ (log : List EntryRecord). slice_get log place) (log_else other apart) ∙ at
  ]

  pub last_entry : slice_get (log_at next node) (length (log_at world node)) ≡ Some entry
  last_entry =
      ap (λ (log : List EntryRecord). slice_get log (length (log_at world node))) log_here
      ∙ ap (λ (log : List EntryRecord). slice_get (l.log ++ entry ∷ []) (length log)) log_was
      ∙ entry_last l.log entry

  -- how many turns each node has made
  pub counted : (turns : List Made) → ((n : ℕ) → made_by n turns ≡ length (log_at world n)) → (n : ℕ)
      → made_by n (turns ++ record { node = node; entry = entry } ∷ []) ≡ length (log_at next n)
  counted turns counts n =
      let one : List Made = record { node = node; entry = entry } ∷ [] in
      let both = sum_by-append (λ (turn : Made). cond (turn.node == n) 1 0) turns one in
      elim (eqb_tells node n) [
        | inl same ↦
            let long = length_push l.log entry in
            let here : length (log_at next n) ≡ length (log_at world n) + 1 =
            subst (λ (m : ℕ). length (log_at next m) ≡ length (log_at world m) + 1) same.1
            (ap length log_here ∙ long ∙ ap (λ (log : List EntryRecord). length log + 1) (sym log_was)) in
            both ∙ ap (λ (b : Bool). made_by n turns + (0 + cond b 1 0)) same.0 ∙ omega (arith, counts n, here)
        | inr apart ↦
            let other : n ≢ node = λ e. apart.1 (sym e) in
            both ∙ ap (λ (b : Bool). made_by n turns + (0 + cond b 1 0)) apart.0 ∙ omega (arith, counts n, ap length (log_else n other))
      ]

-- ---- all that comes after

-- the entries of one world are those of another, and there may be more
abbrev Keeps : World → World → Type 0
Keeps world end = (node place : ℕ) (e : EntryRecord) → slice_get (log_at world node) place ≡ Some e → slice_get (log_at end node) place ≡ Some e

no_world : (events : List Event) → fold step_of None events ≡ None
no_world [] = refl
no_world (event ∷ events) = no_world events

keeps_by : (world next end : World) (turns : List Turn) (turned : Option ℕ) → Goes world next turns turned → Keeps next end → Keeps world end
keeps_by world next end _ _ (stays same) k = subst (λ (w : World). Keeps w end) same k
keeps_by world next end _ _ (makes turn l after entry there input made logged set) k = λ node place e at.
    k node place e (more_entries world next turn.node l after entry there logged set node place e at)

keeps_step : (world end : World) (event : Event) (events : List Event) (o : Option World) → event_on world event ≡ o → fold step_of o events ≡ Some end
    → ((next : World) → played next events ≡ Some end → Keeps next end) → Keeps world end
keeps_step world end event events None is goes rest = let never : None ≡ Some end = sym (no_world events) ∙ goes in cc
keeps_step world end event events (Some next) is goes rest =
    keeps_by world next end (turn_by world event) (turner world event) (by_event world next event is) (rest next goes)

keeps_all : (end : World) (events : List Event) (world : World) → played world events ≡ Some end → Keeps world end
keeps_all end [] world goes = subst (Keeps world) (same_Some world end goes) (λ node place e at. at)
keeps_all end (event ∷ events) world goes =
    keeps_step world end event events (event_on world event) refl goes (λ next more. keeps_all end events next more)

-- ---- turns one after another

told_step : (node : ℕ) (entry : EntryRecord) (turn : Turn) → node ≡ turn.node → entry.input ≡ turn.input → entry.turn ≡ turn.made
    → step_told (record { node = node; entry = entry }) ≡ step_made turn
told_step node entry turn n i t =
    ap (λ (m : ℕ). record { node = m; input = entry.input; turn = entry.turn }) n
    ∙ ap (λ (x : Input). record { node = turn.node; input = x; turn = entry.turn }) i
    ∙ ap (λ (x : TurnRecord). record { node = turn.node; input = turn.input; turn = x }) t

module _ (end : World) where
  abbrev on : List Made → ℕ → List Made
  on turns node = turns ++ next_made (logs_in end) turns node

  -- behind these turns the logs tell those that the events make
  abbrev Tells : World → List Made → List Event → Type 0
  Tells world turns events =
      map step_told (fold on turns (nodes_of (turned_from (Some world) events))) ≡ map step_told turns ++ map step_made (turns_from (Some world) events)

  abbrev Counts : World → List Made → Type 0
  Counts world turns = (n : ℕ) → made_by n turns ≡ length (log_at world n)

  tells_one : (world next : World) (event : Event) (events : List Event) (turns : List Made) (turn : Turn) (l after : Logged) (entry : EntryRecord)
      → slice_get world.nodes turn.node ≡ Some l → entry.input ≡ turn.input → entry.turn ≡ turn.made → after.log ≡ l.log ++ entry ∷ []
      → next.nodes ≡ slice_set world.nodes turn.node after → Keeps next end → Counts world turns
      → ((more : List Made) → Counts next more → Tells next more events)
      → map step_told (fold on turns (nodes_of (turned_by event (Some turn.node) ++ turned_from (Some next) events)))
      ≡ map step_told turns ++ map step_made (turn ∷ [] ++ turns_from (Some next) events)
  tells_one world next event events turns turn l after entry there input same logged set keeps counts rest =
      let node : ℕ = turn.node in
      let one : Made = record { node = node; entry = entry } in
      let nodes : List ℕ = nodes_of (turned_from (Some next) events) in
      let more : List Step = map step_made (turns_from (Some next) events) in
      let here : log_entry (logs_in end) node (made_by node turns) ≡ Some entry =
      ap (λ (k : ℕ). slice_get (log_at end node) k) (counts node)
      ∙ keeps node (length (log_at world node)) entry (last_entry world next node l after entry there logged set) in
      let added : next_made (logs_in end) turns node ≡ one ∷ [] =
      ap (λ (o : Option EntryRecord). map (λ (entry : EntryRecord). record { node = node; entry = entry }) (option_to_list o)) here in
      let step : step_told one ≡ step_made turn = told_step node entry turn refl input same in
      ap (λ (m : List Made). map step_told (fold on (turns ++ m) nodes)) added
      ∙ rest (turns ++ one ∷ []) (counted world next node l after entry there logged set turns counts)
      ∙ ap (λ (l : List Step). l ++ more) (map-append step_told turns (one ∷ []))
      ∙ append_assoc (map step_told turns) (step_told one ∷ []) more
      ∙ ap (λ (s : Step). map step_told turns ++ (s ∷ more)) step

  tells_by : (world next : World) (event : Event) (events : List Event) (turns : List Made) (made : List Turn) (turned : Option ℕ) → Goes world next made turned
      → Keeps next end → Counts world turns → ((more : List Made) → Counts next more → Tells next more events)
      → map step_told (fold on turns (nodes_of (turned_by event turned ++ turned_from (Some next) events)))
      ≡ map step_told turns ++ map step_made (made ++ turns_from (Some next) events)
  tells_by world next event events turns _ _ (stays same) keeps counts rest = rest turns (subst (λ (w : World). Counts w turns) (sym same) counts)
  tells_by world next event events turns _ _ (makes turn l after entry there input same logged set) keeps counts rest =
      tells_one world next event events turns turn l after entry there input same logged set keeps counts rest

  tells_step : (world : World) (event : Event) (events : List Event) (turns : List Made) (o : Option World) → event_on world event ≡ o
      → fold step_of o events ≡ Some end → Counts world turns
      → ((next : World) (more : List Made) → played next events ≡ Some end → Counts next more → Tells next more events)
      → map step_told (fold on turns (nodes_of (turned_by event (turner world event) ++ turned_from o events)))
      ≡ map step_told turns ++ map step_made (turn_by world event ++ turns_from o events)
  tells_step world event events turns None is goes counts rest = let never : None ≡ Some end = sym (no_world events) ∙ goes in cc
  tells_step world event events turns (Some next) is goes counts rest =
      tells_by world next event events turns (turn_by world event) (turner world event) (by_event world next event is) (keeps_all end events next goes) counts
      (λ more c. rest next more goes c)

  tells_all : (events : List Event) (world : World) (turns : List Made) → played world events ≡ Some end → Counts world turns → Tells world turns events
  tells_all [] world turns goes counts = sym (append-nil (map step_told turns))
  tells_all (event ∷ events) world turns goes counts =
      tells_step world event events turns (event_on world event) refl goes counts (λ next more g c. tells_all events next more g c)

-- before any turn
no_log : (nodes : List Node) (n : ℕ)
    → slice_index_or (map (λ (l : Logged). l.log) (map (λ (node : Node). record { node = node; log = [] }) nodes)) n [] ≡ []
no_log [] n = refl
no_log (node ∷ nodes) zero = refl
no_log (node ∷ nodes) (suc n) = no_log nodes n

pub told_are_made : (program : Program) (nodes : ℕ) (options : OptionsRecord) (events : List Event) (end : World)
    → run_of program nodes options events ≡ Some end
    → map step_told (turns_told (map (λ (l : Logged). l.log) end.nodes) (nodes_of (turned_of program nodes options events)))
    ≡ map step_made (turns_of program nodes options events)
told_are_made program nodes options events end goes =
    tells_all end events (fresh_world program nodes options) [] goes
    (λ n. ap length (sym (no_log (map (fresh_node program nodes options) (range_with_len 0 nodes)) n)))
