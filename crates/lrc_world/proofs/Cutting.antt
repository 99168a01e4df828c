-- Nodes of whose logs only the newest turn is kept do what they would do with all of them.
use Rattle.std.proofs.Common.{◌≡◌, ◌∙◌, ℕ, ◌+◌, List, [], ◌∷◌, ◌++◌, Bool, true, false, ◌||◌, Option, Some, None, Result, Ok, Err}
use Rattle.std.proofs.Common.{refl, sym, ap, subst, map, option_map}
use Rattle.std.specs.Prelude.{max, nat_le, slice_get, slice_set, if◌then◌else◌}
use Rattle.std.specs.List.{list_any}
use Rattle.std.specs.Option.{option_map_or}
use Rattle.lrc_protocol.specs.Node.{Node}
use Rattle.lrc_protocol.specs.Turn.{Outcome, done, not_ready, unexpected, worn, is_ready}
use Rattle.lrc_protocol.specs.Run.{Input, EntryRecord, Logged, Logging, logged, refused, too_large, logging, logs, last_stamp, next_stamp}
use Rattle.lrc_protocol.specs.Run.{outcome_of, MOST_STAMP}
use Rattle.lrc_node.specs.Logged.{TracedLog, newest}
use Rattle.lrc_node.specs.declared.fault.NodeFault.{NodeFault}
use Rattle.lrc_node.specs.declared.fault.NodeFault.TheVariants as NodeFaults
use Rattle.lrc_node.specs.declared.fault.NodeFault.TheVariants.{Failed, NotReady, Unexpected}
use Rattle.lrc_node.proofs.Newest.{newest-push, newest-stamp}
use Rattle.lrc_world.specs.declared.keep.Keep.{Keep}
use Rattle.lrc_world.specs.declared.keep.Keep.TheVariants.{All, Newest, Turns}
use Rattle.lrc_world.specs.World.{after_turn, cut, kept_log, IsTurn, TurnsBy}
use Rattle.lrc_world.proofs.Lists.{map-get}

same_stamp : (keep : Keep) (log : List EntryRecord) → last_stamp (kept_log keep log) ≡ last_stamp log
same_stamp All log = refl
same_stamp Turns log = refl
same_stamp Newest log = newest-stamp log

-- what is kept of a log with one turn more
pub kept-push : (keep : Keep) (log : List EntryRecord) (entry : EntryRecord)
    → kept_log keep (kept_log keep log ++ entry ∷ []) ≡ kept_log keep (log ++ entry ∷ [])
kept-push All log entry = refl
kept-push Turns log entry = refl
kept-push Newest log entry = newest-push (newest log) entry ∙ sym (newest-push log entry)

-- ---- what comes of an input

-- the same with another log before it
abbrev with_log : List EntryRecord → Logging → Logging
with_log log (logged entry after) = logged entry (record { node = after.node; log = log ++ entry ∷ [] })
with_log log refused = refused
with_log log too_large = too_large

entered_as : (log other : List EntryRecord) (entry : EntryRecord) (node : Node) (b : Bool)
    → (if b then logged entry (record { node = node; log = other ++ entry ∷ [] }) else too_large)
    ≡ with_log other (if b then logged entry (record { node = node; log = log ++ entry ∷ [] }) else too_large)
entered_as log other entry node true = refl
entered_as log other entry node false = refl

logging_as : (input : Input) (stamp : ℕ) (log other : List EntryRecord) (o : Outcome)
    → logging input stamp other o ≡ with_log other (logging input stamp log o)
logging_as input stamp log other (done turn node) =
    entered_as log other (record { input = input; stamp = stamp; turn = turn }) node (nat_le stamp MOST_STAMP)
logging_as input stamp log other not_ready = refl
logging_as input stamp log other unexpected = refl
logging_as input stamp log other worn = refl

logs_cut : (keep : Keep) (l : Logged) (input : Input) (came : ℕ) → logs (cut keep l) input came ≡ with_log (kept_log keep l.log) (logs l input came)
logs_cut keep l input came =
    ap (λ s. logging input (max s came + 1) (kept_log keep l.log) (outcome_of l.node input)) (same_stamp keep l.log)
    ∙ logging_as input (next_stamp l.log came) l.log (kept_log keep l.log) (outcome_of l.node input)

-- with the whole log the node comes to the same
of_logged : (other : List EntryRecord) (r : Logging) (entry : EntryRecord) (after : Logged) → with_log other r ≡ logged entry after
    → (whole : Logged) × (r ≡ logged entry whole) × (after.node ≡ whole.node)
of_logged other (logged e w) entry after h =
    let same : e ≡ entry = cc in
    let there : record { node = w.node; log = other ++ e ∷ [] } ≡ after = cc in
    (w, ap (λ x. logged x w) same, sym (ap (λ (l : Logged). l.node) there))
of_logged other refused entry after h = cc
of_logged other too_large entry after h = cc

of_refused : (other : List EntryRecord) (r : Logging) → with_log other r ≡ refused → r ≡ refused
of_refused other (logged e w) h = cc
of_refused other refused h = refl
of_refused other too_large h = cc

of_large : (other : List EntryRecord) (r : Logging) → with_log other r ≡ too_large → r ≡ too_large
of_large other (logged e w) h = cc
of_large other refused h = cc
of_large other too_large h = refl

module _ (keep : Keep) (olds news : List TracedLog) (n : ℕ) (input : Input) (came : ℕ) where
  turn_uncut : (l : Logged) → IsTurn olds news n input came (cut keep l) → IsTurn olds news n input came l
  turn_uncut l t =
      let whole = of_logged (kept_log keep l.log) (logs l input came) t.entry t.after (sym (logs_cut keep l input came) ∙ t.turn) in
      record {
        entry = t.entry;
        after = whole.0;
        before = t.before;
        turn = whole.1;
        stood = t.stood;
        nodes = t.nodes
            ∙ ap
            (λ (node : Node).
            let after : Logged = record { node = node; log = [] } in slice_set olds n (after_turn t.entry after t.before))
            whole.2;
      }

  uncut : (o : Option Logged) (outcome : Result (Unit {0}) NodeFault) → TurnsBy olds news n input came (option_map (cut keep) o) outcome
      → TurnsBy olds news n input came o outcome
  uncut None (Ok u) t = t
  uncut None (Err NotReady) t = t
  uncut None (Err Unexpected) t = t
  uncut None (Err NodeFaults.Worn) t = t
  uncut None (Err NodeFaults.NoMemory) t = t
  uncut None (Err Failed) t = t
  uncut (Some l) (Ok u) t = turn_uncut l t
  uncut (Some l) (Err NotReady) t = (of_refused (kept_log keep l.log) (logs l input came) (sym (logs_cut keep l input came) ∙ t.0), t.1)
  uncut (Some l) (Err Unexpected) t = (of_refused (kept_log keep l.log) (logs l input came) (sym (logs_cut keep l input came) ∙ t.0), t.1)
  uncut (Some l) (Err NodeFaults.Worn) t = of_large (kept_log keep l.log) (logs l input came) (sym (logs_cut keep l input came) ∙ t)
  uncut (Some l) (Err NodeFaults.NoMemory) t = tt
  uncut (Some l) (Err Failed) t = t

  -- a turn of one of the nodes
  pub uncut_at : (nodes : List Logged) (outcome : Result (Unit {0}) NodeFault)
      → TurnsBy olds news n input came (slice_get (map (cut keep) nodes) n) outcome → TurnsBy olds news n input came (slice_get nodes n) outcome
  uncut_at nodes outcome t =
      uncut (slice_get nodes n) outcome (subst (λ o. TurnsBy olds news n input came o outcome) (map-get (cut keep) nodes n) t)

-- ---- which nodes are ready

ready_in : (keep : Keep) (o : Option Logged) → option_map_or (λ (l : Logged). is_ready l.node) (option_map (cut keep) o) false
    ≡ option_map_or (λ (l : Logged). is_ready l.node) o false
ready_in keep None = refl
ready_in keep (Some l) = refl

ready_cut : (keep : Keep) (nodes : List Logged) (n : ℕ) → option_map_or (λ (l : Logged). is_ready l.node) (slice_get (map (cut keep) nodes) n) false
    ≡ option_map_or (λ (l : Logged). is_ready l.node) (slice_get nodes n) false
ready_cut keep nodes n =
    ap (λ o. option_map_or (λ (l : Logged). is_ready l.node) o false) (map-get (cut keep) nodes n) ∙ ready_in keep (slice_get nodes n)

-- what is said of the node at a place, where there is one
pub ready_where : (keep : Keep) (nodes : List Logged) (n : ℕ) (l : Logged) (said : Bool) → slice_get (map (cut keep) nodes) n ≡ Some l
    → said ≡ is_ready l.node → said ≡ option_map_or (λ (l : Logged). is_ready l.node) (slice_get nodes n) false
ready_where keep nodes n l said at is = is ∙ sym (ap (λ o. option_map_or (λ (l : Logged). is_ready l.node) o false) at) ∙ ready_cut keep nodes n

pub unready_where : (keep : Keep) (nodes : List Logged) (n : ℕ) → slice_get (map (cut keep) nodes) n ≡ None
    → false ≡ option_map_or (λ (l : Logged). is_ready l.node) (slice_get nodes n) false
unready_where keep nodes n at = sym (ap (λ o. option_map_or (λ (l : Logged). is_ready l.node) o false) at) ∙ ready_cut keep nodes n

pub any_cut : (keep : Keep) (nodes : List Logged) → list_any (λ (l : Logged). is_ready l.node) (map (cut keep) nodes)
    ≡ list_any (λ (l : Logged). is_ready l.node) nodes
any_cut keep [] = refl
any_cut keep (l ∷ nodes) = ap (λ b. is_ready l.node || b) (any_cut keep nodes)
