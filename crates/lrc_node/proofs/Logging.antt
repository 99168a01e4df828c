-- What comes of an input to a node with its log.
use Rattle.std.proofs.Common.{◌≡◌, ℕ, ◌<◌, ◌≤◌, Bool, true, false, Option, Some, None, List, [], ◌∷◌, ◌++◌, Result, Ok, Err, refl, sym, ◌+◌, max, ap, ◌∙◌, subst}
use Rattle.std.specs.Prelude.{is_some, nat_le, if◌then◌else◌, IfOk, IfErr, OnErr}
use Rattle.std.proofs.Common.{length, get_or}
use Rattle.std.proofs.lemmas.Bool.{le-leb, lt-leb}
use Rattle.std.proofs.Math.Seq.{get_or-append_seam}
use Rattle.std.proofs.lemmas.Option.{same_Some}
use Rattle.lrc_trace.specs.Trace.{TraceRecord}
use Rattle.lrc_protocol.specs.Traced.{with_act}
use Rattle.lrc_protocol.specs.Node.{Node}
use Rattle.lrc_protocol.specs.Turn.{TurnRecord, Outcome, done, not_ready, unexpected, worn}
use Rattle.lrc_protocol.specs.Run.{Input, run, taken, EntryRecord, Logged, Logging, logged, refused, too_large, logging, last_stamp, next_stamp, outcome_of, MOST_STAMP}
use Rattle.lrc_node.specs.declared.fault.NodeFault.{NodeFault}
use Rattle.lrc_node.specs.declared.fault.NodeFault.TheVariants.{Failed, NotReady, Unexpected, Worn}
use Rattle.lrc_node.specs.Fault.{MayAnswer, is_final}
use Rattle.lrc_node.specs.Node.{TracedNode, sound_node, is_turn, AnswersTurn, unready, unawaited, too_large as too_large_answer, without_memory}
use Rattle.lrc_node.specs.Logged.{LoggedNode, TracedLog, Logs, LogsTo, NotesIn, Settles, WearsOut, entered_in, failed_now, sound}

-- a refusal of the node is one of the node with its log
pub logs_refused : (l : Logged) (input : Input) (stamp : ℕ) (o : Outcome) (fault : NodeFault) (new : Option Node) → AnswersTurn o l.node fault new
    → Logs l (logging input stamp l.log o) (record { node = new; log = l.log }) (Err fault)
logs_refused l input stamp _ _ _ unready = (refl, refl)
logs_refused l input stamp _ _ _ unawaited = (refl, refl)
logs_refused l input stamp _ _ _ too_large_answer = refl
logs_refused l input stamp _ _ _ without_memory = tt

-- a node that fails is gone
pub fails_refused : (node : Node) (o : Outcome) (fault : NodeFault) (new : Option Node) → AnswersTurn o node fault new → is_final fault ≡ true → new ≡ None
fails_refused node _ _ _ unready e = cc
fails_refused node _ _ _ unawaited e = cc
fails_refused node _ _ _ too_large_answer e = refl
fails_refused node _ _ _ without_memory e = refl

-- one that does not fail stays as it was
same_there : (node : Node) (o : Outcome) (fault : NodeFault) (left : Option Node) → AnswersTurn o node fault left → (n : Node) → left ≡ Some n
    → Some node ≡ Some n
same_there node _ _ _ unready n e = e
same_there node _ _ _ unawaited n e = e
same_there node _ _ _ too_large_answer n e = cc
same_there node _ _ _ without_memory n e = cc

-- a turn with its stamp
enters_with : (l : Logged) (input : Input) (stamp : ℕ) (turn : TurnRecord) (after : Node) (new : LoggedNode) (b : Bool) → b ≡ true
    → new ≡ record { node = Some after; log = entered_in l.log input stamp turn }
    → Logs l (let entry : EntryRecord = record { input = input; stamp = stamp; turn = turn } in
    if b then logged entry (record { node = after; log = l.log ++ entry ∷ [] }) else too_large) new (Ok tt)
enters_with l input stamp turn after new true e is =
    let entry : EntryRecord = record { input = input; stamp = stamp; turn = turn } in
    (entry, record { node = after; log = l.log ++ entry ∷ [] }, refl, is)
enters_with l input stamp turn after new false e is = cc

enters_without : (l : Logged) (input : Input) (stamp : ℕ) (turn : TurnRecord) (after : Node) (b : Bool) → b ≡ false
    → (let entry : EntryRecord = record { input = input; stamp = stamp; turn = turn } in
    if b then logged entry (record { node = after; log = l.log ++ entry ∷ [] }) else too_large) ≡ too_large
enters_without l input stamp turn after true e = cc
enters_without l input stamp turn after false e = refl

-- what comes of an input for which no stamp is left
stampless : (l : Logged) (input : Input) (stamp : ℕ) (o : Outcome) → nat_le stamp MOST_STAMP ≡ false → is_turn o ≡ true
    → logging input stamp l.log o ≡ too_large
stampless l input stamp (done turn after) past is = enters_without l input stamp turn after (nat_le stamp MOST_STAMP) past
stampless l input stamp not_ready past is = cc
stampless l input stamp unexpected past is = cc
stampless l input stamp worn past is = refl

unturned : (l : Logged) (input : Input) (stamp : ℕ) (o : Outcome) → is_turn o ≡ false → logging input stamp l.log o ≡ refused
unturned l input stamp (done turn after) is = cc
unturned l input stamp not_ready is = refl
unturned l input stamp unexpected is = refl
unturned l input stamp worn is = cc

-- a node that is there
pub some_of : {X : Type 0} (o : Option X) → is_some o ≡ true → (x : X) × (o ≡ Some x)
some_of None e = cc
some_of (Some x) e = (x, refl)

-- ---- a call

-- what is seen of a node and a log
abbrev pub seen_log : TracedNode → List EntryRecord → TracedLog
seen_log n log = record { logged = record { node = n.node; log = log }; trace = n.trace }

-- what a call owes
pub record Owes (old new : TracedLog) (input : Input) (came : ℕ) (result : Result (Unit {0}) NodeFault) : Type 0 where
  pub logs : LogsTo old.logged input came new.logged result
  pub notes : NotesIn old new result
  pub failed : old.logged.node ≡ None → (result ≡ Err Failed) × (new ≡ old)
  pub fails : IfErr result (λ fault. is_final fault ≡ true → new.logged ≡ record { node = None; log = old.logged.log })
  pub fault : IfErr result (MayAnswer input)
  pub kept : OnErr result ((new.logged.log ≡ old.logged.log) × ((node : Node) → new.logged.node ≡ Some node → old.logged.node ≡ Some node))

may_wear : (input : Input) → MayAnswer input Worn
may_wear run = tt
may_wear (taken envelope) = tt

there_not : {X : Type 0} {Y : Type 0} (o : Option X) → is_some o ≡ true → o ≡ None → Y
there_not None some none = cc
there_not (Some x) some none = cc

gone_not : {X : Type 0} {Y : Type 0} (o : Option X) (x : X) → o ≡ None → o ≡ Some x → Y
gone_not None x none some = cc
gone_not (Some y) x none some = cc

-- a log that stays beside a node that failed
beside : (mid n : TracedNode) (log : List EntryRecord) → mid ≡ failed_now n
    → (let l : LoggedNode = record { node = mid.node; log = log } in l) ≡ record { node = None; log = log }
beside mid n log e = ap (λ (m : TracedNode). let l : LoggedNode = record { node = m.node; log = log } in l) e

-- with what an input is refused that is no turn
abbrev pub refusal_of : Input → NodeFault
refusal_of run = NotReady
refusal_of (taken envelope) = Unexpected

refuses : (l : Logged) (input : Input) (outcome : Logging) (new : LoggedNode) → outcome ≡ refused → new ≡ sound l
    → Logs l outcome new (Err (refusal_of input))
refuses l run outcome new is same = (is, same)
refuses l (taken envelope) outcome new is same = (is, same)

stays_on : {Y : Type 0} (input : Input) → is_final (refusal_of input) ≡ true → Y
stays_on run e = cc
stays_on (taken envelope) e = cc

may_refuse : (input : Input) → MayAnswer input (refusal_of input)
may_refuse run = tt
may_refuse (taken envelope) = tt

pub owes_worn : (n mid : TracedNode) (log : List EntryRecord) (input : Input) (came : ℕ) (asked : Bool) (result : Result (Unit {0}) NodeFault)
    → is_some n.node ≡ true → MOST_STAMP < next_stamp log came
    → ((node : Node) → n.node ≡ Some node → asked ≡ is_turn (outcome_of node input))
    → WearsOut n asked (refusal_of input) mid result → Owes (seen_log n log) (seen_log mid log) input came result
owes_worn n mid log input came true result some past is wears = subst (Owes (seen_log n log) (seen_log mid log) input came) (sym wears.0) (record {
  logs = λ l same.
      stampless l input (next_stamp l.log came) (outcome_of l.node input)
      (ap (λ (m : LoggedNode). nat_le (next_stamp m.log came) MOST_STAMP) (sym same) ∙ lt-leb (next_stamp log came) MOST_STAMP past)
      (sym (is l.node (ap (λ (m : LoggedNode). m.node) same)));
  notes = ap (λ (m : TracedNode). m.trace) wears.1;
  failed = λ none. there_not n.node some none;
  fails = λ final. beside mid n log wears.1;
  fault = may_wear input;
  kept = (refl, λ node there. gone_not mid.node node (ap (λ (m : TracedNode). m.node) wears.1) there);
})
owes_worn n mid log input came false result some past is wears = subst (Owes (seen_log n log) (seen_log mid log) input came) (sym wears.0) (record {
  logs = λ l same.
      refuses l input (logging input (next_stamp l.log came) l.log (outcome_of l.node input)) (seen_log mid log).logged
      (unturned l input (next_stamp l.log came) (outcome_of l.node input) (sym (is l.node (ap (λ (m : LoggedNode). m.node) same))))
      (ap (λ (m : TracedNode). (seen_log m log).logged) wears.1 ∙ same);
  notes = ap (λ (m : TracedNode). m.trace) wears.1;
  failed = λ none. there_not n.node some none;
  fails = stays_on input;
  fault = may_refuse input;
  kept = (refl, λ node there. ap (λ (m : TracedNode). m.node) (sym wears.1) ∙ there);
})

same_last : {A : Type 0} (xs : List A) (a b : A) → xs ++ a ∷ [] ≡ xs ++ b ∷ [] → a ≡ b
same_last xs a b e =
    sym (get_or-append_seam xs a [] a) ∙ ap (λ l. get_or l (length xs) a) e ∙ get_or-append_seam xs b [] a

-- a node and its log, by parts
logged_parts : {a b : Option Node} {xs ys : List EntryRecord} → a ≡ b → xs ≡ ys
    → (let l : LoggedNode = record { node = a; log = xs } in l) ≡ record { node = b; log = ys }
logged_parts {a = a} {b = b} {xs = xs} {ys = ys} e f =
    ap (λ (n : Option Node). let l : LoggedNode = record { node = n; log = xs } in l) e
    ∙ ap (λ (g : List EntryRecord). let l : LoggedNode = record { node = b; log = g } in l) f

pub owes_settled : (n mid : TracedNode) (log new : List EntryRecord) (input : Input) (came stamp : ℕ) (r : Result TurnRecord NodeFault)
    (result : Result (Unit {0}) NodeFault)
    → is_some n.node ≡ true → stamp ≡ next_stamp log came → stamp ≤ MOST_STAMP
    → ((node : Node) → n.node ≡ Some node → IfOk r (λ turn. (after : Node) × (outcome_of node input ≡ done turn after)
    × (mid ≡ sound_node after (with_act after turn.act n.trace))))
    → ((node : Node) → n.node ≡ Some node → IfErr r (λ fault. AnswersTurn (outcome_of node input) node fault mid.node))
    → OnErr r (mid.trace ≡ n.trace) → IfErr r (MayAnswer input)
    → Settles log input stamp r new result → Owes (seen_log n log) (seen_log mid new) input came result
owes_settled n mid log new input came stamp (Ok turn) result some at few made denied kept may settled =
    subst (Owes (seen_log n log) (seen_log mid new) input came) (sym settled.0) (record {
      logs = λ l same.
          let m = made l.node (ap (λ (k : LoggedNode). k.node) same) in
          let log_is : log ≡ l.log = ap (λ (k : LoggedNode). k.log) same in
          let here : stamp ≡ next_stamp l.log came = at ∙ ap (λ (g : List EntryRecord). next_stamp g came) log_is in
          subst (λ (o : Outcome). Logs l (logging input (next_stamp l.log came) l.log o) (seen_log mid new).logged (Ok tt)) (sym m.1)
          (enters_with l input (next_stamp l.log came) turn m.0 (seen_log mid new).logged (nat_le (next_stamp l.log came) MOST_STAMP)
          (ap (λ (k : ℕ). nat_le k MOST_STAMP) (sym here) ∙ le-leb stamp MOST_STAMP few)
          (logged_parts (ap (λ (k : TracedNode). k.node) m.2)
          (settled.1 ∙ ap (λ (g : List EntryRecord). entered_in g input stamp turn) log_is ∙ ap (λ (k : ℕ). entered_in l.log input k turn) here)));
      notes = λ node entry is longer.
          let there = some_of n.node some in
          let m = made there.0 there.1 in
          let mine : EntryRecord = record { input = input; stamp = stamp; turn = turn } in
          let is_after : m.0 ≡ node = same_Some m.0 node (sym (ap (λ (k : TracedNode). k.node) m.2) ∙ is) in
          let is_entry : mine ≡ entry = same_last log mine entry (sym settled.1 ∙ longer) in
          ap (λ (k : TracedNode). k.trace) m.2
          ∙ ap (λ (k : Node). with_act k turn.act n.trace) is_after
          ∙ ap (λ (e : EntryRecord). with_act node e.turn.act n.trace) is_entry;
      failed = λ none. there_not n.node some none;
      fails = tt;
      fault = tt;
      kept = tt;
    })
owes_settled n mid log new input came stamp (Err fault) result some at few made denied kept may settled =
    let there = some_of n.node some in
    subst (Owes (seen_log n log) (seen_log mid new) input came) (sym settled.0) (record {
      logs = λ l same.
          let log_is : new ≡ l.log = settled.1 ∙ ap (λ (k : LoggedNode). k.log) same in
          subst (λ (k : LoggedNode). Logs l (logging input (next_stamp l.log came) l.log (outcome_of l.node input)) k (Err fault))
          (sym (logged_parts refl log_is))
          (logs_refused l input (next_stamp l.log came) (outcome_of l.node input) fault mid.node (denied l.node (ap (λ (k : LoggedNode). k.node) same)));
      notes = kept;
      failed = λ none. there_not n.node some none;
      fails = λ final. logged_parts (fails_refused there.0 (outcome_of there.0 input) fault mid.node (denied there.0 there.1) final) settled.1;
      fault = may;
      kept = (settled.1, λ node is. there.1 ∙ same_there there.0 (outcome_of there.0 input) fault mid.node (denied there.0 there.1) node is);
    })

-- ---- the same of a call that made room first

-- what is seen once there is room
came_to : (old : TracedLog) (n0 n1 : TracedNode) (log0 log1 : List EntryRecord) → seen_log n0 log0 ≡ old → n1 ≡ n0 → log1 ≡ log0
    → seen_log n1 log1 ≡ old
came_to old n0 n1 log0 log1 view made same = ap (λ (m : TracedNode). seen_log m log1) made ∙ ap (seen_log n0) same ∙ view

pub owed_worn : (old : TracedLog) (n0 n1 mid : TracedNode) (log0 log1 : List EntryRecord) (stamp0 : ℕ) (input : Input) (came : ℕ) (asked : Bool)
    (result : Result (Unit {0}) NodeFault)
    → seen_log n0 log0 ≡ old → stamp0 ≡ last_stamp log0 → is_some n0.node ≡ true → n1 ≡ n0 → log1 ≡ log0
    → MOST_STAMP < max stamp0 came + 1
    → ((node : Node) → n1.node ≡ Some node → asked ≡ is_turn (outcome_of node input))
    → WearsOut n1 asked (refusal_of input) mid result → Owes old (seen_log mid log1) input came result
owed_worn old n0 n1 mid log0 log1 stamp0 input came asked result view stamp some made same past is wears =
    subst (λ (o : TracedLog). Owes o (seen_log mid log1) input came result) (came_to old n0 n1 log0 log1 view made same)
    (owes_worn n1 mid log1 input came asked result (ap (λ (m : TracedNode). is_some m.node) made ∙ some)
    (subst (λ k. MOST_STAMP < max k came + 1) (stamp ∙ ap last_stamp (sym same)) past) is wears)

pub owed_settled : (old : TracedLog) (n0 n1 mid : TracedNode) (log0 log1 new : List EntryRecord) (stamp0 stamp : ℕ) (input : Input) (came : ℕ)
    (r : Result TurnRecord NodeFault) (result : Result (Unit {0}) NodeFault)
    → seen_log n0 log0 ≡ old → stamp0 ≡ last_stamp log0 → is_some n0.node ≡ true → n1 ≡ n0 → log1 ≡ log0
    → stamp ≡ max stamp0 came + 1 → stamp ≤ MOST_STAMP
    → ((node : Node) → n1.node ≡ Some node → IfOk r (λ turn. (after : Node) × (outcome_of node input ≡ done turn after)
    × (mid ≡ sound_node after (with_act after turn.act n1.trace))))
    → ((node : Node) → n1.node ≡ Some node → IfErr r (λ fault. AnswersTurn (outcome_of node input) node fault mid.node))
    → OnErr r (mid.trace ≡ n1.trace) → IfErr r (MayAnswer input)
    → Settles log1 input stamp r new result → Owes old (seen_log mid new) input came result
owed_settled old n0 n1 mid log0 log1 new stamp0 stamp input came r result view last some made same is few turn denied kept may settled =
    subst (λ (o : TracedLog). Owes o (seen_log mid new) input came result) (came_to old n0 n1 log0 log1 view made same)
    (owes_settled n1 mid log1 new input came stamp r result (ap (λ (m : TracedNode). is_some m.node) made ∙ some)
    (is ∙ ap (λ k. max k came + 1) (last ∙ ap last_stamp (sym same))) few turn denied kept may settled)
