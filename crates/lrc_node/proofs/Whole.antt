-- A call keeps the log whole.
use Rattle.std.proofs.Common.{◌≡◌, ◌∙◌, ℕ, Bool, true, false, Option, Some, None, List, [], ◌∷◌, ◌++◌, Result, Ok, Err, refl, sym, ap, subst, append-nil, append_assoc}
use Rattle.std.specs.Prelude.{if◌then◌else◌, nat_le}
use Rattle.std.proofs.lemmas.List.{map-append}
use Rattle.std.proofs.lemmas.Option.{same_Some}
use Rattle.lrc_program.specs.declared.Program.{Program}
use Rattle.lrc_trace.specs.Trace.{TraceRecord}
use Rattle.lrc_protocol.specs.Node.{Node, OptionsRecord, fresh_node}
use Rattle.lrc_protocol.specs.Turn.{TurnRecord, Outcome, done, not_ready, unexpected, worn}
use Rattle.lrc_protocol.specs.Run.{Input, run, EntryRecord, Logged, Logging, logged, refused, too_large, logging, logs, next_stamp, outcome_of, MOST_STAMP}
use Rattle.lrc_protocol.specs.Follows.{Local, inputs_of, local, turns_of}
use Rattle.lrc_protocol.specs.Traced.{trace_of, with_act}
use Rattle.lrc_protocol.proofs.Traces.{trace_more}
use Rattle.lrc_protocol.proofs.Worlds.{IsEntry}
use Rattle.lrc_node_laws.proofs.Leads.{local_more}
use Rattle.lrc_node.specs.Logged.{LoggedNode, TracedLog, sound}
use Rattle.lrc_node.specs.Whole.{AreStamped, IsWholeLog, stamped_none, stamped_one}
use Rattle.lrc_node.specs.declared.fault.NodeFault.{NodeFault}
use Rattle.lrc_node.specs.declared.fault.NodeFault.TheVariants.{Failed}
use Rattle.lrc_node.proofs.Leading.{entry_of}
use Rattle.lrc_node.proofs.Logging.{Owes}

-- ---- the stamp of a turn

abbrev Stamps : List EntryRecord → ℕ → Logging → Type 0
Stamps log came (logged entry after) = entry.stamp ≡ next_stamp log came
Stamps log came refused = Unit {0}
Stamps log came too_large = Unit {0}

stamps-if : (l : Logged) (input : Input) (came : ℕ) (turn : TurnRecord) (node : Node) (b : Bool)
    → (let entry : EntryRecord = record { input = input; stamp = next_stamp l.log came; turn = turn } in
    Stamps l.log came (if b then logged entry (record { node = node; log = l.log ++ entry ∷ [] }) else too_large))
stamps-if l input came turn node true = refl
stamps-if l input came turn node false = tt

stamps-by : (l : Logged) (input : Input) (came : ℕ) (o : Outcome) → Stamps l.log came (logging input (next_stamp l.log came) l.log o)
stamps-by l input came (done turn node) = stamps-if l input came turn node (nat_le (next_stamp l.log came) MOST_STAMP)
stamps-by l input came not_ready = tt
stamps-by l input came unexpected = tt
stamps-by l input came worn = tt

stamp_of : (l : Logged) (input : Input) (came : ℕ) (entry : EntryRecord) (after : Logged) → logs l input came ≡ logged entry after
    → entry.stamp ≡ next_stamp l.log came
stamp_of l input came entry after e = subst (Stamps l.log came) e (stamps-by l input came (outcome_of l.node input))

stamped_more : {before log : List EntryRecord} (entry : EntryRecord) (came : ℕ) → AreStamped before log → (entry.input ≡ run → came ≡ 0)
    → entry.stamp ≡ next_stamp (before ++ log) came → AreStamped before (log ++ entry ∷ [])
stamped_more {before} entry came stamped_none none is =
    stamped_one came none (is ∙ ap (λ b. next_stamp b came) (append-nil before)) stamped_none
stamped_more {before} entry came (stamped_one {log = log} {entry = e} c n s rest) none is =
    stamped_one c n s (stamped_more entry came rest none (is ∙ ap (λ b. next_stamp b came) (sym (append_assoc before (e ∷ []) log))))

-- ---- a call

module _ (program : Program) (nodes : ℕ) (options : OptionsRecord) (me : ℕ) where
  pub whole_first : (seen : TracedLog) → seen.logged.node ≡ Some (fresh_node program nodes options me) → seen.logged.log ≡ []
      → seen.trace ≡ trace_of (fresh_node program nodes options me) [] → IsWholeLog program nodes options me seen
  whole_first seen node log trace = record {
    node = fresh_node program nodes options me;
    made = ap (λ g. local program nodes options me (inputs_of g)) log
        ∙ ap (λ g. Some (let l : Local = record { node = fresh_node program nodes options me; turns = turns_of g } in l)) (sym log);
    stamps = subst (AreStamped []) (sym log) stamped_none;
    node_is = λ there is. same_Some there (fresh_node program nodes options me) (sym is ∙ node);
    trace_is = trace ∙ ap (trace_of (fresh_node program nodes options me)) (sym log);
  }

  -- a turn more
  whole_turn : (old new : TracedLog) (input : Input) (came : ℕ) → (input ≡ run → came ≡ 0) → IsWholeLog program nodes options me old
      → (node : Node) → old.logged.node ≡ Some node → Owes old new input came (Ok tt) → IsWholeLog program nodes options me new
  whole_turn old new input came none whole node there owes =
      let l : Logged = record { node = node; log = old.logged.log } in
      let at : old.logged ≡ sound l = ap (λ (n : Option Node). let m : LoggedNode = record { node = n; log = old.logged.log } in m) there in
      let (entry, after, is, new_is) = owes.logs l at in
      let i : IsEntry l input entry after = entry_of l input came entry after is in
      let log_is : new.logged.log ≡ old.logged.log ++ entry ∷ [] = ap (λ (m : LoggedNode). m.log) new_is ∙ i.log_is in
      let node_at : new.logged.node ≡ Some after.node = ap (λ (m : LoggedNode). m.node) new_is in
      let made : local program nodes options me (inputs_of old.logged.log) ≡ Some (record { node = node; turns = turns_of old.logged.log }) =
      whole.made ∙ ap (λ n. Some (let m : Local = record { node = n; turns = turns_of old.logged.log } in m)) (sym (whole.node_is node there)) in
      record {
        node = after.node;
        made = subst (λ g. local program nodes options me (inputs_of g) ≡ Some (record { node = after.node; turns = turns_of g })) (sym log_is)
            (ap (local program nodes options me) (map-append (λ (e : EntryRecord). e.input) old.logged.log (entry ∷ []))
            ∙ ap (λ j. local program nodes options me (inputs_of old.logged.log ++ j ∷ [])) i.input_is
            ∙ local_more program nodes options me (inputs_of old.logged.log) (record { node = node; turns = turns_of old.logged.log }) input entry.turn
            after.node made i.turn_is
            ∙ ap (λ ts. Some (let m : Local = record { node = after.node; turns = ts } in m))
            (sym (map-append (λ (e : EntryRecord). e.turn) old.logged.log (entry ∷ []))));
        stamps = subst (AreStamped []) (sym log_is)
            (stamped_more entry came whole.stamps (λ e. none (sym i.input_is ∙ e)) (stamp_of l input came entry after is));
        node_is = λ there is. same_Some there after.node (sym is ∙ node_at);
        trace_is = owes.notes after.node entry node_at log_is
            ∙ ap (with_act after.node entry.turn.act) whole.trace_is
            ∙ sym (trace_more program nodes options me l after input entry i made)
            ∙ ap (trace_of (fresh_node program nodes options me)) (ap (λ (m : LoggedNode). m.log) (sym new_is));
      }

  -- a refusal
  whole_refused : (old new : TracedLog) → IsWholeLog program nodes options me old → new.logged.log ≡ old.logged.log → new.trace ≡ old.trace
      → ((node : Node) → new.logged.node ≡ Some node → old.logged.node ≡ Some node) → IsWholeLog program nodes options me new
  whole_refused old new whole log trace there = record {
    node = whole.node;
    made = subst (λ g. local program nodes options me (inputs_of g) ≡ Some (record { node = whole.node; turns = turns_of g })) (sym log) whole.made;
    stamps = subst (AreStamped []) (sym log) whole.stamps;
    node_is = λ n is. whole.node_is n (there n is);
    trace_is = trace ∙ whole.trace_is ∙ ap (trace_of (fresh_node program nodes options me)) (sym log);
  }

  by_node : (old new : TracedLog) (input : Input) (came : ℕ) → (input ≡ run → came ≡ 0) → IsWholeLog program nodes options me old
      → (o : Option Node) → old.logged.node ≡ o → Owes old new input came (Ok tt) → IsWholeLog program nodes options me new
  by_node old new input came none whole (Some node) there owes = whole_turn old new input came none whole node there owes
  by_node old new input came none whole None there owes =
      let failed : (let r : Result (Unit {0}) NodeFault = Ok tt in r) ≡ Err Failed = (owes.failed there).0 in cc

  pub whole_on : (old new : TracedLog) (input : Input) (came : ℕ) (result : Result (Unit {0}) NodeFault) → (input ≡ run → came ≡ 0)
      → Owes old new input came result → IsWholeLog program nodes options me old → IsWholeLog program nodes options me new
  whole_on old new input came (Ok tt) none owes whole = by_node old new input came none whole old.logged.node refl owes
  whole_on old new input came (Err fault) none owes whole = whole_refused old new whole owes.kept.0 owes.notes owes.kept.1
