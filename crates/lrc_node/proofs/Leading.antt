-- The log of a node leads it on from how it started.
use Rattle.std.proofs.Common.{◌≡◌, ◌∙◌, ℕ, ◌++◌, [], ◌∷◌, Ok, sym, ap, subst}
use Rattle.lrc_protocol.specs.Node.{Node}
use Rattle.lrc_protocol.specs.Run.{Input, EntryRecord, Logged, logged, logs}
use Rattle.lrc_protocol.specs.Traced.{Traced, with_act}
use Rattle.lrc_protocol.proofs.Traces.{traced_entry}
use Rattle.lrc_protocol.proofs.Worlds.{IsEntry, Entries, logs-entries}
use Rattle.lrc_node.specs.Logged.{LoggedNode, TracedLog, sound, LogsTo, NotesIn, LeadsFrom}

-- a turn that is logged
pub entry_of : (l : Logged) (input : Input) (came : ℕ) (entry : EntryRecord) (after : Logged) → logs l input came ≡ logged entry after
    → IsEntry l input entry after
entry_of l input came entry after e = subst (Entries l input) e (logs-entries l input came)

pub leads_turn : (start : Node) (l : Logged) (old new : TracedLog) (input : Input) (came : ℕ) → LeadsFrom start l old
    → LogsTo old.logged input came new.logged (Ok tt) → NotesIn old new (Ok tt)
    → (entry : EntryRecord) × (after : Logged) × (logs l input came ≡ logged entry after) × LeadsFrom start after new
leads_turn start l old new input came f turn notes =
    let (entry, after, is, is_new) = turn l f.sound_so in
    let i : IsEntry l input entry after = entry_of l input came entry after is in
    let log : new.logged.log ≡ old.logged.log ++ entry ∷ [] =
    ap (λ (m : LoggedNode). m.log) is_new ∙ i.log_is ∙ ap (λ (m : LoggedNode). m.log ++ entry ∷ []) (sym f.sound_so) in
    let so = traced_entry start l after input entry i f.replayed in (
      entry,
      after,
      is,
      record {
        sound_so = is_new;
        replayed = ap (λ (t : Traced). t.node) so;
        trace_is = notes after.node entry (ap (λ (m : LoggedNode). m.node) is_new) log
            ∙ ap (with_act after.node entry.turn.act) f.trace_is
            ∙ sym (ap (λ (t : Traced). t.trace) so);
      },
    )

-- an input that is refused
pub leads_still : (start : Node) (l : Logged) (old new : TracedLog) → LeadsFrom start l old → new.logged ≡ sound l → new.trace ≡ old.trace
    → LeadsFrom start l new
leads_still start l old new f same trace = record { sound_so = same; replayed = f.replayed; trace_is = trace ∙ f.trace_is }
