-- Turns of a node, and the log that they leave.
use Rattle.std.proofs.Common.{◌≡◌, ◌∙◌, ℕ, List, [], ◌∷◌, ◌++◌, refl, sym, ap, subst, append-nil, append_assoc}
use Rattle.std.proofs.lemmas.List.Elements.{All-nil, All-push}
use Rattle.lrc_protocol.specs.Node.{Node}
use Rattle.lrc_protocol.specs.Run.{Input, EntryRecord, Logged, logged, logs}
use Rattle.lrc_node.proofs.Leading.{entry_of}
use Rattle.lrc_weave.specs.Logs.{MayCome, GoesOnBy}
use Rattle.lrc_threads.specs.Worker.{AreShort, SendsShort, Turns, none, more, Stops, after_turns, in_turn, no_turn_yet}

-- a node with its log goes on by these entries to another state of it
abbrev LeadsTo : Logged → List EntryRecord → Logged → Type 0
LeadsTo l [] j = l ≡ j
LeadsTo l (entry ∷ others) j =
    (came : ℕ) × (after : Logged) × MayCome entry.input came × (logs l entry.input came ≡ logged entry after) × LeadsTo after others j

-- one entry more
one_more : (l k j : Logged) (log : List EntryRecord) (entry : EntryRecord) (input : Input) (came : ℕ) → LeadsTo l log k → MayCome input came
    → logs k input came ≡ logged entry j → LeadsTo l (log ++ entry ∷ []) j
one_more l k j [] entry input came is may turn =
    let same = (entry_of k input came entry j turn).input_is in (
      came,
      j,
      subst (λ i. MayCome i came) (sym same) may,
      subst (λ x. logs x entry.input came ≡ logged entry j) (sym is) (subst (λ i. logs k i came ≡ logged entry j) (sym same) turn),
      refl,
    )
one_more l k j (first ∷ others) entry input came leads may turn =
    (leads.0, leads.1, leads.2, leads.3, one_more leads.1 k j others entry input came leads.4 may turn)

-- turns lead on by the entries that they add
leads_on : {l j : Logged} → Turns l j → (log : List EntryRecord) × (j.log ≡ l.log ++ log) × LeadsTo l log j
leads_on {l = l} none = ([], sym (append-nil l.log), refl)
leads_on {l = l} (more {k = k} {j = j} {entry = entry} input came before may turn short) =
    let so_far = leads_on before in (
      so_far.0 ++ entry ∷ [],
      (entry_of k input came entry j turn).log_is ∙ ap (λ log. log ++ entry ∷ []) so_far.1 ∙ append_assoc l.log so_far.0 (entry ∷ []),
      one_more l k j so_far.0 entry input came so_far.2 may turn,
    )

goes_on_by : (l j : Logged) (log : List EntryRecord) → LeadsTo l log j → GoesOnBy l log
goes_on_by l j [] leads = tt
goes_on_by l j (entry ∷ others) leads = (leads.0, leads.1, leads.2, leads.3, goes_on_by leads.1 j others leads.4)

-- the log of a node's turns from its first on is one by which it goes on
pub log_goes_on : (start : Node) (j : Logged) → Turns (no_turn_yet start) j → GoesOnBy (no_turn_yet start) j.log
log_goes_on start j turns =
    let led = leads_on turns in subst (GoesOnBy (no_turn_yet start)) (sym led.1) (goes_on_by (no_turn_yet start) j led.0 led.2)

-- with one turn more
pub one_goes_on : (start : Node) (k j : Logged) (entry : EntryRecord) (input : Input) (came : ℕ) → Turns (no_turn_yet start) k → MayCome input came
    → logs k input came ≡ logged entry j → GoesOnBy (no_turn_yet start) j.log
one_goes_on start k j entry input came turns may turn =
    let led = leads_on turns in
    let log : j.log ≡ led.0 ++ entry ∷ [] = (entry_of k input came entry j turn).log_is ∙ ap (λ log. log ++ entry ∷ []) led.1 in
    subst (GoesOnBy (no_turn_yet start)) (sym log)
    (goes_on_by (no_turn_yet start) j (led.0 ++ entry ∷ []) (one_more (no_turn_yet start) k j led.0 entry input came led.2 may turn))

-- the log of a node that was refused memory
pub stopped_goes_on : (start : Node) {log : List EntryRecord} → Stops (no_turn_yet start) log → GoesOnBy (no_turn_yet start) log
stopped_goes_on start (after_turns {k = k} turns) = log_goes_on start k turns
stopped_goes_on start (in_turn {k = k} {j = j} {entry = entry} input came turns may turn) = one_goes_on start k j entry input came turns may turn

-- turns add no message that is too long
pub short_after : {l j : Logged} → Turns l j → AreShort l.log → AreShort j.log
short_after none before = before
short_after (more {k = k} {j = j} {entry = entry} input came others may turn short) before =
    subst AreShort (sym (entry_of k input came entry j turn).log_is) (All-push SendsShort k.log entry (short_after others before) short)

-- the log of a node's turns from its first on has none
pub log_short : (start : Node) (j : Logged) → Turns (no_turn_yet start) j → AreShort j.log
log_short start j turns = short_after turns (All-nil SendsShort)
