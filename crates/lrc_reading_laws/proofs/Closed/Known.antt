-- In every history the changes that a node knows, and those that a pending reply tells, are those of the closed intervals.
use Rattle.std.proofs.Common.{◌≡◌, ℕ, ◌+◌, List, [], ◌∷◌, ◌++◌, true, false, map, refl, sym, ap, subst, ◌∙◌, ⊎_elim, arith}
use Rattle.std.specs.Prelude.{Option, Some, None, is_some, ◌==◌, All, Contains, fold, slice_get, unwrap_or, if◌then◌else◌}
use Rattle.std.specs.List.{range_with_len}
use Rattle.std.proofs.lemmas.Bool.{and_parts, false≢true, ne_eqb}
use Rattle.std.proofs.lemmas.List.Elements.{All-nil, All-map, All-weaker, Contains-append_left, Contains-append_right, Contains-append_cases, Contains-push}
use Rattle.lrc_program.specs.declared.Program.{Program}
use Rattle.lrc_time.specs.Time.{entry, joined}
use Rattle.lrc_page.specs.declared.changes.Change.{Change}
use Rattle.lrc_store.specs.declared.key.Key.{Key}
use Rattle.lrc_store.specs.Store.{StoreRecord, StoredRecord, interval_of, added, discarded, changes_at, notice_at}
use Rattle.lrc_envelope.specs.Envelope.{EnvelopeRecord}
use Rattle.lrc_envelope.specs.Records.{IndexedChangesRecord, LockGrantRecord, DepartRecord, ChangesRequestRecord, ChangesReplyRecord}
use Rattle.lrc_envelope.specs.declared.message.Message.{Message}
use Rattle.lrc_envelope.specs.declared.message.Message.TheVariants.{LockRequest, LockForward, LockGrant, Arrive, Depart, Clean, Discard}
use Rattle.lrc_envelope.specs.declared.message.Message.TheVariants.{ChangesRequest, ChangesReply, PageRequest, PageReply}
use Rattle.lrc_copies.proofs.Members.{Contains-first, Contains-later, cases_Contains, none_Contains}
use Rattle.lrc_protocol.specs.Times.{indices_by, next_time}
use Rattle.lrc_protocol.specs.Pages.{Copy, valid, written, invalid, absent, copy_at, with_interval, changes_or_none, with_part}
use Rattle.lrc_protocol.specs.Turn.{after_close, grants_of, own_part, changes_reply_to, TurnRecord}
use Rattle.lrc_protocol.specs.Follows.{is_expected}
use Rattle.lrc_lock.specs.declared.state.Pass.{Pass}
use Rattle.lrc_exec.specs.Meaning.{Next, quiet, prints, reads, writes, acquires, releases, arrives, departs, traps, ends}
use Rattle.lrc_protocol.specs.Node.{Letter, Node, OptionsRecord}
use Rattle.lrc_protocol.specs.Run.{Input, Logged, World, fresh_world, with_turn}
use Rattle.lrc_protocol.specs.Follows.{pending}
use Rattle.lrc_protocol.proofs.Worlds.{get_set_same, fresh_at}
use Rattle.lrc_protocol.proofs.Expecting.{fulfilled}
use Rattle.lrc_order_laws.proofs.Shift.{AllFrom}
use Rattle.lrc_order_laws.proofs.Sends.{Came, by_itself, comes, letter_in}
use Rattle.lrc_node_laws.proofs.Tests.{each_passes}
use Rattle.lrc_node_laws.proofs.Always.{attached_at, ranged_at}
use Rattle.lrc_node_laws.proofs.OwnAsked.{own-known}
use Rattle.lrc_reading_laws.specs.Made.{AllMade, AllTold, intervals_in, AreMade}
use Rattle.lrc_reading_laws.specs.Written.{made_changes}
use Rattle.lrc_reading_laws.proofs.Closed.Told.{told-there}
use Rattle.lrc_reading_laws.proofs.Closed.Stocks.{StoreChange, same, closed, granted, departing, replied, dropped}
use Rattle.lrc_reading_laws.proofs.Closed.History.{History, KeptByHistory, by_history, closed_record, closed_by}
use Rattle.lrc_reading_laws.proofs.Stamped.Worlds.{Placed, placed, each_node, TurnBy, alone, again, anew, turn_at}
use Rattle.lrc_reading_laws.proofs.Stamped.Made.{AreListed, closed-index, one_listed, all_made, all_listed}
use Rattle.lrc_reading_laws.proofs.Stamped.Turns.{is_changes_reply, AllSilent, NoReplies, silent-replies, grants-replies, SinceIn}
use Rattle.lrc_reading_laws.proofs.Stamped.Turns.{Timely, Turned, Says, RunSays, GoesSaying, run-turned, took-turned}
use Rattle.lrc_reading_laws.proofs.Closed.KnownStores.{changes-more, IsKnown, all_known-more, learned-known, dropped-known}
use Rattle.lrc_reading_laws.proofs.Closed.KnownStores.{ArePartsOf, parts-known, closed-known, known-of}

-- ---- replies

-- what a reply tells of its sender's intervals was made
abbrev pub IsReplied : List StoredRecord → EnvelopeRecord → Type 0
IsReplied made e = (m : ChangesReplyRecord) → e.message ≡ ChangesReply m → ArePartsOf made e.from m.page m.parts

abbrev pub AllReplied : List StoredRecord → List EnvelopeRecord → Type 0
AllReplied made es = (e : EnvelopeRecord) → Contains es e → IsReplied made e

replied-more : (made new : List StoredRecord) (e : EnvelopeRecord) → IsReplied made e → IsReplied (made ++ new) e
replied-more made new e h m is =
    All-weaker
    (λ (part : IndexedChangesRecord). made_changes made (record { node = e.from; index = part.index; page = m.page }) ≡ Some part.changes)
    (λ (part : IndexedChangesRecord). made_changes (made ++ new) (record { node = e.from; index = part.index; page = m.page }) ≡ Some part.changes)
    (λ part k. changes-more made new (record { node = e.from; index = part.index; page = m.page }) part.changes k) m.parts (h m is)

none_out : (out : List EnvelopeRecord) → NoReplies (map letter_in out) → (e : EnvelopeRecord) → Contains out e → is_changes_reply e.message ≡ false
none_out [] s e c = absurd (none_Contains e c)
none_out (x ∷ out) s e c =
    ⊎_elim
    (λ (first : x ≡ e). subst (λ (y : EnvelopeRecord). is_changes_reply y.message ≡ false) first s.0)
    (λ (later : Contains out e). none_out out s.1 e later)
    (cases_Contains x out e c)

none-replied : (made : List StoredRecord) (out : List EnvelopeRecord) → NoReplies (map letter_in out) → AllReplied made out
none-replied made out s e c m is = absurd (false≢true (sym (none_out out s e c) ∙ ap is_changes_reply is))

silent-replied : (made : List StoredRecord) (out : List EnvelopeRecord) → AllSilent (map letter_in out) → AllReplied made out
silent-replied made out s = none-replied made out (silent-replies (map letter_in out) s)

grants-replied : (made : List StoredRecord) (out : List EnvelopeRecord) (node : Node) (pass : Option Pass) → map letter_in out ≡ grants_of node pass
    → AllReplied made out
grants-replied made out node pass is = none-replied made out (subst NoReplies (sym is) (grants-replies node pass))

pub from_out : (me : ℕ) (out : List EnvelopeRecord) → AllFrom me out → (e : EnvelopeRecord) → Contains out e → e.from ≡ me
from_out me [] f e c = absurd (none_Contains e c)
from_out me (x ∷ out) f e c =
    ⊎_elim
    (λ (first : x ≡ e). subst (λ (y : EnvelopeRecord). y.from ≡ me) first f.0)
    (λ (later : Contains out e). from_out me out f.1 e later)
    (cases_Contains x out e c)

pub letter_out : (out : List EnvelopeRecord) (e : EnvelopeRecord) → Contains out e → Contains (map letter_in out) (letter_in e)
letter_out [] e c = absurd (none_Contains e c)
letter_out (x ∷ out) e c =
    ⊎_elim
    (λ (first : x ≡ e). subst (λ (y : EnvelopeRecord). Contains (map letter_in (x ∷ out)) (letter_in y)) first (Contains-first (letter_in x)
    (map letter_in out)))
    (λ (later : Contains out e). Contains-later (letter_in x) (map letter_in out) (letter_in e) (letter_out out e later))
    (cases_Contains x out e c)

-- one letter alone
pub only_letter : (x y : Letter) → Contains (x ∷ []) y → x ≡ y
only_letter x y c = ⊎_elim (λ (first : x ≡ y). first) (λ (later : Contains [] y). absurd (none_Contains y later)) (cases_Contains x [] y c)

-- ---- one turn

-- what comes tells of what was made
record CameKnown (made : List StoredRecord) (came : Came) : Type 0 where
  grant : (from : ℕ) (m : LockGrantRecord) → came ≡ comes from (LockGrant m) → AllMade (map interval_of made) m.intervals
  depart : (from : ℕ) (m : DepartRecord) → came ≡ comes from (Depart m) → AllMade (map interval_of made) m.intervals
  reply : (from : ℕ) (m : ChangesReplyRecord) → came ≡ comes from (ChangesReply m) → ArePartsOf made from m.page m.parts

any-since : (copy : Copy) → SinceIn (λ t. Unit {0}) copy
any-since (valid values) = tt
any-since (written values twin) = tt
any-since (invalid values since) = tt
any-since absent = tt

module _ (nodes n : ℕ) (node : Node) (made : List StoredRecord) (p : Placed nodes n node)
    (exact : indices_by (map interval_of made) n ≡ range_with_len 1 (entry node.locks.time n)) (listed : AreListed nodes made)
    (known : All (IsKnown made) node.memory.store.entries) (was : List EnvelopeRecord) (told : AllTold (map interval_of made) was)
    (replies : AllReplied made was) where
  abbrev me : ℕ
  me = node.setting.me

  abbrev made_at : List ℕ → List StoredRecord
  made_at after = made ++ (if entry after me == entry node.locks.time me then [] else closed_record node ∷ [])

  -- ---- what is stored

  message_is : (from from' : ℕ) (m m' : Message) → comes from m ≡ comes from' m' → m ≡ m'
  message_is from from' m m' e = cc

  from_is : (from from' : ℕ) (m m' : Message) → comes from m ≡ comes from' m' → from ≡ from'
  from_is from from' m m' e = cc

  alone_known : CameKnown made by_itself
  alone_known = record { grant = λ from m e. absurd cc; depart = λ from m e. absurd cc; reply = λ from m e. absurd cc }

  message_known : (e : EnvelopeRecord) → AllMade (map interval_of made) (intervals_in e.message) → IsReplied made e → CameKnown made (comes e.from e.message)
  message_known e h r = record {
    grant = λ from m is.
        subst (λ x. AllMade (map interval_of made) (intervals_in x)) (message_is e.from from e.message (LockGrant m) is) h;
    depart = λ from m is.
        subst (λ x. AllMade (map interval_of made) (intervals_in x)) (message_is e.from from e.message (Depart m) is) h;
    reply = λ from m is.
        subst (λ k. ArePartsOf made k m.page m.parts) (from_is e.from from e.message (ChangesReply m) is)
        (r m (message_is e.from from e.message (ChangesReply m) is));
  }

  more_known : (after : List ℕ) (entries : List StoredRecord) → All (IsKnown made) entries → All (IsKnown (made_at after)) entries
  more_known after entries h = all_known-more made (if entry after me == entry node.locks.time me then [] else closed_record node ∷ []) entries h

  own_known : All (IsKnown (made_at (next_time me node.locks.time))) (with_interval me (next_time me node.locks.time) node.memory).store.entries
  own_known =
      let all : List StoredRecord = made ++ closed_record node ∷ [] in
      let longer : AreListed nodes all = one_listed nodes n node made p exact listed in
      let index : entry (next_time me node.locks.time) me ≡ entry node.locks.time me + 1 = closed-index nodes n node p in
      subst
      (λ b. All (IsKnown (made ++ (if b then [] else closed_record node ∷ [])))
      (with_interval me (next_time me node.locks.time) node.memory).store.entries)
      (sym (ne_eqb (entry (next_time me node.locks.time) me) (entry node.locks.time me) (λ e. omega (arith, e, index))))
      (closed-known all longer.found longer.rising node (Contains-push made (closed_record node))
      (all_known-more made (closed_record node ∷ []) node.memory.store.entries known))

  by_change : (came : Came) (store : StoreRecord) (after : List ℕ) → StoreChange me node.locks.time node.memory came store after → CameKnown made came
      → All (IsKnown (made_at after)) store.entries
  by_change came _ _ same t = more_known node.locks.time node.memory.store.entries known
  by_change _ _ _ closed t = own_known
  by_change _ _ _ (granted from m) t =
      more_known (joined node.locks.time m.time) (fold added node.memory.store m.intervals).entries
      (learned-known made m.intervals node.memory.store (t.grant from m refl) known)
  by_change _ _ _ (departing from m) t =
      more_known (joined node.locks.time m.time) (fold added node.memory.store m.intervals).entries
      (learned-known made m.intervals node.memory.store (t.depart from m refl) known)
  by_change _ _ _ (replied from m) t =
      more_known node.locks.time (fold (with_part from m.page) node.memory.store m.parts).entries
      (parts-known made listed.found listed.rising from m.page m.parts node.memory.store (t.reply from m refl) known)
  by_change _ _ _ (dropped from episode upto) t =
      more_known node.locks.time (discarded node.memory.store upto).entries (dropped-known made node.memory.store upto known)

  -- ---- what is told

  -- what the node stores of its own is told as it was made
  part-made : (page index : ℕ) → is_some (notice_at node.memory.store (record { node = me; index = index; page = page })) ≡ true
      → made_changes made (record { node = me; index = index; page = page }) ≡ Some (own_part node page index).changes
  part-made page index e =
      by_found (changes_at node.memory.store key) refl (own-known me index page node.memory (attached_at node p.reached) e)
    where
      key : Key
      key = record { node = me; index = index; page = page }

      by_found : (o : Option (List Change)) → changes_at node.memory.store key ≡ o → is_some o ≡ true
          → made_changes made key ≡ Some (changes_or_none node.memory.store key)
      by_found None e s = cc
      by_found (Some changes) e s =
          known-of made listed.found listed.rising node.memory.store key changes known e ∙ ap (λ o. Some (unwrap_or o [])) (sym e)

  answered : (from : ℕ) (m : ChangesRequestRecord) (out : List EnvelopeRecord) → is_expected node from (ChangesRequest m) ≡ true
      → map letter_in out ≡ changes_reply_to node from m.page m.indices ∷ [] → AllFrom me out → AllReplied made out
  answered from m out expected is f e c m' e' =
      let sent : ChangesReplyRecord = record { page = m.page; parts = map (own_part node m.page) m.indices } in
      let letter_is : changes_reply_to node from m.page m.indices ≡ letter_in e =
      only_letter (changes_reply_to node from m.page m.indices) (letter_in e) (subst (λ ls. Contains ls (letter_in e)) is (letter_out out e c)) in
      let message_is : ChangesReply sent ≡ ChangesReply m' = ap (λ (x : Letter). x.message) letter_is ∙ e' in
      let same : sent ≡ m' = cc in
      let parts : _ = and_parts _ _ (fulfilled node from (ChangesRequest m) expected) in
      let noticed : All (λ index. is_some (notice_at node.memory.store (record { node = me; index = index; page = m.page })) ≡ true) m.indices =
      each_passes (λ index. is_some (notice_at node.memory.store (record { node = me; index = index; page = m.page })))
      (λ index. is_some (notice_at node.memory.store (record { node = me; index = index; page = m.page })) ≡ true) (λ index b. b) m.indices parts.1 in
      let P : IndexedChangesRecord → Type 0 = λ part.
      made_changes made (record { node = me; index = part.index; page = m.page }) ≡ Some part.changes in
      let all : ArePartsOf made me sent.page sent.parts =
      All-map P (own_part node m.page) m.indices
      (All-weaker (λ index. is_some (notice_at node.memory.store (record { node = me; index = index; page = m.page })) ≡ true)
      (λ index. P (own_part node m.page index)) (λ index k. part-made m.page index k) m.indices noticed) in
      subst (λ (x : ChangesReplyRecord). ArePartsOf made e.from x.page x.parts) same
      (subst (λ k. ArePartsOf made k sent.page sent.parts) (sym (from_out me out f e c)) all)

  abbrev Unbound : List ℕ → Type 0
  Unbound t = Unit {0}

  any_timely : Timely Unbound node.memory
  any_timely = record { collected = tt; since = λ page. any-since (copy_at node.memory page) }

  says-replied : (from : ℕ) (message : Message) (out : List EnvelopeRecord) → is_expected node from message ≡ true
      → Says Unbound node from message (map letter_in out) → AllFrom me out → AllReplied made out
  says-replied from (ChangesRequest m) out e s f = answered from m out e s f
  says-replied from (LockRequest m) out e s f = silent-replied made out s
  says-replied from (LockForward m) out e s f = grants-replied made out node _ s
  says-replied from (LockGrant m) out e s f = silent-replied made out s
  says-replied from (Arrive m) out e s f = silent-replied made out s
  says-replied from (Depart m) out e s f = silent-replied made out s
  says-replied from (Clean episode) out e s f = silent-replied made out s
  says-replied from (Discard episode) out e s f = silent-replied made out s
  says-replied from (ChangesReply m) out e s f = silent-replied made out s
  says-replied from (PageRequest page) out e s f = silent-replied made out s
  says-replied from (PageReply m) out e s f = silent-replied made out s

  run-replied : (next : Next) (out : List EnvelopeRecord) → RunSays Unbound node next (map letter_in out) → AllReplied made out
  run-replied (releases lock after) out s = grants-replied made out (after_close node) _ s
  run-replied (quiet after) out s = silent-replied made out s
  run-replied (prints value after) out s = silent-replied made out s
  run-replied (reads word after) out s = silent-replied made out s
  run-replied (writes word value after) out s = silent-replied made out s
  run-replied (acquires lock after) out s = silent-replied made out s
  run-replied (arrives after) out s = none-replied made out (subst NoReplies (sym s) (refl, tt))
  run-replied (departs after) out s = silent-replied made out s
  run-replied (traps cause) out s = silent-replied made out s
  run-replied ends out s = silent-replied made out s

  -- ---- the turn

  record TurnKnown (after : Node) (now : List EnvelopeRecord) : Type 0 where
    stored : All (IsKnown (made_at after.locks.time)) after.memory.store.entries
    replied : AllReplied (made_at after.locks.time) now

  -- what was pending and what is sent
  both_replied : (after : List ℕ) (left out now : List EnvelopeRecord) → now ≡ left ++ out → AllReplied made left → AllReplied made out
      → AllReplied (made_at after) now
  both_replied after left out now is h k e c =
      replied-more made (if entry after me == entry node.locks.time me then [] else closed_record node ∷ []) e
      (⊎_elim (λ (old : Contains left e). h e old) (λ (new : Contains out e). k e new)
      (Contains-append_cases left out e (subst (λ es. Contains es e) is c)))

  left_replied : (front back : List EnvelopeRecord) (e : EnvelopeRecord) → was ≡ front ++ e ∷ back → AllReplied made (front ++ back)
  left_replied front back e is x c =
      replies x
      (subst (λ es. Contains es x) (sym is)
      (⊎_elim
      (λ (old : Contains front x). Contains-append_left front (e ∷ back) x old)
      (λ (later : Contains back x). Contains-append_right front (e ∷ back) x (Contains-later e back x later))
      (Contains-append_cases front back x c)))

  taken_there : (front back : List EnvelopeRecord) (e : EnvelopeRecord) → was ≡ front ++ e ∷ back → IsReplied made e
  taken_there front back e is =
      replies e (subst (λ es. Contains es e) (sym is) (Contains-append_right front (e ∷ back) e (Contains-first e back)))

  turned : (input : Input) (turn : TurnRecord) (after : Node) (now : List EnvelopeRecord) → after.setting.me ≡ me
      → TurnBy node was input turn after now → TurnKnown after now
  turned _ turn after now me_is (alone o k g) =
      let went : Turned Unbound (GoesSaying Unbound node) turn after = run-turned Unbound node turn after o any_timely in
      record {
        stored = by_change by_itself after.memory.store after.locks.time k.change alone_known;
        replied = both_replied after.locks.time was turn.out now g replies (run-replied went.says.0 turn.out went.says.1);
      }
  turned _ _ _ now me_is (again e g) = record {
    stored = more_known node.locks.time node.memory.store.entries known;
    replied = λ x c.
        replied-more made (if entry node.locks.time me == entry node.locks.time me then [] else closed_record node ∷ []) x
        (replies x (subst (λ es. Contains es x) g c));
  }
  turned _ turn after now me_is (anew e t k lost) =
      let turned : Turned Unbound (Says Unbound node e.from e.message) turn after =
      took-turned Unbound node e turn after t tt (ranged_at node p.reached).present any_timely in
      record {
        stored = by_change (comes e.from e.message) after.memory.store after.locks.time k.change
            (message_known e
            (told-there (map interval_of made) lost.front lost.back e (subst (AllTold (map interval_of made)) lost.before told))
            (taken_there lost.front lost.back e lost.before));
        replied = both_replied after.locks.time (lost.front ++ lost.back) turn.out now lost.after (left_replied lost.front lost.back e lost.before)
            (says-replied e.from e.message turn.out t.expected turned.says (subst (λ k. AllFrom k turn.out) me_is turned.from));
      }

-- ---- every history

pub record AreTold (made : List StoredRecord) (world : World) : Type 0 where
  pub known : (n : ℕ) (l : Logged) → slice_get world.nodes n ≡ Some l → All (IsKnown made) l.node.memory.store.entries
  pub replied : AllReplied made (pending world)

module _ (program : Program) (nodes : ℕ) (options : OptionsRecord) where
  told-history : KeptByHistory program nodes options (λ world made. AreTold made world)
  told-history world made flight n l after input log_entry at come i r r' h c =
      let now : World = with_turn world flight n log_entry after in
      let p : Placed nodes n l.node = placed program nodes options world r n l at in
      let p' : Placed nodes n after.node = placed program nodes options now r' n after (get_set_same world.nodes n l after at) in
      let listed : AreListed nodes made = all_listed program nodes options world made h in
      let are : AreMade (map interval_of made) world = all_made program nodes options world made h in
      let all : List StoredRecord = made ++ closed_by l.node after.node in
      let turn : TurnKnown nodes n l.node made p (are.exact n l at) listed (c.known n l at) (pending world) are.told c.replied after.node (pending now) =
      turned nodes n l.node made p (are.exact n l at) listed (c.known n l at) (pending world) are.told c.replied input log_entry.turn after.node (pending now)
      (p'.me ∙ sym p.me) (turn_at program nodes options world flight n l after input log_entry at come i r) in
      record {
        known =
            each_node (λ q lq. All (IsKnown all) lq.node.memory.store.entries) world n l after at turn.stored
            (λ q lq is. all_known-more made (closed_by l.node after.node) lq.node.memory.store.entries (c.known q lq is));
        replied = turn.replied;
      }

  told-fresh : AreTold [] (fresh_world program nodes options)
  told-fresh = record {
    known = λ q l is.
        subst (λ (x : Logged). All (IsKnown []) x.node.memory.store.entries) (sym (fresh_at program nodes options 0 nodes q l is)) (All-nil (IsKnown []));
    replied = λ e c. absurd (none_Contains e c);
  }

  pub all_told : (world : World) (made : List StoredRecord) → History program nodes options world made → AreTold made world
  all_told world made h = by_history program nodes options (λ world made. AreTold made world) told-fresh told-history world made h
