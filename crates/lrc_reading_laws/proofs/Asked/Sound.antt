-- In every run each pending message is of one of the nodes, and the contents of each reply are in range: changes are of words of
-- a page, and a base copy is a page long.
use Rattle.std.proofs.Common.{◌≡◌, ℕ, ◌<◌, ◌≤◌, List, [], ◌∷◌, Bool, true, false, cond, length, refl, sym, subst, ◌∙◌, ⊎_elim, inl, inr}
use Rattle.std.specs.Prelude.{Option, Some, None, ◌==◌, All, Contains, find, option_and_then, slice_index_or, unwrap_or}
use Rattle.std.specs.Option.{ForSome}
use Rattle.std.proofs.lemmas.Bool.{cases_lt}
use Rattle.std.proofs.lemmas.Option.{same_Some, slice_get_within}
use Rattle.std.proofs.lemmas.List.{get_or_past}
use Rattle.std.proofs.lemmas.List.Elements.{All-nil, All-head, All-tail, All-map, All-get_or}
use Rattle.lrc_program.specs.declared.Program.{Program}
use Rattle.lrc_exec.specs.Meaning.{Setting}
use Rattle.lrc_exec.specs.Plain.{setting_of}
use Rattle.lrc_protocol.proofs.Ruled.{by_rule}
use Rattle.lrc_protocol.proofs.Turned.{Turned, Turns, turns}
use Rattle.lrc_protocol.proofs.Worlds.{run-whole}
use Rattle.lrc_page.specs.declared.changes.Change.{Change}
use Rattle.lrc_page.specs.Page.{words_of}
use Rattle.lrc_store.specs.declared.key.Key.{Key}
use Rattle.lrc_store.specs.Store.{NoticeRecord, StoredRecord, StoreRecord, stored_at, notice_of, notice_at, changes_at, is_at}
use Rattle.lrc_store.proofs.Orders.{cases_Contains, none_Contains}
use Rattle.lrc_envelope.specs.Envelope.{EnvelopeRecord}
use Rattle.lrc_envelope.specs.Records.{IndexedChangesRecord}
use Rattle.lrc_envelope.specs.declared.message.Message.{Message}
use Rattle.lrc_envelope.specs.declared.message.Message.TheVariants.{LockRequest, LockForward, LockGrant, Arrive, Depart, Clean, Discard}
use Rattle.lrc_envelope.specs.declared.message.Message.TheVariants.{ChangesRequest, ChangesReply, PageRequest, PageReply}
use Rattle.lrc_protocol.specs.declared.event.Event.{Event}
use Rattle.lrc_protocol.specs.Node.{Letter, Node, OptionsRecord}
use Rattle.lrc_protocol.specs.Turn.{own_part, changes_reply_to, page_reply_to}
use Rattle.lrc_protocol.specs.Run.{World, fresh_world, with_turn, run_of}
use Rattle.lrc_protocol.specs.Follows.{pending}
use Rattle.lrc_protocol.specs.Follows.{turns_of}
use Rattle.lrc_order_laws.proofs.Shape.{NodeShape, shape_at}
use Rattle.lrc_order_laws.proofs.Sends.{letter_in}
use Rattle.lrc_order_laws.proofs.Pending.{new_of, Goes, all_pending, pending-goes}
use Rattle.lrc_order_laws.proofs.Moves.{in-now, among_letters, sent_from}
use Rattle.lrc_order_laws.proofs.Shift.{AllFrom, Shifted, ShiftedIf, shifts}
use Rattle.lrc_order_laws.proofs.Reached.{KeptByReached, by_reached}
use Rattle.lrc_node_laws.specs.Ranges.{IsWholeBase}
use Rattle.lrc_node_laws.specs.Reached.{IsReached as IsReachedNode}
use Rattle.lrc_node_laws.specs.Sized.{AreInPage, IsSized}
use Rattle.lrc_node_laws.proofs.Always.{whole_at, sized_at}
use Rattle.lrc_reading_laws.proofs.Closed.Stored.{reached}
use Rattle.lrc_reading_laws.specs.Requested.{told_in}
use Rattle.lrc_reading_laws.proofs.Asked.Wishes.{AreRequests}
use Rattle.lrc_reading_laws.proofs.Asked.Replies.{Replies, brings_nothing, brings_changes, brings_page, Told, tells}

-- with so many words on a page
abbrev pub IsSound : ℕ → Message → Type 0
IsSound words (ChangesReply m) = All (λ (part : IndexedChangesRecord). AreInPage words part.changes) m.parts
IsSound words (PageReply m) = length m.values ≡ words
IsSound words _ = Unit {0}

-- ---- changes that are known are in range

find-all : {X : Type 0} (P : X → Type 0) (test : X → Bool) (xs : List X) → All P xs → (x : X) → find test xs ≡ Some x → P x
find-all P test [] h x e = cc
find-all P test (y ∷ ys) h x e = by_test (test y) (λ found. find-all P test ys (All-tail P y ys h) x found) e
  where
    by_test : (b : Bool) → (find test ys ≡ Some x → P x) → cond b (Some y) (find test ys) ≡ Some x → P x
    by_test true later e = subst P (same_Some y x e) (All-head P y ys h)
    by_test false later e = later e

chosen : {X Y : Type 0} (f : X → Option Y) (o : Option X) (y : Y) → option_and_then f o ≡ Some y → (x : X) × (o ≡ Some x) × (f x ≡ Some y)
chosen f None y e = cc
chosen f (Some x) y e = (x, refl, e)

known-sized : (words : ℕ) (store : StoreRecord) (key : Key) (changes : List Change) → All (IsSized words) store.entries
    → changes_at store key ≡ Some changes → AreInPage words changes
known-sized words store key changes h e =
    let notice : (n : NoticeRecord) × (notice_at store key ≡ Some n) × (n.changes ≡ Some changes) =
    chosen (λ (n : NoticeRecord). n.changes) (notice_at store key) changes e in
    let stored : (s : StoredRecord) × (stored_at store.entries key.node key.index ≡ Some s) × (notice_of key.page s ≡ Some notice.0) =
    chosen (notice_of key.page) (stored_at store.entries key.node key.index) notice.0 notice.1 in
    find-all (λ (n : NoticeRecord). ForSome n.changes (AreInPage words)) (λ (n : NoticeRecord). n.page == key.page) stored.0.notices
    (find-all (IsSized words) (is_at key.node key.index) store.entries h stored.0 stored.1)
    notice.0 stored.2 changes notice.2

or_none-sized : (words : ℕ) (o : Option (List Change)) → ((changes : List Change) → o ≡ Some changes → AreInPage words changes)
    → AreInPage words (unwrap_or o [])
or_none-sized words None h = All-nil (λ (change : Change). change.offset < words)
or_none-sized words (Some changes) h = h changes refl

-- ---- what a node sends

asks-sound : (words : ℕ) (message : Message) → told_in message ≡ None → IsSound words message
asks-sound words (ChangesReply m) e = cc
asks-sound words (PageReply m) e = cc
asks-sound words (LockRequest m) e = tt
asks-sound words (LockForward m) e = tt
asks-sound words (LockGrant m) e = tt
asks-sound words (Arrive m) e = tt
asks-sound words (Depart m) e = tt
asks-sound words (Clean episode) e = tt
asks-sound words (Discard episode) e = tt
asks-sound words (ChangesRequest m) e = tt
asks-sound words (PageRequest page) e = tt

requests-sound : (words : ℕ) (letters : List Letter) → AreRequests letters → (l : Letter) → Contains letters l → IsSound words l.message
requests-sound words [] h l there = absurd (none_Contains l there)
requests-sound words (x ∷ letters) h l there =
    ⊎_elim
    (λ (is : x ≡ l). subst (λ (y : Letter). IsSound words y.message) is (asks-sound words x.message h.0))
    (λ later. requests-sound words letters h.1 l later)
    (cases_Contains x letters l there)

one-sound : (words : ℕ) (x l : Letter) → IsSound words x.message → Contains (x ∷ []) l → IsSound words l.message
one-sound words x l h there =
    ⊎_elim
    (λ (is : x ≡ l). subst (λ (y : Letter). IsSound words y.message) is h)
    (λ later. absurd (none_Contains l later))
    (cases_Contains x [] l there)

base-sound : (words page : ℕ) (bases : List (Option (List ℕ))) (values : List ℕ) → All (IsWholeBase words) bases
    → slice_index_or bases page None ≡ Some values → length values ≡ words
base-sound words page bases values h e =
    ⊎_elim
    (λ (lt : page < length bases). subst (IsWholeBase words) e (All-get_or (IsWholeBase words) bases page None lt h))
    (λ (le : length bases ≤ page). not_some (sym (get_or_past bases page None le) ∙ e))
    (cases_lt page (length bases))
  where
    not_some : None ≡ Some values → length values ≡ words
    not_some e = cc

replies-sound : (node : Node) → IsReachedNode node → (letters : List Letter) → Replies node letters → (l : Letter) → Contains letters l
    → IsSound (words_of node.options.size) l.message
replies-sound node r letters (brings_nothing h) l there = requests-sound (words_of node.options.size) letters h l there
replies-sound node r _ (brings_changes from m e) l there =
    let words : ℕ = words_of node.options.size in
    one-sound words (changes_reply_to node from m.page m.indices) l
    (All-map (λ (part : IndexedChangesRecord). AreInPage words part.changes) (own_part node m.page) m.indices
    (λ k d within.
    or_none-sized words (changes_at node.memory.store _) (λ changes is. known-sized words node.memory.store _ changes (sized_at node r) is)))
    there
replies-sound node r _ (brings_page from page values e is) l there =
    let words : ℕ = words_of node.options.size in
    one-sound words (page_reply_to from page values) l (base-sound words page node.memory.bases values (whole_at node r).bases is) there

-- ---- every run

module _ (program : Program) (nodes : ℕ) (options : OptionsRecord) where
  pub record AllSound (world : World) : Type 0 where
    pub each : (e : EnvelopeRecord) → Contains (pending world) e → IsSound (words_of options.size) e.message
    pub from : (e : EnvelopeRecord) → Contains (pending world) e → e.from < nodes

  sound-kept : KeptByReached program nodes options AllSound
  sound-kept world flight n l after input entry at come i r r' h =
      let shape : NodeShape (setting_of program nodes n) options (record { node = l.node; turns = turns_of l.log }) =
      shape_at program nodes options r.events world n l r.runs at in
      let told : Told l.node entry.turn =
      tells l.node input entry.turn after.node (by_rule l.node input entry.turn after.node i.turn_is) in
      let t : Turned l.node entry.turn after.node = subst (Turns l.node) i.turn_is (turns l.node input) in
      let sh : Shifted l.node entry.turn after.node = subst (ShiftedIf l.node) i.turn_is (shifts l.node input) in
      let all_from : AllFrom n entry.turn.out = subst (λ (s : Setting). AllFrom s.me entry.turn.out) (t.setting ∙ shape.setting) sh.from in
      let lt : n < nodes = subst (λ k. n < k) (run-whole program nodes options r.events world r.runs).count (slice_get_within world.nodes n l at) in
      let goes : Goes (new_of l.node input) (pending world) entry.turn.out (pending (with_turn world flight n entry after)) =
      pending-goes program nodes options world flight n l after input entry at come i (all_pending program nodes options r.events world r.runs) in
      record {
        each = λ e there. elim (in-now (new_of l.node input) (pending world) entry.turn.out _ e goes there) [
          | inl old ↦ h.each e old
          | inr new ↦
              subst (λ (o : OptionsRecord). IsSound (words_of o.size) e.message) shape.options
              (replies-sound l.node (reached program nodes options r.events world r.runs n l at) told.letters told.replies (letter_in e)
              (subst (λ ls. Contains ls (letter_in e)) told.out (among_letters entry.turn.out e new)))
        ];
        from = λ e there. elim (in-now (new_of l.node input) (pending world) entry.turn.out _ e goes there) [
          | inl old ↦ h.from e old
          | inr new ↦ subst (λ k. k < nodes) (sym (sent_from n entry.turn.out e all_from new)) lt
        ];
      }

  sound-fresh : AllSound (fresh_world program nodes options)
  sound-fresh = record { each = λ e there. absurd (none_Contains e there); from = λ e there. absurd (none_Contains e there) }

  pub all_sound : (events : List Event) (world : World) → run_of program nodes options events ≡ Some world → AllSound world
  all_sound events world e = by_reached program nodes options AllSound sound-kept events world sound-fresh e
