-- The loops of the comparison, over what the code reads.
use Rattle.std.proofs.Common.{◌≡◌, ℕ, ◌+◌, ◌<◌, ◌↔◌, Bool, true, false, IsTrue, List, [], ◌∷◌, length, map, refl, sym, ap, subst, ◌∙◌, arith, zero, suc}
use Rattle.std.specs.List.{list_all}
use Rattle.std.specs.Prelude.{Option, Some, Result, Ok, Err, IfOk, slice_get, slice_index_or}
use Rattle.std.proofs.lemmas.List.{length-map}
use Rattle.std.proofs.lemmas.Option.{get_or_from_slice_get, slice_get_within}
use Rattle.lrc_post.specs.declared.parcel.Wire.{Wire}
use Rattle.lrc_post.specs.Mailbox.{MailboxRecord}
use Rattle.lrc_protocol.specs.Run.{EntryRecord, Flying}
use Rattle.lrc_weave.specs.Logs.{sent_to}
use Rattle.lrc_weave.specs.Matched.{message_of, puts_by, takes_in, Takes, AreAlike, AreMatched}
use Rattle.lrc_weave.specs.Compared.{is_by_node, AreByNodes, AreOwn, AreAllOwn, AreSent, line_at, puts_by_each, taken_in, IsLeft}
use Rattle.lrc_weave.proofs.Members.{in_map}
use Rattle.lrc_weave.proofs.Places.{head_is, tail_is, nothing, read, some_same}
use Rattle.lrc_weave.proofs.Lining.{puts_at, puts_count}
use Rattle.lrc_weave.proofs.Comparing.{TakenSo, so_step, so_not, UpTo, up_to_more, up_to_all, all_mailboxes, mailboxes_all}

-- ---- the takes of a log

module _ (history : List Wire) (log : List EntryRecord) (k before : ℕ) (rest new : List Wire) (entry : EntryRecord) (b : Bool) (within : k < length log)
    (is : entry ≡ slice_index_or log k entry) (so : TakenSo history log k before rest) (old later : List Wire) (old_is : old ≡ history)
    (later_is : later ≡ history) (this : IsLeft before entry.stamp entry.input (taken_in old rest) (taken_in later new) b) where
  left : (c : Bool) → b ≡ c → IsLeft before entry.stamp entry.input (taken_in history rest) (taken_in history new) c
  left c e =
      subst (λ h. IsLeft before entry.stamp entry.input (taken_in h rest) (taken_in history new) c) old_is
      (subst (λ h. IsLeft before entry.stamp entry.input (taken_in old rest) (taken_in h new) c) later_is
      (subst (IsLeft before entry.stamp entry.input (taken_in old rest) (taken_in later new)) e this))

  pub takes_more : b ≡ true → (stamp : ℕ) → stamp ≡ entry.stamp → TakenSo history log (k + 1) stamp new
  takes_more is_so stamp stamp_is =
      subst (λ n. TakenSo history log (k + 1) n new) (sym stamp_is)
      (so_step history log k before rest new entry (read log k entry within is) so (left true is_so))

  pub takes_not : b ≡ false → IsTrue false ↔ Takes [] log (takes_in history)
  takes_not none = so_not history log k before rest new entry (read log k entry within is) so (left false none)

-- ---- the nodes

unlike : (b : Bool) (P : Type 0) → IsTrue b ↔ P → b ≡ false → P → ⊥
unlike b P same none p = let yes : b ≡ true = same.1 p in cc

-- a node's log tells of what the node put into each mailbox, and of what it took from its own
abbrev pub NodeSo : List MailboxRecord → ℕ → List EntryRecord → Type 0
NodeSo wires node log =
    ((owner : ℕ) (mailbox : MailboxRecord) → slice_get wires owner ≡ Some mailbox → puts_by node mailbox.history ≡ map Some (sent_to owner log))
    × ((mailbox : MailboxRecord) → slice_get wires node ≡ Some mailbox → Takes [] log (takes_in mailbox.history))

map_twice : {X Y Z : Type 0} (g : Y → Z) (f : X → Y) (xs : List X) → map g (map f xs) ≡ map (λ x. g (f x)) xs
map_twice g f [] = refl
map_twice g f (x ∷ xs) = ap (λ zs. g (f x) ∷ zs) (map_twice g f xs)

-- a node's lines of all that was put
module _ {V W X : Type 0} (each : V → List (List Wire)) (line_of : W → List X) (f : X → Wire) (puts : List V) (lines : List W) (wires : List MailboxRecord)
    (nodes node : ℕ) (within : node < nodes) (all : map each puts ≡ map (λ mailbox. puts_by_each nodes mailbox.history) wires)
    (own : map (λ line. map f (line_of line)) lines ≡ map (λ lines. slice_index_or (each lines) node []) puts) where
  pub own_lines : map (λ line. map (λ x. message_of (f x)) (line_of line)) lines ≡ map (λ mailbox. puts_by node mailbox.history) wires
  own_lines =
      apart lines
      ∙ ap (map (map message_of)) (own ∙ sym (map_twice (λ ls. slice_index_or ls node []) each puts) ∙ ap (map (λ ls. slice_index_or ls node [])) all)
      ∙ map_twice (map message_of) (λ ls. slice_index_or ls node []) (map (λ mailbox. puts_by_each nodes mailbox.history) wires)
      ∙ here wires
    where
      apart : (ws : List W)
          → map (λ line. map (λ x. message_of (f x)) (line_of line)) ws ≡ map (map message_of) (map (λ line. map f (line_of line)) ws)
      apart [] = refl
      apart (w ∷ ws) =
          ap (λ ms. ms ∷ map (λ line. map (λ x. message_of (f x)) (line_of line)) ws) (sym (map_twice message_of f (line_of w)))
          ∙ ap (λ rest. map message_of (map f (line_of w)) ∷ rest) (apart ws)

      here : (ms : List MailboxRecord)
          → map (λ ls. map message_of (slice_index_or ls node [])) (map (λ mailbox. puts_by_each nodes mailbox.history) ms)
          ≡ map (λ mailbox. puts_by node mailbox.history) ms
      here [] = refl
      here (m ∷ ms) =
          ap (λ ls. map message_of ls ∷ map (λ ls. map message_of (slice_index_or ls node [])) (map (λ mailbox. puts_by_each nodes mailbox.history) ms))
          (puts_at nodes node m.history within)
          ∙ ap (λ rest. puts_by node m.history ∷ rest) (here ms)

-- each node has a line in each mailbox
module _ {V W : Type 0} (items : V → List W) (g : W → List Wire) (nodes : ℕ) where
  pub each_long : (puts : List V) (wires : List MailboxRecord)
      → map (λ own. map g (items own)) puts ≡ map (λ mailbox. puts_by_each nodes mailbox.history) wires
      → (k : ℕ) (d : V) → k < length puts → length (items (slice_index_or puts k d)) ≡ nodes
  each_long [] wires same k d within = absurd (omega (arith, within))
  each_long (p ∷ puts) [] same k d within = cc
  each_long (p ∷ puts) (w ∷ wires) same zero d within =
      sym (length-map (items p) g)
      ∙ ap length
      (head_is (map g (items p)) (puts_by_each nodes w.history) (map (λ own. map g (items own)) puts)
      (map (λ mailbox. puts_by_each nodes mailbox.history) wires) same)
      ∙ puts_count nodes w.history
  each_long (p ∷ puts) (w ∷ wires) same (suc k) d within =
      each_long puts wires
      (tail_is (map g (items p)) (puts_by_each nodes w.history) (map (λ own. map g (items own)) puts)
      (map (λ mailbox. puts_by_each nodes mailbox.history) wires) same)
      k d (omega (arith, within))

there : {X : Type 0} (xs : List X) (n : ℕ) → n < length xs → (x : X) × (slice_get xs n ≡ Some x)
there [] n within = absurd (omega (arith, within))
there (x ∷ xs) zero within = (x, refl)
there (x ∷ xs) (suc n) within = there xs n (omega (arith, within))

module _ (wires : List MailboxRecord) (node : ℕ) (log : List EntryRecord) (lines : List (List (Option Flying)))
    (are : lines ≡ map (λ mailbox. puts_by node mailbox.history) wires) where
  line_is : (owner : ℕ) (mailbox : MailboxRecord) → slice_get wires owner ≡ Some mailbox → line_at lines owner ≡ puts_by node mailbox.history
  line_is owner mailbox at =
      ap (λ ls. line_at ls owner) are
      ∙ get_or_from_slice_get (map (λ mailbox. puts_by node mailbox.history) wires) owner (puts_by node mailbox.history) []
      (in_map (λ mailbox. puts_by node mailbox.history) wires mailbox owner at)

  count : length lines ≡ length wires
  count = ap length are ∙ length-map wires (λ mailbox. puts_by node mailbox.history)

  module _ (mailbox : MailboxRecord) (history : List Wire) (at : slice_get wires node ≡ Some mailbox) (history_is : history ≡ mailbox.history) where
    so_of : AreSent log lines × Takes [] log (takes_in history) → NodeSo wires node log
    so_of all = (
      λ owner other there. sym (line_is owner other there)
          ∙ all.0 owner (subst (λ n. owner < n) (sym count) (slice_get_within wires owner other there)),
      λ other there.
          subst (λ m. Takes [] log (takes_in m.history)) (some_same (slice_get wires node) mailbox other at there)
          (subst (λ h. Takes [] log (takes_in h)) history_is all.1),
    )

    of_so : NodeSo wires node log → AreSent log lines × Takes [] log (takes_in history)
    of_so so = (
      λ owner within.
          let m = there wires owner (subst (λ n. owner < n) count within) in
          line_is owner m.0 m.1 ∙ so.0 owner m.0 m.1,
      subst (λ h. Takes [] log (takes_in h)) (sym history_is) (so.1 mailbox at),
    )

-- ---- the mailboxes

-- what the mailboxes keep is by the logs
alike_each : (logs : List (List EntryRecord)) (wires : List MailboxRecord) → AreAlike logs wires → (node : ℕ) (log : List EntryRecord)
    → slice_get logs node ≡ Some log → NodeSo wires node log
alike_each logs wires all node log at = (
  λ owner mailbox there. (all.each owner mailbox there).puts node log at,
  λ mailbox there. (all.each node mailbox there).takes log at,
)

module _ {V : Type 0} (f : V → List EntryRecord) (logs : List V) (wires : List MailboxRecord) where
  pub not_by_nodes : (b : Bool) → b ≡ list_all (λ mailbox. list_all (is_by_node (length logs)) mailbox.history) wires → b ≡ false
      → IsTrue false ↔ AreAlike (map f logs) wires
  not_by_nodes b is none = (
    λ e. nothing e,
    λ all.
        absurd
        (let yes : b ≡ true =
        is
        ∙ mailboxes_all (length logs) wires (λ owner mailbox at.
        subst (λ n. AreByNodes n mailbox.history) (length-map logs f) (all.each owner mailbox at).by_nodes) in
        cc),
  )

  module _ (k : ℕ) (v : V) (log : List EntryRecord) (mailbox : MailboxRecord) (history : List Wire) (lines : List (List (Option Flying))) (b : Bool)
      (log_there : k < length logs) (v_is : v ≡ slice_index_or logs k v) (log_is : log ≡ f v) (mailbox_there : k < length wires)
      (mailbox_is : mailbox ≡ slice_index_or wires k mailbox) (history_is : history ≡ mailbox.history)
      (are : lines ≡ map (λ mailbox. puts_by k mailbox.history) wires)
      (same : IsTrue b ↔ (AreSent log lines × Takes [] log (takes_in history))) where
    log_at : slice_get (map f logs) k ≡ Some log
    log_at = in_map f logs v k (read logs k v log_there v_is) ∙ ap Some (sym log_is)

    mailbox_at : slice_get wires k ≡ Some mailbox
    mailbox_at = read wires k mailbox mailbox_there mailbox_is

    pub node_not : b ≡ false → IsTrue false ↔ AreAlike (map f logs) wires
    node_not none = (
      λ e. nothing e,
      λ all.
          absurd (unlike b (AreSent log lines × Takes [] log (takes_in history)) same none
          (of_so wires k log lines are mailbox history mailbox_at history_is (alike_each (map f logs) wires all k log log_at))),
    )

    pub node_more : b ≡ true → UpTo (NodeSo wires) (map f logs) k → UpTo (NodeSo wires) (map f logs) (k + 1)
    node_more is_so before =
        up_to_more (NodeSo wires) (map f logs) k log before log_at
        (so_of wires k log lines are mailbox history mailbox_at history_is (same.0 is_so))

  pub nodes_end : (b : Bool) → b ≡ list_all (λ mailbox. list_all (is_by_node (length logs)) mailbox.history) wires → b ≡ true → (k : ℕ) → k ≡ length logs
      → UpTo (NodeSo wires) (map f logs) k → IsTrue true ↔ AreAlike (map f logs) wires
  nodes_end b is sure k e before =
      let each = up_to_all (NodeSo wires) (map f logs) k (e ∙ sym (length-map logs f)) before in (
        λ y. record {
          each = λ owner mailbox at. record {
            by_nodes =
                subst (λ n. AreByNodes n mailbox.history) (sym (length-map logs f))
                (all_mailboxes (length logs) wires (sym is ∙ sure) owner mailbox at);
            puts = λ node log there. (each node log there).0 owner mailbox at;
            takes = λ log there. (each owner log there).1 mailbox at;
          };
        },
        λ all. refl,
      )

-- ---- what each node did to its own mailbox

-- in the mailbox of a node its takes and its puts stand as its log has them
abbrev pub OwnSo : List MailboxRecord → ℕ → List EntryRecord → Type 0
OwnSo wires node log = (mailbox : MailboxRecord) → slice_get wires node ≡ Some mailbox → AreOwn node log mailbox.history

module _ {V : Type 0} (f : V → List EntryRecord) (logs : List V) (wires : List MailboxRecord) where
  module _ (k : ℕ) (v : V) (log : List EntryRecord) (mailbox : MailboxRecord) (history : List Wire) (b : Bool)
      (log_there : k < length logs) (v_is : v ≡ slice_index_or logs k v) (log_is : log ≡ f v) (mailbox_there : k < length wires)
      (mailbox_is : mailbox ≡ slice_index_or wires k mailbox) (history_is : history ≡ mailbox.history) (same : IsTrue b ↔ AreOwn k log history) where
    own_log_at : slice_get (map f logs) k ≡ Some log
    own_log_at = in_map f logs v k (read logs k v log_there v_is) ∙ ap Some (sym log_is)

    own_mailbox_at : slice_get wires k ≡ Some mailbox
    own_mailbox_at = read wires k mailbox mailbox_there mailbox_is

    pub own_not : b ≡ false → IsTrue false ↔ AreAllOwn (map f logs) wires
    own_not none = (
      λ e. nothing e,
      λ all. absurd (unlike b (AreOwn k log history) same none (subst (AreOwn k log) (sym history_is) (all k log mailbox own_log_at own_mailbox_at))),
    )

    pub own_more : b ≡ true → UpTo (OwnSo wires) (map f logs) k → UpTo (OwnSo wires) (map f logs) (k + 1)
    own_more is_so before =
        up_to_more (OwnSo wires) (map f logs) k log before own_log_at (λ other at.
        subst (λ m. AreOwn k log m.history) (some_same (slice_get wires k) mailbox other own_mailbox_at at)
        (subst (AreOwn k log) history_is (same.0 is_so)))

  pub own_end : (k : ℕ) → k ≡ length logs → UpTo (OwnSo wires) (map f logs) k → IsTrue true ↔ AreAllOwn (map f logs) wires
  own_end k e before =
      let each = up_to_all (OwnSo wires) (map f logs) k (e ∙ sym (length-map logs f)) before in
      (λ y. λ owner log mailbox at there. each owner log at mailbox there, λ all. refl)

-- logs and mailboxes match where they tell of the same messages and each node did so to its own
pub matched_of : (logs : List (List EntryRecord)) (wires : List MailboxRecord) → AreAlike logs wires → AreAllOwn logs wires → AreMatched logs wires
matched_of logs wires alike own = record {
  each = λ owner mailbox at. record { alike = alike.each owner mailbox at; own = λ log there. own owner log mailbox there at };
}

pub alike_of : (logs : List (List EntryRecord)) (wires : List MailboxRecord) → AreMatched logs wires → AreAlike logs wires
alike_of logs wires matched = record { each = λ owner mailbox at. (matched.each owner mailbox at).alike }

pub own_where : (logs : List (List EntryRecord)) (wires : List MailboxRecord) → AreMatched logs wires → AreAllOwn logs wires
own_where logs wires matched = λ owner log mailbox there at. (matched.each owner mailbox at).own log there

-- what is alike matches where each node did so to its own mailbox
pub matched_if : {A E : Type 0} (logs : List (List EntryRecord)) (wires : List MailboxRecord) (r : Result A E) → AreAllOwn logs wires
    → IfOk r (λ run. AreAlike logs wires) → IfOk r (λ run. AreMatched logs wires)
matched_if logs wires (Ok run) own alike = matched_of logs wires alike own
matched_if logs wires (Err fault) own alike = tt

-- and nothing matches where one of them did not
pub unmatched_by : (logs : List (List EntryRecord)) (wires : List MailboxRecord) (b : Bool) → IsTrue b ↔ AreAllOwn logs wires → b ≡ false
    → AreMatched logs wires → ⊥
unmatched_by logs wires b same none matched = unlike b (AreAllOwn logs wires) same none (own_where logs wires matched)
