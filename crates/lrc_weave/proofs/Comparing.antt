-- What the comparison of logs and mailboxes keeps, from one entry to the next.
use Rattle.std.proofs.Common.{◌≡◌, ℕ, zero, suc, ◌+◌, ◌<◌, ◌↔◌, inl, inr, Bool, true, false, IsTrue, List, [], ◌∷◌, ◌++◌}
use Rattle.std.proofs.Common.{length, map, take, drop, refl, sym, ap, subst, ◌∙◌, arith}
use Rattle.std.specs.Prelude.{Option, Some, None, is_none, Result, Ok, Err, IfOk, slice_get, ◌&&◌}
use Rattle.std.specs.List.{list_all}
use Rattle.std.proofs.lemmas.Bool.{cases_eq, and_parts, ltb-true, lt-ltb}
use Rattle.std.proofs.lemmas.Option.{slice_get_within}
use Rattle.std.proofs.Math.Seq.{drop-length}
use Rattle.lrc_envelope.specs.Envelope.{EnvelopeRecord}
use Rattle.lrc_post.specs.declared.parcel.Wire.{Wire}
use Rattle.lrc_post.specs.declared.parcel.Wire.TheVariants.{Put, Took}
use Rattle.lrc_post.specs.Mailbox.{MailboxRecord}
use Rattle.lrc_protocol.specs.Run.{Input, run, taken, EntryRecord, last_stamp, Flying}
use Rattle.lrc_weave.specs.Matched.{message_of, message_if, message_at, takes_in, Takes, takes_none, takes_not, takes_one}
use Rattle.lrc_weave.specs.Compared.{is_by_node, AreByNodes, IsNextTake, IsTakenAs, taken_in, Leaves, IsLeft}
use Rattle.lrc_weave.proofs.Places.{taken_more, dropped_less, head_is, tail_is, false_true, nothing, some_same, none_some}
use Rattle.lrc_weave.proofs.Rising.{last_is}

-- ---- takes

one_left : (before stamp : ℕ) (input : Input) (old a b : List (Option Flying)) → Leaves before stamp input old a → Leaves before stamp input old b → a ≡ b
one_left before stamp run old a b x y = sym x ∙ y
one_left before stamp (taken e) old a b x y = tail_is x.0 y.0 a b (sym x.1 ∙ y.1)

taken_first : (before log : List EntryRecord) (entry : EntryRecord) (old : List (Option Flying)) → Takes before (entry ∷ log) old
    → (new : List (Option Flying)) × Leaves (last_stamp before) entry.stamp entry.input old new × Takes (before ++ entry ∷ []) log new
taken_first before log entry old (takes_not {messages = ms} is rest) =
    (ms, subst (λ i. Leaves (last_stamp before) entry.stamp i ms ms) (sym is) refl, rest)
taken_first before log entry old (takes_one {flying = f} {messages = ms} is stamp rest) =
    (ms, subst (λ i. Leaves (last_stamp before) entry.stamp i (Some f ∷ ms) ms) (sym is) (Some f, refl, (f, refl, refl, stamp)), rest)

first_taken : (before log : List EntryRecord) (entry : EntryRecord) (old new : List (Option Flying)) (input : Input) → entry.input ≡ input
    → Leaves (last_stamp before) entry.stamp input old new → Takes (before ++ entry ∷ []) log new → Takes before (entry ∷ log) old
first_taken before log entry old new run is same rest = takes_not is (subst (Takes (before ++ entry ∷ []) log) (sym same) rest)
first_taken before log entry old new (taken e) is (message, first, (flying, some, env, stamp)) rest =
    subst (λ ms. Takes before (entry ∷ log) ms) (sym (first ∙ ap (λ m. m ∷ new) some)) (takes_one (is ∙ ap taken (sym env)) stamp rest)

-- so many entries of a log took what was taken before the rest of a history
abbrev pub TakenSo : List Wire → List EntryRecord → ℕ → ℕ → List Wire → Type 0
TakenSo history log k before rest =
    (before ≡ last_stamp (take k log)) × (Takes (take k log) (drop k log) (taken_in history rest) ↔ Takes [] log (takes_in history))

module _ (history : List Wire) (log : List EntryRecord) (k before : ℕ) (rest new : List Wire) (entry : EntryRecord) (at : slice_get log k ≡ Some entry)
    (so : TakenSo history log k before rest) where
  abbrev Here : Type 0
  Here = Takes (take k log) (entry ∷ drop (k + 1) log) (taken_in history rest)

  from_here : Here → Takes [] log (takes_in history)
  from_here t = so.1.0 (subst (λ l. Takes (take k log) l (taken_in history rest)) (sym (dropped_less log k entry at)) t)

  to_here : Takes [] log (takes_in history) → Here
  to_here t = subst (λ l. Takes (take k log) l (taken_in history rest)) (dropped_less log k entry at) (so.1.1 t)

  pub so_step : IsLeft before entry.stamp entry.input (taken_in history rest) (taken_in history new) true → TakenSo history log (k + 1) entry.stamp new
  so_step left =
      let leaves : Leaves (last_stamp (take k log)) entry.stamp entry.input (taken_in history rest) (taken_in history new) =
      subst (λ b. Leaves b entry.stamp entry.input (taken_in history rest) (taken_in history new)) so.0 left in
      let more = taken_more log k entry at in (
        sym (ap last_stamp more ∙ last_is (take k log) entry),
        (
          λ t.
              from_here
              (first_taken (take k log) (drop (k + 1) log) entry (taken_in history rest) (taken_in history new) entry.input refl leaves
              (subst (λ b. Takes b (drop (k + 1) log) (taken_in history new)) more t)),
          λ t.
              let f = taken_first (take k log) (drop (k + 1) log) entry (taken_in history rest) (to_here t) in
              subst (λ b. Takes b (drop (k + 1) log) (taken_in history new)) (sym more)
              (subst (λ ms. Takes (take k log ++ entry ∷ []) (drop (k + 1) log) ms)
              (one_left (last_stamp (take k log)) entry.stamp entry.input (taken_in history rest) f.0 (taken_in history new) f.1 leaves)
              f.2),
        ),
      )

  pub so_not : IsLeft before entry.stamp entry.input (taken_in history rest) (taken_in history new) false → IsTrue false ↔ Takes [] log (takes_in history)
  so_not apart = (
    λ e. nothing e,
    λ t.
        let f = taken_first (take k log) (drop (k + 1) log) entry (taken_in history rest) (to_here t) in
        absurd (apart f.0 (subst (λ b. Leaves b entry.stamp entry.input (taken_in history rest) f.0) (sym so.0) f.1)),
  )

emptied : {before log : List EntryRecord} {messages : List (Option Flying)} → Takes before log messages → log ≡ [] → messages ≡ []
emptied takes_none e = refl
emptied (takes_not is rest) e = cc
emptied (takes_one is stamp rest) e = cc

not_empty : {X : Type 0} (xs : List X) (x : X) (ys : List X) → xs ≡ [] → xs ≡ x ∷ ys → ⊥
not_empty xs x ys a b = cc

pub so_end : (history : List Wire) (log : List EntryRecord) (k before : ℕ) (rest new : List Wire) → TakenSo history log k before rest → k ≡ length log
    → (o : Option ℕ) → IsNextTake rest new o → IsTrue (is_none o) ↔ Takes [] log (takes_in history)
so_end history log k before rest new so all None next = (
  λ yes.
      so.1.0
      (subst (λ l. Takes (take k log) l (taken_in history rest)) (sym (ap (λ n. drop n log) all ∙ drop-length log))
      (subst (λ ms. Takes (take k log) [] ms) (sym (ap (map (message_at history)) next)) takes_none)),
  λ t. refl,
)
so_end history log k before rest new so all (Some place) next = (
  λ e. nothing e,
  λ t.
      absurd (not_empty (taken_in history rest) (message_at history place) (taken_in history new)
      (emptied (so.1.1 t) (ap (λ n. drop n log) all ∙ drop-length log))
      (ap (map (message_at history)) next)),
)

-- ---- one take

pub left_if : (history old new : List Wire) (place before stamp : ℕ) (e : EnvelopeRecord) (wire : Wire) → slice_get history place ≡ Some wire
    → IsNextTake old new (Some place) → (E : Type 0) (result : Result Bool E)
    → IfOk result (λ is. IsTrue is ↔ IsTakenAs (message_of wire) e before stamp)
    → IfOk result (λ is. IsLeft before stamp (taken e) (taken_in history old) (taken_in history new) is)
left_if history old new place before stamp e wire at next E (Ok true) so = (
  message_of wire,
  ap (map (message_at history)) next ∙ ap (λ o. message_if o ∷ taken_in history new) at,
  so.0 refl,
)
left_if history old new place before stamp e wire at next E (Ok false) so = λ left l.
    false_true (so.1 (subst (λ m. IsTakenAs m e before stamp)
    (head_is l.0 (message_of wire) left (taken_in history new)
    (sym l.1 ∙ ap (map (message_at history)) next ∙ ap (λ o. message_if o ∷ taken_in history new) at)) l.2))
left_if history old new place before stamp e wire at next E (Err fault) so = so

-- ---- all of a list, and all puts

module _ {X : Type 0} (P : ℕ → X → Type 0) (xs : List X) where
  abbrev pub UpTo : ℕ → Type 0
  UpTo k = (n : ℕ) (x : X) → n < k → slice_get xs n ≡ Some x → P n x

  pub up_to_more : (k : ℕ) (x : X) → UpTo k → slice_get xs k ≡ Some x → P k x → UpTo (k + 1)
  up_to_more k x all at here = λ n y lt at_n. elim (cases_eq k n) [
    | inl e ↦ subst (λ m. P m y) e (subst (λ z. P k z) (some_same (slice_get xs k) x y at (subst (λ m. slice_get xs m ≡ Some y) (sym e) at_n)) here)
    | inr ne ↦ all n y (omega (arith, lt, ne)) at_n
  ]

  pub up_to_all : (k : ℕ) → k ≡ length xs → UpTo k → (n : ℕ) (x : X) → slice_get xs n ≡ Some x → P n x
  up_to_all k e all = λ n x at. all n x (omega (arith, e, slice_get_within xs n x at)) at

-- each put by one of so many nodes
pub by_nodes : (nodes : ℕ) (history : List Wire) → list_all (is_by_node nodes) history ≡ true → AreByNodes nodes history
by_nodes nodes [] all = λ place from to stamp bytes at. cc
by_nodes nodes (w ∷ history) all =
    let both = and_parts (is_by_node nodes w) (list_all (is_by_node nodes) history) all in
    λ place from to stamp bytes at. go w history both.0 (by_nodes nodes history both.1) place from to stamp bytes at
  where
    go : (w : Wire) (history : List Wire) → is_by_node nodes w ≡ true → AreByNodes nodes history → AreByNodes nodes (w ∷ history)
    go w history here rest zero from to stamp bytes at =
        let same : w ≡ Put from to stamp bytes = cc in ltb-true from nodes (ap (is_by_node nodes) (sym same) ∙ here)
    go w history here rest (suc place) from to stamp bytes at = rest place from to stamp bytes at

pub all_by_nodes : (nodes : ℕ) (history : List Wire) → AreByNodes nodes history → list_all (is_by_node nodes) history ≡ true
all_by_nodes nodes [] all = refl
all_by_nodes nodes (w ∷ history) all =
    ap (λ b. b && list_all (is_by_node nodes) history) (here w (λ from to stamp bytes is. all 0 from to stamp bytes (ap Some is)))
    ∙ all_by_nodes nodes history (λ place from to stamp bytes at. all (suc place) from to stamp bytes at)
  where
    here : (w : Wire) → ((from to stamp : ℕ) (bytes : List ℕ) → w ≡ Put from to stamp bytes → from < nodes) → is_by_node nodes w ≡ true
    here (Put from to stamp bytes) is = lt-ltb from nodes (is from to stamp bytes refl)
    here (Took me place) is = refl

-- the same of a turn with this stamp and input
pub turn_is : (before came stamp : ℕ) (given input : Input) (old new : List (Option Flying)) → came ≡ stamp → given ≡ input → (E : Type 0)
    (result : Result Bool E) → IfOk result (λ is. IsLeft before came given old new is) → IfOk result (λ is. IsLeft before stamp input old new is)
turn_is before came stamp given input old new stamp_is input_is E result so =
    subst (λ i. IfOk result (λ is. IsLeft before stamp i old new is)) input_is
    (subst (λ n. IfOk result (λ is. IsLeft before n given old new is)) stamp_is so)

-- each put of each mailbox by one of so many nodes
abbrev by_nodes_in : ℕ → MailboxRecord → Bool
by_nodes_in nodes mailbox = list_all (is_by_node nodes) mailbox.history

pub all_mailboxes : (nodes : ℕ) (wires : List MailboxRecord) → list_all (by_nodes_in nodes) wires ≡ true → (owner : ℕ) (mailbox : MailboxRecord)
    → slice_get wires owner ≡ Some mailbox → AreByNodes nodes mailbox.history
all_mailboxes nodes [] all owner mailbox at = absurd (none_some (slice_get [] owner) mailbox refl at)
all_mailboxes nodes (w ∷ wires) all owner mailbox at =
    let both = and_parts (by_nodes_in nodes w) (list_all (by_nodes_in nodes) wires) all in
    go owner both.0 (all_mailboxes nodes wires both.1) at
  where
    go : (owner : ℕ) → by_nodes_in nodes w ≡ true
        → ((o : ℕ) (m : MailboxRecord) → slice_get wires o ≡ Some m → AreByNodes nodes m.history)
        → slice_get (w ∷ wires) owner ≡ Some mailbox → AreByNodes nodes mailbox.history
    go zero here rest at = let same : w ≡ mailbox = cc in subst (λ m. AreByNodes nodes m.history) same (by_nodes nodes w.history here)
    go (suc o) here rest at = rest o mailbox at

pub mailboxes_all : (nodes : ℕ) (wires : List MailboxRecord)
    → ((owner : ℕ) (mailbox : MailboxRecord) → slice_get wires owner ≡ Some mailbox → AreByNodes nodes mailbox.history)
    → list_all (by_nodes_in nodes) wires ≡ true
mailboxes_all nodes [] all = refl
mailboxes_all nodes (w ∷ wires) all =
    ap (λ b. b && list_all (by_nodes_in nodes) wires) (all_by_nodes nodes w.history (all 0 w refl))
    ∙ mailboxes_all nodes wires (λ owner mailbox at. all (suc owner) mailbox at)
