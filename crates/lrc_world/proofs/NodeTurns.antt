-- One node's turn, in the list of all nodes.
use Rattle.std.proofs.Common.{◌≡◌, ◌∙◌, ◌⊎◌, ⊎_elim, ℕ, zero, suc, ◌<◌, ◌≤◌, arith, map, List, [], ◌∷◌, ◌++◌, Option}
use Rattle.std.proofs.Common.{Some, None, Result, Ok, Err, refl, sym, ap, subst, length}
use Rattle.std.specs.Prelude.{slice_get, slice_set, slice_index_or, option_map}
use Rattle.std.proofs.lemmas.List.{set-get_or}
use Rattle.std.proofs.lemmas.Option.{get_or_from_slice_get, same_Some, slice_get-get_or, slice_get_past}
use Rattle.lrc_protocol.specs.Node.{Node}
use Rattle.lrc_protocol.specs.Run.{Input, EntryRecord, Logged, logs}
use Rattle.lrc_node.specs.declared.fault.NodeFault.{NodeFault}
use Rattle.lrc_node.specs.declared.fault.NodeFault.TheVariants.{Failed, NotReady, Unexpected, Worn, NoMemory}
use Rattle.lrc_trace.specs.Trace.{TraceRecord}
use Rattle.lrc_node.specs.Logged.{LoggedNode, TracedLog, newest, sound, Logs, LogsTo, NotesIn}
use Rattle.lrc_world.specs.declared.keep.Keep.{Keep}
use Rattle.lrc_world.specs.declared.keep.Keep.TheVariants.{All, Newest, Turns}
use Rattle.lrc_world.specs.World.{TurnsBy, TurnsTo, after_turn, trimmed}
use Rattle.lrc_node.proofs.Leading.{entry_of}
use Rattle.lrc_world.proofs.Lists.{map-get, same_length}

pub not_none : {X : Type 0} (xs : List X) (n : ℕ) → n < length xs → slice_get xs n ≡ None → ⊥
not_none [] n within none = omega (arith, within)
not_none (x ∷ xs) zero within none = cc
not_none (x ∷ xs) (suc n) within none = not_none xs n (omega (arith, within)) none

same_kept : (a b : TracedLog) → a.logged ≡ b.logged → a.trace ≡ b.trace → a ≡ b
same_kept a b logged trace =
    ap (λ (l : LoggedNode). let t : TracedLog = record { logged = l; trace = a.trace } in t) logged
    ∙ ap (λ (x : TraceRecord). let t : TracedLog = record { logged = b.logged; trace = x } in t) trace

same_logged : (a b : LoggedNode) → a.node ≡ b.node → a.log ≡ b.log → a ≡ b
same_logged a b node log =
    ap (λ (n : Option Node). let l : LoggedNode = record { node = n; log = a.log } in l) node
    ∙ ap (λ (g : List EntryRecord). let l : LoggedNode = record { node = b.node; log = g } in l) log

-- what is not changed
pub unchanged : (items : List TracedLog) (n : ℕ) (x new : TracedLog) → slice_get items n ≡ Some x → new ≡ x → slice_set items n new ≡ items
unchanged items n x new there same =
    ap (slice_set items n) (same ∙ sym (get_or_from_slice_get items n x x there)) ∙ set-get_or items n x

turned_by : (items : List TracedLog) (n : ℕ) (x new : TracedLog) (input : Input) (came : ℕ) (l : Logged) → slice_get items n ≡ Some x
    → x.logged ≡ sound l → (result : Result (Unit {0}) NodeFault) → Logs l (logs l input came) new.logged result → NotesIn x new result
    → TurnsBy items (slice_set items n new) n input came (Some l) result
turned_by items n x new input came l there is (Ok done) h notes =
    let log : new.logged.log ≡ x.logged.log ++ h.0 ∷ [] =
    ap (λ (m : LoggedNode). m.log) h.3 ∙ (entry_of l input came h.0 h.1 h.2).log_is
    ∙ ap (λ (m : LoggedNode). m.log ++ h.0 ∷ []) (sym is) in
    record {
      entry = h.0;
      after = h.1;
      before = x;
      turn = h.2;
      stood = there;
      nodes = ap (slice_set items n)
          (same_kept new (after_turn h.0 h.1 x) (same_logged new.logged (after_turn h.0 h.1 x).logged (ap (λ (m : LoggedNode). m.node) h.3) log)
          (notes h.1.node h.0 (ap (λ (m : LoggedNode). m.node) h.3) log));
    }
turned_by items n x new input came l there is (Err NotReady) h notes = (h.0, unchanged items n x new there (same_kept new x (h.1 ∙ sym is) notes))
turned_by items n x new input came l there is (Err Unexpected) h notes = (h.0, unchanged items n x new there (same_kept new x (h.1 ∙ sym is) notes))
turned_by items n x new input came l there is (Err Worn) h notes = h
turned_by items n x new input came l there is (Err NoMemory) h notes = tt
turned_by items n x new input came l there is (Err Failed) h notes = h

-- the node at a place, as the run has it
pub stands_at : (items : List TracedLog) (nodes : List Logged) (n : ℕ) (x : TracedLog) → map (λ (t : TracedLog). t.logged) items ≡ map sound nodes
    → n < length items → x ≡ slice_index_or items n x → (l : Logged) × (slice_get nodes n ≡ Some l) × (x.logged ≡ sound l)
stands_at items nodes n x e within is = go (slice_get nodes n) refl
  where
    there : slice_get items n ≡ Some x
    there = slice_get-get_or items n x within ∙ ap Some (sym is)

    seen : Some x.logged ≡ option_map sound (slice_get nodes n)
    seen = sym (map-get (λ (t : TracedLog). t.logged) items n ∙ ap (option_map (λ (t : TracedLog). t.logged)) there)
        ∙ ap (λ xs. slice_get xs n) e ∙ map-get sound nodes n

    go : (o : Option Logged) → slice_get nodes n ≡ o → (l : Logged) × (slice_get nodes n ≡ Some l) × (x.logged ≡ sound l)
    go None none = let past : Some x.logged ≡ None = seen ∙ ap (option_map sound) none in cc
    go (Some l) at = (l, at, same_Some x.logged (sound l) (seen ∙ ap (option_map sound) at))

-- a node that is there makes its turn
pub turned : (items : List TracedLog) (n : ℕ) (x new : TracedLog) (input : Input) (came : ℕ) (result : Result (Unit {0}) NodeFault)
    → n < length items → x ≡ slice_index_or items n x → LogsTo x.logged input came new.logged result → NotesIn x new result
    → TurnsTo items (slice_set items n new) n input came result
turned items n x new input came result within is logs_to notes nodes e =
    let at = stands_at items nodes n x e within is in
    let there : slice_get items n ≡ Some x = slice_get-get_or items n x within ∙ ap Some (sym is) in
    subst (λ o. TurnsBy items (slice_set items n new) n input came o result) (sym at.1)
    (turned_by items n x new input came at.0 there at.2 result (logs_to at.0 at.2) notes)

-- one that is not there makes none
pub unturned : (items : List TracedLog) (n : ℕ) (input : Input) (came : ℕ) → length items ≤ n → TurnsTo items items n input came (Err NotReady)
unturned items n input came past nodes e =
    let few : length nodes ≤ n = omega (arith, same_length (λ (t : TracedLog). t.logged) sound items nodes e) in
    subst (λ o. TurnsBy items items n input came o (Err NotReady)) (sym (slice_get_past nodes n few)) refl

-- ---- what is forgotten

-- all is kept
pub keeps_all : (items : List TracedLog) (n : ℕ) (keep : Keep) → (keep ≡ All) ⊎ (keep ≡ Turns) → (l : TracedLog) → slice_get items n ≡ Some l
    → items ≡ slice_set items n (trimmed keep l)
keeps_all items n keep is l there =
    let whole : trimmed keep l ≡ l = ⊎_elim (λ e. ap (λ k. trimmed k l) e) (λ e. ap (λ k. trimmed k l) e) is in
    sym (unchanged items n l (trimmed keep l) there whole)

-- the newest turn is
pub keeps_newest : (items : List TracedLog) (n : ℕ) (x new : TracedLog) (keep : Keep) → keep ≡ Newest → n < length items → x ≡ slice_index_or items n x
    → new.logged ≡ record { node = x.logged.node; log = newest x.logged.log } → new.trace ≡ x.trace
    → (l : TracedLog) → slice_get items n ≡ Some l → slice_set items n new ≡ slice_set items n (trimmed keep l)
keeps_newest items n x new keep is within at logged trace l there =
    let stands : slice_get items n ≡ Some x = slice_get-get_or items n x within ∙ ap Some (sym at) in
    let same : x ≡ l = same_Some x l (sym stands ∙ there) in
    ap (slice_set items n) (same_kept new (trimmed Newest x) logged trace ∙ ap (trimmed Newest) same ∙ ap (λ k. trimmed k l) (sym is))

-- where there is no node, there is nothing to forget
pub keeps_none : (items : List TracedLog) (n : ℕ) (keep : Keep) → length items ≤ n → (l : TracedLog) → slice_get items n ≡ Some l
    → items ≡ slice_set items n (trimmed keep l)
keeps_none items n keep past l there = let none : None ≡ Some l = sym (slice_get_past items n past) ∙ there in cc
