-- What an interval of a node wrote to a word, from the node's own deeds, one after another.
use Rattle.std.proofs.Common.{◌≡◌, ℕ, ◌+◌, ◌<◌, ◌≤◌, List, [], ◌∷◌, ◌++◌, Bool, true, false, cond, length, refl}
use Rattle.std.proofs.Common.{sym, ap, ◌∙◌, inl, inr, arith, append_assoc, length-append}
use Rattle.std.specs.Prelude.{Option, Some, None, ◌==◌, ◌&&◌, map, filter, fold, if◌then◌else◌}
use Rattle.std.specs.List.{enumerate_from}
use Rattle.std.proofs.Math.Seq.{take-append_seam}
use Rattle.std.proofs.lemmas.Bool.{cases_eq, eq-eqb, ne_eqb}
use Rattle.std.proofs.lemmas.List.Sums.{fold-append}
use Rattle.lrc_trace.specs.declared.act.Act.{Act}
use Rattle.lrc_trace.specs.declared.act.Deed.{Deed}
use Rattle.lrc_trace.specs.declared.act.Deed.TheVariants.{Quiet, Print, Read, Write, Acquire, Release, Arrive, Depart, Trap, End}
use Rattle.lrc_trace.specs.Interval.{closes, interval_at}
use Rattle.lrc_trace.specs.Run.{count_of}
use Rattle.lrc_exec.specs.Follows.{deeds_of}
use Rattle.lrc_order_laws.specs.Counts.{count}
use Rattle.lrc_node_laws.specs.Opened.{after_deed, open_writes}
use Rattle.lrc_reading_laws.specs.Written.{written_to, write_in, newer, last_write}

-- the interval that follows a deed, and what is found of the word once the deed is made in interval k
abbrev index_after : ℕ → Deed → ℕ
index_after k deed = k + cond (closes deed) 1 0

abbrev found_after : ℕ → ℕ → ℕ → Option ℕ → Deed → Option ℕ
found_after index word k found deed = newer found (if k == index then written_to word deed else None)

-- the last of these deeds that writes the word in the interval with this index, where the first is in interval k; or else what
-- was found before
abbrev pub scan : ℕ → ℕ → ℕ → Option ℕ → List Deed → Option ℕ
scan index word k found [] = found
scan index word k found (deed ∷ deeds) = scan index word (index_after k deed) (found_after index word k found deed) deeds

-- from a node's first deed on
abbrev pub written_in : List Deed → ℕ → ℕ → Option ℕ
written_in deeds index word = scan index word 1 None deeds

-- ---- acts and deeds

deeds_by : (b : Bool) (a : Act) (acts : List Act) → map (λ (a : Act). a.deed) (cond b (a ∷ acts) acts)
    ≡ cond b (a.deed ∷ map (λ (a : Act). a.deed) acts) (map (λ (a : Act). a.deed) acts)
deeds_by true a acts = refl
deeds_by false a acts = refl

head_scan : (index word : ℕ) (b : Bool) (k : ℕ) (found : Option ℕ) (deed : Deed) (deeds : List Deed)
    → scan index word (k + cond (b && closes deed) 1 0) (newer found (if b && (k == index) then written_to word deed else None)) deeds
    ≡ scan index word k found (cond b (deed ∷ deeds) deeds)
head_scan index word true k found deed deeds = refl
head_scan index word false k found deed deeds = let e : k + 0 ≡ k = omega arith in ap (λ k. scan index word k found deeds) e

module _ (node index word : ℕ) where
  interval_here : (before : List Act) (a : Act) (acts : List Act) → interval_at (before ++ a ∷ acts) node (length before) ≡ 1 + count_of closes node before
  interval_here before a acts = ap (λ xs. 1 + count_of closes node xs) (take-append_seam before (a ∷ acts))

  count_next : (before : List Act) (a : Act)
      → count_of closes node (before ++ a ∷ []) ≡ count_of closes node before + cond ((a.node == node) && closes a.deed) 1 0
  count_next before a = fold-append (λ k (a : Act). k + cond ((a.node == node) && closes a.deed) 1 0) 0 before (a ∷ [])

  scanned_from : (before acts : List Act) (k : ℕ) (found : Option ℕ) → k ≡ 1 + count_of closes node before
      → fold (λ found at. newer found (write_in (before ++ acts) node index word at)) found (enumerate_from (length before) acts)
      ≡ scan index word k found (deeds_of node acts)
  scanned_from before [] k found e = refl
  scanned_from before (a ∷ acts) k found e =
      let all : List Act = before ++ a ∷ acts in
      let mine : Bool = a.node == node in
      let rest : List Deed = deeds_of node acts in
      let next : ℕ = k + cond (mine && closes a.deed) 1 0 in
      let now : Option ℕ = newer found (if mine && (k == index) then written_to word a.deed else None) in
      let counted : next ≡ 1 + count_of closes node (before ++ a ∷ []) =
      let more : _ = count_next before a in omega (arith, more, e) in
      let whole : (before ++ a ∷ []) ++ acts ≡ all = append_assoc before (a ∷ []) acts in
      let long : length (before ++ a ∷ []) ≡ length before + 1 = length-append before (a ∷ []) in
      let at_k : interval_at all node (length before) ≡ k = interval_here before a acts ∙ sym e in
      ap (λ i. fold (λ found at. newer found (write_in all node index word at)) (newer found (if mine && (i == index) then written_to word a.deed else None))
      (enumerate_from (length before + 1) acts)) at_k
      ∙ ap (λ n. fold (λ found at. newer found (write_in all node index word at)) now (enumerate_from n acts)) (sym long)
      ∙ ap (λ xs. fold (λ found at. newer found (write_in xs node index word at)) now (enumerate_from (length (before ++ a ∷ [])) acts)) (sym whole)
      ∙ scanned_from (before ++ a ∷ []) acts next now counted
      ∙ head_scan index word mine k found a.deed rest
      ∙ ap (scan index word k found) (sym (deeds_by mine a (filter (λ (a : Act). a.node == node) acts)))

-- what a node wrote last in an interval, by its own deeds
pub last_scanned : (acts : List Act) (node index word : ℕ) → last_write acts node index word ≡ written_in (deeds_of node acts) index word
last_scanned acts node index word = scanned_from node index word [] acts 1 None refl

-- ---- deeds one after another

count_by_one : (d : Deed) (b : Bool) (ds : List Deed) → length (cond b (d ∷ ds) ds) ≡ cond b 1 0 + length ds
count_by_one d true ds = omega arith
count_by_one d false ds = omega arith

count_cons : (deed : Deed) (deeds : List Deed) → count closes (deed ∷ deeds) ≡ cond (closes deed) 1 0 + count closes deeds
count_cons deed deeds = count_by_one deed (closes deed) (filter closes deeds)

module _ (index word : ℕ) where
  pub scan-append : (deeds more : List Deed) (k : ℕ) (found : Option ℕ)
      → scan index word k found (deeds ++ more) ≡ scan index word (k + count closes deeds) (scan index word k found deeds) more
  scan-append [] more k found = let e : k ≡ k + 0 = omega arith in ap (λ k. scan index word k found more) e
  scan-append (deed ∷ deeds) more k found =
      let e : index_after k deed + count closes deeds ≡ k + count closes (deed ∷ deeds) =
      let c : _ = count_cons deed deeds in omega (arith, c) in
      scan-append deeds more (index_after k deed) (found_after index word k found deed)
      ∙ ap (λ j. scan index word j (scan index word k found (deed ∷ deeds)) more) e

  -- a deed in another interval
  elsewhere : (k : ℕ) (found : Option ℕ) (deed : Deed) → (k ≡ index → ⊥) → found_after index word k found deed ≡ found
  elsewhere k found deed ne = ap (λ b. newer found (if b then written_to word deed else None)) (ne_eqb k index ne)

  unwritten_by : (b : Bool) (found : Option ℕ) → newer found (if b then None else None) ≡ found
  unwritten_by true found = refl
  unwritten_by false found = refl

  unwritten : (k : ℕ) (found : Option ℕ) (deed : Deed) → written_to word deed ≡ None → found_after index word k found deed ≡ found
  unwritten k found deed e = ap (λ o. newer found (if k == index then o else None)) e ∙ unwritten_by (k == index) found

  -- nothing is found of an interval that is still to come
  pub not_yet : (deeds : List Deed) (k : ℕ) (found : Option ℕ) → k + count closes deeds < index → scan index word k found deeds ≡ found
  not_yet [] k found lt = refl
  not_yet (deed ∷ deeds) k found lt =
      let c : _ = count_cons deed deeds in
      not_yet deeds (index_after k deed) (found_after index word k found deed) (omega (arith, c, lt))
      ∙ elsewhere k found deed (λ e. omega (arith, e, lt))

  -- one deed more, in another interval, or no write of the word
  pub written-more : (deeds : List Deed) (deed : Deed) → (1 + count closes deeds ≡ index → written_to word deed ≡ None)
      → written_in (deeds ++ deed ∷ []) index word ≡ written_in deeds index word
  written-more deeds deed h =
      let k : ℕ = 1 + count closes deeds in
      scan-append deeds (deed ∷ []) 1 None
      ∙ elim (cases_eq k index) [
        | inl e ↦ unwritten k (written_in deeds index word) deed (h e)
        | inr ne ↦ elsewhere k (written_in deeds index word) deed ne
      ]

-- ---- the open interval

-- the last of these writes of the word, or else what was found before
abbrev pub last_of : ℕ → Option ℕ → List (ℕ × ℕ) → Option ℕ
last_of word found writes = fold (λ found (write : ℕ × ℕ). newer found (if write.0 == word then Some write.1 else None)) found writes

module _ (index word : ℕ) where
  -- what was found, in interval k, is what the open writes say
  record Agrees (k : ℕ) (found : Option ℕ) (writes : List (ℕ × ℕ)) : Type 0 where
    here : k ≡ index → found ≡ last_of word None writes
    before : k < index → found ≡ None

  stays : (k : ℕ) (found : Option ℕ) (writes : List (ℕ × ℕ)) → Agrees k found writes
      → Agrees (k + 0) (newer found (if k == index then None else None)) writes
  stays k found writes a =
      let same : newer found (if k == index then None else None) ≡ found = unwritten_by index word (k == index) found in
      record { here = λ e. same ∙ a.here (omega (arith, e)); before = λ lt. same ∙ a.before (omega (arith, lt)) }

  ends : (k : ℕ) (found : Option ℕ) (writes : List (ℕ × ℕ)) → k + 1 ≤ index → Agrees k found writes
      → Agrees (k + 1) (newer found (if k == index then None else None)) []
  ends k found writes le a =
      let same : newer found (if k == index then None else None) ≡ None = unwritten_by index word (k == index) found ∙ a.before (omega (arith, le)) in
      record { here = λ e. same; before = λ lt. same }

  agrees_after : (deed : Deed) (k : ℕ) (found : Option ℕ) (writes : List (ℕ × ℕ)) → index_after k deed ≤ index → Agrees k found writes
      → Agrees (index_after k deed) (found_after index word k found deed) (after_deed writes deed)
  agrees_after (Write w value) k found writes le a = record {
    here = λ e.
        let at : k ≡ index = omega (arith, e) in
        ap (λ b. newer found (if b then written_to word (Write w value) else None)) (eq-eqb k index at)
        ∙ ap (λ o. newer o (if w == word then Some value else None)) (a.here at)
        ∙ sym (fold-append (λ found (write : ℕ × ℕ). newer found (if write.0 == word then Some write.1 else None)) None writes ((w, value) ∷ []));
    before = λ lt. elsewhere index word k found (Write w value) (λ e. omega (arith, e, lt)) ∙ a.before (omega (arith, lt));
  }
  agrees_after (Acquire l) k found writes le a = ends k found writes le a
  agrees_after (Release l) k found writes le a = ends k found writes le a
  agrees_after Arrive k found writes le a = ends k found writes le a
  agrees_after Quiet k found writes le a = stays k found writes a
  agrees_after (Print v) k found writes le a = stays k found writes a
  agrees_after (Read w v) k found writes le a = stays k found writes a
  agrees_after Depart k found writes le a = stays k found writes a
  agrees_after (Trap c) k found writes le a = stays k found writes a
  agrees_after End k found writes le a = stays k found writes a

  opened_from : (deeds : List Deed) (k : ℕ) (found : Option ℕ) (writes : List (ℕ × ℕ)) → k + count closes deeds ≡ index → Agrees k found writes
      → scan index word k found deeds ≡ last_of word None (fold after_deed writes deeds)
  opened_from [] k found writes e a = a.here (omega (arith, e))
  opened_from (deed ∷ deeds) k found writes e a =
      let c : _ = count_cons deed deeds in
      opened_from deeds (index_after k deed) (found_after index word k found deed) (after_deed writes deed) (omega (arith, c, e))
      (agrees_after deed k found writes (omega (arith, c, e)) a)

-- in the interval after those that the deeds close, the last write is that of the open writes
pub opened : (deeds : List Deed) (word : ℕ) → written_in deeds (1 + count closes deeds) word ≡ last_of word None (open_writes deeds)
opened deeds word =
    opened_from (1 + count closes deeds) word deeds 1 None [] refl (record { here = λ e. refl; before = λ lt. refl })
