-- What one turn adds to the intervals that were made, and what it stores and tells of them.
use Rattle.std.proofs.Common.{◌≡◌, ℕ, ◌+◌, ◌<◌, ◌≤◌, List, [], ◌∷◌, ◌++◌, length, map, refl, sym, ap, subst, ◌∙◌, arith, append-nil}
use Rattle.std.specs.Prelude.{max, fold, ◌==◌, if◌then◌else◌}
use Rattle.std.specs.List.{range_with_len}
use Rattle.std.proofs.lemmas.Bool.{eq-eqb, ne_eqb}
use Rattle.std.proofs.lemmas.List.Elements.{Contains-push}
use Rattle.lrc_time.specs.Time.{entry, joined}
use Rattle.lrc_time.proofs.Times.{entry-set_same, entry-joined}
use Rattle.lrc_store.specs.Interval.{IntervalRecord}
use Rattle.lrc_store.specs.Store.{StoreRecord, intervals_of, added, discarded}
use Rattle.lrc_envelope.specs.Envelope.{EnvelopeRecord}
use Rattle.lrc_envelope.specs.Records.{LockGrantRecord, DepartRecord}
use Rattle.lrc_envelope.specs.declared.message.Message.{Message}
use Rattle.lrc_envelope.specs.declared.message.Message.TheVariants.{LockRequest, LockForward, LockGrant, Arrive, Depart, Clean, Discard}
use Rattle.lrc_envelope.specs.declared.message.Message.TheVariants.{ChangesRequest, ChangesReply, PageRequest, PageReply}
use Rattle.lrc_protocol.specs.Times.{indices_by, next_time}
use Rattle.lrc_protocol.specs.Pages.{Memory, closed_interval, all_changes, with_own, with_part}
use Rattle.lrc_protocol.specs.Node.{Letter}
use Rattle.lrc_order_laws.proofs.Sends.{Came, comes, letter_in}
use Rattle.lrc_node_laws.proofs.Stores.{SameIntervals, own-same, parts-same, Longer, learned-longer}
use Rattle.lrc_node_laws.proofs.Indices.{range-join, indices-append, indices-here, indices-there}
use Rattle.lrc_reading_laws.specs.Made.{AllMade, AllTold, intervals_in}
use Rattle.lrc_reading_laws.proofs.Closed.Stocks.{StoreChange, same, closed, granted, departing, replied, dropped, Tells, AllTell}
use Rattle.lrc_reading_laws.proofs.Closed.Told.{made-more, made-append, made-newer, made-discarded}

-- what comes tells of intervals that were made, and a time that a node learns has no more of it than the node itself
pub record CameSo (made : List IntervalRecord) (me : ℕ) (time : List ℕ) (came : Came) : Type 0 where
  pub grant : (from : ℕ) (m : LockGrantRecord) → came ≡ comes from (LockGrant m) → AllMade made m.intervals × (entry m.time me ≤ entry time me)
  pub depart : (from : ℕ) (m : DepartRecord) → came ≡ comes from (Depart m) → AllMade made m.intervals × (entry m.time me ≤ entry time me)

-- the interval that a node closes between these two times: none where its own entry stays
abbrev pub closed_between : ℕ → List ℕ → Memory → List ℕ → List IntervalRecord
closed_between me time memory after = if entry after me == entry time me then [] else closed_interval me (next_time me time) memory ∷ []

-- the intervals made after a turn of a node, with what it made, and with its time and store then
pub record MadeThen (made new : List IntervalRecord) (me : ℕ) (store : StoreRecord) (time : List ℕ) : Type 0 where
  pub own : indices_by (made ++ new) me ≡ range_with_len 1 (entry time me)
  pub others : (q : ℕ) → (me ≡ q → ⊥) → indices_by (made ++ new) q ≡ indices_by made q
  pub stored : AllMade (made ++ new) (intervals_of store)

module _ (made : List IntervalRecord) (me : ℕ) (time : List ℕ) (memory : Memory) (within : me < length time)
    (exact : indices_by made me ≡ range_with_len 1 (entry time me)) (stored : AllMade made (intervals_of memory.store)) where
  -- the open interval, closed
  abbrev stamp : List ℕ
  stamp = next_time me time

  abbrev interval : IntervalRecord
  interval = closed_interval me stamp memory

  -- none is made
  none_made : (store : StoreRecord) (time' : List ℕ) → entry time' me ≡ entry time me → AllMade made (intervals_of store)
      → MadeThen made (closed_between me time memory time') me store time'
  none_made store time' e h =
      subst (λ b. MadeThen made (if b then [] else interval ∷ []) me store time') (sym (eq-eqb (entry time' me) (entry time me) e)) (record {
        own = ap (λ all. indices_by all me) (append-nil made) ∙ exact ∙ ap (range_with_len 1) (sym e);
        others = λ q ne. ap (λ all. indices_by all q) (append-nil made);
        stored = subst (λ all. AllMade all (intervals_of store)) (sym (append-nil made)) h;
      })

  -- it is made
  index_is : entry stamp me ≡ entry time me + 1
  index_is = entry-set_same time me (entry time me + 1) within

  one_made : (store : StoreRecord) → intervals_of store ≡ intervals_of memory.store ++ interval ∷ []
      → MadeThen made (closed_between me time memory stamp) me store stamp
  one_made store is = subst (λ b. MadeThen made (if b then [] else interval ∷ []) me store stamp) (sym (ne_eqb (entry stamp me)
      (entry time me) grows)) (record {
        own =
            let n : ℕ = entry time me in
            let next : range_with_len (1 + n) 1 ≡ entry stamp me ∷ [] = ap (λ k. k ∷ []) (one_more n ∙ sym index_is) in
            indices-append made (interval ∷ []) me
            ∙ ap (λ xs. xs ++ indices_by (interval ∷ []) me) exact
            ∙ ap (λ xs. range_with_len 1 n ++ xs) (indices-here interval [] me refl ∙ sym next)
            ∙ range-join 1 n 1
            ∙ ap (range_with_len 1) (sym index_is);
        others = λ q ne.
            indices-append made (interval ∷ []) q
            ∙ ap (λ xs. indices_by made q ++ xs) (indices-there interval [] q ne)
            ∙ append-nil (indices_by made q);
        stored =
            subst (AllMade (made ++ interval ∷ [])) (sym is)
            (made-append (made ++ interval ∷ []) (intervals_of memory.store) (interval ∷ []) (made-more made (interval ∷ []) (intervals_of memory.store) stored)
            (Contains-push made interval, tt));
      })
    where
      grows : entry stamp me ≡ entry time me → ⊥
      grows e = let is : entry stamp me ≡ entry time me + 1 = index_is in absurd (omega (arith, e, is))

      one_more : (n : ℕ) → 1 + n ≡ n + 1
      one_more n = omega arith

  -- intervals come
  learned_made : (intervals : List IntervalRecord) (t : List ℕ) → AllMade made intervals → entry t me ≤ entry time me
      → MadeThen made (closed_between me time memory (joined time t)) me (fold added memory.store intervals) (joined time t)
  learned_made intervals t h le =
      let longer : Longer memory.store intervals (fold added memory.store intervals) = learned-longer intervals memory.store in
      none_made (fold added memory.store intervals) (joined time t) (entry-joined time t me ∙ most (entry time me) (entry t me) le)
      (subst (AllMade made) (sym longer.intervals) (made-append made (intervals_of memory.store) intervals stored h))
    where
      most : (a b : ℕ) → b ≤ a → max a b ≡ a
      most a b le = omega (arith, le)

  -- every change of the store
  pub made_then : (came : Came) (store : StoreRecord) (time' : List ℕ) → StoreChange me time memory came store time' → CameSo made me time came
      → MadeThen made (closed_between me time memory time') me store time'
  made_then came _ _ same so = none_made memory.store time refl stored
  made_then _ _ _ closed so =
      let all : SameIntervals (added memory.store interval) (fold (with_own me (entry stamp me)) (added memory.store interval) (all_changes memory)) =
      own-same me (entry stamp me) (all_changes memory) (added memory.store interval) in
      let longer : Longer memory.store (interval ∷ []) (added memory.store interval) = learned-longer (interval ∷ []) memory.store in
      one_made (fold (with_own me (entry stamp me)) (added memory.store interval) (all_changes memory)) (all.intervals ∙ longer.intervals)
  made_then _ _ _ (granted from m) so = let it : AllMade made m.intervals ×
      (entry m.time me ≤ entry time me) = so.grant from m refl in learned_made m.intervals m.time it.0 it.1
  made_then _ _ _ (departing from m) so = let it : AllMade made m.intervals ×
      (entry m.time me ≤ entry time me) = so.depart from m refl in learned_made m.intervals m.time it.0 it.1
  made_then _ _ _ (replied from m) so =
      let all : SameIntervals memory.store (fold (with_part from m.page) memory.store m.parts) = parts-same from m.page m.parts memory.store in
      none_made (fold (with_part from m.page) memory.store m.parts) time refl (subst (AllMade made) (sym all.intervals) stored)
  made_then _ _ _ (dropped from episode upto) so =
      none_made (discarded memory.store upto) time refl (made-discarded made memory.store upto stored)

-- ---- what letters tell

-- departures tell of intervals that were made
abbrev pub DepartsSo : List IntervalRecord → List Letter → Type 0
DepartsSo made [] = Unit {0}
DepartsSo made (x ∷ letters) = ((m : DepartRecord) → x.message ≡ Depart m → AllMade made m.intervals) × DepartsSo made letters

tells_so : (made : List IntervalRecord) (store : StoreRecord) (me : ℕ) (message : Message) → AllMade made (intervals_of store) → Tells store me message
    → ((m : DepartRecord) → message ≡ Depart m → AllMade made m.intervals) → AllMade made (intervals_in message)
tells_so made store me (LockGrant m) h t d = subst (AllMade made) (sym t.2) (made-newer made store t.0 t.1 h)
tells_so made store me (Arrive m) h t d = subst (AllMade made) (sym t.2) (made-newer made store t.0 t.1 h)
tells_so made store me (Depart m) h t d = d m refl
tells_so made store me (LockRequest m) h t d = tt
tells_so made store me (LockForward m) h t d = tt
tells_so made store me (Clean episode) h t d = tt
tells_so made store me (Discard episode) h t d = tt
tells_so made store me (ChangesRequest m) h t d = tt
tells_so made store me (ChangesReply m) h t d = tt
tells_so made store me (PageRequest page) h t d = tt
tells_so made store me (PageReply m) h t d = tt

letters_so : (made : List IntervalRecord) (store : StoreRecord) (me : ℕ) (out : List EnvelopeRecord) → AllMade made (intervals_of store)
    → AllTell store me (map letter_in out) → DepartsSo made (map letter_in out) → AllTold made out
letters_so made store me [] h t d = tt
letters_so made store me (e ∷ out) h t d = (tells_so made store me e.message h t.0 d.0, letters_so made store me out h t.1 d.1)

pub out_so : (made : List IntervalRecord) (store : StoreRecord) (me : ℕ) (out : List EnvelopeRecord) (letters : List Letter) → map letter_in out ≡ letters
    → AllMade made (intervals_of store) → AllTell store me letters → DepartsSo made letters → AllTold made out
out_so made store me out letters e h t d =
    letters_so made store me out h (subst (AllTell store me) (sym e) t) (subst (DepartsSo made) (sym e) d)
