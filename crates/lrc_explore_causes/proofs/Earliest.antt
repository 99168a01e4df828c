-- What an earliest race comes of has no race but that of its last two acts.
use Rattle.std.proofs.Common.{◌≡◌, ℕ, ◌+◌, ◌<◌, ◌≤◌, ◌⊎◌, List, [], ◌∷◌, ◌++◌, Bool, true, inl, inr, length, sym, subst, ◌∙◌, ap, refl, arith}
use Rattle.std.specs.Prelude.{Some}
use Rattle.std.proofs.lemmas.Bool.{cases_order}
use Rattle.std.proofs.lemmas.Option.{same_Some}
use Rattle.lrc_trace.specs.declared.act.Act.{Act}
use Rattle.lrc_trace.specs.declared.act.Deed.{Deed}
use Rattle.lrc_trace.specs.declared.act.Deed.TheVariants.{Read, Write, Acquire, Depart}
use Rattle.lrc_trace.specs.Run.{Does, act_of}
use Rattle.lrc_trace.specs.Order.{Precedes, program, lock, barrier, HappensBefore, base, further}
use Rattle.lrc_trace.specs.Conflict.{Accesses, ConflictAt, Races, Writes}
use Rattle.lrc_trace.proofs.Conflicts.{ConflictAt-symmetric, Accesses-node}
use Rattle.lrc_trace.proofs.HappensBefore.{forward, Precedes-forward, longer}
use Rattle.lrc_trace.proofs.Positions.{Does-longer, Does-shorter, Does-within, Does-one_node, Does-one_deed, slice_get-seam}
use Rattle.lrc_orders.proofs.Reducing.{Accessed, IsAccess, by_read, by_write}
use Rattle.lrc_explore_causes.specs.Causes.{IsCause, Keeps}
use Rattle.lrc_explore_causes.proofs.Coming.{cause_closed, cause_far}
use Rattle.lrc_explore_causes.proofs.Keeping.{Origin, unique, origin, front_at, later_now, before_now, does_now}

-- accesses and writes, where the same deeds are done
moved : {run other : List Act} {i k p word : ℕ} → ((node : ℕ) (d : Deed) → Does run i node d → Does other k node d) → Accesses run i p word
    → Accesses other k p word
moved {p = p} {word = word} same (inl (v, does)) = inl (v, same p (Read word v) does)
moved {p = p} {word = word} same (inr (v, does)) = inr (v, same p (Write word v) does)

moved_write : {run other : List Act} {i k p word : ℕ} → ((node : ℕ) (d : Deed) → Does run i node d → Does other k node d) → Writes run i p word
    → Writes other k p word
moved_write {p = p} {word = word} same (v, does) = (v, same p (Write word v) does)

-- an access of a word is of no other
same_word : {d : Deed} {word other v : ℕ} {b : Bool} → IsAccess d word b → (d ≡ Read other v) ⊎ (d ≡ Write other v) → word ≡ other
same_word {word = word} (by_read {v = u}) (inl e) = ap (λ (d : Deed). word_in d) e
  where
    word_in : Deed → ℕ
    word_in (Read w x) = w
    word_in _ = 0
same_word by_read (inr e) = cc
same_word by_write (inl e) = cc
same_word {word = word} (by_write {v = u}) (inr e) = ap (λ (d : Deed). word_in d) e
  where
    word_in : Deed → ℕ
    word_in (Write w x) = w
    word_in _ = 0

is_write : {d : Deed} {word other v : ℕ} {b : Bool} → IsAccess d word b → d ≡ Write other v → b ≡ true
is_write by_read e = cc
is_write by_write e = refl

accesses : {run : List Act} {i p word : ℕ} {b : Bool} → Accessed run i p word b → Accesses run i p word
accesses {run} {i} {p} {word} one = of one.deed one.does one.is
  where
    of : {b : Bool} → (d : Deed) → Does run i p d → IsAccess d word b → Accesses run i p word
    of d does (by_read {v = v}) = inl (v, does)
    of d does (by_write {v = v}) = inr (v, does)

writes : {run : List Act} {i p word : ℕ} {b : Bool} → Accessed run i p word b → b ≡ true → Writes run i p word
writes {run} {i} {p} {word} one is = of one.deed one.does one.is is
  where
    of : {b : Bool} → (d : Deed) → Does run i p d → IsAccess d word b → b ≡ true → Writes run i p word
    of d does by_read e = cc
    of d does (by_write {v = v}) e = (v, does)

-- an access that something comes right before is of the same node
same_node : {run : List Act} {m i p word : ℕ} {b : Bool} → Accessed run i p word b → Precedes run m i → (d : Deed) × Does run m p d
same_node {run} {m} one (program {node = node} {a = a} lt first second) =
    (a, subst (λ n. Does run m n a) (Does-one_node second one.does) first)
same_node one (lock lt first second) = absurd (no_acquire one.is (Does-one_deed one.does second))
  where
    no_acquire : {d : Deed} {word l : ℕ} {b : Bool} → IsAccess d word b → d ≡ Acquire l → ⊥
    no_acquire by_read e = cc
    no_acquire by_write e = cc
same_node one (barrier lt first second same) = absurd (no_depart one.is (Does-one_deed one.does second))
  where
    no_depart : {d : Deed} {word : ℕ} {b : Bool} → IsAccess d word b → d ≡ Depart → ⊥
    no_depart by_read e = cc
    no_depart by_write e = cc

module _ (run : List Act) (i j : ℕ) (race : Races run i j) (first : (x y : ℕ) → Races run x y → j ≤ y) (p word : ℕ) (b : Bool)
    (one : Accessed run i p word b) (told : List Act) (keeps : Keeps run (IsCause run i j) j told) (a other : Act) (a_node : a.node ≡ p)
    (a_access : IsAccess a.deed word b) where
  abbrev Stays : ℕ → Type 0
  Stays = IsCause run i j

  abbrev whole : List Act
  whole = told ++ a ∷ other ∷ []

  earlier : i < j
  earlier = race.earlier

  first_goes : Stays i → ⊥
  first_goes (inl h) = let lt = forward h in absurd (omega arith)
  first_goes (inr h) = race.unordered h

  -- the first access as it is done now
  a_does : Does whole (length told) p a.deed
  a_does = subst (λ n. Does whole (length told) n a.deed) a_node (record { stands = slice_get-seam told a (other ∷ []) })

  -- what stood where something is told now
  then_does : (x : ℕ) → x < length told → (o : Origin run Stays told j x) → (node : ℕ) (d : Deed) → Does whole x node d → Does run o.k node d
  then_does x lt o node d does =
      let short = Does-shorter (a ∷ other ∷ []) lt does in
      let now = does_now run Stays j told keeps o.k o.act.node o.act.deed o.front o.earlier o.stays (record { stands = o.there }) o.keeps in
      let here : Does told x o.act.node o.act.deed = subst (λ y. Does told y o.act.node o.act.deed) o.long now in
      let is : o.act ≡ act_of node d = same_Some o.act (act_of node d) (sym here.stands ∙ short.stands) in
      record { stands = o.there ∙ ap Some is }

  -- before the first access of the race
  before_first : {k : ℕ} {f : List Act} → Keeps run Stays k f → k < j → HappensBefore run k i → HappensBefore whole (length f) (length told)
  before_first {k} {f} at_f lt (base step) =
      let mine = same_node one step in
      let stays : Stays k = inl (base step) in
      let now = does_now run Stays j told keeps k p mine.0 f lt stays mine.1 at_f in
      base (program (Does-within now) (Does-longer (a ∷ other ∷ []) now) a_does)
  before_first {k} {f} at_f lt (further {j = m} h step) =
      let mine = same_node one step in
      let stays : Stays m = inl (base step) in
      let less = Precedes-forward step in
      let early : m < j = omega (arith, less, earlier) in
      let mid = front_at run Stays keeps m (omega (arith, early)) in
      let now = does_now run Stays j told keeps m p mine.0 mid.0 early stays mine.1 mid.1 in
      let front = longer told (a ∷ other ∷ []) (before_now run Stays (cause_closed run i j) j told keeps early stays at_f mid.1 h) in
      further front (program (Does-within now) (Does-longer (a ∷ other ∷ []) now) a_does)

  -- of two acts that are told the one that stood earlier does
  in_order : (x y : ℕ) → x < y → (ox : Origin run Stays told j x) (oy : Origin run Stays told j y) → ox.k < oy.k
  in_order x y lt ox oy =
      let first_long = ox.long in
      let second_long = oy.long in
      elim (cases_order ox.k oy.k) [
        | inl same ↦
            let alike : length ox.front ≡ length oy.front =
            ap (λ (l : List Act). length l) (unique run Stays ox.keeps (subst (λ k. Keeps run Stays k oy.front) (sym same) oy.keeps)) in
            absurd (omega (arith, lt, first_long, second_long, alike))
        | inr (inl less) ↦ less
        | inr (inr more) ↦
            let back = later_now run Stays more oy.stays (record { stands = oy.there }) oy.keeps ox.keeps in
            absurd (omega (arith, lt, first_long, second_long, back))
      ]

  none_told : (x y : ℕ) → y < length told → Races whole x y → ⊥
  none_told x y lt r =
      let sooner = r.earlier in
      let ox = origin run Stays keeps x (omega (arith, sooner, lt)) in
      let oy = origin run Stays keeps y lt in
      let c = r.conflict.3 in
      let to_x = then_does x (omega (arith, sooner, lt)) ox in
      let to_y = then_does y lt oy in
      let late = first ox.k oy.k (record {
        earlier = in_order x y sooner ox oy;
        conflict = (
          r.conflict.0,
          r.conflict.1,
          r.conflict.2,
          record {
            apart = c.apart;
            first = moved to_x c.first;
            second = moved to_y c.second;
            writes = elim c.writes [
              | inl w ↦ inl (moved_write to_x w)
              | inr w ↦ inr (moved_write to_y w)
            ];
          },
        );
        unordered = λ h.
            let now = longer told (a ∷ other ∷ []) (before_now run Stays (cause_closed run i j) j told keeps oy.earlier oy.stays ox.keeps oy.keeps h) in
            r.unordered (subst (λ u. HappensBefore whole u y) ox.long (subst (λ u. HappensBefore whole (length ox.front) u) oy.long now));
      }) in
      let early = oy.earlier in
      absurd (omega (arith, late, early))

  -- the word of an access at the place of the first one
  word_there : {q w : ℕ} → Accesses whole (length told) q w → word ≡ w
  word_there (inl (v, does)) = same_word a_access (inl (Does-one_deed a_does does))
  word_there (inr (v, does)) = same_word a_access (inr (Does-one_deed a_does does))

  none_first : (x : ℕ) → Races whole x (length told) → ⊥
  none_first x r =
      let lt = r.earlier in
      let o = origin run Stays keeps x lt in
      let to_x = then_does x lt o in
      let c = r.conflict.3 in
      let is = word_there c.second in
      let node_is : r.conflict.1 ≡ p = Accesses-node c.second a_does in
      let conflict : ConflictAt run o.k r.conflict.0 i p word = record {
        apart = λ e. c.apart (e ∙ sym node_is);
        first = subst (λ w. Accesses run o.k r.conflict.0 w) (sym is) (moved to_x c.first);
        second = accesses one;
        writes = elim c.writes [
          | inl w ↦ inl (subst (λ w'. Writes run o.k r.conflict.0 w') (sym is) (moved_write to_x w))
          | inr w ↦ inr (writes one (is_write a_access (Does-one_deed a_does w.1)))
        ];
      } in
      let early = o.earlier in
      elim (cases_order o.k i) [
        | inl same ↦ first_goes (subst Stays same o.stays)
        | inr (inl less) ↦
            let late = first o.k i (record {
              earlier = less;
              conflict = (r.conflict.0, p, word, conflict);
              unordered = λ h. r.unordered (subst (λ u. HappensBefore whole u (length told)) o.long (before_first o.keeps o.earlier h));
            }) in
            absurd (omega (arith, late, earlier))
        | inr (inr more) ↦
            let late = first i o.k (record {
              earlier = more;
              conflict = (p, r.conflict.0, word, ConflictAt-symmetric conflict);
              unordered = λ h. first_goes (cause_far h o.stays);
            }) in
            absurd (omega (arith, late, early))
      ]

  -- no race ends before the last act
  pub at_the_end : (x y : ℕ) → Races whole x y → length told + 1 ≤ y
  at_the_end x y r = elim (cases_order y (length told)) [
    | inl same ↦ absurd (none_first x (subst (λ k. Races whole x k) same r))
    | inr (inl less) ↦ absurd (none_told x y less r)
    | inr (inr more) ↦ omega (arith, more)
  ]
