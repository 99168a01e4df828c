-- No order of the plain machine lets both nodes of store buffering read 0.
use Rattle.std.proofs.Common.{◌≡◌, ℕ, zero, suc, List, [], ◌∷◌, ◌++◌, refl, sym, subst, ◌∙◌, ap, arith}
use Rattle.std.specs.Prelude.{◌==◌, Bool, true, false, Option, Some, None, filter, slice_index, slice_set, replicate}
use Rattle.std.proofs.lemmas.List.{append-nil}
use Rattle.std.proofs.lemmas.Option.{same_Some, some_pair_parts}
use Rattle.lrc_program.specs.declared.Program.{Program}
use Rattle.lrc_program.specs.Tree.{ProgramTree, program_of}
use Rattle.lrc_trace.specs.declared.act.Act.{Act}
use Rattle.lrc_trace.specs.declared.act.Deed.{Deed}
use Rattle.lrc_trace.specs.declared.act.Deed.TheVariants.{Print, Read, Write, End}
use Rattle.lrc_trace.specs.Run.{act_of}
use Rattle.lrc_exec.specs.Meaning.{Thread, Next, writes, reads, prints, ends, next_of}
use Rattle.lrc_exec.specs.Plain.{Plain, start_of, plain_start, plain_from, plain_step, deed_done, thread_in, with_thread}
use Rattle.lrc_exec.proofs.PlainLaws.{plain_from-begins}
use Rattle.lrc_orders.specs.Notes.{is_note_of}
use Rattle.lrc_orders.specs.Outcome.{IsOutcome}
use Rattle.lrc_lazy.specs.Buffering.{store_buffering, both_print_zero}
use Rattle.lrc_lazy.proofs.Chains.{Chain, chain}

-- ---- how far a node is

-- what its word is by then, and whether it has read 0
data Stage : Type 0 where
  begins : Stage
  wrote : Stage
  read : ℕ → Stage
  printed : ℕ → Stage
  done : ℕ → Stage

abbrev word_of : Stage → ℕ
word_of begins = 0
word_of s = 1

abbrev got_zero : Stage → Bool
got_zero begins = false
got_zero wrote = false
got_zero (read v) = v == 0
got_zero (printed v) = v == 0
got_zero (done v) = v == 0

abbrev notes_at : ℕ → Stage → List Act
notes_at node (printed v) = act_of node (Print v) ∷ []
notes_at node (done v) = act_of node (Print v) ∷ act_of node End ∷ []
notes_at node s = []

-- its next deed, where the other's word has this value
data Moves (mine its value : ℕ) : Stage → Deed → Stage → Type 0 where
  m_write : Moves mine its value begins (Write mine 1) wrote
  m_read : Moves mine its value wrote (Read its value) (read value)
  m_print : {v : ℕ} → Moves mine its value (read v) (Print v) (printed v)
  m_end : {v : ℕ} → Moves mine its value (printed v) End (done v)

-- ---- a step of the machine is the next deed

abbrev moved : Plain → ℕ → Deed → Option Thread → Plain
moved m node (Write w v) t = record (with_thread m node t) { memory = slice_set m.memory w v }
moved m node d t = with_thread m node t

module _ (node its : ℕ) (t : Thread) (c : Chain node its t) where
  abbrev thread_at : Stage → Option Thread
  thread_at begins = Some t
  thread_at wrote = Some c.wrote
  thread_at (read v) = Some (c.read v)
  thread_at (printed v) = Some (c.printed v)
  thread_at (done v) = None

  record Moved (m : Plain) (s : Stage) (d : Deed) (after : Plain) : Type 0 where
    stage : Stage
    moves : Moves node its (slice_index m.memory its) s d stage
    is : after ≡ moved m node d (thread_at stage)

  -- the deed that was made is the one that the thread makes
  made_as : (m after : Plain) (s : Stage) (d : Deed) (thread : Thread) (next : Next) → thread_in m node ≡ Some thread → next_of thread ≡ next
      → plain_step m node ≡ Some (d, after) → (e : Deed) (to : Stage) → Moves node its (slice_index m.memory its) s e to
      → deed_done m node next ≡ Some (e, moved m node e (thread_at to)) → Moved m s d after
  made_as m after s d thread next there goes step e to moves does =
      let now : plain_step m node ≡ Some (e, moved m node e (thread_at to)) = rw there (rw goes does) in
      let same = some_pair_parts e d (moved m node e (thread_at to)) after (sym now ∙ step) in
      record {
        stage = to;
        moves = subst (λ x. Moves node its (slice_index m.memory its) s x to) same.0 moves;
        is = sym same.1 ∙ ap (λ x. moved m node x (thread_at to)) same.0;
      }

  move : (m after : Plain) (s : Stage) (d : Deed) → thread_in m node ≡ thread_at s → plain_step m node ≡ Some (d, after) → Moved m s d after
  move m after begins d there step = made_as m after begins d t (writes node 1 c.wrote) there c.writes_own step (Write node 1) wrote m_write refl
  move m after wrote d there step =
      let v = slice_index m.memory its in
      made_as m after wrote d c.wrote (reads its c.read) there c.reads_other step (Read its v) (read v) m_read refl
  move m after (read v) d there step =
      made_as m after (read v) d (c.read v) (prints v (c.printed v)) there (c.prints_it v) step (Print v) (printed v) m_print refl
  move m after (printed v) d there step =
      made_as m after (printed v) d (c.printed v) ends there (c.ends_then v) step End (done v) m_end refl
  move m after (done v) d there step =
      let none : plain_step m node ≡ None = rw there refl in
      let never : ◌≡◌ {A = Option (Deed × Plain)} None (Some (d, after)) = sym none ∙ step in absurd (cc)

-- ---- at most one of the nodes reads 0

abbrev Safe : Stage → Stage → Type 0
Safe mine its = got_zero mine ≡ true → got_zero its ≡ true → ⊥

read_safe : (other : Stage) → (word_of other == 0) ≡ true → got_zero other ≡ true → ⊥
read_safe begins e f = cc
read_safe wrote e f = cc
read_safe (read v) e f = cc
read_safe (printed v) e f = cc
read_safe (done v) e f = cc

still_safe : {mine its : ℕ} {s to : Stage} {d : Deed} (other : Stage) → Moves mine its (word_of other) s d to → Safe s other → Safe to other
still_safe other m_write safe e f = cc
still_safe other m_read safe e f = read_safe other e f
still_safe other m_print safe e f = safe e f
still_safe other m_end safe e f = safe e f

-- ---- the acts of an order

module _ (t0 t1 : Thread) (c0 : Chain 0 1 t0) (c1 : Chain 1 0 t1) (holders : List (Option ℕ)) (arrivals : List ℕ) where
  -- the machine where the nodes are so far
  abbrev machine_at : Stage → Stage → Plain
  machine_at a b = record {
    memory = word_of a ∷ word_of b ∷ [];
    holders = holders;
    arrivals = arrivals;
    threads = thread_at 0 1 t0 c0 a ∷ thread_at 1 0 t1 c1 b ∷ [];
  }

  first_at : (a b to : Stage) (d : Deed) → Moves 0 1 (word_of b) a d to → moved (machine_at a b) 0 d (thread_at 0 1 t0 c0 to) ≡ machine_at to b
  first_at begins b wrote d m_write = refl
  first_at wrote b to d m_read = refl
  first_at (read v) b to d m_print = refl
  first_at (printed v) b to d m_end = refl
  first_at begins b begins d other = elim other [ ]
  first_at begins b (read v) d other = elim other [ ]
  first_at begins b (printed v) d other = elim other [ ]
  first_at begins b (done v) d other = elim other [ ]
  first_at (done v) b to d other = elim other [ ]

  second_at : (a b to : Stage) (d : Deed) → Moves 1 0 (word_of a) b d to → moved (machine_at a b) 1 d (thread_at 1 0 t1 c1 to) ≡ machine_at a to
  second_at a begins wrote d m_write = refl
  second_at a wrote to d m_read = refl
  second_at a (read v) to d m_print = refl
  second_at a (printed v) to d m_end = refl
  second_at a begins begins d other = elim other [ ]
  second_at a begins (read v) d other = elim other [ ]
  second_at a begins (printed v) d other = elim other [ ]
  second_at a begins (done v) d other = elim other [ ]
  second_at a (done v) to d other = elim other [ ]

  first_notes : (a to : Stage) (d : Deed) (value : ℕ) (more : List Act) → Moves 0 1 value a d to
      → notes_at 0 a ++ filter (is_note_of 0) (act_of 0 d ∷ more) ≡ notes_at 0 to ++ filter (is_note_of 0) more
  first_notes begins to d value more m_write = refl
  first_notes wrote to d value more m_read = refl
  first_notes (read v) to d value more m_print = refl
  first_notes (printed v) to d value more m_end = refl
  first_notes (done v) to d value more other = elim other [ ]

  second_notes : (b to : Stage) (d : Deed) (value : ℕ) (more : List Act) → Moves 1 0 value b d to
      → notes_at 1 b ++ filter (is_note_of 1) (act_of 1 d ∷ more) ≡ notes_at 1 to ++ filter (is_note_of 1) more
  second_notes begins to d value more m_write = refl
  second_notes wrote to d value more m_read = refl
  second_notes (read v) to d value more m_print = refl
  second_notes (printed v) to d value more m_end = refl
  second_notes (done v) to d value more other = elim other [ ]

  -- where the nodes are after the acts
  record After (a b : Stage) (acts : List Act) : Type 0 where
    first : Stage
    second : Stage
    safe : Safe first second
    first_are : notes_at 0 a ++ filter (is_note_of 0) acts ≡ notes_at 0 first
    second_are : notes_at 1 b ++ filter (is_note_of 1) acts ≡ notes_at 1 second

  led : (order : List ℕ) (a b : Stage) (run : List Act × Plain) → Safe a b → plain_from (machine_at a b) order ≡ Some run → After a b run.0
  led [] a b run safe e =
      let none : [] ≡ run.0 = ap (λ (r : List Act × Plain). r.0) (same_Some ([], machine_at a b) run e) in
      record {
        first = a;
        second = b;
        safe = safe;
        first_are = ap (λ l. notes_at 0 a ++ filter (is_note_of 0) l) (sym none) ∙ append-nil (notes_at 0 a);
        second_are = ap (λ l. notes_at 1 b ++ filter (is_note_of 1) l) (sym none) ∙ append-nil (notes_at 1 b);
      }
  led (zero ∷ order) a b run safe e =
      let one = plain_from-begins (machine_at a b) 0 order run e in
      let m = move 0 1 t0 c0 (machine_at a b) one.step.1 a one.step.0 refl one.step_is in
      let at : one.step.1 ≡ machine_at m.stage b = m.is ∙ first_at a b m.stage one.step.0 m.moves in
      let safe_now : Safe m.stage b = λ f g. still_safe b m.moves safe f g in
      let rest = led order m.stage b one.more safe_now (subst (λ x. plain_from x order ≡ Some one.more) at one.more_is) in
      let acts : run.0 ≡ act_of 0 one.step.0 ∷ one.more.0 = ap (λ (r : List Act × Plain). r.0) one.run_is in
      record {
        first = rest.first;
        second = rest.second;
        safe = rest.safe;
        first_are = ap (λ l. notes_at 0 a ++ filter (is_note_of 0) l) acts
            ∙ first_notes a m.stage one.step.0 (word_of b) one.more.0 m.moves ∙ rest.first_are;
        second_are = ap (λ l. notes_at 1 b ++ filter (is_note_of 1) l) acts ∙ rest.second_are;
      }
  led (suc zero ∷ order) a b run safe e =
      let one = plain_from-begins (machine_at a b) 1 order run e in
      let m = move 1 0 t1 c1 (machine_at a b) one.step.1 b one.step.0 refl one.step_is in
      let at : one.step.1 ≡ machine_at a m.stage = m.is ∙ second_at a b m.stage one.step.0 m.moves in
      let safe_now : Safe a m.stage = λ f g. still_safe a m.moves (λ x y. safe y x) g f in
      let rest = led order a m.stage one.more safe_now (subst (λ x. plain_from x order ≡ Some one.more) at one.more_is) in
      let acts : run.0 ≡ act_of 1 one.step.0 ∷ one.more.0 = ap (λ (r : List Act × Plain). r.0) one.run_is in
      record {
        first = rest.first;
        second = rest.second;
        safe = rest.safe;
        first_are = ap (λ l. notes_at 0 a ++ filter (is_note_of 0) l) acts ∙ rest.first_are;
        second_are = ap (λ l. notes_at 1 b ++ filter (is_note_of 1) l) acts
            ∙ second_notes b m.stage one.step.0 (word_of a) one.more.0 m.moves ∙ rest.second_are;
      }
  led (suc (suc n) ∷ order) a b run safe e =
      let one = plain_from-begins (machine_at a b) (suc (suc n)) order run e in
      let none : plain_step (machine_at a b) (suc (suc n)) ≡ None = refl in
      let never : ◌≡◌ {A = Option (Deed × Plain)} None (Some one.step) = sym none ∙ one.step_is in absurd (cc)

-- ---- both print 0

first_act : (a b : Act) (more others : List Act) → a ∷ more ≡ b ∷ others → a ≡ b
first_act a b more others e = cc

same_print : (node u v : ℕ) (more others : List Act) → act_of node (Print u) ∷ more ≡ act_of node (Print v) ∷ others → u ≡ v
same_print node u v more others e =
    let deeds : Print u ≡ Print v = ap (λ (a : Act). a.deed) (first_act (act_of node (Print u)) (act_of node (Print v)) more others e) in cc

zero_got : (f : Stage) → notes_at 1 f ++ [] ≡ act_of 1 (Print 0) ∷ act_of 1 End ∷ [] → got_zero f ≡ true
zero_got begins e = cc
zero_got wrote e = cc
zero_got (read v) e = cc
zero_got (printed v) e = cc
zero_got (done v) e = ap (λ x. x == 0) (same_print 1 v 0 (act_of 1 End ∷ []) (act_of 1 End ∷ []) e)

not_first : (f : Stage) (d : Deed) (more : List Act) → notes_at 1 f ++ [] ≡ act_of 0 d ∷ more → ⊥
not_first begins d more e = cc
not_first wrote d more e = cc
not_first (read v) d more e = cc
not_first (printed v) d more e =
    let nodes : 1 ≡ 0 = ap (λ (a : Act). a.node) (first_act (act_of 1 (Print v)) (act_of 0 d) [] more e) in absurd (omega (arith, nodes))
not_first (done v) d more e =
    let nodes : 1 ≡ 0 = ap (λ (a : Act). a.node) (first_act (act_of 1 (Print v)) (act_of 0 d) (act_of 1 End ∷ []) more e) in absurd (omega (arith, nodes))

both_zero : (f g : Stage) → notes_at 0 f ++ (notes_at 1 g ++ []) ≡ both_print_zero → (got_zero f ≡ true) × (got_zero g ≡ true)
both_zero begins g e = absurd (not_first g (Print 0) _ e)
both_zero wrote g e = absurd (not_first g (Print 0) _ e)
both_zero (read v) g e = absurd (not_first g (Print 0) _ e)
both_zero (printed v) g e =
    let later : notes_at 1 g ++ [] ≡ act_of 0 End ∷ act_of 1 (Print 0) ∷ act_of 1 End ∷ [] = cc in absurd (not_first g End _ later)
both_zero (done v) g e =
    let rest : List Act = act_of 1 (Print 0) ∷ act_of 1 End ∷ [] in
    let later : notes_at 1 g ++ [] ≡ rest = cc in
    (ap (λ x. x == 0) (same_print 0 v 0 (act_of 0 End ∷ (notes_at 1 g ++ [])) (act_of 0 End ∷ rest) e), zero_got g later)

pub not_plainly : (text : Program) → program_of text ≡ store_buffering → IsOutcome text 2 both_print_zero → ⊥
not_plainly text is outcome =
    let t0 = start_of text 2 0 in
    let t1 = start_of text 2 1 in
    let c0 = chain text is 0 1 refl refl refl in
    let c1 = chain text is 1 0 refl refl refl in
    let holders : List (Option ℕ) = replicate text.locks None in
    let arrivals : List ℕ = 0 ∷ 0 ∷ [] in
    let words : text.words ≡ 2 = ap (λ (p : ProgramTree). p.words) is in
    let start : plain_start text 2 ≡ machine_at t0 t1 c0 c1 holders arrivals begins begins =
    ap (λ n. record (plain_start text 2) { memory = replicate n 0 }) words in
    let after = led t0 t1 c0 c1 holders arrivals outcome.order begins begins (outcome.acts, outcome.machine) (λ f g. absurd (cc))
    (subst (λ m. plain_from m outcome.order ≡ Some (outcome.acts, outcome.machine)) start outcome.led) in
    let first_are : filter (is_note_of 0) outcome.acts ≡ notes_at 0 after.first = after.first_are in
    let second_are : filter (is_note_of 1) outcome.acts ≡ notes_at 1 after.second = after.second_are in
    let are : filter (is_note_of 0) outcome.acts ++ (filter (is_note_of 1) outcome.acts ++ []) ≡ both_print_zero = outcome.are in
    let notes : notes_at 0 after.first ++ (notes_at 1 after.second ++ []) ≡ both_print_zero =
    subst (λ l. notes_at 0 after.first ++ (l ++ []) ≡ both_print_zero) second_are
    (subst (λ l. l ++ (filter (is_note_of 1) outcome.acts ++ []) ≡ both_print_zero) first_are are) in
    let got = both_zero after.first after.second notes in
    after.safe got.0 got.1
