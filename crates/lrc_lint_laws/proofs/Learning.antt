-- A loop without an acquire and a barrier in it: as long as a node goes round it, nothing of another node comes to happen before its acts.
use Rattle.std.proofs.Common.{◌≡◌, ◌≢◌, ◌⊎◌, inl, inr, ◌∙◌, ◌<◌, ◌≤◌, ◌+◌, ◌-◌, ℕ, zero, suc, Bool, true, false, Some, List, [], ◌∷◌, ◌++◌, length}
use Rattle.std.proofs.Common.{take, refl, sym, ap, subst, arith}
use Rattle.std.specs.Prelude.{◌==◌, ◌||◌, if◌then◌else◌, nat_lt, slice_get}
use Rattle.std.specs.List.{Contains, list_any}
use Rattle.std.proofs.lemmas.Bool.{cases_eq, ltb-false, ltb-true}
use Rattle.std.proofs.lemmas.List.{length-append}
use Rattle.std.proofs.lemmas.Option.{slice_get_within}
use Rattle.lrc_program.specs.declared.Expression.{Expression}
use Rattle.lrc_program.specs.declared.Program.{Program}
use Rattle.lrc_program.specs.declared.Statement.{Statement, Row_of-Statement}
use Rattle.lrc_program.specs.declared.Statement.TheVariants.{Assign, Read, Write, Acquire, Release, Barrier, Print, If', While'}
use Rattle.lrc_program.specs.Statements.{Statement as Tree, statement_of, row_of}
use Rattle.lrc_lang.specs.Token.{Token}
use Rattle.lrc_trace.specs.declared.act.Act.{Act}
use Rattle.lrc_trace.specs.declared.act.Deed.{Deed}
use Rattle.lrc_trace.specs.declared.act.Deed.TheVariants as deeds
use Rattle.lrc_trace.specs.Order.{HappensBefore, base, further, program, lock, barrier}
use Rattle.lrc_trace.specs.Reading.{AreOrdered, MayRead, ReadsLazily, WrittenBefore}
use Rattle.lrc_trace.specs.Run.{Does}
use Rattle.lrc_trace.proofs.HappensBefore.{forward}
use Rattle.lrc_trace.proofs.Latest.{one_reading}
use Rattle.lrc_trace.proofs.Positions.{Does-node, Does-one_node}
use Rattle.lrc_exec.specs.Meaning.{Thread}
use Rattle.lrc_exec.specs.Follows.{FollowsText}
use Rattle.lrc_consistency_laws.proofs.Ahead.{take_ahead}
use Rattle.lrc_lines.specs.Makes.{MakesNext, statement, barrier as at_barrier, end}
use Rattle.lrc_lines.specs.Tasks.{Task}
use Rattle.lrc_lines.specs.Walks.{Walk, led, led_by}
use Rattle.lrc_lines.proofs.Agreeing.{agrees_behind}
use Rattle.lrc_lines.proofs.Making.{makes_behind}
use Rattle.lrc_lint_warned.specs.declared.found.Found.{Found}
use Rattle.lrc_lint_warned.specs.declared.found.Kind.TheVariants as kinds
use Rattle.lrc_lint_warned.specs.declared.places.Scan.TheVariants.{Statements}
use Rattle.lrc_lint_warned.specs.Blocks.{is_acquire, is_barrier, learning_nothing, learns_kind, some_learns}
use Rattle.lrc_lint_warned.specs.Found.{found_at}
use Rattle.lrc_lint_warned.specs.Inside.{statements_in}
use Rattle.lrc_lint_warned.specs.Places.{places_in}
use Rattle.lrc_lint_laws.specs.Comes.{IsAt, statements_of_text, walk_to}
use Rattle.lrc_lint_laws.specs.Loops.{GoesRound, IsInLoop, Learns, StaysInLoop, acquiring, arriving, departing}
use Rattle.lrc_lint_laws.proofs.Listed.{in_flat, in_found_at}
use Rattle.lrc_lint_laws.proofs.Loops.{both_true, kind_true, not_true, or_none, IsLoop, Left, Rounds, after_step, first_free}
use Rattle.lrc_lint_laws.proofs.Made.{Fits, fits, fits_acquire, fits_arrive}
use Rattle.lrc_lint_laws.proofs.Moves.{Moved, moved_led, more_is}
use Rattle.lrc_lint_laws.proofs.Reached.{comes_to}

abbrev learns_by : ℕ → Tree → Bool
learns_by k s = is_acquire s || is_barrier s

abbrev Always : ℕ → Type 0
Always k = Unit {0}

-- no deed of a statement that is neither an acquire nor a barrier teaches a node
of_acquire : (t : Thread) (l : ℕ) (s : Statement) → learns_by 0 (statement_of s) ≡ false → Fits t s (deeds.Acquire l) → ⊥
of_acquire t l s none (fits_acquire value) = cc

of_arrive : (t : Thread) (s : Statement) → learns_by 0 (statement_of s) ≡ false → Fits t s deeds.Arrive → ⊥
of_arrive t s none fits_arrive = cc

of_depart : (t : Thread) (s : Statement) → Fits t s deeds.Depart → ⊥
of_depart t s fit = elim fit [ ]

fits_none : (t : Thread) (s : Statement) (d : Deed) → learns_by 0 (statement_of s) ≡ false → Fits t s d → Learns d → ⊥
fits_none t s d none fit (acquiring {lock = l}) = of_acquire t l s none fit
fits_none t s d none fit arriving = of_arrive t s none fit
fits_none t s d none fit departing = of_depart t s fit

there_is : {A : Type 0} (xs : List A) (m : ℕ) → m < length xs → (x : A) × (slice_get xs m ≡ Some x)
there_is [] m lt = absurd (omega (arith, lt))
there_is (x ∷ xs) zero lt = (x, refl)
there_is (x ∷ xs) (suc m) lt = there_is xs m (omega (arith, lt))

too_long : (todo inside more : List Task) (loop : Task) → todo ≡ more → todo ≡ inside ++ loop ∷ more → ⊥
too_long todo inside more loop gone is =
    let same : length more ≡ length (inside ++ loop ∷ more) = ap length (sym gone ∙ is) in
    omega (arith, same, length-append inside (loop ∷ more))

module _ (text : Program) (tokens : List Token) (nodes node : ℕ) (acts : List Act)
    (s : Statement) (e : Expression) {m : _} (a : Row_of-Statement m) (is_loop : IsLoop s e a) (lines : List ℕ) (more : List Task)
    (none : some_learns (statements_in (row_of a)) ≡ false) where
  abbrev At : ℕ → Walk
  At i = walk_to text tokens nodes (take i acts) node

  abbrev body : (k : ℕ) → Always k → list_any (learns_by k) (statements_in (row_of a)) ≡ false
  body k q = none

  abbrev Goes' : Walk → Type 0
  Goes' walk = Rounds learns_by Always s e a is_loop lines more body walk.todo

  abbrev the_loop : Task
  the_loop = record { statement = s; lines = lines }

  one_step : (walk after : Walk) → (after ≡ walk) ⊎ Moved walk after → Goes' walk → IsInLoop after the_loop more → Goes' after
  one_step walk after (inl same) rounds stays = subst Goes' (sym same) rounds
  one_step walk after (inr moved) rounds stays =
      by (after_step learns_by Always s e a is_loop lines more body walk.thread after.thread moved.task moved.more rounds.inside after.todo
      (sym moved.todo ∙ rounds.is) rounds.free moved.moves)
    where
      by : Goes' after ⊎ Left learns_by Always s e a is_loop lines more body walk.thread moved.task after.todo → Goes' after
      by (inl here) = here
      by (inr left) = absurd (too_long after.todo stays.inside more the_loop left.1 stays.todo)

  next_act : (i : ℕ) (act : Act) → slice_get acts i ≡ Some act → Goes' (At i) → IsInLoop (At (suc i)) the_loop more → Goes' (At (suc i))
  next_act i act there rounds stays =
      let walk = At i in
      let is : At (suc i) ≡ led_by node walk act =
      ap (λ l. walk_to text tokens nodes l node) (take_ahead acts i act there)
      ∙ more_is text nodes (places_in Statements tokens) node (λ w. Unit {0}) (take i acts) act in
      subst Goes' (sym is) (by (act.node == node) (subst (λ w. IsInLoop w the_loop more) is stays))
    where
      by : (b : Bool) → IsInLoop (if b then led (At i) act.deed else At i) the_loop more → Goes' (if b then led (At i) act.deed else At i)
      by true in_loop =
          one_step (At i) (led (At i) act.deed)
          (moved_led (At i) act.deed (agrees_behind text nodes (places_in Statements tokens) (take i acts) node)) rounds in_loop
      by false in_loop = rounds

  rounds_upto : (i n : ℕ) → (At i).todo ≡ the_loop ∷ more → i + n ≤ length acts
      → ((k : ℕ) → i ≤ k → k ≤ i + n → IsInLoop (At k) the_loop more) → Goes' (At (i + n))
  rounds_upto i zero todo within stays =
      subst (λ k. Goes' (At k)) (nothing_more i) (record { inside = []; is = todo; free = tt })
    where
      nothing_more : (i : ℕ) → i ≡ i + 0
      nothing_more i = omega arith
  rounds_upto i (suc n) todo within stays =
      let before = rounds_upto i n todo (omega (arith, within)) (λ k from upto. stays k from (omega (arith, upto))) in
      let (act, there) = there_is acts (i + n) (omega (arith, within)) in
      subst (λ k. Goes' (At k)) (one_more i n)
      (next_act (i + n) act there before (stays (suc (i + n)) (omega arith) (omega arith)))
    where
      one_more : (i n : ℕ) → suc (i + n) ≡ i + suc n
      one_more i n = omega arith

  -- what the node does there teaches it nothing
  not_taught : (i : ℕ) (d : Deed) → Goes' (At i) → MakesNext (At i) d → Learns d → ⊥
  not_taught i d rounds (statement {task = task} {more = rest} {after = after} todo goes) learns =
      fits_none (At i).thread task.statement d
      (first_free learns_by Always s e a is_loop lines more body (learns_by 0) task rest rounds.inside (sym todo ∙ rounds.is) rounds.free
      (λ x free. (or_none _ _ (free 0 tt)).0) refl)
      (fits (At i).thread d after task.statement _ goes) learns
  not_taught i d rounds (at_barrier {task = task} {more = rest} todo meets) learns =
      let free = first_free learns_by Always s e a is_loop lines more body (learns_by 0) task rest rounds.inside (sym todo ∙ rounds.is) rounds.free
      (λ x h. (or_none _ _ (h 0 tt)).0) refl in
      let no = sym (ap (λ x. learns_by 0 (statement_of x)) meets) ∙ free in
      cc
  not_taught i d rounds (end gone) learns = elim learns [ ]

  quiet_in_loop : (i j : ℕ) (d : Deed) → FollowsText text nodes acts → node < nodes → (At i).todo ≡ the_loop ∷ more → i ≤ j
      → ((k : ℕ) → i ≤ k → k ≤ j → IsInLoop (At k) the_loop more) → Does acts j node d → Learns d → ⊥
  quiet_in_loop i j d follows few todo later stays does =
      let lt = slice_get_within acts j _ does.stands in
      let sum : i + (j - i) ≡ j = omega (arith, later) in
      let rounds = rounds_upto i (j - i) todo (omega (arith, sum, lt)) (λ k from upto. stays k from (omega (arith, sum, upto))) in
      not_taught j d (subst (λ k. Goes' (At k)) sum rounds)
      (makes_behind text nodes (places_in Statements tokens) acts j node d follows does few)

-- ---- what happens before

less_or_more : (x i : ℕ) → (x ≡ i → ⊥) → (x < i) ⊎ (i < x)
less_or_more x i apart = by (nat_lt x i) refl
  where
    by : (b : Bool) → nat_lt x i ≡ b → (x < i) ⊎ (i < x)
    by true lt = inl (ltb-true x i lt)
    by false le = let h = ltb-false x i le in inr (omega (arith, h, apart))

module _ (run : List Act) (node i j : ℕ) (d : Deed) (begins : Does run i node d)
    (quiet : (k : ℕ) (b : Deed) → i ≤ k → k ≤ j → Does run k node b → Learns b → ⊥) (other : ℕ) (apart : other ≢ node) where
  pub known_before : (k l : ℕ) (b c : Deed) → HappensBefore run k l → Does run k other b → Does run l node c → i ≤ l → l ≤ j → HappensBefore run k i
  known_before k l b c (base (program {node = n} lt dk dl)) from does later upto =
      absurd (apart (Does-one_node from dk ∙ sym (Does-one_node does dl)))
  known_before k l b c (base (lock {l = m} lt dk dl)) from does later upto =
      absurd (quiet l (deeds.Acquire m) later upto (Does-node (Does-one_node dl does) dl) acquiring)
  known_before k l b c (base (barrier lt dk dl same)) from does later upto =
      absurd (quiet l deeds.Depart later upto (Does-node (Does-one_node dl does) dl) departing)
  known_before k l b c (further {j = x} h (program {node = n} {a = deed} lt dx dl)) from does later upto =
      let own : Does run x node deed = Does-node (Does-one_node dl does) dx in
      elim (cases_eq x i) [
        | inl same ↦ subst (HappensBefore run k) same h
        | inr not_now ↦ elim (less_or_more x i not_now) [
          | inl before ↦ further h (program before own begins)
          | inr after ↦ known_before k x b deed h from own (omega (arith, after)) (omega (arith, lt, upto))
        ]
      ]
  known_before k l b c (further h (lock {l = m} lt dx dl)) from does later upto =
      absurd (quiet l (deeds.Acquire m) later upto (Does-node (Does-one_node dl does) dl) acquiring)
  known_before k l b c (further h (barrier lt dx dl same)) from does later upto =
      absurd (quiet l deeds.Depart later upto (Does-node (Does-one_node dl does) dl) departing)

-- ---- of texts

module _ (text : Program) (tokens : List Token) (at : ℕ)
    (has : Contains (learning_nothing (statements_of_text text tokens)) (record { at = at; kind = kinds.LearnsNothing }))
    (nodes node : ℕ) (acts : List Act) (follows : FollowsText text nodes acts) (few : node < nodes) (i j : ℕ) (round : GoesRound text tokens nodes acts node at i j) where
  learns_not : (s : Statement) (lines : List ℕ) → (walk_to text tokens nodes (take i acts) node).todo ≡ record { statement = s; lines = lines } ∷ round.here.more
      → learns_kind (statement_of s) ≡ Some kinds.LearnsNothing
      → StaysInLoop text tokens nodes acts node (record { statement = s; lines = lines }) round.here.more i j
      → (k : ℕ) (d : Deed) → i ≤ k → k ≤ j → Does acts k node d → Learns d → ⊥
  learns_not (While' e p a) lines todo kind stays k d from upto does =
      quiet_in_loop text tokens nodes node acts (While' e p a) e a
      (record { tree = refl; on = λ lines more. refl; off = λ lines more. refl; value = λ t. refl }) lines round.here.more
      (not_true _ (both_true _ _ (kind_true _ _ _ kind)).0) i k d follows few todo from (λ l after before. stays l after (omega (arith, before, upto))) does
  learns_not (Assign k e) lines todo kind stays l d from upto does = cc
  learns_not (Read k e) lines todo kind stays l d from upto does = cc
  learns_not (Write e v) lines todo kind stays l d from upto does = cc
  learns_not (Acquire e) lines todo kind stays l d from upto does = cc
  learns_not (Release e) lines todo kind stays l d from upto does = cc
  learns_not Barrier lines todo kind stays l d from upto does = cc
  learns_not (Print e) lines todo kind stays l d from upto does = cc
  learns_not (If' e p a q b) lines todo kind stays l d from upto does = cc

  -- no deed of the node in the loop teaches it
  pub learns_no_deed : (k : ℕ) (d : Deed) → i ≤ k → k ≤ j → Does acts k node d → Learns d → ⊥
  learns_no_deed =
      let f : Found = record { at = at; kind = kinds.LearnsNothing } in
      let one = in_flat (λ s. found_at s.at (learns_kind s.statement)) (statements_of_text text tokens) f has in
      let (place, kind) = in_found_at one.x.at (learns_kind one.x.statement) f one.has in
      let there : IsAt (walk_to text tokens nodes (take i acts) node) one.x.at =
      record { task = round.here.task; more = round.here.more; todo = round.here.todo; place = round.here.place ∙ ap Some (sym place) } in
      learns_not round.here.task.statement round.here.task.lines round.here.todo
      (ap learns_kind (comes_to text tokens nodes (take i acts) node one.x one.k one.at there) ∙ kind) round.stays

  -- what happens before the act in the loop, of another node, happened before the node came to the loop
  pub learns_no_act : (k other : ℕ) (b c : Deed) → Does acts k other b → other ≢ node → Does acts j node c → HappensBefore acts k j → HappensBefore acts k i
  learns_no_act k other b c from apart does before =
      known_before acts node i j round.begins.0 round.begins.1 learns_no_deed other apart k j b c before from does round.later (omega arith)

  pub learns_no_write : ReadsLazily acts → (word v : ℕ) → Does acts j node (deeds.Read word v)
      → (v ≡ 0) ⊎ ((k : ℕ) × WrittenBefore acts j word k v × (Does acts k node (deeds.Write word v) ⊎ HappensBefore acts k i))
  learns_no_write reads word v does = by (reads j word v (node, does)).weak
    where
      by : (v ≡ 0) ⊎ ((k : ℕ) × WrittenBefore acts j word k v)
          → (v ≡ 0) ⊎ ((k : ℕ) × WrittenBefore acts j word k v × (Does acts k node (deeds.Write word v) ⊎ HappensBefore acts k i))
      by (inl same) = inl same
      by (inr (k, w)) = inr (
        k,
        w,
        elim (cases_eq w.write.0 node) [
          | inl own ↦ inl (Does-node own w.write.1)
          | inr apart ↦ inr (learns_no_act k w.write.0 (deeds.Write word v) (deeds.Read word v) w.write.1 apart does w.before)
        ],
      )

  -- ---- one value, where the writes are ordered and none is the node's own

  module _ (k word : ℕ) (from : i ≤ k) (upto : k ≤ j) (u : ℕ) (one : Does acts k node (deeds.Read word u)) (c : Deed) (last : Does acts j node c)
      (own : (l v : ℕ) → k ≤ l → l ≤ j → Does acts l node (deeds.Write word v) → ⊥) where
    to_later : (l v : ℕ) → WrittenBefore acts k word l v → WrittenBefore acts j word l v
    to_later l v w = record { write = w.write; before = by (cases_eq k j) }
      where
        by : (k ≡ j) ⊎ (k ≡ j → ⊥) → HappensBefore acts l j
        by (inl same) = subst (HappensBefore acts l) same w.before
        by (inr apart) = further w.before (program (omega (arith, upto, apart)) one last)

    to_earlier : (l v : ℕ) → WrittenBefore acts j word l v → WrittenBefore acts k word l v
    to_earlier l v w = record { write = w.write; before = by (cases_eq w.write.0 node) }
      where
        ahead : l < j
        ahead = forward w.before

        own_one : Does acts l node (deeds.Write word v) → (b : Bool) → nat_lt l k ≡ b → HappensBefore acts l k
        own_one does true lt = base (program (ltb-true l k lt) does one)
        own_one does false le = absurd (own l v (ltb-false l k le) (omega (arith, ahead)) does)

        of_other : HappensBefore acts l i → (i ≡ k) ⊎ (i ≡ k → ⊥) → HappensBefore acts l k
        of_other before (inl same) = subst (HappensBefore acts l) same before
        of_other before (inr apart) = further before (program (omega (arith, from, apart)) round.begins.1 one)

        by : (w.write.0 ≡ node) ⊎ (w.write.0 ≡ node → ⊥) → HappensBefore acts l k
        by (inl mine) = own_one (Does-node mine w.write.1) (nat_lt l k) refl
        by (inr apart) = of_other (learns_no_act l w.write.0 (deeds.Write word v) c w.write.1 apart last w.before) (cases_eq i k)

    -- what the last read may give the first may give
    pub may_read_earlier : (v : ℕ) → AreOrdered acts k word → MayRead acts j word v → MayRead acts k word v
    may_read_earlier v ordered may = record {
      weak = elim may.weak [ inl same ↦ inl same | inr (l, w) ↦ inr (l, to_earlier l v w) ];
      strong = λ same_ordered.
          let late = may.strong (λ l m x y a b lt. ordered l m x y (to_earlier l x a) (to_earlier m y b) lt) in
          record {
            none = λ nothing. late.none (λ l x a. nothing l x (to_earlier l x a));
            last = λ l x a. late.last l x (record { written = to_later l x a.written; last = λ m y b. a.last m y (to_earlier m y b) });
          };
    }

  pub reads_one_value : ReadsLazily acts → (k word u v : ℕ) → i ≤ k → k ≤ j → Does acts k node (deeds.Read word u) → Does acts j node (deeds.Read word v)
      → ((l x : ℕ) → k ≤ l → l ≤ j → ¬ Does acts l node (deeds.Write word x)) → AreOrdered acts k word → u ≡ v
  reads_one_value reads k word u v from upto one last own ordered =
      one_reading acts k word u v ordered (reads k word u (node, one))
      (may_read_earlier k word from upto u one (deeds.Read word v) last own v ordered (reads j word v (node, last)))
