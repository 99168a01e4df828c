-- A name that no expression reads: threads that differ in it alone make the same deeds.
use Rattle.std.proofs.Common.{◌≡◌, ◌≢◌, ◌↔◌, ◌∙◌, ℕ, zero, suc, Bool, true, false, Option, Some, None, List, [], ◌∷◌, ◌++◌}
use Rattle.std.proofs.Common.{append-nil, length, map, refl, sym, ap, subst, arith}
use Rattle.std.specs.Prelude.{◌||◌, if◌then◌else◌, find, nat_lt, option_map, slice_index, slice_index_or, slice_set}
use Rattle.std.specs.List.{All, AllByRecursion, Contains, flat_map, list_any, range_with_len, zip}
use Rattle.std.proofs.lemmas.Bool.{eq-eqb}
use Rattle.std.proofs.lemmas.List.{map-append}
use Rattle.std.proofs.lemmas.List.Elements.{All-head, All-tail}
use Rattle.std.proofs.lemmas.List.Folds.{list_any-append}
use Rattle.std.proofs.lemmas.Option.{same_Some}
use Rattle.lrc_program.specs.declared.Expression.{Expression}
use Rattle.lrc_program.specs.declared.Program.{Program}
use Rattle.lrc_program.specs.declared.Statement.{Statement, Row_of-Statement}
use Rattle.lrc_program.specs.declared.Statement.TheVariants.{Assign, Read, Write, Acquire, Release, Barrier, Print, If', While'}
use Rattle.lrc_program.specs.Statements.{Expression as Part, private, Statement as Tree, expression_of, statement_of, row_of, block_of}
use Rattle.lrc_trace.specs.declared.act.Cause.{Cause}
use Rattle.lrc_trace.specs.declared.act.Deed.{Deed}
use Rattle.lrc_exec.specs.Meaning.{Thread, Next, quiet, prints, reads, writes, acquires, releases, arrives, departs, traps, ends}
use Rattle.lrc_exec.specs.Meaning.{block, chosen, first_act, holds, next_of, next_of_statement, or_trap, value_in, value_of}
use Rattle.lrc_exec.specs.Follows.{Goes, Makes, nothing_more, and_then, quietly, printing, reading, writing, acquiring, releasing, arriving, departing, trapping, ending}
use Rattle.lrc_lang.specs.Grammar.{IsProgram}
use Rattle.lrc_lang.specs.Token.{Token}
use Rattle.lrc_program.specs.Tree.{program_of}
use Rattle.lrc_lines.specs.Places.{StandsAmong, in_order, within as code_within}
use Rattle.lrc_lines.specs.Tasks.{Task}
use Rattle.lrc_lines.proofs.Agreeing.{agrees_behind}
use Rattle.lrc_lines.proofs.Placing.{stand_behind}
use Rattle.lrc_trace.specs.declared.act.Act.{Act}
use Rattle.lrc_lint_warned.specs.declared.found.Found.{Found}
use Rattle.lrc_lint_warned.specs.declared.found.Kind.TheVariants.{NeverRead}
use Rattle.lrc_lint_warned.specs.declared.places.Scan.TheVariants.{Nodes, Statements}
use Rattle.lrc_lint_warned.specs.Found.{NodeAt, StatementAt, found_where}
use Rattle.lrc_lint_warned.specs.Places.{node_at, places_in}
use Rattle.lrc_lint_warned.specs.Inside.{nodes_in, nodes_of, statements_in, within}
use Rattle.lrc_lint_warned.specs.Names.{is_name, never_read, never_read_of, sets, some_read}
use Rattle.lrc_lint_laws.specs.Comes.{nodes_of_text, statements_of_text, thread_to, walk_to}
use Rattle.lrc_lint_laws.proofs.PartsCounted.{as_many_parts}
use Rattle.lrc_lint_laws.proofs.Listed.{in_flat, in_found_where, in_none}
use Rattle.lrc_lint_laws.proofs.Moves.{statements}
use Rattle.lrc_lint_laws.proofs.Loops.{none_passes, or_none, value_same}
use Rattle.lrc_lint_laws.proofs.Reached.{order_is, row_is, within_is}

-- ---- lists that differ at one place

-- lists as long as one another that differ at this place alone, if at all
abbrev pub DifferIn : ℕ → List ℕ → List ℕ → Type 0
DifferIn place [] [] = Unit {0}
DifferIn zero (x ∷ xs) (y ∷ ys) = xs ≡ ys
DifferIn (suc place) (x ∷ xs) (y ∷ ys) = (x ≡ y) × DifferIn place xs ys
DifferIn _ _ _ = ⊥

pub but_get : (n k : ℕ) (xs ys : List ℕ) → DifferIn n xs ys → k ≢ n → slice_index xs k ≡ slice_index ys k
but_get n k [] [] same apart = refl
but_get n k [] (y ∷ ys) same apart = absurd same
but_get zero k (x ∷ xs) [] same apart = absurd same
but_get (suc n) k (x ∷ xs) [] same apart = absurd same
but_get zero zero (x ∷ xs) (y ∷ ys) same apart = absurd (apart refl)
but_get zero (suc k) (x ∷ xs) (y ∷ ys) same apart = ap (λ l. slice_index l k) same
but_get (suc n) zero (x ∷ xs) (y ∷ ys) same apart = same.0
but_get (suc n) (suc k) (x ∷ xs) (y ∷ ys) same apart = but_get n k xs ys same.1 (λ e. apart (ap suc e))

pub but_set : (n k v : ℕ) (xs ys : List ℕ) → DifferIn n xs ys → DifferIn n (slice_set xs k v) (slice_set ys k v)
but_set n k v [] [] same = tt
but_set n k v [] (y ∷ ys) same = absurd same
but_set zero k v (x ∷ xs) [] same = absurd same
but_set (suc n) k v (x ∷ xs) [] same = absurd same
but_set zero zero v (x ∷ xs) (y ∷ ys) same = same
but_set zero (suc k) v (x ∷ xs) (y ∷ ys) same = ap (λ l. slice_set l k v) same
but_set (suc n) zero v (x ∷ xs) (y ∷ ys) same = (refl, same.1)
but_set (suc n) (suc k) v (x ∷ xs) (y ∷ ys) same = (same.0, but_set n k v xs ys same.1)

pub but_here : (n v : ℕ) (xs : List ℕ) → DifferIn n xs (slice_set xs n v)
but_here n v [] = tt
but_here zero v (x ∷ xs) = refl
but_here (suc n) v (x ∷ xs) = (refl, but_here n v xs)

pub but_sym : (n : ℕ) (xs ys : List ℕ) → DifferIn n xs ys → DifferIn n ys xs
but_sym n [] [] same = tt
but_sym n [] (y ∷ ys) same = absurd same
but_sym zero (x ∷ xs) [] same = absurd same
but_sym (suc n) (x ∷ xs) [] same = absurd same
but_sym zero (x ∷ xs) (y ∷ ys) same = sym same
but_sym (suc n) (x ∷ xs) (y ∷ ys) same = (sym same.0, but_sym n xs ys same.1)

-- ---- threads

module _ (name : ℕ) where
  abbrev pub reads_it : Tree → Bool
  reads_it s = list_any (is_name name) (nodes_of s)

  abbrev pub Unread : Statement → Type 0
  Unread s = list_any reads_it (statement_of s ∷ within (statement_of s)) ≡ false

  abbrev pub AllUnread : List Statement → Type 0
  AllUnread = AllByRecursion Unread

  unread_append : (xs ys : List Statement) → AllUnread xs → AllUnread ys → AllUnread (xs ++ ys)
  unread_append [] ys one other = other
  unread_append (x ∷ xs) ys one other = (one.0, unread_append xs ys one.1 other)

  pub unread_all : (all : List Statement) → list_any reads_it (statements_in (block_of all)) ≡ false → AllUnread all
  unread_all [] free = tt
  unread_all (s ∷ all) free =
      let split = or_none (list_any reads_it (statement_of s ∷ within (statement_of s))) (list_any reads_it (statements_in (block_of all)))
      (sym (list_any-append reads_it (statement_of s ∷ within (statement_of s)) (statements_in (block_of all))) ∙ free) in
      (split.0, unread_all all split.1)

  unread_row : {m : _} (row : Row_of-Statement m) → list_any reads_it (statements_in (row_of row)) ≡ false → AllUnread (block row)
  unread_row row free = unread_all (block row) (ap (λ b. list_any reads_it (statements_in b)) (row_is row) ∙ free)

  -- two threads that differ in this name alone, which nothing that they have still to do reads
  pub record Twins (t u : Thread) : Type 0 where
    pub setting : t.setting ≡ u.setting
    pub rest : t.rest ≡ u.rest
    pub held : t.held ≡ u.held
    pub arrived : t.arrived ≡ u.arrived
    pub privates : DifferIn name t.privates u.privates
    pub unread : AllUnread t.rest

  data Alike : Next → Next → Type 0 where
    quiets : {t u : Thread} → Twins t u → Alike (quiet t) (quiet u)
    print_both : {v : ℕ} {t u : Thread} → Twins t u → Alike (prints v t) (prints v u)
    read_both : {w : ℕ} {f g : ℕ → Thread} → ((v : ℕ) → Twins (f v) (g v)) → Alike (reads w f) (reads w g)
    write_both : {w v : ℕ} {t u : Thread} → Twins t u → Alike (writes w v t) (writes w v u)
    acquire_both : {l : ℕ} {t u : Thread} → Twins t u → Alike (acquires l t) (acquires l u)
    release_both : {l : ℕ} {t u : Thread} → Twins t u → Alike (releases l t) (releases l u)
    arrive_both : {t u : Thread} → Twins t u → Alike (arrives t) (arrives u)
    depart_both : {t u : Thread} → Twins t u → Alike (departs t) (departs u)
    trap_both : {c : Cause} → Alike (traps c) (traps c)
    end_both : Alike ends ends

  abbrev BothOr : Option Thread → Option Thread → Type 0
  BothOr None None = Unit {0}
  BothOr (Some t) (Some u) = Twins t u
  BothOr _ _ = ⊥

  alike_goes : {n m : Next} {d : Deed} {after : Option Thread} → Alike n m → Goes n d after → (other : Option Thread) × Goes m d other × BothOr after other
  alike_goes (quiets {u = u} twins) quietly = (Some u, quietly, twins)
  alike_goes (print_both {u = u} twins) printing = (Some u, printing, twins)
  alike_goes (read_both {g = g} twins) (reading {v = v}) = (Some (g v), reading, twins v)
  alike_goes (write_both {u = u} twins) writing = (Some u, writing, twins)
  alike_goes (acquire_both {u = u} twins) acquiring = (Some u, acquiring, twins)
  alike_goes (release_both {u = u} twins) releasing = (Some u, releasing, twins)
  alike_goes (arrive_both {u = u} twins) arriving = (Some u, arriving, twins)
  alike_goes (depart_both {u = u} twins) departing = (Some u, departing, twins)
  alike_goes trap_both trapping = (None, trapping, tt)
  alike_goes end_both ending = (None, ending, tt)

  is_its_name : (k : ℕ) (e : Part) → list_any (is_name name) (nodes_in e) ≡ false → Contains (nodes_in e) (private k) → k ≢ name
  is_its_name k e free has same =
      let no = none_passes (is_name name) (nodes_in e) (private k) free has in
      let yes = eq-eqb k name same in
      cc

  value_alike : (t u : Thread) (e : Expression) → t.setting ≡ u.setting → DifferIn name t.privates u.privates
      → list_any (is_name name) (nodes_in (expression_of e)) ≡ false → value_in t e ≡ value_in u e
  value_alike t u e setting privates free =
      value_same t.setting.me t.setting.nodes t.privates u.privates e
      (λ k has. but_get name k t.privates u.privates privates (is_its_name k (expression_of e) free has))
      ∙ ap (λ s. value_of s.me s.nodes u.privates e) setting

  value_both : (o p : Option ℕ) (f g : ℕ → Next) → o ≡ p → ((v : ℕ) → Alike (f v) (g v)) → Alike (or_trap o f) (or_trap p g)
  value_both None None f g same each = trap_both
  value_both (Some v) (Some w) f g same each = subst (λ x. Alike (f v) (g x)) (same_Some v w same) (each v)
  value_both None (Some w) f g same each = cc
  value_both (Some v) None f g same each = cc

  if_both : (b c : Bool) (f g h i : Next) → b ≡ c → Alike f g → Alike h i → Alike (if b then f else h) (if c then g else i)
  if_both true true f g h i same one other = one
  if_both false false f g h i same one other = other
  if_both true false f g h i same one other = cc
  if_both false true f g h i same one other = cc

  module _ (t u : Thread) (setting : t.setting ≡ u.setting) (held : t.held ≡ u.held) (privates : DifferIn name t.privates u.privates)
      (stays : t.arrived ≡ u.arrived) (rest : List Statement) (others : AllUnread rest) where
    own : (e : Expression) → list_any (is_name name) (nodes_in (expression_of e) ++ []) ≡ false → value_in t e ≡ value_in u e
    own e free = value_alike t u e setting privates (ap (list_any (is_name name)) (sym (append-nil (nodes_in (expression_of e)))) ∙ free)

    after : (l : List Statement) → AllUnread l → Twins (record t { rest = l }) (record u { rest = l })
    after l free = record { setting = setting; rest = refl; held = held; arrived = stays; privates = privates; unread = free }

    after_set : (k v : ℕ) → Twins (record t { rest = rest; privates = slice_set t.privates k v }) (record u { rest = rest; privates = slice_set u.privates k v })
    after_set k v = record {
      setting = setting;
      rest = refl;
      held = held;
      arrived = stays;
      privates = but_set name k v t.privates u.privates privates;
      unread = others;
    }

    after_held : (l : ℕ) (b : Bool) → Twins (record t { rest = rest; held = slice_set t.held l b }) (record u { rest = rest; held = slice_set u.held l b })
    after_held l b = record {
      setting = setting;
      rest = refl;
      held = ap (λ h. slice_set h l b) held;
      arrived = stays;
      privates = privates;
      unread = others;
    }

    chosen_both : (v : ℕ) (a b : List Statement) → AllUnread a → AllUnread b → AllUnread (chosen v a b)
    chosen_both zero a b one other = other
    chosen_both (suc v) a b one other = one

    first_own : (s : Statement) → Unread s → (reads_it (statement_of s) ≡ false) × (list_any reads_it (within (statement_of s)) ≡ false)
    first_own s free = or_none (reads_it (statement_of s)) (list_any reads_it (within (statement_of s))) free

    words_same : (w : ℕ) → nat_lt w t.setting.words ≡ nat_lt w u.setting.words
    words_same w = ap (λ s. nat_lt w s.words) setting

    locks_same : (l : ℕ) → nat_lt l t.setting.locks ≡ nat_lt l u.setting.locks
    locks_same l = ap (λ s. nat_lt l s.locks) setting

    holds_same : (l : ℕ) → holds t l ≡ holds u l
    holds_same l = ap (λ h. slice_index_or h l false) held

    alike : (s : Statement) → Unread s → Alike (next_of_statement t s rest) (next_of_statement u s rest)
    alike (Assign k e) free =
        value_both (value_in t e) (value_in u e) _ _ (own e (first_own (Assign k e) free).0) (λ v. quiets (after_set k v))
    alike (Read k e) free =
        value_both (value_in t e) (value_in u e) _ _ (own e (first_own (Read k e) free).0)
        (λ w. if_both (nat_lt w t.setting.words) (nat_lt w u.setting.words) _ _ _ _ (words_same w) (read_both (λ v. after_set k v)) trap_both)
    alike (Write e x) free =
        let parts = or_none _ _ (sym (list_any-append (is_name name) (nodes_in (expression_of e)) (nodes_in (expression_of x) ++ [])) ∙ (first_own (Write e x) free).0) in
        value_both (value_in t e) (value_in u e) _ _ (value_alike t u e setting privates parts.0)
        (λ w. value_both (value_in t x) (value_in u x) _ _ (own x parts.1)
        (λ v. if_both (nat_lt w t.setting.words) (nat_lt w u.setting.words) _ _ _ _ (words_same w) (write_both (after rest others)) trap_both))
    alike (Acquire e) free =
        value_both (value_in t e) (value_in u e) _ _ (own e (first_own (Acquire e) free).0)
        (λ l. if_both (nat_lt l t.setting.locks) (nat_lt l u.setting.locks) _ _ _ _ (locks_same l)
        (if_both (holds t l) (holds u l) _ _ _ _ (holds_same l) trap_both (acquire_both (after_held l true))) trap_both)
    alike (Release e) free =
        value_both (value_in t e) (value_in u e) _ _ (own e (first_own (Release e) free).0)
        (λ l. if_both (nat_lt l t.setting.locks) (nat_lt l u.setting.locks) _ _ _ _ (locks_same l)
        (if_both (holds t l) (holds u l) _ _ _ _ (holds_same l) (release_both (after_held l false)) trap_both) trap_both)
    alike Barrier free = arrive_both (record { setting = setting; rest = refl; held = held; arrived = refl; privates = privates; unread = others })
    alike (Print e) free =
        value_both (value_in t e) (value_in u e) _ _ (own e (first_own (Print e) free).0) (λ v. print_both (after rest others))
    alike (If' e p a q b) free =
        let own_free = first_own (If' e p a q b) free in
        let parts = or_none _ _ (sym (list_any-append reads_it (statements_in (row_of a)) (statements_in (row_of b))) ∙ own_free.1) in
        value_both (value_in t e) (value_in u e) _ _ (own e own_free.0)
        (λ v. quiets (after (chosen v (block a ++ rest) (block b ++ rest))
        (chosen_both v (block a ++ rest) (block b ++ rest) (unread_append (block a) rest (unread_row a parts.0) others)
        (unread_append (block b) rest (unread_row b parts.1) others))))
    alike (While' e p a) free =
        let own_free = first_own (While' e p a) free in
        value_both (value_in t e) (value_in u e) _ _ (own e own_free.0)
        (λ v. quiets (after (chosen v (block a ++ While' e p a ∷ rest) rest)
        (chosen_both v (block a ++ While' e p a ∷ rest) rest (unread_append (block a) (While' e p a ∷ rest) (unread_row a own_free.1) (free, others)) others)))

  first_alike : (t u : Thread) → Twins t u → (rest : List Statement) → AllUnread rest → Alike (first_act t rest) (first_act u rest)
  first_alike t u twins [] free = end_both
  first_alike t u twins (s ∷ rest) free = alike t u twins.setting twins.held twins.privates twins.arrived rest free.1 s free.0

  next_alike : (t u : Thread) → Twins t u → Alike (next_of t) (next_of u)
  next_alike t u twins =
      if_both t.arrived u.arrived _ _ _ _ twins.arrived
      (depart_both (record {
        setting = twins.setting;
        rest = twins.rest;
        held = twins.held;
        arrived = refl;
        privates = twins.privates;
        unread = twins.unread;
      }))
      (subst (λ l. Alike (first_act t t.rest) (first_act u l)) twins.rest (first_alike t u twins t.rest twins.unread))

  makes_both : (o p : Option Thread) (ds : List Deed) → BothOr o p → Makes o ds → Makes p ds
  makes_both o p [] both nothing_more = nothing_more
  makes_both (Some t) (Some u) (d ∷ ds) both (and_then {after = then_on} goes more) =
      let (other, goes_too, next) = alike_goes (next_alike t u both) goes in
      and_then goes_too (makes_both then_on other ds next more)
  makes_both (Some t) None (d ∷ ds) both made = absurd both
  makes_both None p (d ∷ ds) both made = elim made [ ]

  pub twins_make : (t u : Thread) (ds : List Deed) → Twins t u → Makes (Some t) ds → Makes (Some u) ds
  twins_make t u ds twins made = makes_both (Some t) (Some u) ds twins made

-- ---- of texts

any_zipped : (test : Part → Bool) (ps : List ℕ) (parts : List Part) → length ps ≡ length parts
    → list_any (λ (n : NodeAt). test n.node) (map node_at (zip ps parts)) ≡ list_any test parts
any_zipped test [] [] same = refl
any_zipped test [] (x ∷ parts) same = absurd (omega (arith, same))
any_zipped test (p ∷ ps) [] same = absurd (omega (arith, same))
any_zipped test (p ∷ ps) (x ∷ parts) same = ap (λ b. test x || b) (any_zipped test ps parts (omega (arith, same)))

any_flat : {A B : Type 0} (test : B → Bool) (f : A → List B) (xs : List A) → list_any test (flat_map f xs) ≡ list_any (λ x. list_any test (f x)) xs
any_flat test f [] = refl
any_flat test f (x ∷ xs) = list_any-append test (f x) (flat_map f xs) ∙ ap (λ b. list_any test (f x) || b) (any_flat test f xs)

unread_in : (name : ℕ) (nodes : List NodeAt) (all : List StatementAt) (found : Found) → found.kind ≡ NeverRead name
    → Contains (never_read nodes all) found → some_read nodes name ≡ false
unread_in name nodes all found kind has =
    let one = in_flat (never_read_of nodes all) (range_with_len 0 32) found has in
    by one.x (some_read nodes one.x) refl one.has
  where
    same_name : (a b : ℕ) → NeverRead a ≡ NeverRead b → a ≡ b
    same_name a b is = cc

    by : (other : ℕ) (b : Bool) → some_read nodes other ≡ b
        → Contains (if b then [] else found_where (option_map (λ s. s.at) (find (λ s. sets other s.statement) all)) (NeverRead other)) found
        → some_read nodes name ≡ false
    by other true is c = absurd (in_none found c)
    by other false is c =
        let h = in_found_where (option_map (λ s. s.at) (find (λ s. sets other s.statement) all)) (NeverRead other) found c in
        ap (some_read nodes) (sym (same_name other name (h.1 ∙ kind))) ∙ is

module _ (program : Program) (tokens : List Token) (name : ℕ)
    (free : list_any (reads_it name) (statements_in (block_of program.statements.items)) ≡ false) where
  task_unread : (lines : List ℕ) (task : Task) → StandsAmong (in_order program.statements.items) lines task → Unread name task.statement
  task_unread lines task stands =
      let all = in_order program.statements.items in
      let own = statement_of task.statement ∷ within (statement_of task.statement) in
      let whole : map statement_of all ≡ map statement_of stands.before ++ (own ++ map statement_of stands.after) =
      ap (map statement_of) stands.place ∙ map-append statement_of stands.before (task.statement ∷ (code_within task.statement ++ stands.after))
      ∙ ap (λ l. map statement_of stands.before ++ (statement_of task.statement ∷ l))
      (map-append statement_of (code_within task.statement) stands.after ∙ ap (λ l. l ++ map statement_of stands.after) (within_is task.statement)) in
      let none : list_any (reads_it name) (map statement_of stands.before ++ (own ++ map statement_of stands.after)) ≡ false =
      ap (list_any (reads_it name)) (sym whole ∙ order_is program.statements.items) ∙ free in
      let behind = or_none _ _ (sym (list_any-append (reads_it name) (map statement_of stands.before) (own ++ map statement_of stands.after)) ∙ none) in
      (or_none _ _ (sym (list_any-append (reads_it name) own (map statement_of stands.after)) ∙ behind.1)).0

  todo_unread : (lines : List ℕ) (todo : List Task) → All (StandsAmong (in_order program.statements.items) lines) todo → AllUnread name (statements todo)
  todo_unread lines [] stand = tt
  todo_unread lines (task ∷ todo) stand = (
    task_unread lines task (All-head (StandsAmong (in_order program.statements.items) lines) task todo stand),
    todo_unread lines todo (All-tail (StandsAmong (in_order program.statements.items) lines) task todo stand),
  )

  same_deeds : (nodes : ℕ) (acts : List Act) (node value : ℕ) (deeds : List Deed)
      → let t = thread_to program tokens nodes acts node in Makes (Some t) deeds ↔ Makes (Some (record t { privates = slice_set t.privates name value })) deeds
  same_deeds nodes acts node value deeds =
      let t = thread_to program tokens nodes acts node in
      let u : Thread = record t { privates = slice_set t.privates name value } in
      let lines = places_in Statements tokens in
      let unread : AllUnread name t.rest =
      subst (AllUnread name) (agrees_behind program nodes lines acts node).0
      (todo_unread lines (walk_to program tokens nodes acts node).todo (stand_behind program nodes lines acts node)) in (
        twins_make name t u deeds
            (record { setting = refl; rest = refl; held = refl; arrived = refl; privates = but_here name value t.privates; unread = unread }),
        twins_make name u t deeds
            (record {
              setting = refl;
              rest = refl;
              held = refl;
              arrived = refl;
              privates = but_sym name t.privates u.privates (but_here name value t.privates);
              unread = unread;
            }),
      )

pub never_read_changes_nothing : (program : Program) (tokens : List Token) (at name : ℕ) → IsProgram (program_of program) tokens
    → Contains (never_read (nodes_of_text program tokens) (statements_of_text program tokens)) (record { at = at; kind = NeverRead name })
    → (nodes : ℕ) (acts : List Act) (node value : ℕ) (deeds : List Deed)
    → let t = thread_to program tokens nodes acts node in Makes (Some t) deeds ↔ Makes (Some (record t { privates = slice_set t.privates name value })) deeds
never_read_changes_nothing program tokens at name is_text has nodes acts node value deeds =
    let all = statements_in (block_of program.statements.items) in
    let none = unread_in name (nodes_of_text program tokens) (statements_of_text program tokens) (record { at = at; kind = NeverRead name }) refl has in
    let free : list_any (reads_it name) all ≡ false =
    sym (any_flat (is_name name) nodes_of all)
    ∙ sym (any_zipped (is_name name) (places_in Nodes tokens) (flat_map nodes_of all) (as_many_parts (program_of program) tokens is_text)) ∙ none in
    same_deeds program tokens name free nodes acts node value deeds
