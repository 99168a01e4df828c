-- What stands under an acquire, or a release.
use Rattle.std.proofs.Common.{◌≡◌, ◌∙◌, ◌<◌, ◌≤◌, ◌+◌, ℕ, zero, suc, ap, sym, refl, arith, List, [], ◌∷◌, ◌++◌, length, map, take, get_or, Bool, append_assoc, append-nil}
use Rattle.std.specs.Prelude.{◌&&◌, true, false, cond, OnOk, Result, Option, Some, None, nat_lt, not, option_map, position}
use Rattle.std.specs.List.{enumerate_from, flat_map, list_any, position_or_len, range_with_len}
use Rattle.std.proofs.lemmas.List.{length-map, map-append, take_all, take_more}
use Rattle.std.proofs.lemmas.Bool.{le-ltb, lt-ltb}
use Rattle.std.proofs.lemmas.List.Sums.{position_or_len_is}
use Rattle.std.proofs.lemmas.Result.{on_ok_weaker}
use Rattle.lrc_text.specs.Each.{each}
use Rattle.lrc_program.specs.declared.Expression.{Expression}
use Rattle.lrc_program.specs.declared.Statement.{Statement}
use Rattle.lrc_program.specs.declared.Statement.TheVariants.{Assign, Read, Write, Acquire, Release, Barrier, Print, If', While', If, While}
use Rattle.lrc_program.specs.Statements.{Statement as Tree, statement_of, block_of}
use Rattle.lrc_exec.proofs.Flat.{if_made, while_made}
use Rattle.lrc_lint_warned.specs.declared.held.Side.{Side}
use Rattle.lrc_lint_warned.specs.declared.held.Side.TheVariants.{Acquired, Released}
use Rattle.lrc_lint_warned.specs.declared.found.Found.{Found}
use Rattle.lrc_lint_warned.specs.declared.found.Kind.TheVariants.{HeldAlready, HeldAtBarrier, NotHeld}
use Rattle.lrc_lint_warned.specs.Blocks.{is_barrier}
use Rattle.lrc_lint_warned.specs.Found.{StatementAt, found_at}
use Rattle.lrc_lint_warned.specs.Held.{Path, passes, beside, enters, acquire_by, barrier_by, found_if, held_already_at, held_at_barrier, held_at_barrier_at, is_under}
use Rattle.lrc_lint_warned.specs.Held.{not_held_at, paths, paths_within, release_by, takes, undoes, with_path}
use Rattle.lrc_lint_warned.specs.Locks.{acquires, releases}
use Rattle.lrc_lint_warned.specs.Inside.{statements_in, within}
use Rattle.lrc_lint_warned.proofs.Trees.{if_is, while_is}

-- the path behind these statements
abbrev pub behind_all : Path → List Statement → Path
behind_all path [] = path
behind_all path (s ∷ others) = behind_all (passes (statement_of s) ∷ path) others

behind_more : (path : Path) (block : List Statement) (s : Statement) → behind_all path (block ++ s ∷ []) ≡ passes (statement_of s) ∷ behind_all path block
behind_more path [] s = refl
behind_more path (first ∷ others) s = behind_more (passes (statement_of first) ∷ path) others s

paths_more : (path : Path) (block : List Statement) (s : Statement)
    → paths path (block_of (block ++ s ∷ [])) ≡ paths path (block_of block) ++ (behind_all path block ∷ paths_within (behind_all path block) (statement_of s))
paths_more path [] s = ap (λ l. path ∷ l) (append-nil (paths_within path (statement_of s)))
paths_more path (first ∷ others) s =
    let after = passes (statement_of first) ∷ path in
    let last = behind_all after others in
    ap (λ l. path ∷ (paths_within path (statement_of first) ++ l)) (paths_more after others s)
    ∙ ap (λ l. path ∷ l) (sym (append_assoc (paths_within path (statement_of first)) (paths after (block_of others)) (last ∷ paths_within last (statement_of s))))

-- the statements of a block, one after another
module _ (side : Side) (lock : ℕ) (block : List Statement) (path : Path) where
  pub one_later : (i : ℕ) (s : Statement) (old now after : List Bool) → i < length block → s ≡ get_or block i s
      → now ≡ old ++ map (is_under side lock) (paths path (block_of (take i block)))
      → after ≡ now ++ map (is_under side lock) (behind_all path (take i block) ∷ paths_within (behind_all path (take i block)) (statement_of s))
      → after ≡ old ++ map (is_under side lock) (paths path (block_of (take (i + 1) block)))
  one_later i s old now after lt here is more =
      let front = take i block in
      let last = behind_all path front in
      let added = last ∷ paths_within last (statement_of s) in
      more ∙ ap (λ l. l ++ map (is_under side lock) added) is
      ∙ append_assoc old (map (is_under side lock) (paths path (block_of front))) (map (is_under side lock) added)
      ∙ ap (λ l. old ++ l) (sym (map-append (is_under side lock) (paths path (block_of front)) added))
      ∙ ap (λ l. old ++ map (is_under side lock) l) (sym (paths_more path front s))
      ∙ ap (λ (x : Statement). old ++ map (is_under side lock) (paths path (block_of (front ++ x ∷ [])))) here
      ∙ ap (λ (l : List Statement). old ++ map (is_under side lock) (paths path (block_of l))) (sym (take_more block i s lt))

  pub state_later : (i : ℕ) (s : Statement) (now after : Bool) → i < length block → s ≡ get_or block i s
      → now ≡ is_under side lock (behind_all path (take i block))
      → after ≡ cond (takes side lock (statement_of s)) true (cond (list_any (undoes side lock) (statement_of s ∷ within (statement_of s))) false now)
      → after ≡ is_under side lock (behind_all path (take (i + 1) block))
  state_later i s now after lt here is more =
      more
      ∙ ap (λ (b : Bool). cond (takes side lock (statement_of s)) true (cond (list_any (undoes side lock) (statement_of s ∷ within (statement_of s))) false b)) is
      ∙ ap (is_under side lock) (sym (behind_more path (take i block) s))
      ∙ ap (λ (x : Statement). is_under side lock (behind_all path (take i block ++ x ∷ []))) here
      ∙ ap (λ (l : List Statement). is_under side lock (behind_all path l)) (sym (take_more block i s lt))

  pub all_later : (i : ℕ) (old now : List Bool) → length block ≤ i → now ≡ old ++ map (is_under side lock) (paths path (block_of (take i block)))
      → now ≡ old ++ map (is_under side lock) (paths path (block_of block))
  all_later i old now past is = is ∙ ap (λ (l : List Statement). old ++ map (is_under side lock) (paths path (block_of l))) (take_all i block past)

-- what a statement adds
module _ (side : Side) (lock : ℕ) (path : Path) (s : Statement) (old now : List Bool) (under : Bool) (is_under_path : under ≡ is_under side lock path)
    (pushed : now ≡ old ++ under ∷ []) where
  first_is : now ≡ old ++ is_under side lock path ∷ []
  first_is = pushed ∙ ap (λ (b : Bool). old ++ b ∷ []) is_under_path

  within_none : ((e : _) (a b : _) → s ≡ If e a b → ⊥) → ((e : _) (a : _) → s ≡ While e a → ⊥) → paths_within path (statement_of s) ≡ []
  within_none = none_in s
    where
      none_in : (t : Statement) → ((e : _) (a b : _) → t ≡ If e a b → ⊥) → ((e : _) (a : _) → t ≡ While e a → ⊥) → paths_within path (statement_of t) ≡ []
      none_in (Assign name value) not_if not_while = refl
      none_in (Read name word) not_if not_while = refl
      none_in (Write word value) not_if not_while = refl
      none_in (Acquire lock) not_if not_while = refl
      none_in (Release lock) not_if not_while = refl
      none_in Barrier not_if not_while = refl
      none_in (Print value) not_if not_while = refl
      none_in (If' e p a q b) not_if not_while = absurd (not_if e _ _ (if_made e p a q b))
      none_in (While' e p a) not_if not_while = absurd (not_while e _ (while_made e p a))

  pub puts_straight : ((e : _) (a b : _) → s ≡ If e a b → ⊥) → ((e : _) (a : _) → s ≡ While e a → ⊥)
      → now ≡ old ++ map (is_under side lock) (path ∷ paths_within path (statement_of s))
  puts_straight not_if not_while = first_is ∙ ap (λ l. old ++ map (is_under side lock) (path ∷ l)) (sym (within_none not_if not_while))

  pub puts_while : {R E : Type 0} (result : Result R E) (e : Expression) (a : _) (inside inside_too : List Statement) (inner : Bool) (after : List Bool)
      → s ≡ While e a → inside ≡ a.items → inside_too ≡ a.items
      → inner ≡ cond (list_any (undoes side lock) (statements_in (block_of inside_too))) false under
      → ((q : Path) → inner ≡ is_under side lock q → OnOk result (after ≡ now ++ map (is_under side lock) (paths q (block_of inside))))
      → OnOk result (after ≡ old ++ map (is_under side lock) (path ∷ paths_within path (statement_of s)))
  puts_while result e a inside inside_too inner after is same same_too kept more =
      let q : Path = enters (block_of a.items) ∷ path in
      let inner_is : inner ≡ is_under side lock q =
      kept ∙ ap (λ (l : List Statement). cond (list_any (undoes side lock) (statements_in (block_of l))) false under) same_too
      ∙ ap (λ (b : Bool). cond (list_any (undoes side lock) (statements_in (block_of a.items))) false b) is_under_path in
      on_ok_weaker result
      (λ (h : after ≡ now ++ map (is_under side lock) (paths q (block_of inside))).
      h ∙ ap (λ l. l ++ map (is_under side lock) (paths q (block_of inside))) first_is
      ∙ append_assoc old (is_under side lock path ∷ []) (map (is_under side lock) (paths q (block_of inside)))
      ∙ ap (λ (l : List Statement). old ++ map (is_under side lock) (path ∷ paths q (block_of l))) same
      ∙ ap (λ (t : Tree). old ++ map (is_under side lock) (path ∷ paths_within path t)) (sym (while_is e a))
      ∙ ap (λ (t : Statement). old ++ map (is_under side lock) (path ∷ paths_within path (statement_of t))) (sym is))
      (more q inner_is)

  pub puts_if : {R E : Type 0} (result : Result R E) (e : Expression) (a b : _) (one one_too other : List Statement) (next : Bool) (between after : List Bool)
      → s ≡ If e a b → one ≡ a.items → one_too ≡ a.items → other ≡ b.items
      → ((q : Path) → under ≡ is_under side lock q → between ≡ now ++ map (is_under side lock) (paths q (block_of one)))
      → next ≡ cond (list_any (undoes side lock) (statements_in (block_of one_too))) false under
      → ((q : Path) → next ≡ is_under side lock q → OnOk result (after ≡ between ++ map (is_under side lock) (paths q (block_of other))))
      → OnOk result (after ≡ old ++ map (is_under side lock) (path ∷ paths_within path (statement_of s)))
  puts_if result e a b one one_too other next between after is same_one same_one_too same_other first kept more =
      let q : Path = beside (block_of a.items) ∷ path in
      let next_is : next ≡ is_under side lock q =
      kept ∙ ap (λ (l : List Statement). cond (list_any (undoes side lock) (statements_in (block_of l))) false under) same_one_too
      ∙ ap (λ (b : Bool). cond (list_any (undoes side lock) (statements_in (block_of a.items))) false b) is_under_path in
      let f = map (is_under side lock) in
      on_ok_weaker result
      (λ (h : after ≡ between ++ map (is_under side lock) (paths q (block_of other))).
      h ∙ ap (λ l. l ++ map (is_under side lock) (paths q (block_of other)))
      (first path is_under_path
      ∙ ap (λ l. l ++ map (is_under side lock) (paths path (block_of one))) first_is
      ∙ append_assoc old (is_under side lock path ∷ []) (map (is_under side lock) (paths path (block_of one))))
      ∙ append_assoc old (is_under side lock path ∷ map (is_under side lock) (paths path (block_of one))) (map (is_under side lock) (paths q (block_of other)))
      ∙ ap (λ l. old ++ is_under side lock path ∷ l) (sym (map-append (is_under side lock) (paths path (block_of one)) (paths q (block_of other))))
      ∙ ap (λ (l : List Statement). old ++ map (is_under side lock) (path ∷ (paths path (block_of l) ++ paths q (block_of other)))) same_one
      ∙ ap (λ (l : List Statement). old ++ map (is_under side lock) (path ∷ (paths path (block_of a.items) ++ paths q (block_of l)))) same_other
      ∙ ap (λ (t : Tree). old ++ map (is_under side lock) (path ∷ paths_within path t)) (sym (if_is e a b))
      ∙ ap (λ (t : Statement). old ++ map (is_under side lock) (path ∷ paths_within path (statement_of t))) (sym is))
      (more q next_is)

-- ---- tables

pub get_mapped : {A B : Type 0} (f : A → B) (items : List A) (i : ℕ) (d : A) → get_or (map f items) i (f d) ≡ f (get_or items i d)
get_mapped f [] i d = refl
get_mapped f (x ∷ others) zero d = refl
get_mapped f (x ∷ others) (suc i) d = get_mapped f others i d

each_from : {X Y : Type 0} (f g : ℕ → X → List Y) → ((i : ℕ) (x : X) → f i x ≡ g i x) → (n : ℕ) (items : List X)
    → flat_map (λ at. f at.0 at.1) (enumerate_from n items) ≡ flat_map (λ at. g at.0 at.1) (enumerate_from n items)
each_from f g same n [] = refl
each_from f g same n (x ∷ others) =
    ap (λ l. l ++ flat_map (λ at. f at.0 at.1) (enumerate_from (n + 1) others)) (same n x)
    ∙ ap (λ l. g n x ++ l) (each_from f g same (n + 1) others)

pub each_same : {X Y : Type 0} (f g : ℕ → X → List Y) → ((i : ℕ) (x : X) → f i x ≡ g i x) → (items : List X) → each f items ≡ each g items
each_same f g same items = each_from f g same 0 items

length_to : {A B : Type 0} (f : A → B) (p : B → Bool) (items : List A) → position_or_len p (map f items) ≡ position_or_len (λ x. p (f x)) items
length_to f p [] = refl
length_to f p (x ∷ others) = ap (λ (n : ℕ). cond (not (p (f x))) (1 + n) 0) (length_to f p others)

same_length : {A : Type 0} (p q : A → Bool) → ((x : A) → p x ≡ q x) → (items : List A) → position_or_len p items ≡ position_or_len q items
same_length p q same [] = refl
same_length p q same (x ∷ others) =
    ap (λ (b : Bool). cond (not b) (1 + position_or_len p others) 0) (same x) ∙ ap (λ (n : ℕ). cond (not (q x)) (1 + n) 0) (same_length p q same others)

position_same : {A : Type 0} (p q : A → Bool) → ((x : A) → p x ≡ q x) → (items : List A) → position p items ≡ position q items
position_same p q same items = ap (λ (n : ℕ). cond {A = Option ℕ} (nat_lt n (length items)) (Some n) None) (same_length p q same items)

pub position_mapped : {A B : Type 0} (f : A → B) (p : B → Bool) (items : List A) → position p (map f items) ≡ position (λ x. p (f x)) items
position_mapped f p items =
    ap (λ (n : ℕ). cond {A = Option ℕ} (nat_lt n (length (map f items))) (Some n) None) (length_to f p items)
    ∙ ap (λ (m : ℕ). cond {A = Option ℕ} (nat_lt (position_or_len (λ x. p (f x)) items) m) (Some (position_or_len (λ x. p (f x)) items)) None) (length-map items f)

-- the first that passes a test
pub first_here : {A : Type 0} (p : A → Bool) (items : List A) (i : ℕ) (d : A) → i < length items → ((k : ℕ) → k < i → p (get_or items k d) ≡ false)
    → p (get_or items i d) ≡ true → Some i ≡ position p items
first_here p items i d lt before here =
    let n : position_or_len p items ≡ i = position_or_len_is p items i d (omega (arith, lt)) before (λ h. here) in
    sym (ap (λ (m : ℕ). cond {A = Option ℕ} (nat_lt m (length items)) (Some m) None) n
    ∙ ap (λ (b : Bool). cond {A = Option ℕ} b (Some i) None) (lt-ltb i (length items) lt))

pub first_nowhere : {A : Type 0} (p : A → Bool) (items : List A) (i : ℕ) (d : A) → length items ≤ i → ((k : ℕ) → k < i → p (get_or items k d) ≡ false)
    → None ≡ position p items
first_nowhere p items i d past before =
    let n : position_or_len p items ≡ length items =
    position_or_len_is p items (length items) d (omega arith) (λ k lt. before k (omega (arith, lt, past))) (λ h. absurd (omega (arith, h))) in
    sym (ap (λ (m : ℕ). cond {A = Option ℕ} (nat_lt m (length items)) (Some m) None) n
    ∙ ap (λ (b : Bool). cond {A = Option ℕ} b (Some (length items)) None) (le-ltb (length items) (length items) (omega arith)))

-- ---- tables in place of paths

module _ (lock : ℕ) (under : List Bool) (all : List Path) where
  pub acquires_by : under ≡ map (is_under Acquired lock) all → (statements : List StatementAt)
      → each (acquire_by lock under) statements ≡ with_path (held_already_at lock) statements all
  acquires_by is statements =
      each_same (acquire_by lock under) (λ i s. held_already_at lock s (get_or all i []))
      (λ i s. ap (λ (b : Bool). found_if (acquires lock s.statement && b) s.at (HeldAlready lock))
      (ap (λ (l : List Bool). get_or l i false) is ∙ get_mapped (is_under Acquired lock) all i [])) statements

  pub releases_by : under ≡ map (is_under Released lock) all → (statements : List StatementAt)
      → each (release_by lock under) statements ≡ with_path (not_held_at lock) statements all
  releases_by is statements =
      each_same (release_by lock under) (λ i s. not_held_at lock s (get_or all i []))
      (λ i s. ap (λ (b : Bool). found_if (releases lock s.statement && b) s.at (NotHeld lock))
      (ap (λ (l : List Bool). get_or l i true) is ∙ get_mapped (is_under Released lock) all i [])) statements

pub barriers_by : (locks : ℕ) (tables : List (List Bool)) (all : List Path)
    → tables ≡ map (λ lock. map (is_under Acquired lock) all) (range_with_len 0 locks) → (statements : List StatementAt)
    → each (barrier_by tables) statements ≡ held_at_barrier locks statements all
barriers_by locks tables all is statements =
    each_same (barrier_by tables) (λ i s. held_at_barrier_at locks s (get_or all i []))
    (λ i s. ap (λ (o : Option ℕ). cond {A = List Found} (is_barrier s.statement) (found_at s.at (option_map HeldAtBarrier o)) [])
    (ap (λ (l : List (List Bool)). position (λ under. get_or under i false) l) is
    ∙ position_mapped (λ (lock : ℕ). map (is_under Acquired lock) all) (λ under. get_or under i false) (range_with_len 0 locks)
    ∙ position_same (λ (lock : ℕ). get_or (map (is_under Acquired lock) all) i false) (λ (lock : ℕ). is_under Acquired lock (get_or all i []))
    (λ lock. get_mapped (is_under Acquired lock) all i []) (range_with_len 0 locks))) statements

-- what is added, by tables
pub ok_same : {R E : Type 0} {Y : Type 0} (result : Result R E) (old now one other : List Y) → one ≡ other → OnOk result (now ≡ old ++ one)
    → OnOk result (now ≡ old ++ other)
ok_same result old now one other same h = on_ok_weaker result (λ (is : now ≡ old ++ one). is ∙ ap (λ l. old ++ l) same) h
