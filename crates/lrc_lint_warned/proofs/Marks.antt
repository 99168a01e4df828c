-- What undoes an acquire, or a release, inside each statement: how its marks are made, and where they are found.
use Rattle.std.proofs.Common.{◌≡◌, ◌∙◌, ◌<◌, ◌≤◌, ◌+◌, ◌||◌, ℕ, suc, ap, ap₂, sym, refl, subst, arith, List, [], ◌∷◌, ◌++◌, length, map, take, drop, get_or, Bool, append_assoc, append-nil}
use Rattle.std.specs.Prelude.{true, false, cond, slice_set}
use Rattle.std.specs.List.{list_any}
use Rattle.std.proofs.lemmas.List.{drop-drop, drop_at, drop_more, get_or-drop, length-append, length-map, map-append, take-append-drop, take_all, take_more}
use Rattle.std.proofs.lemmas.List.Folds.{list_any-append}
use Rattle.std.proofs.Math.Seq.{set-append_seam}
use Rattle.lrc_program.specs.declared.Expression.{Expression}
use Rattle.lrc_program.specs.declared.Statement.{Statement}
use Rattle.lrc_program.specs.declared.Statement.TheVariants.{If, While}
use Rattle.lrc_program.specs.Statements.{Statement as Tree, assign, read, write, acquire, release, barrier, print, if_else, while_do, Block, empty, next}
use Rattle.lrc_program.specs.Statements.{statement_of, block_of, expression_of}
use Rattle.lrc_lint_warned.specs.declared.held.Side.{Side}
use Rattle.lrc_lint_warned.specs.declared.held.Side.TheVariants.{Acquired, Released}
use Rattle.lrc_lint_warned.specs.declared.undone.Undone.{Undone}
use Rattle.lrc_lint_warned.specs.Held.{Path, beside, enters, passes, is_under, paths, paths_within, takes, undoes}
use Rattle.lrc_lint_warned.specs.Inside.{statements_in, within}
use Rattle.lrc_lint_warned.specs.Undone.{AreMarked, first_block, nothing_undone, undone_by}
use Rattle.lrc_lint_warned.proofs.Trees.{if_is, one_more, while_is}

-- ---- as many paths as statements

mutual
  length_within : (s : Tree) (path : Path) → length (paths_within path s) ≡ length (within s)
  length_within (if_else condition a b) path =
      length-append (paths path a) (paths (beside a ∷ path) b)
      ∙ ap₂ ◌+◌ (length_block a path) (length_block b (beside a ∷ path))
      ∙ sym (length-append (statements_in a) (statements_in b))
  length_within (while_do condition a) path = length_block a (enters a ∷ path)
  length_within (assign name value) path = refl
  length_within (read name word) path = refl
  length_within (write word value) path = refl
  length_within (acquire lock) path = refl
  length_within (release lock) path = refl
  length_within barrier path = refl
  length_within (print value) path = refl

  pub length_block : (b : Block) (path : Path) → length (paths path b) ≡ length (statements_in b)
  length_block empty path = refl
  length_block (next s others) path =
      ap suc (length-append (paths_within path s) (paths (passes s ∷ path) others)
      ∙ ap₂ ◌+◌ (length_within s path) (length_block others (passes s ∷ path))
      ∙ sym (length-append (within s) (statements_in others)))

-- ---- the statements of a block, cut at one of them

block_append : (a b : List Statement) → statements_in (block_of (a ++ b)) ≡ statements_in (block_of a) ++ statements_in (block_of b)
block_append [] b = refl
block_append (s ∷ a) b =
    let own = within (statement_of s) in
    ap (λ l. statement_of s ∷ (own ++ l)) (block_append a b)
    ∙ ap (λ l. statement_of s ∷ l) (sym (append_assoc own (statements_in (block_of a)) (statements_in (block_of b))))

block_at : (block : List Statement) (i : ℕ) (s : Statement) → i < length block → s ≡ get_or block i s
    → statements_in (block_of block)
    ≡ statements_in (block_of (take i block)) ++ ((statement_of s ∷ within (statement_of s)) ++ statements_in (block_of (drop (i + 1) block)))
block_at block i s lt here =
    let front = statements_in (block_of (take i block)) in
    let back = statements_in (block_of (drop (i + 1) block)) in
    ap (λ (l : List Statement). statements_in (block_of l)) (sym (take-append-drop i block))
    ∙ block_append (take i block) (drop i block)
    ∙ ap (λ (l : List Statement). front ++ statements_in (block_of l)) (drop_more block i s lt)
    ∙ ap (λ (x : Statement). front ++ (statement_of x ∷ (within (statement_of x) ++ back))) (sym here)

block_later : (block : List Statement) (i : ℕ) (s : Statement) → i < length block → s ≡ get_or block i s
    → statements_in (block_of (take (i + 1) block))
    ≡ statements_in (block_of (take i block)) ++ (statement_of s ∷ within (statement_of s))
block_later block i s lt here =
    ap (λ (l : List Statement). statements_in (block_of l)) (take_more block i s lt)
    ∙ ap (λ (x : Statement). statements_in (block_of (take i block ++ x ∷ []))) (sym here)
    ∙ one_more (take i block) s

-- ---- how marks are made

while_undoes : (side : Side) (lock : ℕ) (e : _) (b : Block) → undoes side lock (while_do e b) ≡ false
while_undoes Acquired lock e b = refl
while_undoes Released lock e b = refl

if_undoes : (side : Side) (lock : ℕ) (e : _) (a b : Block) → undoes side lock (if_else e a b) ≡ false
if_undoes Acquired lock e a b = refl
if_undoes Released lock e a b = refl

module _ (side : Side) (lock : ℕ) where
  abbrev pub some_in : List Tree → Bool
  some_in all = list_any (undoes side lock) all

  abbrev pub marks_of : List Tree → List Undone
  marks_of all = map (undone_by side lock) all

  -- a block, one statement after another
  module _ (block : List Statement) where
    pub marks_later : (i : ℕ) (s : Statement) (old now after : List Undone) → i < length block → s ≡ get_or block i s
        → now ≡ old ++ marks_of (statements_in (block_of (take i block)))
        → after ≡ now ++ marks_of (statement_of s ∷ within (statement_of s))
        → after ≡ old ++ marks_of (statements_in (block_of (take (i + 1) block)))
    marks_later i s old now after lt here is more =
        let front = statements_in (block_of (take i block)) in
        let own = statement_of s ∷ within (statement_of s) in
        more ∙ ap (λ l. l ++ marks_of own) is
        ∙ append_assoc old (marks_of front) (marks_of own)
        ∙ ap (λ l. old ++ l) (sym (map-append (undone_by side lock) front own))
        ∙ ap (λ l. old ++ marks_of l) (sym (block_later block i s lt here))

    pub some_later : (i : ℕ) (s : Statement) (now one after : Bool) → i < length block → s ≡ get_or block i s
        → now ≡ some_in (statements_in (block_of (take i block)))
        → one ≡ some_in (statement_of s ∷ within (statement_of s))
        → after ≡ (now || one)
        → after ≡ some_in (statements_in (block_of (take (i + 1) block)))
    some_later i s now one after lt here is own more =
        more ∙ ap₂ ◌||◌ is own
        ∙ sym (list_any-append (undoes side lock) (statements_in (block_of (take i block))) (statement_of s ∷ within (statement_of s)))
        ∙ ap some_in (sym (block_later block i s lt here))

    pub marks_all : (i : ℕ) (old now : List Undone) → length block ≤ i → now ≡ old ++ marks_of (statements_in (block_of (take i block)))
        → now ≡ old ++ marks_of (statements_in (block_of block))
    marks_all i old now past is = is ∙ ap (λ (l : List Statement). old ++ marks_of (statements_in (block_of l))) (take_all i block past)

    pub some_all : (i : ℕ) (now : Bool) → length block ≤ i → now ≡ some_in (statements_in (block_of (take i block)))
        → now ≡ some_in (statements_in (block_of block))
    some_all i now past is = is ∙ ap (λ (l : List Statement). some_in (statements_in (block_of l))) (take_all i block past)

  -- a mark is set once those behind it are made
  sets_own : (old pushed more now after : List Undone) (at : ℕ) (mark other : Undone) → at ≡ length old → pushed ≡ old ++ other ∷ []
      → now ≡ pushed ++ more → after ≡ slice_set now at mark → after ≡ old ++ mark ∷ more
  sets_own old pushed more now after at mark other at_is pushed_is is set =
      set ∙ ap (λ n. slice_set now n mark) at_is
      ∙ ap (λ (l : List Undone). slice_set l (length old) mark) (is ∙ ap (λ l. l ++ more) pushed_is ∙ append_assoc old (other ∷ []) more)
      ∙ set-append_seam old other more mark

  -- a `while`
  module _ (s : Statement) (e : Expression) (a : _) (inside : List Statement) (is : s ≡ While e a) (same : inside ≡ a.items) where
    while_tree : statement_of s ≡ while_do (expression_of e) (block_of inside)
    while_tree = ap statement_of is ∙ while_is e a ∙ ap (λ (l : List Statement). while_do (expression_of e) (block_of l)) (sym same)

    pub some_while : (one : Bool) → one ≡ some_in (statements_in (block_of inside)) → one ≡ some_in (statement_of s ∷ within (statement_of s))
    some_while one one_is =
        one_is
        ∙ ap (λ (b : Bool). b || some_in (statements_in (block_of inside))) (sym (while_undoes side lock (expression_of e) (block_of inside)))
        ∙ ap (λ (t : Tree). some_in (t ∷ within t)) (sym while_tree)

    pub marks_while : (one : Bool) (old pushed now after : List Undone) (at : ℕ) (other : Undone) → at ≡ length old
        → one ≡ some_in (statements_in (block_of inside)) → pushed ≡ old ++ other ∷ []
        → now ≡ pushed ++ marks_of (statements_in (block_of inside))
        → after ≡ slice_set now at (record { whole = one; first = one })
        → after ≡ old ++ marks_of (statement_of s ∷ within (statement_of s))
    marks_while one old pushed now after at other at_is one_is pushed_is more set =
        let mark : Bool → Bool → Undone = λ whole first. record { whole = whole; first = first } in
        let all = statements_in (block_of inside) in
        sets_own old pushed (marks_of all) now after at (mark one one) other at_is pushed_is more set
        ∙ ap (λ (b : Bool). old ++ mark b one ∷ marks_of all) (some_while one one_is)
        ∙ ap (λ (b : Bool). old ++ mark (some_in (statement_of s ∷ within (statement_of s))) b ∷ marks_of all) one_is
        ∙ ap (λ (t : Tree). old ++ mark (some_in (statement_of s ∷ within (statement_of s))) (some_in (statements_in (first_block t))) ∷ marks_of (within t))
        (sym while_tree)

  -- an `if`
  module _ (s : Statement) (e : Expression) (a b : _) (first second : List Statement) (is : s ≡ If e a b)
      (same_first : first ≡ a.items) (same_second : second ≡ b.items) where
    if_tree : statement_of s ≡ if_else (expression_of e) (block_of first) (block_of second)
    if_tree =
        ap statement_of is ∙ if_is e a b
        ∙ ap (λ (l : List Statement). if_else (expression_of e) (block_of l) (block_of b.items)) (sym same_first)
        ∙ ap (λ (l : List Statement). if_else (expression_of e) (block_of first) (block_of l)) (sym same_second)

    pub some_if : (one other whole : Bool) → one ≡ some_in (statements_in (block_of first)) → other ≡ some_in (statements_in (block_of second))
        → whole ≡ (one || other) → whole ≡ some_in (statement_of s ∷ within (statement_of s))
    some_if one other whole one_is other_is whole_is =
        let all = statements_in (block_of first) ++ statements_in (block_of second) in
        whole_is ∙ ap₂ ◌||◌ one_is other_is
        ∙ sym (list_any-append (undoes side lock) (statements_in (block_of first)) (statements_in (block_of second)))
        ∙ ap (λ (b : Bool). b || some_in all) (sym (if_undoes side lock (expression_of e) (block_of first) (block_of second)))
        ∙ ap (λ (t : Tree). some_in (t ∷ within t)) (sym if_tree)

    pub marks_if : (one other whole : Bool) (old pushed between now after : List Undone) (at : ℕ) (mark : Undone) → at ≡ length old
        → one ≡ some_in (statements_in (block_of first)) → other ≡ some_in (statements_in (block_of second)) → whole ≡ (one || other)
        → pushed ≡ old ++ mark ∷ [] → between ≡ pushed ++ marks_of (statements_in (block_of first))
        → now ≡ between ++ marks_of (statements_in (block_of second))
        → after ≡ slice_set now at (record { whole = whole; first = one })
        → after ≡ old ++ marks_of (statement_of s ∷ within (statement_of s))
    marks_if one other whole old pushed between now after at mark at_is one_is other_is whole_is pushed_is more and_more set =
        let made : Bool → Bool → Undone = λ whole first. record { whole = whole; first = first } in
        let front = statements_in (block_of first) in
        let back = statements_in (block_of second) in
        let both : now ≡ pushed ++ marks_of (front ++ back) =
        and_more ∙ ap (λ l. l ++ marks_of back) more ∙ append_assoc pushed (marks_of front) (marks_of back)
        ∙ ap (λ l. pushed ++ l) (sym (map-append (undone_by side lock) front back)) in
        sets_own old pushed (marks_of (front ++ back)) now after at (made whole one) mark at_is pushed_is both set
        ∙ ap (λ (b : Bool). old ++ made b one ∷ marks_of (front ++ back)) (some_if one other whole one_is other_is whole_is)
        ∙ ap (λ (b : Bool). old ++ made (some_in (statement_of s ∷ within (statement_of s))) b ∷ marks_of (front ++ back)) one_is
        ∙ ap (λ (t : Tree). old ++ made (some_in (statement_of s ∷ within (statement_of s))) (some_in (statements_in (first_block t))) ∷ marks_of (within t))
        (sym if_tree)

-- ---- where marks are found

module _ (side : Side) (lock : ℕ) (marks : List Undone) where
  abbrev Marked : ℕ → List Tree → Type 0
  Marked at all = AreMarked side lock marks at all

  front_marked : (at : ℕ) (xs ys : List Tree) → Marked at (xs ++ ys) → Marked at xs
  front_marked at xs ys marked =
      let f = undone_by side lock in
      (map f ys ++ marked.0, marked.1 ∙ ap (λ l. l ++ marked.0) (map-append f xs ys) ∙ append_assoc (map f xs) (map f ys) marked.0)

  behind_marked : (at : ℕ) (xs ys : List Tree) → Marked at (xs ++ ys) → Marked (at + length xs) ys
  behind_marked at xs ys marked =
      let f = undone_by side lock in (
        marked.0,
        sym (drop-drop (length xs) at marks)
            ∙ ap (drop (length xs)) (marked.1 ∙ ap (λ l. l ++ marked.0) (map-append f xs ys) ∙ append_assoc (map f xs) (map f ys) marked.0)
            ∙ drop_at (map f xs) (map f ys ++ marked.0) (length xs) (length-map xs f),
      )

  pub here_marked : (at : ℕ) (s : Tree) (ys : List Tree) → Marked at (s ∷ ys) → get_or marks at nothing_undone ≡ undone_by side lock s
  here_marked at s ys marked =
      let same : at ≡ at + 0 = omega arith in
      ap (λ n. get_or marks n nothing_undone) same ∙ sym (get_or-drop at marks 0 nothing_undone)
      ∙ ap (λ (l : List Undone). get_or l 0 nothing_undone) marked.1

  -- what stands behind a statement, by its mark
  pub whole_kept : (at n : ℕ) (s : Tree) → n ≡ at → Marked at (s ∷ within s) → (mark : Undone) → mark ≡ get_or marks n nothing_undone
      → (under after : Bool) → after ≡ cond (takes side lock s) true (cond mark.whole false under)
      → after ≡ cond (takes side lock s) true (cond (list_any (undoes side lock) (s ∷ within s)) false under)
  whole_kept at n s n_is marked mark mark_is under after is =
      is ∙ ap (λ (m : Undone). cond (takes side lock s) true (cond m.whole false under))
      (mark_is ∙ ap (λ k. get_or marks k nothing_undone) n_is ∙ here_marked at s (within s) marked)

  -- from the first statement on
  pub all_marked : (at : ℕ) (all : List Tree) → at ≡ 0 → marks ≡ map (undone_by side lock) all → Marked at all
  all_marked at all none is = ([], ap (λ n. drop n marks) none ∙ is ∙ sym (append-nil (map (undone_by side lock) all)))

  -- at a statement of a block
  pub block_marked : (block : List Statement) (path : Path) (i : ℕ) (s : Statement) (old now : List Bool) → i < length block → s ≡ get_or block i s
      → now ≡ old ++ map (is_under side lock) (paths path (block_of (take i block)))
      → Marked (length old) (statements_in (block_of block))
      → Marked (length now) (statement_of s ∷ within (statement_of s))
  block_marked block path i s old now lt here is marked =
      let front = statements_in (block_of (take i block)) in
      let own = statement_of s ∷ within (statement_of s) in
      let back = statements_in (block_of (drop (i + 1) block)) in
      let under = map (is_under side lock) (paths path (block_of (take i block))) in
      let long : length old + length front ≡ length now =
      sym (ap length is ∙ length-append old under
      ∙ ap (λ n. length old + n) (length-map (paths path (block_of (take i block))) (is_under side lock) ∙ length_block (block_of (take i block)) path)) in
      let cut = subst (λ l. Marked (length old) l) (block_at block i s lt here) marked in
      subst (λ n. Marked n own) long (front_marked (length old + length front) own back (behind_marked (length old) front (own ++ back) cut))

  -- in a statement
  module _ (s : Statement) (old now : List Bool) (under : Bool) (pushed : now ≡ old ++ under ∷ [])
      (marked : Marked (length old) (statement_of s ∷ within (statement_of s))) where
    within_marked : Marked (length now) (within (statement_of s))
    within_marked =
        let many : length old + 1 ≡ length now = sym (ap length pushed ∙ length-append old (under ∷ [])) in
        subst (λ n. Marked n (within (statement_of s))) many (behind_marked (length old) (statement_of s ∷ []) (within (statement_of s)) marked)

    kept_by : (inner : Bool) (mark : Undone) (b : Block) → first_block (statement_of s) ≡ b → mark ≡ get_or marks (length old) nothing_undone
        → inner ≡ cond mark.first false under → inner ≡ cond (list_any (undoes side lock) (statements_in b)) false under
    kept_by inner mark b first_is mark_is inner_is =
        inner_is
        ∙ ap (λ (m : Undone). cond m.first false under) (mark_is ∙ here_marked (length old) (statement_of s) (within (statement_of s)) marked)
        ∙ ap (λ (t : Block). cond (list_any (undoes side lock) (statements_in t)) false under) first_is

    module _ (e : Expression) (a : _) (inside : List Statement) (is : s ≡ While e a) (same : inside ≡ a.items) where
      pub while_kept : (inner : Bool) (mark : Undone) → mark ≡ get_or marks (length old) nothing_undone → inner ≡ cond mark.first false under
          → inner ≡ cond (list_any (undoes side lock) (statements_in (block_of inside))) false under
      while_kept inner mark = kept_by inner mark (block_of inside) (ap first_block (while_tree side lock s e a inside is same))

      pub while_marked : Marked (length now) (statements_in (block_of inside))
      while_marked = subst (λ (t : Tree). Marked (length now) (within t)) (while_tree side lock s e a inside is same) within_marked

    module _ (e : Expression) (a b : _) (first second : List Statement) (is : s ≡ If e a b) (same_first : first ≡ a.items) (same_second : second ≡ b.items) where
      pub if_kept : (inner : Bool) (mark : Undone) → mark ≡ get_or marks (length old) nothing_undone → inner ≡ cond mark.first false under
          → inner ≡ cond (list_any (undoes side lock) (statements_in (block_of first))) false under
      if_kept inner mark = kept_by inner mark (block_of first) (ap first_block (if_tree side lock s e a b first second is same_first same_second))

      both_marked : Marked (length now) (statements_in (block_of first) ++ statements_in (block_of second))
      both_marked = subst (λ (t : Tree). Marked (length now) (within t)) (if_tree side lock s e a b first second is same_first same_second) within_marked

      pub first_marked : Marked (length now) (statements_in (block_of first))
      first_marked = front_marked (length now) (statements_in (block_of first)) (statements_in (block_of second)) both_marked

      pub second_marked : (path : Path) (between : List Bool) → between ≡ now ++ map (is_under side lock) (paths path (block_of first))
          → Marked (length between) (statements_in (block_of second))
      second_marked path between between_is =
          let long : length now + length (statements_in (block_of first)) ≡ length between =
          sym (ap length between_is ∙ length-append now (map (is_under side lock) (paths path (block_of first)))
          ∙ ap (λ n. length now + n) (length-map (paths path (block_of first)) (is_under side lock) ∙ length_block (block_of first) path)) in
          subst (λ n. Marked n (statements_in (block_of second))) long
          (behind_marked (length now) (statements_in (block_of first)) (statements_in (block_of second)) both_marked)
