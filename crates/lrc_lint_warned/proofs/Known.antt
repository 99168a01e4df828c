-- Words that are known from a table.
use Rattle.std.proofs.Common.{◌≡◌, ◌∙◌, ◌<◌, ◌≤◌, ◌+◌, ℕ, ap, sym, subst, refl, List, [], ◌∷◌, ◌++◌, length, map, take, get_or, Bool, append_assoc, append-nil}
use Rattle.std.specs.Prelude.{◌||◌, true, false, cond, nat_lt, is_none, Option, Some, None}
use Rattle.std.specs.List.{enumerate_from, flat_map, list_any}
use Rattle.std.proofs.lemmas.Bool.{ltb-true}
use Rattle.std.proofs.lemmas.List.{get_or-map, length-map, take-map, take_all}
use Rattle.lrc_text.specs.Each.{each}
use Rattle.lrc_text.proofs.Each.{each_more}
use Rattle.lrc_program.specs.Statements.{Statement, assign, read, write, acquire, release, barrier, print, if_else, while_do}
use Rattle.lrc_lint_warned.specs.declared.found.Found.{Found}
use Rattle.lrc_lint_warned.specs.declared.found.Kind.TheVariants.{NeverWritten}
use Rattle.lrc_lint_warned.specs.declared.found.StatementAt as code_statement
use Rattle.lrc_lint_warned.specs.Constant.{constant_of, is_value}
use Rattle.lrc_lint_warned.specs.Found.{StatementAt, statement_seen}
use Rattle.lrc_lint_warned.specs.Words.{is_known, may_be, may_write, never_written, never_written_at, reads_word, unknown_at, unless_known, word_read, word_written, writes_some}
use Rattle.lrc_lint_warned.proofs.Lists.{any_more}

pub or_assoc : (a b c : Bool) → ((a || b) || c) ≡ (a || (b || c))
or_assoc true b c = refl
or_assoc false b c = refl

pub or_nothing : (a : Bool) → a ≡ (a || false)
or_nothing true = refl
or_nothing false = refl

or_left : (a b : Bool) → (a || b) ≡ false → a ≡ false
or_left true b h = h
or_left false b h = refl

or_right : (a b : Bool) → (a || b) ≡ false → b ≡ false
or_right true b h = absurd (cc)
or_right false b h = h

pub each_grown : {A S Y : Type 0} (of : ℕ → S → List Y) (seen : A → S) (items : List A) (i : ℕ) (x : A) (old now next : List Y)
    → i < length items → x ≡ get_or items i x → now ≡ old ++ each of (take i (map seen items)) → next ≡ now ++ of i (seen x)
    → next ≡ old ++ each of (take (i + 1) (map seen items))
each_grown {A} {S} {Y} of seen items i x old now next lt here is more =
    more ∙ ap (λ l. l ++ of i (seen x)) is
    ∙ append_assoc old (each of (take i (map seen items))) (of i (seen x))
    ∙ ap (λ (y : S). old ++ (each of (take i (map seen items)) ++ of i y)) (ap seen here ∙ sym (get_or-map seen items i x (seen x) lt))
    ∙ ap (λ l. old ++ l) (sym (each_more of (map seen items) i (seen x) (subst (λ n. i < n) (sym (length-map items seen)) lt)))

pub each_all : {A S Y : Type 0} (of : ℕ → S → List Y) (seen : A → S) (items : List A) (i : ℕ) (old now : List Y)
    → length items ≤ i → now ≡ old ++ each of (take i (map seen items)) → now ≡ old ++ each of (map seen items)
each_all {A} {S} {Y} of seen items i old now past is =
    is ∙ ap (λ (l : List S). old ++ each of l) (take_all i (map seen items) (subst (λ n. n ≤ i) (sym (length-map items seen)) past))

-- by a table of what is known
module _ (known : List Bool) (words : ℕ) (all : List StatementAt) (i : ℕ) (long : length known ≡ words)
    (is : (k : ℕ) → k < words → get_or known k false ≡ is_known all i k) where
  decided : (at w : ℕ) (b : Bool) → nat_lt w words ≡ b
      → cond {A = List Found} b (cond {A = List Found} (get_or known w false) [] (record { at = at; kind = NeverWritten w } ∷ [])) []
      ≡ cond {A = List Found} b (cond {A = List Found} (is_known all i w) [] (record { at = at; kind = NeverWritten w } ∷ [])) []
  decided at w true h = ap (λ (k : Bool). cond {A = List Found} k [] (record { at = at; kind = NeverWritten w } ∷ [])) (is w (ltb-true w words h))
  decided at w false h = refl

  pub unknown_is : (at : ℕ) (o : Option ℕ) → unknown_at known at o ≡ unless_known words all i at o
  unknown_is at None = refl
  unknown_is at (Some w) =
      ap (λ (n : ℕ). cond {A = List Found} (nat_lt w n) (cond {A = List Found} (get_or known w false) [] (record { at = at; kind = NeverWritten w } ∷ [])) []) long
      ∙ decided at w (nat_lt w words) refl

pub known_more : (items : List code_statement.StatementAt) (i k : ℕ) (x : code_statement.StatementAt) (now next : Bool) → i < length items → x ≡ get_or items i x
    → now ≡ is_known (map statement_seen items) i k → next ≡ (now || is_value (word_read (statement_seen x).statement) k)
    → next ≡ is_known (map statement_seen items) (i + 1) k
known_more items i k x now next lt here is more =
    let all = map statement_seen items in
    let reads : StatementAt → Bool = λ s. reads_word k s.statement in
    let writes : StatementAt → Bool = λ s. may_write k s.statement in
    more ∙ ap (λ (b : Bool). b || reads (statement_seen x)) is
    ∙ or_assoc (list_any writes all) (list_any reads (take i all)) (reads (statement_seen x))
    ∙ ap (λ (b : Bool). list_any writes all || b)
    (ap (λ (l : List StatementAt). list_any reads l || reads (statement_seen x)) (take-map statement_seen i items)
    ∙ sym (any_more statement_seen reads items i x lt here)
    ∙ ap (list_any reads) (sym (take-map statement_seen (i + 1) items)))

pub known_none : (all : List StatementAt) (k : ℕ) (b : Bool) → b ≡ list_any (λ s. may_write k s.statement) all → b ≡ is_known all 0 k
known_none all k b is = is ∙ or_nothing (list_any (λ s. may_write k s.statement) all)

-- ---- where a write of what is no constant stands, nothing is told

may_any : (k : ℕ) (s : Statement) → writes_some s ≡ true → may_write k s ≡ true
may_any k (write at value) h = none_is (constant_of at) h
  where
    none_is : (o : Option ℕ) → is_none o ≡ true → may_be o k ≡ true
    none_is None h = refl
    none_is (Some n) h = absurd (cc)
may_any k (assign n e) h = absurd (cc)
may_any k (read n e) h = absurd (cc)
may_any k (acquire e) h = absurd (cc)
may_any k (release e) h = absurd (cc)
may_any k barrier h = absurd (cc)
may_any k (print e) h = absurd (cc)
may_any k (if_else e a b) h = absurd (cc)
may_any k (while_do e a) h = absurd (cc)

or_true : (b : Bool) → (b || true) ≡ true
or_true true = refl
or_true false = refl

weaker_first : (p q : Bool) (ps qs : Bool) → (p ≡ true → q ≡ true) → (ps ≡ true → qs ≡ true) → (p || ps) ≡ true → (q || qs) ≡ true
weaker_first true q ps qs one others h = ap (λ (b : Bool). b || qs) (one refl)
weaker_first false q ps qs one others h = ap (λ (b : Bool). q || b) (others h) ∙ or_true q

any_weaker : {A : Type 0} (p q : A → Bool) → ((x : A) → p x ≡ true → q x ≡ true) → (items : List A) → list_any p items ≡ true → list_any q items ≡ true
any_weaker p q weaker [] h = h
any_weaker p q weaker (x ∷ others) h =
    weaker_first (p x) (q x) (list_any p others) (list_any q others) (weaker x) (any_weaker p q weaker others) h

each_nothing : {X Y : Type 0} (of : ℕ → X → List Y) → ((i : ℕ) (x : X) → of i x ≡ []) → (n : ℕ) (items : List X)
    → flat_map (λ at. of at.0 at.1) (enumerate_from n items) ≡ []
each_nothing of none n [] = refl
each_nothing of none n (x ∷ others) = ap (λ l. l ++ flat_map (λ at. of at.0 at.1) (enumerate_from (n + 1) others)) (none n x) ∙ each_nothing of none (n + 1) others

pub nothing_told : (words : ℕ) (all : List StatementAt) → list_any (λ s. writes_some s.statement) all ≡ true → never_written words all ≡ []
nothing_told words all some = each_nothing (never_written_at words all) (λ i s. told i (s.at + 3) (word_read s.statement)) 0 all
  where
    here : (i k : ℕ) → is_known all i k ≡ true
    here i k =
        ap (λ (b : Bool). b || list_any (λ s. reads_word k s.statement) (take i all))
        (any_weaker (λ (s : StatementAt). writes_some s.statement) (λ (s : StatementAt). may_write k s.statement) (λ s h. may_any k s.statement h) all some)

    whichever : (b : Bool) → cond {A = List Found} b [] [] ≡ []
    whichever true = refl
    whichever false = refl

    told : (i at : ℕ) (o : Option ℕ) → unless_known words all i at o ≡ []
    told i at None = refl
    told i at (Some w) =
        ap (λ (b : Bool). cond {A = List Found} (nat_lt w words) (cond {A = List Found} b [] (record { at = at; kind = NeverWritten w } ∷ [])) []) (here i w)
        ∙ whichever (nat_lt w words)

pub nothing_added : (words : ℕ) (all : List StatementAt) (old : List Found) → list_any (λ s. writes_some s.statement) all ≡ true
    → old ≡ old ++ never_written words all
nothing_added words all old some = sym (append-nil old) ∙ ap (λ l. old ++ l) (sym (nothing_told words all some))

-- ---- where each write is of a constant, the words are those that are written

constant_write : (k : ℕ) (s : Statement) → writes_some s ≡ false → is_value (word_written s) k ≡ may_write k s
constant_write k (write at value) h = by (constant_of at) h
  where
    by : (o : Option ℕ) → is_none o ≡ false → is_value o k ≡ may_be o k
    by None h = absurd (cc)
    by (Some n) h = refl
constant_write k (assign n e) h = refl
constant_write k (read n e) h = refl
constant_write k (acquire e) h = refl
constant_write k (release e) h = refl
constant_write k barrier h = refl
constant_write k (print e) h = refl
constant_write k (if_else e a b) h = refl
constant_write k (while_do e a) h = refl

pub constant_writes : (k : ℕ) (all : List StatementAt) → list_any (λ s. writes_some s.statement) all ≡ false
    → list_any (λ s. is_value (word_written s.statement) k) all ≡ list_any (λ s. may_write k s.statement) all
constant_writes k [] none = refl
constant_writes k (s ∷ others) none =
    ap (λ (b : Bool). b || list_any (λ s. is_value (word_written s.statement) k) others)
    (constant_write k s.statement (or_left (writes_some s.statement) (list_any (λ s. writes_some s.statement) others) none))
    ∙ ap (λ (b : Bool). may_write k s.statement || b)
    (constant_writes k others (or_right (writes_some s.statement) (list_any (λ s. writes_some s.statement) others) none))
