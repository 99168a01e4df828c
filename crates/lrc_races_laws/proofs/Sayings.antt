-- A line says one event, or nothing.
use Rattle.std.proofs.Common.{◌≡◌, ℕ, ◌+◌, ◌*◌, ◌⊎◌, cond, List, [], ◌∷◌, ◌++◌, length, inl, inr, sym, subst, refl, ◌∙◌, ap, ap₂, arith, append_assoc}
use Rattle.std.specs.Prelude.{Bool, true, ◌==◌, ◌&&◌, codes, decimal, All}
use Rattle.std.proofs.Math.Dec.{ltb}
use Rattle.std.proofs.lemmas.Bool.{ltb-true, and_parts}
use Rattle.std.proofs.lemmas.List.Elements.{All-head, All-tail}
use Rattle.lrc_races_lines.specs.declared.line.Kind.{Kind}
use Rattle.lrc_races_lines.specs.declared.line.Kind.TheVariants.{Read, Write, Acquire, Release, Post, Wait, Fork, Join, Arrive, Depart, Idle}
use Rattle.lrc_races_lines.specs.Line.{Saying, Says as SaysStd, SaysNothing as SaysNoStd, SpellsOperation, with_target, alone, with_text, IsIdleWord}
use Rattle.lrc_races_lines.specs.Line.{begins, ends as idle_ends, enters, exits, requests, branches}
use Rattle.lrc_races_lines.specs.Line.{SpellsEvent, unplaced, placed, IsName, IsText, IsBlank, word}
use Rattle.lrc_races_lines.proofs.Spelled.{seam-not-lacking, seam-unique, last-unique, spelled-open, spelled-lacks, idle-no_kind}
use Rattle.lrc_races_lines.proofs.Spelled.{all-lacks, one_body}
use Rattle.lrc_races_lines.specs.Lacking.{Lacks}
use Rattle.lrc_races_text.specs.declared.form.Form.{Form}
use Rattle.lrc_races_text.specs.declared.form.Form.TheVariants.{Std, Acts}
use Rattle.lrc_races_text.specs.Acts.{IsNamed, IsAccess, IsOnLock, SaysOperation, IsDigit, EndsDigits, SaysLine, IsLocation, SaysNoAct, SaysAct, IsIdle}
use Rattle.lrc_races_text.specs.Acts.{quiet, ends, prints, traps}
use Rattle.lrc_races_text.specs.Says.{Said, Say, no_line, blank_line, event_line, Says, SaysNothing}

pub same_saying : (a b : Saying) → a.thread ≡ b.thread → a.kind ≡ b.kind → a.target ≡ b.target → a.location ≡ b.location → a ≡ b
same_saying a b t k g l =
    ap (λ (x : List ℕ). let s : Saying = record { thread = x; kind = a.kind; target = a.target; location = a.location } in s) t
    ∙ ap (λ (x : Kind). let s : Saying = record { thread = b.thread; kind = x; target = a.target; location = a.location } in s) k
    ∙ ap (λ (x : List ℕ). let s : Saying = record { thread = b.thread; kind = b.kind; target = x; location = a.location } in s) g
    ∙ ap (λ (x : List ℕ). let s : Saying = record { thread = b.thread; kind = b.kind; target = b.target; location = x } in s) l

-- ---- the words of operations differ

-- a number that tells them apart: by the first byte and the length
abbrev mark_of : List ℕ → ℕ
mark_of [] = 0
mark_of (byte ∷ bytes) = byte * 8 + length bytes

-- the kind of the word with this mark
abbrev kind_marked : ℕ → Kind
kind_marked mark =
    cond (mark == 912) Read
    (cond (mark == 952) Write
    (cond (mark == 778) Acquire
    (cond (mark == 914) Release
    (cond (mark == 899) Post
    (cond (mark == 955) Wait
    (cond (mark == 819) Fork
    (cond (mark == 851) Join
    (cond (mark == 781) Arrive
    (cond (mark == 805) Depart
    Idle)))))))))

word_marked : (kind : Kind) → kind_marked (mark_of (word kind)) ≡ kind
word_marked Read = refl
word_marked Write = refl
word_marked Acquire = refl
word_marked Release = refl
word_marked Post = refl
word_marked Wait = refl
word_marked Fork = refl
word_marked Join = refl
word_marked Arrive = refl
word_marked Depart = refl
word_marked Idle = refl

one_kind : (kind other : Kind) → word kind ≡ word other → kind ≡ other
one_kind kind other e = sym (word_marked kind) ∙ ap (λ (w : List ℕ). kind_marked (mark_of w)) e ∙ word_marked other

-- ---- no word has an opening parenthesis, and no thread a bar

-- whether no byte of a word is an opening parenthesis, as a test
abbrev tests_open : List ℕ → Bool
tests_open [] = true
tests_open (y ∷ ys) = ltb 40 y && tests_open ys

unopened : (ys : List ℕ) → tests_open ys ≡ true → Lacks 40 ys
unopened [] e = tt
unopened (y ∷ ys) e =
    let both = and_parts (ltb 40 y) (tests_open ys) e in
    let high = ltb-true 40 y both.0 in
    ((λ same. omega arith), unopened ys both.1)

word_lacks : (kind : Kind) → Lacks 40 (word kind)
word_lacks Read = unopened (codes "r") refl
word_lacks Write = unopened (codes "w") refl
word_lacks Acquire = unopened (codes "acq") refl
word_lacks Release = unopened (codes "rel") refl
word_lacks Post = unopened (codes "post") refl
word_lacks Wait = unopened (codes "wait") refl
word_lacks Fork = unopened (codes "fork") refl
word_lacks Join = unopened (codes "join") refl
word_lacks Arrive = unopened (codes "arrive") refl
word_lacks Depart = unopened (codes "depart") refl
word_lacks Idle = tt

idle_lacks : (idle : List ℕ) → IsIdleWord idle → Lacks 40 idle
idle_lacks idle begins = unopened (codes "begin") refl
idle_lacks idle idle_ends = unopened (codes "end") refl
idle_lacks idle enters = unopened (codes "enter") refl
idle_lacks idle exits = unopened (codes "exit") refl
idle_lacks idle requests = unopened (codes "req") refl
idle_lacks idle branches = unopened (codes "branch") refl

name_lacks : (name : List ℕ) → IsName name → Lacks 124 name
name_lacks name (some, few, bytes) = all-lacks 124 name (λ k lt. (bytes k 0 lt).0)

-- ---- what bytes spell

operations : {kind same : Kind} {target also o p : List ℕ} → SpellsOperation kind target o → SpellsOperation same also p → o ≡ p
    → (kind ≡ same) × (target ≡ also)
operations {same = same} {also = also} (with_target {kind = kind} {target = target} acts name) s e =
    elim (spelled-open (word kind) (target ++ 41 ∷ []) (word_lacks kind) s (sym e)) [
      | inl t ↦ (one_kind kind same t.is, last-unique 41 target also t.encloses)
      | inr i ↦ absurd (idle-no_kind (word kind) kind acts i.is refl)
    ]
operations (alone {idle = idle} is) (with_target {kind = kind} {target = target} acts name) e =
    absurd (seam-not-lacking 40 (word kind) (target ++ 41 ∷ []) (subst (λ x. Lacks 40 x) e (idle_lacks idle is)))
operations (alone is) (alone other) e = (refl, refl)
operations (alone is) (with_text inner other text) e = (refl, refl)
operations (with_text {idle = idle} inner is text) (with_target {kind = kind} {target = target} acts name) e =
    let (p, q) = seam-unique 40 idle (inner ++ 41 ∷ []) (word kind) (target ++ 41 ∷ []) (idle_lacks idle is) (word_lacks kind) e in
    absurd (idle-no_kind idle kind acts is p)
operations (with_text inner is text) (alone other) e = (refl, refl)
operations (with_text inner is text) (with_text more other also) e = (refl, refl)

-- what stands behind the first bar: the operation, and perhaps a location
abbrev Stands : List ℕ → List ℕ → List ℕ → Type 0
Stands operation location rest = ((rest ≡ operation) × (location ≡ [])) ⊎ ((rest ≡ operation ++ 124 ∷ location) × IsText location)

-- there is one operation, and one location
one_behind : (o p location place rest : List ℕ) → Lacks 124 o → Lacks 124 p → Stands o location rest → Stands p place rest
    → (o ≡ p) × (location ≡ place)
one_behind o p location place rest l m (inl (is, none)) (inl (also, nil)) = (sym is ∙ also, none ∙ sym nil)
one_behind o p location place rest l m (inl (is, none)) (inr (also, text)) =
    absurd (seam-not-lacking 124 p place (subst (λ x. Lacks 124 x) (sym is ∙ also) l))
one_behind o p location place rest l m (inr (is, text)) (inl (also, nil)) =
    absurd (seam-not-lacking 124 o location (subst (λ x. Lacks 124 x) (sym also ∙ is) m))
one_behind o p location place rest l m (inr (is, text)) (inr (also, other)) = seam-unique 124 o location p place l m (sym is ∙ also)

-- the thread, the operation and the location that bytes spell
pub record Spelling (thread : List ℕ) (kind : Kind) (target location body : List ℕ) : Type 0 where
  pub rest : List ℕ
  pub operation : List ℕ
  pub name : IsName thread
  pub spells : SpellsOperation kind target operation
  pub whole : body ≡ thread ++ 124 ∷ rest
  pub behind : Stands operation location rest

spelling : {thread target location body : List ℕ} {kind : Kind} → SpellsEvent thread kind target location body → Spelling thread kind target location body
spelling (unplaced {thread = thread} {operation = operation} name spells) =
    record { rest = operation; operation = operation; name = name; spells = spells; whole = refl; behind = inl (refl, refl) }
spelling (placed {thread = thread} {operation = operation} {location = location} name spells text) = record {
  rest = operation ++ 124 ∷ location;
  operation = operation;
  name = name;
  spells = spells;
  whole = append_assoc thread (124 ∷ operation) (124 ∷ location);
  behind = inr (refl, text);
}

pub events_spelled : (a b : Saying) (body : List ℕ) → SpellsEvent a.thread a.kind a.target a.location body
    → SpellsEvent b.thread b.kind b.target b.location body → a ≡ b
events_spelled a b body one other =
    let s = spelling one in
    let t = spelling other in
    let (threads, rests) =
    seam-unique 124 a.thread s.rest b.thread t.rest (name_lacks a.thread s.name) (name_lacks b.thread t.name) (sym s.whole ∙ t.whole) in
    let (same, places) = one_behind s.operation t.operation a.location b.location s.rest (spelled-lacks s.spells) (spelled-lacks t.spells) s.behind
    (subst (λ r. Stands t.operation b.location r) (sym rests) t.behind) in
    let (kinds, targets) = operations s.spells t.spells same in
    same_saying a b threads kinds targets places

-- ---- lines in the standard form

one_std : (line : List ℕ) (a b : Saying) → SaysStd line a → SaysStd line b → a ≡ b
one_std line a b says also =
    let bodies = one_body says.of also.body also.of in
    events_spelled a b also.body (subst (λ x. SpellsEvent a.thread a.kind a.target a.location x) bodies says.spells) also.spells

std_not_nothing : (line : List ℕ) (a : Saying) → SaysStd line a → SaysNoStd line → ⊥
std_not_nothing line a says none = says.no_comment (subst (λ x. IsBlank x) (one_body none.of says.body says.of) none.blank)

-- ---- lines of acts

-- the kind of the deed whose first word has this mark
abbrev deed_marked : ℕ → Kind
deed_marked mark =
    cond (mark == 915) Read
    (cond (mark == 956) Write
    (cond (mark == 782) Acquire
    (cond (mark == 918) Release
    (cond (mark == 781) Arrive
    (cond (mark == 805) Depart
    Idle)))))

abbrev kind_in : List (List ℕ) → Kind
kind_in [] = Idle
kind_in (name ∷ operands) = deed_marked (mark_of name)

idle_in : {words : List (List ℕ)} → IsIdle words → kind_in words ≡ Idle
idle_in (quiet e) = ap kind_in e
idle_in (ends e) = ap kind_in e
idle_in (prints h) = ap kind_in h.whole
idle_in (traps some h) = ap kind_in h.whole

kind_said : (words : List (List ℕ)) (kind : Kind) (target : List ℕ) → SaysOperation words kind target → kind_in words ≡ kind
kind_said words Read target h = ap kind_in h.whole
kind_said words Write target h = ap kind_in h.whole
kind_said words Acquire target h = ap kind_in h.whole
kind_said words Release target h = ap kind_in h.whole
kind_said words Post target h = absurd h
kind_said words Wait target h = absurd h
kind_said words Fork target h = absurd h
kind_said words Join target h = absurd h
kind_said words Arrive target h = ap kind_in h.0
kind_said words Depart target h = ap kind_in h.0
kind_said words Idle target h = idle_in h.0

one_name : (digits name other : List ℕ) → IsNamed digits name → IsNamed digits other → name ≡ other
one_name digits name other a b = a.is ∙ ap decimal (a.says.value ∙ sym b.says.value) ∙ sym b.is

second_of : List (List ℕ) → List ℕ
second_of (first ∷ second ∷ rest) = second
second_of _ = []

accessed : (name : List ℕ) (words : List (List ℕ)) (target other : List ℕ) → IsAccess name words target → IsAccess name words other → target ≡ other
unfolding second_of
accessed name words target other a b =
    let same : a.digits ≡ b.digits = ap second_of (sym a.whole ∙ b.whole) in
    one_name b.digits target other (subst (λ d. IsNamed d target) same a.accessed.says) b.accessed.says

locked : (name : List ℕ) (words : List (List ℕ)) (target other : List ℕ) → IsOnLock name words target → IsOnLock name words other → target ≡ other
unfolding second_of
locked name words target other a b =
    let same : a.digits ≡ b.digits = ap second_of (sym a.whole ∙ b.whole) in
    one_name b.digits target other (subst (λ d. IsNamed d target) same a.says) b.says

target_said : (words : List (List ℕ)) (kind : Kind) (target other : List ℕ) → SaysOperation words kind target → SaysOperation words kind other
    → target ≡ other
target_said words Read target other a b = accessed (codes "read") words target other a b
target_said words Write target other a b = accessed (codes "write") words target other a b
target_said words Acquire target other a b = locked (codes "acquire") words target other a b
target_said words Release target other a b = locked (codes "release") words target other a b
target_said words Post target other a b = absurd a
target_said words Wait target other a b = absurd a
target_said words Fork target other a b = absurd a
target_said words Join target other a b = absurd a
target_said words Arrive target other a b = a.1 ∙ sym b.1
target_said words Depart target other a b = a.1 ∙ sym b.1
target_said words Idle target other a b = a.1 ∙ sym b.1

-- digits end where no digit stands
one_number : (digits others rest left : List ℕ) → All IsDigit digits → All IsDigit others → EndsDigits rest → EndsDigits left
    → digits ++ rest ≡ others ++ left → digits ≡ others
one_number [] [] rest left a b c d e = refl
one_number [] (y ∷ ys) rest left a b c d e = absurd (ended rest c e)
  where
    ended : (r : List ℕ) → EndsDigits r → r ≡ y ∷ ys ++ left → ⊥
    ended [] c e = cc
    ended (x ∷ r) c e = let same : x ≡ y = cc in c (subst IsDigit (sym same) (All-head IsDigit y ys b))
one_number (x ∷ xs) [] rest left a b c d e = absurd (ended left d (sym e))
  where
    ended : (r : List ℕ) → EndsDigits r → r ≡ x ∷ xs ++ rest → ⊥
    ended [] c e = cc
    ended (y ∷ r) c e = let same : y ≡ x = cc in c (subst IsDigit (sym same) (All-head IsDigit x xs a))
one_number (x ∷ xs) (y ∷ ys) rest left a b c d e =
    let heads : x ≡ y = cc in
    let tails : xs ++ rest ≡ ys ++ left = cc in
    ap₂ (λ (z : ℕ) (zs : List ℕ). z ∷ zs) heads (one_number xs ys rest left (All-tail IsDigit x xs a) (All-tail IsDigit y ys b) c d tails)

behind_front : (front one other : List ℕ) → front ++ one ≡ front ++ other → one ≡ other
behind_front [] one other e = e
behind_front (x ∷ front) one other e = let tails : front ++ one ≡ front ++ other = cc in behind_front front one other tails

one_line_said : (comment digits other : List ℕ) → SaysLine comment digits → SaysLine comment other → digits ≡ other
one_line_said comment digits other a b =
    let front = codes "# line " in
    let whole = sym (append_assoc front digits a.rest) ∙ sym a.whole ∙ b.whole ∙ append_assoc front other b.rest in
    one_number digits other a.rest b.rest a.all b.all a.ends b.ends (behind_front front (digits ++ a.rest) (other ++ b.rest) whole)

one_location : (comment one other : List ℕ) → IsLocation comment one → IsLocation comment other → one ≡ other
one_location comment one other (inl a) (inl b) = one_line_said comment one other a b
one_location comment one other (inl a) (inr (none, never)) = absurd (never one a)
one_location comment one other (inr (none, never)) (inl b) = absurd (never other b)
one_location comment one other (inr (none, never)) (inr (also, neither)) = none ∙ sym also

one_act : (line : List ℕ) (a b : Saying) → SaysAct line a → SaysAct line b → a ≡ b
one_act line a b says also =
    let words : says.digits ∷ says.rest ≡ also.digits ∷ also.rest = sym says.whole ∙ also.whole in
    let first : says.digits ≡ also.digits = cc in
    let rest : says.rest ≡ also.rest = cc in
    let operation = subst (λ ws. SaysOperation ws a.kind a.target) rest says.operation in
    let kinds = sym (kind_said also.rest a.kind a.target operation) ∙ kind_said also.rest b.kind b.target also.operation in
    same_saying a b (one_name also.digits a.thread b.thread (subst (λ d. IsNamed d a.thread) first says.thread) also.thread) kinds
    (target_said also.rest b.kind a.target b.target (subst (λ k. SaysOperation also.rest k a.target) kinds operation) also.operation)
    (one_location _ a.location b.location says.location also.location)

act_not_nothing : (line : List ℕ) (a : Saying) → SaysAct line a → SaysNoAct line → ⊥
act_not_nothing line a says none = let never : [] ≡ says.digits ∷ says.rest = sym none.wordless ∙ says.whole in cc

-- ---- lines in either form

pub one_saying : (form : Form) (line : List ℕ) (a b : Saying) → Says form line a → Says form line b → a ≡ b
one_saying Std line a b says also = one_std line a b says also
one_saying Acts line a b says also = one_act line a b says also

pub not_nothing : (form : Form) (line : List ℕ) (a : Saying) → Says form line a → SaysNothing form line → ⊥
not_nothing Std line a says none = std_not_nothing line a says none
not_nothing Acts line a says none = act_not_nothing line a says none

pub one_say : {form : Form} {number : ℕ} {lines : List (List ℕ)} {one other : List Said} → Say form number lines one → Say form number lines other
    → one ≡ other
one_say no_line no_line = refl
one_say (blank_line h rest) (blank_line k more) = one_say rest more
one_say {form} (blank_line {line = line} h rest) (event_line {saying = saying} k more) = absurd (not_nothing form line saying k h)
one_say {form} (event_line {line = line} {saying = saying} h rest) (blank_line k more) = absurd (not_nothing form line saying h k)
one_say {form} {number} (event_line {line = line} {saying = saying} h rest) (event_line {saying = other} k more) =
    ap₂ (λ (s : Saying) (all : List Said). record { line = number; saying = s } ∷ all) (one_saying form line saying other h k) (one_say rest more)
