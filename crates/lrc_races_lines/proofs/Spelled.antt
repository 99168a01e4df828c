-- What splitting a line says of what it spells.
use Rattle.std.proofs.Common.{◌≡◌, ◌≢◌, ℕ, zero, suc, ◌+◌, ◌-◌, ◌<◌, ◌⊎◌, List, [], ◌∷◌, ◌++◌, length, get_or, take, drop, inl, inr, refl, sym, subst, ◌∙◌, ap, arith, append_assoc}
use Rattle.std.specs.Prelude.{◌==◌, ◌&&◌, ◌||◌, not, Bool, true, false, codes, IsTrue}
use Rattle.lrc_races_lines.specs.declared.line.Kind.{Kind}
use Rattle.lrc_races_lines.specs.declared.line.Kind.TheVariants.{Read, Write, Acquire, Release, Post, Wait, Fork, Join, Arrive, Depart, Idle}
use Rattle.lrc_races_lines.specs.Line.{IsName, IsText, IsIdleWord, word, enclosed, SpellsOperation, with_target, alone, with_text, begins, ends, enters}
use Rattle.lrc_races_lines.specs.Line.{exits, requests, branches, SpellsEvent, unplaced, placed, IsBody, returned, unreturned, IsBlank, empty, comment}
use Rattle.std.proofs.lemmas.Bool.{false≢true, eqb-true, eq-eqb}
use Rattle.std.proofs.lemmas.Bool.Decides.{eqb_tells}
use Rattle.std.proofs.lemmas.List.{length-take, length-drop, get_or-take, take-append-drop}
use Rattle.std.proofs.Math.Seq.{drop-cons, take-length}
use Rattle.lrc_races_lines.specs.Lacking.{Lacks}

-- ---- lacking a byte

pub all-lacks : (x : ℕ) (ys : List ℕ) → ((k : ℕ) → k < length ys → get_or ys k 0 ≢ x) → Lacks x ys
all-lacks x [] h = tt
all-lacks x (y ∷ ys) h = (h zero (omega arith), all-lacks x ys (λ k lt. h (suc k) (omega arith)))

pub lacks-append : (x : ℕ) (ys zs : List ℕ) → Lacks x ys → Lacks x zs → Lacks x (ys ++ zs)
lacks-append x [] zs l m = m
lacks-append x (y ∷ ys) zs (ne, l) m = (ne, lacks-append x ys zs l m)

pub seam-not-lacking : (x : ℕ) (a b : List ℕ) → Lacks x (a ++ x ∷ b) → ⊥
seam-not-lacking x [] b (ne, l) = ne refl
seam-not-lacking x (y ∷ a) b (ne, l) = seam-not-lacking x a b l

pub seam-unique : (x : ℕ) (a b c d : List ℕ) → Lacks x a → Lacks x c → a ++ x ∷ b ≡ c ++ x ∷ d → (a ≡ c) × (b ≡ d)
seam-unique x [] b [] d l m e = let same : b ≡ d = cc in (refl, same)
seam-unique x [] b (y ∷ c) d l (ne, m) e = let same : y ≡ x = cc in absurd (ne same)
seam-unique x (y ∷ a) b [] d (ne, l) m e = let same : y ≡ x = cc in absurd (ne same)
seam-unique x (y ∷ a) b (z ∷ c) d (ne, l) (other, m) e =
    let tails : a ++ x ∷ b ≡ c ++ x ∷ d = cc in
    let heads : y ≡ z = cc in
    let (p, q) = seam-unique x a b c d l m tails in
    let same : y ∷ a ≡ z ∷ c = cc in
    (same, q)

not-empty : (a : List ℕ) (y : ℕ) → [] ≡ a ++ y ∷ [] → ⊥
not-empty [] y e = cc
not-empty (z ∷ a) y e = cc

pub last-unique : (y : ℕ) (a b : List ℕ) → a ++ y ∷ [] ≡ b ++ y ∷ [] → a ≡ b
last-unique y [] [] e = refl
last-unique y [] (z ∷ b) e = let tails : [] ≡ b ++ y ∷ [] = cc in absurd (not-empty b y tails)
last-unique y (x ∷ a) [] e = let tails : [] ≡ a ++ y ∷ [] = cc in absurd (not-empty a y tails)
last-unique y (x ∷ a) (z ∷ b) e =
    let tails : a ++ y ∷ [] ≡ b ++ y ∷ [] = cc in
    let heads : x ≡ z = cc in
    let rest = last-unique y a b tails in
    cc

-- ---- what the first of these bytes parts

pub take-seam : (xs : List ℕ) (at x : ℕ) → at < length xs → get_or xs at 0 ≡ x → xs ≡ take at xs ++ x ∷ drop (at + 1) xs
take-seam xs at x lt e =
    let next : suc at ≡ at + 1 = omega arith in
    sym (take-append-drop at xs)
    ∙ ap (λ r. take at xs ++ r) (drop-cons xs at 0 lt ∙ ap (λ y. y ∷ drop (suc at) xs) e ∙ ap (λ m. x ∷ drop m xs) next)

pub take-lacks : (xs : List ℕ) (at x : ℕ) → ((k : ℕ) → k < at → get_or xs k 0 ≢ x) → Lacks x (take at xs)
take-lacks xs at x h = all-lacks x (take at xs) (λ k lt e.
    let short = length-take at xs in
    let below : k < at = omega arith in
    h k below (sym (get_or-take at xs k 0 below) ∙ e))

-- ---- names and words

name-lacks : (name : List ℕ) → IsName name → Lacks 124 name × Lacks 40 name × Lacks 41 name
name-lacks name (some, few, bytes) = (
  all-lacks 124 name (λ k lt. (bytes k 0 lt).0),
  all-lacks 40 name (λ k lt. (bytes k 0 lt).1),
  all-lacks 41 name (λ k lt. (bytes k 0 lt).2),
)

text-lacks : (text : List ℕ) → IsText text → Lacks 124 text
text-lacks text (few, bytes) = all-lacks 124 text (λ k lt. (bytes k 0 lt).0)

-- whether a byte is lacking, as a test
tests_lack : ℕ → List ℕ → Bool
tests_lack x [] = true
tests_lack x (y ∷ ys) = not (y == x) && tests_lack x ys

lacks-by : (x : ℕ) (ys : List ℕ) → tests_lack x ys ≡ true → Lacks x ys
unfolding tests_lack
lacks-by x [] e = tt
lacks-by x (y ∷ ys) e =
    elim (eqb_tells y x) [
      | inl (same, is) ↦ let never : ⊥ = grind (arith, e, same) in absurd never
      | inr (differ, other) ↦ (other, lacks-by x ys (grind (arith, e, differ)))
    ]

word-lacks : (kind : Kind) → Lacks 124 (word kind) × Lacks 40 (word kind)
unfolding tests_lack
word-lacks Read = (lacks-by 124 (codes "r") refl, lacks-by 40 (codes "r") refl)
word-lacks Write = (lacks-by 124 (codes "w") refl, lacks-by 40 (codes "w") refl)
word-lacks Acquire = (lacks-by 124 (codes "acq") refl, lacks-by 40 (codes "acq") refl)
word-lacks Release = (lacks-by 124 (codes "rel") refl, lacks-by 40 (codes "rel") refl)
word-lacks Post = (lacks-by 124 (codes "post") refl, lacks-by 40 (codes "post") refl)
word-lacks Wait = (lacks-by 124 (codes "wait") refl, lacks-by 40 (codes "wait") refl)
word-lacks Fork = (lacks-by 124 (codes "fork") refl, lacks-by 40 (codes "fork") refl)
word-lacks Join = (lacks-by 124 (codes "join") refl, lacks-by 40 (codes "join") refl)
word-lacks Arrive = (lacks-by 124 (codes "arrive") refl, lacks-by 40 (codes "arrive") refl)
word-lacks Depart = (lacks-by 124 (codes "depart") refl, lacks-by 40 (codes "depart") refl)
word-lacks Idle = (tt, tt)

idle-lacks : (w : List ℕ) → IsIdleWord w → Lacks 124 w × Lacks 40 w
unfolding tests_lack
idle-lacks w begins = (lacks-by 124 (codes "begin") refl, lacks-by 40 (codes "begin") refl)
idle-lacks w ends = (lacks-by 124 (codes "end") refl, lacks-by 40 (codes "end") refl)
idle-lacks w enters = (lacks-by 124 (codes "enter") refl, lacks-by 40 (codes "enter") refl)
idle-lacks w exits = (lacks-by 124 (codes "exit") refl, lacks-by 40 (codes "exit") refl)
idle-lacks w requests = (lacks-by 124 (codes "req") refl, lacks-by 40 (codes "req") refl)
idle-lacks w branches = (lacks-by 124 (codes "branch") refl, lacks-by 40 (codes "branch") refl)

-- ---- operations

pub record IsTargeted (kind : Kind) (target w rest : List ℕ) : Type 0 where
  pub acts : kind ≡ Idle → ⊥
  pub is : w ≡ word kind
  pub name : IsName target
  pub encloses : rest ≡ target ++ 41 ∷ []

pub record IsIdling (kind : Kind) (target w rest : List ℕ) : Type 0 where
  pub idles : kind ≡ Idle
  pub none : target ≡ []
  pub is : IsIdleWord w
  pub inner : List ℕ
  pub text : IsText inner
  pub encloses : rest ≡ inner ++ 41 ∷ []

-- an operation with an opening parenthesis, by what stands before it and behind it
pub spelled-open : {kind : Kind} {target o : List ℕ} (w rest : List ℕ) → Lacks 40 w → SpellsOperation kind target o → o ≡ w ++ 40 ∷ rest
    → IsTargeted kind target w rest ⊎ IsIdling kind target w rest
spelled-open w rest l (with_target {kind = kind} {target = target} acts name) e =
    let (p, q) = seam-unique 40 (word kind) (target ++ 41 ∷ []) w rest (word-lacks kind).1 l e in
    inl (record { acts = acts; is = sym p; name = name; encloses = sym q })
spelled-open w rest l (alone {idle = idle} is) e =
    absurd (seam-not-lacking 40 w rest (subst (λ x. Lacks 40 x) e (idle-lacks idle is).1))
spelled-open w rest l (with_text {idle = idle} inner is text) e =
    let (p, q) = seam-unique 40 idle (inner ++ 41 ∷ []) w rest (idle-lacks idle is).1 l e in
    inr (record { idles = refl; none = refl; is = subst (λ x. IsIdleWord x) p is; inner = inner; text = text; encloses = sym q })

-- no operation has a bar
pub spelled-lacks : {kind : Kind} {target o : List ℕ} → SpellsOperation kind target o → Lacks 124 o
spelled-lacks (with_target {kind = kind} {target = target} acts name) =
    lacks-append 124 (word kind) (enclosed target) (word-lacks kind).0
    ((λ e. omega arith), lacks-append 124 target (41 ∷ []) (name-lacks target name).0 ((λ e. omega arith), tt))
spelled-lacks (alone {idle = idle} is) = (idle-lacks idle is).0
spelled-lacks (with_text {idle = idle} inner is text) =
    lacks-append 124 idle (enclosed inner) (idle-lacks idle is).0
    ((λ e. omega arith), lacks-append 124 inner (41 ∷ []) (text-lacks inner text) ((λ e. omega arith), tt))

-- ---- words with a target are not idle

same_bytes : List ℕ → List ℕ → Bool
same_bytes [] [] = true
same_bytes (x ∷ xs) (y ∷ ys) = x == y && same_bytes xs ys
same_bytes [] (y ∷ ys) = false
same_bytes (x ∷ xs) [] = false

tests_idle : List ℕ → Bool
tests_idle w = (same_bytes w (codes "begin") || same_bytes w (codes "end") || same_bytes w (codes "enter"))
    || (same_bytes w (codes "exit") || same_bytes w (codes "req") || same_bytes w (codes "branch"))

idle-tests : (w : List ℕ) → IsIdleWord w → tests_idle w ≡ true
unfolding tests_idle same_bytes
idle-tests w begins = refl
idle-tests w ends = refl
idle-tests w enters = refl
idle-tests w exits = refl
idle-tests w requests = refl
idle-tests w branches = refl

kind-tests : (kind : Kind) → (kind ≡ Idle → ⊥) → tests_idle (word kind) ≡ false
unfolding tests_idle same_bytes
kind-tests Read h = refl
kind-tests Write h = refl
kind-tests Acquire h = refl
kind-tests Release h = refl
kind-tests Post h = refl
kind-tests Wait h = refl
kind-tests Fork h = refl
kind-tests Join h = refl
kind-tests Arrive h = refl
kind-tests Depart h = refl
kind-tests Idle h = absurd (h refl)

pub idle-no_kind : (w : List ℕ) (kind : Kind) → (kind ≡ Idle → ⊥) → IsIdleWord w → w ≡ word kind → ⊥
idle-no_kind w kind acts idle e =
    let yes' = idle-tests w idle in
    let no = kind-tests kind acts in
    let same = ap tests_idle e in
    false≢true (sym no ∙ sym same ∙ yes')

-- ---- events

pub record IsEventIn (thread : List ℕ) (kind : Kind) (target location front rest : List ℕ) : Type 0 where
  pub name : IsName thread
  pub is : front ≡ thread
  pub operation : List ℕ
  pub spells : SpellsOperation kind target operation
  pub behind : ((rest ≡ operation) × (location ≡ [])) ⊎ ((rest ≡ operation ++ 124 ∷ location) × IsText location)

pub event-split : {thread target location body : List ℕ} {kind : Kind} (front rest : List ℕ) → Lacks 124 front
    → SpellsEvent thread kind target location body → body ≡ front ++ 124 ∷ rest → IsEventIn thread kind target location front rest
event-split front rest l (unplaced {thread = thread} {operation = operation} name spells) e =
    let (p, q) = seam-unique 124 thread operation front rest (name-lacks thread name).0 l e in
    record { name = name; is = sym p; operation = operation; spells = spells; behind = inl (sym q, refl) }
event-split front rest l (placed {thread = thread} {operation = operation} {location = location} name spells text) e =
    let regrouped = append_assoc thread (124 ∷ operation) (124 ∷ location) in
    let (p, q) = seam-unique 124 thread (operation ++ 124 ∷ location) front rest (name-lacks thread name).0 l (sym regrouped ∙ e) in
    record { name = name; is = sym p; operation = operation; spells = spells; behind = inr (sym q, text) }

pub event-barred : {thread target location body : List ℕ} {kind : Kind} → Lacks 124 body → SpellsEvent thread kind target location body → ⊥
event-barred l (unplaced {thread = thread} {operation = operation} name spells) = seam-not-lacking 124 thread operation l
event-barred l (placed {thread = thread} {operation = operation} {location = location} name spells text) =
    seam-not-lacking 124 thread (operation ++ 124 ∷ location) (subst (λ x. Lacks 124 x) (append_assoc thread (124 ∷ operation) (124 ∷ location)) l)

-- ---- what a reader finds

module _ (w rest : List ℕ) (l : Lacks 40 w) where
  -- nothing closes
  pub unclosed : ((front : List ℕ) → rest ≡ front ++ 41 ∷ [] → ⊥) → (kind : Kind) (target : List ℕ) → SpellsOperation kind target (w ++ 40 ∷ rest) → ⊥
  unclosed none kind target s =
      elim (spelled-open w rest l s refl) [
        | inl t ↦ none target t.encloses
        | inr i ↦ none i.inner i.encloses
      ]

  module _ (inner : List ℕ) (closed : rest ≡ inner ++ 41 ∷ []) where
    pub targeted : (kind : Kind) → (kind ≡ Idle → ⊥) → w ≡ word kind → IsName inner → SpellsOperation kind inner (w ++ 40 ∷ rest)
    targeted kind acts is name =
        let e : word kind ++ enclosed inner ≡ w ++ 40 ∷ rest = ap (λ x. x ++ enclosed inner) (sym is) ∙ ap (λ r. w ++ 40 ∷ r) (sym closed) in
        subst (λ o. SpellsOperation kind inner o) e (with_target acts name)

    pub misnamed : (kind : Kind) → (kind ≡ Idle → ⊥) → w ≡ word kind → (IsName inner → ⊥) → (other : Kind) (target : List ℕ)
        → SpellsOperation other target (w ++ 40 ∷ rest) → ⊥
    misnamed kind acts is unnamed other target s =
        elim (spelled-open w rest l s refl) [
          | inl t ↦ unnamed (subst (λ n. IsName n) (last-unique 41 target inner (sym t.encloses ∙ closed)) t.name)
          | inr i ↦ idle-no_kind w kind acts i.is is
        ]

    pub idling : IsIdleWord w → IsText inner → SpellsOperation Idle [] (w ++ 40 ∷ rest)
    idling is text = subst (λ o. SpellsOperation Idle [] o) (ap (λ r. w ++ 40 ∷ r) (sym closed)) (with_text inner is text)

    pub neither : ((kind : Kind) → (kind ≡ Idle → ⊥) → w ≡ word kind → ⊥) → (IsIdleWord w → IsText inner → ⊥) → (other : Kind) (target : List ℕ)
        → SpellsOperation other target (w ++ 40 ∷ rest) → ⊥
    neither no_kind no_idle other target s =
        elim (spelled-open w rest l s refl) [
          | inl t ↦ no_kind other t.acts t.is
          | inr i ↦ no_idle i.is (subst (λ n. IsText n) (last-unique 41 i.inner inner (sym i.encloses ∙ closed)) i.text)
        ]

module _ (body front rest : List ℕ) (parted : body ≡ front ++ 124 ∷ rest) (l : Lacks 124 front) where
  pub unnamed_thread : (IsName front → ⊥) → (thread : List ℕ) (kind : Kind) (target location : List ℕ) → SpellsEvent thread kind target location body → ⊥
  unnamed_thread none thread kind target location s =
      let e = event-split front rest l s parted in
      none (subst (λ n. IsName n) (sym e.is) e.name)

  -- a second bar
  module _ (operation location : List ℕ) (again : rest ≡ operation ++ 124 ∷ location) (lacks : Lacks 124 operation) where
    second : (thread : List ℕ) (kind : Kind) (target place : List ℕ) → SpellsEvent thread kind target place body
        → SpellsOperation kind target operation × IsText location
    second thread kind target place s =
        let e = event-split front rest l s parted in
        elim e.behind [
          | inl (alone_is, none) ↦ absurd (seam-not-lacking 124 operation location
              (subst (λ x. Lacks 124 x) (sym alone_is ∙ again) (spelled-lacks e.spells)))
          | inr (two, text) ↦
              let (p, q) = seam-unique 124 e.operation place operation location (spelled-lacks e.spells) lacks (sym two ∙ again) in
              (subst (λ o. SpellsOperation kind target o) p e.spells, subst (λ t. IsText t) q text)
        ]

    pub no_location : (IsText location → ⊥) → (thread : List ℕ) (kind : Kind) (target place : List ℕ) → SpellsEvent thread kind target place body → ⊥
    no_location none thread kind target place s = none (second thread kind target place s).1

    pub no_operation : ((kind : Kind) (target : List ℕ) → SpellsOperation kind target operation → ⊥) → (thread : List ℕ) (kind : Kind) (target place : List ℕ)
        → SpellsEvent thread kind target place body → ⊥
    no_operation none thread kind target place s = none kind target (second thread kind target place s).0

    pub is_placed : IsName front → (kind : Kind) (target : List ℕ) → SpellsOperation kind target operation → IsText location
        → SpellsEvent front kind target location body
    is_placed name kind target s text =
        let e : front ++ 124 ∷ operation ++ 124 ∷ location ≡ body =
        append_assoc front (124 ∷ operation) (124 ∷ location) ∙ ap (λ r. front ++ 124 ∷ r) (sym again) ∙ sym parted in
        subst (λ b. SpellsEvent front kind target location b) e (placed name s text)

  -- no second bar
  module _ (lacks : Lacks 124 rest) where
    pub no_operation_alone : ((kind : Kind) (target : List ℕ) → SpellsOperation kind target rest → ⊥) → (thread : List ℕ) (kind : Kind) (target place : List ℕ)
        → SpellsEvent thread kind target place body → ⊥
    no_operation_alone none thread kind target place s =
        let e = event-split front rest l s parted in
        elim e.behind [
          | inl (alone_is, nowhere) ↦ none kind target (subst (λ o. SpellsOperation kind target o) (sym alone_is) e.spells)
          | inr (two, text) ↦ seam-not-lacking 124 e.operation place (subst (λ x. Lacks 124 x) two lacks)
        ]

    pub is_unplaced : IsName front → (kind : Kind) (target : List ℕ) → SpellsOperation kind target rest → SpellsEvent front kind target [] body
    is_unplaced name kind target s = subst (λ b. SpellsEvent front kind target [] b) (sym parted) (unplaced name s)

-- ---- the body of a line is one

pub one_body : {line a : List ℕ} → IsBody line a → (b : List ℕ) → IsBody line b → a ≡ b
one_body {line} h b k = go h k refl
  where
    go : {one other : List ℕ} {x y : List ℕ} → IsBody one x → IsBody other y → one ≡ other → x ≡ y
    go (returned {body = x}) (returned {body = y}) e = last-unique 13 x y e
    go (returned {body = x}) (unreturned {line = m} none) e = absurd (none x (sym e))
    go (unreturned {line = m} none) (returned {body = y}) e = absurd (none y e)
    go (unreturned none) (unreturned other) e = e

-- what a program takes for the rest is the rest
pub take-rest : (xs : List ℕ) (k : ℕ) → take (length xs - k) (drop k xs) ≡ drop k xs
take-rest xs k = ap (λ m. take m (drop k xs)) (sym (length-drop k xs)) ∙ take-length (drop k xs)

-- ---- blanks

pub blank-first : (body rest : List ℕ) (first : ℕ) → body ≡ first ∷ rest → (IsTrue (first == 35) → IsBlank body) × (IsBlank body → IsTrue (first == 35))
blank-first body rest first e = (
  λ t. let is : first ≡ 35 = eqb-true first 35 t in subst (λ b. IsBlank b) (ap (λ x. x ∷ rest) (sym is) ∙ sym e) comment,
  λ h. eq-eqb first 35 (go body h e),
)
  where
    go : (b : List ℕ) → IsBlank b → b ≡ first ∷ rest → first ≡ 35
    go b empty f = let never : ⊥ = cc in absurd never
    go b comment f = cc

pub blank-none : (body : List ℕ) → length body ≡ 0 → IsBlank body
blank-none [] e = empty
blank-none (x ∷ xs) e = absurd (omega arith)
