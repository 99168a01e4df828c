-- A line of an event ends with a blank where its location does.
use Rattle.std.proofs.Common.{◌≡◌, ℕ, suc, ◌-◌, ◌⊎◌, Bool, true, false, List, [], ◌∷◌, ◌++◌, length, inl, inr, sym, subst, refl, ◌∙◌, ap, arith, append_assoc}
use Rattle.std.specs.Prelude.{◌≢◌, ◌↔◌, IsTrue, Option, None, Some, codes}
use Rattle.lrc_races_lines.specs.declared.line.Kind.{Kind}
use Rattle.lrc_races_lines.specs.Line.{IsBlank, IsBody, IsIdleWord, Saying, Says, SaysNothing, IsBad, SpellsEvent, SpellsOperation, alone, placed, unplaced, with_target, with_text, word}
use Rattle.lrc_races_lines.specs.Line.{begins, branches, ends, enters, exits, requests}
use Rattle.lrc_races_lines.proofs.Spelled.{one_body}
use Rattle.lrc_races_notes.specs.Signs.{EndsBlank, IsBlankEnded, IsEvent, last_of}

-- ---- the last byte

last_cons : (x y : ℕ) (ys : List ℕ) → last_of (x ∷ y ∷ ys) ≡ last_of (y ∷ ys)
last_cons x y ys =
    let e : length (x ∷ y ∷ ys) - 1 ≡ suc (length (y ∷ ys) - 1) = omega arith in
    rw e refl

last_append : (xs : List ℕ) (y : ℕ) (ys : List ℕ) → last_of (xs ++ y ∷ ys) ≡ last_of (y ∷ ys)
last_append [] y ys = refl
last_append (x ∷ []) y ys = last_cons x y ys
last_append (x ∷ w ∷ ws) y ys = last_cons x w (ws ++ y ∷ ys) ∙ last_append (w ∷ ws) y ys

unblank : (text : List ℕ) (b : ℕ) → last_of text ≡ Some b → b ≢ 32 → b ≢ 9 → EndsBlank text → ⊥
unblank text b e n m (inl f) =
    let same : Some b ≡ Some 32 = sym e ∙ f in
    let here : b ≡ 32 = cc in
    n here
unblank text b e n m (inr f) =
    let same : Some b ≡ Some 9 = sym e ∙ f in
    let here : b ≡ 9 = cc in
    m here

-- ---- an operation ends with no blank

closed : (front text : List ℕ) → text ≡ front ++ 41 ∷ [] → EndsBlank text → ⊥
closed front text is = unblank text 41 (ap last_of is ∙ last_append front 41 []) (λ e. omega arith) (λ e. omega arith)

enclosed_ends : (front name inner : List ℕ) → EndsBlank (front ++ 124 ∷ (name ++ 40 ∷ (inner ++ 41 ∷ []))) → ⊥
enclosed_ends front name inner =
    let whole : front ++ 124 ∷ (name ++ 40 ∷ (inner ++ 41 ∷ [])) ≡ (front ++ 124 ∷ (name ++ 40 ∷ inner)) ++ 41 ∷ [] = simp append_assoc in
    closed (front ++ 124 ∷ (name ++ 40 ∷ inner)) (front ++ 124 ∷ (name ++ 40 ∷ (inner ++ 41 ∷ []))) whole

idle_ends : (front idle : List ℕ) → IsIdleWord idle → EndsBlank (front ++ 124 ∷ idle) → ⊥
idle_ends front idle begins = unblank (front ++ 124 ∷ codes "begin") 110 (last_append front 124 (codes "begin")) (λ e. omega arith) (λ e. omega arith)
idle_ends front idle ends = unblank (front ++ 124 ∷ codes "end") 100 (last_append front 124 (codes "end")) (λ e. omega arith) (λ e. omega arith)
idle_ends front idle enters = unblank (front ++ 124 ∷ codes "enter") 114 (last_append front 124 (codes "enter")) (λ e. omega arith) (λ e. omega arith)
idle_ends front idle exits = unblank (front ++ 124 ∷ codes "exit") 116 (last_append front 124 (codes "exit")) (λ e. omega arith) (λ e. omega arith)
idle_ends front idle requests = unblank (front ++ 124 ∷ codes "req") 113 (last_append front 124 (codes "req")) (λ e. omega arith) (λ e. omega arith)
idle_ends front idle branches = unblank (front ++ 124 ∷ codes "branch") 104 (last_append front 124 (codes "branch")) (λ e. omega arith) (λ e. omega arith)

operation_ends : {kind : Kind} {target operation : List ℕ} (front : List ℕ) → SpellsOperation kind target operation
    → EndsBlank (front ++ 124 ∷ operation) → ⊥
operation_ends front (with_target {kind = kind} {target = target} acts name) = enclosed_ends front (word kind) target
operation_ends front (alone {idle = idle} is) = idle_ends front idle is
operation_ends front (with_text {idle = idle} inner is text) = enclosed_ends front idle inner

-- ---- so the blank is the location's

last_placed : (front : List ℕ) (l : ℕ) (ls : List ℕ) → last_of (front ++ 124 ∷ (l ∷ ls)) ≡ last_of (l ∷ ls)
last_placed front l ls = last_append front 124 (l ∷ ls) ∙ last_cons 124 l ls

location_ends : (front location : List ℕ) → EndsBlank (front ++ 124 ∷ location) → EndsBlank location
location_ends front [] is =
    absurd (unblank (front ++ 124 ∷ []) 124 (last_append front 124 []) (λ e. omega arith) (λ e. omega arith) is)
location_ends front (l ∷ ls) is = subst (λ (o : Option ℕ). (o ≡ Some 32) ⊎ (o ≡ Some 9)) (last_placed front l ls) is

nothing_ends : EndsBlank [] → ⊥
nothing_ends (inl e) = let never : ⊥ = cc in never
nothing_ends (inr e) = let never : ⊥ = cc in never

body_ends : (front location : List ℕ) → EndsBlank location → EndsBlank (front ++ 124 ∷ location)
body_ends front [] is = absurd (nothing_ends is)
body_ends front (l ∷ ls) is = subst (λ (o : Option ℕ). (o ≡ Some 32) ⊎ (o ≡ Some 9)) (sym (last_placed front l ls)) is

spelled_blank : {thread target location body : List ℕ} {kind : Kind} → SpellsEvent thread kind target location body → EndsBlank body → EndsBlank location
spelled_blank (unplaced {thread = thread} name spells) is = absurd (operation_ends thread spells is)
spelled_blank (placed {thread = thread} {operation = operation} {location = location} name spells text) is = location_ends (thread ++ 124 ∷ operation) location is

blank_spelled : {thread target location body : List ℕ} {kind : Kind} → SpellsEvent thread kind target location body → EndsBlank location → EndsBlank body
blank_spelled (unplaced name spells) is = absurd (nothing_ends is)
blank_spelled (placed {thread = thread} {operation = operation} {location = location} name spells text) is = body_ends (thread ++ 124 ∷ operation) location is

-- ---- lines

pub no_event : (line : List ℕ) → SaysNothing line → IsEvent line → ⊥
no_event line nothing (saying, says) = says.no_comment (subst IsBlank (one_body nothing.of says.body says.of) nothing.blank)

pub bad_event : (line : List ℕ) → IsBad line → IsEvent line → ⊥
bad_event line bad (saying, says) = bad.1 saying says

pub blank_event : (line body : List ℕ) (is : Bool) → IsBody line body → EndsBlank body → (IsTrue is ↔ IsEvent line) → (IsTrue is ↔ IsBlankEnded line)
blank_event line body is of ends_so event = (
  λ yes.
      let (saying, says) = event.0 yes in
      record { saying = saying; says = says; blank = spelled_blank says.spells (subst EndsBlank (one_body of says.body says.of) ends_so) },
  λ b. event.1 (b.saying, b.says),
)

pub no_blank : (line body : List ℕ) → IsBody line body → (EndsBlank body → ⊥) → IsBlankEnded line → ⊥
no_blank line body of not b = not (subst EndsBlank (sym (one_body of b.says.body b.says.of)) (blank_spelled b.says.spells b.blank))
