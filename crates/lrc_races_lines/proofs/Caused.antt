-- What is wrong with a line, from what its parts lack.
use Rattle.std.proofs.Common.{◌≡◌, ◌≢◌, ◌∙◌, ℕ, zero, suc, ◌<◌, ◌≤◌, List, [], ◌∷◌, ◌++◌, Option, Some, None, MatchOption, length, get_or, ap, append_assoc, refl, sym, subst, arith}
use Rattle.lrc_races_lines.specs.declared.cause.Cause.{Cause}
use Rattle.lrc_races_lines.specs.declared.line.Kind.{Kind}
use Rattle.lrc_races_lines.specs.declared.line.Kind.TheVariants.{Idle}
use Rattle.lrc_races_lines.specs.Lacking.{Lacks}
use Rattle.lrc_races_lines.specs.Line.{word as word_of, IsBad, IsBlank, IsBody, IsIdleWord, IsName, IsText, SpellsEvent, SpellsOperation, alone, placed, returned, unplaced, unreturned, with_target, with_text}
use Rattle.lrc_races_lines.specs.Cause.{Why, why_of, fourth_field, IsUpTo, up_to_byte, up_to_end, IsTargetCause, IsSignatureCause, IsOperationCause, IsPlaceCause, IsRestCause, IsBodyCause}
use Rattle.lrc_races_lines.specs.Cause.{place_followed, word_idle, word_targeted}

-- ---- what is lacking in parts

pub lacks-get : (x : ℕ) (ys : List ℕ) → Lacks x ys → (k d : ℕ) → k < length ys → get_or ys k d ≢ x
lacks-get x [] l k d lt = absurd (omega arith)
lacks-get x (y ∷ ys) (ne, l) zero d lt = ne
lacks-get x (y ∷ ys) (ne, l) (suc k) d lt = lacks-get x ys l k d (omega arith)

pub lacks-front : (x : ℕ) (xs ys : List ℕ) → Lacks x (xs ++ ys) → Lacks x xs
lacks-front x [] ys l = tt
lacks-front x (z ∷ xs) ys (ne, l) = (ne, lacks-front x xs ys l)

pub lacks-back : (x : ℕ) (xs ys : List ℕ) → Lacks x (xs ++ ys) → Lacks x ys
lacks-back x [] ys l = l
lacks-back x (z ∷ xs) ys (ne, l) = lacks-back x xs ys l

pub name-by : (name : List ℕ) → 0 < length name → length name ≤ 255 → Lacks 40 name → Lacks 41 name → Lacks 124 name → Lacks 10 name → IsName name
name-by name some few opens closes bars feeds = (
  some,
  few,
  λ k d lt. (lacks-get 124 name bars k d lt, lacks-get 40 name opens k d lt, lacks-get 41 name closes k d lt, lacks-get 10 name feeds k d lt),
)

pub text-by : (text : List ℕ) → length text ≤ 255 → Lacks 124 text → Lacks 10 text → IsText text
text-by text few bars feeds = (few, λ k d lt. (lacks-get 124 text bars k d lt, lacks-get 10 text feeds k d lt))

pub body-lacks : {line body : List ℕ} → IsBody line body → Lacks 10 line → Lacks 10 body
body-lacks (returned {body = body}) l = lacks-front 10 body (13 ∷ []) l
body-lacks (unreturned none) l = l

pub nil-by : (xs : List ℕ) → length xs ≡ 0 → xs ≡ []
nil-by [] e = refl
nil-by (x ∷ xs) e = absurd (omega arith)

pub not-nil : (xs : List ℕ) → 0 < length xs → xs ≡ [] → ⊥
not-nil [] some e = omega arith
not-nil (x ∷ xs) some e = let never : ⊥ = cc in never

-- ---- what is wrong with a part is wrong with the whole

pub target-closed : (inner target rest : List ℕ) (result : Option Cause) → inner ≡ target ++ 41 ∷ rest
    → MatchOption result ((Lacks 124 target → Lacks 10 target → IsName target) × (rest ≡ [])) (λ cause. IsTargetCause (target ++ 41 ∷ rest) (why_of cause))
    → MatchOption result (Lacks 124 inner → Lacks 10 inner → (name : List ℕ) × IsName name × (inner ≡ name ++ 41 ∷ [])) (λ cause. IsTargetCause inner (why_of cause))
target-closed inner target rest None e (name, nil) = λ bars feeds. (
  target,
  name (lacks-front 124 target (41 ∷ rest) (subst (λ i. Lacks 124 i) e bars)) (lacks-front 10 target (41 ∷ rest) (subst (λ i. Lacks 10 i) e feeds)),
  e ∙ ap (λ r. target ++ 41 ∷ r) nil,
)
target-closed inner target rest (Some cause) e h = subst (λ i. IsTargetCause i (why_of cause)) (sym e) h

pub signature-ended : (inner text rest : List ℕ) (result : Option Cause) → inner ≡ text ++ 41 ∷ rest
    → MatchOption result ((Lacks 124 text → Lacks 10 text → IsText text) × (rest ≡ [])) (λ cause. IsSignatureCause (text ++ 41 ∷ rest) (why_of cause))
    → MatchOption result (Lacks 124 inner → Lacks 10 inner → (it : List ℕ) × IsText it × (inner ≡ it ++ 41 ∷ [])) (λ cause. IsSignatureCause inner (why_of cause))
signature-ended inner text rest None e (is, nil) = λ bars feeds. (
  text,
  is (lacks-front 124 text (41 ∷ rest) (subst (λ i. Lacks 124 i) e bars)) (lacks-front 10 text (41 ∷ rest) (subst (λ i. Lacks 10 i) e feeds)),
  e ∙ ap (λ r. text ++ 41 ∷ r) nil,
)
signature-ended inner text rest (Some cause) e h = subst (λ i. IsSignatureCause i (why_of cause)) (sym e) h

pub idle-opened : (word inner : List ℕ) (result : Option Cause) → Lacks 40 word → IsIdleWord word
    → MatchOption result (Lacks 124 inner → Lacks 10 inner → (text : List ℕ) × IsText text × (inner ≡ text ++ 41 ∷ [])) (λ cause. IsSignatureCause inner (why_of cause))
    → MatchOption result (Lacks 124 inner → Lacks 10 inner → (kind : Kind) × (target : List ℕ) × SpellsOperation kind target (word ++ 40 ∷ inner))
    (λ cause. IsOperationCause (word ++ 40 ∷ inner) (why_of cause))
idle-opened word inner None lacks idle h = λ bars feeds.
    let (text, is, e) = h bars feeds in
    (Idle, [], subst (λ i. SpellsOperation Idle [] (word ++ 40 ∷ i)) (sym e) (with_text text idle is))
idle-opened word inner (Some cause) lacks idle h = word_idle lacks idle h

pub target-opened : (word inner : List ℕ) (kind : Kind) (result : Option Cause) → Lacks 40 word → (kind ≡ Idle → ⊥) → word ≡ word_of kind
    → MatchOption result (Lacks 124 inner → Lacks 10 inner → (target : List ℕ) × IsName target × (inner ≡ target ++ 41 ∷ [])) (λ cause. IsTargetCause inner (why_of cause))
    → MatchOption result (Lacks 124 inner → Lacks 10 inner → (it : Kind) × (target : List ℕ) × SpellsOperation it target (word ++ 40 ∷ inner))
    (λ cause. IsOperationCause (word ++ 40 ∷ inner) (why_of cause))
target-opened word inner kind None lacks acts is h = λ bars feeds.
    let (target, name, e) = h bars feeds in (
      kind,
      target,
      subst (λ i. SpellsOperation kind target (word ++ 40 ∷ i)) (sym e)
          (subst (λ w. SpellsOperation kind target (w ++ 40 ∷ (target ++ 41 ∷ []))) (sym is) (with_target acts name)),
    )
target-opened word inner kind (Some cause) lacks acts is h = word_targeted word lacks (kind, acts, is) h

pub field-opened : (field word inner : List ℕ) (result : Option Cause) → field ≡ word ++ 40 ∷ inner
    → MatchOption result (Lacks 124 inner → Lacks 10 inner → (kind : Kind) × (target : List ℕ) × SpellsOperation kind target (word ++ 40 ∷ inner))
    (λ cause. IsOperationCause (word ++ 40 ∷ inner) (why_of cause))
    → MatchOption result (Lacks 124 field → Lacks 10 field → (kind : Kind) × (target : List ℕ) × SpellsOperation kind target field)
    (λ cause. IsOperationCause field (why_of cause))
field-opened field word inner None e h = λ bars feeds.
    let (kind, target, spells) = h (lacks-back 124 word (40 ∷ inner) (subst (λ f. Lacks 124 f) e bars)).1
    (lacks-back 10 word (40 ∷ inner) (subst (λ f. Lacks 10 f) e feeds)).1 in
    (kind, target, subst (λ f. SpellsOperation kind target f) (sym e) spells)
field-opened field word inner (Some cause) e h = subst (λ f. IsOperationCause f (why_of cause)) (sym e) h

pub field-bare : (field : List ℕ) (result : Option Cause) → MatchOption result (IsIdleWord field) (λ cause. IsOperationCause field (why_of cause))
    → MatchOption result (Lacks 124 field → Lacks 10 field → (kind : Kind) × (target : List ℕ) × SpellsOperation kind target field)
    (λ cause. IsOperationCause field (why_of cause))
field-bare field None idle = λ bars feeds. (Idle, [], alone idle)
field-bare field (Some cause) h = h

pub place-short : (location third : List ℕ) → IsUpTo 124 location third → length location ≤ 255 → Lacks 10 third → (IsText third → ⊥)
    → IsPlaceCause third fourth_field
place-short location third (up_to_end bars) few feeds none = absurd (none (text-by third few bars feeds))
place-short location third (up_to_byte rest bars) few feeds none = place_followed location rest bars few

pub rest-placed : (thread rest operation third : List ℕ) (why : Why) → rest ≡ operation ++ 124 ∷ third → IsName thread → Lacks 10 rest
    → ((kind : Kind) (target location : List ℕ) → SpellsEvent thread kind target location (thread ++ 124 ∷ rest) → ⊥)
    → (Lacks 10 operation → Lacks 10 third → ((kind : Kind) (target : List ℕ) → SpellsOperation kind target operation → IsText third → ⊥)
    → IsRestCause (operation ++ 124 ∷ third) why) → IsRestCause rest why
rest-placed thread rest operation third why e name feeds none h =
    let all = subst (λ r. Lacks 10 r) e feeds in
    subst (λ r. IsRestCause r why) (sym e)
    (h (lacks-front 10 operation (124 ∷ third) all) (lacks-back 10 operation (124 ∷ third) all).1
    (λ kind target spells text. none kind target third (subst (λ r. SpellsEvent thread kind target third (thread ++ 124 ∷ r)) (sym e)
    (subst (λ b. SpellsEvent thread kind target third b) (append_assoc thread (124 ∷ operation) (124 ∷ third)) (placed name spells text)))))

pub rest-unplaced : (thread rest : List ℕ) (why : Why) → IsName thread → Lacks 10 rest
    → ((kind : Kind) (target location : List ℕ) → SpellsEvent thread kind target location (thread ++ 124 ∷ rest) → ⊥)
    → (Lacks 10 rest → ((kind : Kind) (target : List ℕ) → SpellsOperation kind target rest → ⊥) → IsRestCause rest why) → IsRestCause rest why
rest-unplaced thread rest why name feeds none h = h feeds (λ kind target spells. none kind target [] (unplaced name spells))

pub body-barred : (body thread rest : List ℕ) (why : Why) → body ≡ thread ++ 124 ∷ rest → Lacks 10 body
    → ((name : List ℕ) (kind : Kind) (target location : List ℕ) → SpellsEvent name kind target location body → ⊥)
    → (Lacks 10 thread → Lacks 10 rest → ((kind : Kind) (target location : List ℕ) → SpellsEvent thread kind target location (thread ++ 124 ∷ rest) → ⊥)
    → IsBodyCause (thread ++ 124 ∷ rest) why) → IsBodyCause body why
body-barred body thread rest why e feeds none h =
    let all = subst (λ b. Lacks 10 b) e feeds in
    subst (λ b. IsBodyCause b why) (sym e)
    (h (lacks-front 10 thread (124 ∷ rest) all) (lacks-back 10 thread (124 ∷ rest) all).1
    (λ kind target location spells. none thread kind target location (subst (λ b. SpellsEvent thread kind target location b) (sym e) spells)))

-- ---- a line that is bad spells no event

pub bad-spells : {line body : List ℕ} → IsBad line → length line ≤ 4096 → IsBody line body
    → (thread : List ℕ) (kind : Kind) (target location : List ℕ) → SpellsEvent thread kind target location body → (IsBlank body → ⊥) → ⊥
bad-spells {line} {body} bad short of thread kind target location spells no_comment =
    bad.1 (record { thread = thread; kind = kind; target = target; location = location })
    (record { body = body; of = of; short = short; no_comment = no_comment; spells = spells })

pub bad-blank : {line body : List ℕ} → IsBad line → length line ≤ 4096 → IsBody line body → IsBlank body → ⊥
bad-blank {line} {body} bad short of blank = bad.0 (record { body = body; of = of; short = short; blank = blank })
