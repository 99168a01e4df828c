-- What a line spells, by its word.
use Rattle.std.proofs.Common.{◌≡◌, ℕ, List, [], ◌∷◌, ◌++◌, inl, inr, refl, sym, subst, ◌∙◌, ap, arith}
use Rattle.std.specs.Prelude.{◌==◌, ◌&&◌, ◌≢◌, ◌↔◌, IsTrue, Bool, true, false, not, Option, MatchOption, codes}
use Rattle.std.proofs.lemmas.Bool.{true≢false}
use Rattle.std.proofs.lemmas.Bool.Decides.{eqb_tells}
use Rattle.std.specs.Str.Parse.{AllDigits}
use Rattle.std.specs.Char.{digit_value}
use Rattle.lrc_text.specs.Digits.{IsNumber}
use Rattle.lrc_races_lines.specs.Line.{bar, IsName}
use Rattle.lrc_races_lines.specs.Lacking.{Lacks}
use Rattle.lrc_races_lines.proofs.Spelled.{all-lacks, seam-unique, seam-not-lacking}
use Rattle.lrc_races_score.specs.declared.claim.Claim.{Claim}
use Rattle.lrc_races_score.specs.Claims.{Statement, event, pair, locations, variable, first, statement_of, blank, IsLineNumber, IsPlace}
use Rattle.lrc_races_score.specs.Claims.{SpellsClaim, spells_event, spells_pair, spells_locations, spells_variable, spells_first}

-- ---- the words of claims

pub data Word : Type 0 where
  of_event : Word
  of_pair : Word
  of_locations : Word
  of_variable : Word
  of_first : Word

abbrev pub word : Word → List ℕ
word of_event = codes "event"
word of_pair = codes "pair"
word of_locations = codes "locations"
word of_variable = codes "variable"
word of_first = codes "first"

-- whether a byte is lacking, as a test
tests_lack : ℕ → List ℕ → Bool
tests_lack x [] = true
tests_lack x (y ∷ ys) = not (y == x) && tests_lack x ys

lacks-by : (x : ℕ) (ys : List ℕ) → tests_lack x ys ≡ true → Lacks x ys
unfolding tests_lack
lacks-by x [] e = tt
lacks-by x (y ∷ ys) e =
    elim (eqb_tells y x) [
      | inl (same, is) ↦ let never : ⊥ = grind (arith, e, same) in absurd never
      | inr (differ, other) ↦ (other, lacks-by x ys (grind (arith, e, differ)))
    ]

word-lacks : (w : Word) → Lacks 32 (word w)
unfolding tests_lack
word-lacks of_event = lacks-by 32 (codes "event") refl
word-lacks of_pair = lacks-by 32 (codes "pair") refl
word-lacks of_locations = lacks-by 32 (codes "locations") refl
word-lacks of_variable = lacks-by 32 (codes "variable") refl
word-lacks of_first = lacks-by 32 (codes "first") refl

-- what is claimed behind a word
pub data Behind : Word → Statement → List ℕ → Type 0 where
  event_behind : {digits : List ℕ} {line : ℕ} → IsLineNumber digits line → Behind of_event (event line) digits
  pair_behind : {digits others : List ℕ} {line other : ℕ} → IsLineNumber digits line → IsLineNumber others other
      → Behind of_pair (pair line other) (digits ++ blank ∷ others)
  locations_behind : {place other : List ℕ} → IsPlace place → IsPlace other → Behind of_locations (locations place other) (place ++ bar ∷ other)
  variable_behind : {name : List ℕ} → IsName name → Behind of_variable (variable name) name
  first_behind : {name digits : List ℕ} {line : ℕ} → IsName name → IsLineNumber digits line
      → Behind of_first (first name line) (name ++ blank ∷ digits)

-- a claim is a word and what is claimed behind it
pub record IsWorded (claim : Statement) (body : List ℕ) : Type 0 where
  pub by : Word
  pub rest : List ℕ
  pub is : body ≡ word by ++ 32 ∷ rest
  pub behind : Behind by claim rest

pub worded : {claim : Statement} {body : List ℕ} → SpellsClaim claim body → IsWorded claim body
worded (spells_event h) = record { by = of_event; rest = _; is = refl; behind = event_behind h }
worded (spells_pair h g) = record { by = of_pair; rest = _; is = refl; behind = pair_behind h g }
worded (spells_locations h g) = record { by = of_locations; rest = _; is = refl; behind = locations_behind h g }
worded (spells_variable h) = record { by = of_variable; rest = _; is = refl; behind = variable_behind h }
worded (spells_first h g) = record { by = of_first; rest = _; is = refl; behind = first_behind h g }

-- each word has its own first letter
abbrev letter : List ℕ → ℕ
letter [] = 0
letter (x ∷ xs) = x

pub word-one : (v w : Word) → word v ≡ word w → v ≡ w
word-one of_event of_event e = refl
word-one of_event of_pair e = let h : 101 ≡ 112 = ap letter e in absurd (omega (arith, h))
word-one of_event of_locations e = let h : 101 ≡ 108 = ap letter e in absurd (omega (arith, h))
word-one of_event of_variable e = let h : 101 ≡ 118 = ap letter e in absurd (omega (arith, h))
word-one of_event of_first e = let h : 101 ≡ 102 = ap letter e in absurd (omega (arith, h))
word-one of_pair of_event e = let h : 112 ≡ 101 = ap letter e in absurd (omega (arith, h))
word-one of_pair of_pair e = refl
word-one of_pair of_locations e = let h : 112 ≡ 108 = ap letter e in absurd (omega (arith, h))
word-one of_pair of_variable e = let h : 112 ≡ 118 = ap letter e in absurd (omega (arith, h))
word-one of_pair of_first e = let h : 112 ≡ 102 = ap letter e in absurd (omega (arith, h))
word-one of_locations of_event e = let h : 108 ≡ 101 = ap letter e in absurd (omega (arith, h))
word-one of_locations of_pair e = let h : 108 ≡ 112 = ap letter e in absurd (omega (arith, h))
word-one of_locations of_locations e = refl
word-one of_locations of_variable e = let h : 108 ≡ 118 = ap letter e in absurd (omega (arith, h))
word-one of_locations of_first e = let h : 108 ≡ 102 = ap letter e in absurd (omega (arith, h))
word-one of_variable of_event e = let h : 118 ≡ 101 = ap letter e in absurd (omega (arith, h))
word-one of_variable of_pair e = let h : 118 ≡ 112 = ap letter e in absurd (omega (arith, h))
word-one of_variable of_locations e = let h : 118 ≡ 108 = ap letter e in absurd (omega (arith, h))
word-one of_variable of_variable e = refl
word-one of_variable of_first e = let h : 118 ≡ 102 = ap letter e in absurd (omega (arith, h))
word-one of_first of_event e = let h : 102 ≡ 101 = ap letter e in absurd (omega (arith, h))
word-one of_first of_pair e = let h : 102 ≡ 112 = ap letter e in absurd (omega (arith, h))
word-one of_first of_locations e = let h : 102 ≡ 108 = ap letter e in absurd (omega (arith, h))
word-one of_first of_variable e = let h : 102 ≡ 118 = ap letter e in absurd (omega (arith, h))
word-one of_first of_first e = refl

-- what is spelled with this word is claimed behind it
pub behind_of : (w : Word) (claim : Statement) (rest : List ℕ) → SpellsClaim claim (word w ++ 32 ∷ rest) → Behind w claim rest
behind_of w claim rest h =
    let i = worded h in
    let (front, back) = seam-unique 32 (word w) rest (word i.by) i.rest (word-lacks w) (word-lacks i.by) i.is in
    subst (λ (v : Word). Behind v claim rest) (sym (word-one w i.by front)) (subst (λ (r : List ℕ). Behind i.by claim r) (sym back) i.behind)

-- a body without a blank spells none
pub none_without : (body : List ℕ) → Lacks 32 body → (claim : Statement) → SpellsClaim claim body → ⊥
none_without body lacks claim h =
    let i = worded h in seam-not-lacking 32 (word i.by) i.rest (subst (λ (b : List ℕ). Lacks 32 b) i.is lacks)

-- nor does one with another word
pub none_other : (front rest : List ℕ) → Lacks 32 front → ((w : Word) → front ≢ word w) → (claim : Statement) → SpellsClaim claim (front ++ 32 ∷ rest) → ⊥
none_other front rest lacks other claim h =
    let i = worded h in
    let (same, back) = seam-unique 32 front rest (word i.by) i.rest lacks (word-lacks i.by) i.is in
    other i.by same

-- ---- numbers have no blanks, and locations no bars

digits-lack : (digits : List ℕ) → AllDigits 10 digits → Lacks 32 digits
digits-lack [] h = tt
digits-lack (c ∷ cs) (digit, more) =
    (λ e. let value : digit_value c ≡ digit_value 32 = ap digit_value e in omega (arith, digit, value), digits-lack cs more)

pub number-lacks : (digits : List ℕ) (line : ℕ) → IsLineNumber digits line → Lacks 32 digits
number-lacks digits line h = digits-lack digits h.says.numeral.1

place-lacks : (place : List ℕ) → IsPlace place → Lacks 124 place
place-lacks place h = all-lacks 124 place (λ k lt. h.2 k 0 lt)

-- what stands before and behind the last such byte
pub last-seam : (x : ℕ) (a b c d : List ℕ) → Lacks x b → Lacks x d → a ++ x ∷ b ≡ c ++ x ∷ d → (a ≡ c) × (b ≡ d)
last-seam x [] b [] d f g e = (refl, tail e)
  where
    tail : x ∷ b ≡ x ∷ d → b ≡ d
    tail e = cc
last-seam x [] b (y ∷ c) d f g e = absurd (seam-not-lacking x c d (subst (λ (l : List ℕ). Lacks x l) (tail e) f))
  where
    tail : x ∷ b ≡ y ∷ (c ++ x ∷ d) → b ≡ c ++ x ∷ d
    tail e = cc
last-seam x (y ∷ a) b [] d f g e = absurd (seam-not-lacking x a b (subst (λ (l : List ℕ). Lacks x l) (sym (tail e)) g))
  where
    tail : y ∷ (a ++ x ∷ b) ≡ x ∷ d → a ++ x ∷ b ≡ d
    tail e = cc
last-seam x (y ∷ a) b (z ∷ c) d f g e =
    let (front, back) = last-seam x a b c d f g (tail e) in (both (head e) front, back)
  where
    tail : y ∷ (a ++ x ∷ b) ≡ z ∷ (c ++ x ∷ d) → a ++ x ∷ b ≡ c ++ x ∷ d
    tail e = cc

    head : y ∷ (a ++ x ∷ b) ≡ z ∷ (c ++ x ∷ d) → y ≡ z
    head e = cc

    both : y ≡ z → a ≡ c → y ∷ a ≡ z ∷ c
    both h t = cc

-- ---- what is claimed behind each word

event_inverse : (claim : Statement) (rest : List ℕ) → Behind of_event claim rest → (line : ℕ) × IsLineNumber rest line
event_inverse claim rest (event_behind {line = line} h) = (line, h)

record IsPair (rest : List ℕ) : Type 0 where
  digits : List ℕ
  others : List ℕ
  line : ℕ
  other : ℕ
  is : rest ≡ digits ++ 32 ∷ others
  one : IsLineNumber digits line
  two : IsLineNumber others other

pair_inverse : (claim : Statement) (rest : List ℕ) → Behind of_pair claim rest → IsPair rest
pair_inverse claim rest (pair_behind h g) = record { digits = _; others = _; line = _; other = _; is = refl; one = h; two = g }

record IsPlaces (rest : List ℕ) : Type 0 where
  place : List ℕ
  other : List ℕ
  is : rest ≡ place ++ 124 ∷ other
  one : IsPlace place
  two : IsPlace other

locations_inverse : (claim : Statement) (rest : List ℕ) → Behind of_locations claim rest → IsPlaces rest
locations_inverse claim rest (locations_behind h g) = record { place = _; other = _; is = refl; one = h; two = g }

variable_inverse : (claim : Statement) (rest : List ℕ) → Behind of_variable claim rest → IsName rest
variable_inverse claim rest (variable_behind h) = h

record IsNamed (rest : List ℕ) : Type 0 where
  name : List ℕ
  digits : List ℕ
  line : ℕ
  is : rest ≡ name ++ 32 ∷ digits
  one : IsName name
  two : IsLineNumber digits line

first_inverse : (claim : Statement) (rest : List ℕ) → Behind of_first claim rest → IsNamed rest
first_inverse claim rest (first_behind h g) = record { name = _; digits = _; line = _; is = refl; one = h; two = g }

pub no_event : (rest : List ℕ) → ((line : ℕ) → IsLineNumber rest line → ⊥) → (claim : Statement) → SpellsClaim claim (codes "event" ++ 32 ∷ rest) → ⊥
no_event rest none claim h = let (line, n) = event_inverse claim rest (behind_of of_event claim rest h) in none line n

pub no_pair_without : (rest : List ℕ) → Lacks 32 rest → (claim : Statement) → SpellsClaim claim (codes "pair" ++ 32 ∷ rest) → ⊥
no_pair_without rest lacks claim h =
    let p = pair_inverse claim rest (behind_of of_pair claim rest h) in
    seam-not-lacking 32 p.digits p.others (subst (λ (l : List ℕ). Lacks 32 l) p.is lacks)

pub no_pair : (rest digits others : List ℕ) → rest ≡ digits ++ 32 ∷ others → Lacks 32 digits
    → ((line other : ℕ) → IsLineNumber digits line → IsLineNumber others other → ⊥) → (claim : Statement)
    → SpellsClaim claim (codes "pair" ++ 32 ∷ rest) → ⊥
no_pair rest digits others is lacks none claim h =
    let p = pair_inverse claim rest (behind_of of_pair claim rest h) in
    let (front, back) = seam-unique 32 p.digits p.others digits others (number-lacks p.digits p.line p.one) lacks (sym p.is ∙ is) in
    none p.line p.other (subst (λ (l : List ℕ). IsLineNumber l p.line) front p.one) (subst (λ (l : List ℕ). IsLineNumber l p.other) back p.two)

pub no_places_without : (rest : List ℕ) → Lacks 124 rest → (claim : Statement) → SpellsClaim claim (codes "locations" ++ 32 ∷ rest) → ⊥
no_places_without rest lacks claim h =
    let p = locations_inverse claim rest (behind_of of_locations claim rest h) in
    seam-not-lacking 124 p.place p.other (subst (λ (l : List ℕ). Lacks 124 l) p.is lacks)

pub no_places : (rest place other : List ℕ) → rest ≡ place ++ 124 ∷ other → Lacks 124 place → (IsPlace place → IsPlace other → ⊥) → (claim : Statement)
    → SpellsClaim claim (codes "locations" ++ 32 ∷ rest) → ⊥
no_places rest place other is lacks none claim h =
    let p = locations_inverse claim rest (behind_of of_locations claim rest h) in
    let (front, back) = seam-unique 124 p.place p.other place other (place-lacks p.place p.one) lacks (sym p.is ∙ is) in
    none (subst IsPlace front p.one) (subst IsPlace back p.two)

pub no_variable : (rest : List ℕ) → (IsName rest → ⊥) → (claim : Statement) → SpellsClaim claim (codes "variable" ++ 32 ∷ rest) → ⊥
no_variable rest none claim h = none (variable_inverse claim rest (behind_of of_variable claim rest h))

pub no_first_without : (rest : List ℕ) → Lacks 32 rest → (claim : Statement) → SpellsClaim claim (codes "first" ++ 32 ∷ rest) → ⊥
no_first_without rest lacks claim h =
    let p = first_inverse claim rest (behind_of of_first claim rest h) in
    seam-not-lacking 32 p.name p.digits (subst (λ (l : List ℕ). Lacks 32 l) p.is lacks)

pub no_first : (rest name digits : List ℕ) → rest ≡ name ++ 32 ∷ digits → Lacks 32 digits → ((line : ℕ) → IsName name → IsLineNumber digits line → ⊥)
    → (claim : Statement) → SpellsClaim claim (codes "first" ++ 32 ∷ rest) → ⊥
no_first rest name digits is lacks none claim h =
    let p = first_inverse claim rest (behind_of of_first claim rest h) in
    let (front, back) = last-seam 32 p.name p.digits name digits (number-lacks p.digits p.line p.two) lacks (sym p.is ∙ is) in
    none p.line (subst IsName front p.one) (subst (λ (l : List ℕ). IsLineNumber l p.line) back p.two)

-- ---- the same of a body that is so

pub spelled_as : (body other : List ℕ) → body ≡ other → (o : Option Claim)
    → MatchOption o ((claim : Statement) → SpellsClaim claim other → ⊥) (λ claim. SpellsClaim (statement_of claim) other)
    → MatchOption o ((claim : Statement) → SpellsClaim claim body → ⊥) (λ claim. SpellsClaim (statement_of claim) body)
spelled_as body other e o m =
    subst (λ (b : List ℕ). MatchOption o ((claim : Statement) → SpellsClaim claim b → ⊥) (λ claim. SpellsClaim (statement_of claim) b)) (sym e) m

pub no_word : (front rest : List ℕ) → Lacks 32 front → (front ≡ codes "event" → ⊥) → (front ≡ codes "pair" → ⊥) → (front ≡ codes "locations" → ⊥)
    → (front ≡ codes "variable" → ⊥) → (front ≡ codes "first" → ⊥) → (claim : Statement) → SpellsClaim claim (front ++ 32 ∷ rest) → ⊥
no_word front rest lacks f g h i j = none_other front rest lacks other
  where
    other : (w : Word) → front ≢ word w
    other of_event = f
    other of_pair = g
    other of_locations = h
    other of_variable = i
    other of_first = j

-- what a test says
pub is_true : (r : Bool) (P : Type 0) → (IsTrue r ↔ P) → r ≡ true → P
is_true r P says set = says.0 set

pub is_false : (r : Bool) (P : Type 0) → (IsTrue r ↔ P) → r ≡ false → P → ⊥
is_false r P says unset h = true≢false (sym (says.1 h) ∙ unset)

-- ---- what is found

pub spelled_by : (front word rest : List ℕ) → front ≡ word → (o : Option Claim)
    → MatchOption o ((claim : Statement) → SpellsClaim claim (word ++ 32 ∷ rest) → ⊥) (λ claim. SpellsClaim (statement_of claim) (word ++ 32 ∷ rest))
    → MatchOption o ((claim : Statement) → SpellsClaim claim (front ++ 32 ∷ rest) → ⊥) (λ claim. SpellsClaim (statement_of claim) (front ++ 32 ∷ rest))
spelled_by front word rest e o m = spelled_as (front ++ 32 ∷ rest) (word ++ 32 ∷ rest) (ap (λ (l : List ℕ). l ++ 32 ∷ rest) e) o m

pub zero_line : (digits : List ℕ) (line : ℕ) → IsNumber digits 18446744073709551615 line → line ≡ 0 → (other : ℕ) → IsLineNumber digits other → ⊥
zero_line digits line n none other h =
    let some = h.some in
    let same : other ≡ line = h.says.value ∙ sym n.value in
    omega arith

pub line_found : (digits : List ℕ) (line : ℕ) → IsNumber digits 18446744073709551615 line → line ≢ 0 → IsLineNumber digits line
line_found digits line n some = record { says = n; some = omega (arith, some) }

pub pair_spelled : (rest digits others : List ℕ) (line other : ℕ) → rest ≡ digits ++ 32 ∷ others → IsLineNumber digits line → IsLineNumber others other
    → SpellsClaim (pair line other) (codes "pair" ++ 32 ∷ rest)
pair_spelled rest digits others line other e h g =
    subst (λ (l : List ℕ). SpellsClaim (pair line other) (codes "pair" ++ 32 ∷ l)) (sym e) (spells_pair h g)

pub places_spelled : (rest place other : List ℕ) → rest ≡ place ++ 124 ∷ other → IsPlace place → IsPlace other
    → SpellsClaim (locations place other) (codes "locations" ++ 32 ∷ rest)
places_spelled rest place other e h g =
    subst (λ (l : List ℕ). SpellsClaim (locations place other) (codes "locations" ++ 32 ∷ l)) (sym e) (spells_locations h g)

pub first_spelled : (rest name digits : List ℕ) (line : ℕ) → rest ≡ name ++ 32 ∷ digits → IsName name → IsLineNumber digits line
    → SpellsClaim (first name line) (codes "first" ++ 32 ∷ rest)
first_spelled rest name digits line e h g =
    subst (λ (l : List ℕ). SpellsClaim (first name line) (codes "first" ++ 32 ∷ l)) (sym e) (spells_first h g)
