-- What is told of a fault, from what was found.
use Rattle.std.proofs.Common.{◌≡◌, ◌<◌, ◌≤◌, ℕ, zero, suc, List, [], ◌∷◌, ◌++◌, length, map, get_or, take, Option, refl, sym, ap, ◌∙◌, arith, length-append}
use Rattle.std.proofs.lemmas.List.{length-map, take_at, take-map}
use Rattle.std.proofs.lemmas.Option.{slice_get-map}
use Rattle.std.specs.Option.{option_map}
use Rattle.std.specs.Prelude.{◌-◌, slice_get}
use Rattle.lrc_lang.specs.declared.fault.FaultKind.{FaultKind}
use Rattle.lrc_lint_fault.proofs.Telling.{item_behind}
use Rattle.lrc_named_tokens.specs.declared.token.Located as code_located
use Rattle.lrc_named_tokens.specs.Lexemes.{HasLexemes}
use Rattle.lrc_named_tokens.specs.Token.{Located}
use Rattle.lrc_named_tokens.specs.View.{located_of}
use Rattle.lrc_named_may.specs.declared.kind.Kind.{Kind}
use Rattle.lrc_named_may.specs.FirstFault.{IsFirstFaultOf}
use Rattle.lrc_named_hints.specs.declared.fault.Fault.{Fault}
use Rattle.lrc_named_hints.specs.HintTable.{hint_of, seen_of}
use Rattle.lrc_named_lint.specs.Told.{fault_lines, TellsTextFault}

pub within_all : (xs : List code_located.Located) (i : ℕ) (kind : FaultKind) (some : List Kind) → IsFirstFaultOf (map located_of xs) i kind some → i < length xs
within_all xs i kind some first =
    let h = first.has in
    let long = simp (length-map, length-append) at (ap length h.split) in
    omega (arith, long, h.place)

item_seen : (xs : List code_located.Located) (i : ℕ) (d : code_located.Located) → get_or (map located_of xs) i (located_of d) ≡ located_of (get_or xs i d)
item_seen [] i d = refl
item_seen (x ∷ xs) zero d = refl
item_seen (x ∷ xs) (suc i) d = item_seen xs i d

pub found_there : (xs : List code_located.Located) (i : ℕ) (kind : FaultKind) (some : List Kind) (d : code_located.Located)
    → (first : IsFirstFaultOf (map located_of xs) i kind some) → located_of (get_or xs i d) ≡ first.has.found
found_there xs i kind some d first =
    let h = first.has in
    sym (item_seen xs i d) ∙ ap (λ ys. get_or ys i (located_of d)) h.split ∙ ap (λ n. get_or (h.front ++ h.found ∷ h.others) n (located_of d)) (sym h.place)
    ∙ item_behind h.front h.found (located_of d) h.others

-- what was found, and the tokens before it
front_there : (xs : List code_located.Located) (i : ℕ) (kind : FaultKind) (some : List Kind) → (first : IsFirstFaultOf (map located_of xs) i kind some)
    → map located_of (take i xs) ≡ first.has.front
front_there xs i kind some first =
    let h = first.has in
    sym (take-map located_of i xs) ∙ ap (take i) h.split ∙ take_at h.front (h.found ∷ h.others) i h.place

previous_there : (xs : List code_located.Located) (i : ℕ) (front : List Located) → map located_of (take i xs) ≡ front
    → option_map located_of (slice_get (take i xs) (length (take i xs) - 1)) ≡ slice_get front (length front - 1)
previous_there xs i front is =
    sym (slice_get-map located_of (take i xs) (length (take i xs) - 1))
    ∙ ap (λ n. slice_get (map located_of (take i xs)) (n - 1)) (sym (length-map (take i xs) located_of))
    ∙ ap (λ l. slice_get l (length l - 1)) is

-- the fault of the code is the first one of the text, and so its hint is that one's
pub told_of : (file text lines : List ℕ) (xs : List code_located.Located) (i : ℕ) (kind : FaultKind) (some : List Kind) (fault : Fault)
    → HasLexemes text (map located_of xs) → IsFirstFaultOf (map located_of xs) i kind some → fault.text.now ≡ text → fault.before.now ≡ take i xs
    → fault.previous ≡ slice_get (take i xs) (length (take i xs) - 1) → fault.found ≡ get_or xs i fault.found → fault.kind ≡ kind
    → fault.may_stand.now ≡ some
    → lines ≡ fault_lines file fault.text.now (located_of fault.found) fault.kind fault.may_stand.now (hint_of fault.kind (seen_of fault))
    → TellsTextFault file text lines
told_of file text lines xs i kind some fault are first text_is before_is previous_is found_is kind_is some_is is =
    let front = first.has.front in
    let found = first.has.found in
    let before : map located_of fault.before.now ≡ front = ap (map located_of) before_is ∙ front_there xs i kind some first in
    let previous : option_map located_of fault.previous ≡ slice_get front (length front - 1) =
    ap (option_map located_of) previous_is ∙ previous_there xs i front (front_there xs i kind some first) in
    let there : located_of fault.found ≡ found = ap located_of found_is ∙ found_there xs i kind some fault.found first in
    let lines_by = λ (t : List ℕ) (b : List Located) (p : Option Located) (f : Located) (k : FaultKind) (m : List Kind).
    fault_lines file t f k m (hint_of k (record { text = t; before = b; previous = p; found = f; may_stand = m })) in
    let t = fault.text.now in
    let b = map located_of fault.before.now in
    let p = option_map located_of fault.previous in
    let f = located_of fault.found in
    let k = fault.kind in
    let m = fault.may_stand.now in
    record {
      all = map located_of xs;
      are = are;
      index = i;
      kind = kind;
      may_stand = some;
      first = first;
      is =
          is ∙ ap (λ x. lines_by x b p f k m) text_is ∙ ap (λ x. lines_by text x p f k m) before ∙ ap (λ x. lines_by text front x f k m) previous
          ∙ ap (λ x. lines_by text front (slice_get front (length front - 1)) x k m) there
          ∙ ap (λ x. lines_by text front (slice_get front (length front - 1)) found x m) kind_is
          ∙ ap (λ x. lines_by text front (slice_get front (length front - 1)) found kind x) some_is;
    }
