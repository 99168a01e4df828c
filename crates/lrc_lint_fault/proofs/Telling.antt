-- What is told of a fault, from what was found.
use Rattle.std.proofs.Common.{◌≡◌, ◌<◌, ◌+◌, ℕ, zero, suc, true, false, cond, List, [], ◌∷◌, ◌++◌, length, map, get_or, take, drop, Option, Some, None, MatchOption, Result, Ok, Err, OnOk, IfOk, refl, sym, ap, ◌∙◌}
use Rattle.std.proofs.Common.{arith, length-append, append_assoc, append-nil}
use Rattle.std.proofs.lemmas.List.{length-map, take_at, take-map, take_more, drop_more}
use Rattle.std.proofs.lemmas.Option.{slice_get-map}
use Rattle.std.specs.Option.{option_map}
use Rattle.std.specs.Prelude.{◌-◌, slice_get}
use Rattle.lrc_lang.specs.declared.fault.FaultKind.{FaultKind}
use Rattle.lrc_lang.specs.declared.kind.Kind.{Kind}
use Rattle.lrc_lang.specs.declared.positions.Located as code_located
use Rattle.lrc_lang.specs.FirstFault.{IsFirstFaultOf}
use Rattle.lrc_lang.specs.Parser.Located.{located_of}
use Rattle.lrc_lang.specs.Positions.{Located, HasLocated}
use Rattle.lrc_lint_fault.specs.declared.fault.Fault.{Fault}
use Rattle.lrc_lint_fault.specs.HintTable.{hint_of, seen_of}
use Rattle.lrc_lint_fault.specs.Spelled.{is_digit, digits_of}
use Rattle.lrc_lint_fault.specs.Told.{fault_lines, TellsFault}

-- ---- digits

pub digits_behind : (text : List ℕ) (i : ℕ) → i < length text → digits_of text ≡ take i text ++ digits_of (drop i text) → is_digit (get_or text i 0) ≡ true
    → digits_of text ≡ take (i + 1) text ++ digits_of (drop (i + 1) text)
digits_behind text i within so_far is =
    let byte = get_or text i 0 in
    let here : digits_of (drop i text) ≡ byte ∷ digits_of (drop (i + 1) text) =
    ap digits_of (drop_more text i 0 within) ∙ ap (λ b. cond b (byte ∷ digits_of (drop (i + 1) text)) []) is in
    so_far ∙ ap (λ ds. take i text ++ ds) here ∙ sym (append_assoc (take i text) (byte ∷ []) (digits_of (drop (i + 1) text)))
    ∙ ap (λ front. front ++ digits_of (drop (i + 1) text)) (sym (take_more text i 0 within))

pub digits_end : (text : List ℕ) (i : ℕ) → i < length text → digits_of text ≡ take i text ++ digits_of (drop i text) → is_digit (get_or text i 0) ≡ false
    → take i text ≡ digits_of text
digits_end text i within so_far other =
    let byte = get_or text i 0 in
    let here : digits_of (drop i text) ≡ [] =
    ap digits_of (drop_more text i 0 within) ∙ ap (λ b. cond b (byte ∷ digits_of (drop (i + 1) text)) []) other in
    sym (so_far ∙ ap (λ ds. take i text ++ ds) here ∙ append-nil (take i text))

-- ---- the place of the fault

pub within_all : (xs : List code_located.Located) (i : ℕ) (kind : FaultKind) (some : List Kind) → IsFirstFaultOf (map located_of xs) i kind some → i < length xs
within_all xs i kind some first =
    let h = first.has in
    let long = simp (length-map, length-append) at (ap length h.split) in
    omega (arith, long, h.place)

pub item_behind : {A : Type 0} (front : List A) (found d : A) (others : List A) → get_or (front ++ found ∷ others) (length front) d ≡ found
item_behind [] found d others = refl
item_behind (x ∷ front) found d others = item_behind front found d others

item_seen : (xs : List code_located.Located) (i : ℕ) (d : code_located.Located) → get_or (map located_of xs) i (located_of d) ≡ located_of (get_or xs i d)
item_seen [] i d = refl
item_seen (x ∷ xs) zero d = refl
item_seen (x ∷ xs) (suc i) d = item_seen xs i d

pub found_there : (xs : List code_located.Located) (i : ℕ) (kind : FaultKind) (some : List Kind) (d : code_located.Located)
    → (first : IsFirstFaultOf (map located_of xs) i kind some) → located_of (get_or xs i d) ≡ first.has.found
found_there xs i kind some d first =
    let h = first.has in
    sym (item_seen xs i d) ∙ ap (λ ys. get_or ys i (located_of d)) h.split ∙ ap (λ n. get_or (h.front ++ h.found ∷ h.others) n (located_of d)) (sym h.place)
    ∙ item_behind h.front h.found (located_of d) h.others

-- what was found, and the tokens before it
front_there : (xs : List code_located.Located) (i : ℕ) (kind : FaultKind) (some : List Kind) → (first : IsFirstFaultOf (map located_of xs) i kind some)
    → map located_of (take i xs) ≡ first.has.front
front_there xs i kind some first =
    let h = first.has in
    sym (take-map located_of i xs) ∙ ap (take i) h.split ∙ take_at h.front (h.found ∷ h.others) i h.place

previous_there : (xs : List code_located.Located) (i : ℕ) (front : List Located) → map located_of (take i xs) ≡ front
    → option_map located_of (slice_get (take i xs) (length (take i xs) - 1)) ≡ slice_get front (length front - 1)
previous_there xs i front is =
    sym (slice_get-map located_of (take i xs) (length (take i xs) - 1))
    ∙ ap (λ n. slice_get (map located_of (take i xs)) (n - 1)) (sym (length-map (take i xs) located_of))
    ∙ ap (λ l. slice_get l (length l - 1)) is

-- ---- results

pub on_ok : {A E P Q : Type 0} (r : Result A E) → (P → Q) → OnOk r P → OnOk r Q
on_ok (Ok x) f p = f p
on_ok (Err e) f p = tt

pub if_ok : {A E : Type 0} {P Q : A → Type 0} (r : Result A E) → ((x : A) → P x → Q x) → IfOk r P → IfOk r Q
if_ok (Ok x) f p = f x p
if_ok (Err e) f p = tt

pub five_pushed : (old : List ℕ) {first second third fourth fifth : List ℕ} (a b c d e : List ℕ) → first ≡ old ++ a → second ≡ first ++ b → third ≡ second ++ c
    → fourth ≡ third ++ d → fifth ≡ fourth ++ e → fifth ≡ old ++ (a ++ b ++ c ++ d ++ e)
five_pushed old a b c d e h1 h2 h3 h4 h5 = rw (h5, h4, h3, h2, h1) (simp append_assoc)

-- the fault of the code is the first one of the text, and so its hint is that one's
pub told_of : (file text lines : List ℕ) (xs : List code_located.Located) (i : ℕ) (kind : FaultKind) (some : List Kind) (fault : Fault)
    → HasLocated text (map located_of xs) → IsFirstFaultOf (map located_of xs) i kind some → fault.text.now ≡ text → fault.before.now ≡ take i xs
    → fault.previous ≡ slice_get (take i xs) (length (take i xs) - 1) → fault.found ≡ get_or xs i fault.found → fault.kind ≡ kind
    → fault.may_stand.now ≡ some
    → lines ≡ fault_lines file fault.text.now (located_of fault.found) fault.kind fault.may_stand.now (hint_of fault.kind (seen_of fault))
    → TellsFault file text lines
told_of file text lines xs i kind some fault are first text_is before_is previous_is found_is kind_is some_is is =
    let front = first.has.front in
    let found = first.has.found in
    let before : map located_of fault.before.now ≡ front = ap (map located_of) before_is ∙ front_there xs i kind some first in
    let previous : option_map located_of fault.previous ≡ slice_get front (length front - 1) =
    ap (option_map located_of) previous_is ∙ previous_there xs i front (front_there xs i kind some first) in
    let there : located_of fault.found ≡ found = ap located_of found_is ∙ found_there xs i kind some fault.found first in
    let lines_by = λ (t : List ℕ) (b : List Located) (p : Option Located) (f : Located) (k : FaultKind) (m : List Kind).
    fault_lines file t f k m (hint_of k (record { text = t; before = b; previous = p; found = f; may_stand = m })) in
    let t = fault.text.now in
    let b = map located_of fault.before.now in
    let p = option_map located_of fault.previous in
    let f = located_of fault.found in
    let k = fault.kind in
    let m = fault.may_stand.now in
    record {
      all = map located_of xs;
      are = are;
      index = i;
      kind = kind;
      may_stand = some;
      first = first;
      is =
          is ∙ ap (λ x. lines_by x b p f k m) text_is ∙ ap (λ x. lines_by text x p f k m) before ∙ ap (λ x. lines_by text front x f k m) previous
          ∙ ap (λ x. lines_by text front (slice_get front (length front - 1)) x k m) there
          ∙ ap (λ x. lines_by text front (slice_get front (length front - 1)) found x m) kind_is
          ∙ ap (λ x. lines_by text front (slice_get front (length front - 1)) found kind x) some_is;
    }

pub none_case : {A P : Type 0} (Q : A → Type 0) (o : Option A) → o ≡ None → MatchOption o P Q → P
none_case Q None e h = h
none_case Q (Some a) e h = absurd (cc)
