-- A text has one answer: one list of events, or one first bad line, and never both.
use Rattle.std.proofs.Common.{◌≡◌, ◌≤◌, ◌∙◌, ◌+◌, ◌==◌, ℕ, suc, List, [], ◌∷◌, ◌++◌, Result, Ok, Err, MatchResult, length}
use Rattle.std.proofs.Common.{drop, get_or, cond, refl, sym, ap, ap₂, subst, inl, inr, arith}
use Rattle.std.specs.Str.Parse.{digits_value}
use Rattle.lrc_protocol.specs.declared.event.Event.{Event}
use Rattle.lrc_protocol.specs.declared.event.Event.TheVariants.{Run, Deliver, Repeat}
use Rattle.lrc_text.specs.Lines.{lines_of}
use Rattle.lrc_events.specs.declared.events.EventsFault.{EventsFault}
use Rattle.lrc_events.specs.declared.events.EventsFault.TheVariants.{BadEvent, NoMemory}
use Rattle.lrc_events.specs.EventsText.{NameAll, NamesEvent, IsBadEvent, IsFirstBadEvent, ReadsEvents, empty, more, most_events_bytes, none}
use Rattle.lrc_events.specs.Writing.{AreEvents, events_text}
use Rattle.lrc_events.proofs.Written.{written}

-- ---- one event of a line

-- the event that a line can name: by its first letter, and where that begins two words by its second
abbrev meant : List ℕ → Event
meant line =
    cond (get_or line 0 0 == 100) (Deliver (digits_value 10 (drop 8 line)))
    (cond (get_or line 1 0 == 117) (Run (digits_value 10 (drop 4 line))) (Repeat (digits_value 10 (drop 7 line))))

event_is : (line : List ℕ) (event : Event) → NamesEvent line event → meant line ≡ event
event_is line (Run node) h = ap meant h.whole ∙ ap (λ (n : ℕ). Run n) (sym h.number.value)
event_is line (Deliver place) h = ap meant h.whole ∙ ap (λ (n : ℕ). Deliver n) (sym h.number.value)
event_is line (Repeat place) h = ap meant h.whole ∙ ap (λ (n : ℕ). Repeat n) (sym h.number.value)

nil_cons : {x : ℕ} {xs : List ℕ} → [] ≡ x ∷ xs → ⊥
nil_cons e = absurd cc

nameless : (event : Event) → NamesEvent [] event → ⊥
nameless (Run node) h = nil_cons h.whole
nameless (Deliver place) h = nil_cons h.whole
nameless (Repeat place) h = nil_cons h.whole

-- ---- one list of events of lines

pub names_one : {lines : List (List ℕ)} {events others : List Event} → NameAll lines events → NameAll lines others → events ≡ others
names_one none none = refl
names_one (empty n) (empty m) = names_one n m
names_one (empty n) (more h m) = absurd (nameless _ h)
names_one (more h n) (empty m) = absurd (nameless _ h)
names_one (more h n) (more k m) = ap₂ (λ (x : Event) (xs : List Event). x ∷ xs) (sym (event_is _ _ h) ∙ event_is _ _ k) (names_one n m)

-- ---- one first bad line

-- lines that name events have no bad line
no_bad : (before : List (List ℕ)) (line : List ℕ) (after : List (List ℕ)) {events : List Event} → IsBadEvent line
    → NameAll (before ++ line ∷ after) events → ⊥
no_bad [] line after bad (empty n) = bad.some refl
no_bad [] line after bad (more h n) = bad.nameless _ h
no_bad (first ∷ before) line after bad (empty n) = no_bad before line after bad n
no_bad (first ∷ before) line after bad (more h n) = no_bad before line after bad n

others_name : {line : List ℕ} {lines : List (List ℕ)} {events : List Event} → NameAll (line ∷ lines) events
    → (rest : List Event) × NameAll lines rest
others_name (empty n) = (_, n)
others_name (more h n) = (_, n)

-- two bad lines with none before them stand at one place
one_place : (before befores : List (List ℕ)) (line other : List ℕ) (after afters : List (List ℕ)) {events others : List Event}
    → before ++ line ∷ after ≡ befores ++ other ∷ afters → NameAll before events → NameAll befores others → IsBadEvent line → IsBadEvent other
    → length before ≡ length befores
one_place [] [] line other after afters e n m bad worse = refl
one_place [] (first ∷ befores) line other after afters {others = others} e n m bad worse =
    let same : first ≡ line = cc in
    absurd (no_bad [] line befores bad (subst (λ (l : List ℕ). NameAll (l ∷ befores) others) same m))
one_place (first ∷ before) [] line other after afters {events = events} e n m bad worse =
    let same : first ≡ other = cc in
    absurd (no_bad [] other before worse (subst (λ (l : List ℕ). NameAll (l ∷ before) events) same n))
one_place (first ∷ before) (second ∷ befores) line other after afters e n m bad worse =
    let rest : before ++ line ∷ after ≡ befores ++ other ∷ afters = cc in
    ap suc (one_place before befores line other after afters rest (others_name n).1 (others_name m).1 bad worse)

one_first_bad : (lines : List (List ℕ)) (number other : ℕ) → IsFirstBadEvent lines number → IsFirstBadEvent lines other → number ≡ other
one_first_bad lines number other a b =
    let same = one_place a.before b.before a.line b.line a.after b.after (sym a.whole ∙ b.whole) a.good.1 b.good.1 a.bad b.bad in
    a.counted ∙ ap (λ n. n + 1) same ∙ sym b.counted

-- ---- one answer of a text

pub one_list : (text : List ℕ) (events others : List Event) → ReadsEvents text (Ok events) → ReadsEvents text (Ok others) → events ≡ others
one_list text events others a b = names_one a.1 b.1

pub not_both : (text : List ℕ) (events : List Event) (line : ℕ) → ReadsEvents text (Ok events) → ReadsEvents text (Err (BadEvent line)) → ⊥
not_both text events line a (inl long) = omega (arith, a.0, long.0)
not_both text events line a (inr short) =
    no_bad short.1.before short.1.line short.1.after short.1.bad (subst (λ (lines : List (List ℕ)). NameAll lines events) short.1.whole a.1)

pub one_bad_line : (text : List ℕ) (line other : ℕ) → ReadsEvents text (Err (BadEvent line)) → ReadsEvents text (Err (BadEvent other)) → line ≡ other
one_bad_line text line other (inl a) (inl b) = a.1 ∙ sym b.1
one_bad_line text line other (inl a) (inr b) = absurd (omega (arith, a.0, b.0))
one_bad_line text line other (inr a) (inl b) = absurd (omega (arith, a.0, b.0))
one_bad_line text line other (inr a) (inr b) = one_first_bad (lines_of text) line other a.1 b.1

-- what is written of events is read as them and as no others
pub read_back : (events : List Event) (result : Result (List Event) EventsFault) → AreEvents events → length (events_text events) ≤ most_events_bytes
    → ReadsEvents (events_text events) result → MatchResult result (λ found. found ≡ events) (λ fault. fault ≡ NoMemory)
read_back events (Ok found) small short reads = names_one reads.1 (written events small)
read_back events (Err (BadEvent line)) small short reads = absurd (not_both (events_text events) events line (short, written events small) reads)
read_back events (Err NoMemory) small short reads = refl
