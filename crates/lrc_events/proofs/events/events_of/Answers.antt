use Rattle.std.proofs.Common.{◌≡◌, ◌<◌, ◌≤◌, ◌+◌, ◌==◌, ◌≢◌, ℕ, false, List, [], ◌∷◌, ◌++◌, length, take}
use Rattle.std.proofs.Common.{drop, get_or, inr, refl, sym, subst, arith, rules, tests}
use Rattle.std.proofs.lemmas.List.{length-take-le, length_push, take_all}
use Rattle.std.proofs.lemmas.Iterator.Consumers.{YieldsList-turn, YieldsList-end}
use Rattle.std.proofs.lemmas.Iterator.Splits.{YieldsList-from_slice_split}
use Rattle.std.specs.Prelude.{IfErr, Result, Ok, Err}
use Rattle.lrc_text.specs.Lines.{lines_of}
use Rattle.lrc_text.proofs.Lines.{lines_at, lines_more, nil_of}
use Rattle.lrc_protocol.specs.declared.event.Event.{Event}
use Rattle.lrc_events.specs.EventsText.{IsBadEvent, IsFirstBadEvent, NameAll, NamesEvent, NamesSome, empty, more, most_events_bytes, none}
use Rattle.lrc_events.specs.declared.events.EventsFault.{EventsFault}
use Rattle.lrc_events.specs.declared.events.EventsFault.TheVariants.{NoMemory}
use Rattle.lrc_events.proofs.events.events_of.Goals as goal

name_more : {lines : List (List ℕ)} {events : List Event} (line : List ℕ) (event : Event) → NameAll lines events → NamesEvent line event
    → NameAll (lines ++ line ∷ []) (events ++ event ∷ [])
name_more line event none h = more h none
name_more line event (empty n) h = empty (name_more line event n h)
name_more line event (more k n) h = more k (name_more line event n h)

name_empty : {lines : List (List ℕ)} {events : List Event} (line : List ℕ) → line ≡ [] → NameAll lines events → NameAll (lines ++ line ∷ []) events
name_empty line is none = subst (λ (l : List ℕ). NameAll (l ∷ []) []) (sym is) (empty none)
name_empty line is (empty n) = empty (name_empty line is n)
name_empty line is (more k n) = more k (name_empty line is n)

some_of : (line : List ℕ) → false ≡ (length line == 0) → line ≢ []
some_of [] e is = absurd cc
some_of (b ∷ line) e is = absurd cc

first_bad : (lines : List (List ℕ)) (n m : ℕ) (line : List ℕ) (events : List Event) → n ≡ m → (m < length lines) × (line ≡ get_or lines m line)
    → NameAll (take n lines) events → IsBadEvent line → IsFirstBadEvent lines (n + 1)
first_bad lines n m line events same turn named bad = record {
  before = take n lines;
  line = line;
  after = drop (n + 1) lines;
  whole = lines_at lines n m line same turn;
  counted = omega (arith, length-take-le n lines (omega arith));
  good = (events, named);
  bad = bad;
}

names_some : (lines : List (List ℕ)) (n m : ℕ) (line : List ℕ) (events : List Event) (event : Event) → n ≡ m
    → (m < length lines) × (line ≡ get_or lines m line) → NameAll (take n lines) events → NamesEvent line event → NamesSome lines
names_some lines n m line events event same turn named names = record {
  before = take n lines;
  line = line;
  after = drop (n + 1) lines;
  whole = lines_at lines n m line same turn;
  good = (events, named);
  names = (event, names);
}

told : {A : Type 0} (r : Result A EventsFault) (text : List ℕ) → (length text ≤ most_events_bytes) × NamesSome (lines_of text)
    → IfErr r (λ fault. fault ≡ NoMemory → (length text ≤ most_events_bytes) × NamesSome (lines_of text))
told (Ok a) text h = tt
told (Err fault) text h = λ _. h

pub loop-line-init : goal.loop-line-init
loop-line-init c = record { counted = refl; named = subst (NameAll []) (sym c.new-events.ensures.items) none }

pub loop-line-preserved-then-is_empty : goal.loop-line-preserved-then-is_empty
loop-line-preserved-then-is_empty c =
    let turn = YieldsList-turn (YieldsList-from_slice_split _ (λ byte. byte == 10) c.args.text.now (cc) (cc) (cc) (λ x b q k. search (rules, tests)))
    c.loop-line.yielded _ c.loop-line.yielded_by _ _ c.in-Some.line c.in-Some.is c.next.ensures.steps in
    let none_left = nil_of c.in-Some.line.now c.if-is_empty.ensures in
    record {
      counted = omega (arith, length_push c.loop-line.yielded c.in-Some.line);
      named = subst (λ (l : List (List ℕ)). NameAll l c.loop-line.events.items)
          (sym (lines_more (lines_of c.args.text.now) c.loop-line.number _ c.in-Some.line.now c.loop-line.invariant.counted turn))
          (name_empty c.in-Some.line.now none_left c.loop-line.invariant.named);
    }

pub loop-line-preserved : goal.loop-line-preserved
loop-line-preserved c =
    let turn = YieldsList-turn (YieldsList-from_slice_split _ (λ byte. byte == 10) c.args.text.now (cc) (cc) (cc) (λ x b q k. search (rules, tests)))
    c.loop-line.yielded _ c.loop-line.yielded_by _ _ c.in-Some.line c.in-Some.is c.next.ensures.steps in
    record {
      counted = omega (arith, length_push c.loop-line.yielded c.in-Some.line);
      named = subst (λ (e : List Event). NameAll (take (c.loop-line.number + 1) (lines_of c.args.text.now)) e) (sym c.in_ok-push-in-Some-event_on.ensures.items)
          (subst (λ (l : List (List ℕ)). NameAll l (c.loop-line.events.items ++ c.in-Some-event_on.event ∷ []))
          (sym (lines_more (lines_of c.args.text.now) c.loop-line.number _ c.in-Some.line.now c.loop-line.invariant.counted turn))
          (name_more c.in-Some.line.now c.in-Some-event_on.event c.loop-line.invariant.named c.in-Some-event_on.ensures));
    }

pub returns-in-None-event_on-clause-err : goal.returns-in-None-event_on-clause-err
returns-in-None-event_on-clause-err c =
    let turn = YieldsList-turn (YieldsList-from_slice_split _ (λ byte. byte == 10) c.args.text.now (cc) (cc) (cc) (λ x b q k. search (rules, tests)))
    c.loop-line.yielded _ c.loop-line.yielded_by _ _ c.in-Some.line c.in-Some.is c.next.ensures.steps in
    inr (
      c.if-text-gt-MOST_BYTES.false,
      first_bad (lines_of c.args.text.now) c.loop-line.number _ c.in-Some.line.now c.loop-line.events.items c.loop-line.invariant.counted turn
          c.loop-line.invariant.named (record { some = some_of c.in-Some.line.now c.if-is_empty.ensures; nameless = c.in-None-event_on.ensures }),
    )

pub returns-clause-ok : goal.returns-clause-ok
returns-clause-ok c =
    let end = YieldsList-end (YieldsList-from_slice_split _ (λ byte. byte == 10) c.args.text.now (cc) (cc) (cc) (λ x b q k. search (rules, tests)))
    c.loop-line.yielded _ c.loop-line.yielded_by _ _ c.in-None.is c.next.ensures.steps in (
      c.if-text-gt-MOST_BYTES.false,
      subst (λ (l : List (List ℕ)). NameAll l c.loop-line.events.items)
          (take_all c.loop-line.number (lines_of c.args.text.now) (omega (arith, end.1, c.loop-line.invariant.counted))) c.loop-line.invariant.named,
    )

pub returns-in_err-push-in-Some-event_on-clause-memory : goal.returns-in_err-push-in-Some-event_on-clause-memory
returns-in_err-push-in-Some-event_on-clause-memory c =
    let turn = YieldsList-turn (YieldsList-from_slice_split _ (λ byte. byte == 10) c.args.text.now (cc) (cc) (cc) (λ x b q k. search (rules, tests)))
    c.loop-line.yielded _ c.loop-line.yielded_by _ _ c.in-Some.line c.in-Some.is c.next.ensures.steps in
    told c.from_residual.result c.args.text.now (
      c.if-text-gt-MOST_BYTES.false,
      names_some (lines_of c.args.text.now) c.loop-line.number _ c.in-Some.line.now c.loop-line.events.items c.in-Some-event_on.event
          c.loop-line.invariant.counted turn c.loop-line.invariant.named c.in-Some-event_on.ensures,
    )
