-- Turns that are told one after another.
use Rattle.std.proofs.Common.{◌≡◌, ◌∙◌, ◌+◌, ◌<◌, ◌≤◌, ◌++◌, ℕ, Bool, List, [], ◌∷◌, Option, Some, None, ap, refl, sym, subst, arith, length, get_or, take, drop}
use Rattle.std.specs.Prelude.{filter, fold, Vec}
use Rattle.std.specs.List.{enumerate_from}
use Rattle.std.specs.declared.alloc.Global.{Global}
use Rattle.std.proofs.lemmas.List.{append_assoc, length-append, take-append-drop, take_all}
use Rattle.std.proofs.lemmas.List.Elements.{filter-append}
use Rattle.std.proofs.lemmas.List.Concat.{flat_map-append}
use Rattle.lrc_protocol.specs.declared.event.Event.{Event}
use Rattle.lrc_protocol.specs.Run.{event_on, played, step_of, World}
use Rattle.lrc_replay.specs.Acts.{Plan}
use Rattle.lrc_replay.specs.Turns.{Turn, turn_by, turns_from}
use Rattle.lrc_replay.proofs.Turning.{goes_on, turns_on}
use Rattle.lrc_text.specs.Parts.{whole_text}
use Rattle.lrc_states.specs.declared.player.Player.{Player}
use Rattle.lrc_states.specs.declared.told.Telling.{Telling}
use Rattle.lrc_states.specs.Players.{AddsLines, IsPlayer}
use Rattle.lrc_states.specs.States.{is_within, most_turns, shown_now, turn_line, turn_lines, turns_shown}
use Rattle.lrc_states.proofs.Playing.{IsPlayed, plays_on}

-- ---- more turns

enumerated : {X : Type 0} (n : ℕ) (xs ys : List X) → enumerate_from n (xs ++ ys) ≡ enumerate_from n xs ++ enumerate_from (n + length xs) ys
enumerated n [] ys = ap (λ m. enumerate_from m ys) (omega arith)
enumerated n (x ∷ xs) ys =
    ap (λ l. (n, x) ∷ l) (enumerated (n + 1) xs ys ∙ ap (λ m. enumerate_from (n + 1) xs ++ enumerate_from m ys) (omega arith))

shown_more : (to : Option ℕ) (number : ℕ) (xs ys : List Turn)
    → shown_now to number (xs ++ ys) ≡ shown_now to number xs ++ shown_now to (number + length xs) ys
shown_more to number xs ys =
    let kept : ℕ × Turn → Bool = λ at. is_within to (length at.1.before.acts) in
    ap (filter kept) (enumerated number xs ys) ∙ filter-append kept (enumerate_from number xs) (enumerate_from (number + length xs) ys)

turns_none : (events : List Event) → turns_from None events ≡ []
turns_none [] = refl
turns_none (event ∷ more) = refl

turns_past : (xs ys : List Event) → turns_from (fold step_of None xs) ys ≡ []
turns_past [] ys = turns_none ys
turns_past (x ∷ xs) ys = turns_past xs ys

turns_split : (o : Option World) (xs ys : List Event) → turns_from o (xs ++ ys) ≡ turns_from o xs ++ turns_from (fold step_of o xs) ys
turns_split o [] ys = refl
turns_split None (x ∷ xs) ys = sym (turns_past xs ys)
turns_split (Some world) (x ∷ xs) ys =
    ap (λ l. turn_by world x ++ l) (turns_split (event_on world x) xs ys)
    ∙ sym (append_assoc (turn_by world x) (turns_from (event_on world x) xs) (turns_from (fold step_of (event_on world x) xs) ys))

-- those of the first events that are shown are no more than all
no_more : (to : Option ℕ) (turns : ℕ) (world : World) (events : List Event) (k : ℕ)
    → length (turns_shown to turns world (take k events)) ≤ length (turns_shown to turns world events)
no_more to turns world events k =
    let first = turns_from (Some world) (take k events) in
    let rest = turns_from (played world (take k events)) (drop k events) in
    let whole : turns_from (Some world) events ≡ first ++ rest =
    ap (turns_from (Some world)) (sym (take-append-drop k events)) ∙ turns_split (Some world) (take k events) (drop k events) in
    let shown = ap (shown_now to turns) whole ∙ shown_more to turns first rest in
    omega (arith, ap length shown, length-append (shown_now to turns first) (shown_now to (turns + length first) rest))

-- ---- turns that are told

-- so many events are played, and their turns are told behind one part
pub record IsTold (plan : Plan) (telling : Telling) (world : World) (turns : ℕ) (to : Option ℕ) (events : List Event) (k : ℕ)
    (old now : List (Vec ℕ Global)) (player : Player) : Type 0 where
  pub played_is : IsPlayed plan world turns events k player
  pub lines : AddsLines plan telling (turns_shown to turns world (take k events)) old now

shown_next : (world end : World) (to : Option ℕ) (turns : ℕ) (events : List Event) (k : ℕ) (d : Event) (within : k < length events)
    (goes : played world events ≡ Some end) (now : World) → played world (take k events) ≡ Some now
    → turns_shown to turns world (take (k + 1) events)
    ≡ turns_shown to turns world (take k events) ++ shown_now to (turns + length (turns_from (Some world) (take k events))) (turn_by now (get_or events k d))
shown_next world end to turns events k d within goes now stands =
    ap (shown_now to turns) (turns_on world end events k d within goes now stands)
    ∙ shown_more to turns (turns_from (Some world) (take k events)) (turn_by now (get_or events k d))

pub lines_next : (plan : Plan) (telling : Telling) (some one : List (ℕ × Turn)) (all : List (ℕ × Turn)) (old now next : List (Vec ℕ Global))
    → all ≡ some ++ one → AddsLines plan telling some old now → AddsLines plan telling one now next → AddsLines plan telling all old next
lines_next plan telling some one all old now next all_is first second = record {
  text = second.text ∙ ap (λ l. l ++ turn_lines plan telling one) first.text
      ∙ append_assoc (whole_text old) (turn_lines plan telling some) (turn_lines plan telling one)
      ∙ ap (λ l. whole_text old ++ l) (sym (flat_map-append (λ (at : ℕ × Turn). turn_line plan telling at.0 at.1) some one))
      ∙ ap (λ s. whole_text old ++ turn_lines plan telling s) (sym all_is);
  many = omega (arith, first.many, second.many, ap length all_is, length-append some one);
}

module _ (plan : Plan) (telling : Telling) (world end : World) (turns : ℕ) (to : Option ℕ) (events : List Event) (k : ℕ) (d : Event)
    (old now : List (Vec ℕ Global)) (player : Player) (within : k < length events) (goes : played world events ≡ Some end)
    (told : IsTold plan telling world turns to events k old now player) where
  abbrev before : ℕ
  before = turns + length (turns_from (Some world) (take k events))

  pub tells_on : (next : List (Vec ℕ Global)) (new : Player)
      → ((w m : World) (t : ℕ) → IsPlayer plan w t player → event_on w (get_or events k d) ≡ Some m
      → IsPlayer plan m (t + length (turn_by w (get_or events k d))) new)
      → ((w m : World) (t : ℕ) → IsPlayer plan w t player → event_on w (get_or events k d) ≡ Some m
      → AddsLines plan telling (shown_now to t (turn_by w (get_or events k d))) now next)
      → IsTold plan telling world turns to events (k + 1) old next new
  tells_on next new plays adds =
      let at = told.played_is in
      let m = goes_on world end events k d within goes at.0 at.1 in
      record {
        played_is = plays_on plan world end turns events k d player new within goes at plays;
        lines = lines_next plan telling (turns_shown to turns world (take k events)) (shown_now to before (turn_by at.0 (get_or events k d)))
            (turns_shown to turns world (take (k + 1) events)) old now next (shown_next world end to turns events k d within goes at.0 at.1)
            told.lines (adds at.0 m.0 before at.2 m.1);
      }

  pub too_many : length old ≡ 1
      → ((w m : World) (t : ℕ) → IsPlayer plan w t player → event_on w (get_or events k d) ≡ Some m
      → (most_turns < length now) × (length (shown_now to t (turn_by w (get_or events k d))) ≡ 1))
      → most_turns < length (turns_shown to turns world events)
  too_many first fails =
      let at = told.played_is in
      let m = goes_on world end events k d within goes at.0 at.1 in
      let fail = fails at.0 m.0 before at.2 m.1 in
      let some = turns_shown to turns world (take k events) in
      let one = shown_now to before (turn_by at.0 (get_or events k d)) in
      omega (
        arith,
        no_more to turns world events (k + 1),
        ap length (shown_next world end to turns events k d within goes at.0 at.1),
        length-append some one,
        fail.0,
        fail.1,
        told.lines.many,
        first,
      )

pub told_all : (plan : Plan) (telling : Telling) (world : World) (turns : ℕ) (to : Option ℕ) (events : List Event) (k : ℕ)
    (old now : List (Vec ℕ Global)) (player : Player)
    → length events ≤ k → length old ≡ 1 → length now ≤ most_turns + 1 → IsTold plan telling world turns to events k old now player
    → (whole_text now ≡ whole_text old ++ turn_lines plan telling (turns_shown to turns world events))
    × (length (turns_shown to turns world events) ≤ most_turns)
told_all plan telling world turns to events k old now player past first few told =
    let all = take_all k events past in
    let lines = subst (λ (l : List Event). AddsLines plan telling (turns_shown to turns world l) old now) all told.lines in
    (lines.text, omega (arith, lines.many, first, few))
