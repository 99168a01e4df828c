-- What is kept of the intervals that nodes store.
use Rattle.std.proofs.Common.{◌≡◌, ◌∙◌, ℕ, zero, suc, List, [], ◌∷◌, Option, Some, None, inl, inr, refl, sym, ap, subst, arith}
use Rattle.std.specs.Prelude.{false, option_map, remove, slice_get, slice_set}
use Rattle.std.specs.BTreeMap.{BTreeMap, get, is_at, IsEmpty, Updates}
use Rattle.std.specs.Cmp.{nat_cmp_is}
use Rattle.std.specs.Map.{lookup}
use Rattle.std.specs.Ordering.{is_eq, nat_cmp}
use Rattle.std.specs.declared.cmp.Ordering.TheVariants.{Less, Greater}
use Rattle.std.proofs.lemmas.Bool.{cases_eq, cases_lt}
use Rattle.std.proofs.lemmas.Option.{same_Some}
use Rattle.lrc_protocol.specs.declared.event.Event.{Event}
use Rattle.lrc_protocol.specs.declared.event.Event.TheVariants as events
use Rattle.lrc_protocol.specs.Run.{after_input, delivers, event_on, Flying, Input, input_to, Logged, Logging, logs, with_mark, with_turn, World}
use Rattle.lrc_protocol.specs.Run as log
use Rattle.lrc_replay.specs.Courses.{IsCourse, plan_of}
use Rattle.lrc_replay.specs.Replays.{IsReplay, turner_of}
use Rattle.lrc_state_text.specs.Intervals.{StoredInterval}
use Rattle.lrc_states.specs.declared.player.Player.{Player}
use Rattle.lrc_replay.specs.Acts.{Plan}
use Rattle.lrc_states.specs.Players.{AreKnown, IsPlayer}
use Rattle.lrc_states.specs.States.{known_of}

-- ---- nodes that make no turn

set_other : {X : Type 0} (xs : List X) (n p : ℕ) (x : X) → (p ≡ n → ⊥) → slice_get (slice_set xs n x) p ≡ slice_get xs p
set_other [] n p x apart = refl
set_other (y ∷ xs) zero zero x apart = absurd (apart refl)
set_other (y ∷ xs) zero (suc p) x apart = refl
set_other (y ∷ xs) (suc n) zero x apart = refl
set_other (y ∷ xs) (suc n) (suc p) x apart = set_other xs n p x (λ same. apart (ap suc same))

logged_stays : (world next : World) (flight : List Flying) (n p : ℕ) (what : Logging) → after_input world flight n what ≡ Some next
    → (p ≡ n → ⊥) → slice_get next.nodes p ≡ slice_get world.nodes p
logged_stays world next flight n p (log.logged entry l) goes apart =
    ap (λ (w : World). slice_get w.nodes p) (sym (same_Some (with_turn world flight n entry l) next goes)) ∙ set_other world.nodes n p l apart
logged_stays world next flight n p log.refused goes apart = ap (λ (w : World). slice_get w.nodes p) (sym (same_Some world next goes))
logged_stays world next flight n p log.too_large goes apart = cc

input_stays : (world next : World) (flight : List Flying) (n p : ℕ) (input : Input) (stamp : ℕ) (o : Option Logged)
    → input_to world flight n input stamp o ≡ Some next → (p ≡ n → ⊥) → slice_get next.nodes p ≡ slice_get world.nodes p
input_stays world next flight n p input stamp None goes apart = ap (λ (w : World). slice_get w.nodes p) (sym (same_Some world next goes))
input_stays world next flight n p input stamp (Some l) goes apart = logged_stays world next flight n p (logs l input stamp) goes apart

taken_stays : (world next : World) (flight : List Flying) (n p : ℕ) (o : Option Flying) → delivers world flight o ≡ Some next
    → option_map (λ (sent : Flying). sent.envelope.to) o ≡ Some n → (p ≡ n → ⊥) → slice_get next.nodes p ≡ slice_get world.nodes p
taken_stays world next flight n p None goes names apart = cc
taken_stays world next flight n p (Some sent) goes names apart =
    input_stays world next flight sent.envelope.to p (log.taken sent.envelope) sent.stamp (slice_get world.nodes sent.envelope.to) goes
    (λ same. apart (same ∙ same_Some sent.envelope.to n names))

-- an event leaves each node as it was that makes no turn
other_stays : (world next : World) (event : Event) (n p : ℕ) → event_on world event ≡ Some next → turner_of world event ≡ Some n
    → (p ≡ n → ⊥) → slice_get next.nodes p ≡ slice_get world.nodes p
other_stays world next (events.Run m) n p goes names apart =
    input_stays world next world.flight m p log.run 0 (slice_get world.nodes m) goes (λ same. apart (same ∙ same_Some m n names))
other_stays world next (events.Deliver place) n p goes names apart =
    taken_stays world next (remove world.flight place) n p (slice_get world.flight place) goes names apart
other_stays world next (events.Repeat place) n p goes names apart =
    taken_stays world next (with_mark world.flight place) n p (slice_get world.flight place) goes names apart

-- ---- what is kept

-- another node is at another key
apart_at : (k q : ℕ) → (q ≡ k → ⊥) → is_at (nat_cmp k) q ≡ false
apart_at k q other =
    elim (cases_lt k q) [
      | inl less ↦ ap is_eq (sym (nat_cmp_is k q Less less))
      | inr not_less ↦
          elim (cases_lt q k) [
            | inl more ↦ ap is_eq (sym (nat_cmp_is k q Greater more))
            | inr not_more ↦ absurd (other (omega arith))
          ]
    ]

abbrev Kept : Type 0
Kept = BTreeMap ℕ (List StoredInterval)

pub none_kept : (shown : Kept) (world : World) → IsEmpty shown → AreKnown shown world
none_kept shown world empty = λ node stored kept.
    let none : get nat_cmp shown node ≡ None = ap (λ es. lookup (is_at (nat_cmp node)) es) empty in
    let never : None ≡ Some stored = sym none ∙ kept in cc

-- the others, in another world where they are as they were
others_in : (old new : Kept) (world next : World) (n : ℕ) → Updates nat_cmp old new n None → AreKnown old world
    → ((p : ℕ) → (p ≡ n → ⊥) → slice_get next.nodes p ≡ slice_get world.nodes p) → AreKnown new next
others_in old new world next n updates known stays = λ node stored kept.
    elim (cases_eq node n) [
      | inl same ↦
          let never : None ≡ Some stored = sym updates.1 ∙ ap (λ q. get nat_cmp new q) (sym same) ∙ kept in cc
      | inr apart ↦
          known node stored (sym (updates.2 node (apart_at n node apart)) ∙ kept) ∙ ap known_of (sym (stays node apart))
    ]

pub others_kept : (old new : Kept) (world : World) (n : ℕ) → Updates nat_cmp old new n None → AreKnown old world → AreKnown new world
others_kept old new world n updates known = others_in old new world world n updates known (λ p apart. refl)

-- the others, behind the turn of this one
pub others_after : (old new : Kept) (world next : World) (event : Event) (n : ℕ) → Updates nat_cmp old new n None → AreKnown old world
    → event_on world event ≡ Some next → turner_of world event ≡ Some n → AreKnown new next
others_after old new world next event n updates known goes names =
    others_in old new world next n updates known (λ p apart. other_stays world next event n p goes names apart)

one_kept : (old new : Kept) (world : World) (n : ℕ) (stored : List StoredInterval) → Updates nat_cmp old new n (Some stored)
    → stored ≡ known_of (slice_get world.nodes n) → AreKnown old world → AreKnown new world
one_kept old new world n stored updates is known = λ node those kept.
    elim (cases_eq node n) [
      | inl same ↦
          let here : Some stored ≡ Some those = sym updates.1 ∙ ap (λ q. get nat_cmp new q) (sym same) ∙ kept in
          sym (same_Some stored those here) ∙ is ∙ ap (λ (p : ℕ). known_of (slice_get world.nodes p)) (sym same)
      | inr apart ↦ known node those (sym (updates.2 node (apart_at n node apart)) ∙ kept)
    ]

-- what a node stores is kept too
pub keeps : (plan : Plan) (world : World) (turns n : ℕ) (stored : List StoredInterval) (old new : Player) → IsPlayer plan world turns old
    → new.plan ≡ old.plan → new.replay ≡ old.replay → new.course ≡ old.course → new.turns ≡ old.turns
    → Updates nat_cmp old.shown new.shown n (Some stored) → stored ≡ known_of (slice_get world.nodes n) → IsPlayer plan world turns new
keeps plan world turns n stored old new is plan_same replay_same course_same turns_same updates stored_is = record {
  plan_is = ap plan_of plan_same ∙ is.plan_is;
  replay = subst (λ r. IsReplay r world) (sym replay_same) is.replay;
  course = subst (IsCourse plan world.acts) (sym course_same) is.course;
  counted = turns_same ∙ is.counted;
  known = one_kept old.shown new.shown world n stored updates stored_is is.known;
}

-- what is kept of one node is kept no longer
pub keeps_less : (plan : Plan) (world : World) (turns n : ℕ) (old new : Player) → IsPlayer plan world turns old
    → new.plan ≡ old.plan → new.replay ≡ old.replay → new.course ≡ old.course → new.turns ≡ old.turns
    → Updates nat_cmp old.shown new.shown n None → IsPlayer plan world turns new
keeps_less plan world turns n old new is plan_same replay_same course_same turns_same updates = record {
  plan_is = ap plan_of plan_same ∙ is.plan_is;
  replay = subst (λ r. IsReplay r world) (sym replay_same) is.replay;
  course = subst (IsCourse plan world.acts) (sym course_same) is.course;
  counted = turns_same ∙ is.counted;
  known = others_kept old.shown new.shown world n updates is.known;
}
