-- What is told of acts: that positions are those of acts, since when a write is known, and what nothing more is said of.
use Rattle.std.proofs.Common.{◌≡◌, ℕ, ◌<◌, ◌∙◌, List, [], ◌∷◌, get_or, length, refl, sym, arith, eqb}
use Rattle.std.specs.Prelude.{Bool, true, false, Contains, MatchBool, Option, Some, None, slice_get}
use Rattle.std.proofs.lemmas.Bool.{eqb-true, eq-eqb, false≢true}
use Rattle.std.proofs.lemmas.Option.{same_Some}
use Rattle.lrc_trace.specs.declared.act.Act.{Act}
use Rattle.lrc_trace.specs.declared.act.Cause.{Cause}
use Rattle.lrc_trace.specs.declared.act.Deed.{Deed}
use Rattle.lrc_trace.specs.declared.act.Deed.TheVariants.{Quiet, Print, Read, Write, Acquire, Release, Arrive, Depart, Trap, End}
use Rattle.lrc_trace.specs.Order.{HappensBefore}
use Rattle.lrc_trace.proofs.Positions.{Does-read, Does-within}
use Rattle.lrc_judge.specs.Firsts.{AreIntervals}
use Rattle.lrc_why_chains.specs.Known.{IsActOf}
use Rattle.lrc_why.specs.declared.positions.Which.{Which}
use Rattle.lrc_why.specs.declared.positions.Which.TheVariants.{RacingOf, ClosingOf, BesideIn, NewOf}
use Rattle.lrc_why.specs.declared.reasons.About.TheVariants.{Nothing}
use Rattle.lrc_why.specs.declared.reasons.Since.{Since}
use Rattle.lrc_why.specs.About.{IsAbout, quiet, print, write, release, end}
use Rattle.lrc_why.specs.Positions.{IsAsked, IsBeside}
use Rattle.lrc_why.specs.Since.{IsSinceIfKnown}
use Rattle.lrc_why.specs.Sources.{IsSinceOfOther}

pub acts_within : (run : List Act) (node i : ℕ) → IsActOf run node i → i < length run
acts_within run node i (d, does) = Does-within does

pub asked_within : (run : List Act) (which : Which) (i : ℕ) → IsAsked run which i → i < length run
asked_within run (RacingOf node position) i h = acts_within run node i h.acts
asked_within run (ClosingOf node position) i h = Does-within h.does
asked_within run (BesideIn position) i h = acts_within run h.node i h.beside
asked_within run (NewOf node position before) i h = acts_within run node i h.acts

-- the first of a list
pub first_there : (xs : List ℕ) (x : ℕ) → slice_get xs 0 ≡ Some x → Contains xs x
first_there [] x is = cc
first_there (y ∷ ys) x is = (0, omega arith, same_Some y x is)

pub beside-decided : (run : List Act) (intervals : List ℕ) (position k : ℕ) (e : Act) (b : Bool) → AreIntervals run (length run) intervals
    → position < length run → k < length run → IsActOf run (get_or run position e).node k
    → b ≡ eqb (get_or intervals k 0) (get_or intervals position 0) → MatchBool b (IsBeside run position k) (IsBeside run position k → ⊥)
beside-decided run intervals position k e true are lp lk (d, does) is = record {
  node = (get_or run position e).node;
  acts = ((get_or run position e).deed, Does-read run position e lp);
  beside = (d, does);
  interval = sym (are.each k (get_or run position e).node d lk does) ∙ eqb-true (get_or intervals k 0) (get_or intervals position 0) (sym is)
      ∙ are.each position (get_or run position e).node (get_or run position e).deed lp (Does-read run position e lp);
}
beside-decided run intervals position k e false are lp lk acts is =
    λ h.
    let (d, first) = h.acts in
    let (b, second) = h.beside in
    false≢true (is ∙ eq-eqb (get_or intervals k 0) (get_or intervals position 0)
    (are.each k h.node b lk second ∙ h.interval ∙ sym (are.each position h.node d lp first)))

-- a write that is known at an act of the node, and is not its own
pub since_other : (run : List Act) (node position written : ℕ) (since : Option Since) → IsActOf run node position
    → HappensBefore run written position → (IsActOf run node written → ⊥) → IsSinceIfKnown run node written since
    → IsSinceOfOther run node written since
since_other run node position written None acts before other never = absurd (never position acts before)
since_other run node position written (Some since) acts before other is = (other, is)

-- deeds of which nothing more is said
pub quiet-about : (run : List Act) (node position : ℕ) (d : Deed) → ((c : Cause) → d ≡ Trap c → ⊥) → ((w v : ℕ) → d ≡ Read w v → ⊥)
    → ((l : ℕ) → d ≡ Acquire l → ⊥) → (d ≡ Arrive → ⊥) → (d ≡ Depart → ⊥) → IsAbout run node position d Nothing
quiet-about run node position Quiet t r a v p = quiet
quiet-about run node position (Print x) t r a v p = print
quiet-about run node position (Read w x) t r a v p = absurd (r w x refl)
quiet-about run node position (Write w x) t r a v p = write
quiet-about run node position (Acquire l) t r a v p = absurd (a l refl)
quiet-about run node position (Release l) t r a v p = release
quiet-about run node position Arrive t r a v p = absurd (v refl)
quiet-about run node position Depart t r a v p = absurd (p refl)
quiet-about run node position (Trap c) t r a v p = absurd (t c refl)
quiet-about run node position End t r a v p = end
