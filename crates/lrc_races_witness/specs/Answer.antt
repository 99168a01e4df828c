-- What is said of two lines.
use Rattle.std.specs.Prelude.{◌≡◌, ◌≢◌, ℕ, List, ◌++◌, Vec}
use Rattle.std.specs.declared.alloc.Global.{Global}
use Rattle.lrc_races_trace.specs.declared.event.Event.{Event}
use Rattle.lrc_races_sure.specs.Sure.{IsSureRace}
use Rattle.lrc_races_witness.specs.declared.relation.Relation.{Relation}
use Rattle.lrc_races_witness.specs.declared.relation.Relation.TheVariants.{Sure}
use Rattle.lrc_races_witness.specs.Relations.{IsAccessOn, IsRelation}
use Rattle.lrc_races_witness.specs.Showing.{Shows}
use Rattle.lrc_races_witness.specs.Spelled.{shown_lines, refusal_line}

-- the lines of the reordering that shows i and j are added
pub record IsShown (events : List Event) (lines : List (Vec ℕ Global)) (i j : ℕ) (before after : List ℕ) : Type 0 where
  pub positions : List ℕ
  pub shows : Shows events i j positions
  pub text : after ≡ before ++ shown_lines lines positions

-- What is added of two lines, and the status:
pub data IsAnswered (names : List (List ℕ)) (events : List Event) (lines : List (Vec ℕ Global)) (first second : ℕ) (before after : List ℕ)
    : ℕ → Type 0 where
  -- the reordering that shows them, where the accesses there are a sure race,
  shown : {i j v w : ℕ} {a b : Event} → IsAccessOn events first i v a → IsAccessOn events second j w b → IsSureRace events i j
      → IsShown events lines i j before after → IsAnswered names events lines first second before after 0
  -- and else why they are none.
  refused : {relation : Relation} → IsRelation events first second relation → ((i j : ℕ) → relation ≢ Sure i j)
      → after ≡ before ++ refusal_line names first second relation → IsAnswered names events lines first second before after 4
