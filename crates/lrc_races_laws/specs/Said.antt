-- What the lines say that are printed of a run: of its steps in the form of RAPID, and of its acts. Each line says one event.
use Rattle.std.specs.Prelude.{◌≡◌, ℕ, ◌+◌, List, [], ◌∷◌, ◌++◌, Some, codes, decimal, length, slice_get, slice_index}
use Rattle.lrc_trace.specs.declared.act.Act.{Act}
use Rattle.lrc_trace.specs.declared.act.Deed.{Deed}
use Rattle.lrc_trace.specs.declared.act.Deed.TheVariants as deeds
use Rattle.lrc_races_lines.specs.declared.line.Kind.{Kind}
use Rattle.lrc_races_lines.specs.declared.line.Kind.TheVariants.{Read, Write, Acquire, Release, Arrive, Depart, Idle}
use Rattle.lrc_races_lines.specs.Line.{Saying}
use Rattle.lrc_acts_text.specs.Rapid.{RapidStep}
use Rattle.lrc_acts_text_laws.specs.Traces.{DoesStep}
use Rattle.lrc_races_text.specs.Says.{Said}

-- the kind of event that a deed is
abbrev pub kind_of_deed : Deed → Kind
kind_of_deed (deeds.Read w value) = Read
kind_of_deed (deeds.Write w value) = Write
kind_of_deed (deeds.Acquire l) = Acquire
kind_of_deed (deeds.Release l) = Release
kind_of_deed deeds.Arrive = Arrive
kind_of_deed deeds.Depart = Depart
kind_of_deed _ = Idle

-- ---- steps: thread T0, variable V3, lock L1

abbrev pub thread_name : ℕ → List ℕ
thread_name node = codes "T" ++ decimal node

abbrev pub variable_name : ℕ → List ℕ
variable_name w = codes "V" ++ decimal w

abbrev pub lock_name : ℕ → List ℕ
lock_name l = codes "L" ++ decimal l

abbrev pub target_in_rapid : Deed → List ℕ
target_in_rapid (deeds.Read w value) = variable_name w
target_in_rapid (deeds.Write w value) = variable_name w
target_in_rapid (deeds.Acquire l) = lock_name l
target_in_rapid (deeds.Release l) = lock_name l
target_in_rapid _ = []

-- what the step of a node for a deed says; the location is a line of the program's text
abbrev pub saying_in_rapid : ℕ → ℕ → Deed → Saying
saying_in_rapid line node deed = record {
  thread = thread_name node;
  kind = kind_of_deed deed;
  target = target_in_rapid deed;
  location = decimal line;
}

-- The steps say these events, one on each line, with the line of the program's text that the step's act is of.
pub record AreSaid (lines : List ℕ) (steps : List RapidStep) (said : List Said) : Type 0 where
  pub long : length said ≡ length steps
  pub each : (k node : ℕ) (deed : Deed) (does : DoesStep steps k node deed)
      → slice_get said k ≡ Some (record { line = k + 1; saying = saying_in_rapid (slice_index lines does.step.position) node deed })

-- ---- acts: node 0, word 3, lock 1, and the one barrier, 0

abbrev pub target_of_deed : Deed → List ℕ
target_of_deed (deeds.Read w value) = decimal w
target_of_deed (deeds.Write w value) = decimal w
target_of_deed (deeds.Acquire l) = decimal l
target_of_deed (deeds.Release l) = decimal l
target_of_deed deeds.Arrive = codes "0"
target_of_deed deeds.Depart = codes "0"
target_of_deed _ = []

abbrev pub saying_of_act : ℕ → Act → Saying
saying_of_act line act = record {
  thread = decimal act.node;
  kind = kind_of_deed act.deed;
  target = target_of_deed act.deed;
  location = decimal line;
}

-- what acts say, before which stand so many
abbrev pub acts_said : ℕ → List ℕ → List Act → List Said
acts_said before lines [] = []
acts_said before lines (act ∷ acts) =
    record { line = before + 1; saying = saying_of_act (slice_index lines before) act } ∷ acts_said (before + 1) lines acts
