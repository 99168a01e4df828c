-- The first line, and the lines of all turns that are shown.
use Rattle.std.proofs.Common.{◌≡◌, ◌∙◌, ◌+◌, ◌-◌, ◌<◌, ◌≤◌, ◌++◌, ℕ, List, [], ◌∷◌, Option, Some, ap, ap₂, refl, sym, subst, append-nil, arith, length, take, drop}
use Rattle.std.specs.Prelude.{Err, fold, IfErr, IfOk, Ok, Result, Vec}
use Rattle.std.specs.declared.alloc.Global.{Global}
use Rattle.std.proofs.lemmas.List.{length-drop, take-append-drop, take_all}
use Rattle.std.proofs.lemmas.List.Sums.{fold-append}
use Rattle.lrc_program.specs.declared.Program.{Program}
use Rattle.lrc_page.specs.declared.size.Size.{Size}
use Rattle.lrc_labels.specs.Reading.{Label}
use Rattle.lrc_protocol.specs.declared.event.Event.{Event}
use Rattle.lrc_protocol.specs.Run.{fresh_world, played, run_of, step_of, World}
use Rattle.lrc_replay.specs.Acts.{Plan}
use Rattle.lrc_replay.specs.Turns.{Turn, turns_of}
use Rattle.lrc_text.specs.Parts.{whole_text}
use Rattle.lrc_states.specs.declared.fault.StatesFault.{StatesFault}
use Rattle.lrc_states.specs.declared.fault.StatesFault.TheVariants.{NoMemory, TooLong}
use Rattle.lrc_states.specs.declared.player.Player.{Player}
use Rattle.lrc_states.specs.declared.told.Range.{Range}
use Rattle.lrc_states.specs.declared.told.Telling.{Telling}
use Rattle.lrc_states.specs.Players.{IsPlayer, IsSetting}
use Rattle.lrc_states.specs.States.{AreStates, first_line, IsShown, IsStart, IsUnshown, most_turns, Told, turn_lines, turns_shown}

-- what holds of a result leads to what else holds of it
pub if_ok : {T E : Type 0} {P Q : T → Type 0} (r : Result T E) → IfOk r P → ((x : T) → P x → Q x) → IfOk r Q
if_ok (Ok x) holds leads = leads x holds
if_ok (Err e) holds leads = tt

-- lines behind a first one
pub behind_first : (line : Vec ℕ Global) (first lines : List ℕ) (old new : List (Vec ℕ Global)) → line.items ≡ first → old ≡ line ∷ []
    → whole_text new ≡ whole_text old ++ lines → whole_text new ≡ first ++ lines
behind_first line first lines old new is one more =
    more ∙ ap (λ (l : List (Vec ℕ Global)). whole_text l ++ lines) one ∙ ap (λ (l : List ℕ). l ++ lines) (append-nil line.items ∙ is)

-- the turns begin where they do by the plan's program
pub starts_so : (told : Told) (range : Range) (plan : Plan) (labels : List Label) → IsSetting told plan labels → (made : World)
    → run_of told.program told.nodes told.options told.events ≡ Some made → (count : ℕ)
    → (run_of plan.program told.nodes told.options told.events ≡ Some made → IsStart plan.program told.nodes told.options range.from told.events count)
    → IsStart told.program told.nodes told.options range.from told.events count
starts_so told range plan labels setting made goes count starts =
    subst (λ (p : Program). IsStart p told.nodes told.options range.from told.events count) setting.program_is
    (starts (subst (λ (p : Program). run_of p told.nodes told.options told.events ≡ Some made) (sym setting.program_is) goes))

-- so does the player
pub begins_at : (told : Told) (plan : Plan) (labels : List Label) → IsSetting told plan labels → (player : Player)
    → IsPlayer plan (fresh_world plan.program plan.nodes told.options) 0 player
    → IsPlayer plan (fresh_world told.program told.nodes told.options) 0 player
begins_at told plan labels setting player is =
    subst (λ (w : World). IsPlayer plan w 0 player)
    (ap₂ (λ (p : Program) (n : ℕ). fresh_world p n told.options) setting.program_is setting.nodes_are) is

module _ (told : Told) (range : Range) (plan : Plan) (labels : List Label) (setting : IsSetting told plan labels) (count : ℕ)
    (start : IsStart told.program told.nodes told.options range.from told.events count) where
  abbrev world : World
  world = start.1.0

  abbrev turns : ℕ
  turns = length (turns_of told.program told.nodes told.options (take count told.events))

  abbrev shown : List (ℕ × Turn)
  shown = turns_shown range.to turns world (drop count told.events)

  -- the other events are played from there
  pub rest_goes : (made : World) → run_of told.program told.nodes told.options told.events ≡ Some made
      → played world (drop count told.events) ≡ Some made
  rest_goes made goes =
      let fresh = fresh_world told.program told.nodes told.options in
      ap (λ (o : Option World). fold step_of o (drop count told.events)) (sym start.1.1.stands)
      ∙ sym (fold-append step_of (Some fresh) (take count told.events) (drop count told.events))
      ∙ ap (played fresh) (take-append-drop count told.events) ∙ goes

  pub shown_so : (telling : Telling) (out : List ℕ) → out ≡ first_line plan telling told.options.size labels world ++ turn_lines plan telling shown
      → IsShown told range telling (length shown) out
  shown_so telling out is = record {
    plan = plan;
    program_is = setting.program_is;
    nodes_are = setting.nodes_are;
    lines_are = setting.lines_are;
    names_are = setting.names_are;
    before = take count told.events;
    rest = drop count told.events;
    world = world;
    at = start.1.1;
    shown = shown;
    shown_are = refl;
    counted = refl;
    whole = is ∙ ap (λ (l : List Label). first_line plan telling told.options.size l world ++ turn_lines plan telling shown) setting.labels_are;
  }

  -- the events as the code reads them
  module _ (read : List Event) (same : read ≡ told.events) where
    -- the others, as the code reads them
    pub others_so : take (length read - count) (drop count read) ≡ drop count read
    others_so = take_all (length read - count) (drop count read) (omega (arith, length-drop count read))

    pub stands_so : played (fresh_world told.program told.nodes told.options) (take count read) ≡ Some world
    stands_so =
        ap (λ (l : List Event). played (fresh_world told.program told.nodes told.options) (take count l)) same ∙ start.1.1.stands

    pub goes_so : (made : World) → run_of told.program told.nodes told.options told.events ≡ Some made
        → played world (drop count read) ≡ Some made
    goes_so made goes = ap (λ (l : List Event). played world (drop count l)) same ∙ rest_goes made goes

    pub player_so : (player : Player)
        → IsPlayer plan world (0 + length (turns_of told.program told.nodes told.options (take count read))) player
        → IsPlayer plan world turns player
    player_so player is =
        let many : 0 + length (turns_of told.program told.nodes told.options (take count read)) ≡ turns =
        omega (arith, ap (λ (l : List Event). length (turns_of told.program told.nodes told.options (take count l))) same) in
        subst (λ (n : ℕ). IsPlayer plan world n player) many is

    -- the same of events that are these
    module _ (others : List Event) (are : others ≡ drop count read) where
      pub states_so : (telling : Telling) (size : Size) → size ≡ told.options.size → (out : List ℕ)
          → (out ≡ first_line plan telling size labels world ++ turn_lines plan telling (turns_shown range.to turns world others))
          × (length (turns_shown range.to turns world others) ≤ most_turns)
          → AreStates told range telling out
      states_so telling size sized out tells =
          let those : others ≡ drop count told.events = are ∙ ap (λ (l : List Event). drop count l) same in
          let lines = subst
          (λ (l : List Event). (out ≡ first_line plan telling told.options.size labels world ++ turn_lines plan telling (turns_shown range.to turns world l))
          × (length (turns_shown range.to turns world l) ≤ most_turns)) those
          (subst
          (λ (z : Size). (out ≡ first_line plan telling z labels world ++ turn_lines plan telling (turns_shown range.to turns world others))
          × (length (turns_shown range.to turns world others) ≤ most_turns)) sized tells) in
          (length shown, lines.1, shown_so telling out lines.0)

      pub unshown_so : {T : Type 0} (r : Result T StatesFault)
          → (r ≡ Err TooLong → most_turns < length (turns_shown range.to turns world others)) → IfErr r (IsUnshown told range)
      unshown_so (Ok x) many = tt
      unshown_so (Err TooLong) many =
          let those : others ≡ drop count told.events = are ∙ ap (λ (l : List Event). drop count l) same in
          let long = subst (λ (l : List Event). most_turns < length (turns_shown range.to turns world l)) those (many refl) in
          let lines : Telling → List ℕ =
          λ telling. first_line plan telling told.options.size labels world ++ turn_lines plan telling shown in
          (length shown, long, λ telling. (lines telling, shown_so telling (lines telling) refl))
      unshown_so (Err NoMemory) many = tt
