-- What is told of a program.
use Rattle.std.proofs.Common.{◌≡◌, ℕ, ◌+◌, ◌-◌, List, [], ◌++◌, Bool, true, false, Result, Ok, Err, IfOk, length, length-append, sym, subst, ◌∙◌, ap, arith}
use Rattle.std.specs.Prelude.{IfErr, Some, codes, not}
use Rattle.std.proofs.lemmas.Option.{same_Some}
use Rattle.lrc_program.specs.declared.Program.{Program}
use Rattle.lrc_explain_waits.specs.Traps.{Wording}
use Rattle.lrc_trace.specs.declared.act.Act.{Act}
use Rattle.lrc_trace.specs.declared.race.Race.{Race}
use Rattle.lrc_text.specs.Parts.{whole_text}
use Rattle.lrc_text.specs.RaceText.{first_race_text, races_text}
use Rattle.lrc_exec.specs.Plain.{plain}
use Rattle.lrc_consistency_laws.specs.Racing.{HasNoRace}
use Rattle.lrc_orders.specs.declared.search.ExploreFault.{ExploreFault}
use Rattle.lrc_orders.specs.declared.search.ExploreFault.TheVariants.{TooMany}
use Rattle.lrc_orders.specs.Stuck.{GetsStuck}
use Rattle.lrc_orders.specs.Traps.{NodeTraps}
use Rattle.lrc_explore_causes.specs.Told.{TellsRace}
use Rattle.lrc_explore.specs.Answers.{MetTooMany}
use Rattle.lrc_explore_text.specs.declared.explored.Told.{Told}
use Rattle.lrc_explore_text.specs.declared.explored.Told.TheVariants.{All, Many}
use Rattle.lrc_explore_text.specs.Met.{IsTold, TellsMet}
use Rattle.lrc_explore_text.specs.Explored.{Explores, MeetsMany, MeetsTooMany, tells_orders, tells_outcomes}
use Rattle.lrc_explore_text.specs.LastRaces.{AreRacesAt}
use Rattle.lrc_explore_text.specs.Orders.{SaysStuck, SaysTrap, TellsFindings, TellsOrders, ends_text, findings_status, free, no_stuck, no_trap, order_text, racy, some_stuck, some_trap, tells_findings}
use Rattle.lrc_explore_text.specs.Outcomes.{TellsOutcomes}
use Rattle.lrc_explore_text.specs.Sections.{TellsBehind}
use Rattle.lrc_explore_text.specs.Trapped.{trapped_text}
use Rattle.lrc_explore_text.proofs.Led.{plain_stuck, plain_traps}

-- ---- either question

module _ (wording : Wording) (program : Program) (nodes : ℕ) (lines : List ℕ) (most : ℕ) (outcomes : Bool) where
  pub of_outcomes : outcomes ≡ true → (out : List ℕ) (status : ℕ) → TellsOutcomes program nodes out → status ≡ 0
      → Explores wording program nodes lines outcomes out status
  of_outcomes is out status text ends =
      subst (λ b. Explores wording program nodes lines b out status) (sym is)
      (subst (λ s. Explores wording program nodes lines true out s) (sym ends) (tells_outcomes text))

  of_told : outcomes ≡ false → (told : Told) → IsTold (TellsOrders wording program nodes lines) (TellsMet wording program nodes lines most true) told
      → IsTold (Explores wording program nodes lines outcomes) (MeetsMany wording program nodes lines most outcomes) told
  of_told is (All printout) text =
      subst (λ b. Explores wording program nodes lines b (whole_text printout.parts.items) printout.status) (sym is) (tells_orders text)
  of_told is (Many parts) met = (is, met)

  pub of_orders : (r : Result Told ExploreFault) → outcomes ≡ false
      → IfOk r (IsTold (TellsOrders wording program nodes lines) (TellsMet wording program nodes lines most true))
      → IfOk r (IsTold (Explores wording program nodes lines outcomes) (MeetsMany wording program nodes lines most outcomes))
  of_orders (Err fault) is text = tt
  of_orders (Ok told) is text = of_told is told text

module _ (program : Program) (nodes most : ℕ) (outcomes : Bool) (r : Result Told ExploreFault) where
  -- why it gives up
  pub gives_up : (b : Bool) → outcomes ≡ b → IfErr r (λ fault. fault ≡ TooMany → MetTooMany program nodes most b (not b))
      → IfErr r (λ fault. fault ≡ TooMany → MeetsTooMany program nodes most outcomes)
  gives_up b is h = subst (λ o. IfErr r (λ fault. fault ≡ TooMany → MetTooMany program nodes most o (not o))) (sym is) h

-- ---- one order

module _ (wording : Wording) (program : Program) (nodes : ℕ) (lines : List ℕ) (order : List ℕ) (acts : List Act) (led : plain program nodes order ≡ Some acts) where
  pub of_stuck : (gets : GetsStuck program nodes order) → (out : List ℕ)
      → out ≡ codes "some order gets stuck:\n" ++ order_text program nodes lines acts ++ ends_text wording program nodes lines acts
      → SaysStuck wording program nodes lines true out
  of_stuck gets out is =
      let same : acts ≡ gets.acts = same_Some acts gets.acts (sym led ∙ plain_stuck program nodes order gets) in
      let whole = is ∙ ap (λ a. codes "some order gets stuck:\n" ++ order_text program nodes lines a ++ ends_text wording program nodes lines a) same in
      subst (λ o. SaysStuck wording program nodes lines true o) (sym whole) (some_stuck gets)

  pub of_trap : (traps : NodeTraps program nodes order) → (out : List ℕ)
      → out ≡ codes "some order traps:\n" ++ order_text program nodes lines acts ++ trapped_text wording program nodes lines acts
      → SaysTrap wording program nodes lines true out
  of_trap traps out is =
      let same : acts ≡ traps.acts = same_Some acts traps.acts (sym led ∙ plain_traps program nodes order traps) in
      let whole = is ∙ ap (λ a. codes "some order traps:\n" ++ order_text program nodes lines a ++ trapped_text wording program nodes lines a) same in
      subst (λ o. SaysTrap wording program nodes lines true o) (sym whole) (some_trap traps)

-- where an order is known, one is told
pub told_stuck : (wording : Wording) (program : Program) (nodes : ℕ) (lines order : List ℕ) → GetsStuck program nodes order → (told : Bool) (out : List ℕ)
    → SaysStuck wording program nodes lines told out → SaysStuck wording program nodes lines true out
told_stuck wording program nodes lines order gets true out says = says
told_stuck wording program nodes lines order gets false out (no_stuck never) = absurd (never order gets)

pub told_trap : (wording : Wording) (program : Program) (nodes : ℕ) (lines order : List ℕ) → NodeTraps program nodes order → (told : Bool) (out : List ℕ)
    → SaysTrap wording program nodes lines told out → SaysTrap wording program nodes lines true out
told_trap wording program nodes lines order traps true out says = says
told_trap wording program nodes lines order traps false out (no_trap never) = absurd (never order traps)

-- ---- what is found besides races

-- both sections behind a first line
pub of_sections : (wording : Wording) (program : Program) (nodes : ℕ) (lines head first second : List ℕ) (stuck traps : Bool) (out : List ℕ) (status : ℕ)
    → SaysStuck wording program nodes lines stuck first → SaysTrap wording program nodes lines traps second → out ≡ head ++ (first ++ second)
    → status ≡ findings_status stuck traps → TellsBehind wording program nodes lines head out status
of_sections wording program nodes lines head first second stuck traps out status s t is so = record {
  text = first ++ second;
  is = is;
  tells = subst (λ n. TellsFindings wording program nodes lines (first ++ second) n) (sym so) (tells_findings s t);
}

module _ (wording : Wording) (program : Program) (nodes : ℕ) (lines : List ℕ) where
  pub of_free : HasNoRace program nodes → (out : List ℕ) (status : ℕ)
      → TellsBehind wording program nodes lines (codes "race free in every order\n") out status → TellsOrders wording program nodes lines out status
  of_free none out status b = subst (λ o. TellsOrders wording program nodes lines o status) (sym b.is) (free none b.tells)

  pub of_found : (out : List ℕ) (status : ℕ) → TellsBehind wording program nodes lines [] out status → TellsFindings wording program nodes lines out status
  of_found out status b = subst (λ o. TellsFindings wording program nodes lines o status) (sym b.is) b.tells

-- what an earliest race comes of has its last act behind the other one
last_place : (program : Program) (nodes : ℕ) (run told : List Act) (tells : TellsRace program nodes run told) → length told - 1 ≡ length tells.before + 1
last_place program nodes run told tells =
    let long = ap (λ (l : List Act). length l) tells.ends.is ∙ length-append tells.before _ in omega (arith, long)

pub of_race : (wording : Wording) (program : Program) (nodes : ℕ) (lines order : List ℕ) (run acts : List Act) → plain program nodes order ≡ Some run
    → TellsRace program nodes run acts → (last : ℕ) (races : List Race) → last ≡ length acts - 1 → AreRacesAt acts last races → (out : List ℕ)
    → out ≡ order_text program nodes lines acts ++ races_text races ++ first_race_text (Some last) → TellsOrders wording program nodes lines out 3
of_race wording program nodes lines order run acts led tells last races at are out is =
    let place : last ≡ length tells.before + 1 = at ∙ last_place program nodes run acts tells in
    let whole = is ∙ ap (λ n. order_text program nodes lines acts ++ races_text races ++ first_race_text (Some n)) place in
    subst (λ o. TellsOrders wording program nodes lines o 3) (sym whole) (racy order led tells (subst (λ n. AreRacesAt acts n races) place are))
