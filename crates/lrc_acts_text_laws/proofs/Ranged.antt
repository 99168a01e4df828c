-- In a run that follows the text of a program and reads lazily, the numbers of each act are of their kinds: a value that is read was
-- written earlier, or is 0, and what is written comes of the text and of what was read.
use Rattle.std.proofs.Common.{◌≡◌, ◌<◌, ◌≤◌, ℕ, zero, suc, List, [], ◌∷◌, Option, Some, None, refl, subst, arith, inl, inr}
use Rattle.std.proofs.Common.{get_or, All}
use Rattle.std.proofs.lemmas.Bool.{cases_eq, cases_lt}
use Rattle.std.proofs.lemmas.Option.{same_Some}
use Rattle.lrc_program.specs.declared.Program.{Program}
use Rattle.lrc_program.specs.Tree.{program_of}
use Rattle.lrc_trace.specs.declared.act.Act.{Act}
use Rattle.lrc_trace.specs.declared.act.Deed.{Deed}
use Rattle.lrc_trace.specs.declared.act.Deed.TheVariants.{Quiet, Print, Read, Write, Acquire, Release, Arrive, Depart, Trap, End}
use Rattle.lrc_trace.specs.Reading.{IsSomeWrite, ReadsLazily}
use Rattle.lrc_trace.specs.Run.{Does, act_of}
use Rattle.lrc_trace.proofs.HappensBefore.{forward}
use Rattle.lrc_trace.proofs.Positions.{Does-read, Does-within}
use Rattle.lrc_exec.specs.Meaning.{Next, Thread}
use Rattle.lrc_exec.specs.Plain.{setting_of, start_of}
use Rattle.lrc_exec.specs.Follows.{Goes, quietly, printing, reading, writing, acquiring, releasing, arriving}
use Rattle.lrc_exec.specs.Follows.{departing, trapping, ending, Makes, deeds_of, FollowsText}
use Rattle.lrc_consistency_laws.proofs.Runs.{Makes_first, makes_first, deeds_of-own, deeds_of-other}
use Rattle.lrc_consistency_laws.proofs.UpToRace.{in_range}
use Rattle.lrc_acts.specs.Printed.{IsRanged, IsRangedDeed, IsValue}
use Rattle.lrc_acts_text_laws.proofs.Literals.{HasValuesOf}
use Rattle.lrc_acts_text_laws.proofs.Values.{GoesModestly, IsModest, IsUsual, next_of_modest, start_modest}

-- the value that a deed reads fits 64 bits
abbrev ReadFits : Deed → Type 0
ReadFits (Read word value) = IsValue value
ReadFits _ = Unit {0}

-- the numbers of a thread fit, unless it has stopped
abbrev MayGoModestly : Option Thread → Type 0
MayGoModestly None = Unit {0}
MayGoModestly (Some t) = IsModest t

-- a deed of a thread, and the thread after it
goes_ranged : {n : Next} {d : Deed} {after : Option Thread} → Goes n d after → GoesModestly n → ReadFits d
    → IsRangedDeed d × MayGoModestly after
goes_ranged quietly modest fits = (tt, modest)
goes_ranged printing modest fits = (modest.0, modest.1)
goes_ranged (reading {v = v}) modest fits = ((modest.0, fits), modest.1 v fits)
goes_ranged writing modest fits = ((modest.0, modest.1), modest.2)
goes_ranged acquiring modest fits = (modest.0, modest.1)
goes_ranged releasing modest fits = (modest.0, modest.1)
goes_ranged arriving modest fits = (tt, modest)
goes_ranged departing modest fits = (tt, modest)
goes_ranged trapping modest fits = (tt, tt)
goes_ranged ending modest fits = (tt, tt)

-- of the first deed that a thread makes, and of the thread after it
first_ranged : (o : Option Thread) (d : Deed) (ds : List Deed) → MayGoModestly o → (first : Makes_first o d ds) → ReadFits d
    → IsRangedDeed d × MayGoModestly first.after
first_ranged o d ds modest first fits =
    goes_ranged first.goes (next_of_modest first.thread (subst MayGoModestly first.is modest)) fits

-- each read before a position fits
abbrev ReadsFit : List Act → ℕ → Type 0
ReadsFit acts j = (i node : ℕ) (d : Deed) → i < j → Does acts i node d → ReadFits d

reads_later : (x : Act) (acts : List Act) (j : ℕ) → ReadsFit (x ∷ acts) (suc j) → ReadsFit acts j
reads_later x acts j fit i node d lt h = fit (suc i) node d (omega (arith, lt)) (record { stands = h.stands })

-- a deed of a node whose earlier reads, and which itself, read what fits
along : (node : ℕ) (o : Option Thread) (acts : List Act) → Makes o (deeds_of node acts) → MayGoModestly o → (j : ℕ) (d : Deed)
    → Does acts j node d → ReadsFit acts j → ReadFits d → IsRangedDeed d
along node o [] m modest j d h fit fits = let within = Does-within h in absurd (omega arith)
along node o (x ∷ acts) m modest zero d h fit fits =
    let here : x ≡ act_of node d = same_Some x (act_of node d) h.stands in
    let own : Makes o (d ∷ deeds_of node acts) =
    subst (λ ds. Makes o ds) (deeds_of-own (act_of node d) acts) (subst (λ (y : Act). Makes o (deeds_of node (y ∷ acts))) here m) in
    (first_ranged o d (deeds_of node acts) modest (makes_first own) fits).0
along node o (x ∷ acts) m modest (suc j) d h fit fits =
    let later : Does acts j node d = record { stands = h.stands } in
    elim (cases_eq x.node node) [
      | inl same ↦
          let own : deeds_of node (x ∷ acts) ≡ x.deed ∷ deeds_of node acts =
          subst (λ k. deeds_of k (x ∷ acts) ≡ x.deed ∷ deeds_of k acts) same (deeds_of-own x acts) in
          let first : Makes_first o x.deed (deeds_of node acts) = makes_first (subst (λ ds. Makes o ds) own m) in
          let read_here : ReadFits x.deed = fit 0 x.node x.deed (omega arith) (record { stands = refl }) in
          along node first.after acts first.more (first_ranged o x.deed (deeds_of node acts) modest first read_here).1 j d later
          (reads_later x acts j fit) fits
      | inr apart ↦
          along node o acts (subst (λ ds. Makes o ds) (deeds_of-other x acts node apart) m) modest j d later (reads_later x acts j fit) fits
    ]

-- what a deed reads or writes fits where its numbers are of their kinds
read_ranged : (d : Deed) → IsRangedDeed d → ReadFits d
read_ranged Quiet h = tt
read_ranged (Print v) h = tt
read_ranged (Read w v) h = h.1
read_ranged (Write w v) h = tt
read_ranged (Acquire l) h = tt
read_ranged (Release l) h = tt
read_ranged Arrive h = tt
read_ranged Depart h = tt
read_ranged (Trap c) h = tt
read_ranged End h = tt

module _ (program : Program) (nodes : ℕ) (acts : List Act) (few : nodes ≤ 16) (values : HasValuesOf (program_of program).statements)
    (follows : FollowsText program nodes acts) (lazy : ReadsLazily acts) where
  usual : (node : ℕ) → node < nodes → IsUsual (setting_of program nodes node)
  usual node lt = record {
    words = program.few_words;
    locks = program.few_locks;
    me = omega (arith, lt, few);
    nodes = few;
  }

  -- the deeds before a position are of their kinds
  abbrev RangedBefore : ℕ → Type 0
  RangedBefore j = (i node : ℕ) (d : Deed) → i < j → Does acts i node d → IsRangedDeed d

  value_fits : (j word v : ℕ) → RangedBefore j → IsSomeWrite acts j word v → IsValue v
  value_fits j word v before (inl none) = omega (arith, none)
  value_fits j word v before (inr some) =
      (before some.0 some.1.write.0 (Write word v) (forward some.1.before) some.1.write.1).1

  read_fits : (j node : ℕ) (d : Deed) → RangedBefore j → Does acts j node d → ReadFits d
  read_fits j node Quiet before h = tt
  read_fits j node (Print v) before h = tt
  read_fits j node (Read w v) before h = value_fits j w v before (lazy j w v (node, h)).weak
  read_fits j node (Write w v) before h = tt
  read_fits j node (Acquire l) before h = tt
  read_fits j node (Release l) before h = tt
  read_fits j node Arrive before h = tt
  read_fits j node Depart before h = tt
  read_fits j node (Trap c) before h = tt
  read_fits j node End before h = tt

  one_ranged : (j node : ℕ) (d : Deed) → RangedBefore j → Does acts j node d → IsRangedDeed d
  one_ranged j node d before h =
      let lt = in_range follows j node d h in
      along node (Some (start_of program nodes node)) acts (follows.each node lt)
      (start_modest (setting_of program nodes node) program.statements.items (usual node lt) values) j d h
      (λ i n e k g. read_ranged e (before i n e k g)) (read_fits j node d before h)

  before_ranged : (j : ℕ) → RangedBefore j
  before_ranged zero i node d lt h = absurd (omega arith)
  before_ranged (suc j) i node d lt h = elim (cases_lt i j) [
    | inl less ↦ before_ranged j i node d less h
    | inr most ↦
        let same : j ≡ i = omega arith in
        one_ranged i node d (subst RangedBefore same (before_ranged j)) h
  ]

  pub all_ranged : All IsRanged acts
  all_ranged i d lt =
      let act = get_or acts i d in
      let here = Does-read acts i d lt in
      let node : act.node ≤ 15 = omega (arith, in_range follows i act.node act.deed here, few) in
      record { node = node; deed = before_ranged (suc i) i act.node act.deed (omega arith) here }
