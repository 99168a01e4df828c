-- Where acts follow the text of a program, each lock that is acquired or released is one of the program's.
use Rattle.std.proofs.Common.{◌≡◌, ℕ, zero, suc, ◌<◌, List, [], ◌∷◌, inl, inr, subst, ◌∙◌, ap, refl, arith}
use Rattle.std.specs.Prelude.{Option, Some, None}
use Rattle.std.proofs.lemmas.Bool.{cases_eq}
use Rattle.std.proofs.lemmas.Option.{same_Some}
use Rattle.lrc_program.specs.declared.Program.{Program}
use Rattle.lrc_trace.specs.declared.act.Act.{Act}
use Rattle.lrc_trace.specs.declared.act.Deed.{Deed}
use Rattle.lrc_trace.specs.declared.act.Deed.TheVariants.{Acquire, Release}
use Rattle.lrc_trace.specs.Run.{Does, act_of}
use Rattle.lrc_trace.proofs.Positions.{Does-within}
use Rattle.lrc_exec.specs.Meaning.{Setting, Thread, Next}
use Rattle.lrc_exec.specs.Plain.{start_of}
use Rattle.lrc_exec.proofs.NextLaws.{IsFine, next_of-fine}
use Rattle.lrc_exec.specs.Follows.{Goes, quietly, printing, reading, writing, acquiring, releasing, arriving}
use Rattle.lrc_exec.specs.Follows.{departing, trapping, ending, Makes, deeds_of, FollowsText}
use Rattle.lrc_consistency_laws.proofs.Runs.{Makes_first, makes_first, deeds_of-own, deeds_of-other}
use Rattle.lrc_consistency_laws.proofs.UpToRace.{in_range}
use Rattle.lrc_acts_text.specs.RapidOrder.{IsOf}

-- a lock that the deed acquires or releases is one of so many
abbrev LockIsBelow : ℕ → Deed → Type 0
LockIsBelow locks (Acquire l) = l < locks
LockIsBelow locks (Release l) = l < locks
LockIsBelow locks _ = Unit {0}

-- a thread, unless it has stopped, is of a program with so many locks
abbrev HasLocks : ℕ → Option Thread → Type 0
HasLocks locks None = Unit {0}
HasLocks locks (Some t) = t.setting.locks ≡ locks

module _ (locks : ℕ) where
  has_still : (t after : Thread) → t.setting.locks ≡ locks → after.setting ≡ t.setting → after.setting.locks ≡ locks
  has_still t after has same = ap (λ (s : Setting). s.locks) same ∙ has

  goes_below : (t : Thread) {n : Next} {d : Deed} {after : Option Thread} → Goes n d after → IsFine t n → t.setting.locks ≡ locks
      → LockIsBelow locks d × HasLocks locks after
  goes_below t (quietly {t = after}) f has = (tt, has_still t after has f.1.setting)
  goes_below t (printing {t = after}) f has = (tt, has_still t after has f.1.setting)
  goes_below t (reading {t = after} {v = v}) f has = (tt, has_still t (after v) has (f.1 v).1.setting)
  goes_below t (writing {t = after}) f has = (tt, has_still t after has f.1.1.setting)
  goes_below t (acquiring {t = after} {l = l}) f has = (subst (λ k. l < k) has f.0, has_still t after has f.3.setting)
  goes_below t (releasing {t = after} {l = l}) f has = (subst (λ k. l < k) has f.0, has_still t after has f.3.setting)
  goes_below t (arriving {t = after}) f has = (tt, has_still t after has f.1.setting)
  goes_below t (departing {t = after}) f has = (tt, has_still t after has f.1.setting)
  goes_below t trapping f has = (tt, tt)
  goes_below t ending f has = (tt, tt)

  -- of the first deed that a thread makes, and of the thread after it
  first_below : (o : Option Thread) (d : Deed) (ds : List Deed) → HasLocks locks o → (first : Makes_first o d ds)
      → LockIsBelow locks d × HasLocks locks first.after
  first_below o d ds has first =
      goes_below first.thread first.goes (next_of-fine first.thread) (subst (HasLocks locks) first.is has)

  below : (node : ℕ) (o : Option Thread) (acts : List Act) → Makes o (deeds_of node acts) → HasLocks locks o → (j : ℕ) (d : Deed)
      → Does acts j node d → LockIsBelow locks d
  below node o [] m has j d h = let within = Does-within h in absurd (omega arith)
  below node o (x ∷ acts) m has zero d h =
      let here : x ≡ act_of node d = same_Some x (act_of node d) h.stands in
      let own : Makes o (d ∷ deeds_of node acts) =
      subst (λ ds. Makes o ds) (deeds_of-own (act_of node d) acts) (subst (λ (y : Act). Makes o (deeds_of node (y ∷ acts))) here m) in
      (first_below o d (deeds_of node acts) has (makes_first own)).0
  below node o (x ∷ acts) m has (suc j) d h =
      let later : Does acts j node d = record { stands = h.stands } in
      elim (cases_eq x.node node) [
        | inl same ↦
            let own : deeds_of node (x ∷ acts) ≡ x.deed ∷ deeds_of node acts =
            subst (λ k. deeds_of k (x ∷ acts) ≡ x.deed ∷ deeds_of k acts) same (deeds_of-own x acts) in
            let first : Makes_first o x.deed (deeds_of node acts) = makes_first (subst (λ ds. Makes o ds) own m) in
            below node first.after acts first.more (first_below o x.deed (deeds_of node acts) has first).1 j d later
        | inr apart ↦ below node o acts (subst (λ ds. Makes o ds) (deeds_of-other x acts node apart) m) has j d later
      ]

module _ (program : Program) (nodes : ℕ) (acts : List Act) (follows : FollowsText program nodes acts) where
  at_each : (j node : ℕ) (d : Deed) → Does acts j node d → LockIsBelow program.locks d
  at_each j node d h =
      below program.locks node (Some (start_of program nodes node)) acts (follows.each node (in_range follows j node d h)) refl j d h

  pub is_of : IsOf program.locks nodes acts
  is_of = record {
    node = λ j node d h. in_range follows j node d h;
    acquired = λ j node l h. at_each j node (Acquire l) h;
    released = λ j node l h. at_each j node (Release l) h;
  }
