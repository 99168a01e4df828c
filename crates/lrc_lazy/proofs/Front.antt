-- In front: an act that may come next and is no acquire comes first in some run with the same outcome.
use Rattle.std.proofs.Common.{◌≡◌, ℕ, suc, ◌<◌, List, [], ◌∷◌, ◌++◌, length, inl, inr, refl, sym, subst, ◌∙◌, ap, append_assoc}
use Rattle.std.specs.Prelude.{◌↔◌, Some}
use Rattle.std.proofs.lemmas.Bool.{cases_eq}
use Rattle.std.proofs.lemmas.List.{append-nil}
use Rattle.lrc_program.specs.declared.Program.{Program}
use Rattle.lrc_trace.specs.declared.act.Act.{Act}
use Rattle.lrc_trace.specs.declared.act.Deed.{Deed}
use Rattle.lrc_trace.specs.Run.{act_of}
use Rattle.lrc_trace.specs.Synchronization.{MayGoOn}
use Rattle.lrc_trace.proofs.Positions.{Does-last}
use Rattle.lrc_exec.specs.Plain.{start_of}
use Rattle.lrc_exec.specs.Follows.{Makes, deeds_of, FollowsText}
use Rattle.lrc_consistency_laws.specs.Kinds.{SameKind, same, reads}
use Rattle.lrc_consistency_laws.proofs.UpToRace.{in_range}
use Rattle.lrc_orders.specs.Notes.{notes_of}
use Rattle.lrc_lazy.specs.Lazy.{IsLazyRun, MayComeNext, IsOver, IsLazyOutcome}
use Rattle.lrc_lazy.proofs.Onward.{deeds_more-own, free_read}
use Rattle.lrc_lazy.proofs.Coming.{deeds_same, follows_more}
use Rattle.lrc_lazy.specs.Swapped.{pair, IsNoAcquire, MayComeFirst}
use Rattle.lrc_lazy.proofs.Both.{still_may}
use Rattle.lrc_lazy.specs.Front.{IsLazyOutcomeFrom, MayGoFirst}
use Rattle.lrc_lazy.proofs.Changing.{run_changed, over_changed}
use Rattle.lrc_lazy.proofs.Deeds.{notes_moved, lazy_front, kind_next}

-- a deed of one kind with what is no acquire is none
free_kind : {d e : Deed} → SameKind d e → IsNoAcquire d → IsNoAcquire e
free_kind same free = free
free_kind reads free = λ l is. let never : ⊥ = cc in never

may_kind : (nodes : ℕ) (acts : List Act) (node : ℕ) {d e : Deed} → SameKind d e → MayGoOn nodes acts (act_of node d) → MayGoOn nodes acts (act_of node e)
may_kind nodes acts node same may = may
may_kind nodes acts node (reads {w = w} {v = v}) may = free_read nodes acts node w v

-- what comes behind one act, written both ways
one_behind : (acts : List Act) (x : Act) (more : List Act) → (acts ++ x ∷ []) ++ more ≡ acts ++ x ∷ more
one_behind acts x more = append_assoc acts (x ∷ []) more

module _ (program : Program) (nodes node : ℕ) (deed : Deed) (free : IsNoAcquire deed) where
  -- the run with an act of the node in front
  pub record Fronted (acts more : List Act) : Type 0 where
    pub other : Deed
    pub kind : SameKind deed other
    pub rest : List Act
    pub run : IsLazyRun program nodes (acts ++ act_of node other ∷ rest)
    pub over : IsOver program nodes (acts ++ act_of node other ∷ rest)
    pub are : notes_of nodes (acts ++ act_of node other ∷ rest) ≡ notes_of nodes (acts ++ more)
    pub shorter : length more ≡ suc (length rest)

  -- the node's deeds so far, and then this one
  makes_deed : (acts : List Act) (d : Deed) → FollowsText program nodes (acts ++ act_of node d ∷ []) → node < nodes
      → Makes (Some (start_of program nodes node)) (deeds_of node acts ++ d ∷ [])
  makes_deed acts d follows lt = subst (λ ds. Makes (Some (start_of program nodes node)) ds) (deeds_more-own node acts d) (follows.each node lt)

  among : (acts : List Act) (n : ℕ) (d : Deed) → FollowsText program nodes (acts ++ act_of n d ∷ []) → n < nodes
  among acts n d follows = in_range follows (length acts) n d (Does-last acts (act_of n d))

  -- it may still come next when another node has made an act
  next_still : (acts : List Act) (x : Act) → (x.node ≡ node → ⊥) → FollowsText program nodes (acts ++ x ∷ [])
      → MayComeNext program nodes acts (act_of node deed) → MayComeNext program nodes (acts ++ x ∷ []) (act_of node deed)
  next_still acts x apart follows next =
      let lt = among acts node deed next.follows in
      record {
        follows = follows_more program nodes (acts ++ x ∷ []) node deed follows lt
            (subst (λ ds. Makes (Some (start_of program nodes node)) (ds ++ deed ∷ [])) (sym (deeds_same node acts x apart))
            (makes_deed acts deed next.follows lt));
        may = still_may nodes acts (act_of node deed) x apart free next.may;
      }

  -- the run's next act is the node's
  its_own : (acts more : List Act) (d : Deed) → IsLazyRun program nodes (acts ++ act_of node d ∷ more)
      → IsOver program nodes (acts ++ act_of node d ∷ more) → MayComeNext program nodes acts (act_of node deed) → Fronted acts (act_of node d ∷ more)
  its_own acts more d run over next =
      let lt = among acts node deed next.follows in
      let here = lazy_front program nodes (acts ++ act_of node d ∷ []) more
      (subst (IsLazyRun program nodes) (sym (one_behind acts (act_of node d) more)) run) in
      record {
        other = d;
        kind = kind_next (deeds_of node acts) deed d (makes_deed acts deed next.follows lt) (makes_deed acts d here.follows lt);
        rest = more;
        run = run;
        over = over;
        are = refl;
        shorter = refl;
      }

  -- it is another's, and the node's act comes first behind that one
  anothers : (acts : List Act) (x : Act) (more : List Act) → (x.node ≡ node → ⊥) → x.node < nodes → MayComeNext program nodes acts (act_of node deed)
      → Fronted (acts ++ x ∷ []) more → Fronted acts (x ∷ more)
  anothers acts x more apart among_x next f =
      let act = act_of node f.other in
      let is : (acts ++ x ∷ []) ++ act ∷ f.rest ≡ pair acts x act f.rest = one_behind acts x (act ∷ f.rest) in
      let m : MayComeFirst nodes acts x act = record {
        apart = apart;
        first_among = among_x;
        second_among = among acts node deed next.follows;
        no_acquire = free_kind f.kind free;
        may = may_kind nodes acts node f.kind next.may;
      } in
      record {
        other = f.other;
        kind = f.kind;
        rest = x ∷ f.rest;
        run = run_changed program nodes acts x act f.rest (subst (IsLazyRun program nodes) is f.run) m;
        over = over_changed program nodes acts x act f.rest apart (subst (IsOver program nodes) is f.over);
        are = sym (notes_moved acts x act f.rest apart nodes) ∙ ap (notes_of nodes) (sym is) ∙ f.are ∙ ap (notes_of nodes) (one_behind acts x more);
        shorter = ap (λ n. suc n) f.shorter;
      }

  pub in_front : (more acts : List Act) → IsLazyRun program nodes (acts ++ more) → IsOver program nodes (acts ++ more)
      → MayComeNext program nodes acts (act_of node deed) → Fronted acts more
  in_front [] acts run over next = absurd (subst (IsOver program nodes) (append-nil acts) over (act_of node deed) next)
  in_front (x ∷ more) acts run over next = elim (cases_eq x.node node) [
    | inl own ↦
        let is : x ≡ act_of node x.deed = ap (λ n. act_of n x.deed) own in
        subst (λ (y : Act). Fronted acts (y ∷ more)) (sym is)
        (its_own acts more x.deed (subst (λ (y : Act). IsLazyRun program nodes (acts ++ y ∷ more)) is run)
        (subst (λ (y : Act). IsOver program nodes (acts ++ y ∷ more)) is over) next)
    | inr apart ↦
        let behind = sym (one_behind acts x more) in
        let run' = subst (IsLazyRun program nodes) behind run in
        let here = lazy_front program nodes (acts ++ x ∷ []) more run' in
        anothers acts x more apart (among acts x.node x.deed here.follows) next
        (in_front more (acts ++ x ∷ []) run' (subst (IsOver program nodes) behind over) (next_still acts x apart here.follows next))
  ]

-- ---- outcomes

module _ (program : Program) (nodes : ℕ) (acts : List Act) (node : ℕ) (notes : List Act) where
  first_then : (deed : Deed) → IsLazyOutcomeFrom program nodes (acts ++ act_of node deed ∷ []) notes → IsLazyOutcomeFrom program nodes acts notes
  first_then deed o =
      let is = one_behind acts (act_of node deed) o.more in
      record {
        more = act_of node deed ∷ o.more;
        run = subst (IsLazyRun program nodes) is o.run;
        over = subst (IsOver program nodes) is o.over;
        are = ap (notes_of nodes) (sym is) ∙ o.are;
      }

  pub goes_first : MayGoFirst program nodes acts node
      → IsLazyOutcomeFrom program nodes acts notes ↔ ((deed : Deed) × IsLazyOutcomeFrom program nodes (acts ++ act_of node deed ∷ []) notes)
  goes_first may = (
    λ o.
        let f = in_front program nodes node may.deed may.free o.more acts o.run o.over may.next in
        let is = sym (one_behind acts (act_of node f.other) f.rest) in (
          f.other,
          record {
            more = f.rest;
            run = subst (IsLazyRun program nodes) is f.run;
            over = subst (IsOver program nodes) is f.over;
            are = ap (notes_of nodes) (sym is) ∙ f.are ∙ o.are;
          },
        ),
    λ o. first_then o.0 o.1,
  )

pub from_beginning : (program : Program) (nodes : ℕ) (notes : List Act) → IsLazyOutcome program nodes notes ↔ IsLazyOutcomeFrom program nodes [] notes
from_beginning program nodes notes = (
  λ o. record { more = o.acts; run = o.run; over = o.over; are = o.are },
  λ o. record { acts = o.more; run = o.run; over = o.over; are = o.are },
)
