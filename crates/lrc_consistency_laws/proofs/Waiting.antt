-- Where each node's acts are those of the text, a node that has come to a barrier departs before it does anything else.
use Rattle.std.proofs.Common.{◌≡◌, ℕ, zero, suc, ◌+◌, ◌≤◌, List, [], ◌∷◌, Bool, true, false, ◌&&◌, cond, inl, inr, sym, subst, ◌∙◌, ap, refl, arith, take}
use Rattle.std.specs.Prelude.{◌==◌, Option, Some, None, if◌then◌else◌}
use Rattle.std.proofs.lemmas.Bool.{cases_Bool, cases_eq, eq-eqb, ne_eqb, false≢true}
use Rattle.std.proofs.lemmas.Option.{same_Some}
use Rattle.lrc_program.specs.declared.Program.{Program}
use Rattle.lrc_trace.specs.declared.act.Act.{Act}
use Rattle.lrc_trace.specs.declared.act.Deed.{Deed}
use Rattle.lrc_trace.specs.declared.act.Deed.TheVariants.{Depart}
use Rattle.lrc_trace.specs.Run.{Does, act_of, is_arrive, is_depart, arrives_before, departs_before}
use Rattle.lrc_trace.specs.Synchronization.{WaitsAtBarriers}
use Rattle.lrc_trace.proofs.Positions.{Does-within}
use Rattle.lrc_trace.proofs.Outlines.{count_of-cons}
use Rattle.lrc_exec.specs.Meaning.{Thread, Next, departs, first_act, next_of}
use Rattle.lrc_exec.specs.Plain.{start_of}
use Rattle.lrc_exec.specs.Follows.{Goes, quietly, printing, reading, writing, acquiring, releasing, arriving}
use Rattle.lrc_exec.specs.Follows.{departing, trapping, ending, Makes, deeds_of, FollowsText}
use Rattle.lrc_exec.proofs.NextLaws.{IsFine, next_of-fine}
use Rattle.lrc_consistency_laws.specs.Matching.{IsPaired}
use Rattle.lrc_consistency_laws.proofs.Runs.{makes_first, deeds_of-own, deeds_of-other}
use Rattle.lrc_consistency_laws.proofs.UpToRace.{in_range}

-- a thread that has arrived departs next
only_departs : {t : Thread} {d : Deed} {after : Option Thread} → Goes (departs t) d after → d ≡ Depart
only_departs departing = refl

departs_next : (t : Thread) {d : Deed} {after : Option Thread} → t.arrived ≡ true → Goes (next_of t) d after → d ≡ Depart
departs_next t {d} {after} e g =
    only_departs (subst (λ n. Goes n d after) (ap (λ b. if b then departs (record t { arrived = false }) else first_act t t.rest) e) g)

-- the counts of a thread's arrives and departs, by whether it has arrived
settled : {b : Bool} {a e : ℕ} → b ≡ false → IsPaired b a e → a ≡ e
settled {a = a} {e = e} f p = subst (λ x. IsPaired x a e) f p

waiting : (a e : ℕ) {b : Bool} → b ≡ true → IsPaired b a e → a ≡ e + 1
waiting a e f p = subst (λ x. IsPaired x a e) f p

as_settled : {b : Bool} {a e : ℕ} → b ≡ false → a ≡ e → IsPaired b a e
as_settled {a = a} {e = e} f p = subst (λ x. IsPaired x a e) (sym f) p

as_waiting : (a e : ℕ) {b : Bool} → b ≡ true → a ≡ e + 1 → IsPaired b a e
as_waiting a e f p = subst (λ x. IsPaired x a e) (sym f) p

-- the same of a thread that may have stopped
abbrev Paired : Option Thread → ℕ → ℕ → Type 0
Paired None a e = Unit {0}
Paired (Some t) a e = IsPaired t.arrived a e

-- one for a deed of this kind
abbrev one : Bool → ℕ
one b = cond b 1 0

next_paired : (t : Thread) {n : Next} {d : Deed} {after : Option Thread} → Goes n d after → IsFine t n → (a e : ℕ) → IsPaired t.arrived a e
    → Paired after (one (is_arrive d) + a) (one (is_depart d) + e)
next_paired t quietly f a e p = let same = settled f.0 p in as_settled f.1.arrived (omega arith)
next_paired t printing f a e p = let same = settled f.0 p in as_settled f.1.arrived (omega arith)
next_paired t (reading {v = v}) f a e p = let s = f.1 v in let same = settled s.0 p in as_settled s.1.arrived (omega arith)
next_paired t writing f a e p = let s = f.1 in let same = settled s.0 p in as_settled s.1.arrived (omega arith)
next_paired t acquiring f a e p = let same = settled f.2 p in as_settled f.3.arrived (omega arith)
next_paired t releasing f a e p = let same = settled f.2 p in as_settled f.3.arrived (omega arith)
next_paired t arriving f a e p = let same = settled f.0 p in as_waiting (1 + a) (0 + e) f.1.arrived (omega arith)
next_paired t departing f a e p = let same = waiting a e f.0 p in as_settled f.1.arrived (omega arith)
next_paired t trapping f a e p = tt
next_paired t ending f a e p = tt

module _ (node : ℕ) where
  waits : (o : Option Thread) (acts : List Act) → Makes o (deeds_of node acts) → (a e : ℕ) → Paired o a e → (j : ℕ) (d : Deed)
      → Does acts j node d → is_depart d ≡ false → arrives_before acts node j + a ≤ departs_before acts node j + e
  waits o [] m a e paired j d h other = let within = Does-within h in absurd (omega arith)
  waits o (x ∷ acts) m a e paired zero d h other =
      let here : x ≡ act_of node d = same_Some x (act_of node d) h.stands in
      let own : Makes o (d ∷ deeds_of node acts) =
      subst (λ ds. Makes o ds) (deeds_of-own (act_of node d) acts) (subst (λ (y : Act). Makes o (deeds_of node (y ∷ acts))) here m) in
      let first = makes_first own in
      let p : IsPaired first.thread.arrived a e = subst (λ q. Paired q a e) first.is paired in
      let no_arrives : arrives_before (x ∷ acts) node zero ≡ 0 = refl in
      let no_departs : departs_before (x ∷ acts) node zero ≡ 0 = refl in
      elim (cases_Bool first.thread.arrived) [
        | inl waits_now ↦ absurd (false≢true (sym other ∙ ap is_depart (departs_next first.thread waits_now first.goes)))
        | inr goes_on ↦ let same = settled goes_on p in omega arith
      ]
  waits o (x ∷ acts) m a e paired (suc j) d h other =
      let later : Does acts j node d = record { stands = h.stands } in
      let arrives = count_of-cons is_arrive node x (take j acts) in
      let departs = count_of-cons is_depart node x (take j acts) in
      elim (cases_eq x.node node) [
        | inl same ↦
            let own : deeds_of node (x ∷ acts) ≡ x.deed ∷ deeds_of node acts =
            subst (λ k. deeds_of k (x ∷ acts) ≡ x.deed ∷ deeds_of k acts) same (deeds_of-own x acts) in
            let first = makes_first (subst (λ ds. Makes o ds) own m) in
            let p : IsPaired first.thread.arrived a e = subst (λ q. Paired q a e) first.is paired in
            let next = next_paired first.thread first.goes (next_of-fine first.thread) a e p in
            let rest = waits first.after acts first.more (one (is_arrive x.deed) + a) (one (is_depart x.deed) + e) next j d later other in
            let counted : (kind : Deed → Bool) → one (x.node == node && kind x.deed) ≡ one (kind x.deed) =
            λ kind. ap (λ b. one (b && kind x.deed)) (eq-eqb x.node node same) in
            let arrived = counted is_arrive in
            let departed = counted is_depart in
            omega arith
        | inr apart ↦
            let rest = waits o acts (subst (λ ds. Makes o ds) (deeds_of-other x acts node apart) m) a e paired j d later other in
            let skipped : (kind : Deed → Bool) → one (x.node == node && kind x.deed) ≡ 0 =
            λ kind. ap (λ b. one (b && kind x.deed)) (ne_eqb x.node node apart) in
            let arrived = skipped is_arrive in
            let departed = skipped is_depart in
            omega arith
      ]

pub waits_at_barriers : (program : Program) (nodes : ℕ) (run : List Act) → FollowsText program nodes run → WaitsAtBarriers run
waits_at_barriers program nodes run follows = record {
  departed = λ j node d h other.
      let makes = follows.each node (in_range follows j node d h) in
      let le = waits node (Some (start_of program nodes node)) run makes 0 0 refl j d h other in
      omega arith;
}
