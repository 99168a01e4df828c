-- Store buffering has a lazy run in which both nodes read 0.
use Rattle.std.proofs.Common.{◌≡◌, ℕ, zero, suc, ◌<◌, List, [], ◌∷◌, ◌⊎◌, inl, refl, sym, subst, ◌∙◌, arith}
use Rattle.std.specs.Prelude.{Some, None}
use Rattle.lrc_program.specs.declared.Program.{Program}
use Rattle.lrc_program.specs.Tree.{program_of}
use Rattle.lrc_trace.specs.declared.act.Act.{Act}
use Rattle.lrc_trace.specs.declared.act.Deed.{Deed}
use Rattle.lrc_trace.specs.declared.act.Deed.TheVariants.{Print, Read, Write, Acquire, Release, Depart, End}
use Rattle.lrc_trace.specs.Run.{Does, act_of}
use Rattle.lrc_trace.specs.Order.{Precedes, program, lock, barrier, HappensBefore, base, further}
use Rattle.lrc_trace.specs.Reading.{WrittenBefore, MayRead, ReadsLazily}
use Rattle.lrc_trace.specs.Synchronization.{IsWellSynchronized}
use Rattle.lrc_trace.proofs.Positions.{Does-one_node, Does-one_deed}
use Rattle.lrc_exec.specs.Meaning.{Thread}
use Rattle.lrc_exec.specs.Plain.{start_of}
use Rattle.lrc_exec.specs.Follows.{Goes, writing, reading, printing, ending, Makes, nothing_more, and_then, deeds_of}
use Rattle.lrc_lazy.specs.Lazy.{ended, HasStopped, Waits, IsLazyOutcome}
use Rattle.lrc_lazy.specs.Buffering.{store_buffering, both_print_zero}
use Rattle.lrc_lazy.proofs.Chains.{Chain, chain}
use Rattle.lrc_lazy.proofs.Onward.{all_in_range}
use Rattle.lrc_lazy.proofs.Readings.{none_may}
use Rattle.lrc_lazy.proofs.Stopping.{stopped_over}

-- the acts
abbrev run : List Act
run =
    act_of 0 (Write 0 1) ∷ act_of 1 (Write 1 1) ∷ act_of 0 (Read 1 0) ∷ act_of 1 (Read 0 0)
    ∷ act_of 0 (Print 0) ∷ act_of 1 (Print 0) ∷ act_of 0 End ∷ act_of 1 End ∷ []

here_0 : Does run 0 0 (Write 0 1)
here_0 = record { stands = refl }

here_1 : Does run 1 1 (Write 1 1)
here_1 = record { stands = refl }

here_2 : Does run 2 0 (Read 1 0)
here_2 = record { stands = refl }

here_3 : Does run 3 1 (Read 0 0)
here_3 = record { stands = refl }

here_6 : Does run 6 0 End
here_6 = record { stands = refl }

here_7 : Does run 7 1 End
here_7 = record { stands = refl }

-- the node and the deed at each position
pub data Stands : ℕ → ℕ → Deed → Type 0 where
  at_0 : Stands 0 0 (Write 0 1)
  at_1 : Stands 1 1 (Write 1 1)
  at_2 : Stands 2 0 (Read 1 0)
  at_3 : Stands 3 1 (Read 0 0)
  at_4 : Stands 4 0 (Print 0)
  at_5 : Stands 5 1 (Print 0)
  at_6 : Stands 6 0 End
  at_7 : Stands 7 1 End

stands_as : (i m : ℕ) (c : Deed) → Stands i m c → (n : ℕ) (d : Deed) → Does run i n d → Does run i m c → Stands i n d
stands_as i m c s n d h k = subst (λ x. Stands i x d) (Does-one_node k h) (subst (λ x. Stands i m x) (Does-one_deed k h) s)

stands : (i n : ℕ) (d : Deed) → Does run i n d → Stands i n d
stands zero n d h = stands_as 0 0 (Write 0 1) at_0 n d h here_0
stands (suc zero) n d h = stands_as 1 1 (Write 1 1) at_1 n d h here_1
stands (suc (suc zero)) n d h = stands_as 2 0 (Read 1 0) at_2 n d h here_2
stands (suc (suc (suc zero))) n d h = stands_as 3 1 (Read 0 0) at_3 n d h here_3
stands (suc (suc (suc (suc zero)))) n d h = stands_as 4 0 (Print 0) at_4 n d h (record { stands = refl })
stands (suc (suc (suc (suc (suc zero))))) n d h = stands_as 5 1 (Print 0) at_5 n d h (record { stands = refl })
stands (suc (suc (suc (suc (suc (suc zero)))))) n d h = stands_as 6 0 End at_6 n d h here_6
stands (suc (suc (suc (suc (suc (suc (suc zero))))))) n d h = stands_as 7 1 End at_7 n d h here_7
stands (suc (suc (suc (suc (suc (suc (suc (suc i)))))))) n d h = let e = h.stands in absurd (cc)

-- no act waits for another node's, so only acts of one node are ordered
no_acquire : {i n l : ℕ} → Stands i n (Acquire l) → ⊥
no_acquire s = elim s [ ]

no_given_back : {i n l : ℕ} → Stands i n (Release l) → ⊥
no_given_back s = elim s [ ]

no_depart : {i n : ℕ} → Stands i n Depart → ⊥
no_depart s = elim s [ ]

synchronized : IsWellSynchronized 2 run
synchronized = record {
  acquires = λ j node l does other holds. no_acquire (stands j node (Acquire l) does);
  releases = λ j node l does. absurd (no_given_back (stands j node (Release l) does));
  departs = λ j node does other lt. absurd (no_depart (stands j node Depart does));
}

one_step : {i j p q : ℕ} {d e : Deed} → Precedes run i j → Does run i p d → Does run j q e → p ≡ q
one_step (program lt a b) h k = Does-one_node h a ∙ Does-one_node b k
one_step (lock {j = j} {q = q} {l = l} lt a b) h k = absurd (no_acquire (stands j q (Acquire l) b))
one_step (barrier {j = j} {q = q} lt a b same) h k = absurd (no_depart (stands j q Depart b))

one_node : {i j p q : ℕ} {d e : Deed} → HappensBefore run i j → Does run i p d → Does run j q e → p ≡ q
one_node (base s) h k = one_step s h k
one_node (further before (program lt a b)) h k = one_node before h a ∙ Does-one_node b k
one_node (further before (lock {j = j} {q = q} {l = l} lt a b)) h k = absurd (no_acquire (stands j q (Acquire l) b))
one_node (further before (barrier {j = j} {q = q} lt a b same)) h k = absurd (no_depart (stands j q Depart b))

-- each writes its own word
writer : {i n w v : ℕ} → Stands i n (Write w v) → n ≡ w
writer at_0 = refl
writer at_1 = refl

-- a node that reads another's word knows no write to it
unwritten : (j n w v : ℕ) → Does run j n (Read w v) → (n ≡ w → ⊥) → (i u : ℕ) → WrittenBefore run j w i u → ⊥
unwritten j n w v does apart i u written =
    let by = written.write.0 in
    let own : by ≡ w = writer (stands i by (Write w u) written.write.1) in
    apart (sym (one_node written.before written.write.1 does) ∙ own)

may_read : {j n w v : ℕ} → Stands j n (Read w v) → MayRead run j w v
may_read at_2 = none_may run 2 1 (unwritten 2 0 1 0 here_2 (λ e. absurd (omega arith)))
may_read at_3 = none_may run 3 0 (unwritten 3 1 0 0 here_3 (λ e. absurd (omega arith)))

lazily : ReadsLazily run
lazily j word value (n, does) = may_read (stands j n (Read word value) does)

node_below : {i n : ℕ} {d : Deed} → Stands i n d → n < 2
node_below at_0 = omega arith
node_below at_1 = omega arith
node_below at_2 = omega arith
node_below at_3 = omega arith
node_below at_4 = omega arith
node_below at_5 = omega arith
node_below at_6 = omega arith
node_below at_7 = omega arith

makes : (mine its : ℕ) (t : Thread) → Chain mine its t → Makes (Some t) (Write mine 1 ∷ Read its 0 ∷ Print 0 ∷ End ∷ [])
makes mine its t c =
    and_then (subst (λ n. Goes n (Write mine 1) (Some c.wrote)) (sym c.writes_own) writing)
    (and_then (subst (λ n. Goes n (Read its 0) (Some (c.read 0))) (sym c.reads_other) reading)
    (and_then (subst (λ n. Goes n (Print 0) (Some (c.printed 0))) (sym (c.prints_it 0)) printing)
    (and_then (subst (λ n. Goes n End None) (sym (c.ends_then 0)) ending) nothing_more)))

module _ (text : Program) (is : program_of text ≡ store_buffering) where
  each : (node : ℕ) → node < 2 → Makes (Some (start_of text 2 node)) (deeds_of node run)
  each zero lt = makes 0 1 (start_of text 2 0) (chain text is 0 1 refl refl refl)
  each (suc zero) lt = makes 1 0 (start_of text 2 1) (chain text is 1 0 refl refl refl)
  each (suc (suc n)) lt = absurd (omega (arith, lt))

  all_ended : (node : ℕ) → node < 2 → HasStopped run node ⊎ Waits text 2 run node
  all_ended zero lt = inl (ended here_6)
  all_ended (suc zero) lt = inl (ended here_7)
  all_ended (suc (suc n)) lt = absurd (omega (arith, lt))

  pub buffered_lazily : IsLazyOutcome text 2 both_print_zero
  buffered_lazily = record {
    acts = run;
    run = record {
      follows = record { in_range = all_in_range 2 run (λ k n d does. node_below (stands k n d does)); each = each };
      synchronized = synchronized;
      lazily = lazily;
    };
    over = stopped_over text 2 run all_ended;
    are = refl;
  }
