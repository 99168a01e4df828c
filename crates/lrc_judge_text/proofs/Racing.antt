-- The test of two acts finds the races.
use Rattle.std.proofs.Common.{◌≡◌, ◌∙◌, ◌<◌, ℕ, List, true, length, inl, inr, refl, sym, subst, arith}
use Rattle.std.specs.Prelude.{◌≢◌, not}
use Rattle.std.proofs.lemmas.Bool.{and_from, and_parts, both_ways, eq-eqb, eqb-true, false_from_ne_true, false≢true, ne_eqb, not-true, not_from_false}
use Rattle.lrc_trace.specs.declared.act.Act.{Act}
use Rattle.lrc_trace.specs.declared.act.Deed.{Deed}
use Rattle.lrc_trace.specs.declared.act.Deed.TheVariants.{Quiet, Read, Write}
use Rattle.lrc_trace.specs.Run.{Does, act_of}
use Rattle.lrc_trace.specs.Conflict.{Accesses, Conflict, ConflictAt, Races, Writes}
use Rattle.lrc_trace.proofs.Positions.{Does-one_deed, Does-one_node, Does-read}
use Rattle.lrc_judge.specs.Order.{IsOrderOf, is_before}
use Rattle.lrc_judge.specs.declared.lanes.Pair.{Pair}
use Rattle.lrc_judge.specs.declared.order.Order.{Order}
use Rattle.lrc_judge_text.specs.Judgement.{deed_at, node_at}
use Rattle.lrc_judge_text.proofs.Within.{race_within}
use Rattle.lrc_judge_text.specs.RacingPairs.{accesses_word, is_conflict, is_racing, writes_word}

module _ (run : List Act) where
  -- ---- from the test

  written : (i p word : ℕ) (deed : Deed) → Does run i p deed → writes_word word deed ≡ true → Writes run i p word
  written i p word (Write other value) does is = (value, subst (λ w. Does run i p (Write w value)) (eqb-true other word is) does)
  written i p word deed does is = absurd (false≢true is)

  accessed : (i p word : ℕ) (deed : Deed) → Does run i p deed → accesses_word word deed ≡ true → Accesses run i p word
  accessed i p word (Read other value) does is = inl (value, subst (λ w. Does run i p (Read w value)) (eqb-true other word is) does)
  accessed i p word (Write other value) does is = inr (value, subst (λ w. Does run i p (Write w value)) (eqb-true other word is) does)
  accessed i p word deed does is = absurd (false≢true is)

  conflicting : (i p j q : ℕ) (a b : Deed) → Does run i p a → Does run j q b → p ≢ q → is_conflict a b ≡ true → Conflict run i j
  conflicting i p j q (Read word value) b first second apart is =
      let write = written j q word b second is in
      (p, q, word, record { apart = apart; first = inl (value, first); second = inr write; writes = inr write })
  conflicting i p j q (Write word value) b first second apart is =
      (p, q, word, record { apart = apart; first = inr (value, first); second = accessed j q word b second is; writes = inl (value, first) })
  conflicting i p j q a b first second apart is = absurd (false≢true is)

  -- ---- to the test

  writes_so : (i p word : ℕ) → Writes run i p word → (q : ℕ) (deed : Deed) → Does run i q deed → writes_word word deed ≡ true
  writes_so i p word (value, does) q deed there =
      subst (λ (d : Deed). writes_word word d ≡ true) (Does-one_deed does there) (eq-eqb word word refl)

  accesses_so : (i p word : ℕ) → Accesses run i p word → (q : ℕ) (deed : Deed) → Does run i q deed → accesses_word word deed ≡ true
  accesses_so i p word (inl (value, does)) q deed there =
      subst (λ (d : Deed). accesses_word word d ≡ true) (Does-one_deed does there) (eq-eqb word word refl)
  accesses_so i p word (inr (value, does)) q deed there =
      subst (λ (d : Deed). accesses_word word d ≡ true) (Does-one_deed does there) (eq-eqb word word refl)

  -- who reads at a position does not write there
  reads_only : (i p q word other value : ℕ) → Does run i p (Read word value) → Writes run i q other → ⊥
  reads_only i p q word other value does (written, writes) =
      let same : Read word value ≡ Write other written = Does-one_deed does writes in cc

  conflict_so : (i p j q word : ℕ) → ConflictAt run i p j q word → (m n : ℕ) (a b : Deed) → Does run i m a → Does run j n b
      → is_conflict a b ≡ true
  conflict_so i p j q word c m n a b first second =
      elim c.first [
        | inl (value, does) ↦
            elim c.writes [
              | inl writes ↦ absurd (reads_only i p p word word value does writes)
              | inr writes ↦
                  subst (λ (d : Deed). is_conflict d b ≡ true) (Does-one_deed does first) (writes_so j q word writes n b second)
            ]
        | inr (value, does) ↦
            subst (λ (d : Deed). is_conflict d b ≡ true) (Does-one_deed does first) (accesses_so j q word c.second n b second)
      ]

  here : (i : ℕ) → i < length run → Does run i (node_at run i) (deed_at run i)
  here i within = Does-read run i (act_of 0 Quiet) within

  -- ---- the test, and the order that it knows

  module _ (order : Order) (is : IsOrderOf run order) where
    pub racing-races : (pair : Pair) → pair.earlier < pair.later → pair.later < length run → is_racing order run pair ≡ true
        → Races run pair.earlier pair.later
    racing-races pair earlier within racing =
        let (conflict, rest) = and_parts (is_conflict (deed_at run pair.earlier) (deed_at run pair.later)) _ racing in
        let (apart, unordered) = and_parts _ (not (is_before order pair.earlier pair.later)) rest in
        record {
          earlier = earlier;
          conflict = conflicting pair.earlier (node_at run pair.earlier) pair.later (node_at run pair.later)
              (deed_at run pair.earlier) (deed_at run pair.later) (here pair.earlier (omega arith)) (here pair.later within)
              (λ same. both_ways _ (not-true _ apart) (eq-eqb (node_at run pair.earlier) (node_at run pair.later) same)) conflict;
          unordered = λ before. both_ways _ (not-true _ unordered) ((is pair.earlier pair.later).1 before);
        }

    pub races-racing : (pair : Pair) → Races run pair.earlier pair.later → is_racing order run pair ≡ true
    races-racing pair r =
        let (p, q, word, c) = r.conflict in
        let within = race_within r in
        let earlier = r.earlier in
        let first = here pair.earlier (omega arith) in
        let second = here pair.later within in
        let by_first : p ≡ node_at run pair.earlier = elim c.first [ inl h ↦ Does-one_node h.1 first | inr h ↦ Does-one_node h.1 first ] in
        let by_second : q ≡ node_at run pair.later = elim c.second [ inl h ↦ Does-one_node h.1 second | inr h ↦ Does-one_node h.1 second ] in
        let conflict : is_conflict (deed_at run pair.earlier) (deed_at run pair.later) ≡ true =
        conflict_so pair.earlier p pair.later q word c (node_at run pair.earlier) (node_at run pair.later) (deed_at run pair.earlier)
        (deed_at run pair.later) first second in
        let apart = not_from_false _ (ne_eqb (node_at run pair.earlier) (node_at run pair.later)
        (λ same. c.apart (by_first ∙ same ∙ sym by_second))) in
        let unordered = not_from_false _ (false_from_ne_true (is_before order pair.earlier pair.later)
        (λ before. r.unordered ((is pair.earlier pair.later).0 before))) in
        and_from _ _ conflict (and_from _ _ apart unordered)
