-- Tables with a count for each node: of its deeds of one kind, or of its intervals, from one position to the next.
use Rattle.std.proofs.Common.{◌≡◌, ℕ, ◌+◌, ◌<◌, ◌≤◌, List, length, get_or, set, take, inl, inr, refl, sym, subst, ◌∙◌, ap, arith, length-set}
use Rattle.std.specs.Prelude.{Bool, true, false, ◌==◌, ◌&&◌}
use Rattle.std.proofs.lemmas.Bool.{cases_eq, both_ways}
use Rattle.std.proofs.lemmas.List.{get_or-set_same, get_or-set_other, length-take-le}
use Rattle.std.proofs.lemmas.List.Sums.{count_by-le-length}
use Rattle.lrc_trace.specs.declared.act.Act.{Act}
use Rattle.lrc_trace.specs.declared.act.Deed.{Deed}
use Rattle.lrc_trace.specs.declared.act.Deed.TheVariants.{Acquire, Release, Arrive, Depart}
use Rattle.lrc_trace.specs.Run.{Does, is_arrive, is_depart, count_of}
use Rattle.lrc_trace.specs.Interval.{closes, interval_at}
use Rattle.lrc_trace.proofs.Intervals.{count_of-more, count_of-same}

-- a deed that is neither
pub no_arrive : (d : Deed) → (d ≡ Arrive → ⊥) → is_arrive d ≡ false
no_arrive Arrive h = absurd (h refl)
no_arrive _ h = refl

pub no_depart : (d : Deed) → (d ≡ Depart → ⊥) → is_depart d ≡ false
no_depart Depart h = absurd (h refl)
no_depart _ h = refl

-- a deed that closes no interval
pub no_close : (d : Deed) → ((l : ℕ) → d ≡ Acquire l → ⊥) → ((l : ℕ) → d ≡ Release l → ⊥) → (d ≡ Arrive → ⊥) → closes d ≡ false
no_close (Acquire l) a r b = absurd (a l refl)
no_close (Release l) a r b = absurd (r l refl)
no_close Arrive a r b = absurd (b refl)
no_close _ a r b = refl

module _ (run : List Act) (n node : ℕ) (deed : Deed) (here : Does run n node deed) where
  module _ (kind : Deed → Bool) where
    -- a bound on the counts of all nodes
    pub bound_same : (m : ℕ) → kind deed ≡ false → ((q : ℕ) → count_of kind q (take n run) ≤ m) → (q : ℕ) → count_of kind q (take (n + 1) run) ≤ m
    bound_same m fails bound q =
        let old = bound q in
        let same = count_of-same kind run q n node deed here (λ e. both_ways (kind deed) fails) in
        omega arith

    pub bound_next : (m m' : ℕ) → kind deed ≡ true → m ≤ m' → count_of kind node (take n run) < m' → ((q : ℕ) → count_of kind q (take n run) ≤ m) → (q : ℕ)
        → count_of kind q (take (n + 1) run) ≤ m'
    bound_next m m' passes le lt bound q =
        let old = bound q in
        elim (cases_eq node q) [
          | inl same ↦
              let more = count_of-more kind run node n deed here passes in
              let P : ℕ → Type 0 = λ x. count_of kind x (take (n + 1) run) ≤ m' in
              subst P same (omega arith)
          | inr other ↦
              let same = count_of-same kind run q n node deed here (λ e. absurd (other e)) in
              omega arith
        ]

    pub counts_same : (counts : List ℕ) → kind deed ≡ false → ((q : ℕ) → q < length counts → get_or counts q 0 ≡ count_of kind q (take n run)) → (q : ℕ)
        → q < length counts → get_or counts q 0 ≡ count_of kind q (take (n + 1) run)
    counts_same counts fails old q within = old q within ∙ sym (count_of-same kind run q n node deed here (λ e. both_ways (kind deed) fails))

    pub counts_next : (counts : List ℕ) → kind deed ≡ true → node < length counts → ((q : ℕ) → q < length counts
        → get_or counts q 0 ≡ count_of kind q (take n run)) → (q : ℕ) → q < length (set counts node (get_or counts node 0 + 1))
        → get_or (set counts node (get_or counts node 0 + 1)) q 0 ≡ count_of kind q (take (n + 1) run)
    counts_next counts passes long old q within =
        elim (cases_eq q node) [
          | inl same ↦ rw (same, get_or-set_same counts node (get_or counts node 0 + 1) 0 long) (ap (λ m. m + 1) (old node long)
              ∙ sym (count_of-more kind run node n deed here passes))
          | inr other ↦
              let lt : q < length counts = rw (← length-set counts node (get_or counts node 0 + 1)) within in
              rw (get_or-set_other counts node q (get_or counts node 0 + 1) 0 other) (old q lt
              ∙ sym (count_of-same kind run q n node deed here (λ e. absurd (other (sym e)))))
        ]

  -- the intervals that the nodes have reached
  pub intervals_same : (intervals : List ℕ) → closes deed ≡ false → ((q : ℕ) → q < length intervals → get_or intervals q 0 ≡ interval_at run q n) → (q : ℕ)
      → q < length intervals → get_or intervals q 0 ≡ interval_at run q (n + 1)
  intervals_same intervals fails old q within = old q within
      ∙ ap (λ m. 1 + m) (sym (count_of-same closes run q n node deed here (λ e. both_ways (closes deed) fails)))

  pub intervals_next : (intervals : List ℕ) (interval : ℕ) → closes deed ≡ true → node < length intervals → interval ≡ interval_at run node n → ((q : ℕ)
      → q < length intervals → get_or intervals q 0 ≡ interval_at run q n) → (q : ℕ) → q < length (set intervals node (interval + 1))
      → get_or (set intervals node (interval + 1)) q 0 ≡ interval_at run q (n + 1)
  intervals_next intervals interval passes long is old q h =
      elim (cases_eq q node) [
        | inl same ↦
            let more = count_of-more closes run node n deed here passes in
            rw (same, get_or-set_same intervals node (interval + 1) 0 long) (omega arith)
        | inr other ↦
            let lt : q < length intervals = rw (← length-set intervals node (interval + 1)) h in
            rw (get_or-set_other intervals node q (interval + 1) 0 other) (old q lt
            ∙ ap (λ m. 1 + m) (sym (count_of-same closes run q n node deed here (λ e. absurd (other (sym e))))))
      ]
