-- The nodes are all of them, each at the beginning.
use Rattle.std.proofs.Common.{rules, ◌≡◌, ◌≤◌, ◌∙◌, Some, None, false, [], ◌∷◌, ◌++◌, length}
use Rattle.std.proofs.Common.{replicate, refl, sym, ap, subst, arith}
use Rattle.std.specs.Prelude.{All, map}
use Rattle.std.specs.List.{range_with_len}
use Rattle.std.proofs.lemmas.List.{map-append, length-map}
use Rattle.std.proofs.lemmas.List.Elements.{All-append}
use Rattle.std.proofs.lemmas.List.FromFn.{map-range_with_len_more, length-map-range_with_len}
use Rattle.lrc_exec.specs.declared.spot.Spot.{Spot}
use Rattle.lrc_exec.specs.Spots.{spot_begun, spot_thread}
use Rattle.lrc_exec.proofs.Beginning.{All-one, machine_is, none_clones}
use Rattle.lrc_exec.specs.States.{thread_begun}
use Rattle.lrc_exec.proofs.Spots.{goes_blank, numbers_begun}
use Rattle.lrc_exec.proofs.state.State.start.Goals as goal

pub loop-me-preserved : goal.loop-me-preserved
loop-me-preserved c =
    let flat = c.args.flat.now in
    let place = c.args.place in
    let me = c.loop-me.me in
    let spot : Spot = spot_begun place me in
    let pushed = c.in_ok-push.ensures.items ∙ ap (λ s. c.loop-me.spots.items ++ s ∷ []) c.begun.ensures in (
      ap (map (spot_thread flat)) pushed
          ∙ map-append (spot_thread flat) c.loop-me.spots.items (spot ∷ [])
          ∙ ap (λ ts. ts ++ Some (thread_begun flat place me) ∷ []) c.loop-me.invariant.0
          ∙ sym (map-range_with_len_more (λ k. Some (thread_begun flat place k)) 0 me me (omega arith)),
      subst (All (λ (s : Spot). s.place ≤ length flat.code.now)) (sym pushed)
          (All-append (λ (s : Spot). s.place ≤ length flat.code.now) c.loop-me.spots.items (spot ∷ []) c.loop-me.invariant.1
          (All-one (λ (s : Spot). s.place ≤ length flat.code.now) spot c.requires)),
      subst (All (λ (s : Spot). s.stopped ≡ false)) (sym pushed)
          (All-append (λ (s : Spot). s.stopped ≡ false) c.loop-me.spots.items (spot ∷ []) c.loop-me.invariant.2
          (All-one (λ (s : Spot). s.stopped ≡ false) spot refl)),
      subst (All (λ (s : Spot). s.place ≡ place)) (sym pushed)
          (All-append (λ (s : Spot). s.place ≡ place) c.loop-me.spots.items (spot ∷ []) c.loop-me.invariant.3
          (All-one (λ (s : Spot). s.place ≡ place) spot refl)),
    )

pub returns-clause-first : goal.returns-clause-first
returns-clause-first c =
    let flat = c.args.flat.now in
    let all : c.loop-me.me ≡ flat.nodes = omega (arith, c.loop-me-test.false, c.loop-me.auto.me-end) in
    let memory : c.in_ok-memory.memory.items ≡ replicate flat.words 0 = search rules in
    let holders : c.in_ok-holders.holders.items ≡ replicate flat.locks None =
    c.in_ok-holders.ensures.items_if_clones_equal (none_clones _ (λ x h. h)) in
    let arrivals : c.in_ok-arrivals.arrivals.items ≡ replicate flat.nodes 0 = search rules in
    let threads = c.loop-me.invariant.0 ∙ ap (λ n. map (λ me. Some (thread_begun flat c.args.place me)) (range_with_len 0 n)) all in
    record {
      begun = machine_is c.in_ok-memory.memory.items (replicate flat.words 0) c.in_ok-holders.holders.items
          (replicate flat.locks None) c.in_ok-arrivals.arrivals.items (replicate flat.nodes 0)
          (map (spot_thread flat) c.loop-me.spots.items) _ memory holders arrivals threads;
      placed = c.loop-me.invariant.3;
    }

pub returns-clause-state : goal.returns-clause-state
returns-clause-state c =
    let flat = c.args.flat.now in
    let all : c.loop-me.me ≡ flat.nodes = omega (arith, c.loop-me-test.false, c.loop-me.auto.me-end) in
    record {
      memory = sym c.in_ok-memory.memory.ok.0 ∙ c.in_ok-memory.ensures.len;
      holders = sym c.in_ok-holders.holders.ok.0 ∙ c.in_ok-holders.ensures.len;
      arrivals = sym c.in_ok-arrivals.arrivals.ok.0 ∙ c.in_ok-arrivals.ensures.len;
      spots =
          sym (length-map c.loop-me.spots.items (spot_thread flat))
          ∙ ap length c.loop-me.invariant.0
          ∙ length-map-range_with_len (λ k. Some (thread_begun flat c.args.place k)) 0 c.loop-me.me
          ∙ all;
      numbers = numbers_begun flat c.args.place c.loop-me.me c.loop-me.spots.items c.loop-me.invariant.0 ∙ ap (range_with_len 0) all;
      within = c.loop-me.invariant.1;
      blank = λ k d lt on. goes_blank _ (c.loop-me.invariant.2 k d lt) on;
    }
