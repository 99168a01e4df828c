-- Counts of acts from one position to the next.
use Rattle.std.proofs.Common.{◌≡◌, ◌∙◌, ◌<◌, ◌≤◌, ◌+◌, ℕ, refl, sym, subst, arith, List, length, get_or, replicate, take}
use Rattle.std.specs.Prelude.{Bool, true, false, ◌==◌, ◌&&◌, slice_index}
use Rattle.std.proofs.lemmas.List.{get_or-replicate, length-replicate, length-set, length-take-le}
use Rattle.std.proofs.lemmas.List.Sums.{count_by-le-length}
use Rattle.lrc_trace.specs.declared.act.Act.{Act}
use Rattle.lrc_trace.specs.declared.act.Deed.{Deed}
use Rattle.lrc_trace.specs.Run.{count_of}
use Rattle.lrc_trace.proofs.Counts.{counts_next, counts_same}
use Rattle.lrc_trace.proofs.Positions.{Does-read}
use Rattle.lrc_acts_text.specs.Tally.{tallied}

-- for each node that can act, how many acts of this kind it made before the position
pub record Tallies (kind : Deed → Bool) (acts : List Act) (position : ℕ) (counts : List ℕ) : Type 0 where
  pub many : length counts ≡ 256
  pub counted : (node : ℕ) → node < length counts → slice_index counts node ≡ count_of kind node (take position acts)

-- nothing is counted before the first act
pub tallies_none : (kind : Deed → Bool) (acts : List Act) (counts : List ℕ) → counts ≡ replicate 256 0 → Tallies kind acts 0 counts
tallies_none kind acts counts is =
    subst (λ (l : List ℕ). Tallies kind acts 0 l) (sym is)
    (record { many = length-replicate {A = ℕ} 256 0; counted = λ node lt. get_or-replicate 256 node 0 0 (omega (arith, length-replicate {A = ℕ} 256 0)) })

module _ (kind : Deed → Bool) (acts : List Act) (n : ℕ) (d : Act) (within : n < length acts) (counts : List ℕ)
    (few : (get_or acts n d).node < 256) (tallies : Tallies kind acts n counts) where
  abbrev act : Act
  act = get_or acts n d

  go : (counted : Bool) → kind act.deed ≡ counted → Tallies kind acts (n + 1) (tallied counts act.node counted)
  go true passes = record {
    many = length-set counts act.node (get_or counts act.node 0 + 1) ∙ tallies.many;
    counted = counts_next acts n act.node act.deed (Does-read acts n d within) kind counts passes (omega (arith, tallies.many)) tallies.counted;
  }
  go false fails = record {
    many = tallies.many;
    counted = counts_same acts n act.node act.deed (Does-read acts n d within) kind counts fails tallies.counted;
  }

  pub tallies_next : Tallies kind acts (n + 1) (tallied counts act.node (kind act.deed))
  tallies_next = go (kind act.deed) refl

  -- what is counted of a node, and that it stays below what a position can be
  pub tally_is : get_or counts act.node 0 ≡ count_of kind act.node (take n acts)
  tally_is = tallies.counted act.node (omega (arith, tallies.many))

  pub tally_small : get_or counts act.node 0 ≤ n
  tally_small =
      let is = tally_is in
      let bound = count_by-le-length (λ (a : Act). a.node == act.node && kind a.deed) (take n acts) in
      let short = length-take-le n acts (omega arith) in
      omega arith
