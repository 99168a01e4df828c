use Rattle.std.proofs.Common.{◌≡◌, ◌≢◌, ◌∙◌, ℕ, ◌+◌, ◌*◌, ◌≤◌, ◌<◌, eqb, false, List, length, take, drop, Some, None, Ok, Err, sym, refl, arith}
use Rattle.std.specs.Int.{w32, from_be_bytes}
use Rattle.std.proofs.lemmas.Bool.{eq-eqb, ne_eqb, iff_false}
use Rattle.lrc_time.specs.Time.{entry}
use Rattle.lrc_wire.specs.declared.fault.WireFault.TheVariants.{BadCount}
use Rattle.lrc_wire.specs.Reading.{byte_at, entries_at, stamp_at, tested}
use Rattle.lrc_wire.proofs.Entries.{own_zero, same_entries}
use Rattle.lrc_wire.proofs.Shapes.{if_gives, entries_long, entries_begun}
use Rattle.lrc_wire.proofs.reading.times.read_stamp.Goals as goal
use Rattle.lrc_wire.proofs.reading.times.read_stamp.Goals.{then-branch-nodes-via-then-branch-nodes, then-branch-nodes-via-else-branch-nodes+then-is_unbegun}

stamp_wrong : (nodes own n : ℕ) (bytes rest : List ℕ) → byte_at bytes ≡ Ok (n, rest) → n ≢ nodes → stamp_at nodes own bytes ≡ Err BadCount
unfolding stamp_at tested
stamp_wrong nodes own n bytes rest read ne =
    let other : eqb n nodes ≡ false = ne_eqb n nodes ne in
    rw (read, other) refl

stamp_is : (nodes own n : ℕ) (bytes rest : List ℕ) → byte_at bytes ≡ Ok (n, rest) → n ≡ nodes → stamp_at nodes own bytes ≡ entries_at (Some own) nodes rest
unfolding stamp_at tested
stamp_is nodes own n bytes rest read same = rw (read, eq-eqb n nodes same) refl

stamp_zero : (nodes own : ℕ) (rest : List ℕ) → own < nodes → (4 * own + 4 ≤ length rest) × (from_be_bytes w32 (take 4 (drop (4 * own) rest)) ≡ 0)
    → entries_at (Some own) nodes rest ≡ Err BadCount
unfolding entries_at
stamp_zero nodes own rest lt h = own_zero own nodes 0 own rest (omega arith) lt h.0 h.1

pub returns-then-branch-nodes-clause-exact : goal.returns-then-branch-nodes-clause-exact
returns-then-branch-nodes-clause-exact c = λ _.
    elim c.then-branch-nodes.branch [
      | then-branch-nodes-via-then-branch-nodes w ↦ stamp_wrong (length c.args.stamp.now) c.args.own c.in_ok-read_u8.field-0 c.args.bytes.now.now
          c.read_u8.new.bytes.now c.in_ok-read_u8.ensures (λ same. w.if-branch-nodes.true (same ∙ sym c.nodes.ensures.all))
      | then-branch-nodes-via-else-branch-nodes+then-is_unbegun w ↦
          stamp_is (length c.args.stamp.now) c.args.own c.in_ok-read_u8.field-0 c.args.bytes.now.now c.read_u8.new.bytes.now c.in_ok-read_u8.ensures
          (w.if-branch-nodes.false ∙ c.nodes.ensures.all)
          ∙ stamp_zero (length c.args.stamp.now) c.args.own c.read_u8.new.bytes.now c.requires (w.is_unbegun.ensures.0 w.if-is_unbegun.true)
    ]

pub returns-clause-exact : goal.returns-clause-exact
returns-clause-exact c =
    let other = iff_false c.is_unbegun.ensures c.if-is_unbegun.false in
    let read : stamp_at (length c.args.stamp.now) c.args.own c.args.bytes.now.now ≡ entries_at None (length c.args.stamp.now) c.read_u8.new.bytes.now =
    stamp_is (length c.args.stamp.now) c.args.own c.in_ok-read_u8.field-0 c.args.bytes.now.now c.read_u8.new.bytes.now c.in_ok-read_u8.ensures
    (c.if-branch-nodes.false ∙ c.nodes.ensures.all)
    ∙ same_entries c.args.own (length c.args.stamp.now) c.read_u8.new.bytes.now other in
    rw read c.read_entries.ensures

pub returns-clause-long : goal.returns-clause-long
returns-clause-long c =
    let other = iff_false c.is_unbegun.ensures c.if-is_unbegun.false in
    if_gives _ c.read_entries.result _ (λ _. length c.read_entries.new.time ≡ length c.args.stamp.now) c.read_entries.ensures
    (λ _ e. entries_long c.args.own (length c.args.stamp.now) c.read_u8.new.bytes.now c.read_entries.new.time _
    (same_entries c.args.own (length c.args.stamp.now) c.read_u8.new.bytes.now other ∙ e))

pub returns-clause-begun : goal.returns-clause-begun
returns-clause-begun c =
    let other = iff_false c.is_unbegun.ensures c.if-is_unbegun.false in
    if_gives _ c.read_entries.result _ (λ _. 1 ≤ entry c.read_entries.new.time c.args.own) c.read_entries.ensures
    (λ _ e. entries_begun c.args.own (length c.args.stamp.now) c.read_u8.new.bytes.now c.read_entries.new.time _
    (same_entries c.args.own (length c.args.stamp.now) c.read_u8.new.bytes.now other ∙ e) c.requires)
