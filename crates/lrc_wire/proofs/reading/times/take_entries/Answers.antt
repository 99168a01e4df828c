use Rattle.std.proofs.Common.{◌≡◌, ℕ, ◌<◌, ◌≤◌, ◌+◌, ◌-◌, ◌*◌, ◌∙◌, List, [], ◌∷◌, None, Ok, length, get_or, take, drop, arith, ap, refl, length-drop}
use Rattle.std.specs.Int.{w32, from_be_bytes}
use Rattle.std.proofs.lemmas.List.{take_more_set, length-set, take_all, drop-drop, drop_more}
use Rattle.lrc_wire.specs.Reading.{elements_at, entry_at, entries_at}
use Rattle.lrc_wire.proofs.Elements.{goes_on, is_done, with_nothing}
use Rattle.lrc_wire.proofs.Entries.{number_read}
use Rattle.lrc_wire.proofs.reading.times.take_entries.Goals as goal

four_bytes : (bytes : List ℕ) (at : ℕ) → at + 4 ≤ length bytes
    → take 4 (drop at bytes) ≡ get_or bytes at 0 ∷ get_or bytes (at + 1) 0 ∷ get_or bytes (at + 2) 0 ∷ get_or bytes (at + 3) 0 ∷ []
four_bytes bytes at le =
    let two : at + 1 + 1 ≡ at + 2 = omega arith in
    let three : at + 2 + 1 ≡ at + 3 = omega arith in
    let first : drop at bytes ≡ get_or bytes at 0 ∷ drop (at + 1) bytes = drop_more bytes at 0 (omega arith) in
    let second : drop (at + 1) bytes ≡ get_or bytes (at + 1) 0 ∷ drop (at + 2) bytes = rw two at (drop_more bytes (at + 1) 0 (omega arith)) in
    let third : drop (at + 2) bytes ≡ get_or bytes (at + 2) 0 ∷ drop (at + 3) bytes = rw three at (drop_more bytes (at + 2) 0 (omega arith)) in
    let fourth : drop (at + 3) bytes ≡ get_or bytes (at + 3) 0 ∷ drop (at + 3 + 1) bytes = drop_more bytes (at + 3) 0 (omega arith) in
    rw (first, second, third, fourth) refl

entry_read : (node at : ℕ) (bytes : List ℕ) → at ≡ 4 * node → at + 4 ≤ length bytes
    → entry_at None node (drop (4 * node) bytes) ≡ Ok (
      from_be_bytes w32 (get_or bytes at 0 ∷ get_or bytes (at + 1) 0 ∷ get_or bytes (at + 2) 0
          ∷ get_or bytes (at + 3) 0 ∷ []),
      drop (4 * (node + 1)) bytes,
    )
unfolding entry_at
entry_read node at bytes same le =
    let long : 4 ≤ length (drop (4 * node) bytes) = omega (arith, length-drop (4 * node) bytes) in
    let place : 4 * node + 4 ≡ 4 * (node + 1) = omega arith in
    let four : take 4 (drop (4 * node) bytes) ≡ get_or bytes at 0 ∷ get_or bytes (at + 1) 0 ∷ get_or bytes (at + 2) 0 ∷ get_or bytes (at + 3) 0 ∷ [] =
    rw (← same) (four_bytes bytes at le) in
    let behind : drop 4 (drop (4 * node) bytes) ≡ drop (4 * (node + 1)) bytes = rw (drop-drop 4 (4 * node) bytes, place) refl in
    rw (number_read (drop (4 * node) bytes) long, four, behind) refl

pub loop-node-init : goal.loop-node-init
unfolding entries_at
loop-node-init c =
    let none : length c.args.time.now - 0 ≡ length c.args.time.now = omega arith in
    record {
      long = refl;
      read = rw none (with_nothing (elements_at (entry_at None) (λ node _. node + 1) (length c.args.time.now) 0 c.args.bytes.now.now));
    }

pub loop-node-preserved : goal.loop-node-preserved
loop-node-preserved c =
    let time = c.loop-node.time in
    let node = c.loop-node.node in
    let bytes = c.args.bytes.now.now in
    let lt : node < length c.args.time.now = omega (arith, c.loop-node-test.true, c.nodes-node-end.ensures.all) in
    let within : node < length time = omega (arith, lt, c.loop-node.invariant.long) in
    let place : 4 * c.from-at.result ≡ 4 * node = omega (arith, c.from-at.ensures) in
    let some : 4 * c.from-at.result + 4 ≤ length bytes = omega (arith, lt, place, c.requires) in
    let read : entry_at None node (drop (4 * node) bytes) ≡ Ok (c.from_be_bytes-entry.result, drop (4 * (node + 1)) bytes) =
    rw c.from_be_bytes-entry.ensures (entry_read node (4 * c.from-at.result) bytes place some) in
    record {
      long = rw c.set.ensures (length-set time node c.from_be_bytes-entry.result ∙ c.loop-node.invariant.long);
      read = rw (c.set.ensures, take_more_set time node c.from_be_bytes-entry.result within)
          (goes_on (entry_at None) (λ node _. node + 1) (take node time) (length c.args.time.now) node node (drop (4 * node) bytes)
          c.from_be_bytes-entry.result (drop (4 * (node + 1)) bytes) _ lt read c.loop-node.invariant.read);
    }

pub returns : goal.returns
returns c =
    let node = c.loop-node.node in
    let past : length c.args.time.now ≤ node = omega (arith, c.loop-node-test.false, c.nodes-node-end.ensures.all) in
    let all : take node c.loop-node.time ≡ c.loop-node.time = take_all node c.loop-node.time (omega (arith, past, c.loop-node.invariant.long)) in
    let place : 4 * c.from.result ≡ 4 * node =
    omega (arith, past, c.from.ensures, c.nodes.ensures.all, c.loop-node.invariant.long, c.loop-node.auto.node-end, c.nodes-node-end.ensures.all) in
    let whole : take (length c.args.bytes.now.now - 4 * c.from.result) (drop (4 * c.from.result) c.args.bytes.now.now) ≡ drop (4 * node) c.args.bytes.now.now =
    rw place (take_all _ _ (omega (arith, length-drop (4 * node) c.args.bytes.now.now))) in
    rw whole (is_done (entry_at None) (λ node _. node + 1) (take node c.loop-node.time) (length c.args.time.now) node node
    (drop (4 * node) c.args.bytes.now.now) _ past c.loop-node.invariant.read
    ∙ ap (λ (time : List ℕ). Ok (time, drop (4 * node) c.args.bytes.now.now)) all)
