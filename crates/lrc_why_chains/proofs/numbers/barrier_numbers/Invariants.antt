-- The counts of each node so far, and the numbers so far.
use Rattle.std.proofs.Common.{◌≡◌, ℕ, ◌<◌, length, get_or}
use Rattle.lrc_trace.specs.declared.act.Deed.TheVariants.{Arrive, Depart}
use Rattle.lrc_trace.specs.Run.{Does, arrives_before, departs_before}
use Rattle.lrc_why_chains.proofs.numbers.barrier_numbers.Given as goal

abbrev pub invariant-loop-position : goal.invariant-loop-position
invariant-loop-position l = record {
  all_arrives : length l.arrives.items ≡ 256;
  all_departs : length l.departs.items ≡ 256;
  all : length l.numbers.items ≡ l.position;
  arrives : (node : ℕ) → node < length l.arrives.items → get_or l.arrives.items node 0 ≡ arrives_before l.acts node l.position;
  departs : (node : ℕ) → node < length l.departs.items → get_or l.departs.items node 0 ≡ departs_before l.acts node l.position;
  arrive : (k node : ℕ) → k < l.position → Does l.acts k node Arrive → get_or l.numbers.items k 0 ≡ arrives_before l.acts node k;
  depart : (k node : ℕ) → k < l.position → Does l.acts k node Depart → get_or l.numbers.items k 0 ≡ departs_before l.acts node k;
}
