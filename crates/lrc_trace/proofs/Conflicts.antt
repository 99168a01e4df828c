-- Conflicts are symmetric, and between two nodes.
use Rattle.std.proofs.Common.{◌≡◌, ◌≢◌, ℕ, List, inl, inr, sym, ◌∙◌}
use Rattle.lrc_trace.specs.declared.act.Act.{Act}
use Rattle.lrc_trace.specs.declared.act.Deed.{Deed}
use Rattle.lrc_trace.specs.Run.{Does}
use Rattle.lrc_trace.specs.Conflict.{Accesses, ConflictAt, Conflict, Races}
use Rattle.lrc_trace.proofs.Positions.{Does-one_node}

pub ConflictAt-symmetric : {run : List Act} {i p j q word : ℕ} → ConflictAt run i p j q word → ConflictAt run j q i p word
ConflictAt-symmetric c = record {
  apart = λ e. c.apart (sym e);
  first = c.second;
  second = c.first;
  writes = elim c.writes [ inl w ↦ inr w | inr w ↦ inl w ];
}

pub symmetric : {run : List Act} {i j : ℕ} → Conflict run i j → Conflict run j i
symmetric (p, q, word, c) = (q, p, word, ConflictAt-symmetric c)

-- an access is of the node that acts there
pub Accesses-node : {run : List Act} {i p q word : ℕ} {d : Deed} → Accesses run i p word → Does run i q d → p ≡ q
Accesses-node (inl (value, r)) h = Does-one_node r h
Accesses-node (inr (value, w)) h = Does-one_node w h

pub apart : {run : List Act} {i j p q : ℕ} {a b : Deed} → Races run i j → Does run i p a → Does run j q b → p ≢ q
apart r h k = λ e. let c = r.conflict.3 in c.apart (Accesses-node c.first h ∙ e ∙ sym (Accesses-node c.second k))
