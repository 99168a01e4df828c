-- A search that joins runs with equal keys joins runs that stand alike.
use Rattle.std.proofs.Common.{◌≡◌, ℕ, ◌≤◌, [], ◌∷◌, ◌++◌}
use Rattle.lrc_program.specs.declared.Program.{Program}
use Rattle.lrc_trace.specs.declared.act.Act.{Act}
use Rattle.lrc_exact.specs.Rule.{Shape}
use Rattle.lrc_exact_laws.specs.Laws.{IsExactRun}
use Rattle.lrc_exact_states.specs.Searched.{by_all, by_one, for_ever, goes_on, IsClosedSearch, IsLookedAt, LeadsOn, Seen}
use Rattle.lrc_exact_states.specs.Keyed.{each_leads, IsKeyed, IsKeyedSearch, LeadsToKey, none_ends, one_leads}
use Rattle.lrc_exact_states.proofs.Reached.{keys_alike}

module _ (program : Program) (shape : Shape) (calm : shape.collect ≡ 0) (cap : ℕ) (some : 1 ≤ cap) (Looked : Seen → Type 0)
    (s : IsKeyedSearch program shape cap Looked) where
  leads_on : (seen : Seen) → Looked seen → (act : Act) → IsExactRun program shape (seen.acts ++ act ∷ []) → LeadsToKey program shape cap Looked seen act
      → LeadsOn program shape cap Looked seen act
  leads_on seen looked act longer to = record {
    decided = to.decided;
    base = to.base;
    from = to.from;
    later = to.later;
    looked = to.looked;
    stands = record {
      states = to.key.states;
      states' = to.key.states';
      alike = keys_alike program shape calm cap some to.base to.later.base (seen.acts ++ act ∷ []) to.later.acts to.key.states to.key.states'
          (goes_on act (s.reached seen looked) longer to.from) (s.reached to.later to.looked) to.key.keeps to.key.keeps' to.key.same;
    };
  }

  looked_at : (seen : Seen) → Looked seen → IsKeyed program shape cap Looked seen → IsLookedAt program shape cap Looked seen
  looked_at seen looked (each_leads leads) = by_all (λ act longer. leads_on seen looked act longer (leads act longer))
  looked_at seen looked (one_leads act free longer leads) = by_one act free longer (leads_on seen looked act longer leads)
  looked_at seen looked (none_ends looks) = for_ever looks

  pub keyed_closed : IsClosedSearch program shape cap Looked
  keyed_closed = record { first = s.first; all = λ seen looked. looked_at seen looked (s.all seen looked) }
