-- Nodes that settle, one after another.
use Rattle.std.proofs.Common.{◌≡◌, ℕ, ◌+◌, ◌<◌, ◌≤◌, List, [], ◌++◌, ◌⊎◌, inl, inr, true, length, refl, sym, ap, ◌∙◌, subst, arith, append_assoc, append-nil}
use Rattle.std.specs.Prelude.{Option, None, slice_set}
use Rattle.std.proofs.lemmas.Bool.{cases_eq, cases_lt}
use Rattle.std.proofs.lemmas.List.{get_or-set_same, get_or-set_other, length-set, length-map}
use Rattle.lrc_trace.specs.declared.act.Act.{Act}
use Rattle.lrc_exec.specs.declared.spot.Flat.{Flat}
use Rattle.lrc_exec.specs.Meaning.{Thread}
use Rattle.lrc_exec.specs.Plain.{Plain, thread_in}
use Rattle.lrc_exec.specs.Spots.{spot_thread}
use Rattle.lrc_exec.specs.declared.state.State.{State}
use Rattle.lrc_exec.specs.States.{plain_at, IsStateOf}
use Rattle.lrc_orders_laws.specs.Free.{is_free_in, TurnsIn}
use Rattle.lrc_orders_laws.specs.Rows.{AreAlike}
use Rattle.lrc_orders_laws.specs.Settling.{IsSettledAt, Settles, settled}
use Rattle.lrc_orders_laws.specs.Threads.{ThreadSettles}
use Rattle.lrc_orders_laws.proofs.GoingOn.{same_thread}
use Rattle.lrc_orders_settling.specs.Gone.{acts_by, freed, HasSettled, NodeSettles}
use Rattle.lrc_orders_settling.proofs.OneNode.{going, settles_settled}

-- the nodes before one have settled, by acts that stand in front of what settling makes from here; those from it on up to the last are as
-- they were
pub record SettlingSo (flat : Flat) (start now : State) (first node last : ℕ) (before after : List Act) : Type 0 where
  pub valid : IsStateOf flat now
  pub size : length now.spots.items ≡ length start.spots.items
  pub acts : List Act
  pub there : Plain
  pub alike : AreAlike there (plain_at flat now)
  pub on : (rest : List Act) (final : Plain) → Settles there rest final → Settles (plain_at flat start) (acts ++ rest) final
  pub settled : (k : ℕ) → (k < node) ⊎ (last ≤ k) → IsSettledAt (plain_at flat now) k
  pub still : (k : ℕ) → node ≤ k → thread_in (plain_at flat now) k ≡ thread_in (plain_at flat start) k
  pub made : after ≡ before ++ acts

pub settling_first : (flat : Flat) (start : State) (first last : ℕ) (before : List Act) → IsStateOf flat start
    → ((k : ℕ) → (k < first) ⊎ (last ≤ k) → IsSettledAt (plain_at flat start) k) → SettlingSo flat start start first first last before before
settling_first flat start first last before valid others = record {
  valid = valid;
  size = refl;
  acts = [];
  there = plain_at flat start;
  alike = record { memory = refl; holders = refl; threads = refl };
  on = λ rest final s. s;
  settled = others;
  still = λ k le. refl;
  made = sym (append-nil before);
}

module _ (flat : Flat) (start now new : State) (first node last : ℕ) (before after later : List Act) (so : SettlingSo flat start now first node last before after)
    (valid : IsStateOf flat new) (n : NodeSettles flat now node new after later) (within : node < length start.spots.items) where
  threads : (plain_at flat new).threads ≡ slice_set (plain_at flat now).threads node n.there
  threads = ap (λ (m : Plain). m.threads) n.is

  own : thread_in (plain_at flat new) node ≡ n.there
  own =
      ap (λ l. thread_in (record (plain_at flat new) { threads = l }) node) threads
      ∙ get_or-set_same (plain_at flat now).threads node n.there None (omega (arith, within, so.size, length-map now.spots.items (spot_thread flat)))

  other : (k : ℕ) → (k ≡ node → ⊥) → thread_in (plain_at flat new) k ≡ thread_in (plain_at flat now) k
  other k apart =
      ap (λ l. thread_in (record (plain_at flat new) { threads = l }) k) threads
      ∙ get_or-set_other (plain_at flat now).threads node k n.there None apart

  moved : (o p : Option Thread) → o ≡ p → (is_free_in p ≡ true → TurnsIn p) → is_free_in o ≡ true → TurnsIn o
  moved o p e is = subst (λ x. is_free_in x ≡ true → TurnsIn x) (sym e) is

  pub settling_on : SettlingSo flat start new first (node + 1) last before later
  settling_on =
      let machine = so.there in
      let long : length machine.threads ≡ length now.spots.items = ap (λ l. length l) so.alike.threads ∙ length-map now.spots.items (spot_thread flat) in
      let lower : (k : ℕ) → k < node → IsSettledAt machine k =
      λ k lt. moved (thread_in machine k) (thread_in (plain_at flat now) k) (same_thread so.alike k) (so.settled k (inl lt)) in
      let g = going machine node (omega (arith, long, within, so.size)) lower (thread_in machine node) n.there n.deeds refl
      (subst (λ o. ThreadSettles o n.deeds n.there) (sym (same_thread so.alike node)) n.settles) in
      record {
        valid = valid;
        size = sym (length-map new.spots.items (spot_thread flat)) ∙ ap (λ l. length l) threads
            ∙ length-set (plain_at flat now).threads node n.there ∙ length-map now.spots.items (spot_thread flat) ∙ so.size;
        acts = so.acts ++ acts_by node n.deeds;
        there = g.after;
        alike = record {
          memory = g.alike.memory ∙ so.alike.memory ∙ sym (ap (λ (m : Plain). m.memory) n.is);
          holders = g.alike.holders ∙ ap (freed n.deeds) so.alike.holders ∙ sym (ap (λ (m : Plain). m.holders) n.is);
          threads = g.alike.threads ∙ ap (λ l. slice_set l node n.there) so.alike.threads ∙ sym threads;
        };
        on = λ rest final s.
            subst (λ l. Settles (plain_at flat start) l final) (sym (append_assoc so.acts (acts_by node n.deeds) rest))
            (so.on (acts_by node n.deeds ++ rest) final (g.on rest final s));
        settled = λ k where_it_is. elim (cases_eq k node) [
          | inl same ↦
              subst (λ j. IsSettledAt (plain_at flat new) j) (sym same)
              (moved (thread_in (plain_at flat new) node) n.there own (settles_settled n.settles))
          | inr apart ↦
              moved (thread_in (plain_at flat new) k) (thread_in (plain_at flat now) k) (other k apart) (so.settled k (elim where_it_is [
                | inl lt ↦ inl (omega (arith, lt, apart))
                | inr le ↦ inr le
              ]))
        ];
        still = λ k le. other k (λ e. absurd (omega (arith, le, e))) ∙ so.still k (omega (arith, le));
        made = n.made ∙ ap (λ l. l ++ acts_by node n.deeds) so.made ∙ append_assoc before so.acts (acts_by node n.deeds);
      }

pub has_settled : (flat : Flat) (start now : State) (first node last : ℕ) (before after : List Act) → SettlingSo flat start now first node last before after
    → last ≤ node → HasSettled flat start now before after
has_settled flat start now first node last before after so le = record {
  acts = so.acts;
  settles = record {
    there = so.there;
    settles = subst (λ l. Settles (plain_at flat start) l so.there) (append-nil so.acts) (so.on [] so.there (settled so.there (record {
      each = λ k. subst (λ x. is_free_in x ≡ true → TurnsIn x) (sym (same_thread so.alike k)) (so.settled k (elim (cases_lt k node) [
        | inl lt ↦ inl lt
        | inr past ↦ inr (omega (arith, past, le))
      ]));
    })));
    alike = so.alike;
  };
  made = so.made;
}
