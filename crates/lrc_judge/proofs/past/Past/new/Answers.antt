-- Before any act every table is empty.
use Rattle.std.proofs.Common.{◌≡◌, ℕ, ◌<◌, zero, suc, length, get_or, List, [], replicate, refl, arith, ap, ◌∙◌}
use Rattle.std.proofs.lemmas.List.{length-replicate, get_or-replicate}
use Rattle.lrc_trace.specs.declared.act.Act.{Act}
use Rattle.lrc_trace.specs.declared.act.Deed.{Deed}
use Rattle.lrc_trace.specs.declared.act.Deed.TheVariants.{Release}
use Rattle.lrc_trace.specs.Run.{Does, IsDone}
use Rattle.lrc_judge.specs.declared.reach.Reach.{Reach}
use Rattle.lrc_judge.specs.declared.past.Past.{Past}
use Rattle.lrc_judge.specs.Past.{EachGathers, IsPast}
use Rattle.lrc_judge.proofs.Gathering.{Gathers-none}
use Rattle.lrc_judge.proofs.past.Past.new.Goals as goal

get_or-zeros : (n p : ℕ) → get_or {A = ℕ} (replicate n 0) p 0 ≡ 0
get_or-zeros zero p = refl
get_or-zeros (suc n) zero = refl
get_or-zeros (suc n) (suc p) = get_or-zeros n p

module _ (run : List Act) (none : Reach) (zeros : (p : ℕ) → get_or none.latest p 0 ≡ 0) where
  -- a table of nothing, for positions before the first
  each-none : (these : ℕ → ℕ → Type 0) (table : List Reach) → ((x : ℕ) (d : Reach) → x < length table → get_or table x d ≡ none)
      → EachGathers run (λ x k. (k < 0) × these x k) table
  each-none these table e x d h = rw (e x d h) (Gathers-none run (λ k. (k < 0) × these x k) none zeros (λ k (lt, t). omega arith))

  starts : (past : Past) → past.acted ≡ replicate 16 none → past.released.items ≡ replicate 256 none → past.arrived.items ≡ []
      → past.arrives ≡ replicate 16 0 → past.departs ≡ replicate 16 0 → IsPast run 0 past
  starts past acted released arrived arrives departs = record {
    acted = each-none (λ node k. (d : Deed) × Does run k node d) past.acted
        (λ x d h. let long = ap length acted in rw (acted, get_or-replicate 16 x none d (omega arith)));
    released = each-none (λ l k. IsDone run k (Release l)) past.released.items
        (λ x d h. let long = ap length released ∙ length-replicate 256 none in rw (released, get_or-replicate 256 x none d (omega arith)));
    arrived = λ x d h. let long = ap length arrived in absurd (omega arith);
    all_kept = λ node. omega arith;
    arrives = λ node h. rw (arrives, get_or-zeros 16 node);
    departs = λ node h. rw (departs, get_or-zeros 16 node);
  }

pub returns : goal.returns
returns c run = starts run c.none-none.result c.none-none.ensures _ refl (c.in_ok-vec.ensures.items_if_clones_equal (λ y e. e)) c.new.ensures.items refl refl
