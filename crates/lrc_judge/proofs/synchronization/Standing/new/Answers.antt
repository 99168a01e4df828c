-- Before any act nobody holds a lock, and every count is 0.
use Rattle.std.proofs.Common.{◌≡◌, ℕ, zero, suc, length, get_or, List, replicate, refl, ap, ◌∙◌, arith}
use Rattle.std.specs.Prelude.{Option, None}
use Rattle.std.proofs.lemmas.List.{length-replicate, get_or-replicate}
use Rattle.std.proofs.lemmas.Option.{none-some}
use Rattle.lrc_trace.specs.declared.act.Act.{Act}
use Rattle.lrc_trace.proofs.Holding.{Holds-start}
use Rattle.lrc_judge.specs.declared.synchronization.Standing.{Standing}
use Rattle.lrc_judge.specs.Standing.{IsStanding}
use Rattle.lrc_judge.proofs.synchronization.Standing.new.Goals as goal

get_or-zeros : (n p : ℕ) → get_or {A = ℕ} (replicate n 0) p 0 ≡ 0
get_or-zeros zero p = refl
get_or-zeros (suc n) zero = refl
get_or-zeros (suc n) (suc p) = get_or-zeros n p

starts : (run : List Act) (standing : Standing) → standing.holder ≡ replicate 256 None → standing.arrives ≡ replicate 16 0
    → standing.departs ≡ replicate 16 0 → IsStanding run 0 standing
starts run standing holder arrives departs = record {
  holder = λ l q h.
      let none : Option ℕ = None in
      let long = ap length holder ∙ length-replicate 256 none in
      let nobody = ap (λ (table : List (Option ℕ)). get_or table l none) holder ∙ get_or-replicate 256 l none none (omega arith) in
      (λ e. absurd (none-some q (cc)), λ held. absurd (Holds-start held));
  arrives = λ q h. rw (arrives, get_or-zeros 16 q);
  departs = λ q h. rw (departs, get_or-zeros 16 q);
}

pub returns : goal.returns
returns c run = starts run _ refl refl refl
