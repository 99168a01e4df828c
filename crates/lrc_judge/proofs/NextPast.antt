-- What the past says of one position further, field by field.
use Rattle.std.proofs.Common.{◌≡◌, ℕ, ◌+◌, ◌<◌, ◌≤◌, List, [], ◌∷◌, ◌++◌, length, get_or, set, max, refl, sym, ◌∙◌, ap, arith}
use Rattle.lrc_trace.specs.declared.act.Act.{Act}
use Rattle.lrc_trace.specs.declared.act.Deed.{Deed}
use Rattle.lrc_trace.specs.declared.act.Deed.TheVariants.{Release, Arrive}
use Rattle.lrc_trace.specs.Run.{Does, IsDone, is_arrive, arrives_before}
use Rattle.lrc_trace.specs.Order.{program, base}
use Rattle.lrc_trace.proofs.Positions.{Does-deed, Does-one_node, Does-one_deed}
use Rattle.lrc_trace.proofs.Intervals.{count_of-rises, count_of-more}
use Rattle.lrc_judge.specs.declared.reach.Reach.{Reach}
use Rattle.lrc_judge.specs.Past.{Gathers, EachGathers, Acted, Released, Arrived}
use Rattle.lrc_judge.proofs.HandedOn.{next-joined, next-only, each-same, each-set, each-push}

module _ (run : List Act) (n node : ℕ) (deed : Deed) (here : Does run n node deed) where
  pub acted_next : (table : List Reach) (reach : Reach) → EachGathers run (Acted run n) table → Gathers run (λ k. k ≡ n) reach
      → EachGathers run (Acted run (n + 1)) (set table node reach)
  acted_next table reach old g =
      let P : ℕ → ℕ → Type 0 = λ x k. (d : Deed) × Does run k x d in
      each-set run n P table old node reach (λ x (d, h). Does-one_node h here)
      (next-only run n (P node) reach (deed, here) (λ k lt (d, h). base (program lt h here)) g)

  pub released_next : (table : List Reach) (l : ℕ) (reach joined : Reach) → deed ≡ Release l → l < length table
      → EachGathers run (Released run n) table → Gathers run (λ k. k ≡ n) reach
      → ((p : ℕ) → get_or joined.latest p 0 ≡ max (get_or (get_or table l joined).latest p 0) (get_or reach.latest p 0))
      → EachGathers run (Released run (n + 1)) (set table l joined)
  released_next table l reach joined is within old g e =
      let P : ℕ → ℕ → Type 0 = λ x k. IsDone run k (Release x) in
      each-set run n P table old l joined (λ x (p, h). let same : Release x ≡ deed = Does-one_deed h here in (cc))
      (next-joined run n (P l) (get_or table l joined) reach joined (node, Does-deed is here) (old l joined within) g e)

  pub released_same : (table : List Reach) → ((l : ℕ) → deed ≡ Release l → ⊥) → EachGathers run (Released run n) table
      → EachGathers run (Released run (n + 1)) table
  released_same table other old = each-same run n (λ x k. IsDone run k (Release x)) table old (λ x (p, h). other x (Does-one_deed here h))

  module _ (table : List Reach) (number : ℕ) (is : deed ≡ Arrive) (at : number ≡ arrives_before run node n)
      (old : EachGathers run (Arrived run n) table) (reach : Reach) (g : Gathers run (λ k. k ≡ n) reach) where
    abbrev P : ℕ → ℕ → Type 0
    P x k = (p : ℕ) × Does run k p Arrive × (arrives_before run p k ≡ x)

    one_number : (x : ℕ) → P x n → x ≡ number
    one_number x (p, h, e) = sym e ∙ ap (λ q. arrives_before run q n) (Does-one_node h here) ∙ sym at

    pub arrived_next : (joined : Reach) → number < length table
        → ((p : ℕ) → get_or joined.latest p 0 ≡ max (get_or (get_or table number joined).latest p 0) (get_or reach.latest p 0))
        → EachGathers run (Arrived run (n + 1)) (set table number joined)
    arrived_next joined within e =
        each-set run n P table old number joined one_number
        (next-joined run n (P number) (get_or table number joined) reach joined (node, Does-deed is here, sym at) (old number joined within) g e)

    pub arrived_push : number ≡ length table → ((p : ℕ) → arrives_before run p n ≤ length table) → EachGathers run (Arrived run (n + 1)) (table ++ reach ∷ [])
    arrived_push last few =
        each-push run n P table old reach (λ x h. one_number x h ∙ last)
        (next-only run n (P (length table)) reach (node, Does-deed is here, sym at ∙ last) (λ k lt (p, h, e).
        let more = count_of-more is_arrive run p k Arrive h refl in
        let rises = count_of-rises is_arrive run p (k + 1) n (omega arith) in
        let bound = few p in
        absurd (omega arith)) g)

  pub arrived_same : (table : List Reach) → (deed ≡ Arrive → ⊥) → EachGathers run (Arrived run n) table → EachGathers run (Arrived run (n + 1)) table
  arrived_same table other old = each-same run n (λ x k. (p : ℕ) × Does run k p Arrive × (arrives_before run p k ≡ x)) table old
      (λ x (p, h, at). other (Does-one_deed here h))
