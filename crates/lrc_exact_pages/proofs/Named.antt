-- Which pages news names, in the exact memory and among the intervals that were made.
use Rattle.std.proofs.Common.{◌≡◌, ℕ, zero, suc, ◌<◌, ◌≤◌, List, true, max, inl, inr, sym, ap, subst, ◌∙◌, arith}
use Rattle.std.proofs.lemmas.Bool.{cases_eq, or_cases, or_left, or_right, false≢true}
use Rattle.lrc_time.specs.Time.{entry}
use Rattle.lrc_time.proofs.Times.{entry-joined}
use Rattle.lrc_page.specs.declared.size.Size.{Size}
use Rattle.lrc_store.specs.Interval.{IntervalRecord}
use Rattle.lrc_store.specs.Store.{StoredRecord}
use Rattle.lrc_copies.specs.Stamps.{stamp_index}
use Rattle.lrc_protocol.specs.Pages.{Memory}
use Rattle.lrc_reading_laws.specs.Written.{made_stamps}
use Rattle.lrc_exact.specs.Rule.{State, Knowledge, names_between, is_named}
use Rattle.lrc_exact_reading.proofs.Staleness.{IsNamedBy, named-from, named-to}
use Rattle.lrc_exact_made.specs.Copies.{IsExactly, HasExact}
use Rattle.lrc_exact_made.specs.Steps.{IsAmong, IsNewsTo}
use Rattle.lrc_exact_pages.specs.Pages.{IsNamedBetween}

-- some node's interval that is news names the page
record IsNews (nodes : ℕ) (had : List ℕ) (news : Knowledge) (page : ℕ) : Type 0 where
  node : ℕ
  among : node < nodes
  by : IsNamedBy (news.interval node) page (entry had node) (entry news.time node)

news-from : (nodes : ℕ) (had : List ℕ) (news : Knowledge) (page : ℕ) → is_named nodes had news page ≡ true → IsNews nodes had news page
news-from zero had news page e = absurd (false≢true e)
news-from (suc node) had news page e =
    elim (or_cases (names_between (news.interval node) page (entry had node) (entry news.time node)) (is_named node had news page) e) [
      | inl here ↦ record {
        node = node;
        among = omega arith;
        by = named-from (news.interval node) page (entry had node) (entry news.time node) here;
      }
      | inr below ↦
          let rest = news-from node had news page below in
          let among = rest.among in
          record { node = rest.node; among = omega arith; by = rest.by }
    ]

news-to : (nodes : ℕ) (had : List ℕ) (news : Knowledge) (page q : ℕ) → q < nodes
    → names_between (news.interval q) page (entry had q) (entry news.time q) ≡ true → is_named nodes had news page ≡ true
news-to zero had news page q lt e = absurd (omega arith)
news-to (suc node) had news page q lt e =
    elim (cases_eq q node) [
      | inl here ↦
          or_left (names_between (news.interval node) page (entry had node) (entry news.time node)) (is_named node had news page)
          (subst (λ q. names_between (news.interval q) page (entry had q) (entry news.time q) ≡ true) here e)
      | inr apart ↦
          or_right (names_between (news.interval node) page (entry had node) (entry news.time node)) (is_named node had news page)
          (news-to node had news page q (omega arith) e)
    ]

module _ (size : Size) (nodes : ℕ) (made : List StoredRecord) (time : List ℕ) (memory : Memory) (state : State) (news : Knowledge)
    (intervals : List IntervalRecord) (after : List ℕ) (h : HasExact size made time memory state)
    (n : IsNewsTo size nodes made time memory news intervals after) (page : ℕ) where
  same_entry : (q : ℕ) → entry state.knows.time q ≡ entry time q
  same_entry q = ap (λ t. entry t q) h.time_is

  after_entry : (q : ℕ) → entry after q ≡ max (entry time q) (entry news.time q)
  after_entry q = ap (λ t. entry t q) (sym n.after_is) ∙ entry-joined time news.time q

  -- the exact memory's news names the page exactly where an interval that comes does
  pub named_made : is_named nodes state.knows.time news page ≡ true → IsNamedBetween made page time after
  named_made e =
      let it : IsNews nodes state.knows.time news page = news-from nodes state.knows.time news page e in
      let q = it.node in
      let k = it.by.index in
      let new = it.by.new in
      let known = it.by.known in
      let y : IsAmong made q k = n.reach q k (omega arith) known in
      let index = y.index_is in
      let own = same_entry q in
      let join = after_entry q in
      let exact : IsExactly size y.interval (news.interval q k) =
      subst (λ k. IsExactly size y.interval (news.interval q k)) y.index_is
      (subst (λ q. IsExactly size y.interval (news.interval q (stamp_index made_stamps y.interval))) y.node_is
      (n.exactly.each y.interval y.member
      (subst (λ q. stamp_index made_stamps y.interval ≤ entry news.time q) (sym y.node_is)
      (subst (λ k. k ≤ entry news.time q) (sym y.index_is) known)))) in
      record {
        interval = y.interval;
        member = y.member;
        later = subst (λ q. entry time q < stamp_index made_stamps y.interval) (sym y.node_is) (omega arith);
        known = subst (λ q. stamp_index made_stamps y.interval ≤ entry after q) (sym y.node_is) (omega arith);
        named = sym (exact.names page) ∙ it.by.names;
      }

  pub made_named : IsNamedBetween made page time after → is_named nodes state.knows.time news page ≡ true
  made_named b =
      let q = b.interval.node in
      let later = b.later in
      let known = b.known in
      let own = same_entry q in
      let join = after_entry q in
      let come : stamp_index made_stamps b.interval ≤ entry news.time q = omega arith in
      let exact : IsExactly size b.interval (news.interval q (stamp_index made_stamps b.interval)) = n.exactly.each b.interval b.member come in
      news-to nodes state.knows.time news page q (n.among b.interval b.member)
      (named-to (news.interval q) page (entry state.knows.time q) (entry news.time q) (stamp_index made_stamps b.interval) (omega arith) come
      (exact.names page ∙ b.named))
