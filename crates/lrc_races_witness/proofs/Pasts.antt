-- What a detector knows of an event is what comes before it.
use Rattle.std.proofs.Common.{◌≡◌, ℕ, ◌+◌, ◌<◌, List, inl, inr, refl, sym, subst, arith}
use Rattle.std.proofs.lemmas.Bool.{cases_eq}
use Rattle.std.specs.Prelude.{slice_index}
use Rattle.lrc_races_trace.specs.declared.event.Event.{Event}
use Rattle.lrc_races_trace.specs.Trace.{At}
use Rattle.lrc_races_trace.specs.Order.{Precedes, program, fork, base, Reaches}
use Rattle.lrc_races_trace.proofs.HappensBefore.{Reaches-extends, Reaches-last}
use Rattle.lrc_races_sure.specs.Leading.{Leads}
use Rattle.lrc_races_sure.proofs.Leading.{to-ordered, leads-further}
use Rattle.lrc_races_detector.specs.declared.clocks.Clocks.{Clocks}
use Rattle.lrc_races_detector.specs.Clocks.{row}
use Rattle.lrc_races_detector.specs.Knowing.{AreThreads, OfThread}
use Rattle.lrc_races_sure_pass.specs.Knowing.{Gathers as GathersSurely}
use Rattle.lrc_races_witness.specs.Past.{IsPast, IsWay}

module _ (events : List Event) (j : ℕ) (b : Event) (here : At events j b) where
  -- what is of the thread, or forks it, before an event of it happens before that
  thread_before : (k : ℕ) → k < j → OfThread events b.thread k → Precedes events k j
  thread_before k lt (a, at, inl same) = program lt at here same
  thread_before k lt (a, at, inr forks) = fork lt at here forks

  pub past : (threads : Clocks) (known : List ℕ) → AreThreads events (j + 1) threads → known ≡ row threads b.thread → IsPast events j known
  past threads known are is = subst (λ r. IsPast events j r) (sym is) (record {
    exact = λ p a at. (
      λ lt.
          let (k, (below, of), reaches) = (are b.thread).sound p a at lt in
          elim (cases_eq k j) [
            | inl same ↦ subst (λ m. Reaches events p m) same reaches
            | inr other ↦ inr (Reaches-extends events reaches (base (thread_before k (omega arith) of)))
          ],
      λ reaches. (are b.thread).complete p j a at (omega arith, (b, here, inl refl)) reaches,
    );
  })

-- the same entries
pub past_equal : (events : List Event) (j : ℕ) (x z : List ℕ) → ((t : ℕ) → slice_index z t ≡ slice_index x t) → IsPast events j x → IsPast events j z
past_equal events j x z same h = record {
  exact = λ p a at.
      let e = same a.thread in
      let was = h.exact p a at in
      (λ lt. was.0 (omega arith), λ reaches. let lt = was.1 reaches in omega arith);
}

pub way_equal : (events : List Event) (j : ℕ) (x z : List ℕ) → ((t : ℕ) → slice_index z t ≡ slice_index x t) → IsWay events j x → IsWay events j z
way_equal events j x z same h = record {
  exact = λ p a at.
      let e = same a.thread in
      let was = h.exact p a at in
      (λ lt. was.0 (omega arith), λ through. let lt = was.1 through in omega arith);
}

-- what is known of the events that come right before one is by way of which events it was reached
module _ (events : List Event) (j : ℕ) where
  pub way : (known : List ℕ) → GathersSurely events (λ k. Precedes events k j) known → IsWay events j known
  way known g = record {
    exact = λ p a at. (
      λ lt. let (k, before, leads) = g.sound p a at lt in record { through = k; leads = leads; before = base before },
      λ h.
          let (m, reaches, before) = Reaches-last events h.before in
          g.complete p m a at before (elim reaches [
            | inl same ↦ subst (λ x. Leads events p x) same h.leads
            | inr later ↦ inr (leads-further h.leads (to-ordered later))
          ]),
    );
  }
