-- What a collection has made of a node's state, once it has taken some pages.
use Rattle.std.specs.Prelude.{ℕ, ◌&&◌, List, None, if◌then◌else◌, not, false}
use Rattle.lrc_exact.specs.Rule.{Shape, State, page_of}
use Rattle.lrc_exact_copies.specs.Made.{has}

-- of these pages the stale ones have these values, and are stale no more
abbrev pub with_taken : Shape → (ℕ → ℕ) → List ℕ → State → State
with_taken shape values pages state =
    record state {
      words = λ w.
          if state.stale (page_of shape w) && has pages (page_of shape w)
          then record { value = values w; mark = None }
          else state.words w;
      stale = λ p. state.stale p && not (has pages p);
    }

-- all stale pages have these values, and no page is stale
abbrev pub with_values : Shape → (ℕ → ℕ) → State → State
with_values shape values state =
    record state {
      words = λ w. if state.stale (page_of shape w) then record { value = values w; mark = None } else state.words w;
      stale = λ p. false;
    }
