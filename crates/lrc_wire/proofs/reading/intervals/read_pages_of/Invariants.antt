use Rattle.std.proofs.Common.{◌≡◌, ◌-◌, ℕ, Some, None}
use Rattle.lrc_page.specs.Pages.{last_page}
use Rattle.lrc_wire.specs.Reading.{elements_at, next_page_at}
use Rattle.lrc_wire.proofs.Elements.{with_front}
use Rattle.lrc_wire.proofs.reading.intervals.read_pages_of.Given as goal

abbrev pub invariant-loop : goal.invariant-loop
invariant-loop l = record {
  last : (page : ℕ) → last_page l.pages ≡ Some page → l.before ≡ Some page;
  read : with_front l.pages (elements_at (next_page_at l.version) (λ _ page. Some page) (l.count - l.counter) l.before l.bytes.now) ≡ elements_at
      (next_page_at l.version) (λ _ page. Some page) l.count None l.fn.bytes.now;
}
