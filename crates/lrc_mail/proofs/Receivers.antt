-- Whom the requests for pages are for.
use Rattle.std.proofs.Common.{ℕ, ◌<◌, [], map, arith}
use Rattle.std.specs.List.{All}
use Rattle.std.proofs.lemmas.List.Elements.{All-append, All-cons, All-map}
use Rattle.lrc_envelope.specs.declared.message.Message.TheVariants.{PageRequest}
use Rattle.lrc_protocol.specs.Pages.{Base, unneeded, due, come, Asked, Need}
use Rattle.lrc_protocol.specs.Node.{Letter}
use Rattle.lrc_protocol.specs.Turn.{letter, page_request_of, changes_request_of, requests_of}
use Rattle.lrc_need.specs.Need.{DueBelow}

page-request-below : (nodes page : ℕ) (base : Base) → DueBelow nodes base → All (λ (l : Letter). l.to < nodes) (page_request_of page base)
page-request-below nodes page unneeded h = λ k d lt. absurd (omega (arith, lt))
page-request-below nodes page (due keeper) h =
    All-cons (λ (l : Letter). l.to < nodes) (letter keeper (PageRequest page)) [] h (λ k d lt. absurd (omega (arith, lt)))
page-request-below nodes page (come values) h = λ k d lt. absurd (omega (arith, lt))

-- the requests for a page go to nodes
pub requests-below : (nodes : ℕ) (need : Need) → DueBelow nodes need.base → All (λ (a : Asked). a.maker < nodes) need.asked
    → All (λ (l : Letter). l.to < nodes) (requests_of need)
requests-below nodes need keeper makers =
    All-append (λ (l : Letter). l.to < nodes) (page_request_of need.page need.base) (map (changes_request_of need.page) need.asked)
    (page-request-below nodes need.page need.base keeper) (All-map (λ (l : Letter). l.to < nodes) (changes_request_of need.page) need.asked makers)
