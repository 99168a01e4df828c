-- A test fails, so that the product is 0.
use Rattle.lrc_named_address_laws.proofs.Places.{out_of_range}
use Rattle.lrc_named_address_laws.proofs.laws.an_index_out_of_range_has_no_place.Goals as goal

pub returns : goal.returns
returns c = λ names here count item es vs has same beyond. out_of_range names here count item es vs has same beyond
