use Rattle.lrc_chart_build.specs.Bands.{barriers}
use Rattle.lrc_chart_build.proofs.BandLemmas.{are_bands}
use Rattle.lrc_chart_build.proofs.laws.each_barrier_has_one_band.Goals as goal

pub returns : goal.returns
returns c = λ acts rows. are_bands (barriers acts rows)
