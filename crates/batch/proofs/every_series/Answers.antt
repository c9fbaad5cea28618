-- `every_series` meets its contract: it is the theorem. Assumes nothing.
use Rattle.batch.proofs.EverySeries.{every_series, possible}
use Rattle.batch.proofs.every_series.Goals as goal

pub returns : goal.returns
returns c = record { always = every_series; possible = possible }
