use Rattle.game.proofs.Counting.{what_fits}
use Rattle.game.proofs.theorems.rows_fit_by_width_and_number.Goals as goal

pub returns : goal.returns
returns c = what_fits
