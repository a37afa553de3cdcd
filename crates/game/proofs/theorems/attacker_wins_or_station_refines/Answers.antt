use Rattle.game.proofs.Growing.{wins_or_refines}
use Rattle.game.proofs.theorems.attacker_wins_or_station_refines.Goals as goal

pub returns : goal.returns
returns c = λ kinds station manual start. wins_or_refines kinds station manual start
