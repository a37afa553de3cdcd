use Rattle.text.proofs.Saying.{one_reading}
use Rattle.text.proofs.profiles.texts_have_one_reading.Goals as goal

pub returns : goal.returns
returns c = one_reading
