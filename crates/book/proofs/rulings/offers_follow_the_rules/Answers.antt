use Rattle.book.proofs.Ruling.{follows}
use Rattle.book.proofs.rulings.offers_follow_the_rules.Goals as goal

pub returns : goal.returns
returns c = λ kinds station manual start free rows line answer. follows kinds station manual start rows free line answer
