use Rattle.text.proofs.Saying.{judged_by_grammar}
use Rattle.text.proofs.Standing.{fault_stands}
use Rattle.text.proofs.profiles.read_profile.Goals as goal

pub returns : goal.returns
returns c = record {
  value = c.read_into.ensures;
  grammar = judged_by_grammar c.args.text.now c.read_into.result c.args.profile.now c.read_into.new.profile c.read_into.ensures;
  place = fault_stands c.args.text.now c.read_into.result c.args.profile.now c.read_into.new.profile c.read_into.ensures;
}
