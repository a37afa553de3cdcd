use Rattle.calls.proofs.Spelling.{judged_by_grammar, says_one}
use Rattle.calls.proofs.reading.read_calls.Goals as goal

pub returns : goal.returns
returns c = record {
  value = c.read_text.ensures;
  grammar = judged_by_grammar c.args.text.now c.read_text.result c.read_text.ensures;
  one = says_one c.args.text.now;
}
