use Rattle.text.proofs.Parts.{word_is_part, left_is}
use Rattle.text.proofs.reader.Reader.next.Goals as goal

pub returns : goal.returns
returns c = record {
  value = c.advance.ensures.value;
  part = word_is_part c.args.due c.advance.result c.args.self.now c.advance.new.self c.advance.ensures.value;
  left = c.advance.ensures.left;
  goes_on = (left_is c.args.due c.advance.result c.args.self.now c.advance.new.self c.advance.ensures.value c.advance.ensures.left, c.advance.ensures.end);
}
