use Rattle.std.proofs.Common.{sym, ap, ◌∙◌}
use Rattle.std.specs.Ordering.{is_le}
use Rattle.ordered.proofs.Lexes.{lex_compared}
use Rattle.ordered.proofs.lex_at_most.Goals as goal

pub returns : goal.returns
returns c = c.is_le.ensures ∙ ap is_le c.cmp.ensures ∙ sym (lex_compared c.args.a.now c.args.b.now)
