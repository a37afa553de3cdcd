use Rattle.std.proofs.Common.{◌∙◌, rules, tests}
use Rattle.std.proofs.lemmas.Iterator.{YieldsList-from_slice}
use Rattle.std.proofs.lemmas.Iterator.Search.{any_from_yields_List}
use Rattle.game.specs.declared.Row.{Row}
use Rattle.game.specs.Members.{row_of}
use Rattle.book.specs.Offers.{refutes}
use Rattle.book.proofs.Scanning.{any_said}
use Rattle.book.proofs.held.tell_refuted.Goals as goal

pub returns : goal.returns
returns c =
    let test = refutes c.args.start in
    any_from_yields_List (λ (r : Row). test (row_of r)) _ _ _ c.any.ensures.ran (YieldsList-from_slice c.args.rows.now cc) (λ x b q k. search (rules, tests))
    ∙ any_said test c.args.rows.now
