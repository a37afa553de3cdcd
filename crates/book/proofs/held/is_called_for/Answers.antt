use Rattle.std.proofs.Common.{Bool, ◌||◌, ap, ◌∙◌, rules, tests}
use Rattle.std.proofs.lemmas.Iterator.{YieldsList-from_slice}
use Rattle.std.proofs.lemmas.Iterator.Search.{any_from_yields_List}
use Rattle.game.specs.declared.Row.{Row}
use Rattle.game.specs.Members.{row_of}
use Rattle.game.specs.Computed.{any_of, tops_row}
use Rattle.book.specs.Offers.{said}
use Rattle.book.proofs.Scanning.{any_said}
use Rattle.book.proofs.held.is_called_for.Goals as goal

pub returns-else-eq : goal.returns-else-eq
returns-else-eq c =
    let test = tops_row c.args.head in
    any_from_yields_List (λ (r : Row). test (row_of r)) _ _ _ c.any.ensures.ran (YieldsList-from_slice c.args.rows.now cc) (λ x b q k. search (rules, tests))
    ∙ any_said test c.args.rows.now
    ∙ ap (λ (b : Bool). b || any_of test (said c.args.rows.now)) c.if-eq.ensures
