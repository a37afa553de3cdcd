use Rattle.std.proofs.Common.{◌∙◌, rules, tests}
use Rattle.std.proofs.lemmas.Iterator.{YieldsList-from_slice}
use Rattle.std.proofs.lemmas.Iterator.Search.{any_from_yields_List}
use Rattle.std.proofs.lemmas.Bool.Decides.{same_from_decides}
use Rattle.game.specs.declared.Row.{Row}
use Rattle.game.specs.Members.{row_of}
use Rattle.book.specs.Offers.{row_eq}
use Rattle.book.proofs.Scanning.{any_said}
use Rattle.book.proofs.Equals.{row_eq_tells}
use Rattle.book.proofs.held.is_among.Goals as goal

pub returns : goal.returns
returns c =
    let test = row_eq (row_of c.args.row.now) in
    any_from_yields_List (λ (r : Row). test (row_of r)) _ _ _ c.any.ensures.ran (YieldsList-from_slice c.args.rows.now cc) (λ x b q k. (search (rules, tests), same_from_decides b _ (search (rules, tests)) (row_eq_tells (row_of c.args.row.now) (row_of x.now))))
    ∙ any_said test c.args.rows.now
