use Rattle.std.proofs.Common.{◌≡◌, List, ◌++◌, length, drop, replicate, ap, ◌∙◌, rules}
use Rattle.std.proofs.lemmas.List.{drop-replicate}
use Rattle.game.specs.declared.Member.{Member}
use Rattle.book.specs.Offers.{blank_member}
use Rattle.book.proofs.width.row_with.Goals as goal

pub returns : goal.returns
returns c =
    let ms = c.args.members.now in
    let held = c.as_slice-held.ensures.value in
    let copy = c.copy_from_slice.ensures.after ∙ held in
    let many = ap length held in
    let blank : c.default-places.result ≡ blank_member = search rules in
    let places = (λ i. copy i ++ drop (many i) (replicate 12 (blank i))) ∙ ap (λ (l : List Member). ms ++ l) (drop-replicate (length ms) 12 blank_member) in
    λ i. record { head = c.args.head; members = places i; count = many i; line = c.args.line }
