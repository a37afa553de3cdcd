use Rattle.std.proofs.Common.{◌≡◌, sym, ap, ◌∙◌, rules}
use Rattle.std.proofs.lemmas.Slice.Eq.{slice_eq-Decides}
use Rattle.game.specs.Members.{AttackRow}
use Rattle.game.proofs.Row.same_row.Goals as goal

pub returns-then-eq : goal.returns-then-eq
returns-then-eq c =
    let d = slice_eq-Decides (λ a b. search rules) c.members.result.now c.members-then-eq.result.now c.eq-then-eq.result c.eq-then-eq.ensures in
    let heads : c.args.self.now.head ≡ c.args.other.now.head = search rules in
    let a = c.members.ensures in
    let b = c.members-then-eq.ensures in (
      (λ t. λ i. record { head = heads i; members = (sym a ∙ d.0 t ∙ b) i }),
      (λ e. d.1 (a ∙ ap (λ (x : AttackRow). x.members) e ∙ sym b)),
    )
