use Rattle.std.proofs.Common.{Some, ap, ◌∙◌, true, false, rules}
use Rattle.profile.specs.OpenSlots.{open_told}
use Rattle.profile.proofs.open_profile.OpenProfileProfile.slot.Goals as goal

pub returns-in-Some-true : goal.returns-in-Some-true
returns-in-Some-true c =
    ap Some c.free_rule.ensures ∙ open_told c.args.self.now.events c.args.i true (search rules) (search rules)

pub returns-in_default : goal.returns-in_default
returns-in_default c = open_told c.args.self.now.events c.args.i false (search rules) (search rules)
