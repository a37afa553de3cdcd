use Rattle.profile.specs.Meanings.{open_means}
use Rattle.profile.proofs.open_profile.OpenProfile.events.Goals as goal

pub returns-clause-meaning : goal.returns-clause-meaning
returns-clause-meaning c = open_means c.args.self.now.events
