use Rattle.std.proofs.Common.{◌≡◌, ◌≤◌, [], length, drop}
use Rattle.profile.specs.Kinds.{event_kind}
use Rattle.game.specs.Rows.{leads_to, answers, gathered}
use Rattle.book.specs.Sides.{player}
use Rattle.book.proofs.attack.Attack.replies.Given as goal

-- what the slots that are left make of the members is what all make of none
abbrev pub invariant-loop-i : goal.invariant-loop-i
invariant-loop-i g l =
    let test = answers (player l.self.side) l.self.rule l.self.head in
    let make = leads_to event_kind (player l.self.side) l.self.rule in
    let slots = g.P.Profile.rules l.replier in
    record { few : length l.members ≤ 12; whole : gathered test make (drop l.i slots) l.members ≡ gathered test make slots [] }
