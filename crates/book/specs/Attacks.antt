-- The attack that an enter speaks of, as the code has it.
use Rattle.std.specs.Prelude.{ℕ, cond, ◌&&◌, Some, None, Ok, Err, Option, Result, nat_lt}
use Rattle.profile.specs.declared.Rule.{Rule}
use Rattle.book.specs.declared.Refusal.{Refusal}
use Rattle.book.specs.declared.Refusal.TheVariants.{NoSuchAttack, HeadNotCalledFor}
use Rattle.book.specs.declared.attack.Attack.{Attack}
use Rattle.book.specs.declared.reply.Side.{Side}
use Rattle.book.specs.declared.reply.Side.TheVariants.{Station, Manual}
use Rattle.book.specs.Offers.{Attempt, by_station_rule, by_manual_rule}
use Rattle.book.specs.Sides.{player}

abbrev pub attempted : Attack → Attempt
attempted a = record { side = player a.side; rule = a.rule; head = a.head }

abbrev pub seen : Result Attack Refusal → Result Attempt Refusal
seen (Ok a) = Ok (attempted a)
seen (Err why) = Err why

-- The attack, unless there is none, or a number is no byte and so the head is not called for.
abbrev pub taken_up : ℕ → ℕ → Option Attempt → Result Attempt Refusal
taken_up state symbol None = Err NoSuchAttack
taken_up state symbol (Some a) = cond (nat_lt state 256 && nat_lt symbol 256) (Ok a) (Err HeadNotCalledFor)

-- the attack by the rule of a slot of a side, at a state and a symbol of the other
abbrev pub by_rule : Side → Option Rule → ℕ → ℕ → Option Attempt
by_rule Station = by_station_rule
by_rule Manual = by_manual_rule
