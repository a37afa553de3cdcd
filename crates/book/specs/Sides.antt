-- The sides of the code are the sides of the game.
use Rattle.std.specs.Prelude.{ℕ, zero, suc, ◌<◌, Bool, false, ◌&&◌, List, Some, None, Ok, Err, Option, Result, ◌==◌}
use Rattle.profile.specs.declared.Rule.{Rule}
use Rattle.game.specs.declared.Pair.{Pair}
use Rattle.game.specs.declared.Head.{Head}
use Rattle.game.specs.declared.Line.{Line}
use Rattle.game.specs.declared.Line.TheVariants.{Enter}
use Rattle.game.specs.Game.{Side as Player, by_station, by_manual}
use Rattle.book.specs.declared.Refusal.{Refusal}
use Rattle.book.specs.declared.Refusal.TheVariants.{NoSuchAttack}
use Rattle.book.specs.declared.reply.Side.{Side}
use Rattle.book.specs.declared.reply.Side.TheVariants.{Station, Manual}

abbrev pub player : Side → Player
player Station = by_station
player Manual = by_manual

-- the number by which an enter speaks of a side
abbrev pub side_number : Side → ℕ
side_number Station = 0
side_number Manual = 1

-- the side that a number speaks of
abbrev pub numbered_side : ℕ → Result Side Refusal
numbered_side zero = Ok Station
numbered_side (suc zero) = Ok Manual
numbered_side (suc (suc n)) = Err NoSuchAttack

-- an attacker's and a replier's number, the station's first
abbrev pub paired : Side → ℕ → ℕ → Pair
paired Station own other = record { station = own; manual = other }
paired Manual own other = record { station = other; manual = own }

-- the slots of a side
abbrev pub slots_of : List (Option Rule) → List (Option Rule) → Side → List (Option Rule)
slots_of station manual Station = station
slots_of station manual Manual = manual

-- whether a slot of a side has a rule for that side's state and symbol in a head
abbrev pub rule_at : Side → Option Rule → Head → Bool
rule_at side None h = false
rule_at Station (Some r) h = r.state == h.states.station && r.top == h.symbols.station
rule_at Manual (Some r) h = r.state == h.states.manual && r.top == h.symbols.manual

-- the enter from a slot of a side at a head
abbrev pub enter_at : Side → ℕ → Head → Line
enter_at Station slot h = Enter 0 slot h.states.manual h.symbols.manual
enter_at Manual slot h = Enter 1 slot h.states.station h.symbols.station

-- the other side's numbers in a head are bytes
abbrev pub InBytes : Side → Head → Type 0
InBytes Station h = (h.states.manual < 256) × (h.symbols.manual < 256)
InBytes Manual h = (h.states.station < 256) × (h.symbols.station < 256)
