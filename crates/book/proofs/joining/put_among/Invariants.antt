use Rattle.std.proofs.Common.{◌≡◌, ◌≤◌, length, map, drop}
use Rattle.game.specs.Rows.{with_pairs, put_in}
use Rattle.book.proofs.joining.put_among.Given as goal

-- what the members that are left make of those that are there is what all make of the front
abbrev pub invariant-loop-m : goal.invariant-loop-m
invariant-loop-m l =
    let left = drop l.m-index l.members in
    record { few : length l.among ≤ 12; whole : put_in (map (with_pairs l.pairs) left) l.among ≡ put_in (map (with_pairs l.pairs) l.members) l.front }
