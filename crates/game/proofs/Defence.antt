-- Where a relation that the replying side can stay within holds, the attacker does not win; more rounds do no harm.
use Rattle.std.proofs.Common.{ℕ, zero, suc, ◌≤◌, List, Option, le_of_suc-le-suc, not-suc-le-zero}
use Rattle.profile.specs.declared.Kind.{Kind}
use Rattle.profile.specs.declared.Rule.{Rule}
use Rattle.game.specs.Game.{Position, outcome, Wins, Defends}

module _ (kinds : ℕ → Option Kind) (station manual : List (Option Rule)) where
  pub never_wins : (R : Position → Type 0) → Defends kinds station manual R → (k : ℕ) (pos : Position) → R pos → Wins kinds station manual k pos → ⊥
  never_wins R d zero pos h w = w
  never_wins R d (suc k) pos h w =
      let t = d pos h w.0 w.1 w.2 in
      never_wins R d k (outcome kinds w.0 w.1 t.0 pos) t.2 (w.3 t.0 t.1)

  pub wins_more : (k n : ℕ) (pos : Position) → k ≤ n → Wins kinds station manual k pos → Wins kinds station manual n pos
  wins_more zero n pos l w = absurd w
  wins_more (suc k) zero pos l w = absurd (not-suc-le-zero l)
  wins_more (suc k) (suc n) pos l w =
      (w.0, w.1, w.2, λ s q. wins_more k n (outcome kinds w.0 w.1 s pos) (le_of_suc-le-suc l) (w.3 s q))
