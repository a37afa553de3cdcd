-- A row's members are those in front and the last, and a join replaces the last.
use Rattle.std.proofs.Common.{◌≡◌, true, false, ◌&&◌, List, [], ◌∷◌, ◌++◌, map, Some, None, Err, sym, ap, ◌∙◌}
use Rattle.std.proofs.lemmas.Bool.{cond-true, cond-false}
use Rattle.game.specs.declared.Pairs.{Pairs}
use Rattle.game.specs.declared.Member.{Member}
use Rattle.game.specs.Members.{AttackRow, top_of, below_top}
use Rattle.game.specs.Rows.{with_pairs, put_in}
use Rattle.game.specs.Computed.{is_top, pairless, joined_last, joined_members, joined}
use Rattle.game.proofs.Testing.{members_put}
use Rattle.book.specs.declared.Refusal.TheVariants.{RowsDoNotJoin}
use Rattle.book.specs.Widths.{fitted, fitted_join}

module _ (i j : AttackRow) (front : List Member) (last : Member) (are : i.members ≡ front ++ last ∷ []) where
  parts : joined i j ≡ joined_last i.head front last j
  parts = ap (λ (l : List Member). joined_members i.head l j) are ∙ members_put i.head front last j

  abbrev row : AttackRow
  row = record { head = i.head; members = put_in (map (with_pairs (below_top last.symbols)) j.members) front }

  pub join_made : (js : List Member) (pairs : Pairs) → js ≡ j.members → pairs ≡ below_top last.symbols → true ≡ (is_top j.head (top_of last) && pairless j.members) →
      fitted (put_in (map (with_pairs pairs) js) front) ≡ fitted_join (joined i j)
  join_made js pairs js-are pairs-are on =
      (λ k. fitted (put_in (map (with_pairs (pairs-are k)) (js-are k)) front)) ∙
      sym (ap fitted_join (parts ∙ cond-true (is_top j.head (top_of last) && pairless j.members) (Some row) None (sym on)))

  pub join_not : false ≡ (is_top j.head (top_of last) && pairless j.members) → Err RowsDoNotJoin ≡ fitted_join (joined i j)
  join_not off = sym (ap fitted_join (parts ∙ cond-false (is_top j.head (top_of last) && pairless j.members) (Some row) None (sym off)))
