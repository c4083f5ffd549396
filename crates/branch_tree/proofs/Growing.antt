-- Items that were taken one after another.
use Rattle.std.proofs.Common.{◌≡◌, List, [], ◌++◌, append_assoc, append-nil, sym, subst}
use Rattle.row_relax.specs.RowProofs.{RowItem}
use Rattle.branch_tree.specs.laws.Handed.{Grows}

module _ {T O : Type 0} (took after : T → O → List RowItem → T → O → Type 0) where
  -- first these items, then those
  pub Grows-more : (t : T) (o : O) (xs : List RowItem) (t2 : T) (o2 : O) (ys : List RowItem) (t3 : T) (o3 : O)
      → Grows took took t o xs t2 o2 → Grows took after t2 o2 ys t3 o3 → Grows took after t o (xs ++ ys) t3 o3
  Grows-more t o xs t2 o2 ys t3 o3 first second = λ t0 o0 zs had.
      subst (λ items. after t0 o0 items t3 o3) (append_assoc zs xs ys) (second t0 o0 (zs ++ xs) (first t0 o0 zs had))

  -- the same items
  pub Grows-same : (t : T) (o : O) (xs ys : List RowItem) (t2 : T) (o2 : O) → xs ≡ ys → Grows took after t o xs t2 o2 → Grows took after t o ys t2 o2
  Grows-same t o xs ys t2 o2 same grown = subst (λ items. Grows took after t o items t2 o2) same grown

-- no item
pub Grows-none : {T O : Type 0} (took : T → O → List RowItem → T → O → Type 0) (t : T) (o : O) → Grows took took t o [] t o
Grows-none took t o = λ t0 o0 zs had. subst (λ items. took t0 o0 items t o) (sym (append-nil zs)) had
