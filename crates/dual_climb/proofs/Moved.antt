-- A line with another factor of a row: the row's own is added, and the other taken away.
use Rattle.std.proofs.Common.{◌≡◌, ℕ, ◌<◌, ◌≤◌, ℤ, neg_ℤ, ◌+ℤ◌, ◌-ℤ◌, arith}
use Rattle.std.proofs.lemmas.List.Elements.{All-weaker}
use Rattle.row_kit.specs.declared.row.Entry.{Entry}
use Rattle.row_kit.specs.declared.row.Row.{Row}
use Rattle.row_kit.specs.Bounds.{IsBoundedRow}
use Rattle.std.proofs.lemmas.Int.{ints}

pub turned_back : (r w o x l a b : ℤ) → r ≡ neg_ℤ w → w ≡ o +ℤ b → o ≡ neg_ℤ x → x ≡ l +ℤ a → r ≡ (l +ℤ a) -ℤ b
turned_back r w o x l a b p q s t = omega (arith, ints)

-- a row of few slots is one of more slots
pub wide_row : (n m : ℕ) (row : Row) → n ≤ m → IsBoundedRow n row → IsBoundedRow m row
wide_row n m row h b = record {
  entries = record {
    named = All-weaker (λ (e : Entry). e.slot < n) (λ (e : Entry). e.slot < m) (λ e lt. omega arith) row.entries b.entries.named;
    ascending = b.entries.ascending;
    fixed_small = b.entries.fixed_small;
    per_small = b.entries.per_small;
  };
  limit = b.limit;
}
