-- The faults of a store, reads and writes apart.
use Rattle.std.specs.Prelude.{ℕ, refl}
use Rattle.std.specs.Coded.{Coded, code_by, coded×, coded_ℕ}

-- how many reads have failed, and how many writes
pub record FaultCounts : Type 0 where
  pub reads : ℕ
  pub writes : ℕ

abbrev pub fault_counts_code : Coded FaultCounts
fault_counts_code =
    code_by (ℕ × ℕ) (coded× coded_ℕ coded_ℕ) (λ f. (f.reads, f.writes)) (λ p. record { reads = p.0; writes = p.1 }) (λ _. refl)
