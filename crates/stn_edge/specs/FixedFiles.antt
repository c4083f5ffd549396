-- What contracts see of a `FixedShelf`.
use Rattle.std.specs.Prelude.{ℕ, refl}
use Rattle.std.specs.Coded.{Coded, code_by, coded×, coded_ℕ, coded_list}
use Rattle.std.specs.FinMap.{code}
use Rattle.stn_edge.specs.Files.{FileMap}

-- the files, and the bytes that a read gives at most
pub record FixedFiles : Type 0 where
  pub files : FileMap
  pub most : ℕ

abbrev pub fixed_files_code : Coded FixedFiles
fixed_files_code =
    code_by (FileMap × ℕ) (coded× (code (coded_list coded_ℕ) (coded_list coded_ℕ)) coded_ℕ)
    (λ f. (f.files, f.most)) (λ p. record { files = p.0; most = p.1 }) (λ _. refl)
