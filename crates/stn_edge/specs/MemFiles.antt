-- What contracts see of a `MemShelf`, and what its calls leave.
use Rattle.std.specs.Prelude.{ℕ, Bool, ◌||◌, List, refl, is_some, is_none}
use Rattle.std.specs.Coded.{Coded, code_by, coded×, coded_ℕ, coded_list}
use Rattle.std.specs.FinMap.{code, empty, get}
use Rattle.stn_edge.specs.Calls.{CallPlan, call_plan_code, no_calls, due, after_call, count_after}
use Rattle.stn_edge.specs.Files.{FileMap}

-- the files, the counts of faults, and the calls
pub record MemFiles : Type 0 where
  pub files : FileMap
  pub read_faults : ℕ
  pub write_faults : ℕ
  pub calls : CallPlan

abbrev pub mem_files_code : Coded MemFiles
mem_files_code =
    code_by (FileMap × (ℕ × (ℕ × CallPlan)))
    (coded× (code (coded_list coded_ℕ) (coded_list coded_ℕ)) (coded× coded_ℕ (coded× coded_ℕ call_plan_code)))
    (λ m. (m.files, (m.read_faults, (m.write_faults, m.calls))))
    (λ p. record { files = p.0; read_faults = p.1.0; write_faults = p.1.1.0; calls = p.1.1.1 }) (λ _. refl)

-- a store without files, faults and calls
abbrev pub no_files : MemFiles
no_files = record { files = empty; read_faults = 0; write_faults = 0; calls = no_calls }

-- a read fails where its call is to fail, and where the file is not there
abbrev pub read_fails : MemFiles → List ℕ → Bool
read_fails shelf name = is_some (due shelf.calls) || is_none (get shelf.files name)

-- the store after a read of the file
abbrev pub after_read : MemFiles → List ℕ → MemFiles
after_read shelf name = record shelf {
  read_faults = count_after (read_fails shelf name) shelf.read_faults;
  calls = after_call shelf.calls;
}

-- the store after a call that writes, when it has left these files
abbrev pub after_write : MemFiles → FileMap → MemFiles
after_write shelf files = record shelf {
  files = files;
  write_faults = count_after (is_some (due shelf.calls)) shelf.write_faults;
  calls = after_call shelf.calls;
}
