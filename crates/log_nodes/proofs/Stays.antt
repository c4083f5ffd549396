-- What stays as it was while another file is written.
use Rattle.std.proofs.Common.{◌≡◌, ◌≢◌, inl, inr, ℕ, ◌+◌, List, [], ◌++◌, length, drop, Option, None, Some, IfSome, refl, ap, ◌∙◌, subst}
use Rattle.std.specs.Prelude.{unwrap_or}
use Rattle.std.specs.Option.{option_map}
use Rattle.std.specs.FinMap.{get}
use Rattle.stn_edge.specs.Files.{FileMap, file_of, cleared, MayClear, OthersStay}
use Rattle.stn_edge.proofs.FileLemmas.{get-cleared_other}
use Rattle.row_relax.specs.RowProofs.{RowItem}
use Rattle.log_lines.specs.declared.grammar.Limits.{Limits}
use Rattle.log_lines.specs.Reader.{IsAhead}
use Rattle.log_lines.specs.TextDefect.{log_text_defect}
use Rattle.proof_log.specs.declared.claim.Claim.{Claim}
use Rattle.proof_log.specs.declared.log_reader.LogReader.{LogReader}
use Rattle.proof_log.specs.Behind.{behind}
use Rattle.proof_log.specs.Log.{lines_text}
use Rattle.proof_log.specs.Text.{rest_defect}
use Rattle.proof_log.specs.LogReading.{HasRead}

-- the same file is there under another name's change
pub same_file : (name : List ℕ) (old new : Option FileMap) → option_map (λ (m : FileMap). get m name) new ≡ option_map (λ (m : FileMap). get m name) old → option_map (λ (m : FileMap). file_of m name) new ≡ option_map (λ (m : FileMap). file_of m name) old
same_file name None None same = refl
same_file name None (Some n) same = absurd cc
same_file name (Some m) None same = absurd cc
same_file name (Some m) (Some n) same =
    let here : get n name ≡ get m name = cc in ap (λ (found : Option (List ℕ)). Some (unwrap_or found [])) here

-- what is said of a file's bytes stays where the file does
stays_said : (P : List ℕ → Type 0) (name : List ℕ) (old new : Option FileMap) → option_map (λ (m : FileMap). file_of m name) new ≡ option_map (λ (m : FileMap). file_of m name) old → IfSome old (λ m. P (file_of m name)) → IfSome new (λ m. P (file_of m name))
stays_said P name None None same is = tt
stays_said P name None (Some n) same is = absurd cc
stays_said P name (Some m) None same is = absurd cc
stays_said P name (Some m) (Some n) same is =
    let here : file_of m name ≡ file_of n name = cc in subst P here is

-- what a reader has read of a file it has read where the file stays
pub read_stays : (version head : ℕ) (name : List ℕ) (limits : Limits) (items : List RowItem) (claim : Option Claim) (r : LogReader) (old new : Option FileMap)
    → option_map (λ (m : FileMap). file_of m name) new ≡ option_map (λ (m : FileMap). file_of m name) old → HasRead old name version head limits items claim r → HasRead new name version head limits items claim r
read_stays version head name limits items claim r old new same read = record {
  lines = read.lines;
  gathered = read.gathered;
  limited = read.limited;
  read = stays_said (λ (bytes : List ℕ). behind version head bytes ≡ lines_text read.lines ++ drop r.lines.place bytes) name old new same read.read;
  left = stays_said (λ (bytes : List ℕ). log_text_defect limits (behind version head bytes) ≡ rest_defect limits r.gatherer.grammar (1 + length read.lines) (drop r.lines.place bytes)) name old new same read.left;
  ahead = stays_said (λ (bytes : List ℕ). IsAhead bytes r.lines.place r.lines.ahead) name old new same read.ahead;
  going = read.going;
}

others_cleared : (name other : List ℕ) (files : Option FileMap) → other ≢ name → option_map (λ (m : FileMap). get m other) (option_map (cleared name) files) ≡ option_map (λ (m : FileMap). get m other) files
others_cleared name other None apart = refl
others_cleared name other (Some files) apart = ap Some (get-cleared_other name files other apart)

-- a file that may have been cleared leaves the others
pub clear_stays : (name : List ℕ) (old new : Option FileMap) → MayClear name old new → OthersStay name old new
clear_stays name old new (inl same) other apart = ap (option_map (λ (m : FileMap). get m other)) same
clear_stays name old new (inr is) other apart = ap (option_map (λ (m : FileMap). get m other)) is ∙ others_cleared name other old apart

-- a file that was cleared
pub cleared_stays : (name : List ℕ) (old new : Option FileMap) → new ≡ option_map (cleared name) old → OthersStay name old new
cleared_stays name old new is = clear_stays name old new (inr is)
