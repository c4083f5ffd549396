-- A text whose document is that of a plant means the plant.
use Rattle.std.proofs.Common.{◌≡◌, ℕ, ◌≤◌, nat_lt, false, List, ◌++◌, length, Some, Ok, refl, ap}
use Rattle.std.specs.Str.{IsUtf8}
use Rattle.std.proofs.lemmas.Str.{is_utf8-from_IsUtf8}
use Rattle.toml.specs.Parse.{parse_document, skip_bom}
use Rattle.stn_model.specs.declared.plant.Plant.{Plant}
use Rattle.stn_model.specs.Sound.{Sound}
use Rattle.plant_text.specs.Document.{document_of, top_of, is_third, max_bytes, plant_tests, plant_of}
use Rattle.plant_text.specs.Reading.{reading}
use Rattle.plant_make.specs.Entries.{table_of}
use Rattle.plant_make.specs.Printed.{plant_entries}
use Rattle.plant_make.specs.Meaning.{Means, Puts}
use Rattle.plant_make.proofs.Passing.{one_more}
use Rattle.plant_make.proofs.PlantReading.{document_ok, third_document, not_above}

text_means : (plant : Plant) (text : List ℕ) → Sound plant → document_of text ≡ Some (table_of (plant_entries plant)) → Means plant text
unfolding plant_tests plant_of
text_means plant text sound document =
    let read = document_ok plant sound in
    record {
      passes = rw document (one_more _ _ _ refl read.0);
      is = rw document read.1;
    }

text_reads : (plant : Plant) (text : List ℕ) → document_of text ≡ Some (table_of (plant_entries plant)) → Means plant text → length text ≤ max_bytes plant.large → reading text ≡ Ok plant
unfolding reading plant_tests
text_reads plant text document means short =
    let third : is_third (top_of text) ≡ plant.large = rw document (third_document plant) in
    let same : max_bytes (is_third (top_of text)) ≡ max_bytes plant.large = ap max_bytes third in
    let fits : nat_lt (max_bytes (is_third (top_of text))) (length text) ≡ false = rw same (not_above (max_bytes plant.large) (length text) short) in
    rw (one_more _ _ _ fits means.passes, means.is) refl

-- appending such a text puts the plant
pub text_puts : (plant : Plant) (text old new : List ℕ) → Sound plant → IsUtf8 text → parse_document text ≡ Some (table_of (plant_entries plant)) → skip_bom text ≡ text → new ≡ old ++ text → Puts plant old new
text_puts plant text old new sound utf8 parsed unmarked appended =
    let document : document_of text ≡ Some (table_of (plant_entries plant)) = rw (is_utf8-from_IsUtf8 text utf8) parsed in
    let means = text_means plant text sound document in
    record { text = text; appended = appended; document = document; means = means; unmarked = unmarked; reads = text_reads plant text document means }
