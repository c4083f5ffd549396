-- Two whole logs that were read side by side.
use Rattle.std.proofs.Common.{ℕ, ℤ, List, [], Option, None, Some}
use Rattle.std.specs.Prelude.{IfSome}
use Rattle.stn_edge.specs.Files.{FileMap, file_of}
use Rattle.proof_tree.specs.Items.{tree_items}
use Rattle.row_relax.specs.declared.rows.Rows.{Rows}
use Rattle.row_relax.specs.View.{view_of}
use Rattle.proof_log.specs.declared.log_reader.LogReader.{LogReader}
use Rattle.proof_log.specs.LogReading.{HasRead}
use Rattle.log_growth.specs.declared.counts.Growth.{Growth}
use Rattle.log_nodes.specs.declared.pair.Share.{Share}
use Rattle.log_nodes.specs.declared.front.Front.{Front}
use Rattle.log_growth.specs.Logs.{AreGrown}
use Rattle.log_nodes.specs.Reading.{EndsClean, ReadsOn}
use Rattle.log_growth.specs.laws.Grown.{HasGrown}

-- where both logs end behind what was read of their proofs, they are the texts of these proofs
pub are-grown : (told : Option FileMap) (name out : List ℕ) (most : ℕ) (rows : Rows) (profit : Option ℤ) (share : Option Share) (log front : Front) (growth : Growth) (r r2 s s2 : LogReader) → HasRead told name log.version log.head log.limits [] None r → HasRead told out front.version front.head front.limits [] None s
    → HasGrown most rows profit share 0 0 (view_of rows.program.root) (λ items. ReadsOn told name r items r2) (λ items. ReadsOn told out s items s2) growth → EndsClean told name r2 → EndsClean told out s2
    → IfSome told (λ m. AreGrown most rows profit share log front (file_of m name) (file_of m out) growth)
are-grown None name out most rows profit share log front growth r r2 s s2 begun begun_out has end end_out = tt
are-grown (Some m) name out most rows profit share log front growth r r2 s s2 begun begun_out has end end_out =
    let own = end log.version log.head log.limits (tree_items has.tree) (has.read log.version log.head log.limits [] begun) in
    let own_out = end_out front.version front.head front.limits (tree_items has.grown) (has.read_out front.version front.head front.limits [] begun_out) in
    record {
      tree = has.tree;
      grown = has.grown;
      text = record { version = own.0; claim = own.1.0; clean = own.1.1 };
      text_out = record { version = own_out.0; claim = own_out.1.0; clean = own_out.1.1 };
      is = has.is;
    }
