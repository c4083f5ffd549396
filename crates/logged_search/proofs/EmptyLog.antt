-- A log that begins with a head and the lines of one empty box.
use Rattle.std.proofs.Common.{◌≡◌, ℕ, Bool, List, [], ◌∷◌, ◌++◌, flat_map, Option, None, Some, refl, sym, ap, ◌∙◌, subst, append_assoc, arith}
use Rattle.std.specs.Option.{option_map}
use Rattle.std.specs.List.{All}
use Rattle.stn_edge.specs.Files.{FileMap, cleared, file_of}
use Rattle.stn_edge.proofs.FileLemmas.{file_of-cleared}
use Rattle.row_relax.specs.declared.rows.Rows.{Rows}
use Rattle.row_kit.specs.Domain.{IsOpen}
use Rattle.proof_tree.specs.Items.{tree_items}
use Rattle.branch_tree.specs.declared.ended.Ended.{Ended}
use Rattle.log_lines.specs.declared.line.Line.TheVariants as line
use Rattle.log_lines.specs.Line.{line_text, number_text}
use Rattle.proof_log.specs.Log.{item_lines, lines_text}
use Rattle.proof_log.specs.Writer.{IsWhole}
use Rattle.proof_log.proofs.Writing.{Rest, Took-held, at}
use Rattle.plan_told.specs.Ended.{IsEmptyRoot, empty_end, empty_tree}
use Rattle.plan_told.proofs.EmptyRoots.{empty-writable}
use Rattle.logged_search.specs.Logging.{HasFewSplits, IsLogged}

-- the lines of one empty box
abbrev pub empty_lines : List ℕ
empty_lines = lines_text (flat_map item_lines (tree_items empty_tree))

lines_are : (line_text line.Node ++ 10 ∷ []) ++ (line_text line.Empty ++ 10 ∷ []) ≡ empty_lines
unfolding item_lines lines_text line_text number_text
lines_are = refl

-- two lines behind a head
pub empty-text : (head first both : List ℕ) → first ≡ head ++ (line_text line.Node ++ 10 ∷ []) → both ≡ first ++ (line_text line.Empty ++ 10 ∷ []) → both ≡ head ++ empty_lines
empty-text head first both one two =
    two ∙ ap (λ (text : List ℕ). text ++ (line_text line.Empty ++ 10 ∷ [])) one ∙ append_assoc head (line_text line.Node ++ 10 ∷ []) (line_text line.Empty ++ 10 ∷ [])
    ∙ ap (λ (text : List ℕ). head ++ text) lines_are

-- behind nothing a head is whole
whole_head : (head name own : List ℕ) (old files : Option FileMap) (rest : Rest) → own ≡ name → files ≡ option_map (cleared name) old → IsWhole (at own head files rest) head
whole_head head name own old files rest named is =
    subst (λ (told : Option FileMap). IsWhole (at own head told rest) head) (sym is) (by_files old)
  where
    by_files : (told : Option FileMap) → IsWhole (at own head (option_map (cleared name) told) rest) head
    by_files None = tt
    by_files (Some m) = ap (λ (n : List ℕ). file_of (cleared name m) n ++ head) named ∙ ap (λ (file : List ℕ). file ++ head) (file_of-cleared name m)

-- a writer that holds back a head and the lines of one empty box has taken both
pub empty-logged : (most : ℕ) (rows : Rows) (floors : Bool) (head name own text : List ℕ) (old files : Option FileMap) (rest : Rest) (ended : Ended) → (¬ All IsOpen rows.program.root) → HasFewSplits most rows.program → own ≡ name → text ≡ head ++ empty_lines → files ≡ option_map (cleared name) old → ended ≡ empty_end
    → IsLogged (IsEmptyRoot rows.program ended) most rows floors head name (at own text files rest)
empty-logged most rows floors head name own text old files rest ended bare splits named is cleared_is end = record {
  tree = empty_tree;
  is = record { bare = bare; ended_is = end; tree_is = refl };
  writable = empty-writable most rows floors (omega (arith, splits));
  named = named;
  first = at own head files rest;
  header = whole_head head name own old files rest named cleared_is;
  took = Took-held own head empty_lines text files rest is;
}
