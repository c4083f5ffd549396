-- The tree over slots: its split, the left parts, and the right ones.
use Rattle.std.proofs.Common.{◌≡◌, ◌≢◌, ◌∙◌, ℕ, suc, ◌+◌, ◌-◌, ◌^◌, ◌<◌, List, ◌++◌, Option, None, Some, sym, ap}
use Rattle.stn_edge.specs.Files.{FileMap, OthersStay}
use Rattle.row_relax.specs.RowProofs.{RowItem, RowTree}
use Rattle.log_lines.specs.declared.grammar.Limits.{Limits}
use Rattle.proof_log.specs.LogNames.{log_name}
use Rattle.proof_log.specs.declared.writer.LogWriter.{LogWriter}
use Rattle.log_parts.specs.laws.Copying.{name_of, split_items, items_over, HasItems, IsBegun, HasJoined, HasJoinBroken}
use Rattle.log_parts.proofs.PartsCopied.{powered, split_over, joined_as, broken_as, joined_then, broken_then, broken_first, found_any, opened, open_broken}

module _ (limits : Limits) (most : ℕ) (stem heads : List ℕ) (slot part : ℕ) (next : most - slot ≡ suc (most - (slot + 1))) where
  abbrev left : List RowTree → List RowItem
  left = items_over (slot + 1) (most - (slot + 1)) part

  abbrev right : List RowTree → List RowItem
  right = items_over (slot + 1) (most - (slot + 1)) (part + 2 ^ (most - (slot + 1)))

  abbrev both : List RowTree → List RowItem
  both trees = split_items slot ++ left trees

  abbrev whole : List RowTree → List RowItem
  whole = items_over slot (most - slot) part

  parts_are : (trees : List RowTree) → both trees ++ right trees ≡ whole trees
  parts_are trees = split_over slot (most - (slot + 1)) part trees ∙ ap (λ (n : ℕ). items_over slot n part trees) (sym next)

  -- the node of the split broke off
  pub open_unjoined : (old new : Option FileMap) (writer : LogWriter) → ((front : List ℕ) (items : List RowItem) → HasItems front writer old items → IsBegun front (name_of writer) new (items ++ split_items slot))
      → HasJoinBroken limits (2 ^ most) stem heads (items_over slot (most - slot) part) old writer new
  open_unjoined old new writer broke =
      broken_as limits (2 ^ most) stem heads (λ trees. both trees ++ right trees) whole old new writer parts_are
      (broken_first limits (2 ^ most) stem heads both right old new writer
      (broken_first limits (2 ^ most) stem heads (λ trees. split_items slot) left old new writer (open_broken limits (2 ^ most) stem heads (split_items slot) old new writer broke)))

  module _ (old mid : Option FileMap) (writer own : LogWriter) (apart : (p : ℕ) → p < 2 ^ most → name_of writer ≢ log_name stem p)
      (took : (front : List ℕ) (items : List RowItem) → HasItems front writer old items → HasItems front own mid (items ++ split_items slot)) (stay : OthersStay (name_of writer) old mid) (named : name_of own ≡ name_of writer) where
    opening : (D : Type 0) → HasJoined limits (2 ^ most) stem heads (λ trees. split_items slot) old writer mid own {D = D} None
    opening D = opened D limits (2 ^ most) stem heads (split_items slot) old mid writer own took

    left_joined : {D : Type 0} (new : Option FileMap) (later : LogWriter) (found : Option D) → HasJoined limits (2 ^ most) stem heads left mid own new later found → HasJoined limits (2 ^ most) stem heads both old writer new later found
    left_joined {D = D} new later found joined =
        joined_then D limits (2 ^ most) stem heads (name_of writer) (λ trees. split_items slot) left old mid new writer own later found (powered most) apart stay (opening D) joined

    -- a left part broke off
    pub left_unjoined : (D : Type 0) (new : Option FileMap) → HasJoinBroken limits (2 ^ most) stem heads (items_over (slot + 1) (most - (slot + 1)) part) mid own new
        → HasJoinBroken limits (2 ^ most) stem heads (items_over slot (most - slot) part) old writer new
    left_unjoined D new broken =
        broken_as limits (2 ^ most) stem heads (λ trees. both trees ++ right trees) whole old new writer parts_are
        (broken_first limits (2 ^ most) stem heads both right old new writer
        (broken_then D limits (2 ^ most) stem heads (name_of writer) (λ trees. split_items slot) left old mid new writer own (powered most) apart stay named (opening D) broken))

    -- a left part has a defect
    pub left_bad : {D : Type 0} (new : Option FileMap) (later : LogWriter) (bad : D) → HasJoined limits (2 ^ most) stem heads (items_over (slot + 1) (most - (slot + 1)) part) mid own new later (Some bad)
        → HasJoined limits (2 ^ most) stem heads (items_over slot (most - slot) part) old writer new later (Some bad)
    left_bad new later bad joined = found_any limits (2 ^ most) stem heads both whole old new writer later bad (left_joined new later (Some bad) joined)

    module _ (D : Type 0) (low : Option FileMap) (between : LogWriter) (joined : HasJoined limits (2 ^ most) stem heads (items_over (slot + 1) (most - (slot + 1)) part) mid own low between {D = D} None)
        (stay_left : OthersStay (name_of own) mid low) (first : ℕ) (right_is : first ≡ part + 2 ^ (most - (slot + 1))) where
      stays : OthersStay (name_of writer) old low
      stays = λ other other_apart. stay_left other (λ is. other_apart (is ∙ named)) ∙ stay other other_apart

      right_same : (trees : List RowTree) → items_over (slot + 1) (most - (slot + 1)) first trees ≡ right trees
      right_same trees = ap (λ (n : ℕ). items_over (slot + 1) (most - (slot + 1)) n trees) right_is

      -- the right parts were joined behind the left ones, or have a defect
      pub right_joined : {E : Type 0} (new : Option FileMap) (later : LogWriter) (found : Option E) → HasJoined limits (2 ^ most) stem heads (items_over (slot + 1) (most - (slot + 1)) first) low between new later found
          → HasJoined limits (2 ^ most) stem heads (items_over slot (most - slot) part) old writer new later found
      right_joined new later found last =
          joined_as limits (2 ^ most) stem heads (λ trees. both trees ++ right trees) whole old new writer later found parts_are
          (joined_then D limits (2 ^ most) stem heads (name_of writer) both right old low new writer between later found (powered most) apart stays (left_joined low between None joined)
          (joined_as limits (2 ^ most) stem heads (items_over (slot + 1) (most - (slot + 1)) first) right low new between later found right_same last))

      -- a right part broke off
      pub right_unjoined : (new : Option FileMap) → name_of between ≡ name_of own → HasJoinBroken limits (2 ^ most) stem heads (items_over (slot + 1) (most - (slot + 1)) first) low between new
          → HasJoinBroken limits (2 ^ most) stem heads (items_over slot (most - slot) part) old writer new
      right_unjoined new same broken =
          broken_as limits (2 ^ most) stem heads (λ trees. both trees ++ right trees) whole old new writer parts_are
          (broken_then D limits (2 ^ most) stem heads (name_of writer) both right old low new writer between (powered most) apart stays (same ∙ named) (left_joined low between None joined)
          (broken_as limits (2 ^ most) stem heads (items_over (slot + 1) (most - (slot + 1)) first) right low new between right_same broken))
