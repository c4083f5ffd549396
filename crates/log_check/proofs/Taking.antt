-- The parts of a log that were read, and the check that has taken them.
use Rattle.std.proofs.Common.{◌≡◌, ◌≢◌, ℕ, List, [], ◌∷◌, ◌++◌, map, Option, Some, None, IfSome, refl, sym, subst, IsSome}
use Rattle.stn_edge.specs.Files.{FileMap, file_of}
use Rattle.proof_log.specs.Behind.{behind}
use Rattle.proof_tree.specs.declared.walk.Expected.TheVariants.{Node}
use Rattle.proof_tree.specs.Views.{present}
use Rattle.row_relax.specs.declared.rows.Rows.{Rows}
use Rattle.row_relax.specs.Choices.{choices_of, steps_of}
use Rattle.row_relax.specs.View.{Fits, view_of}
use Rattle.proof_log.specs.declared.claim.Claim.{Claim}
use Rattle.proof_log.specs.declared.log_reader.LogReader.{LogReader}
use Rattle.proof_log.specs.declared.log_reader.LogPart.{LogPart}
use Rattle.proof_log.specs.declared.log_reader.LogPart.TheVariants.{Item as ItemPart, Claim as ClaimPart, End as EndPart}
use Rattle.row_relax.specs.RowProofs.{RowItem}
use Rattle.proof_log.specs.Log.{line_after}
use Rattle.proof_log.specs.LogReading.{HasRead, IsPartAfter}
use Rattle.log_check.specs.declared.checker.Checker.{Checker}
use Rattle.log_check.specs.declared.course.Course.TheVariants.{Going}
use Rattle.valid_log.specs.declared.verdict.LogVerdict.{LogVerdict}
use Rattle.log_check.specs.Course.{StandsAt, IsReady, MayTake, IsEndVerdict}
use Rattle.valid_log.specs.Verdict.{IsVerdict, YesHolds, limits_of}
use Rattle.row_rooms.specs.Rooms.{IsRoomsOf}
use Rattle.log_check.proofs.Judging.{end_verdict, end_holds, not_going}
use Rattle.log_check.proofs.There.{may_take}

-- where a check of these rows stands after some items
abbrev pub Stood : Rows → List RowItem → Checker → Type 0
Stood rows items checker = StandsAt (steps_of rows) (choices_of rows) (view_of rows.program.root) items checker.course checker.walk (map view_of checker.area)

-- the items that were read are those that the check has taken, and the claim that was read begins after them
pub record HasTaken (rows : Rows) (depth : ℕ) (told : Option FileMap) (name : List ℕ) (version head : ℕ) (reader : LogReader) (checker : Checker) (began : ℕ) (claimed : Option Claim) : Type 0 where
  pub fits : Fits rows.program (present (map view_of checker.area))
  pub ready : IsReady (steps_of rows) checker.course checker.walk (map view_of checker.area)
  pub items : List RowItem
  pub read : HasRead told name version head (limits_of rows depth) items claimed reader
  pub stands : Stood rows items checker
  pub at : IfSome claimed (λ claim. began ≡ line_after items)
  pub rooms : IsRoomsOf (choices_of rows) checker.rooms
  pub ends : IsRoomsOf (choices_of rows) checker.ends

-- before the first part
pub begun : (rows : Rows) (depth : ℕ) (told : Option FileMap) (name : List ℕ) (version head : ℕ) (reader : LogReader) (checker : Checker) (began : ℕ)
    → HasRead told name version head (limits_of rows depth) [] None reader → Fits rows.program (present (map view_of checker.area)) → checker.area ≡ rows.program.root ∷ []
    → checker.course ≡ Going → checker.walk.first ≡ None → checker.walk.splits ≡ [] → checker.walk.expected ≡ Node → IsRoomsOf (choices_of rows) checker.rooms → IsRoomsOf (choices_of rows) checker.ends
    → HasTaken rows depth told name version head reader checker began None
begun rows depth told name version head reader checker began read fits area course first splits expected rooms ends = record {
  fits = fits;
  ready = rw course (rw first splits);
  items = [];
  read = read;
  stands = rw course (tt, rw expected (rw splits (rw area refl)));
  at = tt;
  rooms = rooms;
  ends = ends;
}

module _ {rows : Rows} {depth : ℕ} {told : Option FileMap} {name : List ℕ} {version head : ℕ} {reader : LogReader} {checker : Checker} {began : ℕ} {claimed : Option Claim}
    (taken : HasTaken rows depth told name version head reader checker began claimed) (later : LogReader) (part : LogPart)
    (is_part : IsPartAfter told name version head (limits_of rows depth) taken.items claimed later part) where
  -- the part that was read
  part_is : (own : LogPart) → part ≡ own → IsPartAfter told name version head (limits_of rows depth) taken.items claimed later own
  part_is own is = subst (IsPartAfter told name version head (limits_of rows depth) taken.items claimed later) is is_part

  -- an item that was read may be taken
  pub item_may : (line : ℕ) (item : RowItem) → part ≡ ItemPart line item → MayTake (steps_of rows) checker.course checker.walk (present (map view_of checker.area)) item
  item_may line item is =
      let own = part_is (ItemPart line item) is in
      may_take rows depth (view_of rows.program.root) taken.items item checker.course checker.walk (map view_of checker.area) taken.fits taken.stands own.2 own.3

  -- a check that takes an item that was read has taken all that was read
  pub item_taken : (line : ℕ) (item : RowItem) (new : Checker) → part ≡ ItemPart line item
      → Fits rows.program (present (map view_of new.area)) → IsReady (steps_of rows) new.course new.walk (map view_of new.area)
      → (line ≡ line_after taken.items → Stood rows taken.items checker → Stood rows (taken.items ++ item ∷ []) new)
      → IsRoomsOf (choices_of rows) new.rooms → IsRoomsOf (choices_of rows) new.ends
      → HasTaken rows depth told name version head later new began claimed
  item_taken line item new is fits ready stands rooms ends =
      let own = part_is (ItemPart line item) is in
      record {
        fits = fits;
        ready = ready;
        items = taken.items ++ item ∷ [];
        read = subst (λ c. HasRead told name version head (limits_of rows depth) (taken.items ++ item ∷ []) c later) (sym own.0) own.4;
        stands = stands own.1 taken.stands;
        at = subst (λ c. IfSome c (λ claim. began ≡ line_after (taken.items ++ item ∷ []))) (sym own.0) tt;
        rooms = rooms;
        ends = ends;
      }

  -- a claim that was read begins after the items
  pub claim_taken : (line : ℕ) (made : Claim) → part ≡ ClaimPart line made → HasTaken rows depth told name version head later checker line (Some made)
  claim_taken line made is =
      let own = part_is (ClaimPart line made) is in
      record { fits = taken.fits; ready = taken.ready; items = taken.items; read = own.3; stands = taken.stands; at = own.1; rooms = taken.rooms; ends = taken.ends }

  -- at the end a check does not go on, and a claim was read
  pub end_over : (last : ℕ) → part ≡ EndPart last → checker.course ≢ Going
  end_over last is = not_going rows taken.items checker.course checker.walk (map view_of checker.area) (part_is (EndPart last) is).0 taken.stands

  pub end_claimed : (last : ℕ) → part ≡ EndPart last → IsSome claimed
  end_claimed last is = subst IsSome (sym (part_is (EndPart last) is).1.1) refl

  module _ (last : ℕ) (is : part ≡ EndPart last) (verdict : LogVerdict) (answer : IfSome claimed (λ claim. IsEndVerdict (choices_of rows) checker.course began claim verdict)) where
    answer_on : (made : Claim) → claimed ≡ Some made → IsEndVerdict (choices_of rows) checker.course began made verdict
    answer_on made has = subst (λ c. IfSome c (λ claim. IsEndVerdict (choices_of rows) checker.course began claim verdict)) has answer

    -- the answer at the end is the verdict on the log behind the head
    pub taken_verdict : IfSome told (λ m. IsVerdict rows depth (behind version head (file_of m name)) verdict)
    taken_verdict =
        let own = part_is (EndPart last) is in
        let made = own.1.0 in
        end_verdict told name version head rows depth last taken.items made checker.course checker.walk (map view_of checker.area) began verdict own.0 own.1.2
        taken.stands (subst (λ c. IfSome c (λ claim. began ≡ line_after taken.items)) own.1.1 taken.at) (answer_on made own.1.1)

    pub taken_holds : YesHolds rows verdict
    taken_holds =
        let own = part_is (EndPart last) is in
        end_holds rows taken.items own.1.0 checker.course checker.walk (map view_of checker.area) began verdict taken.stands (answer_on own.1.0 own.1.1)
